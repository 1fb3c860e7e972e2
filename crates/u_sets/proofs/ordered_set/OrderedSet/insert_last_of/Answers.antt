use Rattle.std.proofs.Common.{◌≡◌, ◌∷◌, ◌++◌, [], reverse, arith}
use Rattle.u_sets.specs.Fronted.{IsFronted}
use Rattle.u_sets.specs.Members.{IsWith}
use Rattle.u_sets.proofs.Turned.{only_item, goes_before, with_first}
use Rattle.u_sets.proofs.ordered_set.OrderedSet.insert_last_of.Goals as goal

pub invariant_of-self-then-goes_first : goal.invariant_of-self-then-goes_first
invariant_of-self-then-goes_first g c =
    rw (goes_before c.self.inside.front.items c.append.new.self.items c.args.list.now.items c.self.inside.others c.index.result.now (omega (arith, c.len.ensures, c.if-len-eq1.true)) c.index.ensures c.in_ok-append.ensures.items)
    (rw c.deref.ensures.value at (c.goes_first.ensures c.if-goes_first.true))

pub returns-then-goes_first-clause-ok : goal.returns-then-goes_first-clause-ok
returns-then-goes_first-clause-ok g c =
    let x = c.index.result.now in
    let n = goes_before c.self.inside.front.items c.append.new.self.items c.args.list.now.items c.self.inside.others x (omega (arith, c.len.ensures, c.if-len-eq1.true)) c.index.ensures c.in_ok-append.ensures.items in
    record {
      last = x;
      was = rw c.in_ok-append.ensures.other_items (only_item c.args.list.now.items x (omega (arith, c.len.ensures, c.if-len-eq1.true)) c.index.ensures);
      with = rw (← c.self.view_is, n) (with_first (reverse c.self.inside.front.items ++ c.self.inside.others) x);
    }
