use Rattle.std.proofs.Common.{◌<◌, reverse, length, sym, subst, arith}
use Rattle.u_sets.specs.Rising.{Rises}
use Rattle.u_sets.proofs.Fronted.{moved, one_fewer}
use Rattle.u_sets.proofs.Turned.{first_off}
use Rattle.u_sets.proofs.ordered_set.move_greatest.Goals as goal

pub returns-in-Ok-clause-same : goal.returns-in-Ok-clause-same
returns-in-Ok-clause-same g c =
    let front = c.args.front.now.items in
    let rest = c.remove-greatest.new.self.items in
    let some : 0 < length front = omega arith in
    let split = first_off front rest c.remove-greatest.result some c.remove-greatest.ensures.items c.remove-greatest.ensures.value in
    moved g.K.Ord.cmp g.met.K.Ord.total (reverse front) (reverse rest) c.args.others.now c.insert.new.self c.remove-greatest.result split c.requires.fronted.rises c.in-Ok.ensures.rises c.in-Ok.ensures.ok

pub returns-in-Ok-clause-fronted : goal.returns-in-Ok-clause-fronted
returns-in-Ok-clause-fronted g c =
    let front = c.args.front.now.items in
    let rest = c.remove-greatest.new.self.items in
    let some : 0 < length front = omega arith in
    let split = first_off front rest c.remove-greatest.result some c.remove-greatest.ensures.items c.remove-greatest.ensures.value in
    record {
      rises = subst (λ xs. Rises g.K.Ord.cmp xs) (sym (returns-in-Ok-clause-same g c)) c.requires.fronted.rises;
      few = let n = one_fewer (reverse front) (reverse rest) c.remove-greatest.result split c.requires.fronted.few in omega (arith, n);
    }
