use Rattle.std.proofs.Common.{List, take, sym, subst, arith}
use Rattle.std.proofs.lemmas.List.{take_all}
use Rattle.u_rule.specs.declared.entry.Entry.{Entry}
use Rattle.u_sets.specs.Members.{SomeOf}
use Rattle.u_base.proofs.Member.{Contains-nil}
use Rattle.u_trace.specs.Table.{place_in}
use Rattle.u_trace.specs.Marks.{IsWanted, Marks}
use Rattle.u_trace.proofs.Lists.{next_take}
use Rattle.u_trace.proofs.MarkLaws.{mark_none, marks_on}
use Rattle.u_trace.proofs.marks.mark_all.Goals as goal

pub mark-requires : goal.mark-requires
mark-requires c x k e = let l = c.requires x k e in let n = c.loop-entry.invariant.count in omega (arith, l, n)

pub loop-entry-init : goal.loop-entry-init
loop-entry-init c = mark_none c.args.marks.now (SomeOf (take 0 c.args.entries.now) (IsWanted c.args.start.now (place_in c.args.givers.now))) (λ k s. Contains-nil s.0 s.1)

pub loop-entry-preserved : goal.loop-entry-preserved
loop-entry-preserved c =
    subst (λ (xs : List Entry). Marks c.args.marks.now (SomeOf xs (IsWanted c.args.start.now (place_in c.args.givers.now))) c.mark.new.marks) (sym (next_take c.args.entries.now c.loop-entry.entry-index c.entry-item.result c.loop-entry-test.true c.entry-item.is))
    (marks_on (IsWanted c.args.start.now (place_in c.args.givers.now)) (take c.loop-entry.entry-index c.args.entries.now) c.entry-item.result c.args.marks.now c.loop-entry.marks c.mark.new.marks c.loop-entry.invariant c.in_ok-mark.ensures)

pub returns : goal.returns
returns c = subst (λ (xs : List Entry). Marks c.args.marks.now (SomeOf xs (IsWanted c.args.start.now (place_in c.args.givers.now))) c.loop-entry.marks) (take_all c.loop-entry.entry-index c.args.entries.now c.loop-entry-test.false) c.loop-entry.invariant
