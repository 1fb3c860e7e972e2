use Rattle.std.proofs.Common.{◌≡◌, ℕ, ◌+◌, ◌-◌, ◌<◌, ◌∙◌, length, subst, arith}
use Rattle.std.specs.Prelude.{◌↔◌}
use Rattle.u_rule.specs.Rule.{own_of}
use Rattle.u_rule.specs.declared.entry.Entry.{Entry}
use Rattle.u_trace.specs.Table.{place_in}
use Rattle.u_trace.specs.Marks.{IsMarked, IsWanted, Marks}
use Rattle.u_trace.proofs.Entries.{same_entries}
use Rattle.u_trace.proofs.MarkLaws.{Reached, lie_below, first_marks, marks_step, all_marks}
use Rattle.u_trace.proofs.marks.Applied.mark_story.Goals as goal

pub mark-requires : goal.mark-requires
mark-requires c x k e = let l = lie_below (own_of c.args.self.now.job.now) c.args.self.now.log.now (place_in c.args.self.now.givers.now) c.requires.givers x k e in let n = c.requires.count in omega (arith, l, n)

pub loop-left-init : goal.loop-left-init
loop-left-init c = record {
  low = omega arith;
  count = c.in_ok-mark.ensures.count ∙ c.requires.count;
  all = first_marks (own_of c.args.self.now.job.now) c.args.self.now.log.now c.requires.derivation (place_in c.args.self.now.givers.now) c.requires.givers same_entries c.args.entry.now c.args.marks.now c.mark.new.marks c.requires.none
      (subst (λ (x : Entry). Marks c.args.marks.now (IsWanted x (place_in c.args.self.now.givers.now) c.args.entry.now) c.mark.new.marks) c.requires.start c.in_ok-mark.ensures) (length c.args.self.now.log.now) (omega arith);
}

pub mark_behind-requires : goal.mark_behind-requires
mark_behind-requires c = record {
  start = c.requires.start;
  place = (let low = c.loop-left.invariant.low in let some = c.loop-left-test.true in omega (arith, low, some));
  count = c.loop-left.invariant.count;
  below = lie_below (own_of c.args.self.now.job.now) c.args.self.now.log.now (place_in c.args.self.now.givers.now) c.requires.givers;
  owners = c.requires.owners;
}

pub loop-left-preserved : goal.loop-left-preserved
loop-left-preserved c =
    let k = c.loop-left.left - 1 in
    let low = c.loop-left.invariant.low in
    let some = c.loop-left-test.true in
    let next : c.loop-left.left ≡ k + 1 = omega (arith, some) in
    let within : k < length c.args.self.now.log.now = omega (arith, low, some) in
    record {
      low = omega (arith, low);
      count = c.in_ok-mark_behind.ensures.count ∙ c.loop-left.invariant.count;
      all = marks_step (own_of c.args.self.now.job.now) c.args.self.now.log.now c.requires.derivation (place_in c.args.self.now.givers.now) c.requires.givers same_entries c.args.entry.now c.args.self.now.start.now c.requires.start c.loop-left.marks c.mark_behind.new.marks k within c.loop-left.invariant.count
          (subst (λ (n : ℕ). (j : ℕ) → IsMarked c.loop-left.marks j ↔ Reached (own_of c.args.self.now.job.now) c.args.self.now.log.now (place_in c.args.self.now.givers.now) c.args.entry.now n j) next c.loop-left.invariant.all) c.in_ok-mark_behind.ensures;
    }

pub returns : goal.returns
returns c =
    let none : c.loop-left.left ≡ 0 = (let l = c.loop-left-test.false in omega (arith, l)) in
    all_marks (own_of c.args.self.now.job.now) c.args.self.now.log.now c.requires.derivation (place_in c.args.self.now.givers.now) c.requires.givers same_entries c.args.entry.now c.loop-left.marks
    (subst (λ (n : ℕ). (j : ℕ) → IsMarked c.loop-left.marks j ↔ Reached (own_of c.args.self.now.job.now) c.args.self.now.log.now (place_in c.args.self.now.givers.now) c.args.entry.now n j) none c.loop-left.invariant.all)
