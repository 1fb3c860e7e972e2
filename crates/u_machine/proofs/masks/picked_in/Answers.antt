use Rattle.std.proofs.Common.{◌≡◌, ◌<◌, ◌-◌, ◌%◌, arith, length, subst, ℕ, Some}
use Rattle.std.specs.Prelude.{slice_get}
use Rattle.std.proofs.lemmas.Nat.{mod_below}
use Rattle.u_machine.specs.Masks.{those_in}
use Rattle.u_machine.proofs.Lists.{nil_of_length}
use Rattle.u_machine.proofs.Masked.{picked_once, picked_again}
use Rattle.u_machine.proofs.masks.picked_in.Goals as goal

pub returns-in-Ok-clause-some : goal.returns-in-Ok-clause-some
returns-in-Ok-clause-some c = picked_once (those_in c.args.buckets c.args.ready.now) c.args.pick c.in-Ok.firing.now c.in-Ok.ensures.ok

pub returns-then-count-eq0-clause-none : goal.returns-then-count-eq0-clause-none
returns-then-count-eq0-clause-none c = nil_of_length (those_in c.args.buckets c.args.ready.now) (omega (arith, c.in-Err.ensures.err, c.if-count-eq0.true))

pub at_in-requires : goal.at_in-requires
at_in-requires c =
    let ys = those_in c.args.buckets c.args.ready.now in
    let n : c.args.pick - c.in-Err.left ≡ length ys = omega (arith, c.in-Err.ensures.err) in
    subst (λ (k : ℕ). c.in-Err.left % (c.args.pick - c.in-Err.left) < k) n (mod_below c.in-Err.left (c.args.pick - c.in-Err.left) (omega (arith, c.if-count-eq0.false)))

pub returns-clause-some : goal.returns-clause-some
returns-clause-some c =
    let ys = those_in c.args.buckets c.args.ready.now in
    let n : c.args.pick - c.in-Err.left ≡ length ys = omega (arith, c.in-Err.ensures.err) in
    picked_again ys c.args.pick c.in-Err.left c.at_in.result.now c.in-Err.ensures.err (subst (λ (k : ℕ). slice_get ys (c.in-Err.left % k) ≡ Some c.at_in.result.now) n c.at_in.ensures)
