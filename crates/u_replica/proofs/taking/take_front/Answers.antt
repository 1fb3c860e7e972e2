use Rattle.std.proofs.Common.{◌≡◌, ◌+◌, ◌-◌, ◌++◌, length, subst, arith, ℕ}
use Rattle.u_replica.specs.Takings.{TookFront}
use Rattle.u_replica.proofs.Takings.{piece_taken, piece_refused}
use Rattle.u_replica.proofs.taking.take_front.Goals as goal

pub loop-count-init : goal.loop-count-init
loop-count-init g c = (
  λ base before t.
      let e : length before ≡ length before + 0 = omega arith in
      subst (λ (k : ℕ). TookFront base (before ++ c.args.firings.now) k c.args.machine.now) e t,
  omega arith,
)

pub returns-in-Err-clause-front : goal.returns-in-Err-clause-front
returns-in-Err-clause-front g c = λ base before t.
    piece_refused base c.loop-count.machine c.take_all.new.self before c.args.firings.now c.loop-count.count (c.loop-count.invariant.0 base before t) (c.loop-count.count + 1000 - c.loop-count.count) c.in-Err.field-0 c.in-Err.ensures

pub loop-count-preserved : goal.loop-count-preserved
loop-count-preserved g c = (
  λ base before t.
      piece_taken base c.loop-count.machine c.take_all.new.self before c.args.firings.now c.loop-count.count (c.loop-count.invariant.0 base before t) 1000 (c.loop-count.count + 1000 - c.loop-count.count) (omega arith) (omega (arith, c.loop-count-test.true)) c.in_default.field-0 c.in_default.ensures,
  omega (arith, c.loop-count-test.true),
)
