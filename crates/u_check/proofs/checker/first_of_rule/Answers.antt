use Rattle.std.proofs.Common.{ℕ, ◌+◌, arith, refl, below_more}
use Rattle.std.proofs.lemmas.Option.{slice_get_read}
use Rattle.u_check.specs.Rules.{Breaches}
use Rattle.u_check.proofs.First.{block_passes, all_pass, first_at_block, first_at_statement}
use Rattle.u_check.proofs.checker.first_of_rule.Goals as goal

pub returns-in-Some-clause-first : goal.returns-in-Some-clause-first
returns-in-Some-clause-first c =
    first_at_statement c.args.blocks.now c.args.rule c.loop-i.i c.index-blocks-i.result c.in-Some.statement (slice_get_read c.args.blocks.now _ c.loop-i.i c.index-blocks-i.result refl (omega arith) c.index-blocks-i.is) (cc) (cc) c.in-Some.ensures.breach c.in-Some.ensures.first c.loop-i.invariant

pub returns-then-not-block_keeps-clause-first : goal.returns-then-not-block_keeps-clause-first
returns-then-not-block_keeps-clause-first c =
    first_at_block c.args.blocks.now c.args.rule c.loop-i.i c.index-blocks-i.result (slice_get_read c.args.blocks.now _ c.loop-i.i c.index-blocks-i.result refl (omega arith) c.index-blocks-i.is) (cc) c.loop-i.invariant

pub loop-i-preserved : goal.loop-i-preserved
loop-i-preserved c = λ b s h w.
    below_more (λ (k : ℕ). (n : ℕ) → Breaches c.args.blocks.now c.args.rule k n → ⊥) (c.loop-i.i + 1) (λ k lt n v. c.loop-i.invariant k n lt v) (block_passes c.args.blocks.now c.args.rule c.loop-i.i c.index-blocks-i.result (slice_get_read c.args.blocks.now _ c.loop-i.i c.index-blocks-i.result refl (omega arith) c.index-blocks-i.is) (cc) (cc) c.in_default.ensures.none) b h s w

pub returns-clause-none : goal.returns-clause-none
returns-clause-none c = all_pass c.args.blocks.now c.args.rule c.loop-i.i (omega arith) c.loop-i.invariant
