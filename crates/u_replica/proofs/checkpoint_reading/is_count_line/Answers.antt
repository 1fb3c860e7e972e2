use Rattle.std.proofs.Common.{◌∙◌, ap, arith, eq-eqb}
use Rattle.std.proofs.lemmas.Bool.{eqb-true}
use Rattle.u_replica.specs.CheckpointText.{count_line}
use Rattle.u_replica.proofs.CountLaws.{counts, counts_other, counts_none}
use Rattle.u_replica.proofs.checkpoint_reading.is_count_line.Goals as goal

pub returns-in-Ok-long_word : goal.returns-in-Ok-long_word
returns-in-Ok-long_word c = (
  λ h. counts c.args.line.now c.in-Ok.digits.now c.in-Ok-long_word.number c.in-Ok.ensures c.in-Ok-long_word.ensures ∙ ap count_line (eqb-true c.in-Ok-long_word.number c.args.count h),
  λ e. eq-eqb c.in-Ok-long_word.number c.args.count (counts_other c.args.line.now c.in-Ok.digits.now c.in-Ok-long_word.number c.args.count (omega arith) c.in-Ok.ensures c.in-Ok-long_word.ensures e),
)

pub returns-in-Err-long_word : goal.returns-in-Err-long_word
returns-in-Err-long_word c = (λ h. cc, λ e. absurd (counts_none c.args.line.now c.in-Ok.digits.now c.args.count (omega arith) c.in-Ok.ensures c.in-Err-long_word.ensures e))
