use Rattle.std.proofs.Common.{subst, OnOk}
use Rattle.std.specs.Prelude.{Contains}
use Rattle.u_rule.specs.Parts.{TokenParts}
use Rattle.u_rule.specs.declared.entry.Entry.TheVariants as entries
use Rattle.u_machine.proofs.parts.Parts.put_token_made.Goals as goal

pub returns-clause-has : goal.returns-clause-has
returns-clause-has c = subst (λ (t : TokenParts). OnOk c.put_made.result (Contains c.put_made.new.self.matcher (entries.Token t))) c.in_ok-made.ensures c.put_made.ensures.has
