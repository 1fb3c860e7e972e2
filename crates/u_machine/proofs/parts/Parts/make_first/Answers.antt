use Rattle.std.proofs.Common.{subst, sym}
use Rattle.std.specs.Prelude.{Contains}
use Rattle.u_rule.specs.declared.entry.Entry.{Entry}
use Rattle.u_machine.proofs.Lists.{slice_get_Contains}
use Rattle.u_machine.proofs.Making.{makes_none}
use Rattle.u_machine.proofs.parts.Parts.make_first.Goals as goal

pub returns-in_err-token-clause-makes : goal.returns-in_err-token-clause-makes
returns-in_err-token-clause-makes c = makes_none c.args.self.now

pub make-requires-clause-late : goal.make-requires-clause-late
make-requires-clause-late c =
    subst (λ (e : Entry). Contains c.args.self.now.late e) (sym c.in_ok-token.ensures) (slice_get_Contains c.args.self.now.late 0 c.in-Some.first.now (sym c.in-Some.ensures))
