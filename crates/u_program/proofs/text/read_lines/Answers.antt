use Rattle.std.proofs.Common.{◌∷◌, [], List, ℕ, subst}
use Rattle.u_program.specs.Limits.{no_limits}
use Rattle.u_program.specs.Begun.{IsRead}
use Rattle.u_program.proofs.Whole.{read_none, read_more, truncated_nothing, bad_line, begins_nothing, not_header}
use Rattle.u_program.proofs.text.read_lines.Goals as goal

pub returns-in_default : goal.returns-in_default
returns-in_default c = truncated_nothing c.args.bytes.now c.in_default.ensures.cut

pub returns-in_default-version_of : goal.returns-in_default-version_of
returns-in_default-version_of c =
    bad_line c.args.bytes.now c.args.bytes.now c.in-Some.first.now c.in-Some.rest.now [] (read_none c.args.bytes.now) c.in-Some.ensures.cut begins_nothing
    (not_header no_limits c.in-Some.first.now (λ v e. c.in_default-version_of.ensures v e))

pub read_blocks-requires-clause-first : goal.read_blocks-requires-clause-first
read_blocks-requires-clause-first c =
    let r = read_more c.args.bytes.now c.args.bytes.now c.in-Some.first.now c.in-Some.rest.now [] (read_none c.args.bytes.now) c.in-Some.ensures.cut in
    subst (λ (l : List ℕ). IsRead c.args.bytes.now (l ∷ []) c.in-Some.rest.now) c.in-Some-version_of.ensures r
