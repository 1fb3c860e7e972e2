-- Both lists of a statement's destinations.
use Rattle.std.proofs.Common.{◌≡◌, ℕ, ap, Bool, ◌&&◌, ◌||◌, ◌==◌, List}
use Rattle.std.specs.List.{list_any, list_all}
use Rattle.std.proofs.lemmas.List.Folds.{list_any-append, list_all-append}
use Rattle.u_program.specs.declared.program.Destination.{Destination}
use Rattle.u_program.specs.Parts.{StatementParts, BlockParts}
use Rattle.u_check.specs.declared.rule.Rule.{Rule}
use Rattle.u_check.specs.Rules.{sends_to, itself_keeps, destination_keeps, statement_keeps}

pub sends_either : (s : StatementParts) (n port : ℕ) → sends_to s n port ≡ (list_any (λ (d : Destination). d.statement == n && d.port == port) s.to || list_any (λ (d : Destination). d.statement == n && d.port == port) s.otherwise)
unfolding sends_to
sends_either s n port = list_any-append (λ (d : Destination). d.statement == n && d.port == port) s.to s.otherwise

pub statement_in_parts : (rule : Rule) (p : List BlockParts) (b : BlockParts) (n : ℕ) (s : StatementParts) → statement_keeps rule p b n s ≡ (itself_keeps rule p b n s && (list_all (λ d. destination_keeps rule b s d) s.to && list_all (λ d. destination_keeps rule b s d) s.otherwise))
unfolding statement_keeps
statement_in_parts rule p b n s = ap (λ (r : Bool). itself_keeps rule p b n s && r) (list_all-append (λ (d : Destination). destination_keeps rule b s d) s.to s.otherwise)
