use Rattle.std.proofs.Common.{sym, Result, Ok, Err}
use Rattle.std.specs.Prelude.{IfOk}
use Rattle.u_determinate.proofs.Links.{behind_some}
use Rattle.u_determinate.proofs.incoming.behind.Goals as goal

carried : {X E : Type 0} (P Q : X → Type 0) → ((x : X) → P x → Q x) → (r : Result X E) → IfOk r P → IfOk r Q
carried P Q f (Ok x) h = f x h
carried P Q f (Err e) h = tt

pub returns-in-Some : goal.returns-in-Some
returns-in-Some c =
    carried _ _ (λ v h. behind_some c.args.statements.now c.args.number c.in-Some.statement.now (sym c.in-Some.ensures) v.items h) c.behind_statement.result c.behind_statement.ensures
