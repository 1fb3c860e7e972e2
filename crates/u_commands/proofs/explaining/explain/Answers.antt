use Rattle.std.proofs.Common.{inl, inr}
use Rattle.u_commands.proofs.Known.{match_more}
use Rattle.u_commands.proofs.explaining.explain.Goals as goal

pub returns-in-Ok : goal.returns-in-Ok
returns-in-Ok c = match_more c.allowed.result _ _ _ _ (λ t a. inl (c.in-Ok.input, c.in-Ok.ensures, a)) (λ e m. m) c.allowed.ensures

pub returns-in-Err : goal.returns-in-Err
returns-in-Err c = match_more c.refused.result _ _ _ _ (λ t a. inr (c.in-Err.fault, c.in-Err.ensures, a)) (λ e m. m) c.refused.ensures
