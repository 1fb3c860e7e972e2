-- What holds of a fault holds of what is returned for it.
use Rattle.std.proofs.Common.{◌≡◌, sym, subst, Ok, Err}
use Rattle.std.specs.Prelude.{Result}
use Rattle.std.specs.Result.{IsErrAnd}
use Rattle.u_share.specs.declared.fault.ShareFault.{ShareFault}

pub by_fault : {A : Type 0} (P : Result A ShareFault → Type 0) (x : ShareFault) (r : Result A ShareFault) → IsErrAnd r (λ e. e ≡ x) → P (Err x) → P r
by_fault P x (Ok a) h p = absurd h
by_fault P x (Err e) h p = subst (λ (y : ShareFault). P (Err y)) (sym h) p
