-- The places of the givers of entries.
use Rattle.std.specs.Prelude.{◌≡◌, ℕ, ◌⊎◌, List, Contains, Option, Some, None, IsTrue}
use Rattle.u_base.specs.Firing.{System}
use Rattle.u_trace.specs.Stories.{IsGiver}

-- each of the entries has got that place unless it had one, and nothing else has changed
pub record Notes {E : Type 0} (old : E → Option ℕ) (given : List E) (place : ℕ) (new : E → Option ℕ) : Type 0 where
  pub kept : (x : E) (k : ℕ) → old x ≡ Some k → new x ≡ Some k
  pub got : (x : E) (k : ℕ) → new x ≡ Some k → (old x ≡ Some k) ⊎ (Contains given x × (old x ≡ None) × (place ≡ k))
  pub all : (x : E) → Contains given x → new x ≡ None → ⊥

-- each entry that a firing of the list gives has the place of its giver, and no other entry has a place
pub record AreGivers {E F : Type 0} (s : System E F) (log : List F) (at : E → Option ℕ) : Type 0 where
  pub giver : (x : E) (k : ℕ) → at x ≡ Some k → IsGiver s log x k
  pub none : (x : E) → at x ≡ None → (f : F) → Contains log f → Contains (s.gives f) x → ⊥

-- all of these are firings of the system
abbrev pub AreFirings : {E F : Type 0} → System E F → List F → Type 0
AreFirings {E} {F} s fs = (f : F) → Contains fs f → IsTrue (s.is_firing f)
