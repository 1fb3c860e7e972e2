-- Rounds: what is found in one is found in the next, and is in all that nothing more follows from.
use Rattle.std.proofs.Common.{ℕ, zero, suc, Bool, List, inl, inr}
use Rattle.u_program.specs.Parts.{StatementParts}
use Rattle.u_check.specs.Rules.{Arc}
use Rattle.u_determinate.specs.Guards.{Rounds, PassedOn, ArcOf, StatementOf}

-- what follows from more is more
abbrev pub IsMonotone : ((ℕ → Type 0) → ℕ → Type 0) → Type 1
IsMonotone F = (P Q : ℕ → Type 0) → ((n : ℕ) → P n → Q n) → (n : ℕ) → F P n → F Q n

module _ (F : (ℕ → Type 0) → ℕ → Type 0) (more : IsMonotone F) where
  pub rounds_next : (k n : ℕ) → Rounds F k n → Rounds F (suc k) n
  rounds_next zero n h = absurd h
  rounds_next (suc k) n h = more (Rounds F k) (Rounds F (suc k)) (rounds_next k) n h

  -- what nothing follows from that is not in it has all that is found
  pub rounds_within : (P : ℕ → Type 0) → ((n : ℕ) → F P n → P n) → (k n : ℕ) → Rounds F k n → P n
  rounds_within P closed zero n h = absurd h
  rounds_within P closed (suc k) n h = closed n (more (Rounds F k) P (rounds_within P closed k) n h)

pub passed_more : (ss : List StatementParts) (c : ℕ) → IsMonotone (PassedOn ss c)
passed_more ss c P Q sub n (inl e) = inl e
passed_more ss c P Q sub n (inr h) =
    inr (record { stands = h.stands; arc = h.arc; only = h.only; from = sub h.arc.statement h.from })

module _ (ss : List StatementParts) (c : ℕ) (value : Bool) where
  pub arc_more : (P Q : ℕ → Type 0) → ((n : ℕ) → P n → Q n) → (a : Arc) → ArcOf ss c value P a → ArcOf ss c value Q a
  arc_more P Q sub a (inl h) = inl (record { it = h.it; stands = h.stands; kind = h.kind; has = sub a.statement h.has })
  arc_more P Q sub a (inr (inl h)) = inr (inl h)
  arc_more P Q sub a (inr (inr h)) = inr (inr (record { leave = h.leave; has = λ n s. sub n (h.has n s) }))

  pub guards_more : IsMonotone (StatementOf ss c value)
  guards_more P Q sub n (inl h) = inl (record { it = h.it; stands = h.stands; takes = h.takes; port = h.port; exists = h.exists; all = λ a l. arc_more P Q sub a (h.all a l) })
  guards_more P Q sub n (inr h) = inr (record { back = h.back; all = λ m s. sub m (h.all m s) })
