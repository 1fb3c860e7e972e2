-- What is stored at a port and in a cell.
use Rattle.std.proofs.Common.{◌≡◌, ◌↔◌, ℕ, ◌==◌, List, [], ◌∷◌, Bool, true, false, IsTrue, length, refl, sym, subst, ◌∙◌, arith}
use Rattle.std.specs.Prelude.{Contains, not}
use Rattle.std.proofs.lemmas.Bool.{false≢true, eqb-true}
use Rattle.u_base.proofs.Member.{Contains-nil, Contains-head}
use Rattle.u_name.specs.Name.{Activity}
use Rattle.u_name.specs.Cell.{CellOf}
use Rattle.u_value.specs.declared.value.Value.{Value}
use Rattle.u_rule.specs.declared.parts.Written.{Written}
use Rattle.u_rule.specs.declared.entry.Entry.{Entry}
use Rattle.u_history.specs.Outcomes.{PairIn, ValueAt}
use Rattle.u_trace.specs.Waiting.{HasToken}
use Rattle.u_trace.specs.Deferred.{IsUnwritten}

-- a list is empty, or has a first member
some_or_none : {X : Type 0} (xs : List X) (b : Bool) → b ≡ (length xs == 0) → ((x : X) → Contains xs x → IsTrue b → ⊥) × ((IsTrue b → ⊥) → (x : X) × Contains xs x)
some_or_none [] b e = ((λ x m h. Contains-nil x m), λ n. absurd (n e))
some_or_none (x ∷ xs) b e = ((λ y m h. let q = eqb-true (length (x ∷ xs)) 0 (sym e ∙ h) in omega (arith, q)), λ n. (x, Contains-head x xs))

flipped : (b : Bool) → IsTrue (not b) ↔ (IsTrue b → ⊥)
flipped true = ((λ h. absurd (false≢true h)), λ n. absurd (n refl))
flipped false = ((λ h k. false≢true k), λ n. refl)

-- a token stands at a port exactly where the list of the values there is not empty
pub some_token : (H : Entry → Type 0) (n m : Activity) (k : ℕ) (xs : List Value) (b : Bool) → b ≡ (length xs == 0) → m ≡ n → ((v : Value) → Contains xs v ↔ ValueAt H m k v) → IsTrue (not b) ↔ HasToken H n k
some_token H n m k xs b e q those = ((λ h. to ((some_or_none xs b e).1 ((flipped b).0 h))), λ t. (flipped b).1 (λ h. (some_or_none xs b e).0 t.0 ((those t.0).1 (subst (λ (a : Activity). ValueAt H a k t.0) (sym q) t.1)) h))
  where
    to : (v : Value) × Contains xs v → HasToken H n k
    to s = (s.0, subst (λ (a : Activity). ValueAt H a k s.0) q ((those s.0).0 s.1))

-- a cell is unwritten exactly where the list of its writes is empty
pub written_or_not : (H : Entry → Type 0) (c : CellOf) (xs : List Written) (b : Bool) → b ≡ (length xs == 0) → ((w : Written) → Contains xs w ↔ PairIn H c w) → IsTrue b ↔ IsUnwritten H c
written_or_not H c xs b e those = ((λ h w m. (some_or_none xs b e).0 w ((those w).1 m) h), back b refl)
  where
    back : (d : Bool) → b ≡ d → IsUnwritten H c → IsTrue b
    back true q none = q
    back false q none = let s = (some_or_none xs b e).1 (λ h. false≢true (sym q ∙ h)) in absurd (none s.0 ((those s.0).0 s.1))
