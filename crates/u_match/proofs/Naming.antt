-- Which tokens name a cell with what they meet.
use Rattle.std.proofs.Common.{◌≡◌, ◌⊎◌, inl, inr, ◌∙◌, refl, arith, ℕ, ◌<◌, [], ◌∷◌, Bool, true, false, Ok}
use Rattle.std.specs.Prelude.{ℤ, nat_lt}
use Rattle.std.proofs.lemmas.Bool.Decides.{nat_tests}
use Rattle.u_name.specs.Context.{IsBetween}
use Rattle.u_name.specs.Cell.{CellOf}
use Rattle.u_value.specs.Pointer.{Pointer}
use Rattle.u_value.specs.declared.value.Value.{Value}
use Rattle.u_value.specs.declared.value.Value.TheVariants as values
use Rattle.u_rule.specs.Parts.{TokenParts, most_ports}
use Rattle.u_rule.specs.Structures.{cell_named}
use Rattle.u_rule.specs.declared.entry.Entry.{Entry}
use Rattle.u_match.specs.Keys.{ReadTable, IsMet, Notes, NamesNone}
use Rattle.u_match.proofs.Answering.{port_cases}

-- a structure and an index name a cell, and nothing else does
ref_of : (v w : Value) (c : CellOf) → cell_named (v ∷ w ∷ []) ≡ Ok c → (p : Pointer) × (v ≡ values.Ref p)
ref_of (values.Ref p) w c e = (p, refl)
ref_of v w c e = cc

int_of : (v w : Value) (c : CellOf) → cell_named (v ∷ w ∷ []) ≡ Ok c → (z : ℤ) × (w ≡ values.Int z)
int_of (values.Ref p) (values.Int z) c e = (z, refl)
int_of v w c e = cc

-- what is no structure at the first port and no index at the second names none
pub names_none : (t : TokenParts) → IsBetween 1 t.port most_ports → ((p : Pointer) → t.value ≡ values.Ref p → t.port ≡ 1 → ⊥) → ((z : ℤ) → t.value ≡ values.Int z → t.port ≡ 2 → ⊥) → NamesNone t
names_none t b no_ref no_int v w c e first second = elim (port_cases t.port b.0) [
  | inl p ↦ (let (r, h) = ref_of v w c e in absurd (no_ref r (first p ∙ h) p))
  | inr (inl p) ↦ (let (z, h) = int_of v w c e in absurd (no_int z (second p ∙ h) p))
  | inr (inr p) ↦ p
]

-- and so there is nothing to note of it
pub notes_nothing : (H : Entry → Type 0) (t : TokenParts) (reads : ReadTable) → NamesNone t → (v w : Value) → IsMet H t 1 v → IsMet H t 2 w → (2 < t.port) ⊎ Notes t.activity v w reads
notes_nothing H t reads none v w m n = at (nat_lt 2 t.port) refl
  where
    own : (p : ℕ) (x : Value) → IsMet H t p x → t.port ≡ p → t.value ≡ x
    own p x (inl (q, f)) e = f
    own p x (inr (k, l)) e = absurd (k e)

    at : (b : Bool) → nat_lt 2 t.port ≡ b → (2 < t.port) ⊎ Notes t.activity v w reads
    at true e = inl (grind (arith, nat_tests))
    at false e =
        let apart : 2 < t.port → ⊥ = λ s. grind (arith, nat_tests) in
        inr (λ c named. absurd (apart (none v w c named (own 1 v m) (own 2 w n))))
