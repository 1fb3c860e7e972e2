-- The first place that breaks a rule.
use Rattle.std.proofs.Common.{◌≡◌, ℕ, ◌+◌, ◌-◌, ◌<◌, ◌≤◌, inl, inr, refl, sym, ap, ◌∙◌, subst, arith, true, false, List, length, Some}
use Rattle.std.specs.Prelude.{slice_get}
use Rattle.std.proofs.lemmas.Bool.{false≢true}
use Rattle.std.proofs.lemmas.Option.{slice_get_within}
use Rattle.u_program.specs.Parts.{StatementParts, BlockParts}
use Rattle.u_check.specs.declared.rule.Rule.{Rule}
use Rattle.u_check.proofs.Arcs.{numbered, has_number, breaks_somewhere, breaks_nowhere}
use Rattle.u_check.specs.Rules.{program_keeps, block_keeps, statement_keeps, StatementBreaks, Breaches, IsFirstOfRule}

-- the place of number i + 1
pub at_place : {X : Type 0} (xs : List X) (i : ℕ) → slice_get xs (i + 1 - 1) ≡ slice_get xs i
at_place xs i = let e : i + 1 - 1 ≡ i = omega arith in ap (slice_get xs) e

one_of : {X : Type 0} (xs : List X) (i : ℕ) (x y : X) → slice_get xs i ≡ Some x → slice_get xs (i + 1 - 1) ≡ Some y → x ≡ y
one_of xs i x y a b = let e = sym a ∙ sym (at_place xs i) ∙ b in cc

module _ (p : List BlockParts) (rule : Rule) where
  module _ (b : BlockParts) where
    pub none_below : (m : ℕ) → m < 1 → StatementBreaks p rule b m → ⊥
    none_below m h w = let k = has_number b.statements m w.it w.stands in omega (arith, k.0)

    pub statement_passes : (i : ℕ) (s : StatementParts) → slice_get b.statements i ≡ Some s → statement_keeps rule p b (i + 1) s ≡ true → StatementBreaks p rule b (i + 1) → ⊥
    statement_passes i s at k w =
        let e : s ≡ w.it = (let q = sym at ∙ sym (numbered b.statements i) ∙ w.stands in cc) in
        breaks_nowhere rule p b (i + 1) w.it w.stands (sym (ap (λ (t : StatementParts). statement_keeps rule p b (i + 1) t) e) ∙ k) w.broken

    pub statement_breaks : (i : ℕ) (s : StatementParts) → slice_get b.statements i ≡ Some s → statement_keeps rule p b (i + 1) s ≡ false → StatementBreaks p rule b (i + 1)
    statement_breaks i s at k =
        let there = numbered b.statements i ∙ at in
        record { it = s; stands = there; broken = breaks_somewhere rule p b (i + 1) s there k }

    pub none_at_all : (i : ℕ) → length b.statements ≤ i → ((m : ℕ) → m < i + 1 → StatementBreaks p rule b m → ⊥) → (m : ℕ) → StatementBreaks p rule b m → ⊥
    none_at_all i k before m w =
        let n = has_number b.statements m w.it w.stands in
        let l = slice_get_within b.statements (m - 1) w.it n.1 in
        before m (omega (arith, n.0)) w

  -- a program that keeps the rule as a whole has no breach at place 0
  pub no_block_below : program_keeps rule p ≡ true → (b s : ℕ) → b < 1 → Breaches p rule b s → ⊥
  no_block_below k b s h (inl w) = false≢true (sym w.broken ∙ k)
  no_block_below k b s h (inr (inl w)) = omega (arith, w.counts)
  no_block_below k b s h (inr (inr w)) = omega (arith, w.counts)

  pub block_passes : (i : ℕ) (it : BlockParts) → slice_get p i ≡ Some it → program_keeps rule p ≡ true → block_keeps rule p (i + 1) it ≡ true → ((m : ℕ) → StatementBreaks p rule it m → ⊥) → (s : ℕ) → Breaches p rule (i + 1) s → ⊥
  block_passes i it at k bk all s (inl w) = false≢true (sym w.broken ∙ k)
  block_passes i it at k bk all s (inr (inl w)) =
      let e = one_of p i it w.it at w.stands in
      false≢true (sym w.broken ∙ ap (λ (t : BlockParts). block_keeps rule p (i + 1) t) (sym e) ∙ bk)
  block_passes i it at k bk all s (inr (inr w)) =
      let e = one_of p i it w.it at w.stands in
      all s (subst (λ (t : BlockParts). StatementBreaks p rule t s) (sym e) w.breach)

  pub all_pass : (i : ℕ) → length p ≤ i → ((b s : ℕ) → b < i + 1 → Breaches p rule b s → ⊥) → (b s : ℕ) → Breaches p rule b s → ⊥
  all_pass i l before b s (inl w) = before b s (omega (arith, w.no_block)) (inl w)
  all_pass i l before b s (inr (inl w)) =
      let h = slice_get_within p (b - 1) w.it w.stands in
      before b s (omega (arith, w.counts)) (inr (inl w))
  all_pass i l before b s (inr (inr w)) =
      let h = slice_get_within p (b - 1) w.it w.stands in
      before b s (omega (arith, w.counts)) (inr (inr w))

  pub first_at_program : program_keeps rule p ≡ false → IsFirstOfRule p rule 0 0
  first_at_program k = record {
    breach = inl (record { broken = k; no_block = refl; no_statement = refl });
    first = λ b s w e. elim e [ inl h ↦ omega arith | inr h ↦ omega (arith, h.1) ];
  }

  pub first_at_block : (i : ℕ) (it : BlockParts) → slice_get p i ≡ Some it → block_keeps rule p (i + 1) it ≡ false → ((b s : ℕ) → b < i + 1 → Breaches p rule b s → ⊥) → IsFirstOfRule p rule (i + 1) 0
  first_at_block i it at k before = record {
    breach = inr (inl (record { counts = omega arith; it = it; stands = at_place p i ∙ at; broken = k; no_statement = refl }));
    first = λ b s w e. elim e [ inl h ↦ before b s h w | inr h ↦ omega (arith, h.1) ];
  }

  pub first_at_statement : (i : ℕ) (it : BlockParts) (n : ℕ) → slice_get p i ≡ Some it → program_keeps rule p ≡ true → block_keeps rule p (i + 1) it ≡ true → StatementBreaks p rule it n → ((m : ℕ) → m < n → StatementBreaks p rule it m → ⊥) → ((b s : ℕ) → b < i + 1 → Breaches p rule b s → ⊥) → IsFirstOfRule p rule (i + 1) n
  first_at_statement i it n at k bk w earlier before = record {
    breach = inr (inr (record { counts = omega arith; it = it; stands = at_place p i ∙ at; breach = w }));
    first = λ b s v e. elim e [ inl h ↦ before b s h v | inr h ↦ here b s h.0 h.1 v ];
  }
    where
      here : (b s : ℕ) → b ≡ i + 1 → s < n → Breaches p rule b s → ⊥
      here b s e lt (inl v) = false≢true (sym v.broken ∙ k)
      here b s e lt (inr (inl v)) =
          let q = one_of p i it v.it at (subst (λ (m : ℕ). slice_get p (m - 1) ≡ Some v.it) e v.stands) in
          false≢true (sym v.broken ∙ ap (λ (m : ℕ). block_keeps rule p m v.it) e ∙ ap (λ (t : BlockParts). block_keeps rule p (i + 1) t) (sym q) ∙ bk)
      here b s e lt (inr (inr v)) =
          let q = one_of p i it v.it at (subst (λ (m : ℕ). slice_get p (m - 1) ≡ Some v.it) e v.stands) in
          earlier s lt (subst (λ (t : BlockParts). StatementBreaks p rule t s) (sym q) v.breach)
