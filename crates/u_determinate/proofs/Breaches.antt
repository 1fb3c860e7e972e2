-- The first place that breaks a rule.
use Rattle.std.proofs.Common.{◌≡◌, ℕ, zero, suc, ◌+◌, ◌-◌, ◌<◌, ◌≤◌, inl, inr, refl, sym, ap, ◌∙◌, subst, arith, List, [], ◌∷◌, length, get_or, Some, below_more, lit≤, ◌↔◌}
use Rattle.std.specs.Prelude.{slice_get}
use Rattle.std.proofs.lemmas.Bool.{cases_order}
use Rattle.std.proofs.lemmas.Option.{slice_get_within}
use Rattle.u_program.specs.Parts.{BlockParts}
use Rattle.u_check.proofs.Blocks.{place_of_member, member_at}
use Rattle.u_check.proofs.First.{at_place}
use Rattle.u_determinate.specs.declared.rule.StrictRule.{StrictRule}
use Rattle.u_determinate.specs.declared.rule.StrictRule.TheVariants.{OneSource, OneEnd, OneApply, OneTest}
use Rattle.u_determinate.specs.declared.answer.Strictness.{Strictness}
use Rattle.u_determinate.specs.declared.answer.Strictness.TheVariants.{Strict, Loose}
use Rattle.u_determinate.specs.Strict.{IsStrict}
use Rattle.u_determinate.specs.Breaches.{number_of, Asks, Breaks, KeepsRule, IsFirstOfRule, IsFirst, IsFirstFailing, IsAnswer}

one_of : (p : List BlockParts) (i : ℕ) (x y : BlockParts) → slice_get p i ≡ Some x → slice_get p (i + 1 - 1) ≡ Some y → x ≡ y
one_of p i x y a b = let e = sym a ∙ sym (at_place p i) ∙ b in cc

module _ (p : List BlockParts) (rule : StrictRule) where
  -- a block that keeps the rule has no breach
  pub block_passes : (i : ℕ) (it : BlockParts) → slice_get p i ≡ Some it → ((at : ℕ) → Asks rule it at) → (at : ℕ) → Breaks p rule (i + 1) at → ⊥
  block_passes i it at keeps n w =
      w.broken (subst (λ (b : BlockParts). Asks rule b n) (one_of p i it w.it at w.stands) (keeps n))

  pub none_below : (b n : ℕ) → b < 0 + 1 → Breaks p rule b n → ⊥
  none_below b n h w = let k = w.counts in omega (arith, h, k)

  -- the blocks before a place keep the rule
  abbrev pub Kept : ℕ → Type 0
  Kept i = (j : ℕ) (it : BlockParts) → j < i → slice_get p j ≡ Some it → (at : ℕ) → Asks rule it at

  pub one_more : (i : ℕ) (it : BlockParts) → slice_get p i ≡ Some it → ((at : ℕ) → Asks rule it at) → Kept i → Kept (i + 1)
  one_more i it at keeps before j x h q n =
      below_more (λ (j : ℕ). (x : BlockParts) → slice_get p j ≡ Some x → (n : ℕ) → Asks rule x n) i (λ j l x q n. before j x l q n)
      (λ x q n. subst (λ (b : BlockParts). Asks rule b n) (let e = sym at ∙ q in cc) (keeps n)) j h x q n

  pub kept_all : (i : ℕ) → length p ≤ i → Kept i → KeepsRule p rule
  kept_all i l before b m n =
      let k = place_of_member p b m in
      let w = slice_get_within p k.0 b k.1 in
      before k.0 b (omega (arith, w, l)) k.1 n

  pub first_here : (i : ℕ) (it : BlockParts) (n : ℕ) → slice_get p i ≡ Some it → Kept i → IsFirstFailing (Asks rule it) (Some n) → IsFirstOfRule p rule (i + 1) n
  first_here i it n at before w = record {
    here = record { counts = omega arith; it = it; stands = at_place p i ∙ at; broken = w.0 };
    first = λ b m v e. elim e [
      | inl h ↦
          let c = v.counts in
          v.broken (before (b - 1) v.it (omega (arith, h, c)) v.stands m)
      | inr h ↦
          let s : slice_get p (i + 1 - 1) ≡ Some v.it = subst (λ (k : ℕ). slice_get p (k - 1) ≡ Some v.it) h.0 v.stands in
          v.broken (subst (λ (b : BlockParts). Asks rule b m) (one_of p i it v.it at s) (w.1 m h.1))
    ];
  }

  -- a rule that is kept has no breach
  pub kept_not_broken : KeepsRule p rule → (b n : ℕ) → Breaks p rule b n → ⊥
  kept_not_broken keeps b n w = w.broken (keeps w.it (member_at p (b - 1) w.it w.stands) n)

-- The rules in order.
abbrev pub in_order : List StrictRule
in_order = OneSource ∷ OneEnd ∷ OneApply ∷ OneTest ∷ []

abbrev pub place_of : StrictRule → ℕ
place_of r = number_of r - 1

place_at : (i : ℕ) (d : StrictRule) → i < 4 → place_of (get_or in_order i d) ≡ i
place_at zero d h = refl
place_at (suc zero) d h = refl
place_at (suc (suc zero)) d h = refl
place_at (suc (suc (suc zero))) d h = refl
place_at (suc (suc (suc (suc i)))) d h = absurd (omega arith)

rule_at : (r d : StrictRule) → get_or in_order (place_of r) d ≡ r
rule_at OneSource d = refl
rule_at OneEnd d = refl
rule_at OneApply d = refl
rule_at OneTest d = refl

numbered : (r : StrictRule) → (1 ≤ number_of r) × (number_of r ≤ 4)
numbered OneSource = (lit≤ tt, lit≤ tt)
numbered OneEnd = (lit≤ tt, lit≤ tt)
numbered OneApply = (lit≤ tt, lit≤ tt)
numbered OneTest = (lit≤ tt, lit≤ tt)

same_place : (r s : StrictRule) → place_of r ≡ place_of s → r ≡ s
same_place r s e = sym (rule_at r r) ∙ ap (λ (i : ℕ). get_or in_order i r) e ∙ rule_at s r

abbrev pub rule_in : ℕ → StrictRule
rule_in i = get_or in_order i OneSource

module _ (p : List BlockParts) where
  -- the rules before a place are kept
  abbrev pub KeptRules : ℕ → Type 0
  KeptRules i = (r : StrictRule) → place_of r < i → KeepsRule p r

  pub next_rule : (i : ℕ) → i < 4 → KeptRules i → KeepsRule p (rule_in i) → KeptRules (i + 1)
  next_rule i l before here r h =
      below_more (λ (k : ℕ). (q : StrictRule) → place_of q ≡ k → KeepsRule p q) i (λ k lt q eq. before q (omega arith))
      (λ q eq. subst (λ (r : StrictRule). KeepsRule p r) (same_place (rule_in i) q (place_at i OneSource l ∙ sym eq)) here) (place_of r) h r refl

  pub first_of_all : (i : ℕ) (rule : StrictRule) (block at : ℕ) → i < 4 → rule ≡ rule_in i → KeptRules i → IsFirstOfRule p rule block at → IsFirst p rule block at
  first_of_all i rule block at l is before w = record {
    here = w;
    first_rule = λ r b n v h.
        let e : number_of rule ≡ number_of (rule_in i) = ap number_of is in
        let k = numbered r in
        let m = numbered (rule_in i) in
        let q = place_at i OneSource l in
        kept_not_broken p r (before r (omega (arith, h, e, k.0, m.0, q))) b n v;
  }

  pub strict : KeptRules 4 → IsStrict p
  strict keeps b m = record {
    one_source = λ n s q o. each OneSource n s q o;
    one_end = λ i j s t q r e f. elim (cases_order i j) [
      | inl x ↦ x
      | inr y ↦ elim y [ inl l ↦ absurd (each OneEnd j t r f i s l q e) | inr l ↦ absurd (each OneEnd i s q e j t l r f) ]
    ];
    one_apply = λ n s q k. each OneApply n s q k;
    one_test = λ l f t. each OneTest l f t;
  }
    where
      each : (r : StrictRule) (at : ℕ) → Asks r b at
      each r at = keeps r (let n = numbered r in omega (arith, n.0, n.1)) b m at

  -- a strict program keeps each rule
  pub strict_keeps : IsStrict p → (r : StrictRule) → KeepsRule p r
  strict_keeps w OneSource b m = λ n s q o. (w b m).one_source n s q o
  strict_keeps w OneEnd b m = λ n s q k i t h r e. let x = (w b m).one_end i n t s r q e k in omega (arith, h, x)
  strict_keeps w OneApply b m = λ n s q k. (w b m).one_apply n s q k
  strict_keeps w OneTest b m = λ l f t. (w b m).one_test l f t

  pub answer_exact : (s : Strictness) → IsAnswer p s → (s ≡ Strict) ↔ IsStrict p
  answer_exact Strict w = (λ e. w, λ k. refl)
  answer_exact (Loose rule block at) w =
      (λ e. absurd (cc), λ k. absurd (kept_not_broken p rule (strict_keeps k rule) block at w.here.here))
