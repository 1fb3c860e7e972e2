-- Pairs of links, each with those before it.
use Rattle.std.proofs.Common.{◌≡◌, ℕ, ◌+◌, ◌<◌, ◌≤◌, ap, sym, ◌∙◌, arith, subst, Bool, true, false, not, List, length, get_or, take, inl, inr, ◌⊎◌}
use Rattle.std.specs.Prelude.{Contains}
use Rattle.std.proofs.lemmas.Bool.{cases_order}
use Rattle.std.proofs.lemmas.List.{get_or_default, get_or-take, length-take}
use Rattle.u_program.specs.Parts.{StatementParts}
use Rattle.u_check.specs.Rules.{Arc}
use Rattle.u_determinate.specs.Guards.{ArcHasGuard}
use Rattle.u_determinate.specs.Determinate.{ArcsExclude, MayMeet}
use Rattle.u_determinate.specs.declared.incoming.Link.{Link}
use Rattle.u_determinate.proofs.Links.{split}

-- M of each of the first n links and each one before it
abbrev pub PairsBefore : (Link → Link → Type 0) → ℕ → List Link → Type 0
PairsBefore M n links =
    (j k : Link) (b a : ℕ) → b < n → a < b → b < length links → get_or links b j ≡ j → get_or links a k ≡ k → M j k

pub taken : (n : ℕ) (links : List Link) (k : Link) → Contains (take n links) k → Contains links k
taken n links k (a, w, r) =
    let l = length-take n links in
    let m : a < n = omega (arith, l, w) in
    (a, omega (arith, l, w), sym (get_or-take n links a k m) ∙ r)

pub pairs_more : (M : Link → Link → Type 0) (n : ℕ) (links : List Link) (d : Link) → PairsBefore M n links → n < length links → ((k : Link) → Contains (take n links) k → M (get_or links n d) k) → PairsBefore M (n + 1) links
pairs_more M n links d h l q j k b a lb ab w p r = by (split b n lb)
  where
    by : (b < n) ⊎ (b ≡ n) → M j k
    by (inl m) = h j k b a m ab w p r
    by (inr m) =
        let t = length-take n links in
        let below : a < n = omega (arith, ab, m) in
        subst (λ (x : Link). M x k) (get_or_default links n d j l ∙ ap (λ (i : ℕ). get_or links i j) (sym m) ∙ p)
        (q k (a, omega (arith, t, below, l), get_or-take n links a k below ∙ r))

pub pairs_all : (M : Link → Link → Type 0) (n : ℕ) (links : List Link) → length links ≤ n → ((j : Link) → M j j) → ((j k : Link) → M j k → M k j) → PairsBefore M n links → (j k : Link) → Contains links j → Contains links k → M j k
pairs_all M n links l one other h j k (b, w, p) (a, v, r) =
    elim (cases_order b a) [
      | inl e ↦ subst (M j) (sym p ∙ get_or_default links b j k w ∙ ap (λ (i : ℕ). get_or links i k) e ∙ r) (one j)
      | inr y ↦ elim y [
        | inl m ↦ other k j (h k j a b (omega (arith, v, l)) m v r p)
        | inr m ↦ h j k b a (omega (arith, w, l)) m w p r
      ]
    ]

excludes_back : (ss : List StatementParts) (a b : Arc) → ArcsExclude ss a b → ArcsExclude ss b a
excludes_back ss a b (c, v, p, q) = at v p q
  where
    at : (v : Bool) → ArcHasGuard ss c v a → ArcHasGuard ss c (not v) b → ArcsExclude ss b a
    at true p q = (c, false, q, p)
    at false p q = (c, true, q, p)

-- arcs that may meet do so in either order
pub meet_back : (ss : List StatementParts) (a b : Arc) → MayMeet ss a b → MayMeet ss b a
meet_back ss a b (inl e) = inl (sym e)
meet_back ss a b (inr (inl h)) = inr (inr (inl h))
meet_back ss a b (inr (inr (inl h))) = inr (inl h)
meet_back ss a b (inr (inr (inr h))) = inr (inr (inr (excludes_back ss a b h)))
