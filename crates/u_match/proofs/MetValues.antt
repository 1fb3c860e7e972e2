-- What a token meets, beside what is held once it has entered.
use Rattle.std.proofs.Common.{◌≡◌, ◌↔◌, ◌⊎◌, inl, inr, sym, subst, ap, ◌∙◌, refl, arith, ℕ, ◌==◌, List, [], ◌∷◌, Bool, true, false, Contains}
use Rattle.std.proofs.lemmas.Bool.Decides.{nat_tests}
use Rattle.u_name.specs.Name.{Activity}
use Rattle.u_value.specs.declared.value.Value.{Value}
use Rattle.u_rule.specs.Parts.{TokenParts, token}
use Rattle.u_rule.specs.declared.entry.Entry.{Entry}
use Rattle.u_rule.specs.declared.entry.Entry.TheVariants as entries
use Rattle.u_history.specs.Outcomes.{ValueAt}
use Rattle.u_match.specs.Keys.{IsMet}
use Rattle.u_rule.proofs.FiringShapes.{one_member}

-- of a token by its parts
pub same_token : (t u : TokenParts) → entries.Token t ≡ entries.Token u → t ≡ u
same_token t u e = cc

pub same_port : (a b : Activity) (q p : ℕ) (y x : Value) → entries.Token (token a q y) ≡ entries.Token (token b p x) → q ≡ p
same_port a b q p y x e = ap (λ (t : TokenParts). t.port) (same_token (token a q y) (token b p x) e)

module _ (H : Entry → Type 0) (t : TokenParts) where
  -- in H, or the token
  abbrev pub Held : Entry → Type 0
  Held x = H x ⊎ (entries.Token t ≡ x)

  -- at its own port a token meets itself
  pub own_token : (p : ℕ) (v : Value) → t.port ≡ p → IsMet H t p v → entries.Token (token t.activity p v) ≡ entries.Token t
  own_token p v e (inl (q, f)) = ap (λ (k : ℕ). entries.Token (token t.activity k v)) (sym q) ∙ ap (λ (w : Value). entries.Token (token t.activity t.port w)) (sym f)
  own_token p v e (inr (n, m)) = absurd (n e)

  -- what is met is held
  pub met_held : (p : ℕ) (v : Value) → IsMet H t p v → Held (entries.Token (token t.activity p v))
  met_held p v (inl (q, f)) = inr (sym (own_token p v q (inl (q, f))))
  met_held p v (inr (n, m)) = inl m

  -- and what is held is met, where it is not another value at the token's own port
  pub held_met : (p : ℕ) (v : Value) → Held (entries.Token (token t.activity p v)) → (t.port ≡ p → t.value ≡ v) → IsMet H t p v
  held_met p v h one = at (t.port == p) refl
    where
      at : (b : Bool) → (t.port == p) ≡ b → IsMet H t p v
      at true e =
          let same : t.port ≡ p = grind (arith, nat_tests) in
          inl (same, one same)
      at false e =
          let apart : t.port ≡ p → ⊥ = λ s. grind (arith, nat_tests) in
          inr (apart, elim h [ inl m ↦ m | inr f ↦ absurd (apart (ap (λ (x : TokenParts). x.port) (same_token t (token t.activity p v) f))) ])

  -- at its own port its own value
  pub met_own : IsMet H t t.port t.value
  met_own = inl (refl, refl)

  -- one value at its own port
  pub met_one : (p : ℕ) → t.port ≡ p → (v : Value) → Contains (t.value ∷ []) v ↔ IsMet H t p v
  met_one p e v = ((λ m. inl (e, (one_member t.value v).0 m)), back)
    where
      back : IsMet H t p v → Contains (t.value ∷ []) v
      back (inl (q, f)) = (one_member t.value v).1 f
      back (inr (n, m)) = absurd (n e)

  -- at another port the values there
  pub met_there : (p : ℕ) → (t.port ≡ p → ⊥) → (v : Value) → ValueAt H t.activity p v ↔ IsMet H t p v
  met_there p n v = ((λ m. inr (n, m)), back)
    where
      back : IsMet H t p v → ValueAt H t.activity p v
      back (inl (q, f)) = absurd (n q)
      back (inr (k, m)) = m

  pub met_elsewhere : (a : Activity) (p : ℕ) → a ≡ t.activity → (t.port ≡ p → ⊥) → (xs : List Value) → ((v : Value) → Contains xs v ↔ ValueAt H a p v) → (v : Value) → Contains xs v ↔ IsMet H t p v
  met_elsewhere a p e n xs h v =
      let g = met_there p n v in
      let k = subst (λ (b : Activity). Contains xs v ↔ ValueAt H b p v) e (h v) in
      ((λ m. g.0 (k.0 m)), λ m. k.1 (g.1 m))
