-- A table of reads stays complete, and is complete with an entry that was noted.
use Rattle.std.proofs.Common.{◌≡◌, ◌⊎◌, inl, inr, sym, subst, ap, refl, arith, ℕ, ◌≤◌, ◌<◌, List, Contains}
use Rattle.u_value.specs.declared.value.Value.{Value}
use Rattle.u_rule.specs.Parts.{TokenParts, token}
use Rattle.u_rule.specs.declared.entry.Entry.{Entry}
use Rattle.u_rule.specs.declared.entry.Entry.TheVariants as entries
use Rattle.u_base.specs.Firing.{Within}
use Rattle.u_match.specs.Keys.{ReadTable, IsMet, Notes, IsComplete, IsCompleteWith}
use Rattle.u_match.proofs.Noted.{notes_still}
use Rattle.u_match.proofs.MetValues.{same_token, held_met}

-- what has more is complete too
pub complete_still : (old new : ReadTable) (es : List Entry) → Within (Contains new) old → IsComplete old es → IsComplete new es
complete_still old new es kept c a v w m n = notes_still a v w old new kept (c a v w m n)

module _ (old new : ReadTable) (es : List Entry) (kept : Within (Contains new) old) where
  -- an entry that is no token
  pub with_other : (entry : Entry) → ((t : TokenParts) → entry ≡ entries.Token t → ⊥) → IsCompleteWith old es entry new
  with_other entry no_token more c w a v u m n = notes_still a v u old new kept (c a v u (there (token a 1 v) m) (there (token a 2 u) n))
    where
      there : (t : TokenParts) → Contains more (entries.Token t) → Contains es (entries.Token t)
      there t k = elim ((w (entries.Token t)).0 k) [ inl q ↦ q | inr e ↦ absurd (no_token t e) ]

  -- a token
  pub with_token : (t : TokenParts) → ((v w : Value) → IsMet (Contains es) t 1 v → IsMet (Contains es) t 2 w → (2 < t.port) ⊎ Notes t.activity v w new) → IsCompleteWith old es (entries.Token t) new
  with_token t noted more c w a v u m n = pair ((w (entries.Token (token a 1 v))).0 m) ((w (entries.Token (token a 2 u))).0 n)
    where
      done : (q : ℕ) (x : Value) → t ≡ token a q x → q ≤ 2 → (2 < t.port) ⊎ Notes t.activity v u new → Notes a v u new
      done q x e k (inl h) = let p : t.port ≡ q = ap (λ (y : TokenParts). y.port) e in absurd (omega (arith, h, k, p))
      done q x e k (inr h) = subst (λ (y : TokenParts). Notes y.activity v u new) e h

      -- a token of the activity, there or the one that enters, is met
      met : (q : ℕ) (x : Value) (p : ℕ) (y : Value) → t ≡ token a q x → (q ≡ p → x ≡ y) → Contains es (entries.Token (token a p y)) ⊎ (entries.Token t ≡ entries.Token (token a p y)) → IsMet (Contains es) t p y
      met q x p y e one s =
          subst (λ (z : TokenParts). IsMet (Contains es) z p y) (sym e)
          (held_met (Contains es) (token a q x) p y (subst (λ (z : TokenParts). Contains es (entries.Token (token a p y)) ⊎ (entries.Token z ≡ entries.Token (token a p y))) e s) one)

      pair : Contains es (entries.Token (token a 1 v)) ⊎ (entries.Token t ≡ entries.Token (token a 1 v)) → Contains es (entries.Token (token a 2 u)) ⊎ (entries.Token t ≡ entries.Token (token a 2 u)) → Notes a v u new
      pair (inl k) (inl l) = notes_still a v u old new kept (c a v u k l)
      pair (inr e) l =
          let h : t ≡ token a 1 v = same_token t (token a 1 v) e in
          done 1 v h (omega arith) (noted v u (met 1 v 1 v h (λ z. refl) (inr e)) (met 1 v 2 u h (λ z. absurd (omega (arith, z))) l))
      pair (inl k) (inr e) =
          let h : t ≡ token a 2 u = same_token t (token a 2 u) e in
          done 2 u h (omega arith) (noted v u (met 2 u 1 v h (λ z. absurd (omega (arith, z))) (inl k)) (met 2 u 2 u h (λ z. refl) (inr e)))
