-- Givers: there is one of each entry at most, and how they are found.
use Rattle.std.proofs.Common.{◌≡◌, ℕ, ◌<◌, ◌≤◌, List, [], ◌∷◌, ◌++◌, ◌⊎◌, inl, inr, refl, sym, subst, length, Option, Some, None, arith}
use Rattle.std.specs.Prelude.{Contains, slice_get}
use Rattle.std.proofs.lemmas.List.{take-append-le}
use Rattle.std.proofs.lemmas.List.Elements.{Contains-append_left, Contains-push, Contains-push_cases}
use Rattle.u_base.specs.Firing.{System, Derivation}
use Rattle.u_base.proofs.Member.{Contains-nil}
use Rattle.u_trace.specs.Stories.{IsGiver}
use Rattle.u_trace.specs.Givers.{Notes, AreGivers, AreFirings}
use Rattle.u_trace.proofs.Lists.{below_or_not, get_below, get_longer, get_push_cases, get_push_end, in_take, of_take, of_list, in_list}

module _ {E F : Type 0} (s : System E F) (log : List F) where
  not_below : (x : E) (j k : ℕ) → IsGiver s log x j → IsGiver s log x k → j < k → ⊥
  not_below x j k p q l = q.first p.firing (in_take log j k p.firing p.at l) p.gives

  pub one_giver : (x : E) (j k : ℕ) → IsGiver s log x j → IsGiver s log x k → j ≡ k
  one_giver x j k p q =
      elim (below_or_not j k) [
        | inl l ↦ absurd (not_below x j k p q l)
        | inr h ↦ elim (below_or_not k j) [ inl l ↦ absurd (not_below x k j q p l) | inr g ↦ omega (arith, h, g) ]
      ]

-- where nothing was put
pub givers_none : {E F : Type 0} (s : System E F) (at : E → Option ℕ) → ((x : E) → at x ≡ None) → AreGivers s [] at
givers_none s at none = record { giver = λ x k e. (let n = none x in absurd (cc)); none = λ x e f m c. Contains-nil f m }

pub notes_none : {E : Type 0} (old : E → Option ℕ) (place : ℕ) → Notes old [] place old
notes_none old place = record { kept = λ x k e. e; got = λ x k e. inl e; all = λ x m e. Contains-nil x m }

module _ {E : Type 0} (a b c : E → Option ℕ) (xs : List E) (y : E) (p : ℕ) (m : Notes a xs p b) (n : Notes b (y ∷ []) p c) where
  was_none : (x : E) → b x ≡ None → a x ≡ None
  was_none x e = at (a x) refl
    where
      at : (o : Option ℕ) → a x ≡ o → a x ≡ None
      at None h = h
      at (Some k) h = let w = m.kept x k h in absurd (cc)

  pub notes_more : Notes a (xs ++ y ∷ []) p c
  notes_more = record { kept = λ x k e. n.kept x k (m.kept x k e); got = λ x k e. over x k (n.got x k e); all = all }
    where
      before : (x : E) (k : ℕ) → (a x ≡ Some k) ⊎ (Contains xs x × (a x ≡ None) × (p ≡ k)) → (a x ≡ Some k) ⊎ (Contains (xs ++ y ∷ []) x × (a x ≡ None) × (p ≡ k))
      before x k (inl e) = inl e
      before x k (inr (h, o, q)) = inr (Contains-append_left xs (y ∷ []) x h, o, q)

      over : (x : E) (k : ℕ) → (b x ≡ Some k) ⊎ (Contains (y ∷ []) x × (b x ≡ None) × (p ≡ k)) → (a x ≡ Some k) ⊎ (Contains (xs ++ y ∷ []) x × (a x ≡ None) × (p ≡ k))
      over x k (inl e) = before x k (m.got x k e)
      over x k (inr (h, o, q)) = inr (subst (λ (z : E). Contains (xs ++ y ∷ []) z) (only x h) (Contains-push xs y), was_none x o, q)
        where
          only : (x : E) → Contains (y ∷ []) x → y ≡ x
          only x h = elim (Contains-push_cases [] y x h) [ inl k ↦ absurd (Contains-nil x k) | inr e ↦ e ]

      all : (x : E) → Contains (xs ++ y ∷ []) x → c x ≡ None → ⊥
      all x h e = elim (Contains-push_cases xs y x h) [ inl k ↦ at (b x) refl k | inr q ↦ n.all x (subst (λ (z : E). Contains (y ∷ []) z) q (Contains-push [] y)) e ]
        where
          at : (o : Option ℕ) → b x ≡ o → Contains xs x → ⊥
          at None o k = m.all x k o
          at (Some j) o k = let w = n.kept x j o in cc

-- one more firing, whose entries were noted
module _ {E F : Type 0} (s : System E F) (log : List F) (f : F) (given : List E) (old new : E → Option ℕ) (g : AreGivers s log old) (is : given ≡ s.gives f) (n : Notes old given (length log) new) where
  longer : (x : E) (k : ℕ) → IsGiver s log x k → IsGiver s (log ++ f ∷ []) x k
  longer x k p = record {
    firing = p.firing;
    at = get_longer log (f ∷ []) k p.firing p.at;
    gives = p.gives;
    first = λ h m c. p.first h (let l : k ≤ length log = (let b = get_below log k p.firing p.at in omega (arith, b)) in rw take-append-le at m) c;
  }

  newest : (x : E) → Contains given x → old x ≡ None → IsGiver s (log ++ f ∷ []) x (length log)
  newest x m o = record {
    firing = f;
    at = get_push_end log f;
    gives = subst (λ (xs : List E). Contains xs x) is m;
    first = λ h c k. g.none x o h (kept h (of_take (log ++ f ∷ []) (length log) h c)) k;
  }
    where
      kept : (h : F) → (j : ℕ) × (j < length log) × (slice_get (log ++ f ∷ []) j ≡ Some h) → Contains log h
      kept h (j, l, e) = elim (get_push_cases log f h j e) [ inl q ↦ in_list log j h q | inr (q, r) ↦ absurd (omega (arith, l, q)) ]

  pub givers_more : AreGivers s (log ++ f ∷ []) new
  givers_more = record { giver = λ x k e. over x k (n.got x k e); none = λ x e h m c. none x e h c (Contains-push_cases log f h m) }
    where
      over : (x : E) (k : ℕ) → (old x ≡ Some k) ⊎ (Contains given x × (old x ≡ None) × (length log ≡ k)) → IsGiver s (log ++ f ∷ []) x k
      over x k (inl e) = longer x k (g.giver x k e)
      over x k (inr (m, o, q)) = subst (IsGiver s (log ++ f ∷ []) x) q (newest x m o)

      none : (x : E) → new x ≡ None → (h : F) → Contains (s.gives h) x → Contains log h ⊎ (f ≡ h) → ⊥
      none x e h c (inr q) = n.all x (subst (λ (xs : List E). Contains xs x) (sym is) (subst (λ (y : F). Contains (s.gives y) x) (sym q) c)) e
      none x e h c (inl m) = at (old x) refl
        where
          at : (o : Option ℕ) → old x ≡ o → ⊥
          at None o = g.none x o h m c
          at (Some k) o = let w = n.kept x k o in cc

-- those of a derivation are firings
pub are_firings : {E F : Type 0} (s : System E F) (log : List F) → Derivation s log → AreFirings s log
are_firings s log d f m = let p = of_list log f m in (d.each p.0 f p.1).0
