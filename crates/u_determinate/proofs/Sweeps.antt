-- Sweeps: each marks what follows from what is marked, until nothing is new.
use Rattle.std.proofs.Common.{◌≡◌, ℕ, zero, suc, ◌+◌, ◌<◌, ◌≤◌, refl, sym, ◌∙◌, arith, subst, Bool, true, false, List, [], ◌∷◌, length, length-set, get_or, set, get_or-set_other, replicate, ap, inl, inr, ◌⊎◌}
use Rattle.std.specs.Prelude.{◌↔◌}
use Rattle.std.proofs.lemmas.Bool.{false≢true, cases_Bool}
use Rattle.std.proofs.lemmas.List.{length-replicate}
use Rattle.u_determinate.specs.Guards.{Rounds, Reached}
use Rattle.u_determinate.specs.Flow.{IsMarked, IsSound, unmarked, Marked, Swept}
use Rattle.u_determinate.proofs.Rounds.{IsMonotone, rounds_next, rounds_within}

marked_less : (marks : List Bool) (i : ℕ) → i < length marks → get_or marks i false ≡ false → unmarked (set marks i true) < unmarked marks
marked_less [] i l e = absurd (omega (arith, l))
marked_less (true ∷ marks) zero l e = absurd (false≢true (sym e))
marked_less (false ∷ marks) zero l e = omega arith
marked_less (true ∷ marks) (suc i) l e = marked_less marks i (omega (arith, l)) e
marked_less (false ∷ marks) (suc i) l e = let h = marked_less marks i (omega (arith, l)) e in omega (arith, h)

-- a sweep as far as number i
pub record SweptTo (F : (ℕ → Type 0) → ℕ → Type 0) (i : ℕ) (old new : List Bool) (more : Bool) : Type 0 where
  pub count : length new ≡ length old
  pub sound : IsSound F old → IsSound F new
  pub fewer : more ≡ true → unmarked new < unmarked old
  pub same : more ≡ false → new ≡ old
  pub closed : more ≡ false → (n : ℕ) → n < i → F (IsMarked new) n → IsMarked new n

module _ (F : (ℕ → Type 0) → ℕ → Type 0) (monotone : IsMonotone F) (old : List Bool) where
  order : (m n : ℕ) → (m ≡ n) ⊎ (m ≡ n → ⊥)
  order zero zero = inl refl
  order zero (suc n) = inr (λ q. omega (arith, q))
  order (suc m) zero = inr (λ q. omega (arith, q))
  order (suc m) (suc n) = elim (order m n) [ inl q ↦ inl (omega (arith, q)) | inr q ↦ inr (λ r. q (omega (arith, r))) ]

  -- what follows may be marked
  set_sound : (i : ℕ) (now : List Bool) → F (IsMarked now) i → IsSound F now → IsSound F (set now i true)
  set_sound i now f (k, h) = (suc k, λ n m. by n m (order n i))
    where
      by : (n : ℕ) → IsMarked (set now i true) n → (n ≡ i) ⊎ (n ≡ i → ⊥) → Rounds F (suc k) n
      by n m (inl q) = subst (λ (x : ℕ). Rounds F (suc k) x) (sym q) (monotone (IsMarked now) (Rounds F k) h i f)
      by n m (inr q) = rounds_next F monotone k n (h n (sym (get_or-set_other now i n true false q) ∙ m))

  pub marked_none : Marked F old old
  marked_none = record { count = refl; sound = λ s. s }

  pub marked_more : (i : ℕ) (now : List Bool) → Marked F old now → F (IsMarked now) i → Marked F old (set now i true)
  marked_more i now s f = record { count = length-set now i true ∙ s.count; sound = λ h. set_sound i now f (s.sound h) }

  pub swept_none : SweptTo F 0 old old false
  swept_none = record {
    count = refl;
    sound = λ s. s;
    fewer = λ e. absurd (false≢true e);
    same = λ e. refl;
    closed = λ e n l f. absurd (omega (arith, l));
  }

  -- number i is marked
  pub swept_one : (i : ℕ) (now : List Bool) (more : Bool) → SweptTo F i old now more → i < length now → get_or now i false ≡ false → F (IsMarked now) i → SweptTo F (i + 1) old (set now i true) true
  swept_one i now more s l e f = record {
    count = length-set now i true ∙ s.count;
    sound = λ h. set_sound i now f (s.sound h);
    fewer = λ q. less (cases_Bool more);
    same = λ q. absurd (false≢true (sym q));
    closed = λ q n lt g. absurd (false≢true (sym q));
  }
    where
      less : (more ≡ true) ⊎ (more ≡ false) → unmarked (set now i true) < unmarked old
      less (inl q) = omega (arith, marked_less now i l e, s.fewer q)
      less (inr q) = (let h = marked_less now i l e in subst (λ (x : List Bool). unmarked (set now i true) < unmarked x) (s.same q) h)

  -- number i is marked already, or does not follow
  pub swept_other : (i : ℕ) (now : List Bool) (more : Bool) → SweptTo F i old now more → (F (IsMarked now) i → IsMarked now i) → SweptTo F (i + 1) old now more
  swept_other i now more s f = record {
    count = s.count;
    sound = s.sound;
    fewer = s.fewer;
    same = s.same;
    closed = λ q n l g. by q n g (split n i l);
  }
    where
      split : (m k : ℕ) → m < k + 1 → (m < k) ⊎ (m ≡ k)
      split zero zero h = inr refl
      split zero (suc k) h = inl (omega arith)
      split (suc m) zero h = absurd (omega (arith, h))
      split (suc m) (suc k) h = elim (split m k (omega (arith, h))) [ inl e ↦ inl (omega (arith, e)) | inr e ↦ inr (omega (arith, e)) ]

      by : more ≡ false → (n : ℕ) → F (IsMarked now) n → (n < i) ⊎ (n ≡ i) → IsMarked now n
      by q n g (inl l) = s.closed q n l g
      by q n g (inr e) = subst (IsMarked now) (sym e) (f (subst (λ (x : ℕ). F (IsMarked now) x) e g))

  pub swept_all : (i : ℕ) (now : List Bool) (more : Bool) → length now ≤ i → SweptTo F i old now more → Swept F old now more
  swept_all i now more l s = record {
    count = s.count;
    sound = s.sound;
    fewer = s.fewer;
    same = s.same;
    closed = λ q n h g. s.closed q n (omega (arith, l, h)) g;
  }

-- after some sweeps: what is marked is found, and nothing more follows if the last one found nothing
pub record Settling (F : (ℕ → Type 0) → ℕ → Type 0) (count : ℕ) (marks : List Bool) (more : Bool) : Type 0 where
  pub long : length marks ≡ count
  pub sound : IsSound F marks
  pub closed : more ≡ false → (n : ℕ) → n < length marks → F (IsMarked marks) n → IsMarked marks n

none_marked : (k n : ℕ) → IsMarked (replicate k false) n → ⊥
none_marked zero n m = false≢true m
none_marked (suc k) zero m = false≢true m
none_marked (suc k) (suc n) m = none_marked k n m

-- before the first sweep
pub settling_first : (F : (ℕ → Type 0) → ℕ → Type 0) (count : ℕ) (old new : List Bool) → old ≡ replicate count false → Marked F old new → Settling F count new true
settling_first F count old new e w = record {
  long = w.count ∙ ap length e ∙ length-replicate count false;
  sound = w.sound (0, λ n m. none_marked count n (subst (λ (x : List Bool). IsMarked x n) e m));
  closed = λ q. absurd (false≢true (sym q));
}

pub settling_more : (F : (ℕ → Type 0) → ℕ → Type 0) (count : ℕ) (old new : List Bool) (before more : Bool) → Settling F count old before → Swept F old new more → Settling F count new more
settling_more F count old new before more s w = record { long = w.count ∙ s.long; sound = w.sound s.sound; closed = w.closed }

-- in the end exactly what is found is marked
pub settled : (F : (ℕ → Type 0) → ℕ → Type 0) → IsMonotone F → (count : ℕ) (marks : List Bool) → Settling F count marks false → ((P : ℕ → Type 0) (n : ℕ) → F P n → n < count) → (n : ℕ) → IsMarked marks n ↔ Reached F n
settled F monotone count marks s within n =
    ((λ m. (s.sound.0, s.sound.1 n m)), λ r. rounds_within F monotone (IsMarked marks) (λ i f. s.closed refl i (omega (arith, within (IsMarked marks) i f, s.long)) f) r.0 n r.1)
