-- The firings that give an entry, gathered as the entries of a list enter a set.
use Rattle.std.proofs.Common.{◌≡◌, ℕ, ◌+◌, ◌<◌, ◌≤◌, Bool, true, false, List, [], ◌∷◌, ◌++◌, ◌⊎◌, inl, inr, refl, subst, take, length, get_or}
use Rattle.std.specs.Prelude.{Contains, ◌↔◌}
use Rattle.std.proofs.lemmas.List.{take_more, take_all}
use Rattle.std.proofs.lemmas.List.Elements.{Contains-append_cases, Contains-append_left, Contains-push, Contains-push_cases}
use Rattle.u_base.specs.Firing.{System, Enabled, Held, Cl, Same}
use Rattle.u_base.proofs.Held.{Enabled-mono}
use Rattle.u_base.proofs.Member.{Contains-nil}
use Rattle.u_base.proofs.Determinate.{Derivation-enabled}
use Rattle.u_sets.specs.Members.{SomeOf, IsWith, Gains, AreThose}
use Rattle.u_check.specs.Jobs.{JobParts}
use Rattle.u_rule.specs.Rule.{own_of}
use Rattle.u_rule.specs.declared.entry.Entry.{Entry}
use Rattle.u_rule.specs.declared.firing.Firing.{Firing}
use Rattle.u_machine.specs.State.{State, Taken, IsMachine, IsQuiet}
use Rattle.u_machine.proofs.Once.{enabled_with}
use Rattle.u_trace.specs.Causes.{IsCause, IsKept, IsGiverIn}

-- f is enabled over the list, and gives e
abbrev pub Causes : {E F : Type 0} → System E F → List E → E → F → Type 0
Causes s held e f = Enabled s (Contains held) f × Contains (s.gives f) e

module _ {E F : Type 0} (s : System E F) (e : E) where
  -- over no entries nothing is enabled that needs something
  pub causes_none : (held : List E) → ((x : E) → Contains held x → ⊥) → ((f : F) → Enabled s (Contains held) f → (x : E) × Contains (s.needs f) x) → AreThose (Causes s held e) []
  causes_none held none some f = ((λ m. absurd (Contains-nil f m)), λ c. (let w = some f c.0 in absurd (none w.0 (c.0.1 w.0 w.1))))

  pub causes_more : (old new : List E) (x : E) (woken before after : List F) → IsWith old x new → AreThose (λ f. Contains (s.needs f) x × Enabled s (Contains new) f) woken → AreThose (Causes s old e) before → Gains before (SomeOf woken (λ g f. (g ≡ f) × Contains (s.gives f) e)) after → AreThose (Causes s new e) after
  causes_more old new x woken before after w wakes found gains f = ((λ m. to ((gains f).0 m)), λ c. back c (enabled_with s (Contains old) (Contains new) x f (λ y. (w y).0) c.0))
    where
      to : Contains before f ⊎ SomeOf woken (λ g f. (g ≡ f) × Contains (s.gives f) e) f → Causes s new e f
      to (inl m) = let c = (found f).0 m in (Enabled-mono s (Contains old) (Contains new) (λ y k. (w y).1 (inl k)) f c.0, c.1)
      to (inr (g, m, p)) = (subst (λ (h : F). Enabled s (Contains new) h) p.0 ((wakes g).0 m).1, p.1)

      back : Causes s new e f → Contains (s.needs f) x ⊎ Enabled s (Contains old) f → Contains after f
      back c (inl n) = (gains f).1 (inr (f, (wakes f).1 (n, c.0), (refl, c.1)))
      back c (inr en) = (gains f).1 (inl ((found f).1 (en, c.1)))

  -- over the same entries
  pub causes_same : (held es : List E) (found : List F) → Same (Contains held) (Contains es) → AreThose (Causes s held e) found → (f : F) → Contains found f ↔ Causes s es e f
  causes_same held es found same all f = (
    (λ m. (let c = (all f).0 m in (Enabled-mono s (Contains held) (Contains es) (λ y. (same y).0) f c.0, c.1))),
    (λ c. (all f).1 (Enabled-mono s (Contains es) (Contains held) (λ y. (same y).1) f c.0, c.1)),
  )

-- Of the entries of a list those that pass have entered.
abbrev pub HasPassing : {E : Type 0} → (E → Bool) → List E → List E → Type 0
HasPassing {E} p es held = (x : E) → Contains held x ↔ (Contains es x × (p x ≡ true))

module _ {E : Type 0} (p : E → Bool) (es old new : List E) (i : ℕ) (x : E) (l : i < length es) (at : x ≡ get_or es i x) (has : HasPassing p (take i es) old) where
  -- one more, which passes
  pub passing_more : p x ≡ true → IsWith old x new → HasPassing p (take (i + 1) es) new
  passing_more h w y = rw (take_more es i x l, ← at) ((λ m. to ((w y).0 m)), λ q. back q.1 (Contains-push_cases (take i es) x y q.0))
    where
      to : Contains old y ⊎ (x ≡ y) → Contains (take i es ++ x ∷ []) y × (p y ≡ true)
      to (inl m) = let q = (has y).0 m in (Contains-append_left (take i es) (x ∷ []) y q.0, q.1)
      to (inr q) = (subst (Contains (take i es ++ x ∷ [])) q (Contains-push (take i es) x), subst (λ (z : E). p z ≡ true) q h)

      back : p y ≡ true → Contains (take i es) y ⊎ (x ≡ y) → Contains new y
      back q (inl k) = (w y).1 (inl ((has y).1 (k, q)))
      back q (inr e) = (w y).1 (inr e)

  -- one that does not
  pub passing_still : p x ≡ false → HasPassing p (take (i + 1) es) old
  passing_still h y = rw (take_more es i x l, ← at) ((λ m. (let q = (has y).0 m in (Contains-append_left (take i es) (x ∷ []) y q.0, q.1))), λ q. back q.1 (Contains-push_cases (take i es) x y q.0))
    where
      back : p y ≡ true → Contains (take i es) y ⊎ (x ≡ y) → Contains old y
      back q (inl k) = (has y).1 (k, q)
      back q (inr e) = let t = subst (λ (z : E). p z ≡ false) e h in absurd (cc)

pub passing_all : {E : Type 0} (p : E → Bool) (es held : List E) (i : ℕ) → length es ≤ i → HasPassing p (take i es) held → HasPassing p es held
passing_all p es held i l has y = rw (take_all i es l) at (has y)

-- over the entries that pass the same firings give e, where each need of such a firing passes
pub causes_passing : {E F : Type 0} (s : System E F) (e : E) (p : E → Bool) (es held : List E) (found : List F) → ((f : F) → Contains (s.gives f) e → (x : E) → Contains (s.needs f) x → p x ≡ true) → HasPassing p es held → AreThose (Causes s held e) found → (f : F) → Contains found f ↔ Causes s es e f
causes_passing s e p es held found pass has all f = (
  (λ m. (let c = (all f).0 m in (Enabled-mono s (Contains held) (Contains es) (λ y k. ((has y).0 k).0) f c.0, c.1))),
  (λ c. (all f).1 ((c.0.0, λ y m. (has y).1 (c.0.1 y m, pass f c.1 y m)), c.1)),
)

-- where nothing is ready, the applied firings that give e are all that are enabled over the history and give it
module _ (m : State) (is : IsMachine m) (quiet : IsQuiet m) (e : Entry) where
  applied : (f : Firing) → Enabled (own_of m.job) (Contains m.history) f → Contains m.log f
  applied f en =
      elim (Contains-append_cases m.log m.parked f (quiet.1 f (Enabled-mono (own_of m.job) (Contains m.history) (Cl (own_of m.job) (Taken m)) is.sound.lies f en)))
      [ inl k ↦ k | inr k ↦ absurd (quiet.0.none f k en) ]

  pub quiet_causes : (f : Firing) → IsGiverIn m.job m.log e f ↔ IsCause m.job m.history e f
  quiet_causes f = (
    (λ g. (Enabled-mono (own_of m.job) (Held (own_of m.job) m.log) (Contains m.history) is.sound.has f (Derivation-enabled (own_of m.job) m.log is.sound.derivation f g.0), g.1)),
    (λ c. (applied f c.0, c.1)),
  )

-- those that are gathered of all firings of a list are those of the list that give e
pub givers_gathered : (job : JobParts) (log : List Firing) (e : Entry) (found : List Firing) → Gains [] (SomeOf log (IsKept job e)) found → (f : Firing) → Contains found f ↔ IsGiverIn job log e f
givers_gathered job log e found gains f = ((λ m. to ((gains f).0 m)), λ g. (gains f).1 (inr (f, g.0, (refl, g.1))))
  where
    to : Contains [] f ⊎ SomeOf log (IsKept job e) f → IsGiverIn job log e f
    to (inl m) = absurd (Contains-nil f m)
    to (inr (g, m, k)) = (subst (Contains log) k.0 m, k.1)
