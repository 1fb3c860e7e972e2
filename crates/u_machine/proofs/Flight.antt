-- The parked firings, and the firing in flight, which stands at the end of the log.
use Rattle.std.proofs.Common.{◌≡◌, ◌⊎◌, inl, inr, ◌≤◌, ◌-◌, Bool, true, false, ℕ, ◌++◌, [], ◌∷◌, length, drop, refl, sym, ap, subst, arith}
use Rattle.std.specs.Prelude.{Contains}
use Rattle.std.proofs.lemmas.List.{length-drop}
use Rattle.u_base.proofs.Member.{Contains-nil, Contains-head, Contains-tail, Contains-cons_cases}
use Rattle.u_sets.specs.Rising.{Rises}
use Rattle.u_sets.specs.Members.{IsWith, IsWithout}
use Rattle.u_sets.proofs.Places.{irreflexive}
use Rattle.u_rule.specs.declared.firing.Firing.{Firing}
use Rattle.u_rule.specs.EntryOrder.{FiringList, firing_cmp}
use Rattle.u_rule.specs.ExactOrders.{firing_cmp_total}
use Rattle.u_machine.proofs.Lists.{Contains-dropped}
use Rattle.u_machine.specs.declared.parts.Parts.{Parts}
use Rattle.u_machine.specs.Invariant.{Invariant, IsInFlight, parked_with, parked_of}

-- where none is in flight, the parked firings are those of the set
pub as_they_wait : (b : Bool) (n : ℕ) (log parked : FiringList) → b ≡ false → parked_with b n log parked ≡ parked
as_they_wait true n log parked e = absurd (cc)
as_they_wait false n log parked e = refl

-- the firing in flight stands in the log
pub as_it_flies : (b : Bool) (n : ℕ) (log parked : FiringList) → b ≡ true → parked_with b n log parked ≡ drop n log
as_it_flies true n log parked e = refl
as_it_flies false n log parked e = absurd (cc)

none_flies : (b : Bool) (n : ℕ) (log parked : FiringList) → (b ≡ true → IsInFlight n log parked) → n ≡ length log → b ≡ false
none_flies true n log parked h e = let f = h refl in absurd (omega (arith, f.last, e))
none_flies false n log parked h e = refl

-- where all is applied, none is in flight
pub not_flying : (p : Parts) → Invariant p → p.applied_count ≡ length p.log.items → p.in_flight ≡ false
not_flying p k e = none_flies p.in_flight p.applied_count p.log.items p.parked k.flight e

-- where all is applied, the parked firings are those of the set
pub all_wait : (p : Parts) → Invariant p → p.applied_count ≡ length p.log.items → parked_of p ≡ p.parked
all_wait p k e = as_they_wait p.in_flight p.applied_count p.log.items p.parked (not_flying p k e)

-- the firing in flight alone is parked
pub few_parked : (p : Parts) → p.in_flight ≡ true → length (parked_of p) ≤ length p.log.items - p.applied_count
few_parked p e =
    let d = ap length (as_it_flies p.in_flight p.applied_count p.log.items p.parked e) in
    let l = length-drop p.applied_count p.log.items in
    omega (arith, d, l)

behind_all : (log : FiringList) (f : Firing) → drop (length log) (log ++ f ∷ []) ≡ f ∷ []
behind_all [] f = refl
behind_all (g ∷ log) f = behind_all log f

-- the last of a list stands alone behind the others
pub behind_others : (n : ℕ) (log : FiringList) (f : Firing) → n ≡ length log → drop n (log ++ f ∷ []) ≡ f ∷ []
behind_others n log f e = subst (λ (k : ℕ). drop k (log ++ f ∷ []) ≡ f ∷ []) (sym e) (behind_all log f)

-- the only one is that, in a list that had none
pub with_only : (old new : FiringList) (f : Firing) → old ≡ [] → new ≡ f ∷ [] → IsWith old f new
with_only old new f e h g = (
  (λ m. elim (Contains-cons_cases f g [] (rw h at m)) [ inl s ↦ inr s | inr n ↦ absurd (Contains-nil g n) ]),
  λ m. elim m [ inl n ↦ absurd (Contains-nil g (rw e at n)) | inr s ↦ rw (h, ← s) (Contains-head f []) ],
)

pub only_rises : (new : FiringList) (f : Firing) → new ≡ f ∷ [] → Rises firing_cmp new
only_rises new f h = rw h ((λ y m. absurd (Contains-nil y m)), tt)

-- the least firing of a list that rises stands there once
pub without_first : (old less : FiringList) (f : Firing) → Rises firing_cmp old → old ≡ f ∷ less → IsWithout old f less
without_first old less f r e = record {
  less = λ g m. rw e (Contains-tail f g less m);
  gone = λ m. irreflexive firing_cmp firing_cmp_total f ((rw e at r).0 f m);
  rest = λ g m. Contains-cons_cases f g less (rw e at m);
}

one_rises : (fs : FiringList) → length fs ≡ 1 → Rises firing_cmp fs
one_rises [] e = absurd (omega (arith, e))
one_rises (f ∷ []) e = only_rises (f ∷ []) f refl
one_rises (f ∷ g ∷ fs) e = absurd (omega (arith, e))

parked_rise : (b : Bool) (n : ℕ) (log parked : FiringList) → (b ≡ true → IsInFlight n log parked) → Rises firing_cmp parked → Rises firing_cmp (parked_with b n log parked)
parked_rise true n log parked h r = let f = h refl in let l = length-drop n log in one_rises (drop n log) (omega (arith, f.last, l))
parked_rise false n log parked h r = r

-- the parked firings rise
pub they_rise : (p : Parts) → Invariant p → Rises firing_cmp p.parked → Rises firing_cmp (parked_of p)
they_rise p k r = parked_rise p.in_flight p.applied_count p.log.items p.parked k.flight r

set_within : (b : Bool) (n : ℕ) (log parked : FiringList) → (b ≡ true → IsInFlight n log parked) → (f : Firing) → Contains parked f → Contains (parked_with b n log parked) f
set_within true n log parked h f m = absurd (Contains-nil f (rw (h refl).alone at m))
set_within false n log parked h f m = m

-- those of the set are parked
pub parked_there : (p : Parts) → Invariant p → (f : Firing) → Contains p.parked f → Contains (parked_of p) f
parked_there p k f m = set_within p.in_flight p.applied_count p.log.items p.parked k.flight f m

set_or_log : (b : Bool) (n : ℕ) (log parked : FiringList) (f : Firing) → Contains (parked_with b n log parked) f → Contains parked f ⊎ Contains log f
set_or_log true n log parked f m = inr (Contains-dropped n log f m)
set_or_log false n log parked f m = inl m

-- a parked firing is in the set, or in the log
pub parked_where : (p : Parts) (f : Firing) → Contains (parked_of p) f → Contains p.parked f ⊎ Contains p.log.items f
parked_where p f m = set_or_log p.in_flight p.applied_count p.log.items p.parked f m
