-- How the steps of a machine follow one another.
use Rattle.std.proofs.Common.{◌≡◌, ◌++◌, ◌⊎◌, inl, inr, List, [], ◌∷◌, ◌∙◌, ◌+◌, sym, subst, ap, append-nil, append_assoc, ℕ, zero, suc, ◌<◌, ◌≤◌, length, length-append, arith}
use Rattle.std.specs.Prelude.{slice_get, Some, Contains}
use Rattle.u_rule.specs.declared.entry.Entry.{Entry}
use Rattle.u_rule.specs.declared.firing.Firing.{Firing}
use Rattle.u_rule.specs.Rule.{own_of}
use Rattle.u_rule.specs.EntryOrder.{FiringList, EntryList}
use Rattle.u_machine.proofs.Lists.{le_split}
use Rattle.u_machine.specs.declared.parts.Parts.{Parts}
use Rattle.u_machine.specs.Invariant.{GoesOn, SameButApplied, Lengthens, Gives, HasEntered, EnteredBefore}

pub lengthens_none : (a b : FiringList) → b ≡ a → Lengthens a b
lengthens_none a b e = ([], e ∙ sym (append-nil a))

pub lengthens_on : (a b c : FiringList) → Lengthens a b → Lengthens b c → Lengthens a c
lengthens_on a b c p q = (p.0 ++ q.0, q.1 ∙ ap (λ (l : FiringList). l ++ q.0) p.1 ∙ append_assoc a p.0 q.0)

pub lengthens_le : (a b : FiringList) → Lengthens a b → length a ≤ length b
lengthens_le a b p = let l = length-append a p.0 in let e = ap length p.1 in omega arith

pub goes_on : (a b c : Parts) → GoesOn a b → GoesOn b c → GoesOn a c
goes_on a b c p q = record { job = q.job ∙ p.job; applied_count = q.applied_count ∙ p.applied_count; log = lengthens_on a.log.items b.log.items c.log.items p.log q.log; in_flight = q.in_flight ∙ p.in_flight }

slice_get_longer : {X : Type 0} (xs ys : List X) (k : ℕ) (x : X) → slice_get xs k ≡ Some x → slice_get (xs ++ ys) k ≡ Some x
slice_get_longer [] ys k x e = absurd (cc)
slice_get_longer (y ∷ xs) ys zero x e = e
slice_get_longer (y ∷ xs) ys (suc k) x e = slice_get_longer xs ys k x e

-- what a firing gives that is being applied, it gives still
pub gives_still : (a b : Parts) (e : Entry) → GoesOn a b → Gives a e → Gives b e
gives_still a b e p (f, place, from, at, g) = (f, place, omega (arith, from, p.applied_count), rw p.log.1 (slice_get_longer a.log.items p.log.0 place f at), rw p.job g)

pub slice_get_below : {X : Type 0} (xs : List X) (k : ℕ) (x : X) → slice_get xs k ≡ Some x → k < length xs
slice_get_below [] k x e = absurd (cc)
slice_get_below (y ∷ xs) zero x e = omega arith
slice_get_below (y ∷ xs) (suc k) x e = let l = slice_get_below xs k x e in omega (arith, l)

slice_get_before : {X : Type 0} (xs ys : List X) (k : ℕ) (x : X) → k < length xs → slice_get (xs ++ ys) k ≡ Some x → slice_get xs k ≡ Some x
slice_get_before [] ys k x l e = absurd (omega (arith, l))
slice_get_before (y ∷ xs) ys zero x l e = e
slice_get_before (y ∷ xs) ys (suc k) x l e = slice_get_before xs ys k x (omega (arith, l)) e

-- what has entered is there still as the log goes on
pub entered_longer : (a b : Parts) (k : ℕ) → GoesOn a b → ((e : Entry) → Contains a.matcher e → Contains b.matcher e) → k < length a.log.items → HasEntered a k → HasEntered b k
entered_longer a b k p more l h f at e g = more e (h f (slice_get_before a.log.items p.log.0 k f l (rw p.log.1 at at)) e (rw p.job at g))

-- and as more of it is applied
pub entered_still : (a b : Parts) (k : ℕ) → SameButApplied a b → HasEntered a k → HasEntered b k
entered_still a b k s h f at e g = rw s.matcher (h f (rw s.log at at) e (rw s.job at g))

-- the places before the next one are those before this one, and this one
pub entered_more : (a b : Parts) (place : ℕ) → GoesOn a b → ((e : Entry) → Contains a.matcher e → Contains b.matcher e) → place < length a.log.items → EnteredBefore a place → HasEntered b place → EnteredBefore b (place + 1)
entered_more a b place p more l before here k from to = at (le_split k place (omega (arith, to)))
  where
    at : (k ≡ place) ⊎ (k < place) → HasEntered b k
    at (inl e) = rw e here
    at (inr below) = entered_longer a b k p more (omega (arith, below, l)) (before k (omega (arith, from, p.applied_count)) below)

pub still_on : (a b c : Parts) → SameButApplied a b → SameButApplied b c → SameButApplied a c
still_on a b c p q = record { job = q.job ∙ p.job; log = q.log ∙ p.log; woken = q.woken ∙ p.woken; matcher = q.matcher ∙ p.matcher }

-- all has entered that the firing at that place gives, which were these
pub entered_here : (a b : Parts) (place : ℕ) (f : Firing) (es : EntryList) → GoesOn a b → place < length a.log.items → slice_get a.log.items place ≡ Some f → es ≡ (own_of a.job.now).gives f → ((e : Entry) → Contains es e → Contains b.matcher e) → HasEntered b place
entered_here a b place f es p l at is has g there e m =
    let same : Some g ≡ Some f = sym (slice_get_before a.log.items p.log.0 place g l (rw p.log.1 at there)) ∙ at in
    let one : g ≡ f = cc in
    has e (rw is (subst (λ (h : Firing). Contains ((own_of a.job.now).gives h) e) one (rw p.job at m)))
