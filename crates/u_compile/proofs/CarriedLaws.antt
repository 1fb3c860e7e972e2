-- What loops carry, when its value in the next turn is noted.
use Rattle.std.proofs.Common.{◌≡◌, ℕ, ◌+◌, zero, suc, ◌⊎◌, inl, inr, refl, sym, ap, ◌∙◌, subst, List, [], ◌∷◌, length, Option, Some, None}
use Rattle.std.specs.Prelude.{slice_get, slice_set}
use Rattle.u_program.specs.declared.program.Kind.TheVariants.{Next}
use Rattle.u_compile.specs.declared.drawing.Carried.{Carried}
use Rattle.u_compile.specs.Drawings.{DrawingParts, Adds, AddsNext, IsNextOf, GoesOn, IsOpen, NotesNext, SetsNext, a_carried}
use Rattle.u_compile.proofs.DrawingLaws.{get_goes_on}

notes_next : (d e : DrawingParts) (number value : ℕ) (c : Carried) → slice_get d.carried number ≡ Some c → e ≡ record d { carried = e.carried } → ((x : Carried) → slice_get d.carried number ≡ Some x → e.carried ≡ slice_set d.carried number (record x { next = Some value })) → NotesNext d e number value
notes_next d e number value c was same sets = record {
  carried = c;
  was = was;
  now = same ∙ ap (λ (cs : List Carried). record d { carried = cs }) (sets c was);
}

pub sets_next : (d e : DrawingParts) (turn name number value : ℕ) → IsOpen d.carried turn name number → e ≡ record d { carried = e.carried } → ((x : Carried) → slice_get d.carried number ≡ Some x → e.carried ≡ slice_set d.carried number (record x { next = Some value })) → SetsNext turn name value d e
sets_next d e turn name number value is same sets = record {
  number = number;
  open_before = is;
  notes = notes_next d e number value (a_carried turn name is.0 None) is.1 same sets;
}

pub adds_next : (d between e : DrawingParts) (number value : ℕ) (c : Carried) → slice_get d.carried number ≡ Some c → Adds d between Next (value ∷ []) → IsNextOf between.statements (length d.statements + 1) c.enter → e ≡ record between { carried = e.carried } → ((x : Carried) → slice_get between.carried number ≡ Some x → e.carried ≡ slice_set between.carried number (record x { next = Some value })) → AddsNext d e number value
adds_next d between e number value c was adds of same sets = record {
  between = between;
  adds = adds;
  of = (c, was, of);
  notes = notes_next between e number value c (get_goes_on d.carried between.carried number c adds.grows.carried was) same sets;
}

get_set : {A : Type 0} (xs : List A) (n : ℕ) (x y : A) → slice_get xs n ≡ Some x → slice_get (slice_set xs n y) n ≡ Some y
get_set [] n x y e = absurd (cc)
get_set (z ∷ xs) zero x y e = refl
get_set (z ∷ xs) (suc n) x y e = get_set xs n x y e

pub get_other : {A : Type 0} (xs : List A) (n k : ℕ) (y : A) → (n ≡ k → ⊥) → slice_get (slice_set xs n y) k ≡ slice_get xs k
get_other [] n k y never = refl
get_other (z ∷ xs) zero zero y never = absurd (never refl)
get_other (z ∷ xs) zero (suc k) y never = refl
get_other (z ∷ xs) (suc n) zero y never = refl
get_other (z ∷ xs) (suc n) (suc k) y never = get_other xs n k y (λ e. never (ap suc e))

pub same_number : (n k : ℕ) → (n ≡ k) ⊎ (n ≡ k → ⊥)
same_number zero zero = inl refl
same_number zero (suc k) = inr (λ e. cc)
same_number (suc n) zero = inr (λ e. cc)
same_number (suc n) (suc k) = elim (same_number n k) [ inl e ↦ inl (ap suc e) | inr never ↦ inr (λ e. never (let f : n ≡ k = cc in f)) ]

pub some_carried : (a b : Carried) → Some a ≡ Some b → a ≡ b
some_carried a b e = cc

pub none_noted : {A : Type 0} (v : A) → None ≡ Some v → ⊥
none_noted v e = cc

pub some_noted : (a b : ℕ) → Some a ≡ Some b → a ≡ b
some_noted a b e = cc

-- what is carried under that number has the value then
pub noted_now : (d e : DrawingParts) (number value : ℕ) (c : Carried) → NotesNext d e number value → slice_get d.carried number ≡ Some c → slice_get e.carried number ≡ Some (record c { next = Some value })
noted_now d e number value c notes is =
    let same : notes.carried ≡ c = some_carried notes.carried c (sym notes.was ∙ is) in
    ap (λ (x : DrawingParts). slice_get x.carried number) notes.now ∙ (get_set d.carried number c (record notes.carried { next = Some value }) is ∙ ap (λ (x : Carried). Some (record x { next = Some value })) same)

-- and all else that is carried stays
pub noted_other : (d e : DrawingParts) (number value k : ℕ) (c : Carried) → (number ≡ k → ⊥) → NotesNext d e number value → slice_get d.carried k ≡ Some c → slice_get e.carried k ≡ Some c
noted_other d e number value k c never notes is = ap (λ (x : DrawingParts). slice_get x.carried k) notes.now ∙ (get_other d.carried number k (record notes.carried { next = Some value }) never ∙ is)

-- what is carried under that number has no other value in the next turn
abbrev pub MayHave : List Carried → ℕ → ℕ → Type 0
MayHave cs number value = (c : Carried) → slice_get cs number ≡ Some c → (v : ℕ) → c.next ≡ Some v → v ≡ value

pub none_may : (cs : List Carried) (number value : ℕ) (c : Carried) → slice_get cs number ≡ Some c → c.next ≡ None → MayHave cs number value
none_may cs number value c is none x at v has = absurd (none_noted v (sym none ∙ (ap (λ (y : Carried). y.next) (some_carried c x (sym is ∙ at)) ∙ has)))

pub given_may : (cs : List Carried) (number value : ℕ) (c : Carried) → slice_get cs number ≡ Some c → c.next ≡ Some value → MayHave cs number value
given_may cs number value c is given x at v has = some_noted v value (sym has ∙ (sym (ap (λ (y : Carried). y.next) (some_carried c x (sym is ∙ at))) ∙ given))

pub more_may : (cs es : List Carried) (number value : ℕ) (c : Carried) → GoesOn cs es → slice_get cs number ≡ Some c → MayHave cs number value → MayHave es number value
more_may cs es number value c on is may x at v has = may x (subst (λ (y : Carried). slice_get cs number ≡ Some y) (some_carried c x (sym (get_goes_on cs es number c on is) ∙ at)) is) v has

-- what has a value in the next turn has it still
abbrev pub NotesStay : DrawingParts → DrawingParts → Type 0
NotesStay d e = (number v : ℕ) (c : Carried) → slice_get d.carried number ≡ Some c → c.next ≡ Some v → slice_get e.carried number ≡ Some c

pub notes_stay : (d e : DrawingParts) (number value : ℕ) → NotesNext d e number value → MayHave d.carried number value → NotesStay d e
notes_stay d e number value notes may k v c is has = elim (same_number number k) [ inl q ↦ here q | inr never ↦ noted_other d e number value k c never notes is ]
  where
    here : number ≡ k → slice_get e.carried k ≡ Some c
    here q =
        let at : slice_get d.carried number ≡ Some c = subst (λ (j : ℕ). slice_get d.carried j ≡ Some c) (sym q) is in
        let same : Some value ≡ c.next = ap (λ (y : ℕ). Some y) (sym (may c at v has)) ∙ sym has in
        subst (λ (j : ℕ). slice_get e.carried j ≡ Some c) q (noted_now d e number value c notes at ∙ ap (λ (y : Option ℕ). Some (record c { next = y })) same)
