-- What holds of the first members of a list, one more each round.
use Rattle.std.proofs.Common.{◌≡◌, inl, inr, sym, subst, ℕ, ◌<◌, ◌≤◌, ◌+◌, ◌++◌, List, [], ◌∷◌, Contains, take, length, get_or}
use Rattle.std.proofs.lemmas.List.{take_more, take_all}
use Rattle.std.proofs.lemmas.List.Elements.{Contains-push_cases, Contains-get_or}

-- what holds of each of the first and of the next one
pub each_more : {X : Type 0} (P : X → Type 0) (xs : List X) (i : ℕ) (d : X) → i < length xs → d ≡ get_or xs i d → P d → ((x : X) → Contains (take i xs) x → P x) → (x : X) → Contains (take (i + 1) xs) x → P x
each_more {X} P xs i d l e p before x m =
    elim (Contains-push_cases (take i xs) d x (subst (λ (y : X). Contains (take i xs ++ y ∷ []) x) (sym e) (rw (take_more xs i d l) at m)))
    [ inl a ↦ before x a | inr q ↦ subst P q p ]

-- the one at a place is a member
pub member_at : {X : Type 0} (xs : List X) (i : ℕ) (d : X) → i < length xs → d ≡ get_or xs i d → Contains xs d
member_at {X} xs i d l e = subst (Contains xs) (sym e) (Contains-get_or xs i d l)

pub each_of_all : {X : Type 0} (P : X → Type 0) (xs : List X) (i : ℕ) → length xs ≤ i → ((x : X) → Contains (take i xs) x → P x) → (x : X) → Contains xs x → P x
each_of_all P xs i h all x m = all x (rw (take_all i xs h) m)
