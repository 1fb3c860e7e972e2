-- The story of an entry: the applied firings that it rests on, and what holds of them.
--
-- Several firings of a list may give one entry. Its giver is the first of them. So the entry has one
-- giver, that one's needs have one giver each, and so on back to the start, which has none.
use Rattle.std.specs.Prelude.{◌≡◌, ℕ, ◌<◌, List, [], ◌∷◌, ◌++◌, ◌↔◌, Contains, Some, slice_get, take}
use Rattle.std.specs.List.{AllZip}
use Rattle.u_base.specs.Firing.{System, Derivation, Within}
use Rattle.u_sets.specs.Rising.{Ascending}

-- the firing at place k gives x, and none at a place below k does
pub record IsGiver {E F : Type 0} (s : System E F) (log : List F) (x : E) (k : ℕ) : Type 0 where
  pub firing : F
  pub at : slice_get log k ≡ Some firing
  pub gives : Contains (s.gives firing) x
  pub first : (f : F) → Contains (take k log) f → Contains (s.gives f) x → ⊥

-- The entries whose givers the story of e has: e itself, and all that the giver of such an entry
-- needs. The start is not among them, since nobody has to give it.
pub data IsSought {E F : Type 0} (s : System E F) (log : List F) (e : E) : E → Type 0 where
  itself : (e ≡ s.start → ⊥) → IsSought s log e e
  need : (x y : E) (k : ℕ) → IsSought s log e x → (g : IsGiver s log x k) → Contains (s.needs g.firing) y → (y ≡ s.start → ⊥) → IsSought s log e y

-- the story of e has the firing at place k: it is the giver of an entry that is sought
abbrev pub InStory : {E F : Type 0} → System E F → List F → E → ℕ → Type 0
InStory {E} s log e k = (x : E) × IsSought s log e x × IsGiver s log x k

-- fs are the firings of the list at the places with P, in their order there
pub record AreThoseAt {F : Type 0} (log : List F) (P : ℕ → Type 0) (fs : List F) : Type 0 where
  pub places : List ℕ
  pub rise : Ascending (λ j k. j < k) places
  pub exact : (k : ℕ) → Contains places k ↔ P k
  pub at : AllZip (λ k f. slice_get log k ≡ Some f) places fs

-- P, of places below n
abbrev pub Below : ℕ → (ℕ → Type 0) → ℕ → Type 0
Below n P k = (k < n) × P k

-- fs is the story of e
abbrev pub IsStory : {E F : Type 0} → System E F → List F → E → List F → Type 0
IsStory s log e fs = AreThoseAt log (InStory s log e) fs

-- f is the giver of x
abbrev pub GivesFirst : {E F : Type 0} → System E F → List F → E → F → Type 0
GivesFirst s log x f = (k : ℕ) × IsGiver s log x k × (slice_get log k ≡ Some f)

-- M has the giver of e, and with each firing the givers of all that it needs, save of the start
pub record HasGivers {E F : Type 0} (s : System E F) (log : List F) (e : E) (M : F → Type 0) : Type 0 where
  pub own : (f : F) → (e ≡ s.start → ⊥) → GivesFirst s log e f → M f
  pub needed : (g : F) (y : E) (f : F) → M g → Contains (s.needs g) y → (y ≡ s.start → ⊥) → GivesFirst s log y f → M f

-- What fs tells of e: it is a derivation, so it can be applied alone, in its order; it is empty for the
-- start alone; its last firing gives e. It has the giver of e and with each firing the givers of its
-- needs, and any list that has these has all of fs: no firing can be left out.
pub record Tells {E F : Type 0} (s : System E F) (log : List F) (e : E) (fs : List F) : Type 0 where
  pub derivation : Derivation s fs
  pub none : (fs ≡ []) ↔ (e ≡ s.start)
  pub last : (before : List F) (f : F) → fs ≡ before ++ f ∷ [] → Contains (s.gives f) e
  pub complete : HasGivers s log e (Contains fs)
  pub least : (gs : List F) → HasGivers s log e (Contains gs) → Within (Contains gs) fs
