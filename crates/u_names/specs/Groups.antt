-- Groups of activities: three that lie side by side, of one block and context and at one initiation.
use Rattle.std.specs.Prelude.{◌≡◌, ℕ, ◌+◌, ◌-◌, ◌%◌, ◌^◌, ◌≤◌, List, [], ◌∷◌, ◌++◌, length, Contains}
use Rattle.u_base.specs.Firing.{Distinct}
use Rattle.u_name.specs.Name.{Activity}
use Rattle.u_names.specs.Frames.{beside}

-- how far a statement stands behind the first one of its group
abbrev pub behind : ℕ → ℕ
behind statement = (statement - 1) % 3

-- the first statement of the group
abbrev pub leader : ℕ → ℕ
leader statement = statement - behind statement

-- the activity so many statements behind
abbrev pub later : Activity → ℕ → Activity
later a n = beside a (a.statement + n)

-- the groups of these activities
abbrev pub groups : List Activity → List Activity
groups [] = []
groups (a ∷ bs) = later a 0 ∷ later a 1 ∷ later a 2 ∷ groups bs

-- each is the first one of its group, no two are the same, and numbers of their groups fit
pub record AreLeaders (ls : List Activity) : Type 0 where
  pub distinct : Distinct ls
  pub first : (a : Activity) → Contains ls a → (behind a.statement ≡ 0) × (1 ≤ a.statement) × (a.statement ≤ 999)
  pub few : length ls ≤ 2 ^ 62

-- new has what old has at the same places, and may have more behind
abbrev pub Grows : {X : Type 0} → List X → List X → Type 0
Grows {X} old new = (rest : List X) × (new ≡ old ++ rest)
