-- The first of what tokens show, by their numbers.
use Rattle.std.specs.Prelude.{◌≡◌, ◌<◌, ◌≤◌, ℕ, cond, nat_lt, Option, Some, None}

-- of the two what the first token shows, or the first one
abbrev pub before_by : {X : Type 0} → (X → ℕ) → X → Option X → X
before_by token a None = a
before_by token a (Some b) = cond (nat_lt (token b) (token a)) b a

-- the same, if there is any
abbrev pub first_by : {X : Type 0} → (X → ℕ) → Option X → Option X → Option X
first_by token None o = o
first_by token (Some a) o = Some (before_by token a o)

-- where f says what is shown at each node: nothing is at the first k nodes
abbrev pub NoneBelow : {X : Type 0} → (ℕ → Option X) → ℕ → Type 0
NoneBelow f k = (j : ℕ) → j < k → f j ≡ None

-- this is shown at one of the first k nodes, and no token before its own shows what is shown at another one
pub record IsLeastBelow {X : Type 0} (token : X → ℕ) (f : ℕ → Option X) (k : ℕ) (a : X) : Type 0 where
  pub number : ℕ
  pub inside : number < k
  pub there : f number ≡ Some a
  pub least : (j : ℕ) (b : X) → j < k → f j ≡ Some b → token a ≤ token b

-- the first of what is shown at the first k nodes, by its token
abbrev pub IsLeastBy : {X : Type 0} → (X → ℕ) → (ℕ → Option X) → ℕ → Option X → Type 0
IsLeastBy token f k None = NoneBelow f k
IsLeastBy token f k (Some a) = IsLeastBelow token f k a
