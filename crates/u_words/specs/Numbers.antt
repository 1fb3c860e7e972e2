-- Numbers on the command line.
use Rattle.std.specs.Prelude.{◌≡◌, ℕ, ◌≤◌, List}
use Rattle.std.specs.Fmt.{decimal}

-- how many firings a run may be given: from one to a million
abbrev pub IsFirings : ℕ → Type 0
IsFirings n = (1 ≤ n) × (n ≤ 1000000)

-- how many firings the picture of a run has at most: from one to two thousand
abbrev pub IsDrawn : ℕ → Type 0
IsDrawn n = (1 ≤ n) × (n ≤ 2000)

-- the word is the decimal text of the number
abbrev pub IsNumberText : ℕ → List ℕ → Type 0
IsNumberText n word = word ≡ decimal n

-- how many replicas a world has, or workers a fleet: from one to eight
abbrev pub IsOneToEight : ℕ → Type 0
IsOneToEight n = (1 ≤ n) × (n ≤ 8)

-- which port of an activity: from the first to the fifth
abbrev pub IsPort : ℕ → Type 0
IsPort n = (1 ≤ n) × (n ≤ 5)
