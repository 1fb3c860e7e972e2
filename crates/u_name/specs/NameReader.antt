-- The reader of names as the code goes: the `(`, the `-`, the frames one by one, the tail.
use Rattle.std.specs.Prelude.{ℕ, zero, suc, List, [], ◌∷◌, ◌⊎◌, Ok, cond, ◌==◌}
use Rattle.std.proofs.Common.{inl, inr}
use Rattle.u_base.specs.Then.{AreBoth, both}
use Rattle.u_base.specs.Choice.{IsOne, mapped, choice}
use Rattle.u_base.specs.Number.{number, IsUpTo}
use Rattle.u_base.specs.Reader.{Reader, ◌>>=◌}
use Rattle.u_base.specs.Parts.{empty, lead}
use Rattle.u_base.specs.Fixed.{IsUnit}
use Rattle.u_name.specs.Block.{IsBlock}
use Rattle.u_name.specs.Context.{Tree, Top, InLoop, InCall}
use Rattle.u_name.specs.Name.{Activity, activity}
use Rattle.u_name.specs.BlockText.{block_at}

-- what is read of a loop or a call: the block, the number of the loop or of the statement, and the initiation
abbrev pub Frame : Type 0
Frame = List ℕ × ((ℕ ⊎ ℕ) × (ℕ × Unit {0}))

-- what is read behind the context: the block, the statement and the initiation
abbrev pub Tail : Type 0
Tail = List ℕ × (ℕ × ℕ)

-- this byte
abbrev pub byte : ℕ → Reader (Unit {0})
byte c = lead c (empty tt)

-- `Ll` or `s`
abbrev pub linkage_at : Reader (ℕ ⊎ ℕ)
linkage_at = choice 76 (number 99) (number 999)

-- `.c.Ll.i)` or `.c.s.i)`
abbrev pub frame_at : Reader Frame
frame_at = lead 46 (both block_at (λ _. lead 46 (both linkage_at (λ _. lead 46 (both (number 18446744073709551615) (λ _. byte 41))))))

-- `.c.s.i`
abbrev pub tail_at : Reader Tail
tail_at = lead 46 (both block_at (λ _. lead 46 (both (number 999) (λ _. lead 46 (number 18446744073709551615)))))

abbrev pub to_depth : ℕ ⊎ Unit {0} → ℕ
to_depth = elim [ inl d ↦ suc d | inr _ ↦ 0 ]

-- up to so many `(`, and a `-`
abbrev pub opens_at : ℕ → Reader ℕ
opens_at zero = mapped (λ _. 0) (byte 45)
opens_at (suc n) = mapped to_depth (choice 40 (opens_at n) (byte 45))

-- the context that a frame makes on an outer one
abbrev pub framed : Tree → Frame → Tree
framed u f = elim f.1.0 [ inl l ↦ InLoop u f.0 l f.1.1.0 | inr s ↦ InCall u f.0 s f.1.1.0 ]

-- the parts are in their ranges
abbrev pub IsLinkage : ℕ ⊎ ℕ → Type 0
IsLinkage = IsOne (IsUpTo 99) (IsUpTo 999)

abbrev pub IsFrame : Frame → Type 0
IsFrame = AreBoth IsBlock (λ _. AreBoth IsLinkage (λ _. AreBoth (IsUpTo 18446744073709551615) (λ _. IsUnit)))

abbrev pub IsTail : Tail → Type 0
IsTail = AreBoth IsBlock (λ _. AreBoth (IsUpTo 999) (λ _. IsUpTo 18446744073709551615))

-- how many `(` stand at the front, up to a most
abbrev pub paren_span : ℕ → List ℕ → ℕ
paren_span zero cs = 0
paren_span (suc room) [] = 0
paren_span (suc room) (c ∷ cs) = cond (c == 40) (suc (paren_span room cs)) 0

-- so many frames, each around what is read before it
abbrev pub frames_from : ℕ → Tree → Reader Tree
frames_from zero u bs = Ok (u, bs)
frames_from (suc d) u bs = frame_at bs >>= λ a. frames_from d (framed u a.0) a.1

-- 64 `(` at most, and a `-`
unfoldable pub dash_at : Reader ℕ
dash_at bs = opens_at 64 bs

-- a whole context
abbrev pub context_at : Reader Tree
context_at bs = dash_at bs >>= λ d. frames_from d.0 Top d.1

-- the name in that context, behind the context's text
abbrev pub name_in : Tree → Reader Activity
name_in u bs = tail_at bs >>= λ t. Ok (activity u t.0.0 t.0.1.0 t.0.1.1, t.1)

-- what stands behind the `-` of a context of that depth
abbrev pub rest_at : ℕ → Reader Activity
rest_at d bs = frames_from d Top bs >>= λ c. tail_at c.1 >>= λ t. Ok (activity c.0 t.0.0 t.0.1.0 t.0.1.1, t.1)

-- a whole name
abbrev pub name_steps : Reader Activity
name_steps bs = dash_at bs >>= λ d. rest_at d.0 d.1
