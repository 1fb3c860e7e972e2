-- The number that a context is hashed by: of each loop and call its initiation and its number.
use Rattle.std.specs.Prelude.{ℕ, ◌+◌, ◌*◌, ◌%◌, ◌^◌}
use Rattle.u_name.specs.declared.context.Linkage.{Linkage}
use Rattle.u_name.specs.declared.context.Linkage.TheVariants.{Loop, Call}
use Rattle.u_name.specs.Context.{Tree, Top, InLoop, InCall}

-- the number in the highest 16 bits, and the initiation; what goes beyond 64 bits is lost
abbrev pub loop_mark : ℕ → ℕ → ℕ
loop_mark number initiation = (number * 2 ^ 48 + initiation) % 2 ^ 64

-- a statement's number counts 32768 more, so that it is no loop's
abbrev pub call_mark : ℕ → ℕ → ℕ
call_mark statement initiation = ((32768 + statement) * 2 ^ 48 + initiation) % 2 ^ 64

abbrev pub mark_by : Linkage → ℕ → ℕ
mark_by (Loop number) initiation = loop_mark number initiation
mark_by (Call statement) initiation = call_mark statement initiation

-- what is left of a product and a sum in 64 bits
unfoldable pub next_digest : ℕ → ℕ → ℕ
next_digest outer mark = ((outer * 11400714819323198485) % 2 ^ 64 + mark) % 2 ^ 64

unfoldable pub digest : Tree → ℕ
digest Top = 0
digest (InLoop outer block number initiation) = next_digest (digest outer) (loop_mark number initiation)
digest (InCall outer block statement initiation) = next_digest (digest outer) (call_mark statement initiation)
