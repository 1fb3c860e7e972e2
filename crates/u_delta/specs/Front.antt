-- What is found at the front of some bytes.
use Rattle.std.specs.Prelude.{◌<◌, ℕ, List, length}
use Rattle.u_delta.specs.declared.lines.Ahead.{Ahead}
use Rattle.u_delta.specs.declared.lines.Ahead.TheVariants.{Line, Rest, TooLong}
use Rattle.u_delta.specs.Lines.{IsLineAhead, IsRestAhead, IsLongAhead}

abbrev pub IsAhead : List ℕ → Ahead → Type 0
IsAhead bytes (Line line rest) = IsLineAhead bytes line.now rest.now × (length rest.now < length bytes)
IsAhead bytes Rest = IsRestAhead bytes
IsAhead bytes TooLong = IsLongAhead bytes
