-- The place of a source at the end of a line.
use Rattle.std.specs.Prelude.{ℕ, List}
use Rattle.u_name.specs.Name.{Activity}
use Rattle.u_compile.specs.declared.origins.BlockOrigins.{BlockOrigins}
use Rattle.u_compile.specs.Places.{place_of}

-- the place of the activity's statement, if it is known
abbrev pub place_at : List BlockOrigins → Activity → List ℕ
place_at origins a = place_of origins a.block a.statement
