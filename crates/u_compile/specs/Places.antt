-- Places of a source, as they are told beside what speaks of the statements of its program.
use Rattle.std.specs.Prelude.{ℕ, ◌-◌, ◌==◌, if◌then◌else◌, List, [], ◌∷◌, ◌++◌, Option, Some, None, slice_get, codes, decimal}
use lib.Pointwise.{pointwise}
use Rattle.u_compile.specs.declared.origins.Origin.{Origin}
use Rattle.u_compile.specs.declared.origins.BlockOrigins.{BlockOrigins}
use Rattle.u_compile.specs.Maps.{statement_text, role_words, name_part}

-- where the statement with this number of that block comes from
abbrev pub origin_of : List BlockOrigins → List ℕ → ℕ → Option Origin
origin_of [] block n = None
origin_of (b ∷ bs) block n =
    if pointwise ◌==◌ b.name block then slice_get b.origins.items (n - 1) else origin_of bs block n

-- `  BLOCK.STATEMENT line LINE column COLUMN, ROLE [of NAME]`
unfoldable pub place_text : List ℕ → ℕ → Origin → List ℕ
place_text block n o =
    codes "  "
    ++ (statement_text block n
    ++ ((codes " line " ++ decimal o.place.line)
    ++ ((codes " column " ++ decimal o.place.column)
    ++ ((codes ", " ++ role_words o.role) ++ name_part (codes " of ") o.name))))

abbrev pub place_if : List ℕ → ℕ → Option Origin → List ℕ
place_if block n None = []
place_if block n (Some o) = place_text block n o

-- the place of the statement with this number of that block, nothing if the origins do not tell it
abbrev pub place_of : List BlockOrigins → List ℕ → ℕ → List ℕ
place_of origins block n = place_if block n (origin_of origins block n)
