-- Places in a text: lines, and the bytes of a line, each counted from 1.
use Rattle.std.specs.Prelude.{ℕ, ◌+◌, cond, ◌==◌, List, [], ◌∷◌}
use Rattle.u_source.specs.declared.place.Position.{Position}

-- the place of a text's first byte
abbrev pub start : Position
start = record { line = 1; column = 1 }

-- the place behind a byte, which stands at this place; a newline begins a line
abbrev pub place_behind : Position → ℕ → Position
place_behind p c = cond (c == 10) (record { line = p.line + 1; column = 1 }) (record { line = p.line; column = p.column + 1 })

-- the place behind some bytes, the first of which stands at this place
abbrev pub place_after : Position → List ℕ → Position
place_after p [] = p
place_after p (c ∷ cs) = place_after (place_behind p c) cs
