-- What reading a name answers.
use Rattle.std.specs.Prelude.{ℕ, ◌<◌, ◌≤◌, List, drop}
use Rattle.u_name.specs.Name.{Activity, IsName}
use Rattle.u_name.specs.NameText.{name_text}
use Rattle.u_name.specs.NameReader.{paren_span}
use Rattle.u_base.specs.TextAt.{IsTextOf, IsNoText, IsTextAt, IsNoTextAt}
use Rattle.u_name.specs.declared.reading.NameTextError.{NameTextError}
use Rattle.u_name.specs.declared.reading.NameTextError.TheVariants.{BadName, Deep, NoMemory}

-- the name of the longest text that begins at the offset, and its end
abbrev pub IsNameAt : List ℕ → ℕ → Activity → ℕ → Type 0
IsNameAt = IsTextAt name_text IsName

-- no name's text begins at the offset, and k is where the longest front of one ends; or 65 `(` stand there; or a growth was refused
abbrev pub IsNameErrorAt : List ℕ → ℕ → NameTextError → Type 0
IsNameErrorAt bytes offset (BadName k) = IsNoTextAt name_text IsName bytes offset k × (paren_span 65 (drop offset bytes) ≤ 64)
IsNameErrorAt bytes offset Deep = 64 < paren_span 65 (drop offset bytes)
IsNameErrorAt bytes offset NoMemory = Unit {0}

abbrev pub IsNameOf : List ℕ → Activity → Type 0
IsNameOf = IsTextOf name_text IsName

-- the bytes are no name's text, and k is where the longest front of one ends; or they begin with 65 `(`; or a growth was refused
abbrev pub IsNameErrorOf : List ℕ → NameTextError → Type 0
IsNameErrorOf bytes (BadName k) = IsNoText name_text IsName bytes k × (paren_span 65 bytes ≤ 64)
IsNameErrorOf bytes Deep = 64 < paren_span 65 bytes
IsNameErrorOf bytes NoMemory = Unit {0}
