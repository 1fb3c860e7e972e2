-- When the reader of a word refuses it.
use Rattle.std.specs.Prelude.{◌≡◌, Option, None}
use Rattle.u_program.specs.declared.reading.WordFault.{WordFault}
use Rattle.u_program.specs.declared.reading.WordFault.TheVariants.{Bad, NoMemory}

-- refused exactly where the reader refuses, or for want of memory
abbrev pub Refuses : {X : Type 0} → WordFault → Option X → Type 0
Refuses Bad read = read ≡ None
Refuses NoMemory read = Unit {0}
