-- The tooltips of firings and entries.
use Rattle.std.specs.Prelude.{ℕ, List, [], ◌++◌}
use Rattle.u_name.specs.Name.{Activity}
use Rattle.u_rule.specs.EntryText.{entry_text}
use Rattle.u_rule.specs.FiringText.{firing_text}
use Rattle.u_rule.specs.declared.firing.Firing.{Firing}
use Rattle.u_rule.specs.declared.entry.Entry.{Entry}
use Rattle.u_rule.specs.declared.entry.Entry.TheVariants as entries
use Rattle.u_compile.specs.declared.origins.BlockOrigins.{BlockOrigins}
use Rattle.u_compile.specs.Places.{place_of}

-- the place of the statement that an activity executes
abbrev pub activity_place : List BlockOrigins → Activity → List ℕ
activity_place origins a = place_of origins a.block a.statement

-- that of the statement of which an entry speaks: a token and a fault of their activity's, a write of that which made
-- the structure, an answer of none
abbrev pub spoken_place : List BlockOrigins → Entry → List ℕ
spoken_place origins (entries.Token t) = activity_place origins t.activity
spoken_place origins (entries.Write w) = activity_place origins w.cell.name
spoken_place origins (entries.Fault x) = activity_place origins x.activity
spoken_place origins (entries.Answer v) = []

-- the text, and the place
unfoldable pub firing_tip : List BlockOrigins → Firing → List ℕ
firing_tip origins f = firing_text f ++ activity_place origins f.activity

unfoldable pub entry_tip : List BlockOrigins → Entry → List ℕ
entry_tip origins e = entry_text e ++ spoken_place origins e
