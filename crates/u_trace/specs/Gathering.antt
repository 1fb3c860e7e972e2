-- What one entry adds to what waits.
use Rattle.std.specs.Prelude.{◌≡◌, List, [], ◌∷◌, Some, Ok}
use Rattle.u_name.specs.Name.{Activity}
use Rattle.u_value.specs.declared.value.Value.{Value}
use Rattle.u_program.specs.declared.program.Kind.TheVariants.{Fetch}
use Rattle.u_program.specs.Parts.{BlockParts, StatementParts}
use Rattle.u_rule.specs.Fits.{statement_of}
use Rattle.u_rule.specs.Structures.{cell_named}
use Rattle.u_rule.specs.declared.entry.Entry.{Entry}
use Rattle.u_rule.specs.declared.entry.Entry.TheVariants as entries
use Rattle.u_history.specs.Outcomes.{ValueAt}
use Rattle.u_trace.specs.Waiting.{IsWaiting}
use Rattle.u_trace.specs.Deferred.{IsUnwritten}
use Rattle.u_trace.specs.declared.activities.WaitingActivity.{WaitingActivity}
use Rattle.u_trace.specs.declared.reads.DeferredRead.{DeferredRead}

-- the entry is a token of the activity
abbrev pub IsTokenOf : Activity → Entry → Type 0
IsTokenOf a (entries.Token t) = t.activity ≡ a
IsTokenOf a e = ⊥

-- w waits, and the entry is a token of it
abbrev pub WaitsAt : List BlockParts → (Entry → Type 0) → Entry → WaitingActivity → Type 0
WaitsAt p H e w = IsTokenOf w.activity e × IsWaiting p H w

-- r is a read by that activity of the cell that the two values name, and the cell has no write
abbrev pub ReadsOn : (Entry → Type 0) → Activity → Value → Value → DeferredRead → Type 0
ReadsOn H a structure index r = (a ≡ r.reader) × (cell_named (structure ∷ index ∷ []) ≡ Ok r.cell) × IsUnwritten H r.cell

-- the activity is one of a `fetch`
abbrev pub IsFetchIn : List BlockParts → Activity → Type 0
IsFetchIn p a = (s : StatementParts) × (statement_of p a.block a.statement ≡ Some s) × (s.kind ≡ Fetch)

-- the entry is a token at the first port of a `fetch`, and r a deferred read with its value as the structure
abbrev pub ReadsAt : List BlockParts → (Entry → Type 0) → Entry → DeferredRead → Type 0
ReadsAt p H (entries.Token t) r = (t.port ≡ 1) × IsFetchIn p t.activity × ((v : Value) × ValueAt H t.activity 2 v × ReadsOn H t.activity t.value v r)
ReadsAt p H e r = ⊥
