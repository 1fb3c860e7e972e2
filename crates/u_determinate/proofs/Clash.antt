-- What two entries are that a history of a determinate job has only if it has two writes of a cell.
use Rattle.std.proofs.Common.{◌≡◌}
use Rattle.u_rule.specs.declared.entry.Entry.{Entry}
use Rattle.u_rule.specs.declared.entry.Entry.TheVariants as entries

-- two values at one port
abbrev pub Clash : Entry → Entry → Type 0
Clash (entries.Token a) (entries.Token b) = (a.activity ≡ b.activity) × (a.port ≡ b.port) × (a.value ≡ b.value → ⊥)
Clash a b = ⊥

-- two pairs of writer and value of one cell
abbrev pub Cells : Entry → Entry → Type 0
Cells (entries.Write a) (entries.Write b) = (a.cell ≡ b.cell) × ((a.writer ≡ b.writer) × (a.value ≡ b.value) → ⊥)
Cells a b = ⊥
