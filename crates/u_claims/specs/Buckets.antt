-- Buckets of names.
use Rattle.std.specs.Prelude.{ℕ, ◌+◌, ◌%◌}
use Rattle.u_name.specs.Context.{depth}
use Rattle.u_name.specs.Name.{Activity}

-- which of the 64 buckets a name belongs to
abbrev pub bucket : Activity → ℕ
bucket n = (n.statement + n.initiation + depth n.context) % 64
