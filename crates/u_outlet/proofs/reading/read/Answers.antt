use Rattle.u_outlet.proofs.Growing.{grows, starts_same}
use Rattle.u_outlet.proofs.reading.read.Goals as goal

pub enter_as-requires : goal.enter_as-requires
enter_as-requires g c shown = grows _ _ shown shown (starts_same shown)
