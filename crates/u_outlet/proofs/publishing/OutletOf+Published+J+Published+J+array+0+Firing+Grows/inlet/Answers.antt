use Rattle.u_outlet.proofs.Growing.{admits}
use Rattle.u_outlet.proofs.publishing.OutletOf+Published+J+Published+J+array+0+Firing+Grows.inlet.Goals as goal

pub reader-requires : goal.reader-requires
reader-requires g c shown = admits shown
