use Rattle.u_outlet.proofs.Growing.{admits, forks, merges}
use Rattle.u_outlet.proofs.publishing.OutletOf+Published+J+Published+J+array+0+Firing+Grows.notice.Goals as goal

pub reader-requires : goal.reader-requires
reader-requires g c shown = admits shown

pub tell-requires : goal.tell-requires
tell-requires g c shown = forks _ _ shown

pub learn-requires-clause-rule : goal.learn-requires-clause-rule
learn-requires-clause-rule g c shown = merges _ _ _ _ shown
