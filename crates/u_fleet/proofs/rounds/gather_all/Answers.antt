use Rattle.u_fleet.proofs.Firings.{gains_trans, full_before}
use Rattle.u_fleet.proofs.rounds.gather_all.Goals as goal

pub loop-inlet-preserved-in-Ok : goal.loop-inlet-preserved-in-Ok
loop-inlet-preserved-in-Ok g c = ((tt, tt), tt, gains_trans _ _ _ c.loop-inlet.invariant.2 c.gather.ensures.gains)

pub loop-inlet-preserved : goal.loop-inlet-preserved
loop-inlet-preserved g c = ((tt, tt), tt, gains_trans _ _ _ c.loop-inlet.invariant.2 c.gather.ensures.gains)

pub returns-in-Err-Full-clause-gains : goal.returns-in-Err-Full-clause-gains
returns-in-Err-Full-clause-gains g c = gains_trans _ _ _ c.loop-inlet.invariant.2 c.gather.ensures.gains

pub returns-in-Err-Full-clause-fails : goal.returns-in-Err-Full-clause-fails
returns-in-Err-Full-clause-fails g c = full_before _ _ c.loop-inlet.invariant.2 ((c.in-Err-Full.ensures).full c.in-Err-Full.field-0-is)

pub returns-in-Err-NoMemory-clause-gains : goal.returns-in-Err-NoMemory-clause-gains
returns-in-Err-NoMemory-clause-gains g c = gains_trans _ _ _ c.loop-inlet.invariant.2 c.gather.ensures.gains
