use Rattle.std.proofs.Common.{sym, subst, arith, Err, Ok}
use Rattle.u_replica.specs.Marking.{fresh_marks}
use Rattle.u_replica.specs.ReplicaState.{replica}
use Rattle.u_replica.specs.Restoring.{IsRestoreError, RestoresWritten, RestoresFront}
use Rattle.u_replica.proofs.FiredLaws.{own_version, nothing_written, nothing_front, read_restart, refused_fits, refused_error, refused_written, refused_front, all_restored, all_written, all_fronted}
use Rattle.u_replica.proofs.RestoreLaws.{whole_of_written}
use Rattle.u_replica.proofs.replica.Replica.restore_watched.Goals as goal

-- nothing was read

pub returns-in-Err-clause-written : goal.returns-in-Err-clause-written
returns-in-Err-clause-written g c =
    let a = c.args in
    subst (λ x. RestoresWritten a.job.now a.limit a.restart.checkpoint.now (Err x)) (sym c.unread.ensures)
    (nothing_written a.job.now a.limit a.restart.checkpoint.now c.in-Err.error (own_version c.version-version.ensures.version c.program.ensures.program) (omega arith) c.in-Err.ensures)

pub returns-in-Err-clause-whole : goal.returns-in-Err-clause-whole
returns-in-Err-clause-whole g c =
    let a = c.args in
    whole_of_written a.job.now a.limit a.restart.number a.restart.life a.restart.checkpoint.now (Err c.unread.result) (returns-in-Err-clause-written g c)

pub returns-in-Err-clause-front : goal.returns-in-Err-clause-front
returns-in-Err-clause-front g c =
    let a = c.args in
    subst (λ x. RestoresFront a.job.now a.limit a.restart.checkpoint.now (Err x)) (sym c.unread.ensures)
    (nothing_front a.job.now a.limit a.restart.checkpoint.now c.in-Err.error (own_version c.version-version.ensures.version c.program.ensures.program) (omega arith) c.in-Err.ensures)

-- what was read was not taken

pub untaken-requires : goal.untaken-requires
untaken-requires g c =
    let is = c.in-Ok.ensures in
    refused_fits (read_restart (own_version c.version-version.ensures.version c.program.ensures.program) c.in_ok-machine.ensures (omega arith) c.in-Ok.ensures c.as_slice.ensures) c.in-Err-take_behind.refusal c.in-Err-take_behind.ensures (omega (arith, is.few))

pub returns-in-Err-take_behind-clause-answer : goal.returns-in-Err-take_behind-clause-answer
returns-in-Err-take_behind-clause-answer g c =
    let a = c.args in
    subst (λ x. IsRestoreError a.job.now a.limit a.restart.checkpoint.now x) (sym c.untaken.ensures)
    (refused_error (read_restart (own_version c.version-version.ensures.version c.program.ensures.program) c.in_ok-machine.ensures (omega arith) c.in-Ok.ensures c.as_slice.ensures) c.in-Err-take_behind.refusal c.in-Err-take_behind.ensures)

pub returns-in-Err-take_behind-clause-written : goal.returns-in-Err-take_behind-clause-written
returns-in-Err-take_behind-clause-written g c =
    let a = c.args in
    subst (λ x. RestoresWritten a.job.now a.limit a.restart.checkpoint.now (Err x)) (sym c.untaken.ensures)
    (refused_written (read_restart (own_version c.version-version.ensures.version c.program.ensures.program) c.in_ok-machine.ensures (omega arith) c.in-Ok.ensures c.as_slice.ensures) c.in-Err-take_behind.refusal c.in-Err-take_behind.ensures)

pub returns-in-Err-take_behind-clause-whole : goal.returns-in-Err-take_behind-clause-whole
returns-in-Err-take_behind-clause-whole g c =
    let a = c.args in
    whole_of_written a.job.now a.limit a.restart.number a.restart.life a.restart.checkpoint.now (Err c.untaken.result) (returns-in-Err-take_behind-clause-written g c)

pub returns-in-Err-take_behind-clause-front : goal.returns-in-Err-take_behind-clause-front
returns-in-Err-take_behind-clause-front g c =
    let a = c.args in
    subst (λ x. RestoresFront a.job.now a.limit a.restart.checkpoint.now (Err x)) (sym c.untaken.ensures)
    (refused_front (read_restart (own_version c.version-version.ensures.version c.program.ensures.program) c.in_ok-machine.ensures (omega arith) c.in-Ok.ensures c.as_slice.ensures) c.in-Err-take_behind.refusal c.in-Err-take_behind.ensures)

-- it was taken

pub returns-clause-answer : goal.returns-clause-answer
returns-clause-answer g c =
    let a = c.args in
    rw c.new-2.ensures
    (all_restored (read_restart (own_version c.version-version.ensures.version c.program.ensures.program) c.in_ok-machine.ensures (omega arith) c.in-Ok.ensures c.as_slice.ensures) a.restart.number a.restart.life c.take_behind.new.machine c.in-Ok-take_behind.ensures)

pub returns-clause-written : goal.returns-clause-written
returns-clause-written g c =
    let a = c.args in
    all_written (read_restart (own_version c.version-version.ensures.version c.program.ensures.program) c.in_ok-machine.ensures (omega arith) c.in-Ok.ensures c.as_slice.ensures) a.restart.number a.restart.life c.take_behind.new.machine c.in-Ok-take_behind.ensures

pub returns-clause-whole : goal.returns-clause-whole
returns-clause-whole g c =
    let a = c.args in
    whole_of_written a.job.now a.limit a.restart.number a.restart.life a.restart.checkpoint.now (Ok (replica c.take_behind.new.machine a.restart.number a.restart.life fresh_marks, c.in-Ok.read.checkpoint.ending)) (returns-clause-written g c)

pub returns-clause-front : goal.returns-clause-front
returns-clause-front g c =
    let a = c.args in
    rw c.new-2.ensures
    (all_fronted (read_restart (own_version c.version-version.ensures.version c.program.ensures.program) c.in_ok-machine.ensures (omega arith) c.in-Ok.ensures c.as_slice.ensures) a.restart.number a.restart.life c.take_behind.new.machine c.in-Ok-take_behind.ensures)
