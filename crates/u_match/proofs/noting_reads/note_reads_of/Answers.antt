use Rattle.std.proofs.Common.{inr, subst}
use Rattle.std.specs.Prelude.{Contains}
use Rattle.u_name.specs.Name.{Activity}
use Rattle.u_match.specs.Keys.{Notes}
use Rattle.u_match.proofs.Naming.{notes_nothing}
use Rattle.u_match.proofs.noting_reads.note_reads_of.Goals as goal

pub returns-clause-ok : goal.returns-clause-ok
returns-clause-ok c v w m n =
    let first = c.met_at-structures.ensures v in
    let second = c.met_at-indices.ensures w in
    inr (subst (λ (a : Activity). Notes a v w c.note_reads.new.reads) c.activity.ensures (c.in_ok-note_reads.ensures.ok v (first.1 m) w (second.1 n)))

pub returns-then-not-may_name-clause-ok : goal.returns-then-not-may_name-clause-ok
returns-then-not-may_name-clause-ok c v w m n = notes_nothing (Contains c.args.history.now.entries) c.args.token.now c.args.reads.now (c.may_name.ensures c.if-not-may_name.true) v w m n
