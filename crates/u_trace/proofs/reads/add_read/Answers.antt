use Rattle.std.specs.Prelude.{Contains}
use Rattle.u_trace.specs.Gathering.{ReadsOn}
use Rattle.u_sets.proofs.Steps.{nothing, the_one}
use Rattle.u_trace.proofs.ReadLaws.{read, reads_nothing, reads_written, it_reads, one_read}
use Rattle.u_trace.proofs.reads.add_read.Goals as goal

pub returns-in-None-clause-ok : goal.returns-in-None-clause-ok
returns-in-None-clause-ok c =
    nothing (ReadsOn (Contains c.args.history.now) c.args.reader.now c.args.structure.now c.args.index.now) c.args.found.now.items
    (reads_nothing (Contains c.args.history.now) c.args.reader.now c.args.structure.now c.args.index.now c.in_ok-named.named c.in_ok-named.ensures c.in-None.is)

pub returns-then-not-is_unwritten-clause-ok : goal.returns-then-not-is_unwritten-clause-ok
returns-then-not-is_unwritten-clause-ok c =
    nothing (ReadsOn (Contains c.args.history.now) c.args.reader.now c.args.structure.now c.args.index.now) c.args.found.now.items
    (reads_written (Contains c.args.history.now) c.args.reader.now c.args.structure.now c.args.index.now c.in_ok-named.named c.in_ok-named.ensures c.in-Some.cell c.in-Some.is (λ u. let h = c.is_unwritten.ensures.1 u in let n = c.if-not-is_unwritten.true in cc))

pub returns-clause-ok : goal.returns-clause-ok
returns-clause-ok c =
    the_one (ReadsOn (Contains c.args.history.now) c.args.reader.now c.args.structure.now c.args.index.now) (read c.in_ok-reader.reader c.in-Some.cell) c.args.found.now.items c.place_in.new.list.items
    (it_reads (Contains c.args.history.now) c.args.reader.now c.args.structure.now c.args.index.now c.in_ok-named.named c.in_ok-named.ensures c.in_ok-reader.reader c.in-Some.cell c.in_ok-reader.ensures c.in-Some.is (c.is_unwritten.ensures.0 c.if-not-is_unwritten.false))
    (one_read (Contains c.args.history.now) c.args.reader.now c.args.structure.now c.args.index.now c.in_ok-named.named c.in_ok-named.ensures c.in_ok-reader.reader c.in-Some.cell c.in_ok-reader.ensures c.in-Some.is)
    c.in_ok-place_in.ensures.ok
