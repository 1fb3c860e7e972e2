use Rattle.std.proofs.Common.{◌+◌, length, sym}
use Rattle.std.proofs.lemmas.List.{length-take-le}
use Rattle.u_replica.proofs.EndedLines.{end_within}
use Rattle.u_replica.proofs.checkpoint_reading.with_newline.Goals as goal

pub slice_bounds-result-end : goal.slice_bounds-result-end
slice_bounds-result-end c =
    sym (length-take-le (length c.args.line.now + 1) c.args.bytes.now (end_within c.args.bytes.now c.args.line.now c.args.others.now c.requires))
