use Rattle.u_explain.proofs.ScanLaws.{Scanned}
use Rattle.u_explain.proofs.scanning.behind_lines.Given as goal

abbrev pub invariant-loop-done : goal.invariant-loop-done
invariant-loop-done l = Scanned l.bytes l.done l.rest l.place
