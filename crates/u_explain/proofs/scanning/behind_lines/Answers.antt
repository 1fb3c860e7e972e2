use Rattle.std.proofs.Common.{◌≡◌, arith, subst}
use Rattle.u_explain.proofs.ScanLaws.{Scanned, scanned_next, scanned_all}
use Rattle.u_explain.proofs.scanning.behind_lines.Goals as goal

pub loop-done-preserved : goal.loop-done-preserved
loop-done-preserved c = scanned_next c.args.bytes.now c.loop-done.done c.loop-done.rest.now c.loop-done.place c.in-Some.line.now c.in-Some.others.now c.behind-place.result c.loop-done.invariant c.in-Some.ensures.cut c.behind-place.ensures

pub returns : goal.returns
returns c = λ before others e l b.
    let high = c.loop-done.auto.done-end in
    let last = c.loop-done-test.false in
    let n : c.loop-done.done ≡ c.args.count = omega (arith, high, last) in
    let r = scanned_all c.args.bytes.now c.args.count c.loop-done.rest.now c.loop-done.place (subst (λ i. Scanned c.args.bytes.now i c.loop-done.rest.now c.loop-done.place) n c.loop-done.invariant) before others e l b in
    (r.0, omega (arith, l), r.1)
