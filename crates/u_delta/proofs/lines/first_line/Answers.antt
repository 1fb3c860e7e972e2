use Rattle.std.proofs.Common.{◌≡◌, ◌<◌, ◌+◌, ◌-◌, length, take, sym, ◌∙◌, ap, subst, arith}
use Rattle.std.proofs.lemmas.List.{length-drop}
use Rattle.u_base.specs.Pieces.{IsCutInto}
use Rattle.u_delta.proofs.NewlineLaws.{cut_at_first, cut_at_none, within}
use Rattle.u_delta.proofs.lines.first_line.Goals as goal

pub returns-in-Some-clause-cut : goal.returns-in-Some-clause-cut
returns-in-Some-clause-cut c =
    subst (λ rest. IsCutInto 10 c.args.bytes.now (take c.in-Some.place c.args.bytes.now) rest) (sym c.behind.ensures) (cut_at_first c.args.bytes.now c.in-Some.place c.in-Some.ensures)

pub returns-in-Some-clause-shorter : goal.returns-in-Some-clause-shorter
returns-in-Some-clause-shorter c =
    let l : c.in-Some.place < length c.args.bytes.now = within c.args.bytes.now c.in-Some.place c.in-Some.ensures in
    let e : length c.behind.result.now ≡ length c.args.bytes.now - (c.in-Some.place + 1) = ap length c.behind.ensures ∙ length-drop (c.in-Some.place + 1) c.args.bytes.now in
    omega (arith, l, e)

pub returns-in-None-clause-cut : goal.returns-in-None-clause-cut
returns-in-None-clause-cut c = cut_at_none c.args.bytes.now c.in-None.ensures
