use Rattle.std.proofs.Common.{◌≡◌, ◌<◌, ◌-◌, suc, length, arith}
use Rattle.u_history.proofs.Numbering.{at_number}
use Rattle.u_history.proofs.tables.Tables.has_token.Goals as goal

pub returns : goal.returns
returns c =
    let t = c.args.self.now in
    let a = c.port.ensures.port in
    let b = c.port.ensures.range.port in
    let f = c.from-place.ensures in
    let e : c.args.item.now.port ≡ suc (c.from-place.result - 1) = omega arith in
    let l : c.from-place.result - 1 < length t.columns = omega (arith, c.requires.ports) in
    let m = at_number t c.requires c.args.item.now.port (c.from-place.result - 1) c.number_for-number.result c.index-self-place.result c.activity.result.now c.value.result.now e l c.number_for-number.ensures in
    rw (← c.activity.ensures, ← c.value.ensures) ((λ h. m.0 (c.contains.ensures.0 h)), λ h. c.contains.ensures.1 (m.1 h))
