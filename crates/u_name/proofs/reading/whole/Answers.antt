use Rattle.std.proofs.Common.{◌≡◌, ◌<◌, length, sym, subst, rules, arith}
use Rattle.std.proofs.lemmas.Bool.Decides.{nat_tests}
use Rattle.u_name.specs.NameReading.{IsNameErrorOf}
use Rattle.u_name.proofs.WholeTexts.{name_whole, name_left_over}
use Rattle.u_name.proofs.reading.whole.Goals as goal

pub returns-then-is_empty : goal.returns-then-is_empty
returns-then-is_empty c =
    let nothing_left : length c.args.rest.now ≡ 0 = search rules in
    name_whole c.args.bytes.now c.args.name c.args.rest.now c.requires.read nothing_left

pub returns-else-is_empty : goal.returns-else-is_empty
returns-else-is_empty c =
    let some_left : 0 < length c.args.rest.now = grind (arith, nat_tests, c.if-is_empty.ensures, c.if-is_empty.false) in
    subst (λ e. IsNameErrorOf c.args.bytes.now e) (sym c.stuck_at.ensures) (name_left_over c.args.bytes.now c.args.name c.args.rest.now c.requires.fine c.requires.read some_left)
