use Rattle.std.proofs.Common.{◌≡◌, ◌<◌, ◌-◌, ◌∙◌, Err, length, ap, sym, subst, rules, arith}
use Rattle.std.proofs.lemmas.Bool.Decides.{nat_tests}
use Rattle.u_rule.specs.FiringReading.{line, firing_at, IsFiringErrorOf}
use Rattle.u_rule.proofs.FiringReadingLaws.{firing_refused, firing_refused_behind, firing_refused_within}
use Rattle.u_rule.specs.declared.reading.TextError.TheVariants.{BadText}
use Rattle.u_rule.proofs.firing_reading.refused_at.Goals as goal

pub overflow_sub-result : goal.overflow_sub-result
overflow_sub-result c = firing_refused_within c.args.line.now c.args.rest.now c.requires.refused

pub returns-then-is_empty : goal.returns-then-is_empty
returns-then-is_empty c =
    let h : firing_at (line c.args.bytes.now) ≡ Err c.args.rest.now = ap firing_at (sym c.requires.line) ∙ c.requires.refused in
    let nothing_left : length c.args.rest.now ≡ 0 = search rules in
    firing_refused_behind c.args.bytes.now c.args.rest.now h nothing_left

pub returns-else-is_empty : goal.returns-else-is_empty
returns-else-is_empty c =
    let h : firing_at (line c.args.bytes.now) ≡ Err c.args.rest.now = ap firing_at (sym c.requires.line) ∙ c.requires.refused in
    let some_left : 0 < length c.args.rest.now = grind (arith, nat_tests, c.if-is_empty.ensures, c.if-is_empty.false) in
    subst (λ l. IsFiringErrorOf c.args.bytes.now (BadText (length l - length c.args.rest.now))) (sym c.requires.line) (firing_refused c.args.bytes.now c.args.rest.now h some_left)
