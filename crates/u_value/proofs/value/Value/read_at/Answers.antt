use Rattle.std.proofs.Common.{◌≡◌, ◌∙◌, Ok, Err, ap, rules}
use Rattle.u_value.specs.Reading.{value_at}
use Rattle.u_value.proofs.ReadingLaws.{value_found, value_missing, value_found_within, value_missing_within}
use Rattle.u_value.proofs.value.Value.read_at.Goals as goal

pub overflow_sub-result : goal.overflow_sub-result
overflow_sub-result c =
    let h : value_at c.behind.result.now ≡ Ok (c.in-Ok.value, c.in-Ok.rest.now) = search rules in
    value_found_within c.args.bytes.now c.args.offset c.in-Ok.value c.in-Ok.rest.now (ap value_at c.behind.ensures ∙ h)

pub overflow_sub-result-in-Err : goal.overflow_sub-result-in-Err
overflow_sub-result-in-Err c =
    let h : value_at c.behind.result.now ≡ Err c.in-Err.rest.now = search rules in
    value_missing_within c.args.bytes.now c.args.offset c.in-Err.rest.now (ap value_at c.behind.ensures ∙ h)

pub returns-in-Ok : goal.returns-in-Ok
returns-in-Ok c =
    let h : value_at c.behind.result.now ≡ Ok (c.in-Ok.value, c.in-Ok.rest.now) = search rules in
    value_found c.args.bytes.now c.args.offset c.in-Ok.value c.in-Ok.rest.now c.requires (ap value_at c.behind.ensures ∙ h)

pub returns-in-Err : goal.returns-in-Err
returns-in-Err c =
    let h : value_at c.behind.result.now ≡ Err c.in-Err.rest.now = search rules in
    value_missing c.args.bytes.now c.args.offset c.in-Err.rest.now c.requires (ap value_at c.behind.ensures ∙ h)
