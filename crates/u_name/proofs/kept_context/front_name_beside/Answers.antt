use Rattle.std.proofs.Common.{rules, ◌≡◌}
use Rattle.u_name.specs.NameReader.{name_in, name_steps}
use Rattle.u_name.proofs.ContextTexts.{behind_front, behind_context}
use Rattle.u_name.proofs.kept_context.front_name_beside.Goals as goal

pub returns-in-Some : goal.returns-in-Some
returns-in-Some c =
    let e : name_steps c.args.bytes.now ≡ name_in c.kept.inside.spelled.context c.in-Some.rest.now =
    behind_front c.args.bytes.now c.kept.inside.spelled.text.now c.kept.inside.spelled.context c.in-Some.rest.now c.kept.invariant c.in-Some.ensures in
    rw e c.front_name_in.ensures

pub returns-in-Ok : goal.returns-in-Ok
returns-in-Ok c =
    let e : name_steps c.args.bytes.now ≡ name_in c.in-Ok.spelled.context c.in-Ok.rest.now =
    behind_context c.args.bytes.now c.in-Ok.spelled.context c.in-Ok.rest.now (search rules) in
    rw e c.front_name_in-in-Ok.ensures
