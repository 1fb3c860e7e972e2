use Rattle.std.proofs.Common.{ap, ◌∙◌}
use Rattle.u_compile.specs.Namings.{KnownParts, a_binding, with_binding}
use Rattle.u_compile.specs.Operands.{lowering}
use Rattle.u_compile.specs.Definitions.{with_names}
use Rattle.u_compile.proofs.lowering.Lowering.parameter.Goals as goal

pub returns : goal.returns
returns c =
    let n = lowering c.pop_spelled.new.self in
    let d = c.add_parameter.new.self in
    let b = a_binding 0 c.args.number c.in_ok-value.value in
    let given = c.in_ok-value.ensures in
    record {
      named = n;
      name = c.in_ok-pop_spelled.ensures;
      kind = given.0;
      is = given.1;
      value = c.in_ok-value.value;
      gives = given.2;
      rest = ap (λ (k : KnownParts). record (with_names n k) { drawing = d }) (c.in_ok-define.ensures ∙ ap (λ (k : KnownParts). with_binding k b) c.in_ok-note_as.ensures);
    }
