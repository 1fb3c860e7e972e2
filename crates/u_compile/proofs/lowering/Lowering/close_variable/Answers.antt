use Rattle.std.proofs.Common.{refl, sym, ap, ◌∙◌}
use Rattle.u_compile.specs.Namings.{KnownParts, a_binding, with_binding}
use Rattle.u_compile.specs.Operands.{lowering}
use Rattle.u_compile.specs.Definitions.{with_names}
use Rattle.u_compile.specs.Loops.{other, kept, given}
use Rattle.u_compile.proofs.TreeLaws.{not_found}
use Rattle.u_compile.proofs.lowering.Lowering.close_variable.Goals as goal

pub returns-then-carried-turn : goal.returns-then-carried-turn
returns-then-carried-turn c = other c.in-Some.carried (sym c.carried.ensures ∙ c.in-Some.is) c.if-carried-turn.true refl

pub returns-then-not-branch : goal.returns-then-not-branch
returns-then-not-branch c = kept c.in-Some.carried (sym c.carried.ensures ∙ c.in-Some.is) c.if-carried-turn.false (not_found c.in_ok-is_given.field-0 c.in_ok-is_given.ensures.1 c.if-not-branch.true) refl

pub returns : goal.returns
returns c =
    let between = lowering c.value_of.new.self in
    let d = c.leave.new.self in
    let b = a_binding c.args.turns.around c.in-Some.carried.name c.in_ok-last.last in
    given c.in-Some.carried between c.in_ok-value.value c.in_ok-last.last (sym c.carried.ensures ∙ c.in-Some.is) c.if-carried-turn.false (c.in_ok-is_given.ensures.0 c.if-not-branch.false) c.in_ok-value.ensures.goes_on c.in_ok-value.ensures.named c.in_ok-last.ensures (ap (λ (k : KnownParts). record (with_names between k) { drawing = d }) (c.in_ok-define.ensures ∙ ap (λ (k : KnownParts). with_binding k b) c.in_ok-note_as.ensures))
