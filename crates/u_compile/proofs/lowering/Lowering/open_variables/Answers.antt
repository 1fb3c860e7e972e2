use Rattle.std.proofs.Common.{◌≡◌, ℕ, length, arith, List, None, ap, ◌∙◌}
use Rattle.u_compile.specs.declared.lowering.Frame.{Frame}
use Rattle.u_compile.specs.Operands.{lowering}
use Rattle.u_compile.specs.Sides.{with_frames}
use Rattle.u_compile.specs.Loops.{OpensVariables, with_begun}
use Rattle.u_compile.proofs.TreeLaws.{not_found}
use Rattle.u_compile.proofs.lowering.Lowering.open_variables.Goals as goal

pub returns-then-branch : goal.returns-then-branch
returns-then-branch c = OpensVariables.counting c.in_ok-whole.whole c.in_ok-whole.ensures (c.in_ok-is_for.ensures.0 c.if-branch.true) c.in_ok-start_counter.ensures

pub returns : goal.returns
returns c =
    let waiting : c.len.result ≡ length c.args.self.now.starts.items = omega arith in
    OpensVariables.other c.in_ok-whole.whole c.in_ok-whole.ensures (not_found c.in_ok-is_for.field-0 c.in_ok-is_for.ensures.1 c.if-branch.false) (ap (λ (fs : List Frame). with_frames (lowering c.args.self.now) fs) c.in_ok-push.ensures.items ∙ ap (λ (n : ℕ). with_begun (lowering c.args.self.now) n None) waiting)
