use Rattle.std.proofs.Common.{◌≡◌, ℕ, length, arith, List, Some, ap, ◌∙◌}
use Rattle.u_compile.specs.declared.lowering.Frame.{Frame}
use Rattle.u_compile.specs.Operands.{lowering}
use Rattle.u_compile.specs.Sides.{with_frames}
use Rattle.u_compile.specs.Loops.{with_begun}
use Rattle.u_compile.proofs.lowering.Lowering.start_counter.Goals as goal

pub returns : goal.returns
returns c =
    let started = lowering c.start.new.self in
    let waiting : c.len-waiting.result ≡ length c.args.self.now.starts.items = omega arith in
    record {
      taken = lowering c.pop_two.new.self;
      value = c.in_ok-value.value;
      limit = c.in_ok-value.limit;
      pops = c.in_ok-value.ensures;
      named = lowering c.pop_spelled.new.self;
      name = c.in_ok-pop_spelled.ensures;
      started = started;
      starts = c.in_ok-start.ensures;
      rest = ap (λ (fs : List Frame). with_frames started fs) c.in_ok-push.ensures.items ∙ ap (λ (n : ℕ). with_begun started n (Some c.in_ok-value.limit)) waiting;
    }
