use Rattle.std.proofs.Common.{◌≡◌, ◌++◌, map, take}
use Rattle.std.specs.Prelude.{IfSome}
use Rattle.u_rule.specs.FiringText.{firing_text}
use Rattle.u_base.specs.Spaced.{ended}
use Rattle.u_delta.specs.WrittenContexts.{StandsAt}
use Rattle.u_delta.proofs.writing.push_firings.Given as goal

abbrev pub invariant-loop-firing : goal.invariant-loop-firing
invariant-loop-firing l = record {
  lines : l.out.items ≡ l.initial.out.items ++ ended (map firing_text (take l.firing-index l.firings));
  stands : IfSome l.near (λ w. StandsAt l.out.items w.context.now w.start w.end);
}
