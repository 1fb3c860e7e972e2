use Rattle.std.proofs.Common.{List, sym, subst}
use Rattle.u_rule.specs.Rule.{own_of}
use Rattle.u_rule.specs.declared.firing.Firing.{Firing}
use Rattle.u_trace.specs.Blames.{BlameAmong}
use Rattle.u_trace.specs.Givers.{AreFirings}
use Rattle.u_trace.proofs.GiverLaws.{are_firings}
use Rattle.u_trace.proofs.blaming.blame_stories.Goals as goal

pub blame_among-requires : goal.blame_among-requires
blame_among-requires c = subst (λ (fs : List Firing). AreFirings (own_of c.args.job.now) fs) (sym c.deref.ensures.value) (are_firings (own_of c.args.job.now) c.in_ok-joined.joined.items c.in_ok-joined.ensures.derivation)

pub returns : goal.returns
returns c = record {
  joined = c.in_ok-joined.joined.items;
  joins = c.in_ok-joined.ensures;
  among = subst (λ (fs : List Firing). BlameAmong c.args.job.now fs c.in_ok-found.found) c.deref.ensures.value c.in_ok-found.ensures;
}
