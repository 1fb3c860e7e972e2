use Rattle.u_rule.specs.Rule.{own_of}
use Rattle.u_trace.specs.Table.{place_in}
use Rattle.u_trace.proofs.Entries.{same_entries}
use Rattle.u_trace.proofs.GiverLaws.{are_firings}
use Rattle.u_trace.proofs.BlameLaws.{joins}
use Rattle.u_trace.proofs.joining.joined_stories.Goals as goal

pub givers_of-requires : goal.givers_of-requires
givers_of-requires c = are_firings (own_of c.args.job.now) c.args.log.now c.requires.derivation

pub returns : goal.returns
returns c =
    joins (own_of c.args.job.now) c.args.log.now c.requires.derivation (place_in c.in_ok-givers.givers) c.in_ok-givers.ensures.givers same_entries c.args.one.now c.args.other.now c.in_ok-joined.joined.items c.in_ok-behind.behind.items c.append.new.self.items
    c.requires.one c.requires.other c.in_ok-joined.ensures c.in_ok-behind.ensures c.in_ok-append.ensures.items
