use Rattle.std.proofs.Common.{◌∙◌, sym}
use Rattle.std.proofs.lemmas.Bool.{false≢true}
use Rattle.u_rule.specs.Rule.{own_of}
use Rattle.u_trace.specs.Table.{place_in}
use Rattle.u_trace.proofs.Entries.{same_entries}
use Rattle.u_trace.proofs.GiverLaws.{are_firings}
use Rattle.u_trace.proofs.StoryLaws.{known_held, tells}
use Rattle.u_trace.proofs.telling.story_of.Goals as goal

pub givers_of-requires : goal.givers_of-requires
givers_of-requires c = are_firings (own_of c.args.job.now) c.args.log.now c.requires

pub returns-then-not-known : goal.returns-then-not-known
returns-then-not-known c h = false≢true (sym c.if-not-known.true ∙ c.in_ok-known.ensures.1 ((known_held (own_of c.args.job.now) c.args.log.now (place_in c.in_ok-givers.givers) c.in_ok-givers.ensures.givers c.args.entry.now).1 h))

pub returns : goal.returns
returns c =
    let held = (known_held (own_of c.args.job.now) c.args.log.now (place_in c.in_ok-givers.givers) c.in_ok-givers.ensures.givers c.args.entry.now).0 (c.in_ok-known.ensures.0 c.if-not-known.false) in
    (held, c.in_ok-found.ensures, tells (own_of c.args.job.now) c.args.log.now c.requires (place_in c.in_ok-givers.givers) c.in_ok-givers.ensures.givers same_entries c.args.entry.now held c.in_ok-found.found.items c.in_ok-found.ensures)
