use Rattle.std.proofs.Common.{◌≡◌, ◌⊎◌, ◌∙◌, sym, Contains}
use Rattle.u_rule.specs.declared.entry.Entry.{Entry}
use Rattle.u_match.proofs.Wakes.{tested}
use Rattle.u_match.proofs.waking_reads.Entering.is_woken.Goals as goal

pub returns : goal.returns
returns c =
    tested c.args.self.now.job.now c.args.self.now.entry.now (λ (x : Entry). Contains c.args.self.now.entries.now.entries x ⊎ (c.args.self.now.entry.now ≡ x)) c.args.firing.now c.in_ok-needs.needs.items c.deref.result.now c.deref-2.result.now c.has.result c.are_held-held.result c.in_ok-needs.ensures.all c.deref.ensures.value c.deref-2.ensures.value (sym c.is_own.ensures ∙ c.if-not-is_own.false) c.if-not-has.false c.has.ensures c.are_held-held.ensures
