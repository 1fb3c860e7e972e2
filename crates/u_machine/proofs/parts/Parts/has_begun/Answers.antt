use Rattle.std.proofs.Common.{◌∙◌, sym, refl}
use Rattle.std.proofs.lemmas.Bool.{false≢true}
use Rattle.u_machine.proofs.Settled.{begun_if, not_both}
use Rattle.u_machine.proofs.parts.Parts.has_begun.Goals as goal

pub returns-then-not-held : goal.returns-then-not-held
returns-then-not-held c = ((λ t. absurd (cc)), λ m. absurd (false≢true (sym c.if-not-held.true ∙ c.in-Ok.ensures.1 ((begun_if c.args.self.now c.requires c.args.firing.now).0 m).0)))

pub returns-then-is_ready : goal.returns-then-is_ready
returns-then-is_ready c = ((λ t. absurd (cc)), λ m. absurd (((begun_if c.args.self.now c.requires c.args.firing.now).0 m).1 (c.contains-is_ready.ensures.0 c.if-is_ready.true)))

pub returns-then-is_woken : goal.returns-then-is_woken
returns-then-is_woken c = ((λ t. absurd (cc)), λ m. absurd (((begun_if c.args.self.now c.requires c.args.firing.now).0 m).2 (c.is_woken.ensures.0 c.if-is_woken.true)))

pub returns-then-late : goal.returns-then-late
returns-then-late c = ((λ t. absurd (cc)), λ m. let (e, i, n) = c.in-Ok-needs_late.ensures.late c.if-late.true in absurd (((begun_if c.args.self.now c.requires c.args.firing.now).0 m).3 e i n))

pub returns : goal.returns
returns c =
    let h = begun_if c.args.self.now c.requires c.args.firing.now in (
      (λ t. h.1 (c.in-Ok.ensures.0 c.if-not-held.false, (λ r. not_both c.contains-is_ready.result (c.contains-is_ready.ensures.1 r) c.if-is_ready.false), (λ w. not_both c.is_woken.result (c.is_woken.ensures.1 w) c.if-is_woken.false), c.in-Ok-needs_late.ensures.none c.if-late.false)),
      λ m. refl,
    )
