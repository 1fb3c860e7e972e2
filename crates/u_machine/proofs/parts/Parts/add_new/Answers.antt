use Rattle.std.proofs.Common.{subst, inl, inr, refl}
use Rattle.u_rule.specs.declared.firing.Firing.{Firing}
use Rattle.u_sets.specs.Members.{IsWith}
use Rattle.u_machine.proofs.Settled.{not_both}
use Rattle.u_machine.proofs.TakenLists.{goes_in}
use Rattle.u_machine.proofs.parts.Parts.add_new.Goals as goal

pub returns : goal.returns
returns c =
    let w = subst (λ (f : Firing). IsWith c.args.news.now f c.insert.new.self) c.in_ok-copy.ensures (goes_in c.args.news.now c.insert.new.self c.in_ok-copy.field-0 c.in_ok-insert.ensures.ok) in
    record {
      kept = λ g k. (w g).1 (inl k);
      within = λ g k. elim ((w g).0 k) [ inl a ↦ inl a | inr e ↦ inr (e, λ t. not_both c.knows.result (c.knows.ensures.1 t) c.if-knows.false) ];
      there = inr ((w c.args.firing.now).1 (inr refl));
    }
