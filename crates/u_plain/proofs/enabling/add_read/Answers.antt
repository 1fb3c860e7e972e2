use Rattle.std.proofs.Common.{◌≡◌, inl, inr, sym, ◌∙◌, ap}
use Rattle.u_rule.specs.declared.parts.Write.{Write}
use Rattle.u_rule.specs.declared.entry.Entry.{Entry}
use Rattle.u_rule.specs.declared.entry.Entry.TheVariants as entries
use Rattle.u_plain.specs.Tries.{with_write}
use Rattle.u_plain.proofs.enabling.add_read.Goals as goal

same_write : (e : Entry) (w x : Write) → e ≡ entries.Write w → e ≡ entries.Write x → w ≡ x
same_write e w x k l = cc

pub returns : goal.returns
returns c f = (
  (λ m. elim ((c.in_ok-add.ensures f).0 m) [ inl a ↦ inl a | inr e ↦ inr (c.in-Write.write, c.in-Write.is, sym c.in_ok-reading.ensures ∙ e.0, e.1) ]),
  (λ s. elim s [
    | inl a ↦ (c.in_ok-add.ensures f).1 (inl a)
    | inr r ↦ (c.in_ok-add.ensures f).1 (inr (c.in_ok-reading.ensures ∙ ap (with_write c.args.made.now) (same_write c.args.entry.now c.in-Write.write r.0 c.in-Write.is r.1) ∙ r.2, r.3))
  ]),
)
