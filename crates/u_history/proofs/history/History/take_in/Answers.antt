use Rattle.std.proofs.Common.{inl, inr, List, subst}
use Rattle.u_sets.specs.Members.{IsUnion}
use Rattle.u_rule.specs.declared.entry.Entry.{Entry}
use Rattle.u_history.proofs.history.History.take_in.Goals as goal

pub returns : goal.returns
returns c x =
    let union = subst (λ (right : List Entry). IsUnion c.args.self.now right c.put_all.new.self) c.deref.ensures.value c.in_ok-put_all.ensures x in
    let same = c.in_ok-entries.ensures.all x in
    ((λ m. elim (union.0 m) [ inl a ↦ inl a | inr b ↦ inr (same.0 b) ]), λ m. union.1 (elim m [ inl a ↦ inl a | inr b ↦ inr (same.1 b) ]))
