use Rattle.std.proofs.Common.{◌≡◌, ◌∙◌, ◌⊎◌, inl, inr, [], ◌∷◌, sym, subst, map}
use Rattle.std.proofs.lemmas.List.Elements.{Contains-push_cases}
use Rattle.std.proofs.lemmas.List.{map-append}
use Rattle.u_machine.proofs.Settled.{not_both}
use Rattle.std.specs.Prelude.{Contains}
use Rattle.std.specs.Map.Iter.{deref}
use Rattle.u_sets.proofs.Shown.{shown_all}
use Rattle.u_rule.specs.EntryOrder.{EntryList}
use Rattle.u_rule.specs.declared.entry.Entry.{Entry}
use Rattle.u_machine.specs.Masks.{IsTokenIn}
use Rattle.u_machine.proofs.masks.has_late_in.Goals as goal

pub returns-clause-none : goal.returns-clause-none
returns-clause-none c _ e m =
    let all : map (deref {X = Entry}) c.loop-entry.yielded ≡ c.args.late.now =
    sym (shown_all c.loop-entry.yielded c.into_iter-entry-iterator.result c.loop-entry.entry-iterator c.loop-entry.yielded_by c.in-None.ensures.steps.0)
    ∙ (c.into_iter-entry-iterator.ensures.into_iter_gives ∙ c.iter-entry-items.ensures.rest) in
    c.loop-entry.invariant e (subst (λ (es : EntryList). Contains es e) (sym all) m)

pub loop-entry-preserved : goal.loop-entry-preserved
loop-entry-preserved c e m t = over (Contains-push_cases (map (deref {X = Entry}) c.loop-entry.yielded) c.in-Some.entry.now e (rw (map-append (deref {X = Entry}) c.loop-entry.yielded (c.in-Some.entry ∷ [])) at m))
  where
    over : Contains (map (deref {X = Entry}) c.loop-entry.yielded) e ⊎ (c.in-Some.entry.now ≡ e) → ⊥
    over (inl k) = c.loop-entry.invariant e k t
    over (inr q) = not_both c.is_token_within.result (c.is_token_within.ensures.1 (subst (λ (x : Entry). IsTokenIn c.args.buckets x) (sym q) t)) c.if-is_token_within.false
