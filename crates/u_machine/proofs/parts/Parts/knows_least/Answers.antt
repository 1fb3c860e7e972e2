use Rattle.std.proofs.Common.{◌≡◌, ◌∙◌, IsTrue, sym, subst, arith, Some}
use Rattle.std.specs.Prelude.{Contains, slice_get}
use Rattle.u_base.proofs.Member.{Contains-nil}
use Rattle.u_rule.specs.declared.entry.Entry.{Entry}
use Rattle.u_rule.specs.declared.entry.Entry.TheVariants.{Token as token_entry}
use Rattle.u_rule.specs.declared.firing.Firing.{Firing}
use Rattle.u_rule.specs.Rule.{needs_of}
use Rattle.std.specs.Ordering.{is_lt}
use Rattle.u_name.specs.NameOrder.{name_cmp}
use Rattle.u_machine.proofs.Lists.{slice_get_Contains, nil_of_length}
use Rattle.u_machine.proofs.LateNeeds.{before_all_late, less_if}
use Rattle.u_machine.proofs.parts.Parts.knows_least.Goals as goal

pub returns-then-len-eq0-clause-least : goal.returns-then-len-eq0-clause-least
returns-then-len-eq0-clause-least c t f g e at i n =
    let none = nil_of_length c.args.self.now.late (let l = c.len.ensures.len in omega (arith, l, c.if-len-eq0.true)) in
    absurd (Contains-nil e (rw none at i))

pub unreachable-requires-in_default-late : goal.unreachable-requires-in_default-late
unreachable-requires-in_default-late c =
    let (t, is) = c.requires.late.token c.in-Some.late.now (slice_get_Contains c.args.self.now.late 0 c.in-Some.late.now (sym c.in-Some.ensures)) in
    c.in_default-late.not-Token t is

pub returns-clause-least : goal.returns-clause-least
returns-clause-least c t f g e at i n =
    let m = c.args.self.now in
    let first = c.in-Token.token in
    let front : Some (token_entry first) ≡ slice_get m.late 0 = subst (λ (x : Entry). Some x ≡ slice_get m.late 0) c.in-Token.is c.in-Some.ensures in
    let same : c.in-Some-first.firing.now ≡ f = let q : Some c.in-Some-first.firing.now ≡ Some f = c.in-Some-first.ensures ∙ at in cc in
    let (x, is) = c.requires.late.token e i in
    before_all_late m.late first f g x c.len.ensures.rises (sym front)
    (less_if _ (subst (λ (h : Firing). IsTrue (is_lt (name_cmp h.activity first.activity))) same (rw (c.is_lt.ensures, c.cmp.ensures, c.activity.ensures) at t)))
    (subst (λ (y : Entry). Contains m.late y) is i) (subst (λ (y : Entry). Contains (needs_of g) y) is n)
