use Rattle.std.proofs.Common.{◌≡◌, [], inl, inr, subst, sym, arith}
use Rattle.std.specs.Prelude.{Contains, IsTrue}
use Rattle.u_name.specs.Name.{Activity}
use Rattle.u_base.proofs.Member.{Contains-nil}
use Rattle.u_rule.specs.Rule.{needs_of}
use Rattle.u_rule.specs.declared.entry.Entry.{Entry}
use Rattle.u_machine.specs.Masks.{has_bucket, is_in, those_in}
use Rattle.u_machine.proofs.LateNeeds.{needs_activity}
use Rattle.u_machine.proofs.LateTokens.{made_is_ready, waiting_is_ready}
use Rattle.u_machine.proofs.Lists.{slice_get_Contains, nil_of_length}
use Rattle.u_machine.proofs.Masked.{from_filter, to_filter}
use Rattle.u_machine.proofs.Picking.{ready_there}
use Rattle.u_machine.proofs.Settled.{is_ready_there}
use Rattle.u_machine.proofs.parts.Parts.has_any_in.Goals as goal

-- one that was made
pub returns-in-Ok-clause-some : goal.returns-in-Ok-clause-some
returns-in-Ok-clause-some c _ =
    let m = c.args.self.now in
    let k = c.requires.kept in
    let f = c.in-Ok._firing.now in
    let r = from_filter (is_in c.args.buckets) m.ready f (slice_get_Contains (those_in c.args.buckets m.ready) 0 f c.in-Ok.ensures.ok) in
    (f, (is_ready_there m k c.requires.settled f (made_is_ready _ _ _ _ _ _ _ k.late f r.0), r.1))

-- one that a late token wakes
pub returns-in-Err-clause-some : goal.returns-in-Err-clause-some
returns-in-Err-clause-some c t =
    let m = c.args.self.now in
    let k = c.requires.kept in
    let (e, i, (token, is, inside)) = c.has_late_in.ensures.some t in
    let (f, w) = k.late.some e i in
    let same = needs_activity f token (subst (λ (x : Entry). Contains (needs_of f) x) is w.0) in
    (f, (is_ready_there m k c.requires.settled f (waiting_is_ready _ _ _ _ _ _ _ k.late (k.idle c.requires.settled) f (e, i, w)), subst (λ (a : Activity). IsTrue (has_bucket c.args.buckets a)) same inside))

pub returns-in-Err-clause-none : goal.returns-in-Err-clause-none
returns-in-Err-clause-none c n f r =
    let m = c.args.self.now in
    let k = c.requires.kept in
    let those = those_in c.args.buckets m.ready in
    let none : those ≡ [] = nil_of_length those (let l = c.in-Err.ensures.err in omega (arith, l)) in
    elim ((k.late.whole f).0 (ready_there m k c.requires.settled f r.0)).0 [
      | inl made ↦ Contains-nil f (rw none at (to_filter (is_in c.args.buckets) m.ready f made r.1))
      | inr (e, i, w) ↦ (
          let (token, is) = k.late.token e i in
          let same = needs_activity f token (subst (λ (x : Entry). Contains (needs_of f) x) is w.0) in
          c.has_late_in.ensures.none n e i (token, is, subst (λ (a : Activity). IsTrue (has_bucket c.args.buckets a)) (sym same) r.1)
          )
    ]
