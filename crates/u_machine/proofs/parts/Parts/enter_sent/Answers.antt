use Rattle.std.proofs.Common.{◌≤◌, length, arith, Contains}
use Rattle.std.proofs.lemmas.List.{take_all}
use Rattle.u_rule.specs.declared.entry.Entry.{Entry}
use Rattle.u_rule.specs.declared.entry.Entry.TheVariants as entries
use Rattle.u_machine.proofs.Going.{goes_on, gives_still}
use Rattle.u_machine.proofs.Lists.{slice_get_Contains, one_more}
use Rattle.u_machine.proofs.States.{applies_trans}
use Rattle.u_machine.proofs.parts.Parts.enter_sent.Goals as goal

pub enter_token-requires-clause-gives : goal.enter_token-requires-clause-gives
enter_token-requires-clause-gives c =
    let e = entries.Token c.token.result in
    gives_still c.args.self.now c.loop-place.self e c.loop-place.invariant.goes
    (c.requires.gives e (slice_get_Contains c.args.sent.now c.loop-place.place e c.token.ensures))

pub enter_token-requires-clause-fits : goal.enter_token-requires-clause-fits
enter_token-requires-clause-fits c =
    let e = entries.Token c.token.result in
    rw c.loop-place.invariant.goes.job (c.requires.fit e (slice_get_Contains c.args.sent.now c.loop-place.place e c.token.ensures))

pub returns-in_err-enter_token-clause-applies : goal.returns-in_err-enter_token-clause-applies
returns-in_err-enter_token-clause-applies c = applies_trans _ _ _ c.loop-place.invariant.applies c.enter_token.ensures.applies

pub loop-place-preserved : goal.loop-place-preserved
loop-place-preserved c = record {
  kept = c.enter_token.ensures.kept;
  applies = applies_trans _ _ _ c.loop-place.invariant.applies c.enter_token.ensures.applies;
  goes = goes_on _ _ _ c.loop-place.invariant.goes c.enter_token.ensures.goes;
  idle = c.in_ok-enter_token.ensures.idle;
  all = one_more (λ (e : Entry). Contains c.enter_token.new.self.matcher e) c.args.sent.now c.loop-place.place (entries.Token c.token.result) c.token.ensures c.in_ok-enter_token.ensures.has
      (λ e m. c.enter_token.ensures.applies.grows.history e (c.loop-place.invariant.all e m));
}

pub returns-clause-has : goal.returns-clause-has
returns-clause-has c e m = let h : length c.args.sent.now ≤ c.loop-place.place = omega arith in c.loop-place.invariant.all e (rw take_all m)
