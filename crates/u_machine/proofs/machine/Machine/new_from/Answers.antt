use Rattle.std.proofs.Common.{◌≡◌, ◌≤◌, ◌-◌, ◌+◌, ◌++◌, ◌∷◌, ◌∙◌, ℕ, [], arith, sym, ap, subst, append-nil, append_assoc, length, length-append, map, List}
use Rattle.std.specs.Prelude.{Contains}
use Rattle.std.specs.Map.Iter.{deref}
use Rattle.std.proofs.lemmas.List.{map-append}
use Rattle.u_base.specs.Firing.{Distinct}
use Rattle.u_base.proofs.Apart.{Distinct-left}
use Rattle.u_sets.proofs.Shown.{shown, shown_all}
use Rattle.u_rule.specs.declared.firing.Firing.{Firing}
use Rattle.u_machine.specs.State.{State}
use Rattle.u_machine.specs.Taking.{HasSoManyNew}
use Rattle.u_machine.specs.declared.parts.Parts.{Parts}
use Rattle.u_machine.proofs.NewOnes.{few_new, not_before_behind, counted_if_new, uncounted_if_old}
use Rattle.u_machine.proofs.machine.Machine.new_from.Goals as goal
use Rattle.u_machine.proofs.machine.Machine.new_from.Goals.{After-new_among, After-is_new}

pub new_among-requires : goal.new_among-requires
new_among-requires c =
    subst (λ (fs : List Firing). Distinct fs) (sym c.applied.ensures) (Distinct-left c.args.other.now.log c.args.other.now.parked c.holds.ensures.is.sound.distinct)

-- the new ones of the log
counted_log : (c : After-new_among) → HasSoManyNew c.args.self.now c.args.other.now.log c.new_among.result
counted_log c = subst (λ (fs : List Firing). HasSoManyNew c.args.self.now fs c.new_among.result) c.applied.ensures c.new_among.ensures

few_of_log : (c : After-new_among) → c.new_among.result ≤ c.args.other.now.limit
few_of_log c =
    let l = few_new c.args.self.now c.args.other.now.log c.new_among.result (counted_log c) in
    let w = c.holds.ensures.is.sound.within in
    omega (arith, l, w)

pub overflow_sub-rest : goal.overflow_sub-rest
overflow_sub-rest c =
    let l = few_of_log (goal.at.overflow_sub-rest c).After-new_among in
    let e = ap (λ (p : Parts). p.limit) c.deref.ensures ∙ ap (λ (m : State). m.limit) c.other.view_is in
    omega (arith, l, e)

pub loop-firing-init : goal.loop-firing-init
loop-firing-init c =
    let a = (goal.at.loop-firing-init c).After-new_among in
    let l = few_of_log a in
    let e = ap (λ (p : Parts). p.limit) c.deref.ensures ∙ ap (λ (m : State). m.limit) c.other.view_is in
    let n : c.new_among.result ≡ c.args.other.now.limit - (c.deref.result.now.limit - c.new_among.result) = omega (arith, l, e) in
    record {
      within = omega (arith, l, e);
      counted = subst (λ (fs : List Firing). HasSoManyNew c.args.self.now fs (c.args.other.now.limit - (c.deref.result.now.limit - c.new_among.result))) (sym (append-nil c.args.other.now.log))
          (subst (λ (k : ℕ). HasSoManyNew c.args.self.now c.args.other.now.log k) n (counted_log a));
    }

-- the parked firings before this one
abbrev front_of : After-is_new → List Firing
front_of c = map (deref {X = Firing}) c.loop-firing.yielded

-- and all of them
parked_is : (c : After-is_new) → c.args.other.now.parked ≡ front_of c ++ c.in-Some.firing.now ∷ c.next.new.self
parked_is c =
    sym (c.into_iter-firing-iterator.ensures.into_iter_gives ∙ (c.iter-firing-items.ensures.rest ∙ c.parked.ensures))
    ∙ (shown c.loop-firing.yielded c.into_iter-firing-iterator.result c.loop-firing.firing-iterator c.loop-firing.yielded_by
    ∙ ap (λ (r : List Firing). front_of c ++ r) c.in-Some.ensures.steps)

-- there is one that is not counted yet
rest_is : (c : After-is_new) → 1 ≤ c.loop-firing.rest
rest_is c =
    let l = few_new c.args.self.now _ (c.args.other.now.limit - c.loop-firing.rest) c.loop-firing.invariant.counted in
    let s = length-append c.args.other.now.log (front_of c) in
    let p = ap (length {A = Firing}) (parked_is c) ∙ length-append (front_of c) (c.in-Some.firing.now ∷ c.next.new.self) in
    let w = c.holds.ensures.is.sound.within in
    omega (arith, l, s, p, w)

pub overflow_sub-rest-then-is_new : goal.overflow_sub-rest-then-is_new
overflow_sub-rest-then-is_new c = rest_is (goal.at.overflow_sub-rest-then-is_new c).After-is_new

-- this one does not stand among those before it
before_is : (c : After-is_new) → Contains (c.args.other.now.log ++ front_of c) c.in-Some.firing.now → ⊥
before_is c =
    not_before_behind c.args.other.now.log (front_of c) c.next.new.self c.in-Some.firing.now
    (subst (λ (fs : List Firing). Distinct (c.args.other.now.log ++ fs)) (parked_is c) c.holds.ensures.is.sound.distinct)

-- those up to this one
up_to : (c : After-is_new) → c.args.other.now.log ++ map (deref {X = Firing}) (c.loop-firing.yielded ++ c.in-Some.firing ∷ []) ≡ (c.args.other.now.log ++ front_of c) ++ c.in-Some.firing.now ∷ []
up_to c =
    ap (λ (fs : List Firing). c.args.other.now.log ++ fs) (map-append (deref {X = Firing}) c.loop-firing.yielded (c.in-Some.firing ∷ []))
    ∙ sym (append_assoc c.args.other.now.log (front_of c) (c.in-Some.firing.now ∷ []))

-- how many are counted with one more
one_more : (limit rest : ℕ) → 1 ≤ rest → rest ≤ limit → (limit - rest) + 1 ≡ limit - (rest - 1)
one_more limit rest l w = omega (arith, l, w)

pub loop-firing-preserved-then-is_new : goal.loop-firing-preserved-then-is_new
loop-firing-preserved-then-is_new c =
    let a = (goal.at.loop-firing-preserved-then-is_new c).After-is_new in
    let m = c.args.self.now in
    let i = c.loop-firing.invariant in
    let l = rest_is a in
    let w = i.within in
    record {
      within = omega (arith, w);
      counted = rw (up_to a) (subst (λ (k : ℕ). HasSoManyNew m ((c.args.other.now.log ++ front_of a) ++ c.in-Some.firing.now ∷ []) k) (one_more c.args.other.now.limit c.loop-firing.rest l w)
          (counted_if_new m c.in-Some.firing.now (c.args.other.now.log ++ front_of a) (c.args.other.now.limit - c.loop-firing.rest) c.is_new.result c.is_new.ensures (before_is a) c.if-is_new.true i.counted));
    }

pub loop-firing-preserved : goal.loop-firing-preserved
loop-firing-preserved c =
    let a = (goal.at.loop-firing-preserved c).After-is_new in
    let i = c.loop-firing.invariant in
    record {
      within = i.within;
      counted = rw (up_to a)
          (uncounted_if_old c.args.self.now c.in-Some.firing.now (c.args.other.now.log ++ front_of a) (c.args.other.now.limit - c.loop-firing.rest) c.is_new.result c.is_new.ensures (before_is a) c.if-is_new.false i.counted);
    }

pub returns : goal.returns
returns c =
    let m = c.args.self.now in
    let e : c.args.other.now.limit ≡ c.deref-2.result.now.limit = sym (ap (λ (p : Parts). p.limit) c.deref-2.ensures ∙ ap (λ (m : State). m.limit) c.other.view_is) in
    let all : map (deref {X = Firing}) c.loop-firing.yielded ≡ c.args.other.now.parked =
    sym (shown_all c.loop-firing.yielded c.into_iter-firing-iterator.result c.loop-firing.firing-iterator c.loop-firing.yielded_by c.in-None.ensures.steps.0)
    ∙ (c.into_iter-firing-iterator.ensures.into_iter_gives ∙ (c.iter-firing-items.ensures.rest ∙ c.parked.ensures)) in
    subst (λ (k : ℕ). HasSoManyNew m (c.args.other.now.log ++ c.args.other.now.parked) (k - c.loop-firing.rest)) e
    (subst (λ (fs : List Firing). HasSoManyNew m (c.args.other.now.log ++ fs) (c.args.other.now.limit - c.loop-firing.rest)) all c.loop-firing.invariant.counted)
