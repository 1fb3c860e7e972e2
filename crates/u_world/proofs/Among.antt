-- Rounds among other events, none of which starts one of the two replicas again.
use Rattle.std.specs.Prelude.{◌≡◌, ℕ, zero, suc, ◌+◌, ◌-◌, ◌*◌, ◌≤◌, List, [], ◌∷◌, ◌++◌, length, take, max, min, Bool, true, false, nat_eq, nat_le, nat_lt, ◌&&◌, if◌then◌else◌, Contains, Ok, Err, slice_get, refl}
use Rattle.std.proofs.Common.{sym, ◌∙◌, ap, subst, arith, inl, inr, append-nil, append_assoc, length-append}
use Rattle.std.proofs.lemmas.Bool.{cond_both, cond-true, eq-eqb, eqb-true, ltb-true, and_parts, cases_eq}
use Rattle.std.proofs.lemmas.List.{take_all, take-append-le}
use Rattle.u_name.specs.Context.{IsBetween}
use Rattle.u_rule.specs.declared.firing.Firing.{Firing}
use Rattle.u_delta.specs.declared.message.Delta.{Delta}
use Rattle.u_delta.specs.declared.message.Mark.{Mark}
use Rattle.u_delta.specs.declared.message.Message.{Message}
use Rattle.u_delta.specs.declared.message.Message.TheVariants as messages
use Rattle.u_delta.specs.Marks.{most_firings}
use Rattle.u_machine.specs.State.{Taken}
use Rattle.u_machine.specs.Obeying as machines
use Rattle.u_machine.specs.declared.answer.ListRefusal.TheVariants as unlisted
use Rattle.u_replica.specs.Marking.{mark_of, end_of, moved, most_count, IsNoLess}
use Rattle.u_replica.specs.ReplicaState.{ReplicaState, ChangesMachine}
use Rattle.u_world.specs.declared.event.Event.{Event}
use Rattle.u_world.specs.declared.event.Event.TheVariants as events
use Rattle.u_world.specs.WorldState.{WorldState, At, Has, Changes}
use Rattle.u_world.specs.Happenings.{Delivers, Arrives, EventStep}
use Rattle.u_world.specs.Worlds.{IsTrueMark, IsWorld}
use Rattle.u_world.specs.Rounds.{Round, counted, IsRestartOf, NoneRestarts, RoundsAmong, KeepsUp, RoundsKeepUp}
use Rattle.u_world.proofs.Places.{at_one, at_between, get_set, taken_more}
use Rattle.u_world.proofs.Honesty.{mark_moves}
use Rattle.u_world.proofs.Kept.{step_keeps, fire_extends, take_extends, list_extends, merge_extends}
use Rattle.u_world.proofs.Effects.{stays, get_set_other}
use Rattle.u_world.proofs.Rounded.{there_is, round_moves}

-- no mark is less

no_less_refl : (m : Mark) → IsNoLess m m
no_less_refl m = inr (refl, omega arith)

no_less_trans : (a b c : Mark) → IsNoLess a b → IsNoLess b c → IsNoLess a c
no_less_trans a b c (inl p) (inl q) = inl (omega (arith, p, q))
no_less_trans a b c (inl p) (inr q) = inl (let e = q.0 in omega (arith, p, e))
no_less_trans a b c (inr p) (inl q) = inl (let e = p.0 in omega (arith, e, q))
no_less_trans a b c (inr p) (inr q) = inr (p.0 ∙ q.0, (let x = p.1 in let y = q.1 in omega (arith, x, y)))

max_left : (x y : ℕ) → x ≤ max x y
max_left x y = omega arith

moved_no_less : (d : Delta) (m : Mark) → IsNoLess m (moved d m)
moved_no_less d m =
    cond_both (nat_eq d.life m.life && nat_le d.start m.count) _ _ (λ (x : Mark). IsNoLess m x)
    (λ e. inr (refl, max_left m.count (end_of d)))
    (λ e. cond_both (nat_lt m.life d.life && nat_eq d.start 0) _ _ (λ (x : Mark). IsNoLess m x)
    (λ t. inl (ltb-true m.life d.life (and_parts (nat_lt m.life d.life) (nat_eq d.start 0) t).0))
    (λ t. no_less_refl m))

-- a mark that is no less, and true, counts no fewer firings
counts_on : (m n : Mark) (life : ℕ) → IsNoLess m n → n.life ≤ life → counted m life ≤ counted n life
counts_on m n life less low = at (nat_eq m.life life) refl
  where
    at : (t : Bool) → nat_eq m.life life ≡ t → (if t then m.count else 0) ≤ counted n life
    at false e = omega arith
    at true e = by less
      where
        by : IsNoLess m n → m.count ≤ counted n life
        by (inl l) = let same = eqb-true m.life life e in absurd (omega (arith, l, low, same))
        by (inr p) =
            let same = eqb-true m.life life e in
            let q : counted n life ≡ n.count = cond-true (nat_eq n.life life) n.count 0 (eq-eqb n.life life (sym p.0 ∙ same)) in
            let c = p.1 in
            omega (arith, q, c)

-- a replica that does not start again goes on: its life stays, its log grows, and no mark is less
pub record GoesOn (x y : ReplicaState) : Type 0 where
  pub life : y.life ≡ x.life
  pub log : (rest : List Firing) × (y.machine.log ≡ x.machine.log ++ rest)
  pub marks : (peer : ℕ) → IsBetween 1 peer 8 → IsNoLess (mark_of x.marks peer) (mark_of y.marks peer)

goes_refl : (x : ReplicaState) → GoesOn x x
goes_refl x = record { life = refl; log = ([], sym (append-nil x.machine.log)); marks = λ peer b. no_less_refl (mark_of x.marks peer) }

goes_trans : (x y z : ReplicaState) → GoesOn x y → GoesOn y z → GoesOn x z
goes_trans x y z p q = record {
  life = q.life ∙ p.life;
  log = (p.log.0 ++ q.log.0, q.log.1 ∙ ap (λ (fs : List Firing). fs ++ q.log.0) p.log.1 ∙ append_assoc x.machine.log p.log.0 q.log.0);
  marks = λ peer b. no_less_trans (mark_of x.marks peer) (mark_of y.marks peer) (mark_of z.marks peer) (p.marks peer b) (q.marks peer b);
}

machine_goes : (x y : ReplicaState) → machines.Extends x.machine y.machine → ChangesMachine x y → GoesOn x y
machine_goes x y goes alone = record {
  life = ap (λ (r : ReplicaState). r.life) alone;
  log = goes.grows.log;
  marks = λ peer b. subst (λ (ms : List Mark). IsNoLess (mark_of x.marks peer) (mark_of ms peer)) (sym (ap (λ (r : ReplicaState). r.marks) alone)) (no_less_refl (mark_of x.marks peer));
}

-- what an event does with a replica that it does not start again
module _ (old new : WorldState) (is : IsWorld old) (j : ℕ) (x : ReplicaState) (at : At old.replicas j x) where
  On : Type 0
  On = (y : ReplicaState) × At new.replicas j y × GoesOn x y

  none_goes : new.replicas ≡ old.replicas → On
  unfolding On
  none_goes e = (x, subst (λ (rs : List ReplicaState). At rs j x) (sym e) at, goes_refl x)

  one_goes : (k : ℕ) (R : ReplicaState → ReplicaState → Type 0) (c : Changes k R old new) → (k ≡ j → GoesOn c.replicas.before c.replicas.after) → On
  unfolding On
  one_goes k R c how =
      let l = c.replicas in
      let n = at_between old.replicas k l.before l.at in
      elim (cases_eq k j) [
        | inl e ↦
            let same : l.before ≡ x = at_one old.replicas j x l.before at (subst (λ i. At old.replicas i l.before) e l.at) in
            (l.after, subst (λ i. At new.replicas i l.after) e (n.0, ap (λ (rs : List ReplicaState). slice_get rs (k - 1)) l.list ∙ get_set old.replicas (k - 1) l.after (omega (arith, n.0, n.1))), subst (λ (r : ReplicaState). GoesOn r l.after) same (how e))
        | inr o ↦
            (x, (at.0, ap (λ (rs : List ReplicaState). slice_get rs (j - 1)) l.list ∙ get_set_other old.replicas (k - 1) (j - 1) l.after (λ e. o (let b = at.0 in omega (arith, e, b, n.0))) ∙ at.1), goes_refl x)
      ]

  delivered_goes : (m : Message) → Delivers m (Ok tt) old new → On
  delivered_goes (messages.Ask a) (r, there, d, is_d, s) = none_goes (ap (λ (w : WorldState). w.replicas) s)
  delivered_goes (messages.Delta d) c =
      one_goes d.receiver _ c (λ e.
      let b = c.replicas.before in
      let a = c.replicas.after in
      let h = c.replicas.how in
      let eight = (is.members d.receiver b c.replicas.at).is.marks.eight in
      record {
        life = ap (λ (r : ReplicaState). r.life) h.1;
        log = (list_extends b.machine a.machine d.firings (Ok tt) h.0).grows.log;
        marks = λ peer i. subst (λ (ms : List Mark). IsNoLess (mark_of b.marks peer) (mark_of ms peer)) (sym (ap (λ (r : ReplicaState). r.marks) h.1))
            (elim (mark_moves b.number d b.marks eight peer i) [
              | inl s ↦ subst (λ (m : Mark). IsNoLess (mark_of b.marks peer) m) (sym s) (no_less_refl (mark_of b.marks peer))
              | inr g ↦ subst (λ (m : Mark). IsNoLess (mark_of b.marks peer) m) (sym g.1) (moved_no_less d (mark_of b.marks peer))
            ]);
      })

  arrived_goes : (k : ℕ) (bytes : List ℕ) → Arrives k bytes (Ok tt) old new → On
  arrived_goes k bytes (inl a) = none_goes (ap (λ (w : WorldState). w.replicas) a.1)
  arrived_goes k bytes (inr (d, m, c)) =
      one_goes k _ c (λ e.
      let b = c.replicas.before in
      let a = c.replicas.after in
      machine_goes b a (elim c.replicas.how.0 [ inl t ↦ list_extends b.machine a.machine d.firings (Ok tt) t | inr t ↦ list_extends b.machine a.machine d.firings (Err (unlisted.NotAFiring t.0)) t.1 ]) c.replicas.how.1)

  pub goes_on : (e : Event) → EventStep old e new → (IsRestartOf j e → ⊥) → (y : ReplicaState) × At new.replicas j y × GoesOn x y
  unfolding On
  goes_on (events.Fire k pick) (may, c) not = one_goes k _ c (λ e. machine_goes c.replicas.before c.replicas.after (fire_extends c.replicas.before.machine c.replicas.after.machine pick (Ok c.replicas.how.0) c.replicas.how.1) c.replicas.how.2)
  goes_on (events.Take k f) (may, c) not = one_goes k _ c (λ e. machine_goes c.replicas.before c.replicas.after (take_extends c.replicas.before.machine c.replicas.after.machine f (Ok c.replicas.how.0) c.replicas.how.1) c.replicas.how.2)
  goes_on (events.Ask k i) (may, (r, there, s)) not = none_goes (ap (λ (w : WorldState). w.replicas) s)
  goes_on (events.Deliver i) (may, (m, there, d)) not = delivered_goes m d
  goes_on (events.Merge k i) (may, (o, there, c)) not = one_goes k _ c (λ e. machine_goes c.replicas.before c.replicas.after (merge_extends c.replicas.before.machine c.replicas.after.machine o.machine (Ok c.replicas.how.0) c.replicas.how.1) c.replicas.how.2)
  goes_on (events.Save k) (may, (r, there, valid, s)) not = none_goes (ap (λ (w : WorldState). w.replicas) s)
  goes_on (events.Restart k keep) (may, (saved, there, c)) not = one_goes k _ c (λ e. absurd (not e))
  goes_on (events.Bytes k bytes) (may, a) not = arrived_goes k bytes.items a

-- over a list of events

-- what stays of the world
pub record Stands (old new : WorldState) : Type 0 where
  pub is : IsWorld new
  pub limit : new.limit ≡ old.limit
  pub count : length new.replicas ≡ length old.replicas

module _ (s r : ℕ) where
  stands : (es : List Event) (old new : WorldState) → IsWorld old → NoneRestarts s r old es new → Stands old new
  stands [] old new is o = subst (λ (w : WorldState). Stands old w) (sym o) (record { is = is; limit = refl; count = refl })
  stands (e ∷ es) old new is (mid, not_s, not_r, step, rest) =
      let t = stands es mid new (step_keeps old e mid is step) rest in
      let k = stays old mid e step in
      record { is = t.is; limit = t.limit ∙ k.limit; count = t.count ∙ k.count }

  on_first : (es : List Event) (old new : WorldState) → IsWorld old → NoneRestarts s r old es new → (x : ReplicaState) → At old.replicas s x → (y : ReplicaState) × At new.replicas s y × GoesOn x y
  on_first [] old new is o x at = (x, subst (λ (w : WorldState). At w.replicas s x) (sym o) at, goes_refl x)
  on_first (e ∷ es) old new is (mid, not_s, not_r, step, rest) x at =
      let a = goes_on old mid is s x at e step not_s in
      let b = on_first es mid new (step_keeps old e mid is step) rest a.0 a.1 in
      (b.0, b.1, goes_trans x a.0 b.0 a.2 b.2)

  on_second : (es : List Event) (old new : WorldState) → IsWorld old → NoneRestarts s r old es new → (x : ReplicaState) → At old.replicas r x → (y : ReplicaState) × At new.replicas r y × GoesOn x y
  on_second [] old new is o x at = (x, subst (λ (w : WorldState). At w.replicas r x) (sym o) at, goes_refl x)
  on_second (e ∷ es) old new is (mid, not_s, not_r, step, rest) x at =
      let a = goes_on old mid is r x at e step not_r in
      let b = on_second es mid new (step_keeps old e mid is step) rest a.0 a.1 in
      (b.0, b.1, goes_trans x a.0 b.0 a.2 b.2)

-- how much further s got
pub record Gains (s r gain : ℕ) (old new : WorldState) : Type 0 where
  pub is : IsWorld new
  pub limit : new.limit ≡ old.limit
  pub before : ReplicaState
  pub after : ReplicaState
  pub peer : ReplicaState
  pub later : ReplicaState
  pub before_at : At old.replicas s before
  pub after_at : At new.replicas s after
  pub peer_at : At old.replicas r peer
  pub later_at : At new.replicas r later
  pub life : later.life ≡ peer.life
  pub log : (rest : List Firing) × (later.machine.log ≡ peer.machine.log ++ rest)
  pub reach : min (length peer.machine.log) (counted (mark_of before.marks r) peer.life + gain) ≤ counted (mark_of after.marks r) later.life

within_more : (long c d : ℕ) → c ≤ d → min long (c + 0) ≤ d
within_more long c d l = omega (arith, l)

gains_more : (n1 n2 c1 c2 c3 g1 g2 : ℕ) → n1 ≤ n2 → min n1 (c1 + g1) ≤ c2 → min n2 (c2 + g2) ≤ c3 → min n1 (c1 + (g1 + g2)) ≤ c3
gains_more n1 n2 c1 c2 c3 g1 g2 a b c = omega (arith, a, b, c)

module _ (s r : ℕ) (apart : s ≡ r → ⊥) where
  -- nothing is lost
  gains_none : (es : List Event) (old new : WorldState) → IsWorld old → Has old s → Has old r → NoneRestarts s r old es new → Gains s r 0 old new
  gains_none es old new is has_s has_r o =
      let x = there_is old s has_s in
      let p = there_is old r has_r in
      let t = stands s r es old new is o in
      let y = on_first s r es old new is o x.0 x.1 in
      let q = on_second s r es old new is o p.0 p.1 in
      let number = (t.is.members r q.0 q.1).number in
      let honest : IsTrueMark (mark_of y.0.marks r) y.0 q.0 = subst (λ i. IsTrueMark (mark_of y.0.marks i) y.0 q.0) number (t.is.honest s r y.0 q.0 apart y.1 q.1) in
      let low : (mark_of y.0.marks r).life ≤ q.0.life = honest.life in
      let c8 = is.count in
      let more : counted (mark_of x.0.marks r) q.0.life ≤ counted (mark_of y.0.marks r) q.0.life = counts_on (mark_of x.0.marks r) (mark_of y.0.marks r) q.0.life (y.2.marks r (has_r.0, omega (arith, has_r.1, c8.1))) low in
      record {
        is = t.is;
        limit = t.limit;
        before = x.0;
        after = y.0;
        peer = p.0;
        later = q.0;
        before_at = x.1;
        after_at = y.1;
        peer_at = p.1;
        later_at = q.1;
        life = q.2.life;
        log = q.2.log;
        reach = within_more (length p.0.machine.log) (counted (mark_of x.0.marks r) p.0.life) (counted (mark_of y.0.marks r) q.0.life) (subst (λ i. counted (mark_of x.0.marks r) i ≤ counted (mark_of y.0.marks r) q.0.life) q.2.life more);
      }

  -- a round
  gains_one : (es : List Event) (old new : WorldState) → IsWorld old → old.limit ≤ most_count → Round s r old es new → Gains s r most_firings old new
  gains_one es old new is few round =
      let m = round_moves s r old es new is few round in
      let far : counted (mark_of m.after.marks r) m.peer.life ≡ min (length m.peer.machine.log) (counted (mark_of m.before.marks r) m.peer.life + 1 * most_firings) =
      ap (λ (x : Mark). counted x m.peer.life) m.reach
      ∙ cond-true (nat_eq m.peer.life m.peer.life) _ 0 (eq-eqb m.peer.life m.peer.life refl) in
      record {
        is = m.is;
        limit = m.limit;
        before = m.before;
        after = m.after;
        peer = m.peer;
        later = m.peer;
        before_at = m.before_at;
        after_at = m.after_at;
        peer_at = m.peer_at;
        later_at = m.peer_stays;
        life = refl;
        log = ([], sym (append-nil m.peer.machine.log));
        reach = omega (arith, far);
      }

  -- one after another
  gains_both : (g h : ℕ) (old mid new : WorldState) → Gains s r g old mid → Gains s r h mid new → Gains s r (g + h) old new
  gains_both g h old mid new p q =
      let own : q.before ≡ p.after = at_one mid.replicas s p.after q.before p.after_at q.before_at in
      let peer : q.peer ≡ p.later = at_one mid.replicas r p.later q.peer p.later_at q.peer_at in
      let log : q.later.machine.log ≡ p.later.machine.log ++ q.log.0 = q.log.1 ∙ ap (λ (x : ReplicaState). x.machine.log ++ q.log.0) peer in
      let longer : length p.peer.machine.log ≤ length p.later.machine.log = (let e = ap (λ (fs : List Firing). length fs) p.log.1 in let a = length-append p.peer.machine.log p.log.0 in omega (arith, e, a)) in
      let known : counted (mark_of q.before.marks r) q.peer.life ≡ counted (mark_of p.after.marks r) p.later.life =
      ap (λ (x : ReplicaState). counted (mark_of x.marks r) q.peer.life) own ∙ ap (λ (x : ReplicaState). counted (mark_of p.after.marks r) x.life) peer in
      let next : min (length p.later.machine.log) (counted (mark_of p.after.marks r) p.later.life + h) ≤ counted (mark_of q.after.marks r) q.later.life =
      subst (λ n. min (length p.later.machine.log) (n + h) ≤ counted (mark_of q.after.marks r) q.later.life) known
      (subst (λ (x : ReplicaState). min (length x.machine.log) (counted (mark_of q.before.marks r) q.peer.life + h) ≤ counted (mark_of q.after.marks r) q.later.life) peer q.reach) in
      record {
        is = q.is;
        limit = q.limit ∙ p.limit;
        before = p.before;
        after = q.after;
        peer = p.peer;
        later = q.later;
        before_at = p.before_at;
        after_at = q.after_at;
        peer_at = p.peer_at;
        later_at = q.later_at;
        life = q.life ∙ ap (λ (x : ReplicaState). x.life) peer ∙ p.life;
        log = (p.log.0 ++ q.log.0, log ∙ ap (λ (fs : List Firing). fs ++ q.log.0) p.log.1 ∙ append_assoc p.peer.machine.log p.log.0 q.log.0);
        reach = gains_more (length p.peer.machine.log) (length p.later.machine.log) (counted (mark_of p.before.marks r) p.peer.life) (counted (mark_of p.after.marks r) p.later.life) (counted (mark_of q.after.marks r) q.later.life) g h longer p.reach next;
      }

  gains_rounds : (n : ℕ) (es : List Event) (old new : WorldState) → IsWorld old → old.limit ≤ most_count → Has old s → Has old r → RoundsAmong s r n old es new → Gains s r (n * most_firings) old new
  gains_rounds zero es old new is few has_s has_r o = subst (λ g. Gains s r g old new) (omega arith) (gains_none es old new is has_s has_r o)
  gains_rounds (suc n) es old new is few has_s has_r (first, round, rest, start, mid, e, o, one, more) =
      let a = gains_none first old start is has_s has_r o in
      let few_start : start.limit ≤ most_count = (let l = a.limit in omega (arith, l, few)) in
      let b = gains_one round start mid a.is few_start one in
      let few_mid : mid.limit ≤ most_count = (let l = b.limit in omega (arith, l, few_start)) in
      let c = gains_rounds n rest mid new b.is few_mid (at_between mid.replicas s b.after b.after_at) (at_between mid.replicas r b.later b.later_at) more in
      subst (λ g. Gains s r g old new) (omega arith) (gains_both 0 (most_firings + n * most_firings) old start new a (gains_both most_firings (n * most_firings) start mid new b c))

-- what was gained, s took
module _ (s r rounds : ℕ) (old new : WorldState) (apart : s ≡ r → ⊥) (q : Gains s r (rounds * most_firings) old new) where
  takes : (f : Firing) → Contains (take (counted (mark_of q.after.marks r) q.later.life) q.later.machine.log) f → Taken q.after.machine f
  takes f c =
      let number = (q.is.members r q.later q.later_at).number in
      let honest : IsTrueMark (mark_of q.after.marks r) q.after q.later = subst (λ i. IsTrueMark (mark_of q.after.marks i) q.after q.later) number (q.is.honest s r q.after q.later apart q.after_at q.later_at) in
      at honest (nat_eq (mark_of q.after.marks r).life q.later.life) refl c
    where
      nothing : (f : Firing) → Contains (take 0 q.later.machine.log) f → ⊥
      nothing f (k, b, e) = omega arith

      at : IsTrueMark (mark_of q.after.marks r) q.after q.later → (t : Bool) → nat_eq (mark_of q.after.marks r).life q.later.life ≡ t → Contains (take (if t then (mark_of q.after.marks r).count else 0) q.later.machine.log) f → Taken q.after.machine f
      at honest true e c = honest.has (eqb-true (mark_of q.after.marks r).life q.later.life e) f c
      at honest false e c = absurd (nothing f c)

  whole : length q.peer.machine.log ≤ rounds * most_firings → (f : Firing) → Contains q.peer.machine.log f → Taken q.after.machine f
  whole l f c =
      let long = length q.peer.machine.log in
      let far : long ≤ counted (mark_of q.after.marks r) q.later.life = (let x = q.reach in omega (arith, x, l)) in
      let front : take long q.later.machine.log ≡ q.peer.machine.log =
      ap (take long) q.log.1 ∙ take-append-le long q.peer.machine.log q.log.0 (omega arith) ∙ take_all long q.peer.machine.log (omega arith) in
      takes f (taken_more long (counted (mark_of q.after.marks r) q.later.life) q.later.machine.log f far (subst (λ (fs : List Firing). Contains fs f) (sym front) c))

  keeps_up : KeepsUp s r rounds old new
  keeps_up = record {
    before = q.before;
    after = q.after;
    peer = q.peer;
    later = q.later;
    before_at = q.before_at;
    after_at = q.after_at;
    peer_at = q.peer_at;
    later_at = q.later_at;
    life = q.life;
    log = q.log;
    reach = q.reach;
    took = takes;
    all = whole;
  }

-- the replicas of the first round are there from the beginning
has_before : (s r k : ℕ) (es : List Event) (old start : WorldState) → IsWorld old → NoneRestarts s r old es start → Has start k → Has old k
has_before s r k es old start is o h = let c = (stands s r es old start is o).count in (h.0, (let b = h.1 in omega (arith, b, c)))

-- and those that ask
round_has : (s r : ℕ) (es : List Event) (start mid : WorldState) → IsWorld start → start.limit ≤ most_count → Round s r start es mid → Has start s × Has start r
round_has s r es start mid is few round =
    let m = round_moves s r start es mid is few round in
    (at_between start.replicas s m.before m.before_at, at_between start.replicas r m.peer m.peer_at)

pub rounds_keep_up : (old : WorldState) (es : List Event) (new : WorldState) → IsWorld old → RoundsKeepUp old es new
rounds_keep_up old es new is s r zero few l rs = absurd (omega (arith, l))
rounds_keep_up old es new is s r (suc n) few l rs = by rs
  where
    by : RoundsAmong s r (suc n) old es new → KeepsUp s r (suc n) old new
    by (first, round, rest, start, mid, e, o, one, more) =
        let t = stands s r first old start is o in
        let h = round_has s r round start mid t.is (let x = t.limit in omega (arith, x, few)) one in
        let apart = one.asks.0.2 in
        keeps_up s r (suc n) old new apart (gains_rounds s r apart (suc n) es old new is few (has_before s r s first old start is o h.0) (has_before s r r first old start is o h.1) (first, round, rest, start, mid, e, o, one, more))
