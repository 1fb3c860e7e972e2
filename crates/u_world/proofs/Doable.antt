-- A new world finds no random event that cannot be done.
use Rattle.std.specs.Prelude.{◌≡◌, ℕ, zero, suc, ◌+◌, ◌-◌, ◌%◌, ◌^◌, ◌<◌, ◌≤◌, ◌⊎◌, List, [], length, take, map, Bool, true, nat_eq, nat_lt, ◌&&◌, ◌||◌, IsTrue, Err, slice_get, Some, refl}
use Rattle.std.proofs.Common.{sym, ◌∙◌, ap, subst, arith, inl, inr}
use Rattle.std.proofs.lemmas.List.{length-map}
use Rattle.std.proofs.Math.Nat.{mod-eq_of_lt, mod-eq-sub-mod, mod-lt}
use Rattle.std.proofs.lemmas.Bool.{ltb-true, and_parts, cond_both, cases_lt}
use Rattle.u_name.specs.Context.{IsBetween}
use Rattle.rand_pcg.specs.Lcg.{Lcg}
use Rattle.u_check.specs.Jobs.{JobParts}
use Rattle.u_rule.specs.Rule.{own_of}
use Rattle.u_delta.specs.declared.message.Delta.{Delta}
use Rattle.u_delta.specs.declared.message.Message.{Message}
use Rattle.u_delta.specs.declared.message.Message.TheVariants as messages
use Rattle.u_machine.specs.State.{State}
use Rattle.u_machine.specs.Taking.{AreFirings, TakeAllAnswer}
use Rattle.u_machine.specs.declared.answer.Refusal.{Refusal}
use Rattle.u_machine.specs.declared.answer.Refusal.TheVariants as unfired
use Rattle.u_machine.specs.declared.answer.ListRefusal.{ListRefusal}
use Rattle.u_machine.specs.declared.answer.ListRefusal.TheVariants as unlisted
use Rattle.u_machine.proofs.Lists.{slice_get_Contains, some_at}
use Rattle.u_replica.specs.Merging.{MergeAnswer}
use Rattle.u_replica.specs.declared.answer.MergeRefusal.{MergeRefusal}
use Rattle.u_replica.specs.declared.answer.MergeRefusal.TheVariants as unmerged
use Rattle.u_replica.specs.ReplicaState.{ReplicaState}
use Rattle.u_world.specs.declared.event.Event.{Event}
use Rattle.u_world.specs.declared.event.Event.TheVariants as events
use Rattle.u_world.specs.declared.random.Words.{Words}
use Rattle.u_world.specs.declared.refused.Refused.TheVariants.{BadEvent}
use Rattle.u_world.specs.Refusals.{of_fire, of_list, of_merge}
use Rattle.u_world.specs.WorldState.{WorldState, At, Has, fresh_world}
use Rattle.u_world.specs.Worlds.{IsSent, IsWorld}
use Rattle.u_world.specs.Happenings.{IsDoable, Delivers, Happens, EventAnswer, EventStep}
use Rattle.u_world.specs.Runs.{EventSteps}
use Rattle.u_world.specs.Random.{generator, words_of, words_after, replica_of, another, random_event, sent_after, random_from, random_list, NoneIsBad}
use Rattle.u_world.proofs.Kept.{step_keeps}
use Rattle.u_world.proofs.Fresh.{count_is, fresh_at, fresh_is_world, fresh_all_hold}
use Rattle.u_world.proofs.Effects.{is_ask, stays, asks_after}

-- another replica's number

-- what lies within one n above n
mod_once : (x n : ℕ) → n ≤ x → x < n + n → x % n ≡ x - n
mod_once x n low high = mod-eq-sub-mod low ∙ mod-eq_of_lt (omega (arith, low, high))

module _ (n r word : ℕ) (many : 2 ≤ n) (is : IsBetween 1 r n) where
  step : ℕ
  step = word % (n - 1)

  step_small : step + 1 < n
  unfolding step
  step_small = let l : zero < n - 1 = omega (arith, many) in let m = mod-lt word l in omega (arith, m, l)

  place_is : ((r + step < n) × ((r + step) % n ≡ r + step)) ⊎ ((n ≤ r + step) × ((r + step) % n ≡ r + step - n))
  place_is =
      let s = step_small in
      elim (cases_lt (r + step) n) [
        | inl l ↦ inl (l, mod-eq_of_lt l)
        | inr g ↦ inr (g, mod_once (r + step) n g (omega (arith, s, is.1)))
      ]

  pub another_is : IsBetween 1 (another n r word) n
  unfolding step
  another_is = let m = mod-lt (r + step) {m = n} (omega (arith, many)) in (omega arith, omega (arith, m))

  pub another_apart : r ≡ another n r word → ⊥
  unfolding step
  another_apart e =
      let s = step_small in
      elim place_is [
        | inl a ↦ let q : r ≡ 1 + (r + step) = e ∙ ap (λ (x : ℕ). 1 + x) a.1 in omega (arith, q)
        | inr b ↦ let q : r ≡ 1 + (r + step - n) = e ∙ ap (λ (x : ℕ). 1 + x) b.1 in omega (arith, q, b.0, s)
      ]

-- it is an event, and not that a replica takes a firing
abbrev pub IsNoTake : Event → Type 0
IsNoTake (events.Take k f) = ⊥
IsNoTake e = Unit {0}

-- the world has so many replicas, none of which is older, and has sent these messages
pub record Suits (n age : ℕ) (asks : List Bool) (w : WorldState) : Type 0 where
  pub is : IsWorld w
  pub count : length w.replicas ≡ n
  pub sent : map is_ask w.messages ≡ asks
  pub young : (k : ℕ) (r : ReplicaState) → At w.replicas k r → r.life ≤ age

module _ (n : ℕ) (few : IsBetween 1 n 8) (age : ℕ) (asks : List Bool) (w : WorldState) (s : Suits n age asks w) where
  -- the event can be done
  module _ (fits : age + 1 < 2 ^ 64) (words : Words) where
    May : Event → Type 0
    May e = IsDoable w e × IsNoTake e

    r : ℕ
    r = replica_of n words

    r_is : IsBetween 1 r n
    unfolding r
    r_is = let m = mod-lt words.replica {m = n} (omega (arith, few.0)) in (omega arith, omega (arith, m))

    has : (k : ℕ) → IsBetween 1 k n → Has w k
    has k b = let c = s.count in (b.0, omega (arith, b.1, c))

    has_r : Has w (replica_of n words)
    unfolding r
    has_r = has r r_is

    two : (t : Bool) → (t && nat_lt 1 n) ≡ true → 2 ≤ n
    two t e = let l = ltb-true 1 n (and_parts t (nat_lt 1 n) e).1 in omega (arith, l)

    other_there : 2 ≤ n → Has w (another n (replica_of n words) words.other)
    unfolding r
    other_there many = has _ (another_is n r words.other many r_is)

    other_apart : 2 ≤ n → replica_of n words ≡ another n (replica_of n words) words.other → ⊥
    unfolding r
    other_apart many = another_apart n r words.other many r_is

    message : (t : Bool) → (t && nat_lt 0 (length asks)) ≡ true → words.pick % length asks < length w.messages
    message t e =
        let l = ltb-true 0 (length asks) (and_parts t (nat_lt 0 (length asks)) e).1 in
        let m = mod-lt words.pick l in
        let c = sym (length-map w.messages is_ask) ∙ ap (λ (bs : List Bool). length bs) s.sent in
        omega (arith, m, c)

    restarts : (p : ReplicaState) × At w.replicas (replica_of n words) p × (p.life + 1 < 2 ^ 64)
    restarts =
        let h = has_r in
        let p = some_at w.replicas (replica_of n words - 1) (omega (arith, h.0, h.1)) in
        let y = s.young (replica_of n words) p.0 (h.0, p.1) in
        (p.0, (h.0, p.1), omega (arith, y, fits))

    pub may : IsDoable w (random_event n (length asks) words) × IsNoTake (random_event n (length asks) words)
    unfolding random_event May
    may =
        let k = words.kind % 8 in
        cond_both (nat_eq k 3 && nat_lt 1 n) _ _ May
        (λ e. ((has_r, other_there (two _ e), other_apart (two _ e)), tt))
        (λ e. cond_both ((nat_eq k 4 || nat_eq k 5) && nat_lt 0 (length asks)) _ _ May
        (λ e. (message _ e, tt))
        (λ e. cond_both (nat_eq k 6 && nat_lt 1 n) _ _ May
        (λ e. ((has_r, other_there (two _ e), other_apart (two _ e)), tt))
        (λ e. cond_both (nat_eq k 7) _ _ May
        (λ e. cond_both (nat_eq (words.pick % 2) 0) _ _ May (λ e. (has_r, tt)) (λ e. (restarts, tt)))
        (λ e. (has_r, tt)))))

  -- and leaves a world like it
  pub suits_step : (e : Event) (new : WorldState) → EventStep w e new → Suits n (age + 1) (sent_after e asks) new
  suits_step e new step =
      let kept = stays w new e step in
      record {
        is = step_keeps w e new s.is step;
        count = kept.count ∙ s.count;
        sent = asks_after w new asks s.sent e step;
        young = kept.ages age s.young;
      }

-- where an event can be done, it is refused for want of room or of memory alone

module _ (w : WorldState) (is : IsWorld w) (new : WorldState) where
  never_fire : (x : Refusal) → BadEvent ≡ of_fire x → ⊥
  never_fire unfired.Full e = absurd (cc)
  never_fire unfired.NoMemory e = absurd (cc)

  never_list : (old after : State) (d : Delta) → AreFirings old.job d.firings → (x : ListRefusal) → BadEvent ≡ of_list x → TakeAllAnswer old d.firings (Err x) after → ⊥
  never_list old after d all (unlisted.NotAFiring place) e (first, settles) =
      let yes : IsTrue ((own_of old.job).is_firing first.other) = all first.other (slice_get_Contains d.firings place first.other first.at) in
      let no = first.none in
      absurd (cc)
  never_list old after d all unlisted.Full e t = absurd (cc)
  never_list old after d all unlisted.NoMemory e t = absurd (cc)

  never_merge : (old other after : State) → other.job ≡ old.job → (x : MergeRefusal) → BadEvent ≡ of_merge x → MergeAnswer old other (Err x) after → ⊥
  never_merge old other after same unmerged.OtherJob e a = a.0 same
  never_merge old other after same unmerged.Full e a = absurd (cc)
  never_merge old other after same unmerged.NoMemory e a = absurd (cc)

  never_delivered : (m : Message) → IsSent w m → Delivers m (Err BadEvent) w new → ⊥
  never_delivered (messages.Ask a) s h = let q = h.0 in cc
  never_delivered (messages.Delta d) s c =
      let b = c.replicas.before in
      let job = (is.members d.receiver b c.replicas.at).job in
      never_list b.machine c.replicas.after.machine d (subst (λ j. AreFirings j d.firings) (sym job) s.firings) c.replicas.how.0 c.replicas.how.1 c.replicas.how.2.0

  never_bad : (e : Event) → IsNoTake e → Happens e (Err BadEvent) w new → ⊥
  never_bad (events.Fire k pick) made c = never_fire c.replicas.how.0 c.replicas.how.1
  never_bad (events.Take k f) made c = made
  never_bad (events.Ask k j) made h = let q = h.0 in cc
  never_bad (events.Deliver i) made (m, at, h) = never_delivered m (is.sent m (slice_get_Contains w.messages i m at)) h
  never_bad (events.Merge k j) made (o, at, c) =
      let b = c.replicas.before in
      never_merge b.machine o.machine c.replicas.after.machine ((is.members j o at).job ∙ sym (is.members k b c.replicas.at).job) c.replicas.how.0 c.replicas.how.1 c.replicas.how.2
  never_bad (events.Save k) made h = let q = h.0 in cc
  never_bad (events.Restart k keep) made h = let q = h.0 in cc
  never_bad (events.Bytes k bytes) made (inl h) = let q = h.0 in cc
  never_bad (events.Bytes k bytes) made (inr (d, m, c)) = c.replicas.how.2 refl

  pub never_refused : (e : Event) → IsDoable w e → IsNoTake e → EventAnswer w e (Err BadEvent) new → ⊥
  never_refused e can made (inl a) = a.0 can
  never_refused e can made (inr h) = never_bad e made h.1

-- so none of the events is, one after another

same_event : (a b : Event) → Some a ≡ Some b → a ≡ b
same_event a b p = cc

module _ (n : ℕ) (few : IsBetween 1 n 8) where
  none_from : (count age : ℕ) (g : Lcg) (asks : List Bool) (w : WorldState) → Suits n age asks w → age + count < 2 ^ 64 → (place : ℕ) (mid : WorldState) (event : Event) (new : WorldState) → slice_get (random_from n g asks count) place ≡ Some event → EventSteps w (take place (random_from n g asks count)) mid → EventAnswer mid event (Err BadEvent) new → ⊥
  unfolding random_from
  none_from zero age g asks w s fits place mid event new at steps answer = absurd (cc)
  none_from (suc count) age g asks w s fits zero mid event new at steps answer =
      let e = random_event n (length asks) (words_of g) in
      let good = may n few age asks w s (omega (arith, fits)) (words_of g) in
      let there : EventAnswer w e (Err BadEvent) new = subst (λ (x : Event). EventAnswer w x (Err BadEvent) new) (sym (same_event e event at)) (subst (λ (v : WorldState). EventAnswer v event (Err BadEvent) new) steps answer) in
      never_refused w s.is new e good.0 good.1 there
  none_from (suc count) age g asks w s fits (suc place) mid event new at (next, step, rest) answer =
      let e = random_event n (length asks) (words_of g) in
      none_from count (age + 1) (words_after g) (sent_after e asks) next (suits_step n few age asks w s e next step) (omega (arith, fits)) place mid event new at rest answer

  suits_fresh : (job : JobParts) (limit : ℕ) → Suits n 1 [] (fresh_world job limit n)
  suits_fresh job limit = record {
    is = fresh_is_world job limit n few (fresh_all_hold job limit n few.1);
    count = count_is job limit n;
    sent = refl;
    young = λ k r a. let e = ap (λ (r : ReplicaState). r.life) (fresh_at job limit n (k - 1) r a.1) in omega (arith, e);
  }

  pub none_is_bad : (seed count : ℕ) → count < 2 ^ 63 → NoneIsBad n (random_list seed n count)
  unfolding random_list
  none_is_bad seed count fits job limit place new stops =
      none_from count 1 (generator seed) [] (fresh_world job limit n) (suits_fresh job limit) (omega (arith, fits)) place stops.mid stops.event new stops.at stops.before stops.last
