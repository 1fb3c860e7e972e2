-- What an event that happens leaves as it was: the limit, how many replicas there are, the messages that were
-- sent, and each replica whose event it is not.
use Rattle.std.specs.Prelude.{◌≡◌, ℕ, zero, suc, ◌+◌, ◌-◌, ◌≤◌, ◌⊎◌, List, [], ◌∷◌, ◌++◌, length, map, Bool, true, false, Ok, slice_get, slice_set, slice_index_or, Option, Some, refl}
use Rattle.std.specs.Option.{option_map}
use Rattle.std.proofs.Common.{sym, ◌∙◌, ap, subst, arith, inl, inr}
use Rattle.std.proofs.lemmas.Bool.{cond-true, cond-false}
use Rattle.std.proofs.lemmas.List.{length-set}
use Rattle.std.proofs.lemmas.Option.{slice_get-map, get_or_from_slice_get}
use Rattle.u_delta.specs.declared.message.Message.{Message}
use Rattle.u_delta.specs.declared.message.Message.TheVariants as messages
use Rattle.u_replica.specs.ReplicaState.{ReplicaState}
use Rattle.u_world.specs.declared.event.Event.{Event}
use Rattle.u_world.specs.declared.event.Event.TheVariants as events
use Rattle.u_world.specs.WorldState.{WorldState, At, Changes}
use Rattle.u_world.specs.Happenings.{Delivers, Arrives, EventStep}
use Rattle.u_world.specs.Random.{sent_after}
use Rattle.u_world.specs.Rounds.{IsOf}
use Rattle.u_world.proofs.Places.{at_set_cases}

-- lists

pub get_set_other : {X : Type 0} (xs : List X) (k j : ℕ) (y : X) → (k ≡ j → ⊥) → slice_get (slice_set xs k y) j ≡ slice_get xs j
get_set_other [] k j y n = refl
get_set_other (z ∷ xs) zero zero y n = absurd (n refl)
get_set_other (z ∷ xs) zero (suc j) y n = refl
get_set_other (z ∷ xs) (suc k) zero y n = refl
get_set_other (z ∷ xs) (suc k) (suc j) y n = get_set_other xs k j y (λ e. n (ap suc e))

get_push : {X : Type 0} (xs : List X) (y x : X) (j : ℕ) → slice_get xs j ≡ Some x → slice_get (xs ++ (y ∷ [])) j ≡ Some x
get_push [] y x j e = absurd (cc)
get_push (z ∷ xs) y x zero e = e
get_push (z ∷ xs) y x (suc j) e = get_push xs y x j e

map_push : {X Y : Type 0} (f : X → Y) (xs : List X) (y : X) → map f (xs ++ (y ∷ [])) ≡ map f xs ++ (f y ∷ [])
map_push f [] y = refl
map_push {X} {Y} f (x ∷ xs) y = ap (λ (ys : List Y). f x ∷ ys) (map_push f xs y)

-- whether a message is an ask
abbrev pub is_ask : Message → Bool
is_ask (messages.Ask a) = true
is_ask (messages.Delta d) = false

-- each replica's life is at most one more than all were
abbrev pub AgesByOne : WorldState → WorldState → Type 0
AgesByOne old new = (n : ℕ) → ((k : ℕ) (r : ReplicaState) → At old.replicas k r → r.life ≤ n) → (k : ℕ) (r : ReplicaState) → At new.replicas k r → r.life ≤ n + 1

-- what stays, whatever happens
pub record Stays (old new : WorldState) : Type 0 where
  pub limit : new.limit ≡ old.limit
  pub count : length new.replicas ≡ length old.replicas
  pub ages : AgesByOne old new

module _ (old new : WorldState) where
  -- no replica changes
  same_stays : new.replicas ≡ old.replicas → new.limit ≡ old.limit → Stays old new
  same_stays e l = record {
    limit = l;
    count = ap (λ (rs : List ReplicaState). length rs) e;
    ages = λ n young k r a. let y = young k r (subst (λ (rs : List ReplicaState). At rs k r) e a) in omega (arith, y);
  }

  -- one replica changes
  one_stays : (k : ℕ) (R : ReplicaState → ReplicaState → Type 0) (c : Changes k R old new) → c.replicas.after.life ≤ c.replicas.before.life + 1 → Stays old new
  one_stays k R c life = record {
    limit = ap (λ (w : WorldState). w.limit) c.others;
    count = ap (λ (rs : List ReplicaState). length rs) c.replicas.list ∙ length-set old.replicas (k - 1) c.replicas.after;
    ages = λ n young j r a.
        let b = c.replicas.before in
        let y = young k b c.replicas.at in
        elim (at_set_cases old.replicas k j c.replicas.after r c.replicas.at.0 (subst (λ (rs : List ReplicaState). At rs j r) c.replicas.list a)) [
          | inl s ↦ let e = ap (λ (r : ReplicaState). r.life) s.1 in omega (arith, y, life, e)
          | inr o ↦ let z = young j r o.1 in omega (arith, z)
        ];
  }

  -- the machine alone, or the machine and the marks
  same_life : (a b : ReplicaState) → a.life ≡ b.life → a.life ≤ b.life + 1
  same_life a b e = omega (arith, e)

  delivered_stays : (m : Message) → Delivers m (Ok tt) old new → Stays old new
  delivered_stays (messages.Ask a) (r, at, d, is, s) = same_stays (ap (λ (w : WorldState). w.replicas) s) (ap (λ (w : WorldState). w.limit) s)
  delivered_stays (messages.Delta d) c = one_stays d.receiver _ c (same_life c.replicas.after c.replicas.before (ap (λ (r : ReplicaState). r.life) c.replicas.how.1))

  arrived_stays : (k : ℕ) (bytes : List ℕ) → Arrives k bytes (Ok tt) old new → Stays old new
  arrived_stays k bytes (inl a) = same_stays (ap (λ (w : WorldState). w.replicas) a.1) (ap (λ (w : WorldState). w.limit) a.1)
  arrived_stays k bytes (inr (d, m, c)) = one_stays k _ c (same_life c.replicas.after c.replicas.before (ap (λ (r : ReplicaState). r.life) c.replicas.how.1))

  pub stays : (e : Event) → EventStep old e new → Stays old new
  stays (events.Fire k pick) (may, c) = one_stays k _ c (same_life c.replicas.after c.replicas.before (ap (λ (r : ReplicaState). r.life) c.replicas.how.2))
  stays (events.Take k f) (may, c) = one_stays k _ c (same_life c.replicas.after c.replicas.before (ap (λ (r : ReplicaState). r.life) c.replicas.how.2))
  stays (events.Ask k j) (may, (r, at, s)) = same_stays (ap (λ (w : WorldState). w.replicas) s) (ap (λ (w : WorldState). w.limit) s)
  stays (events.Deliver i) (may, (m, at, d)) = delivered_stays m d
  stays (events.Merge k j) (may, (o, at, c)) = one_stays k _ c (same_life c.replicas.after c.replicas.before (ap (λ (r : ReplicaState). r.life) c.replicas.how.2))
  stays (events.Save k) (may, (r, at, valid, s)) = same_stays (ap (λ (w : WorldState). w.replicas) s) (ap (λ (w : WorldState). w.limit) s)
  stays (events.Restart k keep) (may, (saved, at, c)) = one_stays k _ c (let e = ap (λ (r : ReplicaState). r.life) c.replicas.how.1.beside in omega (arith, e))
  stays (events.Bytes k bytes) (may, a) = arrived_stays k bytes.items a

  -- the replica whose event it is not

  one_other : (k j : ℕ) (R : ReplicaState → ReplicaState → Type 0) → Changes k R old new → 1 ≤ j → (k ≡ j → ⊥) → slice_get new.replicas (j - 1) ≡ slice_get old.replicas (j - 1)
  one_other k j R c l apart =
      let b = c.replicas.at.0 in
      ap (λ (rs : List ReplicaState). slice_get rs (j - 1)) c.replicas.list ∙ get_set_other old.replicas (k - 1) (j - 1) c.replicas.after (λ e. apart (omega (arith, e, l, b)))

  same_other : (j : ℕ) → new.replicas ≡ old.replicas → slice_get new.replicas (j - 1) ≡ slice_get old.replicas (j - 1)
  same_other j e = ap (λ (rs : List ReplicaState). slice_get rs (j - 1)) e

  delivered_other : (m : Message) (i j : ℕ) → slice_get old.messages i ≡ Some m → Delivers m (Ok tt) old new → 1 ≤ j → (IsOf old j (events.Deliver i) → ⊥) → slice_get new.replicas (j - 1) ≡ slice_get old.replicas (j - 1)
  delivered_other (messages.Ask a) i j at (r, there, d, is, s) l apart = same_other j (ap (λ (w : WorldState). w.replicas) s)
  delivered_other (messages.Delta d) i j at c l apart = one_other d.receiver j _ c l (λ e. apart (messages.Delta d, at, e))

  arrived_other : (k j : ℕ) (bytes : List ℕ) → Arrives k bytes (Ok tt) old new → 1 ≤ j → (k ≡ j → ⊥) → slice_get new.replicas (j - 1) ≡ slice_get old.replicas (j - 1)
  arrived_other k j bytes (inl a) l apart = same_other j (ap (λ (w : WorldState). w.replicas) a.1)
  arrived_other k j bytes (inr (d, m, c)) l apart = one_other k j _ c l apart

  pub other_stays : (e : Event) (j : ℕ) → EventStep old e new → 1 ≤ j → (IsOf old j e → ⊥) → slice_get new.replicas (j - 1) ≡ slice_get old.replicas (j - 1)
  other_stays (events.Fire k pick) j (may, c) l apart = one_other k j _ c l apart
  other_stays (events.Take k f) j (may, c) l apart = one_other k j _ c l apart
  other_stays (events.Ask k i) j (may, (r, at, s)) l apart = same_other j (ap (λ (w : WorldState). w.replicas) s)
  other_stays (events.Deliver i) j (may, (m, at, d)) l apart = delivered_other m i j at d l apart
  other_stays (events.Merge k i) j (may, (o, at, c)) l apart = one_other k j _ c l apart
  other_stays (events.Save k) j (may, (r, at, valid, s)) l apart = same_other j (ap (λ (w : WorldState). w.replicas) s)
  other_stays (events.Restart k keep) j (may, (saved, at, c)) l apart = one_other k j _ c l apart
  other_stays (events.Bytes k bytes) j (may, a) l apart = arrived_other k j bytes.items a l apart

  -- the messages

  Sent : Type 0
  Sent = (new.messages ≡ old.messages) ⊎ ((m : Message) × (new.messages ≡ old.messages ++ (m ∷ [])))

  delivered_sent : (m : Message) → Delivers m (Ok tt) old new → Sent
  unfolding Sent
  delivered_sent (messages.Ask a) (r, at, d, is, s) = inr (messages.Delta d, ap (λ (w : WorldState). w.messages) s)
  delivered_sent (messages.Delta d) c = inl (ap (λ (w : WorldState). w.messages) c.others)

  arrived_sent : (k : ℕ) (bytes : List ℕ) → Arrives k bytes (Ok tt) old new → new.messages ≡ old.messages
  arrived_sent k bytes (inl a) = ap (λ (w : WorldState). w.messages) a.1
  arrived_sent k bytes (inr (d, m, c)) = ap (λ (w : WorldState). w.messages) c.others

  sent : (e : Event) → EventStep old e new → Sent
  unfolding Sent
  sent (events.Fire k pick) (may, c) = inl (ap (λ (w : WorldState). w.messages) c.others)
  sent (events.Take k f) (may, c) = inl (ap (λ (w : WorldState). w.messages) c.others)
  sent (events.Ask k j) (may, (r, at, s)) = inr (_, ap (λ (w : WorldState). w.messages) s)
  sent (events.Deliver i) (may, (m, at, d)) = delivered_sent m d
  sent (events.Merge k j) (may, (o, at, c)) = inl (ap (λ (w : WorldState). w.messages) c.others)
  sent (events.Save k) (may, (r, at, valid, s)) = inl (ap (λ (w : WorldState). w.messages) s)
  sent (events.Restart k keep) (may, (saved, at, c)) = inl (ap (λ (w : WorldState). w.messages) c.others)
  sent (events.Bytes k bytes) (may, a) = inl (arrived_sent k bytes.items a)

  -- a message that was sent stays where it is
  pub message_stays : (e : Event) (i : ℕ) (m : Message) → EventStep old e new → slice_get old.messages i ≡ Some m → slice_get new.messages i ≡ Some m
  unfolding Sent
  message_stays e i m s at = either (sent e s)
    where
      either : Sent → slice_get new.messages i ≡ Some m
      either (inl a) = ap (λ (ms : List Message). slice_get ms i) a ∙ at
      either (inr (x, a)) = ap (λ (ms : List Message). slice_get ms i) a ∙ get_push old.messages x m i at

  -- of each message, whether it is an ask
  module _ (asks : List Bool) (are : map is_ask old.messages ≡ asks) where
    none_sent : new.messages ≡ old.messages → map is_ask new.messages ≡ asks
    none_sent e = ap (λ (ms : List Message). map is_ask ms) e ∙ are

    one_sent : (m : Message) → new.messages ≡ old.messages ++ (m ∷ []) → map is_ask new.messages ≡ asks ++ (is_ask m ∷ [])
    one_sent m e = ap (λ (ms : List Message). map is_ask ms) e ∙ map_push is_ask old.messages m ∙ ap (λ (bs : List Bool). bs ++ (is_ask m ∷ [])) are

    -- what a message is that stands there
    kind_at : (i : ℕ) (m : Message) → slice_get old.messages i ≡ Some m → slice_index_or asks i false ≡ is_ask m
    kind_at i m at =
        get_or_from_slice_get asks i (is_ask m) false
        (ap (λ (bs : List Bool). slice_get bs i) (sym are) ∙ slice_get-map is_ask old.messages i ∙ ap (λ (o : Option Message). option_map is_ask o) at)

    delivered_asks : (i : ℕ) (m : Message) → slice_get old.messages i ≡ Some m → Delivers m (Ok tt) old new → map is_ask new.messages ≡ sent_after (events.Deliver i) asks
    delivered_asks i (messages.Ask a) at (r, there, d, is, s) = one_sent (messages.Delta d) (ap (λ (w : WorldState). w.messages) s) ∙ sym (cond-true (slice_index_or asks i false) (asks ++ (false ∷ [])) asks (kind_at i (messages.Ask a) at))
    delivered_asks i (messages.Delta d) at c = none_sent (ap (λ (w : WorldState). w.messages) c.others) ∙ sym (cond-false (slice_index_or asks i false) (asks ++ (false ∷ [])) asks (kind_at i (messages.Delta d) at))

    pub asks_after : (e : Event) → EventStep old e new → map is_ask new.messages ≡ sent_after e asks
    asks_after (events.Fire k pick) (may, c) = none_sent (ap (λ (w : WorldState). w.messages) c.others)
    asks_after (events.Take k f) (may, c) = none_sent (ap (λ (w : WorldState). w.messages) c.others)
    asks_after (events.Ask k j) (may, (r, at, s)) = one_sent _ (ap (λ (w : WorldState). w.messages) s)
    asks_after (events.Deliver i) (may, (m, at, d)) = delivered_asks i m at d
    asks_after (events.Merge k j) (may, (o, at, c)) = none_sent (ap (λ (w : WorldState). w.messages) c.others)
    asks_after (events.Save k) (may, (r, at, valid, s)) = none_sent (ap (λ (w : WorldState). w.messages) s)
    asks_after (events.Restart k keep) (may, (saved, at, c)) = none_sent (ap (λ (w : WorldState). w.messages) c.others)
    asks_after (events.Bytes k bytes) (may, a) = none_sent (arrived_sent k bytes.items a)
