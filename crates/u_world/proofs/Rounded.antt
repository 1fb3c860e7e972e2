-- Rounds of asking, answering and receiving bring a replica what another one applied.
use Rattle.std.specs.Prelude.{◌≡◌, ℕ, zero, suc, ◌+◌, ◌-◌, ◌*◌, ◌≤◌, List, [], ◌∷◌, ◌++◌, length, take, min, nat_eq, Contains, Ok, slice_get, slice_set, Some, refl}
use Rattle.std.proofs.Common.{sym, ◌∙◌, ap, subst, arith}
use Rattle.std.proofs.lemmas.Bool.{cond-true, eq-eqb}
use Rattle.std.proofs.lemmas.List.{take_all}
use Rattle.u_rule.specs.declared.firing.Firing.{Firing}
use Rattle.u_delta.specs.declared.message.Ask.{Ask}
use Rattle.u_delta.specs.declared.message.Delta.{Delta}
use Rattle.u_delta.specs.declared.message.Mark.{Mark}
use Rattle.u_delta.specs.declared.message.Message.{Message}
use Rattle.u_delta.specs.declared.message.Message.TheVariants as messages
use Rattle.u_delta.specs.Marks.{most_firings, IsDelta}
use Rattle.u_machine.specs.State.{Taken}
use Rattle.u_machine.proofs.Lists.{some_at}
use Rattle.u_replica.specs.Marking.{mark, mark_of, marks_after, most_count}
use Rattle.u_replica.specs.ReplicaState.{ReplicaState, ask_of}
use Rattle.u_world.specs.declared.event.Event.{Event}
use Rattle.u_world.specs.declared.event.Event.TheVariants as events
use Rattle.u_world.specs.WorldState.{WorldState, At, Has}
use Rattle.u_world.specs.Happenings.{Delivers}
use Rattle.u_world.specs.Worlds.{IsTrueMark, IsWorld}
use Rattle.u_world.specs.Rounds.{OthersDo, Round, Rounds, counted, CatchesUp, RoundsCatchUp}
use Rattle.u_world.proofs.Places.{at_one, at_between, get_set}
use Rattle.u_world.proofs.Kept.{step_keeps}
use Rattle.u_world.proofs.Effects.{stays, other_stays, message_stays, get_set_other}
use Rattle.u_world.proofs.Caught.{reach_more, reach_all, mark_moved}

same_message : (a b : Message) → Some a ≡ Some b → b ≡ a
same_message a b e = cc

same_ask : (a b : Ask) → messages.Ask a ≡ messages.Ask b → a ≡ b
same_ask a b e = cc

-- what was pushed last
get_last : {X : Type 0} (xs : List X) (y : X) → slice_get (xs ++ (y ∷ [])) (length xs) ≡ Some y
get_last [] y = refl
get_last (x ∷ xs) y = get_last xs y

-- events of others leave the two replicas, the messages and the limit as they were
pub record Beside (s r : ℕ) (old new : WorldState) : Type 0 where
  pub is : IsWorld new
  pub limit : new.limit ≡ old.limit
  pub count : length new.replicas ≡ length old.replicas
  pub first : slice_get new.replicas (s - 1) ≡ slice_get old.replicas (s - 1)
  pub second : slice_get new.replicas (r - 1) ≡ slice_get old.replicas (r - 1)
  pub sent : (i : ℕ) (m : Message) → slice_get old.messages i ≡ Some m → slice_get new.messages i ≡ Some m

module _ (s r : ℕ) (low_s : 1 ≤ s) (low_r : 1 ≤ r) where
  pub beside : (es : List Event) (old new : WorldState) → IsWorld old → OthersDo s r old es new → Beside s r old new
  beside [] old new is o = subst (λ (w : WorldState). Beside s r old w) (sym o) (record { is = is; limit = refl; count = refl; first = refl; second = refl; sent = λ i m e. e })
  beside (e ∷ es) old new is (mid, not_s, not_r, step, rest) =
      let b = beside es mid new (step_keeps old e mid is step) rest in
      let k = stays old mid e step in
      record {
        is = b.is;
        limit = b.limit ∙ k.limit;
        count = b.count ∙ k.count;
        first = b.first ∙ other_stays old mid e s step low_s not_s;
        second = b.second ∙ other_stays old mid e r step low_r not_r;
        sent = λ i m at. b.sent i m (message_stays old mid e i m step at);
      }

-- a round

-- s has received: its mark moved so, and r is as it was
pub record Moved (s r : ℕ) (old new : WorldState) : Type 0 where
  pub is : IsWorld new
  pub limit : new.limit ≡ old.limit
  pub before : ReplicaState
  pub after : ReplicaState
  pub peer : ReplicaState
  pub before_at : At old.replicas s before
  pub after_at : At new.replicas s after
  pub peer_at : At old.replicas r peer
  pub peer_stays : At new.replicas r peer
  pub reach : mark_of after.marks r ≡ mark peer.life (min (length peer.machine.log) (counted (mark_of before.marks r) peer.life + 1 * most_firings))

-- there is a replica with a number that one has
pub there_is : (w : WorldState) (k : ℕ) → Has w k → (x : ReplicaState) × At w.replicas k x
there_is w k h = let x = some_at w.replicas (k - 1) (omega (arith, h.0, h.1)) in (x.0, (h.0, x.1))

-- the delta is received
module _ (s r : ℕ) (apart : s ≡ r → ⊥) (receiving new : WorldState) (is : IsWorld receiving) (own peer : ReplicaState) (own_at : At receiving.replicas s own) (peer_at : At receiving.replicas r peer) (d : Delta) (to : d.receiver ≡ s) where
  received : (few : receiving.limit ≤ most_count) → (asker : ℕ) → IsDelta peer.machine.log peer.number asker peer.life (mark_of own.marks r) d → Delivers (messages.Delta d) (Ok tt) receiving new → (after : ReplicaState) × At new.replicas s after × At new.replicas r peer × (mark_of after.marks r ≡ mark peer.life (min (length peer.machine.log) (counted (mark_of own.marks r) peer.life + 1 * most_firings)))
  received few asker delta c =
      let l = c.replicas in
      let at_s : At receiving.replicas s l.before = subst (λ n. At receiving.replicas n l.before) to l.at in
      let same : l.before ≡ own = at_one receiving.replicas s own l.before own_at at_s in
      let list : new.replicas ≡ slice_set receiving.replicas (s - 1) l.after = l.list ∙ ap (λ n. slice_set receiving.replicas (n - 1) l.after) to in
      let own_is = is.members s own own_at in
      let peer_is = is.members r peer peer_at in
      let n = at_between receiving.replicas s own own_at in
      let k = at_between receiving.replicas r peer peer_at in
      let c8 = is.count in
      let honest : IsTrueMark (mark_of own.marks r) own peer = subst (λ i. IsTrueMark (mark_of own.marks i) own peer) peer_is.number (is.honest s r own peer apart own_at peer_at) in
      let within = peer_is.is.machine.sound.within in
      let limit = peer_is.limit in
      let marks : l.after.marks ≡ marks_after s d own.marks =
      ap (λ (x : ReplicaState). x.marks) l.how.1 ∙ ap (λ (x : ReplicaState). marks_after x.number d x.marks) same ∙ ap (λ i. marks_after i d own.marks) own_is.number in (
        l.after,
        (own_at.0, ap (λ (rs : List ReplicaState). slice_get rs (s - 1)) list ∙ get_set receiving.replicas (s - 1) l.after (omega (arith, n.0, n.1))),
        (peer_at.0, ap (λ (rs : List ReplicaState). slice_get rs (r - 1)) list ∙ get_set_other receiving.replicas (s - 1) (r - 1) l.after (λ e. apart (omega (arith, e, n.0, k.0))) ∙ peer_at.1),
        ap (λ (ms : List Mark). mark_of ms r) marks
            ∙ mark_moved s r own.marks peer.machine.log peer.life (mark_of own.marks r) d asker own_is.is.marks.eight (k.0, omega (arith, k.1, c8.1)) (λ e. apart (sym e)) (omega (arith, within, limit, few)) refl honest.life honest.count (subst (λ i. IsDelta peer.machine.log i asker peer.life (mark_of own.marks r) d) peer_is.number delta),
      )

module _ (s r : ℕ) (old : WorldState) (es : List Event) (new : WorldState) (is : IsWorld old) (few : old.limit ≤ most_count) (round : Round s r old es new) where
  low_s : 1 ≤ s
  low_s = round.asks.0.0.0

  low_r : 1 ≤ r
  low_r = round.asks.0.1.0

  apart : s ≡ r → ⊥
  apart = round.asks.0.2

  one : Beside s r old round.asking
  one = beside s r low_s low_r round.before_ask old round.asking is round.others_first

  asked_is : IsWorld round.asked
  asked_is = step_keeps round.asking (events.Ask s r) round.asked one.is round.asks

  two : Beside s r round.asked round.answering
  two = beside s r low_s low_r round.before_answer round.asked round.answering asked_is round.others_then

  answered_is : IsWorld round.answered
  answered_is = step_keeps round.answering (events.Deliver (length round.asking.messages)) round.answered two.is round.answers

  three : Beside s r round.answered round.receiving
  three = beside s r low_s low_r round.before_delta round.answered round.receiving answered_is round.others_last

  -- the replica that asks
  own : ReplicaState
  own = round.asks.1.0

  own_asking : At round.asking.replicas s own
  unfolding own
  own_asking = round.asks.1.1

  ask : Ask
  ask = ask_of own r

  asks : round.asked.messages ≡ round.asking.messages ++ (messages.Ask ask ∷ [])
  unfolding own ask
  asks = ap (λ (w : WorldState). w.messages) round.asks.1.2

  asked_same : round.asked.replicas ≡ round.asking.replicas
  asked_same = ap (λ (w : WorldState). w.replicas) round.asks.1.2

  asked_limit : round.asked.limit ≡ round.asking.limit
  asked_limit = ap (λ (w : WorldState). w.limit) round.asks.1.2

  ask_there : slice_get round.answering.messages (length round.asking.messages) ≡ Some (messages.Ask ask)
  ask_there = two.sent (length round.asking.messages) (messages.Ask ask) (ap (λ (ms : List Message). slice_get ms (length round.asking.messages)) asks ∙ get_last round.asking.messages (messages.Ask ask))

  -- its answer
  answer : Delivers (messages.Ask ask) (Ok tt) round.answering round.answered
  answer =
      let m = round.answers.1 in
      subst (λ (x : Message). Delivers x (Ok tt) round.answering round.answered) (same_message (messages.Ask ask) m.0 (sym ask_there ∙ m.1)) m.2

  peer : ReplicaState
  peer = answer.0

  peer_answering : At round.answering.replicas r peer
  unfolding ask peer
  peer_answering = answer.1

  delta : Delta
  delta = answer.2

  delta_is : IsDelta peer.machine.log peer.number own.number peer.life (mark_of own.marks r) delta
  unfolding ask peer delta
  delta_is = answer.3

  answers : round.answered.messages ≡ round.answering.messages ++ (messages.Delta delta ∷ [])
  unfolding ask peer delta
  answers = ap (λ (w : WorldState). w.messages) answer.4

  answered_same : round.answered.replicas ≡ round.answering.replicas
  answered_same = ap (λ (w : WorldState). w.replicas) answer.4

  answered_limit : round.answered.limit ≡ round.answering.limit
  answered_limit = ap (λ (w : WorldState). w.limit) answer.4

  delta_there : slice_get round.receiving.messages (length round.answering.messages) ≡ Some (messages.Delta delta)
  delta_there = three.sent (length round.answering.messages) (messages.Delta delta) (ap (λ (ms : List Message). slice_get ms (length round.answering.messages)) answers ∙ get_last round.answering.messages (messages.Delta delta))

  receive : Delivers (messages.Delta delta) (Ok tt) round.receiving new
  receive =
      let m = round.receives.1 in
      subst (λ (x : Message). Delivers x (Ok tt) round.receiving new) (same_message (messages.Delta delta) m.0 (sym delta_there ∙ m.1)) m.2

  -- the two replicas stand where they stood
  get_s : (rs ts : List ReplicaState) → rs ≡ ts → slice_get rs (s - 1) ≡ slice_get ts (s - 1)
  get_s rs ts e = ap (λ (xs : List ReplicaState). slice_get xs (s - 1)) e

  get_r : (rs ts : List ReplicaState) → rs ≡ ts → slice_get rs (r - 1) ≡ slice_get ts (r - 1)
  get_r rs ts e = ap (λ (xs : List ReplicaState). slice_get xs (r - 1)) e

  own_old : At old.replicas s own
  own_old = (low_s, sym one.first ∙ own_asking.1)

  own_receiving : At round.receiving.replicas s own
  own_receiving = (low_s, three.first ∙ get_s round.answered.replicas round.answering.replicas answered_same ∙ two.first ∙ get_s round.asked.replicas round.asking.replicas asked_same ∙ own_asking.1)

  peer_old : At old.replicas r peer
  peer_old = (low_r, sym (two.second ∙ get_r round.asked.replicas round.asking.replicas asked_same ∙ one.second) ∙ peer_answering.1)

  peer_receiving : At round.receiving.replicas r peer
  peer_receiving = (low_r, three.second ∙ get_r round.answered.replicas round.answering.replicas answered_same ∙ peer_answering.1)

  limits : round.receiving.limit ≡ old.limit
  limits = three.limit ∙ answered_limit ∙ two.limit ∙ asked_limit ∙ one.limit

  to : delta.receiver ≡ s
  unfolding own
  to = delta_is.receiver_is ∙ (one.is.members s own own_asking).number

  pub round_moves : Moved s r old new
  unfolding own ask peer delta
  round_moves =
      let a = received s r apart round.receiving new three.is own peer own_receiving peer_receiving delta to (let e = limits in omega (arith, e, few)) own.number delta_is receive in
      record {
        is = step_keeps round.receiving (events.Deliver (length round.answering.messages)) new three.is round.receives;
        limit = (stays round.receiving new (events.Deliver (length round.answering.messages)) round.receives).limit ∙ limits;
        before = own;
        after = a.0;
        peer = peer;
        before_at = own_old;
        after_at = a.1;
        peer_at = peer_old;
        peer_stays = a.2;
        reach = a.3;
      }

-- rounds, one after another

-- the same of so many rounds
pub record Reached (s r rounds : ℕ) (old new : WorldState) : Type 0 where
  pub is : IsWorld new
  pub apart : s ≡ r → ⊥
  pub before : ReplicaState
  pub after : ReplicaState
  pub peer : ReplicaState
  pub before_at : At old.replicas s before
  pub after_at : At new.replicas s after
  pub peer_at : At old.replicas r peer
  pub peer_stays : At new.replicas r peer
  pub reach : mark_of after.marks r ≡ mark peer.life (min (length peer.machine.log) (counted (mark_of before.marks r) peer.life + rounds * most_firings))

counted_same : (life count : ℕ) → counted (mark life count) life ≡ count
counted_same life count = cond-true (nat_eq life life) count 0 (eq-eqb life life refl)

module _ (s r : ℕ) where
  -- after the last round
  last_round : (old mid new : WorldState) (rest : List Event) → Moved s r old mid → (s ≡ r → ⊥) → OthersDo s r mid rest new → Reached s r 1 old new
  last_round old mid new rest m apart o =
      let b = beside s r m.after_at.0 m.peer_stays.0 rest mid new m.is o in
      record {
        is = b.is;
        apart = apart;
        before = m.before;
        after = m.after;
        peer = m.peer;
        before_at = m.before_at;
        after_at = (m.after_at.0, b.first ∙ m.after_at.1);
        peer_at = m.peer_at;
        peer_stays = (m.peer_stays.0, b.second ∙ m.peer_stays.1);
        reach = m.reach;
      }

  -- a round before others
  first_round : (rounds : ℕ) (old mid new : WorldState) → Moved s r old mid → Reached s r rounds mid new → Reached s r (suc rounds) old new
  first_round rounds old mid new m q =
      let own : q.before ≡ m.after = at_one mid.replicas s m.after q.before m.after_at q.before_at in
      let peer : q.peer ≡ m.peer = at_one mid.replicas r m.peer q.peer m.peer_stays q.peer_at in
      let long = length m.peer.machine.log in
      let start = counted (mark_of m.before.marks r) m.peer.life in
      let known : counted (mark_of q.before.marks r) m.peer.life ≡ min long (start + 1 * most_firings) =
      ap (λ (x : ReplicaState). counted (mark_of x.marks r) m.peer.life) own
      ∙ ap (λ (x : Mark). counted x m.peer.life) m.reach
      ∙ counted_same m.peer.life (min long (start + 1 * most_firings)) in
      record {
        is = q.is;
        apart = q.apart;
        before = m.before;
        after = q.after;
        peer = m.peer;
        before_at = m.before_at;
        after_at = q.after_at;
        peer_at = m.peer_at;
        peer_stays = subst (λ (x : ReplicaState). At new.replicas r x) peer q.peer_stays;
        reach =
            q.reach
            ∙ ap (λ (x : ReplicaState). mark x.life (min (length x.machine.log) (counted (mark_of q.before.marks r) x.life + rounds * most_firings))) peer
            ∙ ap (λ (n : ℕ). mark m.peer.life (min long (n + rounds * most_firings))) known
            ∙ ap (λ (n : ℕ). mark m.peer.life n) (reach_more long start rounds most_firings);
      }

  reaches : (n : ℕ) (old : WorldState) (es : List Event) (new : WorldState) → IsWorld old → old.limit ≤ most_count → Rounds s r (suc n) old es new → Reached s r (suc n) old new
  reaches zero old es new is few (first, rest, mid, e, round, o) = last_round old mid new rest (round_moves s r old first mid is few round) round.asks.0.2 o
  reaches (suc n) old es new is few (first, rest, mid, e, round, more) =
      let m = round_moves s r old first mid is few round in
      first_round (suc n) old mid new m (reaches n mid rest new m.is (let l = m.limit in omega (arith, l, few)) more)

-- s took what its mark counts
module _ (s r rounds : ℕ) (old new : WorldState) (q : Reached s r rounds old new) where
  takes : (f : Firing) → Contains (take (mark_of q.after.marks r).count q.peer.machine.log) f → Taken q.after.machine f
  takes =
      let number = (q.is.members r q.peer q.peer_stays).number in
      let honest : IsTrueMark (mark_of q.after.marks r) q.after q.peer = subst (λ i. IsTrueMark (mark_of q.after.marks i) q.after q.peer) number (q.is.honest s r q.after q.peer q.apart q.after_at q.peer_stays) in
      honest.has (ap (λ (m : Mark). m.life) q.reach)

  whole : length q.peer.machine.log ≤ rounds * most_firings → mark_of q.after.marks r ≡ mark q.peer.life (length q.peer.machine.log)
  whole l = q.reach ∙ ap (λ (n : ℕ). mark q.peer.life n) (reach_all (length q.peer.machine.log) (counted (mark_of q.before.marks r) q.peer.life) rounds most_firings l)

  pub caught_up : CatchesUp s r rounds old new
  caught_up = record {
    before = q.before;
    after = q.after;
    peer = q.peer;
    before_at = q.before_at;
    after_at = q.after_at;
    peer_at = q.peer_at;
    peer_stays = q.peer_stays;
    reach = q.reach;
    took = takes;
    all = λ l. (
      whole l,
      λ f c. takes f (let n : (mark_of q.after.marks r).count ≡ length q.peer.machine.log = ap (λ (m : Mark). m.count) (whole l) in
          subst (λ (fs : List Firing). Contains fs f) (sym (ap (λ (k : ℕ). take k q.peer.machine.log) n ∙ take_all (length q.peer.machine.log) q.peer.machine.log (omega arith))) c),
    );
  }

pub rounds_catch_up : (old : WorldState) (es : List Event) (new : WorldState) → IsWorld old → RoundsCatchUp old es new
rounds_catch_up old es new is s r zero few l rs = absurd (omega (arith, l))
rounds_catch_up old es new is s r (suc n) few l rs = caught_up s r (suc n) old new (reaches s r n old es new is few rs)
