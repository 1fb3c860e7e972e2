-- Random lists of events: the list that a seed stands for.
--
-- The generator is PCG XSH RR 64/32 (`Lcg64Xsh32`), and each event is made of its next four words.
use Rattle.std.specs.Prelude.{ℕ, zero, suc, ◌+◌, ◌-◌, ◌%◌, List, [], ◌∷◌, ◌++◌, length, Bool, true, false, nat_eq, nat_lt, ◌&&◌}
use Rattle.std.specs.Prelude.{◌||◌, if◌then◌else◌, slice_index_or}
use Rattle.rand_core.specs.Pcg32Seed.{pcg32_seed}
use Rattle.rand_pcg.specs.Lcg.{Lcg, advance}
use Rattle.rand_pcg.specs.Pcg.{multiplier_64, pcg32, pcg32_of_seed}
use Rattle.u_check.specs.Jobs.{JobParts}
use Rattle.u_world.specs.declared.event.Event.{Event}
use Rattle.u_world.specs.declared.event.Event.TheVariants as events
use Rattle.u_world.specs.declared.random.Words.{Words}
use Rattle.u_world.specs.declared.refused.Refused.TheVariants.{BadEvent}
use Rattle.u_world.specs.WorldState.{WorldState, fresh_world}
use Rattle.u_world.specs.Runs.{StopsAt}

-- the generator of a seed
unfoldable pub generator : ℕ → Lcg
generator seed = pcg32_of_seed (pcg32_seed 16 seed)

-- the generator that many words later
abbrev pub later : ℕ → Lcg → Lcg
later n g = advance 64 multiplier_64 n g

-- the word that the generator gives next
abbrev pub next_word : Lcg → ℕ
next_word g = (pcg32 g).0

-- its next four words, and the generator after them
unfoldable pub words_of : Lcg → Words
words_of g = record { kind = next_word g; replica = next_word (later 1 g); other = next_word (later 2 g); pick = next_word (later 3 g) }

unfoldable pub words_after : Lcg → Lcg
words_after g = later 4 g

-- the replica that the event happens to, among n
abbrev pub replica_of : ℕ → Words → ℕ
replica_of n w = 1 + w.replica % n

-- the number of a replica other than r, among n
abbrev pub another : ℕ → ℕ → ℕ → ℕ
another n r word = 1 + (r + word % (n - 1)) % n

-- Of eight kinds three fire, one asks, two deliver, one merges, and one saves or restarts. Where there is
-- no other replica to ask or to merge, or no message to deliver, the replica fires.
unfoldable pub random_event : (n : ℕ) (sent : ℕ) → Words → Event
random_event n sent w =
    let k = w.kind % 8 in
    let r = replica_of n w in
    let s = another n r w.other in
    if nat_eq k 3 && nat_lt 1 n then events.Ask r s
    else if (nat_eq k 4 || nat_eq k 5) && nat_lt 0 sent then events.Deliver (w.pick % sent)
    else if nat_eq k 6 && nat_lt 1 n then events.Merge r s
    else if nat_eq k 7 then (if nat_eq (w.pick % 2) 0 then events.Save r else events.Restart r w.other)
    else events.Fire r w.pick

-- Of each message that was sent, whether it is an ask, once the event happened: an ask sends itself, and
-- the delivery of an ask sends a delta.
abbrev pub sent_after : Event → List Bool → List Bool
sent_after (events.Ask r s) asks = asks ++ (true ∷ [])
sent_after (events.Deliver i) asks = if slice_index_or asks i false then asks ++ (false ∷ []) else asks
sent_after e asks = asks

-- the next events of the generator, in a world in which these messages were sent
unfoldable pub random_from : (n : ℕ) → Lcg → List Bool → (count : ℕ) → List Event
random_from n g asks zero = []
random_from n g asks (suc count) =
    let e = random_event n (length asks) (words_of g) in
    e ∷ random_from n (words_after g) (sent_after e asks) count

-- so many events of n replicas, of that seed
unfoldable pub random_list : (seed n count : ℕ) → List Event
random_list seed n count = random_from n (generator seed) [] count

-- a new world of n replicas finds none of the events that cannot be done, whatever job its replicas run
-- and however many firings they take at most
abbrev pub NoneIsBad : (n : ℕ) → List Event → Type 0
NoneIsBad n es = (job : JobParts) (limit place : ℕ) (new : WorldState) → StopsAt (fresh_world job limit n) es place BadEvent new → ⊥
