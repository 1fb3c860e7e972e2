-- The first replica of a world merges the others; and the lines that tell of the replicas.
use Rattle.std.specs.Prelude.{◌≡◌, ℕ, zero, suc, ◌+◌, ◌-◌, ◌≤◌, List, [], ◌∷◌, ◌++◌, length, take, slice_get, Some, Err, Option}
use Rattle.std.proofs.Common.{sym, ◌∙◌, ap, subst, arith, inr, append_assoc, append-nil}
use Rattle.u_world.specs.declared.event.Event.{Event}
use Rattle.u_world.specs.declared.event.Event.TheVariants as events
use Rattle.u_world.specs.WorldState.{WorldState, At}
use Rattle.u_world.specs.Worlds.{IsWorld}
use Rattle.u_world.specs.Happenings.{IsDoable}
use Rattle.u_world.proofs.Kept.{step_keeps}
use Rattle.u_world.proofs.Effects.{stays}
use Rattle.u_world.proofs.Doable.{IsNoTake, never_refused}
use Rattle.u_replica.specs.ReplicaState.{ReplicaState}
use Rattle.u_world.specs.Runs.{EventSteps}
use Rattle.u_commands.specs.Runs.{RunsBehind}
use Rattle.u_cli.specs.Worlds.{replica_line, replica_lines, merges, AreDoable, Gathers, TellsEnd}

same_event : (a b : Event) → Some a ≡ Some b → a ≡ b
same_event a b p = cc

module _ (n : ℕ) where
  -- the event can be done in each world of n replicas, and is not that one of them takes a firing
  abbrev IsAlways : Event → Type 0
  IsAlways e = IsNoTake e × ((w : WorldState) → length w.replicas ≡ n → IsDoable w e)

  abbrev AllAlways : List Event → Type 0
  AllAlways [] = Unit {0}
  AllAlways (e ∷ es) = IsAlways e × AllAlways es

  always_more : (es : List Event) (e : Event) → AllAlways es → IsAlways e → AllAlways (es ++ (e ∷ []))
  always_more [] e all one = (one, tt)
  always_more (x ∷ es) e all one = (all.0, always_more es e all.1 one)

  merges_always : (k : ℕ) → k + 1 ≤ n → AllAlways (merges k)
  merges_always zero l = tt
  merges_always (suc k) l =
      always_more (merges k) (events.Merge 1 (k + 2)) (merges_always k (omega (arith, l)))
      (tt, λ w c. ((omega arith, omega (arith, l, c)), (omega arith, omega (arith, l, c)), λ e. omega (arith, e)))

  -- so none of such events is refused as one that cannot be done
  never : (es : List Event) → AllAlways es → (w : WorldState) → IsWorld w → length w.replicas ≡ n → AreDoable w es
  never [] all w is count place new stops = let at = stops.at in absurd (cc)
  never (e ∷ es) all w is count zero new stops =
      never_refused w is new e (all.0.1 w count) all.0.0 (rw (stops.before, ← same_event e stops.event stops.at) at stops.last)
  never (e ∷ es) all w is count (suc place) new stops =
      let next = stops.before.0 in
      never es all.1 next (step_keeps w e next is stops.before.1) ((stays w next e stops.before.1).count ∙ count) place new
      (record { mid = stops.mid; event = stops.event; at = stops.at; before = stops.before.2; last = stops.last })

pub merges_doable : (w : WorldState) (n k : ℕ) → IsWorld w → length w.replicas ≡ n → k + 1 ≤ n → AreDoable w (merges k)
merges_doable w n k is count l = never n (merges k) (merges_always n k l) w is count

-- the lines

same_replica : (a b : ReplicaState) → Some a ≡ Some b → a ≡ b
same_replica a b p = cc

lines_suc : (rs : List ReplicaState) (k : ℕ) (r : ReplicaState) → slice_get rs k ≡ Some r → replica_lines (take (suc k) rs) ≡ replica_lines (take k rs) ++ replica_line r
lines_suc [] k r e = absurd (cc)
lines_suc (x ∷ rs) zero r e = append-nil (replica_line x) ∙ ap replica_line (same_replica x r e)
lines_suc (x ∷ rs) (suc k) r e =
    ap (λ (t : List ℕ). replica_line x ++ t) (lines_suc rs k r e) ∙ sym (append_assoc (replica_line x) (replica_lines (take k rs)) (replica_line r))

-- one line more
pub lines_more : (rs : List ReplicaState) (k : ℕ) (r : ReplicaState) (old new : List ℕ) → At rs (k + 1) r → old ≡ replica_lines (take k rs) → new ≡ old ++ replica_line r → new ≡ replica_lines (take (k + 1) rs)
lines_more rs k r old new at e f =
    let q : k + 1 ≡ suc k = omega arith in
    let z : k + 1 - 1 ≡ k = omega arith in
    let there = subst (λ (i : ℕ). slice_get rs i ≡ Some r) z at.1 in
    f ∙ ap (λ (t : List ℕ). t ++ replica_line r) e ∙ sym (lines_suc rs k r there) ∙ ap (λ (i : ℕ). replica_lines (take i rs)) (sym q)

pub join5 : (o a b c d e n1 n2 n3 n4 n5 : List ℕ) → n1 ≡ o ++ a → n2 ≡ n1 ++ b → n3 ≡ n2 ++ c → n4 ≡ n3 ++ d → n5 ≡ n4 ++ e → n5 ≡ o ++ (a ++ (b ++ (c ++ (d ++ e))))
join5 o a b c d e n1 n2 n3 n4 n5 p q r s t = rw (t, s, r, q, p) (simp append_assoc)

-- one event more
pub merges_more : (k : ℕ) (old new : List Event) → old ≡ merges k → new ≡ old ++ (events.Merge 1 (k + 2) ∷ []) → new ≡ merges (k + 1)
merges_more k old new e f =
    let q : k + 1 ≡ suc k = omega arith in
    f ∙ ap (λ (es : List Event). es ++ (events.Merge 1 (k + 2) ∷ [])) e ∙ sym (ap merges q)

-- the report of the first replica, once it fired what it could, behind the lines of all replicas
pub tells_end : (w : WorldState) (firings : ℕ) (first : ReplicaState) → Gathers w first → (written : List ℕ) (status : ℕ) → RunsBehind (replica_lines w.replicas) first.machine firings written status → TellsEnd w firings written status
tells_end w firings first g written status r = record {
  first = first;
  gathers = g;
  report = r.report;
  ends = record { end = r.end; machine = r.machine; is_machine = r.is_machine; ran = r.ran; reported = r.reported };
  is = r.is;
}
