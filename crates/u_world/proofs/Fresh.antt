-- A world in which nothing has happened is a world.
use Rattle.std.specs.Prelude.{◌≡◌, ℕ, zero, suc, ◌+◌, ◌-◌, ◌≤◌, List, [], ◌∷◌, ◌++◌, length, Contains, slice_get, Some, refl}
use Rattle.std.proofs.Common.{sym, ◌∙◌, ap, subst, arith, inl, inr, length-append}
use Rattle.std.proofs.lemmas.List.{get_or-replicate}
use Rattle.std.proofs.lemmas.List.Elements.{Contains-push, Contains-append_cases}
use Rattle.u_base.proofs.Member.{Contains-nil}
use Rattle.u_name.specs.Context.{IsBetween}
use Rattle.u_check.specs.Jobs.{JobParts}
use Rattle.u_machine.specs.State.{IsMachine}
use Rattle.u_machine.proofs.Fresh.{fresh_log}
use Rattle.u_machine.proofs.Obeying.{keeps_its_promise}
use Rattle.u_delta.specs.declared.message.Mark.{Mark}
use Rattle.u_replica.specs.Marking.{fresh_mark, fresh_marks, AreMarks}
use Rattle.u_replica.specs.ReplicaState.{ReplicaState, fresh, HoldsAlways}
use Rattle.u_replica.specs.Restoring.{blank}
use Rattle.u_world.specs.Inside.{AllHold}
use Rattle.u_world.specs.WorldState.{At, fresh_replicas, no_saves, fresh_world}
use Rattle.u_world.specs.Worlds.{IsMember, IsHonest, IsSaved, IsWorld}
use Rattle.u_machine.proofs.Lists.{slice_get_Contains}
use Rattle.u_world.proofs.Places.{get_push_cases}
use Rattle.u_world.proofs.Honesty.{fresh_true}

pub hold_nothing : AllHold []
hold_nothing r c = absurd (Contains-nil r c)

-- one more replica that holds
pub hold_more : (rs : List ReplicaState) (r : ReplicaState) → AllHold rs → HoldsAlways r → AllHold (rs ++ (r ∷ []))
hold_more rs r all is x c = elim (Contains-append_cases rs (r ∷ []) x c) [ inl a ↦ all x a | inr b ↦ only b ]
  where
    only : Contains (r ∷ []) x → HoldsAlways x
    only (zero, l, e) = subst HoldsAlways e is
    only (suc k, l, e) = absurd (omega arith)

pub saves_more : (n : ℕ) → no_saves (n + 1) ≡ no_saves n ++ ([] ∷ [])
saves_more n = let e : n + 1 ≡ suc n = omega arith in ap no_saves e

saves_count : (n : ℕ) → length (no_saves n) ≡ n
saves_count zero = refl
saves_count (suc n) = length-append (no_saves n) ([] ∷ []) ∙ (let e = saves_count n in omega (arith, e))

saves_none : (n j : ℕ) (bytes : List ℕ) → slice_get (no_saves n) j ≡ Some bytes → bytes ≡ []
saves_none zero j bytes e = absurd (cc)
saves_none (suc n) j bytes e = elim (get_push_cases (no_saves n) [] bytes j e) [ inl a ↦ saves_none n j bytes a | inr b ↦ b.1 ]

module _ (job : JobParts) (limit : ℕ) where
  pub fresh_more : (n : ℕ) → fresh_replicas job limit (n + 1) ≡ fresh_replicas job limit n ++ (fresh job limit (n + 1) ∷ [])
  fresh_more n =
      let e : n + 1 ≡ suc n = omega arith in
      ap (fresh_replicas job limit) e ∙ ap (λ k. fresh_replicas job limit n ++ (fresh job limit k ∷ [])) (sym e)

  pub count_is : (n : ℕ) → length (fresh_replicas job limit n) ≡ n
  count_is zero = refl
  count_is (suc n) = length-append (fresh_replicas job limit n) (fresh job limit (suc n) ∷ []) ∙ (let e = count_is n in omega (arith, e))

  pub fresh_at : (n j : ℕ) (r : ReplicaState) → slice_get (fresh_replicas job limit n) j ≡ Some r → r ≡ fresh job limit (suc j)
  fresh_at zero j r e = absurd (cc)
  fresh_at (suc n) j r e =
      elim (get_push_cases (fresh_replicas job limit n) (fresh job limit (suc n)) r j e) [
        | inl a ↦ fresh_at n j r a
        | inr b ↦ b.1 ∙ ap (λ k. fresh job limit (suc k)) (sym (b.0 ∙ count_is n))
      ]

  -- each of them holds

  fresh_machine : IsMachine (blank job limit)
  fresh_machine = record { sound = (fresh_log job limit).is; history_rises = ((λ y c. absurd (Contains-nil y c)), tt); parked_rises = tt }

  fresh_marked : AreMarks fresh_marks
  fresh_marked = record { eight = refl; small = λ peer b. let e = ap (λ (m : Mark). m.count) (get_or-replicate 8 (peer - 1) fresh_mark fresh_mark (omega (arith, b.0, b.1))) in omega (arith, e) }

  fresh_holds : (k : ℕ) → IsBetween 1 k 8 → HoldsAlways (fresh job limit k)
  fresh_holds k b = record {
    is = record { machine = fresh_machine; number = b; born = omega arith; life = omega arith; marks = fresh_marked };
    promise = keeps_its_promise (blank job limit) fresh_machine;
  }

  pub fresh_all_hold : (n : ℕ) → n ≤ 8 → AllHold (fresh_replicas job limit n)
  fresh_all_hold zero l = hold_nothing
  fresh_all_hold (suc n) l = hold_more (fresh_replicas job limit n) (fresh job limit (suc n)) (fresh_all_hold n (omega (arith, l))) (fresh_holds (suc n) (omega arith, l))

  fresh_there : (n : ℕ) → 1 ≤ n → Contains (fresh_replicas job limit n) (fresh job limit n)
  fresh_there zero l = absurd (omega (arith, l))
  fresh_there (suc n) l = Contains-push (fresh_replicas job limit n) (fresh job limit (suc n))

  module _ (n : ℕ) (few : IsBetween 1 n 8) (all : AllHold (fresh_replicas job limit n)) where
    is_blank : IsMachine (blank job limit)
    is_blank = (all (fresh job limit n) (fresh_there n few.0)).is.machine

    fresh_is : (k : ℕ) (r : ReplicaState) → At (fresh_replicas job limit n) k r → r ≡ fresh job limit k
    fresh_is k r a = fresh_at n (k - 1) r a.1 ∙ ap (λ i. fresh job limit i) (omega (arith, a.0))

    member : (k : ℕ) (r : ReplicaState) → At (fresh_replicas job limit n) k r → IsMember (fresh_world job limit n) k r
    member k r a =
        let e = fresh_is k r a in
        record {
          is = (all r (slice_get_Contains (fresh_replicas job limit n) (k - 1) r a.1)).is;
          number = ap (λ (r : ReplicaState). r.number) e;
          job = ap (λ (r : ReplicaState). r.machine.job) e;
          limit = ap (λ (r : ReplicaState). r.machine.limit) e;
        }

    honest : (k j : ℕ) (r p : ReplicaState) → At (fresh_replicas job limit n) k r → At (fresh_replicas job limit n) j p → IsHonest r p
    honest k j r p a b =
        let m = (member j p b).is in
        subst (λ r. IsHonest r p) (sym (fresh_is k r a)) (fresh_true (fresh job limit k) p p.number m.number m.born)

    saved : (k : ℕ) (bytes : List ℕ) → At (no_saves n) k bytes → IsSaved (fresh_world job limit n) bytes
    saved k bytes a = record { saver = blank job limit; may = (is_blank, refl, tt); limit = refl; text = inl (saves_none n (k - 1) bytes a.1) }

    pub fresh_is_world : IsWorld (fresh_world job limit n)
    fresh_is_world = record {
      count = subst (λ k. IsBetween 1 k 8) (sym (count_is n)) few;
      save_count = saves_count n ∙ sym (count_is n);
      members = member;
      honest = λ k j r p apart a b. honest k j r p a b;
      sent = λ m c. absurd (Contains-nil m c);
      saved = saved;
    }
