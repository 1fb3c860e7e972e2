-- What one replica of a world may become, so that it is a world still.
use Rattle.std.specs.Prelude.{◌≡◌, ℕ, ◌-◌, ◌⊎◌, List, length, slice_set, refl}
use Rattle.std.proofs.Common.{sym, ◌∙◌, ap, subst, arith, inl, inr, get_or}
use Rattle.std.proofs.lemmas.List.{length-set}
use Rattle.u_name.specs.Context.{IsBetween}
use Rattle.u_delta.specs.declared.message.Delta.{Delta}
use Rattle.u_delta.specs.declared.message.Message.{Message}
use Rattle.u_delta.specs.declared.message.Message.TheVariants as messages
use Rattle.u_machine.specs.Obeying as machines
use Rattle.u_replica.specs.Marking.{mark_of}
use Rattle.u_replica.specs.ReplicaState.{ReplicaState, HoldsAlways, ChangesMachine}
use Rattle.u_world.specs.WorldState.{WorldState, world, At, Has, Changes}
use Rattle.u_world.specs.Worlds.{IsTrueMark, IsHonest, IsTrueDelta, IsMember, IsSentDelta, IsSent, IsSaved, IsWorld}
use Rattle.u_world.proofs.Places.{at_set_cases, at_read}
use Rattle.u_world.proofs.Honesty.{Later, TookMore, honest_own, honest_peer, true_later}

-- the world, with this replica at that number
abbrev pub put : WorldState → ℕ → ReplicaState → WorldState
put w k r = world w.job w.limit (slice_set w.replicas (k - 1) r) w.messages w.saves

pub changed : (k : ℕ) (R : ReplicaState → ReplicaState → Type 0) (old new : WorldState) (c : Changes k R old new) → new ≡ put old k c.replicas.after
changed k R old new c = c.others ∙ ap (λ rs. world old.job old.limit rs old.messages old.saves) c.replicas.list

-- one replica was called, which stands at a number that was counted otherwise
pub one_changed : (old : WorldState) (k n : ℕ) (R : ReplicaState → ReplicaState → Type 0) (before after : ReplicaState) → Has old k → n ≡ k → before ≡ get_or old.replicas (n - 1) before → R before after → HoldsAlways after → Changes k R old (put old n after)
one_changed old k n R before after has e is how holds = record {
  replicas = record {
    before = before;
    after = after;
    at = at_read old.replicas k before before has (is ∙ ap (λ i. get_or old.replicas (i - 1) before) e);
    how = how;
    holds = holds;
    list = ap (λ i. slice_set old.replicas (i - 1) after) e;
  };
  others = refl;
}

-- the replica goes on: its number, its job and its limit stay, its life or its log grows, and its marks are
-- true of the others
pub record Moves (w : WorldState) (k : ℕ) (before after : ReplicaState) : Type 0 where
  pub number : after.number ≡ before.number
  pub job : after.machine.job ≡ before.machine.job
  pub limit : after.machine.limit ≡ before.machine.limit
  pub later : Later before after
  pub honest : (j : ℕ) (p : ReplicaState) → (k ≡ j → ⊥) → At w.replicas j p → IsHonest after p

module _ (w : WorldState) (is : IsWorld w) (k : ℕ) (before after : ReplicaState) (at : At w.replicas k before) (holds : HoldsAlways after) (m : Moves w k before after) where
  Place : ℕ → ReplicaState → Type 0
  Place j r = ((k ≡ j) × (r ≡ after)) ⊎ ((k ≡ j → ⊥) × At w.replicas j r)

  place : (j : ℕ) (r : ReplicaState) → At (put w k after).replicas j r → Place j r
  unfolding Place
  place j r a = at_set_cases w.replicas k j after r at.0 a

  same_count : length (put w k after).replicas ≡ length w.replicas
  same_count = length-set w.replicas (k - 1) after

  has_still : (j : ℕ) → Has w j → Has (put w k after) j
  has_still j h = (h.0, (let s = same_count in omega (arith, h.1, s)))

  member : (j : ℕ) (r : ReplicaState) → Place j r → IsMember (put w k after) j r
  unfolding Place
  member j r (inl a) =
      let b = is.members k before at in
      subst (λ (r : ReplicaState). IsMember (put w k after) j r) (sym a.1)
      (record { is = holds.is; number = m.number ∙ b.number ∙ a.0; job = m.job ∙ b.job; limit = m.limit ∙ b.limit })
  member j r (inr b) = let i = is.members j r b.1 in record { is = i.is; number = i.number; job = i.job; limit = i.limit }

  -- the number of a replica that did not change
  number_of : (j : ℕ) (p : ReplicaState) → At w.replicas j p → p.number ≡ j
  number_of j p a = (is.members j p a).number

  honest : (i j : ℕ) (r p : ReplicaState) → (i ≡ j → ⊥) → Place i r → Place j p → IsHonest r p
  unfolding Place
  honest i j r p apart (inl a) (inl b) = absurd (apart (sym a.0 ∙ b.0))
  honest i j r p apart (inl a) (inr b) = subst (λ (r : ReplicaState). IsHonest r p) (sym a.1) (m.honest j p b.0 b.1)
  honest i j r p apart (inr a) (inl b) =
      subst (λ (p : ReplicaState). IsHonest r p) (sym b.1)
      (subst (λ n. IsTrueMark (mark_of r.marks n) r after) (sym m.number)
      (honest_peer (mark_of r.marks before.number) r before after m.later (is.honest i k r before (λ e. a.0 (sym e)) a.1 at)))
  honest i j r p apart (inr a) (inr b) = is.honest i j r p apart a.1 b.1

  true_delta : (d : Delta) (p : ReplicaState) → IsSentDelta w d → Place d.sender p → IsTrueDelta d p
  unfolding Place
  true_delta d p s (inl a) =
      subst (λ (p : ReplicaState). IsTrueDelta d p) (sym a.1)
      (true_later d before after m.later (s.part before (subst (λ n. At w.replicas n before) a.0 at)))
  true_delta d p s (inr b) = s.part p b.1

  sent : (x : Message) → IsSent w x → IsSent (put w k after) x
  sent (messages.Ask a) s = record { asker = has_still a.asker s.asker; asked = has_still a.asked s.asked; apart = s.apart }
  sent (messages.Delta d) s = record {
    sender = has_still d.sender s.sender;
    receiver = has_still d.receiver s.receiver;
    apart = s.apart;
    firings = s.firings;
    part = λ p a. true_delta d p s (place d.sender p a);
  }

  saved : (bytes : List ℕ) → IsSaved w bytes → IsSaved (put w k after) bytes
  saved bytes s = record { saver = s.saver; may = s.may; limit = s.limit; text = s.text }

  -- it is a world still
  pub put_keeps : IsWorld (put w k after)
  put_keeps = record {
    count = subst (λ n. IsBetween 1 n 8) (sym same_count) is.count;
    save_count = is.save_count ∙ sym same_count;
    members = λ j r a. member j r (place j r a);
    honest = λ i j r p apart a b. honest i j r p apart (place i r a) (place j p b);
    sent = λ x c. sent x (is.sent x c);
    saved = λ j bytes a. saved bytes (is.saved j bytes a);
  }

-- a call of the replica's machine, which loses nothing
module _ (w : WorldState) (is : IsWorld w) (k : ℕ) (before after : ReplicaState) (at : At w.replicas k before) (goes : machines.Extends before.machine after.machine) where
  took_more : TookMore before after
  took_more f t = goes.taken f t

  -- the mark for a peer, where it did not move
  pub still_honest : (j : ℕ) (p : ReplicaState) → (k ≡ j → ⊥) → At w.replicas j p → IsTrueMark (mark_of before.marks p.number) after p
  still_honest j p apart b = honest_own (mark_of before.marks p.number) before after p took_more (is.honest k j before p apart at b)

  pub machine_moves : ChangesMachine before after → Moves w k before after
  machine_moves alone = record {
    number = ap (λ (r : ReplicaState). r.number) alone;
    job = goes.grows.job;
    limit = goes.grows.limit;
    later = inr (ap (λ (r : ReplicaState). r.life) alone, goes.grows.log);
    honest = λ j p apart b. subst (λ marks. IsTrueMark (mark_of marks p.number) after p) (sym (ap (λ (r : ReplicaState). r.marks) alone)) (still_honest j p apart b);
  }
