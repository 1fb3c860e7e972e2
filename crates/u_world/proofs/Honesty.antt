-- Marks and deltas stay true as replicas go on.
use Rattle.std.specs.Prelude.{◌≡◌, ℕ, ◌+◌, ◌-◌, ◌≤◌, ◌<◌, ◌⊎◌, Bool, true, false, List, ◌++◌, length, take, drop, max, nat_eq, nat_le, nat_lt, ◌&&◌, not, if◌then◌else◌, Contains, slice_set, refl}
use Rattle.std.proofs.Common.{sym, ◌∙◌, ap, subst, arith, inl, inr, length-append, append_assoc}
use Rattle.std.proofs.lemmas.Bool.{eqb-true, eqb-false, leb-true, and_parts}
use Rattle.std.proofs.lemmas.List.{take-append-le, take-append-drop, take_at, length-take-le, get_or-set_same, get_or-set_other, get_or-replicate}
use Rattle.std.proofs.lemmas.List.Elements.{Contains-append_cases}
use Rattle.u_name.specs.Context.{IsBetween}
use Rattle.u_rule.specs.declared.firing.Firing.{Firing}
use Rattle.u_delta.specs.declared.message.Mark.{Mark}
use Rattle.u_delta.specs.declared.message.Delta.{Delta}
use Rattle.u_delta.specs.Marks.{most_firings, starts_at, part_from}
use Rattle.u_machine.specs.State.{Taken}
use Rattle.u_replica.specs.Marking.{mark, fresh_mark, fresh_marks, mark_of, end_of, moved, is_heeded, marks_after, most_count}
use Rattle.u_replica.specs.ReplicaState.{ReplicaState}
use Rattle.u_world.specs.Worlds.{IsTrueMark, StandsAt, IsTrueDelta}
use Rattle.u_world.proofs.Places.{taken_more}

-- a later life, or a longer log of the same one
abbrev pub Later : ReplicaState → ReplicaState → Type 0
Later old new = (old.life < new.life) ⊎ ((new.life ≡ old.life) × ((rest : List Firing) × (new.machine.log ≡ old.machine.log ++ rest)))

-- the second took all that the first took
abbrev pub TookMore : ReplicaState → ReplicaState → Type 0
TookMore old new = (f : Firing) → Taken old.machine f → Taken new.machine f

pub honest_own : (m : Mark) (own own' peer : ReplicaState) → TookMore own own' → IsTrueMark m own peer → IsTrueMark m own' peer
honest_own m own own' peer sub h = record { life = h.life; count = h.count; has = λ e f c. sub f (h.has e f c) }

pub honest_peer : (m : Mark) (own peer peer' : ReplicaState) → Later peer peer' → IsTrueMark m own peer → IsTrueMark m own peer'
honest_peer m own p p' (inl l) h = let a = h.life in record { life = omega (arith, a, l); count = λ e. omega (arith, a, l, e); has = λ e f c. absurd (omega (arith, a, l, e)) }
honest_peer m own p p' (inr (e, (rest, g))) h =
    let a = h.life in record {
      life = omega (arith, a, e);
      count = λ q. let b = h.count (q ∙ e) in let n = length-append p.machine.log rest in rw g (omega (arith, b, n));
      has = λ q f c. h.has (q ∙ e) f (rw (g, take-append-le m.count p.machine.log rest (h.count (q ∙ e))) at c);
    }

stands_longer : (place : ℕ) (fs log rest : List Firing) → StandsAt place fs log → StandsAt place fs (log ++ rest)
stands_longer place fs log rest i = record {
  before = i.before;
  rest = i.rest ++ rest;
  whole = ap (λ (x : List Firing). x ++ rest) i.whole ∙ append_assoc i.before (fs ++ i.rest) rest ∙ ap (λ (x : List Firing). i.before ++ x) (append_assoc fs i.rest rest);
  long = i.long;
}

pub true_later : (d : Delta) (p p' : ReplicaState) → Later p p' → IsTrueDelta d p → IsTrueDelta d p'
true_later d p p' (inl l) t = let a = t.life in record { life = omega (arith, a, l); part = λ e. absurd (omega (arith, a, l, e)) }
true_later d p p' (inr (e, (rest, g))) t =
    let a = t.life in record {
      life = omega (arith, a, e);
      part = λ q. rw g (stands_longer d.start d.firings p.machine.log rest (t.part (q ∙ e)));
    }

stands_within : (place : ℕ) (fs log : List Firing) → StandsAt place fs log → place + length fs ≤ length log
stands_within place fs log i =
    let a = length-append i.before (fs ++ i.rest) in
    let b = length-append fs i.rest in
    let w = ap (λ (x : List Firing). length x) i.whole in
    omega (arith, a, b, w, i.long)

-- the first firings of a log, up to the end of what stands in it
stands_has : (place n : ℕ) (fs log : List Firing) → StandsAt place fs log → place ≤ n → (f : Firing) → Contains (take (place + length fs) log) f → Contains (take n log) f ⊎ Contains fs f
stands_has place n fs log i l f c =
    elim (Contains-append_cases i.before fs f (rw front at c)) [ inl a ↦ inl (taken_more place n log f l (rw first a)) | inr b ↦ inr b ]
  where
    front : take (place + length fs) log ≡ i.before ++ fs
    front = ap (take (place + length fs)) (i.whole ∙ sym (append_assoc i.before fs i.rest)) ∙ take_at (i.before ++ fs) i.rest (place + length fs) (let p = i.long in length-append i.before fs ∙ ap (λ (x : ℕ). x + length fs) p)

    first : take place log ≡ i.before
    first = ap (take place) i.whole ∙ take_at i.before (fs ++ i.rest) place i.long

starts_within : (log : List Firing) (life : ℕ) (m : Mark) → starts_at log life m ≤ length log
starts_within log life m = at (nat_eq m.life life && nat_le m.count (length log)) refl
  where
    at : (t : Bool) → (nat_eq m.life life && nat_le m.count (length log)) ≡ t → (if t then m.count else 0) ≤ length log
    at true h = leb-true m.count (length log) (and_parts (nat_eq m.life life) (nat_le m.count (length log)) h).1
    at false h = omega arith

-- what a replica answers is a part of its log
pub part_stands : (log : List Firing) (life : ℕ) (m : Mark) → StandsAt (starts_at log life m) (part_from log (starts_at log life m)) log
part_stands log life m = stands (starts_at log life m) (starts_within log life m)
  where
    stands : (k : ℕ) → k ≤ length log → StandsAt k (part_from log k) log
    stands k l = record {
      before = take k log;
      rest = drop most_firings (drop k log);
      whole = sym (ap (λ (x : List Firing). take k log ++ x) (take-append-drop most_firings (drop k log)) ∙ take-append-drop k log);
      long = length-take-le k log l;
    }

max_cases : (x y : ℕ) → (max x y ≡ x) ⊎ (max x y ≡ y)
max_cases x y = grind arith

-- the sender's mark, once a true delta of it was taken
module _ (m : Mark) (d : Delta) (own own' p : ReplicaState) (sub : TookMore own own') (got : (f : Firing) → Contains d.firings f → Taken own'.machine f) (h : IsTrueMark m own p) (t : IsTrueDelta d p) where
  counts_on : d.life ≡ m.life → d.start ≤ m.count → IsTrueMark (mark m.life (max m.count (end_of d))) own' p
  counts_on lives low = record {
    life = h.life;
    count = λ e. let i = stands_within d.start d.firings p.machine.log (t.part (lives ∙ e)) in let c = h.count e in omega (arith, i, c);
    has = λ e f c. has e f (max_cases m.count (end_of d)) c;
  }
    where
      has : m.life ≡ p.life → (f : Firing) → (max m.count (end_of d) ≡ m.count) ⊎ (max m.count (end_of d) ≡ end_of d) → Contains (take (max m.count (end_of d)) p.machine.log) f → Taken own'.machine f
      has e f (inl q) c = sub f (h.has e f (subst (λ (n : ℕ). Contains (take n p.machine.log) f) q c))
      has e f (inr q) c =
          elim (stands_has d.start m.count d.firings p.machine.log (t.part (lives ∙ e)) low f (subst (λ (n : ℕ). Contains (take n p.machine.log) f) q c)) [ inl a ↦ sub f (h.has e f a) | inr g ↦ got f g ]

  begins_anew : d.start ≡ 0 → IsTrueMark (mark d.life (end_of d)) own' p
  begins_anew first = record {
    life = t.life;
    count = λ e. stands_within d.start d.firings p.machine.log (t.part e);
    has = λ e f c. elim (stands_has d.start 0 d.firings p.machine.log (t.part e) (omega (arith, first)) f c) [ inl a ↦ absurd (nothing f a) | inr g ↦ got f g ];
  }
    where
      nothing : (f : Firing) → Contains (take 0 p.machine.log) f → ⊥
      nothing f (k, b, e) = omega arith

  pub honest_moved : IsTrueMark (moved d m) own' p
  honest_moved = at (nat_eq d.life m.life && nat_le d.start m.count) refl
    where
      later : (b : Bool) → (nat_lt m.life d.life && nat_eq d.start 0) ≡ b → IsTrueMark (if b then mark d.life (end_of d) else m) own' p
      later true e = begins_anew (eqb-true d.start 0 (and_parts (nat_lt m.life d.life) (nat_eq d.start 0) e).1)
      later false e = honest_own m own own' p sub h

      at : (b : Bool) → (nat_eq d.life m.life && nat_le d.start m.count) ≡ b → IsTrueMark (if b then mark m.life (max m.count (end_of d)) else if nat_lt m.life d.life && nat_eq d.start 0 then mark d.life (end_of d) else m) own' p
      at true e =
          let parts = and_parts (nat_eq d.life m.life) (nat_le d.start m.count) e in
          counts_on (eqb-true d.life m.life parts.0) (leb-true d.start m.count parts.1)
      at false e = later (nat_lt m.life d.life && nat_eq d.start 0) refl

-- a peer's mark stays, or the peer is the sender and its mark moves
module _ (own : ℕ) (d : Delta) (marks : List Mark) (eight : length marks ≡ 8) (peer : ℕ) (is : IsBetween 1 peer 8) where
  abbrev Stays : List Mark → Type 0
  Stays new = mark_of new peer ≡ mark_of marks peer

  abbrev Goes : List Mark → Type 0
  Goes new = (d.sender ≡ peer) × (mark_of new peer ≡ moved d (mark_of marks peer))

  pub mark_moves : Stays (marks_after own d marks) ⊎ Goes (marks_after own d marks)
  mark_moves = at (is_heeded own d) refl
    where
      new : List Mark
      new = slice_set marks (d.sender - 1) (moved d (mark_of marks d.sender))

      between : is_heeded own d ≡ true → IsBetween 1 d.sender 8
      between h =
          let a = and_parts (nat_le 1 d.sender && nat_le d.sender 8 && not (nat_eq d.sender own)) (nat_le (end_of d) most_count) h in
          let b = and_parts (nat_le 1 d.sender && nat_le d.sender 8) (not (nat_eq d.sender own)) a.0 in
          let c = and_parts (nat_le 1 d.sender) (nat_le d.sender 8) b.0 in
          (leb-true 1 d.sender c.0, leb-true d.sender 8 c.1)

      here : is_heeded own d ≡ true → (t : Bool) → nat_eq d.sender peer ≡ t → Stays new ⊎ Goes new
      here h true e =
          let p = between h in
          let q : d.sender ≡ peer = eqb-true d.sender peer e in
          let s : mark_of new d.sender ≡ moved d (mark_of marks d.sender) = get_or-set_same marks (d.sender - 1) (moved d (mark_of marks d.sender)) fresh_mark (omega (arith, p.0, p.1, eight)) in
          inr (q, subst (λ n. mark_of new n ≡ moved d (mark_of marks n)) q s)
      here h false e =
          let p = between h in
          let q : d.sender ≡ peer → ⊥ = eqb-false d.sender peer e in
          inl (get_or-set_other marks (d.sender - 1) (peer - 1) (moved d (mark_of marks d.sender)) fresh_mark (λ r. q (omega (arith, p.0, is.0, r))))

      at : (t : Bool) → is_heeded own d ≡ t → Stays (if t then new else marks) ⊎ Goes (if t then new else marks)
      at true h = here h (nat_eq d.sender peer) refl
      at false h = inl refl

-- a replica that starts again knows nothing, and that is true of each peer
pub fresh_true : (own peer : ReplicaState) (n : ℕ) → IsBetween 1 n 8 → 1 ≤ peer.life → IsTrueMark (mark_of fresh_marks n) own peer
fresh_true own peer n b born = subst (λ m. IsTrueMark m own peer) (sym fresh) (record { life = omega arith; count = λ e. omega (arith, e, born); has = λ e f c. absurd (omega (arith, e, born)) })
  where
    fresh : mark_of fresh_marks n ≡ fresh_mark
    fresh = get_or-replicate 8 (n - 1) fresh_mark fresh_mark (omega (arith, b.0, b.1))
