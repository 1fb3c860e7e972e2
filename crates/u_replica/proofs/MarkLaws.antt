-- Where marks move: the sender's alone, and none counts less than before, or more than it may.
use Rattle.std.specs.Prelude.{◌≡◌, ℕ, ◌-◌, ◌≤◌, ◌⊎◌, Bool, true, false, List, length, max, nat_eq, nat_le, nat_lt, ◌&&◌, not, if◌then◌else◌, slice_set, refl}
use Rattle.std.proofs.Common.{sym, ◌∙◌, ap, subst, arith, inl, inr}
use Rattle.std.proofs.Math.Nat.{le-max_left, max-le}
use Rattle.std.proofs.lemmas.Bool.{and_parts, leb-true, ltb-true, eqb-true, eqb-false}
use Rattle.std.proofs.lemmas.List.{length-set, get_or-replicate, get_or-set_same, get_or-set_other}
use Rattle.u_name.specs.Context.{IsBetween}
use Rattle.u_delta.specs.declared.message.Mark.{Mark}
use Rattle.u_delta.specs.declared.message.Delta.{Delta}
use Rattle.u_replica.specs.Marking.{most_count, mark, fresh_mark, fresh_marks, mark_of, AreMarks, end_of, moved, is_heeded, marks_after, IsNoLess}

-- the mark is of a later life, or counts as many of its life's firings or more
pub moved_no_less : (d : Delta) (m : Mark) → IsNoLess m (moved d m)
moved_no_less d m = at (nat_eq d.life m.life && nat_le d.start m.count) refl
  where
    later : (t : Bool) → (nat_lt m.life d.life && nat_eq d.start 0) ≡ t → IsNoLess m (if t then mark d.life (end_of d) else m)
    later true h = inl (ltb-true m.life d.life (and_parts (nat_lt m.life d.life) (nat_eq d.start 0) h).0)
    later false h = inr (refl, omega arith)

    at : (t : Bool) → (nat_eq d.life m.life && nat_le d.start m.count) ≡ t → IsNoLess m (if t then mark m.life (max m.count (end_of d)) else if nat_lt m.life d.life && nat_eq d.start 0 then mark d.life (end_of d) else m)
    at true h = inr (refl, le-max_left m.count (end_of d))
    at false h = later (nat_lt m.life d.life && nat_eq d.start 0) refl

-- it counts no more than it may
moved_small : (d : Delta) (m : Mark) (n : ℕ) → m.count ≤ n → end_of d ≤ n → (moved d m).count ≤ n
moved_small d m n k l = at (nat_eq d.life m.life && nat_le d.start m.count)
  where
    later : (t : Bool) → (if t then mark d.life (end_of d) else m).count ≤ n
    later true = l
    later false = k

    at : (t : Bool) → (if t then mark m.life (max m.count (end_of d)) else if nat_lt m.life d.life && nat_eq d.start 0 then mark d.life (end_of d) else m).count ≤ n
    at true = max-le k l
    at false = later (nat_lt m.life d.life && nat_eq d.start 0)

fresh_mark_of : (peer : ℕ) → IsBetween 1 peer 8 → mark_of fresh_marks peer ≡ fresh_mark
fresh_mark_of peer b = get_or-replicate 8 (peer - 1) fresh_mark fresh_mark (omega (arith, b.0, b.1))

pub fresh_small : AreMarks fresh_marks
unfolding most_count
fresh_small = record { eight = refl; small = λ peer b. omega (arith, ap (λ (m : Mark). m.count) (fresh_mark_of peer b)) }

heeded : (own : ℕ) (d : Delta) → is_heeded own d ≡ true → IsBetween 1 d.sender 8 × (end_of d ≤ most_count)
heeded own d h =
    let a = and_parts (nat_le 1 d.sender && nat_le d.sender 8 && not (nat_eq d.sender own)) (nat_le (end_of d) most_count) h in
    let b = and_parts (nat_le 1 d.sender && nat_le d.sender 8) (not (nat_eq d.sender own)) a.0 in
    let c = and_parts (nat_le 1 d.sender) (nat_le d.sender 8) b.0 in
    ((leb-true 1 d.sender c.0, leb-true d.sender 8 c.1), leb-true (end_of d) most_count a.1)

-- a peer's mark stays, or it is the sender's and moves
module _ (own : ℕ) (d : Delta) (marks : List Mark) (eight : length marks ≡ 8) (peer : ℕ) (is : IsBetween 1 peer 8) where
  abbrev Stays : List Mark → Type 0
  Stays new = mark_of new peer ≡ mark_of marks peer

  abbrev Goes : List Mark → Type 0
  Goes new = (end_of d ≤ most_count) × (mark_of new peer ≡ moved d (mark_of marks peer))

  with_sender : List Mark
  with_sender = slice_set marks (d.sender - 1) (moved d (mark_of marks d.sender))

  pub marks_move : Stays (marks_after own d marks) ⊎ Goes (marks_after own d marks)
  unfolding with_sender
  marks_move = at (is_heeded own d) refl
    where
      here : is_heeded own d ≡ true → (t : Bool) → nat_eq d.sender peer ≡ t → Stays with_sender ⊎ Goes with_sender
      here h true e =
          let p = heeded own d h in
          let q : d.sender ≡ peer = eqb-true d.sender peer e in
          let s : mark_of with_sender d.sender ≡ moved d (mark_of marks d.sender) = get_or-set_same marks (d.sender - 1) (moved d (mark_of marks d.sender)) fresh_mark (omega (arith, p.0.0, p.0.1, eight)) in
          inr (p.1, subst (λ n. mark_of with_sender n ≡ moved d (mark_of marks n)) q s)
      here h false e =
          let p = heeded own d h in
          let q : d.sender ≡ peer → ⊥ = eqb-false d.sender peer e in
          inl (get_or-set_other marks (d.sender - 1) (peer - 1) (moved d (mark_of marks d.sender)) fresh_mark (λ r. q (omega (arith, p.0.0, is.0, r))))

      at : (t : Bool) → is_heeded own d ≡ t → Stays (if t then with_sender else marks) ⊎ Goes (if t then with_sender else marks)
      at true h = here h (nat_eq d.sender peer) refl
      at false h = inl refl

  pub marks_no_less : IsNoLess (mark_of marks peer) (mark_of (marks_after own d marks) peer)
  marks_no_less =
      elim marks_move [
        | inl s ↦ inr (ap (λ (m : Mark). m.life) (sym s), omega (arith, ap (λ (m : Mark). m.count) s))
        | inr g ↦ subst (λ m. IsNoLess (mark_of marks peer) m) (sym g.1) (moved_no_less d (mark_of marks peer))
      ]

  pub marks_small : (mark_of marks peer).count ≤ most_count → (mark_of (marks_after own d marks) peer).count ≤ most_count
  marks_small k =
      elim marks_move [
        | inl s ↦ subst (λ (m : Mark). m.count ≤ most_count) (sym s) k
        | inr g ↦ subst (λ (m : Mark). m.count ≤ most_count) (sym g.1) (moved_small d (mark_of marks peer) most_count k g.0)
      ]

eight_after : (own : ℕ) (d : Delta) (marks : List Mark) → length marks ≡ 8 → length (marks_after own d marks) ≡ 8
eight_after own d marks eight = at (is_heeded own d)
  where
    at : (t : Bool) → length (if t then slice_set marks (d.sender - 1) (moved d (mark_of marks d.sender)) else marks) ≡ 8
    at true = length-set marks (d.sender - 1) (moved d (mark_of marks d.sender)) ∙ eight
    at false = eight

-- they are marks still
pub marks_kept : (own : ℕ) (d : Delta) (marks : List Mark) → AreMarks marks → AreMarks (marks_after own d marks)
marks_kept own d marks are = record {
  eight = eight_after own d marks are.eight;
  small = λ peer b. marks_small own d marks are.eight peer b (are.small peer b);
}

-- what the code does

pub marks_stay : (own : ℕ) (d : Delta) (marks : List Mark) → is_heeded own d ≡ false → marks ≡ marks_after own d marks
marks_stay own d marks h = ap (λ t. if t then slice_set marks (d.sender - 1) (moved d (mark_of marks d.sender)) else marks) (sym h)

pub marks_move_so : (own : ℕ) (d : Delta) (marks : List Mark) → is_heeded own d ≡ true → slice_set marks (d.sender - 1) (moved d (mark_of marks d.sender)) ≡ marks_after own d marks
marks_move_so own d marks h = ap (λ t. if t then slice_set marks (d.sender - 1) (moved d (mark_of marks d.sender)) else marks) (sym h)
