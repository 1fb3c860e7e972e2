-- How a mark moves in a round.
use Rattle.std.specs.Prelude.{◌≡◌, ℕ, suc, ◌+◌, ◌-◌, ◌*◌, ◌≤◌, ◌<◌, List, length, take, drop, max, min, Bool, true, false, nat_eq, nat_le, nat_lt, ◌&&◌, not, if◌then◌else◌, slice_set, refl}
use Rattle.std.proofs.Common.{sym, ◌∙◌, ap, subst, arith}
use Rattle.std.proofs.lemmas.Bool.{cond-true, cond-false, eqb-true, eqb-false, le-leb, lt-ltb, eq-eqb, ne_eqb, and_from, and_left, not_from_false}
use Rattle.std.proofs.lemmas.List.{length-take, length-drop, get_or-set_same}
use Rattle.u_name.specs.Context.{IsBetween}
use Rattle.u_rule.specs.declared.firing.Firing.{Firing}
use Rattle.u_delta.specs.declared.message.Mark.{Mark}
use Rattle.u_delta.specs.declared.message.Delta.{Delta}
use Rattle.u_delta.specs.Marks.{most_firings, starts_at, part_from, IsDelta}
use Rattle.u_replica.specs.Marking.{mark, fresh_mark, mark_of, end_of, moved, is_heeded, marks_after, most_count}
use Rattle.u_world.specs.Rounds.{counted}

-- numbers

pub reach_more : (long start n most : ℕ) → min long (min long (start + 1 * most) + n * most) ≡ min long (start + (suc n) * most)
reach_more long start n most = grind arith

reach_one : (long start most : ℕ) → min long (start + most) ≡ min long (start + 1 * most)
reach_one long start most = grind arith

pub reach_all : (long start n most : ℕ) → long ≤ n * most → min long (start + n * most) ≡ long
reach_all long start n most l = grind arith

max_end : (count long most : ℕ) → count ≤ long → max count (min long (count + most)) ≡ min long (count + most)
max_end count long most l = grind arith

part_end : {X : Type 0} (log : List X) (start most : ℕ) → start ≤ length log → start + length (take most (drop start log)) ≡ min (length log) (start + most)
part_end {X} log start most l = let a = length-take most (drop start log) in let b = length-drop start log in grind (arith, a, b)

-- a mark that is true of the log, and the part of the log that it leaves out
module _ (log : List Firing) (life : ℕ) (m : Mark) (old : m.life ≤ life) (count : m.life ≡ life → m.count ≤ length log) where
  start_is : starts_at log life m ≡ counted m life
  start_is = at (nat_eq m.life life) refl
    where
      at : (t : Bool) → nat_eq m.life life ≡ t → (if t && nat_le m.count (length log) then m.count else 0) ≡ (if t then m.count else 0)
      at true e = cond-true (nat_le m.count (length log)) m.count 0 (le-leb m.count (length log) (count (eqb-true m.life life e)))
      at false e = refl

  counted_within : counted m life ≤ length log
  counted_within = at (nat_eq m.life life) refl
    where
      at : (t : Bool) → nat_eq m.life life ≡ t → (if t then m.count else 0) ≤ length log
      at true e = count (eqb-true m.life life e)
      at false e = omega arith

  module _ (d : Delta) (lives : d.life ≡ life) (starts : d.start ≡ starts_at log life m) (firings : d.firings ≡ part_from log (starts_at log life m)) where
    goal : ℕ
    goal = min (length log) (counted m life + most_firings)

    starts_counted : d.start ≡ counted m life
    starts_counted = starts ∙ start_is

    end_is : end_of d ≡ goal
    unfolding goal
    end_is =
        ap (λ (s : ℕ). s + length d.firings) starts_counted
        ∙ ap (λ (fs : List Firing). counted m life + length fs) (firings ∙ ap (part_from log) start_is)
        ∙ part_end log (counted m life) most_firings counted_within

    pub end_within : end_of d ≤ length log
    unfolding goal
    end_within = let e = end_is in omega (arith, e)

    goes_on : nat_eq m.life life ≡ true → moved d m ≡ mark life goal
    unfolding goal
    goes_on e =
        let same : m.life ≡ life = eqb-true m.life life e in
        let c : counted m life ≡ m.count = cond-true (nat_eq m.life life) m.count 0 e in
        let s : d.start ≡ m.count = starts_counted ∙ c in
        let test : (nat_eq d.life m.life && nat_le d.start m.count) ≡ true = and_from (nat_eq d.life m.life) (nat_le d.start m.count) (eq-eqb d.life m.life (lives ∙ sym same)) (le-leb d.start m.count (omega (arith, s))) in
        let far : max m.count (end_of d) ≡ goal =
        ap (λ (n : ℕ). max m.count n) (end_is ∙ ap (λ (n : ℕ). min (length log) (n + most_firings)) c)
        ∙ max_end m.count (length log) most_firings (count same)
        ∙ ap (λ (n : ℕ). min (length log) (n + most_firings)) (sym c) in
        cond-true (nat_eq d.life m.life && nat_le d.start m.count) _ _ test
        ∙ ap (λ (n : ℕ). mark n (max m.count (end_of d))) same
        ∙ ap (λ (n : ℕ). mark life n) far

    begins : nat_eq m.life life ≡ false → moved d m ≡ mark life goal
    unfolding goal
    begins e =
        let apart : m.life ≡ life → ⊥ = eqb-false m.life life e in
        let less : m.life < life = grind (arith, old, apart) in
        let c : counted m life ≡ 0 = cond-false (nat_eq m.life life) m.count 0 e in
        let s : d.start ≡ 0 = starts_counted ∙ c in
        let other : nat_eq d.life m.life ≡ false = ne_eqb d.life m.life (λ q. omega (arith, q, lives, less)) in
        let test : (nat_lt m.life d.life && nat_eq d.start 0) ≡ true = and_from (nat_lt m.life d.life) (nat_eq d.start 0) (lt-ltb m.life d.life (omega (arith, lives, less))) (eq-eqb d.start 0 s) in
        cond-false (nat_eq d.life m.life && nat_le d.start m.count) _ _ (and_left (nat_eq d.life m.life) (nat_le d.start m.count) other)
        ∙ cond-true (nat_lt m.life d.life && nat_eq d.start 0) _ _ test
        ∙ ap (λ (n : ℕ). mark n (end_of d)) lives
        ∙ ap (λ (n : ℕ). mark life n) end_is

    moved_is : moved d m ≡ mark life (min (length log) (counted m life + 1 * most_firings))
    unfolding goal
    moved_is = at (nat_eq m.life life) refl ∙ ap (λ (n : ℕ). mark life n) (reach_one (length log) (counted m life) most_firings)
      where
        at : (t : Bool) → nat_eq m.life life ≡ t → moved d m ≡ mark life (min (length log) (counted m life + most_firings))
        at true e = goes_on e
        at false e = begins e

-- the delta is heeded, and the sender's mark moves
heeded : (own : ℕ) (d : Delta) → IsBetween 1 d.sender 8 → (d.sender ≡ own → ⊥) → end_of d ≤ most_count → is_heeded own d ≡ true
heeded own d b apart l =
    and_from (nat_le 1 d.sender && nat_le d.sender 8 && not (nat_eq d.sender own)) (nat_le (end_of d) most_count)
    (and_from (nat_le 1 d.sender && nat_le d.sender 8) (not (nat_eq d.sender own))
    (and_from (nat_le 1 d.sender) (nat_le d.sender 8) (le-leb 1 d.sender b.0) (le-leb d.sender 8 b.1))
    (not_from_false (nat_eq d.sender own) (ne_eqb d.sender own apart)))
    (le-leb (end_of d) most_count l)

pub mark_moved : (own r : ℕ) (marks : List Mark) (log : List Firing) (life : ℕ) (m : Mark) (d : Delta) (asker : ℕ) → length marks ≡ 8 → IsBetween 1 r 8 → (r ≡ own → ⊥) → length log ≤ most_count → mark_of marks r ≡ m → m.life ≤ life → (m.life ≡ life → m.count ≤ length log) → IsDelta log r asker life m d → mark_of (marks_after own d marks) r ≡ mark life (min (length log) (counted m life + 1 * most_firings))
mark_moved own r marks log life m d asker eight b apart few is old count delta =
    let from : d.sender ≡ r = delta.sender_is in
    let end : end_of d ≤ length log = end_within log life m old count d delta.life_is delta.start_is delta.firings_are in
    let ok : is_heeded own d ≡ true = heeded own d (subst (λ n. IsBetween 1 n 8) (sym from) b) (λ e. apart (sym from ∙ e)) (omega (arith, end, few)) in
    let after : marks_after own d marks ≡ slice_set marks (d.sender - 1) (moved d (mark_of marks d.sender)) = cond-true (is_heeded own d) _ _ ok in
    let there : mark_of (slice_set marks (r - 1) (moved d (mark_of marks r))) r ≡ moved d (mark_of marks r) = get_or-set_same marks (r - 1) (moved d (mark_of marks r)) fresh_mark (omega (arith, b.0, b.1, eight)) in
    ap (λ (ms : List Mark). mark_of ms r) (after ∙ ap (λ n. slice_set marks (n - 1) (moved d (mark_of marks n))) from)
    ∙ there
    ∙ ap (moved d) is
    ∙ moved_is log life m old count d delta.life_is delta.start_is delta.firings_are
