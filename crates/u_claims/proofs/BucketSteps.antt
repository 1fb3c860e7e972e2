-- Claiming and releasing a bucket keep the rule of the board, whatever the board is when the step is taken: the bucket's word is put to the seat's number or to 0, and the seat's view follows.
use Rattle.std.proofs.Common.{◌≡◌, ◌≢◌, ℕ, zero, suc, ◌<◌, ◌≤◌, ◌⊎◌, Bool, true, false, List, ◌==◌, slice_index, slice_index_or, slice_set, refl, sym, subst, ap, ◌∙◌, ⊎_elim, inl, inr, le_trans, zero-le, arith}
use Rattle.std.proofs.lemmas.List.{get_or-set_same, get_or-set_other, length-set, set-get_or}
use mathlib.Core.Option.{some, none}
use mathlib.Core.Logic.{dite}
use native.Mathlib.Decide.{ℕ_discrete}
use prog.Atomic.{either}
use lib.ListN.{get_elem?}
use Rattle.atomic_table.specs.Table.{State, Me, step, Act, keeps, Valid, Allows, stepped, carried_after}
use Rattle.atomic_table.proofs.Lists.{at_set, set_again, exchanged}
use Rattle.u_claims.specs.declared.rule.Hand.{Hand}
use Rattle.u_claims.specs.Held.{hand, has_bucket, with_bucket, without_bucket, Fits, IsBoard, ClaimsBucket, ReleasesBucket}

true_not_false : (b : Bool) → b ≡ true → b ≡ false → ⊥
true_not_false b t f = let e : true ≡ false = sym t ∙ f in cc

one_le : (n : ℕ) → n ≢ 0 → 1 ≤ n
one_le zero nonzero = absurd (nonzero refl)
one_le (suc n) nonzero = omega arith

-- The seat `id` has a number and the view v. The word of bucket b becomes `to`, which is 0 or the seat's number, and the seat holds the bucket from now on where it is the number.
module _ (seats id b to : ℕ) (flag : Bool) (v : Hand) (s : State (Unit {0}) Hand) (board : IsBoard seats s) (at : get_elem? s.views id ≡ some v) (small : b < 64) (numbered : 0 < v.number)
    (on : flag ≡ true → to ≡ v.number) (off : to ≡ v.number → flag ≡ true) (known_word : (to ≡ 0) ⊎ (to ≡ v.number)) where
  abbrev words : List ℕ
  words = slice_set s.words b to

  abbrev view : Hand
  view = hand v.seats v.number (slice_set v.held b flag)

  here : slice_index words b ≡ to
  here = get_or-set_same s.words b to 0 (rw board.wide (omega (arith, small)))

  elsewhere : (i : ℕ) → i ≢ b → slice_index words i ≡ slice_index s.words i
  elsewhere i apart = get_or-set_other s.words b i to 0 apart

  counter : slice_index words 64 ≡ slice_index s.words 64
  counter = elsewhere 64 (λ e. omega (arith, small, e))

  -- each bucket's word is 0 or a number that was drawn
  known : (i : ℕ) → i < 64 → slice_index words i ≤ slice_index words 64
  known i within = subst (λ z. slice_index words i ≤ z) (sym counter) (dite (ℕ_discrete i b) at_bucket (λ apart. subst (λ z. z ≤ slice_index s.words 64) (sym (elsewhere i apart)) (board.known i within)))
    where
      drawn : to ≤ slice_index s.words 64
      drawn = ⊎_elim (λ (e : to ≡ 0). subst (λ z. z ≤ slice_index s.words 64) (sym e) zero-le) (λ (e : to ≡ v.number). subst (λ z. z ≤ slice_index s.words 64) (sym e) (board.fits id v at).drawn) known_word

      at_bucket : i ≡ b → slice_index words i ≤ slice_index s.words 64
      at_bucket e = subst (λ z. slice_index words z ≤ slice_index s.words 64) (sym e) (subst (λ z. z ≤ slice_index s.words 64) (sym here) drawn)

  -- the seat's new view fits the new words
  own_fits : Fits seats words view
  own_fits =
      let old = board.fits id v at in
      let flag_there : slice_index_or (slice_set v.held b flag) b false ≡ flag = get_or-set_same v.held b flag false (rw old.long small) in
      record {
        long = length-set v.held b flag ∙ old.long;
        told = old.told;
        drawn = subst (λ z. v.number ≤ z) (sym counter) old.drawn;
        has = λ i within has. dite (ℕ_discrete i b)
            (λ e. let set : flag ≡ true = sym flag_there ∙ subst (λ z. has_bucket view z ≡ true) e has in (numbered, subst (λ z. slice_index words z ≡ v.number) (sym e) (here ∙ on set)))
            (λ apart. let had = old.has i within (sym (get_or-set_other v.held b i flag false apart) ∙ has) in (had.0, elsewhere i apart ∙ had.1));
        exact = λ i within positive same. dite (ℕ_discrete i b)
            (λ e. let put : to ≡ v.number = sym here ∙ subst (λ z. slice_index words z ≡ v.number) e same in subst (λ z. has_bucket view z ≡ true) (sym e) (flag_there ∙ off put))
            (λ apart. get_or-set_other v.held b i flag false apart ∙ old.exact i within positive (sym (elsewhere i apart) ∙ same));
      }

  -- another seat fits the new words as it is, where it does not hold the bucket
  other_fits : (j : ℕ) (u : Hand) → j ≢ id → get_elem? s.views j ≡ some u → (has_bucket u b ≡ true → ⊥) → Fits seats words u
  other_fits j u away there lacks =
      let old = board.fits j u there in
      record {
        long = old.long;
        told = old.told;
        drawn = subst (λ z. u.number ≤ z) (sym counter) old.drawn;
        has = λ i within has. dite (ℕ_discrete i b) (λ e. absurd (lacks (subst (λ z. has_bucket u z ≡ true) e has)))
            (λ apart. let had = old.has i within has in (had.0, elsewhere i apart ∙ had.1));
        exact = λ i within positive same. dite (ℕ_discrete i b) (λ e. absurd (not_mine positive (sym here ∙ subst (λ z. slice_index words z ≡ u.number) e same)))
            (λ apart. old.exact i within positive (sym (elsewhere i apart) ∙ same));
      }
    where
      not_mine : 0 < u.number → to ≡ u.number → ⊥
      not_mine positive same = ⊎_elim (λ (free : to ≡ 0). let zero_is : 0 ≡ u.number = sym free ∙ same in omega (arith, positive, zero_is))
          (λ (own : to ≡ v.number). away (sym (board.apart id j v u at there numbered (sym own ∙ same)))) known_word

  -- no two seats have one number: the seat keeps its own
  still_apart : (i j : ℕ) (x y : Hand) → get_elem? (slice_set s.views id view) i ≡ some x → get_elem? (slice_set s.views id view) j ≡ some y → 0 < x.number → x.number ≡ y.number → i ≡ j
  still_apart i j x y at_i at_j positive same =
      ⊎_elim
      (λ (own : (i ≡ id) × (view ≡ x)). ⊎_elim (λ (own' : (j ≡ id) × (view ≡ y)). own.0 ∙ sym own'.0)
      (λ (far : (j ≢ id) × (get_elem? s.views j ≡ some y)). own.0 ∙ board.apart id j v y at far.1 numbered (ap (λ (z : Hand). z.number) own.1 ∙ same)) (at_set s.views id j view y at_j))
      (λ (far : (i ≢ id) × (get_elem? s.views i ≡ some x)). ⊎_elim
      (λ (own : (j ≡ id) × (view ≡ y)). board.apart i id x v far.1 at positive (same ∙ ap (λ (z : Hand). z.number) (sym own.1)) ∙ sym own.0)
      (λ (far' : (j ≢ id) × (get_elem? s.views j ≡ some y)). board.apart i j x y far.1 far'.1 positive same) (at_set s.views id j view y at_j))
      (at_set s.views id i view x at_i)

  pub bucket_changes : ((j : ℕ) (u : Hand) → j ≢ id → get_elem? s.views j ≡ some u → has_bucket u b ≡ true → ⊥)
      → IsBoard seats record { words = slice_set s.words b to; homes = s.homes; views = slice_set s.views id (hand v.seats v.number (slice_set v.held b flag)) }
  bucket_changes free = record {
    wide = length-set s.words b to ∙ board.wide;
    most = subst (λ z. z ≤ seats) (sym counter) board.most;
    known = known;
    fits = λ j u there. ⊎_elim (λ (own : (j ≡ id) × (view ≡ u)). subst (λ z. Fits seats words z) own.1 own_fits)
        (λ (far : (j ≢ id) × (get_elem? s.views j ≡ some u)). other_fits j u far.0 far.1 (free j u far.0 far.1)) (at_set s.views id j view u there);
    apart = still_apart;
  }

-- nothing changes where the word and the view stay
pub stays : (seats id b n : ℕ) (v : Hand) (s : State (Unit {0}) Hand) → IsBoard seats s → get_elem? s.views id ≡ some v → slice_index s.words b ≡ n
    → IsBoard seats record { words = slice_set s.words b n; homes = s.homes; views = slice_set s.views id v }
stays seats id b n v s board at is =
    let same_words : slice_set s.words b n ≡ s.words = subst (λ z. slice_set s.words b z ≡ s.words) is (set-get_or s.words b 0) in
    let same_views : slice_set s.views id v ≡ s.views = set_again s.views id v at in
    subst (λ z. IsBoard seats record { words = z; homes = s.homes; views = slice_set s.views id v }) (sym same_words)
    (subst (λ z. IsBoard seats record { words = s.words; homes = s.homes; views = z }) (sym same_views) board)

pub claims : (seats slots id : ℕ) (me : Me (Unit {0}) Hand) (b k : ℕ) → b < 64 → 0 < k → me.0.number ≡ k → has_bucket me.0 b ≡ false
    → Allows (IsBoard seats) slots id me b (λ n. either (n == 0) k n) (ClaimsBucket (step slots b 0 k none) me)
claims seats slots id me b k small positive is lacks s board sized at fits64 =
    let v : Hand = me.0 in
    let n : ℕ = slice_index s.words b in
    let fits = board.fits id v at in
    let numbered : 0 < v.number = rw is positive in
    let Then : ℕ → Type 0 = λ x. (w : Hand) × (a : Act (Unit {0})) × Valid s.homes me.1 a × IsBoard seats (stepped s b x id me.1 w a) × ClaimsBucket (step slots b 0 k none) me n (w, carried_after me.1 a) in
    exchanged n 0 k Then
    (λ empty.
    let free : (j : ℕ) (u : Hand) → j ≢ id → get_elem? s.views j ≡ some u → has_bucket u b ≡ true → ⊥ =
    λ j u away there has. let had = (board.fits j u there).has b small has in let zero_is : 0 ≡ u.number = sym empty ∙ had.1 in omega (arith, had.0, zero_is) in
    (with_bucket v b, keeps, tt, bucket_changes seats id b k true v s board at small numbered (λ _. sym is) (λ _. refl) (inr (sym is)) free, (refl, (λ _. refl), (λ no. absurd (no empty)))))
    (λ full.
    let other : n ≢ v.number = λ own. true_not_false (has_bucket v b) (fits.exact b small numbered own) lacks in
    let drawn : n ≤ v.seats = subst (λ z. n ≤ z) (sym fits.told) (le_trans (board.known b small) board.most) in
    (v, keeps, tt, stays seats id b n v s board at refl, (refl, (λ no. absurd (full no)), (λ _. (refl, ((one_le n full, drawn), other))))))

pub releases : (seats slots id : ℕ) (me : Me (Unit {0}) Hand) (b k : ℕ) → b < 64 → me.0.number ≡ k → has_bucket me.0 b ≡ true
    → Allows (IsBoard seats) slots id me b (λ n. either (n == k) 0 n) (ReleasesBucket (step slots b k 0 none) me)
releases seats slots id me b k small is has s board sized at fits64 =
    let v : Hand = me.0 in
    let n : ℕ = slice_index s.words b in
    let mine = (board.fits id v at).has b small has in
    let Then : ℕ → Type 0 = λ x. (w : Hand) × (a : Act (Unit {0})) × Valid s.homes me.1 a × IsBoard seats (stepped s b x id me.1 w a) × ReleasesBucket (step slots b k 0 none) me n (w, carried_after me.1 a) in
    exchanged n k 0 Then
    (λ hit.
    let free : (j : ℕ) (u : Hand) → j ≢ id → get_elem? s.views j ≡ some u → has_bucket u b ≡ true → ⊥ =
    λ j u away there has'. let had = (board.fits j u there).has b small has' in away (sym (board.apart id j v u at there mine.0 (sym mine.1 ∙ had.1))) in
    let off : 0 ≡ v.number → false ≡ true = λ zero_is. absurd (omega (arith, mine.0, zero_is)) in
    (without_bucket v b, keeps, tt, bucket_changes seats id b 0 false v s board at small mine.0 (λ no. let bad : false ≡ true = no in cc) off (inl refl) free, (refl, refl)))
    (λ miss. absurd (miss (mine.1 ∙ is)))
