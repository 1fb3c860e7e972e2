-- The reader of numbers from 1 on reads the longest text of one; the digits of a number.
use Rattle.std.specs.Prelude.{◌≡◌, ℕ, ◌+◌, ◌-◌, ◌*◌, ◌^◌, ◌<◌, ◌≤◌, Bool, true, false, cond, ◌&&◌, nat_le, List, [], ◌∷◌, ◌++◌, Result, Ok, Err, length, refl}
use Rattle.std.proofs.Common.{sym, ◌∙◌, ap, subst, arith, rules, get_or}
use Rattle.std.specs.Fmt.{decimal}
use Rattle.std.specs.Str.{all_ascii_digits}
use Rattle.std.proofs.lemmas.Str.Parse.{IsNumeralModel, numerals_by_fold}
use Rattle.std.proofs.lemmas.Fmt.{digits_decimal, digits_value-decimal, first_decimal, decimal_nonempty, decimal_injective, decimal-digits_value}
use Rattle.std.proofs.lemmas.Bool.Decides.{nat_tests}
use Rattle.std.proofs.lemmas.Bool.{and_parts, and_from, leb-true, le-leb}
use Rattle.u_base.proofs.ReaderLaws.{Reads, ok_same, ok_err, longer_than_itself, heads}
use Rattle.u_base.specs.Number.{is_digit, digits_from, number, IsUpTo}

abbrev pub IsDigit : ℕ → Type 0
IsDigit c = (48 ≤ c) × (c ≤ 57)

abbrev pub AllDigit : List ℕ → Type 0
AllDigit [] = Unit {0}
AllDigit (c ∷ cs) = IsDigit c × AllDigit cs

-- the number that digits go on to
abbrev value_from : ℕ → List ℕ → ℕ
value_from n [] = n
value_from n (c ∷ cs) = value_from (10 * n + (c - 48)) cs

own : IsNumeralModel (λ ds. all_ascii_digits ds ≡ true) (value_from 0)
own = numerals_by_fold _ (search rules) value_from (search rules)

digit_true : (c : ℕ) → is_digit c ≡ true → IsDigit c
digit_true c h = let a = and_parts (nat_le 48 c) (nat_le c 57) h in (leb-true 48 c a.0, leb-true c 57 a.1)

digit_holds : (c : ℕ) → IsDigit c → is_digit c ≡ true
digit_holds c h = and_from (nat_le 48 c) (nat_le c 57) (le-leb 48 c h.0) (le-leb c 57 h.1)

all_digits : (ds : List ℕ) → all_ascii_digits ds ≡ true → AllDigit ds
all_digits [] h = tt
all_digits (c ∷ cs) h = let a = and_parts (is_digit c) (all_ascii_digits cs) h in (digit_true c a.0, all_digits cs a.1)

ascii_digits : (ds : List ℕ) → AllDigit ds → all_ascii_digits ds ≡ true
ascii_digits [] h = refl
ascii_digits (c ∷ cs) h = and_from (is_digit c) (all_ascii_digits cs) (digit_holds c h.0) (ascii_digits cs h.1)

value-append : (n : ℕ) (xs ys : List ℕ) → value_from n (xs ++ ys) ≡ value_from (value_from n xs) ys
value-append n [] ys = refl
value-append n (x ∷ xs) ys = value-append (10 * n + (x - 48)) xs ys

value-le : (n : ℕ) (xs : List ℕ) → n ≤ value_from n xs
value-le n [] = omega arith
value-le n (x ∷ xs) = omega (arith, value-le (10 * n + (x - 48)) xs)

digits_of-append : (xs : List ℕ) (c : ℕ) (u : List ℕ) → AllDigit (xs ++ (c ∷ u)) → IsDigit c
digits_of-append [] c u h = h.0
digits_of-append (x ∷ xs) c u h = digits_of-append xs c u h.1

-- what digits_from came to
record Went (max n : ℕ) (cs : List ℕ) (m : ℕ) (rest : List ℕ) : Type 0 where
  used : List ℕ
  whole : cs ≡ used ++ rest
  digits : AllDigit used
  value : m ≡ value_from n used
  within : n ≤ max → m ≤ max
  ends : (c : ℕ) (r : List ℕ) → rest ≡ c ∷ r → IsDigit c → max < 10 * m + (c - 48)

went : (max n : ℕ) (cs : List ℕ) → Went max n cs (digits_from max n cs).0 (digits_from max n cs).1
went max n [] = record { used = []; whole = refl; digits = tt; value = refl; within = λ h. h; ends = λ c r e d. cc }
went max n (c ∷ cs) = step (went max (10 * n + (c - 48)) cs) (is_digit c && nat_le (10 * n + (c - 48)) max) refl
  where
    go : ℕ × List ℕ → Type 0
    go z = Went max n (c ∷ cs) z.0 z.1

    step : Went max (10 * n + (c - 48)) cs (digits_from max (10 * n + (c - 48)) cs).0 (digits_from max (10 * n + (c - 48)) cs).1 → (t : Bool) → (is_digit c && nat_le (10 * n + (c - 48)) max) ≡ t → go (cond t (digits_from max (10 * n + (c - 48)) cs) (n, c ∷ cs))
    step w true h =
        let a = and_parts (is_digit c) (nat_le (10 * n + (c - 48)) max) h in
        let le = leb-true (10 * n + (c - 48)) max a.1 in
        record { used = c ∷ w.used; whole = ap (λ t. c ∷ t) w.whole; digits = (digit_true c a.0, w.digits); value = w.value; within = λ _. w.within le; ends = w.ends }
    step w false h = record {
      used = [];
      whole = refl;
      digits = tt;
      value = refl;
      within = λ h. h;
      ends = λ d r e f.
          let g : c ≡ d = cc in
          let k : IsDigit c = (omega arith, omega arith) in
          let l = digit_holds c k in
          let m : nat_le (10 * n + (c - 48)) max ≡ false = ap (λ t. t && nat_le (10 * n + (c - 48)) max) (sym l) ∙ h in
          let lt : max < 10 * n + (c - 48) = grind (arith, nat_tests) in
          omega arith;
    }

-- the text of a number that is in range
record Spelled (n : ℕ) : Type 0 where
  digits : AllDigit (decimal n)
  value : value_from 0 (decimal n) ≡ n
  first : ℕ
  others : List ℕ
  whole : decimal n ≡ first ∷ others
  not_zero : 49 ≤ first

first_of : (ds : List ℕ) → 0 < length ds → (c : ℕ) × (cs : List ℕ) × (ds ≡ c ∷ cs)
first_of [] h = absurd (omega arith)
first_of (c ∷ cs) h = (c, cs, refl)

spelled : (n : ℕ) → 1 ≤ n → n < 2 ^ 64 → Spelled n
spelled n low high =
    let f = first_of (decimal n) (decimal_nonempty n high) in
    let g : 48 < get_or (decimal n) 0 0 = first_decimal n low high in
    let k : 48 < get_or (f.0 ∷ f.1) 0 0 = subst (λ (ds : List ℕ). 48 < get_or ds 0 0) f.2 g in
    record { digits = all_digits (decimal n) (digits_decimal own n high); value = digits_value-decimal own n high; first = f.0; others = f.1; whole = f.2; not_zero = k }

-- what goes on behind a number has a digit, and is as large
larger : (x y c : ℕ) (u : List ℕ) → Spelled x → Spelled y → decimal y ≡ decimal x ++ (c ∷ u) → IsDigit c × (10 * x + (c - 48) ≤ y)
larger x y c u s t e =
    let d = digits_of-append (decimal x) c u (subst AllDigit e t.digits) in
    let v : y ≡ value_from (value_from 0 (decimal x)) (c ∷ u) = sym t.value ∙ ap (value_from 0) e ∙ value-append 0 (decimal x) (c ∷ u) in
    let w : y ≡ value_from x (c ∷ u) = v ∙ ap (λ n. value_from n (c ∷ u)) s.value in
    (d, omega (arith, value-le (10 * x + (c - 48)) u))

-- the text of what was read
written : (c : ℕ) (used : List ℕ) (m : ℕ) → 49 ≤ c → c ≤ 57 → AllDigit used → m ≡ value_from (c - 48) used → m < 2 ^ 64 → decimal m ≡ c ∷ used
written c used m low high digits value small =
    let e : 10 * 0 + (c - 48) ≡ c - 48 = omega arith in
    let v : value_from 0 (c ∷ used) ≡ m = ap (λ n. value_from n used) e ∙ sym value in
    let d = ascii_digits (c ∷ used) ((omega arith, omega arith), digits) in
    let w : decimal (value_from 0 (c ∷ used)) ≡ c ∷ used = decimal-digits_value own (c ∷ used) d (omega arith) (λ k. absurd (omega arith)) (omega arith) in
    ap decimal (sym v) ∙ w

record IsRead (max : ℕ) (bs : List ℕ) (x : ℕ) (rest : List ℕ) : Type 0 where
  in_range : IsUpTo max x
  whole : bs ≡ decimal x ++ rest
  ends : (c : ℕ) (r : List ℕ) → rest ≡ c ∷ r → IsDigit c → max < 10 * x + (c - 48)

module _ (max : ℕ) (low : 9 ≤ max) (high : max < 2 ^ 64) where
  number_ok : (bs : List ℕ) (x : ℕ) (rest : List ℕ) → number max bs ≡ Ok (x, rest) → IsRead max bs x rest
  number_ok [] x rest h = cc
  number_ok (c ∷ cs) x rest h = step (nat_le 49 c && nat_le c 57) refl h
    where
      step : (t : Bool) → (nat_le 49 c && nat_le c 57) ≡ t → cond t (Ok (digits_from max (c - 48) cs)) (Err (c ∷ cs)) ≡ Ok (x, rest) → IsRead max (c ∷ cs) x rest
      step true e h =
          let a = and_parts (nat_le 49 c) (nat_le c 57) e in
          let above = leb-true 49 c a.0 in
          let below = leb-true c 57 a.1 in
          let o = ok_same (digits_from max (c - 48) cs) (x, rest) h in
          let w = went max (c - 48) cs in
          let is_x : (digits_from max (c - 48) cs).0 ≡ x = ap (λ t. t.0) o in
          let is_rest : (digits_from max (c - 48) cs).1 ≡ rest = ap (λ t. t.1) o in
          let v : x ≡ value_from (c - 48) w.used = sym is_x ∙ w.value in
          let within : x ≤ max = omega (arith, w.within (omega arith)) in
          let t = written c w.used x above below w.digits v (omega arith) in
          record {
            in_range = (omega (arith, value-le (c - 48) w.used), within);
            whole = ap (λ t. c ∷ t) (w.whole ∙ ap (λ r. w.used ++ r) is_rest) ∙ ap (λ t. t ++ rest) (sym t);
            ends = λ d r e f. omega (arith, w.ends d r (is_rest ∙ e) f);
          }
      step false e h = cc

  number_err : (bs rest : List ℕ) → number max bs ≡ Err rest → (bs ≡ rest) × ((c : ℕ) (cs : List ℕ) → bs ≡ c ∷ cs → 49 ≤ c → c ≤ 57 → ⊥)
  number_err [] rest h = (cc, λ c cs e. cc)
  number_err (c ∷ cs) rest h = step (nat_le 49 c && nat_le c 57) refl h
    where
      step : (t : Bool) → (nat_le 49 c && nat_le c 57) ≡ t → ◌≡◌ {A = Result (ℕ × List ℕ) (List ℕ)} (cond t (Ok (digits_from max (c - 48) cs)) (Err (c ∷ cs))) (Err rest) → (c ∷ cs ≡ rest) × ((d : ℕ) (ds : List ℕ) → c ∷ cs ≡ d ∷ ds → 49 ≤ d → d ≤ 57 → ⊥)
      step true e h = absurd (ok_err (digits_from max (c - 48) cs) rest h)
      step false e h = (
        cc,
        λ d ds f low high.
            let same : c ≡ d = cc in
            let t = and_from (nat_le 49 c) (nat_le c 57) (le-leb 49 c (omega arith)) (le-leb c 57 (omega arith)) in
            cc,
      )

  spelled_in : (x : ℕ) → IsUpTo max x → Spelled x
  spelled_in x v = spelled x v.0 (omega arith)

  no_first : (bs : List ℕ) → ((c : ℕ) (cs : List ℕ) → bs ≡ c ∷ cs → 49 ≤ c → c ≤ 57 → ⊥) → (y : ℕ) (r : List ℕ) → IsUpTo max y → bs ≡ decimal y ++ r → ⊥
  no_first bs bad y r v e =
      let s = spelled_in y v in
      let d = subst AllDigit s.whole s.digits in
      bad s.first (s.others ++ r) (e ∙ ap (λ t. t ++ r) s.whole) s.not_zero d.0.1

  number_stuck : (bs p : List ℕ) (c : ℕ) (r : List ℕ) → number max bs ≡ Err (c ∷ r) → bs ≡ p ++ (c ∷ r) → (y : ℕ) (u : List ℕ) → IsUpTo max y → decimal y ≡ p ++ (c ∷ u) → ⊥
  number_stuck bs p c r h k y u v e =
      let n = number_err bs (c ∷ r) h in
      let s = spelled_in y v in
      at p (sym k ∙ n.0) n.0 n.1 s.first s.others (sym e ∙ s.whole) s.not_zero ((subst AllDigit s.whole s.digits).0.1)
    where
      at : (p : List ℕ) → p ++ (c ∷ r) ≡ c ∷ r → bs ≡ c ∷ r → ((d : ℕ) (ds : List ℕ) → bs ≡ d ∷ ds → 49 ≤ d → d ≤ 57 → ⊥) → (f : ℕ) (o : List ℕ) → p ++ (c ∷ u) ≡ f ∷ o → 49 ≤ f → f ≤ 57 → ⊥
      at [] a b bad f o e low high = let g : c ≡ f = cc in bad c r b (omega arith) (omega arith)
      at (i ∷ p) a b bad f o e low high = let g : r ≡ p ++ (c ∷ r) = cc in longer_than_itself p c r g

  pub number_Reads : Reads decimal (IsUpTo max) IsDigit (number max)
  number_Reads = record {
    sound = λ bs x rest h. let a = number_ok bs x rest h in (a.in_range, a.whole);
    stops = λ bs x c r h y u v e.
        let a = number_ok bs x (c ∷ r) h in
        let l = larger x y c u (spelled_in x a.in_range) (spelled_in y v) e in
        let m = a.ends c r refl l.0 in
        omega arith;
    viable = λ bs rest h. let a = number_err bs rest h in ([], 1, decimal 1, a.0, (omega arith, omega arith), refl);
    stuck = number_stuck;
    none = λ bs rest h y r v e. no_first bs ((number_err bs rest h).1) y r v e;
    grows = λ x y c u v w e. (larger y x c u (spelled_in y w) (spelled_in x v) e).0;
    same = λ x y v w e. decimal_injective x y (omega arith) (omega arith) e;
    some = (1, (omega arith, omega arith));
  }

  -- the first byte of a number in range
  pub number_first : (y : ℕ) → IsUpTo max y → (c : ℕ) (u v : List ℕ) → 58 ≤ c → decimal y ++ u ≡ c ∷ v → ⊥
  number_first y w c u v big e =
      let s = spelled_in y w in
      let d = subst AllDigit s.whole s.digits in
      let f : s.first ≡ c = heads _ _ _ _ (ap (λ t. t ++ u) (sym s.whole) ∙ e) in
      omega (arith, d.0.1)

  -- nor is it a zero
  pub number_not_zero : (y : ℕ) (u v : List ℕ) → IsUpTo max y → decimal y ++ u ≡ 48 ∷ v → ⊥
  number_not_zero y u v w e =
      let s = spelled_in y w in
      let f : s.first ≡ 48 = heads _ _ _ _ (ap (λ t. t ++ u) (sym s.whole) ∙ e) in
      omega (arith, s.not_zero)

-- a number that is read is in range
pub number_bound : (max : ℕ) (bs : List ℕ) (x : ℕ) (rest : List ℕ) → 9 ≤ max → max < 2 ^ 64 → number max bs ≡ Ok (x, rest) → x ≤ max
number_bound max bs x rest low high h = ((number_Reads max low high).sound bs x rest h).0.1

pub number_least : (max : ℕ) (bs : List ℕ) (x : ℕ) (rest : List ℕ) → 9 ≤ max → max < 2 ^ 64 → number max bs ≡ Ok (x, rest) → 1 ≤ x
number_least max bs x rest low high h = ((number_Reads max low high).sound bs x rest h).0.0

pub decimal_digits : (n : ℕ) → n < 2 ^ 64 → AllDigit (decimal n)
decimal_digits n h = all_digits (decimal n) (digits_decimal own n h)

-- a number begins with a digit
pub decimal_first : (n : ℕ) → n < 2 ^ 64 → (c : ℕ) (u v : List ℕ) → decimal n ++ u ≡ c ∷ v → IsDigit c
decimal_first n h c u v e =
    let f = first_of (decimal n) (decimal_nonempty n h) in
    let d = subst AllDigit f.2 (decimal_digits n h) in
    let g : f.0 ≡ c = heads _ _ _ _ (ap (λ t. t ++ u) (sym f.2) ∙ e) in
    subst IsDigit g d.0
