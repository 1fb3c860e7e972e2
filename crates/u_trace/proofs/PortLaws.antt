-- Sets of ports, as the bits of a number.
use Rattle.std.proofs.Common.{◌≡◌, ◌↔◌, ◌⊎◌, inl, inr, ℕ, zero, suc, ◌+◌, ◌-◌, ◌*◌, ◌^◌, ◌/◌, ◌%◌, ◌≤◌, ◌<◌, ◌==◌, false, IsTrue, IsFalse, refl, sym, subst, ap, ◌∙◌, arith, max, bit_and, bit_or, bit_xor}
use Rattle.std.specs.Int.{bit_at}
use Rattle.std.proofs.Math.Nat.{pow-suc}
use Rattle.std.proofs.Math.Pow.{pow_mono}
use Rattle.std.proofs.lemmas.Nat.{pow_pos}
use Rattle.std.proofs.lemmas.Bool.{eqb-true}
use Rattle.std.proofs.lemmas.Bool.Decides.{nat_tests}
use Rattle.std.proofs.lemmas.Nat.Bits.{bit_at_lowest, bit_at-suc, bit_at-zero, bit_at-lt, bit_at_and, bit_at_or, bit_at_xor, bit_at-pow_same, bit_at-pow_other, bit_at_mask_inside, bit_at_mask_below, bit_at_mask_above, bit_at_above, same_from_bits}
use Rattle.u_name.specs.Context.{IsBetween}
use Rattle.u_rule.specs.Parts.{most_ports}
use Rattle.u_trace.specs.Ports.{has_port}
use Rattle.u_trace.specs.declared.ports.Ports.{Ports}

abbrev pub ports : ℕ → Ports
ports bits = record { bits = bits }

-- a set has a port exactly where its bit is 1
pub has_bit : (p : Ports) (k : ℕ) → IsTrue (has_port p k) ↔ (bit_at p.bits k ≡ 1)
has_bit p k = ((λ h. eqb-true (bit_at p.bits k) 1 h), λ e. grind (arith, nat_tests))

-- no port
pub none_has : (k : ℕ) → IsTrue (has_port (ports 0) k) → ⊥
none_has k h = let z = bit_at-zero k in let o = (has_bit (ports 0) k).0 h in omega (arith, z, o)

-- the ports to a number
pub up_to_has : (n k : ℕ) → IsTrue (has_port (ports (2 ^ (n + 1) - 2 ^ 1)) k) ↔ IsBetween 1 k n
up_to_has n k = ((λ h. to (cases k) ((has_bit (ports (2 ^ (n + 1) - 2 ^ 1)) k).0 h)), λ w. (has_bit (ports (2 ^ (n + 1) - 2 ^ 1)) k).1 (bit_at_mask_inside 1 (n + 1) k w.0 (omega (arith, w.1))))
  where
    cases : (i : ℕ) → (i < 1) ⊎ ((n + 1 ≤ i) ⊎ IsBetween 1 i n)
    cases i = grind arith

    to : (k < 1) ⊎ ((n + 1 ≤ k) ⊎ IsBetween 1 k n) → bit_at (2 ^ (n + 1) - 2 ^ 1) k ≡ 1 → IsBetween 1 k n
    to (inl l) e = let z = bit_at_mask_below 1 (n + 1) k l in absurd (omega (arith, z, e))
    to (inr (inl l)) e = let z = bit_at_mask_above 1 (n + 1) k l in absurd (omega (arith, z, e))
    to (inr (inr w)) e = w

-- the bits of a set
abbrev bit : Ports → ℕ → ℕ
bit p k = bit_at p.bits k

-- what two sets have, in both, in the first alone, and in either
pub and_has : (p q : Ports) (k : ℕ) → IsTrue (has_port (ports (bit_and p.bits q.bits)) k) ↔ (IsTrue (has_port p k) × IsTrue (has_port q k))
and_has p q k =
    let e = bit_at_and p.bits q.bits k in
    let l = bit_at-lt p.bits k in
    let m = bit_at-lt q.bits k in
    let r = has_bit (ports (bit_and p.bits q.bits)) k in
    let a = has_bit p k in
    let b = has_bit q k in
    ((λ h. let x = r.0 h in (a.1 (omega (arith, e, l, m, x)), b.1 (omega (arith, e, l, m, x)))), λ w. let x = a.0 w.0 in let y = b.0 w.1 in r.1 (omega (arith, e, x, y)))

pub without_has : (p q : Ports) (k : ℕ) → IsTrue (has_port (ports (bit_xor p.bits (bit_and p.bits q.bits))) k) ↔ (IsTrue (has_port p k) × (IsTrue (has_port q k) → ⊥))
without_has p q k =
    let e = bit_at_and p.bits q.bits k in
    let d = bit_at_xor p.bits (bit_and p.bits q.bits) k in
    let l = bit_at-lt p.bits k in
    let m = bit_at-lt q.bits k in
    let r = has_bit (ports (bit_xor p.bits (bit_and p.bits q.bits))) k in
    let a = has_bit p k in
    let b = has_bit q k in (
      (λ h. let x = r.0 h in (a.1 (omega (arith, d, e, l, m, x)), λ g. let y = b.0 g in omega (arith, d, e, l, m, x, y))),
      (λ w. let x = a.0 w.0 in let z : bit_at q.bits k ≡ 1 → ⊥ = λ y. w.1 (b.1 y) in let y : bit_at q.bits k ≡ 0 = grind (arith, m, z) in r.1 (omega (arith, d, e, x, y))),
    )

-- a port more
pub with_has : (p : Ports) (port k : ℕ) → IsTrue (has_port (ports (bit_or p.bits (2 ^ port))) k) ↔ (IsTrue (has_port p k) ⊎ (k ≡ port))
with_has p port k = ((λ h. to side (r.0 h)), λ s. r.1 (back s))
  where
    r : IsTrue (has_port (ports (bit_or p.bits (2 ^ port))) k) ↔ (bit_at (bit_or p.bits (2 ^ port)) k ≡ 1)
    r = has_bit (ports (bit_or p.bits (2 ^ port))) k

    a : IsTrue (has_port p k) ↔ (bit_at p.bits k ≡ 1)
    a = has_bit p k

    side : (k ≡ port) ⊎ (k ≡ port → ⊥)
    side = grind arith

    either : bit_at (bit_or p.bits (2 ^ port)) k ≡ max (bit_at p.bits k) (bit_at (2 ^ port) k)
    either = bit_at_or p.bits (2 ^ port) k

    to : (k ≡ port) ⊎ (k ≡ port → ⊥) → bit_at (bit_or p.bits (2 ^ port)) k ≡ 1 → IsTrue (has_port p k) ⊎ (k ≡ port)
    to (inl e) x = inr e
    to (inr n) x = let z = bit_at-pow_other port k n in inl (a.1 (omega (arith, either, z, x)))

    back : IsTrue (has_port p k) ⊎ (k ≡ port) → bit_at (bit_or p.bits (2 ^ port)) k ≡ 1
    back (inl h) = let x = a.0 h in let l = bit_at-lt (2 ^ port) k in omega (arith, either, x, l)
    back (inr e) =
        let o : bit_at (2 ^ port) k ≡ 1 = ap (bit_at (2 ^ port)) e ∙ bit_at-pow_same port in
        let l = bit_at-lt p.bits k in
        omega (arith, either, o, l)

-- a set is empty exactly where its number is 0
pub empty_has : (p : Ports) → p.bits ≡ 0 → (k : ℕ) → IsTrue (has_port p k) → ⊥
empty_has p e k h = none_has k (subst (λ (n : ℕ). IsTrue (has_port (ports n) k)) e h)

some_bit : (w n : ℕ) → n < 2 ^ w → (n ≡ 0 → ⊥) → (k : ℕ) × (bit_at n k ≡ 1)
some_bit zero n fits some = absurd (some (omega (arith, fits)))
some_bit (suc w) n fits some = by (λ half no_zero. some_bit w (n / 2) half no_zero) (grind arith)
  where
    by : (n / 2 < 2 ^ w → (n / 2 ≡ 0 → ⊥) → (k : ℕ) × (bit_at (n / 2) k ≡ 1)) → (n % 2 ≡ 1) ⊎ (n % 2 ≡ 0) → (k : ℕ) × (bit_at n k ≡ 1)
    by rest (inl odd) = (0, bit_at_lowest n ∙ odd)
    by rest (inr even) =
        let s : 2 ^ suc w ≡ 2 ^ w * 2 = pow-suc 2 w in
        let r = rest (omega (arith, fits, s)) (λ e. some (omega (arith, e, even))) in
        (suc r.0, bit_at-suc n r.0 ∙ r.1)

below_power : (n : ℕ) → n < 2 ^ n
below_power zero = omega arith
below_power (suc n) = let h = below_power n in let s : 2 ^ suc n ≡ 2 ^ n * 2 = pow-suc 2 n in omega (arith, h, s)

pub some_port : (p : Ports) → (p.bits ≡ 0 → ⊥) → (k : ℕ) × IsTrue (has_port p k)
some_port p some = let r = some_bit p.bits p.bits (below_power p.bits) some in (r.0, (has_bit p r.0).1 r.1)

pub not_zero : (n : ℕ) → IsFalse (n == 0) → n ≡ 0 → ⊥
not_zero zero h e = cc
not_zero (suc n) h e = omega (arith, e)

power_more : (n : ℕ) → 2 ^ (n + 1) ≡ 2 ^ n * 2
power_more n = let e : n + 1 ≡ suc n = omega arith in ap (λ (i : ℕ). 2 ^ i) e ∙ pow-suc 2 n

-- what is shifted loses no bit
pub shifted : (n : ℕ) → n ≤ most_ports → 2 * 2 ^ n % 256 ≡ 2 ^ (n + 1)
shifted n l =
    let m : 2 ^ n ≤ 2 ^ most_ports = pow_mono l in
    let s = power_more n in
    omega (arith, m, s)

pub two_at_least : (n : ℕ) → 2 ≤ 2 ^ (n + 1)
two_at_least n = let p = pow_pos n in let s = power_more n in omega (arith, p, s)

-- beyond the bits of a number there is none
pub beyond : (n k : ℕ) → n < 2 ^ 8 → 8 ≤ k → false ≡ (bit_at n k == 1)
beyond n k fits high = ap (λ (b : ℕ). b == 1) (sym (bit_at_above n 8 k fits high))

-- sets that have the same ports are the same
bits_same : (a b : ℕ) → a < 2 → b < 2 → (a ≡ 1 → b ≡ 1) → (b ≡ 1 → a ≡ 1) → a ≡ b
bits_same zero zero l m to back = refl
bits_same zero (suc zero) l m to back = back refl
bits_same (suc zero) b l m to back = sym (to refl)
bits_same zero (suc (suc b)) l m to back = absurd (omega (arith, m))
bits_same (suc (suc a)) b l m to back = absurd (omega (arith, l))

pub ports_same : (p q : Ports) → ((k : ℕ) → IsTrue (has_port p k) ↔ IsTrue (has_port q k)) → p ≡ q
ports_same p q same = ap ports (same_from_bits p.bits q.bits alike)
  where
    alike : (k : ℕ) → bit_at p.bits k ≡ bit_at q.bits k
    alike k =
        let l = bit_at-lt p.bits k in
        let m = bit_at-lt q.bits k in
        let to : bit_at p.bits k ≡ 1 → bit_at q.bits k ≡ 1 = λ x. (has_bit q k).0 ((same k).0 ((has_bit p k).1 x)) in
        let back : bit_at q.bits k ≡ 1 → bit_at p.bits k ≡ 1 = λ x. (has_bit p k).0 ((same k).1 ((has_bit q k).1 x)) in
        bits_same (bit_at p.bits k) (bit_at q.bits k) l m to back

-- the ports below a number that have T, as they are gathered
module _ (p : Ports) (T : ℕ → Type 0) where
  pub filled_none : ((k : ℕ) → IsTrue (has_port p k) → ⊥) → (k : ℕ) → IsTrue (has_port p k) ↔ ((1 ≤ k) × (k < 1) × T k)
  filled_none none k = ((λ h. absurd (none k h)), λ (low, high, t). absurd (omega (arith, low, high)))

  pub filled_more : (q : Ports) (n : ℕ) → 1 ≤ n → ((k : ℕ) → IsTrue (has_port p k) ↔ ((1 ≤ k) × (k < n) × T k)) → ((k : ℕ) → IsTrue (has_port q k) ↔ (IsTrue (has_port p k) ⊎ ((k ≡ n) × T k))) → (k : ℕ) → IsTrue (has_port q k) ↔ ((1 ≤ k) × (k < n + 1) × T k)
  filled_more q n low before step k = ((λ h. to ((step k).0 h)), λ (l, m, t). (step k).1 (back (last k l m) t))
    where
      to : IsTrue (has_port p k) ⊎ ((k ≡ n) × T k) → (1 ≤ k) × (k < n + 1) × T k
      to (inl h) = let (l, m, t) = (before k).0 h in (l, omega (arith, m), t)
      to (inr (e, t)) = (omega (arith, e, low), omega (arith, e), t)

      last : (i : ℕ) → 1 ≤ i → i < n + 1 → (i ≡ n) ⊎ ((1 ≤ i) × (i < n))
      last i l m = grind (arith, l, m)

      back : (k ≡ n) ⊎ ((1 ≤ k) × (k < n)) → T k → IsTrue (has_port p k) ⊎ ((k ≡ n) × T k)
      back (inl e) t = inr (e, t)
      back (inr (l, m)) t = inl ((before k).1 (l, m, t))

  pub filled_all : (n : ℕ) → n ≡ most_ports + 1 → ((k : ℕ) → IsTrue (has_port p k) ↔ ((1 ≤ k) × (k < n) × T k)) → (k : ℕ) → IsTrue (has_port p k) ↔ (IsBetween 1 k most_ports × T k)
  filled_all n e before k = (
    (λ h. let (l, m, t) = (before k).0 h in ((l, omega (arith, e, m)), t)),
    (λ w. (before k).1 (w.0.0, (let m = w.0.1 in omega (arith, e, m)), w.1)),
  )

  -- a port that has T, and one that lacks it
  pub put_in : (q : Ports) (n : ℕ) → T n → ((k : ℕ) → IsTrue (has_port q k) ↔ (IsTrue (has_port p k) ⊎ (k ≡ n))) → (k : ℕ) → IsTrue (has_port q k) ↔ (IsTrue (has_port p k) ⊎ ((k ≡ n) × T k))
  put_in q n t step k = (
    (λ h. elim ((step k).0 h) [ inl m ↦ inl m | inr e ↦ inr (e, subst T (sym e) t) ]),
    (λ s. elim s [ inl m ↦ (step k).1 (inl m) | inr w ↦ (step k).1 (inr w.0) ]),
  )

  pub left_out : (n : ℕ) → (T n → ⊥) → (k : ℕ) → IsTrue (has_port p k) ↔ (IsTrue (has_port p k) ⊎ ((k ≡ n) × T k))
  left_out n none k = ((λ h. inl h), λ s. elim s [ inl m ↦ m | inr w ↦ absurd (none (subst T w.0 w.1)) ])
