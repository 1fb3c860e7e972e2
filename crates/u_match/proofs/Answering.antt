-- The firings that are gathered from lists of what a token meets are those that it wakes.
use Rattle.std.proofs.Common.{◌≡◌, ◌↔◌, ◌⊎◌, inl, inr, sym, ap, refl, arith, ℕ, zero, suc, ◌≤◌, ◌<◌, List, [], ◌∷◌, length, Contains, None}
use Rattle.u_value.specs.declared.value.Value.{Value}
use Rattle.u_check.specs.Jobs.{JobParts}
use Rattle.u_rule.specs.Parts.{TokenParts, ValueList}
use Rattle.u_rule.specs.Fits.{statement_of}
use Rattle.u_match.specs.Ports.{ports_in, ports_at}
use Rattle.u_rule.specs.declared.entry.Entry.{Entry}
use Rattle.u_rule.specs.declared.firing.Firing.{Firing}
use Rattle.u_sets.specs.Members.{SomeOf, Gains}
use Rattle.u_sets.proofs.Steps.{from_nothing}
use Rattle.u_base.proofs.Member.{Contains-nil}
use Rattle.u_match.specs.Keys.{IsMet, AreMetFrom}
use Rattle.u_match.specs.Joins.{IsOne, JoinsSome, JoinsAll}
use Rattle.u_match.proofs.Made.{Woken, TwoMet, two_woken, woken_of_two, place_of, counts, alls}

-- a port is the first, the second or one beyond
pub port_cases : (p : ℕ) → 1 ≤ p → (p ≡ 1) ⊎ ((p ≡ 2) ⊎ (2 < p))
port_cases zero low = absurd (omega (arith, low))
port_cases (suc zero) low = inl refl
port_cases (suc (suc zero)) low = inr (inl refl)
port_cases (suc (suc (suc p))) low = inr (inr (omega arith))

pub two_of : (p n : ℕ) → 1 ≤ p → p ≤ n → n ≡ 2 → (p ≡ 1) ⊎ (p ≡ 2)
two_of p n low high e = elim (port_cases p low) [ inl k ↦ inl k | inr (inl k) ↦ inr k | inr (inr k) ↦ absurd (omega (arith, high, e, k)) ]

-- neither one nor more than two
pub two_left : (n : ℕ) → 1 ≤ n → n ≤ 2 → (n ≡ 1 → ⊥) → n ≡ 2
two_left n low few one = elim (port_cases n low) [ inl k ↦ absurd (one k) | inr (inl k) ↦ k | inr (inr k) ↦ absurd (omega (arith, few, k)) ]

module _ (H : Entry → Type 0) (t : TokenParts) (job : JobParts) where
  -- nothing is found where the activity lacks the port
  pub answered_none : ports_at job t.activity < t.port → (f : Firing) → Contains [] f ↔ Woken H t job f
  answered_none l f = ((λ m. absurd (Contains-nil f m)), lacks)
    where
      lacks : Woken H t job f → Contains [] f
      lacks w = let high = (place_of H t job f w).to in let n = counts H t job f w in absurd (omega (arith, l, high, n))

  -- nor where it has no statement
  pub answered_nowhere : statement_of job.program.blocks t.activity.block t.activity.statement ≡ None → (f : Firing) → Contains [] f ↔ Woken H t job f
  answered_nowhere none f = ((λ m. absurd (Contains-nil f m)), lacks)
    where
      lacks : Woken H t job f → Contains [] f
      lacks w =
          let place = place_of H t job f w in
          let low = place.from in
          let high = place.to in
          let n = counts H t job f w in
          let zero_ports : ports_at job t.activity ≡ 0 = ap ports_in none in
          absurd (omega (arith, low, high, n, zero_ports))

  -- from the lists of what is met at the ports
  module _ (lists : List ValueList) (met_each : AreMetFrom H t 1 lists) (found : List Firing) where
    pub answered_all : (ports_at job t.activity ≡ 2 → ⊥) → length lists ≡ ports_at job t.activity → 1 ≤ t.port → t.port ≤ ports_at job t.activity → Gains [] (JoinsAll job t.activity [] lists) found → (f : Firing) → Contains found f ↔ Woken H t job f
    answered_all other n low high g f =
        let m = from_nothing (JoinsAll job t.activity [] lists) found g f in
        let w = alls H t job lists met_each other n low high f in
        ((λ k. w.0 (m.0 k)), λ k. m.1 (w.1 k))

  module _ (firsts : List Value) (at_first : (v : Value) → Contains firsts v ↔ IsMet H t 1 v) (found : List Firing) where
    pub answered_ones : ports_at job t.activity ≡ 1 → 1 ≤ t.port → t.port ≤ ports_at job t.activity → Gains [] (SomeOf firsts (IsOne job t.activity)) found → (f : Firing) → Contains found f ↔ Woken H t job f
    answered_ones one low high g f = ((λ k. w.0 (to (m.0 k))), λ k. m.1 (back (w.1 k)))
      where
        m : Contains found f ↔ SomeOf firsts (IsOne job t.activity) f
        m = from_nothing (SomeOf firsts (IsOne job t.activity)) found g f

        w : JoinsAll job t.activity [] (firsts ∷ []) f ↔ Woken H t job f
        w = alls H t job (firsts ∷ []) (at_first, tt) (λ e. omega (arith, one, e)) (sym one) low high f

        to : SomeOf firsts (IsOne job t.activity) f → JoinsAll job t.activity [] (firsts ∷ []) f
        to (v, n, k) = (v ∷ [], (n, tt), k)

        back : JoinsAll job t.activity [] (firsts ∷ []) f → SomeOf firsts (IsOne job t.activity) f
        back ([], is, k) = absurd is
        back (v ∷ [], is, k) = (v, is.0, k)
        back (v ∷ u ∷ vs, is, k) = absurd is.1

    module _ (seconds : List Value) (at_second : (v : Value) → Contains seconds v ↔ IsMet H t 2 v) where
      pub answered_twos : ports_at job t.activity ≡ 2 → (t.port ≡ 1) ⊎ (t.port ≡ 2) → Gains [] (SomeOf firsts (JoinsSome job H t.activity seconds)) found → (f : Firing) → Contains found f ↔ Woken H t job f
      answered_twos two p g f = ((λ k. two_woken H t job p f (to (m.0 k))), λ w. m.1 (back (woken_of_two H t job two f w)))
        where
          m : Contains found f ↔ SomeOf firsts (JoinsSome job H t.activity seconds) f
          m = from_nothing (SomeOf firsts (JoinsSome job H t.activity seconds)) found g f

          to : SomeOf firsts (JoinsSome job H t.activity seconds) f → TwoMet H t job f
          to (v, m, (w, n, k)) = (v, (at_first v).0 m, (w, (at_second w).0 n, k))

          back : TwoMet H t job f → SomeOf firsts (JoinsSome job H t.activity seconds) f
          back (v, m, (u, n, k)) = (v, (at_first v).1 m, (u, (at_second u).1 n, k))
