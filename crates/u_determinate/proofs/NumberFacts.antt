-- Numbers of statements, and where arcs stand.
use Rattle.std.proofs.Common.{◌≡◌, ℕ, ◌+◌, ◌-◌, ◌*◌, ◌<◌, ◌≤◌, inl, inr, ◌⊎◌, refl, sym, ap, ◌∙◌, subst, arith, Bool, true, false, List, length, Some, None, Option}
use Rattle.std.specs.Prelude.{slice_get}
use Rattle.std.proofs.lemmas.Bool.{cases_lt}
use Rattle.std.proofs.lemmas.Option.{slice_get_within}
use Rattle.u_name.specs.Context.{IsBetween}
use Rattle.u_program.specs.declared.program.Destination.{Destination}
use Rattle.u_program.specs.Parts.{StatementParts}
use Rattle.u_check.specs.Rules.{statement_at, list_of, destination_in, destination_of, Arc, arc}
use Rattle.u_check.proofs.Arcs.{numbered, has_number}
use Rattle.u_determinate.specs.Tables.{list_number, IsBefore}

-- a statement's number is from 1 to how many there are
pub number_within : (ss : List StatementParts) (n : ℕ) (s : StatementParts) → statement_at ss n ≡ Some s → IsBetween 1 n (length ss)
number_within ss n s e =
    let k = has_number ss n s e in
    let w = slice_get_within ss (n - 1) s k.1 in
    (k.0, omega (arith, k.0, w))

-- and one number has one statement
pub one_statement : (ss : List StatementParts) (n : ℕ) (s t : StatementParts) → statement_at ss n ≡ Some s → statement_at ss n ≡ Some t → s ≡ t
one_statement ss n s t p q = let e = sym p ∙ q in cc

-- where an arc that leads somewhere stands
pub record Stands (ss : List StatementParts) (a : Arc) (d : Destination) : Type 0 where
  pub it : StatementParts
  pub stands : statement_at ss a.statement ≡ Some it
  pub listed : slice_get (list_of it a.on_false) a.place ≡ Some d

pub arc_stands : (ss : List StatementParts) (a : Arc) (d : Destination) → destination_of ss a ≡ Some d → Stands ss a d
arc_stands ss a d e = at (statement_at ss a.statement) refl
  where
    at : (o : Option StatementParts) → statement_at ss a.statement ≡ o → Stands ss a d
    at None q =
        let k : destination_in None a ≡ Some d = subst (λ (o : Option StatementParts). destination_in o a ≡ Some d) q e in
        cc
    at (Some s) q =
        let k : destination_in (Some s) a ≡ Some d = subst (λ (o : Option StatementParts). destination_in o a ≡ Some d) q e in
        record { it = s; stands = q; listed = k }

-- an arc by its parts
pub leads_by_parts : (ss : List StatementParts) (n : ℕ) (f : Bool) (j : ℕ) (it : StatementParts) (d : Destination) → statement_at ss n ≡ Some it → slice_get (list_of it f) j ≡ Some d → destination_of ss (arc n f j) ≡ Some d
leads_by_parts ss n f j it d stands at =
    ap (λ (o : Option StatementParts). destination_in o (arc n f j)) stands ∙ at

pub same_arc : (a : Arc) (n : ℕ) (f : Bool) (j : ℕ) → a.statement ≡ n → a.on_false ≡ f → a.place ≡ j → a ≡ arc n f j
same_arc a n f j p q r =
    let e : arc a.statement a.on_false a.place ≡ arc n f j = cc in
    e

-- a list's number says whose it is
pub same_list : (a b : ℕ) (f g : Bool) → list_number a f ≡ list_number b g → (a ≡ b) × (f ≡ g)
same_list a b true true e = (omega arith, refl)
same_list a b false false e = (omega arith, refl)
same_list a b true false e = absurd (omega arith)
same_list a b false true e = absurd (omega arith)

pub list_below : (n m : ℕ) (f : Bool) → n ≤ m → list_number n f < 2 * (m + 1)
list_below n m true h = omega arith
list_below n m false h = omega arith

-- the arcs before the next place are those before this one, and the one here
pub before_more : (a : Arc) (n : ℕ) (f : Bool) (j : ℕ) → IsBefore (list_number n f) (j + 1) a → IsBefore (list_number n f) j a ⊎ (a ≡ arc n f j)
before_more a n f j (inl h) = inl (inl h)
before_more a n f j (inr h) =
    elim (cases_lt a.place j) [
      | inl l ↦ inl (inr (h.0, l))
      | inr l ↦
          let s = same_list a.statement n a.on_false f h.0 in
          inr (same_arc a n f j s.0 s.1 (omega (arith, h.1, l)))
    ]

pub before_keeps : (a : Arc) (list j : ℕ) → IsBefore list j a → IsBefore list (j + 1) a
before_keeps a list j (inl h) = inl h
before_keeps a list j (inr h) = inr (h.0, omega (arith, h.1))

pub before_here : (n : ℕ) (f : Bool) (j : ℕ) → IsBefore (list_number n f) (j + 1) (arc n f j)
before_here n f j = inr (refl, omega arith)

pub not_before_here : (n : ℕ) (f : Bool) (j : ℕ) → IsBefore (list_number n f) j (arc n f j) → ⊥
not_before_here n f j (inl h) = omega (arith, h)
not_before_here n f j (inr h) = omega (arith, h.1)

-- an arc that leads somewhere is before the end of the block
pub before_end : (ss : List StatementParts) (a : Arc) (d : Destination) → destination_of ss a ≡ Some d → IsBefore (2 * (length ss + 1)) 0 a
before_end ss a d e =
    let s = arc_stands ss a d e in
    let n = number_within ss a.statement s.it s.stands in
    inl (list_below a.statement (length ss) a.on_false n.1)

-- the arcs before the end of a list that lead somewhere are those before the next list
pub before_next : (ss : List StatementParts) (a : Arc) (d : Destination) (n : ℕ) (f : Bool) (it : StatementParts) → destination_of ss a ≡ Some d → statement_at ss n ≡ Some it → IsBefore (list_number n f + 1) 0 a → IsBefore (list_number n f) (length (list_of it f)) a
before_next ss a d n f it e stands (inr h) = absurd (omega (arith, h.1))
before_next ss a d n f it e stands (inl h) =
    elim (cases_lt (list_number a.statement a.on_false) (list_number n f)) [
      | inl l ↦ inl l
      | inr l ↦
          let q : list_number a.statement a.on_false ≡ list_number n f = omega (arith, h, l) in
          inr (q, here (same_list a.statement n a.on_false f q).0 (same_list a.statement n a.on_false f q).1)
    ]
  where
    here : a.statement ≡ n → a.on_false ≡ f → a.place < length (list_of it f)
    here p r =
        let s = arc_stands ss a d e in
        let i : s.it ≡ it = one_statement ss n s.it it (ap (statement_at ss) (sym p) ∙ s.stands) stands in
        let w = slice_get_within (list_of s.it a.on_false) a.place d s.listed in
        subst (λ (g : Bool). a.place < length (list_of it g)) r (subst (λ (s : StatementParts). a.place < length (list_of s a.on_false)) i w)

pub before_last : (a : Arc) (list j : ℕ) → IsBefore list j a → IsBefore (list + 1) 0 a
before_last a list j (inl h) = inl (omega (arith, h))
before_last a list j (inr h) = inl (omega (arith, h.0))

-- the place of number n
pub place_number : (ss : List StatementParts) (i : ℕ) (s : StatementParts) → slice_get ss i ≡ Some s → statement_at ss (i + 1) ≡ Some s
place_number ss i s e = numbered ss i ∙ e
