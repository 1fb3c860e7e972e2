-- The statements that take the arguments of a call.
use Rattle.std.proofs.Common.{◌≡◌, ℕ, zero, suc, ◌+◌, ◌-◌, ◌≤◌, refl, arith, Bool, true, false, List, [], ◌∷◌, Option, Some, None, cond, inl, inr}
use Rattle.std.specs.Prelude.{Contains}
use Rattle.std.proofs.lemmas.Bool.{false≢true, and_parts, cases_Bool}
use Rattle.u_program.specs.Limits.{place_of}
use Rattle.u_program.specs.Parts.{StatementParts, BlockParts}
use Rattle.u_program.specs.declared.program.Kind.{Kind}
use Rattle.u_program.specs.declared.program.Kind.TheVariants.{Param}
use Rattle.u_program.specs.declared.program.Parameter.{Parameter}
use Rattle.u_program.specs.declared.program.Parameter.TheVariants.{Second, Third, Fourth}
use Rattle.u_check.specs.Kinds.{is_param}
use Rattle.u_check.specs.Rules.{same_name, names_block, block_named, statement_at, is_param_in, follows_params, IsChecked}
use Rattle.u_check.proofs.Arcs.{has_number}
use Rattle.u_check.proofs.Facts.{param_in_order}
use Rattle.u_rule.specs.Parameters.{parameters_in}

-- a block that has a name is named
pub named_by : (p : List BlockParts) (name : List ℕ) (b : BlockParts) → block_named p name ≡ Some b → names_block p name ≡ true
named_by [] name b e = cc
named_by (x ∷ xs) name b e =
    elim (cases_Bool (same_name x.name name)) [ inl s ↦ rw s refl | inr s ↦ rw s (named_by xs name b (rw s at e)) ]

-- of three statements: how many there are tells which there are

abbrev one : Bool → ℕ
one x = cond x 1 0

abbrev count : Bool → Bool → Bool → ℕ
count x y z = 1 + (one x + (one y + one z))

at_two : (x y z : Bool) → (y ≡ true → x ≡ true) → (z ≡ true → x ≡ true) → 2 ≤ count x y z → x ≡ true
at_two true y z f g l = refl
at_two false true z f g l = f refl
at_two false false true f g l = g refl
at_two false false false f g l = absurd (omega (arith, l))

at_three : (x y z : Bool) → (z ≡ true → y ≡ true) → 3 ≤ count x y z → y ≡ true
at_three x true z g l = refl
at_three x false true g l = g refl
at_three true false false g l = absurd (omega (arith, l))
at_three false false false g l = absurd (omega (arith, l))

at_four : (x y z : Bool) → 4 ≤ count x y z → z ≡ true
at_four x y true l = refl
at_four true true false l = absurd (omega (arith, l))
at_four true false false l = absurd (omega (arith, l))
at_four false true false l = absurd (omega (arith, l))
at_four false false false l = absurd (omega (arith, l))

one_bound : (x : Bool) → one x ≤ 1
one_bound true = omega arith
one_bound false = omega arith

-- a procedure has four parameters at most
pub few_parameters : (ss : List StatementParts) → parameters_in ss ≤ 4
few_parameters ss =
    let x = one_bound (is_param_in (statement_at ss 2)) in
    let y = one_bound (is_param_in (statement_at ss 3)) in
    let z = one_bound (is_param_in (statement_at ss 4)) in
    omega (arith, x, y, z)

-- a statement of region 0 with that number
pub record Taker (ss : List StatementParts) (k : ℕ) : Type 0 where
  pub it : StatementParts
  pub stands : statement_at ss k ≡ Some it
  pub region : it.region ≡ 0

param_kind : (k : Kind) → is_param k ≡ true → (q : Parameter) × (k ≡ Param q)
param_kind (Param q) e = (q, refl)
param_kind k e = absurd (false≢true e)

third : (ss : List StatementParts) → follows_params ss Third ≡ true → is_param_in (statement_at ss 2) ≡ true
unfolding follows_params
third ss e = e

fourth : (ss : List StatementParts) → follows_params ss Fourth ≡ true → (is_param_in (statement_at ss 2) ≡ true) × (is_param_in (statement_at ss 3) ≡ true)
unfolding follows_params
fourth ss e = and_parts (is_param_in (statement_at ss 2)) (is_param_in (statement_at ss 3)) e

module _ (p : List BlockParts) (c : IsChecked p) (b : BlockParts) (m : Contains p b) where
  -- a `param` of the block, with what the checker says of it
  pub record Placed (n : ℕ) : Type 0 where
    pub it : Taker b.statements n
    pub kind : Parameter
    pub is : it.it.kind ≡ Param kind
    pub place : n ≡ place_of kind
    pub behind : follows_params b.statements kind ≡ true

  placed : (n : ℕ) → is_param_in (statement_at b.statements n) ≡ true → Placed n
  placed n h = at (statement_at b.statements n) refl h
    where
      at : (o : Option StatementParts) → statement_at b.statements n ≡ o → is_param_in o ≡ true → Placed n
      at None e h = absurd (false≢true h)
      at (Some s) e h =
          let k = has_number b.statements n s e in
          let q = param_kind s.kind h in
          let w = param_in_order p c b m (n - 1) s k.1 q.0 q.1 in
          record { it = record { it = s; stands = e; region = w.1 }; kind = q.0; is = q.1; place = omega (arith, k.0, w.0); behind = w.2 }

  second_before_third : is_param_in (statement_at b.statements 3) ≡ true → is_param_in (statement_at b.statements 2) ≡ true
  second_before_third h = (let w = placed 3 h in by w.kind w.place w.behind)
    where
      by : (q : Parameter) → 3 ≡ place_of q → follows_params b.statements q ≡ true → is_param_in (statement_at b.statements 2) ≡ true
      by Second e f = absurd (omega (arith, e))
      by Third e f = third b.statements f
      by Fourth e f = absurd (omega (arith, e))

  before_fourth : is_param_in (statement_at b.statements 4) ≡ true → (is_param_in (statement_at b.statements 2) ≡ true) × (is_param_in (statement_at b.statements 3) ≡ true)
  before_fourth h = (let w = placed 4 h in by w.kind w.place w.behind)
    where
      by : (q : Parameter) → 4 ≡ place_of q → follows_params b.statements q ≡ true → (is_param_in (statement_at b.statements 2) ≡ true) × (is_param_in (statement_at b.statements 3) ≡ true)
      by Second e f = absurd (omega (arith, e))
      by Third e f = absurd (omega (arith, e))
      by Fourth e f = fourth b.statements f

  -- each parameter behind the first has its `param`
  pub further : (k : ℕ) → 2 ≤ k → k ≤ parameters_in b.statements → Placed k
  further zero low high = absurd (omega (arith, low))
  further (suc zero) low high = absurd (omega (arith, low))
  further (suc (suc zero)) low high =
      placed 2 (at_two (is_param_in (statement_at b.statements 2)) (is_param_in (statement_at b.statements 3)) (is_param_in (statement_at b.statements 4)) second_before_third (λ h. (before_fourth h).0) high)
  further (suc (suc (suc zero))) low high =
      placed 3 (at_three (is_param_in (statement_at b.statements 2)) (is_param_in (statement_at b.statements 3)) (is_param_in (statement_at b.statements 4)) (λ h. (before_fourth h).1) high)
  further (suc (suc (suc (suc zero)))) low high =
      placed 4 (at_four (is_param_in (statement_at b.statements 2)) (is_param_in (statement_at b.statements 3)) (is_param_in (statement_at b.statements 4)) high)
  further (suc (suc (suc (suc (suc k))))) low high =
      let few = few_parameters b.statements in
      absurd (omega (arith, high, few))

  -- each parameter has its statement, where the block has a first one in region 0
  pub takes : Taker b.statements 1 → (k : ℕ) → 1 ≤ k → k ≤ parameters_in b.statements → Taker b.statements k
  takes first zero low high = absurd (omega (arith, low))
  takes first (suc zero) low high = first
  takes first (suc (suc k)) low high = (further (suc (suc k)) (omega arith) high).it
