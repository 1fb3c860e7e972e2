-- How many values a firing has, which tokens it needs for them, and which write.
use Rattle.std.proofs.Common.{◌≡◌, ◌↔◌, ◌⊎◌, ◌∙◌, inl, inr, refl, sym, subst, arith, ap, Bool, true, false, IsTrue, ◌≤◌, List, [], ◌∷◌, length, Contains, Option, Some, None}
use Rattle.std.specs.Prelude.{is_none, is_some, is_ok, if◌then◌else◌, ◌==◌, Result, Ok, Err}
use Rattle.std.proofs.lemmas.Bool.{and_parts, eqb-true}
use Rattle.u_name.specs.Name.{Activity}
use Rattle.u_value.specs.declared.value.Value.{Value}
use Rattle.u_program.specs.declared.program.Kind.{Kind}
use Rattle.u_program.specs.declared.program.Kind.TheVariants.{Fetch}
use Rattle.u_program.specs.Parts.{StatementParts, BlockParts}
use Rattle.u_check.specs.Jobs.{JobParts}
use Rattle.u_check.specs.Kinds.{ports_of}
use Rattle.u_check.proofs.KindTests.{few_ports}
use Rattle.u_rule.specs.Parts.{token, ValueList}
use Rattle.u_rule.specs.Rule.{is_inner_of, is_inner_at, needs_of}
use Rattle.u_rule.specs.Fits.{statement_of, fits_at}
use Rattle.u_rule.specs.Structures.{cell_named, reads_cell, has_its_write, read_from, wrote}
use Rattle.u_name.specs.Cell.{CellOf}
use Rattle.u_value.specs.declared.fault_kind.FaultKind.{FaultKind}
use Rattle.u_rule.specs.EntryOrder.{firing}
use Rattle.u_rule.specs.declared.entry.Entry.{Entry}
use Rattle.u_rule.specs.declared.entry.Entry.TheVariants as entries
use Rattle.u_rule.specs.declared.firing.Firing.{Firing}
use Rattle.u_rule.specs.declared.parts.Written.{Written}
use Rattle.u_base.proofs.Member.{Contains-nil, Contains-head, Contains-tail, Contains-cons_cases}
use Rattle.u_rule.proofs.Firings.{inner_at_statement}

-- the members of a list of one, two, three, four and five
cons_member : {X : Type 0} (P : Type 0) (x e : X) (xs : List X) → Contains xs e ↔ P → Contains (x ∷ xs) e ↔ ((x ≡ e) ⊎ P)
cons_member {X} P x e xs k = (to, back)
  where
    to : Contains (x ∷ xs) e → (x ≡ e) ⊎ P
    to m = elim (Contains-cons_cases x e xs m) [ inl p ↦ inl p | inr n ↦ inr (k.0 n) ]

    back : (x ≡ e) ⊎ P → Contains (x ∷ xs) e
    back (inl p) = subst (λ (y : X). Contains (x ∷ xs) y) p (Contains-head x xs)
    back (inr q) = Contains-tail x e xs (k.1 q)

pub one_member : {X : Type 0} (x e : X) → Contains (x ∷ []) e ↔ (x ≡ e)
one_member {X} x e = (
  (λ m. elim (Contains-cons_cases x e [] m) [ inl p ↦ p | inr n ↦ absurd (Contains-nil e n) ]),
  (λ p. subst (λ (y : X). Contains (x ∷ []) y) p (Contains-head x [])),
)

pub two_members : {X : Type 0} (x y e : X) → Contains (x ∷ y ∷ []) e ↔ ((x ≡ e) ⊎ (y ≡ e))
two_members x y e = cons_member (y ≡ e) x e (y ∷ []) (one_member y e)

pub three_members : {X : Type 0} (x y z e : X) → Contains (x ∷ y ∷ z ∷ []) e ↔ ((x ≡ e) ⊎ ((y ≡ e) ⊎ (z ≡ e)))
three_members x y z e = cons_member ((y ≡ e) ⊎ (z ≡ e)) x e (y ∷ z ∷ []) (two_members y z e)

pub four_members : {X : Type 0} (x y z u e : X) → Contains (x ∷ y ∷ z ∷ u ∷ []) e ↔ ((x ≡ e) ⊎ ((y ≡ e) ⊎ ((z ≡ e) ⊎ (u ≡ e))))
four_members x y z u e = cons_member ((y ≡ e) ⊎ ((z ≡ e) ⊎ (u ≡ e))) x e (y ∷ z ∷ u ∷ []) (three_members y z u e)

pub five_members : {X : Type 0} (x y z u w e : X) → Contains (x ∷ y ∷ z ∷ u ∷ w ∷ []) e ↔ ((x ≡ e) ⊎ ((y ≡ e) ⊎ ((z ≡ e) ⊎ ((u ≡ e) ⊎ (w ≡ e)))))
five_members x y z u w e = cons_member ((y ≡ e) ⊎ ((z ≡ e) ⊎ ((u ≡ e) ⊎ (w ≡ e)))) x e (y ∷ z ∷ u ∷ w ∷ []) (four_members y z u w e)

-- a write exactly where it is wanted
pub read_or_none : (b : Bool) (w : Option Written) → (if b then is_some w else is_none w) ≡ true → ((b ≡ true) × ((x : Written) × (w ≡ Some x))) ⊎ (w ≡ None)
read_or_none true None h = cc
read_or_none true (Some x) h = inl (refl, (x, refl))
read_or_none false None h = inr refl
read_or_none false (Some x) h = cc

ok_of : (r : Result CellOf FaultKind) → is_ok r ≡ true → (cell : CellOf) × (r ≡ Ok cell)
ok_of (Ok cell) h = (cell, refl)
ok_of (Err fault) h = cc

-- a statement that reads a cell has two ports, and its values name the cell
pub reads : (k : Kind) (vs : ValueList) → reads_cell k vs ≡ true → (ports_of k ≡ 2) × ((cell : CellOf) × (cell_named vs ≡ Ok cell))
reads Fetch vs h = (refl, ok_of (cell_named vs) h)
reads k vs h = cc

-- so many values
abbrev pub OneValue : ValueList → Type 0
OneValue vs = (v : Value) × (vs ≡ v ∷ [])

abbrev pub TwoValues : ValueList → Type 0
TwoValues vs = (v : Value) × (w : Value) × (vs ≡ v ∷ w ∷ [])

abbrev pub ThreeValues : ValueList → Type 0
ThreeValues vs = (v : Value) × (w : Value) × (u : Value) × (vs ≡ v ∷ w ∷ u ∷ [])

abbrev pub FourValues : ValueList → Type 0
FourValues vs = (v : Value) × (w : Value) × (u : Value) × (x : Value) × (vs ≡ v ∷ w ∷ u ∷ x ∷ [])

abbrev pub FiveValues : ValueList → Type 0
FiveValues vs = (v : Value) × (w : Value) × (u : Value) × (x : Value) × (y : Value) × (vs ≡ v ∷ w ∷ u ∷ x ∷ y ∷ [])

-- one value to five
abbrev pub SomeValues : ValueList → Type 0
SomeValues vs = OneValue vs ⊎ (TwoValues vs ⊎ (ThreeValues vs ⊎ (FourValues vs ⊎ FiveValues vs)))

listed : (vs : ValueList) → 1 ≤ length vs → length vs ≤ 5 → SomeValues vs
listed [] low high = absurd (omega arith)
listed (v ∷ []) low high = inl (v, refl)
listed (v ∷ w ∷ []) low high = inr (inl (v, w, refl))
listed (v ∷ w ∷ u ∷ []) low high = inr (inr (inl (v, w, u, refl)))
listed (v ∷ w ∷ u ∷ x ∷ []) low high = inr (inr (inr (inl (v, w, u, x, refl))))
listed (v ∷ w ∷ u ∷ x ∷ y ∷ []) low high = inr (inr (inr (inr (v, w, u, x, y, refl))))
listed (v ∷ w ∷ u ∷ x ∷ y ∷ z ∷ vs) low high = absurd (omega arith)

two_of : (vs : ValueList) → length vs ≡ 2 → TwoValues vs
two_of [] h = absurd (omega arith)
two_of (v ∷ []) h = absurd (omega arith)
two_of (v ∷ w ∷ []) h = (v, w, refl)
two_of (v ∷ w ∷ u ∷ vs) h = absurd (omega arith)

-- a firing that reads nothing: one to five values, and no write
pub record Plain (f : Firing) : Type 0 where
  pub write : f.write ≡ None
  pub values : SomeValues f.values

-- a firing that reads a cell: two values, which name the cell, and the write
pub record Reading (f : Firing) : Type 0 where
  pub by : Written
  pub write : f.write ≡ Some by
  pub values : TwoValues f.values
  pub cell : CellOf
  pub names : cell_named f.values ≡ Ok cell

-- the shape of an inner firing
abbrev pub Shape : Firing → Type 0
Shape f = Plain f ⊎ Reading f

shape_at : (p : List BlockParts) (s : Option StatementParts) (f : Firing) → is_inner_at p s f ≡ true → Shape f
shape_at p None f h = cc
shape_at p (Some s) f h =
    let r = (and_parts (fits_at p s.region f.activity) _ h).1 in
    let n = eqb-true (length f.values) (ports_of s.kind) (and_parts (length f.values == ports_of s.kind) (has_its_write s.kind f.values f.write) r).0 in
    let few = few_ports s.kind in
    elim (read_or_none (reads_cell s.kind f.values) f.write ((and_parts (length f.values == ports_of s.kind) (has_its_write s.kind f.values f.write) r).1)) [
      | inl (b, (x, e)) ↦ (let k = reads s.kind f.values b in inr (record { by = x; write = e; values = two_of f.values (n ∙ k.0); cell = k.1.0; names = k.1.1 }))
      | inr e ↦ inl (record { write = e; values = listed f.values (omega (arith, n, few.0)) (omega (arith, n, few.1)) })
    ]

pub shape_of : (job : JobParts) (f : Firing) → IsTrue (is_inner_of job f) → Shape f
shape_of job f h = shape_at job.program.blocks (statement_of job.program.blocks f.activity.block f.activity.statement) f (inner_at_statement job f h)

-- a firing is its activity with its values and its write
pub rebuilt : (f : Firing) (vs : ValueList) (w : Option Written) → f.write ≡ w → f.values ≡ vs → f ≡ firing f.activity vs w
rebuilt f vs w p e = ap (λ (x : ValueList). firing f.activity x f.write) e ∙ ap (λ (x : Option Written). firing f.activity vs x) p

-- what a firing of one value needs, one of two, and so on up to five
pub needs_one : (a : Activity) (v : Value) (e : Entry) → Contains (needs_of (firing a (v ∷ []) None)) e ↔ (entries.Token (token a 1 v) ≡ e)
unfolding needs_of
needs_one a v e = one_member (entries.Token (token a 1 v)) e

pub needs_two : (a : Activity) (v w : Value) (e : Entry) → Contains (needs_of (firing a (v ∷ w ∷ []) None)) e ↔ ((entries.Token (token a 1 v) ≡ e) ⊎ (entries.Token (token a 2 w) ≡ e))
unfolding needs_of
needs_two a v w e = two_members (entries.Token (token a 1 v)) (entries.Token (token a 2 w)) e

pub needs_three : (a : Activity) (v w u : Value) (e : Entry) → Contains (needs_of (firing a (v ∷ w ∷ u ∷ []) None)) e ↔ ((entries.Token (token a 1 v) ≡ e) ⊎ ((entries.Token (token a 2 w) ≡ e) ⊎ (entries.Token (token a 3 u) ≡ e)))
unfolding needs_of
needs_three a v w u e = three_members (entries.Token (token a 1 v)) (entries.Token (token a 2 w)) (entries.Token (token a 3 u)) e

pub needs_four : (a : Activity) (v w u x : Value) (e : Entry)
    → Contains (needs_of (firing a (v ∷ w ∷ u ∷ x ∷ []) None)) e
    ↔ ((entries.Token (token a 1 v) ≡ e) ⊎ ((entries.Token (token a 2 w) ≡ e) ⊎ ((entries.Token (token a 3 u) ≡ e) ⊎ (entries.Token (token a 4 x) ≡ e))))
unfolding needs_of
needs_four a v w u x e = four_members (entries.Token (token a 1 v)) (entries.Token (token a 2 w)) (entries.Token (token a 3 u)) (entries.Token (token a 4 x)) e

pub needs_five : (a : Activity) (v w u x y : Value) (e : Entry)
    → Contains (needs_of (firing a (v ∷ w ∷ u ∷ x ∷ y ∷ []) None)) e
    ↔ ((entries.Token (token a 1 v) ≡ e) ⊎ ((entries.Token (token a 2 w) ≡ e) ⊎ ((entries.Token (token a 3 u) ≡ e) ⊎ ((entries.Token (token a 4 x) ≡ e) ⊎ (entries.Token (token a 5 y) ≡ e)))))
unfolding needs_of
needs_five a v w u x y e = five_members (entries.Token (token a 1 v)) (entries.Token (token a 2 w)) (entries.Token (token a 3 u)) (entries.Token (token a 4 x)) (entries.Token (token a 5 y)) e

-- what a firing that reads a cell needs
pub needs_read : (a : Activity) (v w : Value) (x : Written) (cell : CellOf) → cell_named (v ∷ w ∷ []) ≡ Ok cell → (e : Entry)
    → Contains (needs_of (firing a (v ∷ w ∷ []) (Some x))) e ↔ ((entries.Token (token a 1 v) ≡ e) ⊎ ((entries.Token (token a 2 w) ≡ e) ⊎ (wrote cell x.writer x.value ≡ e)))
unfolding needs_of
needs_read a v w x cell n e =
    subst (λ (r : Result CellOf FaultKind). Contains (entries.Token (token a 1 v) ∷ entries.Token (token a 2 w) ∷ read_from r x) e ↔ ((entries.Token (token a 1 v) ≡ e) ⊎ ((entries.Token (token a 2 w) ≡ e) ⊎ (wrote cell x.writer x.value ≡ e)))) (sym n)
    (three_members (entries.Token (token a 1 v)) (entries.Token (token a 2 w)) (wrote cell x.writer x.value) e)
