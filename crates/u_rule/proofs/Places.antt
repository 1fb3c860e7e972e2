-- Which places fit, where one fits: inside and outside of a loop, and of a call.
use Rattle.std.proofs.Common.{◌≡◌, ℕ, ◌≤◌, ◌-◌, refl, ap, ◌∙◌, arith, eq-eqb, le-leb, Bool, true, false, ◌&&◌, ◌==◌, List, Option, Some, None}
use Rattle.std.specs.Prelude.{slice_get, Contains, nat_le, if◌then◌else◌}
use Rattle.std.specs.Cmp.Lexicographic.{bytes_decides}
use Rattle.std.proofs.lemmas.Bool.{false≢true, and_parts, eqb-true}
use Rattle.std.specs.List.{AllByRecursion}
use Rattle.std.proofs.lemmas.List.Elements.{All-from_recursion, All-contains}
use Rattle.u_name.specs.Context.{Tree, Top, InLoop, InCall}
use Rattle.u_program.specs.Parts.{StatementParts, BlockParts}
use Rattle.u_check.specs.Kinds.{is_apply}
use Rattle.u_check.specs.Rules.{main_name, same_name, names_block, block_named, held_by, statement_at}
use Rattle.u_program.specs.Limits.{IsStatement, the_limits}
use Rattle.u_check.proofs.Arcs.{has_number}
use Rattle.u_check.proofs.Blocks.{named_member, member_at, same_itself}
use Rattle.u_rule.specs.Fits.{statement_in, statement_of, holder_in, holder_of, calling_region, has_passing, fits}

-- a statement of a program, and its block
pub record Standing (p : List BlockParts) (name : List ℕ) (n : ℕ) (s : StatementParts) : Type 0 where
  pub block : BlockParts
  pub named : block_named p name ≡ Some block
  pub member : Contains p block
  pub at_place : slice_get block.statements (n - 1) ≡ Some s

pub standing : (p : List BlockParts) (name : List ℕ) (n : ℕ) (s : StatementParts) → statement_of p name n ≡ Some s → Standing p name n s
standing p name n s e = found (block_named p name) refl e
  where
    found : (o : Option BlockParts) → block_named p name ≡ o → statement_in o n ≡ Some s → Standing p name n s
    found None q h = cc
    found (Some b) q h = record { block = b; named = q; member = (named_member p name b q).0; at_place = (has_number b.statements n s h).1 }

-- a statement of a list lies within the limits that all of the list do
pub within_limits : (ss : List StatementParts) (n : ℕ) (s : StatementParts) → AllByRecursion (IsStatement the_limits) ss → statement_at ss n ≡ Some s → IsStatement the_limits s
within_limits ss n s v e =
    All-contains (IsStatement the_limits) ss s (All-from_recursion (IsStatement the_limits) ss v) (member_at ss (n - 1) s (has_number ss n s e).1)

-- a context of that loop of the block, entered from a place that fits
pub record Looping (p : List BlockParts) (u : Tree) (block : List ℕ) (region : ℕ) : Type 0 where
  pub outer : Tree
  pub turn : ℕ
  pub holder : ℕ
  pub is : u ≡ InLoop outer block region turn
  pub held : holder_of p block region ≡ Some holder
  pub fit : fits p outer block holder turn ≡ true

-- a context of a call, from an `apply` that fits
pub record Calling (p : List BlockParts) (outer : Tree) (from : List ℕ) (caller turn : ℕ) : Type 0 where
  pub by : StatementParts
  pub stands : statement_of p from caller ≡ Some by
  pub applies : is_apply by.kind ≡ true
  pub fit : fits p outer from by.region turn ≡ true

passing : (o : Option ℕ) (test : ℕ → Bool) → has_passing o test ≡ true → (r : ℕ) × (o ≡ Some r) × (test r ≡ true)
passing None test e = absurd (false≢true e)
passing (Some r) test e = (r, refl, e)

in_region_0 : (region : ℕ) (b : Bool) → (region == 0 && b) ≡ true → region ≡ 0
in_region_0 region b e = eqb-true region 0 (and_parts (region == 0) b e).0

-- what fits in a loop's region has a context of that loop
pub looping : (p : List BlockParts) (u : Tree) (block : List ℕ) (region initiation : ℕ) → fits p u block region initiation ≡ true → 1 ≤ region → Looping p u block region
looping p Top block region initiation e l =
    let z = in_region_0 region (initiation == 1 && same_name block main_name) e in absurd (omega (arith, z, l))
looping p (InLoop outer from number turn) block region initiation e l =
    let a = and_parts (nat_le 1 region) _ e in
    let b = and_parts (number == region) _ a.1 in
    let c = and_parts (same_name from block) _ b.1 in
    let d = passing (holder_of p block region) _ c.1 in
    let f : from ≡ block = (bytes_decides from block).0 c.0 in
    let g : number ≡ region = eqb-true number region b.0 in
    record {
      outer = outer;
      turn = turn;
      holder = d.0;
      is = ap (λ (x : List ℕ). InLoop outer x number turn) f ∙ ap (λ (x : ℕ). InLoop outer block x turn) g;
      held = d.1;
      fit = d.2;
    }
looping p (InCall outer from caller turn) block region initiation e l =
    let z = in_region_0 region _ e in absurd (omega (arith, z, l))

by_apply : (o : Option StatementParts) (r : ℕ) → calling_region o ≡ Some r → (s : StatementParts) × (o ≡ Some s) × (is_apply s.kind ≡ true) × (s.region ≡ r)
by_apply None r e = cc
by_apply (Some s) r e = at (is_apply s.kind) refl (e)
  where
    at : (x : Bool) → is_apply s.kind ≡ x → (if x then Some s.region else None) ≡ Some r → (t : StatementParts) × (Some s ≡ Some t) × (is_apply t.kind ≡ true) × (t.region ≡ r)
    at true q h = (s, refl, q, (let k : s.region ≡ r = cc in k))
    at false q h = cc

-- what fits in a call was called by an `apply` that fits
pub calling : (p : List BlockParts) (outer : Tree) (from : List ℕ) (caller turn : ℕ) (block : List ℕ) (region initiation : ℕ) → fits p (InCall outer from caller turn) block region initiation ≡ true → Calling p outer from caller turn
calling p outer from caller turn block region initiation e =
    let a = and_parts (region == 0) _ e in
    let b = and_parts (initiation == 1) _ a.1 in
    let c = and_parts (names_block p block) _ b.1 in
    let d = passing (calling_region (statement_of p from caller)) _ c.1 in
    let s = by_apply (statement_of p from caller) d.0 d.1 in
    record {
      by = s.0;
      stands = s.1;
      applies = s.2;
      fit = ap (λ (r : ℕ). fits p outer from r turn) s.3 ∙ d.2;
    }

-- a block that stands in a loop's context does not end there
pub not_looping : (p : List BlockParts) (outer : Tree) (from : List ℕ) (number turn : ℕ) (block : List ℕ) (initiation : ℕ) → fits p (InLoop outer from number turn) block 0 initiation ≡ true → ⊥
not_looping p outer from number turn block initiation e = false≢true e

-- all turns of a loop fit alike
pub each_turn : (p : List BlockParts) (u : Tree) (block : List ℕ) (region i j : ℕ) → fits p u block region i ≡ true → 1 ≤ region → fits p u block region j ≡ true
each_turn p Top block region i j e l =
    let z = in_region_0 region (i == 1 && same_name block main_name) e in absurd (omega (arith, z, l))
each_turn p (InLoop outer from number turn) block region i j e l = e
each_turn p (InCall outer from caller turn) block region i j e l =
    let z = in_region_0 region _ e in absurd (omega (arith, z, l))

-- a loop that is entered from a place that fits
pub entering : (p : List BlockParts) (u : Tree) (name : List ℕ) (b : BlockParts) (l h i j : ℕ) → block_named p name ≡ Some b → held_by b.loops l ≡ Some h → 1 ≤ l → fits p u name h i ≡ true → fits p (InLoop u name l i) name l j ≡ true
entering p u name b l h i j q e from f =
    let a : nat_le 1 l ≡ true = le-leb 1 l from in
    let c : (l == l) ≡ true = eq-eqb l l refl in
    let d : same_name name name ≡ true = same_itself name in
    let g : holder_of p name l ≡ Some h = ap (λ (o : Option BlockParts). holder_in o l) q ∙ e in
    rw a (rw c (rw d (rw g f)))

-- a block that is called from a place that fits
pub calling_fits : (p : List BlockParts) (u : Tree) (from : List ℕ) (caller i : ℕ) (s : StatementParts) (block : List ℕ) → statement_of p from caller ≡ Some s → is_apply s.kind ≡ true → names_block p block ≡ true → fits p u from s.region i ≡ true → fits p (InCall u from caller i) block 0 1 ≡ true
calling_fits p u from caller i s block e a n f =
    let c : calling_region (statement_of p from caller) ≡ Some s.region = ap calling_region e ∙ rw a refl in
    rw n (rw c f)
