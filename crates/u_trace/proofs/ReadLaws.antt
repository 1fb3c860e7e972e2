-- Which reads are deferred.
use Rattle.std.proofs.Common.{◌≡◌, ◌↔◌, ℕ, List, [], ◌∷◌, refl, sym, subst, ap, ◌∙◌, Option, Some, None, Result, Ok, true, is_ok}
use Rattle.std.specs.Prelude.{Contains}
use Rattle.std.proofs.lemmas.Bool.{false≢true}
use Rattle.u_base.specs.Firing.{Same}
use Rattle.u_sets.specs.Members.{SomeOf, Gains}
use Rattle.u_sets.specs.Rising.{Rises, IsListOf}
use Rattle.u_name.specs.Name.{Activity}
use Rattle.u_name.specs.Cell.{CellOf}
use Rattle.u_value.specs.declared.value.Value.{Value}
use Rattle.u_value.specs.declared.fault_kind.FaultKind.{FaultKind}
use Rattle.u_program.specs.declared.program.Kind.{Kind}
use Rattle.u_program.specs.declared.program.Kind.TheVariants.{Fetch}
use Rattle.u_program.specs.Parts.{BlockParts}
use Rattle.u_rule.specs.Fits.{statement_of}
use Rattle.u_rule.specs.Structures.{cell_named, reads_cell}
use Rattle.u_rule.specs.Parts.{TokenParts, token}
use Rattle.u_rule.specs.declared.entry.Entry.{Entry}
use Rattle.u_rule.specs.declared.entry.Entry.TheVariants as entries
use Rattle.u_history.specs.Outcomes.{ValueAt}
use Rattle.u_trace.specs.Deferred.{IsDeferred, IsUnwritten}
use Rattle.u_trace.specs.Gathering.{ReadsOn, ReadsAt, IsFetchIn}
use Rattle.u_trace.specs.Orders.{read_order, by_reader}
use Rattle.u_trace.specs.declared.reads.DeferredRead.{DeferredRead}
use Rattle.u_sets.proofs.Steps.{from_nothing}

abbrev pub read : Activity → CellOf → DeferredRead
read reader cell = record { reader = reader; cell = cell }

-- two values and the cell that they name, if they name one
module _ (H : Entry → Type 0) (a : Activity) (structure index : Value) (o : Option CellOf) (named : (c : CellOf) → (o ≡ Some c) ↔ (cell_named (structure ∷ index ∷ []) ≡ Ok c)) where
  pub reads_nothing : o ≡ None → (r : DeferredRead) → ReadsOn H a structure index r → ⊥
  reads_nothing e r (q, n, u) = let h = (named r.cell).1 n in cc

  one_cell : (cell : CellOf) → o ≡ Some cell → (r : DeferredRead) → ReadsOn H a structure index r → cell ≡ r.cell
  one_cell cell e r (q, n, u) = let h = (named r.cell).1 n in cc

  pub reads_written : (cell : CellOf) → o ≡ Some cell → (IsUnwritten H cell → ⊥) → (r : DeferredRead) → ReadsOn H a structure index r → ⊥
  reads_written cell e not r s = not (subst (IsUnwritten H) (sym (one_cell cell e r s)) s.2)

  pub it_reads : (b : Activity) (cell : CellOf) → b ≡ a → o ≡ Some cell → IsUnwritten H cell → ReadsOn H a structure index (read b cell)
  it_reads b cell q e u = (sym q, (named cell).0 e, u)

  pub one_read : (b : Activity) (cell : CellOf) → b ≡ a → o ≡ Some cell → (r : DeferredRead) → ReadsOn H a structure index r → read b cell ≡ r
  one_read b cell q e r s = ap (λ (n : Activity). read n cell) (q ∙ s.0) ∙ ap (λ (c : CellOf). read r.reader c) (one_cell cell e r s)

-- with all values at the second port, for a structure at the first one
module _ (p : List BlockParts) (H : Entry → Type 0) (e : Entry) (t : TokenParts) (is : e ≡ entries.Token t) where
  -- elsewhere nothing is read
  pub reads_elsewhere : ((t.port ≡ 1) × IsFetchIn p t.activity → ⊥) → (r : DeferredRead) → ReadsAt p H e r → ⊥
  reads_elsewhere not r s = let w = subst (λ (x : Entry). ReadsAt p H x r) is s in not (w.0, w.1)

  module _ (indices : List Value) (a b : Activity) (v : Value) (of : a ≡ t.activity) (by : b ≡ a) (at : v ≡ t.value) (those : (x : Value) → Contains indices x ↔ ValueAt H b 2 x) (first : (t.port ≡ 1) × IsFetchIn p t.activity) (r : DeferredRead) where
    to_token : SomeOf indices (ReadsOn H a v) r → ReadsAt p H (entries.Token t) r
    to_token (x, m, s) =
        let h = subst (λ (n : Activity). ValueAt H n 2 x) (by ∙ of) ((those x).0 m) in
        let g = subst (λ (n : Activity). ReadsOn H n t.value x r) of (subst (λ (y : Value). ReadsOn H a y x r) at s) in
        (first.0, first.1, (x, h, g))

    of_token : ReadsAt p H (entries.Token t) r → SomeOf indices (ReadsOn H a v) r
    of_token (n, f, (w, m, s)) =
        let h = subst (λ (n : Activity). ValueAt H n 2 w) (sym (by ∙ of)) m in
        let g = subst (λ (n : Activity). ReadsOn H n v w r) (sym of) (subst (λ (y : Value). ReadsOn H t.activity y w r) (sym at) s) in
        (w, (those w).1 h, g)

    pub reads_of_indices : SomeOf indices (ReadsOn H a v) r ↔ ReadsAt p H e r
    reads_of_indices = ((λ s. subst (λ (x : Entry). ReadsAt p H x r) (sym is) (to_token s)), λ s. of_token (subst (λ (x : Entry). ReadsAt p H x r) is s))

-- a read of no token is none
pub reads_no_token : (p : List BlockParts) (H : Entry → Type 0) (e : Entry) → ((t : TokenParts) → e ≡ entries.Token t → ⊥) → (r : DeferredRead) → ReadsAt p H e r → ⊥
reads_no_token p H (entries.Token t) not r s = not t refl
reads_no_token p H e not r s = absurd s

-- what reads a cell is a `fetch`
pub fetches : (k : Kind) (vs : List Value) → reads_cell k vs ≡ true → k ≡ Fetch
fetches Fetch vs h = refl
fetches k vs h = absurd (false≢true h)

named_ok : (x : Result CellOf FaultKind) (c : CellOf) → x ≡ Ok c → is_ok x ≡ true
named_ok x c e = ap is_ok e

-- so all reads are found
pub all_reads : (p : List BlockParts) (H : Entry → Type 0) (es : List Entry) (xs : List DeferredRead) → Same (Contains es) H → Rises read_order xs → Gains [] (SomeOf es (ReadsAt p H)) xs → IsListOf by_reader (IsDeferred p H) xs
all_reads p H es xs same up g = record { rises = up; exact = λ r. (to r, back r) }
  where
    by : (e : Entry) (r : DeferredRead) → H e → ReadsAt p H e r → IsDeferred p H r
    by (entries.Token t) r m (n, (s, x, k), (v, at, (q, c, u))) = record {
      statement = s;
      structure = t.value;
      index = v;
      executes = subst (λ (a : Activity). statement_of p a.block a.statement ≡ Some s) q x;
      reads = subst (λ (j : Kind). reads_cell j (t.value ∷ v ∷ []) ≡ true) (sym k) (named_ok (cell_named (t.value ∷ v ∷ [])) r.cell c);
      names = c;
      first = subst (λ (j : ℕ). H (entries.Token (token r.reader j t.value))) n (subst (λ (a : Activity). H (entries.Token (token a t.port t.value))) q m);
      second = subst (λ (a : Activity). H (entries.Token (token a 2 v))) q at;
      unwritten = u;
    }
    by e r m s = absurd s

    to : (r : DeferredRead) → Contains xs r → IsDeferred p H r
    to r m = let s = (from_nothing (SomeOf es (ReadsAt p H)) xs g r).0 m in by s.0 r ((same s.0).0 s.1) s.2

    back : (r : DeferredRead) → IsDeferred p H r → Contains xs r
    back r d =
        (from_nothing (SomeOf es (ReadsAt p H)) xs g r).1
        (entries.Token (token r.reader 1 d.structure), (same (entries.Token (token r.reader 1 d.structure))).1 d.first, (refl, (d.statement, d.executes, fetches d.statement.kind (d.structure ∷ d.index ∷ []) d.reads), (d.index, d.second, (refl, d.names, d.unwritten))))
