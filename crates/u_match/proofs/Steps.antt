-- A list of firings that is gathered step by step.
use Rattle.std.proofs.Common.{◌≡◌, ◌↔◌, ◌⊎◌, ◌∙◌, ap, sym, refl, inl, inr, subst, List, [], ◌∷◌, ◌++◌, Contains, IsTrue, Bool, true, false, cond, Option, Some, None, Ok}
use Rattle.std.specs.Prelude.{IfSome, is_some}
use Rattle.std.proofs.lemmas.List.Elements.{Contains-append_left, Contains-push, Contains-push_cases}
use Rattle.u_name.specs.Cell.{CellOf}
use Rattle.u_name.specs.Name.{Activity}
use Rattle.u_value.specs.declared.value.Value.{Value}
use Rattle.u_check.specs.Jobs.{JobParts}
use Rattle.u_program.specs.declared.program.Kind.{Kind}
use Rattle.u_program.specs.Parts.{StatementParts}
use Rattle.u_rule.specs.Fits.{statement_of}
use Rattle.u_rule.specs.Replies.{told_to, reply_with, value_for}
use Rattle.u_rule.proofs.Told.{told_found, told_only}
use Rattle.u_rule.specs.Rule.{is_own_of}
use Rattle.u_rule.specs.Structures.{cell_named}
use Rattle.u_rule.specs.declared.entry.Entry.{Entry}
use Rattle.u_rule.specs.declared.firing.Firing.{Firing}
use Rattle.u_rule.specs.declared.parts.Written.{Written}
use Rattle.u_sets.specs.Members.{SomeOf, Gains}
use Rattle.u_sets.proofs.Steps.{nothing}
use Rattle.u_history.specs.Outcomes.{PairIn}
use Rattle.u_match.specs.Joins.{IsSame, IsSomeSame, IsKept, IsReading, ReadsCell}

-- behind the others
pub put_last : (g : Firing) (old new : List Firing) → new ≡ old ++ g ∷ [] → Gains old (λ f. g ≡ f) new
put_last g old new e = rw e (λ f. (to f, back f))
  where
    to : (f : Firing) → Contains (old ++ g ∷ []) f → Contains old f ⊎ (g ≡ f)
    to f m = Contains-push_cases old g f m

    back : (f : Firing) → Contains old f ⊎ (g ≡ f) → Contains (old ++ g ∷ []) f
    back f (inl k) = Contains-append_left old (g ∷ []) f k
    back f (inr h) = subst (λ (x : Firing). Contains (old ++ g ∷ []) x) h (Contains-push old g)

-- the firing, by another name
pub renamed : (job : JobParts) (g h : Firing) (old new : List Firing) → g ≡ h → Gains old (IsKept job g) new → Gains old (IsKept job h) new
renamed job g h old new e s = subst (λ (x : Firing). Gains old (IsKept job x) new) e s

pub same_firing : (g h : Firing) (old new : List Firing) → g ≡ h → Gains old (λ f. g ≡ f) new → Gains old (λ f. h ≡ f) new
same_firing g h old new e s = subst (λ (x : Firing). Gains old (λ f. x ≡ f) new) e s

-- a firing of the job is put in, and another is left out
pub put_in : (job : JobParts) (g : Firing) (old new : List Firing) → IsTrue (is_own_of job g) → Gains old (λ f. g ≡ f) new → Gains old (IsSame job g) new
put_in job g old new is s f = (
  (λ m. elim ((s f).0 m) [ inl k ↦ inl k | inr e ↦ inr (e, subst (λ (x : Firing). IsTrue (is_own_of job x)) e is) ]),
  (λ t. elim t [ inl k ↦ (s f).1 (inl k) | inr p ↦ (s f).1 (inr p.0) ]),
)

pub left_out : (job : JobParts) (g : Firing) (old : List Firing) → (IsTrue (is_own_of job g) → ⊥) → Gains old (IsSame job g) old
left_out job g old no_firing = nothing (IsSame job g) old (λ f p. no_firing (subst (λ (x : Firing). IsTrue (is_own_of job x)) (sym_of p.0) p.1))
  where
    sym_of : {f : Firing} → g ≡ f → f ≡ g
    sym_of e = cc

-- the reply is of the same activity
told_active : (b : Bool) (g : Firing) (x : Option Value) → IfSome (cond b None (reply_with g x)) (λ f. f.activity ≡ g.activity)
told_active true g x = tt
told_active false g None = tt
told_active false g (Some v) = refl

pub told_activity : (job : JobParts) (k : Kind) (g : Firing) (a : Activity) (o : Option Firing) → o ≡ told_to job.table k g → g.activity ≡ a → IfSome o (λ f. f.activity ≡ a)
told_activity job k g a o e q = subst (λ (b : Activity). IfSome o (λ f. f.activity ≡ b)) q (subst (λ (x : Option Firing). IfSome x (λ f. f.activity ≡ g.activity)) (sym e) (told_active (is_some g.write) g (value_for job.table k g.values)))

-- with the reply that the table has, where it has one
module _ (job : JobParts) (g : Firing) (s : StatementParts) (stands : statement_of job.program.blocks g.activity.block g.activity.statement ≡ Some s) where
  -- it is made of the firing
  pub told_made : (o : Option Firing) → o ≡ told_to job.table s.kind g → (f : Firing) → IsSomeSame job o f → IsKept job g f
  told_made None e f k = absurd k
  told_made (Some r) e f (q, is) =
      let found : told_to job.table s.kind g ≡ Some f = sym e ∙ ap (λ (x : Firing). Some x) q in
      (inr (told_only job f g s stands is found), is)

  pub kept_is : (o : Option Firing) → o ≡ told_to job.table s.kind g → (f : Firing) → IsKept job g f → IsSame job g f ⊎ IsSomeSame job o f
  kept_is o e f (inl q, is) = inl (q, is)
  kept_is o e f (inr (t, q), is) = inr (subst (λ (x : Option Firing). IsSomeSame job x f) (sym (e ∙ told_found job f g s stands t q)) (refl, is))

  pub with_told : (o : Option Firing) (old mid new : List Firing) → o ≡ told_to job.table s.kind g → Gains old (IsSame job g) mid → Gains mid (IsSomeSame job o) new → Gains old (IsKept job g) new
  with_told o old mid new e a b f = (to, back)
    where
      to : Contains new f → Contains old f ⊎ IsKept job g f
      to m = elim ((b f).0 m) [
        | inl k ↦ elim ((a f).0 k) [ inl n ↦ inl n | inr q ↦ inr (inl q.0, q.1) ]
        | inr q ↦ inr (told_made o e f q)
      ]

      back : Contains old f ⊎ IsKept job g f → Contains new f
      back (inl n) = (b f).1 (inl ((a f).1 (inl n)))
      back (inr k) = elim (kept_is o e f k) [ inl q ↦ (b f).1 (inl ((a f).1 (inr q))) | inr q ↦ (b f).1 (inr q) ]

-- of two values that name no cell, nothing reads
pub no_cell : (job : JobParts) (H : Entry → Type 0) (a : Activity) (v w : Value) (o : Option CellOf) → o ≡ None → ((c : CellOf) → (o ≡ Some c) ↔ (cell_named (v ∷ w ∷ []) ≡ Ok c)) → (f : Firing) → ReadsCell job H a v w f → ⊥
no_cell job H a v w o n named f (c, e, s) = let h = (named c).1 e in cc

-- of two values that name a cell, what reads a write of it
pub of_cell : (job : JobParts) (H : Entry → Type 0) (a : Activity) (v w : Value) (o : Option CellOf) (cell : CellOf) (writes : List Written) (old new : List Firing) → o ≡ Some cell → ((c : CellOf) → (o ≡ Some c) ↔ (cell_named (v ∷ w ∷ []) ≡ Ok c)) → ((x : Written) → Contains writes x ↔ PairIn H cell x)
    → Gains old (SomeOf writes (IsReading job a v w)) new → Gains old (ReadsCell job H a v w) new
of_cell job H a v w o cell writes old new is named all g f = (to, back)
  where
    to : Contains new f → Contains old f ⊎ ReadsCell job H a v w f
    to m = elim ((g f).0 m) [ inl k ↦ inl k | inr (x, n, k) ↦ inr (cell, (named cell).0 is, (x, (all x).0 n, k)) ]

    same : (c : CellOf) → cell_named (v ∷ w ∷ []) ≡ Ok c → c ≡ cell
    same c e = let h = (named c).1 e in cc

    back : Contains old f ⊎ ReadsCell job H a v w f → Contains new f
    back (inl k) = (g f).1 (inl k)
    back (inr (c, e, (x, n, k))) = (g f).1 (inr (x, (all x).1 (subst (λ (y : CellOf). PairIn H y x) (same c e) n), k))
