-- What a statement gives, where it has values in their ranges, lies in them.
use Rattle.std.proofs.Common.{◌≡◌, ◌∙◌, refl, sym, subst, arith, eq-eqb, Bool, true, false, ◌==◌, ℕ, ◌+◌, ◌-◌, ◌<◌, ◌≤◌, nat_le, cond, List, [], ◌∷◌, length, Contains, Option, Some, None, Result, Ok, Err, inl, inr}
use Rattle.std.proofs.lemmas.Bool.{false≢true, eqb-true}
use Rattle.std.proofs.lemmas.Bool.Decides.{nat_tests}
use Rattle.std.proofs.lemmas.List.Elements.{All-from_recursion, All-contains}
use Rattle.u_name.specs.Block.{IsBlock}
use Rattle.u_name.specs.Context.{Tree, Top, InLoop, InCall, depth, IsBetween, IsContext}
use Rattle.u_name.specs.Name.{Activity, IsName, loop_context, call_context, left, returned}
use Rattle.u_name.specs.Cell.{CellOf, cell_of}
use Rattle.u_value.specs.Reading.{IsValue}
use Rattle.u_value.specs.declared.value.Value.{Value}
use Rattle.u_value.specs.declared.value.Value.TheVariants as values
use Rattle.u_value.specs.declared.fault_kind.FaultKind.{FaultKind}
use Rattle.u_value.specs.declared.fault_kind.FaultKind.TheVariants as faults
use Rattle.u_program.specs.Limits.{IsBlockOf, IsDestination, IsKind, IsProgram, IsStatement, the_limits}
use Rattle.u_program.specs.Parts.{StatementParts, BlockParts}
use Rattle.u_program.specs.declared.program.Destination.{Destination}
use Rattle.u_program.specs.declared.program.Version.{Version}
use Rattle.u_program.specs.declared.program.Version.TheVariants as versions
use Rattle.u_program.specs.declared.program.Kind.{Kind}
use Rattle.u_program.specs.declared.program.Kind.TheVariants.{Enter, Next, Last, Leave, Apply}
use Rattle.u_check.specs.Kinds.{back_named, is_apply, is_end, is_store}
use Rattle.u_check.specs.Rules.{block_named}
use Rattle.u_check.proofs.Blocks.{member_at}
use Rattle.u_base.proofs.Member.{Contains-nil, Contains-cons_cases}
use Rattle.u_rule.specs.Parts.{token, ValueList}
use Rattle.u_rule.specs.Fits.{statement_of}
use Rattle.u_rule.specs.Rule.{reached, refusal_of, list_of, result_of, first_of, beside, delivered, handed_on, arguments_from, called_first, begun, called_on, called, back_of, brought_back, finished, ended, given, given_with, fault_of}
use Rattle.u_rule.specs.Initiations.{last_turn}
use Rattle.u_rule.specs.Structures.{cell_named, stored, stored_in, wrote, is_answer, replied}
use Rattle.u_rule.specs.EntryReading.{IsEntry}
use Rattle.u_rule.specs.FiringReading.{AreValues, IsWritten}
use Rattle.u_rule.specs.declared.entry.Entry.{Entry}
use Rattle.u_rule.specs.declared.entry.Entry.TheVariants as entries
use Rattle.u_rule.specs.declared.parts.Written.{Written}
use Rattle.u_rule.proofs.Destinations.{list_in_range}
use Rattle.u_rule.proofs.Linkage.{mapped}
use Rattle.u_rule.proofs.Places.{standing}
use Rattle.u_rule.specs.Parameters.{parameters_of}
use Rattle.u_rule.proofs.ParameterLaws.{few_parameters}
use Rattle.u_rule.proofs.ResultsInRange.{IsMade, IsNamedCell, first_made, cell_in_range, result_made}

-- each entry of the list is in its ranges
abbrev pub AreEntries : List Entry → Type 0
AreEntries es = (e : Entry) → Contains es e → IsEntry e

none_in_range : AreEntries []
none_in_range e m = absurd (Contains-nil e m)

one_in_range : (x : Entry) → IsEntry x → AreEntries (x ∷ [])
one_in_range x i e m =
    elim (Contains-cons_cases x e [] m) [ inl q ↦ subst (λ (y : Entry). IsEntry y) q i | inr k ↦ absurd (Contains-nil e k) ]

fault_in_range : (a : Activity) (why : FaultKind) → IsName a → AreEntries (fault_of a why ∷ [])
fault_in_range a why n = one_in_range (fault_of a why) n

-- a number that is not refused is another than the refused one
passes : (n m : ℕ) (why : FaultKind) → cond (n == m) (Some why) None ≡ None → n ≡ m → ⊥
passes n m why = at (n == m) refl
  where
    at : (x : Bool) → (n == m) ≡ x → cond x (Some why) None ≡ None → n ≡ m → ⊥
    at true q h e = cc
    at false q h e = absurd (false≢true (sym q ∙ eq-eqb n m e))

-- an initiation that is not refused is below the greatest one
goes_on : (last i : ℕ) → cond (nat_le last i) (Some faults.Initiation) None ≡ None → i < last
goes_on last i = at (nat_le last i) refl
  where
    at : (x : Bool) → nat_le last i ≡ x → cond x (Some faults.Initiation) None ≡ None → i < last
    at true q h = cc
    at false q h = grind (arith, nat_tests)

-- which is one that a name has
has_last_turn : (version : Version) → last_turn version ≤ 18446744073709551615
has_last_turn versions.One = omega arith
has_last_turn versions.Two = omega arith

-- activities that are reached

entered_context : (a : Activity) (l : ℕ) → IsName a → IsBetween 1 l 99 → (depth a.context ≡ 64 → ⊥) → IsContext (loop_context a l)
entered_context a l n b d =
    record { shallow = (let s = n.context.shallow in omega (arith, s, d)); in_range = (n.context.in_range, n.block, b, n.initiation) }

called_context : (a : Activity) → IsName a → (depth a.context ≡ 64 → ⊥) → IsContext (call_context a)
called_context a n d =
    record { shallow = (let s = n.context.shallow in omega (arith, s, d)); in_range = (n.context.in_range, n.block, n.statement, n.initiation) }

left_name : (a : Activity) (t : ℕ) → IsName a → IsBetween 1 t 999 → IsName (left a t)
left_name a t n b = at a.context refl n.context
  where
    at : (u : Tree) → a.context ≡ u → IsContext u → IsName (left a t)
    at Top e c = rw e (record { context = c; block = n.block; statement = n.statement; initiation = n.initiation })
    at (InLoop outer from number turn) e c = rw e (record {
      context = record { shallow = (let s = c.shallow in omega (arith, s)); in_range = c.in_range.0 };
      block = c.in_range.1;
      statement = b;
      initiation = c.in_range.3;
    })
    at (InCall outer from caller turn) e c = rw e (record { context = c; block = n.block; statement = n.statement; initiation = n.initiation })

returned_name : (a : Activity) (t : ℕ) → IsName a → IsBetween 1 t 999 → IsName (returned a t)
returned_name a t n b = at a.context refl n.context
  where
    at : (u : Tree) → a.context ≡ u → IsContext u → IsName (returned a t)
    at Top e c = rw e (record { context = c; block = n.block; statement = n.statement; initiation = n.initiation })
    at (InLoop outer from number turn) e c = rw e (record { context = c; block = n.block; statement = n.statement; initiation = n.initiation })
    at (InCall outer from caller turn) e c = rw e (record {
      context = record { shallow = (let s = c.shallow in omega (arith, s)); in_range = c.in_range.0 };
      block = c.in_range.1;
      statement = b;
      initiation = c.in_range.3;
    })

-- what a statement reaches without a refusal
reached_name : (version : Version) (k : Kind) (a : Activity) (t : ℕ) → IsKind k → IsName a → IsBetween 1 t 999 → refusal_of version k a ≡ None → IsName (reached k a t)
reached_name version (Enter l) a t i n b r =
    let d = passes (depth a.context) 64 faults.Deep r in
    record { context = entered_context a l n i d; block = n.block; statement = b; initiation = (omega arith, omega arith) }
reached_name version Next a t i n b r =
    let d = goes_on (last_turn version) a.initiation r in
    let j = has_last_turn version in
    record { context = n.context; block = n.block; statement = b; initiation = (omega arith, omega (arith, j, d)) }
reached_name version Last a t i n b r = record { context = n.context; block = n.block; statement = b; initiation = (omega arith, omega arith) }
reached_name version Leave a t i n b r = left_name a t n b
reached_name version k a t i n b r = record { context = n.context; block = n.block; statement = b; initiation = n.initiation }

-- what is handed on

delivered_in_range : (version : Version) (o : Option FaultKind) (k : Kind) (a : Activity) (to : List Destination) (v : Value) → refusal_of version k a ≡ o → IsKind k → IsName a → IsValue v → ((d : Destination) → Contains to d → IsDestination d) → AreEntries (delivered o k a to v)
delivered_in_range version None k a to v r i n f w x m =
    let q = mapped (reached k a) v to x m in
    let d = w q.0 q.1 in
    let p = d.port in
    subst (λ (y : Entry). IsEntry y) q.2 (reached_name version k a q.0.statement i n d.statement r, (p.0, omega (arith, p.1)), f)
delivered_in_range version (Some why) k a to v r i n f w x m = fault_in_range a why n x m

handed_in_range : (version : Version) (s : StatementParts) (a : Activity) (vs : ValueList) (r : Result Value FaultKind) → IsStatement the_limits s → IsName a → IsMade r → AreEntries (handed_on version s.kind a (list_of s.kind s vs) r)
handed_in_range version s a vs (Ok v) i n f =
    let to = list_of s.kind s vs in
    let each = All-from_recursion IsDestination to (list_in_range to s.kind s vs refl i) in
    delivered_in_range version (refusal_of version s.kind a) s.kind a to v refl i.kind n f (λ d m. All-contains IsDestination to d each m)
handed_in_range version s a vs (Err why) i n f = fault_in_range a why n

-- calls, and their results

arguments_in_range : (first : Activity) (k : ℕ) (vs : ValueList) → IsName first → 1 ≤ k → k + length vs ≤ 5 → AreValues vs → AreEntries (arguments_from first k vs)
arguments_in_range first k [] n low high i x m = none_in_range x m
arguments_in_range first k (v ∷ vs) n low high i x m =
    elim (Contains-cons_cases (entries.Token (token (beside first k) 1 v)) x (arguments_from first (k + 1) vs) m) [
      | inl e ↦ subst (λ (y : Entry). IsEntry y) e (record { context = n.context; block = n.block; statement = (low, omega (arith, high)); initiation = n.initiation }, (omega arith, omega arith), i.0)
      | inr h ↦ arguments_in_range first (k + 1) vs n (omega arith) (omega (arith, high)) i.1 x h
    ]

begun_in_range : (a : Activity) (block : List ℕ) (vs : ValueList) → IsName a → IsBlock block → length vs ≤ 4 → AreValues vs → AreEntries (begun a block vs)
begun_in_range a block vs n b few f = at (depth a.context == 64) refl
  where
    at : (x : Bool) → (depth a.context == 64) ≡ x → AreEntries (cond x (fault_of a faults.Deep ∷ []) (arguments_from (called_first a block) 1 vs))
    at true q = fault_in_range a faults.Deep n
    at false q =
        let d : depth a.context ≡ 64 → ⊥ = λ e. false≢true (sym q ∙ eq-eqb (depth a.context) 64 e) in
        let m : IsName (called_first a block) = record { context = called_context a n d; block = b; statement = (omega arith, omega arith); initiation = (omega arith, omega arith) } in
        arguments_in_range (called_first a block) 1 vs m (omega arith) (omega (arith, few)) f

called_in_range : (p : List BlockParts) (a : Activity) (vs : ValueList) → IsName a → AreValues vs → AreEntries (called p a vs)
called_in_range p a (values.Proc block ∷ vs) n i = at (block_named p block)
  where
    counted : (b : BlockParts) (x : Bool) → (length vs == parameters_of b) ≡ x → AreEntries (cond x (begun a block vs) (fault_of a faults.Arity ∷ []))
    counted b true q =
        let l = eqb-true (length vs) (parameters_of b) q in
        let few = few_parameters b.statements in
        begun_in_range a block vs n i.0 (omega (arith, l, few)) i.1
    counted b false q = fault_in_range a faults.Arity n

    at : (o : Option BlockParts) → AreEntries (called_on o a block vs)
    at None = fault_in_range a faults.Kind n
    at (Some b) = counted b (length vs == parameters_of b) refl
called_in_range p a vs n i = fault_in_range a faults.Kind n

-- a statement of a program is in its ranges
pub statement_in_range : (p : List BlockParts) (name : List ℕ) (t : ℕ) (s : StatementParts) → IsProgram the_limits p → statement_of p name t ≡ Some s → IsStatement the_limits s
statement_in_range p name t s lim e =
    let w = standing p name t s e in
    let b = All-contains (IsBlockOf the_limits) p w.block (All-from_recursion (IsBlockOf the_limits) p lim.each) w.member in
    All-contains (IsStatement the_limits) w.block.statements s (All-from_recursion (IsStatement the_limits) w.block.statements b.each) (member_at w.block.statements (t - 1) s w.at_place)

brought_in_range : (p : List BlockParts) (a : Activity) (v : Value) (block : List ℕ) (caller : ℕ) → IsProgram the_limits p → IsName a → IsValue v → AreEntries (brought_back a v (back_of (statement_of p block caller)))
brought_in_range p a v block caller lim n f = at (statement_of p block caller) refl
  where
    by_kind : (k : Kind) → IsKind k → AreEntries (brought_back a v (back_named k))
    by_kind (Apply b w) i = one_in_range (entries.Token (token (returned a b) 1 v)) (returned_name a b n i, (omega arith, omega arith), f)
    by_kind k i = none_in_range

    at : (o : Option StatementParts) → statement_of p block caller ≡ o → AreEntries (brought_back a v (back_of o))
    at None e = none_in_range
    at (Some s) e = by_kind s.kind (statement_in_range p block caller s lim e).kind

ended_in_range : (p : List BlockParts) (a : Activity) (r : Result Value FaultKind) → IsProgram the_limits p → IsName a → IsMade r → AreEntries (ended p a r)
ended_in_range p a (Ok v) lim n f = at a.context
  where
    at : (u : Tree) → AreEntries (finished p a u v)
    at Top = one_in_range (entries.Answer v) f
    at (InLoop outer block number turn) = none_in_range
    at (InCall outer block caller turn) = brought_in_range p a v block caller lim n f
ended_in_range p a (Err why) lim n f = fault_in_range a why n

stored_in_range : (a : Activity) (r : Result CellOf FaultKind) (vs : ValueList) → IsName a → IsNamedCell r → AreValues vs → AreEntries (stored_in a r vs)
stored_in_range a (Ok cell) (structure ∷ index ∷ v ∷ vs) n c i = one_in_range (wrote cell a v) (c.0, c.1, n, i.1.1.0)
stored_in_range a (Ok cell) vs n c i = fault_in_range a faults.Kind n
stored_in_range a (Err why) vs n c i = fault_in_range a why n

-- what a statement of a program gives
pub given_in_range : (version : Version) (p : List BlockParts) (s : StatementParts) (a : Activity) (vs : ValueList) (write : Option Written) → IsProgram the_limits p → IsStatement the_limits s → IsName a → AreValues vs → IsWritten write → AreEntries (given version p s a vs write)
given_in_range version p s a vs write lim i n f w = at (is_apply s.kind) (is_end s.kind) (is_store s.kind)
  where
    at : (x y z : Bool) → AreEntries (cond x (called p a vs) (cond y (ended p a (first_of vs)) (cond z (stored a vs) (handed_on version s.kind a (list_of s.kind s vs) (result_of s.kind a vs write)))))
    at true y z = called_in_range p a vs n f
    at false true z = ended_in_range p a (first_of vs) lim n (first_made vs f)
    at false false true = stored_in_range a (cell_named vs) vs n (cell_in_range vs f) f
    at false false false = handed_in_range version s a vs (result_of s.kind a vs write) i n (result_made s.kind a vs write i.kind n f w)

replied_in_range : (a : Activity) (write : Option Written) → IsName a → IsWritten write → AreEntries (replied a write)
replied_in_range a None n w = none_in_range
replied_in_range a (Some x) n w = one_in_range (wrote (cell_of a 0) x.writer x.value) (n, record { within = omega arith }, w.0, w.1)

-- what a firing of a statement of a program gives
pub given_with_in_range : (version : Version) (p : List BlockParts) (s : StatementParts) (a : Activity) (vs : ValueList) (write : Option Written) → IsProgram the_limits p → IsStatement the_limits s → IsName a → AreValues vs → IsWritten write → AreEntries (given_with version p s a vs write)
given_with_in_range version p s a vs write lim i n f w = at (is_answer s.kind write)
  where
    at : (x : Bool) → AreEntries (cond x (replied a write) (given version p s a vs write))
    at true = replied_in_range a write n w
    at false = given_in_range version p s a vs write lim i n f w
