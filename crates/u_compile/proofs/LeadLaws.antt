-- Links from values to ports, when they are led one by one.
use Rattle.std.proofs.Common.{◌≡◌, ℕ, ◌+◌, refl, sym, ap, ◌∙◌, subst, Bool, true, List, [], ◌∷◌, ◌++◌, length, Some, append_assoc, length-append}
use Rattle.std.specs.Prelude.{get_or}
use Rattle.std.proofs.lemmas.List.{append-nil, map-append}
use Rattle.u_compile.specs.declared.graph.Link.{Link}
use Rattle.u_compile.specs.declared.graph.Output.{Output}
use Rattle.u_compile.specs.declared.drawing.Scope.{Scope}
use Rattle.u_compile.specs.declared.drawing.Gate.{Gate}
use Rattle.u_compile.specs.declared.drawing.Carried.{Carried}
use Rattle.u_compile.specs.Drafts.{DraftParts}
use Rattle.u_compile.specs.Graphs.{graph, draft_at}
use Rattle.u_compile.specs.Scoped.{GuardedRegionParts}
use Rattle.u_compile.specs.Placed.{PlacedParts, NoteParts, note, places_of, with_link, with_statement}
use Rattle.u_compile.specs.Drawings.{DrawingParts, drawing, from_nothing, IsDrawn, Adds, links_to, input_links, AreValues, OnlyTo, with_links, LeadsOn}
use Rattle.u_compile.proofs.Numbers.{at_last}
use Rattle.u_compile.proofs.DrawingLaws.{only_links, only_both, drawn_inputs, drawn_broken, adds_inputs}

no_more : (p : PlacedParts) → with_links p [] ≡ p
no_more p = ap (λ (ls : List Link). record p { graph = graph p.graph.loops p.graph.statements ls }) (append-nil p.graph.links)

more_links : (p : PlacedParts) (ls ms : List Link) → with_links (with_links p ls) ms ≡ with_links p (ls ++ ms)
more_links p ls ms = ap (λ (v : List Link). record p { graph = graph p.graph.loops p.graph.statements v }) (append_assoc p.graph.links ls ms)

pub leads_self : (p : PlacedParts) → LeadsOn p p
leads_self p = record { more = []; is = sym (no_more p); only = λ m q h. refl }

pub leads_then : (p q r : PlacedParts) → LeadsOn p q → LeadsOn q r → LeadsOn p r
leads_then p q r a b =
    let same : length q.graph.statements ≡ length p.graph.statements = ap (λ (v : PlacedParts). length v.graph.statements) a.is in
    record {
      more = a.more ++ b.more;
      is = b.is ∙ (ap (λ (v : PlacedParts). with_links v b.more) a.is ∙ more_links p a.more b.more);
      only = only_both (length p.graph.statements) a.more b.more a.only (subst (λ (n : ℕ). OnlyTo n b.more) same b.only);
    }

pub leads_one : (p q : PlacedParts) (o : Output) (port : ℕ) → q ≡ with_link p o port → LeadsOn p q
leads_one p q o port e = record { more = links_to (length p.graph.statements) port (o ∷ []); is = e; only = only_links (length p.graph.statements) port (o ∷ []) }

pub leads_many : (p q : PlacedParts) (os : List Output) (port : ℕ) → q ≡ with_links p (links_to (length p.graph.statements) port os) → LeadsOn p q
leads_many p q os port e = record { more = links_to (length p.graph.statements) port os; is = e; only = only_links (length p.graph.statements) port os }

-- as many statements
leads_length : (p q : PlacedParts) → LeadsOn p q → length q.graph.statements ≡ length p.graph.statements
leads_length p q a = ap (λ (v : PlacedParts). length v.graph.statements) a.is

-- the first output and then the others
pub lead_step : (g p q : PlacedParts) (o : Output) (os rest : List Output) (port : ℕ) → LeadsOn g p → q ≡ with_link p o port → rest ≡ o ∷ os → with_links q (links_to (length g.graph.statements) port os) ≡ with_links p (links_to (length g.graph.statements) port rest)
lead_step g p q o os rest port on e r =
    let n = length g.graph.statements in
    let one : q ≡ with_links p (links_to n port (o ∷ [])) = e ∙ ap (λ (m : ℕ). with_links p (links_to m port (o ∷ []))) (leads_length g p on) in
    ap (λ (v : PlacedParts). with_links v (links_to n port os)) one
    ∙ (more_links p (links_to n port (o ∷ [])) (links_to n port os) ∙ ap (λ (v : List Output). with_links p (links_to n port v)) (sym r))

-- the first value and then the others
pub value_step : (g p q : PlacedParts) (vs : List (List Output)) (v : ℕ) (others rest : List ℕ) (port : ℕ) → LeadsOn g p → q ≡ with_links p (links_to (length p.graph.statements) port (get_or vs v [])) → rest ≡ v ∷ others → with_links q (input_links vs (length g.graph.statements) (port + 1) others) ≡ with_links p (input_links vs (length g.graph.statements) port rest)
value_step g p q vs v others rest port on e r =
    let n = length g.graph.statements in
    let one : q ≡ with_links p (links_to n port (get_or vs v [])) = e ∙ ap (λ (m : ℕ). with_links p (links_to m port (get_or vs v []))) (leads_length g p on) in
    ap (λ (w : PlacedParts). with_links w (input_links vs n (port + 1) others)) one
    ∙ (more_links p (links_to n port (get_or vs v [])) (input_links vs n (port + 1) others) ∙ ap (λ (w : List ℕ). with_links p (input_links vs n port w)) (sym r))

-- when nothing is left
pub lead_end : (g p : PlacedParts) (port : ℕ) (rest os : List Output) → rest ≡ [] → with_links p (links_to (length g.graph.statements) port rest) ≡ with_links g (links_to (length g.graph.statements) port os) → p ≡ with_links g (links_to (length g.graph.statements) port os)
lead_end g p port rest os r e = sym (no_more p) ∙ (ap (λ (v : List Output). with_links p (links_to (length g.graph.statements) port v)) (sym r) ∙ e)

pub value_end : (g p : PlacedParts) (vs : List (List Output)) (port : ℕ) (rest ins : List ℕ) → rest ≡ [] → with_links p (input_links vs (length g.graph.statements) port rest) ≡ with_links g (input_links vs (length g.graph.statements) 1 ins) → p ≡ with_links g (input_links vs (length g.graph.statements) 1 ins)
value_end g p vs port rest ins r e = sym (no_more p) ∙ (ap (λ (v : List ℕ). with_links p (input_links vs (length g.graph.statements) port v)) (sym r) ∙ e)

-- a procedure whose statements and links these are
abbrev pub as_drawn : PlacedParts → List (List Output) → List Gate → Bool → Type 0
as_drawn p vs gs b = IsDrawn p.graph.statements p.graph.links vs gs b

last_is : (p q : PlacedParts) (x : DraftParts) (at : GuardedRegionParts) (c u : ℕ) → q ≡ with_statement p x at c u → length q.graph.statements ≡ length p.graph.statements + 1
last_is p q x at c u e = ap (λ (v : PlacedParts). length v.graph.statements) e ∙ length-append p.graph.statements (x ∷ [])

linked_is : (p q r : PlacedParts) (x : DraftParts) (at : GuardedRegionParts) (c u : ℕ) (ms : List Link) → q ≡ with_statement p x at c u → r ≡ with_links q ms → r ≡ with_links (with_statement p x at c u) ms
linked_is p q r x at c u ms e f = f ∙ ap (λ (v : PlacedParts). with_links v ms) e

-- a statement is put, and nothing leads to it yet
pub put_drawn : (p q : PlacedParts) (x : DraftParts) (at : GuardedRegionParts) (c u : ℕ) (vs : List (List Output)) (gs : List Gate) (b : Bool) → as_drawn p vs gs b → q ≡ with_statement p x at c u → as_drawn q vs gs b
put_drawn p q x at c u vs gs b is e =
    let base = drawn_inputs p.graph.statements p.graph.links vs gs b is x [] tt in
    subst (λ (v : PlacedParts). as_drawn v vs gs b) (sym e) (subst (λ (ls : List Link). IsDrawn (p.graph.statements ++ (x ∷ [])) ls vs gs b) (append-nil p.graph.links) base)

-- a statement is put, and a part of what should lead to it does
pub part_drawn : (p q r : PlacedParts) (x : DraftParts) (at : GuardedRegionParts) (c u : ℕ) (vs : List (List Output)) (gs : List Gate) (b : Bool) → as_drawn p vs gs b → q ≡ with_statement p x at c u → LeadsOn q r → as_drawn r vs gs true
part_drawn p q r x at c u vs gs b is e on =
    let only : OnlyTo (length p.graph.statements + 1) on.more = subst (λ (n : ℕ). OnlyTo n on.more) (last_is p q x at c u e) on.only in
    subst (λ (v : PlacedParts). as_drawn v vs gs true) (sym (linked_is p q r x at c u on.more e on.is)) (drawn_broken p.graph.statements p.graph.links vs gs b is x on.more only)

whole : (p q r : PlacedParts) (x : DraftParts) (at : GuardedRegionParts) (c u : ℕ) (vs : List (List Output)) (ins : List ℕ) → q ≡ with_statement p x at c u → r ≡ with_links q (input_links vs (length q.graph.statements) 1 ins) → r ≡ with_links (with_statement p x at c u) (input_links vs (length p.graph.statements + 1) 1 ins)
whole p q r x at c u vs ins e f =
    linked_is p q r x at c u (input_links vs (length p.graph.statements + 1) 1 ins) e (f ∙ ap (λ (n : ℕ). with_links q (input_links vs n 1 ins)) (last_is p q x at c u e))

-- a statement is put, and those values lead to it
pub all_drawn : (p q r : PlacedParts) (x : DraftParts) (at : GuardedRegionParts) (c u : ℕ) (vs : List (List Output)) (gs : List Gate) (b : Bool) (ins : List ℕ) → as_drawn p vs gs b → q ≡ with_statement p x at c u → r ≡ with_links q (input_links vs (length q.graph.statements) 1 ins) → AreValues vs ins → as_drawn r vs gs b
all_drawn p q r x at c u vs gs b ins is e f all =
    subst (λ (v : PlacedParts). as_drawn v vs gs b) (sym (whole p q r x at c u vs ins e f)) (drawn_inputs p.graph.statements p.graph.links vs gs b is x ins all)

abbrev pub seen : PlacedParts → List Scope → List (List Output) → List Gate → List Carried → DrawingParts
seen p scopes vs gs carried = drawing p.graph.statements p.graph.links scopes vs gs carried (places_of p)

places_more : (p : PlacedParts) (x : DraftParts) (at : GuardedRegionParts) (c u : ℕ) → places_of (with_statement p x at c u) ≡ places_of p ++ (at ∷ [])
places_more p x at c u = map-append (λ (n : NoteParts). n.place) p.notes (note at c ∷ [])

pub all_added : (p q r : PlacedParts) (x : DraftParts) (at : GuardedRegionParts) (c u : ℕ) (scopes : List Scope) (vs : List (List Output)) (gs : List Gate) (carried : List Carried) (b : Bool) (ins : List ℕ) (d : DrawingParts) → as_drawn p vs gs b → q ≡ with_statement p x at c u → r ≡ with_links q (input_links vs (length q.graph.statements) 1 ins) → AreValues vs ins → seen p scopes vs gs carried ≡ d → Adds d (seen r scopes vs gs carried) x.kind ins
all_added p q r x at c u scopes vs gs carried b ins d is e f all same =
    subst (λ (v : DrawingParts). Adds v (seen r scopes vs gs carried) x.kind ins) same
    (subst (λ (v : PlacedParts). Adds (seen p scopes vs gs carried) (seen v scopes vs gs carried) x.kind ins) (sym (whole p q r x at c u vs ins e f))
    (subst (λ (ps : List GuardedRegionParts). Adds (seen p scopes vs gs carried) (drawing (p.graph.statements ++ (x ∷ [])) (p.graph.links ++ input_links vs (length p.graph.statements + 1) 1 ins) scopes vs gs carried ps) x.kind ins) (sym (places_more p x at c u))
    (adds_inputs (seen p scopes vs gs carried) gs b is x at ins all)))

-- and in the place where it was put
pub all_placed : (p q r : PlacedParts) (x : DraftParts) (at : GuardedRegionParts) (c u : ℕ) (scopes : List Scope) (vs : List (List Output)) (gs : List Gate) (carried : List Carried) (ins : List ℕ) (d : DrawingParts) → q ≡ with_statement p x at c u → r ≡ with_links q (input_links vs (length q.graph.statements) 1 ins) → seen p scopes vs gs carried ≡ d → places_of r ≡ d.places ++ (at ∷ [])
all_placed p q r x at c u scopes vs gs carried ins d e f same =
    ap (λ (v : PlacedParts). places_of v) (whole p q r x at c u vs ins e f)
    ∙ (places_more p x at c u ∙ ap (λ (v : DrawingParts). v.places ++ (at ∷ [])) same)

-- it stands as it was put
pub all_stands : (p q r : PlacedParts) (x : DraftParts) (at : GuardedRegionParts) (c u : ℕ) (scopes : List Scope) (vs : List (List Output)) (gs : List Gate) (carried : List Carried) (ins : List ℕ) (d : DrawingParts) → q ≡ with_statement p x at c u → r ≡ with_links q (input_links vs (length q.graph.statements) 1 ins) → seen p scopes vs gs carried ≡ d → draft_at r.graph.statements (length d.statements + 1) ≡ Some x
all_stands p q r x at c u scopes vs gs carried ins d e f same =
    subst (λ (v : DrawingParts). draft_at r.graph.statements (length v.statements + 1) ≡ Some x) same
    (subst (λ (v : PlacedParts). draft_at v.graph.statements (length p.graph.statements + 1) ≡ Some x) (sym (whole p q r x at c u vs ins e f)) (at_last p.graph.statements x))

-- at the beginning nothing leads anywhere
pub new_drawn : (p : PlacedParts) (vs : List (List Output)) (gs : List Gate) (b : Bool) → p.graph.statements ≡ [] → p.graph.links ≡ [] → gs ≡ [] → as_drawn p vs gs b
new_drawn p vs gs b statements links gates =
    subst (λ (ds : List DraftParts). IsDrawn ds p.graph.links vs gs b) (sym statements) (subst (λ (ls : List Link). IsDrawn [] ls vs gs b) (sym links) (subst (λ (hs : List Gate). IsDrawn [] [] vs hs b) (sym gates) none))
  where
    none : IsDrawn [] [] vs [] b
    none = record { there = λ n port h. refl; fed = λ e n port. from_nothing refl; gates = λ g h. absurd h }

-- what has the same statements and links is drawn alike
pub same_drawn : (p q : PlacedParts) (vs : List (List Output)) (gs : List Gate) (b : Bool) → q.graph.statements ≡ p.graph.statements → q.graph.links ≡ p.graph.links → as_drawn p vs gs b → as_drawn q vs gs b
same_drawn p q vs gs b statements links is =
    subst (λ (ds : List DraftParts). IsDrawn ds q.graph.links vs gs b) (sym statements) (subst (λ (ls : List Link). IsDrawn p.graph.statements ls vs gs b) (sym links) is)
