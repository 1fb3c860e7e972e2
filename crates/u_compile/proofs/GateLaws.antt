-- Gates of procedures under construction.
use Rattle.std.proofs.Common.{◌≡◌, ℕ, ◌+◌, ◌⊎◌, inl, inr, refl, sym, ap, ◌∙◌, subst, arith, Bool, List, [], ◌∷◌, ◌++◌, length}
use Rattle.std.proofs.lemmas.Bool.{cases_eq}
use Rattle.u_program.specs.declared.program.Kind.TheVariants.{Switch}
use Rattle.u_compile.specs.declared.graph.Link.{Link}
use Rattle.u_compile.specs.declared.graph.Output.{Output}
use Rattle.u_compile.specs.declared.drawing.Scope.{Scope}
use Rattle.u_compile.specs.declared.drawing.Gate.{Gate}
use Rattle.u_compile.specs.declared.drawing.Carried.{Carried}
use Rattle.u_compile.specs.Drafts.{DraftParts}
use Rattle.u_compile.specs.Scoped.{IsOf}
use Rattle.u_compile.specs.Placed.{PlacedParts, with_link}
use Rattle.u_compile.specs.Drawings.{feeders, DrawingParts, IsOfKind, IsFed, from_control, IsGate, IsDrawn, Grows, Adds, links_to, a_gate}
use Rattle.u_compile.proofs.DrawingLaws.{feeders_none, feeders_first, links_here, links_away, on_self, on_then, fed_kept, fed_by_kept, gate_kept}
use Rattle.u_compile.proofs.LeadLaws.{as_drawn, seen}

-- what is in both
pub of_append : {A : Type 0} (xs ys : List A) (x : A) → IsOf (xs ++ ys) x → IsOf xs x ⊎ IsOf ys x
of_append [] ys x h = inr h
of_append (y ∷ xs) ys x (inl e) = inl (inl e)
of_append (y ∷ xs) ys x (inr h) = elim (of_append xs ys x h) [ inl i ↦ inl (inr i) | inr i ↦ inr i ]

pub of_last : {A : Type 0} (xs : List A) (x : A) → IsOf (xs ++ (x ∷ [])) x
of_last [] x = inl refl
of_last (y ∷ xs) x = inr (of_last xs x)

-- with one gate more
pub drawn_gate : (ds : List DraftParts) (ls : List Link) (vs : List (List Output)) (gs : List Gate) (b : Bool) (g : Gate) → IsDrawn ds ls vs gs b → IsGate ds ls vs g → IsDrawn ds ls vs (gs ++ (g ∷ [])) b
drawn_gate ds ls vs gs b g is gate = record {
  there = is.there;
  fed = is.fed;
  gates = λ h m. elim (of_append gs (g ∷ []) h m) [ inl i ↦ is.gates h i | inr i ↦ last h i ];
}
  where
    last : (h : Gate) → IsOf (g ∷ []) h → IsGate ds ls vs h
    last h (inl e) = subst (IsGate ds ls vs) e gate
    last h (inr f) = absurd f

-- one output leads to port 2 of the last statement, a `switch`
control_drawn : (ds : List DraftParts) (ls : List Link) (vs : List (List Output)) (gs : List Gate) (b : Bool) (n : ℕ) (o : Output) → IsDrawn ds ls vs gs b → n ≡ length ds → IsOfKind ds n Switch → feeders n 2 ls ≡ [] → IsDrawn ds (ls ++ links_to n 2 (o ∷ [])) vs gs b
control_drawn ds ls vs gs b n o is at switch none =
    let ms = links_to n 2 (o ∷ []) in
    record {
      there = λ m port h. feeders_none m port ls ms (links_away m port n 2 (o ∷ []) (λ e. omega (arith, h, at, e.0))) ∙ is.there m port h;
      fed = λ e m port. by m port (cases_eq m n) (cases_eq port 2) (is.fed e m port);
      gates = λ g h. one g (is.gates g h) (cases_eq g.switch n);
    }
  where
    keep : (m port : ℕ) → ((n ≡ m) × (2 ≡ port) → ⊥) → IsFed ds ls vs m port → IsFed ds (ls ++ links_to n 2 (o ∷ [])) vs m port
    keep m port h fed = fed_kept ds ds ls (ls ++ links_to n 2 (o ∷ [])) vs vs m port (on_self ds) (on_self vs) (feeders_none m port ls (links_to n 2 (o ∷ [])) (links_away m port n 2 (o ∷ []) h)) fed

    here : (m port : ℕ) → m ≡ n → port ≡ 2 → IsFed ds (ls ++ links_to n 2 (o ∷ [])) vs m port
    here m port p q = subst (λ (k : ℕ). IsFed ds (ls ++ links_to n 2 (o ∷ [])) vs k port) (sym p) (from_control o switch q (subst (λ (k : ℕ). feeders n k (ls ++ links_to n 2 (o ∷ [])) ≡ o ∷ []) (sym q) (feeders_first n 2 ls (links_to n 2 (o ∷ [])) none ∙ links_here n 2 (o ∷ []))))

    by : (m port : ℕ) → (m ≡ n) ⊎ (m ≡ n → ⊥) → (port ≡ 2) ⊎ (port ≡ 2 → ⊥) → IsFed ds ls vs m port → IsFed ds (ls ++ links_to n 2 (o ∷ [])) vs m port
    by m port (inl p) (inl q) fed = here m port p q
    by m port (inl p) (inr q) fed = keep m port (λ e. q (sym e.1)) fed
    by m port (inr p) q fed = keep m port (λ e. p (sym e.0)) fed

    one : (g : Gate) → IsGate ds ls vs g → (g.switch ≡ n) ⊎ (g.switch ≡ n → ⊥) → IsGate ds (ls ++ links_to n 2 (o ∷ [])) vs g
    one g gate (inl p) = let e : g.control ∷ [] ≡ [] = sym gate.control ∙ (ap (λ (k : ℕ). feeders k 2 ls) p ∙ none) in cc
    one g gate (inr p) = gate_kept ds ds ls (ls ++ links_to n 2 (o ∷ [])) vs vs g (on_self ds) (on_self vs) (λ port. feeders_none g.switch port ls (links_to n 2 (o ∷ [])) (links_away g.switch port n 2 (o ∷ []) (λ e. p (sym e.0)))) gate

-- a `switch` was added to whose port 1 a value leads, and the control leads to port 2
pub switch_drawn : (d e : DrawingParts) (p q : PlacedParts) (scopes : List Scope) (vs : List (List Output)) (gs : List Gate) (carried : List Carried) (b : Bool) (o : Output) (v : ℕ) → Adds d e Switch (v ∷ []) → seen p scopes vs gs carried ≡ e → as_drawn p vs gs b → q ≡ with_link p o 2 → as_drawn q vs gs b
switch_drawn d e p q scopes vs gs carried b o v adds same is more =
    let a = subst (λ (f : DrawingParts). Adds d f Switch (v ∷ [])) (sym same) adds in
    let n = length d.statements + 1 in
    let at : n ≡ length p.graph.statements = sym a.one in
    let good = control_drawn p.graph.statements p.graph.links vs gs b n o is at a.stands (a.fed.1 2 (omega arith)) in
    subst (λ (r : PlacedParts). as_drawn r vs gs b) (sym more) (subst (λ (k : ℕ). IsDrawn p.graph.statements (p.graph.links ++ links_to k 2 (o ∷ [])) vs gs b) at good)

-- and that makes a gate
pub switch_gate : (d e : DrawingParts) (p q : PlacedParts) (scopes : List Scope) (vs : List (List Output)) (gs : List Gate) (carried : List Carried) (o : Output) (v n : ℕ) → Adds d e Switch (v ∷ []) → seen p scopes vs gs carried ≡ e → q ≡ with_link p o 2 → n ≡ length d.statements + 1 → IsGate q.graph.statements q.graph.links vs (a_gate o v n)
switch_gate d e p q scopes vs gs carried o v n adds same more number =
    let a = subst (λ (f : DrawingParts). Adds d f Switch (v ∷ [])) (sym same) adds in
    let k = length d.statements + 1 in
    let ls = p.graph.links in
    let ms = links_to k 2 (o ∷ []) in
    let good : IsGate p.graph.statements (ls ++ ms) vs (a_gate o v k) = record {
      switch = a.stands;
      value = fed_by_kept ls (ls ++ ms) vs vs k 1 v (on_self vs) (feeders_none k 1 ls ms (links_away k 1 k 2 (o ∷ []) (λ h. omega (arith, h.1)))) a.fed.0;
      control = feeders_first k 2 ls ms (a.fed.1 2 (omega arith)) ∙ links_here k 2 (o ∷ []);
    } in
    let moved : IsGate p.graph.statements (ls ++ links_to (length p.graph.statements) 2 (o ∷ [])) vs (a_gate o v k) = subst (λ (m : ℕ). IsGate p.graph.statements (ls ++ links_to m 2 (o ∷ [])) vs (a_gate o v k)) (sym a.one) good in
    subst (λ (m : ℕ). IsGate q.graph.statements q.graph.links vs (a_gate o v m)) (sym number) (subst (λ (r : PlacedParts). IsGate r.graph.statements r.graph.links vs (a_gate o v k)) (sym more) moved)

pub switch_grows : (d e : DrawingParts) (p q : PlacedParts) (scopes : List Scope) (vs : List (List Output)) (gs hs : List Gate) (carried : List Carried) (o : Output) (v : ℕ) → Adds d e Switch (v ∷ []) → seen p scopes vs gs carried ≡ e → q ≡ with_link p o 2 → Grows d (seen q scopes vs hs carried)
switch_grows d e p q scopes vs gs hs carried o v adds same more =
    let a = subst (λ (f : DrawingParts). Adds d f Switch (v ∷ [])) (sym same) adds in
    let k = length p.graph.statements in
    let ms = links_to k 2 (o ∷ []) in
    let good : Grows d (seen (with_link p o 2) scopes vs hs carried) = record {
      statements = a.grows.statements;
      links = on_then d.links p.graph.links (p.graph.links ++ ms) a.grows.links (ms, refl);
      scopes = a.grows.scopes;
      values = a.grows.values;
      carried = a.grows.carried;
      opened = a.grows.opened;
      places = a.grows.places;
      fed = λ n port h. feeders_none n port p.graph.links ms (links_away n port k 2 (o ∷ []) (λ f. omega (arith, h, f.0, a.one))) ∙ a.grows.fed n port h;
    } in
    subst (λ (r : PlacedParts). Grows d (seen r scopes vs hs carried)) (sym more) good
