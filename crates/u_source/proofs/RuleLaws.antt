-- What holds of every rule that a step may choose.
use Rattle.std.proofs.Common.{◌≡◌, ℕ, Bool, true, false, cond, List, [], ◌∷◌, ◌++◌, Option, Some, None, Ok, Err, refl, ap, subst}
use Rattle.u_source.specs.declared.choosing.Placed.{Placed}
use Rattle.u_source.specs.declared.choosing.Step.{Step}
use Rattle.u_source.specs.declared.form.Form.{Form}
use Rattle.u_source.specs.declared.form.Node.{Node}
use Rattle.u_source.specs.declared.part.Fallback.{Fallback}
use Rattle.u_source.specs.declared.part.Fallback.TheVariants as fallback
use Rattle.u_source.specs.declared.part.Kind.{Kind}
use Rattle.u_source.specs.declared.part.Kind.TheVariants as kind
use Rattle.u_source.specs.declared.part.Outcome.{Outcome}
use Rattle.u_source.specs.declared.part.Outcome.TheVariants as outcome
use Rattle.u_source.specs.declared.part.Part.{Part}
use Rattle.u_source.specs.declared.part.Row.{Row}
use Rattle.u_source.specs.declared.part.Stop.{Stop}
use Rattle.u_source.specs.declared.rule.Rule.{Rule}
use Rattle.u_source.specs.declared.rule.Rule.TheVariants as rule
use Rattle.u_source.specs.declared.rule.Symbol.{Symbol}
use Rattle.u_source.specs.declared.rule.Symbol.TheVariants as symbol
use Rattle.u_source.specs.Choosing.{is_kind, outcome_among, chosen, goes, step_by_fallback, step_by, symbol_step}
use Rattle.u_source.specs.Derivations.{all_placed}
use Rattle.u_source.specs.Parts.{rows, otherwise}
use Rattle.u_source.specs.Rules.{symbols}
use Rattle.u_source.proofs.Measure.{well, well_once}

-- a property of the rules of a part
abbrev pub OutcomeHas : (Part → Rule → Type 0) → Part → Outcome → Type 0
OutcomeHas P x (outcome.Goes r) = P x r
OutcomeHas P x (outcome.Stops s) = Unit {0}

abbrev pub RowsHave : (Part → Rule → Type 0) → Part → List Row → Type 0
RowsHave P x [] = Unit {0}
RowsHave P x (r ∷ rs) = OutcomeHas P x r.outcome × RowsHave P x rs

abbrev pub FallbackHas : (Part → Rule → Type 0) → Part → Fallback → Type 0
FallbackHas P x (fallback.Goes r) = P x r
FallbackHas P x (fallback.Wants e) = Unit {0}

among_has : (P : Part → Rule → Type 0) (b : Bool) (x : Part) (o p : Outcome) (rest : Option Outcome) → cond b (Some o) rest ≡ Some p → OutcomeHas P x o → (rest ≡ Some p → OutcomeHas P x p) → OutcomeHas P x p
among_has P true x o p rest h f more = let same : o ≡ p = cc in subst (OutcomeHas P x) same f
among_has P false x o p rest h f more = more h

chosen_has : (P : Part → Rule → Type 0) (x : Part) (rs : List Row) (k : Kind) (o : Outcome) → RowsHave P x rs → outcome_among rs k ≡ Some o → OutcomeHas P x o
chosen_has P x [] k o f h = cc
chosen_has P x (r ∷ rs) k o f h = among_has P (is_kind r.kind k) x r.outcome o (outcome_among rs k) h f.0 (chosen_has P x rs k o f.1)

-- a step at a part chooses a rule of it
abbrev pub PartMoves : (Part → Rule → Type 0) → Part → Step → Type 0
PartMoves P x m = P x m.rule × (m.made ≡ None)

-- what a step does with a symbol
abbrev pub Moves : (Part → Rule → Type 0) → Symbol → Step → Type 0
Moves P (symbol.Sign s) m = (symbols m.rule ≡ []) × (m.made ≡ None)
Moves P (symbol.Part x) m = PartMoves P x m
Moves P (symbol.Inner x) m = PartMoves P x m
Moves P (symbol.Make f) m = (symbols m.rule ≡ []) × ((n : Node) × (m.made ≡ Some n) × (n.form ≡ f))

goes_moves : (P : Part → Rule → Type 0) (n : ℕ) (x : Part) (r : Rule) (m : Step) → P x r → goes n r ≡ well m → PartMoves P x m
goes_moves P n x r m f h =
    let same : record { taken = n; rule = r; made = None } ≡ m = well_once (record { taken = n; rule = r; made = None }) m h in
    subst (PartMoves P x) same (f, refl)

taken_moves : (P : Part → Rule → Type 0) (b : Bool) (x : Part) (r : Rule) (stop : Stop) (m : Step) → P x r → cond b (Err stop) (goes 1 r) ≡ well m → PartMoves P x m
taken_moves P true x r stop m f h = cc
taken_moves P false x r stop m f h = goes_moves P 1 x r m f h

fallback_moves : (P : Part → Rule → Type 0) (f : Fallback) (x : Part) (m : Step) → FallbackHas P x f → step_by_fallback f ≡ well m → PartMoves P x m
fallback_moves P (fallback.Goes r) x m f h = goes_moves P 0 x r m f h
fallback_moves P (fallback.Wants e) x m f h = cc

part_moves : (P : Part → Rule → Type 0) → ((x : Part) → RowsHave P x (rows x)) → ((x : Part) → FallbackHas P x (otherwise x)) → (o : Option Outcome) (x : Part) (room : ℕ) (k : Kind) (m : Step) → chosen x k ≡ o → step_by o x room ≡ well m → PartMoves P x m
part_moves P rf ff (Some (outcome.Goes r)) x room k m e h = taken_moves P _ x r _ m (chosen_has P x (rows x) k (outcome.Goes r) (rf x) e) h
part_moves P rf ff (Some (outcome.Stops stop)) x room k m e h = cc
part_moves P rf ff None x room k m e h = fallback_moves P (otherwise x) x m (ff x) h

sign_moves : (b : Bool) (stop : Stop) (m : Step) → cond b (goes 1 rule.Nothing) (Err stop) ≡ well m → (symbols m.rule ≡ []) × (m.made ≡ None)
sign_moves true stop m h =
    let same : record { taken = 1; rule = rule.Nothing; made = None } ≡ m = well_once (record { taken = 1; rule = rule.Nothing; made = None }) m h in
    subst (λ x. (symbols x.rule ≡ []) × (x.made ≡ None)) same (refl, refl)
sign_moves false stop m h = cc

make_moves : (P : Part → Rule → Type 0) (f : Form) (at : ℕ) (m : Step) → well (record { taken = 0; rule = rule.Nothing; made = Some (record { form = f; token = at }) }) ≡ well m → Moves P (symbol.Make f) m
make_moves P f at m h =
    let n : Node = record { form = f; token = at } in
    let same : record { taken = 0; rule = rule.Nothing; made = Some n } ≡ m = well_once (record { taken = 0; rule = rule.Nothing; made = Some n }) m h in
    subst (Moves P (symbol.Make f)) same (refl, (n, refl, refl))

-- what holds of all rules of all parts holds of the rule that a step chooses
pub step_moves : (P : Part → Rule → Type 0) → ((x : Part) → RowsHave P x (rows x)) → ((x : Part) → FallbackHas P x (otherwise x)) → (s : Symbol) (at room : ℕ) (k : Kind) (m : Step) → symbol_step s at room k ≡ Ok m → Moves P s m
step_moves P rf ff (symbol.Sign mk) at room k m h = sign_moves (is_kind (kind.Sign mk) k) _ m h
step_moves P rf ff (symbol.Part x) at room k m h = part_moves P rf ff (chosen x k) x room k m refl h
step_moves P rf ff (symbol.Inner x) at room k m h = part_moves P rf ff (chosen x k) x room k m refl h
step_moves P rf ff (symbol.Make f) at room k m h = make_moves P f at m h

abbrev pub symbols_of : List Placed → List Symbol
symbols_of [] = []
symbols_of (s ∷ ss) = s.symbol ∷ symbols_of ss

pub placed_symbols : (n room : ℕ) (ss : List Symbol) (others : List Placed) → symbols_of (all_placed n room ss ++ others) ≡ ss ++ symbols_of others
placed_symbols n room [] others = refl
placed_symbols n room (s ∷ ss) others = ap (λ x. s ∷ x) (placed_symbols n room ss others)

-- a step that takes so many tokens, by this rule
abbrev pub done : ℕ → Rule → Step
done n r = record { taken = n; rule = r; made = None }
