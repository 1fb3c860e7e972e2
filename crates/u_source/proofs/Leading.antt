-- Steps of a derivation, one behind another.
use Rattle.std.proofs.Common.{◌≡◌, ◌≢◌, ℕ, zero, suc, ◌+◌, ◌-◌, ◌<◌, ◌≤◌, List, [], ◌∷◌, ◌++◌, length, drop, length-drop, append_assoc, Ok, refl, sym, ◌∙◌, ap, subst, arith, option_to_list}
use Rattle.std.proofs.lemmas.List.{append-nil, drop-drop}
use Rattle.u_source.specs.declared.choosing.Placed.{Placed}
use Rattle.u_source.specs.declared.choosing.Step.{Step}
use Rattle.u_source.specs.declared.form.Node.{Node}
use Rattle.u_source.specs.declared.parsing.Parser.{Parser}
use Rattle.u_source.specs.Choosing.{step_of}
use Rattle.u_source.specs.Derivations.{Point, point, kind_next, all_placed, after, made_by, Goes, Leads, start, IsStuckAt}
use Rattle.u_source.specs.Progress.{place_in, Follows}
use Rattle.u_source.specs.Rules.{symbols}
use Rattle.u_source.specs.declared.mark.Mark.TheVariants as mark
use Rattle.u_source.specs.declared.part.Stop.TheVariants.{Wants}
use Rattle.u_source.specs.declared.source_error.Expected.TheVariants as expected
use Rattle.u_source.specs.Tokens.{TokenParts}
use Rattle.u_source.proofs.Measure.{left_to_do, stack_weighs, symbols_weigh, Shrinks, step_shrinks, taken_there, placed_weigh}

-- one step more
pub leads_more : (n : ℕ) (p : Point) (made : List Node) (q : Point) (first : List Node) (r : Point) → Leads n p made q → Goes q first r → Leads (suc n) p (made ++ first) r
leads_more zero p made q first r h g =
    let g' : Goes p first r = subst (λ x. Goes x first r) h.0 g in
    (r, first, [], g', (refl, refl), ap (λ x. x ++ first) h.1 ∙ sym (append-nil first))
leads_more (suc n) p made q first r h g =
    let rest : Leads (suc n) h.0 (h.2 ++ first) r = leads_more n h.0 h.2 q first r h.4 g in
    (h.0, h.1, h.2 ++ first, h.3, rest, ap (λ x. x ++ first) h.5 ∙ append_assoc h.1 h.2 first)

same_point : (ss ss' : List Placed) (n n' : ℕ) (ts ts' : List TokenParts) → ss ≡ ss' → n ≡ n' → ts ≡ ts' → point ss n ts ≡ point ss' n' ts'
same_point ss ss' n n' ts ts' a b c = ap (λ x. point x n ts) a ∙ ap (λ x. point ss' x ts) b ∙ ap (λ x. point ss' n' x) c

-- a step takes no more tokens than there are
pub takes_inside : (ts : List TokenParts) (n : ℕ) (top : Placed) (m : Step) → step_of top (kind_next (drop n ts)) ≡ Ok m → m.taken ≤ length ts - n
takes_inside ts n top m h =
    let s : Shrinks top.symbol (kind_next (drop n ts)) m = step_shrinks top.symbol top.at top.room (kind_next (drop n ts)) m h in
    omega (arith, taken_there (drop n ts) m.taken s.there, length-drop n ts)

-- the parser that has put the right side of the rule in front took the step
pub follows : (ts : List TokenParts) (top : Placed) (old new : Parser) (m : Step) → step_of top (kind_next (drop old.number ts)) ≡ Ok m → new.stack.items ≡ all_placed old.number top.room (symbols m.rule) ++ old.stack.items → new.nodes.items ≡ old.nodes.items ++ option_to_list m.made → new.number ≡ old.number + m.taken → old.number ≤ length ts → Follows ts top old new
follows ts top old new m h stack nodes number inside =
    let rest : drop new.number ts ≡ drop m.taken (drop old.number ts) = ap (λ x. drop x ts) number ∙ sym (drop-drop m.taken old.number ts) in
    let next : place_in ts new.stack.items new.number ≡ after m (place_in ts (top ∷ old.stack.items) old.number) = same_point _ _ _ _ _ _ stack number rest in
    record { made = made_by m; goes = record { step = m; there = h; next = next; makes = refl }; nodes = nodes; inside = omega (arith, number, inside, takes_inside ts old.number top m h) }

-- with each step less is left to do
pub follows_less : (ts : List TokenParts) (top : Placed) (old new : Parser) → Follows ts top old new → left_to_do new.stack.items (length ts - new.number) < left_to_do (top ∷ old.stack.items) (length ts - old.number)
follows_less ts top old new f =
    let m : Step = f.goes.step in
    let h : step_of top (kind_next (drop old.number ts)) ≡ Ok m = f.goes.there in
    let s : Shrinks top.symbol (kind_next (drop old.number ts)) m = step_shrinks top.symbol top.at top.room (kind_next (drop old.number ts)) m h in
    let stack : new.stack.items ≡ all_placed old.number top.room (symbols m.rule) ++ old.stack.items = ap (λ x. x.symbols) f.goes.next in
    let number : new.number ≡ old.number + m.taken = ap (λ x. x.number) f.goes.next in
    let weighs : stack_weighs new.stack.items ≡ symbols_weigh (symbols m.rule) + stack_weighs old.stack.items = ap stack_weighs stack ∙ placed_weigh old.number top.room (symbols m.rule) old.stack.items in
    omega (arith, weighs, number, s.lighter, takes_inside ts old.number top m h)

-- the same where the symbol that stood first was taken from the others
pub popped_less : (ts : List TokenParts) (top : Placed) (old new : Parser) (stack : List Placed) → stack ≡ top ∷ old.stack.items → Follows ts top old new → left_to_do new.stack.items (length ts - new.number) < left_to_do stack (length ts - old.number)
popped_less ts top old new stack e f = subst (λ x. left_to_do new.stack.items (length ts - new.number) < left_to_do x (length ts - old.number)) (sym e) (follows_less ts top old new f)

pub popped_leads : (ts : List TokenParts) (top : Placed) (old new : Parser) (stack : List Placed) (n : ℕ) (p : Point) → stack ≡ top ∷ old.stack.items → Leads n p old.nodes.items (place_in ts stack old.number) → Follows ts top old new → Leads (suc n) p new.nodes.items (place_in ts new.stack.items new.number)
popped_leads ts top old new stack n p e h f =
    let before : Leads n p old.nodes.items (place_in ts (top ∷ old.stack.items) old.number) = subst (λ x. Leads n p old.nodes.items (place_in ts x old.number)) e h in
    let more : Leads (suc n) p (old.nodes.items ++ f.made) (place_in ts new.stack.items new.number) = leads_more n p old.nodes.items (place_in ts (top ∷ old.stack.items) old.number) f.made (place_in ts new.stack.items new.number) before f.goes in
    subst (λ x. Leads (suc n) p x (place_in ts new.stack.items new.number)) (sym f.nodes) more

some_left : (ts : List TokenParts) (n : ℕ) → n < length ts → drop n ts ≢ []
some_left ts n l e = omega (arith, l, length-drop n ts, ap length e)

-- where no symbol is left and a token stands next, nothing goes on
pub stuck_behind : (ts : List TokenParts) (stack : List Placed) (n steps : ℕ) (made : List Node) → stack ≡ [] → n < length ts → Leads steps (start ts) made (place_in ts stack n) → IsStuckAt ts n (Wants (expected.Mark mark.Def))
stuck_behind ts stack n steps made e l h =
    record {
      steps = steps;
      made = made;
      symbols = [];
      leads = subst (λ x. Leads steps (start ts) made (place_in ts x n)) e h;
      stuck = refl;
      unfinished = λ _. some_left ts n l;
    }
