-- What stands before the token where a derivation is stuck begins some source.
use Rattle.std.proofs.Common.{◌≡◌, ℕ, zero, suc, ◌+◌, ◌<◌, ◌≤◌, ◌==◌, Bool, true, false, cond, ◌&&◌, List, [], ◌∷◌, ◌++◌, length, take, drop, Option, Some, None, Ok, Err, refl, sym, ◌∙◌, ap, subst, inl, inr, append_assoc, length-append, arith, lit<}
use Rattle.std.proofs.lemmas.List.{take-append-drop, length-take-le}
use Rattle.std.proofs.Math.Seq.{take-append_seam}
use Rattle.u_source.specs.declared.choosing.Placed.{Placed}
use Rattle.u_source.specs.declared.choosing.Step.{Step}
use Rattle.u_source.specs.declared.form.Form.{Form}
use Rattle.u_source.specs.declared.form.Node.{Node}
use Rattle.u_source.specs.declared.mark.Mark.{Mark}
use Rattle.u_source.specs.declared.part.Fallback.TheVariants as fallback
use Rattle.u_source.specs.declared.part.Kind.{Kind}
use Rattle.u_source.specs.declared.part.Kind.TheVariants as kind
use Rattle.u_source.specs.declared.part.Outcome.{Outcome}
use Rattle.u_source.specs.declared.part.Outcome.TheVariants as outcome
use Rattle.u_source.specs.declared.part.Part.{Part}
use Rattle.u_source.specs.declared.part.Stop.{Stop}
use Rattle.u_source.specs.declared.part.Stop.TheVariants.{Wants, TooDeep}
use Rattle.u_source.specs.declared.source_error.Expected.TheVariants as expected
use Rattle.u_source.specs.declared.rule.Rule.{Rule}
use Rattle.u_source.specs.declared.rule.Rule.TheVariants as rule
use Rattle.u_source.specs.declared.rule.Symbol.{Symbol}
use Rattle.u_source.specs.declared.rule.Symbol.TheVariants as symbol
use Rattle.u_source.specs.declared.token.Word.{Word}
use Rattle.u_source.specs.declared.token.Word.TheVariants as word
use Rattle.u_source.specs.Choosing.{chosen, deepens, goes, step_by_fallback, step_by, part_step, symbol_step}
use Rattle.u_source.specs.Derivations.{Point, point, kind_of, kind_next, all_placed, step_at, step_from, after, made_by, Goes, Leads, start, ended, IsStuckAt, SomeBegins}
use Rattle.u_source.specs.Parts.{otherwise}
use Rattle.u_source.specs.Places as places
use Rattle.u_source.specs.Rules.{symbols, a}
use Rattle.u_source.specs.Tokens.{TokenParts, token}
use Rattle.u_source.proofs.OnlyOne.{with_rest, same_go, step_fits, front_of}
use Rattle.u_source.proofs.RuleLaws.{done, Moves, step_moves, symbols_of, placed_symbols}
use Rattle.u_source.proofs.Soonest.{shortest, opens, first_of, steps_of, or_first, first_by, first_in, steps_by, steps_in, behind}
use Rattle.u_source.proofs.Soonest.{members, within, Among, within_members, follow_ok, good_in, all_good, RuleGood, rows_good, fallback_good}
use Rattle.u_source.proofs.Soonest.{shortest_good, steps_less, none_chosen, Opens, opened, same_mark}

both : (b c : Bool) → b && c ≡ true → (b ≡ true) × (c ≡ true)
both true true h = (refl, refl)
both true false h = cc
both false c h = cc

join : (b c : Bool) → b ≡ true → c ≡ true → b && c ≡ true
join b c h k = ap (λ x. x && c) h ∙ ap (λ x. true && x) k

first_append : (xs ys : List Symbol) (k : Kind) → first_in (xs ++ ys) k ≡ first_in xs (first_in ys k)
first_append [] ys k = refl
first_append (x ∷ xs) ys k = ap (first_by x) (first_append xs ys k)

good_append : (xs ys : List Symbol) (k : Kind) → good_in xs (first_in ys k) ≡ true → good_in ys k ≡ true → good_in (xs ++ ys) k ≡ true
good_append [] ys k h g = g
good_append (x ∷ xs) ys k h g =
    let b : (follow_ok x (first_in xs (first_in ys k)) ≡ true) × (good_in xs (first_in ys k) ≡ true) = both (follow_ok x (first_in xs (first_in ys k))) (good_in xs (first_in ys k)) h in
    join (follow_ok x (first_in (xs ++ ys) k)) (good_in (xs ++ ys) k) (ap (follow_ok x) (first_append xs ys k) ∙ b.0) (good_append xs ys k b.1 g)

good_among : (ss : List Symbol) (k : Kind) (ks : List Kind) → all_good ss ks ≡ true → Among k ks → good_in ss k ≡ true
good_among ss k [] h m = absurd m
good_among ss k (j ∷ js) h (inl e) = ap (good_in ss) e ∙ (both (good_in ss j) (all_good ss js) h).0
good_among ss k (j ∷ js) h (inr m) = good_among ss k js (both (good_in ss j) (all_good ss js) h).1 m

abbrev Good : List Placed → Type 0
Good ss = good_in (symbols_of ss) kind.End ≡ true

-- a rule in the place of its part leaves them so
replaced_good : (x : Part) (r : Rule) (n room : ℕ) (ss : List Placed) → RuleGood x r → within (behind x) (first_in (symbols_of ss) kind.End) ≡ true → Good ss → Good (all_placed n room (symbols r) ++ ss)
replaced_good x r n room ss g w h =
    let here : good_in (symbols r) (first_in (symbols_of ss) kind.End) ≡ true = good_among (symbols r) (first_in (symbols_of ss) kind.End) (members (behind x)) g (within_members (behind x) (first_in (symbols_of ss) kind.End) w) in
    ap (λ z. good_in z kind.End) (placed_symbols n room (symbols r) ss) ∙ good_append (symbols r) (symbols_of ss) kind.End here h

symbol_good : (y : Symbol) (n room : ℕ) (ss : List Placed) (m : Step) → Moves RuleGood y m → follow_ok y (first_in (symbols_of ss) kind.End) ≡ true → Good ss → Good (all_placed n room (symbols m.rule) ++ ss)
symbol_good (symbol.Sign mk) n room ss m f w h = subst (λ x. Good (all_placed n room x ++ ss)) (sym f.0) h
symbol_good (symbol.Part x) n room ss m f w h = replaced_good x m.rule n room ss f.0 w h
symbol_good (symbol.Inner x) n room ss m f w h = replaced_good x m.rule n room ss f.0 w h
symbol_good (symbol.Make g) n room ss m f w h = subst (λ x. Good (all_placed n room x ++ ss)) (sym f.0) h

stack_good : (ss : List Placed) (n : ℕ) (rest : List TokenParts) (m : Step) → step_at (point ss n rest) ≡ Ok m → Good ss → Good (after m (point ss n rest)).symbols
stack_good [] n rest m e h = cc
stack_good (s ∷ ss) n rest m e h =
    let b : (follow_ok s.symbol (first_in (symbols_of ss) kind.End) ≡ true) × Good ss = both (follow_ok s.symbol (first_in (symbols_of ss) kind.End)) (good_in (symbols_of ss) kind.End) h in
    symbol_good s.symbol n s.room ss m (step_moves RuleGood rows_good fallback_good s.symbol s.at s.room (kind_next rest) m e) b.0 b.1

leads_good : (n : ℕ) (p : Point) (made : List Node) (q : Point) → Leads n p made q → Good p.symbols → Good q.symbols
leads_good zero p made q h g = subst (λ x. Good x.symbols) (sym h.0) g
leads_good (suc n) p made q h g =
    let first : Good h.0.symbols = subst (λ x. Good x.symbols) (sym h.3.next) (stack_good p.symbols p.number p.rest h.3.step h.3.there g) in
    leads_good n h.0 h.2 q h.4 first

-- some tokens end what is left
pub record Completes (ss : List Placed) (k : ℕ) : Type 0 where
  pub more : List TokenParts
  pub first : kind_next more ≡ first_in (symbols_of ss) kind.End
  pub steps : ℕ
  pub nodes : List Node
  pub number : ℕ
  pub leads : Leads steps (point ss k more) nodes (ended number)

and_false : (b c : Bool) → c ≡ false → b && c ≡ false
and_false true c h = h
and_false false c h = refl

-- one step, and then the others
stepped : (ss us : List Placed) (k j : ℕ) (more others : List TokenParts) (m : Step) → step_from ss (kind_next more) ≡ Ok m → point us j others ≡ after m (point ss k more) → kind_next more ≡ first_in (symbols_of ss) kind.End → (c : Completes us j) → c.more ≡ others → Completes ss k
stepped ss us k j more others m e f first c same =
    let g : Goes (point ss k more) (made_by m) (point us j c.more) = record { step = m; there = e; next = ap (point us j) same ∙ f; makes = refl } in
    record {
      more = more;
      first = first;
      steps = suc c.steps;
      nodes = made_by m ++ c.nodes;
      number = c.number;
      leads = (point us j c.more, made_by m, c.nodes, g, c.leads, refl);
    }

abbrev word_token : Word → TokenParts
word_token w = token w places.start

open_step : (x : Part) (room : ℕ) (k : Kind) (o : Option Outcome) → chosen x k ≡ o → part_step x room k ≡ step_by o x room
open_step x room k o e = ap (λ z. step_by z x room) e

-- by the shortest rule that no token chooses
skips : (x : Part) (room : ℕ) (k : Kind) → otherwise x ≡ fallback.Goes (shortest x) → chosen x k ≡ None → part_step x room k ≡ goes 0 (shortest x)
skips x room k e n = open_step x room k None n ∙ ap step_by_fallback e

-- by the shortest rule that a token chooses
opens_by : (x : Part) (room : ℕ) (k : Kind) → chosen x k ≡ Some (outcome.Goes (shortest x)) → deepens (symbols (shortest x)) ≡ false → part_step x room k ≡ goes 1 (shortest x)
opens_by x room k e d = open_step x room k (Some (outcome.Goes (shortest x))) e ∙ ap (λ b. cond b (Err TooDeep) (goes 1 (shortest x))) (and_false (room == 0) (deepens (symbols (shortest x))) d)

abbrev part_placed : (Part → Symbol) → Part → ℕ → ℕ → Placed
part_placed f x at room = record { symbol = f x; at = at; room = room }

part_completes : (y : Symbol) (x : Part) (o : Option Word) (at room k : ℕ) (ss : List Placed) → Opens x o → ((j : Kind) → symbol_step y at room j ≡ part_step x room j) → ((j : Kind) → first_by y j ≡ or_first (first_of x) j) → Among (first_in (symbols_of ss) kind.End) (members (behind x)) → ((j : ℕ) → Completes (all_placed k room (symbols (shortest x)) ++ ss) j) → Completes (record { symbol = y; at = at; room = room } ∷ ss) k
part_completes y x (Some w) at room k ss o same first m c =
    let d : Completes (all_placed k room (symbols (shortest x)) ++ ss) (k + 1) = c (k + 1) in
    let more : List TokenParts = word_token w ∷ d.more in
    let e : symbol_step y at room (kind_of w) ≡ Ok (done 1 (shortest x)) = same (kind_of w) ∙ opens_by x room (kind_of w) o.0 o.1 in
    let f : kind_of w ≡ first_by y (first_in (symbols_of ss) kind.End) = sym (first (first_in (symbols_of ss) kind.End) ∙ ap (λ z. or_first z (first_in (symbols_of ss) kind.End)) o.2) in
    stepped (record { symbol = y; at = at; room = room } ∷ ss) (all_placed k room (symbols (shortest x)) ++ ss) k (k + 1) more d.more (done 1 (shortest x)) e refl f d refl
part_completes y x None at room k ss o same first m c =
    let d : Completes (all_placed k room (symbols (shortest x)) ++ ss) (k + 0) = c (k + 0) in
    let next : Kind = first_in (symbols_of ss) kind.End in
    let begins : kind_next d.more ≡ or_first (first_of x) next = d.first ∙ ap (λ z. first_in z kind.End) (placed_symbols k room (symbols (shortest x)) ss) ∙ first_append (symbols (shortest x)) (symbols_of ss) kind.End ∙ sym (o.2 next) in
    let none : chosen x (kind_next d.more) ≡ None = ap (chosen x) begins ∙ none_chosen x next (members (behind x)) o.1 m in
    let e : symbol_step y at room (kind_next d.more) ≡ Ok (done 0 (shortest x)) = same (kind_next d.more) ∙ skips x room (kind_next d.more) o.0 none in
    stepped (record { symbol = y; at = at; room = room } ∷ ss) (all_placed k room (symbols (shortest x)) ++ ss) k (k + 0) d.more d.more (done 0 (shortest x)) e refl (begins ∙ sym (first next)) d refl

sign_completes : (m : Mark) (at room k : ℕ) (ss : List Placed) → Completes ss (k + 1) → Completes (record { symbol = symbol.Sign m; at = at; room = room } ∷ ss) k
sign_completes m at room k ss d =
    let e : symbol_step (symbol.Sign m) at room (kind.Sign m) ≡ Ok (done 1 rule.Nothing) = ap (λ b. cond b (goes 1 rule.Nothing) (Err (Wants (expected.Mark m)))) (same_mark m) in
    stepped (record { symbol = symbol.Sign m; at = at; room = room } ∷ ss) ss k (k + 1) (word_token (word.Mark m) ∷ d.more) d.more (done 1 rule.Nothing) e refl refl d refl

make_completes : (f : Form) (at room k : ℕ) (ss : List Placed) → Completes ss (k + 0) → Completes (record { symbol = symbol.Make f; at = at; room = room } ∷ ss) k
make_completes f at room k ss d = stepped (record { symbol = symbol.Make f; at = at; room = room } ∷ ss) ss k (k + 0) d.more d.more (record { taken = 0; rule = rule.Nothing; made = Some (record { form = f; token = at }) }) refl refl d.first d refl

placed_steps : (k room : ℕ) (x : Part) (ss : List Placed) (n : ℕ) → steps_of x + steps_in (symbols_of ss) ≤ suc n → steps_in (symbols_of (all_placed k room (symbols (shortest x)) ++ ss)) ≤ n
placed_steps k room x ss n h = omega (arith, h, steps_less x, ap steps_in (placed_symbols k room (symbols (shortest x)) ss), steps_append (symbols (shortest x)) (symbols_of ss)) where
  steps_append : (xs ys : List Symbol) → steps_in (xs ++ ys) ≡ steps_in xs + steps_in ys
  steps_append [] ys = omega arith
  steps_append (z ∷ zs) ys = omega (arith, steps_append zs ys)

some_step : (y : Symbol) → 0 < steps_by y
some_step (symbol.Sign m) = lit< tt
some_step (symbol.Part x) = omega (arith, steps_less x)
some_step (symbol.Inner x) = omega (arith, steps_less x)
some_step (symbol.Make f) = lit< tt

abbrev Ends : ℕ → Type 0
Ends n = (us : List Placed) (j : ℕ) → steps_in (symbols_of us) ≤ n → Good us → Completes us j

by_part : (y : Symbol) (x : Part) (n at room k : ℕ) (ss : List Placed) → Ends n → ((j : Kind) → symbol_step y at room j ≡ part_step x room j) → ((j : Kind) → first_by y j ≡ or_first (first_of x) j) → steps_of x + steps_in (symbols_of ss) ≤ suc n → within (behind x) (first_in (symbols_of ss) kind.End) && good_in (symbols_of ss) kind.End ≡ true → Completes (record { symbol = y; at = at; room = room } ∷ ss) k
by_part y x n at room k ss ends same first h g =
    let b : (within (behind x) (first_in (symbols_of ss) kind.End) ≡ true) × Good ss = both (within (behind x) (first_in (symbols_of ss) kind.End)) (good_in (symbols_of ss) kind.End) g in
    part_completes y x (opens x) at room k ss (opened x) same first (within_members (behind x) (first_in (symbols_of ss) kind.End) b.0) (λ j. ends (all_placed k room (symbols (shortest x)) ++ ss) j (placed_steps k room x ss n h) (replaced_good x (shortest x) k room ss (shortest_good x) b.0 b.1))

by_symbol : (y : Symbol) (n at room k : ℕ) (ss : List Placed) → Ends n → steps_by y + steps_in (symbols_of ss) ≤ suc n → good_in (y ∷ symbols_of ss) kind.End ≡ true → Completes (record { symbol = y; at = at; room = room } ∷ ss) k
by_symbol (symbol.Sign m) n at room k ss ends h g = sign_completes m at room k ss (ends ss (k + 1) (omega (arith, h)) g)
by_symbol (symbol.Part x) n at room k ss ends h g = by_part (symbol.Part x) x n at room k ss ends (λ j. refl) (λ j. refl) h g
by_symbol (symbol.Inner x) n at room k ss ends h g = by_part (symbol.Inner x) x n at room k ss ends (λ j. refl) (λ j. refl) h g
by_symbol (symbol.Make f) n at room k ss ends h g = make_completes f at room k ss (ends ss (k + 0) (omega (arith, h)) g)

-- what is left, if it is good, is ended by some tokens
complete : (n : ℕ) (ss : List Placed) (k : ℕ) → steps_in (symbols_of ss) ≤ n → Good ss → Completes ss k
complete zero [] k h g = record { more = []; first = refl; steps = 0; nodes = []; number = k; leads = (refl, refl) }
complete zero (s ∷ ss) k h g = absurd (omega (arith, h, some_step s.symbol))
complete (suc n) [] k h g = record { more = []; first = refl; steps = 0; nodes = []; number = k; leads = (refl, refl) }
complete (suc n) (s ∷ ss) k h g = by_symbol s.symbol n s.at s.room k ss (complete n) h g

-- the derivation that has just taken the tokens before a point, and has not looked at the next one
record Enters (p : Point) (ts : List TokenParts) (number : ℕ) : Type 0 where
  front : List TokenParts
  there : p.rest ≡ front ++ ts
  count : number ≡ p.number + length front
  steps : ℕ
  made : List Node
  symbols : List Placed
  goes : (more : List TokenParts) → Leads steps (with_rest p (front ++ more)) made (point symbols number more)

-- nothing is taken yet
stays : (p : Point) (ts : List TokenParts) (number : ℕ) → p.rest ≡ ts → number ≡ p.number → Enters p ts number
stays p ts number e n =
    record {
      front = [];
      there = e;
      count = n ∙ omega arith;
      steps = 0;
      made = [];
      symbols = p.symbols;
      goes = λ more. (ap (λ x. point p.symbols x more) n, refl);
    }

-- one step before
before : (p r : Point) (a : List Node) (ts f : List TokenParts) (number : ℕ) → Goes p a r → p.rest ≡ f ++ r.rest → r.number ≡ p.number + length f → (e : Enters r ts number) → ((more : List TokenParts) → Goes (with_rest p (f ++ (e.front ++ more))) a (with_rest r (e.front ++ more))) → Enters p ts number
before p r a ts f number g there counted e go =
    record {
      front = f ++ e.front;
      there = there ∙ ap (λ x. f ++ x) e.there ∙ sym (append_assoc f e.front ts);
      count = omega (arith, e.count, counted, length-append f e.front);
      steps = suc e.steps;
      made = a ++ e.made;
      symbols = e.symbols;
      goes = λ more.
          let first : Goes (with_rest p (f ++ e.front ++ more)) a (with_rest r (e.front ++ more)) = subst (λ x. Goes (with_rest p x) a (with_rest r (e.front ++ more))) (sym (append_assoc f e.front more)) (go more) in
          (with_rest r (e.front ++ more), a, e.made, first, e.goes more, refl);
    }

-- a step that takes no token, before one is taken or not
skipped : (p r : Point) (a : List Node) (ts front : List TokenParts) (number : ℕ) → (g : Goes p a r) → p.rest ≡ r.rest → r.number ≡ p.number → g.step.taken ≡ 0 → (e : Enters r ts number) → e.front ≡ front → Enters p ts number
skipped p r a ts [] number g there counted none e same = stays p ts number (there ∙ e.there ∙ ap (λ x. x ++ ts) same) (omega (arith, e.count, counted, ap length same))
skipped p r a ts (t ∷ f) number g there counted none e same =
    before p r a ts [] number g there (omega (arith, counted)) e (λ more.
    let kinds : kind_next (e.front ++ more) ≡ kind_next p.rest = ap (λ x. kind_next (x ++ more)) same ∙ sym (ap kind_next (there ∙ e.there ∙ ap (λ x. x ++ ts) same)) in
    same_go p a r [] (e.front ++ more) kinds g none)

entered : (p r : Point) (a : List Node) (ts f : List TokenParts) (number : ℕ) → (g : Goes p a r) → p.rest ≡ f ++ r.rest → r.number ≡ p.number + length f → g.step.taken ≡ length f → Enters r ts number → Enters p ts number
entered p r a ts [] number g there counted taken e = skipped p r a ts e.front number g there (omega (arith, counted)) taken e refl
entered p r a ts (t ∷ f) number g there counted taken e = before p r a ts (t ∷ f) number g there counted e (λ more. same_go p a r (t ∷ f) (e.front ++ more) (sym (ap kind_next there)) g taken)

enters : (n : ℕ) (p : Point) (made : List Node) (q : Point) → Leads n p made q → Enters p q.rest q.number
enters zero p made q h = stays p q.rest q.number (ap (λ x. x.rest) (sym h.0)) (ap (λ x. x.number) h.0)
enters (suc n) p made q h =
    let r : Point = h.0 in
    let g : Goes p h.1 r = h.3 in
    let m : Step = g.step in
    let f : List TokenParts = front_of p m in
    let fits : m.taken ≤ length p.rest = step_fits p.symbols p.rest m g.there in
    let long : length f ≡ m.taken = length-take-le m.taken p.rest fits in
    let after_rest : r.rest ≡ drop m.taken p.rest = ap (λ x. x.rest) g.next in
    let there : p.rest ≡ f ++ r.rest = sym (take-append-drop m.taken p.rest) ∙ ap (λ x. f ++ x) (sym after_rest) in
    let counted : r.number ≡ p.number + length f = ap (λ x. x.number) g.next ∙ ap (λ x. p.number + x) (sym long) in
    entered p r h.1 q.rest f q.number g there counted (sym long) (enters n r h.2 q h.4)

leads_append : (a b : ℕ) (p : Point) (first : List Node) (q : Point) (others : List Node) (r : Point) → Leads a p first q → Leads b q others r → (n : ℕ) × Leads n p (first ++ others) r
leads_append zero b p first q others r h k =
    let here : Leads b p others r = subst (λ x. Leads b x others r) h.0 k in
    (b, subst (λ y. Leads b p (y ++ others) r) (sym h.1) here)
leads_append (suc a) b p first q others r h k =
    let rest : (n : ℕ) × Leads n h.0 (h.2 ++ others) r = leads_append a b h.0 h.2 q others r h.4 k in
    (suc rest.0, (h.0, h.1, h.2 ++ others, h.3, rest.1, ap (λ x. x ++ others) h.5 ∙ append_assoc h.1 h.2 others))

-- the tokens before the one where a derivation is stuck begin a source
pub some_begins : (ts : List TokenParts) (n : ℕ) (stop : Stop) → IsStuckAt ts n stop → SomeBegins ts n
some_begins ts n stop s =
    let e : Enters (start ts) (drop n ts) n = enters s.steps (start ts) s.made (point s.symbols n (drop n ts)) s.leads in
    let long : n ≡ length e.front = omega (arith, e.count) in
    let front : e.front ≡ take n ts = sym (ap (λ x. take x ts) long ∙ ap (take (length e.front)) e.there ∙ take-append_seam e.front (drop n ts)) in
    let good : Good e.symbols = leads_good e.steps (start (e.front ++ [])) e.made (point e.symbols n []) (e.goes []) refl in
    let c : Completes e.symbols n = complete (steps_in (symbols_of e.symbols)) e.symbols n (omega arith) good in
    let all : (k : ℕ) × Leads k (start (e.front ++ c.more)) (e.made ++ c.nodes) (ended c.number) = leads_append e.steps c.steps (start (e.front ++ c.more)) e.made (point e.symbols n c.more) c.nodes (ended c.number) (e.goes c.more) c.leads in
    (c.more, e.made ++ c.nodes, record { steps = all.0; number = c.number; leads = subst (λ x. Leads all.0 (start (x ++ c.more)) (e.made ++ c.nodes) (ended c.number)) front all.1 })
