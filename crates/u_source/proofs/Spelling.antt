-- A syntax tree is spelled by the grammar.
use Rattle.std.proofs.Common.{◌≡◌, ℕ, zero, suc, Bool, true, false, cond, List, [], ◌∷◌, ◌++◌, map, drop, Option, Some, None, Ok, Err, refl, sym, ◌∙◌, ap, subst, ◌⊎◌, inl, inr, append_assoc, arith, option_to_list}
use Rattle.u_source.specs.declared.choosing.Placed.{Placed}
use Rattle.u_source.specs.declared.choosing.Step.{Step}
use Rattle.u_source.specs.declared.form.Form.{Form}
use Rattle.u_source.specs.declared.form.Node.{Node}
use Rattle.u_source.specs.declared.mark.Mark.{Mark}
use Rattle.u_source.specs.declared.part.Fallback.{Fallback}
use Rattle.u_source.specs.declared.part.Fallback.TheVariants as fallback
use Rattle.u_source.specs.declared.part.Kind.{Kind}
use Rattle.u_source.specs.declared.part.Kind.TheVariants as kind
use Rattle.u_source.specs.declared.part.Outcome.{Outcome}
use Rattle.u_source.specs.declared.part.Outcome.TheVariants as outcome
use Rattle.u_source.specs.declared.part.Part.{Part}
use Rattle.u_source.specs.declared.part.Part.TheVariants as part
use Rattle.u_source.specs.declared.part.Stop.{Stop}
use Rattle.u_source.specs.declared.rule.Rule.{Rule}
use Rattle.u_source.specs.declared.rule.Rule.TheVariants as rule
use Rattle.u_source.specs.declared.rule.Symbol.{Symbol}
use Rattle.u_source.specs.declared.rule.Symbol.TheVariants as symbol
use Rattle.u_source.specs.declared.token.Word.{Word}
use Rattle.u_source.specs.Choosing.{is_kind, chosen, goes, step_by_fallback, step_by, symbol_step}
use Rattle.u_source.specs.Derivations.{Point, point, kind_next, all_placed, step_at, after, made_by, Goes, Leads, start, ended, IsSyntax}
use Rattle.u_source.specs.Parts.{rows, otherwise}
use Rattle.u_source.specs.Phrases.{Phrase, Nothing, AWord, ANode, ARule, words, nodes, HasRule, Spells, IsSpelled}
use Rattle.u_source.specs.Rules.{symbols, a}
use Rattle.u_source.specs.Tokens.{TokenParts}
use Rattle.u_source.proofs.Measure.{well, well_once, same_there, chosen_there}
use Rattle.u_source.proofs.RuleLaws.{done, symbols_of, placed_symbols}

abbrev makes : Node → Step
makes n = record { taken = 0; rule = rule.Nothing; made = Some n }

-- the rule by which a step goes on at a part
abbrev PartGoes : Part → Kind → Step → Type 0
PartGoes x k m = (r : Rule) × (((chosen x k ≡ Some (outcome.Goes r)) × (done 1 r ≡ m)) ⊎ ((otherwise x ≡ fallback.Goes r) × (done 0 r ≡ m)))

by_token : (b : Bool) (x : Part) (k : Kind) (r : Rule) (stop : Stop) (m : Step) → chosen x k ≡ Some (outcome.Goes r) → cond b (Err stop) (goes 1 r) ≡ well m → PartGoes x k m
by_token true x k r stop m e h = cc
by_token false x k r stop m e h = (r, inl (e, well_once (done 1 r) m h))

by_fallback : (f : Fallback) (x : Part) (k : Kind) (m : Step) → otherwise x ≡ f → step_by_fallback f ≡ well m → PartGoes x k m
by_fallback (fallback.Goes r) x k m e h = (r, inr (e, well_once (done 0 r) m h))
by_fallback (fallback.Wants w) x k m e h = cc

part_goes : (o : Option Outcome) (x : Part) (room : ℕ) (k : Kind) (m : Step) → chosen x k ≡ o → step_by o x room ≡ well m → PartGoes x k m
part_goes (Some (outcome.Goes r)) x room k m e h = by_token _ x k r _ m e h
part_goes (Some (outcome.Stops stop)) x room k m e h = cc
part_goes None x room k m e h = by_fallback (otherwise x) x k m refl h

sign_goes : (b : Bool) (stop : Stop) (m : Step) → cond b (goes 1 rule.Nothing) (Err stop) ≡ well m → (b ≡ true) × (done 1 rule.Nothing ≡ m)
sign_goes true stop m h = (refl, well_once (done 1 rule.Nothing) m h)
sign_goes false stop m h = cc

-- some symbols are spelled by the words of these tokens, and these nodes are made
pub record Phrased (ss : List Symbol) (ts : List TokenParts) (made : List Node) : Type 0 where
  pub phrase : Phrase
  pub spells : Spells ss phrase
  pub its_words : map (λ t. t.word) ts ≡ words phrase
  pub its_nodes : made ≡ nodes phrase

-- a phrase of two lists of symbols is one of each
record Halves (xs ys : List Symbol) (p : Phrase) : Type 0 where
  left : Phrase
  right : Phrase
  left_spells : Spells xs left
  right_spells : Spells ys right
  all_words : words p ≡ words left ++ words right
  all_nodes : nodes p ≡ nodes left ++ nodes right

behind_rule : (x : Part) (y : Symbol) (xs ys : List Symbol) (w : Option Word) (r : Rule) (inside p : Phrase) → ((q : Phrase) → Spells xs q → Spells (y ∷ xs) (ARule w r inside q)) → Halves xs ys p → Halves (y ∷ xs) ys (ARule w r inside p)
behind_rule x y xs ys w r inside p put h =
    record {
      left = ARule w r inside h.left;
      right = h.right;
      left_spells = put h.left h.left_spells;
      right_spells = h.right_spells;
      all_words = ap (λ z. option_to_list w ++ words inside ++ z) h.all_words ∙ sym (append_assoc (option_to_list w ++ words inside) (words h.left) (words h.right));
      all_nodes = ap (λ z. nodes inside ++ z) h.all_nodes ∙ sym (append_assoc (nodes inside) (nodes h.left) (nodes h.right));
    }

halves : (xs ys : List Symbol) (p : Phrase) → Spells (xs ++ ys) p → Halves xs ys p
halves [] ys p h = record { left = Nothing; right = p; left_spells = tt; right_spells = h; all_words = refl; all_nodes = refl }
halves (symbol.Sign m ∷ xs) ys Nothing h = absurd h
halves (symbol.Sign m ∷ xs) ys (AWord w p) h =
    let s : Halves xs ys p = halves xs ys p h.1 in
    record {
      left = AWord w s.left;
      right = s.right;
      left_spells = (h.0, s.left_spells);
      right_spells = s.right_spells;
      all_words = ap (λ z. w ∷ z) s.all_words;
      all_nodes = s.all_nodes;
    }
halves (symbol.Sign m ∷ xs) ys (ANode n p) h = absurd h
halves (symbol.Sign m ∷ xs) ys (ARule w r i p) h = absurd h
halves (symbol.Make f ∷ xs) ys Nothing h = absurd h
halves (symbol.Make f ∷ xs) ys (AWord w p) h = absurd h
halves (symbol.Make f ∷ xs) ys (ANode n p) h =
    let s : Halves xs ys p = halves xs ys p h.1 in
    record {
      left = ANode n s.left;
      right = s.right;
      left_spells = (h.0, s.left_spells);
      right_spells = s.right_spells;
      all_words = s.all_words;
      all_nodes = ap (λ z. n ∷ z) s.all_nodes;
    }
halves (symbol.Make f ∷ xs) ys (ARule w r i p) h = absurd h
halves (symbol.Part x ∷ xs) ys Nothing h = absurd h
halves (symbol.Part x ∷ xs) ys (AWord w p) h = absurd h
halves (symbol.Part x ∷ xs) ys (ANode n p) h = absurd h
halves (symbol.Part x ∷ xs) ys (ARule w r i p) h = behind_rule x (symbol.Part x) xs ys w r i p (λ q s. (h.0, h.1, s)) (halves xs ys p h.2)
halves (symbol.Inner x ∷ xs) ys Nothing h = absurd h
halves (symbol.Inner x ∷ xs) ys (AWord w p) h = absurd h
halves (symbol.Inner x ∷ xs) ys (ANode n p) h = absurd h
halves (symbol.Inner x ∷ xs) ys (ARule w r i p) h = behind_rule x (symbol.Inner x) xs ys w r i p (λ q s. (h.0, h.1, s)) (halves xs ys p h.2)

abbrev words_of : List TokenParts → List Word
words_of ts = map (λ t. t.word) ts

-- a part in front of what is spelled, by a rule behind a word or behind none
part_phrased : (x : Part) (y : Symbol) (ss : List Symbol) (w : Option Word) (r : Rule) (ts : List TokenParts) (ws : List Word) (made : List Node) → ((i q : Phrase) → Spells (symbols r) i → Spells ss q → Spells (y ∷ ss) (ARule w r i q)) → ws ≡ option_to_list w ++ words_of ts → Phrased (symbols r ++ ss) ts made → (q : Phrase) × Spells (y ∷ ss) q × (ws ≡ words q) × (made ≡ nodes q)
part_phrased x y ss w r ts ws made put e h =
    let s : Halves (symbols r) ss h.phrase = halves (symbols r) ss h.phrase h.spells in
    (ARule w r s.left s.right, put s.left s.right s.left_spells s.right_spells, e ∙ ap (λ z. option_to_list w ++ z) (h.its_words ∙ s.all_words) ∙ sym (append_assoc (option_to_list w) (words s.left) (words s.right)), h.its_nodes ∙ s.all_nodes)

abbrev PhrasedAt : Point → List Node → Type 0
PhrasedAt p made = Phrased (symbols_of p.symbols) p.rest made

nothing_there : (x : Part) (r : Rule) → chosen x kind.End ≡ Some (outcome.Goes r) → ⊥
nothing_there x r h = let e : 0 ≡ 1 = chosen_there (rows x) kind.End (outcome.Goes r) h in omega (arith, e)

no_sign_there : (m : Mark) → is_kind (kind.Sign m) kind.End ≡ true → ⊥
no_sign_there m h = let e : 0 ≡ 1 = same_there (kind.Sign m) kind.End h in omega (arith, e)

-- what is spelled behind a step at a part is spelled before it
before_part : (x : Part) (y : Symbol) (n at room : ℕ) (ss : List Placed) (ts : List TokenParts) (m : Step) (others : List Node) → ((w : Option Word) (r : Rule) (i q : Phrase) → HasRule x w r → Spells (symbols r) i → Spells (symbols_of ss) q → Spells (y ∷ symbols_of ss) (ARule w r i q)) → PartGoes x (kind_next ts) m → Phrased (symbols_of (all_placed n room (symbols m.rule) ++ ss)) (drop m.taken ts) others → Phrased (y ∷ symbols_of ss) ts (made_by m ++ others)
before_part x y n at room ss ts m others put (r, g) h = by_how g where
  by_rule : (w : Option Word) (k : ℕ) → HasRule x w r → done k r ≡ m → words_of ts ≡ option_to_list w ++ words_of (drop k ts) → Phrased (y ∷ symbols_of ss) ts (made_by m ++ others)
  by_rule w k has same there =
      let here : Phrased (symbols_of (all_placed n room (symbols r) ++ ss)) (drop k ts) others = subst (λ z. Phrased (symbols_of (all_placed n room (symbols z.rule) ++ ss)) (drop z.taken ts) others) (sym same) h in
      let split : Phrased (symbols r ++ symbols_of ss) (drop k ts) others = subst (λ z. Phrased z (drop k ts) others) (placed_symbols n room (symbols r) ss) here in
      let q : (q : Phrase) × Spells (y ∷ symbols_of ss) q × (words_of ts ≡ words q) × (others ≡ nodes q) = part_phrased x y (symbols_of ss) w r (drop k ts) (words_of ts) others (λ i q a b. put w r i q has a b) there split in
      let none : made_by m ++ others ≡ others = ap (λ z. made_by z ++ others) (sym same) in
      record { phrase = q.0; spells = q.1; its_words = q.2; its_nodes = none ∙ q.3 }

  by_token_there : (us : List TokenParts) → us ≡ ts → chosen x (kind_next us) ≡ Some (outcome.Goes r) → done 1 r ≡ m → Phrased (y ∷ symbols_of ss) ts (made_by m ++ others)
  by_token_there [] e c same = absurd (nothing_there x r c)
  by_token_there (t ∷ us) e c same = by_rule (Some t.word) 1 c same (ap words_of (sym e) ∙ ap (λ z. t.word ∷ words_of (drop 1 z)) e)

  by_how : ((chosen x (kind_next ts) ≡ Some (outcome.Goes r)) × (done 1 r ≡ m)) ⊎ ((otherwise x ≡ fallback.Goes r) × (done 0 r ≡ m)) → Phrased (y ∷ symbols_of ss) ts (made_by m ++ others)
  by_how (inl c) = by_token_there ts refl c.0 c.1
  by_how (inr c) = by_rule None 0 c.0 c.1 refl

before_sign : (mk : Mark) (n room : ℕ) (ss : List Placed) (ts us : List TokenParts) (m : Step) (others : List Node) → us ≡ ts → is_kind (kind.Sign mk) (kind_next us) ≡ true → done 1 rule.Nothing ≡ m → Phrased (symbols_of (all_placed n room (symbols m.rule) ++ ss)) (drop m.taken ts) others → Phrased (symbol.Sign mk ∷ symbols_of ss) ts (made_by m ++ others)
before_sign mk n room ss ts [] m others e k same h = absurd (no_sign_there mk k)
before_sign mk n room ss ts (t ∷ us) m others e k same h =
    let here : Phrased (symbols_of ss) (drop 1 ts) others = subst (λ z. Phrased (symbols_of (all_placed n room (symbols z.rule) ++ ss)) (drop z.taken ts) others) (sym same) h in
    let none : made_by m ++ others ≡ others = ap (λ z. made_by z ++ others) (sym same) in
    let there : words_of ts ≡ t.word ∷ words_of (drop 1 ts) = ap words_of (sym e) ∙ ap (λ z. t.word ∷ words_of (drop 1 z)) e in
    record { phrase = AWord t.word here.phrase; spells = (k, here.spells); its_words = there ∙ ap (λ z. t.word ∷ z) here.its_words; its_nodes = none ∙ here.its_nodes }

before_make : (f : Form) (n at room : ℕ) (ss : List Placed) (ts : List TokenParts) (m : Step) (others : List Node) → makes (record { form = f; token = at }) ≡ m → Phrased (symbols_of (all_placed n room (symbols m.rule) ++ ss)) (drop m.taken ts) others → Phrased (symbol.Make f ∷ symbols_of ss) ts (made_by m ++ others)
before_make f n at room ss ts m others same h =
    let node : Node = record { form = f; token = at } in
    let here : Phrased (symbols_of ss) ts others = subst (λ z. Phrased (symbols_of (all_placed n room (symbols z.rule) ++ ss)) (drop z.taken ts) others) (sym same) h in
    let made : made_by m ++ others ≡ node ∷ others = ap (λ z. made_by z ++ others) (sym same) in
    record { phrase = ANode node here.phrase; spells = (refl, here.spells); its_words = here.its_words; its_nodes = made ∙ ap (λ z. node ∷ z) here.its_nodes }

before_symbol : (y : Symbol) (n at room : ℕ) (ss : List Placed) (ts : List TokenParts) (m : Step) (others : List Node) → symbol_step y at room (kind_next ts) ≡ Ok m → Phrased (symbols_of (all_placed n room (symbols m.rule) ++ ss)) (drop m.taken ts) others → Phrased (y ∷ symbols_of ss) ts (made_by m ++ others)
before_symbol (symbol.Sign mk) n at room ss ts m others e h = let g : (is_kind (kind.Sign mk) (kind_next ts) ≡ true) × (done 1 rule.Nothing ≡ m) = sign_goes (is_kind (kind.Sign mk) (kind_next ts)) _ m e in before_sign mk n room ss ts ts m others refl g.0 g.1 h
before_symbol (symbol.Part x) n at room ss ts m others e h = before_part x (symbol.Part x) n at room ss ts m others (λ w r i q a b c. (a, b, c)) (part_goes (chosen x (kind_next ts)) x room (kind_next ts) m refl e) h
before_symbol (symbol.Inner x) n at room ss ts m others e h = before_part x (symbol.Inner x) n at room ss ts m others (λ w r i q a b c. (a, b, c)) (part_goes (chosen x (kind_next ts)) x room (kind_next ts) m refl e) h
before_symbol (symbol.Make f) n at room ss ts m others e h = before_make f n at room ss ts m others (well_once (makes (record { form = f; token = at })) m e) h

before_stack : (ss : List Placed) (n : ℕ) (ts : List TokenParts) (m : Step) (others : List Node) → step_at (point ss n ts) ≡ Ok m → PhrasedAt (after m (point ss n ts)) others → Phrased (symbols_of ss) ts (made_by m ++ others)
before_stack [] n ts m others e h = cc
before_stack (s ∷ ss) n ts m others e h = before_symbol s.symbol n s.at s.room ss ts m others e h

leads_phrased : (n : ℕ) (p : Point) (made : List Node) (k : ℕ) → Leads n p made (ended k) → PhrasedAt p made
leads_phrased zero p made k h = subst (λ x. PhrasedAt x made) h.0 (record { phrase = Nothing; spells = tt; its_words = refl; its_nodes = h.1 })
leads_phrased (suc n) p made k h =
    let g : Goes p h.1 h.0 = h.3 in
    let later : PhrasedAt (after g.step p) h.2 = subst (λ x. PhrasedAt x h.2) g.next (leads_phrased n h.0 h.2 k h.4) in
    let now : Phrased (symbols_of p.symbols) p.rest (made_by g.step ++ h.2) = before_stack p.symbols p.number p.rest g.step h.2 g.there later in
    subst (PhrasedAt p) (sym (h.5 ∙ ap (λ x. x ++ h.2) g.makes)) now

-- the tokens of a syntax tree are a source by the grammar
pub spelled : (ts : List TokenParts) (ns : List Node) → IsSyntax ts ns → IsSpelled ts ns
spelled ts ns h =
    let p : Phrased (a part.Source ∷ []) ts ns = leads_phrased h.steps (start ts) ns h.number h.leads in
    record { phrase = p.phrase; spells = p.spells; its_words = p.its_words; its_nodes = p.its_nodes }
