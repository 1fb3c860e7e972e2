-- The grammar as it is read: a part of a source is spelled by one of its rules, the symbols of a rule one behind
-- another. Nothing is said here of how a rule is found.
use Rattle.std.specs.Prelude.{◌≡◌, true, List, [], ◌∷◌, ◌++◌, map, Option, Some, None, option_to_list}
use Rattle.u_source.specs.declared.form.Node.{Node}
use Rattle.u_source.specs.declared.part.Fallback.TheVariants as fallback
use Rattle.u_source.specs.declared.part.Kind.TheVariants as kind
use Rattle.u_source.specs.declared.part.Outcome.TheVariants as outcome
use Rattle.u_source.specs.declared.part.Part.{Part}
use Rattle.u_source.specs.declared.part.Part.TheVariants as part
use Rattle.u_source.specs.declared.rule.Rule.{Rule}
use Rattle.u_source.specs.declared.rule.Symbol.{Symbol}
use Rattle.u_source.specs.declared.rule.Symbol.TheVariants.{Sign, Inner, Make}
use Rattle.u_source.specs.declared.rule.Symbol.TheVariants as symbol
use Rattle.u_source.specs.declared.token.Word.{Word}
use Rattle.u_source.specs.Choosing.{is_kind, chosen}
use Rattle.u_source.specs.Derivations.{kind_of}
use Rattle.u_source.specs.Parts.{otherwise}
use Rattle.u_source.specs.Rules.{symbols, a}
use Rattle.u_source.specs.Tokens.{TokenParts}

-- how some symbols are spelled: the first of them, and the others. A part has the word by which its rule is
-- chosen, if there is one, and what its rule consists of
pub data Phrase : Type 0 where
  Nothing : Phrase
  AWord : (word : Word) (others : Phrase) → Phrase
  ANode : (node : Node) (others : Phrase) → Phrase
  ARule : (word : Option Word) (rule : Rule) (inside others : Phrase) → Phrase

-- its words, in their order
abbrev pub words : Phrase → List Word
words Nothing = []
words (AWord w p) = w ∷ words p
words (ANode n p) = words p
words (ARule w r inside p) = option_to_list w ++ words inside ++ words p

-- the nodes that are made, in their order
abbrev pub nodes : Phrase → List Node
nodes Nothing = []
nodes (AWord w p) = nodes p
nodes (ANode n p) = n ∷ nodes p
nodes (ARule w r inside p) = nodes inside ++ nodes p

-- a part has this rule, behind this word or behind none
abbrev pub HasRule : Part → Option Word → Rule → Type 0
HasRule x (Some w) r = chosen x (kind_of w) ≡ Some (outcome.Goes r)
HasRule x None r = otherwise x ≡ fallback.Goes r

-- these symbols are spelled so
abbrev pub Spells : List Symbol → Phrase → Type 0
Spells [] Nothing = Unit {0}
Spells (Sign m ∷ ss) (AWord w p) = (is_kind (kind.Sign m) (kind_of w) ≡ true) × Spells ss p
Spells (symbol.Part x ∷ ss) (ARule w r inside p) = HasRule x w r × Spells (symbols r) inside × Spells ss p
Spells (Inner x ∷ ss) (ARule w r inside p) = HasRule x w r × Spells (symbols r) inside × Spells ss p
Spells (Make f ∷ ss) (ANode n p) = (n.form ≡ f) × Spells ss p
Spells ss p = ⊥

-- the tokens are a source by the grammar, with these nodes
pub record IsSpelled (ts : List TokenParts) (ns : List Node) : Type 0 where
  pub phrase : Phrase
  pub spells : Spells (a part.Source ∷ []) phrase
  pub its_words : map (λ t. t.word) ts ≡ words phrase
  pub its_nodes : ns ≡ nodes phrase
