-- What stands around the nodes of trees.
use Rattle.std.proofs.Common.{◌≡◌, ℕ, ◌≤◌, arith, sym, ap, ◌∙◌, subst, Bool, true, false, Some, length}
use Rattle.std.specs.Prelude.{IsTrue}
use Rattle.std.proofs.lemmas.Option.{slice_get_within}
use Rattle.u_source.specs.declared.form.Form.{Form}
use Rattle.u_source.specs.declared.form.Node.{Node}
use Rattle.u_compile.specs.declared.tree.Tree.{Tree}
use Rattle.u_compile.specs.Trees.{HasForm, IsParent, IsEither, IsAround, parent, beyond, IsWanted, StandsInTest, below, further, is_apart}

some_one : {A : Type 0} (x y : A) → Some x ≡ Some y → x ≡ y
some_one x y e = cc

pub form_one : (t : Tree) (node : ℕ) (f g : Form) → HasForm t node f → HasForm t node g → f ≡ g
form_one t node f g a b = sym a.2 ∙ (ap (λ (n : Node). n.form) (some_one a.0 b.0 (sym a.1 ∙ b.1)) ∙ b.2)

pub parent_one : (t : Tree) (p q node : ℕ) → IsParent t p node → IsParent t q node → p ≡ q
parent_one t p q node a b = some_one p q (sym a ∙ b)

not_beyond : (t : Tree) (one other : Form) (p q node : ℕ) (f g : Form) → IsParent t p node → HasForm t p f → IsEither f one other → IsParent t q node → HasForm t q g → (IsEither g one other → ⊥) → ⊥
not_beyond t one other p q node f g a has is b had none =
    let same : p ≡ q = parent_one t p q node a b in
    let form : f ≡ g = form_one t q f g (subst (λ (n : ℕ). HasForm t n f) same has) had in
    none (subst (λ (x : Form). IsEither x one other) form is)

-- only one node is the first around it
pub around_one : (t : Tree) (one other : Form) (p q node : ℕ) → IsAround t one other p node → IsAround t one other q node → p ≡ q
around_one t one other p q node (parent m f a has is) (parent n g b had it) = parent_one t p q node a b
around_one t one other p q node (parent m f a has is) (beyond n between g b had none from) = absurd (not_beyond t one other p between node f g a has is b had none)
around_one t one other p q node (beyond m between f a has none from) (parent n g b had it) = absurd (not_beyond t one other q between node g f b had it a has none)
around_one t one other p q node (beyond m x f a has none from) (beyond n y g b had never after) =
    around_one t one other p q x from (subst (λ (z : ℕ). IsAround t one other q z) (sym (parent_one t x y node a b)) after)

pub wanted_one : (t : Tree) (node : ℕ) (a b : Bool) → IsWanted t node a → IsWanted t node b → a ≡ b
wanted_one t node a b x y = some_one a b (sym x.1 ∙ y.1)

-- where a way up from a node ends, and where it goes on
pub test_above : (t : Tree) (loop node p : ℕ) → IsParent t p node → (p ≡ loop → ⊥) → StandsInTest t loop node → (form : Form) × HasForm t p form × (is_apart form ≡ false) × StandsInTest t loop p
test_above t loop node p up never (below n is) = absurd (never (parent_one t p loop n up is))
test_above t loop node p up never (further n q form is has inner stands) =
    let same : q ≡ p = parent_one t q p n is up in
    (form, subst (λ (x : ℕ). HasForm t x form) same has, inner, subst (λ (x : ℕ). StandsInTest t loop x) same stands)

pub not_in_test : (t : Tree) (loop node p : ℕ) (form : Form) → IsParent t p node → (p ≡ loop → ⊥) → HasForm t p form → is_apart form ≡ true → StandsInTest t loop node → ⊥
not_in_test t loop node p form up never has apart stands =
    let above = test_above t loop node p up never stands in
    let same : form ≡ above.0 = form_one t p form above.0 has above.1 in
    differ (sym apart ∙ (ap is_apart same ∙ above.2))
  where
    differ : true ≡ false → ⊥
    differ f = cc

pub no_form : (t : Tree) (node : ℕ) (f : Form) → length t.nodes.now ≤ node → HasForm t node f → ⊥
no_form t node f h is = let w = slice_get_within t.nodes.now node is.0 is.1 in omega (arith, h, w)

-- what a test does not find is not so
pub not_found : {P : Type 0} (b : Bool) → (P → IsTrue b) → b ≡ false → P → ⊥
not_found b finds e p = differ (sym (finds p) ∙ e)
  where
    differ : true ≡ false → ⊥
    differ f = cc
