-- Operands that are taken one after another.
use Rattle.std.proofs.Common.{◌≡◌, ℕ, refl, sym, ap, ◌∙◌, subst, List, [], ◌∷◌, ◌++◌, reverse, append_assoc}
use Rattle.std.proofs.lemmas.List.{append-nil, reverse-append}
use Rattle.u_program.specs.declared.program.Kind.{Kind}
use Rattle.u_program.specs.declared.program.Kind.TheVariants.{Store}
use Rattle.u_compile.specs.declared.naming.Alias.{Alias}
use Rattle.u_compile.specs.declared.lowering.Operand.{Operand}
use Rattle.u_compile.specs.declared.lowering.Operand.TheVariants.{Value, Arguments}
use Rattle.u_compile.specs.Drawings.{DrawingParts, Grows, Gives, Calls}
use Rattle.u_compile.specs.Namings.{KnownParts, Learns}
use Rattle.u_compile.specs.Operands.{SceneParts, LoweringParts, IsWritten, IsNoConstant, IsAtom, used, constant, IsOperand, waiting, atom, AreOperands, GoesOn, IsPopped, ArePopped, Pops, Pushes, with_operand, Writes, TakesCall}
use Rattle.u_compile.proofs.DrawingLaws.{grows_self, grows_then}
use Rattle.u_compile.proofs.ComesLaws.{named_grows}
use Rattle.u_compile.proofs.KnownLaws.{has_grows, has_before, learns_none, learns_grows, learns_then, named_before}

pub goes_self : (l : LoweringParts) → GoesOn l l
goes_self l = record { grows = grows_self l.drawing; learns = learns_none l.drawing l.scene.names; rest = refl }

pub goes_then : (l m n : LoweringParts) → GoesOn l m → GoesOn m n → GoesOn l n
goes_then l m n a b = record {
  grows = grows_then l.drawing m.drawing n.drawing a.grows b.grows;
  learns = learns_then m.drawing n.drawing b.grows l.scene.names m.scene.names n.scene.names a.learns b.learns;
  rest = b.rest ∙ ap (λ (x : LoweringParts). record x { scene = record x.scene { names = n.scene.names }; drawing = n.drawing }) a.rest;
}

-- with another procedure, and what is known then
pub goes_known : (l : LoweringParts) (k : KnownParts) (d : DrawingParts) → Grows l.drawing d → Learns d l.scene.names k → GoesOn l (record l { scene = record l.scene { names = k }; drawing = d })
goes_known l k d grows learns = record { grows = grows; learns = learns; rest = refl }

pub atom_grows : (s : SceneParts) (d e : DrawingParts) → Grows d e → (node v : ℕ) → IsAtom s d node v → IsAtom s e node v
atom_grows s d e g node v (used none is) = used none (record { name = is.name; means = is.means; named = named_grows d e s.names.bindings s.scope is.name v g is.named })
atom_grows s d e g node v (constant k written has) = constant k written (has_grows d e g s.names s.scope k v has)

pub operand_grows : (s : SceneParts) (d e : DrawingParts) → Grows d e → (o : Operand) (v : ℕ) → IsOperand s d o v → IsOperand s e o v
operand_grows s d e g o v (waiting is) = waiting is
operand_grows s d e g o v (atom node is at) = atom node is (atom_grows s d e g node v at)

atom_known : (s : SceneParts) (k : KnownParts) (d : DrawingParts) → Learns d s.names k → (node v : ℕ) → IsAtom (record s { names = k }) d node v → IsAtom s d node v
atom_known s k d learns node v (used none is) = used (subst (λ (aliases : List Alias). IsNoConstant s.tree aliases node) (ap (λ (x : KnownParts). x.aliases) learns.are) none) (record { name = is.name; means = is.means; named = named_before d s.names k learns s.scope is.name v is.named })
atom_known s k d learns node v (constant c written has) = constant c (subst (λ (aliases : List Alias). IsWritten s.tree aliases node c) (ap (λ (x : KnownParts). x.aliases) learns.are) written) (has_before d s.names k learns s.scope c v has)

operand_known : (s : SceneParts) (k : KnownParts) (d : DrawingParts) → Learns d s.names k → (o : Operand) (v : ℕ) → IsOperand (record s { names = k }) d o v → IsOperand s d o v
operand_known s k d learns o v (waiting is) = waiting is
operand_known s k d learns o v (atom node is at) = atom node is (atom_known s k d learns node v at)

-- what an operand is later, it is before, by what was known then
pub operand_before : (l m n : LoweringParts) → GoesOn l m → Grows m.drawing n.drawing → (o : Operand) (v : ℕ) → IsOperand m.scene n.drawing o v → IsOperand l.scene n.drawing o v
operand_before l m n a g o v is =
    let same : m.scene ≡ record l.scene { names = m.scene.names } = ap (λ (x : LoweringParts). x.scene) a.rest in
    operand_known l.scene m.scene.names n.drawing (learns_grows m.drawing n.drawing g l.scene.names m.scene.names a.learns) o v (subst (λ (s : SceneParts). IsOperand s n.drawing o v) same is)

are_grow : (s : SceneParts) (d e : DrawingParts) → Grows d e → (os : List Operand) (vs : List ℕ) → AreOperands s d os vs → AreOperands s e os vs
are_grow s d e g [] [] are = tt
are_grow s d e g (o ∷ os) (v ∷ vs) are = (operand_grows s d e g o v are.0, are_grow s d e g os vs are.1)
are_grow s d e g [] (v ∷ vs) are = absurd are
are_grow s d e g (o ∷ os) [] are = absurd are

are_append : (s : SceneParts) (d : DrawingParts) (os : List Operand) (vs : List ℕ) (o : Operand) (v : ℕ) → AreOperands s d os vs → IsOperand s d o v → AreOperands s d (os ++ (o ∷ [])) (vs ++ (v ∷ []))
are_append s d [] [] o v are is = (is, tt)
are_append s d (p ∷ os) (u ∷ vs) o v are is = (are.0, are_append s d os vs o v are.1 is)
are_append s d [] (u ∷ vs) o v are is = absurd are
are_append s d (p ∷ os) [] o v are is = absurd are

are_before : (l m n : LoweringParts) → GoesOn l m → Grows m.drawing n.drawing → (os : List Operand) (vs : List ℕ) → AreOperands m.scene n.drawing os vs → AreOperands l.scene n.drawing os vs
are_before l m n a g [] [] are = tt
are_before l m n a g (o ∷ os) (v ∷ vs) are = (operand_before l m n a g o v are.0, are_before l m n a g os vs are.1)
are_before l m n a g [] (v ∷ vs) are = absurd are
are_before l m n a g (o ∷ os) [] are = absurd are

-- the operands that wait on when one is taken
popped_scene : (l m : LoweringParts) (o : Operand) → IsPopped l m o → m.scene ≡ l.scene
popped_scene l m o popped = ap (λ (x : LoweringParts). x.scene) popped.1

popped_with : (l m : LoweringParts) (o : Operand) (os : List Operand) → IsPopped l m o → record m { operands = os } ≡ record l { operands = os }
popped_with l m o os popped = ap (λ (x : LoweringParts). record x { operands = os }) popped.1

goes_operands : (l m : LoweringParts) → GoesOn l m → m.operands ≡ l.operands
goes_operands l m a = ap (λ (x : LoweringParts). x.operands) a.rest

pub pops_one : (l m n : LoweringParts) (o : Operand) (v : ℕ) → IsPopped l m o → GoesOn m n → IsOperand m.scene n.drawing o v → Pops l n (v ∷ [])
pops_one l m n o v popped goes is =
    let same = goes_operands m n goes in
    record {
      operands = o ∷ [];
      were = popped.0 ∙ ap (λ (os : List Operand). os ++ (o ∷ [])) (sym same);
      are = (subst (λ (s : SceneParts). IsOperand s n.drawing o v) (popped_scene l m o popped) is, tt);
      goes_on = subst (λ (x : LoweringParts). GoesOn x n) (popped_with l m o n.operands popped) (subst (λ (os : List Operand). GoesOn (record m { operands = os }) n) (sym same) goes);
    }

-- one more is taken before the others, and looked at behind them
pub pops_more : (l m n k : LoweringParts) (o : Operand) (vs : List ℕ) (v : ℕ) → IsPopped l m o → Pops m n vs → GoesOn n k → IsOperand n.scene k.drawing o v → Pops l k (vs ++ (v ∷ []))
pops_more l m n k o vs v popped p goes is =
    let same = goes_operands n k goes in
    let begun : LoweringParts = record m { operands = n.operands } in
    let on : GoesOn begun k = goes_then begun n k p.goes_on goes in
    let first : AreOperands m.scene k.drawing p.operands vs = are_grow m.scene n.drawing k.drawing goes.grows p.operands vs p.are in
    let last : IsOperand m.scene k.drawing o v = operand_before begun n k p.goes_on goes.grows o v is in
    record {
      operands = p.operands ++ (o ∷ []);
      were = popped.0 ∙ (ap (λ (os : List Operand). os ++ (o ∷ [])) (p.were ∙ ap (λ (os : List Operand). os ++ p.operands) (sym same)) ∙ append_assoc k.operands p.operands (o ∷ []));
      are = subst (λ (s : SceneParts). AreOperands s k.drawing (p.operands ++ (o ∷ [])) (vs ++ (v ∷ []))) (popped_scene l m o popped) (are_append m.scene k.drawing p.operands vs o v first last);
      goes_on = subst (λ (x : LoweringParts). GoesOn x k) (popped_with l m o k.operands popped) (subst (λ (os : List Operand). GoesOn (record m { operands = os }) k) (sym same) on);
    }

-- what a statement gives waits
pub pushes_value : (l n m : LoweringParts) (d : DrawingParts) (kind : Kind) (ins : List ℕ) (v : ℕ) → Gives l.drawing d kind ins v → n ≡ record l { drawing = d } → m ≡ with_operand n (Value v) → Pushes l m kind ins
pushes_value l n m d kind ins v gives noted pushed =
    let is : m ≡ record (with_operand l (Value v)) { drawing = d } = pushed ∙ ap (λ (x : LoweringParts). with_operand x (Value v)) noted in
    let same : d ≡ m.drawing = sym (ap (λ (x : LoweringParts). x.drawing) is) in
    record {
      value = v;
      gives = subst (λ (e : DrawingParts). Gives l.drawing e kind ins v) same gives;
      rest = is ∙ ap (λ (e : DrawingParts). record (with_operand l (Value v)) { drawing = e }) same;
    }

-- a `store` takes them
pub writes_value : (l n m : LoweringParts) (d : DrawingParts) (array index value given : ℕ) → Pops l n (array ∷ index ∷ value ∷ []) → Gives n.drawing d Store (array ∷ index ∷ value ∷ []) given → m ≡ record n { drawing = d } → Writes l m
writes_value l n m d array index value given pops gives noted =
    let same : d ≡ m.drawing = sym (ap (λ (x : LoweringParts). x.drawing) noted) in
    record {
      between = n;
      array = array;
      index = index;
      value = value;
      given = given;
      pops = pops;
      gives = subst (λ (e : DrawingParts). Gives n.drawing e Store (array ∷ index ∷ value ∷ []) given) same gives;
      rest = noted ∙ ap (λ (e : DrawingParts). record n { drawing = e }) same;
    }

-- one more operand is taken from before the others
pub taken_more : (l m n : LoweringParts) (o : Operand) (os ps : List Operand) → l.operands ≡ m.operands ++ reverse os → m ≡ record l { operands = m.operands } → IsPopped m n o → ps ≡ os ++ (o ∷ []) → (l.operands ≡ n.operands ++ reverse ps) × (n ≡ record l { operands = n.operands })
taken_more l m n o os ps were rest popped more = (
  were ∙ (ap (λ (xs : List Operand). xs ++ reverse os) popped.0 ∙ (append_assoc n.operands (o ∷ []) (reverse os) ∙ ap (λ (xs : List Operand). n.operands ++ xs) (sym (ap reverse more ∙ reverse-append os (o ∷ []))))),
  popped.1 ∙ ap (λ (x : LoweringParts). record x { operands = n.operands }) rest,
)

-- and the beginning of arguments
pub taken_all : (l m n : LoweringParts) (os : List Operand) → l.operands ≡ m.operands ++ reverse os → m ≡ record l { operands = m.operands } → IsPopped m n Arguments → ArePopped l n os
taken_all l m n os were rest popped = (
  were ∙ (ap (λ (xs : List Operand). xs ++ reverse os) popped.0 ∙ append_assoc n.operands (Arguments ∷ []) (reverse os)),
  popped.1 ∙ ap (λ (x : LoweringParts). record x { operands = n.operands }) rest,
)

-- so far these operands are those values, and the others are ahead, the last one first
pub record Resolved (l m : LoweringParts) (taken ahead : List Operand) (vs : List ℕ) : Type 0 where
  pub done : List Operand
  pub whole : reverse taken ≡ done ++ reverse ahead
  pub are : AreOperands l.scene m.drawing done vs
  pub goes_on : GoesOn l m

pub resolved_none : (l : LoweringParts) (taken : List Operand) → Resolved l l taken taken []
resolved_none l taken = record { done = []; whole = refl; are = tt; goes_on = goes_self l }

pub resolved_more : (l m n : LoweringParts) (taken ahead left : List Operand) (vs ws : List ℕ) (o : Operand) (v : ℕ) → Resolved l m taken ahead vs → ahead ≡ left ++ (o ∷ []) → GoesOn m n → IsOperand m.scene n.drawing o v → ws ≡ vs ++ (v ∷ []) → Resolved l n taken left ws
resolved_more l m n taken ahead left vs ws o v r pop goes is more = record {
  done = r.done ++ (o ∷ []);
  whole = r.whole ∙ (ap (λ (xs : List Operand). r.done ++ xs) (ap reverse pop ∙ reverse-append left (o ∷ [])) ∙ sym (append_assoc r.done (o ∷ []) (reverse left)));
  are = subst (λ (xs : List ℕ). AreOperands l.scene n.drawing (r.done ++ (o ∷ [])) xs) (sym more) (are_append l.scene n.drawing r.done vs o v (are_grow l.scene m.drawing n.drawing goes.grows r.done vs r.are) (operand_before l m n r.goes_on goes.grows o v is));
  goes_on = goes_then l m n r.goes_on goes;
}

pub resolved_all : (l m : LoweringParts) (taken ahead : List Operand) (vs : List ℕ) → Resolved l m taken ahead vs → ahead ≡ [] → AreOperands l.scene m.drawing (reverse taken) vs
resolved_all l m taken ahead vs r none =
    let whole : reverse taken ≡ r.done = r.whole ∙ (ap (λ (xs : List Operand). r.done ++ reverse xs) none ∙ append-nil r.done) in
    subst (λ (xs : List Operand). AreOperands l.scene m.drawing xs vs) (sym whole) r.are

-- a call is added with what was taken
pub takes_call : (l a b p q n m : LoweringParts) (os : List Operand) (callee : Operand) (procedure : ℕ) (vs : List ℕ) (d : DrawingParts) (v : ℕ) → ArePopped l a os → IsPopped a b callee → GoesOn b p → IsOperand b.scene p.drawing callee procedure → GoesOn p q → AreOperands p.scene q.drawing (reverse os) vs → Calls q.drawing d procedure vs v → n ≡ record q { drawing = d } → m ≡ with_operand n (Value v) → TakesCall l m
takes_call l a b p q n m os callee procedure vs d v taken popped first is then are calls noted pushed =
    let on : GoesOn b q = goes_then b p q first then in
    let begun : b ≡ record l { operands = b.operands } = popped.1 ∙ ap (λ (x : LoweringParts). record x { operands = b.operands }) taken.1 in
    let same : b.scene ≡ l.scene = ap (λ (x : LoweringParts). x.scene) begun in
    let made : m ≡ record (with_operand q (Value v)) { drawing = d } = pushed ∙ ap (λ (x : LoweringParts). with_operand x (Value v)) noted in
    let now : d ≡ m.drawing = sym (ap (λ (x : LoweringParts). x.drawing) made) in
    record {
      others = b.operands;
      callee = callee;
      given = reverse os;
      waited = taken.0 ∙ (ap (λ (xs : List Operand). xs ++ (Arguments ∷ reverse os)) popped.0 ∙ append_assoc b.operands (callee ∷ []) (Arguments ∷ reverse os));
      between = q;
      goes_on = subst (λ (x : LoweringParts). GoesOn x q) begun on;
      procedure = procedure;
      arguments = vs;
      is = subst (λ (s : SceneParts). IsOperand s q.drawing callee procedure) same (operand_grows b.scene p.drawing q.drawing then.grows callee procedure is);
      are = subst (λ (s : SceneParts). AreOperands s q.drawing (reverse os) vs) same (are_before b p q first then.grows (reverse os) vs are);
      value = v;
      calls = subst (λ (e : DrawingParts). Calls q.drawing e procedure vs v) now calls;
      rest = made ∙ ap (λ (e : DrawingParts). record (with_operand q (Value v)) { drawing = e }) now;
    }
