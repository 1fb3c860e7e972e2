use Rattle.std.proofs.Common.{◌≡◌, ◌-◌, ◌<◌, Bool, false, List, [], ◌∷◌, ◌++◌, inl, inr, length, subst, sym, ap, ◌∙◌, arith}
use Rattle.std.proofs.lemmas.Bool.{false≢true}
use Rattle.std.specs.Prelude.{◌^◌, ◌↔◌, Contains, IsTrue}
use Rattle.u_name.specs.Context.{Tree}
use Rattle.u_sets.specs.Members.{GoesLast}
use Rattle.u_names.specs.Contexts.{KeyParts, AreContexts, tree_at}
use Rattle.u_names.proofs.KeyedContexts.{number_at, number_fits, more_contexts, still_key}
use Rattle.u_names.proofs.contexts.Contexts.number_by.Goals as goal

-- a key that was there leaves the keys as they were
known : (ks ls : List KeyParts) (k : KeyParts) (b : Bool) → GoesLast ks k ls → (IsTrue b ↔ (Contains ks k → ⊥)) → b ≡ false → ls ≡ ks
known ks ls k b last new not = elim last [ inl (m, e) ↦ e | inr (n, e) ↦ absurd (false≢true (sym not ∙ new.1 n)) ]

same : (root : Tree) (us vs : List Tree) (ks ls : List KeyParts) → vs ≡ us → ls ≡ ks → AreContexts root us ks → AreContexts root vs ls
same root us vs ks ls e d a = subst (λ (ts : List Tree). AreContexts root ts ls) (sym e) (subst (λ (js : List KeyParts). AreContexts root us js) (sym d) a)

pub invariant_of-self-then-not-is_new : goal.invariant_of-self-then-not-is_new
invariant_of-self-then-not-is_new c =
    same _ _ _ _ _ c.in_ok-reserve.ensures.items (known _ _ _ _ c.in_ok-place.ensures.ok c.in_ok-place.ensures.new c.if-not-is_new.true) c.self.invariant

pub returns-then-not-is_new-clause-number : goal.returns-then-not-is_new-clause-number
returns-then-not-is_new-clause-number c =
    let key : tree_at (c.self.inside.root ∷ c.self.inside.others.items) c.args.key ≡ c.args.context.now =
    subst (λ (us : List Tree). tree_at us c.args.key ≡ c.args.context.now) (sym c.self.view_is) c.requires.key in
    let is : AreContexts c.self.inside.root c.reserve.new.self.items c.insert.new.self =
    same _ _ _ _ _ c.in_ok-reserve.ensures.items (known _ _ _ _ c.in_ok-place.ensures.ok c.in_ok-place.ensures.new c.if-not-is_new.true) c.self.invariant in
    number_at c.self.inside.root c.reserve.new.self.items c.insert.new.self is c.in_ok-place.place c.args.key c.args.context.now c.in_ok-place.ensures.place
    (subst (λ (us : List Tree). tree_at (c.self.inside.root ∷ us) c.args.key ≡ c.args.context.now) (sym c.in_ok-reserve.ensures.items) key)

pub invariant_of-self-2 : goal.invariant_of-self-2
invariant_of-self-2 c =
    let key : tree_at (c.self.inside.root ∷ c.self.inside.others.items) c.args.key ≡ c.args.context.now =
    subst (λ (us : List Tree). tree_at us c.args.key ≡ c.args.context.now) (sym c.self.view_is) c.requires.key in
    let outer : c.args.key.outer < length (c.self.inside.root ∷ c.self.inside.others.items) =
    subst (λ (us : List Tree). c.args.key.outer < length us) (sym c.self.view_is) c.requires.outer in
    let last : c.push_into_room.new.list.items ≡ c.self.inside.others.items ++ c.args.context.now ∷ [] =
    c.push_into_room.ensures.items
    ∙ ap (λ (us : List Tree). us ++ c.in_ok-copy.copy ∷ []) c.in_ok-reserve.ensures.items
    ∙ ap (λ (u : Tree). c.self.inside.others.items ++ u ∷ []) c.in_ok-copy.ensures in
    let room : length c.self.inside.others.items < 2 ^ 32 - 1 = let l = c.len.ensures in let n = c.if-len-ge-MOST.false in omega (arith, l, n) in
    more_contexts c.self.inside.root c.self.inside.others.items c.self.inside.keys c.self.invariant c.args.key c.args.context.now c.insert.new.self c.push_into_room.new.list.items key outer (c.in_ok-place.ensures.new.0 c.if-not-is_new.false) c.in_ok-place.ensures.ok last room

pub overflow_cast-result-2 : goal.overflow_cast-result-2
overflow_cast-result-2 c =
    let n = number_fits c.self.inside.root c.push_into_room.new.list.items c.insert.new.self (invariant_of-self-2 c) c.in_ok-place.place c.args.key c.in_ok-place.ensures.place in
    omega (arith, n)

pub overflow_add-result-2 : goal.overflow_add-result-2
overflow_add-result-2 c =
    let n = number_fits c.self.inside.root c.push_into_room.new.list.items c.insert.new.self (invariant_of-self-2 c) c.in_ok-place.place c.args.key c.in_ok-place.ensures.place in
    omega (arith, n)

pub returns-clause-number : goal.returns-clause-number
returns-clause-number c =
    let key : tree_at (c.self.inside.root ∷ c.self.inside.others.items) c.args.key ≡ c.args.context.now =
    subst (λ (us : List Tree). tree_at us c.args.key ≡ c.args.context.now) (sym c.self.view_is) c.requires.key in
    let outer : c.args.key.outer < length (c.self.inside.root ∷ c.self.inside.others.items) =
    subst (λ (us : List Tree). c.args.key.outer < length us) (sym c.self.view_is) c.requires.outer in
    let last : c.push_into_room.new.list.items ≡ c.self.inside.others.items ++ c.args.context.now ∷ [] =
    c.push_into_room.ensures.items
    ∙ ap (λ (us : List Tree). us ++ c.in_ok-copy.copy ∷ []) c.in_ok-reserve.ensures.items
    ∙ ap (λ (u : Tree). c.self.inside.others.items ++ u ∷ []) c.in_ok-copy.ensures in
    number_at c.self.inside.root c.push_into_room.new.list.items c.insert.new.self (invariant_of-self-2 c) c.in_ok-place.place c.args.key c.args.context.now c.in_ok-place.ensures.place
    (still_key c.self.inside.root c.self.inside.others.items c.self.inside.keys c.self.invariant c.args.key c.args.context.now c.insert.new.self c.push_into_room.new.list.items key outer (c.in_ok-place.ensures.new.0 c.if-not-is_new.false) c.in_ok-place.ensures.ok last)

pub returns-clause-distinct : goal.returns-clause-distinct
returns-clause-distinct c = (invariant_of-self-2 c).distinct
