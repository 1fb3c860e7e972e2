-- What a firing of a checked job gives lies where the job has a port for it.
use Rattle.std.proofs.Common.{◌≡◌, ℕ, ◌≤◌, ◌-◌, ◌+◌, ◌==◌, refl, ap, sym, ◌∙◌, arith, subst, Bool, true, false, List, [], ◌∷◌, length, Option, Some, None, Result, Ok, Err, cond, inl, inr}
use Rattle.std.specs.Prelude.{slice_get, Contains, IsTrue, is_some}
use Rattle.std.proofs.lemmas.Bool.{false≢true, and_parts, eqb-true}
use Rattle.std.proofs.lemmas.List.Elements.{All-from_recursion, All-contains}
use Rattle.u_name.specs.Context.{Tree, Top, InLoop, InCall, depth}
use Rattle.u_name.specs.Name.{Activity, activity, left, returned, IsInLoop}
use Rattle.u_value.specs.declared.value.Value.{Value}
use Rattle.u_value.specs.declared.value.Value.TheVariants as values
use Rattle.u_value.specs.declared.fault_kind.FaultKind.{FaultKind}
use Rattle.u_value.specs.declared.fault_kind.FaultKind.TheVariants as faults
use Rattle.u_program.specs.Limits.{IsBlockOf, IsProgram, the_limits}
use Rattle.u_program.specs.Parts.{StatementParts, BlockParts}
use Rattle.u_program.specs.declared.program.Destination.{Destination}
use Rattle.u_program.specs.declared.program.Version.{Version}
use Rattle.u_program.specs.declared.program.Kind.{Kind}
use Rattle.u_program.specs.declared.program.Kind.TheVariants.{Switch, Enter, Next, Last, Leave, Apply}
use Rattle.u_check.specs.Kinds.{ports_of, back_named, is_apply, is_end, is_of_loop, crosses, is_store}
use Rattle.u_check.specs.Rules.{sends, main_name, block_named, statement_at, held_by, IsChecked}
use Rattle.u_check.proofs.Arcs.{numbered}
use Rattle.u_check.proofs.Blocks.{named_member}
use Rattle.u_check.proofs.Facts.{Target, Returned, main_block, in_to, in_otherwise, held_is_loop, begin_first, enter_held, apply_returned, lies_in_loop, end_outside, target_exists, target_of_enter, target_of_leave, target_region}
use Rattle.u_base.proofs.Member.{Contains-nil, Contains-cons_cases}
use Rattle.u_check.proofs.KindTests.{few_ports}
use Rattle.u_rule.specs.Parts.{TokenParts, token, ValueList}
use Rattle.u_rule.specs.Fits.{statement_in, statement_of, holder_in, holder_of, fits, fits_at, IsPlaced, IsFitting, AllFit}
use Rattle.u_rule.specs.Rule.{is_firing_of, is_firing_at, has_its_form, given_with, beside, reached, refusal_of, list_of, result_of, first_of, delivered, handed_on, arguments_from, called_first, begun, called_on, called, back_of, brought_back, finished, ended, given, fault_of}
use Rattle.u_name.specs.Cell.{CellOf, cell_of}
use Rattle.u_rule.specs.Structures.{cell_named, wrote, stored, stored_in, is_answer, replied}
use Rattle.u_check.specs.Jobs.{JobParts}
use Rattle.u_rule.specs.declared.firing.Firing.{Firing}
use Rattle.u_rule.specs.declared.parts.Written.{Written}
use Rattle.u_rule.specs.HandingOn.{IsReachable, IsEndable}
use Rattle.u_rule.specs.declared.entry.Entry.{Entry}
use Rattle.u_rule.specs.declared.entry.Entry.TheVariants as entries
use Rattle.u_rule.proofs.Linkage.{mapped}
use Rattle.u_rule.proofs.Places.{Standing, standing, Looping, looping, Calling, calling, not_looping, each_turn, entering, calling_fits}
use Rattle.u_rule.specs.Parameters.{parameters_of}
use Rattle.u_rule.proofs.Firings.{at_statement}
use Rattle.u_rule.proofs.ParameterLaws.{Taker, named_by, takes}

-- a token at that statement of the block
placed : (p : List BlockParts) (b : BlockParts) (n : Activity) (port : ℕ) (v : Value) (t : StatementParts) → block_named p n.block ≡ Some b → statement_at b.statements n.statement ≡ Some t → fits_at p t.region n ≡ true → 1 ≤ port → port ≤ ports_of t.kind → IsPlaced p (token n port v)
placed p b n port v t q e f from to =
    record { it = t; stands = ap (λ (o : Option BlockParts). statement_in o n.statement) q ∙ e; fit = f; port = (from, to) }

-- what is alone and no token
none_fit : (p : List BlockParts) (a : Activity) (kind : FaultKind) → AllFit p (fault_of a kind ∷ [])
unfolding IsFitting
none_fit p a kind x m =
    elim (Contains-cons_cases (fault_of a kind) x [] m) [ inl e ↦ subst (λ (y : Entry). IsFitting p y) e tt | inr k ↦ absurd (Contains-nil x k) ]

answer_fits : (p : List BlockParts) (v : Value) → AllFit p (entries.Answer v ∷ [])
unfolding IsFitting
answer_fits p v x m =
    elim (Contains-cons_cases (entries.Answer v) x [] m) [ inl e ↦ subst (λ (y : Entry). IsFitting p y) e tt | inr k ↦ absurd (Contains-nil x k) ]

write_fits : (p : List BlockParts) (cell : CellOf) (a : Activity) (v : Value) → AllFit p (wrote cell a v ∷ [])
unfolding IsFitting
write_fits p cell a v x m =
    elim (Contains-cons_cases (wrote cell a v) x [] m) [ inl e ↦ subst (λ (y : Entry). IsFitting p y) e tt | inr k ↦ absurd (Contains-nil x k) ]

-- a `store` gives no token
stored_fit : (p : List BlockParts) (a : Activity) (r : Result CellOf FaultKind) (vs : ValueList) → AllFit p (stored_in a r vs)
stored_fit p a (Ok cell) (structure ∷ index ∷ v ∷ vs) = write_fits p cell a v
stored_fit p a (Ok cell) vs = none_fit p a faults.Kind
stored_fit p a (Err kind) vs = none_fit p a kind

-- nor does a reply
replied_fit : (p : List BlockParts) (a : Activity) (write : Option Written) → AllFit p (replied a write)
replied_fit p a None = λ x m. absurd (Contains-nil x m)
replied_fit p a (Some w) = write_fits p (cell_of a 0) w.writer w.value

one_fits : (p : List BlockParts) (t : TokenParts) → IsPlaced p t → AllFit p (entries.Token t ∷ [])
unfolding IsFitting
one_fits p t w x m =
    elim (Contains-cons_cases (entries.Token t) x [] m) [ inl e ↦ subst (λ (y : Entry). IsFitting p y) e w | inr k ↦ absurd (Contains-nil x k) ]

-- what a list of a statement names is among what it sends to
sends_listed : (k : Kind) (s : StatementParts) (vs : ValueList) (d : Destination) → Contains (list_of k s vs) d → Contains (sends s) d
sends_listed Switch s (v ∷ values.Bool false ∷ vs) d m = in_otherwise s d m
sends_listed k s vs d m = in_to s d m

-- a block of a program has a first statement
pub record Begun (p : List BlockParts) (name : List ℕ) : Type 0 where
  pub block : BlockParts
  pub first : StatementParts
  pub named : block_named p name ≡ Some block
  pub stands : statement_at block.statements 1 ≡ Some first
  pub region : first.region ≡ 0

module _ (p : List BlockParts) (c : IsChecked p) where
  -- a block that has a name begins in region 0
  begins : IsProgram the_limits p → (name : List ℕ) (b : BlockParts) → block_named p name ≡ Some b → Begun p name
  begins w name b q =
      let m = (named_member p name b q).0 in
      let i = All-contains (IsBlockOf the_limits) p b (All-from_recursion (IsBlockOf the_limits) p w.each) m in
      at b.statements refl i.some
    where
      at : (ss : List StatementParts) → b.statements ≡ ss → 1 ≤ length b.statements → Begun p name
      at [] z l = absurd (omega (arith, l, ap length z))
      at (x ∷ xs) z l =
          let e : slice_get b.statements 0 ≡ Some x = rw z refl in
          record { block = b; first = x; named = q; stands = numbered b.statements 0 ∙ e; region = (begin_first p c b (named_member p name b q).0 0 x e refl).1 }

  -- of a statement that an activity may execute
  module _ (s : StatementParts) (a : Activity) (e : statement_of p a.block a.statement ≡ Some s) (f : fits_at p s.region a ≡ true) where
    place : Standing p a.block a.statement s
    place = standing p a.block a.statement s e

    -- the context of an activity in a loop's region
    in_its_loop : 1 ≤ s.region → Looping p a.context a.block s.region
    in_its_loop l = looping p a.context a.block s.region a.initiation f l

    loop_region : is_of_loop s.kind ≡ true → 1 ≤ s.region
    loop_region q = lies_in_loop p c place.block place.member (a.statement - 1) s place.at_place q

    own_region : (d : Destination) → Contains (sends s) d → (g : Target place.block.statements d) → crosses s.kind ≡ false → g.it.region ≡ s.region
    own_region d w g q = target_region p c place.block place.member (a.statement - 1) s place.at_place d w g.it g.stands q

    -- a `leave` lies in a loop
    pub leaves_loop : IsReachable s.kind a
    leaves_loop = by_kind s.kind refl
      where
        in_loop : (u : Tree) → Looping p u a.block s.region → IsInLoop u
        in_loop u w = rw w.is tt

        by_kind : (k : Kind) → s.kind ≡ k → IsReachable k a
        by_kind Leave q = in_loop a.context (in_its_loop (loop_region (rw q refl)))
        by_kind k q = tt

    in_region : is_end s.kind ≡ true → fits p a.context a.block 0 a.initiation ≡ true
    in_region q =
        ap (λ (r : ℕ). fits p a.context a.block r a.initiation) (sym (end_outside p c place.block place.member (a.statement - 1) s place.at_place q)) ∙ f

    -- an `end` lies in the root or in a call
    pub ends_call : is_end s.kind ≡ true → IsEndable p a.context
    ends_call q = by_context a.context (in_region q)
      where
        by_kind : (k : Kind) → is_apply k ≡ true → IsTrue (is_some (back_named k))
        by_kind (Apply n w) h = refl
        by_kind k h = absurd (false≢true h)

        named_back : (o : Option StatementParts) (t : StatementParts) → o ≡ Some t → is_apply t.kind ≡ true → IsTrue (is_some (back_of o))
        named_back o t z h = rw z (by_kind t.kind h)

        by_context : (u : Tree) → fits p u a.block 0 a.initiation ≡ true → IsEndable p u
        by_context Top g = tt
        by_context (InLoop outer from number turn) g = absurd (not_looping p outer from number turn a.block a.initiation g)
        by_context (InCall outer from caller turn) g =
            let w = calling p outer from caller turn a.block 0 a.initiation g in
            named_back (statement_of p from caller) w.by w.stands w.applies

    -- out of a loop the block and the statement that entered it go on
    left_fits : (d : Destination) (v : Value) (g : Target place.block.statements d) → Looping p a.context a.block s.region → held_by place.block.loops s.region ≡ Some g.it.region → IsPlaced p (token (left a d.statement) d.port v)
    left_fits d v g w h =
        let l : left a d.statement ≡ activity w.outer a.block d.statement w.turn = rw w.is refl in
        let q : holder_of p a.block s.region ≡ Some g.it.region = ap (λ (o : Option BlockParts). holder_in o s.region) place.named ∙ h in
        let r : g.it.region ≡ w.holder = (let k = sym q ∙ w.held in cc) in
        rw l (placed p place.block (activity w.outer a.block d.statement w.turn) d.port v g.it place.named g.stands (rw r w.fit) g.port_from g.port_to)

    -- what a statement sends lies at a port of its destination
    sent_fits : (d : Destination) → Contains (sends s) d → (v : Value) → IsPlaced p (token (reached s.kind a d.statement) d.port v)
    sent_fits d w v =
        by_kind s.kind refl (target_exists p c place.block place.member (a.statement - 1) s place.at_place d w)
      where
        near : (n : Activity) (g : Target place.block.statements d) → n.block ≡ a.block → n.statement ≡ d.statement → fits_at p g.it.region n ≡ true → IsPlaced p (token n d.port v)
        near n g x y z =
            placed p place.block n d.port v g.it (ap (block_named p) x ∙ place.named) (ap (statement_at place.block.statements) y ∙ g.stands) z g.port_from g.port_to

        by_kind : (k : Kind) → s.kind ≡ k → Target place.block.statements d → IsPlaced p (token (reached k a d.statement) d.port v)
        by_kind (Enter l) q g =
            let h = enter_held p c place.block place.member (a.statement - 1) s place.at_place l q in
            let r = target_of_enter p c place.block place.member (a.statement - 1) s place.at_place d w g.it g.stands l q in
            near (reached (Enter l) a d.statement) g refl refl
            (rw r (entering p a.context a.block place.block l s.region a.initiation 1 place.named h (held_is_loop place.block.loops l s.region h).0 f))
        by_kind Next q g =
            let r = own_region d w g (rw q refl) in
            near (reached Next a d.statement) g refl refl (rw r (each_turn p a.context a.block s.region a.initiation (a.initiation + 1) f (loop_region (rw q refl))))
        by_kind Last q g =
            let r = own_region d w g (rw q refl) in
            near (reached Last a d.statement) g refl refl (rw r (each_turn p a.context a.block s.region a.initiation 1 f (loop_region (rw q refl))))
        by_kind Leave q g =
            left_fits d v g (in_its_loop (loop_region (rw q refl))) (target_of_leave p c place.block place.member (a.statement - 1) s place.at_place d w g.it g.stands (rw q refl))
        by_kind k q g = let r = own_region d w g (rw q refl) in near (beside a d.statement) g refl refl (rw r f)

    delivered_fit : (o : Option FaultKind) (v : Value) (to : List Destination) → ((d : Destination) → Contains to d → Contains (sends s) d) → AllFit p (delivered o s.kind a to v)
    unfolding IsFitting
    delivered_fit None v to w x m =
        let q = mapped (reached s.kind a) v to x m in
        subst (λ (y : Entry). IsFitting p y) q.2 (sent_fits q.0 (w q.0 q.1) v)
    delivered_fit (Some why) v to w x m = none_fit p a why x m

    handed_fit : (version : Version) (vs : ValueList) (r : Result Value FaultKind) → AllFit p (handed_on version s.kind a (list_of s.kind s vs) r)
    handed_fit version vs (Ok v) = delivered_fit (refusal_of version s.kind a) v (list_of s.kind s vs) (sends_listed s.kind s vs)
    handed_fit version vs (Err kind) = none_fit p a kind

    -- of a block that is called
    module _ (lim : IsProgram the_limits p) (q : is_apply s.kind ≡ true) (name : List ℕ) (b : BlockParts) (n : block_named p name ≡ Some b) where
      -- a parameter has its statement, and the argument lies there
      taken : (k : ℕ) → 1 ≤ k → k ≤ parameters_of b → Taker b.statements k
      taken = takes p c b (named_member p name b n).0 (first (begins lim name b n))
        where
          first : Begun p name → Taker b.statements 1
          first w = (let same : w.block ≡ b = (let k = sym w.named ∙ n in cc) in
              record { it = w.first; stands = ap (λ (x : BlockParts). statement_at x.statements 1) (sym same) ∙ w.stands; region = w.region })

      argument_fits : (k : ℕ) (v : Value) → 1 ≤ k → k ≤ parameters_of b → IsPlaced p (token (beside (called_first a name) k) 1 v)
      argument_fits k v low high =
          let w = taken k low high in
          placed p b (beside (called_first a name) k) 1 v w.it n w.stands
          (rw w.region (calling_fits p a.context a.block a.statement a.initiation s name e q (named_by p name b n) f)) (omega arith) (few_ports w.it.kind).0

      arguments_fit : (k : ℕ) (vs : ValueList) → 1 ≤ k → k + length vs ≤ parameters_of b + 1 → AllFit p (arguments_from (called_first a name) k vs)
      unfolding IsFitting
      arguments_fit k [] low high x m = absurd (Contains-nil x m)
      arguments_fit k (v ∷ vs) low high x m =
          elim (Contains-cons_cases (entries.Token (token (beside (called_first a name) k) 1 v)) x (arguments_from (called_first a name) (k + 1) vs) m) [
            | inl g ↦ subst (λ (y : Entry). IsFitting p y) g (argument_fits k v low (omega (arith, high)))
            | inr h ↦ arguments_fit (k + 1) vs (omega arith) (omega (arith, high)) x h
          ]

      -- a call begins where the block begins
      begun_fit : (vs : ValueList) → length vs ≡ parameters_of b → AllFit p (begun a name vs)
      begun_fit vs l = at (depth a.context == 64)
        where
          at : (x : Bool) → AllFit p (cond x (fault_of a faults.Deep ∷ []) (arguments_from (called_first a name) 1 vs))
          at true = none_fit p a faults.Deep
          at false = arguments_fit 1 vs (omega arith) (omega (arith, l))

      called_on_fit : (vs : ValueList) → AllFit p (called_on (Some b) a name vs)
      called_on_fit vs = at (length vs == parameters_of b) refl
        where
          at : (x : Bool) → (length vs == parameters_of b) ≡ x → AllFit p (cond x (begun a name vs) (fault_of a faults.Arity ∷ []))
          at true l = begun_fit vs (eqb-true (length vs) (parameters_of b) l)
          at false l = none_fit p a faults.Arity

    called_fit : IsProgram the_limits p → is_apply s.kind ≡ true → (vs : ValueList) → AllFit p (called p a vs)
    called_fit lim q (values.Proc name ∷ vs) = at (block_named p name) refl
      where
        at : (o : Option BlockParts) → block_named p name ≡ o → AllFit p (called_on o a name vs)
        at None n = none_fit p a faults.Kind
        at (Some b) n = called_on_fit lim q name b n vs
    called_fit lim q vs = none_fit p a faults.Kind

    -- a result comes back to the `back` of its `apply`
    returned_fits : (outer : Tree) (from : List ℕ) (caller turn : ℕ) (v : Value) → a.context ≡ InCall outer from caller turn → Calling p outer from caller turn → AllFit p (brought_back a v (back_of (statement_of p from caller)))
    returned_fits outer from caller turn v z w = rw w.stands (by_kind w.by.kind refl)
      where
        there : Standing p from caller w.by
        there = standing p from caller w.by w.stands

        back : (n : ℕ) → Returned there.block.statements w.by.region n → IsPlaced p (token (returned a n) 1 v)
        back n g =
            let l : returned a n ≡ activity outer from n turn = rw z refl in
            rw l (placed p there.block (activity outer from n turn) 1 v g.it there.named g.stands (rw g.in_region w.fit) (omega arith) (few_ports g.it.kind).0)

        by_kind : (k : Kind) → w.by.kind ≡ k → AllFit p (brought_back a v (back_named k))
        by_kind (Apply n i) q =
            one_fits p (token (returned a n) 1 v) (back n (apply_returned p c there.block there.member (caller - 1) w.by there.at_place n i q))
        by_kind k q = absurd (false≢true (ap is_apply (sym q) ∙ w.applies))

    finished_fit : is_end s.kind ≡ true → (v : Value) → AllFit p (finished p a a.context v)
    finished_fit q v = by_context a.context refl (in_region q)
      where
        by_context : (u : Tree) → a.context ≡ u → fits p u a.block 0 a.initiation ≡ true → AllFit p (finished p a u v)
        by_context Top z g = answer_fits p v
        by_context (InLoop outer from number turn) z g = absurd (not_looping p outer from number turn a.block a.initiation g)
        by_context (InCall outer from caller turn) z g =
            returned_fits outer from caller turn v z (calling p outer from caller turn a.block 0 a.initiation g)

    ended_fit : is_end s.kind ≡ true → (r : Result Value FaultKind) → AllFit p (ended p a r)
    ended_fit q (Ok v) = finished_fit q v
    ended_fit q (Err kind) = none_fit p a kind

    given_fit : (version : Version) → IsProgram the_limits p → (vs : ValueList) (write : Option Written) → AllFit p (given version p s a vs write)
    given_fit version lim vs write = at (is_apply s.kind) (is_end s.kind) (is_store s.kind) refl refl
      where
        at : (x y z : Bool) → is_apply s.kind ≡ x → is_end s.kind ≡ y → AllFit p (cond x (called p a vs) (cond y (ended p a (first_of vs)) (cond z (stored a vs) (handed_on version s.kind a (list_of s.kind s vs) (result_of s.kind a vs write)))))
        at true y z q h = called_fit lim q vs
        at false true z q h = ended_fit h (first_of vs)
        at false false true q h = stored_fit p a (cell_named vs) vs
        at false false false q h = handed_fit version vs (result_of s.kind a vs write)

  given_with_fit : (s : StatementParts) (a : Activity) → statement_of p a.block a.statement ≡ Some s → fits_at p s.region a ≡ true → (version : Version) → IsProgram the_limits p → (vs : ValueList) (write : Option Written) → AllFit p (given_with version p s a vs write)
  given_with_fit s a e f version lim vs write = at (is_answer s.kind write)
    where
      at : (x : Bool) → AllFit p (cond x (replied a write) (given version p s a vs write))
      at true = replied_fit p a write
      at false = given_fit s a e f version lim vs write

  -- what a firing gives where its activity may execute the statement
  pub all_given_fit : (es : List Entry) (version : Version) (s : StatementParts) (a : Activity) (vs : ValueList) (write : Option Written) → es ≡ given_with version p s a vs write → IsProgram the_limits p → statement_of p a.block a.statement ≡ Some s → fits_at p s.region a ≡ true → AllFit p es
  all_given_fit es version s a vs write z lim e f = rw z (given_with_fit s a e f version lim vs write)

  -- the argument lies at the first statement of `main`
  started : IsProgram the_limits p → (v : Value) → IsPlaced p (token (activity Top main_name 1 1) 1 v)
  started lim v =
      let m = main_block p c in
      first (begins lim main_name m.0 m.1)
    where
      first : Begun p main_name → IsPlaced p (token (activity Top main_name 1 1) 1 v)
      first w = placed p w.block (activity Top main_name 1 1) 1 v w.first w.named w.stands (rw w.region refl) (omega arith) (few_ports w.first.kind).0

  pub start_fits : (e : Entry) (v : Value) → e ≡ entries.Token (token (activity Top main_name 1 1) 1 v) → IsProgram the_limits p → IsFitting p e
  unfolding IsFitting
  start_fits e v z lim = subst (λ (x : Entry). IsFitting p x) (sym z) (started lim v)

-- the activity of a firing of a statement fits in its region
pub at_region : (p : List BlockParts) (s : StatementParts) (f : Firing) → is_firing_at p (Some s) f ≡ true → fits_at p s.region f.activity ≡ true
at_region p s f e = (and_parts (fits_at p s.region f.activity) (has_its_form s f) e).0

-- the activity of a firing fits
pub firing_fits : (job : JobParts) (f : Firing) (s : StatementParts) → is_firing_of job f ≡ true → statement_of job.program.blocks f.activity.block f.activity.statement ≡ Some s → fits_at job.program.blocks s.region f.activity ≡ true
firing_fits job f s e q = at_region job.program.blocks s f (rw q at (at_statement job f e))
