-- What holds of a program that breaks no rule.
use Rattle.std.proofs.Common.{◌≡◌, ℕ, zero, suc, ◌+◌, ◌-◌, ◌<◌, ◌≤◌, inl, inr, refl, sym, ap, ◌∙◌, arith, eq-eqb, Bool, true, false, ◌&&◌, ◌||◌, ◌==◌, not, List, [], ◌∷◌, length, get_or, take, Option, Some, None}
use Rattle.std.specs.Prelude.{slice_get, Contains, nat_le, if◌then◌else◌}
use Rattle.std.specs.List.{list_all, range_with_len}
use Rattle.std.proofs.lemmas.Bool.{false≢true, and_parts, or_cases, leb-true, eqb-true, not-true, true_from_ne_false, ne_eqb}
use Rattle.std.proofs.lemmas.List.Sums.{AllPass-from_list_all}
use Rattle.std.proofs.lemmas.List.Elements.{All-contains, Contains-append_left, Contains-append_right}
use Rattle.std.proofs.lemmas.List.Folds.{Any-from_list_any}
use Rattle.std.proofs.lemmas.Option.{slice_get-get_or, slice_get_within}
use Rattle.std.proofs.lemmas.List.FromFn.{get_or-range_with_len, length-range_with_len}
use Rattle.u_program.specs.declared.program.Constant.TheVariants as constants
use Rattle.u_program.specs.declared.program.Kind.{Kind}
use Rattle.u_program.specs.declared.program.Kind.TheVariants.{Const, Enter, Apply, Param, Back}
use Rattle.u_program.specs.declared.program.Arguments.{Arguments}
use Rattle.u_program.specs.declared.program.Parameter.{Parameter}
use Rattle.u_program.specs.declared.program.Destination.{Destination}
use Rattle.u_program.specs.Limits.{AreLoops, place_of}
use Rattle.u_program.specs.Parts.{StatementParts, BlockParts}
use Rattle.u_check.specs.declared.rule.Rule.{Rule}
use Rattle.u_check.specs.declared.rule.Rule.TheVariants.{BlockNamesDiffer, MainExists, BeginComesFirst, RegionExists, DestinationExists, BeginAndBackTakeNothing, EnterReachesItsLoop, ApplyNamesBack, BackIsNamed, ConstantNamesBlock, LoopStatementsInLoops, LastSendsToLeave, LeaveSendsOut, EndInOuterRegion, OwnRegion, PortsAreFed, ParamsComeInOrder, MainTakesOne}
use Rattle.u_check.specs.Kinds.{ports_of, is_begin, is_param, is_back, is_last, is_leave, is_end, comes_from_outside, is_of_loop, crosses}
use Rattle.u_check.specs.Rules.{main_name, same_name, names_block, follows_params, comes_in_order, block_named, statement_at, held_by, sends, begins_well, is_outer, has_port, reaches, takes_tokens, lies_in, holds, enters_inward, lies_in_entered, is_back_in, names_back, applies_to, is_applied, leaves_after_last, lies_in_some, gives_block, sends_to, is_fed, is_whole, program_keeps, block_keeps, itself_keeps, destination_keeps, statement_keeps, IsChecked}
use Rattle.u_check.proofs.First.{statement_breaks, at_place}
use Rattle.u_check.proofs.Blocks.{place_of_member, named_first, named_some}
use Rattle.u_check.proofs.KindTests.{back_kind}

-- a destination and the statement that it names
pub record Target (ss : List StatementParts) (d : Destination) : Type 0 where
  pub it : StatementParts
  pub stands : statement_at ss d.statement ≡ Some it
  pub port_from : 1 ≤ d.port
  pub port_to : d.port ≤ ports_of it.kind

-- a statement with a destination at that port of statement n
pub record Sender (ss : List StatementParts) (n port : ℕ) : Type 0 where
  pub it : StatementParts
  pub stands : Contains ss it
  pub to : Destination
  pub sends_there : Contains (sends it) to
  pub to_statement : to.statement ≡ n
  pub to_port : to.port ≡ port

pass_of : {X : Type 0} (test : X → Bool) (xs : List X) (x : X) → list_all test xs ≡ true → Contains xs x → test x ≡ true
pass_of {X} test xs x e m = All-contains (λ (y : X). test y ≡ true) xs x (AllPass-from_list_all test xs e) m

begins_first : (s : StatementParts) → begins_well 1 s ≡ true → (is_begin s.kind ≡ true) × (s.region ≡ 0)
unfolding begins_well
begins_first s e =
    let k = and_parts (is_begin s.kind) (is_outer s) e in
    (k.0, eqb-true s.region 0 k.1)

begins_later : (k : ℕ) (s : StatementParts) → begins_well (suc (suc k)) s ≡ true → is_begin s.kind ≡ false
unfolding begins_well
begins_later k s e =
    let n : (suc (suc k) == 1) ≡ false = ne_eqb (suc (suc k)) 1 (λ h. omega arith) in
    not-true (is_begin s.kind) (rw n at e)

has_port_of : (ss : List StatementParts) (d : Destination) (o : Option StatementParts) → statement_at ss d.statement ≡ o → 1 ≤ d.port → has_port o d.port ≡ true → Target ss d
has_port_of ss d None e b h = absurd (false≢true h)
has_port_of ss d (Some t) e b h = record { it = t; stands = e; port_from = b; port_to = leb-true d.port (ports_of t.kind) h }

target : (ss : List StatementParts) (d : Destination) → reaches ss d ≡ true → Target ss d
unfolding reaches
target ss d e =
    let b = and_parts (nat_le 1 d.port) (has_port (statement_at ss d.statement) d.port) e in
    has_port_of ss d (statement_at ss d.statement) refl (leb-true 1 d.port b.0) b.1

-- the statement that an `apply` in that region names, which is a `back` in it
pub record Returned (ss : List StatementParts) (region n : ℕ) : Type 0 where
  pub it : StatementParts
  pub stands : statement_at ss n ≡ Some it
  pub is_a_back : it.kind ≡ Back
  pub in_region : it.region ≡ region

-- an `apply` that names statement n
pub record Applied (ss : List StatementParts) (n : ℕ) : Type 0 where
  pub it : StatementParts
  pub stands : Contains ss it
  pub arguments : Arguments
  pub names : it.kind ≡ Apply n arguments

-- what is in one of a statement's lists is sent to
pub in_to : (s : StatementParts) (d : Destination) → Contains s.to d → Contains (sends s) d
in_to s d w = Contains-append_left s.to s.otherwise d w

pub in_otherwise : (s : StatementParts) (d : Destination) → Contains s.otherwise d → Contains (sends s) d
in_otherwise s d w = Contains-append_right s.to s.otherwise d w

procedure : (p : List BlockParts) (name : List ℕ) → gives_block p (Const (constants.Proc name)) ≡ true → names_block p name ≡ true
unfolding gives_block
procedure p name e = e

entered_from : (loops : List ℕ) (region l : ℕ) (o : Option ℕ) → held_by loops l ≡ o → holds region o ≡ true → held_by loops l ≡ Some region
entered_from loops region l None q e = absurd (false≢true e)
entered_from loops region l (Some h) q e = q ∙ ap (λ (r : ℕ). Some r) (sym (eqb-true region h e))

entered : (loops : List ℕ) (region l : ℕ) → enters_inward loops region (Enter l) ≡ true → held_by loops l ≡ Some region
unfolding enters_inward
entered loops region l e = entered_from loops region l (held_by loops l) refl e

entered_into : (l : ℕ) (t : StatementParts) → lies_in_entered (Enter l) (Some t) ≡ true → l ≡ t.region
unfolding lies_in_entered
entered_into l t e = eqb-true l t.region e

returned_from : (ss : List StatementParts) (region n : ℕ) (o : Option StatementParts) → statement_at ss n ≡ o → is_back_in region o ≡ true → Returned ss region n
returned_from ss region n None q e = absurd (false≢true e)
returned_from ss region n (Some t) q e =
    let a = and_parts (is_back t.kind) (region == t.region) e in
    record { it = t; stands = q; is_a_back = back_kind t.kind a.0; in_region = sym (eqb-true region t.region a.1) }

returned : (ss : List StatementParts) (region n : ℕ) (c : Arguments) → names_back ss region (Apply n c) ≡ true → Returned ss region n
unfolding names_back
returned ss region n c e =
    returned_from ss region n (statement_at ss n) refl e

apply_of : (n : ℕ) (k : Kind) → applies_to n k ≡ true → (c : Arguments) × (k ≡ Apply n c)
apply_of n (Apply m c) e = (c, ap (λ (j : ℕ). Apply j c) (eqb-true m n e))
apply_of n k e = absurd (false≢true e)

applied : (ss : List StatementParts) (n : ℕ) → is_applied ss n ≡ true → Applied ss n
unfolding is_applied
applied ss n e =
    let a = Any-from_list_any (λ (s : StatementParts). applies_to n s.kind) ss e in
    let k = apply_of n a.1.kind a.4 in
    record { it = a.1; stands = (a.0, a.2, a.3); arguments = k.0; names = k.1 }

sender : (ss : List StatementParts) (n port : ℕ) → is_fed ss n port ≡ true → Sender ss n port
unfolding is_fed sends_to
sender ss n port e =
    let a = Any-from_list_any (λ (s : StatementParts). sends_to s n port) ss e in
    let b = Any-from_list_any (λ (d : Destination). d.statement == n && d.port == port) (sends a.1) a.4 in
    let c = and_parts (b.1.statement == n) (b.1.port == port) b.4 in
    record { it = a.1; stands = (a.0, a.2, a.3); to = b.1; sends_there = (b.0, b.2, b.3); to_statement = eqb-true b.1.statement n c.0; to_port = eqb-true b.1.port port c.1 }

whole : (ss : List StatementParts) (n : ℕ) (kind : Kind) → is_whole ss n kind ≡ true → comes_from_outside kind ≡ false → (port : ℕ) → 1 ≤ port → port ≤ ports_of kind → is_fed ss n port ≡ true
unfolding is_whole
whole ss n kind e ne port from to =
    let all : list_all (λ (j : ℕ). is_fed ss n j) (range_with_len 1 (ports_of kind)) ≡ true = elim (or_cases (comes_from_outside kind) (list_all (λ (j : ℕ). is_fed ss n j) (range_with_len 1 (ports_of kind))) e) [ inl b ↦ absurd (false≢true (sym ne ∙ b)) | inr r ↦ r ] in
    let r = get_or-range_with_len 1 (ports_of kind) (port - 1) port (omega arith) in
    let l = length-range_with_len 1 (ports_of kind) in
    pass_of (λ (j : ℕ). is_fed ss n j) (range_with_len 1 (ports_of kind)) port all (port - 1, omega arith, omega arith)

ordered : (ss : List StatementParts) (n : ℕ) (s : StatementParts) (q : Parameter) → comes_in_order ss n s (Param q) ≡ true → (n ≡ place_of q) × (s.region ≡ 0) × (follows_params ss q ≡ true)
unfolding comes_in_order
ordered ss n s q e =
    let a = and_parts (n == place_of q && is_outer s) (follows_params ss q) e in
    let b = and_parts (n == place_of q) (is_outer s) a.0 in
    (eqb-true n (place_of q) b.0, eqb-true s.region 0 b.1, a.1)

no_main : (a b : Bool) → (not a || not b) ≡ true → b ≡ true → a ≡ false
no_main false b e f = refl
no_main true true e f = absurd (false≢true e)
no_main true false e f = absurd (false≢true f)

-- of two tests of which one holds, the other holds where the first does not
other : (a b : Bool) → (a || b) ≡ true → a ≡ false → b ≡ true
other true b e f = absurd (false≢true (sym f))
other false b e f = e

not_other : (a b : Bool) → (not a || b) ≡ true → a ≡ true → b ≡ true
not_other true b e f = e
not_other false b e f = absurd (false≢true f)

leave_of_last : (last leave : Bool) → (if last then leave else not leave) ≡ true → last ≡ leave
leave_of_last true true e = refl
leave_of_last true false e = absurd (false≢true e)
leave_of_last false true e = absurd (false≢true e)
leave_of_last false false e = refl

lies_out : (o : Option ℕ) (t : StatementParts) → lies_in_some o (Some t) ≡ true → o ≡ Some t.region
lies_out None t e = absurd (false≢true e)
lies_out (Some h) t e = ap (λ (r : ℕ). Some r) (eqb-true h t.region e)

-- a region of a block that is not 0 is held by one
pub region_is_held : (loops : List ℕ) (region : ℕ) → 1 ≤ region → region ≤ length loops → (h : ℕ) × (held_by loops region ≡ Some h)
unfolding held_by
region_is_held loops region from to =
    let n : (region == 0) ≡ false = ne_eqb region 0 (λ e. omega arith) in
    let g = slice_get-get_or loops (region - 1) 0 (omega arith) in
    (get_or loops (region - 1) 0, rw n g)

-- a loop that is held is one of the block
pub held_is_loop : (loops : List ℕ) (l h : ℕ) → held_by loops l ≡ Some h → (1 ≤ l) × (l ≤ length loops)
unfolding held_by
held_is_loop loops l h e = held_at (l == 0) refl
  where
    held_at : (z : Bool) → (l == 0) ≡ z → (1 ≤ l) × (l ≤ length loops)
    held_at true q = let k = rw q at e in cc
    held_at false q =
        let k : slice_get loops (l - 1) ≡ Some h = rw q at e in
        let w = slice_get_within loops (l - 1) h k in
        let n : l ≡ 0 → ⊥ = λ z. false≢true (sym q ∙ eq-eqb l 0 z) in
        (omega arith, omega arith)

-- by a region of a smaller number
pub held_by_smaller : (loops : List ℕ) (l h : ℕ) → AreLoops 1 loops → held_by loops l ≡ Some h → (h < l) × (h ≤ 99)
unfolding held_by
held_by_smaller loops l h a e = below (l == 0) refl
  where
    counted : (n : ℕ) (hs : List ℕ) (i : ℕ) → AreLoops n hs → slice_get hs i ≡ Some h → (h < n + i) × (h ≤ 99)
    counted n [] i v q = cc
    counted n (x ∷ xs) zero v q =
        let z : x ≡ h = cc in
        (omega (arith, v.0), omega (arith, v.1))
    counted n (x ∷ xs) (suc i) v q =
        let r = counted (suc n) xs i v.2 q in
        (omega (arith, r.0), r.1)

    below : (z : Bool) → (l == 0) ≡ z → (h < l) × (h ≤ 99)
    below true q = let k = rw q at e in cc
    below false q =
        let k : slice_get loops (l - 1) ≡ Some h = rw q at e in
        let n : l ≡ 0 → ⊥ = λ z. false≢true (sym q ∙ eq-eqb l 0 z) in
        let r = counted 1 loops (l - 1) a k in
        (omega (arith, r.0), r.1)

module _ (p : List BlockParts) (c : IsChecked p) where
  keeps_program : (rule : Rule) → program_keeps rule p ≡ true
  keeps_program rule =
      true_from_ne_false (program_keeps rule p) (λ e. c.keeps_all rule 0 0 (inl (record { broken = e; no_block = refl; no_statement = refl })))

  keeps_block : (rule : Rule) (i : ℕ) (b : BlockParts) → slice_get p i ≡ Some b → block_keeps rule p (i + 1) b ≡ true
  keeps_block rule i b e =
      true_from_ne_false (block_keeps rule p (i + 1) b) (λ k. c.keeps_all rule (i + 1) 0 (inr (inl (record { counts = omega arith; it = b; stands = at_place p i ∙ e; broken = k; no_statement = refl }))))

  -- a block is the one of its name
  pub block_by_name : (b : BlockParts) → Contains p b → block_named p b.name ≡ Some b
  block_by_name b m =
      let i = place_of_member p b m in
      let e : i.0 + 1 - 1 ≡ i.0 = omega arith in
      let k = not-true (names_block (take (i.0 + 1 - 1) p) b.name) (keeps_block BlockNamesDiffer i.0 b i.1) in
      named_first p i.0 b i.1 (rw e at k)

  pub same_block : (a b : BlockParts) → Contains p a → Contains p b → a.name ≡ b.name → a ≡ b
  same_block a b m n e =
      let x = block_by_name a m in
      let y = block_by_name b n in
      let z : block_named p a.name ≡ block_named p b.name = ap (block_named p) e in
      cc

  -- there is a block `main`
  pub main_block : (b : BlockParts) × (block_named p main_name ≡ Some b)
  main_block = named_some p main_name (keeps_program MainExists)

  -- of a statement of a block
  module _ (b : BlockParts) (m : Contains p b) (k : ℕ) (s : StatementParts) (e : slice_get b.statements k ≡ Some s) where
    keeps_statement : (rule : Rule) → statement_keeps rule p b (k + 1) s ≡ true
    keeps_statement rule =
        let i = place_of_member p b m in
        true_from_ne_false (statement_keeps rule p b (k + 1) s)
        (λ w. c.keeps_all rule (i.0 + 1) (k + 1) (inr (inr (record { counts = omega arith; it = b; stands = at_place p i.0 ∙ i.1; breach = statement_breaks p rule b k s e w }))))

    keeps_parts : (rule : Rule) → (itself_keeps rule p b (k + 1) s ≡ true) × (list_all (λ (d : Destination). destination_keeps rule b s d) (sends s) ≡ true)
    unfolding statement_keeps
    keeps_parts rule =
        and_parts (itself_keeps rule p b (k + 1) s) (list_all (λ (d : Destination). destination_keeps rule b s d) (sends s)) (keeps_statement rule)

    keeps_itself : (rule : Rule) → itself_keeps rule p b (k + 1) s ≡ true
    keeps_itself rule = (keeps_parts rule).0

    keeps_destination : (rule : Rule) (d : Destination) → Contains (sends s) d → destination_keeps rule b s d ≡ true
    keeps_destination rule d w =
        pass_of (λ (x : Destination). destination_keeps rule b s x) (sends s) d (keeps_parts rule).1 w

    -- statement 1 of a block is `begin` in region 0
    pub begin_first : k ≡ 0 → (is_begin s.kind ≡ true) × (s.region ≡ 0)
    begin_first z = begins_first s (rw z at keeps_itself BeginComesFirst)

    -- and no other is
    pub begin_only : is_begin s.kind ≡ true → k ≡ 0
    begin_only h = only k refl
      where
        only : (j : ℕ) → k ≡ j → k ≡ 0
        only zero q = q
        only (suc j) q =
            let n : k + 1 ≡ suc (suc j) = omega arith in
            let w = keeps_itself BeginComesFirst in
            absurd (false≢true (sym (begins_later j s (rw n at w)) ∙ h))

    -- its region is 0 or a loop of the block
    pub region_exists : s.region ≤ length b.loops
    region_exists = leb-true s.region (length b.loops) (keeps_itself RegionExists)

    -- the loop of an `enter` is held by its region
    pub enter_held : (l : ℕ) → s.kind ≡ Enter l → held_by b.loops l ≡ Some s.region
    enter_held l q = entered b.loops s.region l (sym (ap (enters_inward b.loops s.region) q) ∙ keeps_itself EnterReachesItsLoop)

    -- an `apply` names a `back` in its region
    pub apply_returned : (n : ℕ) (c : Arguments) → s.kind ≡ Apply n c → Returned b.statements s.region n
    apply_returned n c q = returned b.statements s.region n c (sym (ap (names_back b.statements s.region) q) ∙ keeps_itself ApplyNamesBack)

    -- some `apply` names a `back`
    pub back_applied : is_back s.kind ≡ true → Applied b.statements (k + 1)
    back_applied q = applied b.statements (k + 1) (not_other (is_back s.kind) (is_applied b.statements (k + 1)) (keeps_itself BackIsNamed) q)

    -- a `next`, a `last` and a `leave` lie in a loop
    pub lies_in_loop : is_of_loop s.kind ≡ true → 1 ≤ s.region
    lies_in_loop q =
        let h = not-true (is_outer s) (not_other (is_of_loop s.kind) (not (is_outer s)) (keeps_itself LoopStatementsInLoops) q) in
        let n : s.region ≡ 0 → ⊥ = λ z. false≢true (sym h ∙ eq-eqb s.region 0 z) in
        omega arith

    -- which some region holds
    pub loop_is_held : is_of_loop s.kind ≡ true → (h : ℕ) × (held_by b.loops s.region ≡ Some h)
    loop_is_held q = region_is_held b.loops s.region (lies_in_loop q) region_exists

    -- an `end` lies in region 0
    pub end_outside : is_end s.kind ≡ true → s.region ≡ 0
    end_outside q = eqb-true s.region 0 (not_other (is_end s.kind) (is_outer s) (keeps_itself EndInOuterRegion) q)

    -- a procedure that a statement gives is that of a block
    pub procedure_exists : (name : List ℕ) → s.kind ≡ Const (constants.Proc name) → (t : BlockParts) × (block_named p name ≡ Some t)
    procedure_exists name q =
        named_some p name (procedure p name (sym (ap (gives_block p) q) ∙ keeps_itself ConstantNamesBlock))

    -- a `param` stands in region 0, at the number of its parameter and behind those of the ones before it
    pub param_in_order : (q : Parameter) → s.kind ≡ Param q → (k + 1 ≡ place_of q) × (s.region ≡ 0) × (follows_params b.statements q ≡ true)
    param_in_order q e = ordered b.statements (k + 1) s q (sym (ap (comes_in_order b.statements (k + 1) s) e) ∙ keeps_itself ParamsComeInOrder)

    -- `main` has none
    pub main_takes_one : same_name b.name main_name ≡ true → is_param s.kind ≡ false
    main_takes_one e = no_main (is_param s.kind) (same_name b.name main_name) (keeps_itself MainTakesOne) e

    -- every port of a statement that is no `begin`, no `param` and no `back` is some destination of the block
    pub port_fed : comes_from_outside s.kind ≡ false → (port : ℕ) → 1 ≤ port → port ≤ ports_of s.kind → Sender b.statements (k + 1) port
    port_fed ne port from to =
        sender b.statements (k + 1) port (whole b.statements (k + 1) s.kind (keeps_itself PortsAreFed) ne port from to)

    -- of a destination
    module _ (d : Destination) (w : Contains (sends s) d) where
      -- a destination names a statement of the block and a port of it
      pub target_exists : Target b.statements d
      target_exists = target b.statements d (keeps_destination DestinationExists d w)

      -- of the statement there
      module _ (t : StatementParts) (q : statement_at b.statements d.statement ≡ Some t) where
        -- that is no `begin`, no `param` and no `back`
        pub target_takes : comes_from_outside t.kind ≡ false
        target_takes = not-true (comes_from_outside t.kind) (sym (ap takes_tokens q) ∙ keeps_destination BeginAndBackTakeNothing d w)

        -- from an `enter`, that lies in its loop
        pub target_of_enter : (l : ℕ) → s.kind ≡ Enter l → t.region ≡ l
        target_of_enter l z =
            let h = keeps_destination EnterReachesItsLoop d w in
            sym (entered_into l t (rw (z, q) at h))

        -- that is a `leave` where the sender is a `last`, and only there
        pub leave_from_last : is_last s.kind ≡ is_leave t.kind
        leave_from_last = leave_of_last (is_last s.kind) (is_leave t.kind) (sym (ap (leaves_after_last (is_last s.kind)) q) ∙ keeps_destination LastSendsToLeave d w)

        -- from a `leave`, that lies in the region that holds its loop
        pub target_of_leave : is_leave s.kind ≡ true → held_by b.loops s.region ≡ Some t.region
        target_of_leave z =
            let h = not_other (is_leave s.kind) (lies_in_some (held_by b.loops s.region) (statement_at b.statements d.statement)) (keeps_destination LeaveSendsOut d w) z in
            lies_out (held_by b.loops s.region) t (sym (ap (lies_in_some (held_by b.loops s.region)) q) ∙ h)

        -- from any other, that lies in its own region
        pub target_region : crosses s.kind ≡ false → t.region ≡ s.region
        target_region z =
            let h = other (crosses s.kind) (lies_in s.region (statement_at b.statements d.statement)) (keeps_destination OwnRegion d w) z in
            sym (eqb-true s.region t.region (sym (ap (lies_in s.region) q) ∙ h))
