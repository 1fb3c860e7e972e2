-- A graph of which everything was noted stays one with one statement, one loop and one link more, and where a test
-- becomes known or a statement is finished.
use Rattle.std.proofs.Common.{◌≡◌, ℕ, zero, suc, ◌+◌, ◌<◌, ◌≤◌, ◌⊎◌, inl, inr, refl, sym, ap, ◌∙◌, subst, arith, Bool, true, false, not, ◌==◌, List, [], ◌∷◌, ◌++◌, map, length, Some, get_or, cond}
use Rattle.std.specs.Prelude.{◌&&◌}
use Rattle.std.proofs.lemmas.Bool.{false≢true, eq-eqb, ne_eqb, cond-false}
use Rattle.std.proofs.lemmas.List.{length-append}
use Rattle.u_program.specs.declared.program.Kind.{Kind}
use Rattle.u_program.specs.declared.program.Kind.TheVariants.{Switch, Enter, Next, Leave, Apply, End}
use Rattle.u_check.specs.Kinds.{back_named, is_leave, is_end}
use Rattle.u_compile.specs.declared.graph.Link.{Link}
use Rattle.u_compile.specs.declared.graph.Output.{Output}
use Rattle.u_compile.specs.declared.placed.Test.{Test}
use Rattle.u_compile.specs.Drafts.{DraftParts}
use Rattle.u_compile.specs.Graphs.{graph, link, draft_at, is_next, IsGraph}
use Rattle.u_compile.specs.Fanning.{holder}
use Rattle.u_compile.specs.Scoped.{GuardedRegionParts, guard, IsOf, GoesWell, AreApart, IsControlled, IsCalled, IsScoped}
use Rattle.u_compile.specs.Orderly.{LeavesWell}
use Rattle.u_compile.specs.Placed.{entry, NoteParts, note, no_note, no_place, a_test, test_of, PlacedParts, layout_of, IsScopedBut, IsPlaced, OneSends, MayCome, with_link, with_statement, with_loop, with_test, finished, IsUntested, FitsIn, stands_against, names_back, opens, IsFull, IsLastFull, EachIsFull}
use Rattle.u_compile.proofs.Numbers.{at_within, at_cases}
use Rattle.u_compile.proofs.Entries.{entry_more, entry_last}
use Rattle.u_compile.proofs.ScopedSteps as steps
use Rattle.u_compile.proofs.OrderlyLaws.{none_orderly, statement_orderly, link_orderly}

-- the regions that hold loops are those of the places that hold them
pub held_by : (arounds : List GuardedRegionParts) (l : ℕ) → (entry no_place arounds l).region ≡ holder (map (λ (a : GuardedRegionParts). a.region) arounds) l
held_by arounds zero = refl
held_by arounds (suc n) = at arounds n
  where
    at : (xs : List GuardedRegionParts) (m : ℕ) → (get_or xs m no_place).region ≡ holder (map (λ (a : GuardedRegionParts). a.region) xs) (suc m)
    at [] m = refl
    at (x ∷ xs) zero = refl
    at (x ∷ xs) (suc m) = at xs m

-- the layout says of what was there what it said
still_agree : (p : PlacedParts) (x : DraftParts) (at : GuardedRegionParts) (control unfinished : ℕ) → length p.notes ≡ length p.graph.statements → steps.Agree (layout_of (with_statement p x at control unfinished)) (layout_of p) (length p.graph.statements) (length p.graph.loops)
still_agree p x at control unfinished notes = record {
  at = λ n low. ap (λ (v : NoteParts). v.place) (entry_more no_note p.notes (note at control) n (omega (arith, low, notes)));
  around = λ l low. refl;
  control = λ n low. ap (λ (v : NoteParts). v.control) (entry_more no_note p.notes (note at control) n (omega (arith, low, notes)));
  order = λ n low. refl;
}

-- of what stands against a statement
and_true : (a b : Bool) → a ≡ true → b ≡ true → (a && b) ≡ false → ⊥
and_true true true p q e = false≢true (sym e)
and_true true false p q e = false≢true q
and_true false b p q e = false≢true p

module _ (p : PlacedParts) (x : DraftParts) (at : GuardedRegionParts) (control unfinished : ℕ) (f : FitsIn p x at) where
  against_of : (k : Kind) → x.kind ≡ k → (n : ℕ) (d : DraftParts) → draft_at p.graph.statements n ≡ Some d → stands_against (record x { kind = k }) d ≡ false
  against_of k q n d h = subst (λ (c : Kind). stands_against (record x { kind = c }) d ≡ false) q (f.against n d h)

  no_leave : (l n : ℕ) (d : DraftParts) → x.kind ≡ Enter l → draft_at p.graph.statements n ≡ Some d → d.kind ≡ Leave → d.region ≡ l → ⊥
  no_leave l n d q h k r = and_true (is_leave d.kind) (d.region == l) (ap is_leave k) (eq-eqb d.region l r) (against_of (Enter l) q n d h)

  no_next : (n : ℕ) (d : DraftParts) → x.kind ≡ Next → draft_at p.graph.statements n ≡ Some d → d.kind ≡ Next → d.shares ≡ x.shares → ⊥
  no_next n d q h k r = and_true (is_next d.kind) (d.shares == x.shares) (ap is_next k) (eq-eqb d.shares x.shares r) (against_of Next q n d h)

  no_end : (n : ℕ) (d : DraftParts) → x.kind ≡ End → draft_at p.graph.statements n ≡ Some d → d.kind ≡ End → ⊥
  no_end n d q h k = false≢true (sym (against_of End q n d h) ∙ ap is_end k)

  no_apply : (b n : ℕ) (d : DraftParts) → back_named x.kind ≡ Some b → draft_at p.graph.statements n ≡ Some d → back_named d.kind ≡ Some b → ⊥
  no_apply b n d named h other = by x.kind refl named
    where
      by : (k : Kind) → x.kind ≡ k → back_named k ≡ Some b → ⊥
      by (Apply c m) q e =
          let same : c ≡ b = cc in
          let t : names_back (Some c) (back_named d.kind) ≡ false = against_of (Apply c m) q n d h in
          let u : names_back (Some c) (Some b) ≡ false = ap (names_back (Some c)) (sym other) ∙ t in
          false≢true (sym u ∙ eq-eqb c b same)
      by k q e = cc

  comes : length p.notes ≡ length p.graph.statements → steps.MayCome (layout_of (with_statement p x at control unfinished)) p.graph (length p.graph.statements + 1) x
  comes notes =
      let last = entry_last no_note p.notes (note at control) in
      let e : entry no_note (p.notes ++ (note at control ∷ [])) (length p.graph.statements + 1) ≡ note at control = ap (λ (n : ℕ). entry no_note (p.notes ++ (note at control ∷ [])) (n + 1)) (sym notes) ∙ last in
      let here : (entry no_note (p.notes ++ (note at control ∷ [])) (length p.graph.statements + 1)).place ≡ at = ap (λ (v : NoteParts). v.place) e in
      record {
        region = f.region ∙ ap (λ (v : GuardedRegionParts). v.region) (sym here);
        later = λ m low. low;
        begins = λ out. elim (f.lies.begins out) [ inl q ↦ inl q | inr q ↦ inr (ap (λ (v : GuardedRegionParts). v.guards) here ∙ q) ];
        enters_from = λ l q. here ∙ f.lies.enters l q;
        stays = no_leave;
        next = λ q. subst (λ (v : GuardedRegionParts). IsOf v.guards (guard (test_of p.tests x.region) true)) (sym here) (f.lies.next q);
        last = λ q. subst (λ (v : GuardedRegionParts). IsOf v.guards (guard (test_of p.tests x.region) false)) (sym here) (f.lies.last q);
        one_next = no_next;
        one_apply = no_apply;
        one_end = no_end;
      }

-- a graph without statements, of which nothing was noted
pub none_placed : IsPlaced (record { graph = graph [] [] []; notes = []; arounds = []; tests = []; unfinished = 0 })
none_placed = record {
  notes = refl;
  loops = refl;
  forward = λ l i. absurd i;
  orderly = none_orderly;
  full = λ n d h low. none n d h;
  scoped = record {
    region = λ n d h. none n d h;
    links = λ l i. absurd i;
    ports = λ l m i j e. absurd i;
    switches = λ n d h k o. none n d h;
    held = nowhere;
    begins = λ n d h k. none n d h;
    enters_from = λ n d l h k. none n d h;
    leaves_after = λ n m d e h i k j. none n d h;
    nexts = λ n d h k. none n d h;
    lasts = λ n d h k. none n d h;
    one_next = λ m n d e h i k j q. none m d h;
    one_apply = λ j m n d e h i a b. none j d h;
    backs = λ m n d h b o. none m d h;
    one_end = λ m n d e h i k j. none m d h;
  };
}
  where
    none : {A : Type 0} (n : ℕ) (d : DraftParts) → draft_at [] n ≡ Some d → A
    none zero d h = cc
    none (suc n) d h = cc

    nowhere : (l : ℕ) → (entry no_place [] l).region ≡ holder [] l
    nowhere zero = refl
    nowhere (suc l) = refl

-- where each statement is finished it lies well
pub is_scoped : (p : PlacedParts) → IsPlaced p → p.unfinished ≡ 0 → IsScoped (layout_of p) p.graph
is_scoped p b e = steps.and_that p.unfinished (layout_of p) p.graph b.scoped
    (λ d h k. absurd (steps.no_zero p.graph.statements p.unfinished d e h))
    (λ n d h k. absurd (steps.no_zero p.graph.statements p.unfinished d e h))

-- and any may not be finished: nothing is wanted of fewer
scoped_with : (p : PlacedParts) (k : ℕ) → IsPlaced p → (k ≡ p.unfinished) ⊎ (p.unfinished ≡ 0) → IsScopedBut k (layout_of p) p.graph
scoped_with p k b (inl e) = subst (λ (j : ℕ). IsScopedBut j (layout_of p) p.graph) (sym e) b.scoped
scoped_with p k b (inr e) = steps.but_one k (layout_of p) p.graph (is_scoped p b e)

module _ (p : PlacedParts) (is : IsGraph p.graph) (b : IsPlaced p) (x : DraftParts) (at : GuardedRegionParts) (control unfinished : ℕ) (f : FitsIn p x at) (last : IsLastFull p.graph) (stays : (unfinished ≡ p.unfinished) ⊎ (p.unfinished ≡ 0))
    (switch : x.kind ≡ Switch → length p.graph.statements + 1 ≡ unfinished) (apply : (n : ℕ) → back_named x.kind ≡ Some n → length p.graph.statements + 1 ≡ unfinished) where
  full_before : (n : ℕ) (d : DraftParts) → draft_at (p.graph.statements ++ (x ∷ [])) n ≡ Some d → n < length (p.graph.statements ++ (x ∷ [])) → IsFull p.graph.links n d
  full_before n d h low =
      let one : length (p.graph.statements ++ (x ∷ [])) ≡ length p.graph.statements + 1 = length-append p.graph.statements (x ∷ []) in
      elim (at_cases p.graph.statements x n d h) [
        | inl w ↦ elim (steps.same_or_not n (length p.graph.statements)) [
          | inl e ↦ subst (λ (m : ℕ). IsFull p.graph.links m d) (sym e) (last d (ap (draft_at p.graph.statements) (sym e) ∙ w))
          | inr o ↦ b.full n d w (steps.less n (length p.graph.statements) (omega (arith, low, one)) o)
        ]
        | inr w ↦ absurd (let q = w.0 in omega (arith, low, one, q))
      ]

  pub statement_placed : IsPlaced (with_statement p x at control unfinished)
  statement_placed =
      let one : length (p.graph.statements ++ (x ∷ [])) ≡ length p.graph.statements + 1 = length-append p.graph.statements (x ∷ []) in
      let two : length (p.notes ++ (note at control ∷ [])) ≡ length p.notes + 1 = length-append p.notes (note at control ∷ []) in
      let a = b.notes in
      record {
        notes = omega (arith, one, two, a);
        loops = b.loops;
        forward = b.forward;
        orderly = statement_orderly p.graph.statements p.graph.links x b.orderly f.stands;
        scoped = steps.held_is unfinished (layout_of p) (layout_of (with_statement p x at control unfinished)) p.graph is (scoped_with p unfinished b stays) (still_agree p x at control unfinished b.notes) (λ n d h q. refl) x (comes p x at control unfinished f b.notes) switch apply (λ l. held_by p.arounds l ∙ ap (λ (ls : List ℕ). holder ls l) (sym b.loops));
        full = full_before;
      }

named_opens : (k : Kind) (n : ℕ) → back_named k ≡ Some n → opens k ≡ true
named_opens (Apply b m) n e = refl
named_opens k n e = cc

-- a statement that is not finished when it is added may be added where each other one is
pub put_placed : (p : PlacedParts) → IsGraph p.graph → IsPlaced p → (x : DraftParts) (at : GuardedRegionParts) (control : ℕ) → FitsIn p x at → IsLastFull p.graph → (opens x.kind ≡ true → p.unfinished ≡ 0) → IsPlaced (with_statement p x at control (cond (opens x.kind) (length p.graph.statements + 1) p.unfinished))
put_placed p is b x at control f last before = by (opens x.kind) refl
  where
    by : (w : Bool) → opens x.kind ≡ w → IsPlaced (with_statement p x at control (cond w (length p.graph.statements + 1) p.unfinished))
    by true e = statement_placed p is b x at control (length p.graph.statements + 1) f last (inr (before e)) (λ q. refl) (λ n q. refl)
    by false e = statement_placed p is b x at control p.unfinished f last (inl refl)
        (λ q. absurd (false≢true (sym e ∙ ap opens q)))
        (λ n q. absurd (false≢true (sym e ∙ named_opens x.kind n q)))

module _ (p : PlacedParts) (b : IsPlaced p) (o : Output) (port : ℕ) (m : MayCome p o (record { statement = length p.graph.statements; port = port }))
    (leaves : LeavesWell p.graph.statements o.statement (length p.graph.statements))
    (settled : (d : DraftParts) → draft_at p.graph.statements (length p.graph.statements) ≡ Some d → d.kind ≡ Switch → length p.graph.statements ≡ p.unfinished) where
  abbrev new : Link
  new = link o (length p.graph.statements) port

  goes : GoesWell (layout_of p) p.graph.statements new
  goes = record {
    ends = record { from = m.arrives.from; sends = m.arrives.stands; to = m.takes.taker; takes = m.takes.takes };
    other = m.arrives.other;
    outside = m.takes.outside;
    region = ap (λ (v : GuardedRegionParts). v.region) (sym m.arrives.arrives) ∙ m.takes.region;
    guards = λ c has. subst (λ (v : GuardedRegionParts). IsOf v.guards c) m.arrives.arrives (m.takes.guards c has);
    earlier = inr m.earlier;
  }

  apart : (l : Link) → IsOf p.graph.links l → OneSends p l.from o → AreApart (layout_of p) p.graph.statements l new
  apart l i w =
      let e = (b.scoped.links l i).ends in
      record {
        ends = record { from = w.one_arrives.from; sends = w.one_arrives.stands; to = e.to; takes = e.takes };
        other = record { from = w.other_arrives.from; sends = w.other_arrives.stands; to = m.takes.taker; takes = m.takes.takes };
        control = w.control;
        value = w.value;
        one = subst (λ (v : GuardedRegionParts). IsOf v.guards (guard w.control w.value)) w.one_arrives.arrives w.has;
        two = subst (λ (v : GuardedRegionParts). IsOf v.guards (guard w.control (not w.value))) w.other_arrives.arrives w.has_not;
      }

  meets : (l : Link) → IsOf p.graph.links l → l.to ≡ new.to → (l.from ≡ o) ⊎ AreApart (layout_of p) p.graph.statements l new
  meets l i e = elim (m.meets l i e) [ inl q ↦ inl q | inr w ↦ inr (apart l i w) ]

  pub link_placed : IsPlaced (with_link p o port)
  link_placed = record {
    notes = b.notes;
    loops = b.loops;
    forward = steps.forward_more p.graph.links new b.forward m.earlier;
    orderly = link_orderly p.graph.statements p.graph.links o (length p.graph.statements) port b.orderly leaves;
    scoped = steps.linked_well p.unfinished (layout_of p) p.graph b.scoped b.forward new refl goes meets settled;
    full = λ n d h low out port one most.
        let w = b.full n d h low out port one most in
        (w.0, steps.is_there p.graph.links new w.0 w.1, w.2, w.3);
  }

-- with one loop more
module _ (p : PlacedParts) (is : IsGraph p.graph) (b : IsPlaced p) (around : GuardedRegionParts) where
  loops_many : length p.graph.loops ≡ length p.arounds
  loops_many = ap (λ (ls : List ℕ). length ls) b.loops ∙ length_map p.arounds
    where
      length_map : (hs : List GuardedRegionParts) → length (map (λ (a : GuardedRegionParts). a.region) hs) ≡ length hs
      length_map [] = refl
      length_map (h ∷ hs) = ap suc (length_map hs)

  map_more : (hs : List GuardedRegionParts) → map (λ (a : GuardedRegionParts). a.region) (hs ++ (around ∷ [])) ≡ map (λ (a : GuardedRegionParts). a.region) hs ++ (around.region ∷ [])
  map_more [] = refl
  map_more (h ∷ hs) = ap (λ (v : List ℕ). h.region ∷ v) (map_more hs)

  same_loop : (l : ℕ) → l ≤ length p.graph.loops → entry no_place (p.arounds ++ (around ∷ [])) l ≡ entry no_place p.arounds l
  same_loop l low = let e = loops_many in entry_more no_place p.arounds around l (omega (arith, low, e))

  pub loop_placed : IsPlaced (with_loop p around)
  loop_placed =
      let e : p.graph.loops ++ (around.region ∷ []) ≡ map (λ (a : GuardedRegionParts). a.region) (p.arounds ++ (around ∷ [])) = ap (λ (v : List ℕ). v ++ (around.region ∷ [])) b.loops ∙ sym (map_more p.arounds) in
      record {
        notes = b.notes;
        loops = e;
        forward = b.forward;
        orderly = b.orderly;
        full = b.full;
        scoped = steps.relaid p.unfinished (layout_of p) (layout_of (with_loop p around)) p.graph is b.scoped
            (record { at = λ n low. refl; around = same_loop; control = λ n low. refl; order = λ n low. refl })
            (λ n d h q. refl)
            (p.graph.loops ++ (around.region ∷ []))
            (λ l. held_by (p.arounds ++ (around ∷ [])) l ∙ ap (λ (ls : List ℕ). holder ls l) (sym e));
      }

-- the tests of other loops are those that they were
other_test : (ts : List Test) (region control l : ℕ) → (region ≡ l → ⊥) → test_of (ts ++ (a_test region control ∷ [])) l ≡ test_of ts l
other_test [] region control l other = cond-false (region == l) control 0 (ne_eqb region l other)
other_test (t ∷ ts) region control l other = ap (λ (v : ℕ). cond (t.region == l) t.control v) (other_test ts region control l other)

-- where a test is known
pub test_placed : (p : PlacedParts) (is : IsGraph p.graph) (b : IsPlaced p) (region control : ℕ) → IsUntested p.graph.statements region → IsPlaced (with_test p region control)
test_placed p is b region control free = record {
  notes = b.notes;
  loops = b.loops;
  forward = b.forward;
  orderly = b.orderly;
  full = b.full;
  scoped = steps.relaid p.unfinished (layout_of p) (layout_of (with_test p region control)) p.graph is b.scoped
      (record { at = λ n low. refl; around = λ l low. refl; control = λ n low. refl; order = λ n low. refl })
      (λ n d h q. other_test p.tests region control d.region (λ e. free n d h (sym e) q))
      p.graph.loops
      b.scoped.held;
}

-- A statement is finished: what is wanted of it is so.
pub finished_placed : (p : PlacedParts) → IsPlaced p → ((d : DraftParts) → draft_at p.graph.statements p.unfinished ≡ Some d → d.kind ≡ Switch → IsControlled (layout_of p) p.graph p.unfinished) → ((n : ℕ) (d : DraftParts) → draft_at p.graph.statements p.unfinished ≡ Some d → back_named d.kind ≡ Some n → IsCalled (layout_of p) p.graph.statements p.unfinished n) → IsPlaced (finished p)
finished_placed p b switch back = record {
  notes = b.notes;
  loops = b.loops;
  forward = b.forward;
  orderly = b.orderly;
  full = b.full;
  scoped = steps.but_one 0 (layout_of p) p.graph (steps.and_that p.unfinished (layout_of p) p.graph b.scoped switch back);
}

-- where the last statement is linked as well, each one is
pub each_full : (p : PlacedParts) → IsPlaced p → IsLastFull p.graph → EachIsFull p.graph
each_full p b last n d h =
    let high = (at_within p.graph.statements n d h).1 in
    elim (steps.same_or_not n (length p.graph.statements)) [
      | inl e ↦ subst (λ (m : ℕ). IsFull p.graph.links m d) (sym e) (last d (ap (draft_at p.graph.statements) (sym e) ∙ h))
      | inr o ↦ b.full n d h (steps.less n (length p.graph.statements) high o)
    ]
