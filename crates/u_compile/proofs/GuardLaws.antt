-- The guards of a place are guards of the statements there, in the block of a graph whose parts lie well.
use Rattle.std.proofs.Common.{◌≡◌, ℕ, suc, ◌≤◌, inl, inr, refl, sym, ap, ◌∙◌, subst, arith, Bool, true, false, not, cond, ◌==◌, List, [], ◌∷◌, Some}
use Rattle.std.proofs.lemmas.Bool.{false≢true, eqb-true}
use Rattle.u_program.specs.declared.program.Kind.{Kind}
use Rattle.u_program.specs.declared.program.Kind.TheVariants.{Pass, Switch, Enter, Next, Last, Leave}
use Rattle.u_program.specs.declared.program.Destination.{Destination}
use Rattle.u_program.specs.Parts.{StatementParts}
use Rattle.u_check.specs.Rules.{Arc, arc}
use Rattle.u_determinate.specs.Arcs.{Leads, destination, OnlyArc}
use Rattle.u_determinate.proofs.NumberFacts.{same_arc}
use Rattle.std.specs.Prelude.{slice_get}
use Rattle.u_determinate.specs.Guards.{stays, Stands, Rounds, PassedOn, IsPassed, ArcOf}
use Rattle.u_compile.specs.declared.graph.Output.{Output}
use Rattle.u_compile.specs.Drafts.{DraftParts}
use Rattle.u_compile.specs.Graphs.{GraphParts, output, destinations, draft_at, is_next, is_enter, enters, IsGraph}
use Rattle.u_compile.specs.Blocks.{statement_of, statements_of}
use Rattle.u_compile.specs.declared.place.Guard.{Guard}
use Rattle.u_compile.specs.Scoped.{guard, GuardedRegionParts, IsOf, Layout, sent_by, OnlyFrom, HandsOn, it, pass, IsScoped}
use Rattle.u_compile.proofs.Numbers.{test_stands}
use Rattle.u_compile.proofs.ArcLaws.{made_at, draft_from, IsLinkOf, arc_is, arc_of, one_place}

-- the statements of the block
abbrev pub made : GraphParts → List StatementParts
made g = statements_of g.links g.statements

-- one number has one draft
pub one_draft : (ds : List DraftParts) (n : ℕ) (d e : DraftParts) → draft_at ds n ≡ Some d → draft_at ds n ≡ Some e → d ≡ e
one_draft ds n d e p q = let r = sym p ∙ q in cc

pub stands_as : (g : GraphParts) (n : ℕ) (d : DraftParts) (k : Kind) → draft_at g.statements n ≡ Some d → d.kind ≡ k → Stands (made g) n k
stands_as g n d k at e = record { it = statement_of g.links d; stands = made_at g.links g.statements n d at; kind = e }

pub stands_from : (g : GraphParts) (n : ℕ) (k : Kind) → Stands (made g) n k → (d : DraftParts) × (draft_at g.statements n ≡ Some d) × (d.kind ≡ k)
stands_from g n k s =
    let d = draft_from g.links g.statements n s.it s.stands in
    (d.0, d.1, ap (λ (v : StatementParts). v.kind) d.2 ∙ s.kind)

pub next_is : (k : Kind) → is_next k ≡ true → k ≡ Next
next_is Next e = refl
next_is k e = absurd (false≢true e)

next_enters : (k : Kind) → is_next k ≡ true → enters k ≡ false
next_enters Next e = refl
next_enters k e = absurd (false≢true e)

-- Whose link an arc is: of the statement that sends, or, where that is a `next`, of an `enter`.
pub data Owner (g : GraphParts) (d : DraftParts) (n : ℕ) : Type 0 where
  own : is_next d.kind ≡ false → d.shares ≡ n → Owner g d n
  other : d.kind ≡ Next → (e : DraftParts) → draft_at g.statements d.shares ≡ Some e → enters e.kind ≡ true → Owner g d n

pub owner_of : (g : GraphParts) (n : ℕ) (d : DraftParts) → IsGraph g → draft_at g.statements n ≡ Some d → Owner g d n
owner_of g n d is at = by (is_next d.kind) refl (is.drafts n d at).shares
  where
    by : (b : Bool) → is_next d.kind ≡ b → cond b (is_enter (draft_at g.statements d.shares)) (d.shares == n) ≡ true → Owner g d n
    by true q h = let s = test_stands is_enter refl g.statements d.shares h in other (next_is d.kind q) s.0 s.1 s.2
    by false q h = own q (eqb-true d.shares n h)

pub no_of_none : (gs : List Guard) (x : Guard) → gs ≡ [] → IsOf gs x → ⊥
no_of_none [] x e is = is
no_of_none (y ∷ gs) x e is = cc

-- two arcs of one statement that are links of one output to one port are one arc
pub same_arcs : (g : GraphParts) (n port : ℕ) (a b : Arc) → IsGraph g → (la : IsLinkOf g n port a) (lb : IsLinkOf g n port b) → a.statement ≡ b.statement → la.link.from ≡ lb.link.from → a ≡ b
same_arcs g n port a b is la lb same from =
    let o : output la.by.shares a.on_false ≡ output lb.by.shares b.on_false = sym la.from ∙ (from ∙ lb.from) in
    let side : a.on_false ≡ b.on_false = ap (λ (v : Output). v.on_false) o in
    let at = ap (λ (v : Output). slice_get (destinations v g.links) a.place) (sym o) ∙ la.place in
    let q = one_place (destinations (output lb.by.shares b.on_false) g.links) 0 a.place b.place (destination n port) (is.sorted (output lb.by.shares b.on_false)) at lb.place in
    same_arc a b.statement b.on_false b.place same side q

-- the statement of an arc that is a link of an output of another statement than an `enter` is that of the output
pub sender_is : (g : GraphParts) (n port : ℕ) (a : Arc) (l : IsLinkOf g n port a) (d : DraftParts) → IsGraph g → draft_at g.statements l.link.from.statement ≡ Some d → enters d.kind ≡ false → a.statement ≡ l.link.from.statement
sender_is g n port a l d is at alone = by (owner_of g a.statement l.by is l.stands)
  where
    shared : l.by.shares ≡ l.link.from.statement
    shared = ap (λ (v : Output). v.statement) (sym l.from)

    by : Owner g l.by a.statement → a.statement ≡ l.link.from.statement
    by (own q e) = sym e ∙ shared
    by (other k e f h) =
        let same = one_draft g.statements l.link.from.statement d e at (ap (draft_at g.statements) (sym shared) ∙ f) in
        absurd (false≢true (sym alone ∙ (ap (λ (v : DraftParts). enters v.kind) same ∙ h)))

-- an output of another statement than an `enter` that alone leads to a port is one arc to it
pub only_arc : (g : GraphParts) (o : Output) (n port : ℕ) (d : DraftParts) → IsGraph g → OnlyFrom g.links o n port → draft_at g.statements o.statement ≡ Some d → is_next d.kind ≡ false → enters d.kind ≡ false → (a : Arc) × (a.statement ≡ o.statement) × OnlyArc (made g) n port a
only_arc g o n port d is from at other_kind alone = by (owner_of g o.statement d is at)
  where
    to : from.link.to ≡ destination n port
    to = let e : destination from.link.to.statement from.link.to.port ≡ destination n port = cc (from.statement, from.port) in e

    only_one : (here : Arc) → Leads (made g) n port here → (b : Arc) → Leads (made g) n port b → b ≡ here
    only_one here leads b l =
        let lb = arc_is g n port b l in
        let lh = arc_is g n port here leads in
        let fb = from.only lb.link lb.is (ap (λ (t : Destination). t.statement) lb.to) (ap (λ (t : Destination). t.port) lb.to) in
        let fh = from.only lh.link lh.is (ap (λ (t : Destination). t.statement) lh.to) (ap (λ (t : Destination). t.port) lh.to) in
        let sb = sender_is g n port b lb d is (ap (λ (v : Output). draft_at g.statements v.statement) fb ∙ at) alone in
        let sh = sender_is g n port here lh d is (ap (λ (v : Output). draft_at g.statements v.statement) fh ∙ at) alone in
        let same = sb ∙ (ap (λ (v : Output). v.statement) (fb ∙ sym fh) ∙ sym sh) in
        same_arcs g n port b here is lb lh same (fb ∙ sym fh)

    by : Owner g d o.statement → (a : Arc) × (a.statement ≡ o.statement) × OnlyArc (made g) n port a
    by (other k e f h) = let q : is_next d.kind ≡ true = ap is_next k in absurd (false≢true (sym other_kind ∙ q))
    by (own k shares) =
        let stands : draft_at g.statements from.link.from.statement ≡ Some d = ap (λ (v : Output). draft_at g.statements v.statement) from.from ∙ at in
        let own_links : d.shares ≡ from.link.from.statement = shares ∙ ap (λ (v : Output). v.statement) (sym from.from) in
        let p = arc_of g from.link d from.is stands own_links in
        let here = arc from.link.from.statement from.link.from.on_false p.0 in
        let leads : Leads (made g) n port here = subst (λ (t : Destination). Leads (made g) t.statement t.port here) to p.1 in
        (here, ap (λ (v : Output). v.statement) from.from, record { leads = leads; only = only_one here leads })

-- what hands on the value of a control does so in the block
pub passed : (g : GraphParts) (c n : ℕ) → IsGraph g → HandsOn g c n → IsPassed (made g) c n
passed g c n is it = (1, inl refl)
passed g c n is (pass m o d e at kind by plain alone from h) =
    let r = passed g c o.statement is h in
    let a = only_arc g o n 1 e is from by plain alone in (
      suc r.0,
      inr (record {
        stands = stands_as g n d Pass at kind;
        arc = a.0;
        only = a.2;
        from = subst (Rounds (PassedOn (made g) c) r.0) (sym a.1) r.1;
      }),
    )

-- What is known of what comes earlier is known of an arc that has the guard.
module _ (y : Layout) (g : GraphParts) (is : IsGraph g) (s : IsScoped y g) (c : ℕ) (value : Bool) (P : ℕ → Type 0) (a : Arc) (d : DraftParts) (at : draft_at g.statements a.statement ≡ Some d) (earlier : (m : ℕ) (e : DraftParts) → draft_at g.statements m ≡ Some e → y.order m ≤ y.order a.statement → IsOf (y.at m).guards (guard c value) → P m) where
  here : IsOf (y.at a.statement).guards (guard c value) → P a.statement
  here has = earlier a.statement d at (omega arith) has

  beside : (k : Kind) → d.kind ≡ k → stays k ≡ true → IsOf (y.at a.statement).guards (guard c value) → ArcOf (made g) c value P a
  beside k e st has = inl (record { it = statement_of g.links d; stands = made_at g.links g.statements a.statement d at; kind = ap stays e ∙ st; has = here has })

  by_switch : d.kind ≡ Switch → guard (y.control a.statement) (not a.on_false) ≡ guard c value → ArcOf (made g) c value P a
  by_switch e q =
      let w = s.switches a.statement d at e in
      let o = only_arc g w.from a.statement 2 w.by is w.only w.stands w.other w.alone in
      let control : y.control a.statement ≡ c = ap (λ (v : Guard). v.control) q in
      let side : not a.on_false ≡ value = ap (λ (v : Guard). v.value) q in
      let source : IsPassed (made g) (y.control a.statement) w.from.statement = passed g (y.control a.statement) w.from.statement is w.source in
      inr (inl (record {
        switch = record { it = statement_of g.links d; stands = made_at g.links g.statements a.statement d at; kind = e };
        side = sides a.on_false value side;
        control = o.0;
        controls = o.2;
        source = subst (λ (n : ℕ). IsPassed (made g) c n) (sym o.1) (subst (λ (n : ℕ). IsPassed (made g) n w.from.statement) control source);
      }))
    where
      sides : (p q : Bool) → not p ≡ q → p ≡ not q
      sides true q e = ap not e
      sides false q e = ap not e

  by_leave : d.kind ≡ Leave → IsOf (y.around d.region).guards (guard c value) → ArcOf (made g) c value P a
  by_leave e has = inr (inr (record {
    leave = record { it = statement_of g.links d; stands = made_at g.links g.statements a.statement d at; kind = e };
    has = λ n st.
        let m = stands_from g n (Enter d.region) st in
        let o = s.leaves_after a.statement n d m.0 at m.1 e m.2 in
        earlier n m.0 m.1 (omega (arith, o)) (subst (λ (v : GuardedRegionParts). IsOf v.guards (guard c value)) (sym (s.enters_from n m.0 d.region m.1 m.2)) has);
  }))

  pub arc_has : (k : Kind) → d.kind ≡ k → is_next k ≡ false → IsOf (sent_by y a.statement a.on_false d.region k).guards (guard c value) → ArcOf (made g) c value P a
  arc_has Switch e n (inl q) = by_switch e q
  arc_has Switch e n (inr has) = beside Switch e refl has
  arc_has (Enter l) e n has = absurd has
  arc_has Last e n has = absurd has
  arc_has Leave e n has = by_leave e has
  arc_has Next e n has = absurd (false≢true (sym n))
  arc_has k e n has = beside k e refl has
