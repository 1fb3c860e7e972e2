-- Which rules of the checker the block of a graph keeps whose statements and links lie well.
use Rattle.std.proofs.Common.{◌≡◌, ℕ, zero, suc, ◌+◌, ◌-◌, ◌<◌, ◌≤◌, arith, inl, inr, refl, sym, ap, ◌∙◌, subst, Bool, true, false, not, ◌==◌, List, [], ◌∷◌, ◌++◌, length, Some, Option}
use Rattle.std.specs.Prelude.{slice_get, nat_le, ◌||◌, ◌&&◌}
use Rattle.std.specs.List.{AllByRecursion, list_any, list_all, range_with_len}
use Rattle.std.proofs.lemmas.Bool.{false≢true, and_parts, and_from, le-leb, eq-eqb, ne_eqb}
use Rattle.std.proofs.lemmas.Option.{slice_get_within, get_or_from_slice_get, slice_get-get_or, unwrap_or-slice_get}
use Rattle.std.proofs.lemmas.List.Folds.{list_any-append, list_any_at}
use Rattle.u_name.specs.Context.{IsBetween}
use Rattle.u_program.specs.declared.program.Kind.{Kind}
use Rattle.u_program.specs.declared.program.Kind.TheVariants.{Enter, Next, Leave}
use Rattle.u_program.specs.declared.program.Destination.{Destination}
use Rattle.u_program.specs.Parts.{StatementParts}
use Rattle.u_check.specs.Kinds.{ports_of, comes_from_outside, crosses}
use Rattle.u_check.specs.Rules.{statement_at, Arc, has_region, reaches, has_port as takes_port, takes_tokens, lies_in, list_of, arc, held_by, holds, sends_to, is_fed, is_whole}
use Rattle.u_check.proofs.Arcs.{has_number}
use Rattle.u_program.specs.Limits.{IsKind}
use Rattle.u_determinate.specs.Arcs.{Leads, destination}
use Rattle.u_determinate.proofs.NumberFacts.{arc_stands}
use Rattle.u_compile.specs.declared.graph.Link.{Link}
use Rattle.u_compile.specs.declared.graph.Output.{Output}
use Rattle.u_compile.specs.Drafts.{DraftParts}
use Rattle.u_compile.specs.Graphs.{GraphParts, draft_at, is_next, is_link, has_port, has_output, IsGraph}
use Rattle.u_compile.specs.Fanning.{holder}
use Rattle.u_compile.specs.Scoped.{GuardedRegionParts, IsOf, Layout, sent_by, GoesWell, IsScoped}
use Rattle.u_compile.proofs.Numbers.{test_stands}
use Rattle.u_compile.proofs.ArcLaws.{made_at, IsLinkOf, arc_is, arc_of}
use Rattle.u_compile.specs.Placed.{EachIsFull}
use Rattle.u_compile.proofs.ScopedSteps.{entered_loop}
use Rattle.u_compile.proofs.GuardLaws.{made, one_draft, Owner, own, other, owner_of}

-- what holds of each link holds of one of them
of_each : (P : Link → Type 0) (ls : List Link) (l : Link) → AllByRecursion P ls → IsOf ls l → P l
of_each P [] l all is = absurd is
of_each P (m ∷ ls) l all (inl e) = subst P e all.0
of_each P (m ∷ ls) l all (inr is) = of_each P ls l all.1 is

-- where what a statement that neither crosses nor is a `next` sends arrives is its own region
stays_in : (y : Layout) (n region : ℕ) (side : Bool) (k : Kind) → crosses k ≡ false → is_next k ≡ false → (sent_by y n side region k).region ≡ (y.at n).region
stays_in y n region side (Enter l) c e = absurd (false≢true (sym c))
stays_in y n region side Leave c e = absurd (false≢true (sym c))
stays_in y n region side Next c e = absurd (false≢true (sym e))
stays_in y n region side k c e = refl

-- the region that holds a loop of the block
pub held_is : (loops : List ℕ) (l : ℕ) → 1 ≤ l → l ≤ length loops → held_by loops l ≡ Some (holder loops l)
unfolding held_by
held_is loops zero low high = absurd (omega (arith, low))
held_is loops (suc n) low high =
    let q : (suc n == 0) ≡ false = ne_eqb (suc n) 0 (λ e. omega (arith, e)) in
    let m : suc n - 1 ≡ n = omega arith in
    let g = slice_get-get_or loops n 0 (omega (arith, high)) in
    rw (q, m) (g ∙ ap (λ (h : ℕ). Some h) (sym (unwrap_or-slice_get loops n 0)))

or_first : (a b : Bool) → a ≡ true → (a || b) ≡ true
or_first true b e = refl
or_first false b e = absurd (false≢true e)

or_second : (a b : Bool) → b ≡ true → (a || b) ≡ true
or_second true b e = refl
or_second false b e = e

pub any_get : {X : Type 0} (p : X → Bool) (xs : List X) (i : ℕ) (x : X) → slice_get xs i ≡ Some x → p x ≡ true → list_any p xs ≡ true
any_get p xs i x e h = list_any_at p xs i x (slice_get_within xs i x e) (ap p (get_or_from_slice_get xs i x x e) ∙ h)

all_range : (f : ℕ → Bool) (a m : ℕ) → ((i : ℕ) → a ≤ i → i < a + m → f i ≡ true) → list_all f (range_with_len a m) ≡ true
all_range f a zero h = refl
all_range f a (suc m) h = and_from (f a) (list_all f (range_with_len (a + 1) m)) (h a (omega arith) (omega arith)) (all_range f (a + 1) m (λ i low high. h i (omega (arith, low)) (omega (arith, high))))

-- a statement of which a list has the destination sends there
sends_here : (s : StatementParts) (side : Bool) (k n port : ℕ) → slice_get (list_of s side) k ≡ Some (destination n port) → sends_to s n port ≡ true
unfolding sends_to
sends_here s side k n port e = by side e
  where
    same : (λ (d : Destination). d.statement == n && d.port == port) (destination n port) ≡ true
    same = and_from (n == n) (port == port) (eq-eqb n n refl) (eq-eqb port port refl)

    by : (b : Bool) → slice_get (list_of s b) k ≡ Some (destination n port) → list_any (λ (d : Destination). d.statement == n && d.port == port) (s.to ++ s.otherwise) ≡ true
    by true q = list_any-append (λ (d : Destination). d.statement == n && d.port == port) s.to s.otherwise ∙ or_second (list_any (λ (d : Destination). d.statement == n && d.port == port) s.to) (list_any (λ (d : Destination). d.statement == n && d.port == port) s.otherwise) (any_get (λ (d : Destination). d.statement == n && d.port == port) s.otherwise k (destination n port) q same)
    by false q = list_any-append (λ (d : Destination). d.statement == n && d.port == port) s.to s.otherwise ∙ or_first (list_any (λ (d : Destination). d.statement == n && d.port == port) s.to) (list_any (λ (d : Destination). d.statement == n && d.port == port) s.otherwise) (any_get (λ (d : Destination). d.statement == n && d.port == port) s.to k (destination n port) q same)

-- how many ports a statement has
abbrev pub ports : DraftParts → ℕ
ports d = ports_of d.kind

-- whether its region is one of the graph
abbrev pub region_of : GraphParts → StatementParts → Bool
region_of g t = has_region g.loops t.region

-- whether its ports are fed
abbrev pub fed_of : GraphParts → ℕ → StatementParts → Bool
fed_of g n t = is_whole (made g) n t.kind

module _ (y : Layout) (g : GraphParts) (is : IsGraph g) (s : IsScoped y g) where
  -- a statement lies in a region of the block
  pub region_exists : (n : ℕ) (d : DraftParts) → draft_at g.statements n ≡ Some d → has_region g.loops d.region ≡ true
  region_exists n d at = le-leb d.region (length g.loops) (is.drafts n d at).region

  -- the region of an `enter` holds its loop
  pub enters_inward_from : (n k : ℕ) (d : DraftParts) → draft_at g.statements n ≡ Some d → d.kind ≡ Enter k → holds d.region (held_by g.loops k) ≡ true
  enters_inward_from n k d at q =
      let i = is.drafts n d at in
      let one : IsBetween 1 k 99 = subst IsKind q i.kind in
      let same : d.region ≡ holder g.loops k = s.region n d at ∙ (ap (λ (v : GuardedRegionParts). v.region) (s.enters_from n d k at q) ∙ s.held k) in
      ap (holds d.region) (held_is g.loops k one.0 (entered_loop (length g.loops) k d.kind q i.enters)) ∙ eq-eqb d.region (holder g.loops k) same

  -- a port to which a link leads is fed
  port_fed : (n port : ℕ) (l : Link) → IsOf g.links l → l.to.statement ≡ n → l.to.port ≡ port → is_fed (made g) n port ≡ true
  unfolding is_fed
  port_fed n port l i at-n at-port =
      let w = s.links l i in
      let mine = own_links w.ends.from l.from.statement w.other (owner_of g l.from.statement w.ends.from is w.ends.sends) in
      let a = arc_of g l w.ends.from i w.ends.sends mine in
      let st = arc_stands (made g) (arc l.from.statement l.from.on_false a.0) (destination l.to.statement l.to.port) a.1 in
      let num = has_number (made g) l.from.statement st.it st.stands in
      let there : destination l.to.statement l.to.port ≡ destination n port = cc (at-n, at-port) in
      any_get (λ (x : StatementParts). sends_to x n port) (made g) (l.from.statement - 1) st.it num.1 (sends_here st.it l.from.on_false a.0 n port (st.listed ∙ ap (λ (x : Destination). Some x) there))
    where
      own_links : (d : DraftParts) (k : ℕ) → is_next d.kind ≡ false → Owner g d k → d.shares ≡ k
      own_links d k plain (own p q) = q
      own_links d k plain (other r e f h) = absurd (false≢true (sym plain ∙ ap is_next r))

  -- where each port of a statement is linked, each is fed
  pub whole : EachIsFull g → (n : ℕ) (d : DraftParts) → draft_at g.statements n ≡ Some d → is_whole (made g) n d.kind ≡ true
  unfolding is_whole
  whole full n d at = by (comes_from_outside d.kind) refl
    where
      by : (b : Bool) → comes_from_outside d.kind ≡ b → (comes_from_outside d.kind || list_all (λ (port : ℕ). is_fed (made g) n port) (range_with_len 1 (ports_of d.kind))) ≡ true
      by true e = or_first (comes_from_outside d.kind) (list_all (λ (port : ℕ). is_fed (made g) n port) (range_with_len 1 (ports_of d.kind))) e
      by false e = or_second (comes_from_outside d.kind) (list_all (λ (port : ℕ). is_fed (made g) n port) (range_with_len 1 (ports_of d.kind))) (all_range (λ (port : ℕ). is_fed (made g) n port) 1 (ports_of d.kind) (λ port low high.
          let w = full n d at e port low (omega (arith, high)) in
          port_fed n port w.0 w.1 w.2 w.3))

  module _ (n m port : ℕ) (a : Arc) (leads : Leads (made g) m port a) where
    -- the statement that the arc leads to
    taken : (e : DraftParts) × (draft_at g.statements m ≡ Some e) × (comes_from_outside e.kind ≡ false)
    taken =
        let i = arc_is g m port a leads in
        let v = s.links i.link i.is in
        (v.ends.to, ap (λ (d : Destination). draft_at g.statements d.statement) (sym i.to) ∙ v.ends.takes, v.outside)

    -- no arc leads to a `begin`, a `param` or a `back`
    pub takes : takes_tokens (statement_at (made g) m) ≡ true
    takes = ap takes_tokens (made_at g.links g.statements m taken.0 taken.1) ∙ ap not taken.2

    -- each arc leads to a port of a statement
    pub arc_reaches : reaches (made g) (destination m port) ≡ true
    unfolding reaches
    arc_reaches =
        let i = arc_is g m port a leads in
        let one = of_each (λ (v : Link). is_link g.statements v ≡ true) g.links i.link is.links i.is in
        let two = (and_parts (has_output (draft_at g.statements i.link.from.statement) i.link.from.on_false) (has_port (draft_at g.statements i.link.to.statement) i.link.to.port) one).1 in
        let here : has_port (draft_at g.statements m) port ≡ true = subst (λ (d : Destination). has_port (draft_at g.statements d.statement) d.port ≡ true) i.to two in
        let e = test_stands (λ o. has_port o port) refl g.statements m here in
        let p = and_parts (nat_le 1 port) (nat_le port (ports_of e.0.kind)) e.2 in
        and_from (nat_le 1 port) (takes_port (statement_at (made g) m) port) p.0 (ap (λ (o : Option StatementParts). takes_port o port) (made_at g.links g.statements m e.0 e.1) ∙ p.1)

    -- What a statement other than `next` sends arrives in the region of the statement that takes it.
    pub arrives_in : (d : DraftParts) → draft_at g.statements n ≡ Some d → a.statement ≡ n → is_next d.kind ≡ false → (e : DraftParts) × (draft_at g.statements m ≡ Some e) × ((sent_by y n a.on_false d.region d.kind).region ≡ e.region)
    arrives_in d at from plain = by (owner_of g a.statement (arc_is g m port a leads).by is (arc_is g m port a leads).stands)
      where
        same : (arc_is g m port a leads).by ≡ d
        same = one_draft g.statements n (arc_is g m port a leads).by d (ap (draft_at g.statements) (sym from) ∙ (arc_is g m port a leads).stands) at

        by : Owner g (arc_is g m port a leads).by a.statement → (e : DraftParts) × (draft_at g.statements m ≡ Some e) × ((sent_by y n a.on_false d.region d.kind).region ≡ e.region)
        by (other k e f h) = absurd (false≢true (sym plain ∙ (ap (λ (x : DraftParts). is_next x.kind) (sym same) ∙ ap is_next k)))
        by (own q shared) = sends_to (arc_is g m port a leads) (s.links (arc_is g m port a leads).link (arc_is g m port a leads).is) shared
          where
            sends_to : (j : IsLinkOf g m port a) (u : GoesWell y g.statements j.link) → j.by.shares ≡ a.statement → (e : DraftParts) × (draft_at g.statements m ≡ Some e) × ((sent_by y n a.on_false d.region d.kind).region ≡ e.region)
            sends_to j u mine =
                let here : j.link.from.statement ≡ n = ap (λ (o : Output). o.statement) j.from ∙ (mine ∙ from) in
                let side : j.link.from.on_false ≡ a.on_false = ap (λ (o : Output). o.on_false) j.from in
                let is-d : u.ends.from ≡ d = one_draft g.statements n u.ends.from d (ap (draft_at g.statements) (sym here) ∙ u.ends.sends) at in
                let there : draft_at g.statements m ≡ Some u.ends.to = ap (λ (x : Destination). draft_at g.statements x.statement) (sym j.to) ∙ u.ends.takes in
                let to : (y.at j.link.to.statement).region ≡ (y.at m).region = ap (λ (x : Destination). (y.at x.statement).region) j.to in
                let sent : (sent_by y j.link.from.statement j.link.from.on_false u.ends.from.region u.ends.from.kind).region ≡ (sent_by y n a.on_false d.region d.kind).region =
                ap (λ (x : ℕ). (sent_by y x j.link.from.on_false u.ends.from.region u.ends.from.kind).region) here
                ∙ (ap (λ (b : Bool). (sent_by y n b u.ends.from.region u.ends.from.kind).region) side
                ∙ ap (λ (x : DraftParts). (sent_by y n a.on_false x.region x.kind).region) is-d) in
                (u.ends.to, there, sym sent ∙ (u.region ∙ (to ∙ sym (s.region m u.ends.to there))))

    -- a statement that neither crosses nor is a `next` sends into its own region
    pub own_region : (d : DraftParts) → draft_at g.statements n ≡ Some d → a.statement ≡ n → is_next d.kind ≡ false → crosses d.kind ≡ false → lies_in d.region (statement_at (made g) m) ≡ true
    own_region d at from plain inside =
        let e = arrives_in d at from plain in
        let same : d.region ≡ e.0.region = s.region n d at ∙ (sym (stays_in y n d.region a.on_false d.kind inside plain) ∙ e.2) in
        ap (lies_in d.region) (made_at g.links g.statements m e.0 e.1) ∙ eq-eqb d.region e.0.region same

    -- an `enter` sends into its loop
    pub enters_loop : (d : DraftParts) (k : ℕ) → draft_at g.statements n ≡ Some d → a.statement ≡ n → d.kind ≡ Enter k → lies_in k (statement_at (made g) m) ≡ true
    enters_loop d k at from q =
        let e = arrives_in d at from (ap is_next q) in
        let same : k ≡ e.0.region = sym (ap (λ (c : Kind). (sent_by y n a.on_false d.region c).region) q) ∙ e.2 in
        ap (lies_in k) (made_at g.links g.statements m e.0 e.1) ∙ eq-eqb k e.0.region same

    -- a `leave` sends into the region that holds its loop
    pub leaves_loop : (d : DraftParts) → draft_at g.statements n ≡ Some d → a.statement ≡ n → d.kind ≡ Leave → lies_in (holder g.loops d.region) (statement_at (made g) m) ≡ true
    leaves_loop d at from q =
        let e = arrives_in d at from (ap is_next q) in
        let same : holder g.loops d.region ≡ e.0.region = sym (s.held d.region) ∙ (sym (ap (λ (c : Kind). (sent_by y n a.on_false d.region c).region) q) ∙ e.2) in
        ap (lies_in (holder g.loops d.region)) (made_at g.links g.statements m e.0 e.1) ∙ eq-eqb (holder g.loops d.region) e.0.region same
