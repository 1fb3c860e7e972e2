-- The block of a graph whose parts lie well is determinate.
use Rattle.std.proofs.Common.{◌≡◌, ℕ, zero, suc, ◌<◌, ◌≤◌, inl, inr, refl, sym, ap, ◌∙◌, subst, arith, Bool, true, false, not, List, [], Some}
use Rattle.std.proofs.lemmas.Bool.{false≢true}
use Rattle.u_program.specs.declared.program.Kind.{Kind}
use Rattle.u_program.specs.declared.program.Kind.TheVariants.{Enter, Next, Last, Back, End}
use Rattle.u_program.specs.declared.program.Destination.{Destination}
use Rattle.u_program.specs.Parts.{StatementParts}
use Rattle.u_check.specs.Kinds.{comes_from_outside, back_named}
use Rattle.u_check.specs.Rules.{Arc}
use Rattle.u_determinate.specs.Arcs.{Leads}
use Rattle.u_determinate.specs.Guards.{Stands, Applies, Rounds, ArcOf, StatementOf, HasGuard, ArcHasGuard}
use Rattle.u_determinate.specs.Determinate.{ArcsExclude, Exclude, MayMeet, IsDeterminateBlock}
use Rattle.u_compile.specs.declared.graph.Output.{Output}
use Rattle.u_compile.specs.Drafts.{DraftParts}
use Rattle.u_compile.specs.Graphs.{GraphParts, draft_at, is_next, enters, IsGraph}
use Rattle.u_compile.specs.Blocks.{statement_of, block_of}
use Rattle.u_compile.specs.declared.place.Guard.{Guard}
use Rattle.u_compile.specs.Scoped.{guard, GuardedRegionParts, IsOf, Layout, sent_by, AreApart, IsScoped}
use Rattle.u_compile.proofs.ArcLaws.{made_at, draft_from, IsLinkOf, arc_is}
use Rattle.u_check.proofs.KindTests.{few_ports}
use Rattle.u_compile.proofs.GuardLaws.{made, one_draft, stands_as, stands_from, Owner, own, other, owner_of, no_of_none, same_arcs, sender_is, arc_has}

entering_kind : (k : Kind) → enters k ≡ true → (l : ℕ) × (k ≡ Enter l)
entering_kind (Enter l) e = (l, refl)
entering_kind k e = absurd (false≢true e)

entering : (d : DraftParts) → enters d.kind ≡ true → (l : ℕ) × (d.kind ≡ Enter l)
entering d e = entering_kind d.kind e

enters_sends : (y : Layout) (n region : ℕ) (side : Bool) (k : Kind) → enters k ≡ true → (sent_by y n side region k).guards ≡ []
enters_sends y n region side (Enter l) e = refl
enters_sends y n region side k e = absurd (false≢true e)

module _ (y : Layout) (g : GraphParts) (is : IsGraph g) (s : IsScoped y g) where
  -- The link that an arc is comes from its statement, if something guards what it sends.
  sends_itself : (n port : ℕ) (a : Arc) (l : IsLinkOf g n port a) (d : DraftParts) (x : Guard) → draft_at g.statements l.link.from.statement ≡ Some d → IsOf (sent_by y l.link.from.statement l.link.from.on_false d.region d.kind).guards x → (a.statement ≡ l.link.from.statement) × (draft_at g.statements a.statement ≡ Some d) × (a.on_false ≡ l.link.from.on_false)
  sends_itself n port a l d x at has = by (enters d.kind) refl
    where
      by : (b : Bool) → enters d.kind ≡ b → (a.statement ≡ l.link.from.statement) × (draft_at g.statements a.statement ≡ Some d) × (a.on_false ≡ l.link.from.on_false)
      by true e = absurd (no_of_none (sent_by y l.link.from.statement l.link.from.on_false d.region d.kind).guards x (enters_sends y l.link.from.statement d.region l.link.from.on_false d.kind e) has)
      by false e =
          let q = sender_is g n port a l d is at e in
          (q, ap (draft_at g.statements) q ∙ at, ap (λ (v : Output). v.on_false) (sym l.from))

  module _ (c : ℕ) (value : Bool) where
    -- an arc that is a link of which the guard guards what it sends has the guard, where what comes earlier has it
    arc_guarded : (P : ℕ → Type 0) (n port : ℕ) (a : Arc) (l : IsLinkOf g n port a) (d : DraftParts) → draft_at g.statements l.link.from.statement ≡ Some d → is_next d.kind ≡ false → IsOf (sent_by y l.link.from.statement l.link.from.on_false d.region d.kind).guards (guard c value) → ((m : ℕ) (e : DraftParts) → draft_at g.statements m ≡ Some e → y.order m ≤ y.order a.statement → IsOf (y.at m).guards (guard c value) → P m) → ArcOf (made g) c value P a
    arc_guarded P n port a l d at plain has earlier =
        let q = sends_itself n port a l d (guard c value) at has in
        let here : IsOf (sent_by y a.statement a.on_false d.region d.kind).guards (guard c value) =
        subst (λ (b : Bool). IsOf (sent_by y a.statement b d.region d.kind).guards (guard c value)) (sym q.2)
        (subst (λ (m : ℕ). IsOf (sent_by y m l.link.from.on_false d.region d.kind).guards (guard c value)) (sym q.0) has) in
        arc_has y g is s c value P a d q.1 earlier d.kind refl plain here

    -- by the order in which values come
    guarded : (m n : ℕ) (d : DraftParts) → draft_at g.statements n ≡ Some d → y.order n < m → IsOf (y.at n).guards (guard c value) → Rounds (StatementOf (made g) c value) m n
    guarded zero n d at low has = absurd (omega arith)
    guarded (suc m) n d at low has = by (comes_from_outside d.kind) refl (guarded m)
      where
        by : (b : Bool) → comes_from_outside d.kind ≡ b → ((k : ℕ) (e : DraftParts) → draft_at g.statements k ≡ Some e → y.order k < m → IsOf (y.at k).guards (guard c value) → Rounds (StatementOf (made g) c value) m k) → StatementOf (made g) c value (Rounds (StatementOf (made g) c value) m) n
        by true e rec = elim (s.begins n d at e) [
          | inl k ↦ inr (record {
            back = stands_as g n d Back at k;
            all = λ i ap_i.
                let e_i = draft_from g.links g.statements i ap_i.it ap_i.stands in
                let named : back_named e_i.0.kind ≡ Some n = ap (λ (v : StatementParts). back_named v.kind) e_i.2 ∙ ap_i.names in
                let w = s.backs i n e_i.0 e_i.1 named in
                let before = w.earlier in
                rec i e_i.0 e_i.1 (omega (arith, before, low)) (subst (λ (v : GuardedRegionParts). IsOf v.guards (guard c value)) (sym w.beside) has);
          })
          | inr none ↦ absurd (no_of_none (y.at n).guards (guard c value) none has)
        ]
        by false e rec = inl (record {
          it = statement_of g.links d;
          stands = made_at g.links g.statements n d at;
          takes = e;
          port = 1;
          exists = (omega arith, (few_ports d.kind).0);
          all = λ a leads.
              let l = arc_is g n 1 a leads in
              let w = s.links l.link l.is in
              let to : l.link.to.statement ≡ n = ap (λ (v : Destination). v.statement) l.to in
              let sent = w.guards (guard c value) (subst (λ (v : ℕ). IsOf (y.at v).guards (guard c value)) (sym to) has) in
              let q = sends_itself n 1 a l w.ends.from (guard c value) w.ends.sends sent in
              let here = ap y.order q.0 in
              let there = ap y.order to in
              elim w.earlier [
                | inl e ↦ absurd (no_of_none (sent_by y l.link.from.statement l.link.from.on_false w.ends.from.region w.ends.from.kind).guards (guard c value) e sent)
                | inr before ↦ arc_guarded (Rounds (StatementOf (made g) c value) m) n 1 a l w.ends.from w.ends.sends w.other sent
                    (λ k f at_k o has_k. rec k f at_k (omega (arith, here, there, before, low, o)) has_k)
              ];
        })

    pub has_guard : (n : ℕ) (d : DraftParts) → draft_at g.statements n ≡ Some d → IsOf (y.at n).guards (guard c value) → HasGuard (made g) c value n
    has_guard n d at has = (suc (y.order n), guarded (suc (y.order n)) n d at (omega arith) has)

    pub arc_has_guard : (n port : ℕ) (a : Arc) (l : IsLinkOf g n port a) (d : DraftParts) → draft_at g.statements l.link.from.statement ≡ Some d → is_next d.kind ≡ false → IsOf (sent_by y l.link.from.statement l.link.from.on_false d.region d.kind).guards (guard c value) → ArcHasGuard (made g) c value a
    arc_has_guard n port a l d at plain has = arc_guarded (HasGuard (made g) c value) n port a l d at plain has (λ m e at_m o has_m. has_guard m e at_m has_m)

  one_link : (n port : ℕ) (a b : Arc) (la : IsLinkOf g n port a) (lb : IsLinkOf g n port b) → la.link.from ≡ lb.link.from → Owner g la.by a.statement → Owner g lb.by b.statement → MayMeet (made g) a b
  one_link n port a b la lb same (own p ea) (own q eb) =
      let fa = ap (λ (v : Output). v.statement) la.from in
      let fb = ap (λ (v : Output). v.statement) lb.from in
      let ab = ap (λ (v : Output). v.statement) same in
      let e : a.statement ≡ b.statement = cc in
      inl (same_arcs g n port a b is la lb e same)
  one_link n port a b la lb same (other k e f h) (own q eb) =
      let fa = ap (λ (v : Output). v.statement) la.from in
      let fb = ap (λ (v : Output). v.statement) lb.from in
      let ab = ap (λ (v : Output). v.statement) same in
      let at : la.by.shares ≡ b.statement = cc in
      let enter = entering e h in
      let d = one_draft g.statements b.statement e lb.by (ap (draft_at g.statements) (sym at) ∙ f) lb.stands in
      inr (inr (inl ((enter.0, record { it = statement_of g.links lb.by; stands = made_at g.links g.statements b.statement lb.by lb.stands; kind = ap (λ (v : DraftParts). v.kind) (sym d) ∙ enter.1 }), record { it = statement_of g.links la.by; stands = made_at g.links g.statements a.statement la.by la.stands; kind = k })))
  one_link n port a b la lb same (own p ea) (other k e f h) =
      let fa = ap (λ (v : Output). v.statement) la.from in
      let fb = ap (λ (v : Output). v.statement) lb.from in
      let ab = ap (λ (v : Output). v.statement) same in
      let at : lb.by.shares ≡ a.statement = cc in
      let enter = entering e h in
      let d = one_draft g.statements a.statement e la.by (ap (draft_at g.statements) (sym at) ∙ f) la.stands in
      inr (inl ((enter.0, record { it = statement_of g.links la.by; stands = made_at g.links g.statements a.statement la.by la.stands; kind = ap (λ (v : DraftParts). v.kind) (sym d) ∙ enter.1 }), record { it = statement_of g.links lb.by; stands = made_at g.links g.statements b.statement lb.by lb.stands; kind = k }))
  one_link n port a b la lb same (other k e f h) (other l i j m) =
      let fa = ap (λ (v : Output). v.statement) la.from in
      let fb = ap (λ (v : Output). v.statement) lb.from in
      let ab = ap (λ (v : Output). v.statement) same in
      let shares : la.by.shares ≡ lb.by.shares = cc in
      inl (same_arcs g n port a b is la lb (s.one_next a.statement b.statement la.by lb.by la.stands lb.stands k l shares) same)

  apart : (n port : ℕ) (a b : Arc) (la : IsLinkOf g n port a) (lb : IsLinkOf g n port b) → AreApart y g.statements la.link lb.link → ArcsExclude (made g) a b
  apart n port a b la lb w =
      let one = s.links la.link la.is in
      let two = s.links lb.link lb.is in
      let d = one_draft g.statements la.link.from.statement one.ends.from w.ends.from one.ends.sends w.ends.sends in
      let e = one_draft g.statements lb.link.from.statement two.ends.from w.other.from two.ends.sends w.other.sends in (
        w.control,
        w.value,
        arc_has_guard w.control w.value n port a la w.ends.from w.ends.sends (ap (λ (v : DraftParts). is_next v.kind) (sym d) ∙ one.other) w.one,
        arc_has_guard w.control (not w.value) n port b lb w.other.from w.other.sends (ap (λ (v : DraftParts). is_next v.kind) (sym e) ∙ two.other) w.two,
      )

  one_source : (n port : ℕ) (a b : Arc) → Leads (made g) n port a → Leads (made g) n port b → MayMeet (made g) a b
  one_source n port a b p q =
      let la = arc_is g n port a p in
      let lb = arc_is g n port b q in
      elim (s.ports la.link lb.link la.is lb.is (la.to ∙ sym lb.to)) [
        | inl same ↦ one_link n port a b la lb same (owner_of g a.statement la.by is la.stands) (owner_of g b.statement lb.by is lb.stands)
        | inr w ↦ inr (inr (inr (apart n port a b la lb w)))
      ]

  one_turn : (m n : ℕ) (next : Stands (made g) m Next) (last : Stands (made g) n Last) → next.it.region ≡ last.it.region → Exclude (made g) m n
  one_turn m n next last same =
      let d = draft_from g.links g.statements m next.it next.stands in
      let e = draft_from g.links g.statements n last.it last.stands in
      let kd : d.0.kind ≡ Next = ap (λ (v : StatementParts). v.kind) d.2 ∙ next.kind in
      let ke : e.0.kind ≡ Last = ap (λ (v : StatementParts). v.kind) e.2 ∙ last.kind in
      let r : d.0.region ≡ e.0.region = ap (λ (v : StatementParts). v.region) d.2 ∙ (same ∙ ap (λ (v : StatementParts). v.region) (sym e.2)) in (
        y.test d.0.region,
        true,
        has_guard (y.test d.0.region) true m d.0 d.1 (s.nexts m d.0 d.1 kd),
        has_guard (y.test d.0.region) false n e.0 e.1 (subst (λ (v : ℕ). IsOf (y.at n).guards (guard (y.test v) false)) (sym r) (s.lasts n e.0 e.1 ke)),
      )

  one_end : (m n : ℕ) → Stands (made g) m End → Stands (made g) n End → m ≡ n
  one_end m n a b =
      let d = stands_from g m End a in
      let e = stands_from g n End b in
      s.one_end m n d.0 e.0 d.1 e.1 d.2 e.2

  one_apply : (n l m : ℕ) → Applies (made g) l n → Applies (made g) m n → l ≡ m
  one_apply n l m a b =
      let d = draft_from g.links g.statements l a.it a.stands in
      let e = draft_from g.links g.statements m b.it b.stands in
      s.one_apply l m n d.0 e.0 d.1 e.1 (ap (λ (v : StatementParts). back_named v.kind) d.2 ∙ a.names) (ap (λ (v : StatementParts). back_named v.kind) e.2 ∙ b.names)

  -- the block of the graph is determinate
  pub determinate : (name : List ℕ) → IsDeterminateBlock (block_of name g)
  determinate name = record { one_source = one_source; one_end = one_end; one_apply = one_apply; one_turn = one_turn }
