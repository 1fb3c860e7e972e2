-- Which rules of the checker the block of a graph keeps whose statements and links stand well.
use Rattle.std.proofs.Common.{◌≡◌, ℕ, ◌-◌, arith, refl, sym, ap, ◌∙◌, Bool, true, false, not, ◌==◌, Some}
use Rattle.std.specs.Prelude.{◌||◌, ◌&&◌, if◌then◌else◌}
use Rattle.std.specs.List.{list_any}
use Rattle.std.proofs.lemmas.Bool.{false≢true, and_from, eq-eqb, ne_eqb, eqb-true}
use Rattle.u_program.specs.declared.program.Kind.{Kind}
use Rattle.u_program.specs.declared.program.Kind.TheVariants.{Begin, Enter, Next, Apply, Back, Param, End}
use Rattle.u_program.specs.declared.program.Parameter.{Parameter}
use Rattle.u_program.specs.declared.program.Parameter.TheVariants as parameters
use Rattle.u_program.specs.declared.program.Destination.{Destination}
use Rattle.u_program.specs.Limits.{place_of}
use Rattle.u_program.specs.Parts.{StatementParts}
use Rattle.u_check.specs.Kinds.{is_begin, is_back, is_last, is_leave, is_end, is_of_loop, back_named}
use Rattle.u_check.specs.Rules.{statement_at, Arc, begins_well, names_back, is_back_in, applies_to, is_applied, leaves_after_last, lies_in, is_param_in, follows_params, comes_in_order}
use Rattle.u_check.proofs.Arcs.{has_number}
use Rattle.u_determinate.specs.Arcs.{Leads}
use Rattle.u_compile.specs.declared.graph.Output.{Output}
use Rattle.u_compile.specs.Drafts.{DraftParts}
use Rattle.u_compile.specs.Graphs.{GraphParts, draft_at, enters, IsGraph}
use Rattle.u_compile.specs.Blocks.{statement_of}
use Rattle.u_compile.specs.Scoped.{GuardedRegionParts, Layout, sent_by, IsScoped}
use Rattle.u_compile.specs.Orderly.{IsNamed, IsParamAt, FollowsParams, IsOrderly}
use Rattle.u_compile.proofs.ArcLaws.{made_at, IsLinkOf, arc_is}
use Rattle.u_compile.proofs.GuardLaws.{made, one_draft, Owner, own, other, owner_of}
use Rattle.u_compile.proofs.RuleLaws.{any_get}

begin_is : (k : Kind) → is_begin k ≡ true → k ≡ Begin
begin_is Begin e = refl
begin_is k e = absurd (false≢true e)

back_is : (k : Kind) → is_back k ≡ true → k ≡ Back
back_is Back e = refl
back_is k e = absurd (false≢true e)

end_is : (k : Kind) → is_end k ≡ true → k ≡ End
end_is End e = refl
end_is k e = absurd (false≢true e)

not_begin : (k : Kind) → (k ≡ Begin → ⊥) → is_begin k ≡ false
not_begin Begin o = absurd (o refl)
not_begin k o = refl

applies : (k : Kind) (n : ℕ) → back_named k ≡ Some n → applies_to n k ≡ true
applies (Apply b c) n e = let q : b ≡ n = cc in eq-eqb b n q
applies k n e = cc

same_leaves : (a b : Bool) → a ≡ b → (if a then b else not b) ≡ true
same_leaves true true e = refl
same_leaves false false e = refl
same_leaves true false e = absurd (false≢true (sym e))
same_leaves false true e = absurd (false≢true e)

or_by : (a b : Bool) → (a ≡ true → b ≡ true) → (not a || b) ≡ true
or_by true b h = h refl
or_by false b h = refl

module _ (y : Layout) (g : GraphParts) (is : IsGraph g) (s : IsScoped y g) (o : IsOrderly g.statements g.links) where
  module _ (n : ℕ) (d : DraftParts) (at : draft_at g.statements n ≡ Some d) where
    -- the first statement is the `begin`, and no other one is
    pub begins : begins_well n (statement_of g.links d) ≡ true
    unfolding begins_well
    begins = by (n == 1) refl
      where
        by : (b : Bool) → (n == 1) ≡ b → (if b then is_begin d.kind && d.region == 0 else not (is_begin d.kind)) ≡ true
        by true e =
            let w = o.stands n d at in
            let k = w.first (eqb-true n 1 e) in
            and_from (is_begin d.kind) (d.region == 0) (ap is_begin k) (eq-eqb d.region 0 (w.begins k).1)
        by false e = ap not (not_begin d.kind (λ k. false≢true (sym e ∙ eq-eqb n 1 ((o.stands n d at).begins k).0)))

    -- an `apply` names a `back` of its region
    pub names_its_back : names_back (made g) d.region d.kind ≡ true
    unfolding names_back
    names_its_back = by d.kind refl
      where
        called : (b : ℕ) → back_named d.kind ≡ Some b → is_back_in d.region (statement_at (made g) b) ≡ true
        called b named =
            let c = s.backs n b d at named in
            let same : d.region ≡ c.back.region = s.region n d at ∙ (ap (λ (v : GuardedRegionParts). v.region) c.beside ∙ sym (s.region b c.back c.stands)) in
            ap (is_back_in d.region) (made_at g.links g.statements b c.back c.stands) ∙ and_from (is_back c.back.kind) (d.region == c.back.region) (ap is_back c.kind) (eq-eqb d.region c.back.region same)

        by : (k : Kind) → d.kind ≡ k → names_back (made g) d.region k ≡ true
        by (Apply b c) q = called b (ap back_named q)
        by k q = refl

    -- a `back` is named
    pub is_named : (not (is_back d.kind) || is_applied (made g) n) ≡ true
    unfolding is_applied
    is_named = or_by (is_back d.kind) (list_any (λ (t : StatementParts). applies_to n t.kind) (made g)) (λ e.
        let w : IsNamed g.statements n = (o.stands n d at).backs (back_is d.kind e) in
        let num = has_number (made g) w.0 (statement_of g.links w.1) (made_at g.links g.statements w.0 w.1 w.2) in
        any_get (λ (t : StatementParts). applies_to n t.kind) (made g) (w.0 - 1) (statement_of g.links w.1) num.1 (applies w.1.kind n w.3))

    -- what makes the turns of loops lies in one
    pub turns : (not (is_of_loop d.kind) || not (d.region == 0)) ≡ true
    turns = or_by (is_of_loop d.kind) (not (d.region == 0)) (λ e.
        let low = (o.stands n d at).turns e in
        ap not (ne_eqb d.region 0 (λ z. omega (arith, low, z))))

    -- an `end` lies in none
    pub ends : (not (is_end d.kind) || d.region == 0) ≡ true
    ends = or_by (is_end d.kind) (d.region == 0) (λ e. eq-eqb d.region 0 ((o.stands n d at).ends (end_is d.kind e)))

    param_in : (m : ℕ) → IsParamAt g.statements m → is_param_in (statement_at (made g) m) ≡ true
    param_in m w = ap is_param_in (made_at g.links g.statements m w.0 w.1) ∙ w.2

    follows : (k : Parameter) → FollowsParams g.statements k → follows_params (made g) k ≡ true
    unfolding follows_params
    follows parameters.Second f = refl
    follows parameters.Third f = param_in 2 f
    follows parameters.Fourth f = and_from (is_param_in (statement_at (made g) 2)) (is_param_in (statement_at (made g) 3)) (param_in 2 f.0) (param_in 3 f.1)

    -- a `param` comes behind those of the parameters before it
    pub params : comes_in_order (made g) n (statement_of g.links d) d.kind ≡ true
    unfolding comes_in_order
    params = by d.kind refl
      where
        by : (k : Kind) → d.kind ≡ k → comes_in_order (made g) n (statement_of g.links d) k ≡ true
        by (Param k) q =
            let c = (o.stands n d at).params k q in
            and_from (n == place_of k && d.region == 0) (follows_params (made g) k)
            (and_from (n == place_of k) (d.region == 0) (eq-eqb n (place_of k) c.number) (eq-eqb d.region 0 c.outer))
            (follows k c.follows)
        by k q = refl

  module _ (n m port : ℕ) (a : Arc) (leads : Leads (made g) m port a) (d : DraftParts) (at : draft_at g.statements n ≡ Some d) (from : a.statement ≡ n) where
    -- the statement that the arc leads to, which is a `leave` if this one is a `last`
    taken : (e : DraftParts) × (draft_at g.statements m ≡ Some e) × (is_last d.kind ≡ is_leave e.kind)
    taken = by (arc_is g m port a leads) (owner_of g a.statement (arc_is g m port a leads).by is (arc_is g m port a leads).stands)
      where
        by : (j : IsLinkOf g m port a) → Owner g j.by a.statement → (e : DraftParts) × (draft_at g.statements m ≡ Some e) × (is_last d.kind ≡ is_leave e.kind)
        by j w =
            let l = o.leaves j.link j.is in
            let same : j.by ≡ d = one_draft g.statements n j.by d (ap (draft_at g.statements) (sym from) ∙ j.stands) at in
            let shared : j.link.from.statement ≡ j.by.shares = ap (λ (v : Output). v.statement) j.from in
            let there : draft_at g.statements m ≡ Some l.taker = ap (λ (v : Destination). draft_at g.statements v.statement) (sym j.to) ∙ l.takes in
            (l.taker, there, kinds j.by same l.sender (ap (draft_at g.statements) (sym shared) ∙ l.sends) w ∙ l.same)
          where
            kinds : (x : DraftParts) → x ≡ d → (z : DraftParts) → draft_at g.statements x.shares ≡ Some z → Owner g x a.statement → is_last d.kind ≡ is_last z.kind
            kinds x e z stands (own q shares) =
                let same : z ≡ d = one_draft g.statements n z d (ap (draft_at g.statements) (sym (shares ∙ from)) ∙ stands) at in
                ap (λ (v : DraftParts). is_last v.kind) (sym same)
            kinds x e z stands (other k t f h) =
                let same : z ≡ t = one_draft g.statements x.shares z t stands f in
                (ap (λ (v : DraftParts). is_last v.kind) (sym e) ∙ ap is_last k) ∙ sym (ap (λ (v : DraftParts). is_last v.kind) same ∙ entered t.kind h)
              where
                entered : (c : Kind) → enters c ≡ true → is_last c ≡ false
                entered (Enter l) q = refl
                entered c q = absurd (false≢true q)

    -- a `last` sends to `leave` statements, and nothing else does
    pub leaves_last : leaves_after_last (is_last d.kind) (statement_at (made g) m) ≡ true
    leaves_last = ap (leaves_after_last (is_last d.kind)) (made_at g.links g.statements m taken.0 taken.1) ∙ same_leaves (is_last d.kind) (is_leave taken.0.kind) taken.2

    -- a `next` sends into its own region
    pub next_region : d.kind ≡ Next → lies_in d.region (statement_at (made g) m) ≡ true
    next_region k = by (arc_is g m port a leads)
      where
        by : IsLinkOf g m port a → lies_in d.region (statement_at (made g) m) ≡ true
        by j =
            let u = s.links j.link j.is in
            let same : j.by ≡ d = one_draft g.statements n j.by d (ap (draft_at g.statements) (sym from) ∙ j.stands) at in
            let shared : j.link.from.statement ≡ d.shares = ap (λ (v : Output). v.statement) j.from ∙ ap (λ (v : DraftParts). v.shares) same in
            let e = (o.stands n d at).next k in
            let sender : u.ends.from ≡ e.0 = one_draft g.statements d.shares u.ends.from e.0 (ap (draft_at g.statements) (sym shared) ∙ u.ends.sends) e.1 in
            let kind : u.ends.from.kind ≡ Enter d.region = ap (λ (v : DraftParts). v.kind) sender ∙ e.2 in
            let arrives : (sent_by y j.link.from.statement j.link.from.on_false u.ends.from.region u.ends.from.kind).region ≡ d.region = ap (λ (c : Kind). (sent_by y j.link.from.statement j.link.from.on_false u.ends.from.region c).region) kind in
            let there : draft_at g.statements m ≡ Some u.ends.to = ap (λ (v : Destination). draft_at g.statements v.statement) (sym j.to) ∙ u.ends.takes in
            let to : (y.at j.link.to.statement).region ≡ (y.at m).region = ap (λ (v : Destination). (y.at v.statement).region) j.to in
            let region : d.region ≡ u.ends.to.region = sym arrives ∙ (u.region ∙ (to ∙ sym (s.region m u.ends.to there))) in
            ap (lies_in d.region) (made_at g.links g.statements m u.ends.to there) ∙ eq-eqb d.region u.ends.to.region region
