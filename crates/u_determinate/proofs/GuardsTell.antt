-- What a statement with a guard needs: a firing that gave the guard's value, beside it.
use Rattle.std.proofs.Common.{◌≡◌, ℕ, zero, suc, ◌+◌, ◌-◌, ◌<◌, refl, ap, sym, ◌∙◌, arith, subst, Bool, true, false, not, List, [], ◌∷◌, ◌++◌, length, Option, Some, Ok, cond, inl, inr}
use Rattle.std.specs.Prelude.{Contains}
use Rattle.std.proofs.lemmas.Bool.{false≢true}
use Rattle.std.proofs.lemmas.List.Elements.{Contains-append_left}
use Rattle.u_base.specs.Firing.{Held, Enabled, Derivation}
use Rattle.u_base.proofs.Member.{Contains-head, Contains-tail}
use Rattle.u_base.proofs.Determinate.{Derivation-enabled}
use Rattle.u_name.specs.Context.{Tree, Top, InLoop, InCall, IsBetween}
use Rattle.u_name.specs.Name.{Activity, activity, left}
use Rattle.u_value.specs.declared.value.Value.{Value}
use Rattle.u_value.specs.declared.value.Value.TheVariants as values
use Rattle.u_program.specs.declared.program.Kind.{Kind}
use Rattle.u_program.specs.declared.program.Kind.TheVariants.{Pass, Switch, Enter, Next, Last, Leave}
use Rattle.u_program.specs.declared.program.Destination.{Destination}
use Rattle.u_program.specs.Parts.{StatementParts, BlockParts}
use Rattle.u_check.specs.Kinds.{ports_of, comes_from_outside, is_back, is_last, is_leave, is_of_loop, back_named}
use Rattle.u_check.specs.Rules.{statement_at, Arc, destination_of, IsChecked}
use Rattle.u_check.specs.Jobs.{JobParts}
use Rattle.u_rule.specs.Parts.{TokenParts, token, ValueList}
use Rattle.u_rule.specs.Fits.{statement_in, statement_of}
use Rattle.u_rule.specs.Structures.{write_read, is_answer}
use Rattle.u_rule.specs.Rule.{is_firing_of, tokens_from, needs_of, first_of, result_of, beside, reached, system_of}
use Rattle.u_rule.specs.declared.entry.Entry.TheVariants as entries
use Rattle.u_rule.specs.declared.firing.Firing.{Firing}
use Rattle.u_determinate.specs.Arcs.{destination, Leads, OnlyArc}
use Rattle.u_determinate.specs.Guards.{Stands, Rounds, PassedOn, stays, FromBeside, FromSwitch, FromLeave, ArcOf, AtPort, AtBack, StatementOf, HasGuard, ArcHasGuard}
use Rattle.u_determinate.proofs.Named.{named}
use Rattle.u_determinate.proofs.Checked.{keeps, fires_of}
use Rattle.u_determinate.proofs.Givers.{Giver, ByEnd}
use Rattle.u_determinate.proofs.Parameters.{takes_argument}
use Rattle.u_determinate.proofs.Owning.{inner_of_statement}
use Rattle.u_determinate.proofs.Same.{Trouble, same_activity}
use Rattle.u_determinate.proofs.Rooted.{Rooted, Called, Entered, given_token, start_place, first_token, all_rooted, enabled_rooted}
use Rattle.u_determinate.proofs.Senders.{Placed, placed, Sent, sent, sender, looped}

pub same_place : (a b : Activity) → a.context ≡ b.context → a.block ≡ b.block → a.statement ≡ b.statement → a.initiation ≡ b.initiation → a ≡ b
same_place a b u c s i =
    ap (λ (x : Tree). activity x a.block a.statement a.initiation) u
    ∙ ap (λ (x : List ℕ). activity b.context x a.statement a.initiation) c
    ∙ ap (λ (x : ℕ). activity b.context b.block x a.initiation) s
    ∙ ap (λ (x : ℕ). activity b.context b.block b.statement x) i

pub same_destination : (d : Destination) (n p : ℕ) → d.statement ≡ n → d.port ≡ p → d ≡ destination n p
same_destination d n p e q = ap (λ (x : ℕ). destination x d.port) e ∙ ap (λ (x : ℕ). destination n x) q

pub last_kind : (k : Kind) → is_last k ≡ true → k ≡ Last
last_kind Last e = refl
last_kind k e = absurd (false≢true e)

pub loops_same : (u v : Tree) (b c : List ℕ) (l m i j : ℕ) → InLoop u b l i ≡ InLoop v c m j → (u ≡ v) × (b ≡ c) × (l ≡ m) × (i ≡ j)
loops_same u v b c l m i j e = ((cc), (cc), (cc), (cc))

pub left_is : (a : Activity) (n : ℕ) (outer : Tree) (c : List ℕ) (l j : ℕ) → a.context ≡ InLoop outer c l j → left a n ≡ activity outer c n j
left_is a n outer c l j e = rw e refl

left_alike : (a : Activity) (n m : ℕ) (u : Tree) → a.context ≡ u → ((left a n).context ≡ (left a m).context) × ((left a n).initiation ≡ (left a m).initiation)
left_alike a n m Top e = rw e (refl, refl)
left_alike a n m (InLoop v d l j) e = rw e (refl, refl)
left_alike a n m (InCall v d s j) e = rw e (refl, refl)

-- where a firing sends to, whatever statement it is
alike : (k : Kind) (a : Activity) (n m : ℕ) → ((reached k a n).context ≡ (reached k a m).context) × ((reached k a n).initiation ≡ (reached k a m).initiation)
alike (Enter l) a n m = (refl, refl)
alike Next a n m = (refl, refl)
alike Last a n m = (refl, refl)
alike Leave a n m = left_alike a n m a.context refl
alike k a n m = (refl, refl)

stays_beside : (k : Kind) (a : Activity) (n : ℕ) → stays k ≡ true → reached k a n ≡ beside a n
stays_beside (Enter l) a n e = absurd (false≢true e)
stays_beside Next a n e = absurd (false≢true e)
stays_beside Last a n e = absurd (false≢true e)
stays_beside Leave a n e = absurd (false≢true e)
stays_beside k a n e = refl

shown : (o s : Bool) → o ≡ not s → cond o false true ≡ s
shown true true e = sym e
shown false true e = refl
shown true false e = refl
shown false false e = sym e

-- Statement c gave that truth value to where the activity is.
pub record Gave (job : JobParts) (fs : List Firing) (a : Activity) (c : ℕ) (b : Bool) : Type 0 where
  pub firing : Firing
  pub fired : Contains fs firing
  pub it : StatementParts
  pub stands : statement_of job.program.blocks firing.activity.block firing.activity.statement ≡ Some it
  pub no_last : is_last it.kind ≡ false
  pub block : firing.activity.block ≡ a.block
  pub statement : firing.activity.statement ≡ c
  pub context : (reached it.kind firing.activity c).context ≡ a.context
  pub initiation : (reached it.kind firing.activity c).initiation ≡ a.initiation
  pub result : result_of it.kind firing.activity firing.values firing.write ≡ Ok (values.Bool b)
  pub no_answer : is_answer it.kind firing.write ≡ false

pub moved : (job : JobParts) (fs : List Firing) (a e : Activity) (c : ℕ) (b : Bool) → a.context ≡ e.context → a.block ≡ e.block → a.initiation ≡ e.initiation → Gave job fs a c b → Gave job fs e c b
moved job fs a e c b u n i g = record {
  firing = g.firing;
  fired = g.fired;
  it = g.it;
  stands = g.stands;
  no_last = g.no_last;
  block = g.block ∙ n;
  statement = g.statement;
  context = g.context ∙ u;
  initiation = g.initiation ∙ i;
  result = g.result;
  no_answer = g.no_answer;
}

nth : (a : Activity) (from : ℕ) (vs : ValueList) (i : ℕ) → i < length vs → (v : Value) × Contains (tokens_from a from vs) (entries.Token (token a (from + i) v))
nth a from [] i l = absurd (omega (arith, l))
nth a from (v ∷ vs) zero l =
    (v, subst (λ (p : ℕ). Contains (tokens_from a from (v ∷ vs)) (entries.Token (token a p v))) (omega arith) (Contains-head (entries.Token (token a from v)) (tokens_from a (from + 1) vs)))
nth a from (v ∷ vs) (suc i) l =
    let r = nth a (from + 1) vs i (omega (arith, l)) in
    (r.0, Contains-tail (entries.Token (token a from v)) (entries.Token (token a (from + suc i) r.0)) (tokens_from a (from + 1) vs) (subst (λ (p : ℕ). Contains (tokens_from a (from + 1) vs) (entries.Token (token a p r.0))) (omega arith) r.1))

module _ (job : JobParts) (sound : IsChecked job.program.blocks) (fs : List Firing) (d : Derivation (system_of job) fs) where
  On : Firing → Type 0
  On f = Enabled (system_of job) (Held (system_of job) fs) f

  pub member_enabled : (h : Firing) → Contains fs h → Enabled (system_of job) (Held (system_of job) fs) h
  member_enabled = Derivation-enabled (system_of job) fs d

  pub fires : (h : Firing) → Contains fs h → is_firing_of job h ≡ true
  fires h m = (member_enabled h m).0

  -- a token at each port of a firing that is on
  port_token : (f : Firing) → On f → (s : StatementParts) → statement_of job.program.blocks f.activity.block f.activity.statement ≡ Some s → (port : ℕ) → IsBetween 1 port (ports_of s.kind) → (v : Value) × Held (system_of job) fs (entries.Token (token f.activity port v))
  unfolding On needs_of
  port_token f x s e port h =
      let r = fires_of job sound f x.0 in
      let it : r.it ≡ s = (let p = r.stands in cc) in
      let count : length f.values ≡ ports_of s.kind = r.count ∙ ap (λ (z : StatementParts). ports_of z.kind) it in
      let n = nth f.activity 1 f.values (port - 1) (omega (arith, count, h.0, h.1)) in
      let place : 1 + (port - 1) ≡ port = omega (arith, h.0) in
      (n.0, subst (λ (i : ℕ). Held (system_of job) fs (entries.Token (token f.activity i n.0))) place (x.1 (entries.Token (token f.activity (1 + (port - 1)) n.0)) (Contains-append_left (tokens_from f.activity 1 f.values) (write_read f.values f.write) (entries.Token (token f.activity (1 + (port - 1)) n.0)) n.1)))

  second_token : (h : Firing) → On h → (v u : Value) (vs : ValueList) → h.values ≡ v ∷ u ∷ vs → Held (system_of job) fs (entries.Token (token h.activity 2 u))
  unfolding On needs_of
  second_token h x v u vs e =
      x.1 (entries.Token (token h.activity 2 u)) (rw e (Contains-tail (entries.Token (token h.activity 1 v)) (entries.Token (token h.activity 2 u)) (tokens_from h.activity 2 (u ∷ vs) ++ write_read (v ∷ u ∷ vs) h.write) (Contains-head (entries.Token (token h.activity 2 u)) (tokens_from h.activity 3 vs ++ write_read (v ∷ u ∷ vs) h.write))))

  first_value : (h : Firing) → On h → (u : Value) → first_of h.values ≡ Ok u → Held (system_of job) fs (entries.Token (token h.activity 1 u))
  unfolding On needs_of
  first_value h x u e = at h.values refl e
    where
      at : (vs : ValueList) → h.values ≡ vs → first_of vs ≡ Ok u → Held (system_of job) fs (entries.Token (token h.activity 1 u))
      at [] q z = absurd (cc)
      at (v ∷ vs) q z =
          let y : v ≡ u = cc in
          subst (λ (i : Value). Held (system_of job) fs (entries.Token (token h.activity 1 i))) y (x.1 (entries.Token (token h.activity 1 v)) (rw q (Contains-head (entries.Token (token h.activity 1 v)) (tokens_from h.activity 2 vs ++ write_read (v ∷ vs) h.write))))

  -- the one arc to a port brought what its statement gave
  brought : (t : TokenParts) (s : StatementParts) (p : Placed job t.activity s) → comes_from_outside s.kind ≡ false → is_leave s.kind ≡ false → (a : Arc) → OnlyArc p.block.statements t.activity.statement t.port a → (b : Bool) → t.value ≡ values.Bool b → Held (system_of job) fs (entries.Token t) → Gave job fs t.activity a.statement b
  brought t s p o l a only b v held =
      let stands : statement_of job.program.blocks t.activity.block t.activity.statement ≡ Some s = ap (λ (x : Option BlockParts). statement_in x t.activity.statement) p.named ∙ p.stands in
      let r = sender job sound fs fires t s stands o held in
      of r.0 r.1 r.2
    where
      of : (h : Firing) → Contains fs h → Sent job h t → Gave job fs t.activity a.statement b
      of h m k =
          let blocks : k.there.block ≡ p.block = (let x = k.there.named in let y = p.named in let z = k.block in cc) in
          let to : k.by.to ≡ destination t.activity.statement t.port = same_destination k.by.to t.activity.statement t.port (sym k.statement) (sym k.by.port) in
          let leads : destination_of p.block.statements k.arc ≡ Some (destination t.activity.statement t.port) = ap (λ (x : BlockParts). destination_of x.statements k.arc) (sym blocks) ∙ k.leads ∙ ap (λ (x : Destination). Some x) to in
          let target : k.target ≡ s = (let i = k.target_stands in let j = p.stands in let z = k.statement in cc) in
          let z = alike k.by.it.kind h.activity a.statement k.by.to.statement in
          record {
            firing = h;
            fired = m;
            it = k.by.it;
            stands = k.by.stands;
            no_last = k.leaves ∙ ap (λ (y : StatementParts). is_leave y.kind) target ∙ l;
            block = sym k.block;
            statement = sym k.from ∙ ap (λ (x : Arc). x.statement) (only.only k.arc leads);
            context = z.0 ∙ sym (ap (λ (x : Activity). x.context) k.by.activity);
            initiation = z.1 ∙ sym (ap (λ (x : Activity). x.initiation) k.by.activity);
            result = k.by.result ∙ ap (λ (x : Value). Ok x) v;
            no_answer = k.by.no_answer;
          }

  -- behind a `pass` it is what was given to that
  through : (p : BlockParts) (a : Activity) → named job a.block ≡ Some p → (n : ℕ) (b : Bool) → Stands p.statements n Pass → (x : Arc) → OnlyArc p.statements n 1 x → Gave job fs a n b → Gave job fs a x.statement b
  unfolding result_of On
  through p a q n b s x only g =
      let names : named job g.firing.activity.block ≡ Some p = ap (named job) g.block ∙ q in
      let there : statement_at p.statements g.firing.activity.statement ≡ Some s.it = ap (statement_at p.statements) g.statement ∙ s.stands in
      let stands : statement_of job.program.blocks g.firing.activity.block g.firing.activity.statement ≡ Some s.it = ap (λ (o : Option BlockParts). statement_in o g.firing.activity.statement) names ∙ there in
      let it : g.it ≡ s.it = (let i = g.stands in cc) in
      let kind : g.it.kind ≡ Pass = ap (λ (z : StatementParts). z.kind) it ∙ s.kind in
      let result : first_of g.firing.values ≡ Ok (values.Bool b) = ap (λ (k : Kind). result_of k g.firing.activity g.firing.values g.firing.write) (sym kind) ∙ g.result in
      let place : reached g.it.kind g.firing.activity n ≡ beside g.firing.activity n = ap (λ (k : Kind). reached k g.firing.activity n) kind in
      moved job fs g.firing.activity a x.statement b
      (ap (λ (z : Activity). z.context) (sym place) ∙ g.context)
      g.block
      (ap (λ (z : Activity). z.initiation) (sym place) ∙ g.initiation)
      (brought (token g.firing.activity 1 (values.Bool b)) s.it (record { block = p; named = names; stands = there })
      (subst (λ (k : Kind). comes_from_outside k ≡ false) (sym s.kind) refl)
      (subst (λ (k : Kind). is_leave k ≡ false) (sym s.kind) refl)
      x (subst (λ (i : ℕ). OnlyArc p.statements i 1 x) (sym g.statement) only) b refl (first_value g.firing (member_enabled g.firing g.fired) (values.Bool b) result))

  passed : (p : BlockParts) (a : Activity) → named job a.block ≡ Some p → (k c n : ℕ) (b : Bool) → Rounds (PassedOn p.statements c) k n → Gave job fs a n b → Gave job fs a c b
  passed p a q zero c n b e g = absurd e
  passed p a q (suc k) c n b (inl e) g = subst (λ (i : ℕ). Gave job fs a i b) e g
  passed p a q (suc k) c n b (inr x) g =
      passed p a q k c x.arc.statement b x.from (through p a q n b x.stands x.arc x.only g)

  -- In block p, P is known of those statements alone beside which c gave that truth value.
  Tells : BlockParts → (ℕ → Type 0) → ℕ → Bool → Type 0
  Tells p P c b = (g : Firing) → On g → named job g.activity.block ≡ Some p → P g.activity.statement → Gave job fs g.activity c b

  -- what a guarded arc delivers
  module _ (p : BlockParts) (P : ℕ → Type 0) (c : ℕ) (b : Bool) (tells : Tells p P c b) (g : Firing) (x : On g) (t : TokenParts) (k : Sent job g t) (same : k.there.block ≡ p) where
    names : named job g.activity.block ≡ Some p
    names = k.there.named ∙ ap (λ (z : BlockParts). Some z) same

    stands_there : statement_at p.statements g.activity.statement ≡ Some k.by.it
    stands_there = ap (λ (z : BlockParts). statement_at z.statements g.activity.statement) (sym same) ∙ k.there.stands

    sender_is : (s : StatementParts) → statement_at p.statements k.arc.statement ≡ Some s → k.by.it ≡ s
    sender_is s e = let i = stands_there in let j = k.from in cc

    beside_gave : FromBeside p.statements P k.arc → Gave job fs t.activity c b
    unfolding Tells
    beside_gave a =
        let kind : stays k.by.it.kind ≡ true = ap (λ (z : StatementParts). stays z.kind) (sender_is a.it a.stands) ∙ a.kind in
        let place : t.activity ≡ beside g.activity k.by.to.statement = k.by.activity ∙ stays_beside k.by.it.kind g.activity k.by.to.statement kind in
        moved job fs g.activity t.activity c b (sym (ap (λ (z : Activity). z.context) place)) (sym k.block) (sym (ap (λ (z : Activity). z.initiation) place)) (tells g x names (subst P k.from a.has))

    switch_gave : FromSwitch p.statements c b k.arc → Gave job fs t.activity c b
    switch_gave a =
        let kind : k.by.it.kind ≡ Switch = ap (λ (z : StatementParts). z.kind) (sender_is a.switch.it a.switch.stands) ∙ a.switch.kind in
        let vs = k.by.side kind in
        let value : cond k.by.on_false false true ≡ b = shown k.by.on_false b (sym k.side ∙ a.side) in
        let list : g.values ≡ vs.0 ∷ values.Bool b ∷ vs.1 = vs.2 ∙ ap (λ (z : Bool). vs.0 ∷ values.Bool z ∷ vs.1) value in
        let place : t.activity ≡ beside g.activity k.by.to.statement = k.by.activity ∙ ap (λ (z : Kind). reached z g.activity k.by.to.statement) kind in
        let at_switch : Gave job fs g.activity a.control.statement b = brought (token g.activity 2 (values.Bool b)) k.by.it (record { block = p; named = names; stands = stands_there })
        (subst (λ (z : Kind). comes_from_outside z ≡ false) (sym kind) refl)
        (subst (λ (z : Kind). is_leave z ≡ false) (sym kind) refl)
        a.control (subst (λ (i : ℕ). OnlyArc p.statements i 2 a.control) k.from a.controls) b refl (second_token g x vs.0 (values.Bool b) vs.1 list) in
        moved job fs g.activity t.activity c b (sym (ap (λ (z : Activity). z.context) place)) (sym k.block) (sym (ap (λ (z : Activity). z.initiation) place))
        (passed p g.activity names a.source.0 c a.control.statement b a.source.1 at_switch)

    leave_gave : FromLeave p.statements P k.arc → Gave job fs t.activity c b
    unfolding On Tells
    leave_gave a =
        let it : k.by.it ≡ a.leave.it = sender_is a.leave.it a.leave.stands in
        let kind : k.by.it.kind ≡ Leave = ap (λ (z : StatementParts). z.kind) it ∙ a.leave.kind in
        let l = looped job sound g x.0 k.by.it k.there (subst (λ (z : Kind). is_of_loop z ≡ true) (sym kind) refl) in
        let r = enabled_rooted job sound fs (all_rooted job sound fs d) g x in
        let q : Rooted job fs (InLoop l.outer g.activity.block k.by.it.region l.turn) g.activity.block g.activity.initiation = subst (λ (v : Tree). Rooted job fs v g.activity.block g.activity.initiation) l.context r in
        let place : t.activity ≡ activity l.outer g.activity.block k.by.to.statement l.turn = k.by.activity ∙ ap (λ (z : Kind). reached z g.activity k.by.to.statement) kind ∙ left_is g.activity k.by.to.statement l.outer g.activity.block k.by.it.region l.turn l.context in
        entered place it q.3
      where
        entered : {outer : Tree} {turn : ℕ} → t.activity ≡ activity outer g.activity.block k.by.to.statement turn → k.by.it ≡ a.leave.it → Entered job fs outer g.activity.block k.by.it.region turn → Gave job fs t.activity c b
        entered {outer} {turn} place it e =
            let named_e : named job e.firing.activity.block ≡ Some p = ap (named job) e.block ∙ names in
            let there : statement_at p.statements e.firing.activity.statement ≡ Some e.it = sym (ap (λ (o : Option BlockParts). statement_in o e.firing.activity.statement) names) ∙ e.stands in
            let kind : e.it.kind ≡ Enter a.leave.it.region = e.is_enter ∙ ap (λ (z : StatementParts). Enter z.region) it in
            moved job fs e.firing.activity t.activity c b
            (e.context ∙ sym (ap (λ (z : Activity). z.context) place))
            (e.block ∙ sym k.block)
            (e.initiation ∙ sym (ap (λ (z : Activity). z.initiation) place))
            (tells e.firing (member_enabled e.firing e.fired) named_e (a.has e.firing.activity.statement (record { it = e.it; stands = there; kind = kind })))

    arc_gave : ArcOf p.statements c b P k.arc → Gave job fs t.activity c b
    arc_gave (inl a) = beside_gave a
    arc_gave (inr (inl a)) = switch_gave a
    arc_gave (inr (inr a)) = leave_gave a

  -- a statement of whose arcs to some port each is guarded
  port_tells : (p : BlockParts) (P : ℕ → Type 0) (c : ℕ) (b : Bool) → Tells p P c b → Tells p (AtPort p.statements (ArcOf p.statements c b P)) c b
  unfolding On Tells
  port_tells p P c b tells f x q h =
      let stands : statement_of job.program.blocks f.activity.block f.activity.statement ≡ Some h.it = ap (λ (o : Option BlockParts). statement_in o f.activity.statement) q ∙ h.stands in
      let v = port_token f x h.it stands h.port h.exists in
      let r = sender job sound fs fires (token f.activity h.port v.0) h.it stands h.takes v.1 in
      of v.0 r.0 r.1 r.2
    where
      of : (v : Value) (g : Firing) → Contains fs g → Sent job g (token f.activity h.port v) → Gave job fs f.activity c b
      of v g m k =
          let same : k.there.block ≡ p = (let i = k.there.named in let j = k.block in cc) in
          let to : k.by.to ≡ destination f.activity.statement h.port = same_destination k.by.to f.activity.statement h.port (sym k.statement) (sym k.by.port) in
          let leads : Leads p.statements f.activity.statement h.port k.arc = ap (λ (z : BlockParts). destination_of z.statements k.arc) (sym same) ∙ k.leads ∙ ap (λ (z : Destination). Some z) to in
          arc_gave p P c b tells g (member_enabled g m) (token f.activity h.port v) k same (h.all k.arc leads)

  -- a `back` whose `apply` is guarded
  back_tells : (p : BlockParts) (P : ℕ → Type 0) (c : ℕ) (b : Bool) → Tells p P c b → Tells p (AtBack p.statements P) c b
  unfolding On Tells
  back_tells p P c b tells f x q h =
      let v = first_token job sound (Held (system_of job) fs) f x in
      elim (given_token job fs (token f.activity 1 v.0) v.1) [
        | inl z ↦ absurd (first (ap (λ (a : Activity). a.statement) (start_place job (token f.activity 1 v.0) z).0))
        | inr (g, m, r) ↦ of v.0 g m r
      ]
    where
      first : f.activity.statement ≡ 1 → ⊥
      first e =
          let z = (keeps job sound f.activity.block p q f.activity.statement h.back.it h.back.stands).begin_first e in
          let y = h.back.kind in
          cc

      called : (g : Firing) (v : Value) (r : ByEnd job g (token f.activity 1 v)) → Called fs (activity r.outer r.from r.caller r.turn) g.activity.block → Gave job fs f.activity c b
      called g v r k =
          let block : k.firing.activity.block ≡ f.activity.block = ap (λ (a : Activity). a.block) k.activity ∙ sym (ap (λ (a : Activity). a.block) r.activity) in
          let names : named job k.firing.activity.block ≡ Some p = ap (named job) block ∙ q in
          let number : k.firing.activity.statement ≡ r.caller = ap (λ (a : Activity). a.statement) k.activity in
          let from : named job r.from ≡ Some p = sym (ap (named job) (ap (λ (a : Activity). a.block) k.activity)) ∙ names in
          let there : statement_at p.statements k.firing.activity.statement ≡ Some r.by = ap (statement_at p.statements) number ∙ sym (ap (λ (o : Option BlockParts). statement_in o r.caller) from) ∙ r.by_stands in
          let names_it : back_named r.by.kind ≡ Some f.activity.statement = r.names ∙ ap (λ (i : ℕ). Some i) (sym (ap (λ (a : Activity). a.statement) r.activity)) in
          moved job fs k.firing.activity f.activity c b
          (ap (λ (a : Activity). a.context) k.activity ∙ sym (ap (λ (a : Activity). a.context) r.activity))
          block
          (ap (λ (a : Activity). a.initiation) k.activity ∙ sym (ap (λ (a : Activity). a.initiation) r.activity))
          (tells k.firing (member_enabled k.firing k.fired) names (h.all k.firing.activity.statement (record { it = r.by; stands = there; names = names_it })))

      of : (v : Value) (g : Firing) → Contains fs g → Giver job g (token f.activity 1 v) → Gave job fs f.activity c b
      of v g m (inl r) =
          let k = sent job sound g (fires g m) (token f.activity 1 v) r in
          let same : k.there.block ≡ p = (let i = k.there.named in let j = k.block in cc) in
          let target : k.target ≡ h.back.it = (let i = k.target_stands in let j = h.back.stands in let z = k.statement in cc) in
          absurd (false≢true (sym k.takes ∙ ap (λ (z : StatementParts). comes_from_outside z.kind) target ∙ ap comes_from_outside h.back.kind))
      of v g m (inr (inl r)) =
          absurd (false≢true (sym (takes_argument job sound g (token f.activity 1 v) r f.activity.block p q f.activity.statement h.back.it h.back.stands refl refl).1 ∙ ap is_back h.back.kind))
      of v g m (inr (inr r)) =
          let q = all_rooted job sound fs d g m in
          let z : Rooted job fs (InCall r.outer r.from r.caller r.turn) g.activity.block g.activity.initiation = subst (λ (u : Tree). Rooted job fs u g.activity.block g.activity.initiation) r.context q in
          called g v r z.0

  -- THE LEMMA: where a statement with a guard is on, c gave that truth value beside it.
  statement_tells : (p : BlockParts) (c : ℕ) (b : Bool) (k : ℕ) → Tells p (Rounds (StatementOf p.statements c b) k) c b
  unfolding Tells
  statement_tells p c b zero f x q h = absurd h
  statement_tells p c b (suc k) f x q (inl h) =
      port_tells p (Rounds (StatementOf p.statements c b) k) c b (statement_tells p c b k) f x q h
  statement_tells p c b (suc k) f x q (inr h) =
      back_tells p (Rounds (StatementOf p.statements c b) k) c b (statement_tells p c b k) f x q h

  has_guard_tells : (p : BlockParts) (c : ℕ) (b : Bool) → Tells p (HasGuard p.statements c b) c b
  unfolding Tells
  has_guard_tells p c b f x q h = statement_tells p c b h.0 f x q h.1

  pub guard_gave : (p : BlockParts) (c : ℕ) (b : Bool) (f : Firing) → Enabled (system_of job) (Held (system_of job) fs) f → named job f.activity.block ≡ Some p → HasGuard p.statements c b f.activity.statement → Gave job fs f.activity c b
  unfolding On Tells
  guard_gave p c b f x q h = statement_tells p c b h.0 f x q h.1

  pub arc_guard_gave : (p : BlockParts) (c : ℕ) (b : Bool) (g : Firing) → Enabled (system_of job) (Held (system_of job) fs) g → (t : TokenParts) (k : Sent job g t) → k.there.block ≡ p → ArcHasGuard p.statements c b k.arc → Gave job fs t.activity c b
  unfolding On
  arc_guard_gave p c b g x t k same h =
      arc_gave p (HasGuard p.statements c b) c b (has_guard_tells p c b) g x t k same h

  -- a `leave` fires at the first initiation alone
  pub leave_at_one : (f : Firing) → Enabled (system_of job) (Held (system_of job) fs) f → (s : StatementParts) → statement_of job.program.blocks f.activity.block f.activity.statement ≡ Some s → s.kind ≡ Leave → f.activity.initiation ≡ 1
  leave_at_one f x s e q =
      let t = first_token job sound (Held (system_of job) fs) f x in
      let r = sender job sound fs fires (token f.activity 1 t.0) s e (subst (λ (k : Kind). comes_from_outside k ≡ false) (sym q) refl) t.1 in
      let k = r.2 in
      let p = placed job f.activity s e in
      let b : k.there.block ≡ p.block = (let i = k.there.named in let j = p.named in let z = k.block in cc) in
      let it : k.target ≡ s = (let i = k.target_stands in let j = p.stands in let z = k.statement in cc) in
      let l = last_kind k.by.it.kind (k.leaves ∙ ap (λ (y : StatementParts). is_leave y.kind) it ∙ ap is_leave q) in
      ap (λ (a : Activity). a.initiation) (k.by.activity ∙ ap (λ (y : Kind). reached y r.0.activity k.by.to.statement) l)

  -- two firings of one statement, no `last`, that send to one place
  module _ (f g : Firing) (x : Enabled (system_of job) (Held (system_of job) fs) f) (y : Enabled (system_of job) (Held (system_of job) fs) g) (s : StatementParts) (e : statement_of job.program.blocks f.activity.block f.activity.statement ≡ Some s) (b : f.activity.block ≡ g.activity.block) (m : f.activity.statement ≡ g.activity.statement) where
    there : statement_of job.program.blocks g.activity.block g.activity.statement ≡ Some s
    there = ap (λ (z : List ℕ). statement_of job.program.blocks z g.activity.statement) (sym b) ∙ ap (λ (z : ℕ). statement_of job.program.blocks f.activity.block z) (sym m) ∙ e

    of_leave : s.kind ≡ Leave → (n : ℕ) → (left f.activity n).context ≡ (left g.activity n).context → (left f.activity n).initiation ≡ (left g.activity n).initiation → f.activity ≡ g.activity
    of_leave q n h i =
        let loop : is_of_loop s.kind ≡ true = subst (λ (k : Kind). is_of_loop k ≡ true) (sym q) refl in
        let p = looped job sound f x.0 s (placed job f.activity s e) loop in
        let r = looped job sound g y.0 s (placed job g.activity s there) loop in
        let u = left_is f.activity n p.outer f.activity.block s.region p.turn p.context in
        let v = left_is g.activity n r.outer g.activity.block s.region r.turn r.context in
        let o : p.outer ≡ r.outer = sym (ap (λ (a : Activity). a.context) u) ∙ h ∙ ap (λ (a : Activity). a.context) v in
        let t : p.turn ≡ r.turn = sym (ap (λ (a : Activity). a.initiation) u) ∙ i ∙ ap (λ (a : Activity). a.initiation) v in
        let c : f.activity.context ≡ g.activity.context = p.context ∙ ap (λ (v : Tree). InLoop v f.activity.block s.region p.turn) o ∙ ap (λ (v : List ℕ). InLoop r.outer v s.region p.turn) b ∙ ap (λ (v : ℕ). InLoop r.outer g.activity.block s.region v) t ∙ sym r.context in
        same_place f.activity g.activity c b m (leave_at_one f x s e q ∙ sym (leave_at_one g y s there q))

    pub same_reached : (k : Kind) → s.kind ≡ k → is_last k ≡ false → (n : ℕ) → (reached k f.activity n).context ≡ (reached k g.activity n).context → (reached k f.activity n).initiation ≡ (reached k g.activity n).initiation → f.activity ≡ g.activity
    same_reached (Enter l) q o n h i =
        let z = loops_same f.activity.context g.activity.context f.activity.block g.activity.block l l f.activity.initiation g.activity.initiation h in
        same_place f.activity g.activity z.0 b m z.3
    same_reached Next q o n h i = same_place f.activity g.activity h b m (omega (arith, i))
    same_reached Last q o n h i = absurd (false≢true (sym o))
    same_reached Leave q o n h i = of_leave q n h i
    same_reached k q o n h i = same_place f.activity g.activity h b m i

  no_negation : (b : Bool) → b ≡ not b → ⊥
  no_negation true e = false≢true (sym e)
  no_negation false e = false≢true e

  -- one statement gives one truth value to a place, or there is trouble
  pub gave_both : (a : Activity) (c : ℕ) (b : Bool) → Gave job fs a c b → Gave job fs a c (not b) → Trouble (Held (system_of job) fs)
  gave_both a c b p q =
      let names : p.firing.activity.block ≡ q.firing.activity.block = p.block ∙ sym q.block in
      let number : p.firing.activity.statement ≡ q.firing.activity.statement = p.statement ∙ sym q.statement in
      let it : q.it ≡ p.it = (let i = p.stands in let j = q.stands in cc) in
      let x = member_enabled p.firing p.fired in
      let y = member_enabled q.firing q.fired in
      let same : p.firing.activity ≡ q.firing.activity = same_reached p.firing q.firing x y p.it p.stands names number p.it.kind refl p.no_last c
      (p.context ∙ sym q.context ∙ ap (λ (s : StatementParts). (reached s.kind q.firing.activity c).context) it)
      (p.initiation ∙ sym q.initiation ∙ ap (λ (s : StatementParts). (reached s.kind q.firing.activity c).initiation) it) in
      elim (same_activity job sound (Held (system_of job) fs) p.firing q.firing x y same (inner_of_statement job p.firing x.0 p.it p.stands p.no_answer) (inner_of_statement job q.firing y.0 q.it q.stands q.no_answer)) [
        | inr z ↦ z
        | inl z ↦ absurd (no_negation b (differ it z))
      ]
    where
      differ : q.it ≡ p.it → p.firing ≡ q.firing → b ≡ not b
      differ it z = (let i = p.result in let j = q.result in cc)
