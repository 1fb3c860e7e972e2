-- Two firings that give tokens for one port are of one activity, or there is trouble.
use Rattle.std.proofs.Common.{◌≡◌, ℕ, zero, suc, ◌+◌, ◌<◌, refl, ap, sym, ◌∙◌, arith, subst, Bool, true, false, not, List, Some, inl, inr, ◌⊎◌}
use Rattle.std.proofs.lemmas.Bool.{false≢true}
use Rattle.u_base.specs.Firing.{Held, Enabled, Derivation}
use Rattle.u_name.specs.Context.{Tree, InLoop, InCall}
use Rattle.u_name.specs.Name.{Activity, activity, call_context}
use Rattle.u_program.specs.declared.program.Kind.{Kind}
use Rattle.u_program.specs.declared.program.Kind.TheVariants.{Enter, Next, Last}
use Rattle.u_program.specs.declared.program.Destination.{Destination}
use Rattle.u_program.specs.Parts.{StatementParts, BlockParts}
use Rattle.u_check.specs.Kinds.{is_back, is_last, is_of_loop, is_end}
use Rattle.u_check.specs.Rules.{statement_at, Arc, destination_of, IsChecked}
use Rattle.u_check.specs.Jobs.{JobParts}
use Rattle.u_rule.specs.Parts.{TokenParts}
use Rattle.u_rule.specs.Fits.{statement_of}
use Rattle.u_rule.specs.Rule.{is_firing_of, reached, system_of}
use Rattle.u_rule.specs.declared.firing.Firing.{Firing}
use Rattle.u_determinate.specs.Arcs.{ArcFrom}
use Rattle.u_determinate.specs.Determinate.{MayMeet, IsDeterminate}
use Rattle.u_determinate.proofs.Named.{block_of}
use Rattle.u_determinate.proofs.GuardsTell.{same_place, same_destination, last_kind, member_enabled, moved, arc_guard_gave, gave_both, same_reached}
use Rattle.u_determinate.proofs.Checked.{keeps, fires_of}
use Rattle.u_determinate.proofs.Givers.{Giver, ByArc, ByApply, ByEnd}
use Rattle.u_determinate.proofs.Owning.{call_is_inner}
use Rattle.u_determinate.proofs.Same.{Trouble, same_activity}
use Rattle.u_determinate.proofs.Rooted.{Rooted, Called, all_rooted, enabled_rooted}
use Rattle.u_determinate.proofs.Senders.{Placed, placed, Sent, sent, looped, not_back}
use Rattle.u_determinate.proofs.Parameters.{takes_argument}
use Rattle.u_determinate.proofs.LoopLaws.{last_twice}

compare : (m n : ℕ) → (m ≡ n) ⊎ ((m < n) ⊎ (n < m))
compare zero zero = inl refl
compare zero (suc n) = inr (inl (omega arith))
compare (suc m) zero = inr (inr (omega arith))
compare (suc m) (suc n) =
    elim (compare m n) [ inl e ↦ inl (omega (arith, e)) | inr l ↦ elim l [ inl a ↦ inr (inl (omega (arith, a))) | inr b ↦ inr (inr (omega (arith, b))) ] ]

module _ (job : JobParts) (sound : IsChecked job.program.blocks) where
  -- a token that came along an arc came from no `apply` and from no `end`
  pub arc_or_apply : (f g : Firing) (t u : TokenParts) → is_firing_of job f ≡ true → ByArc job f t → ByApply job g u → t.activity ≡ u.activity → ⊥
  arc_or_apply f g t u x b c e =
      let s = sent job sound f x t b in
      false≢true (sym s.takes ∙ (takes_argument job sound g u c f.activity.block s.there.block s.there.named s.by.to.statement s.target s.target_stands (ap (λ (a : Activity). a.block) (sym e) ∙ s.block) (ap (λ (a : Activity). a.statement) (sym e) ∙ s.statement)).0)

  pub arc_or_end : (f g : Firing) (t u : TokenParts) → is_firing_of job f ≡ true → ByArc job f t → ByEnd job g u → t.activity ≡ u.activity → ⊥
  arc_or_end f g t u x b c e =
      let s = sent job sound f x t b in
      let n : s.by.to.statement ≡ c.back = sym s.statement ∙ ap (λ (a : Activity). a.statement) (e ∙ c.activity) in
      let m : f.activity.block ≡ c.from = sym s.block ∙ ap (λ (a : Activity). a.block) (e ∙ c.activity) in
      let q = placed job (activity c.outer c.from c.caller c.turn) c.by c.by_stands in
      let z : s.there.block ≡ q.block = (let i = s.there.named in let j = q.named in cc) in
      not_back job sound c.from q.block c.caller c.back c.by s.target q.named q.stands c.names
      (ap (λ (y : BlockParts). statement_at y.statements c.back) (sym z) ∙ ap (statement_at s.there.block.statements) (sym n) ∙ s.target_stands) s.takes

  pub apply_or_end : (f g : Firing) (t u : TokenParts) → ByApply job f t → ByEnd job g u → t.activity ≡ u.activity → ⊥
  apply_or_end f g t u b c e =
      let q = placed job (activity c.outer c.from c.caller c.turn) c.by c.by_stands in
      let k = (keeps job sound c.from q.block q.named c.caller c.by q.stands).apply_back c.back c.names in
      let z : t.activity ≡ activity c.outer c.from c.back c.turn = e ∙ c.activity in
      false≢true (sym (takes_argument job sound f t b c.from q.block q.named c.back k.0 k.1 (ap (λ (a : Activity). a.block) z) (ap (λ (a : Activity). a.statement) z)).1 ∙ ap is_back k.2)

  -- one firing gives one argument to a statement
  one_argument : (f : Firing) (t u : TokenParts) → ByApply job f t → ByApply job f u → t.activity ≡ u.activity → t.value ≡ u.value
  one_argument f t u b c e =
      let number : 1 + b.place ≡ 1 + c.place = ap (λ (a : Activity). a.statement) (sym b.activity ∙ e ∙ c.activity) in
      let place : b.place ≡ c.place = omega (arith, number) in
      let rest : b.rest ≡ c.rest = (let p = b.values in let q = c.values in cc) in
      let p = b.argument in
      let q = c.argument in
      cc

  -- one firing gives one value to a port
  pub one_value : (f : Firing) → is_firing_of job f ≡ true → (t u : TokenParts) → Giver job f t → Giver job f u → t.activity ≡ u.activity → t.value ≡ u.value
  one_value f x t u (inl b) (inl c) e = (let s : b.it ≡ c.it = (let i = b.stands in let j = c.stands in cc) in let p = b.result in let q = c.result in let r = ap (λ (z : StatementParts). z.kind) s in values b c r)
    where
      values : (b : ByArc job f t) (c : ByArc job f u) → b.it.kind ≡ c.it.kind → t.value ≡ u.value
      values b c r = (let p = b.result in let q = c.result in cc)
  one_value f x t u (inl b) (inr (inl c)) e = absurd (arc_or_apply f f t u x b c e)
  one_value f x t u (inl b) (inr (inr c)) e = absurd (arc_or_end f f t u x b c e)
  one_value f x t u (inr (inl b)) (inl c) e = absurd (arc_or_apply f f u t x c b (sym e))
  one_value f x t u (inr (inl b)) (inr (inl c)) e = one_argument f t u b c e
  one_value f x t u (inr (inl b)) (inr (inr c)) e = absurd (apply_or_end f f t u b c e)
  one_value f x t u (inr (inr b)) (inl c) e = absurd (arc_or_end f f u t x c b (sym e))
  one_value f x t u (inr (inr b)) (inr (inl c)) e = absurd (apply_or_end f f u t c b (sym e))
  one_value f x t u (inr (inr b)) (inr (inr c)) e = (let p = b.result in let q = c.result in cc)

module _ (job : JobParts) (sound : IsChecked job.program.blocks) (determinate : IsDeterminate job.program.blocks) (fs : List Firing) (d : Derivation (system_of job) fs) where
  On : Firing → Type 0
  On f = Enabled (system_of job) (Held (system_of job) fs) f

  Troubled : Type 0
  Troubled = Trouble (Held (system_of job) fs)

  calls_same : (u v : Tree) (b c : List ℕ) (l m i j : ℕ) → InCall u b l i ≡ InCall v c m j → (u ≡ v) × (b ≡ c) × (l ≡ m) × (i ≡ j)
  calls_same u v b c l m i j e = ((cc), (cc), (cc), (cc))

  -- two firings of one statement that reach one activity
  module _ (f g : Firing) (x : On f) (y : On g) (s : StatementParts) (e : statement_of job.program.blocks f.activity.block f.activity.statement ≡ Some s) (b : f.activity.block ≡ g.activity.block) (m : f.activity.statement ≡ g.activity.statement) where
    e' : statement_of job.program.blocks g.activity.block g.activity.statement ≡ Some s
    e' = ap (λ (z : List ℕ). statement_of job.program.blocks z g.activity.statement) (sym b) ∙ ap (λ (z : ℕ). statement_of job.program.blocks f.activity.block z) (sym m) ∙ e

    of_last : s.kind ≡ Last → f.activity.context ≡ g.activity.context → (f.activity ≡ g.activity) ⊎ Troubled
    unfolding On Troubled
    of_last q c =
        elim (compare f.activity.initiation g.activity.initiation) [
          | inl i ↦ inl (same_place f.activity g.activity c b m i)
          | inr l ↦ elim l [
            | inl h ↦ inr (last_twice job sound fs d determinate f g x y s e q c b h)
            | inr h ↦ inr (last_twice job sound fs d determinate g f y x s e' q (sym c) (sym b) h)
          ]
        ]

    by_kind : (k : Kind) → s.kind ≡ k → (n : ℕ) → reached k f.activity n ≡ reached k g.activity n → (f.activity ≡ g.activity) ⊎ Troubled
    unfolding On
    by_kind k q n h = at (is_last k) refl
      where
        at : (y : Bool) → is_last k ≡ y → (f.activity ≡ g.activity) ⊎ Troubled
        at true l =
            let o = last_kind k l in
            let z : reached Last f.activity n ≡ reached Last g.activity n = subst (λ (i : Kind). reached i f.activity n ≡ reached i g.activity n) o h in
            of_last (q ∙ o) (ap (λ (a : Activity). a.context) z)
        at false l =
            inl (same_reached job sound fs d f g x y s e b m k q l n (ap (λ (a : Activity). a.context) h) (ap (λ (a : Activity). a.initiation) h))

  -- an `enter` and a `next` don't send to one activity
  entered_and_stepped : (f g : Firing) → On g → (t u : TokenParts) (a : Sent job f t) (c : Sent job g u) → t.activity ≡ u.activity → (l : ℕ) → a.by.it.kind ≡ Enter l → c.by.it.kind ≡ Next → ⊥
  unfolding On
  entered_and_stepped f g y t u a c e l p q =
      let i : t.activity.initiation ≡ 1 = ap (λ (z : Activity). z.initiation) (a.by.activity ∙ ap (λ (k : Kind). reached k f.activity a.by.to.statement) p) in
      let j : u.activity.initiation ≡ g.activity.initiation + 1 = ap (λ (z : Activity). z.initiation) (c.by.activity ∙ ap (λ (k : Kind). reached k g.activity c.by.to.statement) q) in
      let lp = looped job sound g y.0 c.by.it c.there (subst (λ (k : Kind). is_of_loop k ≡ true) (sym q) refl) in
      let r = enabled_rooted job sound fs (all_rooted job sound fs d) g y in
      let z : Rooted job fs (InLoop lp.outer g.activity.block c.by.it.region lp.turn) g.activity.block g.activity.initiation = subst (λ (v : Tree). Rooted job fs v g.activity.block g.activity.initiation) lp.context r in
      let h : t.activity.initiation ≡ u.activity.initiation = ap (λ (v : Activity). v.initiation) e in
      omega (arith, i, j, h, z.0)

  two_arcs : (f g : Firing) → On f → On g → (t u : TokenParts) → Sent job f t → Sent job g u → t.activity ≡ u.activity → t.port ≡ u.port → (f.activity ≡ g.activity) ⊎ Troubled
  unfolding On Troubled
  two_arcs f g x y t u a c e r =
      let names : f.activity.block ≡ g.activity.block = sym a.block ∙ ap (λ (z : Activity). z.block) e ∙ c.block in
      let blocks : a.there.block ≡ c.there.block = (let i = a.there.named in let j = c.there.named in cc) in
      let n : a.by.to.statement ≡ c.by.to.statement = sym a.statement ∙ ap (λ (z : Activity). z.statement) e ∙ c.statement in
      let to : a.by.to ≡ c.by.to = same_destination a.by.to c.by.to.statement c.by.to.port n (sym a.by.port ∙ r ∙ c.by.port) in
      let leads : destination_of a.there.block.statements c.arc ≡ Some a.by.to = ap (λ (z : BlockParts). destination_of z.statements c.arc) blocks ∙ c.leads ∙ ap (λ (z : Destination). Some z) (sym to) in
      at names blocks n ((block_of job determinate f.activity.block a.there.block a.there.named).one_source a.by.to.statement a.by.to.port a.arc c.arc a.leads leads)
    where
      it_of : (k : Kind) (h : Firing) (v : TokenParts) (z : Sent job h v) → ArcFrom z.there.block.statements z.arc k → z.by.it.kind ≡ k
      it_of k h v z from =
          let q : from.it ≡ z.by.it = (let i = from.stands in let j = z.there.stands in let o = z.from in cc) in
          ap (λ (s : StatementParts). s.kind) (sym q) ∙ from.kind

      carried : (k : Kind) → a.there.block ≡ c.there.block → ArcFrom a.there.block.statements c.arc k → ArcFrom c.there.block.statements c.arc k
      carried k q from = record { it = from.it; stands = ap (λ (z : BlockParts). statement_at z.statements c.arc.statement) (sym q) ∙ from.stands; kind = from.kind }

      at : f.activity.block ≡ g.activity.block → a.there.block ≡ c.there.block → a.by.to.statement ≡ c.by.to.statement → MayMeet a.there.block.statements a.arc c.arc → (f.activity ≡ g.activity) ⊎ Troubled
      at names blocks n (inl q) =
          let m : f.activity.statement ≡ g.activity.statement = sym a.from ∙ ap (λ (z : Arc). z.statement) q ∙ c.from in
          let it : a.by.it ≡ c.by.it = (let i = a.there.stands in let j = c.there.stands in cc) in
          let p : reached a.by.it.kind f.activity a.by.to.statement ≡ reached a.by.it.kind g.activity a.by.to.statement =
          sym a.by.activity ∙ e ∙ c.by.activity ∙ ap (λ (z : StatementParts). reached z.kind g.activity c.by.to.statement) (sym it) ∙ ap (λ (z : ℕ). reached a.by.it.kind g.activity z) (sym n) in
          by_kind f g x y a.by.it a.by.stands names m a.by.it.kind refl a.by.to.statement p
      at names blocks n (inr (inl q)) =
          absurd (entered_and_stepped f g y t u a c e q.0.0 (it_of (Enter q.0.0) f t a q.0.1) (it_of Next g u c (carried Next blocks q.1)))
      at names blocks n (inr (inr (inl q))) =
          absurd (entered_and_stepped g f x u t c a (sym e) q.0.0 (it_of (Enter q.0.0) g u c (carried (Enter q.0.0) blocks q.0.1)) (it_of Next f t a q.1))
      at names blocks n (inr (inr (inr (i, value, p, q)))) =
          let place = moved job fs u.activity t.activity i (not value) (sym (ap (λ (z : Activity). z.context) e)) (sym (ap (λ (z : Activity). z.block) e)) (sym (ap (λ (z : Activity). z.initiation) e)) in
          inr (gave_both job sound fs d t.activity i value
          (arc_guard_gave job sound fs d a.there.block i value f x t a refl p)
          (place (arc_guard_gave job sound fs d a.there.block i (not value) g y u c (sym blocks) q)))

  call_of : (h : Firing) → On h → (outer : Tree) (from : List ℕ) (caller turn : ℕ) → h.activity.context ≡ InCall outer from caller turn → Called fs (activity outer from caller turn) h.activity.block
  unfolding On
  call_of h x outer from caller turn e =
      let r = enabled_rooted job sound fs (all_rooted job sound fs d) h x in
      let z : Rooted job fs (InCall outer from caller turn) h.activity.block h.activity.initiation = subst (λ (v : Tree). Rooted job fs v h.activity.block h.activity.initiation) e r in
      z.0

  -- the block that an activity called is one
  one_called : (a : Activity) (b c : List ℕ) → Called fs a b → Called fs a c → (b ≡ c) ⊎ Troubled
  unfolding Troubled
  one_called a b c p q =
      elim (same_activity job sound (Held (system_of job) fs) p.firing q.firing (member_enabled job sound fs d p.firing p.fired) (member_enabled job sound fs d q.firing q.fired) (p.activity ∙ sym q.activity) (call_is_inner job p.firing (member_enabled job sound fs d p.firing p.fired).0 b p.rest p.values) (call_is_inner job q.firing (member_enabled job sound fs d q.firing q.fired).0 c q.rest q.values)) [
        | inr z ↦ inr z
        | inl z ↦ inl (let i = p.values in let j = q.values in cc)
      ]

  at_one : (h : Firing) → On h → (t : TokenParts) → ByEnd job h t → h.activity.initiation ≡ 1
  unfolding On
  at_one h x t b =
      let r = fires_of job sound h x.0 in
      let p = placed job h.activity b.it b.stands in
      let k = keeps job sound h.activity.block p.block p.named h.activity.statement b.it p.stands in
      let it : r.it ≡ b.it = (let i = r.stands in let j = b.stands in cc) in
      r.outside (ap (λ (s : StatementParts). s.region) it ∙ k.end_outside (ap is_end b.is_end))

  two_ends : (f g : Firing) → On f → On g → (t u : TokenParts) → ByEnd job f t → ByEnd job g u → t.activity ≡ u.activity → (f.activity ≡ g.activity) ⊎ Troubled
  two_ends f g x y t u b c e =
      let z : activity b.outer b.from b.back b.turn ≡ activity c.outer c.from c.back c.turn = sym b.activity ∙ e ∙ c.activity in
      ended (ap (λ (a : Activity). a.context) z) (ap (λ (a : Activity). a.block) z) (ap (λ (a : Activity). a.statement) z) (ap (λ (a : Activity). a.initiation) z)
      (placed job (activity b.outer b.from b.caller b.turn) b.by b.by_stands) (placed job (activity c.outer c.from c.caller c.turn) c.by c.by_stands)
    where
      same_block : (f.activity.block ≡ g.activity.block) → f.activity.context ≡ g.activity.context → (f.activity ≡ g.activity) ⊎ Troubled
      same_block n o =
          let p = placed job f.activity b.it b.stands in
          let q = placed job g.activity c.it c.stands in
          let k : q.block ≡ p.block = (let i = p.named in let j = q.named in cc) in
          let m = (block_of job determinate f.activity.block p.block p.named).one_end f.activity.statement g.activity.statement (record { it = b.it; stands = p.stands; kind = b.is_end }) (record { it = c.it; stands = ap (λ (v : BlockParts). statement_at v.statements g.activity.statement) (sym k) ∙ q.stands; kind = c.is_end }) in
          inl (same_place f.activity g.activity o n m (at_one f x t b ∙ sym (at_one g y u c)))

      ended : b.outer ≡ c.outer → b.from ≡ c.from → b.back ≡ c.back → b.turn ≡ c.turn → Placed job (activity b.outer b.from b.caller b.turn) b.by → Placed job (activity c.outer c.from c.caller c.turn) c.by → (f.activity ≡ g.activity) ⊎ Troubled
      ended o n k i p q =
          let z : q.block ≡ p.block = (let j = p.named in let l = q.named in cc) in
          let callers : b.caller ≡ c.caller = (block_of job determinate b.from p.block p.named).one_apply b.back b.caller c.caller (record { it = b.by; stands = p.stands; names = b.names }) (record { it = c.by; stands = ap (λ (v : BlockParts). statement_at v.statements c.caller) (sym z) ∙ q.stands; names = c.names ∙ ap (λ (j : ℕ). Some j) (sym k) }) in
          let same : activity b.outer b.from b.caller b.turn ≡ activity c.outer c.from c.caller c.turn = same_place (activity b.outer b.from b.caller b.turn) (activity c.outer c.from c.caller c.turn) o n callers i in
          let context : f.activity.context ≡ g.activity.context = b.context ∙ ap call_context same ∙ sym c.context in
          let ours = call_of f x b.outer b.from b.caller b.turn b.context in
          let theirs = call_of g y c.outer c.from c.caller c.turn c.context in
          elim (one_called (activity b.outer b.from b.caller b.turn) f.activity.block g.activity.block ours (subst (λ (a : Activity). Called fs a g.activity.block) (sym same) theirs))
          [ inl j ↦ same_block j context | inr h ↦ inr h ]

  pub same_source : (f g : Firing) → Enabled (system_of job) (Held (system_of job) fs) f → Enabled (system_of job) (Held (system_of job) fs) g → (t u : TokenParts) → Giver job f t → Giver job g u → t.activity ≡ u.activity → t.port ≡ u.port → (f.activity ≡ g.activity) ⊎ Trouble (Held (system_of job) fs)
  unfolding On Troubled
  same_source f g x y t u (inl b) (inl c) e r = two_arcs f g x y t u (sent job sound f x.0 t b) (sent job sound g y.0 u c) e r
  same_source f g x y t u (inl b) (inr (inl c)) e r = absurd (arc_or_apply job sound f g t u x.0 b c e)
  same_source f g x y t u (inl b) (inr (inr c)) e r = absurd (arc_or_end job sound f g t u x.0 b c e)
  same_source f g x y t u (inr (inl b)) (inl c) e r = absurd (arc_or_apply job sound g f u t y.0 c b (sym e))
  same_source f g x y t u (inr (inl b)) (inr (inl c)) e r =
      let h : activity (call_context f.activity) b.block (1 + b.place) 1 ≡ activity (call_context g.activity) c.block (1 + c.place) 1 = sym b.activity ∙ e ∙ c.activity in
      let z = calls_same f.activity.context g.activity.context f.activity.block g.activity.block f.activity.statement g.activity.statement f.activity.initiation g.activity.initiation (ap (λ (a : Activity). a.context) h) in
      inl (same_place f.activity g.activity z.0 z.1 z.2 z.3)
  same_source f g x y t u (inr (inl b)) (inr (inr c)) e r = absurd (apply_or_end job sound f g t u b c e)
  same_source f g x y t u (inr (inr b)) (inl c) e r = absurd (arc_or_end job sound g f u t y.0 c b (sym e))
  same_source f g x y t u (inr (inr b)) (inr (inl c)) e r = absurd (apply_or_end job sound g f u t c b (sym e))
  same_source f g x y t u (inr (inr b)) (inr (inr c)) e r = two_ends f g x y t u b c e
