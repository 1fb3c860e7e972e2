-- Where a `last` fires at two initiations of one context, there is trouble.
use Rattle.std.proofs.Common.{◌≡◌, ℕ, zero, suc, ◌+◌, ◌-◌, ◌≤◌, ◌<◌, refl, ap, sym, ◌∙◌, arith, subst, Bool, true, not, List, Some, inl, inr}
use Rattle.u_base.specs.Firing.{Held, Enabled, Derivation}
use Rattle.u_name.specs.Context.{Tree, InLoop}
use Rattle.u_name.specs.Name.{activity}
use Rattle.u_program.specs.declared.program.Kind.{Kind}
use Rattle.u_program.specs.declared.program.Kind.TheVariants.{Next, Last}
use Rattle.u_program.specs.Parts.{StatementParts, BlockParts}
use Rattle.u_check.specs.Kinds.{is_of_loop}
use Rattle.u_check.specs.Rules.{statement_at, IsChecked}
use Rattle.u_check.specs.Jobs.{JobParts}
use Rattle.u_rule.specs.Parts.{TokenParts}
use Rattle.u_rule.specs.Fits.{statement_of}
use Rattle.u_rule.specs.Rule.{system_of}
use Rattle.u_rule.specs.declared.entry.Entry.TheVariants as entries
use Rattle.u_rule.specs.declared.firing.Firing.{Firing}
use Rattle.u_determinate.specs.Guards.{HasGuard}
use Rattle.u_determinate.specs.Determinate.{Exclude, IsDeterminate}
use Rattle.u_determinate.proofs.Named.{named, block_of}
use Rattle.u_determinate.proofs.Checked.{keeps}
use Rattle.u_determinate.proofs.Same.{Trouble}
use Rattle.u_determinate.proofs.Rooted.{Rooted, RootedAt, Stepped, all_rooted, enabled_rooted, held_rooted}
use Rattle.u_determinate.proofs.Senders.{Placed, placed, Looped, looped}
use Rattle.u_determinate.proofs.GuardsTell.{Gave, moved, member_enabled, guard_gave, gave_both}

module _ (job : JobParts) (sound : IsChecked job.program.blocks) (fs : List Firing) (d : Derivation (system_of job) fs) where
  -- each initiation below one that is rooted was stepped from
  earlier : (k i : ℕ) (v : Tree) (e : List ℕ) (l j : ℕ) (block : List ℕ) → 1 ≤ i → Rooted job fs (InLoop v e l j) block (i + suc k) → Stepped job fs (InLoop v e l j) block i
  earlier zero i v e l j block z r = elim r.1 [ inl q ↦ absurd (omega (arith, q, z)) | inr (m, q, s) ↦ (let y : m ≡ i = omega (arith, q) in subst (λ (x : ℕ). Stepped job fs (InLoop v e l j) block x) y s) ]
  earlier (suc k) i v e l j block z r =
      elim r.1 [
        | inl q ↦ absurd (omega (arith, q, z))
        | inr (m, q, s) ↦
            let y : m ≡ i + suc k = omega (arith, q) in
            let a = all_rooted job sound fs d s.firing s.fired in
            let b : Rooted job fs (InLoop v e l j) s.firing.activity.block s.firing.activity.initiation = subst (λ (u : Tree). Rooted job fs u s.firing.activity.block s.firing.activity.initiation) s.context a in
            let c : Rooted job fs (InLoop v e l j) block s.firing.activity.initiation = subst (λ (x : List ℕ). Rooted job fs (InLoop v e l j) x s.firing.activity.initiation) s.block b in
            earlier k i v e l j block z (subst (λ (x : ℕ). Rooted job fs (InLoop v e l j) block x) (s.initiation ∙ y) c)
      ]

  -- the statement of a `next` that stepped, in its block
  record SteppedIn (b : BlockParts) (l n : ℕ) (s : StatementParts) : Type 0 where
    stands : statement_at b.statements n ≡ Some s
    region : s.region ≡ l

  stepped_in : (b : BlockParts) (l : ℕ) (outer : Tree) (name : List ℕ) (turn i : ℕ) → named job name ≡ Some b → (st : Stepped job fs (InLoop outer name l turn) name i) → SteppedIn b l st.firing.activity.statement st.it
  stepped_in b l outer name turn i q st = by (placed job st.firing.activity st.it stands)
    where
      stands : statement_of job.program.blocks st.firing.activity.block st.firing.activity.statement ≡ Some st.it
      stands = ap (λ (z : List ℕ). statement_of job.program.blocks z st.firing.activity.statement) st.block ∙ st.stands

      by : Placed job st.firing.activity st.it → SteppedIn b l st.firing.activity.statement st.it
      by p =
          let men = member_enabled job sound fs d st.firing st.fired in
          let blocks : p.block ≡ b = (let x = p.named in let y = q in let z = st.block in cc) in
          let ml = looped job sound st.firing men.0 st.it p (subst (λ (k : Kind). is_of_loop k ≡ true) (sym st.is_next) refl) in
          record {
            stands = ap (λ (z : BlockParts). statement_at z.statements st.firing.activity.statement) (sym blocks) ∙ p.stands;
            region = (let x = ml.context in let y = st.context in cc);
          }

  -- a guard of a `next` that fired at initiation i told there
  stepped_gave : (b : BlockParts) (l : ℕ) (outer : Tree) (name : List ℕ) (turn i : ℕ) → named job name ≡ Some b → (st : Stepped job fs (InLoop outer name l turn) name i) → (c : ℕ) (value : Bool) → HasGuard b.statements c value st.firing.activity.statement → (n : ℕ) → Gave job fs (activity (InLoop outer name l turn) name n i) c value
  stepped_gave b l outer name turn i q st c value h n =
      moved job fs st.firing.activity (activity (InLoop outer name l turn) name n i) c value st.context st.block st.initiation
      (guard_gave job sound fs d b c value st.firing (member_enabled job sound fs d st.firing st.fired) (ap (named job) st.block ∙ q) h)

  -- Nothing is held at initiation i + 1 of a loop's context unless a guard of each `next` of the loop
  -- gave its truth value at i.
  pub later_needs_guard : (b : BlockParts) (l : ℕ) (outer : Tree) (turn i : ℕ) (t : TokenParts) → Held (system_of job) fs (entries.Token t) → t.activity.context ≡ InLoop outer t.activity.block l turn → t.activity.initiation ≡ i + 1 → 1 ≤ i → named job t.activity.block ≡ Some b → (c : ℕ) (value : Bool) → ((n : ℕ) (s : StatementParts) → statement_at b.statements n ≡ Some s → s.region ≡ l → s.kind ≡ Next → HasGuard b.statements c value n) → (n : ℕ) → Gave job fs (activity (InLoop outer t.activity.block l turn) t.activity.block n i) c value
  later_needs_guard b l outer turn i t h u n o q c value all m =
      let r : Rooted job fs (InLoop outer t.activity.block l turn) t.activity.block t.activity.initiation = subst (λ (u : Tree). Rooted job fs u t.activity.block t.activity.initiation) u (held_rooted job sound fs d t h) in
      elim r.1 [
        | inl e ↦ absurd (omega (arith, e, n, o))
        | inr (k, e, s) ↦
            let z : k ≡ i = omega (arith, e, n) in
            let st = subst (λ (x : ℕ). Stepped job fs (InLoop outer t.activity.block l turn) t.activity.block x) z s in
            let p = stepped_in b l outer t.activity.block turn i q st in
            stepped_gave b l outer t.activity.block turn i q st c value (all st.firing.activity.statement st.it p.stands p.region st.is_next) m
      ]

  module _ (determinate : IsDeterminate job.program.blocks) where
    -- two firings of a `last` in one context, at two initiations
    pub last_twice : (f g : Firing) → Enabled (system_of job) (Held (system_of job) fs) f → Enabled (system_of job) (Held (system_of job) fs) g → (s : StatementParts) → statement_of job.program.blocks f.activity.block f.activity.statement ≡ Some s → s.kind ≡ Last → f.activity.context ≡ g.activity.context → f.activity.block ≡ g.activity.block → f.activity.initiation < g.activity.initiation → Trouble (Held (system_of job) fs)
    last_twice f g x y s e last u n lt =
        let p = placed job f.activity s e in
        let lp = looped job sound f x.0 s p (subst (λ (k : Kind). is_of_loop k ≡ true) (sym last) refl) in
        let fr = enabled_rooted job sound fs (all_rooted job sound fs d) f x in
        let gr = enabled_rooted job sound fs (all_rooted job sound fs d) g y in
        two p lp fr gr
      where
        -- the `next` that fired at the earlier initiation, and this `last`, exclude each other
        stepping : (p : Placed job f.activity s) (l : Looped f s.region) → Stepped job fs (InLoop l.outer f.activity.block s.region l.turn) f.activity.block f.activity.initiation → Trouble (Held (system_of job) fs)
        stepping p l st =
            let k = keeps job sound f.activity.block p.block p.named f.activity.statement s p.stands in
            let q = stepped_in p.block s.region l.outer f.activity.block l.turn f.activity.initiation p.named st in
            apart p l st ((block_of job determinate f.activity.block p.block p.named).one_turn st.firing.activity.statement f.activity.statement (record { it = st.it; stands = q.stands; kind = st.is_next }) (record { it = s; stands = p.stands; kind = last }) q.region)
          where
            apart : (p : Placed job f.activity s) (l : Looped f s.region) (st : Stepped job fs (InLoop l.outer f.activity.block s.region l.turn) f.activity.block f.activity.initiation) → Exclude p.block.statements st.firing.activity.statement f.activity.statement → Trouble (Held (system_of job) fs)
            apart p l st (c, value, a, b) =
                let place = activity (InLoop l.outer f.activity.block s.region l.turn) f.activity.block f.activity.statement f.activity.initiation in
                gave_both job sound fs d place c value
                (stepped_gave p.block s.region l.outer f.activity.block l.turn f.activity.initiation p.named st c value a f.activity.statement)
                (moved job fs f.activity place c (not value) l.context refl refl (guard_gave job sound fs d p.block c (not value) f x p.named b))

        two : (p : Placed job f.activity s) → Looped f s.region → RootedAt job fs f.activity → RootedAt job fs g.activity → Trouble (Held (system_of job) fs)
        two p lp fr gr =
            let frl : Rooted job fs (InLoop lp.outer f.activity.block s.region lp.turn) f.activity.block f.activity.initiation = subst (λ (z : Tree). Rooted job fs z f.activity.block f.activity.initiation) lp.context fr in
            let gr1 : Rooted job fs (InLoop lp.outer f.activity.block s.region lp.turn) g.activity.block g.activity.initiation = subst (λ (z : Tree). Rooted job fs z g.activity.block g.activity.initiation) (sym u ∙ lp.context) gr in
            let gr2 : Rooted job fs (InLoop lp.outer f.activity.block s.region lp.turn) f.activity.block g.activity.initiation = subst (λ (z : List ℕ). Rooted job fs (InLoop lp.outer f.activity.block s.region lp.turn) z g.activity.initiation) (sym n) gr1 in
            let gap : ℕ = g.activity.initiation - f.activity.initiation - 1 in
            let count : g.activity.initiation ≡ f.activity.initiation + suc gap = omega (arith, lt) in
            stepping p lp
            (earlier gap f.activity.initiation lp.outer f.activity.block s.region lp.turn f.activity.block frl.0 (subst (λ (z : ℕ). Rooted job fs (InLoop lp.outer f.activity.block s.region lp.turn) f.activity.block z) count gr2))
