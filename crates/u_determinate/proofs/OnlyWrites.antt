-- Where a determinate job's derivation holds two values at one port, it holds two pairs of one cell.
use Rattle.std.proofs.Common.{◌≡◌, ℕ, refl, ap, sym, ◌∙◌, subst, true, List, Some, inl, inr, ◌⊎◌}
use Rattle.std.specs.Prelude.{Contains}
use Rattle.u_base.specs.Firing.{Held, Enabled, Derivation, Both, Whole}
use Rattle.u_base.proofs.Determinate.{Derivation-blames, Whole-blames}
use Rattle.u_name.specs.Context.{Top}
use Rattle.u_name.specs.Name.{Activity, activity}
use Rattle.u_check.specs.Rules.{main_name, statement_at, IsChecked}
use Rattle.u_check.specs.Jobs.{JobParts}
use Rattle.u_rule.specs.Parts.{TokenParts}
use Rattle.u_rule.specs.Rule.{is_firing_of, gives_of, start_of, system_of}
use Rattle.u_rule.specs.declared.entry.Entry.{Entry}
use Rattle.u_rule.specs.declared.entry.Entry.TheVariants as entries
use Rattle.u_rule.specs.declared.firing.Firing.{Firing}
use Rattle.u_determinate.specs.Determinate.{IsDeterminate}
use Rattle.u_determinate.proofs.Clash.{Clash, Cells}
use Rattle.u_determinate.proofs.Givers.{Giver, giver}
use Rattle.u_determinate.proofs.Owning.{giver_is_inner}
use Rattle.u_determinate.proofs.Same.{Trouble, same_activity}
use Rattle.u_determinate.proofs.Senders.{placed, sent, not_first, back_not_first}
use Rattle.u_determinate.proofs.SourceLaws.{same_source, one_value}

turned : (a b : Entry) → Clash a b → Clash b a
turned (entries.Token a) (entries.Token b) c = (sym c.0, sym c.1, λ e. c.2 (sym e))
turned a b c = absurd c

module _ (job : JobParts) (sound : IsChecked job.program.blocks) where
  never : Clash (start_of job) (start_of job) → ⊥
  unfolding start_of
  never c = c.2 refl

  -- no firing gives the token of the start's port
  elsewhere : (f : Firing) → is_firing_of job f ≡ true → (t : TokenParts) → Giver job f t → t.activity ≡ activity Top main_name 1 1 → ⊥
  elsewhere f x t (inl b) e =
      let s = sent job sound f x t b in
      let n : s.by.to.statement ≡ 1 = sym s.statement ∙ ap (λ (a : Activity). a.statement) e in
      not_first job sound f.activity.block s.there.block s.target s.there.named (subst (λ (i : ℕ). statement_at s.there.block.statements i ≡ Some s.target) n s.target_stands) s.takes
  elsewhere f x t (inr (inl b)) e = (let z = ap (λ (a : Activity). a.context) (sym e ∙ b.activity) in cc)
  elsewhere f x t (inr (inr b)) e =
      let q = placed job (activity b.outer b.from b.caller b.turn) b.by b.by_stands in
      let n : b.back ≡ 1 = ap (λ (a : Activity). a.statement) (sym b.activity ∙ e) in
      back_not_first job sound b.from q.block b.caller b.by q.named q.stands (b.names ∙ ap (λ (i : ℕ). Some i) n)

  alone : (fs : List Firing) → Derivation (system_of job) fs → (f : Firing) → Enabled (system_of job) (Held (system_of job) fs) f → (e : Entry) → Contains (gives_of job f) e → Clash e (start_of job) → ⊥
  unfolding start_of
  alone fs d f en (entries.Token t) m c = elsewhere f en.0 t (giver job f t m) c.0
  alone fs d f en e m c = c

  module _ (determinate : IsDeterminate job.program.blocks) where
    origin : (fs : List Firing) → Derivation (system_of job) fs → (f g : Firing) → Enabled (system_of job) (Held (system_of job) fs) f → Enabled (system_of job) (Held (system_of job) fs) g → (a b : Entry) → Contains (gives_of job f) a → Contains (gives_of job g) b → Clash a b → Trouble (Held (system_of job) fs)
    origin fs d f g x y (entries.Token t) (entries.Token u) m n c =
        by (giver job f t m) (giver job g u n) (same_source job sound determinate fs d f g x y t u (giver job f t m) (giver job g u n) c.0 c.1)
      where
        by : Giver job f t → Giver job g u → (f.activity ≡ g.activity) ⊎ Trouble (Held (system_of job) fs) → Trouble (Held (system_of job) fs)
        by p q (inr z) = z
        by p q (inl z) =
            elim (same_activity job sound (Held (system_of job) fs) f g x y z (giver_is_inner job f x.0 t p) (giver_is_inner job g y.0 u q))
            [ inr k ↦ k | inl k ↦ absurd (c.2 (one_value job sound f x.0 t u p (subst (λ (h : Firing). Giver job h u) (sym k) q) c.0)) ]
    origin fs d f g x y a b m n c = absurd c

    -- the theorem, for every derivation
    pub derivation_determinate : (fs : List Firing) → Derivation (system_of job) fs → Both Clash (Held (system_of job) fs) → Both Cells (Held (system_of job) fs)
    derivation_determinate fs d c =
        Derivation-blames (system_of job) Clash Cells turned never alone origin fs d c

    -- and for the whole history
    pub whole_determinate : Both Clash (Whole (system_of job)) → Both Cells (Whole (system_of job))
    whole_determinate = Whole-blames (system_of job) Clash Cells turned never alone origin
