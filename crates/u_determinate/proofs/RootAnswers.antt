-- A determinate job's derivation holds one answer at most, or two pairs of one cell.
use Rattle.std.proofs.Common.{◌≡◌, ℕ, ◌+◌, length, refl, ap, sym, ◌∙◌, Bool, true, false, List, [], ◌∷◌, ◌++◌, Option, Some, None, Result, Ok, Err, cond, ◌==◌, inl, inr, ◌⊎◌, map}
use Rattle.std.specs.Prelude.{Contains}
use Rattle.std.proofs.lemmas.Bool.{false≢true}
use Rattle.u_base.specs.Firing.{Held, Enabled, Derivation, Both, Whole}
use Rattle.u_base.proofs.Member.{Contains-nil, Contains-cons_cases}
use Rattle.u_base.proofs.Held.{Held-append_left, Held-append_right}
use Rattle.u_base.proofs.Closure.{Derivation-append}
use Rattle.u_base.proofs.Determinate.{Derivation-enabled}
use Rattle.u_name.specs.Context.{Tree, Top, InLoop, InCall, depth}
use Rattle.u_name.specs.Name.{Activity}
use Rattle.u_name.specs.Cell.{CellOf}
use Rattle.u_value.specs.declared.value.Value.{Value}
use Rattle.u_value.specs.declared.value.Value.TheVariants as values
use Rattle.u_value.specs.declared.fault_kind.FaultKind.{FaultKind}
use Rattle.u_value.specs.declared.fault_kind.FaultKind.TheVariants as faults
use Rattle.u_program.specs.declared.program.Kind.{Kind}
use Rattle.u_program.specs.declared.program.Kind.TheVariants.{End}
use Rattle.u_program.specs.declared.program.Destination.{Destination}
use Rattle.u_program.specs.Parts.{StatementParts, BlockParts}
use Rattle.u_check.specs.Kinds.{is_apply, is_end, is_store}
use Rattle.u_check.specs.Rules.{block_named, main_name, statement_at, IsChecked}
use Rattle.u_check.specs.Jobs.{JobParts}
use Rattle.u_rule.specs.Parts.{TokenParts, token, ValueList}
use Rattle.u_rule.specs.Fits.{statement_of}
use Rattle.u_rule.specs.Parameters.{parameters_of}
use Rattle.u_rule.specs.Structures.{cell_named, stored_in, is_answer, replied}
use Rattle.u_rule.specs.Rule.{is_firing_of, first_of, result_of, list_of, reached, refusal_of, sent, fault_of, delivered, handed_on, beside, called_first, arguments_from, begun, called_on, called, back_of, brought_back, finished, ended, given, given_at, gives_of, start_of, system_of}
use Rattle.u_rule.specs.declared.entry.Entry.{Entry}
use Rattle.u_rule.specs.declared.entry.Entry.TheVariants as entries
use Rattle.u_rule.specs.declared.firing.Firing.{Firing}
use Rattle.u_rule.specs.declared.parts.Written.{Written}
use Rattle.u_determinate.specs.Determinate.{IsDeterminate}
use Rattle.u_determinate.proofs.Clash.{Cells}
use Rattle.u_determinate.proofs.Named.{block_of}
use Rattle.u_determinate.proofs.Checked.{keeps, fires_of}
use Rattle.u_determinate.proofs.Owning.{end_is_inner}
use Rattle.u_determinate.proofs.Same.{same_activity}
use Rattle.u_determinate.proofs.Senders.{placed}
use Rattle.u_determinate.proofs.GuardsTell.{same_place}
use Rattle.u_determinate.proofs.OnlyWrites.{derivation_determinate}

-- an answer comes from an `end` in the root
record ByRoot (job : JobParts) (f : Firing) (v : Value) : Type 0 where
  it : StatementParts
  stands : statement_of job.program.blocks f.activity.block f.activity.statement ≡ Some it
  is_end : it.kind ≡ End
  context : f.activity.context ≡ Top
  result : first_of f.values ≡ Ok v

one : (x e : Entry) → Contains (x ∷ []) e → x ≡ e
one x e m = elim (Contains-cons_cases x e [] m) [ inl p ↦ p | inr k ↦ absurd (Contains-nil e k) ]

no_fault : (a : Activity) (k : FaultKind) (v : Value) → Contains (fault_of a k ∷ []) (entries.Answer v) → ⊥
no_fault a k v m = let e = one (fault_of a k) (entries.Answer v) m in cc

no_token : (t : TokenParts) (v : Value) → Contains (entries.Token t ∷ []) (entries.Answer v) → ⊥
no_token t v m = let e = one (entries.Token t) (entries.Answer v) m in cc

no_sent : (to : ℕ → Activity) (u v : Value) (ds : List Destination) → Contains (map (sent to u) ds) (entries.Answer v) → ⊥
no_sent to u v [] m = Contains-nil (entries.Answer v) m
no_sent to u v (d ∷ ds) m = elim (Contains-cons_cases (sent to u d) (entries.Answer v) (map (sent to u) ds) m) [ inl e ↦ cc | inr k ↦ no_sent to u v ds k ]

no_back : (a : Activity) (u v : Value) (o : Option ℕ) → Contains (brought_back a u o) (entries.Answer v) → ⊥
no_back a u v None m = Contains-nil (entries.Answer v) m
no_back a u v (Some b) m = no_token _ v m

end_kind : (k : Kind) → is_end k ≡ true → k ≡ End
end_kind End e = refl
end_kind k e = absurd (false≢true e)

module _ (job : JobParts) (f : Firing) (v : Value) (s : StatementParts) (e : statement_of job.program.blocks f.activity.block f.activity.statement ≡ Some s) where
  no_handed : (to : List Destination) (r : Result Value FaultKind) → Contains (handed_on job.program.version s.kind f.activity to r) (entries.Answer v) → ⊥
  no_handed to (Err k) m = no_fault f.activity k v m
  no_handed to (Ok u) m = by (refusal_of job.program.version s.kind f.activity) m
    where
      by : (o : Option FaultKind) → Contains (delivered o s.kind f.activity to u) (entries.Answer v) → ⊥
      by (Some k) m = no_fault f.activity k v m
      by None m = no_sent (reached s.kind f.activity) u v to m

  no_argument : (first : Activity) (k : ℕ) (vs : ValueList) → Contains (arguments_from first k vs) (entries.Answer v) → ⊥
  no_argument first k [] m = Contains-nil (entries.Answer v) m
  no_argument first k (u ∷ vs) m =
      elim (Contains-cons_cases (entries.Token (token (beside first k) 1 u)) (entries.Answer v) (arguments_from first (k + 1) vs) m)
      [ inl x ↦ cc | inr x ↦ no_argument first (k + 1) vs x ]

  no_called : (vs : ValueList) → Contains (called job.program.blocks f.activity vs) (entries.Answer v) → ⊥
  no_called (values.Proc block ∷ vs) m = by (block_named job.program.blocks block) m
    where
      begins : (z : Bool) → Contains (cond z (fault_of f.activity faults.Deep ∷ []) (arguments_from (called_first f.activity block) 1 vs)) (entries.Answer v) → ⊥
      begins true m = no_fault f.activity faults.Deep v m
      begins false m = no_argument (called_first f.activity block) 1 vs m

      counted : (y : Bool) → Contains (cond y (begun f.activity block vs) (fault_of f.activity faults.Arity ∷ [])) (entries.Answer v) → ⊥
      counted true m = begins (depth f.activity.context == 64) m
      counted false m = no_fault f.activity faults.Arity v m

      by : (o : Option BlockParts) → Contains (called_on o f.activity block vs) (entries.Answer v) → ⊥
      by None m = no_fault f.activity faults.Kind v m
      by (Some b) m = counted (length vs == parameters_of b) m
  no_called vs m = no_fault f.activity _ v m

  no_stored : (r : Result CellOf FaultKind) (vs : ValueList) → Contains (stored_in f.activity r vs) (entries.Answer v) → ⊥
  no_stored (Ok c) (x ∷ y ∷ u ∷ vs) m = let z = one _ (entries.Answer v) m in cc
  no_stored (Ok c) vs m = no_fault f.activity _ v m
  no_stored (Err k) vs m = no_fault f.activity k v m

  ending : is_end s.kind ≡ true → (r : Result Value FaultKind) → first_of f.values ≡ r → Contains (ended job.program.blocks f.activity r) (entries.Answer v) → ByRoot job f v
  ending q (Err k) h m = absurd (no_fault f.activity k v m)
  ending q (Ok u) h m = by f.activity.context refl m
    where
      by : (c : Tree) → f.activity.context ≡ c → Contains (finished job.program.blocks f.activity c u) (entries.Answer v) → ByRoot job f v
      by Top c m = (let z = one (entries.Answer u) (entries.Answer v) m in let y : u ≡ v = cc in record { it = s; stands = e; is_end = end_kind s.kind q; context = c; result = h ∙ ap (λ (x : Value). Ok x) y })
      by (InLoop outer from number turn) c m = absurd (Contains-nil (entries.Answer v) m)
      by (InCall outer from caller turn) c m = absurd (no_back f.activity u v (back_of (statement_of job.program.blocks from caller)) m)

  answered : Contains (given job.program.version job.program.blocks s f.activity f.values f.write) (entries.Answer v) → ByRoot job f v
  answered m = at (is_apply s.kind) (is_end s.kind) (is_store s.kind) refl m
    where
      at : (x y z : Bool) → is_end s.kind ≡ y → Contains (cond x (called job.program.blocks f.activity f.values) (cond y (ended job.program.blocks f.activity (first_of f.values)) (cond z (stored_in f.activity (cell_named f.values) f.values) (handed_on job.program.version s.kind f.activity (list_of s.kind s f.values) (result_of s.kind f.activity f.values f.write))))) (entries.Answer v) → ByRoot job f v
      at true y z b m = absurd (no_called f.values m)
      at false true z b m = ending b (first_of f.values) refl m
      at false false true b m = absurd (no_stored (cell_named f.values) f.values m)
      at false false false b m = absurd (no_handed _ _ m)

no_reply : (a : Activity) (write : Option Written) (v : Value) → Contains (replied a write) (entries.Answer v) → ⊥
no_reply a None v m = Contains-nil (entries.Answer v) m
no_reply a (Some w) v m = let z = one _ (entries.Answer v) m in cc

by_root : (job : JobParts) (f : Firing) (v : Value) → Contains (gives_of job f) (entries.Answer v) → ByRoot job f v
unfolding gives_of
by_root job f v m = at (statement_of job.program.blocks f.activity.block f.activity.statement) refl m
  where
    at : (o : Option StatementParts) → statement_of job.program.blocks f.activity.block f.activity.statement ≡ o → Contains (given_at job.program.version job.program.blocks o f) (entries.Answer v) → ByRoot job f v
    at None e m = absurd (Contains-nil (entries.Answer v) m)
    at (Some s) e m = by (is_answer s.kind f.write) m
      where
        by : (x : Bool) → Contains (cond x (replied f.activity f.write) (given job.program.version job.program.blocks s f.activity f.values f.write)) (entries.Answer v) → ByRoot job f v
        by true m = absurd (no_reply f.activity f.write v m)
        by false m = answered job f v s e m

held_root : (job : JobParts) (fs : List Firing) (v : Value) → Held (system_of job) fs (entries.Answer v) → (f : Firing) × Contains fs f × ByRoot job f v
unfolding start_of
held_root job fs v (inl e) = absurd (cc)
held_root job fs v (inr (f, m, g)) = (f, m, by_root job f v g)

module _ (job : JobParts) (sound : IsChecked job.program.blocks) (determinate : IsDeterminate job.program.blocks) where
  root_place : (f : Firing) → is_firing_of job f ≡ true → (v : Value) → ByRoot job f v → (f.activity.block ≡ main_name) × (f.activity.initiation ≡ 1)
  root_place f x v b =
      let r = fires_of job sound f x in
      let p = placed job f.activity b.it b.stands in
      let k = keeps job sound f.activity.block p.block p.named f.activity.statement b.it p.stands in
      let it : r.it ≡ b.it = (let i = r.stands in let j = b.stands in cc) in
      (r.in_main b.context, r.outside (ap (λ (s : StatementParts). s.region) it ∙ k.end_outside (ap is_end b.is_end)))

  pub one_answer : (fs : List Firing) → Derivation (system_of job) fs → (v u : Value) → Held (system_of job) fs (entries.Answer v) → Held (system_of job) fs (entries.Answer u) → (v ≡ u) ⊎ Both Cells (Held (system_of job) fs)
  one_answer fs d v u h k =
      let p = held_root job fs v h in
      let q = held_root job fs u k in
      by p.0 q.0 (Derivation-enabled (system_of job) fs d p.0 p.1) (Derivation-enabled (system_of job) fs d q.0 q.1) p.2 q.2
    where
      by : (f g : Firing) → Enabled (system_of job) (Held (system_of job) fs) f → Enabled (system_of job) (Held (system_of job) fs) g → ByRoot job f v → ByRoot job g u → (v ≡ u) ⊎ Both Cells (Held (system_of job) fs)
      by f g x y b c =
          let i = root_place f x.0 v b in
          let j = root_place g y.0 u c in
          let n : f.activity.block ≡ g.activity.block = i.0 ∙ sym j.0 in
          let p = placed job f.activity b.it b.stands in
          let q = placed job g.activity c.it c.stands in
          let k : q.block ≡ p.block = (let a = p.named in let e = q.named in cc) in
          let m = (block_of job determinate f.activity.block p.block p.named).one_end f.activity.statement g.activity.statement (record { it = b.it; stands = p.stands; kind = b.is_end }) (record { it = c.it; stands = ap (λ (z : BlockParts). statement_at z.statements g.activity.statement) (sym k) ∙ q.stands; kind = c.is_end }) in
          elim (same_activity job sound (Held (system_of job) fs) f g x y (same_place f.activity g.activity (b.context ∙ sym c.context) n m (i.1 ∙ sym j.1)) (end_is_inner job f x.0 b.it b.stands b.is_end) (end_is_inner job g y.0 c.it c.stands c.is_end)) [
            | inl z ↦ inl (let a = b.result in let e = c.result in cc)
            | inr t ↦ elim t [ inl z ↦ inr (derivation_determinate job sound determinate fs d z) | inr z ↦ inr z ]
          ]

  pub whole_answer : (v u : Value) → Whole (system_of job) (entries.Answer v) → Whole (system_of job) (entries.Answer u) → (v ≡ u) ⊎ Both Cells (Whole (system_of job))
  whole_answer v u (fs, d, h) (gs, k, i) =
      elim (one_answer (fs ++ gs) (Derivation-append (system_of job) fs gs d k) v u (Held-append_left (system_of job) fs gs (entries.Answer v) h) (Held-append_right (system_of job) fs gs (entries.Answer u) i)) [
        | inl e ↦ inl e
        | inr r ↦ inr (r.0, r.1, (fs ++ gs, Derivation-append (system_of job) fs gs d k, r.2), (fs ++ gs, Derivation-append (system_of job) fs gs d k, r.3), r.4)
      ]
