-- What is listed cannot fire: a firing needs a token at each port, and a write of the cell that it reads.
use Rattle.std.proofs.Common.{◌≡◌, ◌⊎◌, inl, inr, ℕ, ◌<◌, ◌≤◌, ◌+◌, ◌==◌, [], ◌∷◌, length, Option, Some, None, Result, Ok, true, sym, subst, arith, cond}
use Rattle.std.specs.Prelude.{Contains, is_some, is_none, is_ok}
use Rattle.std.proofs.lemmas.Bool.{false≢true, and_parts}
use Rattle.std.proofs.lemmas.List.Elements.{Contains-append_left, Contains-append_right}
use Rattle.u_base.proofs.Member.{Contains-head, Contains-tail}
use Rattle.u_base.specs.Firing.{Enabled}
use Rattle.u_name.specs.Name.{Activity}
use Rattle.u_name.specs.Cell.{CellOf}
use Rattle.u_value.specs.declared.value.Value.{Value}
use Rattle.u_value.specs.declared.fault_kind.FaultKind.{FaultKind}
use Rattle.u_program.specs.declared.program.Kind.{Kind}
use Rattle.u_program.specs.declared.program.Kind.TheVariants.{Fetch}
use Rattle.u_program.specs.Parts.{StatementParts}
use Rattle.u_check.specs.Jobs.{JobParts}
use Rattle.u_check.specs.Kinds.{ports_of, is_ask}
use Rattle.u_rule.specs.Fits.{statement_of}
use Rattle.u_rule.specs.Parts.{ValueList, token}
use Rattle.u_rule.specs.Rule.{own_of, is_own_of, needs_of, tokens_from}
use Rattle.u_rule.specs.Structures.{cell_named, has_its_write, write_read, read_from, wrote}
use Rattle.u_rule.specs.EntryOrder.{write_of}
use Rattle.u_rule.specs.declared.entry.Entry.{Entry}
use Rattle.u_rule.specs.declared.entry.Entry.TheVariants as entries
use Rattle.u_rule.specs.declared.firing.Firing.{Firing}
use Rattle.u_rule.specs.declared.parts.Written.{Written}
use Rattle.u_trace.specs.Waiting.{IsWaiting}
use Rattle.u_trace.specs.Deferred.{IsDeferred}
use Rattle.u_trace.specs.Still.{AreStill}
use Rattle.u_trace.specs.declared.activities.WaitingActivity.{WaitingActivity}
use Rattle.u_trace.specs.declared.reads.DeferredRead.{DeferredRead}
use Rattle.u_trace.proofs.ReadLaws.{fetches}
use Rattle.u_rule.proofs.Firings.{inner_or_told, inner_values, own_counted}

asks_no_fetch : (k : Kind) → k ≡ Fetch → is_ask k ≡ true → ⊥
asks_no_fetch k e h = false≢true (subst (λ (j : Kind). is_ask j ≡ true) e h)

-- an own firing of a `fetch` has a write where it reads a cell
reading_has_write : (job : JobParts) (f : Firing) (s : StatementParts) → is_own_of job f ≡ true → statement_of job.program.blocks f.activity.block f.activity.statement ≡ Some s → s.kind ≡ Fetch → has_its_write s.kind f.values f.write ≡ true
reading_has_write job f s e q k = elim (inner_or_told job f e) [
  | inl i ↦ (and_parts (length f.values == ports_of s.kind) (has_its_write s.kind f.values f.write) (inner_values job f s q i)).1
  | inr t ↦ (let it : t.reply.it ≡ s = (let p = t.reply.stands in cc) in absurd (asks_no_fetch s.kind k (subst (λ (z : StatementParts). is_ask z.kind ≡ true) it t.reply.asks)))
]

-- it needs the token of each of its values
token_needed : (a : Activity) (from : ℕ) (vs : ValueList) (j : ℕ) → from ≤ j → j < from + length vs → (v : Value) × Contains (tokens_from a from vs) (entries.Token (token a j v))
token_needed a from [] j l m = absurd (omega (arith, l, m))
token_needed a from (v ∷ vs) j l m = by (λ h. token_needed a (from + 1) vs j h (omega (arith, m))) (grind arith)
  where
    by : (from + 1 ≤ j → (w : Value) × Contains (tokens_from a (from + 1) vs) (entries.Token (token a j w))) → (from ≡ j) ⊎ (from + 1 ≤ j) → (w : Value) × Contains (tokens_from a from (v ∷ vs)) (entries.Token (token a j w))
    by rest (inl e) = (v, subst (λ (n : ℕ). Contains (tokens_from a from (v ∷ vs)) (entries.Token (token a n v))) e (Contains-head (entries.Token (token a from v)) (tokens_from a (from + 1) vs)))
    by rest (inr h) = let w = rest h in (w.0, Contains-tail (entries.Token (token a from v)) (entries.Token (token a j w.0)) (tokens_from a (from + 1) vs) w.1)

-- and the write that it reads
write_needed : (vs : ValueList) (o : Option Written) (c : CellOf) → cell_named vs ≡ Ok c → is_some o ≡ true → (w : Written) × Contains (write_read vs o) (entries.Write (write_of c w.writer w.value))
write_needed vs None c e h = absurd (false≢true h)
write_needed vs (Some w) c e h = (w, subst (λ (x : Result CellOf FaultKind). Contains (read_from x w) (wrote c w.writer w.value)) (sym e) (Contains-head (wrote c w.writer w.value) []))

reads_a_write : (k : Kind) (vs : ValueList) (o : Option Written) (c : CellOf) → k ≡ Fetch → cell_named vs ≡ Ok c → has_its_write k vs o ≡ true → is_some o ≡ true
reads_a_write k vs o c q e h =
    subst (λ (x : Result CellOf FaultKind). cond (is_ok x) (is_some o) (is_none o) ≡ true) e (subst (λ (j : Kind). has_its_write j vs o ≡ true) q h)

module _ (job : JobParts) (H : Entry → Type 0) where
  needs_token : (f : Firing) → Enabled (own_of job) H f → (e : Entry) → Contains (tokens_from f.activity 1 f.values) e → H e
  unfolding needs_of
  needs_token f en e m = en.1 e (Contains-append_left (tokens_from f.activity 1 f.values) (write_read f.values f.write) e m)

  needs_write : (f : Firing) → Enabled (own_of job) H f → (e : Entry) → Contains (write_read f.values f.write) e → H e
  unfolding needs_of
  needs_write f en e m = en.1 e (Contains-append_right (tokens_from f.activity 1 f.values) (write_read f.values f.write) e m)

  waiting_still : (w : WaitingActivity) (f : Firing) → IsWaiting job.program.blocks H w → Enabled (own_of job) H f → f.activity ≡ w.activity → ⊥
  waiting_still w f is en q =
      let k = is.missing.0 in
      let p = (is.lacks k).0 is.missing.1 in
      let s = p.0.0 in
      let e = subst (λ (a : Activity). statement_of job.program.blocks a.block a.statement ≡ Some s) (sym q) p.0.1 in
      let n : length f.values ≡ ports_of s.kind = own_counted job f s e en.0 in
      let low : 1 ≤ k = p.0.2.0 in
      let high : k ≤ ports_of s.kind = p.0.2.1 in
      let t = token_needed f.activity 1 f.values k low (omega (arith, n, high)) in
      p.1 (t.0, subst (λ (a : Activity). H (entries.Token (token a k t.0))) q (needs_token f en (entries.Token (token f.activity k t.0)) t.1))

  deferred_still : (r : DeferredRead) (f : Firing) → IsDeferred job.program.blocks H r → Enabled (own_of job) H f → f.activity ≡ r.reader → cell_named f.values ≡ Ok r.cell → ⊥
  deferred_still r f d en q c =
      let e = subst (λ (a : Activity). statement_of job.program.blocks a.block a.statement ≡ Some d.statement) (sym q) d.executes in
      let k = fetches d.statement.kind (d.structure ∷ d.index ∷ []) d.reads in
      let o = reads_a_write d.statement.kind f.values f.write r.cell k c (reading_has_write job f d.statement en.0 e k) in
      let t = write_needed f.values f.write r.cell c o in
      d.unwritten t.0 (needs_write f en (entries.Write (write_of r.cell t.0.writer t.0.value)) t.1)

  pub are_still : AreStill job H
  are_still = record { activities = waiting_still; reads = deferred_still }
