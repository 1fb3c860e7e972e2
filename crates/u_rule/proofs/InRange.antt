-- Each firing of a run and each entry that it holds lies in the ranges that the types keep: the depth
-- of contexts, initiations, numbers of statements, loops and ports, names of blocks, numbers, lengths,
-- indexes of cells. So a law about runs never rests on values that no type has.
-- Of the job it takes what its types keep: a program within the limits, and an argument of 64 bits.
-- The rules of the checker are not needed.
use Rattle.std.proofs.Common.{◌≡◌, refl, sym, subst, arith, true, false, ◌==◌, ℕ, ◌+◌, ◌≤◌, cond, List, [], ◌∷◌, ◌++◌, length, Contains, Option, Some, None, Result, Ok, Err, FitsSigned, inl, inr}
use Rattle.std.specs.Prelude.{is_ok}
use Rattle.std.specs.Int.{w64}
use Rattle.std.proofs.lemmas.Bool.{false≢true, and_parts, eqb-true}
use Rattle.std.proofs.lemmas.List.Elements.{Contains-append_left, Contains-append_right, Contains-push_cases}
use Rattle.u_name.specs.Block.{IsBlock}
use Rattle.u_name.specs.Context.{IsBetween}
use Rattle.u_name.specs.Name.{Activity, IsName}
use Rattle.u_name.specs.Cell.{CellOf}
use Rattle.u_value.specs.declared.fault_kind.FaultKind.{FaultKind}
use Rattle.u_program.specs.Limits.{IsProgram, the_limits}
use Rattle.u_program.specs.Parts.{StatementParts}
use Rattle.u_program.specs.declared.program.Kind.{Kind}
use Rattle.u_program.specs.declared.program.Arguments.TheVariants as arguments
use Rattle.u_program.specs.declared.program.Kind.TheVariants.{Binary, Select, Switch, Apply, Store, Fetch, Ask}
use Rattle.u_check.specs.Kinds.{ports_of}
use Rattle.u_check.specs.Rules.{main_name}
use Rattle.u_check.specs.Jobs.{JobParts}
use Rattle.u_base.specs.Firing.{Held, Enabled, Derivation}
use Rattle.u_base.proofs.Member.{Contains-nil, Contains-head, Contains-tail}
use Rattle.u_base.proofs.Held.{Held-nil, Held-push}
use Rattle.u_base.proofs.Determinate.{Derivation-along}
use Rattle.u_rule.specs.Parts.{most_ports, ValueList}
use Rattle.u_rule.specs.Fits.{statement_of, fits_at}
use Rattle.u_rule.specs.Rule.{has_its_values, is_inner_at, is_firing_of, tokens_from, needs_of, given_at, gives_of, start_of, system_of}
use Rattle.u_rule.specs.Structures.{cell_named, has_its_write, wrote, read_from, write_read}
use Rattle.u_rule.specs.EntryReading.{IsEntry}
use Rattle.u_rule.specs.FiringReading.{AreValues, IsWritten, IsFiring}
use Rattle.u_rule.specs.declared.entry.Entry.{Entry}
use Rattle.u_rule.specs.declared.firing.Firing.{Firing}
use Rattle.u_rule.specs.declared.parts.Written.{Written}
use Rattle.u_rule.proofs.GivenInRange.{AreEntries, statement_in_range, given_with_in_range}
use Rattle.u_rule.specs.Replies.{IsReply, HasFineReplies}
use Rattle.u_rule.proofs.Firings.{inner_at_statement, inner_or_reply}

-- a statement has one port to five
ports_between : (k : Kind) → IsBetween 1 (ports_of k) most_ports
ports_between (Binary o) = (omega arith, omega arith)
ports_between Select = (omega arith, omega arith)
ports_between Switch = (omega arith, omega arith)
ports_between (Apply n arguments.One) = (omega arith, omega arith)
ports_between (Apply n arguments.Two) = (omega arith, omega arith)
ports_between (Apply n arguments.Three) = (omega arith, omega arith)
ports_between (Apply n arguments.Four) = (omega arith, omega arith)
ports_between Store = (omega arith, omega arith)
ports_between Fetch = (omega arith, omega arith)
ports_between (Ask s arguments.One) = (omega arith, omega arith)
ports_between (Ask s arguments.Two) = (omega arith, omega arith)
ports_between (Ask s arguments.Three) = (omega arith, omega arith)
ports_between (Ask s arguments.Four) = (omega arith, omega arith)
ports_between k = (omega arith, omega arith)

-- the values of tokens in their ranges, and the activity that they are for
values_in_range : (a : Activity) (port : ℕ) (vs : ValueList) → AreEntries (tokens_from a port vs) → AreValues vs
values_in_range a port [] each = tt
values_in_range a port (v ∷ vs) each =
    ((each _ (Contains-head _ _)).2, values_in_range a (port + 1) vs (λ e m. each e (Contains-tail _ e _ m)))

name_in_range : (a : Activity) (vs : ValueList) → 1 ≤ length vs → AreEntries (tokens_from a 1 vs) → IsName a
name_in_range a [] l each = absurd (omega (arith, l))
name_in_range a (v ∷ vs) l each = (each _ (Contains-head _ _)).0

-- the write that a firing read, where it has one
write_in_range : (k : Kind) (vs : ValueList) (write : Option Written) → has_its_write k vs write ≡ true → AreEntries (write_read vs write) → IsWritten write
write_in_range k vs None h each = tt
write_in_range Fetch vs (Some w) h each = at (cell_named vs) h each
  where
    at : (r : Result CellOf FaultKind) → cond (is_ok r) true false ≡ true → AreEntries (read_from r w) → IsWritten (Some w)
    at (Ok cell) h each = (let i = each (wrote cell w.writer w.value) (Contains-head (wrote cell w.writer w.value) []) in (i.2, i.3))
    at (Err _) h each = absurd (false≢true h)
write_in_range k vs (Some w) h each = absurd (false≢true h)

-- a firing is in its ranges where the entries that it needs are
needing : (s : StatementParts) (f : Firing) → has_its_values s f ≡ true → AreEntries (tokens_from f.activity 1 f.values ++ write_read f.values f.write) → IsFiring f
needing s f h each =
    let q = and_parts (length f.values == ports_of s.kind) (has_its_write s.kind f.values f.write) h in
    let l = eqb-true (length f.values) (ports_of s.kind) q.0 in
    let b = ports_between s.kind in
    let t : AreEntries (tokens_from f.activity 1 f.values) = λ e m. each e (Contains-append_left _ _ e m) in
    let w : AreEntries (write_read f.values f.write) = λ e m. each e (Contains-append_right _ _ e m) in
    (name_in_range f.activity f.values (omega (arith, l, b.0)) t, record { count = (omega (arith, l, b.0), omega (arith, l, b.1)) }, values_in_range f.activity 1 f.values t, write_in_range s.kind f.values f.write q.1 w)

-- a reply is, where what was replied is
replying : (job : JobParts) (f : Firing) → IsReply job f → IsWritten f.write → AreEntries (tokens_from f.activity 1 f.values ++ write_read f.values f.write) → IsFiring f
replying job f r i each =
    let b = ports_between r.it.kind in
    let l = r.count in
    let t : AreEntries (tokens_from f.activity 1 f.values) = λ e m. each e (Contains-append_left _ _ e m) in
    (name_in_range f.activity f.values (omega (arith, l, b.0)) t, record { count = (omega (arith, l, b.0), omega (arith, l, b.1)) }, values_in_range f.activity 1 f.values t, i)

pub firing_in_range : (job : JobParts) (f : Firing) → is_firing_of job f ≡ true → (IsReply job f → IsWritten f.write) → AreEntries (needs_of f) → IsFiring f
unfolding needs_of
firing_in_range job f h outside each =
    elim (inner_or_reply job f h) [ inl o ↦ at (statement_of job.program.blocks f.activity.block f.activity.statement) (inner_at_statement job f o) | inr r ↦ replying job f r (outside r) each ]
  where
    at : (o : Option StatementParts) → is_inner_at job.program.blocks o f ≡ true → IsFiring f
    at None h = absurd (false≢true h)
    at (Some s) h = needing s f (and_parts (fits_at job.program.blocks s.region f.activity) (has_its_values s f) h).1 each

-- what a firing in its ranges gives
pub gives_in_range : (job : JobParts) (f : Firing) → IsProgram the_limits job.program.blocks → IsFiring f → AreEntries (gives_of job f)
unfolding gives_of
gives_in_range job f lim i = at (statement_of job.program.blocks f.activity.block f.activity.statement) refl
  where
    at : (o : Option StatementParts) → statement_of job.program.blocks f.activity.block f.activity.statement ≡ o → AreEntries (given_at job.program.version job.program.blocks o f)
    at None e x m = absurd (Contains-nil x m)
    at (Some s) e x m =
        given_with_in_range job.program.version job.program.blocks s f.activity f.values f.write lim (statement_in_range job.program.blocks f.activity.block f.activity.statement s lim e) i.0 i.2 i.3 x m

main_is_block : IsBlock main_name
main_is_block = record { short = omega arith; first = refl; each = (refl, (refl, (refl, (refl, tt)))) }

pub start_in_range : (job : JobParts) → FitsSigned w64 job.argument → IsEntry (start_of job)
unfolding start_of
start_in_range job i =
    (record { context = record { shallow = omega arith; in_range = tt }; block = main_is_block; statement = (omega arith, omega arith); initiation = (omega arith, omega arith) }, (omega arith, omega arith), i)

-- all that a run holds, and its firings
pub record IsInRange (job : JobParts) (fs : List Firing) : Type 0 where
  pub entries : (e : Entry) → Held (system_of job) fs e → IsEntry e
  pub firings : (f : Firing) → Contains fs f → IsFiring f

module _ (job : JobParts) (lim : IsProgram the_limits job.program.blocks) (fits : FitsSigned w64 job.argument) where
  none_fired : IsInRange job []
  none_fired = record {
    entries = λ e h. subst (λ (x : Entry). IsEntry x) (sym (Held-nil (system_of job) e h)) (start_in_range job fits);
    firings = λ f m. absurd (Contains-nil f m);
  }

  one_more : (fs : List Firing) (f : Firing) → (HasFineReplies job fs → IsInRange job fs) → Enabled (system_of job) (Held (system_of job) fs) f → HasFineReplies job (fs ++ f ∷ []) → IsInRange job (fs ++ f ∷ [])
  one_more fs f before en fine = record {
    entries = λ e h. elim ((Held-push (system_of job) fs f e).0 h) [ inl k ↦ q.entries e k | inr c ↦ gives_in_range job f lim fires e c ];
    firings = λ g m. elim (Contains-push_cases fs f g m) [ inl k ↦ q.firings g k | inr e ↦ subst (λ (x : Firing). IsFiring x) e fires ];
  }
    where
      q : IsInRange job fs
      q = before (λ g m. fine g (Contains-append_left fs (f ∷ []) g m))

      fires : IsFiring f
      fires = firing_in_range job f en.0 (fine f (Contains-append_right fs (f ∷ []) f (Contains-head f []))) (λ e m. q.entries e (en.1 e m))

  in_range : (fs : List Firing) → Derivation (system_of job) fs → HasFineReplies job fs → IsInRange job fs
  in_range = Derivation-along (system_of job) (λ fs. HasFineReplies job fs → IsInRange job fs) (λ w. none_fired) one_more

-- each entry that a run of a job holds is in its ranges
pub held_in_range : (job : JobParts) → IsProgram the_limits job.program.blocks → FitsSigned w64 job.argument → (fs : List Firing) → Derivation (system_of job) fs → HasFineReplies job fs → (e : Entry) → Held (system_of job) fs e → IsEntry e
held_in_range job lim fits fs d w = (in_range job lim fits fs d w).entries

-- and each of its firings is
pub run_in_range : (job : JobParts) → IsProgram the_limits job.program.blocks → FitsSigned w64 job.argument → (fs : List Firing) → Derivation (system_of job) fs → HasFineReplies job fs → (f : Firing) → Contains fs f → IsFiring f
run_in_range job lim fits fs d w = (in_range job lim fits fs d w).firings
