-- Determinacy of strict and of determinate jobs.
use Rattle.std.proofs.Common.{List, refl, inl, inr}
use Rattle.u_base.specs.Firing.{Held, Derivation, Both, Whole}
use Rattle.u_check.specs.Rules.{IsChecked}
use Rattle.u_check.specs.Jobs.{JobParts}
use Rattle.u_rule.specs.Parts.{token}
use Rattle.u_rule.specs.Rule.{system_of, own_of}
use Rattle.u_rule.specs.declared.entry.Entry.{Entry}
use Rattle.u_rule.specs.declared.entry.Entry.TheVariants as entries
use Rattle.u_rule.specs.declared.firing.Firing.{Firing}
use Rattle.u_rule.proofs.Own.{own_run}
use Rattle.u_determinate.specs.Strict.{IsStrict}
use Rattle.u_determinate.specs.Determinate.{IsDeterminate}
use Rattle.u_determinate.specs.Theorem.{TwoValues, TwoWrites, OneAnswer, OnlyWritesClash, IsDeterminateJob}
use Rattle.u_determinate.proofs.Clash.{Clash, Cells}
use Rattle.u_determinate.proofs.Stricter.{strict_determinate}
use Rattle.u_determinate.proofs.OnlyWrites.{derivation_determinate, whole_determinate}
use Rattle.u_determinate.proofs.RootAnswers.{one_answer, whole_answer}

clash : (H : Entry → Type 0) → TwoValues H → Both Clash H
clash H t = (entries.Token (token t.activity t.port t.one), entries.Token (token t.activity t.port t.other), t.has_one, t.has_other, (refl, refl, t.differ))

pub two_writes : (H : Entry → Type 0) → Both Cells H → TwoWrites H
two_writes H (entries.Write a, entries.Write b, h, k, (e, n)) = record {
  cell = a.cell;
  one_writer = a.writer;
  one = a.value;
  other_writer = b.writer;
  other = b.value;
  has_one = h;
  has_other = rw e k;
  differ = n;
}
two_writes H (a, b, h, k, c) = absurd c

module _ (job : JobParts) (checked : IsChecked job.program.blocks) (determinate : IsDeterminate job.program.blocks) where
  -- where a derivation holds two values at one port, it holds two writes of some cell
  pub two_values_two_writes : (fs : List Firing) → Derivation (system_of job) fs → TwoValues (Held (system_of job) fs) → TwoWrites (Held (system_of job) fs)
  two_values_two_writes fs d t =
      two_writes (Held (system_of job) fs) (derivation_determinate job checked determinate fs d (clash (Held (system_of job) fs) t))

  -- and it holds one answer at most, or two writes of some cell
  pub one_answer_or_two_writes : (fs : List Firing) → Derivation (system_of job) fs → OneAnswer (Held (system_of job) fs)
  one_answer_or_two_writes fs d v u h k =
      elim (one_answer job checked determinate fs d v u h k) [ inl e ↦ inl e | inr c ↦ inr (two_writes (Held (system_of job) fs) c) ]

  -- the same of the whole history
  pub whole_two_values : TwoValues (Whole (system_of job)) → TwoWrites (Whole (system_of job))
  whole_two_values t =
      two_writes (Whole (system_of job)) (whole_determinate job checked determinate (clash (Whole (system_of job)) t))

  pub whole_one_answer : OneAnswer (Whole (system_of job))
  whole_one_answer v u h k =
      elim (whole_answer job checked determinate v u h k) [ inl e ↦ inl e | inr c ↦ inr (two_writes (Whole (system_of job)) c) ]

  -- all four, of a determinate job
  pub determinate_job : IsDeterminateJob job
  determinate_job = record {
    runs = λ fs d. record { values = two_values_two_writes fs d; answers = one_answer_or_two_writes fs d };
    whole = record { values = whole_two_values; answers = whole_one_answer };
  }

-- and of a strict one
pub strict_job : (job : JobParts) → IsChecked job.program.blocks → IsStrict job.program.blocks → IsDeterminateJob job
strict_job job checked strict =
    determinate_job job checked (strict_determinate job.program.blocks checked strict)

-- each run of own firings is one of those
pub own_runs : (job : JobParts) → IsDeterminateJob job → (fs : List Firing) → Derivation (own_of job) fs → OnlyWritesClash (Held (own_of job) fs)
own_runs job by fs d = by.runs fs (own_run job fs d)
