-- Quiet machines of one job, whatever firings each of them took, and its plain run: their reports are the same, but for
-- how many firings are parked.
use Rattle.std.specs.Prelude.{◌≡◌, ◌↔◌, ℕ, refl, List, length, take, drop, Contains}
use Rattle.std.proofs.Common.{sym, subst, arith, inl, inr, take-append-drop}
use Rattle.std.proofs.lemmas.List.Elements.{Contains-append_left, Contains-append_cases}
use Rattle.u_base.specs.Firing.{Held, Enabled, Same, Whole, Derivation, Distinct}
use Rattle.u_base.proofs.Plain.{Plain-derivation, Plain-distinct}
use Rattle.u_check.specs.Jobs.{JobParts}
use Rattle.u_base.proofs.Apart.{Distinct-left}
use Rattle.u_base.proofs.Held.{Enabled-mono, Held-of}
use Rattle.u_check.proofs.Blocks.{place_of_member}
use Rattle.u_rule.specs.Rule.{own_of}
use Rattle.u_rule.specs.declared.entry.Entry.{Entry}
use Rattle.u_rule.specs.declared.firing.Firing.{Firing}
use Rattle.u_history.specs.Report.{IsReportOf}
use Rattle.u_history.specs.declared.report.Ending.TheVariants.{Quiet}
use Rattle.u_history.proofs.Reports.{report_one}
use Rattle.u_machine.specs.State.{State, IsMachine, IsQuiet}
use Rattle.u_machine.proofs.Counting.{no_more}
use Rattle.u_machine.proofs.States.{settled_is_Cl, quiet_whole}
use Rattle.u_machine.specs.Calls.{firing_le}
use Rattle.u_commands.specs.Runs.{RunsTo, ReportsMachine, IsReportedRun}

-- exactly the firings that are enabled over the whole history
AllEnabled : JobParts → List Firing → Type 0
AllEnabled job fs = (f : Firing) → Contains fs f ↔ Enabled (own_of job) (Whole (own_of job)) f

-- what a run applied is enabled over the whole history
module _ (job : JobParts) (fs : List Firing) (run : Derivation (own_of job) fs) (held : (e : Entry) → Held (own_of job) fs e → Whole (own_of job) e) where
  applied_enabled : (f : Firing) → Contains fs f → Enabled (own_of job) (Whole (own_of job)) f
  applied_enabled f c =
      let at = place_of_member fs f c in
      let before : (g : Firing) → Contains (take at.0 fs) g → Contains fs g =
      λ g k. subst (λ (gs : List Firing). Contains gs g) (take-append-drop at.0 fs) (Contains-append_left (take at.0 fs) (drop at.0 fs) g k) in
      Enabled-mono (own_of job) (Held (own_of job) (take at.0 fs)) (Whole (own_of job))
      (λ e h. held e (Held-of (own_of job) (take at.0 fs) fs before e h)) f (run.each at.0 f at.1)

-- two lists of them are as long
as_many : (job : JobParts) (fs gs : List Firing) → Distinct fs → Distinct gs → AllEnabled job fs → AllEnabled job gs → length fs ≡ length gs
unfolding AllEnabled
as_many job fs gs p q a b =
    let x = no_more fs gs p (λ f c. (b f).1 ((a f).0 c)) in
    let y = no_more gs fs q (λ f c. (a f).1 ((b f).0 c)) in
    omega (arith, x, y)

-- the log of a quiet machine is such a list
module _ (m : State) (is : IsMachine m) (quiet : IsQuiet m) where
  pub whole : Same (Contains m.history) (Whole (own_of m.job))
  whole = (quiet_whole m is.sound quiet.0 quiet.1).1

  enabled_logged : (f : Firing) → Enabled (own_of m.job) (Whole (own_of m.job)) f → Contains m.log f
  enabled_logged f en =
      let over = Enabled-mono (own_of m.job) (Whole (own_of m.job)) (Contains m.history) (λ e. (whole e).1) f en in
      let ready = Enabled-mono (own_of m.job) (Contains m.history) _ (λ e. ((settled_is_Cl m is.sound quiet.0).0 e).0) f over in
      elim (Contains-append_cases m.log m.parked f (quiet.1 f ready)) [ inl a ↦ a | inr b ↦ absurd (quiet.0.none f b over) ]

  logged : AllEnabled m.job m.log
  unfolding AllEnabled
  logged f = (applied_enabled m.job m.log is.sound.derivation (λ e h. (whole e).0 (is.sound.has e h)) f, enabled_logged f)

  distinct : Distinct m.log
  distinct = Distinct-left m.log m.parked is.sound.distinct

-- and so is the plain run at its end
module _ (job : JobParts) (firings : ℕ) (fs : List Firing) (run : RunsTo job firings Quiet fs) where
  ran : AllEnabled job fs
  unfolding AllEnabled
  ran f = (
    applied_enabled job fs (Plain-derivation (own_of job) firing_le firings fs run.plain) (λ e. (run.whole refl e).0) f,
    λ en. run.all refl f (Enabled-mono (own_of job) (Whole (own_of job)) (Held (own_of job) fs) (λ e. (run.whole refl e).1) f en),
  )

-- two quiet machines of a job that parked as many firings report the same
pub reports_agree : (m k : State) → IsMachine m → IsMachine k → IsQuiet m → IsQuiet k → k.job ≡ m.job → (report other : List ℕ) (status last : ℕ) → ReportsMachine m Quiet report status → ReportsMachine k Quiet other last → length m.parked ≡ length k.parked → report ≡ other
reports_agree m k im ik qm qk one report other status last r o parked =
    let same : Same (Contains m.history) (Contains k.history) = λ e. ((λ h. (whole k ik qk e).1 (rw one ((whole m im qm e).0 h))), (λ h. (whole m im qm e).1 (rw one at ((whole k ik qk e).0 h)))) in
    let there : AllEnabled m.job k.log = rw one at (logged k ik qk) in
    let many = as_many m.job m.log k.log (distinct m im qm) (distinct k ik qk) (logged m im qm) there in
    report_one (Contains m.history) (Contains k.history) same Quiet (length m.log) (length m.parked) report other r.reported
    (subst (λ (n : ℕ). IsReportOf (Contains k.history) Quiet n (length m.parked) other) (sym many)
    (subst (λ (n : ℕ). IsReportOf (Contains k.history) Quiet (length k.log) n other) (sym parked) o.reported))

-- a plain run at its end reports what each quiet machine of its job does that parked nothing
pub run_agrees : (m : State) → IsMachine m → IsQuiet m → (firings : ℕ) (fs : List Firing) (report other : List ℕ) (status last : ℕ) → IsReportedRun m.job firings Quiet fs report status → ReportsMachine m Quiet other last → length m.parked ≡ 0 → report ≡ other
run_agrees m is quiet firings fs report other status last r o parked =
    let same : Same (Held (own_of m.job) fs) (Contains m.history) = λ e. ((λ h. (whole m is quiet e).1 ((r.run.whole refl e).0 h)), (λ h. (r.run.whole refl e).1 ((whole m is quiet e).0 h))) in
    let many = as_many m.job fs m.log (Plain-distinct (own_of m.job) firing_le firings fs r.run.plain) (distinct m is quiet) (ran m.job firings fs r.run) (logged m is quiet) in
    report_one (Held (own_of m.job) fs) (Contains m.history) same Quiet (length fs) 0 report other r.reported
    (subst (λ (n : ℕ). IsReportOf (Contains m.history) Quiet n 0 other) (sym many)
    (subst (λ (n : ℕ). IsReportOf (Contains m.history) Quiet (length m.log) n other) parked o.reported))
