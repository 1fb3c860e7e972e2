-- What a new machine that ran waits for.
use Rattle.std.proofs.Common.{◌≡◌, ◌∙◌, ap, refl, subst, ℕ, List, [], ◌++◌, append_assoc, Contains, map}
use Rattle.u_check.specs.Jobs.{JobParts}
use Rattle.u_rule.specs.declared.entry.Entry.{Entry}
use Rattle.u_machine.specs.State.{State}
use Rattle.u_history.specs.declared.outcome.Outcome.{Outcome}
use Rattle.u_history.specs.declared.report.Ending.{Ending}
use Rattle.u_history.specs.Clashes.{cell_pairs, port_values}
use Rattle.u_history.specs.OutcomeParts.{IsOutcomeOf, judged_of}
use Rattle.u_history.specs.Report.{state_line, verdict_line}
use Rattle.u_history.specs.Verdicts.{Judgement}
use Rattle.u_trace.specs.Waits.{AreWaits}
use Rattle.u_trace.specs.declared.answer.Waiting.{Waiting}
use Rattle.u_commands.specs.Statuses.{status_of}
use Rattle.u_commands.specs.Runs.{RanTo}
use Rattle.u_compile.specs.declared.origins.BlockOrigins.{BlockOrigins}
use Rattle.u_commands.specs.Waits.{waiting_lines, TellsWaits, WaitsAfterRun}

pub join2 : (o a b n1 n2 : List ℕ) → n1 ≡ o ++ a → n2 ≡ n1 ++ b → n2 ≡ o ++ (a ++ b)
join2 o a b n1 n2 p q = rw (q, p) (append_assoc o a b)

pub join3 : (o a b c w n1 n2 n3 : List ℕ) → n1 ≡ o ++ a → n2 ≡ n1 ++ b → w ≡ c → n3 ≡ n2 ++ w → n3 ≡ o ++ (a ++ (b ++ c))
join3 o a b c w n1 n2 n3 p q is r = rw (r, is, q, p) (simp append_assoc)

pub join4 : (o a b c d n1 n2 n3 n4 : List ℕ) → n1 ≡ o ++ a → n2 ≡ n1 ++ b → n3 ≡ n2 ++ c → n4 ≡ n3 ++ d → n4 ≡ o ++ (a ++ (b ++ (c ++ d)))
join4 o a b c d n1 n2 n3 n4 p q r s = rw (s, r, q, p) (simp append_assoc)

-- what a machine that ran waits for
pub waits_after : (job : JobParts) (origins : List BlockOrigins) (budget : ℕ) (end : Ending) (m : State) (written : List ℕ) (status : ℕ) → RanTo job budget end m → TellsWaits m.job origins (Contains m.history) end written status → WaitsAfterRun job origins budget written status
waits_after job origins budget end m written status to told =
    record {
      state = end;
      fs = m.log;
      run = to.run;
      history = m.history;
      held = to.held;
      told = subst (λ (j : JobParts). TellsWaits j origins (Contains m.history) end written status) to.of told;
    }

-- the lines of what waits over a machine's history, its state, and the verdict on it
pub tells_waits : (m : State) (origins : List BlockOrigins) (end : Ending) (es : List Entry) (job : JobParts) (o : Outcome) (w : Waiting) (told judged : Judgement) (none lines stated written : List ℕ) (status : ℕ) → es ≡ m.history → job ≡ m.job → IsOutcomeOf (Contains es) o → AreWaits job (Contains es) w → told ≡ judged_of o → judged ≡ judged_of o → none ≡ [] → lines ≡ none ++ waiting_lines origins w → stated ≡ lines ++ state_line end → written ≡ stated ++ verdict_line told → status ≡ status_of end judged → TellsWaits m.job origins (Contains m.history) end written status
tells_waits m origins end es job o w told judged none lines stated written status same of said exact t j empty l s text ended =
    record {
      waits = w;
      exact = subst (λ (p : JobParts). AreWaits p (Contains m.history) w) of (subst (λ (xs : List Entry). AreWaits job (Contains xs) w) same exact);
      verdict = judged_of o;
      judged = record {
        answers = o.answers;
        cells = map cell_pairs o.cell_clashes;
        ports = map port_values o.port_clashes;
        faults = o.faults;
        outcome = subst (λ (xs : List Entry). IsOutcomeOf (Contains xs) o) same said;
        is = refl;
      };
      is = rw (text, s, l, empty, t) (append_assoc (waiting_lines origins w) (state_line end) (verdict_line (judged_of o)));
      ended = ended ∙ ap (λ (v : Judgement). status_of end v) j;
    }
