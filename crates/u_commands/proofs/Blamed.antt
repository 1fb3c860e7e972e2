-- What a machine that ran says of what is to blame.
use Rattle.std.proofs.Common.{◌≡◌, sym, subst, ℕ, List, ◌++◌, append_assoc}
use Rattle.std.specs.Prelude.{Option, Ok, Err}
use Rattle.u_name.specs.Name.{Activity}
use Rattle.u_compile.specs.declared.origins.BlockOrigins.{BlockOrigins}
use Rattle.u_machine.specs.State.{State}
use Rattle.u_trace.specs.Blames.{BlameAnswer, BlamesByWrites}
use Rattle.u_trace.specs.declared.blamed.Blame.{Blame}
use Rattle.u_trace.specs.declared.blame_error.BlameError.{BlameError}
use Rattle.u_trace.specs.declared.blame_error.BlameError.TheVariants.{NotClashed, NoMemory}
use Rattle.u_commands.specs.declared.command_error.CommandError.{CommandError}
use Rattle.u_commands.specs.Traces.{RanPlainly}
use Rattle.u_commands.specs.Blaming.{most_blamed, blamed_text, blame_fault, BlamesJob, BlameRefused}

pub join6 : (a b c d e f n0 n1 n2 n3 n4 n5 n6 : List ℕ) → n1 ≡ n0 ++ a → n2 ≡ n1 ++ b → n3 ≡ n2 ++ c → n4 ≡ n3 ++ d → n5 ≡ n4 ++ e → n6 ≡ n5 ++ f → n6 ≡ n0 ++ (a ++ (b ++ (c ++ (d ++ (e ++ f)))))
join6 a b c d e f n0 n1 n2 n3 n4 n5 n6 p q r s t u = rw (u, t, s, r, q, p) (simp append_assoc)

module _ (m : State) (origins : List BlockOrigins) (ran : RanPlainly m.job most_blamed m) (n : Activity) (p : ℕ) where
  pub blames_job : (found : Option Blame) (written : List ℕ) → BlameAnswer m n p (Ok found) → BlamesByWrites m.job found → written ≡ blamed_text origins found → BlamesJob m.job origins n p written
  blames_job found written answer by_writes text =
      (m.log, record { plain = ran.plain; found = found; is_found = answer; by_writes = by_writes; is = text })

  -- a run that does not hold two values there is refused
  pub blame_refused : (error : BlameError) (fault : CommandError) → fault ≡ blame_fault error → BlameAnswer m n p (Err error) → BlameRefused m.job n p fault
  blame_refused NotClashed fault f none = subst (BlameRefused m.job n p) (sym f) (m.log, ran.plain, none)
  blame_refused NoMemory fault f none = subst (BlameRefused m.job n p) (sym f) tt
