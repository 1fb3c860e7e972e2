-- Why a line is refused, said of the whole text.
use Rattle.std.specs.Prelude.{◌≡◌, ℕ, suc, List, ◌∷◌, length}
use Rattle.u_base.specs.Pieces.{pieces}
use Rattle.u_program.specs.Limits.{limits_of}
use Rattle.u_program.specs.FirstBad.{Begins}
use Rattle.u_program.specs.Begun.{IsRead}
use Rattle.u_program.specs.declared.part.LineFault.{LineFault}
use Rattle.u_program.specs.declared.part.LineFault.TheVariants.{Bad, TooMany, NoMemory}
use Rattle.u_program.specs.Faults.{IsLineFault}
use Rattle.u_program.specs.Answer.{IsReadError, fault_at}
use Rattle.u_program.proofs.Whole.{bad_line, too_many}

pub fault_is : (bytes rest text others : List ℕ) (ls : List (List ℕ)) → IsRead bytes ls rest → pieces 10 rest ≡ (text ∷ (pieces 10 others).0, (pieces 10 others).1) → Begins limits_of ls → (f : LineFault) → IsLineFault f ls text → IsReadError bytes (fault_at f (suc (length ls)))
fault_is bytes rest text others ls r h b Bad v = bad_line bytes rest text others ls r h b v
fault_is bytes rest text others ls r h b TooMany v = too_many bytes rest text others ls r h b v.0 v.1
fault_is bytes rest text others ls r h b NoMemory v = tt
