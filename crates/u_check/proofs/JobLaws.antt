-- Jobs that are compared.
use Rattle.std.specs.Prelude.{◌↔◌, IsTrue}
use Rattle.std.specs.Cmp.{signed_Decides}
use Rattle.std.specs.Cmp.Derive.{both_true}
use Rattle.std.specs.Ordering.{int_eq}
use Rattle.std.proofs.lemmas.Bool.{and_parts}
use Rattle.u_program.specs.Equality.{has_same_text}
use Rattle.u_program.proofs.Same.{IsOne, equal_exactly}
use Rattle.u_check.specs.Jobs.{JobParts, IsOneJob, is_same_job}

-- Two jobs are found to be the same exactly where they are one.
pub same_exactly : (a b : JobParts) → IsOne a.program → IsOne b.program → IsTrue (is_same_job a b) ↔ IsOneJob a b
same_exactly a b v w = (
  λ t.
      let k = and_parts (has_same_text a.program b.program) (int_eq a.argument b.argument) t in
      record { program = (equal_exactly a.program b.program v w).0 k.0; argument = (signed_Decides a.argument b.argument).0 k.1 },
  λ e. both_true ((equal_exactly a.program b.program v w).1 e.program) ((signed_Decides a.argument b.argument).1 e.argument),
)
