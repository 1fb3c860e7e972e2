-- Blocks of a job by their names.
use Rattle.std.proofs.Common.{◌≡◌, ℕ, List, Option, Some}
use Rattle.u_program.specs.Parts.{BlockParts}
use Rattle.u_check.specs.Rules.{block_named}
use Rattle.u_check.specs.Jobs.{JobParts}
use Rattle.u_check.proofs.Blocks.{named_member}
use Rattle.u_determinate.specs.Determinate.{IsDeterminateBlock, IsDeterminate}

abbrev pub named : JobParts → List ℕ → Option BlockParts
named job name = block_named job.program.blocks name

-- a block of a determinate job
pub block_of : (job : JobParts) → IsDeterminate job.program.blocks → (name : List ℕ) (b : BlockParts) → named job name ≡ Some b → IsDeterminateBlock b
block_of job d name b q = d b (named_member job.program.blocks name b q).0
