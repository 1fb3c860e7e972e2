-- What the parts of a name that the cursor reads stand for.
use Rattle.std.specs.Prelude.{◌≡◌, ℕ, List, Ok, ◌⊎◌}
use Rattle.std.proofs.Common.{inl, inr}
use Rattle.u_name.specs.declared.context.Linkage.{Linkage}
use Rattle.u_name.specs.declared.context.Linkage.TheVariants.{Loop, Call}
use Rattle.u_name.specs.declared.reading.Frame.{Frame}
use Rattle.u_name.specs.declared.reading.Tail.{Tail}
use Rattle.u_name.specs.NameReader as reader

abbrev pub linkage_value : Linkage → ℕ ⊎ ℕ
linkage_value (Loop n) = inl n
linkage_value (Call n) = inr n

-- the number of a loop or a statement is read, with its kind
abbrev pub ReadsLinkage : List ℕ → Linkage → List ℕ → Type 0
ReadsLinkage bs linkage rest = reader.linkage_at bs ≡ Ok (linkage_value linkage, rest)

abbrev pub frame_value : Frame → reader.Frame
frame_value f = (f.block, (linkage_value f.linkage, (f.initiation, tt)))

abbrev pub tail_value : Tail → reader.Tail
tail_value f = (f.block, (f.statement, f.initiation))
