-- What tests of statements and links come to, wherever these lie.
use Rattle.std.proofs.Common.{◌≡◌, ℕ, true, List, Some}
use Rattle.u_program.specs.declared.program.Kind.TheVariants.{Enter}
use Rattle.u_check.specs.Kinds.{is_param, is_last, is_leave, back_named}
use Rattle.u_compile.specs.Drafts.{DraftParts}
use Rattle.u_compile.specs.Graphs.{draft_at}
use Rattle.u_compile.specs.Orderly.{IsNamed, EntersLoop, IsParamAt, LeavesWell}

pub enters : (ds : List DraftParts) (n l : ℕ) (d : DraftParts) → draft_at ds n ≡ Some d → d.kind ≡ Enter l → EntersLoop ds n l
enters ds n l d at k = (d, at, k)

pub named : (ds : List DraftParts) (m n : ℕ) (d : DraftParts) → draft_at ds m ≡ Some d → back_named d.kind ≡ Some n → IsNamed ds n
named ds m n d at k = (m, d, at, k)

pub param : (ds : List DraftParts) (n : ℕ) (d : DraftParts) → draft_at ds n ≡ Some d → is_param d.kind ≡ true → IsParamAt ds n
param ds n d at k = (d, at, k)

pub leaves : (ds : List DraftParts) (m n : ℕ) (d e : DraftParts) → draft_at ds m ≡ Some d → draft_at ds n ≡ Some e → is_last d.kind ≡ is_leave e.kind → LeavesWell ds m n
leaves ds m n d e at there same = record { sender = d; sends = at; taker = e; takes = there; same = same }
