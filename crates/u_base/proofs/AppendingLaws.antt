-- A list that goes on from another one at each of several steps goes on from it over all of them.
use Rattle.std.specs.Prelude.{◌≡◌, ℕ, List, [], ◌++◌, length, take}
use Rattle.std.proofs.Common.{sym, ◌∙◌, ap, append_assoc}
use Rattle.std.proofs.Math.Seq.{take-append_seam}
use Rattle.std.proofs.lemmas.List.{append-nil}
use Rattle.u_base.specs.Appending.{Extends}

pub extends_same : (a b : List ℕ) → b ≡ a → Extends a b
extends_same a b h = record { more = []; there = h ∙ sym (append-nil a) }

pub extends_by : (a b more : List ℕ) → b ≡ a ++ more → Extends a b
extends_by a b more h = record { more = more; there = h }

pub extends_on : (a b c : List ℕ) → Extends a b → Extends b c → Extends a c
extends_on a b c e f = record { more = e.more ++ f.more; there = f.there ∙ ap (λ t. t ++ f.more) e.there ∙ append_assoc a e.more f.more }

-- behind what was written, and then more
pub extends_behind : (a b more c : List ℕ) → b ≡ a ++ more → Extends b c → Extends a c
extends_behind a b more c h f = extends_on a b c (extends_by a b more h) f

-- cut to the length that it had, it is the list that it was
pub extends_cut : (a b c : List ℕ) (n : ℕ) → Extends a b → n ≡ length a → c ≡ take n b → c ≡ a
extends_cut a b c n e l h = h ∙ ap (λ k. take k b) l ∙ ap (λ t. take (length a) t) e.there ∙ take-append_seam a e.more
