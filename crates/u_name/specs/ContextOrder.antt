-- The order of contexts: Root, then loops, then calls; the same kind by outer context, block, number, initiation.
use Rattle.std.specs.Prelude.{ℕ, List}
use Rattle.std.specs.Ordering.{ordering_then, nat_cmp}
use Rattle.std.specs.declared.cmp.Ordering.{Ordering}
use Rattle.std.specs.declared.cmp.Ordering.TheVariants.{Less, Equal, Greater}
use Rattle.std.specs.Cmp.Lexicographic.{slice_cmp}
use Rattle.u_name.specs.Context.{Tree, Top, InLoop, InCall}

abbrev pub parts_cmp : List ℕ → ℕ → ℕ → List ℕ → ℕ → ℕ → Ordering
parts_cmp b m i c n j = ordering_then (slice_cmp nat_cmp b c) (ordering_then (nat_cmp m n) (nat_cmp i j))

abbrev pub context_cmp : Tree → Tree → Ordering
context_cmp Top Top = Equal
context_cmp Top (InLoop p c n j) = Less
context_cmp Top (InCall p c n j) = Less
context_cmp (InLoop o b m i) Top = Greater
context_cmp (InLoop o b m i) (InLoop p c n j) = ordering_then (context_cmp o p) (parts_cmp b m i c n j)
context_cmp (InLoop o b m i) (InCall p c n j) = Less
context_cmp (InCall o b m i) Top = Greater
context_cmp (InCall o b m i) (InLoop p c n j) = Greater
context_cmp (InCall o b m i) (InCall p c n j) = ordering_then (context_cmp o p) (parts_cmp b m i c n j)
