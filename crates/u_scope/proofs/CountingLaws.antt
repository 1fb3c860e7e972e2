-- What is counted behind a loop's variable, past a node with which something begins.
use Rattle.std.proofs.Common.{◌≡◌, ℕ, suc, ◌+◌, ap, ◌∙◌, arith, Bool, true, false, cond, ◌==◌, List, ◌∷◌}
use Rattle.std.specs.Prelude.{◌&&◌}
use Rattle.u_source.specs.declared.form.Node.{Node}
use Rattle.u_source.specs.Tokens.{TokenParts}
use Rattle.u_scope.specs.declared.entry.Event.{Event}
use Rattle.u_scope.specs.declared.entry.Event.TheVariants.{Block, Variables}
use Rattle.u_scope.specs.Entries.{event_of}
use Rattle.u_scope.specs.Counting.{is_loop_end, is_block_end, is_loops, deeper, stands_behind, has_next}

module _ (ts : List TokenParts) (x : List ℕ) (d : ℕ) (b : Bool) (n : Node) (ns : List Node) where
  by_event : Event → Bool
  by_event e = cond (is_loop_end e && d == 0) false (cond (is_block_end e && d == 1 && b && is_loops ns) true (has_next ts x (deeper e d) (stands_behind ts x d b e n.token) ns))

  one_more : has_next ts x (suc d) b ns ≡ has_next ts x (d + 1) b ns
  one_more = let e : suc d ≡ d + 1 = omega arith in ap (λ (m : ℕ). has_next ts x m b ns) e

  -- behind the beginning of a loop's variables there is one level more
  pub behind_variables : event_of n.form ≡ Variables → has_next ts x d b (n ∷ ns) ≡ has_next ts x (d + 1) b ns
  unfolding by_event
  behind_variables e = ap by_event e ∙ one_more

  -- and so is there behind that of a block
  pub behind_block_begin : event_of n.form ≡ Block → has_next ts x d b (n ∷ ns) ≡ has_next ts x (d + 1) b ns
  unfolding by_event
  behind_block_begin e = ap by_event e ∙ one_more
