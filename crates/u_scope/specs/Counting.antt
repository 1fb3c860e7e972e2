-- What stands behind a name.
use Rattle.std.specs.Prelude.{ℕ, suc, ◌-◌, Bool, true, false, cond, not, ◌&&◌, ◌||◌, ◌==◌, nat_le, List, [], ◌∷◌}
use Rattle.u_source.specs.declared.form.Node.{Node}
use Rattle.u_source.specs.Tokens.{TokenParts}
use Rattle.u_scope.specs.declared.entry.Event.{Event}
use Rattle.u_scope.specs.declared.entry.Event.TheVariants.{Procedure, Block, BlockEnd, Variables, LoopEnd, Next, Arguments, Argument, Call, Side}
use Rattle.u_scope.specs.declared.naming.Sign.{Sign}
use Rattle.u_scope.specs.declared.naming.Sign.TheVariants.{Comma, Close}
use Rattle.u_scope.specs.Entries.{event_of}
use Rattle.u_scope.specs.Finding.{is_declared}
use Rattle.u_scope.specs.Naming.{sign_of}

abbrev pub commas_by : Sign → ℕ → ℕ
commas_by Close n = 0
commas_by Comma n = suc n
commas_by s n = n

-- how many commas stand before the first closing bracket
abbrev pub commas : List TokenParts → ℕ
commas [] = 0
commas (t ∷ ts) = commas_by (sign_of t.word) (commas ts)

-- how many calls have begun behind a node and not ended
abbrev pub calls_behind : Event → ℕ → ℕ
calls_behind Arguments d = suc d
calls_behind Call d = d - 1
calls_behind e d = d

abbrev pub is_argument : Event → Bool
is_argument Argument = true
is_argument e = false

abbrev pub is_call : Event → Bool
is_call Call = true
is_call e = false

-- how many arguments the call has whose arguments begin here, where d calls have begun and not ended
abbrev pub given : ℕ → List Node → ℕ
given d [] = 0
given d (x ∷ xs) = cond (is_call (event_of x.form) && nat_le d 1) 0 (cond (is_argument (event_of x.form) && d == 1) (suc (given d xs)) (given (calls_behind (event_of x.form) d) xs))

-- how many loops and blocks have begun behind a node and not ended
abbrev pub deeper : Event → ℕ → ℕ
deeper Variables d = suc d
deeper Block d = suc d
deeper BlockEnd d = d - 1
deeper LoopEnd d = d - 1
deeper e d = d

abbrev pub is_loop_end : Event → Bool
is_loop_end LoopEnd = true
is_loop_end e = false

-- how many blocks have begun behind a node and not ended
abbrev pub blocks_behind : Event → ℕ → ℕ
blocks_behind Block d = suc d
blocks_behind BlockEnd d = d - 1
blocks_behind e d = d

abbrev pub is_block_end : Event → Bool
is_block_end BlockEnd = true
is_block_end e = false

-- what stands behind the block that ends next, where d blocks have begun and not ended
abbrev pub behind_block : ℕ → List Node → List Node
behind_block d [] = []
behind_block d (n ∷ ns) = cond (is_block_end (event_of n.form) && d == 0) ns (behind_block (blocks_behind (event_of n.form) d) ns)

abbrev pub ends_loops : Event → Bool
ends_loops Side = false
ends_loops Procedure = false
ends_loops e = true

-- a block that ends before these nodes is a loop's own: that of a procedure ends right before the procedure does,
-- and one of an `if` before `else`, or where that is left out or ends
abbrev pub is_loops : List Node → Bool
is_loops [] = false
is_loops (n ∷ ns) = ends_loops (event_of n.form)

-- a `next` of the name x stands in the block that is one level deeper and has not ended, behind a node before which d
-- levels were begun and that was so or not
abbrev pub stands_behind : List TokenParts → List ℕ → ℕ → Bool → Event → ℕ → Bool
stands_behind ts x d b Next t = (d == 1 && is_declared ts x Next t) || b
stands_behind ts x d b BlockEnd t = b && not (d == 1)
stands_behind ts x d b e t = b

-- before the loop ends, a block that is its own ends, and a `next` of the name x stands in it; d levels were begun, and
-- in the block one level deeper that has not ended one stood already or not. A block in the header of the loop, or behind
-- its `give`, is a side of an `if`, and so not the loop's own
abbrev pub has_next : List TokenParts → List ℕ → ℕ → Bool → List Node → Bool
has_next ts x d b [] = false
has_next ts x d b (n ∷ ns) = cond (is_loop_end (event_of n.form) && d == 0) false (cond (is_block_end (event_of n.form) && d == 1 && b && is_loops ns) true (has_next ts x (deeper (event_of n.form) d) (stands_behind ts x d b (event_of n.form) n.token) ns))
