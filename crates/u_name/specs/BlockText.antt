-- The reader of the longest name of a block at the front of some bytes.
use Rattle.std.specs.Prelude.{ℕ, zero, suc, Bool, false, cond, List, [], ◌∷◌, take, drop, Ok, Err}
use Rattle.u_base.specs.Reader.{Reader}
use Rattle.u_name.specs.Block.{is_letter, is_block_byte}

-- how many bytes of a block's name stand at the front, up to a most
abbrev pub block_span : ℕ → List ℕ → ℕ
block_span zero cs = 0
block_span (suc room) [] = 0
block_span (suc room) (c ∷ cs) = cond (is_block_byte c) (suc (block_span room cs)) 0

abbrev pub begins_with_letter : List ℕ → Bool
begins_with_letter [] = false
begins_with_letter (c ∷ cs) = is_letter c

abbrev pub block_at : Reader (List ℕ)
block_at bs = cond (begins_with_letter bs) (Ok (take (block_span 16 bs) bs, drop (block_span 16 bs) bs)) (Err bs)
