-- How many bytes of a block's name stand at the front, byte by byte, and what a whole name spans.
use Rattle.std.specs.Prelude.{IsTrue}
use Rattle.std.proofs.Common.{◌≡◌, ℕ, zero, suc, ◌+◌, ◌-◌, ◌<◌, true, false, cond, List, [], ◌∷◌, refl, ◌∙◌, ap, arith, length, ◌≤◌, take, subst}
use Rattle.std.specs.List.{AllByRecursion}
use Rattle.std.proofs.Math.Seq.{take-length}
use Rattle.u_name.specs.Block.{is_block_byte, IsBlock}
use Rattle.u_name.specs.BlockText.{block_span, begins_with_letter}
use Rattle.u_name.proofs.BlockTextLaws.{is_read_block}

pub span_step : (len c : ℕ) (cs : List ℕ) → len < 16 → is_block_byte c ≡ true → block_span (16 - len) (c ∷ cs) ≡ block_span (16 - (len + 1)) cs + 1
span_step len c cs lt h =
    let e : 16 - len ≡ suc (16 - (len + 1)) = omega arith in
    ap (λ n. block_span n (c ∷ cs)) e ∙ ap (λ t. cond t (suc (block_span (16 - (len + 1)) cs)) 0) h ∙ omega arith

pub span_stop : (room c : ℕ) (cs : List ℕ) → is_block_byte c ≡ false → block_span room (c ∷ cs) ≡ 0
span_stop zero c cs h = refl
span_stop (suc n) c cs h = ap (λ t. cond t (suc (block_span n cs)) 0) h

pub span_full : (len : ℕ) (cs : List ℕ) → len ≡ 16 → block_span (16 - len) cs ≡ 0
span_full len cs h = ap (λ n. block_span (16 - n) cs) h

pub span_nil : (room : ℕ) → block_span room [] ≡ 0
span_nil zero = refl
span_nil (suc n) = refl

pub span_empty : (room : ℕ) (cs : List ℕ) → length cs ≡ 0 → block_span room cs ≡ 0
span_empty zero cs h = refl
span_empty (suc n) [] h = refl
span_empty (suc n) (c ∷ cs) h = absurd (omega arith)

-- a block's name spans all of itself
all_span : (room : ℕ) (cs : List ℕ) → AllByRecursion (λ c. IsTrue (is_block_byte c)) cs → length cs ≤ room → block_span room cs ≡ length cs
all_span zero [] a h = refl
all_span (suc n) [] a h = refl
all_span zero (c ∷ cs) a h = absurd (omega arith)
all_span (suc n) (c ∷ cs) a h = ap (λ t. cond t (suc (block_span n cs)) 0) a.0 ∙ ap (λ k. suc k) (all_span n cs a.1 (omega arith))

pub block_spans : (bs : List ℕ) → IsBlock bs → block_span 16 bs ≡ length bs
block_spans bs b = all_span 16 bs b.each b.short

pub block_begins : (bs : List ℕ) → IsBlock bs → begins_with_letter bs ≡ true
block_begins [] b = absurd b.first
block_begins (c ∷ cs) b = b.first

pub whole_block : (bs : List ℕ) → begins_with_letter bs ≡ true → block_span 16 bs ≡ length bs → IsBlock bs
whole_block bs l e = subst IsBlock (ap (λ n. take n bs) e ∙ take-length bs) (is_read_block bs l)
