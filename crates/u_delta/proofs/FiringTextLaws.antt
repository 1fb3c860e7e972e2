-- A firing's text has no newline, and fits in a line.
use Rattle.std.specs.Prelude.{◌≡◌, ℕ, suc, ◌+◌, ◌*◌, ◌^◌, ◌<◌, ◌≤◌, true, false, IsTrue, List, [], ◌∷◌, ◌++◌, length, Option, Some, None, FitsSigned}
use Rattle.std.proofs.Common.{subst, arith, length-append}
use Rattle.std.proofs.lemmas.Fmt.{length-decimal-le}
use Rattle.std.specs.List.{AllByRecursion}
use Rattle.std.specs.Fmt.{decimal, signed_decimal}
use Rattle.std.specs.Int.{w64}
use lib.IntN.{ℤ, pos, negsuc}
use Rattle.u_base.proofs.PiecesLaws.{Free}
use Rattle.u_base.proofs.SpacedLaws.{free_append, free_decimal, free_signed}
use Rattle.u_name.specs.Block.{IsBlock, is_block_byte}
use Rattle.u_name.specs.Context.{Tree, Top, InLoop, InCall, depth, InRange}
use Rattle.u_name.specs.Name.{Activity, IsName}
use Rattle.u_name.specs.NameText.{loop_part, call_part, context_text, name_text}
use Rattle.u_value.specs.Values.{pointer_text, value_text}
use Rattle.u_value.specs.Pointer.{Pointer, IsPointer}
use Rattle.u_value.specs.Reading.{IsValue}
use Rattle.u_value.specs.declared.value.Value.{Value}
use Rattle.u_value.specs.declared.value.Value.TheVariants.{Int, Bool, Proc, Ref}
use Rattle.u_rule.specs.declared.firing.Firing.{Firing}
use Rattle.u_rule.specs.declared.parts.Written.{Written}
use Rattle.u_rule.specs.FiringText.{values_text, written_text, firing_text}
use Rattle.u_rule.specs.FiringReading.{AreValues, IsWritten, IsFiring}

-- no newline

block_free : (bs : List ℕ) → AllByRecursion (λ b. IsTrue (is_block_byte b)) bs → Free 10 bs
block_free [] v = tt
block_free (b ∷ bs) v = (λ e. not_both (subst (λ b. IsTrue (is_block_byte b)) e v.0), block_free bs v.1)
  where
    not_both : IsTrue (is_block_byte 10) → ⊥
    not_both h = cc

small_free : (n : ℕ) → n ≤ 18446744073709551615 → Free 10 (decimal n)
small_free n h = free_decimal 10 n (omega arith) (omega arith)

dotted_free : (bs : List ℕ) → Free 10 bs → Free 10 (46 ∷ bs)
dotted_free bs v = (λ e. omega arith, v)

loop_part_free : (b : List ℕ) (n i : ℕ) → IsBlock b → n ≤ 99 → i ≤ 18446744073709551615 → Free 10 (loop_part b n i)
loop_part_free b n i v l m =
    dotted_free (b ++ (46 ∷ (76 ∷ (decimal n ++ (46 ∷ decimal i))))) (free_append 10 b (46 ∷ (76 ∷ (decimal n ++ (46 ∷ decimal i)))) (block_free b v.each)
    (λ e. omega arith, (λ e. omega arith, free_append 10 (decimal n) (46 ∷ decimal i) (small_free n (omega arith)) (dotted_free (decimal i) (small_free i m)))))

call_part_free : (b : List ℕ) (s i : ℕ) → IsBlock b → s ≤ 999 → i ≤ 18446744073709551615 → Free 10 (call_part b s i)
call_part_free b s i v l m =
    dotted_free (b ++ (46 ∷ (decimal s ++ (46 ∷ decimal i)))) (free_append 10 b (46 ∷ (decimal s ++ (46 ∷ decimal i))) (block_free b v.each)
    (dotted_free (decimal s ++ (46 ∷ decimal i)) (free_append 10 (decimal s) (46 ∷ decimal i) (small_free s (omega arith)) (dotted_free (decimal i) (small_free i m)))))

closed_free : (outer part : List ℕ) → Free 10 outer → Free 10 part → Free 10 ((40 ∷ outer) ++ (part ++ (41 ∷ [])))
closed_free outer part v w = free_append 10 (40 ∷ outer) (part ++ (41 ∷ [])) (λ e. omega arith, v) (free_append 10 part (41 ∷ []) w (λ e. omega arith, tt))

context_free : (t : Tree) → InRange t → Free 10 (context_text t)
unfolding context_text
context_free Top v = (λ e. omega arith, tt)
context_free (InLoop o b n i) v = closed_free (context_text o) (loop_part b n i) (context_free o v.0) (loop_part_free b n i v.1 v.2.1 v.3.1)
context_free (InCall o b s i) v = closed_free (context_text o) (call_part b s i) (context_free o v.0) (call_part_free b s i v.1 v.2.1 v.3.1)

name_free : (n : Activity) → IsName n → Free 10 (name_text n)
unfolding name_text
name_free n v = free_append 10 (context_text n.context) (call_part n.block n.statement n.initiation) (context_free n.context v.context.in_range) (call_part_free n.block n.statement n.initiation v.block v.statement.1 v.initiation.1)

pointer_free : (p : Pointer) → IsName p.name → IsPointer p → Free 10 (pointer_text p)
unfolding pointer_text
pointer_free p v w = (λ e. omega arith, free_append 10 (name_text p.name) (35 ∷ decimal p.length) (name_free p.name v) (λ e. omega arith, small_free p.length (omega (arith, w.short))))

value_free : (x : Value) → IsValue x → Free 10 (value_text x)
unfolding value_text
value_free (Int z) v = free_signed 10 z (omega arith) v
value_free (Bool true) v = (λ e. omega arith, (λ e. omega arith, (λ e. omega arith, (λ e. omega arith, tt))))
value_free (Bool false) v = (λ e. omega arith, (λ e. omega arith, (λ e. omega arith, (λ e. omega arith, (λ e. omega arith, tt)))))
value_free (Proc b) v = (λ e. omega arith, block_free b v.each)
value_free (Ref p) v = pointer_free p v.0 v.1

values_free : (xs : List Value) → AreValues xs → Free 10 (values_text xs)
values_free [] v = tt
values_free (x ∷ xs) v = (λ e. omega arith, free_append 10 (value_text x) (values_text xs) (value_free x v.0) (values_free xs v.1))

written_free : (w : Option Written) → IsWritten w → Free 10 (written_text w)
written_free None v = tt
written_free (Some w) v =
    (λ e. omega arith, (λ e. omega arith, (λ e. omega arith, (λ e. omega arith, free_append 10 (name_text w.writer) (32 ∷ value_text w.value) (name_free w.writer v.0) (λ e. omega arith, value_free w.value v.1)))))

pub firing_free : (f : Firing) → IsFiring f → Free 10 (firing_text f)
unfolding firing_text
firing_free f v =
    (λ e. omega arith, (λ e. omega arith, free_append 10 (name_text f.activity) (values_text f.values ++ written_text f.write) (name_free f.activity v.0) (free_append 10 (values_text f.values) (written_text f.write) (values_free f.values v.2) (written_free f.write v.3))))

-- how long

loop_part_short : (b : List ℕ) (n i : ℕ) → IsBlock b → n ≤ 99 → i ≤ 18446744073709551615 → length (loop_part b n i) ≤ 42
loop_part_short b n i v l m =
    omega (arith, v.short, length-append b (46 ∷ (76 ∷ (decimal n ++ (46 ∷ decimal i)))), length-append (decimal n) (46 ∷ decimal i), length-decimal-le 2 n (omega arith) (omega arith) (omega arith), length-decimal-le 20 i (omega arith) (omega arith) (omega arith))

call_part_short : (b : List ℕ) (s i : ℕ) → IsBlock b → s ≤ 999 → i ≤ 18446744073709551615 → length (call_part b s i) ≤ 42
call_part_short b s i v l m =
    omega (arith, v.short, length-append b (46 ∷ (decimal s ++ (46 ∷ decimal i))), length-append (decimal s) (46 ∷ decimal i), length-decimal-le 3 s (omega arith) (omega arith) (omega arith), length-decimal-le 20 i (omega arith) (omega arith) (omega arith))

closed_length : (outer part : List ℕ) → length ((40 ∷ outer) ++ (part ++ (41 ∷ []))) ≡ length outer + length part + 2
closed_length outer part = omega (arith, length-append (40 ∷ outer) (part ++ (41 ∷ [])), length-append part (41 ∷ []))

context_short : (t : Tree) → InRange t → length (context_text t) ≤ 44 * depth t + 1
unfolding context_text
context_short Top v = omega arith
context_short (InLoop o b n i) v = omega (arith, closed_length (context_text o) (loop_part b n i), context_short o v.0, loop_part_short b n i v.1 v.2.1 v.3.1)
context_short (InCall o b s i) v = omega (arith, closed_length (context_text o) (call_part b s i), context_short o v.0, call_part_short b s i v.1 v.2.1 v.3.1)

name_short : (n : Activity) → IsName n → length (name_text n) ≤ 2859
unfolding name_text
name_short n v =
    omega (arith, length-append (context_text n.context) (call_part n.block n.statement n.initiation), context_short n.context v.context.in_range, v.context.shallow, call_part_short n.block n.statement n.initiation v.block v.statement.1 v.initiation.1)

pointer_short : (p : Pointer) → IsName p.name → IsPointer p → length (pointer_text p) ≤ 2868
unfolding pointer_text
pointer_short p v w =
    let l : length (decimal p.length) ≤ 7 = length-decimal-le 7 p.length (omega arith) (omega (arith, w.short)) (omega (arith, w.short)) in
    omega (arith, length-append (name_text p.name) (35 ∷ decimal p.length), name_short p.name v, l)

signed_short : (z : ℤ) → FitsSigned w64 z → length (signed_decimal z) ≤ 20
signed_short (pos n) v = let b : n < 2 ^ 63 = v.sfits in omega (arith, length-decimal-le 19 n (omega arith) (omega arith) (omega arith))
signed_short (negsuc n) v = let b : n < 2 ^ 63 = v.sfits in omega (arith, length-decimal-le 19 (suc n) (omega arith) (omega arith) (omega arith))

value_short : (x : Value) → IsValue x → length (value_text x) ≤ 2868
unfolding value_text
value_short (Int z) v = omega (arith, signed_short z v)
value_short (Bool true) v = omega arith
value_short (Bool false) v = omega arith
value_short (Proc b) v = omega (arith, v.short)
value_short (Ref p) v = pointer_short p v.0 v.1

values_short : (xs : List Value) → AreValues xs → length (values_text xs) ≤ 2869 * length xs
values_short [] v = omega arith
values_short (x ∷ xs) v = omega (arith, length-append (value_text x) (values_text xs), value_short x v.0, values_short xs v.1)

written_short : (w : Option Written) → IsWritten w → length (written_text w) ≤ 5732
written_short None v = omega arith
written_short (Some w) v = omega (arith, length-append (name_text w.writer) (32 ∷ value_text w.value), name_short w.writer v.0, value_short w.value v.1)

pub firing_short : (f : Firing) → IsFiring f → length (firing_text f) ≤ 22938
unfolding firing_text
firing_short f v =
    omega (arith, length-append (name_text f.activity) (values_text f.values ++ written_text f.write), length-append (values_text f.values) (written_text f.write), name_short f.activity v.0, values_short f.values v.2, v.1.count.1, written_short f.write v.3)
