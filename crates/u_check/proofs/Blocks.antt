-- Blocks by their names.
use Rattle.std.proofs.Common.{◌≡◌, ℕ, zero, suc, inl, inr, refl, sym, ap, ◌∙◌, Bool, true, false, ◌||◌, List, [], ◌∷◌, length, take, Some}
use Rattle.std.specs.Prelude.{slice_get, Contains}
use Rattle.std.specs.Cmp.Lexicographic.{bytes_decides}
use Rattle.std.proofs.lemmas.Bool.{false≢true, cases_Bool}
use Rattle.std.proofs.lemmas.Option.{slice_get_read, slice_get_within, get_or_from_slice_get}
use Rattle.u_program.specs.Parts.{BlockParts}
use Rattle.u_check.specs.Rules.{same_name, names_block, block_named}

pub place_of_member : {X : Type 0} (xs : List X) (x : X) → Contains xs x → (i : ℕ) × (slice_get xs i ≡ Some x)
place_of_member xs x (i, l, e) = (i, slice_get_read xs (length xs) i x refl l (sym e))

pub member_at : {X : Type 0} (xs : List X) (i : ℕ) (x : X) → slice_get xs i ≡ Some x → Contains xs x
member_at xs i x e = (i, slice_get_within xs i x e, get_or_from_slice_get xs i x x e)

pub same_itself : (name : List ℕ) → same_name name name ≡ true
same_itself name = (bytes_decides name name).1 refl

or_left : (a b : Bool) → (a || b) ≡ false → a ≡ false
or_left true b e = e
or_left false b e = refl

or_right : (a b : Bool) → (a || b) ≡ false → b ≡ false
or_right true b e = absurd (false≢true (sym e))
or_right false b e = e

-- a block whose name none before it has is the one of that name
pub named_first : (p : List BlockParts) (i : ℕ) (b : BlockParts) → slice_get p i ≡ Some b → names_block (take i p) b.name ≡ false → block_named p b.name ≡ Some b
named_first [] i b e n = cc
named_first (x ∷ xs) zero b e n =
    let q : x ≡ b = cc in
    let s : same_name x.name b.name ≡ true = ap (λ (y : BlockParts). same_name y.name b.name) q ∙ same_itself b.name in
    rw s e
named_first (x ∷ xs) (suc i) b e n =
    let s : same_name x.name b.name ≡ false = or_left (same_name x.name b.name) (names_block (take i xs) b.name) n in
    rw s (named_first xs i b e (or_right (same_name x.name b.name) (names_block (take i xs) b.name) n))

-- the block of a name is in the program, and has it
pub named_member : (p : List BlockParts) (name : List ℕ) (b : BlockParts) → block_named p name ≡ Some b → Contains p b × (b.name ≡ name)
named_member p name b e = (let m = at_place p b e in (member_at p m.0 b m.1), has_name p e)
  where
    at_place : (xs : List BlockParts) (y : BlockParts) → block_named xs name ≡ Some y → (i : ℕ) × (slice_get xs i ≡ Some y)
    at_place [] y h = cc
    at_place (x ∷ xs) y h =
        elim (cases_Bool (same_name x.name name)) [ inl s ↦ (0, rw s at h) | inr s ↦ let k = at_place xs y (rw s at h) in (suc k.0, k.1) ]

    has_name : (xs : List BlockParts) → block_named xs name ≡ Some b → b.name ≡ name
    has_name [] h = cc
    has_name (x ∷ xs) h =
        elim (cases_Bool (same_name x.name name)) [ inl s ↦ let q : x ≡ b = (let k = rw s at h in cc) in sym (ap (λ (y : BlockParts). y.name) q) ∙ (bytes_decides x.name name).0 s | inr s ↦ has_name xs (rw s at h) ]

-- a name that some block has is that of a block
pub named_some : (p : List BlockParts) (name : List ℕ) → names_block p name ≡ true → (b : BlockParts) × (block_named p name ≡ Some b)
named_some [] name n = absurd (false≢true n)
named_some (x ∷ xs) name n =
    elim (cases_Bool (same_name x.name name)) [ inl s ↦ (x, rw s refl) | inr s ↦ let k = named_some xs name (rw s at n) in (k.0, rw s k.1) ]
