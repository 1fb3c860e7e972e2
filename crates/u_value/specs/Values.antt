-- The order of values, and their texts.
use Rattle.std.specs.Prelude.{ℕ, List, [], ◌∷◌, ◌++◌, true, false}
use Rattle.std.specs.Fmt.{decimal, signed_decimal}
use Rattle.std.specs.Ordering.{nat_cmp, int_cmp, bool_cmp}
use Rattle.std.specs.Cmp.Lexicographic.{slice_cmp}
use Rattle.std.specs.declared.cmp.Ordering.{Ordering}
use Rattle.std.specs.declared.cmp.Ordering.TheVariants.{Less, Greater}
use Rattle.u_name.specs.NameText.{name_text}
use Rattle.u_value.specs.Pointer.{Pointer}
use Rattle.u_value.specs.PointerOrder.{pointer_cmp}
use Rattle.u_value.specs.declared.value.Value.{Value}
use Rattle.u_value.specs.declared.value.Value.TheVariants.{Int, Bool, Proc, Ref}

-- the kinds in turn, and then numbers by size, false before true, blocks by their bytes, references by name and length
abbrev pub value_cmp : Value → Value → Ordering
value_cmp (Int a) (Int b) = int_cmp a b
value_cmp (Int a) (Bool b) = Less
value_cmp (Int a) (Proc b) = Less
value_cmp (Int a) (Ref b) = Less
value_cmp (Bool a) (Int b) = Greater
value_cmp (Bool a) (Bool b) = bool_cmp a b
value_cmp (Bool a) (Proc b) = Less
value_cmp (Bool a) (Ref b) = Less
value_cmp (Proc a) (Int b) = Greater
value_cmp (Proc a) (Bool b) = Greater
value_cmp (Proc a) (Proc b) = slice_cmp nat_cmp a b
value_cmp (Proc a) (Ref b) = Less
value_cmp (Ref a) (Int b) = Greater
value_cmp (Ref a) (Bool b) = Greater
value_cmp (Ref a) (Proc b) = Greater
value_cmp (Ref a) (Ref b) = pointer_cmp a b

-- `&n#l`
unfoldable pub pointer_text : Pointer → List ℕ
pointer_text p = 38 ∷ (name_text p.name ++ (35 ∷ decimal p.length))

-- `-7`, `true` or `false`, `@main`, `&n#l`
unfoldable pub value_text : Value → List ℕ
value_text (Int z) = signed_decimal z
value_text (Bool true) = 116 ∷ 114 ∷ 117 ∷ 101 ∷ []
value_text (Bool false) = 102 ∷ 97 ∷ 108 ∷ 115 ∷ 101 ∷ []
value_text (Proc block) = 64 ∷ block
value_text (Ref p) = pointer_text p
