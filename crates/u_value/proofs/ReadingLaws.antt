-- The reader of values reads the longest text of a value.
use Rattle.std.proofs.Common.{◌≡◌, ℕ, ◌≤◌, ◌<◌, ◌-◌, ◌⊎◌, drop, inl, inr, true, false, cond, List, [], ◌∷◌, ◌++◌, length, Result, Ok, Err, refl, ◌∙◌, ap, arith}
use Rattle.std.specs.Prelude.{FitsSigned}
use Rattle.std.specs.Fmt.{decimal, signed_decimal}
use Rattle.std.proofs.lemmas.Bool.Decides.{nat_tests}
use Rattle.std.specs.Int.{w64}
use lib.IntN.{ℤ}
use Rattle.u_base.specs.Reader.{Reader, ◌>>=◌}
use Rattle.u_base.proofs.ReaderLaws.{Reads}
use Rattle.u_base.proofs.PartsLaws.{alike, unlike, same_or, lead_Reads, widened}
use Rattle.u_base.proofs.ThenLaws.{after, both_Reads}
use Rattle.u_base.specs.Then.{AreBoth}
use Rattle.u_base.specs.Choice.{mapped, choice, IsOne}
use Rattle.u_base.proofs.ChoiceLaws.{mapped_Reads, choice_Reads, one_text}
use Rattle.u_base.proofs.NumberLaws.{IsDigit}
use Rattle.u_base.proofs.FromZeroLaws.{number0_Reads}
use Rattle.u_base.specs.Signed.{signed}
use Rattle.u_base.proofs.SignedLaws.{signed_Reads, signed_first}
use Rattle.u_base.specs.Fixed.{fixed, IsUnit}
use Rattle.u_base.proofs.FixedLaws.{fixed_Reads}
use Rattle.u_base.proofs.TextAtLaws.{read_within, refused_within, whole_read, refused_whole, left_over, found_at, missing_at, found_within, missing_within}
use Rattle.u_name.specs.Block.{IsBlock}
use Rattle.u_name.specs.BlockText.{block_at}
use Rattle.u_name.proofs.BlockTextLaws.{block_Reads, IsBlockByte}
use Rattle.u_name.specs.Name.{Activity, IsName}
use Rattle.u_name.specs.NameText.{name_text}
use Rattle.u_name.proofs.NameReaderLaws.{name_steps_Reads}
use Rattle.u_value.specs.Values.{value_text, pointer_text}
use Rattle.u_value.specs.Reading.{IsValue, pointer_at, Read, reference_of, value_of, alse, rue, false_at, true_at, value_at, IsValueOf, IsValueErrorOf, IsValueAt, IsValueErrorAt}
use Rattle.u_value.specs.declared.value.Value.{Value}
use Rattle.u_value.specs.declared.value.Value.TheVariants.{Int, Bool, Proc, Ref}
use Rattle.u_value.specs.declared.reading.ValueTextError.TheVariants.{BadValue}

digit_is_block_byte : (c : ℕ) → IsDigit c → IsBlockByte c
digit_is_block_byte c h =
    let low : 48 ≤ c = h.0 in
    let high : c ≤ 57 = h.1 in
    grind (arith, nat_tests)

-- the parts

abbrev pointer_read : Activity × ℕ → List ℕ
pointer_read = after name_text (λ _ l. 35 ∷ decimal l)

abbrev IsPointerRead : Activity × ℕ → Type 0
IsPointerRead = AreBoth IsName (λ _ l. l ≤ 1000000)

no_hash : (c : ℕ) (t u : List ℕ) → IsDigit c → 35 ∷ t ≡ c ∷ u → ⊥
no_hash c t u m e = let f : 35 ≡ c = cc in omega (arith, m.0)

pointer_Reads : Reads pointer_read IsPointerRead IsBlockByte pointer_at
pointer_Reads =
    widened digit_is_block_byte
    (both_Reads name_steps_Reads (λ _ _. lead_Reads 35 (number0_Reads 1000000 (omega arith) (omega arith))) (λ x y c r u v w m e. no_hash c _ u m e))

no_signed : (c : ℕ) → (c ≡ 45 → ⊥) → (IsDigit c → ⊥) → (z : ℤ) (u v : List ℕ) → FitsSigned w64 z → signed_decimal z ++ u ≡ c ∷ v → ⊥
no_signed c a b z u v w e = elim (signed_first z w c u v e) [ inl f ↦ a f | inr d ↦ b d ]

other_byte : (c d : ℕ) (t u : List ℕ) → (c ≡ d → ⊥) → c ∷ t ≡ d ∷ u → ⊥
other_byte c d t u n e = n (let f : c ≡ d = cc in f)

abbrev TrueOrNumber : Type 0
TrueOrNumber = Unit {0} ⊎ ℤ

abbrev TruthOrNumber : Type 0
TruthOrNumber = Unit {0} ⊎ TrueOrNumber

abbrev NoReference : Type 0
NoReference = List ℕ ⊎ TruthOrNumber

abbrev true_or_number_text : TrueOrNumber → List ℕ
true_or_number_text = one_text 116 (λ _. rue) signed_decimal

abbrev IsTrueOrNumber : TrueOrNumber → Type 0
IsTrueOrNumber = IsOne IsUnit (FitsSigned w64)

abbrev truth_or_number_text : TruthOrNumber → List ℕ
truth_or_number_text = one_text 102 (λ _. alse) true_or_number_text

abbrev IsTruthOrNumber : TruthOrNumber → Type 0
IsTruthOrNumber = IsOne IsUnit IsTrueOrNumber

abbrev no_reference_text : NoReference → List ℕ
no_reference_text = one_text 64 (λ b. b) truth_or_number_text

abbrev IsNoReference : NoReference → Type 0
IsNoReference = IsOne IsBlock IsTruthOrNumber

abbrev any_text : Read → List ℕ
any_text = one_text 38 pointer_read no_reference_text

abbrev IsAny : Read → Type 0
IsAny = IsOne IsPointerRead IsNoReference

true_or_number_apart : (c : ℕ) → (116 ≡ c → ⊥) → (c ≡ 45 → ⊥) → (IsDigit c → ⊥) → (y : TrueOrNumber) (u v : List ℕ) → IsTrueOrNumber y → true_or_number_text y ++ u ≡ c ∷ v → ⊥
true_or_number_apart c n a b (inl t) u v w e = other_byte 116 c _ v n e
true_or_number_apart c n a b (inr z) u v w e = no_signed c a b z u v w e

truth_or_number_apart : (c : ℕ) → (102 ≡ c → ⊥) → (116 ≡ c → ⊥) → (c ≡ 45 → ⊥) → (IsDigit c → ⊥) → (y : TruthOrNumber) (u v : List ℕ) → IsTruthOrNumber y → truth_or_number_text y ++ u ≡ c ∷ v → ⊥
truth_or_number_apart c m n a b (inl t) u v w e = other_byte 102 c _ v m e
truth_or_number_apart c m n a b (inr z) u v w e = true_or_number_apart c n a b z u v w e

no_reference_apart : (y : NoReference) (u v : List ℕ) → IsNoReference y → no_reference_text y ++ u ≡ 38 ∷ v → ⊥
no_reference_apart (inl t) u v w e = other_byte 64 38 _ v (λ f. omega arith) e
no_reference_apart (inr z) u v w e = truth_or_number_apart 38 (λ f. omega arith) (λ f. omega arith) (λ f. omega arith) (λ d. omega (arith, d.0)) z u v w e

abbrev true_or_number_at : Reader TrueOrNumber
true_or_number_at = choice 116 (fixed rue) signed

abbrev truth_or_number_at : Reader TruthOrNumber
truth_or_number_at = choice 102 (fixed alse) true_or_number_at

abbrev no_reference_at : Reader NoReference
no_reference_at = choice 64 block_at truth_or_number_at

true_or_number_Reads : Reads true_or_number_text IsTrueOrNumber IsBlockByte true_or_number_at
true_or_number_Reads =
    choice_Reads 116 (widened (λ c n. absurd n) (fixed_Reads rue)) (widened digit_is_block_byte signed_Reads)
    (no_signed 116 (λ f. omega arith) (λ d. omega (arith, d.1)))

truth_or_number_Reads : Reads truth_or_number_text IsTruthOrNumber IsBlockByte truth_or_number_at
truth_or_number_Reads =
    choice_Reads 102 (widened (λ c n. absurd n) (fixed_Reads alse)) true_or_number_Reads
    (true_or_number_apart 102 (λ f. omega arith) (λ f. omega arith) (λ d. omega (arith, d.1)))

no_reference_Reads : Reads no_reference_text IsNoReference IsBlockByte no_reference_at
no_reference_Reads =
    choice_Reads 64 block_Reads truth_or_number_Reads
    (truth_or_number_apart 64 (λ f. omega arith) (λ f. omega arith) (λ f. omega arith) (λ d. omega (arith, d.1)))

-- from what is read to the value and back

abbrev read_of : Value → Read
read_of (Int z) = inr (inr (inr (inr z)))
read_of (Bool true) = inr (inr (inr (inl tt)))
read_of (Bool false) = inr (inr (inl tt))
read_of (Proc b) = inr (inl b)
read_of (Ref p) = inl (p.name, p.length)

there : (x : Read) → IsAny x → IsValue (value_of x)
there (inl p) v = (v.0, record { short = v.1 })
there (inr (inl b)) v = v
there (inr (inr (inl t))) v = tt
there (inr (inr (inr (inl t)))) v = tt
there (inr (inr (inr (inr z)))) v = v

spelled : (x : Read) → IsAny x → value_text (value_of x) ≡ any_text x
unfolding value_text pointer_text
spelled (inl p) v = refl
spelled (inr (inl b)) v = refl
spelled (inr (inr (inl t))) v = refl
spelled (inr (inr (inr (inl t)))) v = refl
spelled (inr (inr (inr (inr z)))) v = refl

back : (x : Value) → IsValue x → IsAny (read_of x)
back (Int z) v = v
back (Bool true) v = refl
back (Bool false) v = refl
back (Proc b) v = v
back (Ref p) v = (v.0, v.1.short)

again : (x : Value) → IsValue x → value_of (read_of x) ≡ x
again (Int z) v = refl
again (Bool true) v = refl
again (Bool false) v = refl
again (Proc b) v = refl
again (Ref p) v = refl

pub value_Reads : Reads value_text IsValue IsBlockByte value_at
unfolding value_at
value_Reads = mapped_Reads (choice_Reads 38 pointer_Reads no_reference_Reads no_reference_apart) {f = value_of} {g = read_of} (record { there = there; spelled = spelled; back = back; again = again })

-- what stands behind the first byte

abbrev R : Type 0 → Type 0
R A = Result (A × List ℕ) (List ℕ)

abbrev on : {X Z : Type 0} → (X → Z) → R X → R Z
on {X} {Z} f r = ◌>>=◌ {A = X × List ℕ} {B = Z × List ℕ} r (λ a. Ok (f a.0, a.1))

twice : {X Y Z : Type 0} (f : X → Y) (g : Y → Z) (r : R X) → on g (on f r) ≡ on (λ x. g (f x)) r
twice f g (Ok a) = refl
twice f g (Err e) = refl

pub behind_ampersand : (bs cs : List ℕ) → bs ≡ 38 ∷ cs → value_at bs ≡ mapped reference_of pointer_at cs
unfolding value_at
behind_ampersand bs cs e = ap value_at e ∙ twice inl value_of (pointer_at cs)

pub behind_at : (bs cs : List ℕ) → bs ≡ 64 ∷ cs → value_at bs ≡ mapped Proc block_at cs
unfolding value_at
behind_at bs cs e = ap value_at e ∙ ap (on value_of) (twice inl inr (block_at cs)) ∙ twice (λ b. inr (inl b)) value_of (block_at cs)

pub behind_f : (bs cs : List ℕ) → bs ≡ 102 ∷ cs → value_at bs ≡ false_at cs
unfolding value_at
behind_f bs cs e =
    ap value_at e ∙ ap (on value_of) (ap (on inr) (twice inl inr (fixed alse cs)) ∙ twice (λ t. inr (inl t)) inr (fixed alse cs)) ∙ twice (λ t. inr (inr (inl t))) value_of (fixed alse cs)

pub behind_t : (bs cs : List ℕ) → bs ≡ 116 ∷ cs → value_at bs ≡ true_at cs
unfolding value_at
behind_t bs cs e =
    ap value_at e
    ∙ ap (on value_of) (ap (on inr) (ap (on inr) (twice inl inr (fixed rue cs)) ∙ twice (λ t. inr (inl t)) inr (fixed rue cs)) ∙ twice (λ t. inr (inr (inl t))) inr (fixed rue cs))
    ∙ twice (λ t. inr (inr (inr (inl t)))) value_of (fixed rue cs)

skipped : {X Y : Type 0} (c : ℕ) (P : Reader X) (Q : Reader Y) (bs : List ℕ) → ((cs : List ℕ) → bs ≡ c ∷ cs → ⊥) → choice c P Q bs ≡ on inr (Q bs)
skipped c P Q [] n = refl
skipped {X} {Y} c P Q (b ∷ bs) n =
    elim (same_or b c) [
      | alike e f ↦ absurd (n bs (ap (λ i. i ∷ bs) e))
      | unlike e f ↦ ap (λ t. cond t (mapped {X = X} {Z = X ⊎ Y} inl P bs) (mapped {X = Y} {Z = X ⊎ Y} inr Q (b ∷ bs))) f
    ]

-- the bytes do not begin with this one
abbrev NotBehind : ℕ → List ℕ → Type 0
NotBehind c bs = (cs : List ℕ) → bs ≡ c ∷ cs → ⊥

pub behind_no_mark : (bs : List ℕ) (r : R Value) → NotBehind 38 bs → NotBehind 64 bs → NotBehind 102 bs → NotBehind 116 bs → mapped Int signed bs ≡ r → value_at bs ≡ r
unfolding value_at
behind_no_mark bs r a b c d h =
    ap (on value_of)
    (skipped 38 pointer_at no_reference_at bs a
    ∙ ap (on inr) (skipped 64 block_at truth_or_number_at bs b ∙ ap (on inr) (skipped 102 (fixed alse) true_or_number_at bs c ∙ ap (on inr) (skipped 116 (fixed rue) signed bs d) ∙ twice inr inr (signed bs)) ∙ twice (λ n. inr (inr n)) inr (signed bs))
    ∙ twice (λ n. inr (inr (inr n))) inr (signed bs))
    ∙ twice (λ n. inr (inr (inr (inr n)))) value_of (signed bs)
    ∙ h

pub behind_other : (bs : List ℕ) (c : ℕ) (cs : List ℕ) (r : R Value) → bs ≡ c ∷ cs → (c ≡ 38 → ⊥) → (c ≡ 64 → ⊥) → (c ≡ 102 → ⊥) → (c ≡ 116 → ⊥) → mapped Int signed bs ≡ r → value_at bs ≡ r
behind_other bs c cs r e i j k l h =
    behind_no_mark bs r (λ ds f. i (head e f)) (λ ds f. j (head e f)) (λ ds f. k (head e f)) (λ ds f. l (head e f)) h
  where
    head : {d : ℕ} {ds : List ℕ} → bs ≡ c ∷ cs → bs ≡ d ∷ ds → c ≡ d
    head e f = cc

pub behind_nothing : (bs : List ℕ) (r : R Value) → length bs ≡ 0 → mapped Int signed bs ≡ r → value_at bs ≡ r
behind_nothing [] r e h = behind_no_mark [] r (λ ds f. cc) (λ ds f. cc) (λ ds f. cc) (λ ds f. cc) h
behind_nothing (c ∷ cs) r e h = absurd (omega arith)

-- what reading answers

pub value_whole : (bytes : List ℕ) (value : Value) (rest : List ℕ) → value_at bytes ≡ Ok (value, rest) → length rest ≡ 0 → IsValueOf bytes value
value_whole = whole_read value_Reads

pub value_left_over : (bytes : List ℕ) (value : Value) (rest : List ℕ) → value_at bytes ≡ Ok (value, rest) → 0 < length rest → IsValueErrorOf bytes (BadValue (length bytes - length rest))
value_left_over = left_over value_Reads

pub value_refused_whole : (bytes rest : List ℕ) → value_at bytes ≡ Err rest → IsValueErrorOf bytes (BadValue (length bytes - length rest))
value_refused_whole = refused_whole value_Reads

pub value_left_within : (bytes : List ℕ) (value : Value) (rest : List ℕ) → value_at bytes ≡ Ok (value, rest) → length rest ≤ length bytes
value_left_within = read_within value_Reads

pub value_refused_within : (bytes rest : List ℕ) → value_at bytes ≡ Err rest → length rest ≤ length bytes
value_refused_within = refused_within value_Reads

pub value_found : (bytes : List ℕ) (offset : ℕ) (value : Value) (rest : List ℕ) → offset ≤ length bytes → value_at (drop offset bytes) ≡ Ok (value, rest) → IsValueAt bytes offset value (length bytes - length rest)
value_found = found_at value_Reads

pub value_missing : (bytes : List ℕ) (offset : ℕ) (rest : List ℕ) → offset ≤ length bytes → value_at (drop offset bytes) ≡ Err rest → IsValueErrorAt bytes offset (BadValue (length bytes - length rest))
value_missing = missing_at value_Reads

pub value_found_within : (bytes : List ℕ) (offset : ℕ) (value : Value) (rest : List ℕ) → value_at (drop offset bytes) ≡ Ok (value, rest) → length rest ≤ length bytes
value_found_within = found_within value_Reads

pub value_missing_within : (bytes : List ℕ) (offset : ℕ) (rest : List ℕ) → value_at (drop offset bytes) ≡ Err rest → length rest ≤ length bytes
value_missing_within = missing_within value_Reads
