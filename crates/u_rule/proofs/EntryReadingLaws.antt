-- The reader of entries reads the longest text of an entry.
use Rattle.std.specs.Prelude.{◌≡◌, ℕ, ◌⊎◌, ◌-◌, ◌<◌, ◌≤◌, length, List, [], ◌∷◌, ◌++◌, Ok, Err, refl}
use Rattle.std.proofs.Common.{inl, inr, arith}
use Rattle.std.specs.Fmt.{decimal}
use Rattle.u_base.specs.Reader.{Reader}
use Rattle.u_base.proofs.ReaderLaws.{Reads}
use Rattle.u_base.proofs.PartsLaws.{NoByte, lead_Reads, widened}
use Rattle.u_base.proofs.ThenLaws.{after, both_Reads}
use Rattle.u_base.specs.Then.{AreBoth}
use Rattle.u_base.proofs.ChoiceLaws.{mapped_Reads, choice_Reads, one_text}
use Rattle.u_base.specs.Choice.{choice, IsOne}
use Rattle.u_base.proofs.NumberLaws.{IsDigit}
use Rattle.u_base.proofs.FromZeroLaws.{number0_Reads}
use Rattle.u_base.specs.Fixed.{fixed, IsUnit}
use Rattle.u_base.proofs.FixedLaws.{fixed_Reads}
use Rattle.u_base.proofs.TextAtLaws.{read_within, refused_within, whole_read, refused_whole, left_over}
use Rattle.u_name.specs.Context.{IsBetween}
use Rattle.u_name.proofs.BlockTextLaws.{IsBlockByte}
use Rattle.u_name.specs.Name.{Activity, IsName}
use Rattle.u_name.specs.Cell.{CellOf, cell_of, cell_text, IsCell}
use Rattle.u_name.specs.NameText.{name_text}
use Rattle.u_name.proofs.NameReaderLaws.{name_steps_Reads}
use Rattle.u_value.specs.Values.{value_text}
use Rattle.u_value.specs.FaultKinds.{fault_kind_text}
use Rattle.u_value.specs.Reading.{IsValue}
use Rattle.u_value.proofs.ReadingLaws.{value_Reads}
use Rattle.u_value.specs.declared.value.Value.{Value}
use Rattle.u_value.specs.declared.fault_kind.FaultKind.{FaultKind}
use Rattle.u_value.specs.declared.fault_kind.FaultKind.TheVariants as kinds
use Rattle.u_rule.specs.EntryText.{entry_text}
use Rattle.u_rule.specs.Parts.{most_ports}
use Rattle.u_rule.proofs.PortLaws.{port_Reads}
use Rattle.u_rule.specs.EntryReading.{IsEntry, cell_at, OneOfEight, kind_of, ind, verflow, ero, eep, nitiation, ength, ounds, arity, kind_at, token_at, write_at, fault_at, answer_at, Read, entry_of, entry_at, IsEntryOf, IsEntryErrorOf}
use Rattle.u_rule.specs.declared.entry.Entry.{Entry}
use Rattle.u_rule.specs.declared.entry.Entry.TheVariants as entries
use Rattle.u_rule.specs.declared.reading.TextError.TheVariants.{BadText}

-- what no digit, and no byte of a block's name, is
other_byte : (c d : ℕ) (t u : List ℕ) → (c ≡ d → ⊥) → c ∷ t ≡ d ∷ u → ⊥
other_byte c d t u n e = n (let f : c ≡ d = cc in f)

no_digit : (b c : ℕ) (t u : List ℕ) → b ≤ 47 → IsDigit c → b ∷ t ≡ c ∷ u → ⊥
no_digit b c t u h m e = let f : b ≡ c = cc in omega (arith, m.0)

-- cells

abbrev cell_word : Activity × (ℕ × Unit {0}) → List ℕ
cell_word = after name_text (λ _. λ (t : ℕ × Unit {0}). 91 ∷ after decimal (λ _ _. 93 ∷ []) t)

abbrev IsCellWord : Activity × (ℕ × Unit {0}) → Type 0
IsCellWord = AreBoth IsName (λ _. AreBoth (λ n. n ≤ 999999) (λ _. IsUnit))

abbrev IsCellText : CellOf → Type 0
IsCellText c = IsName c.name × IsCell c

cell_spelled : (x : Activity × (ℕ × Unit {0})) → IsCellWord x → cell_text (cell_of x.0 x.1.0) ≡ cell_word x
unfolding cell_text
cell_spelled x v = refl

pub cell_Reads : Reads cell_text IsCellText NoByte cell_at
unfolding cell_at
cell_Reads =
    mapped_Reads
    (both_Reads name_steps_Reads
    (λ _ _. lead_Reads 91 (both_Reads (number0_Reads 999999 (omega arith) (omega arith)) (λ _ _. fixed_Reads (93 ∷ [])) (λ x y c r u v w m e. no_digit_93 c _ u m e)))
    (λ x y c r u v w m e. no_digit_91 c _ u m e))
    {f = λ t. cell_of t.0 t.1.0} {g = λ c. (c.name, (c.index, tt))}
    (record { there = λ x v. (v.0, record { within = v.1.0 }); spelled = cell_spelled; back = λ c v. (v.0, (v.1.within, refl)); again = λ c v. refl })
  where
    no_digit_91 : (c : ℕ) (t u : List ℕ) → IsDigit c → 91 ∷ t ≡ c ∷ u → ⊥
    no_digit_91 c t u m e = let f : 91 ≡ c = cc in omega (arith, m.1)

    no_digit_93 : (c : ℕ) (t u : List ℕ) → IsDigit c → 93 ∷ t ≡ c ∷ u → ⊥
    no_digit_93 c t u m e = let f : 93 ≡ c = cc in omega (arith, m.1)

-- kinds of faults: the words from `arity` on up, each with the reader of those before it

abbrev arity_word : Unit {0} → List ℕ
arity_word _ = arity

arity_apart : (d : ℕ) → (97 ≡ d → ⊥) → (y : Unit {0}) (u v : List ℕ) → IsUnit y → arity_word y ++ u ≡ d ∷ v → ⊥
arity_apart d n97 y u v w e = other_byte 97 d _ v n97 e

abbrev bounds_word : Unit {0} ⊎ Unit {0} → List ℕ
bounds_word = one_text 98 (λ _. ounds) arity_word

abbrev IsBounds : Unit {0} ⊎ Unit {0} → Type 0
IsBounds = IsOne IsUnit IsUnit

abbrev bounds_at : Reader (Unit {0} ⊎ Unit {0})
bounds_at = choice 98 (fixed ounds) (fixed arity)

bounds_Reads : Reads bounds_word IsBounds NoByte bounds_at
bounds_Reads = choice_Reads 98 (fixed_Reads ounds) (fixed_Reads arity) (arity_apart 98 (λ f. omega arith))

bounds_apart : (d : ℕ) → (98 ≡ d → ⊥) → (97 ≡ d → ⊥) → (y : Unit {0} ⊎ Unit {0}) (u v : List ℕ) → IsBounds y → bounds_word y ++ u ≡ d ∷ v → ⊥
bounds_apart d n98 n97 (inl t) u v w e = other_byte 98 d _ v n98 e
bounds_apart d n98 n97 (inr y) u v w e = arity_apart d n97 y u v w e

abbrev length_word : Unit {0} ⊎ (Unit {0} ⊎ Unit {0}) → List ℕ
length_word = one_text 108 (λ _. ength) bounds_word

abbrev IsLength : Unit {0} ⊎ (Unit {0} ⊎ Unit {0}) → Type 0
IsLength = IsOne IsUnit IsBounds

abbrev length_at : Reader (Unit {0} ⊎ (Unit {0} ⊎ Unit {0}))
length_at = choice 108 (fixed ength) bounds_at

length_Reads : Reads length_word IsLength NoByte length_at
length_Reads = choice_Reads 108 (fixed_Reads ength) bounds_Reads (bounds_apart 108 (λ f. omega arith) (λ f. omega arith))

length_apart : (d : ℕ) → (108 ≡ d → ⊥) → (98 ≡ d → ⊥) → (97 ≡ d → ⊥) → (y : Unit {0} ⊎ (Unit {0} ⊎ Unit {0})) (u v : List ℕ) → IsLength y → length_word y ++ u ≡ d ∷ v → ⊥
length_apart d n108 n98 n97 (inl t) u v w e = other_byte 108 d _ v n108 e
length_apart d n108 n98 n97 (inr y) u v w e = bounds_apart d n98 n97 y u v w e

abbrev initiation_word : Unit {0} ⊎ (Unit {0} ⊎ (Unit {0} ⊎ Unit {0})) → List ℕ
initiation_word = one_text 105 (λ _. nitiation) length_word

abbrev IsInitiation : Unit {0} ⊎ (Unit {0} ⊎ (Unit {0} ⊎ Unit {0})) → Type 0
IsInitiation = IsOne IsUnit IsLength

abbrev initiation_at : Reader (Unit {0} ⊎ (Unit {0} ⊎ (Unit {0} ⊎ Unit {0})))
initiation_at = choice 105 (fixed nitiation) length_at

initiation_Reads : Reads initiation_word IsInitiation NoByte initiation_at
initiation_Reads = choice_Reads 105 (fixed_Reads nitiation) length_Reads (length_apart 105 (λ f. omega arith) (λ f. omega arith) (λ f. omega arith))

initiation_apart : (d : ℕ) → (105 ≡ d → ⊥) → (108 ≡ d → ⊥) → (98 ≡ d → ⊥) → (97 ≡ d → ⊥) → (y : Unit {0} ⊎ (Unit {0} ⊎ (Unit {0} ⊎ Unit {0}))) (u v : List ℕ) → IsInitiation y → initiation_word y ++ u ≡ d ∷ v → ⊥
initiation_apart d n105 n108 n98 n97 (inl t) u v w e = other_byte 105 d _ v n105 e
initiation_apart d n105 n108 n98 n97 (inr y) u v w e = length_apart d n108 n98 n97 y u v w e

abbrev deep_word : Unit {0} ⊎ (Unit {0} ⊎ (Unit {0} ⊎ (Unit {0} ⊎ Unit {0}))) → List ℕ
deep_word = one_text 100 (λ _. eep) initiation_word

abbrev IsDeep : Unit {0} ⊎ (Unit {0} ⊎ (Unit {0} ⊎ (Unit {0} ⊎ Unit {0}))) → Type 0
IsDeep = IsOne IsUnit IsInitiation

abbrev deep_at : Reader (Unit {0} ⊎ (Unit {0} ⊎ (Unit {0} ⊎ (Unit {0} ⊎ Unit {0}))))
deep_at = choice 100 (fixed eep) initiation_at

deep_Reads : Reads deep_word IsDeep NoByte deep_at
deep_Reads = choice_Reads 100 (fixed_Reads eep) initiation_Reads (initiation_apart 100 (λ f. omega arith) (λ f. omega arith) (λ f. omega arith) (λ f. omega arith))

deep_apart : (d : ℕ) → (100 ≡ d → ⊥) → (105 ≡ d → ⊥) → (108 ≡ d → ⊥) → (98 ≡ d → ⊥) → (97 ≡ d → ⊥) → (y : Unit {0} ⊎ (Unit {0} ⊎ (Unit {0} ⊎ (Unit {0} ⊎ Unit {0})))) (u v : List ℕ) → IsDeep y → deep_word y ++ u ≡ d ∷ v → ⊥
deep_apart d n100 n105 n108 n98 n97 (inl t) u v w e = other_byte 100 d _ v n100 e
deep_apart d n100 n105 n108 n98 n97 (inr y) u v w e = initiation_apart d n105 n108 n98 n97 y u v w e

abbrev zero_word : Unit {0} ⊎ (Unit {0} ⊎ (Unit {0} ⊎ (Unit {0} ⊎ (Unit {0} ⊎ Unit {0})))) → List ℕ
zero_word = one_text 122 (λ _. ero) deep_word

abbrev IsZero : Unit {0} ⊎ (Unit {0} ⊎ (Unit {0} ⊎ (Unit {0} ⊎ (Unit {0} ⊎ Unit {0})))) → Type 0
IsZero = IsOne IsUnit IsDeep

abbrev zero_at : Reader (Unit {0} ⊎ (Unit {0} ⊎ (Unit {0} ⊎ (Unit {0} ⊎ (Unit {0} ⊎ Unit {0})))))
zero_at = choice 122 (fixed ero) deep_at

zero_Reads : Reads zero_word IsZero NoByte zero_at
zero_Reads = choice_Reads 122 (fixed_Reads ero) deep_Reads (deep_apart 122 (λ f. omega arith) (λ f. omega arith) (λ f. omega arith) (λ f. omega arith) (λ f. omega arith))

zero_apart : (d : ℕ) → (122 ≡ d → ⊥) → (100 ≡ d → ⊥) → (105 ≡ d → ⊥) → (108 ≡ d → ⊥) → (98 ≡ d → ⊥) → (97 ≡ d → ⊥) → (y : Unit {0} ⊎ (Unit {0} ⊎ (Unit {0} ⊎ (Unit {0} ⊎ (Unit {0} ⊎ Unit {0}))))) (u v : List ℕ) → IsZero y → zero_word y ++ u ≡ d ∷ v → ⊥
zero_apart d n122 n100 n105 n108 n98 n97 (inl t) u v w e = other_byte 122 d _ v n122 e
zero_apart d n122 n100 n105 n108 n98 n97 (inr y) u v w e = deep_apart d n100 n105 n108 n98 n97 y u v w e

abbrev overflow_word : Unit {0} ⊎ (Unit {0} ⊎ (Unit {0} ⊎ (Unit {0} ⊎ (Unit {0} ⊎ (Unit {0} ⊎ Unit {0}))))) → List ℕ
overflow_word = one_text 111 (λ _. verflow) zero_word

abbrev IsOverflow : Unit {0} ⊎ (Unit {0} ⊎ (Unit {0} ⊎ (Unit {0} ⊎ (Unit {0} ⊎ (Unit {0} ⊎ Unit {0}))))) → Type 0
IsOverflow = IsOne IsUnit IsZero

abbrev overflow_at : Reader (Unit {0} ⊎ (Unit {0} ⊎ (Unit {0} ⊎ (Unit {0} ⊎ (Unit {0} ⊎ (Unit {0} ⊎ Unit {0}))))))
overflow_at = choice 111 (fixed verflow) zero_at

overflow_Reads : Reads overflow_word IsOverflow NoByte overflow_at
overflow_Reads = choice_Reads 111 (fixed_Reads verflow) zero_Reads (zero_apart 111 (λ f. omega arith) (λ f. omega arith) (λ f. omega arith) (λ f. omega arith) (λ f. omega arith) (λ f. omega arith))

overflow_apart : (d : ℕ) → (111 ≡ d → ⊥) → (122 ≡ d → ⊥) → (100 ≡ d → ⊥) → (105 ≡ d → ⊥) → (108 ≡ d → ⊥) → (98 ≡ d → ⊥) → (97 ≡ d → ⊥) → (y : Unit {0} ⊎ (Unit {0} ⊎ (Unit {0} ⊎ (Unit {0} ⊎ (Unit {0} ⊎ (Unit {0} ⊎ Unit {0})))))) (u v : List ℕ) → IsOverflow y → overflow_word y ++ u ≡ d ∷ v → ⊥
overflow_apart d n111 n122 n100 n105 n108 n98 n97 (inl t) u v w e = other_byte 111 d _ v n111 e
overflow_apart d n111 n122 n100 n105 n108 n98 n97 (inr y) u v w e = zero_apart d n122 n100 n105 n108 n98 n97 y u v w e

abbrev kind_word : Unit {0} ⊎ (Unit {0} ⊎ (Unit {0} ⊎ (Unit {0} ⊎ (Unit {0} ⊎ (Unit {0} ⊎ (Unit {0} ⊎ Unit {0})))))) → List ℕ
kind_word = one_text 107 (λ _. ind) overflow_word

abbrev IsKind : Unit {0} ⊎ (Unit {0} ⊎ (Unit {0} ⊎ (Unit {0} ⊎ (Unit {0} ⊎ (Unit {0} ⊎ (Unit {0} ⊎ Unit {0})))))) → Type 0
IsKind = IsOne IsUnit IsOverflow

abbrev kind_word_at : Reader (Unit {0} ⊎ (Unit {0} ⊎ (Unit {0} ⊎ (Unit {0} ⊎ (Unit {0} ⊎ (Unit {0} ⊎ (Unit {0} ⊎ Unit {0})))))))
kind_word_at = choice 107 (fixed ind) overflow_at

spelled_kind_Reads : Reads kind_word IsKind NoByte kind_word_at
spelled_kind_Reads = choice_Reads 107 (fixed_Reads ind) overflow_Reads (overflow_apart 107 (λ f. omega arith) (λ f. omega arith) (λ f. omega arith) (λ f. omega arith) (λ f. omega arith) (λ f. omega arith) (λ f. omega arith))

abbrev word_of_kind : FaultKind → OneOfEight
word_of_kind kinds.Kind = inl tt
word_of_kind kinds.Overflow = inr (inl tt)
word_of_kind kinds.Zero = inr (inr (inl tt))
word_of_kind kinds.Deep = inr (inr (inr (inl tt)))
word_of_kind kinds.Initiation = inr (inr (inr (inr (inl tt))))
word_of_kind kinds.Length = inr (inr (inr (inr (inr (inl tt)))))
word_of_kind kinds.Bounds = inr (inr (inr (inr (inr (inr (inl tt))))))
word_of_kind kinds.Arity = inr (inr (inr (inr (inr (inr (inr tt))))))

kind_spelled : (x : OneOfEight) → IsKind x → fault_kind_text (kind_of x) ≡ kind_word x
kind_spelled (inl t) v = refl
kind_spelled (inr (inl t)) v = refl
kind_spelled (inr (inr (inl t))) v = refl
kind_spelled (inr (inr (inr (inl t)))) v = refl
kind_spelled (inr (inr (inr (inr (inl t))))) v = refl
kind_spelled (inr (inr (inr (inr (inr (inl t)))))) v = refl
kind_spelled (inr (inr (inr (inr (inr (inr (inl t))))))) v = refl
kind_spelled (inr (inr (inr (inr (inr (inr (inr t))))))) v = refl

kind_back : (k : FaultKind) → IsKind (word_of_kind k)
kind_back kinds.Kind = refl
kind_back kinds.Overflow = refl
kind_back kinds.Zero = refl
kind_back kinds.Deep = refl
kind_back kinds.Initiation = refl
kind_back kinds.Length = refl
kind_back kinds.Bounds = refl
kind_back kinds.Arity = refl

kind_again : (k : FaultKind) → kind_of (word_of_kind k) ≡ k
kind_again kinds.Kind = refl
kind_again kinds.Overflow = refl
kind_again kinds.Zero = refl
kind_again kinds.Deep = refl
kind_again kinds.Initiation = refl
kind_again kinds.Length = refl
kind_again kinds.Bounds = refl
kind_again kinds.Arity = refl

abbrev Always : FaultKind → Type 0
Always _ = Unit {0}

pub kind_Reads : Reads fault_kind_text Always NoByte kind_at
kind_Reads =
    mapped_Reads spelled_kind_Reads {f = kind_of} {g = word_of_kind} (record { there = λ x v. tt; spelled = kind_spelled; back = λ k v. kind_back k; again = λ k v. kind_again k })

-- behind the letters

space_is_no_digit : (c : ℕ) (t u : List ℕ) → IsDigit c → 32 ∷ t ≡ c ∷ u → ⊥
space_is_no_digit c t u m e = no_digit 32 c t u (omega arith) m e

abbrev token_word : Activity × (ℕ × Value) → List ℕ
token_word t = 32 ∷ after name_text (λ _. λ (r : ℕ × Value). 32 ∷ after decimal (λ _ v. 32 ∷ value_text v) r) t

abbrev IsTokenWord : Activity × (ℕ × Value) → Type 0
IsTokenWord = AreBoth IsName (λ _. AreBoth (λ n. IsBetween 1 n most_ports) (λ _. IsValue))

token_Reads : Reads token_word IsTokenWord IsBlockByte token_at
token_Reads =
    lead_Reads 32
    (both_Reads name_steps_Reads (λ _ _. lead_Reads 32 (both_Reads port_Reads (λ _ _. lead_Reads 32 value_Reads) (λ x y c r u v w m e. m))) (λ x y c r u v w m e. space_is_no_digit c _ u m e))

abbrev write_word : CellOf × (Activity × Value) → List ℕ
write_word t = 32 ∷ after cell_text (λ _. λ (r : Activity × Value). 32 ∷ after name_text (λ _ v. 32 ∷ value_text v) r) t

abbrev IsWriteWord : CellOf × (Activity × Value) → Type 0
IsWriteWord = AreBoth IsCellText (λ _. AreBoth IsName (λ _. IsValue))

write_Reads : Reads write_word IsWriteWord IsBlockByte write_at
write_Reads =
    lead_Reads 32
    (both_Reads cell_Reads (λ _ _. lead_Reads 32 (both_Reads name_steps_Reads (λ _ _. lead_Reads 32 value_Reads) (λ x y c r u v w m e. space_is_no_digit c _ u m e))) (λ x y c r u v w m e. m))

abbrev fault_word : Activity × FaultKind → List ℕ
fault_word t = 32 ∷ after name_text (λ _ k. 32 ∷ fault_kind_text k) t

abbrev IsFaultWord : Activity × FaultKind → Type 0
IsFaultWord = AreBoth IsName (λ _. Always)

fault_Reads : Reads fault_word IsFaultWord IsBlockByte fault_at
fault_Reads = widened (λ c n. absurd n) (lead_Reads 32 (both_Reads name_steps_Reads (λ _ _. lead_Reads 32 kind_Reads) (λ x y c r u v w m e. space_is_no_digit c _ u m e)))

-- entries

abbrev OtherThanWrite : Type 0
OtherThanWrite = (Activity × FaultKind) ⊎ Value

abbrev OtherThanToken : Type 0
OtherThanToken = (CellOf × (Activity × Value)) ⊎ OtherThanWrite

abbrev answer_word : Value → List ℕ
answer_word v = 97 ∷ (32 ∷ value_text v)

abbrev other_than_write_word : OtherThanWrite → List ℕ
other_than_write_word = one_text 120 fault_word answer_word

abbrev IsOtherThanWrite : OtherThanWrite → Type 0
IsOtherThanWrite = IsOne IsFaultWord IsValue

abbrev other_than_token_word : OtherThanToken → List ℕ
other_than_token_word = one_text 119 write_word other_than_write_word

abbrev IsOtherThanToken : OtherThanToken → Type 0
IsOtherThanToken = IsOne IsWriteWord IsOtherThanWrite

abbrev any_word : Read → List ℕ
any_word = one_text 116 token_word other_than_token_word

abbrev IsAny : Read → Type 0
IsAny = IsOne IsTokenWord IsOtherThanToken

abbrev other_than_write_at : Reader OtherThanWrite
other_than_write_at = choice 120 fault_at answer_at

abbrev other_than_token_at : Reader OtherThanToken
other_than_token_at = choice 119 write_at other_than_write_at

other_than_write_Reads : Reads other_than_write_word IsOtherThanWrite IsBlockByte other_than_write_at
other_than_write_Reads = choice_Reads 120 fault_Reads (lead_Reads 97 (lead_Reads 32 value_Reads)) (λ y u v w e. other_byte 97 120 _ v (λ f. omega arith) e)

other_than_write_apart : (y : OtherThanWrite) (u v : List ℕ) → IsOtherThanWrite y → other_than_write_word y ++ u ≡ 119 ∷ v → ⊥
other_than_write_apart (inl f) u v w e = other_byte 120 119 _ v (λ f. omega arith) e
other_than_write_apart (inr a) u v w e = other_byte 97 119 _ v (λ f. omega arith) e

other_than_token_Reads : Reads other_than_token_word IsOtherThanToken IsBlockByte other_than_token_at
other_than_token_Reads = choice_Reads 119 write_Reads other_than_write_Reads other_than_write_apart

other_than_token_apart : (y : OtherThanToken) (u v : List ℕ) → IsOtherThanToken y → other_than_token_word y ++ u ≡ 116 ∷ v → ⊥
other_than_token_apart (inl f) u v w e = other_byte 119 116 _ v (λ f. omega arith) e
other_than_token_apart (inr (inl f)) u v w e = other_byte 120 116 _ v (λ f. omega arith) e
other_than_token_apart (inr (inr a)) u v w e = other_byte 97 116 _ v (λ f. omega arith) e

abbrev read_of : Entry → Read
read_of (entries.Token t) = inl (t.activity, (t.port, t.value))
read_of (entries.Write w) = inr (inl (w.cell, (w.writer, w.value)))
read_of (entries.Fault f) = inr (inr (inl (f.activity, f.kind)))
read_of (entries.Answer v) = inr (inr (inr v))

there : (x : Read) → IsAny x → IsEntry (entry_of x)
there (inl t) v = (v.0, v.1.0, v.1.1)
there (inr (inl w)) v = (v.0.0, v.0.1, v.1.0, v.1.1)
there (inr (inr (inl f))) v = v.0
there (inr (inr (inr a))) v = v

spelled : (x : Read) → IsAny x → entry_text (entry_of x) ≡ any_word x
unfolding entry_text
spelled (inl t) v = refl
spelled (inr (inl w)) v = refl
spelled (inr (inr (inl f))) v = refl
spelled (inr (inr (inr a))) v = refl

back : (x : Entry) → IsEntry x → IsAny (read_of x)
back (entries.Token t) v = (v.0, (v.1, v.2))
back (entries.Write w) v = ((v.0, v.1), (v.2, v.3))
back (entries.Fault f) v = (v, tt)
back (entries.Answer a) v = v

again : (x : Entry) → IsEntry x → entry_of (read_of x) ≡ x
again (entries.Token t) v = refl
again (entries.Write w) v = refl
again (entries.Fault f) v = refl
again (entries.Answer a) v = refl

pub entry_Reads : Reads entry_text IsEntry IsBlockByte entry_at
unfolding entry_at
entry_Reads = mapped_Reads (choice_Reads 116 token_Reads other_than_token_Reads other_than_token_apart) {f = entry_of} {g = read_of} (record { there = there; spelled = spelled; back = back; again = again })

-- what reading an entry answers

pub entry_whole : (bytes : List ℕ) (entry : Entry) (rest : List ℕ) → entry_at bytes ≡ Ok (entry, rest) → length rest ≡ 0 → IsEntryOf bytes entry
entry_whole = whole_read entry_Reads

pub entry_left_over : (bytes : List ℕ) (entry : Entry) (rest : List ℕ) → entry_at bytes ≡ Ok (entry, rest) → 0 < length rest → IsEntryErrorOf bytes (BadText (length bytes - length rest))
entry_left_over = left_over entry_Reads

pub entry_refused_whole : (bytes rest : List ℕ) → entry_at bytes ≡ Err rest → IsEntryErrorOf bytes (BadText (length bytes - length rest))
entry_refused_whole = refused_whole entry_Reads

pub entry_left_within : (bytes : List ℕ) (entry : Entry) (rest : List ℕ) → entry_at bytes ≡ Ok (entry, rest) → length rest ≤ length bytes
entry_left_within = read_within entry_Reads

pub entry_refused_within : (bytes rest : List ℕ) → entry_at bytes ≡ Err rest → length rest ≤ length bytes
entry_refused_within = refused_within entry_Reads
