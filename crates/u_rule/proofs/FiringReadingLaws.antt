-- The reader of firings reads a firing's line, its text and a newline.
use Rattle.std.specs.Prelude.{◌≡◌, ℕ, ◌-◌, ◌<◌, ◌≤◌, zero, suc, List, [], ◌∷◌, ◌++◌, Option, Some, None, length, false, Ok, Err, refl}
use Rattle.std.proofs.Common.{sym, ◌∙◌, ap, subst, inl, inr, arith, append_assoc}
use Rattle.std.proofs.lemmas.Bool.{false≢true}
use Rattle.u_base.proofs.ReaderLaws.{Reads}
use Rattle.u_base.proofs.PartsLaws.{NoByte, empty_Reads, lead_Reads}
use Rattle.u_base.specs.Parts.{lead}
use Rattle.u_base.proofs.ThenLaws.{after, both_Reads}
use Rattle.u_base.specs.Then.{AreBoth, both}
use Rattle.u_base.proofs.ChoiceLaws.{mapped_Reads, choice_Reads, one_text}
use Rattle.u_base.specs.Choice.{IsOne}
use Rattle.u_base.proofs.NumberLaws.{IsDigit}
use Rattle.u_base.specs.Fixed.{IsUnit}
use Rattle.u_base.proofs.FixedLaws.{fixed_Reads}
use Rattle.u_base.proofs.TextAtLaws.{refused_within}
use Rattle.u_name.proofs.BlockTextLaws.{IsBlockByte}
use Rattle.u_name.specs.Name.{Activity, IsName}
use Rattle.u_name.specs.NameText.{name_text}
use Rattle.u_name.specs.NameReader.{name_steps}
use Rattle.u_name.proofs.NameReaderLaws.{name_steps_Reads}
use Rattle.u_value.specs.Values.{value_text}
use Rattle.u_value.specs.Reading.{IsValue, value_at}
use Rattle.u_value.proofs.ReadingLaws.{value_Reads}
use Rattle.u_value.specs.declared.value.Value.{Value}
use Rattle.u_value.specs.declared.value.Value.TheVariants as values
use Rattle.u_rule.proofs.EndedLaws.{ended_whole, ended_left_over, ended_refused, ended_refused_behind, ended_left_within}
use Rattle.u_rule.specs.EntryOrder.{firing}
use Rattle.u_rule.specs.FiringText.{values_text, written_text, firing_text}
use Rattle.u_rule.specs.FiringReading.{AreValues, IsWritten, IsFiring, line, By, by_at, Tail, tail_at, written_by, more_values, values_of, write_in, firing_of, firing_at, IsFiringOf, IsFiringErrorOf}
use Rattle.u_rule.specs.declared.firing.Firing.{Firing}
use Rattle.u_rule.specs.declared.parts.Written.{Written}
use Rattle.u_rule.specs.declared.reading.TextError.TheVariants.{BadText}

-- what the bytes between the parts are not

space_is_no_digit : (c : ℕ) (t u : List ℕ) → IsDigit c → 32 ∷ t ≡ c ∷ u → ⊥
space_is_no_digit c t u m e = let f : 32 ≡ c = cc in omega (arith, m.0)

space_goes_on_in_no_block : (c : ℕ) → IsBlockByte c → 32 ≡ c → ⊥
space_goes_on_in_no_block c m e = false≢true (subst IsBlockByte (sym e) m)

newline_goes_on_in_no_block : (c : ℕ) → IsBlockByte c → 10 ≡ c → ⊥
newline_goes_on_in_no_block c m e = false≢true (subst IsBlockByte (sym e) m)

head_is : (c d : ℕ) (t u : List ℕ) → c ∷ t ≡ d ∷ u → c ≡ d
head_is c d t u e = cc

-- no value begins with `b`
refused_at_b : (w : List ℕ) → value_at (98 ∷ w) ≡ Err (98 ∷ w)
unfolding value_at
refused_at_b w = refl

no_value_behind_b : (v : Value) (u w : List ℕ) → IsValue v → value_text v ++ u ≡ 98 ∷ w → ⊥
no_value_behind_b v u w k e = value_Reads.none (98 ∷ w) (98 ∷ w) (refused_at_b w) v u k (sym e)

-- the write

abbrev by_word : By → List ℕ
by_word b = 121 ∷ (32 ∷ after name_text (λ _. λ (r : Value × Unit {0}). 32 ∷ after value_text (λ _ _. 10 ∷ []) r) b)

abbrev IsByWord : By → Type 0
IsByWord = AreBoth IsName (λ _. AreBoth IsValue (λ _. IsUnit))

by_Reads : Reads by_word IsByWord NoByte by_at
by_Reads =
    lead_Reads 121
    (lead_Reads 32
    (both_Reads name_steps_Reads
    (λ _ _. lead_Reads 32 (both_Reads value_Reads (λ _ _. fixed_Reads (10 ∷ [])) (λ x y c r u v w m e. newline_goes_on_in_no_block c m (head_is 10 c _ u e))))
    (λ x y c r u v w m e. space_is_no_digit c _ u m e)))

-- what stands behind a value

abbrev tail_word : (k : ℕ) → Tail k → List ℕ
tail_word zero = one_text 10 (λ _. []) (λ b. 32 ∷ (98 ∷ by_word b))
tail_word (suc k) = one_text 10 (λ _. []) (λ z. 32 ∷ one_text 98 by_word (after value_text (λ _. tail_word k)) z)

abbrev IsTailWord : (k : ℕ) → Tail k → Type 0
IsTailWord zero = IsOne IsUnit IsByWord
IsTailWord (suc k) = IsOne IsUnit (IsOne IsByWord (AreBoth IsValue (λ _. IsTailWord k)))

tail_goes_on_in_no_block : (k : ℕ) (y : Tail k) (c : ℕ) (r u : List ℕ) → IsBlockByte c → tail_word k y ++ r ≡ c ∷ u → ⊥
tail_goes_on_in_no_block zero (inl t) c r u m e = newline_goes_on_in_no_block c m (head_is 10 c _ u e)
tail_goes_on_in_no_block zero (inr b) c r u m e = space_goes_on_in_no_block c m (head_is 32 c _ u e)
tail_goes_on_in_no_block (suc k) (inl t) c r u m e = newline_goes_on_in_no_block c m (head_is 10 c _ u e)
tail_goes_on_in_no_block (suc k) (inr z) c r u m e = space_goes_on_in_no_block c m (head_is 32 c _ u e)

space_is_no_newline : (t v : List ℕ) → 32 ∷ t ≡ 10 ∷ v → ⊥
space_is_no_newline t v e = omega (arith, head_is 32 10 t v e)

tail_Reads : (k : ℕ) → Reads (tail_word k) (IsTailWord k) NoByte (tail_at k)
unfolding tail_at
tail_Reads zero = choice_Reads 10 (empty_Reads tt) (lead_Reads 32 (lead_Reads 98 by_Reads)) (λ y u v w e. space_is_no_newline _ v e)
tail_Reads (suc k) =
    choice_Reads 10 (empty_Reads tt)
    (lead_Reads 32
    (choice_Reads 98 by_Reads (both_Reads value_Reads (λ _ _. tail_Reads k) (λ x y c r u v w m e. tail_goes_on_in_no_block k y c r u m e))
    (λ y u v w e. no_value_behind_b y.0 (tail_word k y.1 ++ u) v w.0 (sym (append_assoc (value_text y.0) (tail_word k y.1) u) ∙ e))))
    (λ y u v w e. space_is_no_newline _ v e)

-- the line

abbrev Line : Type 0
Line = Activity × (Value × Tail more_values)

abbrev line_word : Line → List ℕ
line_word t = 102 ∷ (32 ∷ after name_text (λ _. λ (r : Value × Tail more_values). 32 ∷ after value_text (λ _. tail_word more_values) r) t)

abbrev IsLineWord : Line → Type 0
IsLineWord = AreBoth IsName (λ _. AreBoth IsValue (λ _. IsTailWord more_values))

line_Reads : Reads line_word IsLineWord NoByte (lead 102 (lead 32 (both name_steps (λ _. lead 32 (both value_at (λ _. tail_at more_values))))))
line_Reads =
    lead_Reads 102
    (lead_Reads 32
    (both_Reads name_steps_Reads
    (λ _ _. lead_Reads 32 (both_Reads value_Reads (λ _ _. tail_Reads more_values) (λ x y c r u v w m e. tail_goes_on_in_no_block more_values y c r u m e)))
    (λ x y c r u v w m e. space_is_no_digit c _ u m e)))

-- from what is read to the firing

few_values : (k : ℕ) (t : Tail k) → length (values_of k t) ≤ k
few_values zero t = omega arith
few_values (suc k) (inl t) = omega arith
few_values (suc k) (inr (inl b)) = omega arith
few_values (suc k) (inr (inr p)) = omega (arith, few_values k p.1)

fine_values : (k : ℕ) (t : Tail k) → IsTailWord k t → AreValues (values_of k t)
fine_values zero t v = tt
fine_values (suc k) (inl t) v = tt
fine_values (suc k) (inr (inl b)) v = tt
fine_values (suc k) (inr (inr p)) v = (v.0, fine_values k p.1 v.1)

fine_write : (k : ℕ) (t : Tail k) → IsTailWord k t → IsWritten (write_in k t)
fine_write zero (inl t) v = tt
fine_write zero (inr b) v = (v.0, v.1.0)
fine_write (suc k) (inl t) v = tt
fine_write (suc k) (inr (inl b)) v = (v.0, v.1.0)
fine_write (suc k) (inr (inr p)) v = fine_write k p.1 v.1

there : (x : Line) → IsLineWord x → IsFiring (firing_of x)
there x v = (v.0, record { count = (omega arith, omega (arith, few_values more_values x.1.1)) }, (v.1.0, fine_values more_values x.1.1 v.1.1), fine_write more_values x.1.1 v.1.1)

-- the same bytes

written_by_word : (b : By) → line (written_text (written_by b)) ≡ 32 ∷ (98 ∷ by_word b)
written_by_word b = ap (λ t. 32 ∷ (98 ∷ (121 ∷ (32 ∷ t)))) (append_assoc (name_text b.0) (32 ∷ value_text b.1.0) (10 ∷ []))

tail_spelled : (k : ℕ) (t : Tail k) → line (values_text (values_of k t) ++ written_text (write_in k t)) ≡ tail_word k t
tail_spelled zero (inl t) = refl
tail_spelled zero (inr b) = written_by_word b
tail_spelled (suc k) (inl t) = refl
tail_spelled (suc k) (inr (inl b)) = written_by_word b
tail_spelled (suc k) (inr (inr p)) =
    ap (λ t. 32 ∷ t)
    (ap (λ t. t ++ (10 ∷ [])) (append_assoc (value_text p.0) (values_text (values_of k p.1)) (written_text (write_in k p.1)))
    ∙ append_assoc (value_text p.0) (values_text (values_of k p.1) ++ written_text (write_in k p.1)) (10 ∷ [])
    ∙ ap (λ t. value_text p.0 ++ t) (tail_spelled k p.1))

abbrev firing_line : Firing → List ℕ
firing_line f = line (firing_text f)

spelled : (x : Line) → IsLineWord x → firing_line (firing_of x) ≡ line_word x
unfolding firing_text
spelled x v =
    let rest : List ℕ = values_text (values_of more_values x.1.1) ++ written_text (write_in more_values x.1.1) in
    ap (λ t. 102 ∷ (32 ∷ t))
    (append_assoc (name_text x.0) (values_text (x.1.0 ∷ values_of more_values x.1.1) ++ written_text (write_in more_values x.1.1)) (10 ∷ [])
    ∙ ap (λ t. name_text x.0 ++ (32 ∷ t))
    (ap (λ t. t ++ (10 ∷ [])) (append_assoc (value_text x.1.0) (values_text (values_of more_values x.1.1)) (written_text (write_in more_values x.1.1)))
    ∙ append_assoc (value_text x.1.0) rest (10 ∷ [])
    ∙ ap (λ t. value_text x.1.0 ++ t) (tail_spelled more_values x.1.1)))

-- and back

abbrev by_of : Written → By
by_of w = (w.writer, (w.value, tt))

abbrev tail_of : (k : ℕ) → List Value → Option Written → Tail k
tail_of zero vs None = inl tt
tail_of zero vs (Some w) = inr (by_of w)
tail_of (suc k) [] None = inl tt
tail_of (suc k) [] (Some w) = inr (inl (by_of w))
tail_of (suc k) (v ∷ vs) w = inr (inr (v, tail_of k vs w))

abbrev first_of : List Value → Value
first_of [] = values.Bool false
first_of (v ∷ vs) = v

abbrev others_of : List Value → List Value
others_of [] = []
others_of (v ∷ vs) = vs

abbrev read_of : Firing → Line
read_of f = (f.activity, (first_of f.values, tail_of more_values (others_of f.values) f.write))

tail_back : (k : ℕ) (vs : List Value) (w : Option Written) → AreValues vs → IsWritten w → IsTailWord k (tail_of k vs w)
tail_back zero vs None a b = refl
tail_back zero vs (Some w) a b = (b.0, (b.1, refl))
tail_back (suc k) [] None a b = refl
tail_back (suc k) [] (Some w) a b = (b.0, (b.1, refl))
tail_back (suc k) (v ∷ vs) w a b = (a.0, tail_back k vs w a.1 b)

line_back : (name : Activity) (vs : List Value) (w : Option Written) → IsFiring (firing name vs w) → IsLineWord (read_of (firing name vs w))
line_back name [] w v = absurd (omega (arith, v.1.count.0))
line_back name (x ∷ vs) w v = (v.0, (v.2.0, tail_back more_values vs w v.2.1 v.3))

values_again : (k : ℕ) (vs : List Value) (w : Option Written) → length vs ≤ k → values_of k (tail_of k vs w) ≡ vs
values_again zero [] w h = refl
values_again zero (v ∷ vs) w h = absurd (omega arith)
values_again (suc k) [] None h = refl
values_again (suc k) [] (Some w) h = refl
values_again (suc k) (v ∷ vs) w h = ap (λ t. v ∷ t) (values_again k vs w (omega arith))

write_again : (k : ℕ) (vs : List Value) (w : Option Written) → write_in k (tail_of k vs w) ≡ w
write_again zero vs None = refl
write_again zero vs (Some w) = refl
write_again (suc k) [] None = refl
write_again (suc k) [] (Some w) = refl
write_again (suc k) (v ∷ vs) w = write_again k vs w

line_again : (name : Activity) (vs : List Value) (w : Option Written) → IsFiring (firing name vs w) → firing_of (read_of (firing name vs w)) ≡ firing name vs w
line_again name [] w v = absurd (omega (arith, v.1.count.0))
line_again name (x ∷ vs) w v =
    ap (λ t. firing name (x ∷ t) (write_in more_values (tail_of more_values vs w))) (values_again more_values vs w (omega (arith, v.1.count.1)))
    ∙ ap (λ t. firing name (x ∷ vs) t) (write_again more_values vs w)

pub firing_Reads : Reads firing_line IsFiring NoByte firing_at
unfolding firing_at
firing_Reads =
    mapped_Reads line_Reads {f = firing_of} {g = read_of} (record { there = there; spelled = spelled; back = λ f v. line_back f.activity f.values f.write v; again = λ f v. line_again f.activity f.values f.write v })

-- what reading a firing answers

pub firing_whole : (bytes : List ℕ) (firing : Firing) (rest : List ℕ) → firing_at (line bytes) ≡ Ok (firing, rest) → length rest ≡ 0 → IsFiringOf bytes firing
firing_whole = ended_whole firing_text 10 firing_Reads

pub firing_left_over : (bytes : List ℕ) (firing : Firing) (rest : List ℕ) → firing_at (line bytes) ≡ Ok (firing, rest) → 0 < length rest → IsFiringErrorOf bytes (BadText (length bytes - length rest))
firing_left_over = ended_left_over firing_text 10 firing_Reads

-- where something is left, it begins within the bytes
pub firing_left_within : (bytes : List ℕ) (firing : Firing) (rest : List ℕ) → firing_at (line bytes) ≡ Ok (firing, rest) → length rest ≤ length bytes
firing_left_within = ended_left_within firing_text 10 firing_Reads

-- so much is left where it is refused; behind all the bytes where nothing is
pub firing_refused : (bytes rest : List ℕ) → firing_at (line bytes) ≡ Err rest → 0 < length rest → IsFiringErrorOf bytes (BadText (length (line bytes) - length rest))
firing_refused = ended_refused firing_text 10 firing_Reads

pub firing_refused_behind : (bytes rest : List ℕ) → firing_at (line bytes) ≡ Err rest → length rest ≡ 0 → IsFiringErrorOf bytes (BadText (length bytes))
firing_refused_behind = ended_refused_behind firing_text 10 firing_Reads

pub firing_refused_within : (text rest : List ℕ) → firing_at text ≡ Err rest → length rest ≤ length text
firing_refused_within = refused_within firing_Reads
