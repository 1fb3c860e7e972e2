-- The readers of words read exactly the words of what they read.
use Rattle.std.specs.Prelude.{◌≡◌, ℕ, suc, ◌^◌, ◌≤◌, ◌<◌, Bool, true, false, cond, if◌then◌else◌, List, [], ◌∷◌, ◌++◌, codes, Option, Some, None, refl}
use Rattle.std.specs.List.{AllByRecursion, list_all}
use Rattle.std.proofs.lemmas.Bool.{false≢true, and_parts}
use Rattle.std.proofs.Common.{sym, ◌∙◌, ap, subst, arith, inl, inr}
use Rattle.std.specs.Fmt.{decimal}
use lib.IntN.{ℤ, pos, negsuc}
use Rattle.u_name.specs.Block.{IsBlock}
use Rattle.u_name.proofs.BlockTextLaws.{block_Reads}
use Rattle.u_base.proofs.ReaderLaws.{Reads}
use Rattle.u_base.proofs.PartsLaws.{lead_Reads, alike, unlike, same_or}
use Rattle.u_base.proofs.ThenLaws.{after, both_Reads}
use Rattle.u_base.specs.Then.{AreBoth}
use Rattle.u_base.specs.Number.{IsUpTo}
use Rattle.u_base.proofs.NumberLaws.{IsDigit, AllDigit, number_Reads, decimal_digits}
use Rattle.u_base.specs.WholeWords.{◌then◌, whole, is, number0_word, number_word, signed_word}
use Rattle.u_base.proofs.WholeWordsLaws.{told, then_some, le_cases, whole_sound, whole_complete, number_word_sound, number_word_complete, number0_word_sound, signed_word_sound, signed_word_complete}
use Rattle.std.proofs.lemmas.Option.{same_Some, none-some}
use Rattle.u_program.specs.declared.program.Constant.{Constant}
use Rattle.u_program.specs.declared.program.Constant.TheVariants as constants
use Rattle.u_program.specs.declared.program.Kind.{Kind}
use Rattle.u_program.specs.declared.program.Kind.TheVariants.{Const, Unary, Binary, Enter, Apply, Ask, Param}
use Rattle.u_program.specs.declared.program.Version.{Version}
use Rattle.u_program.specs.declared.program.Version.TheVariants as versions
use Rattle.u_program.specs.declared.program.Arguments.{Arguments}
use Rattle.u_program.specs.declared.program.Arguments.TheVariants as arguments
use Rattle.u_program.specs.declared.program.Parameter.{Parameter}
use Rattle.u_program.specs.declared.program.Parameter.TheVariants as parameters
use Rattle.u_value.specs.declared.operators.UnaryOperator.TheVariants.{Not}
use Rattle.u_value.specs.declared.operators.BinaryOperator.TheVariants.{And}
use Rattle.u_program.specs.declared.program.Destination.{Destination}
use Rattle.u_program.specs.Limits.{IsConstant, IsKind, HasKind, HasCount, IsDestination, greatest_port}
use Rattle.u_program.specs.Text.{arrow, kind_word, plain_kinds, has_argument, constant_word, count_word, place_word, count_words, argument_words, destination_word}
use Rattle.u_program.specs.Reading.{Words, name_word, dot_at, ported, destination_at, other_constant, constant_at, kind_among, const_at, enter_at, arguments_at, parameter_at, count_at, apply_at, param_at, plain_at, kind_of, kind_at, arrow_at}

pub name_word_sound : (w name : List ℕ) → name_word w ≡ Some name → IsBlock name × (w ≡ name)
unfolding name_word
name_word_sound w name h = whole_sound block_Reads w name h

pub name_word_complete : (name : List ℕ) → IsBlock name → name_word name ≡ Some name
unfolding name_word
name_word_complete name v = whole_complete block_Reads name v

pub name_word_none : (w : List ℕ) → (IsBlock w → ⊥) → name_word w ≡ None
name_word_none w n = at (name_word w) refl
  where
    at : (r : Option (List ℕ)) → name_word w ≡ r → r ≡ None
    at None h = refl
    at (Some name) h = let s = name_word_sound w name h in absurd (n (subst IsBlock (sym s.1) s.0))

no_dot : (c : ℕ) (t u : List ℕ) → IsDigit c → 46 ∷ t ≡ c ∷ u → ⊥
no_dot c t u m e = let f : 46 ≡ c = cc in omega (arith, m.0)

abbrev dot_text : ℕ × ℕ → List ℕ
dot_text d = decimal d.0 ++ (46 ∷ decimal d.1)

dot_Reads : Reads (after decimal (λ _ i. 46 ∷ decimal i)) (AreBoth (IsUpTo 999) (λ _. IsUpTo 9)) IsDigit dot_at
dot_Reads = both_Reads (number_Reads 999 (omega arith) (omega arith)) (λ _ _. lead_Reads 46 (number_Reads 9 (omega arith) (omega arith))) (λ x y c r u v w m e. no_dot c _ u m e)

few_ports : (version : Version) → greatest_port version ≤ 9
few_ports versions.One = omega arith
few_ports versions.Two = omega arith

few_of_all : (version : Version) → greatest_port version ≤ 5
few_of_all versions.One = omega arith
few_of_all versions.Two = omega arith

ported_sound : (version : Version) (z : ℕ × ℕ) (d : Destination) → ported version z ≡ Some d → (z.1 ≤ greatest_port version) × (◌≡◌ {A = Destination} (record { statement = z.0; port = z.1 }) d)
ported_sound version z d h =
    elim (le_cases z.1 (greatest_port version)) [
      | inl a ↦ (a.1, same_Some _ d (ap (λ t. cond t (Some (record { statement = z.0; port = z.1 })) None) (sym a.0) ∙ h))
      | inr a ↦ absurd (none-some d (ap (λ t. cond t (Some (record { statement = z.0; port = z.1 })) None) (sym a.0) ∙ h))
    ]

pub destination_sound : (version : Version) (w : List ℕ) (d : Destination) → destination_at version w ≡ Some d → IsDestination d × (d.port ≤ greatest_port version) × (w ≡ destination_word d)
unfolding destination_at
destination_sound version w d h =
    let a = then_some (whole (dot_at w)) (ported version) d h in
    let s = whole_sound dot_Reads w a.0 a.1 in
    let p = ported_sound version a.0 d a.2 in
    let few = few_of_all version in
    subst (λ (d : Destination). IsDestination d × (d.port ≤ greatest_port version) × (w ≡ destination_word d)) p.1 (record { statement = (s.0.0.0, s.0.0.1); port = (s.0.1.0, omega (arith, p.0, few)) }, p.0, s.1)

pub destination_complete : (version : Version) (d : Destination) → IsDestination d → d.port ≤ greatest_port version → destination_at version (destination_word d) ≡ Some d
unfolding destination_at
destination_complete version d v low =
    let few = few_ports version in
    let c = whole_complete dot_Reads (d.statement, d.port) ((v.statement.0, v.statement.1), (v.port.0, omega (arith, low, few))) in
    ap (λ r. r then ported version) c ∙ elim (le_cases d.port (greatest_port version)) [ inl a ↦ ap (λ t. cond t (Some d) None) a.0 | inr a ↦ absurd (omega (arith, low, a.1)) ]

-- constants

Says : List ℕ → Constant → Type 0
Says w c = IsConstant c × (w ≡ constant_word c)

other_at : Bool → ℕ → List ℕ → Option Constant
other_at b c cs = cond b (name_word cs then λ name. Some (constants.Proc name)) (signed_word (c ∷ cs) then λ n. Some (constants.Int n))

other_sound : (w : List ℕ) (k : Constant) → other_constant w ≡ Some k → Says w k
unfolding Says other_at
other_sound [] k h = absurd (none-some k h)
other_sound (c ∷ cs) k h =
    elim (same_or c 64) [
      | alike e f ↦
          let a = then_some (name_word cs) (λ name. Some (constants.Proc name)) k (ap (λ b. other_at b c cs) (sym f) ∙ h) in
          let s = name_word_sound cs a.0 a.1 in
          subst (λ k. IsConstant k × (c ∷ cs ≡ constant_word k)) (same_Some (constants.Proc a.0) k a.2) (s.0, ap (λ c. c ∷ cs) e ∙ ap (λ t. 64 ∷ t) s.1)
      | unlike e f ↦
          let a = then_some (signed_word (c ∷ cs)) (λ n. Some (constants.Int n)) k (ap (λ b. other_at b c cs) (sym f) ∙ h) in
          let s = signed_word_sound (c ∷ cs) a.0 a.1 in
          subst (λ k. IsConstant k × (c ∷ cs ≡ constant_word k)) (same_Some (constants.Int a.0) k a.2) (s.0, s.1)
    ]

truth_or : Bool → Bool → List ℕ → Option Constant
truth_or a b w = cond a (Some (constants.Bool true)) (cond b (Some (constants.Bool false)) (other_constant w))

truth_sound : (w : List ℕ) (t : Bool) (k : Constant) → w ≡ constant_word (constants.Bool t) → ◌≡◌ {A = Option Constant} (Some (constants.Bool t)) (Some k) → Says w k
unfolding Says
truth_sound w t k e h = subst (λ k. IsConstant k × (w ≡ constant_word k)) (same_Some (constants.Bool t) k h) (tt, e)

pub constant_sound : (w : List ℕ) (k : Constant) → constant_at w ≡ Some k → IsConstant k × (w ≡ constant_word k)
unfolding constant_at Says truth_or
constant_sound w k h =
    elim (told w (codes "true") (is w (codes "true")) refl) [
      | inl a ↦ truth_sound w true k a.1 (ap (λ b. truth_or b (is w (codes "false")) w) (sym a.0) ∙ h)
      | inr a ↦
          let i = ap (λ b. truth_or b (is w (codes "false")) w) (sym a) ∙ h in
          elim (told w (codes "false") (is w (codes "false")) refl) [
            | inl d ↦ truth_sound w false k d.1 (ap (λ b. truth_or false b w) (sym d.0) ∙ i)
            | inr d ↦ other_sound w k (ap (λ b. truth_or false b w) (sym d) ∙ i)
          ]
    ]

-- a number is no truth value and no procedure
number_is_other : (n : ℤ) (ds : List ℕ) → ((t : Bool) → ds ≡ constant_word (constants.Bool t) → ⊥) → ((cs : List ℕ) → ds ≡ 64 ∷ cs → ⊥) → signed_word ds ≡ Some n → constant_at ds ≡ Some (constants.Int n)
unfolding constant_at truth_or other_at signed_word
number_is_other n [] t p h = absurd (none-some n h)
number_is_other n (c ∷ cs) t p h =
    elim (told (c ∷ cs) (codes "true") (is (c ∷ cs) (codes "true")) refl) [
      | inl a ↦ absurd (t true a.1)
      | inr a ↦
          elim (told (c ∷ cs) (codes "false") (is (c ∷ cs) (codes "false")) refl) [
            | inl b ↦ absurd (t false b.1)
            | inr b ↦
                elim (same_or c 64) [
                  | alike e f ↦ absurd (p cs (ap (λ c. c ∷ cs) e))
                  | unlike e f ↦
                      ap (λ t. truth_or t (is (c ∷ cs) (codes "false")) (c ∷ cs)) a
                      ∙ ap (λ t. truth_or false t (c ∷ cs)) b
                      ∙ ap (λ t. other_at t c cs) f
                      ∙ ap (λ r. r then λ n. Some (constants.Int n)) h
                ]
          ]
    ]

no_letter : (ds : List ℕ) (c : ℕ) (cs : List ℕ) → AllDigit ds → 58 ≤ c → ds ≡ c ∷ cs → ⊥
no_letter ds c cs d low e = let f = subst AllDigit e d in omega (arith, f.0.1)

behind_minus : (ds : List ℕ) (c : ℕ) (cs : List ℕ) → 46 ≤ c → 45 ∷ ds ≡ c ∷ cs → ⊥
behind_minus ds c cs low e = let f : 45 ≡ c = cc in omega arith

pub constant_complete : (k : Constant) → IsConstant k → constant_at (constant_word k) ≡ Some k
unfolding constant_at
constant_complete (constants.Bool true) v = refl
constant_complete (constants.Bool false) v = refl
constant_complete (constants.Proc name) v = ap (λ r. r then λ name. Some (constants.Proc name)) (name_word_complete name v)
constant_complete (constants.Int (pos n)) v =
    let b : n < 2 ^ 63 = v.sfits in
    let d = decimal_digits n (omega arith) in
    number_is_other (pos n) (decimal n) (λ t. elim t as (λ t. decimal n ≡ constant_word (constants.Bool t) → ⊥) [ true ↦ λ e. no_letter (decimal n) _ _ d (omega arith) e | false ↦ λ e. no_letter (decimal n) _ _ d (omega arith) e ]) (λ cs e. no_letter (decimal n) 64 cs d (omega arith) e) (signed_word_complete (pos n) v)
constant_complete (constants.Int (negsuc n)) v =
    let ds = decimal (suc n) in
    number_is_other (negsuc n) (45 ∷ ds) (λ t. elim t as (λ t. 45 ∷ ds ≡ constant_word (constants.Bool t) → ⊥) [ true ↦ λ e. behind_minus ds _ _ (omega arith) e | false ↦ λ e. behind_minus ds _ _ (omega arith) e ]) (λ cs e. behind_minus ds 64 cs (omega arith) e) (signed_word_complete (negsuc n) v)

-- kinds

-- a kind without an argument keeps to all limits, in each version
pub plain_is : (version : Version) (k : Kind) → has_argument k ≡ false → IsKind k × HasKind version k × (argument_words version k ≡ [])
plain_is version (Const c) e = absurd (false≢true (sym e))
plain_is version (Enter l) e = absurd (false≢true (sym e))
plain_is version (Apply b n) e = absurd (false≢true (sym e))
plain_is version (Param p) e = absurd (false≢true (sym e))
plain_is version (Ask s n) e = absurd (false≢true (sym e))
plain_is version k e = (tt, tt, refl)

-- each of them is the one that its word says
pub plain_listed : (k : Kind) → has_argument k ≡ false → kind_among plain_kinds (kind_word k) ≡ Some k
unfolding kind_among
plain_listed (Const c) e = absurd (false≢true (sym e))
plain_listed (Enter l) e = absurd (false≢true (sym e))
plain_listed (Apply b n) e = absurd (false≢true (sym e))
plain_listed (Param p) e = absurd (false≢true (sym e))
plain_listed (Ask s n) e = absurd (false≢true (sym e))
plain_listed (Unary Not) e = refl
plain_listed (Binary And) e = refl
plain_listed k e = refl

-- whether none of the kinds has an argument
abbrev pub AreBare : List Kind → Type 0
AreBare = AllByRecursion (λ k. has_argument k ≡ false)

pub plain_are_bare : AreBare plain_kinds
plain_are_bare = bare plain_kinds refl
  where
    bare : (ks : List Kind) → list_all (λ k. if has_argument k then false else true) ks ≡ true → AreBare ks
    bare [] e = tt
    bare (k ∷ ks) e = let a = and_parts _ _ e in (one (has_argument k) a.0, bare ks a.1)
      where
        one : (b : Bool) → (if b then false else true) ≡ true → b ≡ false
        one false e = refl
        one true e = absurd (false≢true e)

among_sound : (ks : List Kind) (w : List ℕ) (k : Kind) → AreBare ks → kind_among ks w ≡ Some k → (has_argument k ≡ false) × (w ≡ kind_word k)
unfolding kind_among
among_sound [] w k v h = absurd (none-some k h)
among_sound (j ∷ ks) w k v h =
    elim (told w (kind_word j) (is w (kind_word j)) refl) [
      | inl a ↦
          let e = same_Some j k (ap (λ b. cond b (Some j) (kind_among ks w)) (sym a.0) ∙ h) in
          subst (λ k. (has_argument k ≡ false) × (w ≡ kind_word k)) e (v.0, a.1)
      | inr a ↦ among_sound ks w k v.1 (ap (λ b. cond b (Some j) (kind_among ks w)) (sym a) ∙ h)
    ]

SaysKind : Version → List ℕ → Words → Kind → Words → Type 0
SaysKind version w ws k rest = IsKind k × HasKind version k × (w ∷ ws ≡ kind_word k ∷ (argument_words version k ++ rest))

module _ (version : Version) where
  const_sound : (w : List ℕ) (ws : Words) (k : Kind) (rest : Words) → w ≡ codes "const" → const_at ws ≡ Some (k, rest) → SaysKind version w ws k rest
  unfolding SaysKind
  const_sound w [] k rest e h = absurd (none-some _ h)
  const_sound w (v ∷ ws) k rest e h =
      let a = then_some (constant_at v) (λ c. Some (Const c, ws)) (k, rest) h in
      let s = constant_sound v a.0 a.1 in
      let o = same_Some (Const a.0, ws) (k, rest) a.2 in
      let f : Const a.0 ≡ k = ap (λ t. t.0) o in
      let g : ws ≡ rest = ap (λ t. t.1) o in
      subst (λ k. IsKind k × HasKind version k × (w ∷ v ∷ ws ≡ kind_word k ∷ (argument_words version k ++ rest))) f
      (s.0, tt, ap (λ w. w ∷ v ∷ ws) e ∙ ap (λ v. codes "const" ∷ v ∷ ws) s.1 ∙ ap (λ ws. codes "const" ∷ constant_word a.0 ∷ ws) g)

  enter_sound : (w : List ℕ) (ws : Words) (k : Kind) (rest : Words) → w ≡ codes "enter" → enter_at ws ≡ Some (k, rest) → SaysKind version w ws k rest
  unfolding SaysKind
  enter_sound w [] k rest e h = absurd (none-some _ h)
  enter_sound w (v ∷ ws) k rest e h =
      let a = then_some (number_word 99 v) (λ l. Some (Enter l, ws)) (k, rest) h in
      let s = number_word_sound 99 v a.0 (omega arith) (omega arith) a.1 in
      let o = same_Some (Enter a.0, ws) (k, rest) a.2 in
      let f : Enter a.0 ≡ k = ap (λ t. t.0) o in
      let g : ws ≡ rest = ap (λ t. t.1) o in
      subst (λ k. IsKind k × HasKind version k × (w ∷ v ∷ ws ≡ kind_word k ∷ (argument_words version k ++ rest))) f
      (s.0, tt, ap (λ w. w ∷ v ∷ ws) e ∙ ap (λ v. codes "enter" ∷ v ∷ ws) s.1 ∙ ap (λ ws. codes "enter" ∷ decimal a.0 ∷ ws) g)

arguments_sound : (w : List ℕ) (n : Arguments) → arguments_at w ≡ Some n → w ≡ count_word n
unfolding arguments_at
arguments_sound w n h =
    elim (told w (codes "1") (is w (codes "1")) refl) [
      | inl a ↦ a.1 ∙ ap count_word (same_Some arguments.One n (ap (λ b. cond b (Some arguments.One) (from_two (is w (codes "2")) (is w (codes "3")) (is w (codes "4")))) (sym a.0) ∙ h))
      | inr a ↦
          let i = ap (λ b. cond b (Some arguments.One) (from_two (is w (codes "2")) (is w (codes "3")) (is w (codes "4")))) (sym a) ∙ h in
          elim (told w (codes "2") (is w (codes "2")) refl) [
            | inl b ↦ b.1 ∙ ap count_word (same_Some arguments.Two n (ap (λ b. from_two b (is w (codes "3")) (is w (codes "4"))) (sym b.0) ∙ i))
            | inr b ↦
                let j = ap (λ b. from_two b (is w (codes "3")) (is w (codes "4"))) (sym b) ∙ i in
                elim (told w (codes "3") (is w (codes "3")) refl) [
                  | inl c ↦ c.1 ∙ ap count_word (same_Some arguments.Three n (ap (λ b. from_three b (is w (codes "4"))) (sym c.0) ∙ j))
                  | inr c ↦
                      let k = ap (λ b. from_three b (is w (codes "4"))) (sym c) ∙ j in
                      elim (told w (codes "4") (is w (codes "4")) refl) [
                        | inl d ↦ d.1 ∙ ap count_word (same_Some arguments.Four n (ap from_four (sym d.0) ∙ k))
                        | inr d ↦ absurd (none-some n (ap from_four (sym d) ∙ k))
                      ]
                ]
          ]
    ]
  where
    from_four : Bool → Option Arguments
    from_four d = cond d (Some arguments.Four) None

    from_three : Bool → Bool → Option Arguments
    from_three c d = cond c (Some arguments.Three) (from_four d)

    from_two : Bool → Bool → Bool → Option Arguments
    from_two b c d = cond b (Some arguments.Two) (from_three c d)

arguments_complete : (n : Arguments) → arguments_at (count_word n) ≡ Some n
unfolding arguments_at
arguments_complete arguments.One = refl
arguments_complete arguments.Two = refl
arguments_complete arguments.Three = refl
arguments_complete arguments.Four = refl

parameter_sound : (w : List ℕ) (p : Parameter) → parameter_at w ≡ Some p → w ≡ place_word p
unfolding parameter_at
parameter_sound w p h =
    elim (told w (codes "2") (is w (codes "2")) refl) [
      | inl a ↦ a.1 ∙ ap place_word (same_Some parameters.Second p (ap (λ b. cond b (Some parameters.Second) (from_third (is w (codes "3")) (is w (codes "4")))) (sym a.0) ∙ h))
      | inr a ↦
          let i = ap (λ b. cond b (Some parameters.Second) (from_third (is w (codes "3")) (is w (codes "4")))) (sym a) ∙ h in
          elim (told w (codes "3") (is w (codes "3")) refl) [
            | inl b ↦ b.1 ∙ ap place_word (same_Some parameters.Third p (ap (λ b. from_third b (is w (codes "4"))) (sym b.0) ∙ i))
            | inr b ↦
                let j = ap (λ b. from_third b (is w (codes "4"))) (sym b) ∙ i in
                elim (told w (codes "4") (is w (codes "4")) refl) [
                  | inl c ↦ c.1 ∙ ap place_word (same_Some parameters.Fourth p (ap from_fourth (sym c.0) ∙ j))
                  | inr c ↦ absurd (none-some p (ap from_fourth (sym c) ∙ j))
                ]
          ]
    ]
  where
    from_fourth : Bool → Option Parameter
    from_fourth d = cond d (Some parameters.Fourth) None

    from_third : Bool → Bool → Option Parameter
    from_third c d = cond c (Some parameters.Third) (from_fourth d)

parameter_complete : (p : Parameter) → parameter_at (place_word p) ≡ Some p
unfolding parameter_at
parameter_complete parameters.Second = refl
parameter_complete parameters.Third = refl
parameter_complete parameters.Fourth = refl

count_sound : (version : Version) (ws : Words) (n : Arguments) (rest : Words) → count_at version ws ≡ Some (n, rest) → HasCount version n × (ws ≡ count_words version n ++ rest)
unfolding count_at
count_sound versions.One ws n rest h = let o = same_Some (arguments.One, ws) (n, rest) h in (sym (ap (λ t. t.0) o), ap (λ t. t.1) o)
count_sound versions.Two [] n rest h = absurd (none-some _ h)
count_sound versions.Two (w ∷ ws) n rest h =
    let a = then_some (arguments_at w) (λ n. Some (n, ws)) (n, rest) h in
    let o = same_Some (a.0, ws) (n, rest) a.2 in
    let e : a.0 ≡ n = ap (λ t. t.0) o in
    let f : ws ≡ rest = ap (λ t. t.1) o in
    (tt, ap (λ w. w ∷ ws) (arguments_sound w a.0 a.1) ∙ ap (λ n. count_word n ∷ ws) e ∙ ap (λ ws. count_word n ∷ ws) f)

count_complete : (version : Version) (n : Arguments) (rest : Words) → HasCount version n → count_at version (count_words version n ++ rest) ≡ Some (n, rest)
unfolding count_at
count_complete versions.One n rest v = ap (λ n. Some (n, rest)) (sym v)
count_complete versions.Two n rest v = ap (λ r. r then λ n. Some (n, rest)) (arguments_complete n)

apply_sound : (version : Version) (w : List ℕ) (ws : Words) (k : Kind) (rest : Words) → w ≡ codes "apply" → apply_at version ws ≡ Some (k, rest) → SaysKind version w ws k rest
unfolding SaysKind
apply_sound version w [] k rest e h = absurd (none-some _ h)
apply_sound version w (v ∷ ws) k rest e h =
    let a = then_some (number_word 999 v) (λ b. count_at version ws then λ n. Some (Apply b n.0, n.1)) (k, rest) h in
    let s = number_word_sound 999 v a.0 (omega arith) (omega arith) a.1 in
    let c = then_some (count_at version ws) (λ n. Some (Apply a.0 n.0, n.1)) (k, rest) a.2 in
    let t = count_sound version ws c.0.0 c.0.1 c.1 in
    let o = same_Some (Apply a.0 c.0.0, c.0.1) (k, rest) c.2 in
    let f : Apply a.0 c.0.0 ≡ k = ap (λ t. t.0) o in
    let g : c.0.1 ≡ rest = ap (λ t. t.1) o in
    subst (λ k. IsKind k × HasKind version k × (w ∷ v ∷ ws ≡ kind_word k ∷ (argument_words version k ++ rest))) f
    (s.0, t.0, ap (λ w. w ∷ v ∷ ws) e ∙ ap (λ v. codes "apply" ∷ v ∷ ws) s.1 ∙ ap (λ ws. codes "apply" ∷ decimal a.0 ∷ ws) t.1 ∙ ap (λ r. codes "apply" ∷ decimal a.0 ∷ (count_words version c.0.0 ++ r)) g)

param_sound : (version : Version) (w : List ℕ) (ws : Words) (k : Kind) (rest : Words) → w ≡ codes "param" → param_at version ws ≡ Some (k, rest) → SaysKind version w ws k rest
unfolding SaysKind param_at
param_sound versions.One w ws k rest e h = absurd (none-some _ h)
param_sound versions.Two w [] k rest e h = absurd (none-some _ h)
param_sound versions.Two w (v ∷ ws) k rest e h =
    let a = then_some (parameter_at v) (λ p. Some (Param p, ws)) (k, rest) h in
    let o = same_Some (Param a.0, ws) (k, rest) a.2 in
    let f : Param a.0 ≡ k = ap (λ t. t.0) o in
    let g : ws ≡ rest = ap (λ t. t.1) o in
    subst (λ k. IsKind k × HasKind versions.Two k × (w ∷ v ∷ ws ≡ kind_word k ∷ (argument_words versions.Two k ++ rest))) f
    (tt, refl, ap (λ w. w ∷ v ∷ ws) e ∙ ap (λ v. codes "param" ∷ v ∷ ws) (parameter_sound v a.0 a.1) ∙ ap (λ ws. codes "param" ∷ place_word a.0 ∷ ws) g)

plain_sound : (version : Version) (w : List ℕ) (ws : Words) (k : Kind) (rest : Words) → plain_at w ws ≡ Some (k, rest) → SaysKind version w ws k rest
unfolding SaysKind
plain_sound version w ws k rest h =
    let a = then_some (kind_among plain_kinds w) (λ k. Some (k, ws)) (k, rest) h in
    let s = among_sound plain_kinds w a.0 plain_are_bare a.1 in
    let p = plain_is version a.0 s.0 in
    let o = same_Some (a.0, ws) (k, rest) a.2 in
    let f : a.0 ≡ k = ap (λ t. t.0) o in
    let g : ws ≡ rest = ap (λ t. t.1) o in
    subst (λ k. IsKind k × HasKind version k × (w ∷ ws ≡ kind_word k ∷ (argument_words version k ++ rest))) f
    (p.0, p.1, ap (λ w. w ∷ ws) s.1 ∙ ap (λ ws. kind_word a.0 ∷ ws) (g ∙ ap (λ l. l ++ rest) (sym p.2)))

module _ (version : Version) (w : List ℕ) (ws : Words) (k : Kind) (rest : Words) where
  abbrev param_or : Bool → Option (Kind × Words)
  param_or d = cond d (param_at version ws) (plain_at w ws)

  abbrev apply_or : Bool → Bool → Option (Kind × Words)
  apply_or c d = cond c (apply_at version ws) (param_or d)

  abbrev enter_or : Bool → Bool → Bool → Option (Kind × Words)
  enter_or b c d = cond b (enter_at ws) (apply_or c d)

  kind_of_sound : kind_of version w ws ≡ Some (k, rest) → SaysKind version w ws k rest
  kind_of_sound h =
      let x = is w (codes "enter") in
      let y = is w (codes "apply") in
      let z = is w (codes "param") in
      elim (told w (codes "const") (is w (codes "const")) refl) [
        | inl a ↦ const_sound version w ws k rest a.1 (ap (λ b. cond b (const_at ws) (enter_or x y z)) (sym a.0) ∙ h)
        | inr a ↦
            let i = ap (λ b. cond b (const_at ws) (enter_or x y z)) (sym a) ∙ h in
            elim (told w (codes "enter") x refl) [
              | inl d ↦ enter_sound version w ws k rest d.1 (ap (λ b. enter_or b y z) (sym d.0) ∙ i)
              | inr d ↦
                  let j = ap (λ b. enter_or b y z) (sym d) ∙ i in
                  elim (told w (codes "apply") y refl) [
                    | inl f ↦ apply_sound version w ws k rest f.1 (ap (λ b. apply_or b z) (sym f.0) ∙ j)
                    | inr f ↦
                        let l = ap (λ b. apply_or b z) (sym f) ∙ j in
                        elim (told w (codes "param") z refl) [
                          | inl g ↦ param_sound version w ws k rest g.1 (ap param_or (sym g.0) ∙ l)
                          | inr g ↦ plain_sound version w ws k rest (ap param_or (sym g) ∙ l)
                        ]
                  ]
            ]
      ]

pub kind_sound : (version : Version) (ws : Words) (k : Kind) (rest : Words) → kind_at version ws ≡ Some (k, rest) → IsKind k × HasKind version k × (ws ≡ kind_word k ∷ (argument_words version k ++ rest))
unfolding kind_at SaysKind
kind_sound version [] k rest h = absurd (none-some _ h)
kind_sound version (w ∷ ws) k rest h = kind_of_sound version w ws k rest h

pub kind_complete : (version : Version) (k : Kind) (rest : Words) → IsKind k → HasKind version k → kind_at version (kind_word k ∷ (argument_words version k ++ rest)) ≡ Some (k, rest)
unfolding kind_at kind_among param_at
kind_complete version (Const c) rest v h = ap (λ r. r then λ c. Some (Const c, rest)) (constant_complete c v)
kind_complete version (Enter l) rest v h = ap (λ r. r then λ l. Some (Enter l, rest)) (number_word_complete 99 l (omega arith) (omega arith) v)
kind_complete version (Apply b n) rest v h =
    ap (λ r. r then λ b. count_at version (count_words version n ++ rest) then λ n. Some (Apply b n.0, n.1)) (number_word_complete 999 b (omega arith) (omega arith) v)
    ∙ ap (λ r. r then λ n. Some (Apply b n.0, n.1)) (count_complete version n rest h)
kind_complete versions.One (Param p) rest v h = absurd (other h)
  where
    other : versions.One ≡ versions.Two → ⊥
    other e = cc
kind_complete versions.Two (Param p) rest v h = ap (λ r. r then λ p. Some (Param p, rest)) (parameter_complete p)
kind_complete version (Ask s n) rest v h = absurd h
kind_complete version (Unary Not) rest v h = refl
kind_complete version (Binary And) rest v h = refl
kind_complete version k rest v h = refl

pub arrow_sound : (ws : Words) (u : Unit {0}) (rest : Words) → arrow_at ws ≡ Some (u, rest) → ws ≡ arrow ∷ rest
unfolding arrow_at
arrow_sound [] u rest h = absurd (none-some _ h)
arrow_sound (w ∷ ws) u rest h =
    elim (told w arrow (is w arrow) refl) [
      | inl a ↦
          let o = same_Some (tt, ws) (u, rest) (ap (λ b. cond b (Some (tt, ws)) None) (sym a.0) ∙ h) in
          ap (λ w. w ∷ ws) a.1 ∙ ap (λ ws. arrow ∷ ws) (ap (λ t. t.1) o)
      | inr a ↦ absurd (none-some _ (ap (λ b. cond b (Some (tt, ws)) None) (sym a) ∙ h))
    ]

-- bounds of numbers

pub region_bound : (w : List ℕ) (n : ℕ) → number0_word 99 w ≡ Some n → n ≤ 99
region_bound w n h = (number0_word_sound 99 w n (omega arith) (omega arith) h).0

pub loop_bound : (w : List ℕ) (n : ℕ) → number_word 99 w ≡ Some n → n ≤ 99
loop_bound w n h = (number_word_sound 99 w n (omega arith) (omega arith) h).0.1

pub back_bound : (w : List ℕ) (n : ℕ) → number_word 999 w ≡ Some n → n ≤ 999
back_bound w n h = (number_word_sound 999 w n (omega arith) (omega arith) h).0.1
