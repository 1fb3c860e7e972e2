-- Lines of a program's text, from a place of theirs on.
use Rattle.std.specs.Prelude.{◌≡◌, ℕ, zero, suc, Bool, true, false, cond, ◌≤◌, ◌<◌, ◌⊎◌, List, [], ◌∷◌, ◌++◌, length, map, Some, Ok, Err, codes, refl}
use Rattle.std.proofs.Common.{sym, ◌∙◌, ap, subst, arith, inl, inr, append_assoc}
use Rattle.std.proofs.lemmas.List.{append-nil}
use Rattle.std.proofs.lemmas.Option.{same_Some, none-some}
use Rattle.u_base.specs.WholeWords.{is}
use Rattle.u_base.proofs.WholeWordsLaws.{told}
use Rattle.std.proofs.lemmas.Fmt.{decimal_digit}
use Rattle.std.specs.Fmt.{decimal}
use lib.IntN.{ℤ}
use Rattle.u_name.specs.BlockText.{block_at}
use Rattle.u_name.specs.Context.{IsBetween}
use Rattle.u_name.proofs.BlockTextLaws.{IsBlockByte, block_Reads}
use Rattle.u_base.specs.Fixed.{fixed}
use Rattle.u_base.specs.Signed.{signed}
use Rattle.u_base.specs.Spaced.{spaced}
use Rattle.u_base.proofs.NumberLaws.{IsDigit}
use Rattle.u_base.proofs.SignedLaws.{signed_Reads}
use Rattle.u_base.proofs.SpacedLaws.{spaced-append}
use Rattle.u_program.specs.declared.program.Version.{Version}
use Rattle.u_program.specs.declared.program.Version.TheVariants as versions
use Rattle.u_program.specs.declared.program.Arguments.{Arguments}
use Rattle.u_program.specs.declared.program.Arguments.TheVariants as arguments
use Rattle.u_program.specs.declared.program.Parameter.{Parameter}
use Rattle.u_program.specs.declared.program.Parameter.TheVariants as parameters
use Rattle.u_program.specs.declared.program.Constant.{Constant}
use Rattle.u_program.specs.declared.program.Constant.TheVariants as constants
use Rattle.u_program.specs.declared.program.Kind.{Kind}
use Rattle.u_program.specs.declared.program.Kind.TheVariants.{Begin, Const, Enter, Apply, Ask, Param}
use Rattle.u_program.specs.declared.program.Destination.{Destination}
use Rattle.u_program.specs.Parts.{statement}
use Rattle.u_program.specs.Limits.{IsConstant, IsKind, HasKind, IsListed, count_of, place_of, has_list, has_otherwise}
use Rattle.u_program.specs.Reading.{kind_among}
use Rattle.u_program.proofs.WordLaws.{AreBare, plain_is, plain_listed, plain_are_bare}
use Rattle.u_check.proofs.KindTests.{count_within}
use Rattle.u_program.specs.Text.{plain_kinds, arrow, constant_word, count_word, place_word, destination_word, otherwise_words, lists_words, argument_words, tail_words, statement_words, kind_word, block_line, loop_line, statement_line}
use Rattle.u_explain.specs.declared.fronts.Follows.{Follows}
use Rattle.u_explain.specs.declared.fronts.Follows.TheVariants as follows
use Rattle.u_explain.specs.Left.{IsLeft, Either, Behind, Numbered, Among}
use Rattle.u_explain.specs.Lines.{EndOn, AscendingOf, ListEnd, ArrowOn, ListsOn, room_of, NameOn, IntOn, ConstantOn, CountOn, FollowOn, follows_back, PlainOn, ParamOn, KindOn, RegionOn, BlockOn, LoopOn, StatementOn}
use Rattle.u_explain.proofs.LeftLaws.{HasText, same, ended, either, read_on, read_stuck, word_on, word_stuck}
use Rattle.u_explain.proofs.ListLaws.{some_end, some_arrow}

-- each of the languages has a text

pub some_behind : (w : List ℕ) (M : List ℕ → Type 0) → HasText M → HasText (Behind w M)
some_behind w M m = (w ++ m.0, (m.0, refl, m.1))

pub some_name : (M : List ℕ → Type 0) → HasText M → HasText (NameOn M)
some_name M m = (97 ∷ m.0, (97 ∷ [], record { short = omega arith; first = refl; each = (refl, tt) }, (m.0, refl, m.1)))

pub some_among : (low high : ℕ) (M : List ℕ → Type 0) → low < high → HasText M → HasText (Among low high (Numbered M))
some_among low high M h m = (decimal low ++ m.0, (low, omega arith, h, (m.0, refl, m.1)))

pub some_count : HasText CountOn
some_count = some_among 1 5 (ArrowOn versions.Two false 0) (omega arith) (some_arrow versions.Two false 0)

pub some_follow : (f : Follows) → HasText (FollowOn f)
some_follow follows.End = some_end
some_follow (follows.List version) = some_arrow version false 16
some_follow (follows.Arrow version) = some_arrow version false 0
some_follow follows.Count = some_behind (codes " ") CountOn some_count

pub follow_end : (f : Follows) (bs : List ℕ) → f ≡ follows.End → IsLeft (FollowOn f) bs bs
follow_end f bs e = subst (λ i. IsLeft (FollowOn i) bs bs) (sym e) (ended bs)

-- names and numbers, and what stands behind them

end_apart : (c : ℕ) (u : List ℕ) → IsBlockByte c → EndOn (c ∷ u) → ⊥
end_apart c u b e = cc

pub name_on : (bs x r rest : List ℕ) → block_at bs ≡ Ok (x, r) → IsLeft EndOn r rest → IsLeft (NameOn EndOn) bs rest
name_on bs x r rest h v = read_on block_Reads EndOn some_end end_apart bs x r rest h v

pub name_stuck : (bs rest : List ℕ) → block_at bs ≡ Err rest → IsLeft (NameOn EndOn) bs rest
name_stuck bs rest h = read_stuck block_Reads EndOn some_end end_apart bs rest h

-- the lists of a statement

pub record AreLists (version : Version) (hl ho : Bool) (to otherwise : List Destination) : Type 0 where
  pub to_ascends : AscendingOf version 0 to
  pub listed : IsListed hl to
  pub few : length to ≤ 16
  pub otherwise_ascends : AscendingOf version 0 otherwise
  pub listed_otherwise : IsListed ho otherwise
  pub few_otherwise : length otherwise ≤ 16

-- the text of two lists
abbrev text_of : Bool → List Destination → List Destination → List ℕ
text_of ho to otherwise = spaced (arrow ∷ (map destination_word to ++ otherwise_words ho otherwise))

cut_lists : (ho : Bool) (to otherwise : List Destination) → text_of ho to otherwise ≡ codes " ->" ++ (spaced (map destination_word to) ++ spaced (otherwise_words ho otherwise))
cut_lists ho to otherwise = ap (λ t. codes " ->" ++ t) (spaced-append (map destination_word to) (otherwise_words ho otherwise))

room_for : (hl : Bool) (to : List Destination) → IsListed hl to → length to ≤ 16 → length to ≤ cond hl 16 0
room_for true to l f = f
room_for false to l f = omega (arith, ap length l)

listed_for : (hl : Bool) (to : List Destination) → length to ≤ cond hl 16 0 → IsListed hl to × (length to ≤ 16)
listed_for true to f = (tt, f)
listed_for false [] f = (refl, omega arith)
listed_for false (d ∷ ds) f = absurd (omega arith)

-- arguments behind a word, each behind a space

argued : (w a s : List ℕ) → (w ++ spaced (a ∷ [])) ++ s ≡ (w ++ (32 ∷ [])) ++ (a ++ s)
argued w a s = ap (λ i. (w ++ (32 ∷ i)) ++ s) (append-nil a) ∙ append_assoc w (32 ∷ a) s ∙ sym (append_assoc w (32 ∷ []) (a ++ s))

argued_twice : (w a b s : List ℕ) → (w ++ spaced (a ∷ b ∷ [])) ++ s ≡ (w ++ (32 ∷ [])) ++ (a ++ (32 ∷ (b ++ s)))
argued_twice w a b s = ap (λ i. (w ++ (32 ∷ i)) ++ s) (sym (append_assoc a (32 ∷ b) [])) ∙ argued w (a ++ (32 ∷ b)) s ∙ ap (λ i. (w ++ (32 ∷ [])) ++ i) (append_assoc a (32 ∷ b) s)

-- numbers of arguments, and places of parameters

count_text : (n : Arguments) → decimal (count_of n) ≡ count_word n
count_text arguments.One = decimal_digit 1 (omega arith)
count_text arguments.Two = decimal_digit 2 (omega arith)
count_text arguments.Three = decimal_digit 3 (omega arith)
count_text arguments.Four = decimal_digit 4 (omega arith)

count_is : (q : ℕ) → 1 ≤ q → q < 5 → (n : Arguments) × (decimal q ≡ count_word n)
count_is zero low high = absurd (omega arith)
count_is (suc zero) low high = (arguments.One, decimal_digit 1 (omega arith))
count_is (suc (suc zero)) low high = (arguments.Two, decimal_digit 2 (omega arith))
count_is (suc (suc (suc zero))) low high = (arguments.Three, decimal_digit 3 (omega arith))
count_is (suc (suc (suc (suc zero)))) low high = (arguments.Four, decimal_digit 4 (omega arith))
count_is (suc (suc (suc (suc (suc q))))) low high = absurd (omega arith)

place_text : (p : Parameter) → decimal (place_of p) ≡ place_word p
place_text parameters.Second = decimal_digit 2 (omega arith)
place_text parameters.Third = decimal_digit 3 (omega arith)
place_text parameters.Fourth = decimal_digit 4 (omega arith)

place_within : (p : Parameter) → (2 ≤ place_of p) × (place_of p < 5)
place_within parameters.Second = (omega arith, omega arith)
place_within parameters.Third = (omega arith, omega arith)
place_within parameters.Fourth = (omega arith, omega arith)

place_is : (q : ℕ) → 2 ≤ q → q < 5 → (p : Parameter) × (decimal q ≡ place_word p)
place_is zero low high = absurd (omega arith)
place_is (suc zero) low high = absurd (omega arith)
place_is (suc (suc zero)) low high = (parameters.Second, decimal_digit 2 (omega arith))
place_is (suc (suc (suc zero))) low high = (parameters.Third, decimal_digit 3 (omega arith))
place_is (suc (suc (suc (suc zero)))) low high = (parameters.Fourth, decimal_digit 4 (omega arith))
place_is (suc (suc (suc (suc (suc q))))) low high = absurd (omega arith)

-- a kind of the version with its arguments, and what stands behind them
abbrev WholeKind : Version → List ℕ → Type 0
WholeKind version t = (k : Kind) × IsKind k × HasKind version k × Behind (kind_word k ++ spaced (argument_words version k)) (ListsOn version k) t

-- an `apply`

abbrev ApplyOn : Version → List ℕ → Type 0
ApplyOn version = Behind (codes "apply ") (Among 1 1000 (Numbered (FollowOn (follows_back version))))

of_apply : (version : Version) (t : List ℕ) → ApplyOn version t → WholeKind version t
of_apply versions.One t m =
    let b = m.2 in
    (Apply b.0 arguments.One, (b.1, omega (arith, b.2)), refl, (b.3.0, m.1 ∙ ap (λ i. codes "apply " ++ i) b.3.1 ∙ sym (argued (codes "apply") (decimal b.0) b.3.0), b.3.2))
of_apply versions.Two t m =
    let b = m.2 in
    let c = b.3.2 in
    let q = c.2 in
    let n = count_is q.0 q.1 q.2 in (
      Apply b.0 n.0,
      (b.1, omega (arith, b.2)),
      tt,
      (
        q.3.0,
        m.1
            ∙ ap (λ i. codes "apply " ++ i) (b.3.1 ∙ ap (λ i. decimal b.0 ++ i) (c.1 ∙ ap (λ i. 32 ∷ i) (q.3.1 ∙ ap (λ i. i ++ q.3.0) n.1)))
            ∙ sym (argued_twice (codes "apply") (decimal b.0) (count_word n.0) q.3.0),
        q.3.2,
      ),
    )

to_apply : (version : Version) (b : ℕ) (n : Arguments) → IsBetween 1 b 999 → (t : List ℕ) → Behind (kind_word (Apply b n) ++ spaced (argument_words version (Apply b n))) (ListsOn version (Apply b n)) t → ApplyOn version t
to_apply versions.One b n v t m = (decimal b ++ m.0, m.1 ∙ argued (codes "apply") (decimal b) m.0, (b, v.0, omega (arith, v.1), (m.0, refl, m.2)))
to_apply versions.Two b n v t m =
    let w = count_within n in
    let s = count_word n ++ m.0 in (
      decimal b ++ (32 ∷ s),
      m.1 ∙ argued_twice (codes "apply") (decimal b) (count_word n) m.0,
      (b, v.0, omega (arith, v.1), (32 ∷ s, refl, (s, refl, (count_of n, w.0, omega (arith, w.1), (m.0, ap (λ i. i ++ m.0) (sym (count_text n)), m.2))))),
    )

-- a `param`

of_param : (version : Version) (t : List ℕ) → ParamOn version t → WholeKind version t
of_param versions.One t m = absurd m
of_param versions.Two t m =
    let q = m.2 in
    let p = place_is q.0 q.1 q.2 in (
      Param p.0,
      tt,
      refl,
      (q.3.0, m.1 ∙ ap (λ i. codes "param " ++ i) (q.3.1 ∙ ap (λ i. i ++ q.3.0) p.1) ∙ sym (argued (codes "param") (place_word p.0) q.3.0), q.3.2),
    )

to_param : (version : Version) (p : Parameter) → version ≡ versions.Two → (t : List ℕ) → Behind (kind_word (Param p) ++ spaced (argument_words version (Param p))) (ListsOn version (Param p)) t → ParamOn version t
to_param versions.One p e t m = absurd (cc)
to_param versions.Two p e t m =
    let w = place_within p in
    (place_word p ++ m.0, m.1 ∙ argued (codes "param") (place_word p) m.0, (place_of p, w.0, w.1, (m.0, ap (λ i. i ++ m.0) (sym (place_text p)), m.2)))

module _ (version : Version) where
  pub some_constant : HasText (ConstantOn version)
  some_constant = let a = some_behind (codes "true") (ArrowOn version false 16) (some_arrow version false 16) in (a.0, inl a.1)

  pub some_kind : HasText (KindOn version)
  some_kind = let a = some_behind (kind_word Begin) (ListsOn version Begin) (some_arrow version false 16) in (a.0, inl (inl a.1))

  pub some_region : HasText (RegionOn version)
  some_region = some_among 0 100 (Behind (codes " ") (KindOn version)) (omega arith) (some_behind (codes " ") (KindOn version) some_kind)

  arrow_first : (slashed : Bool) (room c : ℕ) (u : List ℕ) → ArrowOn version slashed room (c ∷ u) → c ≡ 32
  arrow_first slashed room c u a = let e = a.1 in cc

  name_apart : (slashed : Bool) (room c : ℕ) (u : List ℕ) → IsBlockByte c → ArrowOn version slashed room (c ∷ u) → ⊥
  name_apart slashed room c u b a = let f = subst IsBlockByte (arrow_first slashed room c u a) b in cc

  pub procedure_on : (bs x r rest : List ℕ) → block_at bs ≡ Ok (x, r) → IsLeft (ArrowOn version false 16) r rest → IsLeft (NameOn (ArrowOn version false 16)) bs rest
  procedure_on bs x r rest h v = read_on block_Reads (ArrowOn version false 16) (some_arrow version false 16) (name_apart false 16) bs x r rest h v

  pub procedure_stuck : (bs rest : List ℕ) → block_at bs ≡ Err rest → IsLeft (NameOn (ArrowOn version false 16)) bs rest
  procedure_stuck bs rest h = read_stuck block_Reads (ArrowOn version false 16) (some_arrow version false 16) (name_apart false 16) bs rest h

  int_apart : (slashed : Bool) (room c : ℕ) (u : List ℕ) → IsDigit c → ArrowOn version slashed room (c ∷ u) → ⊥
  int_apart slashed room c u b a = omega (arith, b.0, arrow_first slashed room c u a)

  pub int_on : (bs : List ℕ) (x : ℤ) (r rest : List ℕ) → signed bs ≡ Ok (x, r) → IsLeft (ArrowOn version false 16) r rest → IsLeft (IntOn (ArrowOn version false 16)) bs rest
  int_on bs x r rest h v = read_on signed_Reads (ArrowOn version false 16) (some_arrow version false 16) (int_apart false 16) bs x r rest h v

  pub int_stuck : (bs rest : List ℕ) → signed bs ≡ Err rest → IsLeft (IntOn (ArrowOn version false 16)) bs rest
  int_stuck bs rest h = read_stuck signed_Reads (ArrowOn version false 16) (some_arrow version false 16) (int_apart false 16) bs rest h

  end_for : (ho : Bool) (otherwise : List Destination) → AscendingOf version 0 otherwise → length otherwise ≤ 16 → ListEnd version ho (spaced (otherwise_words ho otherwise))
  end_for false otherwise a f = refl
  end_for true otherwise a f = (otherwise, a, f, refl)

  lists_onto : (hl ho : Bool) (to otherwise : List Destination) → AreLists version hl ho to otherwise → ArrowOn version ho (cond hl 16 0) (text_of ho to otherwise)
  lists_onto hl ho to otherwise v = (
    spaced (map destination_word to) ++ spaced (otherwise_words ho otherwise),
    cut_lists ho to otherwise,
    (to, v.to_ascends, room_for hl to v.listed v.few, (spaced (otherwise_words ho otherwise), refl, end_for ho otherwise v.otherwise_ascends v.few_otherwise)),
  )

  lists_back : (hl ho : Bool) (t : List ℕ) → ArrowOn version ho (cond hl 16 0) t → (to : List Destination) × (otherwise : List Destination) × AreLists version hl ho to otherwise × (t ≡ text_of ho to otherwise)
  lists_back hl false t a =
      let l = a.2 in
      let f = listed_for hl l.0 l.2 in
      let e = l.3 in (
        l.0,
        [],
        record { to_ascends = l.1; listed = f.0; few = f.1; otherwise_ascends = (tt, tt); listed_otherwise = refl; few_otherwise = omega arith },
        a.1 ∙ ap (λ i. codes " ->" ++ i) (e.1 ∙ ap (λ i. spaced (map destination_word l.0) ++ i) e.2) ∙ sym (cut_lists false l.0 []),
      )
  lists_back hl true t a =
      let l = a.2 in
      let f = listed_for hl l.0 l.2 in
      let e = l.3 in
      let m = e.2 in (
        l.0,
        m.0,
        record { to_ascends = l.1; listed = f.0; few = f.1; otherwise_ascends = m.1; listed_otherwise = tt; few_otherwise = m.2 },
        a.1 ∙ ap (λ i. codes " ->" ++ i) (e.1 ∙ ap (λ i. spaced (map destination_word l.0) ++ i) m.3) ∙ sym (cut_lists true l.0 m.0),
      )

  -- kinds without arguments
  of_plain : (ks : List Kind) → AreBare ks → (t : List ℕ) → PlainOn version ks t → WholeKind version t
  of_plain [] v t m = absurd m
  of_plain (k ∷ ks) v t (inl m) =
      let p = plain_is version k v.0 in
      (k, p.0, p.1, (m.0, m.1 ∙ ap (λ i. i ++ m.0) (sym (append-nil (kind_word k)) ∙ ap (λ i. kind_word k ++ spaced i) (sym p.2)), m.2))
  of_plain (k ∷ ks) v t (inr m) = of_plain ks v.1 t m

  to_plain : (ks : List Kind) (k : Kind) → kind_among ks (kind_word k) ≡ Some k → (t : List ℕ) → Behind (kind_word k) (ListsOn version k) t → PlainOn version ks t
  unfolding kind_among
  to_plain [] k h t m = absurd (none-some k h)
  to_plain (j ∷ ks) k h t m =
      elim (told (kind_word k) (kind_word j) (is (kind_word k) (kind_word j)) refl) [
        | inl a ↦
            let e = same_Some j k (ap (λ b. cond b (Some j) (kind_among ks (kind_word k))) (sym a.0) ∙ h) in
            inl (subst (λ i. Behind (kind_word i) (ListsOn version i) t) (sym e) m)
        | inr a ↦ inr (to_plain ks k (ap (λ b. cond b (Some j) (kind_among ks (kind_word k))) (sym a) ∙ h) t m)
      ]

  -- the first of these kinds, or another
  pub plain_next : (ks : List Kind) (k : Kind) (others : List Kind) (w : List ℕ) (ho : Bool) (room : ℕ) (bs a b rest : List ℕ) → ks ≡ k ∷ others → w ≡ kind_word k → ho ≡ has_otherwise k → room ≡ room_of k → IsLeft (Behind w (ArrowOn version ho room)) bs a → IsLeft (PlainOn version others) bs b → (rest ≡ a) ⊎ (rest ≡ b) → length rest ≤ length a → length rest ≤ length b → IsLeft (PlainOn version ks) bs rest
  plain_next ks k others w ho room bs a b rest e f g h v u one first second =
      let x = subst (λ i. IsLeft (Behind i (ArrowOn version ho room)) bs a) f v in
      let y = subst (λ i. IsLeft (Behind (kind_word k) (ArrowOn version i room)) bs a) g x in
      let z = subst (λ i. IsLeft (Behind (kind_word k) (ArrowOn version (has_otherwise k) i)) bs a) h y in
      subst (λ i. IsLeft (PlainOn version i) bs rest) (sym e) (same (Either (Behind (kind_word k) (ListsOn version k)) (PlainOn version others)) (PlainOn version (k ∷ others)) bs rest (λ t m. m) (λ t m. m) (either (Behind (kind_word k) (ListsOn version k)) (PlainOn version others) bs a b rest z u one first second))

  of_constant : (t : List ℕ) → ConstantOn version t → (c : Constant) × IsConstant c × Behind (constant_word c) (ArrowOn version false 16) t
  of_constant t (inl m) = (constants.Bool true, tt, m)
  of_constant t (inr (inl m)) = (constants.Bool false, tt, m)
  of_constant t (inr (inr (inl m))) =
      let n = m.2 in
      (constants.Proc n.0, n.1, (n.2.0, m.1 ∙ ap (λ i. codes "@" ++ i) n.2.1, n.2.2))
  of_constant t (inr (inr (inr m))) = (constants.Int m.0, m.1, m.2)

  to_constant : (c : Constant) → IsConstant c → (t : List ℕ) → Behind (constant_word c) (ArrowOn version false 16) t → ConstantOn version t
  to_constant (constants.Bool true) v t m = inl m
  to_constant (constants.Bool false) v t m = inr (inl m)
  to_constant (constants.Proc name) v t m = inr (inr (inl (name ++ m.0, m.1, (name, v, (m.0, refl, m.2)))))
  to_constant (constants.Int n) v t m = inr (inr (inr (n, v, m)))

  of_kind : (t : List ℕ) → KindOn version t → WholeKind version t
  of_kind t (inl m) = of_plain plain_kinds plain_are_bare t m
  of_kind t (inr (inl m)) =
      let c = of_constant m.0 m.2 in
      (Const c.0, c.1, tt, (c.2.0, m.1 ∙ ap (λ i. codes "const " ++ i) c.2.1 ∙ sym (argued (codes "const") (constant_word c.0) c.2.0), c.2.2))
  of_kind t (inr (inr (inl m))) =
      let n = m.2 in
      (Enter n.0, (n.1, omega (arith, n.2)), tt, (n.3.0, m.1 ∙ ap (λ i. codes "enter " ++ i) n.3.1 ∙ sym (argued (codes "enter") (decimal n.0) n.3.0), n.3.2))
  of_kind t (inr (inr (inr (inl m)))) = of_apply version t m
  of_kind t (inr (inr (inr (inr m)))) = of_param version t m

  bare : (w t s : List ℕ) → t ≡ (w ++ []) ++ s → t ≡ w ++ s
  bare w t s e = e ∙ ap (λ i. i ++ s) (append-nil w)

  to_kind : (k : Kind) → IsKind k → HasKind version k → (t : List ℕ) → Behind (kind_word k ++ spaced (argument_words version k)) (ListsOn version k) t → KindOn version t
  to_kind (Const c) v h t m = inr (inl (constant_word c ++ m.0, m.1 ∙ argued (codes "const") (constant_word c) m.0, to_constant c v (constant_word c ++ m.0) (m.0, refl, m.2)))
  to_kind (Enter l) v h t m = inr (inr (inl (decimal l ++ m.0, m.1 ∙ argued (codes "enter") (decimal l) m.0, (l, v.0, omega (arith, v.1), (m.0, refl, m.2)))))
  to_kind (Apply b n) v h t m = inr (inr (inr (inl (to_apply version b n v t m))))
  to_kind (Param p) v h t m = inr (inr (inr (inr (to_param version p h t m))))
  to_kind (Ask s n) v h t m = absurd h
  to_kind k v h t m = inl (to_plain plain_kinds k (plain_listed k refl) t (m.0, bare (kind_word k) t m.0 m.1, m.2))

  -- the words of a statement behind its region
  whole_tail : (k : Kind) (to otherwise : List Destination) → spaced (tail_words version k to otherwise) ≡ codes " " ++ ((kind_word k ++ spaced (argument_words version k)) ++ text_of (has_otherwise k) to otherwise)
  whole_tail k to otherwise = ap (λ i. codes " " ++ (kind_word k ++ i)) (spaced-append (argument_words version k) (arrow ∷ lists_words k to otherwise)) ∙ ap (λ i. codes " " ++ i) (sym (append_assoc (kind_word k) (spaced (argument_words version k)) (text_of (has_otherwise k) to otherwise)))

  abbrev pub StatementBy : ℕ → List ℕ → Type 0
  StatementBy n = Numbered (Behind (codes " ") (RegionOn version)) n

  statement_onto : (n : ℕ) (t : List ℕ) → StatementOn version n t → StatementBy n t
  unfolding statement_line
  statement_onto n t m =
      let s = m.0 in
      let v = m.1 in
      let lists = text_of (has_otherwise s.kind) s.to s.otherwise in
      let w = kind_word s.kind ++ spaced (argument_words version s.kind) in
      let on = lists_onto (has_list s.kind) (has_otherwise s.kind) s.to s.otherwise (record { to_ascends = (v.to, v.ports); listed = v.listed; few = v.few; otherwise_ascends = (v.otherwise, v.ports_otherwise); listed_otherwise = v.listed_otherwise; few_otherwise = v.few_otherwise }) in
      let k = to_kind s.kind v.kind v.has_kind (w ++ lists) (lists, refl, on) in (
        spaced (statement_words version s),
        m.2,
        (
          decimal s.region ++ spaced (tail_words version s.kind s.to s.otherwise),
          refl,
          (
            s.region,
            omega arith,
            omega (arith, v.region),
            (spaced (tail_words version s.kind s.to s.otherwise), refl, (w ++ lists, whole_tail s.kind s.to s.otherwise, k)),
          ),
        ),
      )

  statement_back : (n : ℕ) (t : List ℕ) → StatementBy n t → StatementOn version n t
  unfolding statement_line
  statement_back n t m =
      let r = m.2.2 in
      let spaced_kind = r.3.2 in
      let k = of_kind spaced_kind.0 spaced_kind.2 in
      let b = k.3 in
      let l = lists_back (has_list k.0) (has_otherwise k.0) b.0 b.2 in
      let v = l.2 in (
        statement r.0 k.0 l.0 l.1,
        record { region = omega (arith, r.2); kind = k.1; has_kind = k.2; to = v.to_ascends.0; ports = v.to_ascends.1; listed = v.listed; few = v.few; otherwise = v.otherwise_ascends.0; ports_otherwise = v.otherwise_ascends.1; listed_otherwise = v.listed_otherwise; few_otherwise = v.few_otherwise },
        m.1 ∙ ap (λ i. decimal n ++ i) (m.2.1 ∙ ap (λ i. codes " " ++ i) (r.3.1 ∙ ap (λ i. decimal r.0 ++ i) (spaced_kind.1 ∙ ap (λ i. codes " " ++ i) (b.1 ∙ ap (λ i. (kind_word k.0 ++ spaced (argument_words version k.0)) ++ i) l.3) ∙ sym (whole_tail k.0 l.0 l.1)))),
      )

  pub left_statement : (n : ℕ) (bs rest : List ℕ) → IsLeft (StatementBy n) bs rest → IsLeft (StatementOn version n) bs rest
  left_statement n bs rest v = same (StatementBy n) (StatementOn version n) bs rest (statement_back n) (statement_onto n) v

-- the line that begins a block

block_onto : (t : List ℕ) → BlockOn t → Behind (codes "block ") (NameOn EndOn) t
unfolding block_line
block_onto t m = (m.0, m.2 ∙ ap (λ i. codes "block " ++ i) (append-nil m.0), (m.0, m.1, ([], sym (append-nil m.0), refl)))

block_back : (t : List ℕ) → Behind (codes "block ") (NameOn EndOn) t → BlockOn t
unfolding block_line
block_back t m = let n = m.2 in (n.0, n.1, m.1 ∙ ap (λ i. codes "block " ++ i) (n.2.1 ∙ ap (λ i. n.0 ++ i) n.2.2))

pub block_on : (bs r rest : List ℕ) → fixed (codes "block ") bs ≡ Ok (tt, r) → IsLeft (NameOn EndOn) r rest → IsLeft BlockOn bs rest
block_on bs r rest h v = same (Behind (codes "block ") (NameOn EndOn)) BlockOn bs rest block_back block_onto (word_on (codes "block ") (NameOn EndOn) (some_name EndOn some_end) bs r rest h v)

pub block_stuck : (bs rest : List ℕ) → fixed (codes "block ") bs ≡ Err rest → IsLeft BlockOn bs rest
block_stuck bs rest h = same (Behind (codes "block ") (NameOn EndOn)) BlockOn bs rest block_back block_onto (word_stuck (codes "block ") (NameOn EndOn) (some_name EndOn some_end) bs rest h)

-- the line of a loop

abbrev pub HolderBy : ℕ → List ℕ → Type 0
HolderBy n = Behind (codes " ") (Among 0 n (Numbered (FollowOn follows.End)))

abbrev pub LoopBy : ℕ → List ℕ → Type 0
LoopBy n = Behind (codes "loop ") (Numbered (HolderBy n) n)

loop_text : (n h : ℕ) → loop_line n h ≡ codes "loop " ++ (decimal n ++ (codes " " ++ (decimal h ++ [])))
unfolding loop_line
loop_text n h = refl

loop_onto : (n : ℕ) (t : List ℕ) → LoopOn n t → LoopBy n t
loop_onto n t m = (
  decimal n ++ (codes " " ++ (decimal m.0 ++ [])),
  m.3 ∙ loop_text n m.0,
  (codes " " ++ (decimal m.0 ++ []), refl, (decimal m.0 ++ [], refl, (m.0, omega arith, omega (arith, m.2), ([], refl, refl)))),
)

loop_back : (n : ℕ) (t : List ℕ) → LoopBy n t → LoopOn n t
loop_back n t m =
    let a = m.2 in
    let b = a.2 in
    let h = b.2 in (
      h.0,
      omega arith,
      omega (arith, h.2),
      m.1 ∙ ap (λ i. codes "loop " ++ i) (a.1 ∙ ap (λ i. decimal n ++ i) (b.1 ∙ ap (λ i. codes " " ++ i) (h.3.1 ∙ ap (λ i. decimal h.0 ++ i) h.3.2))) ∙ sym (loop_text n h.0),
    )

pub left_loop : (n : ℕ) (bs rest : List ℕ) → IsLeft (LoopBy n) bs rest → IsLeft (LoopOn n) bs rest
left_loop n bs rest v = same (LoopBy n) (LoopOn n) bs rest (loop_back n) (loop_onto n) v

pub some_holder : (n : ℕ) → 1 ≤ n → HasText (Among 0 n (Numbered (FollowOn follows.End)))
some_holder n h = some_among 0 n EndOn (omega arith) some_end
