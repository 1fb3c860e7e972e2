-- What is left of some bytes, for languages that are made of others.
use Rattle.std.specs.Prelude.{◌≡◌, ℕ, Bool, true, false, cond, ◌==◌, ◌+◌, ◌≤◌, ◌<◌, ◌⊎◌, List, [], ◌∷◌, ◌++◌, length, Result, Ok, Err, MatchResult, refl}
use Rattle.std.proofs.Common.{sym, ◌∙◌, ap, subst, arith, inl, inr, append_assoc, length-append}
use Rattle.std.proofs.lemmas.List.{append-nil}
use denote.Ref.{Bor}
use Rattle.u_base.specs.Fixed.{fixed, IsUnit}
use Rattle.u_base.specs.Reader.{◌>>=◌}
use Rattle.u_base.proofs.ReaderLaws.{Reads, longer, equal, shorter, cut, heads}
use Rattle.u_base.proofs.FixedLaws.{fixed_Reads}
use Rattle.u_explain.specs.Left.{BeginsSome, IsLeft, Either, Behind, Read, Among}

-- some text is of the language
abbrev pub HasText : (List ℕ → Type 0) → Type 0
HasText L = (s : List ℕ) × L s

-- a language with the same texts
pub same : (L M : List ℕ → Type 0) (bs rest : List ℕ) → ((t : List ℕ) → L t → M t) → ((t : List ℕ) → M t → L t) → IsLeft L bs rest → IsLeft M bs rest
same L M bs rest f g v = record {
  front = v.front;
  whole = v.whole;
  begins = elim v.begins [ inl e ↦ inl e | inr b ↦ inr (b.0, f _ b.1) ];
  longest = λ p r e b. v.longest p r e (b.0, g _ b.1);
}

-- no text at all
pub nothing : (L : List ℕ → Type 0) (bs : List ℕ) → ((t : List ℕ) → L t → ⊥) → IsLeft L bs bs
nothing L bs n = record { front = []; whole = refl; begins = inl refl; longest = λ p r e b. absurd (n _ b.1) }

short : (p r bs : List ℕ) → bs ≡ p ++ r → p ≡ [] → length bs ≤ length r
short p r bs e h = omega (arith, ap length e, ap length h, length-append p r)

no_front : (p u : List ℕ) → p ++ u ≡ [] → p ≡ []
no_front [] u e = refl
no_front (c ∷ p) u e = cc

-- the empty text alone
pub ended : (bs : List ℕ) → IsLeft (λ t. t ≡ []) bs bs
ended bs = record { front = []; whole = refl; begins = inr ([], refl); longest = λ p r e b. short p r bs e (no_front p b.0 b.1) }

-- the shorter rest, of two languages together
pub either : (L M : List ℕ → Type 0) (bs a b rest : List ℕ) → IsLeft L bs a → IsLeft M bs b → (rest ≡ a) ⊎ (rest ≡ b) → length rest ≤ length a → length rest ≤ length b → IsLeft (Either L M) bs rest
either L M bs a b rest v w (inl e) f g = record {
  front = v.front;
  whole = v.whole ∙ ap (λ t. v.front ++ t) (sym e);
  begins = elim v.begins [ inl h ↦ inl (e ∙ h) | inr h ↦ inr (h.0, inl h.1) ];
  longest = λ p r h k. elim k.1 [ inl x ↦ omega (arith, v.longest p r h (k.0, x), ap length e) | inr x ↦ omega (arith, w.longest p r h (k.0, x)) ];
}
either L M bs a b rest v w (inr e) f g = record {
  front = w.front;
  whole = w.whole ∙ ap (λ t. w.front ++ t) (sym e);
  begins = elim w.begins [ inl h ↦ inl (e ∙ h) | inr h ↦ inr (h.0, inr h.1) ];
  longest = λ p r h k. elim k.1 [ inl x ↦ omega (arith, v.longest p r h (k.0, x)) | inr x ↦ omega (arith, w.longest p r h (k.0, x), ap length e) ];
}

-- A language of a value's text and what stands behind it, by the reader of the values' texts.
module _ {X : Type 0} {text : X → List ℕ} {V : X → Type 0} {More : ℕ → Type 0} {P : List ℕ → Result (X × List ℕ) (List ℕ)} (p : Reads text V More P)
    (M : List ℕ → Type 0) (some : HasText M) (apart : (c : ℕ) (u : List ℕ) → More c → M (c ∷ u) → ⊥) where
  -- a front beyond the first value's text begins a text of what stands behind it
  beyond : (bs : List ℕ) (x : X) (c : ℕ) (w r u : List ℕ) → P bs ≡ Ok (x, c ∷ (w ++ r)) → (y : X) → V y → (s : List ℕ) → M s → text x ++ ((c ∷ w) ++ u) ≡ text y ++ s → M ((c ∷ w) ++ u)
  beyond bs x c w r u h y v s m e =
      elim (cut (text x) ((c ∷ w) ++ u) (text y) s e) [
        | longer d k a b ↦ absurd (apart d (k ++ ((c ∷ w) ++ u)) (p.grows x y d k ((p.sound bs x _ h).0) v a) (subst M b m))
        | equal a b ↦ subst M (sym b) m
        | shorter d k a b ↦ let f : d ≡ c = sym (heads _ _ _ _ b) in absurd (p.stops bs x c (w ++ r) h y k v (a ∙ ap (λ i. text x ++ (i ∷ k)) f))
      ]

  read_longest : (bs : List ℕ) (x : X) (r rest : List ℕ) → P bs ≡ Ok (x, r) → IsLeft M r rest → (q t : List ℕ) → bs ≡ q ++ t → BeginsSome (Read text V M) q → length rest ≤ length t
  read_longest bs x r rest h v q t e b =
      let s = p.sound bs x r h in
      let few : length rest ≤ length r = omega (arith, ap length v.whole, length-append v.front rest) in
      elim (cut q t (text x) r (sym e ∙ s.1)) [
        | longer c w a f ↦
            let m = beyond bs x c w t b.0 (h ∙ ap (λ i. Ok (x, i)) f) b.1.0 b.1.1 b.1.2.0 b.1.2.2 (sym (append_assoc (text x) (c ∷ w) b.0) ∙ ap (λ i. i ++ b.0) (sym a) ∙ b.1.2.1) in
            v.longest (c ∷ w) t f (b.0, m)
        | equal a f ↦ omega (arith, ap length f)
        | shorter c w a f ↦ omega (arith, ap length f, length-append (c ∷ w) r)
      ]

  pub read_on : (bs : List ℕ) (x : X) (r rest : List ℕ) → P bs ≡ Ok (x, r) → IsLeft M r rest → IsLeft (Read text V M) bs rest
  read_on bs x r rest h v =
      let s = p.sound bs x r h in
      record {
        front = text x ++ v.front;
        whole = s.1 ∙ ap (λ i. text x ++ i) v.whole ∙ sym (append_assoc (text x) v.front rest);
        begins = inr (elim v.begins [
          | inl e ↦ (some.0, (x, s.0, (some.0, ap (λ i. (text x ++ i) ++ some.0) (none r v.front rest v.whole e) ∙ ap (λ i. i ++ some.0) (append-nil (text x)), some.1)))
          | inr b ↦ (b.0, (x, s.0, (v.front ++ b.0, append_assoc (text x) v.front b.0, b.1)))
        ]);
        longest = read_longest bs x r rest h v;
      }
    where
      none : (r f rest : List ℕ) → r ≡ f ++ rest → rest ≡ r → f ≡ []
      none r [] rest e h = refl
      none r (c ∷ f) rest e h = absurd (omega (arith, ap length e, ap length h, length-append (c ∷ f) rest))

  pub read_stuck : (bs rest : List ℕ) → P bs ≡ Err rest → IsLeft (Read text V M) bs rest
  read_stuck bs rest h =
      let a = p.viable bs rest h in
      record {
        front = a.0;
        whole = a.3;
        begins = inr (a.2 ++ some.0, (a.1, a.4, (some.0, sym (append_assoc a.0 a.2 some.0) ∙ ap (λ i. i ++ some.0) (sym a.5), some.1)));
        longest = λ q t e b. elim (cut q t a.0 rest (sym e ∙ a.3)) [
          | longer c w k f ↦ absurd (past a.0 c w t k f a.3 b)
          | equal k f ↦ omega (arith, ap length f)
          | shorter c w k f ↦ omega (arith, ap length f, length-append (c ∷ w) rest)
        ];
      }
    where
      past : (f : List ℕ) (c : ℕ) (w t : List ℕ) {q : List ℕ} → q ≡ f ++ (c ∷ w) → rest ≡ (c ∷ w) ++ t → bs ≡ f ++ rest → BeginsSome (Read text V M) q → ⊥
      past f c w t {q} k g e b =
          let y = b.1.0 in
          let s = b.1.2.0 in
          elim (cut f ((c ∷ w) ++ b.0) (text y) s (sym (append_assoc f (c ∷ w) b.0) ∙ ap (λ i. i ++ b.0) (sym k) ∙ b.1.2.1)) [
            | longer d v a z ↦ p.none bs rest h y ((d ∷ v) ++ rest) b.1.1 (e ∙ ap (λ i. i ++ rest) a ∙ append_assoc (text y) (d ∷ v) rest)
            | equal a z ↦ p.none bs rest h y rest b.1.1 (e ∙ ap (λ i. i ++ rest) a)
            | shorter d v a z ↦
                let j : c ≡ d = heads _ _ _ _ z in
                p.stuck bs f c (w ++ t) (h ∙ ap (λ i. Err i) g) (e ∙ ap (λ i. f ++ i) g) y v b.1.1 (a ∙ ap (λ i. f ++ (i ∷ v)) (sym j))
          ]

-- a word, and a language behind it
of_word : (w : List ℕ) (M : List ℕ → Type 0) (t : List ℕ) → Read (λ (z : Unit {0}). w) IsUnit M t → Behind w M t
of_word w M t r = r.2

to_word : (w : List ℕ) (M : List ℕ → Type 0) (t : List ℕ) → Behind w M t → Read (λ (z : Unit {0}). w) IsUnit M t
to_word w M t r = (tt, refl, r)

pub word_on : (w : List ℕ) (M : List ℕ → Type 0) → HasText M → (bs r rest : List ℕ) → fixed w bs ≡ Ok (tt, r) → IsLeft M r rest → IsLeft (Behind w M) bs rest
word_on w M m bs r rest h v = same (Read (λ (z : Unit {0}). w) IsUnit M) (Behind w M) bs rest (of_word w M) (to_word w M) (read_on (fixed_Reads w) M m (λ c u n k. n) bs tt r rest h v)

pub word_stuck : (w : List ℕ) (M : List ℕ → Type 0) → HasText M → (bs rest : List ℕ) → fixed w bs ≡ Err rest → IsLeft (Behind w M) bs rest
word_stuck w M m bs rest h = same (Read (λ (z : Unit {0}). w) IsUnit M) (Behind w M) bs rest (of_word w M) (to_word w M) (read_stuck (fixed_Reads w) M m (λ c u n k. n) bs rest h)

-- languages of numbers
pub among_none : (low : ℕ) (L : ℕ → List ℕ → Type 0) (bs : List ℕ) → IsLeft (Among low low L) bs bs
among_none low L bs = nothing (Among low low L) bs (λ t m. omega (arith, m.1, m.2))

pub among_next : (low n : ℕ) (L : ℕ → List ℕ → Type 0) (bs a b rest : List ℕ) → low ≤ n → IsLeft (Among low n L) bs a → IsLeft (L n) bs b → (rest ≡ a) ⊎ (rest ≡ b) → length rest ≤ length a → length rest ≤ length b → IsLeft (Among low (n + 1) L) bs rest
among_next low n L bs a b rest le v w e f g = same (Either (Among low n L) (L n)) (Among low (n + 1) L) bs rest onto back (either (Among low n L) (L n) bs a b rest v w e f g)
  where
    onto : (t : List ℕ) → Either (Among low n L) (L n) t → Among low (n + 1) L t
    onto t (inl m) = (m.0, m.1, omega (arith, m.2), m.3)
    onto t (inr m) = (n, le, omega arith, m)

    at : (t : List ℕ) (m : ℕ) → low ≤ m → (m < n) ⊎ (m ≡ n) → L m t → Either (Among low n L) (L n) t
    at t m l (inl k) x = inl (m, l, k, x)
    at t m l (inr k) x = inr (subst (λ i. L i t) k x)

    which : (m k : ℕ) → m < k + 1 → (m < k) ⊎ (m ≡ k)
    which m k h = grind arith

    back : (t : List ℕ) → Among low (n + 1) L t → Either (Among low n L) (L n) t
    back t m = at t m.0 m.1 (which m.0 n m.2) m.3

-- words one behind the other
abbrev Fixed : Type 0
Fixed = Result (Unit {0} × List ℕ) (List ℕ)

abbrev on : Fixed → (List ℕ → Fixed) → Fixed
on r f = ◌>>=◌ {A = Unit {0} × List ℕ} {B = Unit {0} × List ℕ} r (λ a. f a.1)

fixed_append : (a b bs : List ℕ) → fixed (a ++ b) bs ≡ on (fixed a bs) (fixed b)
fixed_append [] b bs = refl
fixed_append (c ∷ a) b [] = refl
fixed_append (c ∷ a) b (d ∷ t) = at (d == c) (fixed_append a b t)
  where
    at : (i : Bool) → fixed (a ++ b) t ≡ on (fixed a t) (fixed b) → on (cond i (Ok (tt, t)) (Err (d ∷ t))) (fixed (a ++ b)) ≡ on (on (cond i (Ok (tt, t)) (Err (d ∷ t))) (fixed a)) (fixed b)
    at true h = h
    at false h = refl

pub fixed_more : (a b bs r : List ℕ) (z : Result (Unit {0} × List ℕ) (List ℕ)) → fixed a bs ≡ Ok (tt, r) → fixed b r ≡ z → fixed (a ++ b) bs ≡ z
fixed_more a b bs r z h k = fixed_append a b bs ∙ ap (λ i. on i (fixed b)) h ∙ k

pub fixed_less : (a b bs r : List ℕ) → fixed a bs ≡ Err r → fixed (a ++ b) bs ≡ Err r
fixed_less a b bs r h = fixed_append a b bs ∙ ap (λ i. on i (fixed b)) h

-- what stands behind a word is shorter
pub fixed_shorter : (c : ℕ) (w bs r : List ℕ) → fixed (c ∷ w) bs ≡ Ok (tt, r) → length r < length bs
fixed_shorter c w bs r h = let e = ((fixed_Reads (c ∷ w)).sound bs tt r h).1 in omega (arith, ap length e, length-append (c ∷ w) r)

pub fixed_through : (a b bs r : List ℕ) (z : Result (Bor (List ℕ)) (Bor (List ℕ))) → fixed a bs ≡ Ok (tt, r) → MatchResult z (λ rest. fixed b r ≡ Ok (tt, rest.now)) (λ rest. fixed b r ≡ Err rest.now) → MatchResult z (λ rest. fixed (a ++ b) bs ≡ Ok (tt, rest.now)) (λ rest. fixed (a ++ b) bs ≡ Err rest.now)
fixed_through a b bs r (Ok z) h k = fixed_more a b bs r (Ok (tt, z.now)) h k
fixed_through a b bs r (Err z) h k = fixed_more a b bs r (Err z.now) h k
