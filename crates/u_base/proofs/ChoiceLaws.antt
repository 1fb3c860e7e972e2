-- A reader with another type of values, and a choice by the first byte, read the longest text.
use Rattle.std.specs.Prelude.{◌≡◌, ℕ, ◌⊎◌, cond, List, [], ◌∷◌, ◌++◌, Result, Ok, Err}
use Rattle.std.proofs.Common.{sym, ◌∙◌, ap, subst, inl, inr}
use Rattle.std.proofs.lemmas.List.{append-nil}
use Rattle.u_base.proofs.ReaderLaws.{Reads, bind_ok, bind_err, ok_same, ok_err, longer_than_itself}
use Rattle.u_base.specs.Reader.{◌>>=◌}
use Rattle.u_base.proofs.PartsLaws.{alike, unlike, same_or}
use Rattle.u_base.specs.Choice.{mapped, choice, IsOne}

pub record Maps {X Z : Type 0} (text : X → List ℕ) (V : X → Type 0) (f : X → Z) (text' : Z → List ℕ) (V' : Z → Type 0) (g : Z → X) : Type 0 where
  pub there : (x : X) → V x → V' (f x)
  pub spelled : (x : X) → V x → text' (f x) ≡ text x
  pub back : (z : Z) → V' z → V (g z)
  pub again : (z : Z) → V' z → f (g z) ≡ z

module _ {X Z : Type 0} {text : X → List ℕ} {V : X → Type 0} {More : ℕ → Type 0} {P : List ℕ → Result (X × List ℕ) (List ℕ)} (p : Reads text V More P)
    {f : X → Z} {text' : Z → List ℕ} {V' : Z → Type 0} {g : Z → X} (m : Maps text V f text' V' g) where
  mapped_ok : (bs : List ℕ) (z : Z) (rest : List ℕ) → mapped f P bs ≡ Ok (z, rest) → (x : X) × (P bs ≡ Ok (x, rest)) × (f x ≡ z)
  mapped_ok bs z rest h =
      let a = bind_ok (P bs) (λ a. Ok (f a.0, a.1)) (z, rest) h in
      let o = ok_same (f a.0.0, a.0.1) (z, rest) a.2 in
      let e : f a.0.0 ≡ z = ap (λ t. t.0) o in
      let k : a.0.1 ≡ rest = ap (λ t. t.1) o in
      (a.0.0, a.1 ∙ ap (λ r. Ok (a.0.0, r)) k, e)

  mapped_err : (bs rest : List ℕ) → mapped f P bs ≡ Err rest → P bs ≡ Err rest
  mapped_err bs rest h =
      elim (bind_err (P bs) (λ a. Ok (f a.0, a.1)) rest h) [ inl e ↦ e | inr a ↦ absurd (ok_err (f a.0.0, a.0.1) rest a.2) ]

  spelled_back : (z : Z) → V' z → text (g z) ≡ text' z
  spelled_back z v = sym (m.spelled (g z) (m.back z v)) ∙ ap text' (m.again z v)

  pub mapped_Reads : Reads text' V' More (mapped f P)
  mapped_Reads = record {
    sound = λ bs z rest h.
        let a = mapped_ok bs z rest h in
        let b = p.sound bs a.0 rest a.1 in
        (subst V' a.2 (m.there a.0 b.0), b.1 ∙ ap (λ t. t ++ rest) (sym (m.spelled a.0 b.0) ∙ ap text' a.2));
    stops = λ bs z c r h y u v e.
        let a = mapped_ok bs z (c ∷ r) h in
        let b = p.sound bs a.0 (c ∷ r) a.1 in
        p.stops bs a.0 c r a.1 (g y) u (m.back y v) (spelled_back y v ∙ e ∙ ap (λ t. t ++ (c ∷ u)) (sym (ap text' a.2) ∙ m.spelled a.0 b.0));
    viable = λ bs rest h.
        let a = p.viable bs rest (mapped_err bs rest h) in
        (a.0, f a.1, a.2, a.3, m.there a.1 a.4, m.spelled a.1 a.4 ∙ a.5);
    stuck = λ bs s c r h k y u v e. p.stuck bs s c r (mapped_err bs (c ∷ r) h) k (g y) u (m.back y v) (spelled_back y v ∙ e);
    none = λ bs rest h y r v e. p.none bs rest (mapped_err bs rest h) (g y) r (m.back y v) (e ∙ ap (λ t. t ++ r) (sym (spelled_back y v)));
    grows = λ x y c u v w e. p.grows (g x) (g y) c u (m.back x v) (m.back y w) (spelled_back x v ∙ e ∙ ap (λ t. t ++ (c ∷ u)) (sym (spelled_back y w)));
    same = λ x y v w e. sym (m.again x v) ∙ ap f (p.same (g x) (g y) (m.back x v) (m.back y w) (spelled_back x v ∙ e ∙ sym (spelled_back y w))) ∙ m.again y w;
    some = let a = p.some in (f a.0, m.there a.0 a.1);
  }

abbrev pub one_text : {X Y : Type 0} → ℕ → (X → List ℕ) → (Y → List ℕ) → X ⊎ Y → List ℕ
one_text c text text' = elim [ inl x ↦ c ∷ text x | inr y ↦ text' y ]

map_ok : {X Z : Type 0} (f : X → Z) (r : Result (X × List ℕ) (List ℕ)) (z : Z) (rest : List ℕ) → ◌>>=◌ {A = X × List ℕ} {B = Z × List ℕ} r (λ a. Ok (f a.0, a.1)) ≡ Ok (z, rest) → (x : X) × (r ≡ Ok (x, rest)) × (f x ≡ z)
map_ok f (Ok a) z rest h =
    let o = ok_same (f a.0, a.1) (z, rest) h in
    (a.0, ap (λ r. Ok (a.0, r)) (ap (λ t. t.1) o), ap (λ t. t.0) o)
map_ok f (Err e) z rest h = cc

map_err : {X Z : Type 0} (f : X → Z) (r : Result (X × List ℕ) (List ℕ)) (rest : List ℕ) → ◌>>=◌ {A = X × List ℕ} {B = Z × List ℕ} r (λ a. Ok (f a.0, a.1)) ≡ Err rest → r ≡ Err rest
map_err f (Ok a) rest h = absurd (ok_err (f a.0, a.1) rest h)
map_err f (Err e) rest h = cc

module _ {X Y : Type 0} {text : X → List ℕ} {V : X → Type 0} {More : ℕ → Type 0} {P : List ℕ → Result (X × List ℕ) (List ℕ)} (c : ℕ) (p : Reads text V More P)
    {text' : Y → List ℕ} {W : Y → Type 0} {Q : List ℕ → Result (Y × List ℕ) (List ℕ)} (q : Reads text' W More Q)
    (apart : (y : Y) (u v : List ℕ) → W y → text' y ++ u ≡ c ∷ v → ⊥) where
  Split : List ℕ → Result ((X ⊎ Y) × List ℕ) (List ℕ) → Type 0
  Split bs r = ((t : List ℕ) × (bs ≡ c ∷ t) × (mapped inl P t ≡ r)) ⊎ (((u : List ℕ) → bs ≡ c ∷ u → ⊥) × (mapped inr Q bs ≡ r))

  split : (bs : List ℕ) (r : Result ((X ⊎ Y) × List ℕ) (List ℕ)) → choice c P Q bs ≡ r → Split bs r
  unfolding Split
  split [] r h = inr (λ u e. cc, h)
  split (b ∷ t) r h =
      elim (same_or b c) [
        | alike e f ↦ inl (t, ap (λ i. i ∷ t) e, ap (λ i. cond i (mapped inl P t) (mapped inr Q (b ∷ t))) (sym f) ∙ h)
        | unlike e f ↦ inr (λ u k. e cc, ap (λ i. cond i (mapped inl P t) (mapped inr Q (b ∷ t))) (sym f) ∙ h)
      ]

  abbrev says : X ⊎ Y → List ℕ
  says z = one_text c text text' z

  abbrev Fine : X ⊎ Y → Type 0
  Fine z = IsOne V W z

  choice_sound : (bs : List ℕ) (z : X ⊎ Y) (rest : List ℕ) → choice c P Q bs ≡ Ok (z, rest) → Fine z × (bs ≡ says z ++ rest)
  unfolding Split
  choice_sound bs z rest h =
      elim (split bs (Ok (z, rest)) h) [
        | inl a ↦
            let b = map_ok inl (P a.0) z rest a.2 in
            let d = p.sound a.0 b.0 rest b.1 in
            subst (λ z. Fine z × (bs ≡ says z ++ rest)) b.2 (d.0, a.1 ∙ ap (λ t. c ∷ t) d.1)
        | inr a ↦
            let b = map_ok inr (Q bs) z rest a.1 in
            subst (λ z. Fine z × (bs ≡ says z ++ rest)) b.2 (q.sound bs b.0 rest b.1)
      ]

  left_stops : (t : List ℕ) (x : X) (d : ℕ) (r : List ℕ) → P t ≡ Ok (x, d ∷ r) → (y : X ⊎ Y) (u : List ℕ) → Fine y → says y ≡ (c ∷ text x) ++ (d ∷ u) → ⊥
  left_stops t x d r h (inl y) u v e = let f : text y ≡ text x ++ (d ∷ u) = cc in p.stops t x d r h y u v f
  left_stops t x d r h (inr y) u v e = apart y [] _ v (append-nil (text' y) ∙ e)

  right_stops : (bs : List ℕ) (x : Y) (d : ℕ) (r : List ℕ) → Q bs ≡ Ok (x, d ∷ r) → (y : X ⊎ Y) (u : List ℕ) → Fine y → says y ≡ text' x ++ (d ∷ u) → ⊥
  right_stops bs x d r h (inl y) u v e = apart x (d ∷ u) _ ((q.sound bs x (d ∷ r) h).0) (sym e)
  right_stops bs x d r h (inr y) u v e = q.stops bs x d r h y u v e

  choice_stops : (bs : List ℕ) (z : X ⊎ Y) (d : ℕ) (r : List ℕ) → choice c P Q bs ≡ Ok (z, d ∷ r) → (y : X ⊎ Y) (u : List ℕ) → Fine y → says y ≡ says z ++ (d ∷ u) → ⊥
  unfolding Split
  choice_stops bs z d r h y u v e =
      elim (split bs (Ok (z, d ∷ r)) h) [
        | inl a ↦ let b = map_ok inl (P a.0) z (d ∷ r) a.2 in left_stops a.0 b.0 d r b.1 y u v (e ∙ ap (λ z. says z ++ (d ∷ u)) (sym b.2))
        | inr a ↦ let b = map_ok inr (Q bs) z (d ∷ r) a.1 in right_stops bs b.0 d r b.1 y u v (e ∙ ap (λ z. says z ++ (d ∷ u)) (sym b.2))
      ]

  choice_viable : (bs rest : List ℕ) → choice c P Q bs ≡ Err rest → (s : List ℕ) × (y : X ⊎ Y) × (t : List ℕ) × (bs ≡ s ++ rest) × Fine y × (says y ≡ s ++ t)
  unfolding Split
  choice_viable bs rest h =
      elim (split bs (Err rest) h) [
        | inl a ↦ let b = p.viable a.0 rest (map_err inl (P a.0) rest a.2) in (c ∷ b.0, inl b.1, b.2, a.1 ∙ ap (λ t. c ∷ t) b.3, b.4, ap (λ t. c ∷ t) b.5)
        | inr a ↦ let b = q.viable bs rest (map_err inr (Q bs) rest a.1) in (b.0, inr b.1, b.2, b.3, b.4, b.5)
      ]

  left_stuck : (t bs s : List ℕ) (d : ℕ) (r : List ℕ) → bs ≡ c ∷ t → P t ≡ Err (d ∷ r) → bs ≡ s ++ (d ∷ r) → (y : X ⊎ Y) (u : List ℕ) → Fine y → says y ≡ s ++ (d ∷ u) → ⊥
  left_stuck t bs [] d r a h k y u v e =
      let w = p.viable t (d ∷ r) h in
      let l : r ≡ w.0 ++ (d ∷ r) = cc in
      longer_than_itself w.0 d r l
  left_stuck t bs (i ∷ s) d r a h k (inl y) u v e = let f : t ≡ s ++ (d ∷ r) = cc in let g : text y ≡ s ++ (d ∷ u) = cc in p.stuck t s d r h f y u v g
  left_stuck t bs (i ∷ s) d r a h k (inr y) u v e = let f : i ≡ c = cc in apart y [] (s ++ (d ∷ u)) v (append-nil (text' y) ∙ e ∙ ap (λ j. j ∷ (s ++ (d ∷ u))) f)

  right_stuck : (bs s : List ℕ) (d : ℕ) (r : List ℕ) → ((u : List ℕ) → bs ≡ c ∷ u → ⊥) → Q bs ≡ Err (d ∷ r) → bs ≡ s ++ (d ∷ r) → (y : X ⊎ Y) (u : List ℕ) → Fine y → says y ≡ s ++ (d ∷ u) → ⊥
  right_stuck bs [] d r a h k (inl y) u v e = let f : d ≡ c = cc in a r (k ∙ ap (λ j. j ∷ r) f)
  right_stuck bs (i ∷ s) d r a h k (inl y) u v e = let f : i ≡ c = cc in a (s ++ (d ∷ r)) (k ∙ ap (λ j. j ∷ (s ++ (d ∷ r))) f)
  right_stuck bs s d r a h k (inr y) u v e = q.stuck bs s d r h k y u v e

  choice_stuck : (bs s : List ℕ) (d : ℕ) (r : List ℕ) → choice c P Q bs ≡ Err (d ∷ r) → bs ≡ s ++ (d ∷ r) → (y : X ⊎ Y) (u : List ℕ) → Fine y → says y ≡ s ++ (d ∷ u) → ⊥
  unfolding Split
  choice_stuck bs s d r h k y u v e =
      elim (split bs (Err (d ∷ r)) h) [
        | inl a ↦ left_stuck a.0 bs s d r a.1 (map_err inl (P a.0) (d ∷ r) a.2) k y u v e
        | inr a ↦ right_stuck bs s d r a.0 (map_err inr (Q bs) (d ∷ r) a.1) k y u v e
      ]

  left_none : (t bs rest : List ℕ) → bs ≡ c ∷ t → P t ≡ Err rest → (y : X ⊎ Y) (r : List ℕ) → Fine y → bs ≡ says y ++ r → ⊥
  left_none t bs rest a h (inl y) r v e = let f : t ≡ text y ++ r = cc in p.none t rest h y r v f
  left_none t bs rest a h (inr y) r v e = apart y r t v (sym e ∙ a)

  right_none : (bs rest : List ℕ) → ((u : List ℕ) → bs ≡ c ∷ u → ⊥) → Q bs ≡ Err rest → (y : X ⊎ Y) (r : List ℕ) → Fine y → bs ≡ says y ++ r → ⊥
  right_none bs rest a h (inl y) r v e = a (text y ++ r) e
  right_none bs rest a h (inr y) r v e = q.none bs rest h y r v e

  choice_none : (bs rest : List ℕ) → choice c P Q bs ≡ Err rest → (y : X ⊎ Y) (r : List ℕ) → Fine y → bs ≡ says y ++ r → ⊥
  unfolding Split
  choice_none bs rest h y r v e =
      elim (split bs (Err rest) h) [
        | inl a ↦ left_none a.0 bs rest a.1 (map_err inl (P a.0) rest a.2) y r v e
        | inr a ↦ right_none bs rest a.0 (map_err inr (Q bs) rest a.1) y r v e
      ]

  choice_grows : (x y : X ⊎ Y) (d : ℕ) (u : List ℕ) → Fine x → Fine y → says x ≡ says y ++ (d ∷ u) → More d
  choice_grows (inl x) (inl y) d u v w e = p.grows x y d u v w (let f : text x ≡ text y ++ (d ∷ u) = cc in f)
  choice_grows (inl x) (inr y) d u v w e = absurd (apart y (d ∷ u) (text x) w (sym e))
  choice_grows (inr x) (inl y) d u v w e = absurd (apart x [] _ v (append-nil (text' x) ∙ e))
  choice_grows (inr x) (inr y) d u v w e = q.grows x y d u v w e

  choice_same : (x y : X ⊎ Y) → Fine x → Fine y → says x ≡ says y → x ≡ y
  choice_same (inl x) (inl y) v w e = ap inl (p.same x y v w (let f : text x ≡ text y = cc in f))
  choice_same (inl x) (inr y) v w e = absurd (apart y [] _ w (append-nil (text' y) ∙ sym e))
  choice_same (inr x) (inl y) v w e = absurd (apart x [] _ v (append-nil (text' x) ∙ e))
  choice_same (inr x) (inr y) v w e = ap inr (q.same x y v w e)

  pub choice_Reads : Reads (one_text c text text') (IsOne V W) More (choice c P Q)
  choice_Reads = record {
    sound = choice_sound;
    stops = choice_stops;
    viable = choice_viable;
    stuck = choice_stuck;
    none = choice_none;
    grows = choice_grows;
    same = choice_same;
    some = (inr q.some.0, q.some.1);
  }
