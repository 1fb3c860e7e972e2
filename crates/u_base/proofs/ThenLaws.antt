-- Two readers one after another read the longest text, where no text of the second begins with a byte by which the first could go on.
use Rattle.std.specs.Prelude.{◌≡◌, ℕ, ◌⊎◌, List, [], ◌∷◌, ◌++◌, Result, Ok, Err}
use Rattle.std.proofs.Common.{sym, ◌∙◌, ap, subst, inl, inr, append_assoc}
use Rattle.std.proofs.lemmas.List.{append-nil, append_cancel_right}
use Rattle.u_base.proofs.ReaderLaws.{Reads, longer, equal, shorter, cut, bind_ok, bind_err, ok_same, ok_err, pair}
use Rattle.u_base.specs.Reader.{◌>>=◌}
use Rattle.u_base.specs.Then.{AreBoth, both}

abbrev pub after : {X Y : Type 0} → (X → List ℕ) → (X → Y → List ℕ) → X × Y → List ℕ
after text more z = text z.0 ++ more z.0 z.1

-- no text of the second begins with a byte by which the first could go on
abbrev pub AreApart : {X Y : Type 0} → (X → Type 0) → (ℕ → Type 0) → (X → Y → List ℕ) → (X → Y → Type 0) → Type 0
AreApart {X} {Y} V More text W = (x : X) (y : Y) (c : ℕ) (r u : List ℕ) → V x → W x y → More c → text x y ++ r ≡ c ∷ u → ⊥

module _ {X Y : Type 0} {text : X → List ℕ} {V : X → Type 0} {More : ℕ → Type 0} {P : List ℕ → Result (X × List ℕ) (List ℕ)} (p : Reads text V More P)
    {text' : X → Y → List ℕ} {W : X → Y → Type 0} {More' : ℕ → Type 0} {Q : X → List ℕ → Result (Y × List ℕ) (List ℕ)} (q : (x : X) → V x → Reads (text' x) (W x) More' (Q x))
    (apart : AreApart V More text' W) where
  -- where the first was read, a second text behind a first one there is that one
  met : (bs : List ℕ) (x : X) (rest : List ℕ) → P bs ≡ Ok (x, rest) → (z : X) (t : List ℕ) → V z → text x ++ rest ≡ text z ++ t → ((c : ℕ) (u : List ℕ) → More c → t ≡ c ∷ u → ⊥) → (x ≡ z) × (rest ≡ t)
  met bs x rest h z t v e far =
      elim (cut (text x) rest (text z) t e) [
        | longer c u a b ↦ absurd (far c (u ++ rest) (p.grows x z c u ((p.sound bs x rest h).0) v a) b)
        | equal a b ↦ (p.same x z ((p.sound bs x rest h).0) v a, b)
        | shorter c u a b ↦ absurd (p.stops bs x c (u ++ t) (h ∙ ap (λ r. Ok (x, r)) b) z u v a)
      ]

  -- the same where only the next byte is known to be the same
  lined : (bs : List ℕ) (x : X) (s : List ℕ) (c : ℕ) (r u : List ℕ) → P bs ≡ Ok (x, s ++ (c ∷ r)) → (z : X) (y : Y) → V z → W z y → text x ++ (s ++ (c ∷ u)) ≡ text z ++ text' z y → (x ≡ z) × (s ++ (c ∷ u) ≡ text' z y)
  lined bs x s c r u h z y v w e =
      elim (cut (text x) (s ++ (c ∷ u)) (text z) (text' z y) e) [
        | longer d k a b ↦ absurd (apart z y d [] (k ++ (s ++ (c ∷ u))) v w (p.grows x z d k ((p.sound bs x _ h).0) v a) (append-nil (text' z y) ∙ b))
        | equal a b ↦ (p.same x z ((p.sound bs x _ h).0) v a, b)
        | shorter d k a b ↦ absurd (first_byte s d k b h z v a)
      ]
    where
      first_byte : (s : List ℕ) (d : ℕ) (k : List ℕ) → s ++ (c ∷ u) ≡ (d ∷ k) ++ text' z y → P bs ≡ Ok (x, s ++ (c ∷ r)) → (z : X) → V z → text z ≡ text x ++ (d ∷ k) → ⊥
      first_byte [] d k b h z v a = let e : c ≡ d = cc in p.stops bs x c r h z k v (a ∙ ap (λ i. text x ++ (i ∷ k)) (sym e))
      first_byte (i ∷ s) d k b h z v a = let e : i ≡ d = cc in p.stops bs x i (s ++ (c ∷ r)) h z k v (a ∙ ap (λ i. text x ++ (i ∷ k)) (sym e))

  parts : (bs : List ℕ) (z : X × Y) (rest : List ℕ) → both P Q bs ≡ Ok (z, rest) → (r : List ℕ) × (P bs ≡ Ok (z.0, r)) × (Q z.0 r ≡ Ok (z.1, rest))
  parts bs z rest h =
      let a = bind_ok (P bs) (λ a. Q a.0 a.1 >>= λ b. Ok ((a.0, b.0), b.1)) (z, rest) h in
      let b = bind_ok (Q a.0.0 a.0.1) (λ b. Ok ((a.0.0, b.0), b.1)) (z, rest) a.2 in
      let o = ok_same ((a.0.0, b.0.0), b.0.1) (z, rest) b.2 in
      let e : (a.0.0, b.0.0) ≡ z = ap (λ t. t.0) o in
      let f : b.0.1 ≡ rest = ap (λ t. t.1) o in
      let g : a.0.0 ≡ z.0 = ap (λ t. t.0) e in
      let k : b.0.0 ≡ z.1 = ap (λ t. t.1) e in
      let l : P bs ≡ Ok (z.0, a.0.1) = a.1 ∙ ap (λ x. Ok (x, a.0.1)) g in
      let m : Q z.0 a.0.1 ≡ Ok (z.1, rest) = ap (λ x. Q x a.0.1) (sym g) ∙ b.1 ∙ ap (λ y. Ok (y, b.0.1)) k ∙ ap (λ r. Ok (z.1, r)) f in
      (a.0.1, l, m)

  refusals : (bs rest : List ℕ) → both P Q bs ≡ Err rest → (P bs ≡ Err rest) ⊎ ((x : X) × (r : List ℕ) × (P bs ≡ Ok (x, r)) × (Q x r ≡ Err rest))
  refusals bs rest h =
      elim (bind_err (P bs) (λ a. Q a.0 a.1 >>= λ b. Ok ((a.0, b.0), b.1)) rest h) [
        | inl e ↦ inl e
        | inr a ↦ elim (bind_err (Q a.0.0 a.0.1) (λ b. Ok ((a.0.0, b.0), b.1)) rest a.2) [
          | inl e ↦ inr (a.0.0, a.0.1, a.1, e)
          | inr b ↦ absurd (ok_err ((a.0.0, b.0.0), b.0.1) rest b.2)
        ]
      ]

  both_sound : (bs : List ℕ) (z : X × Y) (rest : List ℕ) → both P Q bs ≡ Ok (z, rest) → AreBoth V W z × (bs ≡ after text text' z ++ rest)
  both_sound bs z rest h =
      let a = parts bs z rest h in
      let b = p.sound bs z.0 a.0 a.1 in
      let c = (q z.0 b.0).sound a.0 z.1 rest a.2 in
      ((b.0, c.0), b.1 ∙ ap (λ r. text z.0 ++ r) c.1 ∙ sym (append_assoc (text z.0) (text' z.0 z.1) rest))

  both_stops : (bs : List ℕ) (z : X × Y) (c : ℕ) (r : List ℕ) → both P Q bs ≡ Ok (z, c ∷ r) → (y : X × Y) (u : List ℕ) → AreBoth V W y → after text text' y ≡ after text text' z ++ (c ∷ u) → ⊥
  both_stops bs z c r h y u v e =
      let a = parts bs z (c ∷ r) h in
      let b = p.sound bs z.0 a.0 a.1 in
      let d = (q z.0 b.0).sound a.0 z.1 (c ∷ r) a.2 in
      let l = lined bs z.0 (text' z.0 z.1) c r u (a.1 ∙ ap (λ r. Ok (z.0, r)) d.1) y.0 y.1 v.0 v.1 (sym (append_assoc (text z.0) (text' z.0 z.1) (c ∷ u)) ∙ sym e) in
      (q z.0 b.0).stops a.0 z.1 c r a.2 y.1 u (subst (λ x. W x y.1) (sym l.0) v.1) (ap (λ x. text' x y.1) l.0 ∙ sym l.1)

  both_viable : (bs rest : List ℕ) → both P Q bs ≡ Err rest → (s : List ℕ) × (y : X × Y) × (t : List ℕ) × (bs ≡ s ++ rest) × AreBoth V W y × (after text text' y ≡ s ++ t)
  both_viable bs rest h =
      elim (refusals bs rest h) [
        | inl e ↦
            let a = p.viable bs rest e in
            let b = (q a.1 a.4).some in
            (a.0, (a.1, b.0), a.2 ++ text' a.1 b.0, a.3, (a.4, b.1), ap (λ t. t ++ text' a.1 b.0) a.5 ∙ append_assoc a.0 a.2 (text' a.1 b.0))
        | inr a ↦
            let b = p.sound bs a.0 a.1 a.2 in
            let c = (q a.0 b.0).viable a.1 rest a.3 in
            (text a.0 ++ c.0, (a.0, c.1), c.2, b.1 ∙ ap (λ t. text a.0 ++ t) c.3 ∙ sym (append_assoc (text a.0) c.0 rest), (b.0, c.4), ap (λ t. text a.0 ++ t) c.5 ∙ sym (append_assoc (text a.0) c.0 c.2))
      ]

  both_none : (bs rest : List ℕ) → both P Q bs ≡ Err rest → (y : X × Y) (r : List ℕ) → AreBoth V W y → bs ≡ after text text' y ++ r → ⊥
  both_none bs rest h y r v e =
      let f = e ∙ append_assoc (text y.0) (text' y.0 y.1) r in
      elim (refusals bs rest h) [
        | inl g ↦ p.none bs rest g y.0 (text' y.0 y.1 ++ r) v.0 f
        | inr a ↦
            let b = p.sound bs a.0 a.1 a.2 in
            let m = met bs a.0 a.1 a.2 y.0 (text' y.0 y.1 ++ r) v.0 (sym b.1 ∙ f) (λ c u k l. apart y.0 y.1 c r u v.0 v.1 k l) in
            (q a.0 b.0).none a.1 rest a.3 y.1 r (subst (λ x. W x y.1) (sym m.0) v.1) (m.1 ∙ ap (λ x. text' x y.1 ++ r) (sym m.0))
      ]

  both_stuck : (bs s : List ℕ) (c : ℕ) (r : List ℕ) → both P Q bs ≡ Err (c ∷ r) → bs ≡ s ++ (c ∷ r) → (y : X × Y) (u : List ℕ) → AreBoth V W y → after text text' y ≡ s ++ (c ∷ u) → ⊥
  both_stuck bs s c r h k y u v e =
      elim (refusals bs (c ∷ r) h) [
        | inl g ↦
            elim (cut (text y.0) (text' y.0 y.1) s (c ∷ u) e) [
              | longer d w a b ↦ let f : d ≡ c = cc in p.stuck bs s c r g k y.0 w v.0 (a ∙ ap (λ i. s ++ (i ∷ w)) f)
              | equal a b ↦ p.none bs (c ∷ r) g y.0 (c ∷ r) v.0 (k ∙ ap (λ t. t ++ (c ∷ r)) (sym a))
              | shorter d w a b ↦ p.none bs (c ∷ r) g y.0 ((d ∷ w) ++ (c ∷ r)) v.0 (k ∙ ap (λ t. t ++ (c ∷ r)) a ∙ append_assoc (text y.0) (d ∷ w) (c ∷ r))
            ]
        | inr a ↦
            let b = p.sound bs a.0 a.1 a.2 in
            let o = (q a.0 b.0).viable a.1 (c ∷ r) a.3 in
            let n : s ≡ text a.0 ++ o.0 = append_cancel_right s (text a.0 ++ o.0) (c ∷ r) (sym k ∙ b.1 ∙ ap (λ t. text a.0 ++ t) o.3 ∙ sym (append_assoc (text a.0) o.0 (c ∷ r))) in
            let l = lined bs a.0 o.0 c r u (a.2 ∙ ap (λ t. Ok (a.0, t)) o.3) y.0 y.1 v.0 v.1 (sym (append_assoc (text a.0) o.0 (c ∷ u)) ∙ ap (λ t. t ++ (c ∷ u)) (sym n) ∙ sym e) in
            (q a.0 b.0).stuck a.1 o.0 c r a.3 o.3 y.1 u (subst (λ x. W x y.1) (sym l.0) v.1) (ap (λ x. text' x y.1) l.0 ∙ sym l.1)
      ]

  both_grows : (x y : X × Y) (c : ℕ) (u : List ℕ) → AreBoth V W x → AreBoth V W y → after text text' x ≡ after text text' y ++ (c ∷ u) → More' c
  both_grows x y c u v w e =
      elim (cut (text x.0) (text' x.0 x.1) (text y.0) (text' y.0 y.1 ++ (c ∷ u)) (e ∙ append_assoc (text y.0) (text' y.0 y.1) (c ∷ u))) [
        | longer d k a b ↦ absurd (apart y.0 y.1 d (c ∷ u) (k ++ text' x.0 x.1) w.0 w.1 (p.grows x.0 y.0 d k v.0 w.0 a) b)
        | equal a b ↦
            let f = p.same x.0 y.0 v.0 w.0 a in
            (q y.0 w.0).grows x.1 y.1 c u (subst (λ i. W i x.1) f v.1) w.1 (ap (λ i. text' i x.1) (sym f) ∙ b)
        | shorter d k a b ↦ absurd (apart x.0 x.1 d [] (k ++ (text' y.0 y.1 ++ (c ∷ u))) v.0 v.1 (p.grows y.0 x.0 d k w.0 v.0 a) (append-nil (text' x.0 x.1) ∙ b))
      ]

  both_same : (x y : X × Y) → AreBoth V W x → AreBoth V W y → after text text' x ≡ after text text' y → x ≡ y
  both_same x y v w e =
      elim (cut (text x.0) (text' x.0 x.1) (text y.0) (text' y.0 y.1) e) [
        | longer d k a b ↦ absurd (apart y.0 y.1 d [] (k ++ text' x.0 x.1) w.0 w.1 (p.grows x.0 y.0 d k v.0 w.0 a) (append-nil (text' y.0 y.1) ∙ b))
        | equal a b ↦
            let f = p.same x.0 y.0 v.0 w.0 a in
            let g = (q y.0 w.0).same x.1 y.1 (subst (λ i. W i x.1) f v.1) w.1 (ap (λ i. text' i x.1) (sym f) ∙ b) in
            pair f g
        | shorter d k a b ↦ absurd (apart x.0 x.1 d [] (k ++ text' y.0 y.1) v.0 v.1 (p.grows y.0 x.0 d k w.0 v.0 a) (append-nil (text' x.0 x.1) ∙ b))
      ]

  pub both_Reads : Reads (after text text') (AreBoth V W) More' (both P Q)
  both_Reads = record {
    sound = both_sound;
    stops = both_stops;
    viable = both_viable;
    stuck = both_stuck;
    none = both_none;
    grows = both_grows;
    same = both_same;
    some = let a = p.some in let b = (q a.0 a.1).some in ((a.0, b.0), (a.1, b.1));
  }
