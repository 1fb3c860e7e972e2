-- How a member goes on, step after step.
use Rattle.std.specs.Prelude.{◌≡◌, ℕ, suc, ◌+◌, ◌-◌, ◌≤◌, ◌<◌, List, [], ◌∷◌, ◌++◌, ◌⊎◌, length, take, slice_get, Some, Contains, refl}
use Rattle.std.proofs.Common.{sym, ◌∙◌, ap, subst, inl, inr, arith, append_assoc, append-nil, length-append}
use Rattle.std.proofs.lemmas.Bool.{cases_lt}
use Rattle.std.proofs.lemmas.List.{take-append-le, take-map, length-take}
use Rattle.std.proofs.lemmas.Option.{slice_get_within}
use Rattle.std.proofs.Math.Seq.{take-append-add}
use Rattle.std.proofs.lemmas.List.Elements.{Contains-append_left, Contains-append_right, Contains-append_cases}
use Rattle.u_base.specs.Pieces.{pieces, lines}
use Rattle.u_base.specs.Firing.{System, Cl, EachPlace, IsNextFrom}
use Rattle.u_base.proofs.Held.{Enabled-mono}
use Rattle.u_base.proofs.Closure.{Cl-mono}
use Rattle.u_base.proofs.Plain.{EachPlace-push}
use Rattle.u_check.specs.Jobs.{JobParts}
use Rattle.u_rule.specs.Rule.{own_of}
use Rattle.u_rule.specs.declared.firing.Firing.{Firing}
use Rattle.u_machine.specs.State.{State, Taken}
use Rattle.u_machine.specs.Calls.{firing_le}
use Rattle.u_share.specs.Lines.{longest, first_of, IsAmong, AreTold}
use Rattle.u_share.specs.Headline.{Member, Gains, IsKnownFrom, WasNext, AreFired, Goes}
use Rattle.u_share.proofs.Fronts.{fronts, fronts_length, pieces_go_on}
use Rattle.u_share.proofs.Seen.{among_alike, tells_alike, tells_append, among_left, among_right, among_cases}

-- what is taken

pub gains_join : (a b c : State) (M N P : Firing → Type 0) → Gains a M b → Gains b N c → ((f : Firing) → P f → M f ⊎ N f) → ((f : Firing) → M f ⊎ N f → P f) → Gains a P c
gains_join a b c M N P p q apart both = record { job = q.job ∙ p.job; limit = q.limit ∙ p.limit; taken = λ f. (to f, back f) }
  where
    to : (f : Firing) → Taken c f → Taken a f ⊎ P f
    to f t = elim ((q.taken f).0 t) [ inl x ↦ elim ((p.taken f).0 x) [ inl y ↦ inl y | inr m ↦ inr (both f (inl m)) ] | inr n ↦ inr (both f (inr n)) ]

    back : (f : Firing) → Taken a f ⊎ P f → Taken c f
    back f (inl y) = (q.taken f).1 (inl ((p.taken f).1 (inl y)))
    back f (inr x) = elim (apart f x) [ inl m ↦ (q.taken f).1 (inl ((p.taken f).1 (inr m))) | inr n ↦ (q.taken f).1 (inr n) ]

pub gains_same : (a b : State) (M N : Firing → Type 0) → Gains a M b → ((f : Firing) → N f → M f) → ((f : Firing) → M f → N f) → Gains a N b
gains_same a b M N p to back = record {
  job = p.job;
  limit = p.limit;
  taken = λ f. ((λ t. elim ((p.taken f).0 t) [ inl x ↦ inl x | inr m ↦ inr (back f m) ]), λ s. elim s [ inl x ↦ (p.taken f).1 (inl x) | inr n ↦ (p.taken f).1 (inr (to f n)) ]);
}

-- what is fired

pub next_same : {E F : Type 0} (s : System E F) (le : F → F → Type 0) (M N : F → Type 0) (ds es : List F) (f : F) → ((g : F) → M g ⊎ Contains ds g → N g ⊎ Contains es g) → ((g : F) → N g ⊎ Contains es g → M g ⊎ Contains ds g) → IsNextFrom s le M ds f → IsNextFrom s le N es f
next_same {E} {F} s le M N ds es f to back p = record {
  enabled = Enabled-mono s (Cl s (λ g. M g ⊎ Contains ds g)) (Cl s (λ g. N g ⊎ Contains es g)) (Cl-mono s (λ g. M g ⊎ Contains ds g) (λ g. N g ⊎ Contains es g) to) f p.enabled;
  new = λ t. p.new (back f t);
  least = λ g en. elim (p.least g (Enabled-mono s (Cl s (λ h. N h ⊎ Contains es h)) (Cl s (λ h. M h ⊎ Contains ds h)) (Cl-mono s (λ h. N h ⊎ Contains es h) (λ h. M h ⊎ Contains ds h) back) g en)) [ inl m ↦ inl (to g m) | inr l ↦ inr l ];
}

pub each_append : {F : Type 0} (P : List F → F → Type 0) (fs gs : List F) → EachPlace P fs → ((k : ℕ) (f : F) → slice_get gs k ≡ Some f → P (fs ++ take k gs) f) → EachPlace P (fs ++ gs)
each_append {F} P fs [] a b = subst (EachPlace P) (sym (append-nil fs)) a
each_append {F} P fs (g ∷ gs) a b =
    subst (EachPlace P) (append_assoc fs (g ∷ []) gs)
    (each_append P (fs ++ g ∷ []) gs (EachPlace-push P fs g a (subst (λ (xs : List F). P xs g) (append-nil fs) (b 0 g refl))) (λ k f e. subst (λ (xs : List F). P xs f) (sym (append_assoc fs (g ∷ []) (take k gs))) (b (suc k) f e)))

-- it is next once so many of the lines were read
abbrev NextAt : State → List (List ℕ) → List Firing → Firing → ℕ → Type 0
NextAt old lines done f n = IsNextFrom (own_of old.job) firing_le (IsKnownFrom old (take n lines)) done f

next_more : (old : State) (ls rest : List (List ℕ)) (done : List Firing) (f : Firing) (n : ℕ) → n ≤ length ls → NextAt old ls done f n → NextAt old (ls ++ rest) done f n
next_more old ls rest done f n l p =
    subst (λ (xs : List (List ℕ)). IsNextFrom (own_of old.job) firing_le (IsKnownFrom old xs) done f) (sym (take-append-le n ls rest l)) p

-- how many lines were read: r says it of the first firings, so many, and s of those behind them, by the lines behind the first ones
module _ (many before : ℕ) (r s : ℕ → ℕ) where
  abbrev pick : (n m : ℕ) → (m < many) ⊎ (many ≤ m) → ℕ
  pick n m (inl l) = r n
  pick n m (inr l) = before + s (n - many)

  abbrev counts : ℕ → ℕ
  counts n = pick n n (cases_lt n many)

  below : (n : ℕ) → n < many → counts n ≡ r n
  below n l = at (cases_lt n many)
    where
      at : (c : (n < many) ⊎ (many ≤ n)) → pick n n c ≡ r n
      at (inl p) = refl
      at (inr p) = absurd (omega (arith, l, p))

  behind : (k n : ℕ) → n ≡ many + k → counts n ≡ before + s k
  behind k n e = at (cases_lt n many)
    where
      at : (c : (n < many) ⊎ (many ≤ n)) → pick n n c ≡ before + s k
      at (inl p) = absurd (omega (arith, e, p))
      at (inr p) = let m : n - many ≡ k = omega (arith, e) in ap (λ (i : ℕ). before + s i) m

  rises : ((n : ℕ) → r n ≤ r (n + 1)) → ((n : ℕ) → r n ≤ before) → ((n : ℕ) → s n ≤ s (n + 1)) → (n : ℕ) → counts n ≤ counts (n + 1)
  rises rr rb sr n = at (cases_lt n many) (cases_lt (n + 1) many)
    where
      at : (c : (n < many) ⊎ (many ≤ n)) (d : (n + 1 < many) ⊎ (many ≤ n + 1)) → pick n n c ≤ pick (n + 1) (n + 1) d
      at (inl p) (inl q) = rr n
      at (inl p) (inr q) = let b = rb n in omega (arith, b)
      at (inr p) (inl q) = absurd (omega (arith, p, q))
      at (inr p) (inr q) =
          let m : n + 1 - many ≡ n - many + 1 = omega (arith, p) in
          let l : s (n - many) ≤ s (n + 1 - many) = subst (λ (i : ℕ). s (n - many) ≤ s i) (sym m) (sr (n - many)) in
          omega (arith, l)

  within : (most : ℕ) → ((n : ℕ) → r n ≤ before) → ((n : ℕ) → s n ≤ most) → (n : ℕ) → counts n ≤ before + most
  within most rb sb n = at (cases_lt n many)
    where
      at : (c : (n < many) ⊎ (many ≤ n)) → pick n n c ≤ before + most
      at (inl p) = let b = rb n in omega (arith, b)
      at (inr p) = let b = sb (n - many) in omega (arith, b)

-- and of those that were next behind them
module _ (a b : State) (ls : List (List ℕ)) (fs : List Firing) (p : Gains a (λ f. IsAmong a.job ls f ⊎ Contains fs f) b) where
  known_to : (xs ys : List (List ℕ)) (gs : List Firing) → fronts (longest + 1) xs ≡ fronts (longest + 1) ys → (g : Firing) → IsKnownFrom b xs g ⊎ Contains gs g → IsKnownFrom a (ls ++ ys) g ⊎ Contains (fs ++ gs) g
  known_to xs ys gs e g (inl (inl t)) = taken ((p.taken g).0 t)
    where
      taken : Taken a g ⊎ (IsAmong a.job ls g ⊎ Contains fs g) → IsKnownFrom a (ls ++ ys) g ⊎ Contains (fs ++ gs) g
      taken (inl t) = inl (inl t)
      taken (inr (inl m)) = inl (inr (among_left a.job ls ys g m))
      taken (inr (inr c)) = inr (Contains-append_left fs gs g c)
  known_to xs ys gs e g (inl (inr m)) = inl (inr (among_right a.job ls ys g (among_alike a.job xs ys g e (subst (λ (j : JobParts). IsAmong j xs g) p.job m))))
  known_to xs ys gs e g (inr c) = inr (Contains-append_right fs gs g c)

  known_back : (xs ys : List (List ℕ)) (gs : List Firing) → fronts (longest + 1) xs ≡ fronts (longest + 1) ys → (g : Firing) → IsKnownFrom a (ls ++ ys) g ⊎ Contains (fs ++ gs) g → IsKnownFrom b xs g ⊎ Contains gs g
  known_back xs ys gs e g (inl (inl t)) = inl (inl ((p.taken g).1 (inl t)))
  known_back xs ys gs e g (inl (inr m)) =
      elim (among_cases a.job ls ys g m) [
        | inl k ↦ inl (inl ((p.taken g).1 (inr (inl k))))
        | inr k ↦ inl (inr (subst (λ (j : JobParts). IsAmong j xs g) (sym p.job) (among_alike a.job ys xs g (sym e) k)))
      ]
  known_back xs ys gs e g (inr c) =
      elim (Contains-append_cases fs gs g c) [ inl k ↦ inl (inl ((p.taken g).1 (inr (inr k)))) | inr k ↦ inr k ]

  next_behind : (xs ys : List (List ℕ)) (done : List Firing) (f : Firing) (n : ℕ) → fronts (longest + 1) xs ≡ fronts (longest + 1) ys → NextAt b xs done f n → NextAt a (ls ++ ys) (fs ++ done) f (length ls + n)
  next_behind xs ys done f n e q =
      let few : fronts (longest + 1) (take n xs) ≡ fronts (longest + 1) (take n ys) =
      sym (take-map (take (longest + 1)) n xs) ∙ ap (λ (zs : List (List ℕ)). take n zs) e ∙ take-map (take (longest + 1)) n ys in
      let moved : IsNextFrom (own_of a.job) firing_le (IsKnownFrom b (take n xs)) done f =
      subst (λ (j : JobParts). IsNextFrom (own_of j) firing_le (IsKnownFrom b (take n xs)) done f) p.job q in
      subst (λ (zs : List (List ℕ)). IsNextFrom (own_of a.job) firing_le (IsKnownFrom a zs) (fs ++ done) f) (sym (take-append-add ls ys n))
      (next_same (own_of a.job) firing_le (IsKnownFrom b (take n xs)) (IsKnownFrom a (ls ++ take n ys)) done (fs ++ done) f (known_to (take n xs) (take n ys) done few) (known_back (take n xs) (take n ys) done few) moved)

  -- all that is fired
  pub fired_append : (xs ys : List (List ℕ)) (gs : List Firing) → fronts (longest + 1) xs ≡ fronts (longest + 1) ys → AreFired a ls fs → AreFired b xs gs → AreFired a (ls ++ ys) (fs ++ gs)
  fired_append xs ys gs e (r, rr, rb, first) (s, sr, sb, next) =
      (counts (length fs) (length ls) r s, rises (length fs) (length ls) r s rr rb sr, most, each_append (WasNext a (ls ++ ys) (counts (length fs) (length ls) r s)) fs gs left right)
    where
      most : (n : ℕ) → counts (length fs) (length ls) r s n ≤ length (ls ++ ys)
      most n =
          let l = within (length fs) (length ls) r s (length xs) rb sb n in
          let m = fronts_length (longest + 1) xs ys e in
          let k = length-append ls ys in
          omega (arith, l, m, k)

      left : (k : ℕ) (f : Firing) → slice_get fs k ≡ Some f → NextAt a (ls ++ ys) (take k fs) f (counts (length fs) (length ls) r s (length (take k fs)))
      left k f at =
          let i = slice_get_within fs k f at in
          let j = length-take k fs in
          subst (NextAt a (ls ++ ys) (take k fs) f) (sym (below (length fs) (length ls) r s (length (take k fs)) (omega (arith, i, j))))
          (next_more a ls ys (take k fs) f (r (length (take k fs))) (rb (length (take k fs))) (first k f at))

      right : (k : ℕ) (f : Firing) → slice_get gs k ≡ Some f → NextAt a (ls ++ ys) (fs ++ take k gs) f (counts (length fs) (length ls) r s (length (fs ++ take k gs)))
      right k f at =
          subst (NextAt a (ls ++ ys) (fs ++ take k gs) f) (sym (behind (length fs) (length ls) r s (length (take k gs)) (length (fs ++ take k gs)) (length-append fs (take k gs))))
          (next_behind xs ys (take k gs) f (s (length (take k gs))) e (next k f at))

  -- all that is taken
  pub gains_append : (xs ys : List (List ℕ)) (gs : List Firing) (c : State) → fronts (longest + 1) xs ≡ fronts (longest + 1) ys → Gains b (λ f. IsAmong b.job xs f ⊎ Contains gs f) c → Gains a (λ f. IsAmong a.job (ls ++ ys) f ⊎ Contains (fs ++ gs) f) c
  gains_append xs ys gs c e q =
      gains_join a b c (λ f. IsAmong a.job ls f ⊎ Contains fs f) (λ f. IsAmong b.job xs f ⊎ Contains gs f) (λ f. IsAmong a.job (ls ++ ys) f ⊎ Contains (fs ++ gs) f) p q apart both
    where
      apart : (f : Firing) → IsAmong a.job (ls ++ ys) f ⊎ Contains (fs ++ gs) f → (IsAmong a.job ls f ⊎ Contains fs f) ⊎ (IsAmong b.job xs f ⊎ Contains gs f)
      apart f (inl m) =
          elim (among_cases a.job ls ys f m) [
            | inl k ↦ inl (inl k)
            | inr k ↦ inr (inl (subst (λ (j : JobParts). IsAmong j xs f) (sym p.job) (among_alike a.job ys xs f (sym e) k)))
          ]
      apart f (inr c) = elim (Contains-append_cases fs gs f c) [ inl k ↦ inl (inr k) | inr k ↦ inr (inr k) ]

      both : (f : Firing) → (IsAmong a.job ls f ⊎ Contains fs f) ⊎ (IsAmong b.job xs f ⊎ Contains gs f) → IsAmong a.job (ls ++ ys) f ⊎ Contains (fs ++ gs) f
      both f (inl (inl m)) = inl (among_left a.job ls ys f m)
      both f (inl (inr c)) = inr (Contains-append_left fs gs f c)
      both f (inr (inl m)) = inl (among_right a.job ls ys f (among_alike a.job xs ys f e (subst (λ (j : JobParts). IsAmong j xs f) p.job m)))
      both f (inr (inr c)) = inr (Contains-append_right fs gs f c)

-- one step behind another
pub goes_on : (a b c : Member) (bs bs' : List ℕ) (fs fs' : List Firing) (t t' : List ℕ) → Goes a bs fs t b → Goes b bs' fs' t' c → Goes a (bs ++ bs') (fs ++ fs') (t ++ t') c
goes_on a b c bs bs' fs fs' t t' p q = put (pieces_go_on 10 (longest + 1) (a.begun ++ bs) bs' b.begun p.begun)
  where
    put : (rest : List (List ℕ)) × (lines ((a.begun ++ bs) ++ bs') ≡ lines (a.begun ++ bs) ++ rest) × (fronts (longest + 1) (lines (b.begun ++ bs')) ≡ fronts (longest + 1) rest) × (first_of (pieces 10 (b.begun ++ bs')).1 ≡ first_of (pieces 10 ((a.begun ++ bs) ++ bs')).1) → Goes a (bs ++ bs') (fs ++ fs') (t ++ t') c
    put (rest, split, alike, open_alike) =
        let assoc : (a.begun ++ bs) ++ bs' ≡ a.begun ++ (bs ++ bs') = append_assoc a.begun bs bs' in
        let all : lines (a.begun ++ (bs ++ bs')) ≡ lines (a.begun ++ bs) ++ rest = ap (λ (xs : List ℕ). lines xs) (sym assoc) ∙ split in
        let count = fronts_length (longest + 1) (lines (b.begun ++ bs')) rest alike in
        record {
          gains = subst (λ (ls : List (List ℕ)). Gains a.machine (λ f. IsAmong a.machine.job ls f ⊎ Contains (fs ++ fs') f) c.machine) (sym all)
              (gains_append a.machine b.machine (lines (a.begun ++ bs)) fs p.gains (lines (b.begun ++ bs')) rest fs' c.machine alike q.gains);
          fires = subst (λ (ls : List (List ℕ)). AreFired a.machine ls (fs ++ fs')) (sym all)
              (fired_append a.machine b.machine (lines (a.begun ++ bs)) fs p.gains (lines (b.begun ++ bs')) rest fs' alike p.fires q.fires);
          tells = subst (λ (ls : List (List ℕ)). AreTold a.machine.job (a.ended + 1) ls (t ++ t')) (sym all)
              (tells_append a.machine.job (a.ended + 1) (b.ended + 1) (lines (a.begun ++ bs)) rest t t' (let e = p.ended in omega (arith, e)) p.tells
              (tells_alike a.machine.job (b.ended + 1) (lines (b.begun ++ bs')) rest t' alike
              (subst (λ (j : JobParts). AreTold j (b.ended + 1) (lines (b.begun ++ bs')) t') p.gains.job q.tells)));
          begun = q.begun ∙ open_alike ∙ ap (λ (xs : List ℕ). first_of (pieces 10 xs).1) assoc;
          ended =
              let e = p.ended in
              let f = q.ended in
              let g = ap length all in
              let h = length-append (lines (a.begun ++ bs)) rest in
              omega (arith, e, f, g, h, count);
        }
