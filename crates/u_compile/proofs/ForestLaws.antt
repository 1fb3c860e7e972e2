-- Parents that are found node by node, and whose values are wanted.
use Rattle.std.proofs.Common.{◌≡◌, ℕ, zero, suc, ◌+◌, ◌-◌, ◌<◌, ◌≤◌, ◌⊎◌, inl, inr, refl, sym, ap, ◌∙◌, subst, arith, Bool, List, [], ◌∷◌, ◌++◌, length, set, Some, append_assoc, length-append}
use Rattle.std.specs.Prelude.{slice_get}
use Rattle.std.proofs.lemmas.Bool.{cases_eq}
use Rattle.std.proofs.lemmas.List.{append-nil, get_or-set_same, get_or-set_other, length-set}
use Rattle.std.proofs.lemmas.Option.{slice_get-get_or, slice_get_within, get_or_from_slice_get}
use Rattle.u_source.specs.declared.form.Node.{Node}
use Rattle.u_source.specs.Trees.{children}
use Rattle.u_compile.specs.Scoped.{IsOf}
use Rattle.u_compile.specs.Forests.{Adopts, AreRoots, AreParents, IsWantedBy, AreWanted, none, one_more}
use Rattle.u_compile.proofs.GateLaws.{of_append}
use Rattle.u_compile.proofs.DrawingLaws.{get_on, get_last}

some_one : {A : Type 0} (x y : A) → Some x ≡ Some y → x ≡ y
some_one x y e = cc

set_here : (xs : List ℕ) (i v : ℕ) → i < length xs → slice_get (set xs i v) i ≡ Some v
set_here xs i v h = slice_get-get_or (set xs i v) i 0 (omega (arith, h, length-set xs i v)) ∙ ap Some (get_or-set_same xs i v 0 h)

set_elsewhere : (xs : List ℕ) (i v j x : ℕ) → (j ≡ i → ⊥) → slice_get xs j ≡ Some x → slice_get (set xs i v) j ≡ Some x
set_elsewhere xs i v j x other is =
    let h = slice_get_within xs j x is in
    slice_get-get_or (set xs i v) j 0 (omega (arith, h, length-set xs i v)) ∙ ap Some (get_or-set_other xs i j v 0 other ∙ get_or_from_slice_get xs j x 0 is)

pub adopts_none : (n : ℕ) (ps roots : List ℕ) → Adopts n 0 ps roots ps roots
adopts_none n ps roots = record { taken = []; were = sym (append-nil roots); many = refl; same = refl; sets = λ c h. absurd h; others = λ c p h is. is }

pub adopts_more : (n count child : ℕ) (ps roots qs left rs less : List ℕ) → Adopts n count ps roots qs left → left ≡ less ++ (child ∷ []) → child < length qs → rs ≡ set qs child n → Adopts n (count + 1) ps roots rs less
adopts_more n count child ps roots qs left rs less a pop h is = record {
  taken = child ∷ a.taken;
  were = a.were ∙ (ap (λ (xs : List ℕ). xs ++ a.taken) pop ∙ append_assoc less (child ∷ []) a.taken);
  many = omega (arith, a.many);
  same = ap length is ∙ (length-set qs child n ∙ a.same);
  sets = λ c i. ap (λ (xs : List ℕ). slice_get xs c) is ∙ by c (cases_eq c child) i;
  others = λ c p never at. ap (λ (xs : List ℕ). slice_get xs c) is ∙ set_elsewhere qs child n c p (λ e. never (inl (sym e))) (a.others c p (λ i. never (inr i)) at);
}
  where
    by : (c : ℕ) → (c ≡ child) ⊎ (c ≡ child → ⊥) → IsOf (child ∷ a.taken) c → slice_get (set qs child n) c ≡ Some n
    by c (inl e) i = subst (λ (k : ℕ). slice_get (set qs child n) k ≡ Some n) (sym e) (set_here qs child n h)
    by c (inr e) (inl q) = absurd (e (sym q))
    by c (inr e) (inr i) = set_elsewhere qs child n c n e (a.sets c i)

-- the numbers rise, and lie below
Rises : ℕ → ℕ → List ℕ → Type 0
Rises low high [] = low ≤ high
Rises low high (x ∷ xs) = (low ≤ x) × Rises (x + 1) high xs

rises_below : (low high : ℕ) (xs : List ℕ) → Rises low high xs → low ≤ high
unfolding Rises
rises_below low high [] r = r
rises_below low high (x ∷ xs) r = let f = rises_below (x + 1) high xs r.1 in omega (arith, r.0, f)

-- one more at the end
rises_more : (low high : ℕ) (xs ys : List ℕ) → Rises low high (xs ++ ys) → Rises low (high + 1) (xs ++ (high ∷ []))
unfolding Rises
rises_more low high [] ys r = (rises_below low high ys r, omega arith)
rises_more low high (x ∷ xs) ys r = (r.0, rises_more (x + 1) high xs ys r.1)

rises_within : (low high : ℕ) (xs : List ℕ) (x : ℕ) → Rises low high xs → IsOf xs x → (low ≤ x) × (x < high)
unfolding Rises
rises_within low high [] x r i = absurd i
rises_within low high (y ∷ ys) x r (inl e) = let f = rises_below (y + 1) high ys r.1 in (omega (arith, r.0, e), omega (arith, f, e))
rises_within low high (y ∷ ys) x r (inr i) = let f = rises_within (y + 1) high ys x r.1 i in (omega (arith, r.0, f.0), f.1)

-- those before are others than those behind
rises_apart : (low high : ℕ) (xs ys : List ℕ) (a b : ℕ) → Rises low high (xs ++ ys) → IsOf xs a → IsOf ys b → a < b
unfolding Rises
rises_apart low high [] ys a b r i j = absurd i
rises_apart low high (x ∷ xs) ys a b r (inl e) j = let f = rises_within (x + 1) high (xs ++ ys) b r.1 (behind xs ys b j) in omega (arith, f.0, e)
  where
    behind : (xs ys : List ℕ) (b : ℕ) → IsOf ys b → IsOf (xs ++ ys) b
    behind [] ys b i = i
    behind (z ∷ zs) ys b i = inr (behind zs ys b i)
rises_apart low high (x ∷ xs) ys a b r (inr i) j = rises_apart (x + 1) high xs ys a b r.1 i j

roots_rise : (ns : List Node) (ps : List ℕ) (n : ℕ) (roots : List ℕ) → AreRoots ns ps n roots → Rises 0 n roots
unfolding Rises
roots_rise ns ps n roots none = omega arith
roots_rise ns ps n roots (one_more m x left taken are is many sets) = rises_more 0 m left taken (roots_rise ns ps m (left ++ taken) are)

of_behind : (xs ys : List ℕ) (b : ℕ) → IsOf ys b → IsOf (xs ++ ys) b
of_behind [] ys b i = i
of_behind (z ∷ zs) ys b i = inr (of_behind zs ys b i)

-- what is somebody's child stays so, while nothing else changes
roots_kept : (ns : List Node) (ps qs : List ℕ) (n : ℕ) (roots : List ℕ) → ((c m : ℕ) → c < m → slice_get ps c ≡ Some m → slice_get qs c ≡ Some m) → AreRoots ns ps n roots → AreRoots ns qs n roots
roots_kept ns ps qs n roots keep none = none
roots_kept ns ps qs n roots keep (one_more m x left taken are is many sets) =
    let rise = roots_rise ns ps m (left ++ taken) are in
    one_more m x left taken (roots_kept ns ps qs m (left ++ taken) keep are) is many (λ c i. keep c m (rises_within 0 m (left ++ taken) c rise (of_behind left taken c i)).1 (sets c i))

-- parents so far
pub record AreFound (ns : List Node) (ps roots : List ℕ) : Type 0 where
  pub are : AreRoots ns ps (length ps) roots
  pub own : (r : ℕ) → IsOf roots r → slice_get ps r ≡ Some r

pub found_none : (ns : List Node) → AreFound ns [] []
found_none ns = record { are = none; own = λ r h. absurd h }

-- with one node more
pub found_more : (ns : List Node) (x : Node) (n : ℕ) (ps roots qs left rs more : List ℕ) → AreFound ns ps roots → n ≡ length ps → slice_get ns n ≡ Some x → Adopts n (length (children x.form)) ps roots qs left → rs ≡ qs ++ (n ∷ []) → more ≡ left ++ (n ∷ []) → AreFound ns rs more
found_more ns x n ps roots qs left rs more f at is a pushed last =
    let whole : AreRoots ns ps n (left ++ a.taken) = subst (λ (xs : List ℕ). AreRoots ns ps n xs) a.were (subst (λ (k : ℕ). AreRoots ns ps k roots) (sym at) f.are) in
    let rise = roots_rise ns ps n (left ++ a.taken) whole in
    let kept = roots_kept ns ps (qs ++ (n ∷ [])) n (left ++ a.taken) (λ c m h e. get_on qs (n ∷ []) c m (a.others c m (λ i. own_not c m h e i) e)) whole in
    let good : AreRoots ns (qs ++ (n ∷ [])) (n + 1) (left ++ (n ∷ [])) = one_more n x left a.taken kept is a.many (λ c i. get_on qs (n ∷ []) c n (a.sets c i)) in
    let long : length rs ≡ n + 1 = ap length pushed ∙ (length-append qs (n ∷ []) ∙ omega (arith, a.same, at)) in
    record {
      are = subst (λ (k : ℕ). AreRoots ns rs k more) (sym long) (subst (λ (xs : List ℕ). AreRoots ns rs (n + 1) xs) (sym last) (subst (λ (xs : List ℕ). AreRoots ns xs (n + 1) (left ++ (n ∷ []))) (sym pushed) good));
      own = λ r i. ap (λ (xs : List ℕ). slice_get xs r) pushed ∙ own_by r rise (of_append left (n ∷ []) r (subst (λ (xs : List ℕ). IsOf xs r) last i));
    }
  where
    own_not : (c m : ℕ) → c < m → slice_get ps c ≡ Some m → IsOf a.taken c → ⊥
    own_not c m h e i =
        let root : IsOf roots c = subst (λ (xs : List ℕ). IsOf xs c) (sym a.were) (of_behind left a.taken c i) in
        let same : m ≡ c = some_one m c (sym e ∙ f.own c root) in
        omega (arith, h, same)

    of_before : (xs ys : List ℕ) (b : ℕ) → IsOf xs b → IsOf (xs ++ ys) b
    of_before [] ys b i = absurd i
    of_before (z ∷ zs) ys b (inl e) = inl e
    of_before (z ∷ zs) ys b (inr i) = inr (of_before zs ys b i)

    own_by : (r : ℕ) → Rises 0 n (left ++ a.taken) → IsOf left r ⊎ IsOf (n ∷ []) r → slice_get (qs ++ (n ∷ [])) r ≡ Some r
    own_by r rise (inl i) =
        let root : IsOf roots r = subst (λ (xs : List ℕ). IsOf xs r) (sym a.were) (of_before left a.taken r i) in
        get_on qs (n ∷ []) r r (a.others r r (λ j. let h = rises_apart 0 n left a.taken r r rise i j in absurd (omega (arith, h))) (f.own r root))
    own_by r rise (inr (inl e)) =
        let long : length qs ≡ n = a.same ∙ sym at in
        let here : slice_get (qs ++ (n ∷ [])) n ≡ Some n = ap (λ (k : ℕ). slice_get (qs ++ (n ∷ [])) k) (sym long) ∙ get_last qs n in
        subst (λ (k : ℕ). slice_get (qs ++ (n ∷ [])) k ≡ Some k) e here
    own_by r rise (inr (inr i)) = absurd i

pub parents_found : (ns : List Node) (ps roots : List ℕ) → AreFound ns ps roots → length ps ≡ length ns → AreParents ns ps
parents_found ns ps roots f many = record { many = many; roots = roots; are = subst (λ (k : ℕ). AreRoots ns ps k roots) many f.are; own = f.own }

-- what is said of a node stays so with more said of nodes before it
wanted_more : (ns : List Node) (ps : List ℕ) (ws : List Bool) (more : List Bool) (n : ℕ) (b : Bool) → length ns - 1 - n ≤ length ws → IsWantedBy ns ps ws n b → IsWantedBy ns ps (ws ++ more) n b
wanted_more ns ps ws more n b h is = record {
  node = is.node;
  is = is.is;
  parent = is.parent;
  below = is.below;
  above = is.above;
  there = is.there;
  inner = λ w up at. is.inner w up (before ws more (length ns - 1 - is.parent) w (closer up) at);
  root = is.root;
}
  where
    closer : n < is.parent → length ns - 1 - is.parent < length ws
    closer up = let in_list = slice_get_within ns is.parent is.above is.there in omega (arith, h, up, in_list)

    before : (xs ys : List Bool) (k : ℕ) (w : Bool) → k < length xs → slice_get (xs ++ ys) k ≡ Some w → slice_get xs k ≡ Some w
    before [] ys k w h at = absurd (omega (arith, h))
    before (x ∷ xs) ys zero w h at = at
    before (x ∷ xs) ys (suc k) w h at = before xs ys k w (omega (arith, h)) at

-- whose values are wanted, from the last node on
pub AreWantedSo : List Node → List ℕ → List Bool → Type 0
AreWantedSo ns ps ws = (n : ℕ) (b : Bool) → n < length ns → slice_get ws (length ns - 1 - n) ≡ Some b → IsWantedBy ns ps ws n b

pub wanted_none : (ns : List Node) (ps : List ℕ) → AreWantedSo ns ps []
unfolding AreWantedSo
wanted_none ns ps n b h e = cc

pub wanted_one_more : (ns : List Node) (ps : List ℕ) (ws vs : List Bool) (n : ℕ) (b : Bool) → AreWantedSo ns ps ws → n < length ns → length ws ≡ length ns - 1 - n → IsWantedBy ns ps ws n b → vs ≡ ws ++ (b ∷ []) → AreWantedSo ns ps vs
unfolding AreWantedSo
wanted_one_more ns ps ws vs n b so here long is pushed m c h e =
    subst (λ (xs : List Bool). IsWantedBy ns ps xs m c) (sym pushed) (by (cases_eq m n))
  where
    at : slice_get (ws ++ (b ∷ [])) (length ns - 1 - m) ≡ Some c
    at = sym (ap (λ (xs : List Bool). slice_get xs (length ns - 1 - m)) pushed) ∙ e

    inside : (xs : List Bool) (k : ℕ) → k ≤ length xs → (k ≡ length xs → ⊥) → slice_get (xs ++ (b ∷ [])) k ≡ Some c → slice_get xs k ≡ Some c
    inside [] zero l never q = absurd (never refl)
    inside [] (suc k) l never q = absurd (omega (arith, l))
    inside (x ∷ xs) zero l never q = q
    inside (x ∷ xs) (suc k) l never q = inside xs k (omega (arith, l)) (λ s. never (omega (arith, s))) q

    by : (m ≡ n) ⊎ (m ≡ n → ⊥) → IsWantedBy ns ps (ws ++ (b ∷ [])) m c
    by (inl same) =
        let value : Some b ≡ Some c = sym (get_last ws b) ∙ (ap (λ (k : ℕ). slice_get (ws ++ (b ∷ [])) k) (omega (arith, long, same)) ∙ at) in
        let w = wanted_more ns ps ws (b ∷ []) n b (omega (arith, long)) is in
        subst (λ (k : ℕ). IsWantedBy ns ps (ws ++ (b ∷ [])) k c) (sym same) (subst (λ (v : Bool). IsWantedBy ns ps (ws ++ (b ∷ [])) n v) (some_one b c value) w)
    by (inr other) =
        let within = slice_get_within (ws ++ (b ∷ [])) (length ns - 1 - m) c at in
        let most : length ns - 1 - m ≤ length ws = omega (arith, within, length-append ws (b ∷ [])) in
        let there = inside ws (length ns - 1 - m) most (λ q. other (omega (arith, q, long, here, h))) at in
        wanted_more ns ps ws (b ∷ []) m c most (so m c h there)

pub all_wanted : (ns : List Node) (ps : List ℕ) (ws : List Bool) → AreWantedSo ns ps ws → length ws ≡ length ns → AreWanted ns ps ws
unfolding AreWantedSo
all_wanted ns ps ws so many = record { many = many; each = so }
