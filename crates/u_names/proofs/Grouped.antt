-- Groups of activities.
use Rattle.std.proofs.Common.{◌≡◌, inl, inr, ℕ, zero, suc, ◌+◌, ◌*◌, ◌<◌, ◌≤◌, ◌%◌, ◌/◌, List, [], ◌∷◌, ◌++◌, Contains, length, Some, subst, sym, ap, ◌∙◌, refl, arith}
use Rattle.std.specs.Prelude.{None, slice_get, ◌^◌}
use Rattle.u_base.specs.Firing.{Distinct}
use Rattle.u_base.proofs.Member.{Contains-nil, Contains-head, Contains-tail, Contains-cons_cases}
use Rattle.u_name.specs.Name.{Activity, activity}
use Rattle.u_sets.specs.Members.{GoesLast}
use Rattle.u_names.specs.Frames.{beside}
use Rattle.u_names.specs.Groups.{behind, leader, later, groups, AreLeaders, Grows}
use Rattle.u_names.proofs.Mapped.{below_at, old_or_last}

pub groups_length : (ls : List Activity) → length (groups ls) ≡ 3 * length ls
groups_length [] = refl
groups_length (a ∷ ls) = let q = groups_length ls in omega (arith, q)

-- the activities of a group stand behind one another
pub get_group : (ls : List Activity) (i k : ℕ) (a : Activity) → k < 3 → slice_get ls i ≡ Some a → slice_get (groups ls) (3 * i + k) ≡ Some (later a k)
get_group [] i k a l e = absurd (cc)
get_group (b ∷ ls) zero zero a l e = let h : b ≡ a = cc in ap (λ (x : Activity). Some (later x 0)) h
get_group (b ∷ ls) zero (suc zero) a l e = let h : b ≡ a = cc in ap (λ (x : Activity). Some (later x 1)) h
get_group (b ∷ ls) zero (suc (suc zero)) a l e = let h : b ≡ a = cc in ap (λ (x : Activity). Some (later x 2)) h
get_group (b ∷ ls) zero (suc (suc (suc k))) a l e = absurd (omega (arith, l))
get_group (b ∷ ls) (suc i) k a l e =
    let n : 3 * suc i + k ≡ suc (suc (suc (3 * i + k))) = omega arith in
    subst (λ (m : ℕ). slice_get (groups (b ∷ ls)) m ≡ Some (later a k)) (sym n) (get_group ls i k a l e)

pub none_group : (ls : List Activity) (i k : ℕ) → k < 3 → slice_get ls i ≡ None → slice_get (groups ls) (3 * i + k) ≡ None
none_group [] i k l e = refl
none_group (b ∷ ls) zero k l e = absurd (cc)
none_group (b ∷ ls) (suc i) k l e =
    let n : 3 * suc i + k ≡ suc (suc (suc (3 * i + k))) = omega arith in
    subst (λ (m : ℕ). slice_get (groups (b ∷ ls)) m ≡ None) (sym n) (none_group ls i k l e)

-- what is in a group is so many statements behind the first one
abbrev pub IsIn : List Activity → Activity → Type 0
IsIn ls x = (a : Activity) × Contains ls a × ((k : ℕ) × (k < 3) × (later a k ≡ x))

pub of_group : (ls : List Activity) (x : Activity) → Contains (groups ls) x → IsIn ls x
of_group [] x m = absurd (Contains-nil x m)
of_group (a ∷ ls) x m = elim (Contains-cons_cases (later a 0) x (later a 1 ∷ later a 2 ∷ groups ls) m) [
  | inl e ↦ (a, Contains-head a ls, (0, omega arith, e))
  | inr n ↦ elim (Contains-cons_cases (later a 1) x (later a 2 ∷ groups ls) n) [
    | inl e ↦ (a, Contains-head a ls, (1, omega arith, e))
    | inr o ↦ elim (Contains-cons_cases (later a 2) x (groups ls) o) [
      | inl e ↦ (a, Contains-head a ls, (2, omega arith, e))
      | inr p ↦ let r = of_group ls x p in (r.0, Contains-tail a r.0 ls r.1, r.2)
    ]
  ]
]

-- the first statement of a group
abbrev pub IsFirst : ℕ → Type 0
IsFirst s = (behind s ≡ 0) × (1 ≤ s) × (s ≤ 999)

pub first_is : (s : ℕ) → 1 ≤ s → s ≤ 999 → IsFirst (leader s)
first_is s l m = (omega (arith, l, m), omega (arith, l, m), omega (arith, l, m))

pub leader_behind : (s : ℕ) → 1 ≤ s → leader s + behind s ≡ s
leader_behind s l = omega (arith, l)

one_first : (s t k j : ℕ) → IsFirst s → IsFirst t → k < 3 → j < 3 → s + k ≡ t + j → s ≡ t
one_first s t k j f g l m e = let p = f.0 in let q = g.0 in let u = f.1 in let v = g.1 in omega (arith, p, q, u, v, l, m, e)

same_statement : (a b : Activity) → a.context ≡ b.context → a.block ≡ b.block → a.statement ≡ b.statement → a.initiation ≡ b.initiation → a ≡ b
same_statement a b c k s i =
    ap (λ t. activity t a.block a.statement a.initiation) c
    ∙ ap (λ (x : List ℕ). activity b.context x a.statement a.initiation) k
    ∙ ap (λ (n : ℕ). activity b.context b.block n a.initiation) s
    ∙ ap (λ (n : ℕ). activity b.context b.block b.statement n) i

-- an activity is in one group
pub one_leader : (a b : Activity) (k j : ℕ) → IsFirst a.statement → IsFirst b.statement → k < 3 → j < 3 → later a k ≡ later b j → a ≡ b
one_leader a b k j f g l m e =
    same_statement a b (ap (λ (x : Activity). x.context) e) (ap (λ (x : Activity). x.block) e)
    (one_first a.statement b.statement k j f g l m (ap (λ (x : Activity). x.statement) e)) (ap (λ (x : Activity). x.initiation) e)

apart : (a : Activity) (k j : ℕ) → (k ≡ j → ⊥) → later a k ≡ later a j → ⊥
apart a k j n e = let q : a.statement + k ≡ a.statement + j = ap (λ (x : Activity). x.statement) e in n (omega (arith, q))

pub groups_distinct : (ls : List Activity) → ((a : Activity) → Contains ls a → IsFirst a.statement) → Distinct ls → Distinct (groups ls)
groups_distinct [] f d = tt
groups_distinct (a ∷ ls) f d = (zeroth, (first, (second, groups_distinct ls (λ b n. f b (Contains-tail a b ls n)) d.1)))
  where
    elsewhere : (k : ℕ) → k < 3 → Contains (groups ls) (later a k) → ⊥
    elsewhere k l m =
        let r = of_group ls (later a k) m in
        let e = one_leader r.0 a r.2.0 k (f r.0 (Contains-tail a r.0 ls r.1)) (f a (Contains-head a ls)) r.2.1 l r.2.2 in
        d.0 (subst (λ (b : Activity). Contains ls b) e r.1)

    zeroth : Contains (later a 1 ∷ later a 2 ∷ groups ls) (later a 0) → ⊥
    zeroth m = elim (Contains-cons_cases (later a 1) (later a 0) (later a 2 ∷ groups ls) m) [
      | inl e ↦ apart a 1 0 (λ h. absurd (omega (arith, h))) e
      | inr n ↦ elim (Contains-cons_cases (later a 2) (later a 0) (groups ls) n) [
        | inl e ↦ apart a 2 0 (λ h. absurd (omega (arith, h))) e
        | inr o ↦ elsewhere 0 (omega arith) o
      ]
    ]

    first : Contains (later a 2 ∷ groups ls) (later a 1) → ⊥
    first m = elim (Contains-cons_cases (later a 2) (later a 1) (groups ls) m) [ inl e ↦ apart a 2 1 (λ h. absurd (omega (arith, h))) e | inr o ↦ elsewhere 1 (omega arith) o ]

    second : Contains (groups ls) (later a 2) → ⊥
    second m = elsewhere 2 (omega arith) m

-- an activity whose group has no number has none
pub no_group : (ls : List Activity) (x : Activity) → ((a : Activity) → Contains ls a → IsFirst a.statement) → 1 ≤ x.statement → x.statement ≤ 999 → (Contains ls (beside x (leader x.statement)) → ⊥) → Contains (groups ls) x → ⊥
no_group ls x f l u none m =
    let r = of_group ls x m in
    let own : later (beside x (leader x.statement)) (behind x.statement) ≡ x = ap (λ (n : ℕ). beside x n) (leader_behind x.statement l) in
    let e = one_leader r.0 (beside x (leader x.statement)) r.2.0 (behind x.statement) (f r.0 r.1) (first_is x.statement l u) r.2.1 (omega arith) (r.2.2 ∙ sym own) in
    none (subst (λ (b : Activity). Contains ls b) e r.1)

-- the number of an activity, by its group's
pub number_in : (ls : List Activity) (x : Activity) (i : ℕ) → 1 ≤ x.statement → slice_get ls i ≡ Some (beside x (leader x.statement)) → slice_get (groups ls) (3 * i + behind x.statement) ≡ Some x
number_in ls x i l e =
    get_group ls i (behind x.statement) (beside x (leader x.statement)) (omega arith) e ∙ ap (λ (n : ℕ). Some (beside x n)) (leader_behind x.statement l)

-- a number is that of a place in a group
pub at_number : (ls : List Activity) (n : ℕ) (a : Activity) → slice_get ls (n / 3) ≡ Some a → slice_get (groups ls) n ≡ Some (later a (n % 3))
at_number ls n a e =
    let is : 3 * (n / 3) + n % 3 ≡ n = omega arith in
    subst (λ (m : ℕ). slice_get (groups ls) m ≡ Some (later a (n % 3))) is (get_group ls (n / 3) (n % 3) a (omega arith) e)

pub no_number_at : (ls : List Activity) (n : ℕ) → slice_get ls (n / 3) ≡ None → slice_get (groups ls) n ≡ None
no_number_at ls n e =
    let is : 3 * (n / 3) + n % 3 ≡ n = omega arith in
    subst (λ (m : ℕ). slice_get (groups ls) m ≡ None) is (none_group ls (n / 3) (n % 3) (omega arith) e)

pub behind_first : (s k : ℕ) → IsFirst s → k < 3 → (1 ≤ s + k) × (s + k ≤ 999)
behind_first s k f l = let p = f.0 in let u = f.1 in let v = f.2 in (omega (arith, p, u, v, l), omega (arith, p, u, v, l))

pub place_small : (ls : List Activity) (i : ℕ) (x : Activity) → slice_get ls i ≡ Some x → length ls ≤ 2 ^ 62 → 3 * i + 3 ≤ 3 * 2 ^ 62
place_small ls i x e l = let k = below_at ls i x e in omega (arith, k, l)

groups_last : (ls : List Activity) (a : Activity) → groups (ls ++ a ∷ []) ≡ groups ls ++ groups (a ∷ [])
groups_last [] a = refl
groups_last (b ∷ ls) a = ap (λ (bs : List Activity). later b 0 ∷ later b 1 ∷ later b 2 ∷ bs) (groups_last ls a)

append_none : (xs : List Activity) → xs ≡ xs ++ []
append_none [] = refl
append_none (x ∷ xs) = ap (λ (ys : List Activity). x ∷ ys) (append_none xs)

pub groups_grow : (ls ms : List Activity) (a : Activity) → GoesLast ls a ms → Grows (groups ls) (groups ms)
groups_grow ls ms a (inl (m, e)) = ([], ap (λ (bs : List Activity). groups bs) e ∙ append_none (groups ls))
groups_grow ls ms a (inr (n, e)) = (groups (a ∷ []), ap (λ (bs : List Activity). groups bs) e ∙ groups_last ls a)

pushed : (ls : List Activity) (a : Activity) → length (ls ++ a ∷ []) ≡ suc (length ls)
pushed [] a = refl
pushed (b ∷ ls) a = ap suc (pushed ls a)

one_more : (ls ms : List Activity) (a : Activity) → GoesLast ls a ms → length ms ≤ suc (length ls)
one_more ls ms a (inl (m, e)) = let q = ap length e in omega (arith, q)
one_more ls ms a (inr (n, e)) = let q = ap length e in let k = pushed ls a in omega (arith, q, k)

pub more_leaders : (ls ms : List Activity) (a : Activity) → GoesLast ls a ms → Distinct ms → IsFirst a.statement → length ls < 2 ^ 62 → AreLeaders ls → AreLeaders ms
more_leaders ls ms a g d f l n = record {
  distinct = d;
  first = λ b m. elim (old_or_last ls ms a b g m) [ inl o ↦ n.first b o | inr e ↦ subst (λ (x : Activity). IsFirst x.statement) e f ];
  few = let k = one_more ls ms a g in omega (arith, k, l);
}

pub new_small : (ls ms : List Activity) (a : Activity) (i : ℕ) (x : Activity) → GoesLast ls a ms → slice_get ms i ≡ Some x → length ls < 2 ^ 62 → 3 * i + 3 ≤ 3 * 2 ^ 62
new_small ls ms a i x g e l = let k = below_at ms i x e in let n = one_more ls ms a g in omega (arith, k, l, n)
