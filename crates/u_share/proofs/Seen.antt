-- Lines of which the same first bytes are kept are seen alike.
use Rattle.std.specs.Prelude.{◌≡◌, ℕ, ◌+◌, ◌≤◌, List, [], ◌∷◌, ◌++◌, ◌⊎◌, length, Option, Some, None}
use Rattle.std.proofs.Common.{sym, ◌∙◌, ap, subst, inl, inr, arith, append_assoc}
use Rattle.std.proofs.lemmas.List.Elements.{Contains-append_left, Contains-append_right, Contains-append_cases}
use Rattle.u_base.proofs.Member.{Contains-nil, Contains-head, Contains-tail, Contains-cons_cases}
use Rattle.u_check.specs.Jobs.{JobParts}
use Rattle.u_rule.specs.declared.firing.Firing.{Firing}
use Rattle.u_share.specs.Lines.{longest, first_of, IsLineOf, IsAmong, IsFaultOf, IsSeenAs, IsTold, AreTold}
use Rattle.u_share.specs.declared.line_fault.LineFault.{LineFault}
use Rattle.u_share.specs.declared.line_fault.LineFault.TheVariants.{TooLong, NotAllowed, NotOfThisJob, CutShort}
use Rattle.u_share.proofs.Fronts.{fronts, short_same, long_same}

-- one line

pub line_alike : (job : JobParts) (l l' : List ℕ) (f : Firing) → first_of l ≡ first_of l' → IsLineOf job l f → IsLineOf job l' f
line_alike job l l' f e p = subst (λ (x : List ℕ). IsLineOf job x f) (short_same longest l l' e p.short) p

fault_alike : (job : JobParts) (l l' : List ℕ) (w : LineFault) → first_of l ≡ first_of l' → IsFaultOf job l w → IsFaultOf job l' w
fault_alike job l l' TooLong e p = long_same longest l l' e p
fault_alike job l l' NotAllowed e p = subst (λ (x : List ℕ). IsFaultOf job x NotAllowed) (short_same longest l l' e p.0) p
fault_alike job l l' NotOfThisJob e p = subst (λ (x : List ℕ). IsFaultOf job x NotOfThisJob) (short_same longest l l' e p.0) p
fault_alike job l l' CutShort e p = absurd p

seen_alike : (job : JobParts) (l l' : List ℕ) (w : Option LineFault) → first_of l ≡ first_of l' → IsSeenAs job l w → IsSeenAs job l' w
seen_alike job l l' None e (inl n) =
    let z : length l ≤ longest = omega (arith, ap length n) in
    inl (sym (short_same longest l l' e z) ∙ n)
seen_alike job l l' None e (inr p) = inr (p.0, line_alike job l l' p.0 e p.1)
seen_alike job l l' (Some w) e p = fault_alike job l l' w e p

pub told_alike : (job : JobParts) (n : ℕ) (l l' t : List ℕ) → first_of l ≡ first_of l' → IsTold job n l t → IsTold job n l' t
told_alike job n l l' t e p = (p.0, seen_alike job l l' p.0 e p.1, p.2)

-- lists of lines

pub among_alike : (job : JobParts) (ls ls' : List (List ℕ)) (f : Firing) → fronts (longest + 1) ls ≡ fronts (longest + 1) ls' → IsAmong job ls f → IsAmong job ls' f
among_alike job [] ls' f e a = absurd (Contains-nil a.0 a.1)
among_alike job (l ∷ ls) [] f e a = absurd (cc)
among_alike job (l ∷ ls) (l' ∷ ls') f e (line, m, p) =
    let h : first_of l ≡ first_of l' = cc in
    let t : fronts (longest + 1) ls ≡ fronts (longest + 1) ls' = cc in
    elim (Contains-cons_cases l line ls m) [
      | inl q ↦ (l', Contains-head l' ls', line_alike job l l' f h (subst (λ (x : List ℕ). IsLineOf job x f) (sym q) p))
      | inr k ↦ let a = among_alike job ls ls' f t (line, k, p) in (a.0, Contains-tail l' a.0 ls' a.1, a.2)
    ]

pub tells_alike : (job : JobParts) (n : ℕ) (ls ls' : List (List ℕ)) (t : List ℕ) → fronts (longest + 1) ls ≡ fronts (longest + 1) ls' → AreTold job n ls t → AreTold job n ls' t
tells_alike job n [] [] t e a = a
tells_alike job n [] (l' ∷ ls') t e a = absurd (cc)
tells_alike job n (l ∷ ls) [] t e a = absurd (cc)
tells_alike job n (l ∷ ls) (l' ∷ ls') t e (x, r, told, rest, is) =
    let h : first_of l ≡ first_of l' = cc in
    let s : fronts (longest + 1) ls ≡ fronts (longest + 1) ls' = cc in
    (x, r, told_alike job n l l' x h told, tells_alike job (n + 1) ls ls' r s rest, is)

pub tells_append : (job : JobParts) (n m : ℕ) (ls ls' : List (List ℕ)) (t t' : List ℕ) → m ≡ n + length ls → AreTold job n ls t → AreTold job m ls' t' → AreTold job n (ls ++ ls') (t ++ t')
tells_append job n m [] ls' t t' e a b =
    let same : m ≡ n = omega (arith, e) in
    subst (λ (x : List ℕ). AreTold job n ls' x) (sym (ap (λ (x : List ℕ). x ++ t') a)) (subst (λ (k : ℕ). AreTold job k ls' t') same b)
tells_append job n m (l ∷ ls) ls' t t' e (x, r, told, rest, is) b =
    let next : m ≡ n + 1 + length ls = omega (arith, e) in
    (x, r ++ t', told, tells_append job (n + 1) m ls ls' r t' next rest b, ap (λ (y : List ℕ). y ++ t') is ∙ append_assoc x r t')

pub among_left : (job : JobParts) (ls ls' : List (List ℕ)) (f : Firing) → IsAmong job ls f → IsAmong job (ls ++ ls') f
among_left job ls ls' f (line, m, p) = (line, Contains-append_left ls ls' line m, p)

pub among_right : (job : JobParts) (ls ls' : List (List ℕ)) (f : Firing) → IsAmong job ls' f → IsAmong job (ls ++ ls') f
among_right job ls ls' f (line, m, p) = (line, Contains-append_right ls ls' line m, p)

pub among_cases : (job : JobParts) (ls ls' : List (List ℕ)) (f : Firing) → IsAmong job (ls ++ ls') f → IsAmong job ls f ⊎ IsAmong job ls' f
among_cases job ls ls' f (line, m, p) = elim (Contains-append_cases ls ls' line m) [ inl k ↦ inl (line, k, p) | inr k ↦ inr (line, k, p) ]

pub among_none : (job : JobParts) (f : Firing) → IsAmong job [] f → ⊥
among_none job f (line, m, p) = Contains-nil line m
