-- The order of the rules.
use Rattle.std.proofs.Common.{◌≡◌, ℕ, zero, suc, ◌+◌, ◌-◌, ◌<◌, ◌≤◌, refl, sym, ap, ◌∙◌, arith, lit≤, below_more, subst, List, [], ◌∷◌, get_or}
use Rattle.u_check.specs.declared.rule.Rule.{Rule}
use Rattle.u_check.specs.declared.rule.Rule.TheVariants.{BlockNamesDiffer, MainExists, BeginComesFirst, RegionExists, DestinationExists, BeginAndBackTakeNothing, EnterReachesItsLoop, ApplyNamesBack, BackIsNamed, ConstantNamesBlock, LoopStatementsInLoops, LastSendsToLeave, LeaveSendsOut, EndInOuterRegion, OwnRegion, PortsAreFed, ParamsComeInOrder, MainTakesOne}
use Rattle.u_check.specs.Rules.{number_of}

-- how many rules have a smaller number
abbrev pub place_of : Rule → ℕ
place_of r = number_of r - 1

abbrev pub in_order : List Rule
in_order = BlockNamesDiffer ∷ MainExists ∷ BeginComesFirst ∷ RegionExists ∷ DestinationExists ∷ BeginAndBackTakeNothing ∷ EnterReachesItsLoop ∷ ApplyNamesBack ∷ BackIsNamed ∷ ConstantNamesBlock ∷ LoopStatementsInLoops ∷ LastSendsToLeave ∷ LeaveSendsOut ∷ EndInOuterRegion ∷ OwnRegion ∷ PortsAreFed ∷ ParamsComeInOrder ∷ MainTakesOne ∷ []

-- the rule at a place
rule_at : (r : Rule) (d : Rule) → get_or in_order (place_of r) d ≡ r
rule_at BlockNamesDiffer d = refl
rule_at MainExists d = refl
rule_at BeginComesFirst d = refl
rule_at RegionExists d = refl
rule_at DestinationExists d = refl
rule_at BeginAndBackTakeNothing d = refl
rule_at EnterReachesItsLoop d = refl
rule_at ApplyNamesBack d = refl
rule_at BackIsNamed d = refl
rule_at ConstantNamesBlock d = refl
rule_at LoopStatementsInLoops d = refl
rule_at LastSendsToLeave d = refl
rule_at LeaveSendsOut d = refl
rule_at EndInOuterRegion d = refl
rule_at OwnRegion d = refl
rule_at PortsAreFed d = refl
rule_at ParamsComeInOrder d = refl
rule_at MainTakesOne d = refl

place_at : (i : ℕ) (d : Rule) → i < 18 → place_of (get_or in_order i d) ≡ i
place_at zero d h = refl
place_at (suc zero) d h = refl
place_at (suc (suc zero)) d h = refl
place_at (suc (suc (suc zero))) d h = refl
place_at (suc (suc (suc (suc zero)))) d h = refl
place_at (suc (suc (suc (suc (suc zero))))) d h = refl
place_at (suc (suc (suc (suc (suc (suc zero)))))) d h = refl
place_at (suc (suc (suc (suc (suc (suc (suc zero))))))) d h = refl
place_at (suc (suc (suc (suc (suc (suc (suc (suc zero)))))))) d h = refl
place_at (suc (suc (suc (suc (suc (suc (suc (suc (suc zero))))))))) d h = refl
place_at (suc (suc (suc (suc (suc (suc (suc (suc (suc (suc zero)))))))))) d h = refl
place_at (suc (suc (suc (suc (suc (suc (suc (suc (suc (suc (suc zero))))))))))) d h = refl
place_at (suc (suc (suc (suc (suc (suc (suc (suc (suc (suc (suc (suc zero)))))))))))) d h = refl
place_at (suc (suc (suc (suc (suc (suc (suc (suc (suc (suc (suc (suc (suc zero))))))))))))) d h = refl
place_at (suc (suc (suc (suc (suc (suc (suc (suc (suc (suc (suc (suc (suc (suc zero)))))))))))))) d h = refl
place_at (suc (suc (suc (suc (suc (suc (suc (suc (suc (suc (suc (suc (suc (suc (suc zero))))))))))))))) d h = refl
place_at (suc (suc (suc (suc (suc (suc (suc (suc (suc (suc (suc (suc (suc (suc (suc (suc zero)))))))))))))))) d h = refl
place_at (suc (suc (suc (suc (suc (suc (suc (suc (suc (suc (suc (suc (suc (suc (suc (suc (suc zero))))))))))))))))) d h = refl
place_at (suc (suc (suc (suc (suc (suc (suc (suc (suc (suc (suc (suc (suc (suc (suc (suc (suc (suc i)))))))))))))))))) d h = absurd (omega arith)

pub numbered : (r : Rule) → (1 ≤ number_of r) × (number_of r ≤ 18)
numbered BlockNamesDiffer = (lit≤ tt, lit≤ tt)
numbered MainExists = (lit≤ tt, lit≤ tt)
numbered BeginComesFirst = (lit≤ tt, lit≤ tt)
numbered RegionExists = (lit≤ tt, lit≤ tt)
numbered DestinationExists = (lit≤ tt, lit≤ tt)
numbered BeginAndBackTakeNothing = (lit≤ tt, lit≤ tt)
numbered EnterReachesItsLoop = (lit≤ tt, lit≤ tt)
numbered ApplyNamesBack = (lit≤ tt, lit≤ tt)
numbered BackIsNamed = (lit≤ tt, lit≤ tt)
numbered ConstantNamesBlock = (lit≤ tt, lit≤ tt)
numbered LoopStatementsInLoops = (lit≤ tt, lit≤ tt)
numbered LastSendsToLeave = (lit≤ tt, lit≤ tt)
numbered LeaveSendsOut = (lit≤ tt, lit≤ tt)
numbered EndInOuterRegion = (lit≤ tt, lit≤ tt)
numbered OwnRegion = (lit≤ tt, lit≤ tt)
numbered PortsAreFed = (lit≤ tt, lit≤ tt)
numbered ParamsComeInOrder = (lit≤ tt, lit≤ tt)
numbered MainTakesOne = (lit≤ tt, lit≤ tt)

pub place_below : (r : Rule) → place_of r < 18
place_below r = let n = numbered r in omega arith

same_place : (r s : Rule) → place_of r ≡ place_of s → r ≡ s
same_place r s e = sym (rule_at r r) ∙ ap (λ (i : ℕ). get_or in_order i r) e ∙ rule_at s r

-- the rule at that place, the first one past the end
abbrev pub rule_in : ℕ → Rule
rule_in i = get_or in_order i BlockNamesDiffer

-- what holds of the rules before a place, and of the one there, holds of those before the next
pub one_more : (P : Rule → Type 0) (i : ℕ) → i < 18 → ((r : Rule) → place_of r < i → P r) → P (rule_in i) → (r : Rule) → place_of r < i + 1 → P r
one_more P i l before here r h =
    below_more (λ (k : ℕ). (q : Rule) → place_of q ≡ k → P q) i (λ k lt q eq. before q (omega arith)) (λ q eq. subst P (same_place (rule_in i) q (place_at i BlockNamesDiffer l ∙ sym eq)) here) (place_of r) h r refl

pub before_rule : (i : ℕ) (r : Rule) → i < 18 → number_of r < number_of (rule_in i) → place_of r < i
before_rule i r l h =
    let e = place_at i BlockNamesDiffer l in
    let k = numbered r in
    omega arith
