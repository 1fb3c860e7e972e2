-- The order of the kinds of faults, and their texts.
use Rattle.std.specs.Prelude.{ℕ, List, codes}
use Rattle.std.specs.Ordering.{nat_cmp}
use Rattle.std.specs.declared.cmp.Ordering.{Ordering}
use Rattle.u_value.specs.declared.fault_kind.FaultKind.{FaultKind}
use Rattle.u_value.specs.declared.fault_kind.FaultKind.TheVariants.{Kind, Overflow, Zero, Deep, Initiation, Length, Bounds, Arity}

-- where the kind stands in the list of the kinds
abbrev pub fault_kind_place : FaultKind → ℕ
fault_kind_place Kind = 0
fault_kind_place Overflow = 1
fault_kind_place Zero = 2
fault_kind_place Deep = 3
fault_kind_place Initiation = 4
fault_kind_place Length = 5
fault_kind_place Bounds = 6
fault_kind_place Arity = 7

abbrev pub fault_kind_cmp : FaultKind → FaultKind → Ordering
fault_kind_cmp a b = nat_cmp (fault_kind_place a) (fault_kind_place b)

abbrev pub fault_kind_text : FaultKind → List ℕ
fault_kind_text Kind = codes "kind"
fault_kind_text Overflow = codes "overflow"
fault_kind_text Zero = codes "zero"
fault_kind_text Deep = codes "deep"
fault_kind_text Initiation = codes "initiation"
fault_kind_text Length = codes "length"
fault_kind_text Bounds = codes "bounds"
fault_kind_text Arity = codes "arity"
