-- What a set holds once firings were put in.
use Rattle.std.specs.Prelude.{List, ◌⊎◌, ◌↔◌, Contains}
use Rattle.u_base.specs.Firing.{System}

-- f is one of the firings, and gives e
abbrev pub GivenBy : {E F : Type 0} → System E F → List F → E → Type 0
GivenBy {E} {F} s fs e = (f : F) × Contains fs f × Contains (s.gives f) e

-- new has the members of old, and all that the firings give
abbrev pub GainsGiven : {E F : Type 0} → System E F → List E → List F → List E → Type 0
GainsGiven {E} s old fs new = (e : E) → Contains new e ↔ (Contains old e ⊎ GivenBy s fs e)
