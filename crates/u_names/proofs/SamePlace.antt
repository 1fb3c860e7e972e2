-- Places that are equal are the same.
use Rattle.std.proofs.Common.{◌≡◌, sym, ◌∙◌}
use Rattle.std.specs.Prelude.{true}
use Rattle.std.specs.Cmp.{Equal-is}
use Rattle.u_names.specs.Places.{NamePlaceParts}
use Rattle.u_names.specs.ExactOrders.{place_ties}
use Rattle.u_names.specs.contracts.places.NamePlaceOrd.TheImpl as place_ord
use Rattle.u_names.specs.contracts.places.NamePlaceOrd.TheImpl.Laws as place_laws
use Rattle.u_names.specs.contracts.places.NamePlacePartialEq.TheImpl as place_eq

pub same_parts : (a b : NamePlaceParts) → (place_eq.ghosts).eq a b ≡ true → a ≡ b
same_parts a b h = place_ties a b ((Equal-is ((place_ord.ghosts).cmp a b)).0 (sym (place_laws.matches_eq-law a b) ∙ h))
