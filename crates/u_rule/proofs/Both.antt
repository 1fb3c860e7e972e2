-- Two tests that both have to hold, in either order.
use Rattle.std.specs.Prelude.{◌≡◌, Bool, true, false, ◌&&◌, refl}

pub with_true : (a : Bool) → (a && true) ≡ a
with_true true = refl
with_true false = refl

pub with_false : (a : Bool) → (a && false) ≡ false
with_false true = refl
with_false false = refl
