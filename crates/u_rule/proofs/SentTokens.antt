-- The tokens that go to destinations stand as these do.
use Rattle.std.proofs.Common.{◌≡◌, ◌<◌, ℕ, zero, suc, arith, refl, List, [], ◌∷◌, map, length, slice_get, get_or, Some}
use Rattle.std.proofs.lemmas.List.{length-map}
use Rattle.u_name.specs.Name.{Activity}
use Rattle.u_value.specs.declared.value.Value.{Value}
use Rattle.u_program.specs.declared.program.Destination.{Destination}
use Rattle.u_rule.specs.declared.entry.Entry.TheVariants as entries
use Rattle.u_rule.specs.Parts.{TokenParts, token}
use Rattle.u_rule.specs.Rule.{sent, beside}

-- at each place stands the token for the destination there
pub sent_token : (near : Activity) (v : Value) (to : List Destination) (k : ℕ) (other : Destination) (a : Activity) (t : TokenParts)
    → k < length to → a ≡ beside near (get_or to k other).statement → t ≡ token a (get_or to k other).port v
    → slice_get (map (sent (beside near) v) to) k ≡ Some (entries.Token t)
sent_token near v [] k other a t l p q = absurd (omega (arith, l))
sent_token near v (d ∷ to) zero other a t l p q = rw q (rw p refl)
sent_token near v (d ∷ to) (suc k) other a t l p q = sent_token near v to k other a t (omega (arith, l)) p q

-- there is one token for each destination
pub one_for_each : (near : Activity) (v : Value) (to : List Destination) (k : ℕ) → k < length (map (sent (beside near) v) to) → k < length to
one_for_each near v to k l = let e = length-map to (sent (beside near) v) in omega (arith, e, l)
