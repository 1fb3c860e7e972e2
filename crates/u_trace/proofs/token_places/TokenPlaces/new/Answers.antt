use Rattle.std.proofs.Common.{◌≡◌, ◌<◌, ℕ, None, length, get_or, arith, rules}
use Rattle.u_trace.specs.Firsts.{first_in}
use Rattle.u_trace.specs.declared.firsts.Firsts.{Firsts}
use Rattle.u_trace.proofs.PlacedLaws.{columns_none, placed_none}
use Rattle.u_trace.proofs.token_places.TokenPlaces.new.Goals as goal

pub returns-clause-none : goal.returns-clause-none
returns-clause-none c =
    let none : (i : ℕ) (f : Firsts) → i < length c.from_fn.result → (n : ℕ) → first_in (get_or c.from_fn.result i f) n ≡ None = (λ i f l n. let w = c.from_fn.ensures.items.at i f (omega (arith, l, c.from_fn.ensures.items.long)) in search (rules, w)) in
    placed_none c.from_fn.result c.new.result (columns_none c.from_fn.result none) c.new.ensures
