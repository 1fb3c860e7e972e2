use Rattle.std.proofs.Common.{◌≡◌, ℕ, ◌≤◌, false, List, length, drop, sym, ap}
use Rattle.std.proofs.Math.ListN.{drop_of_length-le}
use Rattle.u_scope.specs.declared.entry.Entry.{Entry}
use Rattle.u_scope.specs.Meanings.{is_shown_by}
use Rattle.u_scope.proofs.spot.Spot.is_over.Goals as goal

none_behind : (t : ℕ) (es : List Entry) → length es ≤ 64 → false ≡ is_shown_by t (drop 64 es)
none_behind t es h = sym (ap (is_shown_by t) (drop_of_length-le es h))

pub returns-then-self-le-PROCEDURES : goal.returns-then-self-le-PROCEDURES
returns-then-self-le-PROCEDURES c = none_behind c.args.self.now.token c.args.self.now.procedures.now c.if-self-le-PROCEDURES.true
