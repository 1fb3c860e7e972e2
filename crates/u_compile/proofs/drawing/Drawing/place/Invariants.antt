use Rattle.u_compile.proofs.ScopeLaws.{IsPlaceSo}
use Rattle.u_compile.proofs.drawing.Drawing.place.Given as goal

abbrev pub invariant-outwards : goal.invariant-outwards
invariant-outwards l = IsPlaceSo l.self.scopes l.scope l.region l.guards.items l.at
