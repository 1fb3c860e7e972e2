use Rattle.std.proofs.Common.{ℕ, refl, sym, subst, List}
use Rattle.std.specs.Prelude.{Contains}
use Rattle.std.proofs.lemmas.Option.{slice_get_read}
use Rattle.u_determinate.proofs.sides.Side.all_behind.Goals as goal

pub returns-in-Some : goal.returns-in-Some
returns-in-Some c =
    let h = (c.requires.sources.each c.args.number c.in-Some.sources.now (slice_get_read c.args.self.now.flow.sources.now _ c.args.number c.in-Some.sources.now refl c.in-Some.ensures.lookup.3.0 c.in-Some.ensures.lookup.1)).behind in
    ((λ t m b. c.are_marked.ensures.0 t m (subst (λ (ms : List ℕ). Contains ms m) (sym c.deref.ensures.value) ((h m).1 b))), λ a. c.are_marked.ensures.1 (λ m x. a m ((h m).0 (subst (λ (ms : List ℕ). Contains ms m) c.deref.ensures.value x))))
