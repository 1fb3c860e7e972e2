use Rattle.std.proofs.Common.{ℕ, refl, sym, subst, List}
use Rattle.std.specs.Prelude.{Contains, ◌↔◌}
use Rattle.std.proofs.lemmas.Option.{slice_get_read}
use Rattle.u_determinate.specs.Flow.{StandsBehind}
use Rattle.u_determinate.proofs.Opposed.{calls_one}
use Rattle.u_determinate.proofs.keeps.Guarded.has_one_call.Goals as goal

pub returns-in-Some : goal.returns-in-Some
returns-in-Some c =
    let ss = c.args.self.now.flow.statements.now in
    let e = (c.requires.sources.each c.args.number c.in-Some.sources.now (slice_get_read c.args.self.now.flow.sources.now _ c.args.number c.in-Some.sources.now refl c.in-Some.ensures.lookup.3.0 c.in-Some.ensures.lookup.1)).behind in
    calls_one ss c.args.number c.requires.back c.deref.result.now (subst (λ (ms : List ℕ). (m : ℕ) → Contains ms m ↔ StandsBehind ss c.args.number m) (sym c.deref.ensures.value) e) c.are_one.result c.are_one.ensures
