use Rattle.std.proofs.Common.{sym, subst, arith}
use Rattle.u_program.specs.declared.program.Version.TheVariants.{Two}
use Rattle.u_program.specs.Limits.{IsBlockOf, limits_of}
use Rattle.u_compile.specs.Fanning.{IsFinished}
use Rattle.u_compile.proofs.BlockLaws.{block_is}
use Rattle.u_compile.proofs.FinishedLaws.{finished_determinate}
use Rattle.u_compile.proofs.KeptLaws.{finished_keeps}
use Rattle.u_compile.proofs.Fans.{fans_grow}
use Rattle.u_compile.proofs.graph.Graph.finish.Goals as goal

pub returns-in-Ok : goal.returns-in-Ok
returns-in-Ok c =
    let fans = c.in_ok-fan_out_all.ensures.0 in
    let few = c.in_ok-fan_out_all.ensures.1 in
    let grow = fans_grow c.args.self c.fan_out_all.new.self fans in
    let some = c.requires in
    let within = block_is c.args.name c.fan_out_all.new.self c.as_bytes.ensures.block c.len-2.ensures.graph few (omega (arith, grow, some)) in
    let finished : IsFinished c.args.name c.args.self c.in-Ok.block = record {
      fanned = c.fan_out_all.new.self;
      fans = fans;
      few = few;
      block = c.in-Ok.ensures;
      within = subst (IsBlockOf (limits_of Two)) (sym c.in-Ok.ensures) within;
    } in
    record {
      finished = finished;
      determinate = λ y s. finished_determinate c.args.name c.args.self c.in-Ok.block y c.len.ensures.graph finished s;
      kept = λ y s full stands. finished_keeps c.args.name c.args.self c.in-Ok.block y c.len.ensures.graph finished s full stands;
    }
