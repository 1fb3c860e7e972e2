use Rattle.std.proofs.Common.{inr, rules}
use Rattle.u_source.proofs.SourceLaws.{refused}
use Rattle.u_source.proofs.source.read_source.Goals as goal

pub returns-in-Err-Stuck : goal.returns-in-Err-Stuck
returns-in-Err-Stuck c = inr (refused c.args.bytes.now c.in_ok-tokens.tokens.items c.deref.result.now _ _ c.in-Err-Stuck.number c.in-Err-Stuck.stop c.place_of.result c.found.result c.problem_of.result c.in_ok-tokens.ensures.answer c.deref.ensures.value c.deref-in-Err-Stuck.ensures.value c.deref-in-Err-Stuck-2.ensures.value (search rules) c.place_of.ensures c.found.ensures c.problem_of.ensures)
