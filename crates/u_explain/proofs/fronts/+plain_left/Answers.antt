use Rattle.std.proofs.Common.{rules}
use Rattle.u_explain.proofs.LineLaws.{plain_next}
use Rattle.u_explain.proofs.fronts.+plain_left.Goals as goal

pub returns-in-Some : goal.returns-in-Some
returns-in-Some t c = plain_next c.args.version c.args.kinds.now c.in-Some.kind.now c.in-Some.others.now c.kind_word.result.now c.has_otherwise.result c.room_of.result c.args.bytes.now c.word_left-first.result.now c.plain_left.result.now c.shorter.result.now (search rules) c.kind_word.ensures c.has_otherwise.ensures c.room_of.ensures c.word_left-first.ensures c.plain_left.ensures c.shorter.ensures.one c.shorter.ensures.first c.shorter.ensures.second
