use Rattle.u_source.proofs.WordLaws.{block_of}
use Rattle.u_source.proofs.lexing.name.Goals as goal

pub new-requires : goal.new-requires
new-requires c = block_of c.args.word.now c.requires.first c.requires.each c.if-word-gt16.false
