use Rattle.u_world.proofs.Drawing.{four_words, four_after}
use Rattle.u_world.proofs.random.draw.Goals as goal

pub returns-clause-words : goal.returns-clause-words
returns-clause-words c =
    four_words c.args.random.now c.next_word-kind.new.self c.next_word-replica.new.self c.next_word-other.new.self c.next_word-pick.new.self
    c.next_word-kind.result c.next_word-replica.result c.next_word-other.result c.next_word-pick.result
    c.next_word-kind.ensures c.next_word-replica.ensures c.next_word-other.ensures c.next_word-pick.ensures

pub returns-clause-after : goal.returns-clause-after
returns-clause-after c =
    four_after c.args.random.now c.next_word-kind.new.self c.next_word-replica.new.self c.next_word-other.new.self c.next_word-pick.new.self
    c.next_word-kind.result c.next_word-replica.result c.next_word-other.result c.next_word-pick.result
    c.next_word-kind.ensures c.next_word-replica.ensures c.next_word-other.ensures c.next_word-pick.ensures
