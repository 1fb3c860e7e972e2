use Rattle.std.proofs.Common.{subst, List, ℕ, arith}
use Rattle.u_base.proofs.WholeWordsLaws.{number_word_sound}
use Rattle.u_words.specs.Numbers.{IsFirings, IsNumberText}
use Rattle.u_words.proofs.number.firings_of.Goals as goal

pub returns-in-Ok-clause-some : goal.returns-in-Ok-clause-some
returns-in-Ok-clause-some c =
    let P : List ℕ → Type 0 = λ w. IsFirings c.in-Ok.n × IsNumberText c.in-Ok.n w in
    subst P c.as_bytes.ensures.value (number_word_sound 1000000 c.as_bytes.result.now c.in-Ok.n (omega arith) (omega arith) c.in-Ok.ensures)
