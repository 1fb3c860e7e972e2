use Rattle.std.proofs.Common.{subst, List, ℕ, ◌≤◌, arith}
use Rattle.u_base.proofs.WholeWordsLaws.{number0_word_sound}
use Rattle.u_words.specs.Numbers.{IsNumberText}
use Rattle.u_words.proofs.number.number_of.Goals as goal

pub returns-in-Ok-clause-some : goal.returns-in-Ok-clause-some
returns-in-Ok-clause-some c =
    let P : List ℕ → Type 0 = λ w. (c.in-Ok.number ≤ c.args.most) × IsNumberText c.in-Ok.number w in
    subst P c.as_bytes.ensures.value (number0_word_sound c.args.most c.as_bytes.result.now c.in-Ok.number (omega arith) (omega arith) c.in-Ok.ensures)
