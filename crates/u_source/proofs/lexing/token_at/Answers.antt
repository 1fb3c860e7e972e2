use Rattle.std.proofs.Common.{rules, ◌≡◌, Some, ℕ, take, length, arith, ap, sym, subst}
use Rattle.u_source.specs.Words.{word_len}
use Rattle.u_source.specs.Marks.{signs, sign_among}
use Rattle.u_source.proofs.WordLaws.{whole_front, sign_fits}
use Rattle.u_source.proofs.lexing.token_at.Goals as goal

pub word-requires : goal.word-requires
word-requires c = let P : ℕ → Type 0 = λ n. word_len (take n c.args.bytes.now) ≡ length (take n c.args.bytes.now) in subst P (sym c.word_len-len.ensures.value) (whole_front c.args.bytes.now)

pub returns-in-Some-clause-inside : goal.returns-in-Some-clause-inside
returns-in-Some-clause-inside c =
    let there : sign_among signs c.args.bytes.now ≡ Some c.in-Some.mark = search rules in
    omega (arith, ap length c.text.ensures, sign_fits signs c.args.bytes.now c.in-Some.mark there)
