use Rattle.std.proofs.Common.{codes, false}
use Rattle.u_explain.specs.Left.{Behind, Either}
use Rattle.u_explain.specs.Lines.{ArrowOn, NameOn, IntOn}
use Rattle.u_explain.proofs.LeftLaws.{either}
use Rattle.u_explain.proofs.fronts.constant_left.Goals as goal

pub returns : goal.returns
returns c =
    let a = either (Behind (codes "@") (NameOn (ArrowOn c.args.version false 16))) (IntOn (ArrowOn c.args.version false 16)) c.args.bytes.now c.at_left.result.now c.int_left.result.now c.shorter-other.result.now c.at_left.ensures c.int_left.ensures c.shorter-other.ensures.one c.shorter-other.ensures.first c.shorter-other.ensures.second in
    let b = either (Behind (codes "false") (ArrowOn c.args.version false 16)) (Either (Behind (codes "@") (NameOn (ArrowOn c.args.version false 16))) (IntOn (ArrowOn c.args.version false 16))) c.args.bytes.now c.word_left-on_false.result.now c.shorter-other.result.now c.shorter-others.result.now c.word_left-on_false.ensures a c.shorter-others.ensures.one c.shorter-others.ensures.first c.shorter-others.ensures.second in
    either (Behind (codes "true") (ArrowOn c.args.version false 16)) (Either (Behind (codes "false") (ArrowOn c.args.version false 16)) (Either (Behind (codes "@") (NameOn (ArrowOn c.args.version false 16))) (IntOn (ArrowOn c.args.version false 16)))) c.args.bytes.now c.word_left-on_true.result.now c.shorter-others.result.now c.shorter.result.now c.word_left-on_true.ensures b c.shorter.ensures.one c.shorter.ensures.first c.shorter.ensures.second
