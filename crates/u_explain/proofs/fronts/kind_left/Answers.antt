use Rattle.std.proofs.Common.{codes, subst, List, ℕ}
use Rattle.u_program.specs.declared.program.Version.{Version}
use Rattle.u_program.specs.declared.program.Kind.{Kind}
use Rattle.u_program.specs.Text.{plain_kinds}
use Rattle.u_explain.specs.declared.fronts.Follows.{Follows}
use Rattle.u_explain.specs.declared.fronts.Follows.TheVariants as follows
use Rattle.u_explain.specs.Left.{IsLeft, Behind, Either, Among, Numbered}
use Rattle.u_explain.specs.Lines.{PlainOn, ParamOn, ConstantOn, FollowOn, follows_back}
use Rattle.u_explain.proofs.LeftLaws.{either}
use Rattle.u_explain.proofs.fronts.kind_left.Goals as goal

abbrev ConstOn : Version → List ℕ → Type 0
ConstOn version = Behind (codes "const ") (ConstantOn version)

abbrev EnterOn : Version → List ℕ → Type 0
EnterOn version = Behind (codes "enter ") (Among 1 100 (Numbered (FollowOn (follows.List version))))

abbrev CallOn : Follows → List ℕ → Type 0
CallOn behind = Behind (codes "apply ") (Among 1 1000 (Numbered (FollowOn behind)))

pub returns : goal.returns
returns c =
    let version = c.args.version in
    let bytes = c.args.bytes.now in
    let applied = subst (λ (f : Follows). IsLeft (CallOn f) bytes c.numbered_left-apply.result.now) c.follows_back.ensures c.numbered_left-apply.ensures in
    let plain = subst (λ (ks : List Kind). IsLeft (PlainOn version ks) bytes c.plain_left-plain.result.now) c.plain_kinds.ensures c.plain_left-plain.ensures in
    let called = either (CallOn (follows_back version)) (ParamOn version) bytes c.numbered_left-apply.result.now c.param_left.result.now c.shorter-called.result.now applied c.param_left.ensures c.shorter-called.ensures.one c.shorter-called.ensures.first c.shorter-called.ensures.second in
    let numbered = either (EnterOn version) (Either (CallOn (follows_back version)) (ParamOn version)) bytes c.numbered_left-enter.result.now c.shorter-called.result.now c.shorter-numbered.result.now c.numbered_left-enter.ensures called c.shorter-numbered.ensures.one c.shorter-numbered.ensures.first c.shorter-numbered.ensures.second in
    let argued = either (ConstOn version) (Either (EnterOn version) (Either (CallOn (follows_back version)) (ParamOn version))) bytes c.const_left-constant.result.now c.shorter-numbered.result.now c.shorter-argued.result.now c.const_left-constant.ensures numbered c.shorter-argued.ensures.one c.shorter-argued.ensures.first c.shorter-argued.ensures.second in
    either (PlainOn version plain_kinds) (Either (ConstOn version) (Either (EnterOn version) (Either (CallOn (follows_back version)) (ParamOn version)))) bytes c.plain_left-plain.result.now c.shorter-argued.result.now c.shorter.result.now plain argued c.shorter.ensures.one c.shorter.ensures.first c.shorter.ensures.second
