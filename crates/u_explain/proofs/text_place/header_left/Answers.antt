use Rattle.u_program.specs.declared.program.Version.TheVariants as versions
use Rattle.u_explain.specs.Places.{VersionOn}
use Rattle.u_explain.proofs.LeftLaws.{either}
use Rattle.u_explain.proofs.text_place.header_left.Goals as goal

pub returns : goal.returns
returns c = either (VersionOn versions.One) (VersionOn versions.Two) c.args.line.now c.version_left-one.result.now c.version_left-two.result.now c.shorter.result.now c.version_left-one.ensures c.version_left-two.ensures c.shorter.ensures.one c.shorter.ensures.first c.shorter.ensures.second
