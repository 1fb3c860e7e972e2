use Rattle.std.proofs.Common.{◌++◌, ◌∙◌, ap}
use Rattle.std.specs.Prelude.{codes}
use Rattle.u_pictures.specs.Dot.{opening, text, picture_text}
use Rattle.u_pictures.specs.ProgramPicture.{picture}
use Rattle.u_pictures.proofs.Texts.{join3}
use Rattle.u_pictures.proofs.program.push_picture.Goals as goal

pub returns-clause-ok : goal.returns-clause-ok
unfolding picture_text
returns-clause-ok c =
    join3 c.args.out.now.items opening (text (picture c.args.origins.now c.args.program.now.version c.args.program.now.blocks)) (codes "}\n")
    c.extend_from_slice.new.self.items c.push_blocks.new.out.items c.extend_from_slice-2.new.self.items
    c.in_ok-extend_from_slice.ensures.items
    (c.in_ok-push_blocks.ensures.ok ∙ ap (λ p. c.extend_from_slice.new.self.items ++ text (picture c.args.origins.now c.version.result p)) c.blocks-2.ensures.blocks ∙ ap (λ v. c.extend_from_slice.new.self.items ++ text (picture c.args.origins.now v c.args.program.now.blocks)) c.version.ensures.version)
    c.in_ok-extend_from_slice-2.ensures.items
