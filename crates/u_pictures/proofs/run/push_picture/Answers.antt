use Rattle.std.specs.Prelude.{codes}
use Rattle.u_pictures.specs.Dot.{text}
use Rattle.u_pictures.proofs.Texts.{join3}
use Rattle.u_pictures.specs.Picture.{opening, picture, picture_text}
use Rattle.u_pictures.proofs.run.push_picture.Goals as goal

pub returns-clause-ok : goal.returns-clause-ok
unfolding picture_text
returns-clause-ok c =
    join3 c.args.out.now.items opening (text (picture c.args.origins.now c.args.job.now c.args.firings.now c.args.entries.now)) (codes "}\n")
    c.extend_from_slice.new.self.items c.push_shown.new.out.items c.extend_from_slice-2.new.self.items
    c.in_ok-extend_from_slice.ensures.items c.in_ok-push_shown.ensures.ok c.in_ok-extend_from_slice-2.ensures.items
