use Rattle.std.specs.Prelude.{codes}
use Rattle.std.specs.Fmt.{decimal}
use Rattle.u_pictures.proofs.Texts.{join4}
use Rattle.u_pictures.proofs.words.push_again.Goals as goal

pub returns : goal.returns
returns c =
    join4 c.args.out.now.items (codes "starts again, with ") (decimal c.args.has) (codes " firings, had ") (decimal c.args.had)
    c.extend_from_slice.new.self.items c.push_long.new.out.items c.extend_from_slice-2.new.self.items c.push_long-2.new.out.items
    c.in_ok-extend_from_slice.ensures.items c.in_ok-push_long.ensures.ok c.in_ok-extend_from_slice-2.ensures.items c.in_ok-push_long-2.ensures.ok
