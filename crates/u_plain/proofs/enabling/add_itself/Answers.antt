use Rattle.std.proofs.Common.{Contains}
use Rattle.u_plain.proofs.Growing.{both_added, alone_added}
use Rattle.u_plain.proofs.enabling.add_itself.Goals as goal

pub returns-in_ok-add-2 : goal.returns-in_ok-add-2
returns-in_ok-add-2 c f =
    both_added c.args.job.now c.args.held.now c.args.made.now c.in_ok-reply.reply c.in_ok-reply.ensures f c.in_ok-alone.alone c.in_ok-alone.ensures c.in-Some.known c.in-Some.is
    (Contains c.args.found.now.items f) (Contains c.add.new.found.items f) (Contains c.add-in-Some.new.found.items f) (c.in_ok-add.ensures f) (c.in_ok-add-2.ensures f)

pub returns-in_default : goal.returns-in_default
returns-in_default c f =
    alone_added c.args.job.now c.args.held.now c.args.made.now c.in_ok-reply.reply c.in_ok-reply.ensures f c.in_ok-alone.alone c.in_ok-alone.ensures c.in_default.is
    (Contains c.args.found.now.items f) (Contains c.add.new.found.items f) (c.in_ok-add.ensures f)
