use Rattle.u_world.proofs.inside.Inside.happen.Goals as goal

pub returns-in-Restart : goal.returns-in-Restart
returns-in-Restart c = rw c.in-Restart.is (c.restart.ensures)
