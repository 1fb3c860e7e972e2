use Rattle.u_pictures.proofs.looks.push_token_look.Goals as goal

pub returns-then-is_start : goal.returns-then-is_start
returns-then-is_start c = rw c.if-is_start.true c.push_worded_look.ensures
