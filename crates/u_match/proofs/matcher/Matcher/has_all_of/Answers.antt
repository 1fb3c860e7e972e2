use Rattle.u_match.proofs.matcher.Matcher.has_all_of.Goals as goal

pub returns : goal.returns
returns c = rw (← c.self.view_is) c.has_all_of.ensures
