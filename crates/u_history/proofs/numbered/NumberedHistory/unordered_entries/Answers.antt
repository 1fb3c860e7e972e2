use Rattle.u_history.specs.Tables.{contents_of, listed_entries}
use Rattle.u_history.proofs.Tabled.{unordered_is}
use Rattle.u_history.proofs.numbered.NumberedHistory.unordered_entries.Goals as goal

pub returns-clause-all : goal.returns-clause-all
returns-clause-all c =
    let t = contents_of c.self.inside.tables in
    rw (c.in_ok-entries.ensures.all, ← c.self.view_is) (unordered_is (listed_entries t.tokens t.writes t.rest))
