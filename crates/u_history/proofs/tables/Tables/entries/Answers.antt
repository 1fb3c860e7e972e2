use Rattle.std.proofs.Common.{List, subst, Contains}
use Rattle.u_base.specs.Firing.{Same}
use Rattle.u_rule.specs.declared.entry.Entry.{Entry}
use Rattle.u_history.specs.Tables.{contents_of, listed_entries}
use Rattle.u_history.proofs.Tabled.{in_order_is}
use Rattle.u_history.proofs.tables.Tables.entries.Goals as goal

pub returns : goal.returns
returns c =
    let t = contents_of c.args.self.now in
    in_order_is (listed_entries t.tokens t.writes t.rest) c.put_in_order.new.list.items c.put_in_order.ensures.rises
    (subst (λ (es : List Entry). Same (Contains c.put_in_order.new.list.items) (Contains es)) c.in_ok-list.ensures.all c.put_in_order.ensures.same)
