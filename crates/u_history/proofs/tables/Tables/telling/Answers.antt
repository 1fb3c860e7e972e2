use Rattle.std.proofs.Common.{◌≡◌, ◌∙◌, ◌++◌, ap, sym, subst, refl, map, List, Contains}
use Rattle.std.specs.Map.Iter.{deref}
use Rattle.u_names.specs.CellPairs.{deref_at_cell}
use Rattle.u_base.specs.Firing.{Same, Distinct}
use Rattle.u_rule.specs.declared.entry.Entry.{Entry}
use Rattle.u_history.specs.Tables.{Contents, contents_of, write_entry, listed_entries}
use Rattle.u_history.proofs.Tabled.{three, listed_distinct, held_in, in_order_is, sharing_distinct}
use Rattle.u_history.proofs.Telling.{tells}
use Rattle.u_history.proofs.tables.Tables.telling.Goals as goal

pub put_in_order-requires : goal.put_in_order-requires
put_in_order-requires c =
    let t = contents_of c.args.self.now in
    let s = c.in_ok-list.ensures in
    let u : Contents = record { tokens = s.0; writes = map deref_at_cell c.in_ok-writes.writes.items; rest = t.rest } in
    let writes = ap (λ ps. map write_entry (map deref_at_cell ps)) c.deref.ensures.value in
    let others = ap (λ ps. map deref ps) c.deref-2.ensures.value ∙ c.in_ok-others.ensures.all in
    let all : c.push_others.new.list.items ≡ listed_entries u.tokens u.writes u.rest =
    three _ _ _ c.in_ok-list.list.items c.push_writes.new.list.items c.push_others.new.list.items s.2
    (c.in_ok-push_writes.ensures ∙ ap (λ (es : List Entry). c.in_ok-list.list.items ++ es) writes)
    (c.in_ok-push_others.ensures ∙ ap (λ (es : List Entry). c.push_writes.new.list.items ++ es) others) in
    subst (λ (es : List Entry). Distinct es) (sym all) (listed_distinct u c.requires.others (sharing_distinct t.tokens u.tokens s.1) c.in_ok-writes.ensures.distinct c.in_ok-others.ensures.rises)

pub returns-clause-all : goal.returns-clause-all
returns-clause-all c e =
    let t = contents_of c.args.self.now in
    let s = c.in_ok-list.ensures in
    let u : Contents = record { tokens = s.0; writes = map deref_at_cell c.in_ok-writes.writes.items; rest = t.rest } in
    let writes = ap (λ ps. map write_entry (map deref_at_cell ps)) c.deref.ensures.value in
    let others = ap (λ ps. map deref ps) c.deref-2.ensures.value ∙ c.in_ok-others.ensures.all in
    let all : c.push_others.new.list.items ≡ listed_entries u.tokens u.writes u.rest =
    three _ _ _ c.in_ok-list.list.items c.push_writes.new.list.items c.push_others.new.list.items s.2
    (c.in_ok-push_writes.ensures ∙ ap (λ (es : List Entry). c.in_ok-list.list.items ++ es) writes)
    (c.in_ok-push_others.ensures ∙ ap (λ (es : List Entry). c.push_writes.new.list.items ++ es) others) in
    let is = in_order_is (listed_entries u.tokens u.writes u.rest) c.put_in_order.new.list.items c.put_in_order.ensures.rises
    (subst (λ (es : List Entry). Same (Contains c.put_in_order.new.list.items) (Contains es)) all c.put_in_order.ensures.same) in
    let h = held_in u c.requires.others e in
    let m = tells t u s.1 c.in_ok-writes.ensures.all refl e in
    ((λ k. m.0 (h.0 (subst (λ (es : List Entry). Contains es e) is k))), λ k. subst (λ (es : List Entry). Contains es e) (sym is) (h.1 (m.1 k)))
