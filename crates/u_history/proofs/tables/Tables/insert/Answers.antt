use Rattle.u_sets.specs.Members.{IsWith}
use Rattle.u_sets.proofs.Keyed.{ok_then}
use Rattle.u_rule.specs.EntryOrder.{written}
use Rattle.u_rule.specs.declared.entry.Entry.TheVariants as kinds
use Rattle.u_history.specs.Tables.{contents_of, HasMore}
use Rattle.u_history.proofs.Tabled.{with_writes, with_rest, write_more, other_more, other_both}
use Rattle.u_history.proofs.tables.Tables.insert.Goals as goal

pub returns-in-Token-clause-ok : goal.returns-in-Token-clause-ok
returns-in-Token-clause-ok c = rw c.in-Token.is c.insert_token.ensures.ok

pub returns-in-Token-clause-new : goal.returns-in-Token-clause-new
returns-in-Token-clause-new c = rw c.in-Token.is c.insert_token.ensures.new

pub returns-in-Write-clause-ok : goal.returns-in-Write-clause-ok
returns-in-Write-clause-ok c =
    let t = contents_of c.args.self.now in
    let w = c.in-Write.write in
    let ws = c.put_write.new.table in
    rw c.in-Write.is (ok_then c.put_write.result (λ _. IsWith t.writes (w.cell, written w.writer w.value) ws) (λ _. IsWith t.writes (w.cell, written w.writer w.value) ws) (λ _. HasMore t (kinds.Write w) (with_writes t ws)) c.put_write.ensures.ok c.put_write.ensures.ok
    (λ b p q. write_more t w ws p))

pub returns-in-Write-clause-new : goal.returns-in-Write-clause-new
returns-in-Write-clause-new c = rw c.in-Write.is c.put_write.ensures.new

pub returns-in-Fault-clause-ok : goal.returns-in-Fault-clause-ok
returns-in-Fault-clause-ok c =
    let t = contents_of c.args.self.now in
    let e = kinds.Fault c.in-Fault.fault in
    let es = c.insert.new.self in
    rw c.in-Fault.is (ok_then c.insert.result (λ _. IsWith t.rest e es) (λ _. IsWith t.rest e es) (λ _. HasMore t e (with_rest t es)) c.insert.ensures.ok c.insert.ensures.ok (λ b p q. other_more t e es tt p))

pub returns-in-Fault-clause-new : goal.returns-in-Fault-clause-new
returns-in-Fault-clause-new c = rw c.in-Fault.is c.insert.ensures.new

pub returns-in-Fault-clause-tables : goal.returns-in-Fault-clause-tables
returns-in-Fault-clause-tables c = record { ports = c.requires.ports; distinct = c.requires.distinct; below = c.requires.below; others = other_both c.insert.result c.args.self.now.rest c.insert.new.self (kinds.Fault c.in-Fault.fault) c.insert.ensures.ok c.insert.ensures.err tt c.requires.others }

pub returns-in-Answer-clause-ok : goal.returns-in-Answer-clause-ok
returns-in-Answer-clause-ok c =
    let t = contents_of c.args.self.now in
    let e = kinds.Answer c.in-Answer.value in
    let es = c.insert-in-Answer.new.self in
    rw c.in-Answer.is (ok_then c.insert-in-Answer.result (λ _. IsWith t.rest e es) (λ _. IsWith t.rest e es) (λ _. HasMore t e (with_rest t es)) c.insert-in-Answer.ensures.ok c.insert-in-Answer.ensures.ok (λ b p q. other_more t e es tt p))

pub returns-in-Answer-clause-new : goal.returns-in-Answer-clause-new
returns-in-Answer-clause-new c = rw c.in-Answer.is c.insert-in-Answer.ensures.new

pub returns-in-Answer-clause-tables : goal.returns-in-Answer-clause-tables
returns-in-Answer-clause-tables c = record { ports = c.requires.ports; distinct = c.requires.distinct; below = c.requires.below; others = other_both c.insert-in-Answer.result c.args.self.now.rest c.insert-in-Answer.new.self (kinds.Answer c.in-Answer.value) c.insert-in-Answer.ensures.ok c.insert-in-Answer.ensures.err tt c.requires.others }
