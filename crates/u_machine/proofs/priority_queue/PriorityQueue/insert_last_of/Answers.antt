use Rattle.u_machine.proofs.Queued.{rises_least, rises_moved, least_taken, last_moved}
use Rattle.u_machine.proofs.priority_queue.PriorityQueue.insert_last_of.Goals as goal

pub invariant_of-self : goal.invariant_of-self
invariant_of-self g c =
    rises_least g.K.Ord.cmp g.met.K.Ord.total c.self.inside.least c.self.inside.run.items c.insert_last_of.new.self c.args.list.now.items c.insert_last_of.new.list.items c.in-Some.item.now c.self.invariant c.insert_last_of.ensures.rises (rw c.deref.ensures.value at c.in-Some.ensures.value) c.in-Least.ensures c.in_ok-insert_last_of-in-Least.ensures.ok

pub invariant_of-self-in-Continue-branch-2 : goal.invariant_of-self-in-Continue-branch-2
invariant_of-self-in-Continue-branch-2 g c =
    rises_least g.K.Ord.cmp g.met.K.Ord.total c.self.inside.least c.self.inside.run.items c.insert_last.new.set c.args.list.now.items c.insert_last.new.list.items c.in-Some.item.now c.self.invariant c.insert_last.ensures.rises (rw c.deref.ensures.value at c.in-Some.ensures.value) c.in-Among.ensures c.in_ok-insert_last-in-Among.ensures.ok

pub invariant_of-self-in-Continue-branch-3 : goal.invariant_of-self-in-Continue-branch-3
invariant_of-self-in-Continue-branch-3 g c =
    rises_moved g.K.Ord.cmp g.met.K.Ord.total c.self.inside.least c.self.inside.run.items c.move_last.new.run.items c.args.list.now.items c.move_last.new.list.items c.in-Some.item.now c.self.invariant (rw c.deref.ensures.value at c.in-Some.ensures.value) c.in-Last.ensures c.in_ok-move_last-in-Last.ensures.ok

pub returns-in_ok-insert_last_of-in-Least-clause-ok : goal.returns-in_ok-insert_last_of-in-Least-clause-ok
returns-in_ok-insert_last_of-in-Least-clause-ok g c =
    rw (← c.self.view_is) (least_taken c.self.inside.least c.self.inside.run.items c.insert_last_of.new.self c.args.list.now.items c.insert_last_of.new.list.items c.in_ok-insert_last_of-in-Least.ensures.ok)

pub returns-in_ok-insert_last_of-in-Least-clause-rises : goal.returns-in_ok-insert_last_of-in-Least-clause-rises
returns-in_ok-insert_last_of-in-Least-clause-rises g c =
    rises_least g.K.Ord.cmp g.met.K.Ord.total c.self.inside.least c.self.inside.run.items c.insert_last_of.new.self c.args.list.now.items c.insert_last_of.new.list.items c.in-Some.item.now c.self.invariant c.insert_last_of.ensures.rises (rw c.deref.ensures.value at c.in-Some.ensures.value) c.in-Least.ensures c.in_ok-insert_last_of-in-Least.ensures.ok

pub returns-in_ok-insert_last-in-Among-clause-ok : goal.returns-in_ok-insert_last-in-Among-clause-ok
returns-in_ok-insert_last-in-Among-clause-ok g c =
    rw (← c.self.view_is) (least_taken c.self.inside.least c.self.inside.run.items c.insert_last.new.set c.args.list.now.items c.insert_last.new.list.items c.in_ok-insert_last-in-Among.ensures.ok)

pub returns-in_ok-insert_last-in-Among-clause-rises : goal.returns-in_ok-insert_last-in-Among-clause-rises
returns-in_ok-insert_last-in-Among-clause-rises g c =
    rises_least g.K.Ord.cmp g.met.K.Ord.total c.self.inside.least c.self.inside.run.items c.insert_last.new.set c.args.list.now.items c.insert_last.new.list.items c.in-Some.item.now c.self.invariant c.insert_last.ensures.rises (rw c.deref.ensures.value at c.in-Some.ensures.value) c.in-Among.ensures c.in_ok-insert_last-in-Among.ensures.ok

pub returns-in_ok-move_last-in-Last-clause-ok : goal.returns-in_ok-move_last-in-Last-clause-ok
returns-in_ok-move_last-in-Last-clause-ok g c =
    rw (← c.self.view_is) (last_moved c.self.inside.least c.self.inside.run.items c.move_last.new.run.items c.args.list.now.items c.move_last.new.list.items c.in_ok-move_last-in-Last.ensures.ok)

pub returns-in_ok-move_last-in-Last-clause-rises : goal.returns-in_ok-move_last-in-Last-clause-rises
returns-in_ok-move_last-in-Last-clause-rises g c =
    rises_moved g.K.Ord.cmp g.met.K.Ord.total c.self.inside.least c.self.inside.run.items c.move_last.new.run.items c.args.list.now.items c.move_last.new.list.items c.in-Some.item.now c.self.invariant (rw c.deref.ensures.value at c.in-Some.ensures.value) c.in-Last.ensures c.in_ok-move_last-in-Last.ensures.ok
