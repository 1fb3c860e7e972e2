use Rattle.std.proofs.Common.{rules}
use Rattle.u_name.proofs.Written.{in_loop_more, in_call_more, root_text}
use Rattle.u_base.specs.Appending.{Extends}
use Rattle.u_base.proofs.AppendingLaws.{extends_same, extends_behind}
use Rattle.u_name.proofs.writing.+push_context.Goals as goal

pub returns-in_ok-push-in-Root-clause-ok : goal.returns-in_ok-push-in-Root-clause-ok
returns-in_ok-push-in-Root-clause-ok t c = search (rules, root_text)

pub returns-in_ok-push-in-Loop-2-clause-ok : goal.returns-in_ok-push-in-Loop-2-clause-ok
returns-in_ok-push-in-Loop-2-clause-ok t c = search (rules, in_loop_more)

pub returns-in_ok-push-in-Call-2-clause-ok : goal.returns-in_ok-push-in-Call-2-clause-ok
returns-in_ok-push-in-Call-2-clause-ok t c = search (rules, in_call_more)

pub returns-in_err-push-in-Root-clause-err : goal.returns-in_err-push-in-Root-clause-err
returns-in_err-push-in-Root-clause-err t c = search (rules, extends_same)

pub returns-in_err-push-in-Loop-clause-err : goal.returns-in_err-push-in-Loop-clause-err
returns-in_err-push-in-Loop-clause-err t c = search (rules, extends_same)

pub returns-in_err-push_context-in-Loop-clause-err : goal.returns-in_err-push_context-in-Loop-clause-err
returns-in_err-push_context-in-Loop-clause-err t c = search (rules, extends_behind)

pub returns-in_err-push_loop-in-Loop-clause-err : goal.returns-in_err-push_loop-in-Loop-clause-err
returns-in_err-push_loop-in-Loop-clause-err t c =
    let e : Extends c.args.out.now.items c.push_loop.new.out.items = extends_behind _ _ _ _ c.in_ok-push-in-Loop.ensures.items (extends_behind _ _ _ _ c.in_ok-push_context-in-Loop.ensures.ok c.in_err-push_loop-in-Loop.ensures.err) in
    search rules

pub returns-in_err-push-in-Loop-2-clause-err : goal.returns-in_err-push-in-Loop-2-clause-err
returns-in_err-push-in-Loop-2-clause-err t c =
    let e : Extends c.args.out.now.items c.push-in-Loop-2.new.self.items = extends_behind _ _ _ _ c.in_ok-push-in-Loop.ensures.items (extends_behind _ _ _ _ c.in_ok-push_context-in-Loop.ensures.ok (extends_behind _ _ _ _ c.in_ok-push_loop-in-Loop.ensures.ok (extends_same _ _ c.in_err-push-in-Loop-2.ensures.items))) in
    search rules

pub returns-in_err-push-in-Call-clause-err : goal.returns-in_err-push-in-Call-clause-err
returns-in_err-push-in-Call-clause-err t c = search (rules, extends_same)

pub returns-in_err-push_context-in-Call-clause-err : goal.returns-in_err-push_context-in-Call-clause-err
returns-in_err-push_context-in-Call-clause-err t c = search (rules, extends_behind)

pub returns-in_err-push_call-in-Call-clause-err : goal.returns-in_err-push_call-in-Call-clause-err
returns-in_err-push_call-in-Call-clause-err t c =
    let e : Extends c.args.out.now.items c.push_call.new.out.items = extends_behind _ _ _ _ c.in_ok-push-in-Call.ensures.items (extends_behind _ _ _ _ c.in_ok-push_context-in-Call.ensures.ok c.in_err-push_call-in-Call.ensures.err) in
    search rules

pub returns-in_err-push-in-Call-2-clause-err : goal.returns-in_err-push-in-Call-2-clause-err
returns-in_err-push-in-Call-2-clause-err t c =
    let e : Extends c.args.out.now.items c.push-in-Call-2.new.self.items = extends_behind _ _ _ _ c.in_ok-push-in-Call.ensures.items (extends_behind _ _ _ _ c.in_ok-push_context-in-Call.ensures.ok (extends_behind _ _ _ _ c.in_ok-push_call-in-Call.ensures.ok (extends_same _ _ c.in_err-push-in-Call-2.ensures.items))) in
    search rules
