use Rattle.std.proofs.Common.{◌≡◌, List, length, cond, subst}
use Rattle.u_compile.specs.declared.graph.Output.{Output}
use Rattle.u_compile.specs.Drafts.{draft}
use Rattle.u_compile.specs.Placed.{opens}
use Rattle.u_compile.specs.Drawings.{AreValues, input_links, with_links}
use Rattle.u_compile.proofs.LeadLaws.{part_drawn, all_drawn, all_added, all_placed}
use Rattle.u_compile.proofs.drawing.Drawing.add.Goals as goal

pub invariant_of-self-in-Err : goal.invariant_of-self-in-Err
invariant_of-self-in-Err c =
    let s = c.self.inside in
    let n = c.in_ok-statement.statement in
    part_drawn s.graph c.put.new.self c.lead_values.new.graph (draft c.args.place.now.region c.args.kind.now n) c.args.place.now c.args.control (cond (opens c.args.kind.now) n s.graph.unfinished) s.values.items s.gates.items s.broken c.self.invariant c.in_ok-statement.ensures.1 c.lead_values.ensures.some

pub invariant_of-self-in_default : goal.invariant_of-self-in_default
invariant_of-self-in_default c =
    let s = c.self.inside in
    let n = c.in_ok-statement.statement in
    let all = subst (λ (vs : List (List Output)). AreValues vs c.args.inputs.now) c.deref.ensures.value c.in_default.ensures.values in
    let led = subst (λ (vs : List (List Output)). c.lead_values.new.graph ≡ with_links c.put.new.self (input_links vs (length c.put.new.self.graph.statements) 1 c.args.inputs.now)) c.deref.ensures.value c.in_default.ensures.ok in
    all_drawn s.graph c.put.new.self c.lead_values.new.graph (draft c.args.place.now.region c.args.kind.now n) c.args.place.now c.args.control (cond (opens c.args.kind.now) n s.graph.unfinished) s.values.items s.gates.items s.broken c.args.inputs.now c.self.invariant c.in_ok-statement.ensures.1 led all

pub returns-clause-adds : goal.returns-clause-adds
returns-clause-adds c =
    let s = c.self.inside in
    let n = c.in_ok-statement.statement in
    let all = subst (λ (vs : List (List Output)). AreValues vs c.args.inputs.now) c.deref.ensures.value c.in_default.ensures.values in
    let led = subst (λ (vs : List (List Output)). c.lead_values.new.graph ≡ with_links c.put.new.self (input_links vs (length c.put.new.self.graph.statements) 1 c.args.inputs.now)) c.deref.ensures.value c.in_default.ensures.ok in
    all_added s.graph c.put.new.self c.lead_values.new.graph (draft c.args.place.now.region c.args.kind.now n) c.args.place.now c.args.control (cond (opens c.args.kind.now) n s.graph.unfinished) s.scopes.items s.values.items s.gates.items s.carried.items s.broken c.args.inputs.now c.args.self.now c.self.invariant c.in_ok-statement.ensures.1 led all c.self.view_is

pub returns-clause-places : goal.returns-clause-places
returns-clause-places c =
    let s = c.self.inside in
    let n = c.in_ok-statement.statement in
    let led = subst (λ (vs : List (List Output)). c.lead_values.new.graph ≡ with_links c.put.new.self (input_links vs (length c.put.new.self.graph.statements) 1 c.args.inputs.now)) c.deref.ensures.value c.in_default.ensures.ok in
    all_placed s.graph c.put.new.self c.lead_values.new.graph (draft c.args.place.now.region c.args.kind.now n) c.args.place.now c.args.control (cond (opens c.args.kind.now) n s.graph.unfinished) s.scopes.items s.values.items s.gates.items s.carried.items c.args.inputs.now c.args.self.now c.in_ok-statement.ensures.1 led c.self.view_is
