use Rattle.std.proofs.Common.{◌≡◌, refl, List, [], ◌∷◌, length, subst}
use Rattle.u_program.specs.declared.program.Kind.TheVariants.{Next}
use Rattle.u_compile.specs.declared.graph.Output.{Output}
use Rattle.u_compile.specs.Drafts.{draft}
use Rattle.u_compile.specs.Drawings.{AreValues, input_links, with_links}
use Rattle.u_compile.proofs.LeadLaws.{part_drawn, all_drawn, all_added, all_stands}
use Rattle.u_compile.proofs.drawing.Drawing.add_going_on.Goals as goal

pub invariant_of-self-in-Err : goal.invariant_of-self-in-Err
invariant_of-self-in-Err c =
    let s = c.self.inside in
    part_drawn s.graph c.put_next.new.self c.lead_values.new.graph (draft c.args.place.now.region Next c.args.enter) c.args.place.now 0 s.graph.unfinished s.values.items s.gates.items s.broken c.self.invariant c.in_ok-put_next.ensures.1 c.lead_values.ensures.some

pub invariant_of-self-in_default : goal.invariant_of-self-in_default
invariant_of-self-in_default c =
    let s = c.self.inside in
    let ins = c.args.value ∷ [] in
    let all = subst (λ (vs : List (List Output)). AreValues vs ins) c.deref.ensures.value c.in_default.ensures.values in
    let led = subst (λ (vs : List (List Output)). c.lead_values.new.graph ≡ with_links c.put_next.new.self (input_links vs (length c.put_next.new.self.graph.statements) 1 ins)) c.deref.ensures.value c.in_default.ensures.ok in
    all_drawn s.graph c.put_next.new.self c.lead_values.new.graph (draft c.args.place.now.region Next c.args.enter) c.args.place.now 0 s.graph.unfinished s.values.items s.gates.items s.broken ins c.self.invariant c.in_ok-put_next.ensures.1 led all

pub returns-clause-of : goal.returns-clause-of
returns-clause-of c =
    let s = c.self.inside in
    let ins = c.args.value ∷ [] in
    let x = draft c.args.place.now.region Next c.args.enter in
    let led = subst (λ (vs : List (List Output)). c.lead_values.new.graph ≡ with_links c.put_next.new.self (input_links vs (length c.put_next.new.self.graph.statements) 1 ins)) c.deref.ensures.value c.in_default.ensures.ok in
    (x, all_stands s.graph c.put_next.new.self c.lead_values.new.graph x c.args.place.now 0 s.graph.unfinished s.scopes.items s.values.items s.gates.items s.carried.items ins c.args.self.now c.in_ok-put_next.ensures.1 led c.self.view_is, refl, refl)

pub returns-clause-adds : goal.returns-clause-adds
returns-clause-adds c =
    let s = c.self.inside in
    let ins = c.args.value ∷ [] in
    let all = subst (λ (vs : List (List Output)). AreValues vs ins) c.deref.ensures.value c.in_default.ensures.values in
    let led = subst (λ (vs : List (List Output)). c.lead_values.new.graph ≡ with_links c.put_next.new.self (input_links vs (length c.put_next.new.self.graph.statements) 1 ins)) c.deref.ensures.value c.in_default.ensures.ok in
    all_added s.graph c.put_next.new.self c.lead_values.new.graph (draft c.args.place.now.region Next c.args.enter) c.args.place.now 0 s.graph.unfinished s.scopes.items s.values.items s.gates.items s.carried.items s.broken ins c.args.self.now c.self.invariant c.in_ok-put_next.ensures.1 led all c.self.view_is
