use Rattle.std.proofs.Common.{◌≡◌, List, sym, ap, ◌∙◌, arith, length}
use Rattle.u_source.specs.declared.form.Node.{Node}
use Rattle.u_scope.specs.declared.entry.Event.TheVariants.{Block, Variables}
use Rattle.u_scope.specs.Entries.{event_of}
use Rattle.u_scope.specs.Counting.{has_next}
use Rattle.u_scope.proofs.CountingLaws.{behind_variables, behind_block_begin}
use Rattle.u_scope.proofs.counting.has_next.Goals as goal

pub loop-node-preserved-in-Variables : goal.loop-node-preserved-in-Variables
loop-node-preserved-in-Variables c =
    let l = c.loop-node in
    let at = c.in-Some.ensures.cases.0 in
    let e : event_of c.in-Some.node.now.form ≡ Variables = sym c.event_of.ensures ∙ c.in-Variables.is in
    let inside = l.invariant.1 in
    (sym (behind_variables c.args.tokens.now c.args.name l.depth l.stands c.in-Some.node.now c.in-Some.others.now e) ∙ (ap (has_next c.args.tokens.now c.args.name l.depth l.stands) (sym at) ∙ l.invariant.0), omega (arith, ap (λ (v : List Node). length v) at, inside))

pub loop-node-preserved-in-Block : goal.loop-node-preserved-in-Block
loop-node-preserved-in-Block c =
    let l = c.loop-node in
    let at = c.in-Some.ensures.cases.0 in
    let e : event_of c.in-Some.node.now.form ≡ Block = sym c.event_of.ensures ∙ c.in-Block.is in
    let inside = l.invariant.1 in
    (sym (behind_block_begin c.args.tokens.now c.args.name l.depth l.stands c.in-Some.node.now c.in-Some.others.now e) ∙ (ap (has_next c.args.tokens.now c.args.name l.depth l.stands) (sym at) ∙ l.invariant.0), omega (arith, ap (λ (v : List Node). length v) at, inside))
