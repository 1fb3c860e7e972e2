use Rattle.std.proofs.Common.{◌++◌, ◌∷◌, [], List, subst, sym}
use Rattle.u_world.specs.Scripts.{AreLinesOf}
use Rattle.u_world.specs.declared.event.Event.{Event}
use Rattle.u_world.proofs.ScriptLaws.{found, are_more, longer}
use Rattle.u_world.proofs.script.read_script.Goals as goal

-- one more line, and its event
pub loop-line-preserved : goal.loop-line-preserved
loop-line-preserved c =
    let i = c.loop-line.invariant in
    let ls = i.0 ++ (c.in-Some.line.now ∷ []) in
    let are : AreLinesOf ls (c.loop-line.events.items ++ (c.in-Some-found.event ∷ [])) = are_more i.0 c.loop-line.events.items c.in-Some.line.now c.in-Some-found.event i.1 (found _ _ _ c.in-Some-found.event c.in-Some-found.is c.in-Ok.ensures) in
    (ls, subst (λ (es : List Event). AreLinesOf ls es) (sym c.in-Ok-push.ensures.items) are, longer c.args.bytes.now c.loop-line.rest.now c.in-Some.line.now c.in-Some.others.now i.0 i.2 c.in-Some.ensures.cut)
