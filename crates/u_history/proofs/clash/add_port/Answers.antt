use Rattle.std.proofs.Common.{◌≡◌, ap, ◌∙◌, ℕ}
use Rattle.u_name.specs.Name.{Activity}
use Rattle.u_history.specs.declared.clash.Port.{Port}
use Rattle.u_history.specs.Clashes.{port_of}
use Rattle.u_history.specs.Places.{IsTokenAt}
use Rattle.u_history.proofs.Clashing.{added_place, token_is_at, token_at_one}
use Rattle.u_history.proofs.clash.add_port.Goals as goal

pub returns-in_ok-place_in-clause-ok : goal.returns-in_ok-place_in-clause-ok
returns-in_ok-place_in-clause-ok c =
    let e = c.args.entry.now in
    let t = c.in-Token.item in
    let p = port_of c.in_ok-copy.field-0 c.port.result in
    let q : p ≡ port_of t.activity t.port = ap (λ (n : Activity). port_of n c.port.result) (c.in_ok-copy.ensures ∙ c.activity.ensures) ∙ ap (λ (k : ℕ). port_of t.activity k) c.port.ensures.port in
    added_place (λ (x : Port). IsTokenAt x.activity x.number) e c.args.list.now.items c.place_in.new.list.items p c.args.clashing c.if-clashing.true (token_is_at e t p c.in-Token.is q) (λ x. token_at_one e t p x c.in-Token.is q) c.in_ok-place_in.ensures.ok
