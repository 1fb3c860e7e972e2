use Rattle.std.proofs.Common.{◌≡◌, ◌∙◌, ℕ, ap}
use Rattle.u_value.specs.declared.value.Value.{Value}
use Rattle.u_sets.proofs.Columned.{if_ok}
use Rattle.u_trace.specs.TokenKeys.{token_key}
use Rattle.u_trace.specs.TokenPlaces.{place_under}
use Rattle.u_trace.specs.Numbers.{number_in}
use Rattle.u_trace.specs.declared.token_key.TokenKey.{TokenKey}
use Rattle.u_trace.proofs.table.Givers.at.Goals as goal

pub returns : goal.returns
returns c =
    let names = c.args.self.now.names in
    let t = c.args.token.now in
    let v = c.value.result.now in
    let key : token_key c.args.number c.port.result v ≡ token_key (number_in names t.activity) t.port t.value =
    ap (λ (n : ℕ). token_key n c.port.result v) c.requires
    ∙ ap (λ (p : ℕ). token_key (number_in names t.activity) p v) c.port.ensures.port
    ∙ ap (λ (w : Value). token_key (number_in names t.activity) t.port w) c.value.ensures in
    if_ok c.of.result c.of.ensures (λ o e. e ∙ ap (λ (k : TokenKey). place_under c.args.self.now.tokens k) key)
