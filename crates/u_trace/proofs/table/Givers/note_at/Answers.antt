use Rattle.std.proofs.Common.{◌≡◌, ◌<◌, ◌∙◌, ℕ, None, length, sym, subst, ap}
use Rattle.u_value.specs.declared.value.Value.{Value}
use Rattle.u_trace.specs.TokenKeys.{token_key}
use Rattle.u_trace.specs.TokenPlaces.{place_under, IsPlaced}
use Rattle.u_trace.specs.Numbers.{number_in}
use Rattle.u_trace.specs.declared.token_key.TokenKey.{TokenKey}
use Rattle.u_trace.proofs.TableLaws.{notes_token}
use Rattle.u_trace.proofs.table.Givers.note_at.Goals as goal

pub returns-clause-notes : goal.returns-clause-notes
returns-clause-notes c =
    let names = c.args.self.now.names in
    let tokens = c.args.self.now.tokens in
    let t = c.args.token.now in
    let v = c.in_ok-value.value in
    let key : token_key c.args.number c.port-port.result v ≡ token_key (number_in names t.activity) t.port t.value =
    ap (λ (n : ℕ). token_key n c.port-port.result v) c.requires.number
    ∙ ap (λ (p : ℕ). token_key (number_in names t.activity) p v) c.port-port.ensures.port
    ∙ ap (λ (w : Value). token_key (number_in names t.activity) t.port w) (c.in_ok-value.ensures ∙ c.value-2.ensures) in
    let none : place_under tokens (token_key c.args.number c.port-port.result v) ≡ None =
    ap (λ (w : Value). place_under tokens (token_key c.args.number c.port-port.result w)) (c.in_ok-value.ensures ∙ c.value-2.ensures ∙ sym c.value.ensures)
    ∙ sym c.in_ok-found.ensures ∙ c.in_default.is in
    notes_token names tokens c.put.new.self c.args.self.now.others t c.args.place (subst (λ (n : ℕ). n < length names) c.requires.number c.requires.below)
    (subst (λ (k : TokenKey). IsPlaced (place_under tokens) k c.args.place (place_under c.put.new.self)) key c.in_ok-put.ensures.ok)
    (ap (λ (k : TokenKey). place_under tokens k) (sym key) ∙ none)
