-- What a token is where activities have numbers. Only a key itself ties with it: this law stands here
-- because the impl of `ExactOrd` cites it.
use Rattle.std.specs.Prelude.{◌≡◌, ℕ, Bool}
use Rattle.std.proofs.Common.{ap, ◌∙◌}
use Rattle.std.specs.FinMap.{nat_cmp-IsAntisymmetric}
use Rattle.std.specs.declared.cmp.Ordering.TheVariants.{Equal}
use Rattle.u_name.specs.ContextLaws.{both}
use Rattle.u_value.specs.ExactOrders.{derived_value_ties}
use Rattle.u_value.specs.declared.value.Value.{Value}
use Rattle.u_trace.specs.declared.token_key.TokenKey.{TokenKey}
use Rattle.u_trace.specs.contracts.token_key.TokenKeyOrd.TheImpl as key_ord
use Rattle.u_trace.specs.contracts.token_key.TokenKeyPartialEq.TheImpl as key_partial

abbrev pub token_key : ℕ → ℕ → Value → TokenKey
token_key activity port value = record { activity = activity; port = port; value = value }

-- the derived test of two keys
abbrev pub key_eq : TokenKey → TokenKey → Bool
key_eq = (key_partial.ghosts).eq

-- keys that tie are the same
pub token_key_ties : (a b : TokenKey) → (key_ord.ghosts).cmp a b ≡ Equal → a ≡ b
token_key_ties a b h =
    let u = both _ _ h in
    let v = both _ _ u.1 in
    ap (λ n. token_key n a.port a.value) (nat_cmp-IsAntisymmetric a.activity b.activity u.0)
    ∙ ap (λ p. token_key b.activity p a.value) (nat_cmp-IsAntisymmetric a.port b.port v.0)
    ∙ ap (λ w. token_key b.activity b.port w) (derived_value_ties a.value b.value v.1)
