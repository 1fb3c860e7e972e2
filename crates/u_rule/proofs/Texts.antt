-- Texts one after another.
use Rattle.std.proofs.Common.{◌≡◌, ℕ, ◌+◌, ◌<◌, List, [], ◌∷◌, ◌++◌, sym, ap, ◌∙◌, append_assoc, append-nil, length, take, get_or}
use Rattle.std.proofs.lemmas.List.{take_more}
use Rattle.u_value.specs.Values.{value_text}
use Rattle.u_value.specs.declared.value.Value.{Value}
use Rattle.u_rule.specs.FiringText.{values_text}

values_push : (vs : List Value) (v : Value) → values_text (vs ++ v ∷ []) ≡ values_text vs ++ (32 ∷ value_text v)
values_push [] v = ap (λ (t : List ℕ). 32 ∷ t) (append-nil (value_text v))
values_push (w ∷ ws) v = ap (λ (t : List ℕ). 32 ∷ (value_text w ++ t)) (values_push ws v) ∙ sym (append_assoc (32 ∷ value_text w) (values_text ws) (32 ∷ value_text v))

-- one value more
pub values_more : (vs : List Value) (i : ℕ) (v : Value) (o old new : List ℕ) → i < length vs → v ≡ get_or vs i v → old ≡ o ++ values_text (take i vs) → new ≡ old ++ (32 ∷ value_text v) → new ≡ o ++ values_text (take (i + 1) vs)
values_more vs i v o old new l at p q = rw (take_more vs i v l, ← at, values_push (take i vs) v, q, p) (append_assoc o (values_text (take i vs)) (32 ∷ value_text v))
