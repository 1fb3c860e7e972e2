-- What the tests on a statement's kind say.
use Rattle.std.proofs.Common.{◌≡◌, ℕ, refl, ap, true, false, Bool, inl, inr, ◌⊎◌, Some}
use Rattle.std.proofs.lemmas.Bool.{false≢true}
use Rattle.u_program.specs.declared.program.Kind.{Kind}
use Rattle.u_program.specs.declared.program.Kind.TheVariants as kinds
use Rattle.u_program.specs.declared.program.Arguments.{Arguments}
use Rattle.u_check.specs.Kinds.{back_named}
use Rattle.u_determinate.specs.declared.sources.Way.{Way}
use Rattle.u_determinate.specs.declared.sources.Way.TheVariants.{Enter, Next, Other}
use Rattle.u_determinate.specs.Tables.{way_of, side_of, are_enter_and_next, is_switch}

pub enter_kind : (k : Kind) → way_of k ≡ Enter → (l : ℕ) × (k ≡ kinds.Enter l)
enter_kind (kinds.Enter l) e = (l, refl)
enter_kind k e = absurd (cc)

pub next_kind : (k : Kind) → way_of k ≡ Next → k ≡ kinds.Next
next_kind kinds.Next e = refl
next_kind k e = absurd (cc)

pub switch_kind : (k : Kind) → is_switch k ≡ true → k ≡ kinds.Switch
switch_kind kinds.Switch e = refl
switch_kind k e = absurd (false≢true e)

-- only an `apply` names a `back`
pub named_apply : (k : Kind) (n : ℕ) → back_named k ≡ Some n → (a : Arguments) × (k ≡ kinds.Apply n a)
named_apply (kinds.Apply b a) n e = let q : b ≡ n = cc in (a, ap (λ (i : ℕ). kinds.Apply i a) q)
named_apply k n e = absurd (cc)

pub next_or_last : (k : Kind) (f : Bool) → side_of k ≡ Some f → ((k ≡ kinds.Next) × (f ≡ false)) ⊎ ((k ≡ kinds.Last) × (f ≡ true))
next_or_last kinds.Next f e = inl (refl, (cc))
next_or_last kinds.Last f e = inr (refl, (cc))
next_or_last k f e = absurd (cc)

pub two_ways : (p q : Way) → are_enter_and_next p q ≡ true → ((p ≡ Enter) × (q ≡ Next)) ⊎ ((p ≡ Next) × (q ≡ Enter))
two_ways Enter Next e = inl (refl, refl)
two_ways Next Enter e = inr (refl, refl)
two_ways Enter Enter e = absurd (false≢true e)
two_ways Enter Other e = absurd (false≢true e)
two_ways Next Next e = absurd (false≢true e)
two_ways Next Other e = absurd (false≢true e)
two_ways Other q e = absurd (false≢true e)
