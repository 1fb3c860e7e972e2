-- What a firing needs, token by token.
use Rattle.std.proofs.Common.{◌≡◌, ℕ, zero, suc, ◌+◌, ◌<◌, List, [], ◌∷◌, ◌++◌, ◌∙◌, ap, sym, take, length, get_or, true, false, arith, append-nil}
use Rattle.std.specs.Prelude.{is_some, Option, Some, None}
use Rattle.u_name.specs.Context.{Top}
use Rattle.u_name.specs.Name.{Activity, activity}
use Rattle.u_value.specs.declared.value.Value.{Value}
use Rattle.u_value.specs.declared.value.Value.TheVariants as values
use Rattle.u_check.specs.Jobs.{JobParts}
use Rattle.u_check.specs.Rules.{main_name}
use Rattle.u_rule.specs.Parts.{TokenParts, ValueList, token}
use Rattle.u_rule.specs.Structures.{write_read}
use Rattle.u_rule.specs.Rule.{tokens_from, needs_of, start_of}
use Rattle.u_rule.specs.declared.entry.Entry.{Entry}
use Rattle.u_rule.specs.declared.entry.Entry.TheVariants as entries
use Rattle.u_rule.specs.declared.firing.Firing.{Firing}
use Rattle.u_rule.specs.declared.parts.Written.{Written}

-- one value more has its token behind those before it
tokens_more : (a : Activity) (from : ℕ) (vs : ValueList) (i p : ℕ) (v : Value) → i < length vs → v ≡ get_or vs i v → p ≡ from + i → tokens_from a from (take (suc i) vs) ≡ tokens_from a from (take i vs) ++ entries.Token (token a p v) ∷ []
tokens_more a from [] i p v l is e = absurd (omega (arith, l))
tokens_more a from (w ∷ vs) zero p v l is e =
    let f : from ≡ p = omega (arith, e) in
    ap (λ (n : ℕ). entries.Token (token a n w) ∷ []) f ∙ ap (λ (x : Value). entries.Token (token a p x) ∷ []) (sym is)
tokens_more a from (w ∷ vs) (suc i) p v l is e =
    ap (λ (ts : List Entry). entries.Token (token a from w) ∷ ts) (tokens_more a (from + 1) vs i p v (omega (arith, l)) is (omega (arith, e)))

pub tokens_next : (a : Activity) (vs : ValueList) (i : ℕ) (v : Value) → i < length vs → v ≡ get_or vs i v → tokens_from a 1 (take (i + 1) vs) ≡ tokens_from a 1 (take i vs) ++ entries.Token (token a (i + 1) v) ∷ []
tokens_next a vs i v l is =
    let h : i + 1 ≡ suc i = omega arith in
    ap (λ (n : ℕ). tokens_from a 1 (take n vs)) h ∙ tokens_more a 1 vs i (i + 1) v l is (omega arith)

-- where it read no write
pub needs_plain : (f : Firing) → is_some f.write ≡ false → needs_of f ≡ tokens_from f.activity 1 f.values
unfolding needs_of
needs_plain f none = over f.write none
  where
    over : (w : Option Written) → is_some w ≡ false → tokens_from f.activity 1 f.values ++ write_read f.values w ≡ tokens_from f.activity 1 f.values
    over None e = append-nil (tokens_from f.activity 1 f.values)
    over (Some w) e = absurd (let h : true ≡ false = e in cc)

-- a token that stands elsewhere than the start does
pub not_start : (job : JobParts) (t : TokenParts) → ((t.port ≡ 1) × (t.activity.statement ≡ 1) → ⊥) → entries.Token t ≡ start_of job → ⊥
unfolding start_of
not_start job t n e = let h : t ≡ token (activity Top main_name 1 1) 1 (values.Int job.argument) = cc in n (ap (λ (x : TokenParts). x.port) h, ap (λ (x : TokenParts). x.activity.statement) h)
