-- The tokens of the first values and of the first arguments, one after the other.
use Rattle.std.specs.Prelude.{◌≡◌, ℕ, zero, suc, ◌+◌, ◌<◌, List, [], ◌∷◌, ◌++◌, length, take, get_or}
use Rattle.std.proofs.Common.{ap, arith, sym, ◌∙◌, append_assoc}
use Rattle.u_name.specs.Name.{Activity}
use Rattle.u_value.specs.declared.value.Value.{Value}
use Rattle.u_rule.specs.Parts.{TokenParts, token, ValueList}
use Rattle.u_rule.specs.Rule.{tokens_from, arguments_from, beside}
use Rattle.u_rule.specs.declared.entry.Entry.{Entry}
use Rattle.u_rule.specs.declared.entry.Entry.TheVariants as entries

-- a list that ends with some entries, and one more is pushed
one_pushed : (old before after front more : List Entry) (t u : TokenParts) → before ≡ old ++ front → t ≡ u → after ≡ before ++ (entries.Token t ∷ []) → more ≡ front ++ (entries.Token u ∷ []) → after ≡ old ++ more
one_pushed old before after front more t u b is pushed e =
    pushed
    ∙ ap (λ (es : List Entry). es ++ (entries.Token t ∷ [])) b
    ∙ append_assoc old front (entries.Token t ∷ [])
    ∙ ap (λ (x : TokenParts). old ++ (front ++ (entries.Token x ∷ []))) is
    ∙ ap (λ (es : List Entry). old ++ es) (sym e)

-- one value more has its token behind those before it
tokens_more : (a : Activity) (from : ℕ) (vs : ValueList) (i p : ℕ) (d : Value) → i < length vs → p ≡ from + i
    → tokens_from a from (take (suc i) vs) ≡ tokens_from a from (take i vs) ++ (entries.Token (token a p (get_or vs i d)) ∷ [])
tokens_more a from [] i p d l e = absurd (omega (arith, l))
tokens_more a from (v ∷ vs) zero p d l e = let f : from ≡ p = omega (arith, e) in ap (λ (n : ℕ). entries.Token (token a n v) ∷ []) f
tokens_more a from (v ∷ vs) (suc i) p d l e =
    ap (λ (ts : List Entry). entries.Token (token a from v) ∷ ts) (tokens_more a (from + 1) vs i p d (omega (arith, l)) (omega (arith, e)))

-- a list that ends with the tokens of the first values, and one more token is pushed
pub tokens_pushed : (old before after : List Entry) (a : Activity) (vs : ValueList) (i : ℕ) (d : Value) (t : TokenParts) → i < length vs
    → before ≡ old ++ tokens_from a 1 (take i vs) → t ≡ token a (i + 1) (get_or vs i d) → after ≡ before ++ (entries.Token t ∷ [])
    → after ≡ old ++ tokens_from a 1 (take (i + 1) vs)
tokens_pushed old before after a vs i d t l b is pushed =
    let more : suc i ≡ i + 1 = omega arith in
    one_pushed old before after (tokens_from a 1 (take i vs)) (tokens_from a 1 (take (suc i) vs)) t (token a (i + 1) (get_or vs i d)) b is pushed (tokens_more a 1 vs i (i + 1) d l (omega arith))
    ∙ ap (λ (n : ℕ). old ++ tokens_from a 1 (take n vs)) more

-- one argument more has its token behind those before it
arguments_more : (a : Activity) (from : ℕ) (vs : ValueList) (i p : ℕ) (d : Value) → i < length vs → p ≡ from + i
    → arguments_from a from (take (suc i) vs) ≡ arguments_from a from (take i vs) ++ (entries.Token (token (beside a p) 1 (get_or vs i d)) ∷ [])
arguments_more a from [] i p d l e = absurd (omega (arith, l))
arguments_more a from (v ∷ vs) zero p d l e = let f : from ≡ p = omega (arith, e) in ap (λ (n : ℕ). entries.Token (token (beside a n) 1 v) ∷ []) f
arguments_more a from (v ∷ vs) (suc i) p d l e =
    ap (λ (ts : List Entry). entries.Token (token (beside a from) 1 v) ∷ ts) (arguments_more a (from + 1) vs i p d (omega (arith, l)) (omega (arith, e)))

-- a list that ends with the tokens of the first arguments, and one more token is pushed
pub arguments_pushed : (old before after : List Entry) (a : Activity) (vs : ValueList) (i : ℕ) (d : Value) (t : TokenParts) → i < length vs
    → before ≡ old ++ arguments_from a 1 (take i vs) → t ≡ token (beside a (i + 1)) 1 (get_or vs i d) → after ≡ before ++ (entries.Token t ∷ [])
    → after ≡ old ++ arguments_from a 1 (take (i + 1) vs)
arguments_pushed old before after a vs i d t l b is pushed =
    let more : suc i ≡ i + 1 = omega arith in
    one_pushed old before after (arguments_from a 1 (take i vs)) (arguments_from a 1 (take (suc i) vs)) t (token (beside a (i + 1)) 1 (get_or vs i d)) b is pushed (arguments_more a 1 vs i (i + 1) d l (omega arith))
    ∙ ap (λ (n : ℕ). old ++ arguments_from a 1 (take n vs)) more
