-- Known bytes of readers and writers, one call after another.
use Rattle.std.proofs.Common.{◌≡◌, ◌∙◌, sym, ap, refl, ℕ, List, [], ◌++◌, Option, Some, None, ◌<◌, length, take, append_assoc, append-nil, arith}
use Rattle.std.specs.Prelude.{IfSome, ◌≤◌, Result, Ok, Err, MatchResult}
use Rattle.std.specs.Option.{option_map}
use Rattle.std.proofs.lemmas.List.{length-take, take_all}
use Rattle.std.specs.Io.KnownBytes.{Appends, Keeps}

pub appends_none : (a : Option (List ℕ)) → Appends a a []
appends_none None = tt
appends_none (Some xs) = sym (append-nil xs)

pub appends_more : (a b c : Option (List ℕ)) (xs ys : List ℕ) → Appends a b xs → Appends b c ys → Appends a c (xs ++ ys)
appends_more None b c xs ys p q = tt
appends_more (Some ps) None c xs ys p q = absurd p
appends_more (Some ps) (Some qs) None xs ys p q = absurd q
appends_more (Some ps) (Some qs) (Some rs) xs ys p q = q ∙ ap (λ (t : List ℕ). t ++ ys) p ∙ append_assoc ps xs ys

pub appends_kept : (a b c : Option (List ℕ)) (xs : List ℕ) → Appends a b xs → Keeps b c → Appends a c xs
appends_kept None b c xs p q = tt
appends_kept (Some ps) None c xs p q = absurd p
appends_kept (Some ps) (Some qs) None xs p q = absurd q
appends_kept (Some ps) (Some qs) (Some rs) xs p q = q ∙ p

pub kept : (a : Option (List ℕ)) → Keeps a a
kept None = tt
kept (Some xs) = refl

-- the first n bytes of a reader are all of them, where they are fewer
pub read_short : (known : Option (List ℕ)) (n : ℕ) (items : List ℕ) → IfSome (option_map (take n) known) (λ xs. items ≡ xs) → length items < n → IfSome known (λ xs. items ≡ xs)
read_short None n items e l = tt
read_short (Some xs) n items e l =
    let m : length xs ≤ n = omega (arith, ap length e, length-take n xs) in
    e ∙ take_all n xs m

-- and there are as many, or more
pub read_long : (known : Option (List ℕ)) (n : ℕ) (items : List ℕ) (m : ℕ) → IfSome (option_map (take n) known) (λ xs. items ≡ xs) → m < length items → IfSome known (λ xs. m < length xs)
read_long None n items m e l = tt
read_long (Some xs) n items m e l = omega (arith, ap length e, length-take n xs)

-- what follows from both answers of a call follows from the call's
pub match_more : {A E : Type 0} (r : Result A E) (P Q : A → Type 0) (R S : E → Type 0) → ((a : A) → P a → Q a) → ((e : E) → R e → S e) → MatchResult r P R → MatchResult r Q S
match_more (Ok a) P Q R S f g m = f a m
match_more (Err e) P Q R S f g m = g e m
