-- Bytes are one source at most, and none where they are refused.
use Rattle.std.proofs.Common.{◌≡◌, ℕ, inl, inr, List, take, drop, ◌++◌, refl, sym, ◌∙◌, ap, subst, Result, Ok, Err, MatchResult}
use Rattle.std.proofs.lemmas.List.{take-append-drop}
use Rattle.u_source.specs.declared.part.Stop.{Stop}
use Rattle.u_source.specs.declared.place.Position.{Position}
use Rattle.u_source.specs.declared.source_error.Found.{Found}
use Rattle.u_source.specs.declared.source_error.Problem.{Problem}
use Rattle.u_source.specs.declared.source_error.SourceError.{SourceError}
use Rattle.u_source.specs.declared.source_error.SourceError.TheVariants.{Refused, NoMemory}
use Rattle.u_source.specs.Derivations.{IsSyntax, IsStuckAt}
use Rattle.u_source.specs.Lexing.{AreTokens}
use Rattle.u_source.specs.Sources.{SourceParts, source, IsSource, found, problem_of, place_next, IsNoSource, IsSourceError}
use Rattle.u_source.specs.Tokens.{TokenParts}
use Rattle.u_source.proofs.OnceLaws.{same_tokens, not_both}
use Rattle.u_source.proofs.Completing.{some_begins}
use Rattle.u_source.proofs.OnlyOne.{syntax_once, none_begins}

pub source_once : (bytes : List ℕ) (r s : SourceParts) → IsSource bytes r → IsSource bytes s → r ≡ s
source_once bytes r s h k =
    let tokens : r.tokens ≡ s.tokens = same_tokens bytes r.tokens s.tokens h.tokens k.tokens in
    let syntax : IsSyntax r.tokens s.nodes = subst (λ x. IsSyntax x s.nodes) (sym tokens) k.syntax in
    let nodes : r.nodes ≡ s.nodes = syntax_once r.tokens r.nodes s.nodes h.syntax syntax in
    ap (λ x. source x r.nodes) tokens ∙ ap (λ x. source s.tokens x) nodes

not_refused : (bytes : List ℕ) (s : SourceParts) (q : Position) (problem : Problem) → IsSource bytes s → IsNoSource bytes q problem → ⊥
not_refused bytes s q problem h e =
    let tokens : e.tokens ≡ s.tokens = same_tokens bytes e.tokens s.tokens e.are h.tokens in
    let whole : s.tokens ≡ take e.number e.tokens ++ drop e.number e.tokens = sym tokens ∙ sym (take-append-drop e.number e.tokens) in
    e.none (drop e.number e.tokens) s.nodes refl (subst (λ x. IsSyntax x s.nodes) whole h.syntax)

-- bytes that are a source are answered by it, or by want of memory
pub source_back : (bytes : List ℕ) (result : Result SourceParts SourceError) → MatchResult result (λ s. IsSource bytes s) (λ e. IsSourceError bytes e) → (s : SourceParts) → IsSource bytes s → MatchResult result (λ r. r ≡ s) (λ e. e ≡ NoMemory)
source_back bytes (Ok r) h s k = source_once bytes r s h k
source_back bytes (Err (Refused q problem)) (inl e) s k = absurd (not_both bytes s.tokens q problem k.tokens e)
source_back bytes (Err (Refused q problem)) (inr e) s k = absurd (not_refused bytes s q problem k e)
source_back bytes (Err NoMemory) h s k = refl

-- a refusal, where the same tokens go by several names
pub refused : (bytes : List ℕ) (ts us vs ws : List TokenParts) (n : ℕ) (why : Stop) (q : Position) (f : Found) (problem : Problem) → AreTokens bytes ts → us ≡ ts → vs ≡ ts → ws ≡ ts → IsStuckAt us n why → q ≡ place_next bytes (drop n vs) → f ≡ found (drop n ws) → problem ≡ problem_of why f → IsNoSource bytes q problem
refused bytes ts us vs ws n why q f problem are u v w stuck place name reason =
    let here : IsStuckAt ts n why = subst (λ x. IsStuckAt x n why) u stuck in
    record {
      tokens = ts;
      are = are;
      number = n;
      why = why;
      stuck = here;
      some = some_begins ts n why here;
      none = none_begins ts n why here;
      place = place ∙ ap (λ x. place_next bytes (drop n x)) v;
      reason = reason ∙ ap (problem_of why) (name ∙ ap (λ x. found (drop n x)) w);
    }
