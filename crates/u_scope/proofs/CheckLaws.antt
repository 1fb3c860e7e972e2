-- When a source is allowed, and when it is refused.
use Rattle.std.proofs.Common.{◌≡◌, List, [], ◌∷◌, map, Result, Ok, Err, MatchResult, inl, inr, refl, sym, ◌∙◌}
use Rattle.u_source.specs.declared.place.Position.{Position}
use Rattle.u_source.specs.Sources.{SourceParts}
use Rattle.u_scope.specs.declared.check_error.CheckError.{CheckError}
use Rattle.u_scope.specs.declared.check_error.CheckError.TheVariants.{Refused, NoMemory}
use Rattle.u_scope.specs.declared.check_error.CheckProblem.{CheckProblem}
use Rattle.u_scope.specs.declared.checked.Meaning.{Meaning}
use Rattle.u_scope.specs.Meanings.{Verdict}
use Rattle.u_scope.specs.Verdicts.{IsChecked, IsCheckError}

map_once : (ms ns : List Meaning) → map {B = Verdict} Ok ms ≡ map Ok ns → ms ≡ ns
map_once [] [] h = refl
map_once [] (n ∷ ns) h = cc
map_once (m ∷ ms) [] h = cc
map_once (m ∷ ms) (n ∷ ns) h =
    let first : m ≡ n = cc in
    let rest : map {B = Verdict} Ok ms ≡ map Ok ns = cc in
    let others : ms ≡ ns = map_once ms ns rest in
    cc

-- what the nodes of a source mean is one thing
pub means_once : (s : SourceParts) (ms ns : List Meaning) → IsChecked s ms → IsChecked s ns → ms ≡ ns
means_once s ms ns a b = map_once ms ns (a.meanings.means ∙ sym b.meanings.means)

-- a source that is allowed is not refused
pub not_refused : (s : SourceParts) (ms : List Meaning) (p : Position) (why : CheckProblem) → IsChecked s ms → IsCheckError s (Refused p why) → ⊥
not_refused s ms p why a (inl h) =
    let none = a.meanings.allowed h.first.number h.first.inside in
    let some = h.first.there in
    cc
not_refused s ms p why a (inr h) =
    let yes = a.main in
    let no = h.main in
    cc

-- a source that is allowed is answered by what its nodes mean, or by want of memory
pub check_back : (s : SourceParts) (result : Result (List Meaning) CheckError) → MatchResult result (λ ms. IsChecked s ms) (λ e. IsCheckError s e) → (ns : List Meaning) → IsChecked s ns → MatchResult result (λ ms. ms ≡ ns) (λ e. e ≡ NoMemory)
check_back s (Ok ms) h ns k = means_once s ms ns h k
check_back s (Err (Refused p why)) h ns k = elim (not_refused s ns p why k h) [ ]
check_back s (Err NoMemory) h ns k = refl
