-- How kinds and clashes go on from node to node.
use Rattle.std.proofs.Common.{◌≡◌, ℕ, zero, suc, ◌+◌, ◌≤◌, List, [], ◌∷◌, length, take, drop, reverse, sym, ◌∙◌, ap, subst}
use Rattle.std.proofs.lemmas.List.{length-take-le, length-reverse}
use Rattle.std.proofs.Math.Numerals.{suc-eq-add-one}
use Rattle.u_source.specs.declared.form.Node.{Node}
use Rattle.u_source.specs.Tokens.{TokenParts}
use Rattle.u_scope.proofs.VerdictLaws.{one_more_back}
use Rattle.u_scope.specs.declared.checked.Meaning.{Meaning}
use Rattle.u_scope.specs.declared.checking.Walk.{Walk}
use Rattle.u_scope.specs.declared.clash.Clash.{Clash}
use Rattle.u_scope.specs.Clashes.{clash_of}
use Rattle.u_scope.specs.Kinds.{kinded, with_kind, meaning_at}
use Rattle.u_scope.specs.KindVerdicts.{clash_between, clash_at, IsLeast, IsGoneOn}
use Rattle.u_scope.proofs.FirstLaws.{least_more}

-- the kinds of one node more
kinded_more : (ms : List Meaning) (n : ℕ) (nodes others : List Node) (x : Node) → n ≤ length nodes → drop n nodes ≡ x ∷ others → kinded ms (reverse (take (suc n) nodes)) ≡ with_kind x (meaning_at ms n) (kinded ms (reverse (take n nodes)))
kinded_more ms n nodes others x m h =
    let count : length (reverse (take n nodes)) ≡ n = length-reverse (take n nodes) ∙ length-take-le n nodes m in
    ap (λ t. kinded ms t) (one_more_back n nodes others x h) ∙ ap (λ k. with_kind x (meaning_at ms k) (kinded ms (reverse (take n nodes)))) count

pub seen_more : (ts : List TokenParts) (ms : List Meaning) (n : ℕ) (nodes others : List Node) (x : Node) (old new : Walk) → n ≤ length nodes → drop n nodes ≡ x ∷ others → IsGoneOn ts x (meaning_at ms n) old new → reverse old.seen.items ≡ kinded ms (reverse (take n nodes)) → reverse new.seen.items ≡ kinded ms (reverse (take (n + 1) nodes))
seen_more ts ms n nodes others x old new m h g o =
    let more : reverse new.seen.items ≡ kinded ms (reverse (take (suc n) nodes)) = g.seen ∙ ap (λ ks. with_kind x (meaning_at ms n) ks) o ∙ sym (kinded_more ms n nodes others x m h) in
    subst (λ k. reverse new.seen.items ≡ kinded ms (reverse (take k nodes))) (suc-eq-add-one n) more

-- the first clash of one node more
pub least_next : (ts : List TokenParts) (ms : List Meaning) (n : ℕ) (nodes others : List Node) (x : Node) (old new : Walk) → drop n nodes ≡ x ∷ others → IsGoneOn ts x (meaning_at ms n) old new → reverse old.seen.items ≡ kinded ms (reverse (take n nodes)) → IsLeast (clash_at ts ms nodes) n old.first → IsLeast (clash_at ts ms nodes) (n + 1) new.first
least_next ts ms n nodes others x old new h g o l =
    let there : clash_at ts ms nodes n ≡ clash_of ts x.form (reverse old.seen.items) = ap (λ xs. clash_between ts (kinded ms (reverse (take n nodes))) xs) h ∙ ap (λ ks. clash_of ts x.form ks) (sym o) in
    subst (IsLeast (clash_at ts ms nodes) (n + 1)) (sym g.first) (least_more (λ (c : Clash). c.token) (clash_at ts ms nodes) n old.first (clash_of ts x.form (reverse old.seen.items)) there l)

dropped_suc : (n : ℕ) (nodes others : List Node) (x : Node) → drop n nodes ≡ x ∷ others → drop (suc n) nodes ≡ others
dropped_suc zero [] others x h = cc
dropped_suc zero (y ∷ ys) others x h = cc
dropped_suc (suc n) [] others x h = cc
dropped_suc (suc n) (y ∷ ys) others x h = dropped_suc n ys others x h

-- what is left behind one node more
pub dropped_more : (n : ℕ) (nodes others : List Node) (x : Node) → drop n nodes ≡ x ∷ others → drop (n + 1) nodes ≡ others
dropped_more n nodes others x h = subst (λ k. drop k nodes ≡ others) (suc-eq-add-one n) (dropped_suc n nodes others x h)
