-- How verdicts go on from node to node.
use Rattle.std.proofs.Common.{◌≡◌, ℕ, zero, suc, ◌<◌, ◌≤◌, List, [], ◌∷◌, ◌++◌, map, length, take, drop, reverse, Option, None, Ok, refl, sym, ◌∙◌, ap, subst, ◌+◌, arith}
use Rattle.std.proofs.lemmas.List.{reverse-append, length-take-le, length-reverse, map-append}
use Rattle.std.proofs.Math.Numerals.{suc-eq-add-one}
use Rattle.u_source.specs.declared.form.Node.{Node}
use Rattle.u_source.specs.Tokens.{TokenParts}
use Rattle.u_scope.specs.declared.checked.Meaning.{Meaning}
use Rattle.u_scope.specs.declared.checked.Walk.{Walk}
use Rattle.u_scope.specs.declared.entry.Entry.{Entry}
use Rattle.u_scope.specs.Entries.{scopes_at, stepped}
use Rattle.u_scope.specs.declared.values.Breach.{Breach}
use Rattle.u_scope.specs.Values.{breach_between, breach_next, value_breach, first_of, IsLeast}
use Rattle.u_scope.specs.Verdicts.{IsJudged, IsStep, token_next, breach_of, name_breach, breach_at, node_verdict, verdict_between, verdict_with, verdicts_with}
use Rattle.u_scope.proofs.ValueLaws.{first_none, least_of_both}
use Rattle.u_scope.proofs.ScopeLaws.{step_law}

-- one node more is taken
pub one_more : (n : ℕ) (nodes rest : List Node) (x : Node) → drop n nodes ≡ x ∷ rest → take (suc n) nodes ≡ take n nodes ++ x ∷ []
one_more zero [] rest x h = cc
one_more (suc n) [] rest x h = cc
one_more zero (y ∷ ys) rest x h = let same : y ≡ x = cc in ap (λ z. z ∷ []) same
one_more (suc n) (y ∷ ys) rest x h = ap (λ zs. y ∷ zs) (one_more n ys rest x h)

-- looking back, it stands first
pub one_more_back : (n : ℕ) (nodes rest : List Node) (x : Node) → drop n nodes ≡ x ∷ rest → reverse (take (suc n) nodes) ≡ x ∷ reverse (take n nodes)
one_more_back n nodes rest x h = ap (λ t. reverse t) (one_more n nodes rest x h) ∙ reverse-append (take n nodes) (x ∷ [])

-- the scopes behind one node more
pub scopes_more : (n : ℕ) (nodes rest : List Node) (x : Node) → n ≤ length nodes → drop n nodes ≡ x ∷ rest → scopes_at (reverse (take (suc n) nodes)) ≡ stepped n x (scopes_at (reverse (take n nodes)))
scopes_more n nodes rest x m h =
    let count : length (reverse (take n nodes)) ≡ n = length-reverse (take n nodes) ∙ length-take-le n nodes m in
    ap (λ t. scopes_at t) (one_more_back n nodes rest x h) ∙ step_law x (reverse (take n nodes)) ∙ ap (λ k. stepped k x (scopes_at (reverse (take n nodes)))) count

-- what a node means goes by what stands around it
meaning_there : (ts : List TokenParts) (ps : List Entry) (nodes rest : List Node) (n : ℕ) (x : Node) (around : List Entry) → drop n nodes ≡ x ∷ rest → around ≡ scopes_at (reverse (take n nodes)) → node_verdict x (record { tokens = ts; procedures = ps; scopes = around; before = reverse (take n nodes); behind = rest; token = x.token }) ≡ verdict_with ts ps nodes n
meaning_there ts ps nodes rest n x around h k = ap (λ es. node_verdict x (record { tokens = ts; procedures = ps; scopes = es; before = reverse (take n nodes); behind = rest; token = x.token })) k ∙ sym (ap (λ zs. verdict_between ts ps (reverse (take n nodes)) zs) h)

-- a node is gone past
pub gone_past : (ts : List TokenParts) (ps : List Entry) (nodes front back rest : List Node) (n : ℕ) (x : Node) (around : List Entry) (m : Meaning) (name value : Option Breach) (old new : Walk) → front ≡ take n nodes → back ≡ drop n nodes → back ≡ x ∷ rest → around ≡ old.scopes.items → reverse old.scopes.items ≡ scopes_at (reverse (take n nodes)) → n < length nodes → IsJudged old.first x (record { tokens = ts; procedures = ps; scopes = reverse around; before = reverse front; behind = rest; token = x.token }) m name → value ≡ breach_between (reverse front) x rest → new.first ≡ first_of (first_of old.first name) value → new.meanings.items ≡ old.meanings.items ++ m ∷ [] → reverse new.scopes.items ≡ stepped n x (reverse old.scopes.items) → IsStep ts ps nodes n old new
gone_past ts ps nodes front back rest n x around m name value old new f b s a o i j v w g t =
    let there : drop n nodes ≡ x ∷ rest = sym b ∙ s in
    let here : reverse around ≡ scopes_at (reverse (take n nodes)) = ap (λ es. reverse es) a ∙ o in
    let means : node_verdict x (record { tokens = ts; procedures = ps; scopes = reverse around; before = reverse front; behind = rest; token = x.token }) ≡ verdict_with ts ps nodes n = ap (λ fs. node_verdict x (record { tokens = ts; procedures = ps; scopes = reverse around; before = reverse fs; behind = rest; token = x.token })) f ∙ meaning_there ts ps nodes rest n x (reverse around) there here in
    let token : x.token ≡ token_next (drop n nodes) = sym (ap (λ zs. token_next zs) there) in
    let named : first_of old.first name ≡ first_of old.first (name_breach ts ps nodes n) = j.breach ∙ ap (λ u. first_of old.first (breach_of x.token u)) means ∙ ap (λ k. first_of old.first (breach_of k (verdict_with ts ps nodes n))) token in
    let valued : value ≡ value_breach nodes n = v ∙ ap (λ fs. breach_between (reverse fs) x rest) f ∙ sym (ap (λ zs. breach_next (reverse (take n nodes)) zs) there) in
    record {
      scopes = t ∙ ap (λ es. stepped n x es) o ∙ sym (scopes_more n nodes rest x (omega arith) there);
      first = w ∙ ap (λ u. first_of u value) named ∙ ap (λ u. first_of (first_of old.first (name_breach ts ps nodes n)) u) valued;
      meanings = λ e. let none = first_none (first_of old.first name) value (sym w ∙ e) in ap (λ ms. map Ok ms) g ∙ map-append Ok old.meanings.items (m ∷ []) ∙ ap (λ u. map Ok old.meanings.items ++ u ∷ []) (j.meaning none.0 ∙ means);
    }

-- what is known behind one node more
pub walked_more : (ts : List TokenParts) (ps : List Entry) (nodes : List Node) (n : ℕ) (old new : Walk) → IsStep ts ps nodes n old new → IsLeast (breach_at ts ps nodes) n old.first → IsLeast (breach_at ts ps nodes) (n + 1) new.first
walked_more ts ps nodes n old new s l = subst (IsLeast (breach_at ts ps nodes) (n + 1)) (sym s.first) (least_of_both (breach_at ts ps nodes) n old.first (name_breach ts ps nodes n) (value_breach nodes n) refl l)

pub meant_more : (ts : List TokenParts) (ps : List Entry) (nodes : List Node) (n : ℕ) (old new : Walk) → IsStep ts ps nodes n old new → (old.first ≡ None → map Ok old.meanings.items ≡ verdicts_with ts ps nodes n) → new.first ≡ None → map Ok new.meanings.items ≡ verdicts_with ts ps nodes (n + 1)
meant_more ts ps nodes n old new s f e =
    let both = first_none (first_of old.first (name_breach ts ps nodes n)) (value_breach nodes n) (sym s.first ∙ e) in
    let before = first_none old.first (name_breach ts ps nodes n) both.0 in
    let more : map Ok new.meanings.items ≡ verdicts_with ts ps nodes (suc n) = s.meanings e ∙ ap (λ vs. vs ++ verdict_with ts ps nodes n ∷ []) (f before.0) in
    subst (λ k. map Ok new.meanings.items ≡ verdicts_with ts ps nodes k) (suc-eq-add-one n) more

pub scopes_next : (ts : List TokenParts) (ps : List Entry) (nodes : List Node) (n : ℕ) (old new : Walk) → IsStep ts ps nodes n old new → reverse new.scopes.items ≡ scopes_at (reverse (take (n + 1) nodes))
scopes_next ts ps nodes n old new s = subst (λ k. reverse new.scopes.items ≡ scopes_at (reverse (take k nodes))) (suc-eq-add-one n) s.scopes
