-- A name that is used, or has its next value, means a node whose scope has not ended there.
use Rattle.std.proofs.Common.{◌≡◌, ℕ, ◌-◌, nat_lt, Bool, true, false, cond, not, ◌&&◌, ◌==◌, List, [], ◌∷◌, drop, take, reverse, Option, Some, None, Result, Ok, Err, MatchResult, IfOk, zero, suc, ◌+◌, ◌<◌, ◌≤◌, ◌++◌, ◌⊎◌, inl, inr, map, length, get_or, length-append, refl, sym, ◌∙◌, ap, subst, arith}
use Rattle.std.proofs.lemmas.List.{get_or_append_left, get_or-append_right}
use Rattle.std.proofs.Math.ListN.{get_or-map}
use Rattle.std.proofs.lemmas.Bool.{ltb-true, ltb-false}
use Rattle.std.proofs.Math.Numerals.{suc-eq-add-one}
use Rattle.u_source.specs.declared.form.Node.{Node}
use Rattle.u_source.specs.Sources.{SourceParts}
use Rattle.u_scope.specs.declared.check_error.CheckError.{CheckError}
use Rattle.u_scope.specs.declared.checked.Meaning.{Meaning}
use Rattle.u_source.specs.Tokens.{TokenParts}
use Rattle.u_scope.specs.declared.check_error.CheckProblem.{CheckProblem}
use Rattle.u_scope.specs.declared.check_error.CheckProblem.TheVariants as problem_is
use Rattle.u_scope.specs.declared.checked.Meaning.TheVariants as means
use Rattle.u_scope.specs.declared.entry.Entry.{Entry}
use Rattle.u_scope.specs.declared.entry.Event.{Event}
use Rattle.u_scope.specs.declared.entry.Event.TheVariants.{Name, Procedure, Parameters, Parameter, Block, BlockEnd, Variables, Variable, Loop, LoopEnd, Definition, Next, Arguments, Argument, Call, Side, Other}
use Rattle.u_scope.specs.declared.finding.Found.{Found}
use Rattle.u_scope.specs.declared.naming.Named.{Named}
use Rattle.u_scope.specs.declared.spot.Role.{Role}
use Rattle.u_scope.specs.declared.spot.Role.TheVariants as role_is
use Rattle.u_scope.specs.Counting.{given, has_next, behind_block, is_loops}
use Rattle.u_scope.specs.Entries.{event_of, entry, scopes_at, is_for, is_procedure, procedures, procedures_from}
use Rattle.u_scope.specs.Finding.{or_else, is_some, line_of, matching, known, named, variable, variable_by, next_before}
use Rattle.u_scope.specs.Meanings.{Here, Verdict, role, event_next, is_main, parameters, is_over, procedure_by, defined_by, defined, with_next, first_next, next_of, called_by, used_by, judged, meaning_by, procedure_meaning, variable_meaning}
use Rattle.u_scope.specs.Naming.{named_at, sign_at}
use Rattle.u_scope.specs.Scopes.{IsInScope, MeansOne, NameMeans, EachMeans, IsProcedureOf, NameCalls, EachCalls}
use Rattle.u_scope.specs.Verdicts.{verdict_by, verdict_between, verdict_with, verdicts_with, token_next, IsChecked, IsCheckError}
use Rattle.u_scope.proofs.KnownLaws.{IsBy, IsAmong, among_first, among_split, none_among, by_more, by_in_scope, known_by, matching_is}

-- it means nothing, if it is allowed
abbrev Only : Verdict → Type 0
Only v = (m : Meaning) → v ≡ Ok m → m ≡ means.Nothing

own_only : (b c : Bool) (p q : CheckProblem) → Only (cond b (cond c (Err p) (Ok means.Nothing)) (Err q))
own_only true true p q m h = cc
own_only true false p q m h = cc
own_only false c p q m h = cc

procedure_by_only : (h : Here) (x : List ℕ) (o : Option Found) → Only (procedure_by h x o)
procedure_by_only h x None m e = cc
procedure_by_only h x (Some f) m e = own_only (f.token == h.token - 1) (is_main x && not (parameters h.tokens f.token == 1)) problem_is.MainParameters (problem_is.DefinedAlready x f.line) m e

over_only : (b : Bool) (p : CheckProblem) (v : Verdict) → Only v → Only (cond b (Err p) v)
over_only true p v n m e = cc
over_only false p v n m e = n m e

defined_only : (x : List ℕ) (o p : Option Found) → Only (defined_by x o p)
defined_only x (Some f) p m e = cc
defined_only x None (Some f) m e = cc
defined_only x None None m e = cc

with_next_only : (x : List ℕ) (b : Bool) (v : Verdict) → Only v → Only (with_next x b v)
with_next_only x b (Err p) n m e = cc
with_next_only x true (Ok w) n m e = n m e
with_next_only x false (Ok w) n m e = cc

procedure_only : (h : Here) (x : List ℕ) → Only (procedure_meaning h x)
procedure_only h x m e = over_only (is_over h.token h.procedures) _ (procedure_by h x (named h.tokens x h.procedures)) (procedure_by_only h x (named h.tokens x h.procedures)) m e

define_only : (h : Here) (x : List ℕ) (v : Bool) → Only (defined h x v)
define_only h x v m e = defined_only x (named h.tokens x h.procedures) (known h.tokens x v h.scopes) m e

variable_only : (h : Here) (x : List ℕ) → Only (variable_meaning h x)
variable_only h x m e = with_next_only x (has_next h.tokens x 0 false h.behind) (defined h x true) (define_only h x true) m e

no_name : (k : ℕ) → means.Name k ≡ means.Nothing → ⊥
no_name k e = cc

no_procedure : (k : ℕ) → means.Procedure k ≡ means.Nothing → ⊥
no_procedure k e = cc

-- what is allowed of a call means its procedure
abbrev Calls : ℕ → Verdict → Type 0
Calls n v = (m : Meaning) → v ≡ Ok m → m ≡ means.Procedure n

arguments_call : (b : Bool) (n : ℕ) (p : CheckProblem) → Calls n (cond b (Ok (means.Procedure n)) (Err p))
arguments_call true n p m e = cc
arguments_call false n p m e = cc

call_by : (h : Here) (x : List ℕ) (f : Found) (d : Event) → Calls f.number (called_by h x f d)
call_by h x f Arguments m e = arguments_call (parameters h.tokens f.token == given 0 h.behind) f.number (problem_is.Arguments x (parameters h.tokens f.token) (given 0 h.behind)) m e
call_by h x f Name m e = cc
call_by h x f Procedure m e = cc
call_by h x f Parameters m e = cc
call_by h x f Parameter m e = cc
call_by h x f Block m e = cc
call_by h x f BlockEnd m e = cc
call_by h x f Variables m e = cc
call_by h x f Variable m e = cc
call_by h x f Loop m e = cc
call_by h x f LoopEnd m e = cc
call_by h x f Definition m e = cc
call_by h x f Next m e = cc
call_by h x f Argument m e = cc
call_by h x f Call m e = cc
call_by h x f Side m e = cc
call_by h x f Other m e = cc

name_no_procedure : (n k : ℕ) → means.Name k ≡ means.Procedure n → ⊥
name_no_procedure n k e = cc

procedure_number : (n k : ℕ) → means.Procedure k ≡ means.Procedure n → n ≡ k
procedure_number n k e = cc

-- some node is found, and this is its number
abbrev IsFound : Option Found → ℕ → Type 0
IsFound o k = (f : Found) × (o ≡ Some f) × (f.number ≡ k)

same_meaning : (v : Verdict) (n k : ℕ) → v ≡ Ok (means.Name n) → v ≡ Ok (means.Name k) → n ≡ k
same_meaning v n k h e = cc

abbrev meant : ℕ → Verdict
meant n = Ok (means.Name n)

meant_number : (n k : ℕ) → meant n ≡ Ok (means.Name k) → n ≡ k
meant_number n k e = same_meaning (meant n) n k refl e

used_found : (h : Here) (x : List ℕ) (o p : Option Found) (k : ℕ) → used_by h x o p ≡ Ok (means.Name k) → IsFound p k
used_found h x (Some f) p k e = elim (name_no_procedure f.number k (call_by h x f (event_next h.behind) (means.Name k) e)) [ ]
used_found h x None (Some f) k e = (f, refl, meant_number f.number k e)
used_found h x None None k e = cc

first_found : (x : List ℕ) (f : Found) (o : Option ℕ) (k : ℕ) → first_next x f o ≡ Ok (means.Name k) → f.number ≡ k
first_found x f (Some line) k e = cc
first_found x f None k e = meant_number f.number k e

next_found : (b : Bool) (p : CheckProblem) (x : List ℕ) (f : Found) (o : Option ℕ) (k : ℕ) → cond b (Err p) (first_next x f o) ≡ Ok (means.Name k) → f.number ≡ k
next_found true p x f o k e = cc
next_found false p x f o k e = first_found x f o k e

next_of_found : (h : Here) (x : List ℕ) (o : Option Found) (k : ℕ) → next_of h x o ≡ Ok (means.Name k) → IsFound o k
next_of_found h x (Some f) k e = (f, refl, next_found (is_for (sign_at h.tokens f.token)) _ x f (next_before h.tokens x h.scopes) k e)
next_of_found h x None k e = cc

inside_found : (b : Bool) (p : CheckProblem) (h : Here) (x : List ℕ) (o : Option Found) (k : ℕ) → cond b (next_of h x o) (Err p) ≡ Ok (means.Name k) → IsFound o k
inside_found true p h x o k e = next_of_found h x o k e
inside_found false p h x o k e = cc

or_else_by : (ts : List TokenParts) (x : List ℕ) (e : Entry) (es : List Entry) (m o : Option Found) (f : Found) → matching ts x e ≡ m → or_else m o ≡ Some f → (o ≡ Some f → IsBy ts x es f) → IsBy ts x (e ∷ es) f
or_else_by ts x e es None o f g h more = by_more ts x e es f (more h)
or_else_by ts x e es (Some m) o f g h more = record { by = e; among = among_first e es; gives = g ∙ h }

variable_step : (ts : List TokenParts) (x : List ℕ) (v : Bool) (e : Entry) (d : Event) (es : List Entry) (o p : Option Found) (f : Found) → variable_by ts x v e d o p ≡ Some f → (o ≡ Some f → IsBy ts x es f) → (p ≡ Some f → IsBy ts x es f) → IsBy ts x (e ∷ es) f
variable_step ts x v e Loop es o p f h a b = by_more ts x e es f (a h)
variable_step ts x true e Variable es o p f h a b = or_else_by ts x e es (matching ts x e) o f refl h a
variable_step ts x false e Variable es o p f h a b = by_more ts x e es f (b h)
variable_step ts x true e Variables es o p f h a b = record { by = e; among = among_first e es; gives = h }
variable_step ts x false e Variables es o p f h a b = by_more ts x e es f (b h)
variable_step ts x true e Name es o p f h a b = by_more ts x e es f (b h)
variable_step ts x false e Name es o p f h a b = by_more ts x e es f (b h)
variable_step ts x true e Procedure es o p f h a b = by_more ts x e es f (b h)
variable_step ts x false e Procedure es o p f h a b = by_more ts x e es f (b h)
variable_step ts x true e Parameters es o p f h a b = by_more ts x e es f (b h)
variable_step ts x false e Parameters es o p f h a b = by_more ts x e es f (b h)
variable_step ts x true e Parameter es o p f h a b = by_more ts x e es f (b h)
variable_step ts x false e Parameter es o p f h a b = by_more ts x e es f (b h)
variable_step ts x true e Block es o p f h a b = by_more ts x e es f (b h)
variable_step ts x false e Block es o p f h a b = by_more ts x e es f (b h)
variable_step ts x true e BlockEnd es o p f h a b = by_more ts x e es f (b h)
variable_step ts x false e BlockEnd es o p f h a b = by_more ts x e es f (b h)
variable_step ts x true e LoopEnd es o p f h a b = by_more ts x e es f (b h)
variable_step ts x false e LoopEnd es o p f h a b = by_more ts x e es f (b h)
variable_step ts x true e Definition es o p f h a b = by_more ts x e es f (b h)
variable_step ts x false e Definition es o p f h a b = by_more ts x e es f (b h)
variable_step ts x true e Next es o p f h a b = by_more ts x e es f (b h)
variable_step ts x false e Next es o p f h a b = by_more ts x e es f (b h)
variable_step ts x true e Arguments es o p f h a b = by_more ts x e es f (b h)
variable_step ts x false e Arguments es o p f h a b = by_more ts x e es f (b h)
variable_step ts x true e Argument es o p f h a b = by_more ts x e es f (b h)
variable_step ts x false e Argument es o p f h a b = by_more ts x e es f (b h)
variable_step ts x true e Call es o p f h a b = by_more ts x e es f (b h)
variable_step ts x false e Call es o p f h a b = by_more ts x e es f (b h)
variable_step ts x true e Side es o p f h a b = by_more ts x e es f (b h)
variable_step ts x false e Side es o p f h a b = by_more ts x e es f (b h)
variable_step ts x true e Other es o p f h a b = by_more ts x e es f (b h)
variable_step ts x false e Other es o p f h a b = by_more ts x e es f (b h)

-- a variable of a loop is found among the nodes in scopes that have not ended
variable_found : (ts : List TokenParts) (x : List ℕ) (v : Bool) (es : List Entry) (f : Found) → variable ts x v es ≡ Some f → IsBy ts x es f
variable_found ts x v [] f h = cc
variable_found ts x v (e ∷ es) f h = variable_step ts x v e e.event es (variable ts x true es) (variable ts x v es) f h (λ g. variable_found ts x true es f g) (λ g. variable_found ts x v es f g)

means_one : (ts : List TokenParts) (x : List ℕ) (xs : List Node) (k : ℕ) (f : Found) → IsBy ts x (scopes_at xs) f → f.number ≡ k → MeansOne ts x xs k
means_one ts x xs k f b e = (f.line, subst (λ n. IsInScope ts x xs n f.line) e (by_in_scope ts x xs f b))

judged_one : (h : Here) (x : List ℕ) (r : Role) (xs : List Node) (k : ℕ) → h.scopes ≡ scopes_at xs → judged h x r ≡ Ok (means.Name k) → MeansOne h.tokens x xs k
judged_one h x role_is.Procedure xs k s e = elim (no_name k (procedure_only h x (means.Name k) e)) [ ]
judged_one h x role_is.Parameter xs k s e = elim (no_name k (define_only h x false (means.Name k) e)) [ ]
judged_one h x role_is.Definition xs k s e = elim (no_name k (define_only h x false (means.Name k) e)) [ ]
judged_one h x role_is.Counter xs k s e = elim (no_name k (define_only h x false (means.Name k) e)) [ ]
judged_one h x role_is.Variable xs k s e = elim (no_name k (variable_only h x (means.Name k) e)) [ ]
judged_one h x role_is.Next xs k s e =
    let found = inside_found (is_loops (behind_block 0 h.behind)) _ h x (variable h.tokens x false h.scopes) k e in
    means_one h.tokens x xs k found.0 (subst (λ es. IsBy h.tokens x es found.0) s (variable_found h.tokens x false h.scopes found.0 found.1)) found.2
judged_one h x role_is.Use xs k s e =
    let found = used_found h x (named h.tokens x h.procedures) (known h.tokens x false h.scopes) k e in
    means_one h.tokens x xs k found.0 (subst (λ es. IsBy h.tokens x es found.0) s (known_by h.tokens x false h.scopes found.0 found.1)) found.2

meaning_one : (h : Here) (xs : List Node) (k : ℕ) (o : Option Named) → named_at h.tokens h.token ≡ o → h.scopes ≡ scopes_at xs → meaning_by h o ≡ Ok (means.Name k) → NameMeans h.tokens h.token xs k
meaning_one h xs k None n s e = cc
meaning_one h xs k (Some x) n s e = (x, n, judged_one h x.name (role h) xs k s e)

verdict_one : (d : Event) (h : Here) (xs : List Node) (k : ℕ) → h.scopes ≡ scopes_at xs → verdict_by d h ≡ Ok (means.Name k) → NameMeans h.tokens h.token xs k
verdict_one Name h xs k s e = meaning_one h xs k (named_at h.tokens h.token) refl s e
verdict_one Procedure h xs k s e = cc
verdict_one Parameters h xs k s e = cc
verdict_one Parameter h xs k s e = cc
verdict_one Block h xs k s e = cc
verdict_one BlockEnd h xs k s e = cc
verdict_one Variables h xs k s e = cc
verdict_one Variable h xs k s e = cc
verdict_one Loop h xs k s e = cc
verdict_one LoopEnd h xs k s e = cc
verdict_one Definition h xs k s e = cc
verdict_one Next h xs k s e = cc
verdict_one Arguments h xs k s e = cc
verdict_one Argument h xs k s e = cc
verdict_one Call h xs k s e = cc
verdict_one Side h xs k s e = cc
verdict_one Other h xs k s e = cc

between_one : (ts : List TokenParts) (ps : List Entry) (xs rest : List Node) (k : ℕ) → verdict_between ts ps xs rest ≡ Ok (means.Name k) → NameMeans ts (token_next rest) xs k
between_one ts ps xs [] k e = cc
between_one ts ps xs (n ∷ ns) k e = verdict_one (event_of n.form) (record { tokens = ts; procedures = ps; scopes = scopes_at xs; before = xs; behind = ns; token = n.token }) xs k refl e

-- what a name means, which is used or has its next value, gives that name its meaning, in a scope that has not ended
pub name_means : (ts : List TokenParts) (ps : List Entry) (nodes : List Node) (i k : ℕ) → verdict_with ts ps nodes i ≡ Ok (means.Name k) → NameMeans ts (token_next (drop i nodes)) (reverse (take i nodes)) k
name_means ts ps nodes i k e = between_one ts ps (reverse (take i nodes)) (drop i nodes) k e

before_or_not : (b : Bool) (i n : ℕ) → nat_lt i n ≡ b → (i < n) ⊎ (n ≤ i)
before_or_not true i n h = inl (ltb-true i n h)
before_or_not false i n h = inr (ltb-false i n h)

many : (ts : List TokenParts) (ps : List Entry) (nodes : List Node) (n : ℕ) → length (verdicts_with ts ps nodes n) ≡ n
many ts ps nodes zero = refl
many ts ps nodes (suc n) = length-append (verdicts_with ts ps nodes n) (verdict_with ts ps nodes n ∷ []) ∙ ap (λ k. k + 1) (many ts ps nodes n) ∙ sym (suc-eq-add-one n)

last_verdict : (v w : Verdict) (i : ℕ) → (Ok means.Nothing ≡ w → ⊥) → get_or (v ∷ []) i (Ok means.Nothing) ≡ w → (i ≡ 0) × (v ≡ w)
last_verdict v w zero n e = (refl, e)
last_verdict v w (suc i) n e = elim (n e) [ ]

here_or_before : (ts : List TokenParts) (ps : List Entry) (nodes : List Node) (n i : ℕ) (w : Verdict) → (Ok means.Nothing ≡ w → ⊥) → ((i < n) ⊎ (n ≤ i)) → get_or (verdicts_with ts ps nodes n ++ verdict_with ts ps nodes n ∷ []) i (Ok means.Nothing) ≡ w → (get_or (verdicts_with ts ps nodes n) i (Ok means.Nothing) ≡ w → verdict_with ts ps nodes i ≡ w) → verdict_with ts ps nodes i ≡ w
here_or_before ts ps nodes n i w differ (inl m) e f =
    let inside : i < length (verdicts_with ts ps nodes n) = subst (λ j. i < j) (sym (many ts ps nodes n)) m in
    f (sym (get_or_append_left (verdicts_with ts ps nodes n) (verdict_with ts ps nodes n ∷ []) (Ok means.Nothing) i inside) ∙ e)
here_or_before ts ps nodes n i w differ (inr m) e f =
    let there = last_verdict (verdict_with ts ps nodes n) w (i - n) differ (sym (get_or-append_right (verdicts_with ts ps nodes n) (verdict_with ts ps nodes n ∷ []) n i (Ok means.Nothing) (many ts ps nodes n) m) ∙ e) in
    let none : i - n ≡ 0 = there.0 in
    let same : n ≡ i = omega arith in
    subst (λ j. verdict_with ts ps nodes j ≡ w) same there.1

each_verdict : (ts : List TokenParts) (ps : List Entry) (nodes : List Node) (n i : ℕ) (w : Verdict) → (Ok means.Nothing ≡ w → ⊥) → get_or (verdicts_with ts ps nodes n) i (Ok means.Nothing) ≡ w → verdict_with ts ps nodes i ≡ w
each_verdict ts ps nodes zero i w differ e = elim (differ e) [ ]
each_verdict ts ps nodes (suc n) i w differ e = here_or_before ts ps nodes n i w differ (before_or_not (nat_lt i n) i n refl) e (λ g. each_verdict ts ps nodes n i w differ g)

-- what a node of a source means that is allowed is told of it
told : (s : SourceParts) (ms : List Meaning) (i : ℕ) (m : Meaning) → IsChecked s ms → get_or ms i means.Nothing ≡ m → (m ≡ means.Nothing → ⊥) → verdict_with s.tokens (procedures s.nodes) s.nodes i ≡ Ok m
told s ms i m c e n =
    let one : get_or (map {B = Verdict} Ok ms) i (Ok means.Nothing) ≡ Ok (get_or ms i means.Nothing) = get_or-map Ok ms i means.Nothing in
    let two : get_or (verdicts_with s.tokens (procedures s.nodes) s.nodes (length s.nodes)) i (Ok means.Nothing) ≡ Ok m = sym (ap (λ vs. get_or vs i (Ok means.Nothing)) c.meanings.means) ∙ one ∙ ap (λ x. Ok x) e in
    each_verdict s.tokens (procedures s.nodes) s.nodes (length s.nodes) i (Ok m) (λ q. n (cc)) two

-- what each name of a source means that is allowed
pub each_means : (s : SourceParts) (ms : List Meaning) → IsChecked s ms → EachMeans s ms
each_means s ms c i k e = name_means s.tokens (procedures s.nodes) s.nodes i k (told s ms i (means.Name k) c e (no_name k))

-- a procedure that is found is one of the source's
named_by : (ts : List TokenParts) (x : List ℕ) (es : List Entry) (f : Found) → named ts x es ≡ Some f → IsBy ts x es f
named_by ts x [] f h = cc
named_by ts x (e ∷ es) f h = or_else_by ts x e es (matching ts x e) (named ts x es) f refl h (λ g. named_by ts x es f g)

-- an entry is that of a node with which a procedure ends, where the first node has the number n
record IsEnd (e : Entry) (n : ℕ) (nodes : List Node) : Type 0 where
  node : Node
  front : List Node
  back : List Node
  at : ℕ
  split : nodes ≡ front ++ node ∷ back
  place : at ≡ n + length front
  same : e ≡ entry at node
  ends : is_procedure (event_of node.form) ≡ true

end_more : (e : Entry) (n : ℕ) (y : Node) (ys : List Node) → IsEnd e (suc n) ys → IsEnd e n (y ∷ ys)
end_more e n y ys h =
    let there : h.at ≡ suc n + length h.front = h.place in
    record { node = h.node; front = y ∷ h.front; back = h.back; at = h.at; split = ap (λ t. y ∷ t) h.split; place = omega arith; same = h.same; ends = h.ends }

end_here : (n : ℕ) (y : Node) (ys : List Node) → is_procedure (event_of y.form) ≡ true → IsEnd (entry n y) n (y ∷ ys)
end_here n y ys h = record { node = y; front = []; back = ys; at = n; split = refl; place = omega arith; same = refl; ends = h }

end_by : (b : Bool) (e : Entry) (n : ℕ) (y : Node) (ys : List Node) → is_procedure (event_of y.form) ≡ b → IsAmong e (cond b (entry n y ∷ procedures_from (suc n) ys) (procedures_from (suc n) ys)) → (IsAmong e (procedures_from (suc n) ys) → IsEnd e (suc n) ys) → IsEnd e n (y ∷ ys)
end_by true e n y ys g h f = elim (among_split (entry n y) e (procedures_from (suc n) ys) h.front h.back h.split) [
  | inl q ↦ subst (λ x. IsEnd x n (y ∷ ys)) (sym q) (end_here n y ys g)
  | inr a ↦ end_more e n y ys (f a)
]
end_by false e n y ys g h f = end_more e n y ys (f h)

ends_of : (n : ℕ) (nodes : List Node) (e : Entry) → IsAmong e (procedures_from n nodes) → IsEnd e n nodes
ends_of n [] e h = elim (none_among e h.front h.back h.split) [ ]
ends_of n (y ∷ ys) e h = end_by (is_procedure (event_of y.form)) e n y ys refl h (λ a. ends_of (suc n) ys e a)

-- a procedure that is found
procedure_found : (ts : List TokenParts) (x : List ℕ) (nodes : List Node) (f : Found) → IsBy ts x (procedures nodes) f → IsProcedureOf ts x nodes f.number
procedure_found ts x nodes f b =
    let end = ends_of 0 nodes b.by b.among in
    let is = matching_is b.by (line_of ts x b.by.event b.by.token) f b.gives in
    let gives : line_of ts x (event_of end.node.form) end.node.token ≡ Some f.line = subst (λ e. line_of ts x e.event e.token ≡ Some f.line) end.same is.0 in
    let here : f.number ≡ end.at = is.1 ∙ ap (λ e. e.number) end.same in
    let there : end.at ≡ 0 + length end.front = end.place in
    record { node = end.node; front = end.front; back = end.back; split = end.split; number = omega arith; ends = end.ends; gives = ap (λ o. is_some o) gives }

used_calls : (h : Here) (x : List ℕ) (o p : Option Found) (k : ℕ) → used_by h x o p ≡ Ok (means.Procedure k) → IsFound o k
used_calls h x (Some f) p k e = (f, refl, procedure_number f.number k (call_by h x f (event_next h.behind) (means.Procedure k) e))
used_calls h x None (Some f) k e = cc
used_calls h x None None k e = cc

first_no_call : (x : List ℕ) (f : Found) (o : Option ℕ) (k : ℕ) → first_next x f o ≡ Ok (means.Procedure k) → ⊥
first_no_call x f (Some line) k e = cc
first_no_call x f None k e = cc

over_no_call : (b : Bool) (p : CheckProblem) (v : Verdict) (k : ℕ) → (v ≡ Ok (means.Procedure k) → ⊥) → cond b (Err p) v ≡ Ok (means.Procedure k) → ⊥
over_no_call true p v k n e = cc
over_no_call false p v k n e = n e

next_of_no_call : (h : Here) (x : List ℕ) (o : Option Found) (k : ℕ) → next_of h x o ≡ Ok (means.Procedure k) → ⊥
next_of_no_call h x (Some f) k e = over_no_call (is_for (sign_at h.tokens f.token)) _ (first_next x f (next_before h.tokens x h.scopes)) k (first_no_call x f (next_before h.tokens x h.scopes) k) e
next_of_no_call h x None k e = cc

inside_no_call : (b : Bool) (p : CheckProblem) (v : Verdict) (k : ℕ) → (v ≡ Ok (means.Procedure k) → ⊥) → cond b v (Err p) ≡ Ok (means.Procedure k) → ⊥
inside_no_call true p v k n e = n e
inside_no_call false p v k n e = cc

judged_call : (h : Here) (x : List ℕ) (r : Role) (k : ℕ) → judged h x r ≡ Ok (means.Procedure k) → IsFound (named h.tokens x h.procedures) k
judged_call h x role_is.Procedure k e = elim (no_procedure k (procedure_only h x (means.Procedure k) e)) [ ]
judged_call h x role_is.Parameter k e = elim (no_procedure k (define_only h x false (means.Procedure k) e)) [ ]
judged_call h x role_is.Definition k e = elim (no_procedure k (define_only h x false (means.Procedure k) e)) [ ]
judged_call h x role_is.Counter k e = elim (no_procedure k (define_only h x false (means.Procedure k) e)) [ ]
judged_call h x role_is.Variable k e = elim (no_procedure k (variable_only h x (means.Procedure k) e)) [ ]
judged_call h x role_is.Next k e = elim (inside_no_call (is_loops (behind_block 0 h.behind)) _ (next_of h x (variable h.tokens x false h.scopes)) k (next_of_no_call h x (variable h.tokens x false h.scopes) k) e) [ ]
judged_call h x role_is.Use k e = used_calls h x (named h.tokens x h.procedures) (known h.tokens x false h.scopes) k e

meaning_call : (h : Here) (nodes : List Node) (k : ℕ) (o : Option Named) → named_at h.tokens h.token ≡ o → h.procedures ≡ procedures nodes → meaning_by h o ≡ Ok (means.Procedure k) → NameCalls h.tokens h.token nodes k
meaning_call h nodes k None n s e = cc
meaning_call h nodes k (Some x) n s e =
    let found = judged_call h x.name (role h) k e in
    let by = subst (λ es. IsBy h.tokens x.name es found.0) s (named_by h.tokens x.name h.procedures found.0 found.1) in
    (x, n, subst (λ j. IsProcedureOf h.tokens x.name nodes j) found.2 (procedure_found h.tokens x.name nodes found.0 by))

verdict_call : (d : Event) (h : Here) (nodes : List Node) (k : ℕ) → h.procedures ≡ procedures nodes → verdict_by d h ≡ Ok (means.Procedure k) → NameCalls h.tokens h.token nodes k
verdict_call Name h nodes k s e = meaning_call h nodes k (named_at h.tokens h.token) refl s e
verdict_call Procedure h nodes k s e = cc
verdict_call Parameters h nodes k s e = cc
verdict_call Parameter h nodes k s e = cc
verdict_call Block h nodes k s e = cc
verdict_call BlockEnd h nodes k s e = cc
verdict_call Variables h nodes k s e = cc
verdict_call Variable h nodes k s e = cc
verdict_call Loop h nodes k s e = cc
verdict_call LoopEnd h nodes k s e = cc
verdict_call Definition h nodes k s e = cc
verdict_call Next h nodes k s e = cc
verdict_call Arguments h nodes k s e = cc
verdict_call Argument h nodes k s e = cc
verdict_call Call h nodes k s e = cc
verdict_call Side h nodes k s e = cc
verdict_call Other h nodes k s e = cc

between_call : (ts : List TokenParts) (ps : List Entry) (nodes xs rest : List Node) (k : ℕ) → ps ≡ procedures nodes → verdict_between ts ps xs rest ≡ Ok (means.Procedure k) → NameCalls ts (token_next rest) nodes k
between_call ts ps nodes xs [] k s e = cc
between_call ts ps nodes xs (n ∷ ns) k s e = verdict_call (event_of n.form) (record { tokens = ts; procedures = ps; scopes = scopes_at xs; before = xs; behind = ns; token = n.token }) nodes k s e

-- what each name of a source means that is a procedure's
pub each_calls : (s : SourceParts) (ms : List Meaning) → IsChecked s ms → EachCalls s ms
each_calls s ms c i k e = between_call s.tokens (procedures s.nodes) s.nodes (reverse (take i s.nodes)) (drop i s.nodes) k refl (told s ms i (means.Procedure k) c e (no_procedure k))

-- the same of an answer
pub answer_means : (s : SourceParts) (result : Result (List Meaning) CheckError) → MatchResult result (λ ms. IsChecked s ms) (λ e. IsCheckError s e) → IfOk result (λ ms. EachMeans s ms)
answer_means s (Ok ms) h = each_means s ms h
answer_means s (Err e) h = tt

pub answer_calls : (s : SourceParts) (result : Result (List Meaning) CheckError) → MatchResult result (λ ms. IsChecked s ms) (λ e. IsCheckError s e) → IfOk result (λ ms. EachCalls s ms)
answer_calls s (Ok ms) h = each_calls s ms h
answer_calls s (Err e) h = tt
