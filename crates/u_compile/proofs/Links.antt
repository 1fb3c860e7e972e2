-- Where links lead.
use Rattle.std.proofs.Common.{◌≡◌, ℕ, zero, suc, ◌+◌, ◌*◌, ◌<◌, ◌≤◌, inl, inr, refl, sym, ap, ◌∙◌, subst, arith, Bool, true, false, cond, not, ◌==◌, List, [], ◌∷◌, ◌++◌, length, take, drop}
use Rattle.std.specs.Prelude.{nat_le}
use Rattle.std.specs.List.{AllByRecursion}
use Rattle.std.proofs.lemmas.Bool.{and_parts, and_from, cond-true, cond-false, cases_Bool, eqb-true, eq-eqb, leb-true}
use Rattle.u_program.specs.declared.program.Kind.{Kind}
use Rattle.u_check.proofs.KindTests.{few_ports}
use Rattle.u_program.specs.declared.program.Destination.{Destination}
use Rattle.u_program.specs.Limits.{Ascending, IsDestination, rank}
use Rattle.u_check.specs.Kinds.{ports_of}
use Rattle.u_compile.specs.declared.graph.Link.{Link}
use Rattle.u_compile.specs.declared.graph.Output.{Output}
use Rattle.u_compile.specs.Drafts.{DraftParts}
use Rattle.u_compile.specs.Graphs.{output, same_output, destinations, draft_at, has_port, has_output, is_output, is_link, AreLinks, AllBefore}
use Rattle.u_compile.proofs.Numbers.{at_within, test_more, test_stands}

same_truth : (x y : Bool) → cond x y (not y) ≡ true → x ≡ y
same_truth true true e = refl
same_truth true false e = cc
same_truth false true e = cc
same_truth false false e = refl

own_truth : (x : Bool) → cond x x (not x) ≡ true
own_truth true = refl
own_truth false = refl

pub same_is : (a b : Output) → same_output a b ≡ true → a ≡ b
same_is a b e =
    let p = and_parts (a.statement == b.statement) (cond a.on_false b.on_false (not b.on_false)) e in
    let s : a.statement ≡ b.statement = eqb-true a.statement b.statement p.0 in
    let f : a.on_false ≡ b.on_false = same_truth a.on_false b.on_false p.1 in
    let q : output a.statement a.on_false ≡ output b.statement b.on_false = cc in
    q

pub same_own : (a : Output) → same_output a a ≡ true
same_own a = and_from (a.statement == a.statement) (cond a.on_false a.on_false (not a.on_false)) (eq-eqb a.statement a.statement refl) (own_truth a.on_false)

-- outputs of different statements are different
pub same_not : (a b : Output) → (a.statement ≡ b.statement → ⊥) → same_output a b ≡ false
same_not a b n =
    elim (cases_Bool (same_output a b)) [ inl e ↦ absurd (n (ap (λ (o : Output). o.statement) (same_is a b e))) | inr e ↦ e ]

pub leads_yes : (o : Output) (l : Link) (ls : List Link) → same_output o l.from ≡ true → destinations o (l ∷ ls) ≡ l.to ∷ destinations o ls
leads_yes o l ls e = cond-true (same_output o l.from) (l.to ∷ destinations o ls) (destinations o ls) e

pub leads_no : (o : Output) (l : Link) (ls : List Link) → same_output o l.from ≡ false → destinations o (l ∷ ls) ≡ destinations o ls
leads_no o l ls e = cond-false (same_output o l.from) (l.to ∷ destinations o ls) (destinations o ls) e

pub destinations-append : (o : Output) (ls ms : List Link) → destinations o (ls ++ ms) ≡ destinations o ls ++ destinations o ms
destinations-append o [] ms = refl
destinations-append o (l ∷ ls) ms = by (same_output o l.from) (destinations o (ls ++ ms)) (destinations o ls) (destinations o ms) (destinations-append o ls ms)
  where
    by : (b : Bool) (xs ys zs : List Destination) → xs ≡ ys ++ zs → cond b (l.to ∷ xs) xs ≡ cond b (l.to ∷ ys) ys ++ zs
    by true xs ys zs e = ap (λ (v : List Destination). l.to ∷ v) e
    by false xs ys zs e = e

-- from an output that no link comes from nothing leads anywhere
pub leads_nowhere : (o : Output) (ls : List Link) → AllByRecursion (λ (l : Link). same_output o l.from ≡ false) ls → destinations o ls ≡ []
leads_nowhere o [] none = refl
leads_nowhere o (l ∷ ls) none = leads_no o l ls none.0 ∙ leads_nowhere o ls none.1

pub at_most_five : (k : Kind) → ports_of k ≤ 5
at_most_five k = (few_ports k).1

-- a port of a graph is a destination
pub port_is : (ds : List DraftParts) (d : Destination) → length ds ≤ 999 → has_port (draft_at ds d.statement) d.port ≡ true → IsDestination d × (d.statement ≤ length ds)
port_is ds d few h =
    let s = test_stands (λ o. has_port o d.port) refl ds d.statement h in
    let w = at_within ds d.statement s.0 s.1 in
    let p = and_parts (nat_le 1 d.port) (nat_le d.port (ports_of s.0.kind)) s.2 in
    let low = leb-true 1 d.port p.0 in
    let high = leb-true d.port (ports_of s.0.kind) p.1 in
    let most = at_most_five s.0.kind in
    (record { statement = (w.0, omega (arith, w.1, few)); port = (low, omega (arith, high, most)) }, w.1)

pub ascending_more : (below : ℕ) (ds : List Destination) (d : Destination) → Ascending below ds → IsDestination d → below < rank d → AllBefore (rank d) ds → Ascending below (ds ++ (d ∷ []))
ascending_more below [] d a is low b = (is, low, tt)
ascending_more below (e ∷ ds) d a is low b = (a.0, a.1, ascending_more (rank e) ds d a.2 is b.0 b.1)

pub rank_above : (d : Destination) → IsDestination d → 0 < rank d
rank_above d is = omega (arith, is.statement.0)

-- links stay links where a statement is added
pub link_more : (ds : List DraftParts) (x : DraftParts) (l : Link) → is_link ds l ≡ true → is_link (ds ++ (x ∷ [])) l ≡ true
link_more ds x l h =
    let p = and_parts (has_output (draft_at ds l.from.statement) l.from.on_false) (has_port (draft_at ds l.to.statement) l.to.port) h in
    and_from (has_output (draft_at (ds ++ (x ∷ [])) l.from.statement) l.from.on_false) (has_port (draft_at (ds ++ (x ∷ [])) l.to.statement) l.to.port)
    (test_more (λ o. has_output o l.from.on_false) refl ds x l.from.statement p.0)
    (test_more (λ o. has_port o l.to.port) refl ds x l.to.statement p.1)

pub links_more : (ds : List DraftParts) (x : DraftParts) (ls : List Link) → AreLinks ds ls → AreLinks (ds ++ (x ∷ [])) ls
links_more ds x [] h = tt
links_more ds x (l ∷ ls) h = (link_more ds x l h.0, links_more ds x ls h.1)

pub all_more : {A : Type 0} (P : A → Type 0) (xs : List A) (x : A) → AllByRecursion P xs → P x → AllByRecursion P (xs ++ (x ∷ []))
all_more P [] x h p = (p, tt)
all_more P (y ∷ xs) x h p = (h.0, all_more P xs x h.1 p)

-- the port that a link leads to
pub link_to : (ds : List DraftParts) (l : Link) → length ds ≤ 999 → is_link ds l ≡ true → IsDestination l.to × (l.to.statement ≤ length ds)
link_to ds l few h =
    let p = and_parts (has_output (draft_at ds l.from.statement) l.from.on_false) (has_port (draft_at ds l.to.statement) l.to.port) h in
    port_is ds l.to few p.1

-- the statement that a link comes from
pub link_from : (ds : List DraftParts) (l : Link) → is_link ds l ≡ true → (1 ≤ l.from.statement) × (l.from.statement ≤ length ds)
link_from ds l h =
    let p = and_parts (has_output (draft_at ds l.from.statement) l.from.on_false) (has_port (draft_at ds l.to.statement) l.to.port) h in
    let s = test_stands (λ o. has_output o l.from.on_false) refl ds l.from.statement p.0 in
    at_within ds l.from.statement s.0 s.1

-- all links lead to ports before those of the statements behind the last one
pub before_later : (ds : List DraftParts) (ls : List Link) (o : Output) (below : ℕ) → length ds ≤ 999 → AreLinks ds ls → 8 * length ds + 5 < below → AllBefore below (destinations o ls)
before_later ds [] o below few h high = tt
before_later ds (l ∷ ls) o below few h high = by (same_output o l.from) (before_later ds ls o below few h.1 high)
  where
    at : IsDestination l.to × (l.to.statement ≤ length ds)
    at = link_to ds l few h.0

    by : (b : Bool) → AllBefore below (destinations o ls) → AllBefore below (cond b (l.to ∷ destinations o ls) (destinations o ls))
    by true rest = let p = at.0.port.1 in let s = at.1 in (omega (arith, p, s, high), rest)
    by false rest = rest

-- no link comes from a statement behind the last one
pub none_from : (ds : List DraftParts) (ls : List Link) (o : Output) → AreLinks ds ls → length ds < o.statement → AllByRecursion (λ (l : Link). same_output o l.from ≡ false) ls
none_from ds [] o h high = tt
none_from ds (l ∷ ls) o h high =
    let w = (link_from ds l h.0).1 in
    (same_not o l.from (λ e. omega (arith, w, high, e)), none_from ds ls o h.1 high)

-- nor from number 0
pub none_at_zero : (ds : List DraftParts) (ls : List Link) (o : Output) → AreLinks ds ls → o.statement ≡ 0 → AllByRecursion (λ (l : Link). same_output o l.from ≡ false) ls
none_at_zero ds [] o h none = tt
none_at_zero ds (l ∷ ls) o h none =
    let w = (link_from ds l h.0).0 in
    (same_not o l.from (λ e. omega (arith, w, none, e)), none_at_zero ds ls o h.1 none)

pub none_later : (ds : List DraftParts) (ls : List Link) (o : Output) → AreLinks ds ls → length ds < o.statement → destinations o ls ≡ []
none_later ds ls o h high = leads_nowhere o ls (none_from ds ls o h high)

-- an output from which a link comes is one
pub sends_some : (ds : List DraftParts) (ls : List Link) (o : Output) → AreLinks ds ls → 0 < length (destinations o ls) → is_output ds o ≡ true
sends_some ds [] o h some = absurd (omega arith)
sends_some ds (l ∷ ls) o h some = elim (cases_Bool (same_output o l.from)) [
  | inl e ↦
      let p = and_parts (has_output (draft_at ds l.from.statement) l.from.on_false) (has_port (draft_at ds l.to.statement) l.to.port) h.0 in
      let q = same_is o l.from e in
      subst (λ (f : Output). is_output ds f ≡ true) (sym q) p.0
  | inr e ↦ sends_some ds ls o h.1 (omega (arith, some, ap length (leads_no o l ls e)))
]

pub before_take : (k below : ℕ) (ds : List Destination) → AllBefore below ds → AllBefore below (take k ds)
before_take zero below ds b = tt
before_take (suc k) below [] b = tt
before_take (suc k) below (d ∷ ds) b = (b.0, before_take k below ds b.1)

pub ascending_take : (k below : ℕ) (ds : List Destination) → Ascending below ds → Ascending below (take k ds)
ascending_take zero below ds a = tt
ascending_take (suc k) below [] a = tt
ascending_take (suc k) below (d ∷ ds) a = (a.0, a.1, ascending_take k (rank d) ds a.2)

ascending_lower : (below : ℕ) (ds : List Destination) → Ascending below ds → Ascending 0 ds
ascending_lower below [] a = tt
ascending_lower below (d ∷ ds) a = (a.0, rank_above d a.0, a.2)

pub ascending_drop : (k below : ℕ) (ds : List Destination) → Ascending below ds → Ascending 0 (drop k ds)
ascending_drop zero below ds a = ascending_lower below ds a
ascending_drop (suc k) below [] a = tt
ascending_drop (suc k) below (d ∷ ds) a = ascending_drop k (rank d) ds a.2

-- one link more, which leads to a port before that one if it comes from the output
pub before_more : (o : Output) (l : Link) (ls : List Link) (below : ℕ) → (same_output o l.from ≡ true → rank l.to < below) → AllBefore below (destinations o ls) → AllBefore below (destinations o (l ∷ ls))
before_more o l ls below first rest = elim (cases_Bool (same_output o l.from)) [
  | inl e ↦ subst (AllBefore below) (sym (leads_yes o l ls e)) (first e, rest)
  | inr e ↦ subst (AllBefore below) (sym (leads_no o l ls e)) rest
]
