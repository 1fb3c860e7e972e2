-- A graph with one `pass` more is a graph.
use Rattle.std.proofs.Common.{◌≡◌, ℕ, zero, suc, ◌+◌, ◌*◌, ◌<◌, ◌≤◌, inl, inr, refl, sym, ap, ◌∙◌, subst, arith, Bool, true, false, List, [], ◌∷◌, ◌++◌, length, Some, None, Option}
use Rattle.std.specs.Prelude.{slice_get, unwrap_or, nat_le}
use Rattle.std.proofs.lemmas.Bool.{cases_Bool, cases_lt, leb-true, le-leb, cond-true, cond-false, and_from}
use Rattle.std.proofs.lemmas.List.{append-nil, length-append, length-take}
use Rattle.u_program.specs.declared.program.Kind.{Kind}
use Rattle.u_program.specs.declared.program.Kind.TheVariants.{Enter, Leave, Pass}
use Rattle.u_program.specs.declared.program.Destination.{Destination}
use Rattle.u_program.specs.Limits.{AreLoops, Ascending}
use Rattle.u_check.specs.Kinds.{is_last}
use Rattle.u_compile.specs.declared.graph.Output.{Output}
use Rattle.u_compile.specs.Drafts.{DraftParts, draft}
use Rattle.u_compile.specs.Graphs.{GraphParts, graph, output, link, same_output, destinations, draft_at, has_output, has_port, is_output, enters_one, IsGraph, AllBefore}
use Rattle.u_compile.specs.Fanning.{holder, region_behind, moved, with_pass, fanned_at, fanned, FansOut, none, one_more, IsNoFullLast, AreFew}
use Rattle.u_compile.proofs.Numbers.{at_within, at_last, test_more, test_stands}
use Rattle.u_compile.proofs.Links.{same_is, same_not, destinations-append, none_from, none_later, sends_some, leads_nowhere, none_at_zero, before_later, before_take, ascending_take, ascending_drop, leads_yes, leads_no, same_own}
use Rattle.u_compile.proofs.GraphLaws.{own_links, with_draft, with_link}
use Rattle.u_compile.proofs.Moves.{moved_stay, moved_come, moved_keeps, moved_links}

loops_at : (m : ℕ) (hs : List ℕ) (n h : ℕ) → AreLoops m hs → slice_get hs n ≡ Some h → h < m + n
loops_at m [] n h a e = cc
loops_at m (g ∷ hs) zero h a e = let q : g ≡ h = cc in omega (arith, a.0, q)
loops_at m (g ∷ hs) (suc n) h a e = let r = loops_at (suc m) hs n h a.2 e in omega (arith, r)

holder_within : (loops : List ℕ) (region : ℕ) → AreLoops 1 loops → region ≤ length loops → holder loops region ≤ length loops
holder_within loops zero a w = omega arith
holder_within loops (suc n) a w = by (slice_get loops n) refl
  where
    by : (o : Option ℕ) → slice_get loops n ≡ o → unwrap_or o 0 ≤ length loops
    by None e = omega arith
    by (Some h) e = let l = loops_at 1 loops n h a e in omega (arith, l, w)

behind_within : (loops : List ℕ) (region : ℕ) (k : Kind) → AreLoops 1 loops → region ≤ length loops → enters_one (length loops) k ≡ true → region_behind loops region k ≤ length loops
behind_within loops region (Enter l) a w e = leb-true l (length loops) e
behind_within loops region Leave a w e = holder_within loops region a w
behind_within loops region k a w e = w

-- the `pass` behind an output of a statement
abbrev pub pass_of : DraftParts → GraphParts → DraftParts
pass_of d g = draft (region_behind g.loops d.region d.kind) Pass (length g.statements + 1)

with_statement : (g : GraphParts) (o : Output) (d : DraftParts) → IsGraph g → length g.statements < 999 → draft_at g.statements o.statement ≡ Some d → IsGraph (graph g.loops (g.statements ++ (pass_of d g ∷ [])) g.links)
with_statement g o d is few at =
    let old = is.drafts o.statement d at in
    with_draft g (pass_of d g) is few (record {
      region = behind_within g.loops d.region d.kind is.loops old.region old.enters;
      kind = tt;
      known = tt;
      enters = refl;
      shares = own_links g.statements (pass_of d g) refl refl;
    })

-- the links from the output that stay, those that come from the `pass`, and those from other outputs are in order
with_moved : (g : GraphParts) (o : Output) (d : DraftParts) → IsGraph g → length g.statements < 999 → draft_at g.statements o.statement ≡ Some d → IsGraph (graph g.loops (g.statements ++ (pass_of d g ∷ [])) (moved o 15 (length g.statements + 1) g.links))
with_moved g o d is few at = let s = with_statement g o d is few at in record {
  loops = s.loops;
  few_loops = s.few_loops;
  few = s.few;
  drafts = s.drafts;
  links = moved_links (g.statements ++ (pass_of d g ∷ [])) o 15 (length g.statements + 1) g.links sends s.links;
  sorted = λ p. first p (same_output p o) refl;
}
  where
    new : Output
    new = output (length g.statements + 1) false

    sends : is_output (g.statements ++ (pass_of d g ∷ [])) (output (length g.statements + 1) false) ≡ true
    sends = ap (λ (v : Option DraftParts). has_output v false) (at_last g.statements (pass_of d g))

    other : same_output o (output (length g.statements + 1) false) ≡ false
    other = let w = (at_within g.statements o.statement d at).1 in same_not o (output (length g.statements + 1) false) (λ e. omega (arith, w, e))

    second : (p : Output) → same_output p o ≡ false → (b : Bool) → same_output p (output (length g.statements + 1) false) ≡ b → Ascending 0 (destinations p (moved o 15 (length g.statements + 1) g.links))
    second p n true e =
        let q = same_is p (output (length g.statements + 1) false) e in
        let c = moved_come o 15 (length g.statements + 1) g.links (none_from g.statements g.links (output (length g.statements + 1) false) is.links (omega arith)) in
        subst (λ (f : Output). Ascending 0 (destinations f (moved o 15 (length g.statements + 1) g.links))) (sym q) (subst (Ascending 0) (sym c) (ascending_drop 15 0 (destinations o g.links) (is.sorted o)))
    second p n false e = subst (Ascending 0) (sym (moved_keeps o p 15 (length g.statements + 1) g.links n e)) (is.sorted p)

    first : (p : Output) (b : Bool) → same_output p o ≡ b → Ascending 0 (destinations p (moved o 15 (length g.statements + 1) g.links))
    first p true e =
        let q = same_is p o e in
        subst (λ (f : Output). Ascending 0 (destinations f (moved o 15 (length g.statements + 1) g.links))) (sym q) (subst (Ascending 0) (sym (moved_stay o 15 (length g.statements + 1) g.links other)) (ascending_take 15 0 (destinations o g.links) (is.sorted o)))
    first p false e = second p e (same_output p (output (length g.statements + 1) false)) refl

pub with_pass_is : (g : GraphParts) (o : Output) (d : DraftParts) → IsGraph g → length g.statements < 999 → draft_at g.statements o.statement ≡ Some d → 16 < length (destinations o g.links) → IsGraph (with_pass o d g)
with_pass_is g o d is few at many =
    with_link (graph g.loops (g.statements ++ (pass_of d g ∷ [])) (moved o 15 (length g.statements + 1) g.links)) (link o (length g.statements + 1) 1)
    (with_moved g o d is few at)
    (and_from (has_output (draft_at (g.statements ++ (pass_of d g ∷ [])) o.statement) o.on_false) (has_port (draft_at (g.statements ++ (pass_of d g ∷ [])) (length g.statements + 1)) 1) sends takes)
    before
  where
    sends : is_output (g.statements ++ (pass_of d g ∷ [])) o ≡ true
    sends = test_more (λ v. has_output v o.on_false) refl g.statements (pass_of d g) o.statement (sends_some g.statements g.links o is.links (omega (arith, many)))

    takes : has_port (draft_at (g.statements ++ (pass_of d g ∷ [])) (length g.statements + 1)) 1 ≡ true
    takes = ap (λ (v : Option DraftParts). has_port v 1) (at_last g.statements (pass_of d g))

    other : same_output o (output (length g.statements + 1) false) ≡ false
    other = let w = (at_within g.statements o.statement d at).1 in same_not o (output (length g.statements + 1) false) (λ e. omega (arith, w, e))

    before : AllBefore (8 * (length g.statements + 1) + 1) (destinations o (moved o 15 (length g.statements + 1) g.links))
    before = subst (AllBefore (8 * (length g.statements + 1) + 1)) (sym (moved_stay o 15 (length g.statements + 1) g.links other)) (before_take 15 (8 * (length g.statements + 1) + 1) (destinations o g.links) (before_later g.statements g.links o (8 * (length g.statements + 1) + 1) is.few is.links (omega arith)))

-- what a graph is with one `pass` more behind an output, by whether the output has too many links
fanned_few : (g : GraphParts) (o : Output) → IsGraph g → length (destinations o g.links) ≤ 16 → fanned o g ≡ g
fanned_few g o is few = by (draft_at g.statements o.statement)
  where
    by : (v : Option DraftParts) → fanned_at o v g ≡ g
    by None = refl
    by (Some d) = cond-true (nat_le (length (destinations o g.links)) 16) g (with_pass o d g) (le-leb (length (destinations o g.links)) 16 few)

too_many : (m n : ℕ) → n < m → nat_le m n ≡ false
too_many m n h = elim (cases_Bool (nat_le m n)) [ inl e ↦ let l = leb-true m n e in absurd (omega (arith, l, h)) | inr e ↦ e ]

fanned_many : (g : GraphParts) (o : Output) (d : DraftParts) → draft_at g.statements o.statement ≡ Some d → 16 < length (destinations o g.links) → fanned o g ≡ with_pass o d g
fanned_many g o d at many =
    ap (λ (v : Option DraftParts). fanned_at o v g) at ∙ cond-false (nat_le (length (destinations o g.links)) 16) g (with_pass o d g) (too_many (length (destinations o g.links)) 16 many)

-- an output with links belongs to a statement
stands_some : (g : GraphParts) (o : Output) → IsGraph g → 0 < length (destinations o g.links) → (d : DraftParts) × (draft_at g.statements o.statement ≡ Some d)
stands_some g o is some =
    let s = test_stands (λ v. has_output v o.on_false) refl g.statements o.statement (sends_some g.statements g.links o is.links some) in
    (s.0, s.1)

-- either nothing is done, or one `pass` is put behind the output
pub fans_more : (g h : GraphParts) (o : Output) → IsGraph h → IsNoFullLast o h → FansOut g h → FansOut g (fanned o h)
fans_more g h o is bare f = elim (cases_lt 16 (length (destinations o h.links))) [
  | inl many ↦
      let s = stands_some h o is (omega (arith, many)) in
      subst (FansOut g) (sym (fanned_many h o s.0 s.1 many)) (one_more h o s.0 f s.1 many (bare s.0 s.1 many))
  | inr few ↦ subst (FansOut g) (sym (fanned_few h o is few)) f
]

-- then the output has 16 links at most
pub fanned_has_few : (g : GraphParts) (o : Output) → IsGraph g → length (destinations o (fanned o g).links) ≤ 16
fanned_has_few g o is = elim (cases_lt 16 (length (destinations o g.links))) [
  | inl many ↦
      let s = stands_some g o is (omega (arith, many)) in
      let w = (at_within g.statements o.statement s.0 s.1).1 in
      let b = length g.statements + 1 in
      let other = same_not o (output b false) (λ e. omega (arith, w, e)) in
      let e = destinations-append o (moved o 15 b g.links) (link o b 1 ∷ []) in
      let l = length-append (destinations o (moved o 15 b g.links)) (destinations o (link o b 1 ∷ [])) in
      let t = ap (λ (v : List Destination). length v) (moved_stay o 15 b g.links other) in
      let m = length-take 15 (destinations o g.links) in
      let one = ap (λ (v : List Destination). length v) (leads_yes o (link o b 1) [] (same_own o)) in
      let f = ap (λ (v : GraphParts). length (destinations o v.links)) (fanned_many g o s.0 s.1 many) in
      omega (arith, f, ap (λ (v : List Destination). length v) e, l, t, m, one)
  | inr few ↦ let f = ap (λ (v : GraphParts). length (destinations o v.links)) (fanned_few g o is few) in omega (arith, f, few)
]

-- and other outputs of the statements that were there have the links that they had
pub fanned_keeps : (g : GraphParts) (o p : Output) → IsGraph g → same_output p o ≡ false → p.statement ≤ length g.statements → destinations p (fanned o g).links ≡ destinations p g.links
fanned_keeps g o p is n old = elim (cases_lt 16 (length (destinations o g.links))) [
  | inl many ↦
      let s = stands_some g o is (omega (arith, many)) in
      let b = length g.statements + 1 in
      let other = same_not p (output b false) (λ e. omega (arith, old, e)) in
      ap (λ (v : GraphParts). destinations p v.links) (fanned_many g o s.0 s.1 many)
      ∙ (destinations-append p (moved o 15 b g.links) (link o b 1 ∷ [])
      ∙ (ap (λ (v : List Destination). destinations p (moved o 15 b g.links) ++ v) (leads_no p (link o b 1) [] n)
      ∙ (append-nil (destinations p (moved o 15 b g.links)) ∙ moved_keeps o p 15 b g.links n other)))
  | inr few ↦ ap (λ (v : GraphParts). destinations p v.links) (fanned_few g o is few)
]

fanned_grows : (g : GraphParts) (o : Output) → IsGraph g → length g.statements ≤ length (fanned o g).statements
fanned_grows g o is = elim (cases_lt 16 (length (destinations o g.links))) [
  | inl many ↦
      let s = stands_some g o is (omega (arith, many)) in
      let f = ap (λ (v : GraphParts). length v.statements) (fanned_many g o s.0 s.1 many) in
      let l = length-append g.statements (pass_of s.0 g ∷ []) in
      omega (arith, f, l)
  | inr few ↦ let f = ap (λ (v : GraphParts). length v.statements) (fanned_few g o is few) in omega (arith, f)
]

-- outputs of the statements before that number have 16 links at most
abbrev pub FewBefore : ℕ → GraphParts → Type 0
FewBefore n g = (o : Output) → o.statement < n → length (destinations o g.links) ≤ 16

-- both lists of one statement
pub few_more : (g : GraphParts) (n : ℕ) → IsGraph g → IsGraph (fanned (output n false) g) → n ≤ length g.statements → FewBefore n g → FewBefore (n + 1) (fanned (output n true) (fanned (output n false) g))
few_more g n is is-2 old few o below = elim (cases_lt o.statement n) [
  | inl l ↦
      let p = same_not o (output n false) (λ e. omega (arith, l, e)) in
      let q = same_not o (output n true) (λ e. omega (arith, l, e)) in
      let a = ap (λ (v : List Destination). length v) (fanned_keeps h (output n true) o is-2 q (omega (arith, l, old, grows))) in
      let b = ap (λ (v : List Destination). length v) (fanned_keeps g (output n false) o is p (omega (arith, l, old))) in
      let f = few o l in
      omega (arith, a, b, f)
  | inr m ↦ at o.statement o.on_false refl refl (omega (arith, m, below))
]
  where
    h : GraphParts
    h = fanned (output n false) g

    grows : length g.statements ≤ length (fanned (output n false) g).statements
    grows = fanned_grows g (output n false) is

    at : (s : ℕ) (b : Bool) → o.statement ≡ s → o.on_false ≡ b → s ≡ n → length (destinations o (fanned (output n true) (fanned (output n false) g)).links) ≤ 16
    at s true e f m =
        let q : output o.statement o.on_false ≡ output n true = cc in
        subst (λ (v : Output). length (destinations v (fanned (output n true) (fanned (output n false) g)).links) ≤ 16) (sym q) (fanned_has_few (fanned (output n false) g) (output n true) is-2)
    at s false e f m =
        let q : output o.statement o.on_false ≡ output n false = cc in
        let k = fanned_keeps (fanned (output n false) g) (output n true) (output n false) is-2 other (omega (arith, old, grows)) in
        let t = fanned_has_few g (output n false) is in
        subst (λ (v : Output). length (destinations v (fanned (output n true) (fanned (output n false) g)).links) ≤ 16) (sym q) (omega (arith, ap (λ (v : List Destination). length v) k, t))
      where
        other : same_output (output n false) (output n true) ≡ false
        other = elim (cases_Bool (same_output (output n false) (output n true))) [ inl e ↦ let q = ap (λ (v : Output). v.on_false) (same_is (output n false) (output n true) e) in cc | inr e ↦ e ]

-- before the first statement there is none
pub none_first : (g : GraphParts) → IsGraph g → FewBefore 1 g
none_first g is o low =
    let e = ap (λ (v : List Destination). length v) (leads_nowhere o g.links (none_at_zero g.statements g.links o is.links (omega (arith, low)))) in
    omega (arith, e)

-- and there are no others
pub all_few : (g : GraphParts) (n : ℕ) → IsGraph g → length g.statements < n → FewBefore n g → AreFew g.links
all_few g n is past few o = elim (cases_lt o.statement n) [
  | inl l ↦ few o l
  | inr m ↦ let e = ap (λ (v : List Destination). length v) (none_later g.statements g.links o is.links (omega (arith, past, m))) in omega (arith, e)
]

-- no statement is taken away
pub fans_grow : (g h : GraphParts) → FansOut g h → length g.statements ≤ length h.statements
fans_grow g h none = omega arith
fans_grow g h (one_more i o d f at many other) =
    let r = fans_grow g i f in
    let l = length-append i.statements (pass_of d i ∷ []) in
    omega (arith, r, l)

-- what keeps the output of a `last` from having too many links
pub few_no_last : (o : Output) (g : GraphParts) → length (destinations o g.links) ≤ 16 → IsNoFullLast o g
few_no_last o g few d at many = absurd (omega (arith, few, many))

pub none_no_last : (o : Output) (g : GraphParts) → draft_at g.statements o.statement ≡ None → IsNoFullLast o g
none_no_last o g lacks d at many = let e = sym lacks ∙ at in cc

pub other_no_last : (o : Output) (g : GraphParts) (e : DraftParts) → draft_at g.statements o.statement ≡ Some e → is_last e.kind ≡ false → IsNoFullLast o g
other_no_last o g e stands other d at many =
    let q : e ≡ d = (let r = sym stands ∙ at in cc) in
    ap (λ (v : DraftParts). is_last v.kind) (sym q) ∙ other
