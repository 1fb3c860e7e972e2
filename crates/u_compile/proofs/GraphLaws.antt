-- Graphs stay graphs where a loop, a statement or a link is added.
use Rattle.std.proofs.Common.{◌≡◌, ℕ, suc, ◌+◌, ◌<◌, ◌≤◌, inl, inr, refl, sym, ◌∙◌, subst, arith, Bool, true, false, cond, ◌==◌, List, [], ◌∷◌, ◌++◌, length, Some}
use Rattle.std.proofs.lemmas.Bool.{leb-true, le-leb, cond-false, eq-eqb}
use Rattle.std.proofs.lemmas.List.{append-nil, length-append}
use Rattle.u_program.specs.declared.program.Kind.{Kind}
use Rattle.u_program.specs.declared.program.Kind.TheVariants.{Enter}
use Rattle.u_program.specs.Limits.{AreLoops, Ascending, rank}
use Rattle.u_compile.specs.declared.graph.Link.{Link}
use Rattle.u_compile.specs.declared.graph.Output.{Output}
use Rattle.u_compile.specs.Drafts.{DraftParts}
use Rattle.u_compile.specs.Graphs.{GraphParts, graph, same_output, destinations, draft_at, is_link, is_next, is_enter, enters_one, shares_well, IsDraft, IsGraph, AllBefore}
use Rattle.u_compile.proofs.Numbers.{at_cases, test_more}
use Rattle.u_compile.proofs.Links.{same_is, destinations-append, links_more, all_more, link_to, ascending_more, rank_above}

loops_more : (n : ℕ) (hs : List ℕ) (h : ℕ) → AreLoops n hs → h < n + length hs → h ≤ 99 → AreLoops n (hs ++ (h ∷ []))
loops_more n [] h a low few = (omega arith, few, tt)
loops_more n (g ∷ hs) h a low few = (a.0, a.1, loops_more (suc n) hs h a.2 (omega (arith, low)) few)

enters_wider : (m k : ℕ) → m ≤ k → (kind : Kind) → enters_one m kind ≡ true → enters_one k kind ≡ true
enters_wider m k w (Enter l) e = let h = leb-true l m e in le-leb l k (omega (arith, h))
enters_wider m k w kind e = refl

draft_wider : (loops : List ℕ) (h : ℕ) (ds : List DraftParts) (n : ℕ) (d : DraftParts) → IsDraft loops ds n d → IsDraft (loops ++ (h ∷ [])) ds n d
draft_wider loops h ds n d is =
    let e : length (loops ++ (h ∷ [])) ≡ length loops + 1 = length-append loops (h ∷ []) in
    record {
      region = omega (arith, is.region, e);
      kind = is.kind;
      known = is.known;
      enters = enters_wider (length loops) (length (loops ++ (h ∷ []))) (omega (arith, e)) d.kind is.enters;
      shares = is.shares;
    }

shares_more : (ds : List DraftParts) (x : DraftParts) (n : ℕ) (d : DraftParts) → shares_well ds n d ≡ true → shares_well (ds ++ (x ∷ [])) n d ≡ true
shares_more ds x n d = by (is_next d.kind)
  where
    by : (b : Bool) → cond b (is_enter (draft_at ds d.shares)) (d.shares == n) ≡ true → cond b (is_enter (draft_at (ds ++ (x ∷ [])) d.shares)) (d.shares == n) ≡ true
    by true h = test_more is_enter refl ds x d.shares h
    by false h = h

draft_more : (loops : List ℕ) (ds : List DraftParts) (x : DraftParts) (n : ℕ) (d : DraftParts) → IsDraft loops ds n d → IsDraft loops (ds ++ (x ∷ [])) n d
draft_more loops ds x n d is = record { region = is.region; kind = is.kind; known = is.known; enters = is.enters; shares = shares_more ds x n d is.shares }

-- a statement of another kind than `next` has its own links
pub own_links : (ds : List DraftParts) (d : DraftParts) → is_next d.kind ≡ false → d.shares ≡ length ds + 1 → shares_well (ds ++ (d ∷ [])) (length ds + 1) d ≡ true
own_links ds d other own = cond-false (is_next d.kind) (is_enter (draft_at (ds ++ (d ∷ [])) d.shares)) (d.shares == length ds + 1) other ∙ eq-eqb d.shares (length ds + 1) own

pub with_loop : (g : GraphParts) (h : ℕ) → IsGraph g → h ≤ length g.loops → length g.loops < 99 → IsGraph (graph (g.loops ++ (h ∷ [])) g.statements g.links)
with_loop g h is low few =
    let e : length (g.loops ++ (h ∷ [])) ≡ length g.loops + 1 = length-append g.loops (h ∷ []) in
    record {
      loops = loops_more 1 g.loops h is.loops (omega (arith, low)) (omega (arith, low, few));
      few_loops = omega (arith, e, few);
      few = is.few;
      drafts = λ n d a. draft_wider g.loops h g.statements n d (is.drafts n d a);
      links = is.links;
      sorted = is.sorted;
    }

pub with_draft : (g : GraphParts) (x : DraftParts) → IsGraph g → length g.statements < 999 → IsDraft g.loops (g.statements ++ (x ∷ [])) (length g.statements + 1) x → IsGraph (graph g.loops (g.statements ++ (x ∷ [])) g.links)
with_draft g x is few new =
    let e : length (g.statements ++ (x ∷ [])) ≡ length g.statements + 1 = length-append g.statements (x ∷ []) in
    record {
      loops = is.loops;
      few_loops = is.few_loops;
      few = omega (arith, e, few);
      drafts = all;
      links = links_more g.statements x g.links is.links;
      sorted = is.sorted;
    }
  where
    all : (n : ℕ) (d : DraftParts) → draft_at (g.statements ++ (x ∷ [])) n ≡ Some d → IsDraft g.loops (g.statements ++ (x ∷ [])) n d
    all n d a = elim (at_cases g.statements x n d a) [
      | inl h ↦ draft_more g.loops g.statements x n d (is.drafts n d h)
      | inr h ↦
          let P : ℕ → DraftParts → Type 0 = λ m v. IsDraft g.loops (g.statements ++ (x ∷ [])) m v in
          subst (λ (m : ℕ). P m d) (sym h.0) (subst (λ (v : DraftParts). P (length g.statements + 1) v) (sym h.1) new)
    ]

pub with_link : (g : GraphParts) (l : Link) → IsGraph g → is_link g.statements l ≡ true → AllBefore (rank l.to) (destinations l.from g.links) → IsGraph (graph g.loops g.statements (g.links ++ (l ∷ [])))
with_link g l is new before = record {
  loops = is.loops;
  few_loops = is.few_loops;
  few = is.few;
  drafts = is.drafts;
  links = all_more (λ (m : Link). is_link g.statements m ≡ true) g.links l is.links new;
  sorted = λ o. subst (Ascending 0) (sym (destinations-append o g.links (l ∷ []))) (by o (same_output o l.from) refl);
}
  where
    by : (o : Output) (b : Bool) → same_output o l.from ≡ b → Ascending 0 (destinations o g.links ++ cond b (l.to ∷ []) [])
    by o true e =
        let at = link_to g.statements l is.few new in
        let q = same_is o l.from e in
        ascending_more 0 (destinations o g.links) l.to (is.sorted o) at.0 (rank_above l.to at.0) (subst (λ (p : Output). AllBefore (rank l.to) (destinations p g.links)) (sym q) before)
    by o false e = subst (Ascending 0) (sym (append-nil (destinations o g.links))) (is.sorted o)
