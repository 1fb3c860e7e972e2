-- The arcs of the block of a graph are its links.
use Rattle.std.proofs.Common.{◌≡◌, ℕ, zero, suc, ◌+◌, ◌-◌, ◌<◌, inl, inr, refl, sym, ap, ◌∙◌, subst, arith, Bool, true, false, cond, List, [], ◌∷◌, Some}
use Rattle.std.specs.Prelude.{slice_get}
use Rattle.u_program.specs.declared.program.Destination.{Destination}
use Rattle.u_program.specs.Parts.{StatementParts}
use Rattle.u_program.specs.Limits.{Ascending, rank}
use Rattle.u_check.specs.Rules.{statement_at, list_of, Arc, arc}
use Rattle.u_check.proofs.Arcs.{numbered as numbered_statement, has_number}
use Rattle.u_determinate.specs.Arcs.{Leads, destination}
use Rattle.u_determinate.proofs.NumberFacts.{arc_stands, leads_by_parts}
use Rattle.u_compile.specs.declared.graph.Link.{Link}
use Rattle.u_compile.specs.declared.graph.Output.{Output}
use Rattle.u_compile.specs.Drafts.{DraftParts}
use Rattle.u_compile.specs.Graphs.{GraphParts, output, same_output, destinations, draft_at}
use Rattle.u_compile.specs.Blocks.{statement_of, statements_of}
use Rattle.u_compile.specs.Scoped.{IsOf}
use Rattle.u_compile.proofs.Numbers.{numbered}
use Rattle.u_compile.proofs.Links.{same_is, same_own, leads_yes}

get_made : (ls : List Link) (ds : List DraftParts) (k : ℕ) (d : DraftParts) → slice_get ds k ≡ Some d → slice_get (statements_of ls ds) k ≡ Some (statement_of ls d)
get_made ls [] k d e = cc
get_made ls (x ∷ ds) zero d e = let q : x ≡ d = cc in ap (λ (v : DraftParts). Some (statement_of ls v)) q
get_made ls (x ∷ ds) (suc k) d e = get_made ls ds k d e

get_draft : (ls : List Link) (ds : List DraftParts) (k : ℕ) (s : StatementParts) → slice_get (statements_of ls ds) k ≡ Some s → (d : DraftParts) × (slice_get ds k ≡ Some d) × (statement_of ls d ≡ s)
get_draft ls [] k s e = cc
get_draft ls (x ∷ ds) zero s e = let q : statement_of ls x ≡ s = cc in (x, refl, q)
get_draft ls (x ∷ ds) (suc k) s e = get_draft ls ds k s e

-- the statement that a draft becomes has its number
pub made_at : (ls : List Link) (ds : List DraftParts) (n : ℕ) (d : DraftParts) → draft_at ds n ≡ Some d → statement_at (statements_of ls ds) n ≡ Some (statement_of ls d)
made_at ls ds zero d e = cc
made_at ls ds (suc n) d e =
    let q : suc n ≡ n + 1 = omega arith in
    ap (statement_at (statements_of ls ds)) q ∙ (numbered_statement (statements_of ls ds) n ∙ get_made ls ds n d e)

-- and each statement is that of a draft
pub draft_from : (ls : List Link) (ds : List DraftParts) (n : ℕ) (s : StatementParts) → statement_at (statements_of ls ds) n ≡ Some s → (d : DraftParts) × (draft_at ds n ≡ Some d) × (statement_of ls d ≡ s)
draft_from ls ds n s e =
    let h = has_number (statements_of ls ds) n s e in
    let g = get_draft ls ds (n - 1) s h.1 in
    (g.0, numbered ds n h.0 ∙ g.1, g.2)

pub list_is : (ls : List Link) (d : DraftParts) (b : Bool) → list_of (statement_of ls d) b ≡ destinations (output d.shares b) ls
list_is ls d true = refl
list_is ls d false = refl

-- a link from the output that leads there
abbrev pub LinkTo : Output → List Link → Destination → Type 0
LinkTo o ls d = (l : Link) × IsOf ls l × (l.from ≡ o) × (l.to ≡ d)

link_first : (o : Output) (l : Link) (ls : List Link) (d : Destination) (b : Bool) → same_output o l.from ≡ b → (k : ℕ) → slice_get (cond b (l.to ∷ destinations o ls) (destinations o ls)) k ≡ Some d → ((j : ℕ) → slice_get (destinations o ls) j ≡ Some d → LinkTo o ls d) → LinkTo o (l ∷ ls) d
link_first o l ls d true q zero e more = let f : l.to ≡ d = cc in (l, inl refl, sym (same_is o l.from q), f)
link_first o l ls d true q (suc k) e more = let r = more k e in (r.0, inr r.1, r.2, r.3)
link_first o l ls d false q k e more = let r = more k e in (r.0, inr r.1, r.2, r.3)

pub link_at : (o : Output) (ls : List Link) (d : Destination) (k : ℕ) → slice_get (destinations o ls) k ≡ Some d → LinkTo o ls d
link_at o [] d k e = cc
link_at o (l ∷ ls) d k e = link_first o l ls d (same_output o l.from) refl k e (link_at o ls d)

-- where a link leads has a place in its list
pub place_of : (ls : List Link) (l : Link) → IsOf ls l → (k : ℕ) × (slice_get (destinations l.from ls) k ≡ Some l.to)
place_of [] l is = absurd is
place_of (m ∷ ls) l (inl q) =
    let e : same_output l.from m.from ≡ true = subst (λ (v : Link). same_output l.from v.from ≡ true) (sym q) (same_own l.from) in
    (0, ap (λ (v : List Destination). slice_get v 0) (leads_yes l.from m ls e) ∙ ap (λ (v : Link). Some v.to) q)
place_of (m ∷ ls) l (inr is) = by (same_output l.from m.from) (place_of ls l is)
  where
    by : (b : Bool) → (k : ℕ) × (slice_get (destinations l.from ls) k ≡ Some l.to) → (k : ℕ) × (slice_get (cond b (m.to ∷ destinations l.from ls) (destinations l.from ls)) k ≡ Some l.to)
    by true r = (suc r.0, r.1)
    by false r = r

-- What an arc to a port is: a link from the list that its statement has.
pub record IsLinkOf (g : GraphParts) (n port : ℕ) (a : Arc) : Type 0 where
  pub by : DraftParts
  pub stands : draft_at g.statements a.statement ≡ Some by
  pub link : Link
  pub is : IsOf g.links link
  pub from : link.from ≡ output by.shares a.on_false
  pub to : link.to ≡ destination n port
  pub place : slice_get (destinations (output by.shares a.on_false) g.links) a.place ≡ Some (destination n port)

pub arc_is : (g : GraphParts) (n port : ℕ) (a : Arc) → Leads (statements_of g.links g.statements) n port a → IsLinkOf g n port a
arc_is g n port a leads =
    let s = arc_stands (statements_of g.links g.statements) a (destination n port) leads in
    let d = draft_from g.links g.statements a.statement s.it s.stands in
    let e : list_of s.it a.on_false ≡ destinations (output d.0.shares a.on_false) g.links = ap (λ (v : StatementParts). list_of v a.on_false) (sym d.2) ∙ list_is g.links d.0 a.on_false in
    let at : slice_get (destinations (output d.0.shares a.on_false) g.links) a.place ≡ Some (destination n port) = ap (λ (v : List Destination). slice_get v a.place) (sym e) ∙ s.listed in
    let l = link_at (output d.0.shares a.on_false) g.links (destination n port) a.place at in
    record { by = d.0; stands = d.1; link = l.0; is = l.1; from = l.2; to = l.3; place = at }

-- a link is an arc of the statement that it comes from, where that has its own links
pub arc_of : (g : GraphParts) (l : Link) (d : DraftParts) → IsOf g.links l → draft_at g.statements l.from.statement ≡ Some d → d.shares ≡ l.from.statement → (k : ℕ) × Leads (statements_of g.links g.statements) l.to.statement l.to.port (arc l.from.statement l.from.on_false k)
arc_of g l d is stands own =
    let p = place_of g.links l is in
    let o : output d.shares l.from.on_false ≡ l.from = ap (λ (n : ℕ). output n l.from.on_false) own in
    let e = list_is g.links d l.from.on_false ∙ ap (λ (v : Output). destinations v g.links) o in
    (p.0, leads_by_parts (statements_of g.links g.statements) l.from.statement l.from.on_false p.0 (statement_of g.links d) l.to (made_at g.links g.statements l.from.statement d stands) (ap (λ (v : List Destination). slice_get v p.0) e ∙ p.1))

rank_behind : (ds : List Destination) (below : ℕ) (k : ℕ) (d : Destination) → Ascending below ds → slice_get ds k ≡ Some d → below < rank d
rank_behind [] below k d a e = cc
rank_behind (x ∷ ds) below zero d a e = let q : x ≡ d = cc in subst (λ (v : Destination). below < rank v) q a.1
rank_behind (x ∷ ds) below (suc k) d a e = let r = rank_behind ds (rank x) k d a.2 e in let s = a.1 in omega (arith, r, s)

-- a list in ascending order has a destination once
pub one_place : (ds : List Destination) (below : ℕ) (i j : ℕ) (d : Destination) → Ascending below ds → slice_get ds i ≡ Some d → slice_get ds j ≡ Some d → i ≡ j
one_place [] below i j d a p q = cc
one_place (x ∷ ds) below zero zero d a p q = refl
one_place (x ∷ ds) below zero (suc j) d a p q =
    let e : x ≡ d = cc in
    let r = rank_behind ds (rank x) j d a.2 q in
    let f = ap (λ (v : Destination). rank v) e in
    absurd (omega (arith, r, f))
one_place (x ∷ ds) below (suc i) zero d a p q =
    let e : x ≡ d = cc in
    let r = rank_behind ds (rank x) i d a.2 p in
    let f = ap (λ (v : Destination). rank v) e in
    absurd (omega (arith, r, f))
one_place (x ∷ ds) below (suc i) (suc j) d a p q = ap suc (one_place ds (rank x) i j d a.2 p q)
