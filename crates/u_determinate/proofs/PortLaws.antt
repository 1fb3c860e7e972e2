-- Links to a port, as far as a list of links was gone over.
use Rattle.std.proofs.Common.{◌≡◌, ℕ, ◌+◌, ◌<◌, ◌≤◌, refl, ap, sym, ◌∙◌, arith, subst, Bool, List, [], ◌++◌, length, get_or, take, drop, Some, inl, inr, ◌⊎◌}
use Rattle.std.specs.Prelude.{Contains, IsTrue, ◌↔◌}
use Rattle.std.proofs.Math.Seq.{take-length, drop-length}
use Rattle.std.proofs.lemmas.List.{get_or_default, append-nil}
use Rattle.u_program.specs.declared.program.Kind.TheVariants.{Pass}
use Rattle.u_program.specs.Parts.{StatementParts}
use Rattle.u_check.specs.Rules.{statement_at, Arc}
use Rattle.u_determinate.specs.Arcs.{Leads, OnlyArc}
use Rattle.u_determinate.specs.Guards.{Passes, PassedOn}
use Rattle.u_determinate.specs.declared.incoming.Link.{Link}
use Rattle.u_determinate.specs.Flow.{arc_of, AreLinks, OnlyLink, TakesFrom}
use Rattle.u_determinate.proofs.Links.{link, same_link, split, number_within}

-- Q of each of the first n links
abbrev pub Before : (Link → Type 0) → ℕ → List Link → Type 0
Before Q n links = (k : Link) (i : ℕ) → i < n → i < length links → get_or links i k ≡ k → Q k

-- any other link to that port is this one
abbrev pub IsThat : Link → Link → Type 0
IsThat link k = k.port ≡ link.port → k ≡ link

-- it does not lead to that port
abbrev pub IsElsewhere : ℕ → Link → Type 0
IsElsewhere port k = k.port ≡ port → ⊥

pub before_more : (Q : Link → Type 0) (n : ℕ) (links : List Link) (d : Link) → Before Q n links → n < length links → Q (get_or links n d) → Before Q (n + 1) links
before_more Q n links d h l q k i lt w e = by (split i n lt)
  where
    by : (i < n) ⊎ (i ≡ n) → Q k
    by (inl m) = h k i m w e
    by (inr m) = subst Q (here m) q
      where
        here : i ≡ n → get_or links n d ≡ k
        here m = get_or_default links n d k l ∙ ap (λ (j : ℕ). get_or links j k) (sym m) ∙ e

pub before_all : (Q : Link → Type 0) (n : ℕ) (links : List Link) → length links ≤ n → Before Q n links → (k : Link) → Contains links k → Q k
before_all Q n links l h k (i, w, e) = h k i (omega (arith, w, l)) w e

-- the only link to a port is the only arc to it
module _ (ss : List StatementParts) (n port : ℕ) (links : List Link) (h : AreLinks ss n links) where
  only_arc : (l : Link) → OnlyLink links port l → OnlyArc ss n port (arc_of l)
  only_arc l o = record {
    leads = subst (λ (p : ℕ). Leads ss n p (arc_of l)) o.leads ((h l).0 o.listed);
    only = λ b e. ap arc_of (o.only (link b.statement b.on_false b.place port) ((h (link b.statement b.on_false b.place port)).1 e) refl);
  }

  only_link_of : (a : Arc) → OnlyArc ss n port a → OnlyLink links port (link a.statement a.on_false a.place port)
  only_link_of a o = record {
    listed = (h (link a.statement a.on_false a.place port)).1 o.leads;
    leads = refl;
    only = λ k m e. (let q : arc_of k ≡ a = o.only (arc_of k) (subst (λ (p : ℕ). Leads ss n p (arc_of k)) e ((h k).0 m)) in
        same_link k (link a.statement a.on_false a.place port) (ap (λ (x : Arc). x.statement) q) (ap (λ (x : Arc). x.on_false) q) (ap (λ (x : Arc). x.place) q) e);
  }

  pub takes_one : (P : ℕ → Type 0) (l : Link) → OnlyLink links port l → (b : Bool) → (IsTrue b ↔ P l.statement) → IsTrue b ↔ TakesFrom ss P n port
  takes_one P l o b e =
      ((λ t. (arc_of l, only_arc l o, e.0 t)), λ t. e.1 (subst P (ap (λ (x : Arc). x.statement) ((only_arc l o).only t.0 t.1.leads)) t.2))

  pub takes_none : (P : ℕ → Type 0) → ((l : Link) → OnlyLink links port l → ⊥) → TakesFrom ss P n port → ⊥
  takes_none P none t = none (link t.0.statement t.0.on_false t.0.place port) (only_link_of t.0 t.1)

-- a `pass` hands on what the statement gives that its only arc comes from
pub passes_of : (ss : List StatementParts) (P : ℕ → Type 0) (n : ℕ) (s : StatementParts) → statement_at ss n ≡ Some s → s.kind ≡ Pass → (b : Bool) → (IsTrue b ↔ TakesFrom ss P n 1) → IsTrue b ↔ Passes ss P n
passes_of ss P n s e k b h =
    ((λ t. (let x = h.0 t in record { stands = record { it = s; stands = e; kind = k }; arc = x.0; only = x.1; from = x.2 })), λ p. h.1 (p.arc, p.only, p.from))

pub passed_within : (ss : List StatementParts) (c : ℕ) → c ≤ length ss → (P : ℕ → Type 0) (n : ℕ) → PassedOn ss c P n → n < length ss + 1
passed_within ss c l P n (inl e) = omega (arith, e, l)
passed_within ss c l P n (inr h) = (let w = number_within ss n h.stands.it h.stands.stands in omega (arith, w.1))

-- what a call that writes to a slice leaves in the list
pub written : (len : ℕ) (new old : List Bool) → len ≡ length old → length new ≡ length old → take len (new ++ drop (length new) old) ≡ new
written len new old e q =
    let d : drop (length new) old ≡ [] = ap (λ (n : ℕ). drop n old) q ∙ drop-length old in
    ap (λ (x : List Bool). take len (new ++ x)) d ∙ ap (take len) (append-nil new) ∙ ap (λ (n : ℕ). take n new) (e ∙ sym q) ∙ take-length new
