-- A derivation goes one way: tokens have one syntax tree at most, and none where the derivation is stuck.
use Rattle.std.proofs.Common.{◌≡◌, ◌≢◌, ℕ, zero, suc, ◌+◌, ◌≤◌, List, [], ◌∷◌, ◌++◌, length, take, drop, Ok, Err, refl, sym, ◌∙◌, ap, subst, arith, append_assoc, length-append, Bool, true, false, cond, nat_lt, ◌^◌}
use Rattle.std.proofs.lemmas.List.{take-append-drop, length-take-le}
use Rattle.std.proofs.Math.Seq.{drop-append_seam, take-append_seam}
use Rattle.u_source.specs.declared.choosing.Placed.{Placed}
use Rattle.u_source.specs.declared.choosing.Step.{Step}
use Rattle.u_source.specs.declared.form.Node.{Node}
use Rattle.u_source.specs.declared.part.Kind.TheVariants as kind
use Rattle.u_source.specs.declared.part.Stop.{Stop}
use Rattle.u_source.specs.declared.token.Word.{Word}
use Rattle.u_source.specs.declared.token.Word.TheVariants as word
use Rattle.u_source.specs.Derivations.{Point, point, kind_of, kind_next, step_from, step_at, after, made_by, Goes, Leads, start, ended, IsSyntax, IsStuckAt, NoneBegins}
use Rattle.u_source.specs.Tokens.{TokenParts}
use Rattle.u_source.proofs.Measure.{well, well_once, Shrinks, step_shrinks, taken_there}

-- one step is possible at most
pub record Same (q r : Point) (a b : List Node) : Type 0 where
  pub there : q ≡ r
  pub nodes : a ≡ b

goes_once : (p : Point) (a b : List Node) (q r : Point) → Goes p a q → Goes p b r → Same q r a b
goes_once p a b q r g h =
    let same : g.step ≡ h.step = well_once g.step h.step (sym g.there ∙ h.there) in
    record {
      there = g.next ∙ ap (λ m. after m p) same ∙ sym h.next;
      nodes = g.makes ∙ ap made_by same ∙ sym h.makes;
    }

abbrev IsEnd : Point → Type 0
IsEnd p = (s : Stop) × (step_at p ≡ Err s)

no_step : (p : Point) (a : List Node) (q : Point) → IsEnd p → Goes p a q → ⊥
no_step p a q e g =
    let h : well g.step ≡ Err e.0 = sym g.there ∙ e.1 in
    cc

-- all derivations from a point come to the same end
pub ends_once : (n m : ℕ) (p : Point) (a b : List Node) (q r : Point) → Leads n p a q → Leads m p b r → IsEnd q → IsEnd r → Same q r a b
ends_once zero zero p a b q r h k e f = record { there = h.0 ∙ sym k.0; nodes = h.1 ∙ sym k.1 }
ends_once zero (suc m) p a b q r h k e f = absurd (no_step p k.1 k.0 (subst IsEnd h.0 e) k.3)
ends_once (suc n) zero p a b q r h k e f = absurd (no_step p h.1 h.0 (subst IsEnd k.0 f) h.3)
ends_once (suc n) (suc m) p a b q r h k e f =
    let s : Same h.0 k.0 h.1 k.1 = goes_once p h.1 k.1 h.0 k.0 h.3 k.3 in
    let k' : Leads m h.0 k.2 r = subst (λ x. Leads m x k.2 r) (sym s.there) k.4 in
    let t : Same q r h.2 k.2 = ends_once n m h.0 h.2 k.2 q r h.4 k' e f in
    record { there = t.there; nodes = h.5 ∙ ap (λ x. x ++ h.2) s.nodes ∙ ap (λ x. k.1 ++ x) t.nodes ∙ sym k.5 }

-- tokens have one syntax tree at most
pub syntax_once : (ts : List TokenParts) (a b : List Node) → IsSyntax ts a → IsSyntax ts b → a ≡ b
syntax_once ts a b h k = (ends_once h.steps k.steps (start ts) a b (ended h.number) (ended k.number) h.leads k.leads (_, refl) (_, refl)).nodes

front_kind : (f xs ys : List TokenParts) → kind_next xs ≡ kind_next ys → kind_next (f ++ xs) ≡ kind_next (f ++ ys)
front_kind [] xs ys h = h
front_kind (t ∷ f) xs ys h = refl

abbrev pub with_rest : Point → List TokenParts → Point
with_rest p ts = point p.symbols p.number ts

-- a derivation takes some tokens, and looks at the kind of the next one: it goes the same way before any others
pub record Takes (n : ℕ) (p : Point) (made : List Node) (q : Point) : Type 0 where
  pub front : List TokenParts
  pub there : p.rest ≡ front ++ q.rest
  pub number : q.number ≡ p.number + length front
  pub same : (more : List TokenParts) → kind_next more ≡ kind_next q.rest → Leads n (with_rest p (front ++ more)) made (with_rest q more)

pub step_fits : (ss : List Placed) (ts : List TokenParts) (m : Step) → step_from ss (kind_next ts) ≡ Ok m → m.taken ≤ length ts
step_fits [] ts m h = cc
step_fits (s ∷ ss) ts m h = let x : Shrinks s.symbol (kind_next ts) m = step_shrinks s.symbol s.at s.room (kind_next ts) m h in taken_there ts m.taken x.there

-- a step before other tokens, where one of the same kind stands next
pub same_go : (p : Point) (a : List Node) (q : Point) (front more : List TokenParts) → kind_next (front ++ more) ≡ kind_next p.rest → (g : Goes p a q) → g.step.taken ≡ length front → Goes (with_rest p (front ++ more)) a (with_rest q more)
same_go p a q front more kind g taken =
    let go : step_from p.symbols (kind_next (front ++ more)) ≡ Ok g.step = ap (step_from p.symbols) kind ∙ g.there in
    let rest : more ≡ drop g.step.taken (front ++ more) = sym (ap (λ n. drop n (front ++ more)) taken ∙ drop-append_seam front more) in
    let symbols : q.symbols ≡ (after g.step p).symbols = ap (λ x. x.symbols) g.next in
    let same : with_rest q more ≡ after g.step (with_rest p (front ++ more)) = ap (λ x. point x q.number more) symbols ∙ ap (λ x. point (after g.step p).symbols x more) (ap (λ x. x.number) g.next) ∙ ap (λ x. point (after g.step p).symbols (p.number + g.step.taken) x) rest in
    record { step = g.step; there = go; next = same; makes = g.makes }

same_step : (p : Point) (a : List Node) (q : Point) (front more : List TokenParts) → p.rest ≡ front ++ q.rest → (g : Goes p a q) → g.step.taken ≡ length front → kind_next more ≡ kind_next q.rest → Goes (with_rest p (front ++ more)) a (with_rest q more)
same_step p a q front more there g taken kinds = same_go p a q front more (front_kind front more q.rest kinds ∙ sym (ap kind_next there)) g taken

abbrev pub front_of : (p : Point) → Step → List TokenParts
front_of p m = take m.taken p.rest

pub takes : (n : ℕ) (p : Point) (made : List Node) (q : Point) → Leads n p made q → Takes n p made q
takes zero p made q h =
    record {
      front = [];
      there = ap (λ x. x.rest) (sym h.0);
      number = ap (λ x. x.number) h.0 ∙ omega arith;
      same = λ more _. (ap (λ x. with_rest x more) h.0, h.1);
    }
takes (suc n) p made q h =
    let r : Point = h.0 in
    let g : Goes p h.1 r = h.3 in
    let later : Takes n r h.2 q = takes n r h.2 q h.4 in
    let m : Step = g.step in
    let f : List TokenParts = front_of p m in
    let fits : m.taken ≤ length p.rest = step_fits p.symbols p.rest m g.there in
    let long : length f ≡ m.taken = length-take-le m.taken p.rest fits in
    let after_rest : r.rest ≡ drop m.taken p.rest = ap (λ x. x.rest) g.next in
    let there : p.rest ≡ f ++ r.rest = sym (take-append-drop m.taken p.rest) ∙ ap (λ x. f ++ x) (sym after_rest) in
    let number : r.number ≡ p.number + length f = ap (λ x. x.number) g.next ∙ ap (λ x. p.number + x) (sym long) in
    record {
      front = f ++ later.front;
      there = there ∙ ap (λ x. f ++ x) later.there ∙ sym (append_assoc f later.front q.rest);
      number = omega (arith, later.number, number, length-append f later.front);
      same = λ more kinds.
          let between : kind_next (later.front ++ more) ≡ kind_next r.rest = front_kind later.front more q.rest kinds ∙ sym (ap kind_next later.there) in
          let first : Goes (with_rest p (f ++ (later.front ++ more))) h.1 (with_rest r (later.front ++ more)) = same_step p h.1 r f (later.front ++ more) there g (sym long) between in
          let first' : Goes (with_rest p (f ++ later.front ++ more)) h.1 (with_rest r (later.front ++ more)) = subst (λ x. Goes (with_rest p x) h.1 (with_rest r (later.front ++ more))) (sym (append_assoc f later.front more)) first in
          (with_rest r (later.front ++ more), h.1, h.2, first', later.same more kinds, h.5);
    }

kind_there : (w : Word) → kind_of w ≢ kind.End
kind_there (word.Name n) h = cc
kind_there (word.Number n) h = number_there (nat_lt n (2 ^ 63)) h where
  number_there : (b : Bool) → cond b kind.Number kind.TwoTo63 ≢ kind.End
  number_there true h = cc
  number_there false h = cc
kind_there (word.Mark m) h = cc

none_next : (ts : List TokenParts) → kind.End ≡ kind_next ts → ts ≡ []
none_next [] h = refl
none_next (t ∷ ts) h = absurd (kind_there t.word (sym h))

-- where a derivation is stuck, no source goes on with a token of that kind
pub none_begins : (ts : List TokenParts) (n : ℕ) (stop : Stop) → IsStuckAt ts n stop → NoneBegins ts n
none_begins ts n stop s more nodes kinds h =
    let t : Takes s.steps (start ts) s.made (point s.symbols n (drop n ts)) = takes s.steps (start ts) s.made (point s.symbols n (drop n ts)) s.leads in
    let long : n ≡ length t.front = omega (arith, t.number) in
    let front : t.front ≡ take n ts = sym (ap (λ x. take x ts) long ∙ ap (take (length t.front)) t.there ∙ take-append_seam t.front (drop n ts)) in
    let leads : Leads s.steps (start (take n ts ++ more)) s.made (point s.symbols n more) = subst (λ x. Leads s.steps (start (x ++ more)) s.made (point s.symbols n more)) front (t.same more kinds) in
    let stuck : step_from s.symbols (kind_next more) ≡ Err stop = ap (step_from s.symbols) kinds ∙ s.stuck in
    let e : Same (point s.symbols n more) (ended h.number) s.made nodes = ends_once s.steps h.steps (start (take n ts ++ more)) s.made nodes (point s.symbols n more) (ended h.number) leads h.leads (stop, stuck) (_, refl) in
    let empty : more ≡ [] = ap (λ x. x.rest) e.there in
    s.unfinished (ap (λ x. x.symbols) e.there) (none_next (drop n ts) (sym (ap kind_next empty) ∙ kinds))
