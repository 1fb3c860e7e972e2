-- The text of a context stays where it stands, and is found there.
use Rattle.std.proofs.Common.{◌≡◌, ℕ, ◌-◌, ◌≤◌, List, [], ◌∷◌, ◌++◌, length, take, drop, slice_range, refl, ap, ◌∙◌, append_assoc, arith}
use Rattle.std.specs.Prelude.{codes, true}
use Rattle.std.proofs.lemmas.List.{length-append}
use lib.Seq.{take-append_seam, drop-append_seam}
use Rattle.std.specs.Cmp.{Equal-is}
use Rattle.std.specs.Ordering.{eq_by_cmp}
use Rattle.u_name.specs.Context.{Tree}
use Rattle.u_name.specs.ContextOrder.{context_cmp}
use Rattle.u_name.specs.ContextLaws.{context_cmp_ties}
use Rattle.u_name.specs.NameText.{context_text, name_text}
use Rattle.u_rule.specs.FiringText.{behind_context, firing_text}
use Rattle.u_rule.specs.declared.firing.Firing.{Firing}
use Rattle.u_delta.specs.WrittenContexts.{StandsAt}

-- what stands there is the text
pub stands_range : (bytes : List ℕ) (context : Tree) (start end : ℕ) → StandsAt bytes context start end → slice_range bytes start end ≡ context_text context
stands_range bytes context start end s =
    let text = context_text context in
    let many : end - start ≡ length text = omega (arith, s.ends) in
    let from : drop start bytes ≡ text ++ s.behind = (λ i. drop (s.starts i) (s.there i)) ∙ drop-append_seam s.before (text ++ s.behind) in
    (λ i. take (many i) (from i)) ∙ take-append_seam text s.behind

-- of a context that is equal too
pub stands_same : (bytes : List ℕ) (near context : Tree) (start end : ℕ) → StandsAt bytes near start end → eq_by_cmp context_cmp near context ≡ true → slice_range bytes start end ≡ context_text context
stands_same bytes near context start end s e =
    stands_range bytes near start end s ∙ ap context_text (context_cmp_ties near context ((Equal-is (context_cmp near context)).0 e))

-- its places are in order, and within the bytes
pub stands_ordered : (bytes : List ℕ) (context : Tree) (start end : ℕ) → StandsAt bytes context start end → start ≤ end
stands_ordered bytes context start end s = omega (arith, s.ends)

pub stands_within : (bytes : List ℕ) (context : Tree) (start end : ℕ) → StandsAt bytes context start end → end ≤ length bytes
stands_within bytes context start end s =
    let text = context_text context in
    let whole = ap length s.there ∙ length-append s.before (text ++ s.behind) in
    let rest = length-append text s.behind in
    omega (arith, whole, rest, s.starts, s.ends)

-- and it stays there when more is appended
pub stands_on : (bytes more : List ℕ) (context : Tree) (start end : ℕ) → StandsAt bytes context start end → StandsAt (bytes ++ more) context start end
stands_on bytes more context start end s =
    let text = context_text context in
    record {
      before = s.before;
      behind = s.behind ++ more;
      there = ap (λ t. t ++ more) s.there ∙ append_assoc s.before (text ++ s.behind) more ∙ ap (λ t. s.before ++ t) (append_assoc text s.behind more);
      starts = s.starts;
      ends = s.ends;
    }

-- the line of a firing, written with its context first
module _ (o n1 n2 n3 n4 : List ℕ) (f : Firing) (p : n1 ≡ o ++ codes "f ") (q : n2 ≡ n1 ++ context_text f.activity.context) (r : n3 ≡ n2 ++ behind_context f) (s : n4 ≡ n3 ++ (10 ∷ [])) where
  pub line_written : n4 ≡ (o ++ firing_text f) ++ (10 ∷ [])
  unfolding firing_text name_text
  line_written = rw (s, r, q, p) (simp append_assoc)

  pub line_stands : StandsAt n4 f.activity.context (length n1) (length n2)
  line_stands = record {
    before = n1;
    behind = behind_context f ++ (10 ∷ []);
    there = s ∙ ap (λ t. t ++ (10 ∷ [])) (r ∙ ap (λ t. t ++ behind_context f) q) ∙ append_assoc (n1 ++ context_text f.activity.context) (behind_context f) (10 ∷ []) ∙ append_assoc n1 (context_text f.activity.context) (behind_context f ++ (10 ∷ []));
    starts = refl;
    ends = ap length q ∙ length-append n1 (context_text f.activity.context);
  }
