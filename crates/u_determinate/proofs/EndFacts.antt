-- The second `end` of a block.
use Rattle.std.proofs.Common.{◌≡◌, ℕ, ◌+◌, ◌<◌, sym, ap, ◌∙◌, arith, Bool, true, false, List, Some, below_more}
use Rattle.std.specs.Prelude.{slice_get}
use Rattle.u_program.specs.declared.program.Kind.TheVariants.{End}
use Rattle.u_program.specs.Parts.{StatementParts}
use Rattle.u_check.specs.Kinds.{is_end}
use Rattle.u_check.specs.Rules.{statement_at}
use Rattle.u_check.proofs.KindTests.{end_kind}
use Rattle.std.proofs.lemmas.Bool.{false≢true}
use Rattle.u_determinate.specs.Breaches.{NoEndBefore, IsNoLaterEnd}
use Rattle.u_determinate.proofs.NumberFacts.{one_statement, place_number, number_within}

-- an `end` among the first statements
pub record EndBefore (ss : List StatementParts) (n : ℕ) : Type 0 where
  pub number : ℕ
  pub it : StatementParts
  pub before : number < n
  pub stands : statement_at ss number ≡ Some it
  pub kind : it.kind ≡ End

abbrev pub Ended : List StatementParts → ℕ → Bool → Type 0
Ended ss n true = EndBefore ss n
Ended ss n false = NoEndBefore ss n

module _ (ss : List StatementParts) where
  pub none_before : NoEndBefore ss 1
  none_before m t h e k = let w = number_within ss m t e in omega (arith, h, w.0)

  module _ (i : ℕ) (s : StatementParts) (at : slice_get ss i ≡ Some s) where
    -- a statement that is no `end`
    pub passed : is_end s.kind ≡ false → IsNoLaterEnd ss (i + 1)
    passed e t q k =
        let z : s ≡ t = one_statement ss (i + 1) s t (place_number ss i s at) q in
        absurd (false≢true (sym e ∙ ap is_end (ap (λ (x : StatementParts). x.kind) z ∙ k)))

    pub passed_on : (b : Bool) → is_end s.kind ≡ false → Ended ss (i + 1) b → Ended ss (i + 1 + 1) b
    passed_on true e w = record { number = w.number; it = w.it; before = omega (arith, w.before); stands = w.stands; kind = w.kind }
    passed_on false e w = λ m t h q k.
        below_more (λ (m : ℕ). (t : StatementParts) → statement_at ss m ≡ Some t → t.kind ≡ End → ⊥) (i + 1) (λ m l t q k. w m t l q k)
        (λ t q k. let z : s ≡ t = one_statement ss (i + 1) s t (place_number ss i s at) q in false≢true (sym e ∙ ap is_end (ap (λ (x : StatementParts). x.kind) z ∙ k))) m h t q k

    -- the first `end`
    pub ended_first : NoEndBefore ss (i + 1) → IsNoLaterEnd ss (i + 1)
    ended_first w t q k = w

    pub ended : is_end s.kind ≡ true → EndBefore ss (i + 1 + 1)
    ended e = record { number = i + 1; it = s; before = omega arith; stands = place_number ss i s at; kind = end_kind s.kind e }

    -- a later one
    pub ended_again : is_end s.kind ≡ true → EndBefore ss (i + 1) → IsNoLaterEnd ss (i + 1) → ⊥
    ended_again e w asks = asks s (place_number ss i s at) (end_kind s.kind e) w.number w.it w.before w.stands w.kind
