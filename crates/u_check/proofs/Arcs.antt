-- Statements by their numbers, and the arcs that leave them.
use Rattle.std.proofs.Common.{◌≡◌, ℕ, suc, ◌+◌, ◌-◌, ◌≤◌, inl, inr, ◌⊎◌, refl, sym, ap, ◌∙◌, arith, eq-eqb, Bool, true, false, ◌==◌, List, [], ◌∷◌, Option, Some}
use Rattle.std.specs.Prelude.{slice_get}
use Rattle.std.specs.List.{list_all}
use Rattle.std.proofs.lemmas.Bool.{false≢true, and_parts, ne_eqb, cases_Bool}
use Rattle.std.proofs.lemmas.List.Sums.{AllPass-from_list_all}
use Rattle.std.proofs.lemmas.List.Elements.{All-contains}
use Rattle.u_program.specs.declared.program.Destination.{Destination}
use Rattle.u_program.specs.Parts.{StatementParts, BlockParts}
use Rattle.u_check.specs.declared.rule.Rule.{Rule}
use Rattle.u_check.specs.Rules.{statement_at, arc, list_of, destination_in, itself_keeps, destination_keeps, statement_keeps, ArcBreaks}
use Rattle.u_check.proofs.Blocks.{member_at}
use Rattle.u_check.proofs.Lists.{statement_in_parts}

-- the statement of number i + 1 stands at place i
pub numbered : (ss : List StatementParts) (i : ℕ) → statement_at ss (i + 1) ≡ slice_get ss i
unfolding statement_at
numbered ss i =
    let n : (i + 1 == 0) ≡ false = ne_eqb (i + 1) 0 (λ h. omega arith) in
    let e : i + 1 - 1 ≡ i = omega arith in
    rw n (ap (slice_get ss) e)

-- a statement that has a number has one from 1, and stands at the place before it
pub has_number : (ss : List StatementParts) (n : ℕ) (s : StatementParts) → statement_at ss n ≡ Some s → (1 ≤ n) × (slice_get ss (n - 1) ≡ Some s)
unfolding statement_at
has_number ss n s e = at (n == 0) refl
  where
    at : (z : Bool) → (n == 0) ≡ z → (1 ≤ n) × (slice_get ss (n - 1) ≡ Some s)
    at true q = let k = rw q at e in cc
    at false q =
        let k : slice_get ss (n - 1) ≡ Some s = rw q at e in
        let l : n ≡ 0 → ⊥ = λ z. false≢true (sym q ∙ eq-eqb n 0 z) in
        (omega arith, k)

-- the first of a list that does not pass, and its place
first_failing : {X : Type 0} (test : X → Bool) (xs : List X) → list_all test xs ≡ false → (i : ℕ) × (x : X) × (slice_get xs i ≡ Some x) × (test x ≡ false)
first_failing test [] e = absurd (false≢true (sym e))
first_failing test (x ∷ xs) e =
    elim (cases_Bool (test x)) [
      | inl t ↦ let r = first_failing test xs (rw t at e) in (suc r.0, r.1, r.2, r.3)
      | inr f ↦ (0, x, refl, f)
    ]

module _ (rule : Rule) (p : List BlockParts) (b : BlockParts) (n : ℕ) (s : StatementParts) (stands : statement_at b.statements n ≡ Some s) where
  keeps : Destination → Bool
  keeps d = destination_keeps rule b s d

  -- an arc whose destination does not keep the rule
  failing : (on_false : Bool) → list_all (λ (d : Destination). destination_keeps rule b s d) (list_of s on_false) ≡ false → ArcBreaks rule b n s
  failing on_false e =
      let r = first_failing (λ (d : Destination). destination_keeps rule b s d) (list_of s on_false) e in
      record {
        arc = arc n on_false r.0;
        from = refl;
        to = r.1;
        leads = ap (λ (o : Option StatementParts). destination_in o (arc n on_false r.0)) stands ∙ r.2;
        broken = r.3;
      }

  -- a statement that does not keep the rule breaks it itself, or one of its arcs does
  pub breaks_somewhere : statement_keeps rule p b n s ≡ false → (itself_keeps rule p b n s ≡ false) ⊎ ArcBreaks rule b n s
  breaks_somewhere e =
      elim (cases_Bool (itself_keeps rule p b n s)) [
        | inl t ↦
            let f = rw t at (sym (statement_in_parts rule p b n s) ∙ e) in
            elim (cases_Bool (list_all (λ (d : Destination). destination_keeps rule b s d) s.to)) [
              | inl u ↦ inr (failing true (rw u at f))
              | inr u ↦ inr (failing false u)
            ]
        | inr f ↦ inl f
      ]

  -- where it keeps the rule, neither does
  pub breaks_nowhere : statement_keeps rule p b n s ≡ true → (itself_keeps rule p b n s ≡ false) ⊎ ArcBreaks rule b n s → ⊥
  breaks_nowhere e w =
      let k = and_parts (itself_keeps rule p b n s) _ (sym (statement_in_parts rule p b n s) ∙ e) in
      let l = and_parts (list_all (λ (d : Destination). destination_keeps rule b s d) s.to) (list_all (λ (d : Destination). destination_keeps rule b s d) s.otherwise) k.1 in
      elim w [ inl f ↦ false≢true (sym f ∙ k.0) | inr a ↦ arc_keeps l.0 l.1 a ]
    where
      kept : (ds : List Destination) (i : ℕ) (d : Destination) → list_all (λ (d : Destination). destination_keeps rule b s d) ds ≡ true → slice_get ds i ≡ Some d → destination_keeps rule b s d ≡ true
      kept ds i d h at = All-contains (λ (y : Destination). destination_keeps rule b s y ≡ true) ds d (AllPass-from_list_all (λ (d : Destination). destination_keeps rule b s d) ds h) (member_at ds i d at)

      arc_keeps : list_all (λ (d : Destination). destination_keeps rule b s d) s.to ≡ true → list_all (λ (d : Destination). destination_keeps rule b s d) s.otherwise ≡ true → ArcBreaks rule b n s → ⊥
      arc_keeps on_true on_false a =
          let there : destination_in (Some s) a.arc ≡ Some a.to = ap (λ (o : Option StatementParts). destination_in o a.arc) (sym stands ∙ ap (statement_at b.statements) (sym a.from)) ∙ a.leads in
          false≢true (sym a.broken ∙ by (a.arc.on_false) refl there)
        where
          by : (f : Bool) → a.arc.on_false ≡ f → slice_get (list_of s a.arc.on_false) a.arc.place ≡ Some a.to → destination_keeps rule b s a.to ≡ true
          by true q at = kept s.otherwise a.arc.place a.to on_false (rw q at at)
          by false q at = kept s.to a.arc.place a.to on_true (rw q at at)
