-- Where a token lies, by the statement that its activity names.
use Rattle.std.proofs.Common.{◌≡◌, ◌≤◌, ◌∙◌, true, Some, None, List, sym, subst}
use Rattle.u_program.specs.Parts.{StatementParts, BlockParts}
use Rattle.u_check.specs.Kinds.{ports_of}
use Rattle.u_rule.specs.Parts.{TokenParts}
use Rattle.u_rule.specs.Fits.{statement_of, fits_at, IsPlaced}

module _ (p : List BlockParts) (t : TokenParts) where
  -- it lies nowhere where there is no statement
  pub of_none : statement_of p t.activity.block t.activity.statement ≡ None → IsPlaced p t → ⊥
  of_none none w = let e : None ≡ Some w.it = sym none ∙ w.stands in absurd (cc)

  pub placed : (s : StatementParts) → statement_of p t.activity.block t.activity.statement ≡ Some s → 1 ≤ t.port → t.port ≤ ports_of s.kind → fits_at p s.region t.activity ≡ true → IsPlaced p t
  placed s e l u f = record { it = s; stands = e; fit = f; port = (l, u) }

  some_same : (s r : StatementParts) → Some s ≡ Some r → s ≡ r
  some_same s r e = cc

  pub fits_there : (s : StatementParts) → statement_of p t.activity.block t.activity.statement ≡ Some s → IsPlaced p t → fits_at p s.region t.activity ≡ true
  fits_there s e w = let q : w.it ≡ s = some_same w.it s (sym w.stands ∙ e) in subst (λ (x : StatementParts). fits_at p x.region t.activity ≡ true) q w.fit

  pub within_ports : (s : StatementParts) → statement_of p t.activity.block t.activity.statement ≡ Some s → IsPlaced p t → t.port ≤ ports_of s.kind
  within_ports s e w = let q : w.it ≡ s = some_same w.it s (sym w.stands ∙ e) in subst (λ (x : StatementParts). t.port ≤ ports_of x.kind) q w.port.1
