-- The statements that take the arguments of a call: `begin`, and each `param` that is counted.
use Rattle.std.proofs.Common.{◌≡◌, ℕ, zero, suc, ◌+◌, ◌<◌, refl, ap, sym, ◌∙◌, arith, true, false, List, length, Some}
use Rattle.std.proofs.lemmas.Option.{slice_get_within}
use Rattle.u_name.specs.Name.{Activity}
use Rattle.u_program.specs.declared.program.Kind.TheVariants.{Param}
use Rattle.u_program.specs.Parts.{StatementParts, BlockParts}
use Rattle.u_check.specs.Kinds.{is_back, comes_from_outside}
use Rattle.u_check.specs.Rules.{statement_at, IsChecked}
use Rattle.u_check.specs.Jobs.{JobParts}
use Rattle.u_check.proofs.Blocks.{named_member}
use Rattle.u_rule.specs.Parts.{TokenParts}
use Rattle.u_rule.specs.Parameters.{parameters_in}
use Rattle.u_rule.specs.declared.firing.Firing.{Firing}
use Rattle.u_rule.proofs.ParameterLaws.{further}
use Rattle.u_determinate.proofs.Named.{named}
use Rattle.u_determinate.proofs.Checked.{keeps}
use Rattle.u_determinate.proofs.Givers.{ByApply}

-- of two statements that are there alike
some_same : (x y : StatementParts) → Some x ≡ Some y → x ≡ y
some_same x y e = cc

module _ (job : JobParts) (sound : IsChecked job.program.blocks) (name : List ℕ) (b : BlockParts) (q : named job name ≡ Some b) where
  -- the statement of a parameter takes its value from a call, and not the result of one
  pub takes_parameter : (i : ℕ) → i < parameters_in b.statements → (s : StatementParts) → statement_at b.statements (1 + i) ≡ Some s → (comes_from_outside s.kind ≡ true) × (is_back s.kind ≡ false)
  takes_parameter zero h s e =
      let k = (keeps job sound name b q 1 s e).begin_first refl in
      (ap comes_from_outside k, ap is_back k)
  takes_parameter (suc i) h s e =
      let m = (named_member job.program.blocks name b q).0 in
      let w = further job.program.blocks sound b m (suc (suc i)) (omega arith) (omega (arith, h)) in
      let number : 1 + suc i ≡ suc (suc i) = omega arith in
      let there : statement_at b.statements (1 + suc i) ≡ Some w.it.it = ap (statement_at b.statements) number ∙ w.it.stands in
      let same = some_same s w.it.it (sym e ∙ there) in
      let k : s.kind ≡ Param w.kind = ap (λ (x : StatementParts). x.kind) same ∙ w.is in
      (ap comes_from_outside k, ap is_back k)

-- so does the statement that an argument goes to
pub takes_argument : (job : JobParts) → IsChecked job.program.blocks → (f : Firing) (t : TokenParts) (b : ByApply job f t) → (name : List ℕ) (p : BlockParts) → named job name ≡ Some p → (n : ℕ) (s : StatementParts) → statement_at p.statements n ≡ Some s → t.activity.block ≡ name → t.activity.statement ≡ n → (comes_from_outside s.kind ≡ true) × (is_back s.kind ≡ false)
takes_argument job sound f t b name p q n s e block statement =
    let within : b.place < length b.rest = slice_get_within b.rest b.place t.value b.argument in
    let names : b.block ≡ name = sym (ap (λ (a : Activity). a.block) b.activity) ∙ block in
    let number : 1 + b.place ≡ n = sym (ap (λ (a : Activity). a.statement) b.activity) ∙ statement in
    let callee : b.callee ≡ p = (let i = b.named in let j = q in cc) in
    let there : statement_at b.callee.statements (1 + b.place) ≡ Some s = ap (λ (x : BlockParts). statement_at x.statements (1 + b.place)) callee ∙ ap (statement_at p.statements) number ∙ e in
    takes_parameter job sound b.block b.callee b.named b.place (omega (arith, within, b.count)) s there
