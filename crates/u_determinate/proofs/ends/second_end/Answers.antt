use Rattle.std.proofs.Common.{◌≡◌, ℕ, ◌+◌, refl, sym, ap, ◌∙◌, arith, List, length, Some, below_more, subst, false}
use Rattle.std.specs.Prelude.{slice_get}
use Rattle.std.proofs.lemmas.Option.{slice_get_read}
use Rattle.u_program.specs.Parts.{StatementParts}
use Rattle.u_program.specs.declared.program.Kind.TheVariants.{End}
use Rattle.u_check.specs.Kinds.{is_end}
use Rattle.std.proofs.Common.{Bool}
use Rattle.u_determinate.specs.Breaches.{NoEndBefore, IsNoLaterEnd}
use Rattle.u_determinate.proofs.EndFacts.{Ended, none_before, passed, passed_on, ended_first, ended, ended_again}
use Rattle.u_determinate.proofs.Tests.{each_statement, no_statement}
use Rattle.u_determinate.proofs.ends.second_end.Goals as goal
use Rattle.u_determinate.proofs.ends.second_end.Goals.{then-is_end+else-ended, else-is_end}

pub loop-i-init : goal.loop-i-init
loop-i-init c =
    let ss = c.args.block.now.statements in
    (no_statement ss (λ m s. s.kind ≡ End → NoEndBefore ss m), none_before ss)

pub loop-i-preserved : goal.loop-i-preserved
loop-i-preserved c =
    let ss = c.args.block.now.statements in
    let i = c.loop-i.i in
    let s = c.statement-item.result in
    let at : slice_get ss i ≡ Some s = subst (λ (ss : List StatementParts). slice_get ss i ≡ Some s) c.statements-statement-items.ensures (slice_get_read c.statements-statement-items.result.now _ i s refl (omega arith) c.statement-item.is) in
    let kind : c.is_end.result ≡ is_end s.kind = c.is_end.ensures ∙ ap is_end c.kind.ensures in
    elim c.if-is_end.branch [
      | then-is_end+else-ended w ↦
          let before : Ended ss (i + 1) false = subst (λ (b : Bool). Ended ss (i + 1) b) w.if-ended.false c.loop-i.invariant.1 in
          (below_more (λ (m : ℕ). IsNoLaterEnd ss m) (i + 1) c.loop-i.invariant.0 (ended_first ss i s at before), subst (λ (b : Bool). Ended ss (i + 1 + 1) b) (sym w.ended-is) (ended ss i s at (sym kind ∙ w.if-is_end.true)))
      | else-is_end w ↦
          let no_end : is_end s.kind ≡ false = sym kind ∙ w.if-is_end.false in
          (below_more (λ (m : ℕ). IsNoLaterEnd ss m) (i + 1) c.loop-i.invariant.0 (passed ss i s at no_end), subst (λ (b : Bool). Ended ss (i + 1 + 1) b) (sym w.ended-is) (passed_on ss i s at c.loop-i.ended no_end c.loop-i.invariant.1))
    ]

pub returns : goal.returns
returns c =
    let ss = c.args.block.now.statements in
    let long = ap length c.statements-statement-items.ensures in
    each_statement ss (λ m s. s.kind ≡ End → NoEndBefore ss m) c.loop-i.i (omega (arith, long)) c.loop-i.invariant.0

pub returns-then-ended : goal.returns-then-ended
returns-then-ended c =
    let ss = c.args.block.now.statements in
    let i = c.loop-i.i in
    let s = c.statement-item.result in
    let at : slice_get ss i ≡ Some s = subst (λ (ss : List StatementParts). slice_get ss i ≡ Some s) c.statements-statement-items.ensures (slice_get_read c.statements-statement-items.result.now _ i s refl (omega arith) c.statement-item.is) in
    let kind : c.is_end.result ≡ is_end s.kind = c.is_end.ensures ∙ ap is_end c.kind.ensures in
    (ended_again ss i s at (sym kind ∙ c.if-is_end.true) (subst (λ (b : Bool). Ended ss (i + 1) b) c.if-ended.true c.loop-i.invariant.1), c.loop-i.invariant.0)
