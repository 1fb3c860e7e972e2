use Rattle.std.proofs.Common.{rules, ◌≡◌, sym, ◌∙◌, ap}
use Rattle.u_program.specs.Parts.{ProgramParts, program}
use Rattle.u_program.proofs.Same.{same_by_text}
use Rattle.u_program.proofs.equality.ProgramPartialEq.eq.Goals as goal

pub returns-then-eq : goal.returns-then-eq
returns-then-eq c =
    let left = c.blocks-left.ensures in
    let right = c.blocks-right.ensures in
    let same = c.same_blocks.ensures in
    let v : c.args.self.now.version ≡ c.args.other.now.version = search rules in
    same_by_text c.args.self.now c.args.other.now c.same_blocks.result left.own_limits right.own_limits
    (λ t. ap (λ v. program v c.args.self.now.blocks) v ∙ ap (program c.args.other.now.version) (sym left.blocks ∙ same.0 t ∙ right.blocks), λ e. same.1 (left.blocks ∙ ap (λ (p : ProgramParts). p.blocks) e ∙ sym right.blocks))

pub returns-else-eq : goal.returns-else-eq
returns-else-eq c =
    let left = c.blocks-left.ensures in
    let right = c.blocks-right.ensures in
    let n : c.args.self.now.version ≡ c.args.other.now.version → ⊥ = search rules in
    same_by_text c.args.self.now c.args.other.now c.eq.result left.own_limits right.own_limits
    (λ t. absurd (let f = c.if-eq.false in cc), λ e. absurd (n (ap (λ (p : ProgramParts). p.version) e)))
