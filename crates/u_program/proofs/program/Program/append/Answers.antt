use Rattle.std.proofs.Common.{◌∙◌, ap, ◌++◌, ◌∷◌, []}
use Rattle.u_base.specs.Spaced.{ended}
use Rattle.u_program.specs.Text.{header, blocks_lines}
use Rattle.u_program.proofs.Written.{whole_text}
use Rattle.u_program.proofs.program.Program.append.Goals as goal

pub returns-clause-ok : goal.returns-clause-ok
returns-clause-ok c =
    let v = c.version-version.result in
    c.in_ok-push_blocks.ensures.ok
    ∙ ap (λ t. t ++ ended (blocks_lines v c.blocks-blocks.result.now)) c.in_ok-push_header.ensures.ok
    ∙ ap (λ p. (c.args.out.now.items ++ (header v ++ (10 ∷ []))) ++ ended (blocks_lines v p)) c.blocks-blocks.ensures.blocks
    ∙ ap (λ v. (c.args.out.now.items ++ (header v ++ (10 ∷ []))) ++ ended (blocks_lines v c.args.self.now.blocks)) c.version-version.ensures.version
    ∙ whole_text c.args.self.now.version c.args.out.now.items c.args.self.now.blocks
