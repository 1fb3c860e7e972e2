use Rattle.std.proofs.Common.{◌↔◌, ◌∷◌, [], IsTrue, subst}
use Rattle.std.specs.Prelude.{Contains}
use Rattle.u_rule.specs.declared.entry.Entry.{Entry}
use Rattle.u_rule.specs.Structures.{cell_named}
use Rattle.u_match.proofs.Finding.{reads_named, reads_none}
use Rattle.u_match.proofs.enabling.has_write.Goals as goal

pub returns-in-None : goal.returns-in-None
returns-in-None c =
    let n = c.in-None.is in
    reads_none (Contains c.args.history.now) (cell_named (c.args.structure.now ∷ c.args.index.now ∷ [])) c.args.by.now (λ cell e. let h = (c.in_ok-found.ensures cell).1 e in cc)

pub returns-in_ok-write-in-Some : goal.returns-in_ok-write-in-Some
returns-in_ok-write-in-Some c =
    reads_named (Contains c.args.history.now) (cell_named (c.args.structure.now ∷ c.args.index.now ∷ [])) c.in-Some.cell c.args.by.now c.contains.result ((c.in_ok-found.ensures c.in-Some.cell).0 c.in-Some.is)
    (subst (λ (e : Entry). IsTrue c.contains.result ↔ Contains c.args.history.now e) c.in_ok-write-in-Some.ensures c.contains.ensures)
