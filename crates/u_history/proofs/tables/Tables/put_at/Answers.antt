use Rattle.std.proofs.Common.{◌∙◌, refl, arith}
use Rattle.u_history.specs.Tables.{contents_of}
use Rattle.u_history.proofs.Numbering.{more_is}
use Rattle.u_history.proofs.tables.Tables.put_at.Goals as goal

pub returns-clause-ok : goal.returns-clause-ok
returns-clause-ok c =
    more_is (contents_of c.args.self.now) (contents_of c.put.new.self) c.args.item.now c.args.item.now.activity c.port.result c.in_ok-value.value refl (omega arith) (c.in_ok-value.ensures ∙ c.value.ensures)
    (c.in_ok-added.ensures.ok c.args.item.now.activity c.requires.number)
