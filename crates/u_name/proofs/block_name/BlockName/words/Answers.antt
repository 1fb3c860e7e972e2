use Rattle.std.specs.Prelude.{◌≡◌}
use Rattle.std.proofs.Common.{◌∙◌, ap, refl}
use Rattle.u_name.specs.Words.{block_number}
use Rattle.u_name.proofs.BlockNumbers.{number_of_bytes}
use Rattle.u_name.proofs.block_name.BlockName.words.Goals as goal

pub returns : goal.returns
returns c =
    let e : c.from_be_bytes-number.result ≡ block_number c.args.self.now =
    c.from_be_bytes-number.ensures ∙ number_of_bytes c.self.inside c.self.invariant ∙ ap block_number c.self.view_is in
    rw e refl
