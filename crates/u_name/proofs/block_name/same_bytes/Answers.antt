use Rattle.std.specs.Prelude.{ℕ, List}
use Rattle.std.specs.Int.{from_be_bytes, w128}
use Rattle.std.proofs.Common.{◌∙◌, sym, ap}
use Rattle.std.proofs.lemmas.Bool.{eqb-true, eq-eqb}
use Rattle.u_name.proofs.SixteenBytes.{same_sixteen}
use Rattle.u_name.proofs.block_name.same_bytes.Goals as goal

pub returns : goal.returns
returns c =
    let left = c.from_be_bytes.result in
    let right = c.from_be_bytes-2.result in (
      λ h. same_sixteen c.args.left.now c.args.right.now c.told-left c.told-right c.fits-left c.fits-right (sym c.from_be_bytes.ensures ∙ eqb-true left right h ∙ c.from_be_bytes-2.ensures),
      λ e. eq-eqb left right (c.from_be_bytes.ensures ∙ ap (λ (xs : List ℕ). from_be_bytes w128 xs) e ∙ sym c.from_be_bytes-2.ensures),
    )
