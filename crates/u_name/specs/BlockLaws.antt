-- A law that stands here because the model of BlockName cites it: a name that is laid out is the one that lies there.
use Rattle.std.specs.Prelude.{◌≡◌, ℕ, ◌-◌, ◌≤◌, List, ◌++◌, length, take, drop}
use Rattle.std.proofs.Common.{arith, ap, ◌∙◌}
use Rattle.std.proofs.Math.ListN.{replicate}
use Rattle.std.proofs.lemmas.List.{length-take, take-append-drop}
use Rattle.u_name.specs.declared.block_name.BlockName.TheInside.{Inside}
use Rattle.u_name.specs.Block.{name_of, LiesWell, laid_out}

filled : (bytes : List ℕ) (len : ℕ) → length bytes ≡ 16 → len ≤ 16 → drop len bytes ≡ replicate (16 - len) 0 → length (take len bytes) ≡ len
filled bytes len whole fits rest = omega (arith, length-take {A = ℕ})

abbrev pub inside : List ℕ → ℕ → Inside
inside bytes len = record { bytes = bytes; len = len }

pub laid_out-name_of : (b : Inside) → LiesWell b → laid_out (name_of b) ≡ b
laid_out-name_of b w =
    let n = filled b.bytes b.len w.whole w.fits w.rest in
    let e : take b.len b.bytes ++ replicate (16 - length (take b.len b.bytes)) 0 ≡ b.bytes = rw n (rw (← w.rest) (take-append-drop b.len b.bytes)) in
    ap (λ xs. inside xs (length (take b.len b.bytes))) e ∙ ap (λ m. inside b.bytes m) n
