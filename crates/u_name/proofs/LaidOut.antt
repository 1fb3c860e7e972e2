-- A name that is copied into zeros lies as the invariant of BlockName says.
use Rattle.std.specs.Prelude.{◌≡◌, ℕ, ◌-◌, List, ◌++◌, length, drop}
use Rattle.std.proofs.Common.{arith, sym, ap, ◌∙◌, length-append, length-drop, subst}
use Rattle.std.proofs.Math.ListN.{replicate}
use Rattle.std.proofs.lemmas.List.{drop-replicate, length-replicate}
use Rattle.std.proofs.Math.Seq.{drop-append_seam, take-append_seam}
use Rattle.u_name.specs.Block.{LiesWell, IsBlock}
use Rattle.u_name.specs.BlockLaws.{inside}

lies : (name : List ℕ) → IsBlock name → LiesWell (inside (name ++ drop (length name) (replicate 16 0)) (length name))
lies name b =
    let whole : length (name ++ drop (length name) (replicate 16 0)) ≡ 16 = simp (length-append, length-drop, length-replicate) (omega (arith, b.short)) in
    let t = take-append_seam name (drop (length name) (replicate 16 0)) in
    let d = drop-append_seam name (drop (length name) (replicate 16 0)) in
    let r : drop (length name) (replicate 16 0) ≡ replicate (16 - length name) 0 = drop-replicate (length name) 16 0 in
    record {
      whole = whole;
      name = subst IsBlock (sym t) b;
      fits = b.short;
      rest = d ∙ r;
    }

pub lies_well : (bytes name : List ℕ) (len : ℕ) → IsBlock name → len ≡ length name → bytes ≡ name ++ drop len (replicate 16 0) → LiesWell (inside bytes len)
lies_well bytes name len b e f =
    let g : bytes ≡ name ++ drop (length name) (replicate 16 0) = f ∙ ap (λ n. name ++ drop n (replicate 16 0)) e in
    let h : LiesWell (inside bytes (length name)) = subst (λ xs. LiesWell (inside xs (length name))) (sym g) (lies name b) in
    subst (λ n. LiesWell (inside bytes n)) (sym e) h
