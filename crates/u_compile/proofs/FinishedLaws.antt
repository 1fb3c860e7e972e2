-- The finished block of a graph whose statements and links lie well is determinate.
use Rattle.std.proofs.Common.{ℕ, ◌+◌, ◌≤◌, sym, ap, subst, arith, List, [], ◌∷◌, length}
use Rattle.std.proofs.lemmas.List.{length-append}
use Rattle.u_program.specs.Parts.{BlockParts}
use Rattle.u_determinate.specs.Determinate.{IsDeterminateBlock}
use Rattle.u_compile.specs.Graphs.{GraphParts, IsGraph}
use Rattle.u_compile.specs.Fanning.{FansOut, none, one_more, IsFinished}
use Rattle.u_compile.specs.Scoped.{Layout, IsScoped}
use Rattle.u_compile.proofs.Fans.{pass_of, with_pass_is}
use Rattle.u_compile.proofs.BlockLaws.{length-statements_of}
use Rattle.u_compile.proofs.ScopedFans.{fanned_layout, scoped_fan}
use Rattle.u_compile.proofs.DeterminateLaws.{determinate}

-- with more `pass` statements a graph is one, and lies well, in a layout of its own
pub fans_scoped : (y : Layout) (g h : GraphParts) → IsGraph g → IsScoped y g → FansOut g h → length h.statements ≤ 999 → IsGraph h × ((z : Layout) × IsScoped z h)
fans_scoped y g h is s none few = (is, (y, s))
fans_scoped y g h is s (one_more i o d f at many other) few =
    let l = length-append i.statements (pass_of d i ∷ []) in
    let r = fans_scoped y g i is s f (omega (arith, l, few)) in
    (with_pass_is i o d r.0 (omega (arith, l, few)) at many, (fanned_layout r.1.0 o d (length i.statements + 1), scoped_fan r.1.0 i r.0 r.1.1 o d at many))

pub finished_determinate : (name : List ℕ) (g : GraphParts) (b : BlockParts) (y : Layout) → IsGraph g → IsFinished name g b → IsScoped y g → IsDeterminateBlock b
finished_determinate name g b y is f s =
    let l = length-statements_of f.fanned.links f.fanned.statements in
    let e = ap (λ (v : BlockParts). length v.statements) f.block in
    let few = f.within.few in
    let r = fans_scoped y g f.fanned is s f.fans (omega (arith, l, e, few)) in
    subst IsDeterminateBlock (sym f.block) (determinate r.1.0 f.fanned r.0 r.1.1 name)
