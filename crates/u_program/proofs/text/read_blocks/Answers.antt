use Rattle.std.proofs.Common.{rules, arith, List, ℕ, sym, ap, subst, ◌≡◌, ◌≤◌, ◌∷◌, ◌+◌, [], suc, length}
use Rattle.u_program.specs.Text.{header}
use Rattle.u_program.specs.Begun.{part_lines, IsRead}
use Rattle.u_program.specs.Limits.{limits_of}
use Rattle.u_program.proofs.Steps.{completes}
use Rattle.u_program.proofs.Whole.{read_more, truncated_header, truncated_rest, truncated_half, whole_program, begins_header}
use Rattle.u_program.proofs.Refused.{fault_is}
use Rattle.u_program.proofs.Lists.{nothing_is}
use Rattle.u_program.proofs.text.read_blocks.Goals as goal
use Rattle.u_program.proofs.text.read_blocks.Goals.{then-not-is_empty-via-then-not-is_empty, then-not-is_empty-via-else-not-is_empty+then-statements-eq0}

pub returns-in_default : goal.returns-in_default
returns-in_default c = truncated_header c.args.version c.args.bytes.now c.args.after_first.now c.requires.first c.in_default.ensures.cut

pub returns-in-Err : goal.returns-in-Err
returns-in-Err c = rw c.at_line.ensures (fault_is c.args.bytes.now c.args.after_first.now c.in-Some.second.now c.in-Some.after_second.now (header c.args.version ∷ []) c.requires.first c.in-Some.ensures.cut (begins_header c.args.version) c.in-Err.fault c.in-Err.ensures)

pub loop-text-init : goal.loop-text-init
loop-text-init c =
    let r = read_more c.args.bytes.now c.args.after_first.now c.in-Some.second.now c.in-Some.after_second.now (header c.args.version ∷ []) c.requires.first c.in-Some.ensures.cut in
    let p = c.in-Ok.ensures in
    let e : header c.args.version ∷ (c.in-Some.second.now ∷ []) ≡ header c.args.version ∷ part_lines c.args.version c.in-Ok.part.done.items c.in-Ok.part.last = ap (λ t. header c.args.version ∷ t) (sym p.1) in
    let n : 2 ≡ length (header c.args.version ∷ part_lines c.args.version c.in-Ok.part.done.items c.in-Ok.part.last) = ap length e in
    (subst (λ (ls : List (List ℕ)). IsRead c.args.bytes.now ls c.in-Some.after_second.now) e r, p.0, n, omega (arith, c.requires.shorter, c.in-Some.ensures.shorter))

pub returns-in-Err-with_line : goal.returns-in-Err-with_line
returns-in-Err-with_line c =
    let i = c.loop-text.invariant in
    let n : c.loop-text.line + 1 ≡ suc (length (header c.args.version ∷ part_lines c.args.version c.loop-text.part.done.items c.loop-text.part.last)) = omega (arith, i.2) in
    rw c.at_line-in-Err-with_line.ensures (rw n (fault_is c.args.bytes.now c.loop-text.rest.now c.in-Some-cut.text.now c.in-Some-cut.others.now (header c.args.version ∷ part_lines c.args.version c.loop-text.part.done.items c.loop-text.part.last) i.0 c.in-Some-cut.ensures.cut (completes c.args.version limits_of c.loop-text.part.done.items c.loop-text.part.last i.1) c.in-Err-with_line.fault c.in-Err-with_line.ensures))

pub returns-then-not-is_empty : goal.returns-then-not-is_empty
returns-then-not-is_empty c =
    let i = c.loop-text.invariant in
    elim c.then-not-is_empty.branch [
      | then-not-is_empty-via-then-not-is_empty w ↦
          let n : c.loop-text.rest.now ≡ [] → ⊥ = search rules in
          truncated_rest c.args.version c.args.bytes.now c.loop-text.rest.now c.loop-text.part.done.items c.loop-text.part.last i.0 c.in_default-cut.ensures.cut i.1 n
      | then-not-is_empty-via-else-not-is_empty+then-statements-eq0 w ↦
          truncated_half c.args.version c.args.bytes.now c.loop-text.rest.now c.loop-text.part.done.items c.loop-text.part.last i.0 c.in_default-cut.ensures.cut i.1 (search rules)
    ]

pub finish-requires : goal.finish-requires
finish-requires c =
    let i = c.loop-text.invariant in
    let z : length c.loop-text.rest.now ≡ 0 = search rules in
    let e = nothing_is c.loop-text.rest.now z in
    let n : 1 ≤ length c.loop-text.part.last.statements = search rules in
    (whole_program c.args.version c.args.bytes.now c.loop-text.rest.now c.loop-text.part.done.items c.loop-text.part.last i.0 c.in_default-cut.ensures.cut e i.1 n).0

pub returns : goal.returns
returns c =
    let i = c.loop-text.invariant in
    let z : length c.loop-text.rest.now ≡ 0 = search rules in
    let e = nothing_is c.loop-text.rest.now z in
    let n : 1 ≤ length c.loop-text.part.last.statements = search rules in
    let w = whole_program c.args.version c.args.bytes.now c.loop-text.rest.now c.loop-text.part.done.items c.loop-text.part.last i.0 c.in_default-cut.ensures.cut e i.1 n in
    rw c.in_ok-finish.ensures (w.0, w.1)
