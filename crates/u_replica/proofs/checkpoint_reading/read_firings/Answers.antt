use Rattle.std.proofs.Common.{◌≡◌, ◌+◌, ◌++◌, ◌∷◌, [], ◌∙◌, ap, sym, subst, arith, refl, append-nil, append_assoc, length, length-append, Bool, true, false, ◌↔◌, IsTrue}
use Rattle.u_rule.specs.EntryOrder.{FiringList}
use Rattle.u_delta.specs.Lines.{lines_behind}
use Rattle.u_replica.specs.declared.checkpoint.CheckpointError.TheVariants as errors
use Rattle.u_replica.specs.CheckpointText.{count_line, begun_lines}
use Rattle.u_replica.specs.CheckpointReading.{AreRead, IsAnswer}
use Rattle.u_replica.specs.Checkpoints.{IsTornIn, IsCheckpointErrorIn}
use Rattle.u_replica.specs.FiredLines.{behind}
use Rattle.u_replica.proofs.CheckpointSteps.{next_long, next_rest, next_bad, one_read, text_read, text_closed}
use Rattle.u_replica.proofs.checkpoint_reading.read_firings.Goals as goal

not_so : (b : Bool) (P : Type 0) → b ≡ false → (IsTrue b ↔ P) → P → ⊥
not_so b P f i p = let t : b ≡ true = i.1 p in cc

pub loop-line-init : goal.loop-line-init
loop-line-init c = λ head fs counted read. rw (c.new-firings.ensures.items, append-nil fs) (read, refl)

pub returns-in-TooLong : goal.returns-in-TooLong
returns-in-TooLong c = λ head fs counted read version may.
    let i = c.loop-line.invariant head fs counted read in
    let gs = fs ++ c.loop-line.firings.items in
    let n = c.args.before + c.len.result in
    subst (λ t. IsCheckpointErrorIn version t (errors.TooLong (n + 2))) (sym i.1)
    (next_long version head may gs c.loop-line.rest.now n i.0 (omega (arith, counted, length-append fs c.loop-line.firings.items, c.len.ensures)) c.in-TooLong.ensures)

pub returns-in-Rest : goal.returns-in-Rest
returns-in-Rest c = λ head fs counted read version may.
    let i = c.loop-line.invariant head fs counted read in
    let gs = fs ++ c.loop-line.firings.items in
    rw c.new.ensures (subst (λ t. IsTornIn version t gs) (sym i.1) (next_rest version head may gs c.loop-line.rest.now i.0 c.in-Rest.ensures))

pub returns-then-is_count_line : goal.returns-then-is_count_line
returns-then-is_count_line c = λ head fs counted read version may.
    let i = c.loop-line.invariant head fs counted read in
    let gs = fs ++ c.loop-line.firings.items in
    let count = c.args.before + c.len.result in
    let n : count ≡ length gs = omega (arith, counted, length-append fs c.loop-line.firings.items, c.len.ensures) in
    let closes = text_closed head gs c.loop-line.rest.now c.in-Line.line.now c.in-Line.others.now c.in-Line.ensures.0 (c.is_count_line.ensures.0 c.if-is_count_line.true ∙ ap count_line n) in
    subst (λ t. IsAnswer version t (behind fs c.closed.result)) (sym (i.1 ∙ closes)) (c.closed.ensures head fs counted i.0 version may)

pub returns-in-Err : goal.returns-in-Err
returns-in-Err c = λ head fs counted read version may.
    let i = c.loop-line.invariant head fs counted read in
    let gs = fs ++ c.loop-line.firings.items in
    let count = c.args.before + c.len.result in
    let n : count ≡ length gs = omega (arith, counted, length-append fs c.loop-line.firings.items, c.len.ensures) in
    let none = not_so c.is_count_line.result (c.in-Line.line.now ≡ count_line count) c.if-is_count_line.false c.is_count_line.ensures in
    subst (λ t. IsCheckpointErrorIn version t c.in-Err.error) (sym i.1)
    (next_bad version head may gs c.loop-line.rest.now c.in-Line.line.now c.in-Line.others.now count c.in-Err.error i.0 n c.in-Line.ensures.0 (λ e. none (e ∙ ap count_line (sym n))) c.in-Err.ensures)

pub loop-line-preserved : goal.loop-line-preserved
loop-line-preserved c = λ head fs counted read.
    let i = c.loop-line.invariant head fs counted read in
    let gs = fs ++ c.loop-line.firings.items in
    let f = c.in-Ok.firing in
    let ahead = c.in-Line.ensures.0 in
    let e : fs ++ c.push.new.self.items ≡ gs ++ f ∷ [] = ap (λ (xs : FiringList). fs ++ xs) c.in_ok-push-in-Ok.ensures.items ∙ sym (append_assoc fs c.loop-line.firings.items (f ∷ [])) in
    subst (λ (xs : FiringList). AreRead head xs × (lines_behind (begun_lines head fs) c.args.bytes.now ≡ lines_behind (begun_lines head xs) c.in-Line.others.now)) (sym e)
    (one_read head gs f c.in-Line.line.now i.0 ahead.1 c.in-Ok.ensures, i.1 ∙ text_read head gs f c.loop-line.rest.now c.in-Line.line.now c.in-Line.others.now ahead c.in-Ok.ensures)
