use Rattle.std.proofs.Common.{ap, ◌∙◌, inl}
use Rattle.u_name.specs.Name.{Activity}
use Rattle.u_value.specs.declared.value.Value.{Value}
use Rattle.u_match.specs.Keys.{read}
use Rattle.u_match.proofs.Noted.{notes_none, notes_one}
use Rattle.u_match.proofs.noting_reads.note_read.Goals as goal

pub returns-in-None-clause-ok : goal.returns-in-None-clause-ok
returns-in-None-clause-ok c = notes_none c.args.activity.now c.args.structure.now c.args.index.now c.in_ok-named.named c.args.reads.now c.in-None.is c.in_ok-named.ensures

pub returns-clause-ok : goal.returns-clause-ok
returns-clause-ok c =
    notes_one c.args.activity.now c.args.structure.now c.args.index.now c.in_ok-named.named c.in-Some.cell (read c.in_ok-name.field-0 c.in_ok-copy.field-0 c.in_ok-copy-2.field-0) c.args.reads.now c.insert.new.self c.in-Some.is c.in_ok-named.ensures
    (ap (λ (a : Activity). read a c.in_ok-copy.field-0 c.in_ok-copy-2.field-0) c.in_ok-name.ensures
    ∙ (ap (λ (v : Value). read c.args.activity.now v c.in_ok-copy-2.field-0) c.in_ok-copy.ensures
    ∙ ap (λ (v : Value). read c.args.activity.now c.args.structure.now v) c.in_ok-copy-2.ensures))
    c.in_ok-insert.ensures.ok

pub returns-clause-kept : goal.returns-clause-kept
returns-clause-kept c x m = (c.in_ok-insert.ensures.ok x).1 (inl m)
