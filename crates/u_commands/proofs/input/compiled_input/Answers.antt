use Rattle.u_commands.proofs.input.compiled_input.Goals as goal

pub returns-in-Ok : goal.returns-in-Ok
returns-in-Ok c =
    let e = c.in-Ok.ensures in
    rw (c.into_parts-checked.ensures.program, c.into_parts-checked.ensures.origins)
    (record { made = e.made; procedures = e.procedures; version = e.version; checked = e.checked; determinate = e.determinate; each = e.each })
