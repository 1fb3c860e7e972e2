use Rattle.std.proofs.Common.{◌≡◌, ◌++◌, take}
use Rattle.u_pictures.specs.Dot.{text, numbered}
use Rattle.u_pictures.specs.ProgramPicture.{the_node}
use Rattle.u_pictures.proofs.nodes.push_nodes.Given as goal

abbrev pub invariant-loop-i : goal.invariant-loop-i
invariant-loop-i l =
    let sheet = l.sheet in
    l.out.items ≡ l.initial.out.items ++ text (numbered (the_node sheet.origins.now sheet.version sheet.block.now) 1 (take l.i sheet.block.now.statements))
