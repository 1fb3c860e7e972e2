-- ScopedNames of blocks and of procedures, one after another.
use Rattle.std.proofs.Common.{◌≡◌, ◌+◌, true, false, List, ◌∷◌, Some}
use Rattle.u_program.specs.Parts.{BlockParts}
use Rattle.u_source.specs.declared.form.Node.{Node}
use Rattle.u_source.specs.Tokens.{TokenParts}
use Rattle.u_scope.specs.Clashes.{name_at}
use Rattle.u_compile.specs.Procedures.{ends_procedure, AreProcedures}

-- with a node with which no procedure ends
pub none_more : (ts : List TokenParts) (n : Node) (ns : List Node) (bs : List BlockParts) → ends_procedure n.form ≡ false → AreProcedures ts ns bs → AreProcedures ts (n ∷ ns) bs
none_more ts n ns bs other are = rw other are

-- with a procedure, and a block of its name
pub one_more_named : (ts : List TokenParts) (n : Node) (ns : List Node) (b : BlockParts) (bs : List BlockParts) → ends_procedure n.form ≡ true → name_at ts (n.token + 1) ≡ Some b.name → AreProcedures ts ns bs → AreProcedures ts (n ∷ ns) (b ∷ bs)
one_more_named ts n ns b bs ends named are = cc
