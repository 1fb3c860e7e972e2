-- The procedures of a source, by their names.
use Rattle.std.specs.Prelude.{◌≡◌, ℕ, ◌+◌, Bool, true, false, cond, List, [], ◌∷◌, map, Option, Some}
use Rattle.u_program.specs.Parts.{BlockParts}
use Rattle.u_source.specs.declared.form.Form.{Form}
use Rattle.u_source.specs.declared.form.Form.TheVariants.{AddProcedure}
use Rattle.u_source.specs.declared.form.Node.{Node}
use Rattle.u_source.specs.Tokens.{TokenParts}
use Rattle.u_scope.specs.Clashes.{name_at}

-- a procedure ends with a node of that form
abbrev pub ends_procedure : Form → Bool
ends_procedure AddProcedure = true
ends_procedure f = false

-- the names of the procedures that end with some of these nodes: each stands behind the `def` that shows the node
abbrev pub procedure_names : List TokenParts → List Node → List (Option (List ℕ))
procedure_names ts [] = []
procedure_names ts (n ∷ ns) = cond (ends_procedure n.form) (name_at ts (n.token + 1) ∷ procedure_names ts ns) (procedure_names ts ns)

abbrev pub block_names : List BlockParts → List (Option (List ℕ))
block_names bs = map (λ (b : BlockParts). Some b.name) bs

-- there is one block for each procedure, in their order, and with its name
abbrev pub AreProcedures : List TokenParts → List Node → List BlockParts → Type 0
AreProcedures ts ns bs = block_names bs ≡ procedure_names ts ns
