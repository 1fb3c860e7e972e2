-- Blocks and procedures: how they begin and how they end.
use Rattle.std.specs.Prelude.{◌≡◌, ℕ, ◌+◌, true, List, [], ◌∷◌, ◌++◌}
use Rattle.u_program.specs.Parts.{BlockParts}
use Rattle.u_program.specs.declared.program.Kind.TheVariants.{End}
use Rattle.u_source.specs.declared.form.Form.{Form}
use Rattle.u_source.specs.declared.form.Form.TheVariants as forms
use Rattle.u_source.specs.declared.token.Word.TheVariants as words
use Rattle.u_compile.specs.declared.lowering.Operand.TheVariants.{Atom}
use Rattle.u_compile.specs.Graphs.{graph}
use Rattle.u_compile.specs.Fanning.{IsFinished}
use Rattle.u_compile.specs.Drawings.{DrawingParts, Adds, EachIsFed, no_statements}
use Rattle.u_compile.specs.Namings.{nothing_known}
use Rattle.u_compile.specs.Trees.{HasForm, IsAtWord, IsParent, IsAround}
use Rattle.u_compile.specs.Operands.{LoweringParts, IsPopped, Pops}
use Rattle.u_compile.specs.Definitions.{with_names}
use Rattle.u_compile.specs.Sides.{OpensIf, ClosesSide, in_scope}
use Rattle.u_compile.specs.Turns.{OpensTurn}
use Rattle.u_compile.specs.Loops.{ClosesLoop}

-- what begins with a block of a node of that form, the items of which begin at the first node
abbrev pub Opens : Form → ℕ → ℕ → LoweringParts → LoweringParts → Type 0
Opens forms.If first whole l m = OpensIf first whole l m
Opens forms.Loop first whole l m = OpensTurn l m
Opens forms.For first whole l m = OpensTurn l m
Opens _ first whole l m = m ≡ l

-- the items of a block begin, with what the block is of
pub record OpensBlock (node : ℕ) (l m : LoweringParts) : Type 0 where
  pub block : ℕ
  pub around : IsAround l.scene.tree forms.Block forms.Block block node
  pub whole : ℕ
  pub parent : IsParent l.scene.tree whole block
  pub form : Form
  pub of : HasForm l.scene.tree whole form
  pub opens : Opens form node whole l m

-- what ends with a block of a node of that form
abbrev pub Closes : Form → ℕ → ℕ → LoweringParts → LoweringParts → Type 0
Closes forms.If node whole l m = ClosesSide whole true l m
Closes forms.Loop node whole l m = ClosesLoop node whole l m
Closes forms.For node whole l m = ClosesLoop node whole l m
Closes _ node whole l m = m ≡ l

-- a block ends, with what it is of
pub record ClosesBlock (node : ℕ) (l m : LoweringParts) : Type 0 where
  pub whole : ℕ
  pub parent : IsParent l.scene.tree whole node
  pub form : Form
  pub of : HasForm l.scene.tree whole form
  pub closes : Closes form node whole l m

-- no `if` and no loop has begun, and no variable of one
abbrev pub with_nothing_begun : LoweringParts → LoweringParts
with_nothing_begun l = record l { frames = []; starts = [] }

-- A procedure begins without statements, in its own scope, with nothing known of names, and nothing has begun in it. Its clock is
-- the name of its first parameter, which is known from the second node behind this one.
abbrev pub with_procedure : ℕ → LoweringParts → LoweringParts
with_procedure node l = in_scope (record (with_names (with_nothing_begun l) nothing_known) { drawing = no_statements (node + 2) }) 0

-- The block has the statements and links of the procedure, each of the lists fanned out. To each port nothing leads, or
-- exactly what one value gives.
pub record IsBlockOf (name : List ℕ) (d : DrawingParts) (b : BlockParts) : Type 0 where
  pub loops : List ℕ
  pub finished : IsFinished name (graph loops d.statements d.links) b
  pub fed : EachIsFed d.statements d.links d.values

-- the procedure gives that value, and is that block
pub record Ends (d : DrawingParts) (value : ℕ) (name : List ℕ) (b : BlockParts) : Type 0 where
  pub ended : DrawingParts
  pub gives : Adds d ended End (value ∷ [])
  pub of : IsBlockOf name ended b

-- The procedure gives that value. Its block comes behind those before, what was known of its names is known no more, and what has
-- begun in it is gone.
pub record Finishes (value : ℕ) (name : List ℕ) (l m : LoweringParts) : Type 0 where
  pub block : BlockParts
  pub ends : Ends l.drawing value name block
  pub rest : m ≡ record (with_names (with_nothing_begun l) nothing_known) { drawing = no_statements 0; blocks = l.blocks ++ (block ∷ []) }

-- A procedure ends: it gives the value of the operand that waits last, and takes its name before that.
pub record EndsProcedure (l m : LoweringParts) : Type 0 where
  pub taken : LoweringParts
  pub value : ℕ
  pub pops : Pops l taken (value ∷ [])
  pub named : LoweringParts
  pub node : ℕ
  pub name_taken : IsPopped taken named (Atom node)
  pub name : List ℕ
  pub is : IsAtWord l.scene.tree node (words.Name name)
  pub finishes : Finishes value name named m
