-- What is done at a node, by its form.
use Rattle.std.specs.Prelude.{◌≡◌, ℕ}
use Rattle.u_source.specs.declared.form.Form.{Form}
use Rattle.u_source.specs.declared.form.Form.TheVariants as forms
use Rattle.u_compile.specs.declared.lowering.Operand.{Operand}
use Rattle.u_compile.specs.declared.lowering.Operand.TheVariants.{Atom, Arguments}
use Rattle.u_compile.specs.Operands.{LoweringParts, IsPopped, Reads, Writes, TakesCall, with_operand}
use Rattle.u_compile.specs.Definitions.{Defines, TakesParameter}
use Rattle.u_compile.specs.Sides.{OpensElse, ClosesElse, ClosesIf}
use Rattle.u_compile.specs.Loops.{TakesNext, OpensVariables, StartsVariable, OpensLoop, EndsLoop}
use Rattle.u_compile.specs.Bodies.{OpensBlock, ClosesBlock, EndsProcedure, with_procedure}

-- at an atom, a cell, a call or an item
abbrev pub IsItem : Form → ℕ → LoweringParts → LoweringParts → Type 0
IsItem forms.NoArguments n l m = m ≡ with_operand l Arguments
IsItem forms.Index n l m = Reads n l m
IsItem forms.Call n l m = TakesCall l m
IsItem forms.Write n l m = Writes l m
IsItem forms.Statement n l m = (o : Operand) × IsPopped l m o
IsItem forms.Define n l m = Defines l m n
IsItem forms.Next n l m = TakesNext l m
IsItem _ n l m = m ≡ with_operand l (Atom n)

-- at an `if`, a loop, a block, a procedure, or a node at which nothing is done
abbrev pub IsWhole : Form → ℕ → LoweringParts → LoweringParts → Type 0
IsWhole forms.NoItems n l m = OpensBlock n l m
IsWhole forms.Block n l m = ClosesBlock n l m
IsWhole forms.Otherwise n l m = OpensElse l m
IsWhole forms.Else n l m = ClosesElse n l m
IsWhole forms.If n l m = ClosesIf n l m
IsWhole forms.NoVariables n l m = OpensVariables n l m
IsWhole forms.AddVariable n l m = StartsVariable n l m
IsWhole forms.Variables n l m = OpensLoop n l m
IsWhole forms.Loop n l m = EndsLoop n l m
IsWhole forms.For n l m = EndsLoop n l m
IsWhole forms.NoParameters n l m = m ≡ with_procedure n l
IsWhole forms.AddParameter n l m = TakesParameter l m n
IsWhole forms.AddProcedure n l m = EndsProcedure l m
IsWhole _ n l m = m ≡ l
