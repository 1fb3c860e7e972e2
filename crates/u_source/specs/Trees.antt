-- Which nodes make a tree: the sorts of a node's children, and what it is for a list of nodes to be one tree.
use Rattle.std.specs.Prelude.{◌≡◌, Bool, true, false, cond, List, [], ◌∷◌, reverse, Option, Some, None}
use Rattle.u_source.specs.declared.form.Node.{Node}
use Rattle.u_source.specs.declared.form.Form.{Form}
use Rattle.u_source.specs.declared.form.Form.TheVariants.{Name, Number, Negative, True, False, Or, And, Not, Less, AtMost, Greater, AtLeast, Equal, Unequal}
use Rattle.u_source.specs.declared.form.Form.TheVariants.{Add, Subtract, Multiply, Divide, Remainder, Negate, Array, Length, Index, Call, If, NoElse, Otherwise, Else}
use Rattle.u_source.specs.declared.form.Form.TheVariants.{Loop, For, Give, NoGive, NoArguments, AddArgument, NoVariables, AddVariable, Variables, NoItems, AddItem, AddValue, Block, Define}
use Rattle.u_source.specs.declared.form.Form.TheVariants.{Write, Statement, Next, NoParameters, AddParameter, NoProcedures, AddProcedure}

-- what a tree stands for
pub data Sort : Type 0 where
  -- a name, alone or as a value
  AName : Sort
  -- a cell of an array
  ACell : Sort
  -- a call
  ACall : Sort
  -- an `if`
  AnIf : Sort
  -- a loop
  ALoop : Sort
  -- a value of another form
  AValue : Sort
  -- arguments
  Arguments : Sort
  -- loop variables, to which more may be added
  VariableList : Sort
  -- all variables of a loop
  LoopVariables : Sort
  -- parameters
  Parameters : Sort
  -- items, to which more may be added
  Items : Sort
  -- a block
  ABlock : Sort
  -- an item of another form
  AnItem : Sort
  -- that an `else` begins
  ElseBegins : Sort
  -- what stands behind `else`
  ASide : Sort
  -- an `else`, or none
  AnElse : Sort
  -- a `give`, or none
  AGive : Sort
  -- procedures
  Procedures : Sort

-- what a node of a form stands for
abbrev pub sort_of : Form → Sort
sort_of Name = AName
sort_of Number = AValue
sort_of Negative = AValue
sort_of True = AValue
sort_of False = AValue
sort_of Or = AValue
sort_of And = AValue
sort_of Not = AValue
sort_of Less = AValue
sort_of AtMost = AValue
sort_of Greater = AValue
sort_of AtLeast = AValue
sort_of Equal = AValue
sort_of Unequal = AValue
sort_of Add = AValue
sort_of Subtract = AValue
sort_of Multiply = AValue
sort_of Divide = AValue
sort_of Remainder = AValue
sort_of Negate = AValue
sort_of Array = AValue
sort_of Length = AValue
sort_of Index = ACell
sort_of Call = ACall
sort_of If = AnIf
sort_of NoElse = AnElse
sort_of Otherwise = ElseBegins
sort_of Else = AnElse
sort_of Loop = ALoop
sort_of For = ALoop
sort_of Give = AGive
sort_of NoGive = AGive
sort_of NoArguments = Arguments
sort_of AddArgument = Arguments
sort_of NoVariables = VariableList
sort_of AddVariable = VariableList
sort_of Variables = LoopVariables
sort_of NoItems = Items
sort_of AddItem = Items
sort_of AddValue = Items
sort_of Block = ABlock
sort_of Define = AnItem
sort_of Write = AnItem
sort_of Statement = AnItem
sort_of Next = AnItem
sort_of NoParameters = Parameters
sort_of AddParameter = Parameters
sort_of NoProcedures = Procedures
sort_of AddProcedure = Procedures

-- what its children stand for, in their order
abbrev pub children : Form → List Sort
children Name = []
children Number = []
children Negative = []
children True = []
children False = []
children Or = AValue ∷ AValue ∷ []
children And = AValue ∷ AValue ∷ []
children Not = AValue ∷ []
children Less = AValue ∷ AValue ∷ []
children AtMost = AValue ∷ AValue ∷ []
children Greater = AValue ∷ AValue ∷ []
children AtLeast = AValue ∷ AValue ∷ []
children Equal = AValue ∷ AValue ∷ []
children Unequal = AValue ∷ AValue ∷ []
children Add = AValue ∷ AValue ∷ []
children Subtract = AValue ∷ AValue ∷ []
children Multiply = AValue ∷ AValue ∷ []
children Divide = AValue ∷ AValue ∷ []
children Remainder = AValue ∷ AValue ∷ []
children Negate = AValue ∷ []
children Array = AValue ∷ []
children Length = AValue ∷ []
children Index = AValue ∷ AValue ∷ []
children Call = AValue ∷ Arguments ∷ []
children If = AValue ∷ ABlock ∷ AnElse ∷ []
children NoElse = []
children Otherwise = []
children Else = ElseBegins ∷ ASide ∷ []
children Loop = LoopVariables ∷ AValue ∷ ABlock ∷ AGive ∷ []
children For = AName ∷ AValue ∷ AValue ∷ LoopVariables ∷ ABlock ∷ AGive ∷ []
children Give = AValue ∷ []
children NoGive = []
children NoArguments = []
children AddArgument = Arguments ∷ AValue ∷ []
children NoVariables = []
children AddVariable = VariableList ∷ AName ∷ AValue ∷ []
children Variables = VariableList ∷ []
children NoItems = []
children AddItem = Items ∷ AnItem ∷ []
children AddValue = Items ∷ AValue ∷ []
children Block = Items ∷ []
children Define = AName ∷ AValue ∷ []
children Write = ACell ∷ AValue ∷ []
children Statement = ACall ∷ []
children Next = AName ∷ AValue ∷ []
children NoParameters = []
children AddParameter = Parameters ∷ AName ∷ []
children NoProcedures = []
children AddProcedure = Procedures ∷ AName ∷ Parameters ∷ ABlock ∷ []

-- the first may stand where the second is wanted
abbrev pub serves : Sort → Sort → Bool
serves AName AName = true
serves ACell ACell = true
serves ACall ACall = true
serves AnIf AnIf = true
serves ALoop ALoop = true
serves AValue AValue = true
serves Arguments Arguments = true
serves VariableList VariableList = true
serves LoopVariables LoopVariables = true
serves Parameters Parameters = true
serves Items Items = true
serves ABlock ABlock = true
serves AnItem AnItem = true
serves ElseBegins ElseBegins = true
serves ASide ASide = true
serves AnElse AnElse = true
serves AGive AGive = true
serves Procedures Procedures = true
serves AName AValue = true
serves ACell AValue = true
serves ACall AValue = true
serves AnIf AValue = true
serves ALoop AValue = true
serves AnIf AnItem = true
serves ALoop AnItem = true
serves AnIf ASide = true
serves ABlock ASide = true
serves a b = false

-- what is left of some trees, the last one first, when those that are wanted are taken from their front
abbrev pub taken_from : List Sort → List Sort → Option (List Sort)
taken_from [] trees = Some trees
taken_from (w ∷ ws) [] = None
taken_from (w ∷ ws) (t ∷ ts) = cond (serves t w) (taken_from ws ts) None

-- with one node more, whose children are the last trees
abbrev pub joined : Form → Option (List Sort) → Option (List Sort)
joined f None = None
joined f (Some trees) = Some (sort_of f ∷ trees)

abbrev pub with_node : Form → List Sort → Option (List Sort)
with_node f trees = joined f (taken_from (reverse (children f)) trees)

-- the trees that some nodes make behind others, the last one first: each takes its children from the last trees
abbrev pub trees_behind : Option (List Sort) → List Node → Option (List Sort)
trees_behind None nodes = None
trees_behind (Some trees) [] = Some trees
trees_behind (Some trees) (n ∷ ns) = trees_behind (with_node n.form trees) ns

-- the nodes are those of one tree, that of a whole source, each behind its children
abbrev pub IsTree : List Node → Type 0
IsTree nodes = trees_behind (Some []) nodes ≡ Some (Procedures ∷ [])
