-- The text of a program: its lines, each with a newline behind it.
use Rattle.std.specs.Prelude.{ℕ, suc, Bool, true, false, List, [], ◌∷◌, ◌++◌, map, codes}
use Rattle.std.specs.Fmt.{decimal, signed_decimal}
use Rattle.u_program.specs.declared.program.Constant.{Constant}
use Rattle.u_program.specs.declared.program.Constant.TheVariants as constants
use Rattle.u_program.specs.declared.program.Kind.{Kind}
use Rattle.u_program.specs.declared.program.Kind.TheVariants.{Begin, Const, Pass, Unary, Binary, Select, Switch, Enter, Next, Param}
use Rattle.u_program.specs.declared.program.Kind.TheVariants.{Last, Leave, Apply, Back, Alloc, Store, Fetch, Ask, End}
use Rattle.u_value.specs.declared.operators.UnaryOperator.{UnaryOperator}
use Rattle.u_value.specs.declared.operators.UnaryOperator.TheVariants.{Not, Length}
use Rattle.u_value.specs.declared.operators.BinaryOperator.{BinaryOperator}
use Rattle.u_value.specs.declared.operators.BinaryOperator.TheVariants.{And, Or, Add, Sub, Mul, Div, Rem, Lt, Le, Eq}
use Rattle.u_program.specs.declared.program.Destination.{Destination}
use Rattle.u_program.specs.Parts.{StatementParts, BlockParts}
use Rattle.u_program.specs.declared.program.Version.{Version}
use Rattle.u_program.specs.declared.program.Version.TheVariants as versions
use Rattle.u_program.specs.declared.program.Arguments.{Arguments}
use Rattle.u_program.specs.declared.program.Arguments.TheVariants as arguments
use Rattle.u_program.specs.declared.program.Parameter.{Parameter}
use Rattle.u_program.specs.declared.program.Parameter.TheVariants as parameters
use Rattle.u_program.specs.Limits.{has_otherwise}
use Rattle.u_base.specs.Spaced.{spaced, ended}

-- `u-program 1`, `u-program 2`
abbrev pub header : Version → List ℕ
header versions.One = codes "u-program 1"
header versions.Two = codes "u-program 2"

abbrev pub arrow : List ℕ
arrow = codes "->"

abbrev pub slash : List ℕ
slash = codes "/"

abbrev pub unary_word : UnaryOperator → List ℕ
unary_word Not = codes "not"
unary_word Length = codes "length"

abbrev pub binary_word : BinaryOperator → List ℕ
binary_word And = codes "and"
binary_word Or = codes "or"
binary_word Add = codes "add"
binary_word Sub = codes "sub"
binary_word Mul = codes "mul"
binary_word Div = codes "div"
binary_word Rem = codes "rem"
binary_word Lt = codes "lt"
binary_word Le = codes "le"
binary_word Eq = codes "eq"

abbrev pub kind_word : Kind → List ℕ
kind_word Begin = codes "begin"
kind_word (Const c) = codes "const"
kind_word Pass = codes "pass"
kind_word (Unary o) = unary_word o
kind_word (Binary o) = binary_word o
kind_word Select = codes "select"
kind_word Switch = codes "switch"
kind_word (Enter l) = codes "enter"
kind_word Next = codes "next"
kind_word Last = codes "last"
kind_word Leave = codes "leave"
kind_word (Apply b n) = codes "apply"
kind_word (Param k) = codes "param"
kind_word Back = codes "back"
kind_word Alloc = codes "alloc"
kind_word Store = codes "store"
kind_word Fetch = codes "fetch"
kind_word (Ask s n) = codes "ask"
kind_word End = codes "end"

-- the kinds without an argument, in the order in which a reader tries them
abbrev pub plain_kinds : List Kind
plain_kinds =
    Begin ∷ Pass ∷ Unary Not ∷ Unary Length
    ∷ Binary And ∷ Binary Or
    ∷ Binary Add ∷ Binary Sub ∷ Binary Mul ∷ Binary Div ∷ Binary Rem
    ∷ Binary Lt ∷ Binary Le ∷ Binary Eq
    ∷ Select ∷ Switch ∷ Next ∷ Last ∷ Leave ∷ Back
    ∷ Alloc ∷ Store ∷ Fetch ∷ End ∷ []

-- whether an argument follows the word of the kind
abbrev pub has_argument : Kind → Bool
has_argument (Const c) = true
has_argument (Enter l) = true
has_argument (Apply b n) = true
has_argument (Param k) = true
has_argument (Ask s n) = true
has_argument k = false

-- `true`, `-7`, `@fact`
abbrev pub constant_word : Constant → List ℕ
constant_word (constants.Int n) = signed_decimal n
constant_word (constants.Bool true) = codes "true"
constant_word (constants.Bool false) = codes "false"
constant_word (constants.Proc name) = 64 ∷ name

abbrev pub count_word : Arguments → List ℕ
count_word arguments.One = codes "1"
count_word arguments.Two = codes "2"
count_word arguments.Three = codes "3"
count_word arguments.Four = codes "4"

abbrev pub place_word : Parameter → List ℕ
place_word parameters.Second = codes "2"
place_word parameters.Third = codes "3"
place_word parameters.Fourth = codes "4"

-- the number of arguments of an `apply`, which version 1 leaves out
abbrev pub count_words : Version → Arguments → List (List ℕ)
count_words versions.One n = []
count_words versions.Two n = count_word n ∷ []

-- what stands between a kind's word and the arrow
abbrev pub argument_words : Version → Kind → List (List ℕ)
argument_words version (Const c) = constant_word c ∷ []
argument_words version (Enter l) = decimal l ∷ []
argument_words version (Apply b n) = decimal b ∷ count_words version n
argument_words version (Param k) = place_word k ∷ []
argument_words version (Ask s n) = s ∷ count_word n ∷ []
argument_words version k = []

-- `statement.port`
abbrev pub destination_word : Destination → List ℕ
destination_word d = decimal d.statement ++ (46 ∷ decimal d.port)

-- the list for false, behind its slash
abbrev pub otherwise_words : Bool → List Destination → List (List ℕ)
otherwise_words true to = slash ∷ map destination_word to
otherwise_words false to = []

-- what stands behind the arrow: destinations, and behind a slash those for false
abbrev pub lists_words : Kind → List Destination → List Destination → List (List ℕ)
lists_words kind to otherwise = map destination_word to ++ otherwise_words (has_otherwise kind) otherwise

-- what stands behind a statement's region
abbrev pub tail_words : Version → Kind → List Destination → List Destination → List (List ℕ)
tail_words version kind to otherwise = kind_word kind ∷ (argument_words version kind ++ (arrow ∷ lists_words kind to otherwise))

-- what stands behind a statement's number
abbrev pub statement_words : Version → StatementParts → List (List ℕ)
statement_words version s = decimal s.region ∷ tail_words version s.kind s.to s.otherwise

-- `block NAME`
unfoldable pub block_line : List ℕ → List ℕ
block_line name = codes "block" ++ spaced (name ∷ [])

-- `loop NUMBER HELD_BY`
unfoldable pub loop_line : ℕ → ℕ → List ℕ
loop_line number held_by = codes "loop" ++ spaced (decimal number ∷ decimal held_by ∷ [])

-- `NUMBER REGION KIND [ARGUMENT] -> LIST`, of a `switch` `-> LIST / LIST`
unfoldable pub statement_line : Version → ℕ → StatementParts → List ℕ
statement_line version number s = decimal number ++ spaced (statement_words version s)

-- the lines of loops, numbered from this number on
abbrev pub loop_lines : ℕ → List ℕ → List (List ℕ)
loop_lines n [] = []
loop_lines n (h ∷ hs) = loop_line n h ∷ loop_lines (suc n) hs

-- the lines of statements, numbered from this number on
abbrev pub statement_lines : Version → ℕ → List StatementParts → List (List ℕ)
statement_lines version n [] = []
statement_lines version n (s ∷ ss) = statement_line version n s ∷ statement_lines version (suc n) ss

-- what stands behind the line that begins a block
abbrev pub inner_lines : Version → BlockParts → List (List ℕ)
inner_lines version b = loop_lines 1 b.loops ++ statement_lines version 1 b.statements

abbrev pub block_lines : Version → BlockParts → List (List ℕ)
block_lines version b = block_line b.name ∷ inner_lines version b

abbrev pub blocks_lines : Version → List BlockParts → List (List ℕ)
blocks_lines version [] = []
blocks_lines version (b ∷ bs) = block_lines version b ++ blocks_lines version bs

abbrev pub program_lines : Version → List BlockParts → List (List ℕ)
program_lines version p = header version ∷ blocks_lines version p

unfoldable pub program_text : Version → List BlockParts → List ℕ
program_text version p = ended (program_lines version p)
