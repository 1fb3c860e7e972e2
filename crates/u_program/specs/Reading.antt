-- What is read of the words of a line.
use Rattle.std.specs.Prelude.{ℕ, Bool, true, false, ◌&&◌, cond, ◌==◌, nat_le, List, [], ◌∷◌, codes, Option, Some, None}
use Rattle.u_name.specs.BlockText.{block_at}
use Rattle.u_base.specs.Reader.{Reader}
use Rattle.u_base.specs.Parts.{lead}
use Rattle.u_base.specs.Then.{both}
use Rattle.u_base.specs.Number.{number}
use Rattle.u_base.specs.WholeWords.{◌then◌, whole, is, number_word, number0_word, signed_word}
use Rattle.u_program.specs.declared.program.Constant.{Constant}
use Rattle.u_program.specs.declared.program.Constant.TheVariants as constants
use Rattle.u_program.specs.declared.program.Kind.{Kind}
use Rattle.u_program.specs.declared.program.Kind.TheVariants.{Const, Enter, Apply, Param}
use Rattle.u_program.specs.declared.program.Destination.{Destination}
use Rattle.u_program.specs.declared.reading.Line.{Line}
use Rattle.u_program.specs.declared.reading.Line.TheVariants.{Block, Loop, Statement}
use Rattle.u_program.specs.Parts.{StatementParts, statement}
use Rattle.u_program.specs.declared.program.Version.{Version}
use Rattle.u_program.specs.declared.program.Version.TheVariants as versions
use Rattle.u_program.specs.declared.program.Arguments.{Arguments}
use Rattle.u_program.specs.declared.program.Arguments.TheVariants as arguments
use Rattle.u_program.specs.declared.program.Parameter.{Parameter}
use Rattle.u_program.specs.declared.program.Parameter.TheVariants as parameters
use Rattle.u_program.specs.Limits.{greatest_port, has_list, has_otherwise, rank}
use Rattle.u_program.specs.Text.{kind_word, plain_kinds, arrow, slash}

abbrev pub Words : Type 0
Words = List (List ℕ)

abbrev pub word_at : Words → Option (List ℕ × Words)
word_at [] = None
word_at (w ∷ ws) = Some (w, ws)

unfoldable pub name_word : List ℕ → Option (List ℕ)
name_word w = whole (block_at w)

abbrev pub dot_at : Reader (ℕ × ℕ)
dot_at = both (number 999) (λ _. lead 46 (number 9))

abbrev pub ported : Version → ℕ × ℕ → Option Destination
ported version d = cond (nat_le d.1 (greatest_port version)) (Some (record { statement = d.0; port = d.1 })) None

unfoldable pub destination_at : Version → List ℕ → Option Destination
destination_at version w = whole (dot_at w) then ported version

-- whether the word is the slash behind which a list for false stands
abbrev pub is_slash : List ℕ → Bool
is_slash w = is w slash

-- destinations above this rank, up to a slash, or without one up to the end of the line
unfoldable pub destinations_at : Version → Bool → ℕ → Words → Option (List Destination × Words)
destinations_at version slashed below [] = cond slashed None (Some ([], []))
destinations_at version slashed below (w ∷ ws) =
    cond (slashed && is_slash w) (Some ([], ws))
    (destination_at version w then λ d. cond (nat_le (rank d) below) None
    (destinations_at version slashed (rank d) ws then λ ds. Some (d ∷ ds.0, ds.1)))

abbrev pub none_at : Words → Option (List Destination × Words)
none_at [] = Some ([], [])
none_at (w ∷ ws) = None

-- the destinations of a statement of the kind; of a `switch`, those for true
unfoldable pub list_at : Version → Kind → Words → Option (List Destination × Words)
list_at version k ws = cond (has_list k) (destinations_at version (has_otherwise k) 0 ws) (none_at ws)

-- behind them those of a `switch` for false
unfoldable pub otherwise_at : Version → Kind → Words → Option (List Destination × Words)
otherwise_at version k ws = cond (has_otherwise k) (destinations_at version false 0 ws) (Some ([], ws))

-- a procedure or a number
abbrev pub other_constant : List ℕ → Option Constant
other_constant [] = None
other_constant (c ∷ cs) = cond (c == 64) (name_word cs then λ name. Some (constants.Proc name)) (signed_word (c ∷ cs) then λ n. Some (constants.Int n))

unfoldable pub constant_at : List ℕ → Option Constant
constant_at w = cond (is w (codes "true")) (Some (constants.Bool true)) (cond (is w (codes "false")) (Some (constants.Bool false)) (other_constant w))

-- the first of these kinds that has this word
unfoldable pub kind_among : List Kind → List ℕ → Option Kind
kind_among [] w = None
kind_among (k ∷ ks) w = cond (is w (kind_word k)) (Some k) (kind_among ks w)

abbrev pub const_at : Words → Option (Kind × Words)
const_at ws = word_at ws then λ a. constant_at a.0 then λ c. Some (Const c, a.1)

abbrev pub enter_at : Words → Option (Kind × Words)
enter_at ws = word_at ws then λ a. number_word 99 a.0 then λ l. Some (Enter l, a.1)

-- how many arguments the word says
unfoldable pub arguments_at : List ℕ → Option Arguments
arguments_at w =
    cond (is w (codes "1")) (Some arguments.One)
    (cond (is w (codes "2")) (Some arguments.Two)
    (cond (is w (codes "3")) (Some arguments.Three)
    (cond (is w (codes "4")) (Some arguments.Four) None)))

-- which parameter the word says
unfoldable pub parameter_at : List ℕ → Option Parameter
parameter_at w =
    cond (is w (codes "2")) (Some parameters.Second)
    (cond (is w (codes "3")) (Some parameters.Third)
    (cond (is w (codes "4")) (Some parameters.Fourth) None))

-- the number of arguments behind an `apply`: in version 1 there is none, and it is one
unfoldable pub count_at : Version → Words → Option (Arguments × Words)
count_at versions.One ws = Some (arguments.One, ws)
count_at versions.Two ws = word_at ws then λ a. arguments_at a.0 then λ n. Some (n, a.1)

abbrev pub apply_at : Version → Words → Option (Kind × Words)
apply_at version ws = word_at ws then λ a. number_word 999 a.0 then λ b. count_at version a.1 then λ n. Some (Apply b n.0, n.1)

-- version 1 has no `param`
unfoldable pub param_at : Version → Words → Option (Kind × Words)
param_at versions.One ws = None
param_at versions.Two ws = word_at ws then λ a. parameter_at a.0 then λ k. Some (Param k, a.1)

abbrev pub plain_at : List ℕ → Words → Option (Kind × Words)
plain_at w ws = kind_among plain_kinds w then λ k. Some (k, ws)

abbrev pub kind_of : Version → List ℕ → Words → Option (Kind × Words)
kind_of version w ws =
    cond (is w (codes "const")) (const_at ws)
    (cond (is w (codes "enter")) (enter_at ws)
    (cond (is w (codes "apply")) (apply_at version ws)
    (cond (is w (codes "param")) (param_at version ws) (plain_at w ws))))

unfoldable pub kind_at : Version → Words → Option (Kind × Words)
kind_at version ws = word_at ws then λ a. kind_of version a.0 a.1

unfoldable pub arrow_at : Words → Option (Unit {0} × Words)
arrow_at ws = word_at ws then λ a. cond (is a.0 arrow) (Some (tt, a.1)) None

-- what stands behind a statement's number
unfoldable pub statement_at : Version → Words → Option StatementParts
statement_at version ws =
    word_at ws then λ a. number0_word 99 a.0 then λ region. kind_at version a.1 then λ k. arrow_at k.1 then λ b.
    list_at version k.0 b.1 then λ to. otherwise_at version k.0 to.1 then λ otherwise. Some (statement region k.0 to.0 otherwise.0)

-- where no word stands behind it
abbrev pub alone : Line → Words → Option Line
alone l [] = Some l
alone l (w ∷ ws) = None

abbrev pub name_line : Words → Option Line
name_line ws = word_at ws then λ a. name_word a.0 then λ name. alone (Block name) a.1

-- what stands behind the word `loop`: a number, and the region that holds the loop
unfoldable pub numbers_at : Words → Option Line
numbers_at ws = word_at ws then λ a. number_word 100 a.0 then λ n. word_at a.1 then λ b. number0_word 99 b.0 then λ h. alone (Loop n h) b.1

abbrev pub numbered : Version → List ℕ → Words → Option Line
numbered version w ws = number_word 1000 w then λ n. statement_at version ws then λ s. Some (Statement n s)

abbrev pub line_of : Version → List ℕ → Words → Option Line
line_of version w ws = cond (is w (codes "block")) (name_line ws) (cond (is w (codes "loop")) (numbers_at ws) (numbered version w ws))

abbrev pub line_at : Version → Words → Option Line
line_at version ws = word_at ws then λ a. line_of version a.0 a.1
