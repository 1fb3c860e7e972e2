-- How firings and entries look in the picture of a run.
use Rattle.std.specs.Prelude.{ℕ, suc, Bool, true, false, ◌&&◌, ◌==◌, List, [], ◌∷◌, ◌++◌, Option, Some, None, codes}
use Rattle.std.specs.Fmt.{decimal}
use Rattle.std.specs.Ordering.{eq_by_cmp}
use Rattle.u_base.specs.Spaced.{spaced}
use Rattle.u_name.specs.Cell.{cell_text, cell_cmp}
use Rattle.u_name.specs.NameOrder.{name_cmp}
use Rattle.u_value.specs.Values.{value_text}
use Rattle.u_value.specs.declared.value.Value.{Value}
use Rattle.u_value.specs.FaultKinds.{fault_kind_text}
use Rattle.u_program.specs.Text.{kind_word, argument_words}
use Rattle.u_program.specs.declared.program.Version.{Version}
use Rattle.u_program.specs.declared.program.Kind.{Kind}
use Rattle.u_program.specs.declared.program.Kind.TheVariants.{Next}
use Rattle.u_program.specs.Parts.{StatementParts}
use Rattle.u_rule.specs.Parts.{ValueList}
use Rattle.u_rule.specs.declared.firing.Firing.{Firing}
use Rattle.u_rule.specs.declared.entry.Entry.{Entry}
use Rattle.u_rule.specs.declared.entry.Entry.TheVariants as entries
use Rattle.u_pictures.specs.Dot.{Attribute, attribute}
use Rattle.u_pictures.specs.Styles.{fill, entry}

-- the values at the ports of that number and behind it, each in a cell: `{` or `|`, `<iPORT>VALUE`
abbrev pub cells : ℕ → ℕ → ValueList → List ℕ
cells before port [] = []
cells before port (v ∷ vs) =
    (before ∷ (codes "<i" ++ (decimal port ++ (62 ∷ value_text v)))) ++ cells 124 (suc port) vs

-- the kind's words behind spaces, and its fill; where the program lacks the statement, none, and white
abbrev pub kind_words : Version → Option StatementParts → List ℕ
kind_words version None = []
kind_words version (Some s) = spaced (kind_word s.kind ∷ argument_words version s.kind)

abbrev pub fill_at : Option StatementParts → List ℕ
fill_at None = codes "#ffffff"
fill_at (Some s) = fill s.kind

-- `{{<i1>VALUE|<i2>VALUE}|NUMBER KIND}`
unfoldable pub firing_label : Version → Option StatementParts → Firing → List ℕ
firing_label version s f =
    codes "{" ++ (cells 123 1 f.values
    ++ (codes "}|" ++ (decimal f.activity.statement ++ (kind_words version s ++ codes "}"))))

abbrev pub firing_look : List ℕ → Version → Option StatementParts → Firing → List Attribute
firing_look tip version s f =
    attribute (codes "tooltip") tip
    ∷ attribute (codes "label") (firing_label version s f)
    ∷ attribute (codes "fillcolor") (fill_at s) ∷ []

-- a point: of a token that another value meets at its port, red and larger
abbrev pub point_look : Bool → List Attribute
point_look false =
    attribute (codes "shape") (codes "point")
    ∷ attribute (codes "width") (codes "0.07")
    ∷ attribute (codes "style") (codes "solid") ∷ []
point_look true =
    attribute (codes "shape") (codes "point")
    ∷ attribute (codes "width") (codes "0.12")
    ∷ attribute (codes "style") (codes "filled")
    ∷ attribute (codes "color") (codes "#c62828")
    ∷ attribute (codes "fillcolor") (codes "#c62828") ∷ []

-- a cylinder: of a cell with two writes, red
abbrev pub cell_look : Bool → List Attribute
cell_look false =
    attribute (codes "shape") (codes "cylinder")
    ∷ attribute (codes "fillcolor") (codes "#fce5cd") ∷ []
cell_look true =
    attribute (codes "shape") (codes "cylinder")
    ∷ attribute (codes "color") (codes "#c62828")
    ∷ attribute (codes "penwidth") (codes "2")
    ∷ attribute (codes "fillcolor") (codes "#f4c7c3") ∷ []

-- a text without a frame: of an answer beside another one, red
abbrev pub text_look : Bool → List Attribute
text_look false =
    attribute (codes "shape") (codes "plaintext")
    ∷ attribute (codes "style") (codes "solid") ∷ []
text_look true =
    attribute (codes "shape") (codes "plaintext")
    ∷ attribute (codes "style") (codes "solid")
    ∷ attribute (codes "fontcolor") (codes "#c62828") ∷ []

-- a red box
abbrev pub fault_look : List Attribute
fault_look =
    attribute (codes "shape") (codes "box")
    ∷ attribute (codes "color") (codes "#c62828")
    ∷ attribute (codes "fillcolor") (codes "#f4c7c3") ∷ []

-- a word and a value
abbrev pub worded_look : List ℕ → Bool → Value → List Attribute
worded_look word meets v = attribute (codes "label") (word ++ value_text v) ∷ text_look meets

-- a token: the argument that a run begins with as a text, any other one as a point
abbrev pub token_look : Bool → Bool → Value → List Attribute
token_look true meets v = worded_look (codes "argument ") meets v
token_look false meets v = point_look meets

-- how an entry looks, behind its tooltip
unfoldable pub entry_look : Bool → Bool → Entry → List Attribute
entry_look is_start meets (entries.Token t) = token_look is_start meets t.value
entry_look is_start meets (entries.Write w) = attribute (codes "label") (cell_text w.cell) ∷ cell_look meets
entry_look is_start meets (entries.Fault x) = attribute (codes "label") (fault_kind_text x.kind) ∷ fault_look
entry_look is_start meets (entries.Answer v) = worded_look (codes "answer ") meets v

-- whether two entries lie in one place: two tokens at one port, two writes in one cell, two answers
abbrev pub meet : Entry → Entry → Bool
meet (entries.Token t) (entries.Token u) = eq_by_cmp name_cmp t.activity u.activity && t.port == u.port
meet (entries.Write w) (entries.Write x) = eq_by_cmp cell_cmp w.cell x.cell
meet (entries.Answer v) (entries.Answer x) = true
meet e f = false

-- from the node of an entry to a firing that needs it: a token to its port's cell; what is read dashed, and over
-- two ranks of the layout, so that its dashes show
unfoldable pub need_look : Entry → List Attribute
need_look (entries.Token t) = entry t.port ∷ []
need_look e = attribute (codes "style") (codes "dashed") ∷ attribute (codes "minlen") (codes "2") ∷ []

-- a line to a token, blue from a `next`
abbrev pub line_by : Kind → List Attribute
line_by Next =
    attribute (codes "tailport") (codes "s")
    ∷ attribute (codes "arrowhead") (codes "none")
    ∷ attribute (codes "color") (codes "#3569b0")
    ∷ attribute (codes "penwidth") (codes "1.4") ∷ []
line_by k = attribute (codes "tailport") (codes "s") ∷ attribute (codes "arrowhead") (codes "none") ∷ []

abbrev pub line_of : Option StatementParts → List Attribute
line_of None = attribute (codes "tailport") (codes "s") ∷ attribute (codes "arrowhead") (codes "none") ∷ []
line_of (Some s) = line_by s.kind

-- from a firing to what it gives: a line to a token, a red arrow to a fault
unfoldable pub give_look : Option StatementParts → Entry → List Attribute
give_look s (entries.Token t) = line_of s
give_look s (entries.Fault x) =
    attribute (codes "tailport") (codes "s") ∷ attribute (codes "color") (codes "#c62828") ∷ []
give_look s e = attribute (codes "tailport") (codes "s") ∷ []
