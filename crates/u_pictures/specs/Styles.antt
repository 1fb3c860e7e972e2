-- How statements and arcs look, by what they do.
use Rattle.std.specs.Prelude.{ℕ, ◌==◌, if◌then◌else◌, List, [], ◌∷◌, ◌++◌, codes}
use Rattle.std.specs.Fmt.{decimal}
use Rattle.u_base.specs.Spaced.{spaced}
use Rattle.u_program.specs.Text.{kind_word, argument_words}
use Rattle.u_program.specs.declared.program.Kind.{Kind}
use Rattle.u_check.specs.Kinds.{ports_of}
use Rattle.u_program.specs.declared.program.Kind.TheVariants.{Begin, Select, Switch, Enter, Next, Param}
use Rattle.u_program.specs.declared.program.Version.{Version}
use Rattle.u_program.specs.declared.program.Kind.TheVariants.{Last, Leave, Apply, Back, Alloc, Store, Fetch, Ask, End}
use Rattle.u_pictures.specs.declared.styles.Exit.{Exit}
use Rattle.u_pictures.specs.declared.styles.Exit.TheVariants.{Plain, OnTrue, OnFalse, Turning, FromPoint}
use Rattle.u_pictures.specs.Dot.{Attribute, attribute}

-- the edges of a block, loops, choices, calls, structures, questions, and all others
abbrev pub fill : Kind → List ℕ
fill Begin = codes "#d9ead3"
fill (Param k) = codes "#d9ead3"
fill End = codes "#d9ead3"
fill (Enter l) = codes "#dbe7f6"
fill Next = codes "#dbe7f6"
fill Last = codes "#dbe7f6"
fill Leave = codes "#dbe7f6"
fill Select = codes "#fff2cc"
fill Switch = codes "#fff2cc"
fill (Apply b n) = codes "#eadcf4"
fill Back = codes "#eadcf4"
fill Alloc = codes "#fce5cd"
fill Store = codes "#fce5cd"
fill Fetch = codes "#fce5cd"
fill (Ask s n) = codes "#f4cccc"
fill k = codes "#ffffff"

-- so many ports, each with its number
abbrev pub ports : ℕ → List ℕ
ports n =
    if n == 1 then codes "<i1>"
    else if n == 2 then codes "{{<i1>1|<i2>2}|"
    else if n == 3 then codes "{{<i1>1|<i2>2|<i3>3}|"
    else if n == 4 then codes "{{<i1>1|<i2>2|<i3>3|<i4>4}|"
    else codes "{{<i1>1|<i2>2|<i3>3|<i4>4|<i5>5}|"

-- the ports of a statement, above its number
abbrev pub label_above : Kind → List ℕ
label_above k = ports (ports_of k)

-- below its kind, the two ways out of a `switch`, and what ends the ports where there are two or more
abbrev pub label_below : Kind → List ℕ
label_below Switch = codes "|{<t>T|<f>F}}"
label_below k = if ports_of k == 1 then [] else codes "}"

-- the ports, the number, the kind, and the two ways out of a `switch`
unfoldable pub label : Version → ℕ → Kind → List ℕ
label version n kind =
    label_above kind
    ++ (decimal n ++ (spaced (kind_word kind ∷ argument_words version kind) ++ label_below kind))

-- blue, and without a say in what stands above what
abbrev pub turning : List Attribute
turning =
    attribute (codes "color") (codes "#3569b0")
    ∷ attribute (codes "penwidth") (codes "1.4")
    ∷ attribute (codes "constraint") (codes "false") ∷ []

-- how arcs leave a statement; of a `switch`, those for true
abbrev pub exit_of : Kind → Exit
exit_of Switch = OnTrue
exit_of Next = Turning
exit_of k = Plain

-- arcs from a statement, for true and for false from a `switch`, from a `next`, and from a point
abbrev pub exit_attributes : Exit → List Attribute
exit_attributes Plain = attribute (codes "tailport") (codes "s") ∷ []
exit_attributes OnTrue =
    attribute (codes "tailport") (codes "t:s") ∷ attribute (codes "color") (codes "#2e7d32") ∷ []
exit_attributes OnFalse =
    attribute (codes "tailport") (codes "f:s") ∷ attribute (codes "color") (codes "#c62828") ∷ []
exit_attributes Turning = turning
exit_attributes FromPoint = []

-- the arc from a statement to the point of its list
abbrev pub join : Kind → List Attribute
join Next = turning
join k = attribute (codes "tailport") (codes "s") ∷ attribute (codes "arrowhead") (codes "none") ∷ []

-- where an arc ends: at the port's cell, from above
abbrev pub entry : ℕ → Attribute
entry port =
    attribute (codes "headport")
    (if port == 1 then codes "i1:n"
    else if port == 2 then codes "i2:n"
    else if port == 3 then codes "i3:n"
    else if port == 4 then codes "i4:n"
    else codes "i5:n")

-- the arc from an `apply` to its `back`
abbrev pub result_arc : List Attribute
result_arc =
    attribute (codes "tailport") (codes "s")
    ∷ attribute (codes "headport") (codes "i1:n")
    ∷ attribute (codes "style") (codes "dashed")
    ∷ attribute (codes "color") (codes "#7b3fa0")
    ∷ attribute (codes "label") (codes "  result") ∷ []

abbrev pub point : List Attribute
point =
    attribute (codes "shape") (codes "point")
    ∷ attribute (codes "width") (codes "0.07")
    ∷ attribute (codes "style") (codes "solid") ∷ []

abbrev pub block_style : List Attribute
block_style =
    attribute (codes "labeljust") (codes "l")
    ∷ attribute (codes "style") (codes "rounded")
    ∷ attribute (codes "color") (codes "#888888") ∷ []

abbrev pub loop_style : List Attribute
loop_style =
    attribute (codes "labeljust") (codes "l")
    ∷ attribute (codes "style") (codes "rounded,filled")
    ∷ attribute (codes "color") (codes "#9db8dd")
    ∷ attribute (codes "fillcolor") (codes "#f4f8fd") ∷ []
