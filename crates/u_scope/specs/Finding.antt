-- The nodes that give names a meaning.
use Rattle.std.specs.Prelude.{ℕ, Bool, true, false, cond, List, [], ◌∷◌, Option, Some, None}
use Rattle.u_base.specs.WholeWords.{is}
use Rattle.u_source.specs.declared.form.Node.{Node}
use Rattle.u_source.specs.Tokens.{TokenParts}
use Rattle.u_scope.specs.declared.entry.Entry.{Entry}
use Rattle.u_scope.specs.declared.entry.Event.{Event}
use Rattle.u_scope.specs.declared.entry.Event.TheVariants.{Parameter, Block, Variables, Variable, Loop, Definition, Next}
use Rattle.u_scope.specs.declared.finding.Found.{Found}
use Rattle.u_scope.specs.declared.naming.Named.{Named}
use Rattle.u_scope.specs.Entries.{event_of, declared, is_procedure}

-- the first of two that there is
abbrev pub or_else : {A : Type 0} → Option A → Option A → Option A
or_else (Some a) b = Some a
or_else None b = b

-- the line of a name, if it is x
abbrev pub line_named : List ℕ → Option Named → Option ℕ
line_named x None = None
line_named x (Some n) = cond (is n.name x) (Some n.line) None

-- the line of the name at a node, if the node gives x a meaning or a next value
abbrev pub line_of : List TokenParts → List ℕ → Event → ℕ → Option ℕ
line_of ts x e t = line_named x (declared ts e t)

abbrev pub is_some : Option ℕ → Bool
is_some None = false
is_some (Some n) = true

abbrev pub is_declared : List TokenParts → List ℕ → Event → ℕ → Bool
is_declared ts x e t = is_some (line_of ts x e t)

abbrev pub matching_by : Entry → Option ℕ → Option Found
matching_by e None = None
matching_by e (Some line) = Some (record { number = e.number; token = e.token; line = line })

-- the node, if it gives x a meaning or a next value
abbrev pub matching : List TokenParts → List ℕ → Entry → Option Found
matching ts x e = matching_by e (line_of ts x e.event e.token)

-- what a node defines is known behind it, where the variables of a loop are known or not
abbrev pub is_seen : Bool → Event → Bool
is_seen v Parameter = true
is_seen v Definition = true
is_seen v Variable = v
is_seen v Variables = v
is_seen v e = false

-- looking back past a node, the variables of the loop are known behind all of them, and those of a loop around it
-- are not known to the values with which they begin
abbrev pub seen_behind : Bool → Event → Bool
seen_behind v Loop = true
seen_behind v Variables = false
seen_behind v e = v

-- the node by which x is known, looking back over the nodes of the scopes that have not ended
abbrev pub known : List TokenParts → List ℕ → Bool → List Entry → Option Found
known ts x v [] = None
known ts x v (e ∷ es) = or_else (cond (is_seen v e.event) (matching ts x e) None) (known ts x (seen_behind v e.event) es)

-- the first of these that gives x a meaning
abbrev pub named : List TokenParts → List ℕ → List Entry → Option Found
named ts x [] = None
named ts x (e ∷ es) = or_else (matching ts x e) (named ts x es)

-- a node gives a name a meaning inside a procedure
abbrev pub is_declaration : Event → Bool
is_declaration Parameter = true
is_declaration Definition = true
is_declaration Variable = true
is_declaration Variables = true
is_declaration e = false

-- the line in which x is defined at a node
abbrev pub line_at : List TokenParts → List ℕ → Node → Option ℕ
line_at ts x n = cond (is_declaration (event_of n.form)) (line_of ts x (event_of n.form) n.token) None

-- the line in which x was defined last in a procedure, looking back over its nodes
abbrev pub earlier : List TokenParts → List ℕ → List Node → Option ℕ
earlier ts x [] = None
earlier ts x (n ∷ ns) = cond (is_procedure (event_of n.form)) None (or_else (line_at ts x n) (earlier ts x ns))

-- the line in which x is defined next in a procedure
abbrev pub later : List TokenParts → List ℕ → List Node → Option ℕ
later ts x [] = None
later ts x (n ∷ ns) = cond (is_procedure (event_of n.form)) None (or_else (line_at ts x n) (later ts x ns))

abbrev pub variable_by : List TokenParts → List ℕ → Bool → Entry → Event → Option Found → Option Found → Option Found
variable_by ts x v e Loop found other = found
variable_by ts x true e Variable found other = or_else (matching ts x e) found
variable_by ts x true e Variables found other = matching ts x e
variable_by ts x v e f found other = other

-- the variable x of the loop that began last and has not ended, looking back, where that loop is found or not
abbrev pub variable : List TokenParts → List ℕ → Bool → List Entry → Option Found
variable ts x v [] = None
variable ts x v (e ∷ es) = variable_by ts x v e e.event (variable ts x true es) (variable ts x v es)

-- the line of a `next` of x in the block that began last and has not ended, looking back
abbrev pub next_by : List TokenParts → List ℕ → Entry → Event → Option ℕ → Option ℕ
next_by ts x e Block other = None
next_by ts x e Next other = or_else (line_of ts x Next e.token) other
next_by ts x e f other = other

abbrev pub next_before : List TokenParts → List ℕ → List Entry → Option ℕ
next_before ts x [] = None
next_before ts x (e ∷ es) = next_by ts x e e.event (next_before ts x es)
