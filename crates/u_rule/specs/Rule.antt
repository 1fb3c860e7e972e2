-- The firing rule: which firings a job has, what each needs and what each gives.
use Rattle.std.specs.Ordering.{eq_by_cmp}
use Rattle.std.specs.Prelude.{ℕ, ◌+◌, Bool, false, ◌&&◌, ◌||◌, ◌==◌, nat_le, if◌then◌else◌, List, [], ◌∷◌, length, map, Option, Some, None, Result, Ok, Err, ◌++◌}
use Rattle.u_name.specs.Context.{Tree, Top, InLoop, InCall, depth}
use Rattle.u_name.specs.Name.{Activity, activity, loop_context, call_context, left, returned}
use Rattle.u_value.specs.declared.value.Value.{Value}
use Rattle.u_value.specs.declared.value.Value.TheVariants as values
use Rattle.u_value.specs.declared.fault_kind.FaultKind.{FaultKind}
use Rattle.u_value.specs.declared.fault_kind.FaultKind.TheVariants as faults
use Rattle.u_value.specs.declared.operators.UnaryOperator.{UnaryOperator}
use Rattle.u_value.specs.declared.operators.BinaryOperator.{BinaryOperator}
use Rattle.u_value.specs.Values.{value_cmp}
use Rattle.u_value.specs.Operators.{applied1, applied2, chosen}
use Rattle.u_program.specs.declared.program.Constant.{Constant}
use Rattle.u_program.specs.declared.program.Constant.TheVariants as constants
use Rattle.u_program.specs.declared.program.Kind.{Kind}
use Rattle.u_program.specs.declared.program.Kind.TheVariants.{Const, Unary, Binary, Select, Switch, Enter, Next, Last, Leave, Alloc, Fetch, Ask}
use Rattle.u_program.specs.declared.program.Destination.{Destination}
use Rattle.u_program.specs.declared.program.Version.{Version}
use Rattle.u_program.specs.Parts.{StatementParts, BlockParts}
use Rattle.u_check.specs.Kinds.{ports_of, back_named, is_end, is_apply, is_store, is_ask}
use Rattle.u_check.specs.Rules.{main_name, block_named}
use Rattle.u_check.specs.Jobs.{JobParts}
use Rattle.u_check.specs.Tables.{TableRows}
use Rattle.u_base.specs.Firing.{System}
use Rattle.u_rule.specs.Parts.{ValueList, token}
use Rattle.u_rule.specs.Fits.{statement_of, fits_at}
use Rattle.u_rule.specs.Initiations.{last_turn, fires_in_turns}
use Rattle.u_rule.specs.Parameters.{parameters_of}
use Rattle.u_rule.specs.Structures.{cell_named, has_its_write, write_read, allocated, fetched, stored, answers, is_answer, asked, replied}
use Rattle.u_rule.specs.Replies.{value_for}
use Rattle.u_rule.specs.declared.entry.Entry.{Entry}
use Rattle.u_rule.specs.declared.entry.Entry.TheVariants as entries
use Rattle.u_rule.specs.declared.firing.Firing.{Firing}
use Rattle.u_rule.specs.declared.parts.Written.{Written}

abbrev pub has_its_values : StatementParts → Firing → Bool
has_its_values s f = length f.values == ports_of s.kind && has_its_write s.kind f.values f.write

-- Of an `ask` there are replies too. A reply has one value for each port, and what was replied, as a
-- write that the activity itself makes.
abbrev pub is_reply_at : StatementParts → Firing → Bool
is_reply_at s f = is_ask s.kind && (length f.values == ports_of s.kind && answers f.activity f.values f.write)

abbrev pub has_its_form : StatementParts → Firing → Bool
has_its_form s f = has_its_values s f || is_reply_at s f

-- that the value is the one that is known
abbrev pub is_known : Option Value → Value → Bool
is_known None v = false
is_known (Some u) v = eq_by_cmp value_cmp u v

-- the firing has a write, of the value that the table says
abbrev pub says : TableRows → Kind → ValueList → Option Written → Bool
says table k vs None = false
says table k vs (Some w) = is_known (value_for table k vs) w.value

-- a reply that the table has
abbrev pub is_told_at : TableRows → StatementParts → Firing → Bool
is_told_at table s f = is_reply_at s f && says table s.kind f.values f.write

abbrev pub has_own_form : TableRows → StatementParts → Firing → Bool
has_own_form table s f = has_its_values s f || is_told_at table s f

-- An inner firing of that statement is no reply: it has one value for each port, and a write exactly where
-- it reads a cell.
abbrev pub is_inner_at : List BlockParts → Option StatementParts → Firing → Bool
is_inner_at p None f = false
is_inner_at p (Some s) f = fits_at p s.region f.activity && has_its_values s f

-- an own firing of that statement is an inner one, or a reply that the table has
abbrev pub is_own_at : TableRows → List BlockParts → Option StatementParts → Firing → Bool
is_own_at table p None f = false
is_own_at table p (Some s) f = fits_at p s.region f.activity && has_own_form table s f

-- a firing of that statement is an own one or a reply
abbrev pub is_firing_at : List BlockParts → Option StatementParts → Firing → Bool
is_firing_at p None f = false
is_firing_at p (Some s) f = fits_at p s.region f.activity && has_its_form s f

-- The job's inner firings: all that are no replies.
unfoldable pub is_inner_of : JobParts → Firing → Bool
is_inner_of job f =
    is_inner_at job.program.blocks (statement_of job.program.blocks f.activity.block f.activity.statement) f
    && fires_in_turns job.program.version f

-- The job's own firings, which a machine fires by itself: the inner ones, and the replies that the job's
-- table has. All other replies come from outside, and are taken.
unfoldable pub is_own_of : JobParts → Firing → Bool
is_own_of job f =
    is_own_at job.table job.program.blocks (statement_of job.program.blocks f.activity.block f.activity.statement) f
    && fires_in_turns job.program.version f

-- its firings: the inner ones, and replies, whatever the table has
unfoldable pub is_firing_of : JobParts → Firing → Bool
is_firing_of job f =
    is_firing_at job.program.blocks (statement_of job.program.blocks f.activity.block f.activity.statement) f
    && fires_in_turns job.program.version f

-- the tokens of an activity that have these values at its ports, from that port on
abbrev pub tokens_from : Activity → ℕ → ValueList → List Entry
tokens_from a port [] = []
tokens_from a port (v ∷ vs) = entries.Token (token a port v) ∷ tokens_from a (port + 1) vs

-- a firing needs its value at each of its ports, and the write that it reads
unfoldable pub needs_of : Firing → List Entry
needs_of f = tokens_from f.activity 1 f.values ++ write_read f.values f.write

abbrev pub value_of : Constant → Value
value_of (constants.Int n) = values.Int n
value_of (constants.Bool b) = values.Bool b
value_of (constants.Proc block) = values.Proc block

abbrev pub first_of : ValueList → Result Value FaultKind
first_of [] = Err faults.Kind
first_of (v ∷ vs) = Ok v

abbrev pub unary_of : UnaryOperator → ValueList → Result Value FaultKind
unary_of operator [] = Err faults.Kind
unary_of operator (a ∷ vs) = applied1 operator a

abbrev pub binary_of : BinaryOperator → ValueList → Result Value FaultKind
binary_of operator (a ∷ b ∷ vs) = applied2 operator a b
binary_of operator vs = Err faults.Kind

-- the first value chooses between the second and the third
abbrev pub selected_of : ValueList → Result Value FaultKind
selected_of (control ∷ a ∷ b ∷ vs) = chosen control a b
selected_of vs = Err faults.Kind

-- the first value, where the second is a truth value
abbrev pub switched_of : ValueList → Result Value FaultKind
switched_of (v ∷ values.Bool b ∷ vs) = Ok v
switched_of vs = Err faults.Kind

-- the value that a statement of that kind makes of the values at its ports and of the write that it
-- reads, or why it makes none; a kind that makes no other hands on the first
unfoldable pub result_of : Kind → Activity → ValueList → Option Written → Result Value FaultKind
result_of (Const c) a vs write = Ok (value_of c)
result_of (Unary operator) a vs write = unary_of operator vs
result_of (Binary operator) a vs write = binary_of operator vs
result_of Select a vs write = selected_of vs
result_of Switch a vs write = switched_of vs
result_of Alloc a vs write = allocated a vs
result_of Fetch a vs write = fetched (cell_named vs) write
result_of (Ask s n) a vs write = asked a vs
result_of k a vs write = first_of vs

-- where a statement of that kind sends its value: `switch` has a list for each truth value
abbrev pub list_of : Kind → StatementParts → ValueList → List Destination
list_of Switch s (v ∷ values.Bool false ∷ vs) = s.otherwise
list_of k s vs = s.to

-- the activity of another statement, of the same context and initiation
abbrev pub beside : Activity → ℕ → Activity
beside a t = activity a.context a.block t a.initiation

-- The activity of statement t that a statement of that kind reaches from its own activity: `enter`
-- one in a new context of the loop, at initiation 1; `next` one at the next initiation and `last`
-- one at the first; `leave` one outside of the loop, where it was entered; the others one beside.
abbrev pub reached : Kind → Activity → ℕ → Activity
reached (Enter l) a t = activity (loop_context a l) a.block t 1
reached Next a t = activity a.context a.block t (a.initiation + 1)
reached Last a t = activity a.context a.block t 1
reached Leave a t = left a t
reached k a t = beside a t

-- why it reaches none: contexts are at most 64 deep, and initiations have a greatest
abbrev pub refusal_of : Version → Kind → Activity → Option FaultKind
refusal_of version (Enter l) a = if depth a.context == 64 then Some faults.Deep else None
refusal_of version Next a = if nat_le (last_turn version) a.initiation then Some faults.Initiation else None
refusal_of version k a = None

-- the token of that value at a destination
abbrev pub sent : (ℕ → Activity) → Value → Destination → Entry
sent to v d = entries.Token (token (to d.statement) d.port v)

abbrev pub fault_of : Activity → FaultKind → Entry
fault_of a kind = entries.Fault (record { activity = a; kind = kind })

-- the value at each destination, or the fault why the statement reaches none
abbrev pub delivered : Option FaultKind → Kind → Activity → List Destination → Value → List Entry
delivered None k a to v = map (sent (reached k a) v) to
delivered (Some kind) k a to v = fault_of a kind ∷ []

-- what a statement that has a value, or has none, hands on
abbrev pub handed_on : Version → Kind → Activity → List Destination → Result Value FaultKind → List Entry
handed_on version k a to (Ok v) = delivered (refusal_of version k a) k a to v
handed_on version k a to (Err kind) = fault_of a kind ∷ []

-- the tokens of the arguments, from that one on: each goes to port 1 of the statement with its number,
-- beside the first
abbrev pub arguments_from : Activity → ℕ → ValueList → List Entry
arguments_from first k [] = []
arguments_from first k (v ∷ vs) = entries.Token (token (beside first k) 1 v) ∷ arguments_from first (k + 1) vs

-- the activity of statement 1 of a block that an activity calls, in the context of the call
abbrev pub called_first : Activity → List ℕ → Activity
called_first a block = activity (call_context a) block 1 1

-- a procedure that is called begins its block with the arguments
abbrev pub begun : Activity → List ℕ → ValueList → List Entry
begun a block vs = if depth a.context == 64 then fault_of a faults.Deep ∷ [] else arguments_from (called_first a block) 1 vs

-- it is called on as many arguments as it has parameters
abbrev pub called_on : Option BlockParts → Activity → List ℕ → ValueList → List Entry
called_on None a block vs = fault_of a faults.Kind ∷ []
called_on (Some b) a block vs = if length vs == parameters_of b then begun a block vs else fault_of a faults.Arity ∷ []

-- what an `apply` gives: its first value is a procedure of the program, the others are the arguments
abbrev pub called : List BlockParts → Activity → ValueList → List Entry
called p a (values.Proc block ∷ vs) = called_on (block_named p block) a block vs
called p a vs = fault_of a faults.Kind ∷ []

-- the `back` that an `apply` names
abbrev pub back_of : Option StatementParts → Option ℕ
back_of None = None
back_of (Some s) = back_named s.kind

-- the result of a call goes to the `back`, in the context of the caller; in a checked program there is one
abbrev pub brought_back : Activity → Value → Option ℕ → List Entry
brought_back a v None = []
brought_back a v (Some b) = entries.Token (token (returned a b) 1 v) ∷ []

-- what `end` gives: in the root the answer, in a call its result; in a checked program none fits in a loop
abbrev pub finished : List BlockParts → Activity → Tree → Value → List Entry
finished p a Top v = entries.Answer v ∷ []
finished p a (InLoop outer block number initiation) v = []
finished p a (InCall outer block statement initiation) v = brought_back a v (back_of (statement_of p block statement))

abbrev pub ended : List BlockParts → Activity → Result Value FaultKind → List Entry
ended p a (Ok v) = finished p a a.context v
ended p a (Err kind) = fault_of a kind ∷ []

-- what a statement gives on these values and the write that it reads
abbrev pub given : Version → List BlockParts → StatementParts → Activity → ValueList → Option Written → List Entry
given version p s a vs write =
    if is_apply s.kind then called p a vs
    else if is_end s.kind then ended p a (first_of vs)
    else if is_store s.kind then stored a vs
    else handed_on version s.kind a (list_of s.kind s vs) (result_of s.kind a vs write)

-- a reply gives what was replied, and any other firing what its statement gives
abbrev pub given_with : Version → List BlockParts → StatementParts → Activity → ValueList → Option Written → List Entry
given_with version p s a vs write = if is_answer s.kind write then replied a write else given version p s a vs write

abbrev pub given_at : Version → List BlockParts → Option StatementParts → Firing → List Entry
given_at version p None f = []
given_at version p (Some s) f = given_with version p s f.activity f.values f.write

-- a firing gives its value or its write, or the fault why there is none
unfoldable pub gives_of : JobParts → Firing → List Entry
gives_of job f = given_at job.program.version job.program.blocks (statement_of job.program.blocks f.activity.block f.activity.statement) f

-- the one start token: the argument, for statement 1 of `main`
unfoldable pub start_of : JobParts → Entry
start_of job = entries.Token (token (activity Top main_name 1 1) 1 (values.Int job.argument))

-- a job as a firing system
abbrev pub system_of : JobParts → System Entry Firing
system_of job = record { start = start_of job; is_firing = is_firing_of job; needs = needs_of; gives = gives_of job }

-- the same with own firings alone: what a machine fires by itself
abbrev pub own_of : JobParts → System Entry Firing
own_of job = record { start = start_of job; is_firing = is_own_of job; needs = needs_of; gives = gives_of job }
