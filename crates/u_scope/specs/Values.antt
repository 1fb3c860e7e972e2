-- Where a value is wanted, and where there is one.
use Rattle.std.specs.Prelude.{ℕ, zero, suc, Bool, true, false, cond, not, ◌||◌, List, [], ◌∷◌, take, drop, reverse, Option, Some, None}
use Rattle.u_source.specs.declared.form.Form.{Form}
use Rattle.u_source.specs.declared.form.Form.TheVariants as form
use Rattle.u_source.specs.declared.form.Node.{Node}
use Rattle.u_scope.specs.Firsts.{before_by, first_by, IsLeastBy}
use Rattle.u_scope.specs.declared.check_error.CheckProblem.{CheckProblem}
use Rattle.u_scope.specs.declared.check_error.CheckProblem.TheVariants as problem_is
use Rattle.u_scope.specs.declared.values.Breach.{Breach}
use Rattle.u_scope.specs.declared.values.ValueRole.{ValueRole}
use Rattle.u_scope.specs.declared.values.ValueRole.TheVariants as part
use Rattle.u_scope.specs.declared.values.Reached.{Reached}
use Rattle.u_scope.specs.declared.values.Reached.TheVariants.{Block, Last, Whole, Else, Inside}
use Rattle.u_scope.specs.declared.values.Way.{Way}
use Rattle.u_scope.specs.declared.values.Way.TheVariants.{On, End}

-- what nodes of a form have to do with values
abbrev pub part_of : Form → ValueRole
part_of form.AddItem = part.Item
part_of form.AddValue = part.Last
part_of form.Block = part.Block
part_of form.If = part.If
part_of form.NoElse = part.NoElse
part_of form.Otherwise = part.Otherwise
part_of form.Else = part.Else
part_of form.Loop = part.Loop
part_of form.For = part.Loop
part_of form.NoGive = part.NoGive
part_of form.AddProcedure = part.Procedure
part_of f = part.Other

-- past a block: that of a procedure has a value, the side of an `if` goes with it, and that of a loop has none
abbrev pub past_block : ValueRole → Way
past_block part.Procedure = End true
past_block part.NoElse = On Else
past_block part.Else = On Else
past_block part.Otherwise = On (Inside 0)
past_block p = End false

-- past an `if` or a loop: as an item it has no value, the last item of a block goes with the block, what stands
-- behind `else` goes with its `if`, and else there is a value
abbrev pub past_whole : ValueRole → Way
past_whole part.Item = End false
past_whole part.Last = On Last
past_whole part.Else = On Else
past_whole p = End true

abbrev pub past_else : ℕ → Way
past_else zero = On Else
past_else (suc n) = On (Inside n)

-- past a node inside of an `else`, inside of n others
abbrev pub past_inside : ℕ → ValueRole → Way
past_inside n part.Otherwise = On (Inside (suc n))
past_inside n part.Else = past_else n
past_inside n p = On (Inside n)

abbrev pub past : Reached → ValueRole → Way
past Block p = past_block p
past Last p = On Block
past Whole p = past_whole p
past Else p = On Whole
past (Inside n) p = past_inside n p

abbrev pub inside_of : Reached → ℕ
inside_of (Inside n) = n
inside_of r = 0

-- a value is wanted of what was gone past, where these nodes stand behind it
abbrev pub is_wanted : Reached → List Node → Bool
is_wanted r [] = false
is_wanted r (n ∷ ns) = elim (past r (part_of n.form)) [ On q ↦ is_wanted q ns | End b ↦ b ]

-- what the last node before a place has to do with values, looking back
abbrev pub part_last : List Node → ValueRole
part_last [] = part.Other
part_last (n ∷ ns) = part_of n.form

-- what ends with this may be an item
abbrev pub may_be_item : ValueRole → Bool
may_be_item part.If = true
may_be_item part.Loop = true
may_be_item p = false

abbrev pub block_by : ValueRole → ℕ → ℕ → Bool → Bool → Option Breach
block_by part.Last token end wanted item = cond (wanted || item) None (Some (record { token = end; problem = problem_is.Nowhere }))
block_by p token end wanted item = cond wanted (Some (record { token = token; problem = problem_is.ValueExpected })) None

-- a block of which a value is wanted ends with one, and no other block does, but for an `if` or a loop
abbrev pub block_breach : ℕ → Bool → List Node → Option Breach
block_breach token wanted [] = None
block_breach token wanted (n ∷ ns) = block_by (part_of n.form) token n.token wanted (may_be_item (part_last ns))

abbrev pub breach_unless : Bool → ℕ → CheckProblem → Option Breach
breach_unless there token p = cond there None (Some (record { token = token; problem = p }))

abbrev pub breach_by : ValueRole → ValueRole → List Node → Node → List Node → Option Breach
breach_by part.Block l before n behind = block_breach n.token (is_wanted Block behind) before
breach_by part.If part.NoElse before n behind = breach_unless (not (is_wanted Whole behind)) n.token problem_is.NoElse
breach_by part.Loop part.NoGive before n behind = breach_unless (not (is_wanted Whole behind)) n.token problem_is.NoGive
breach_by p l before n behind = None

-- what is not allowed of the value of a node, between those before it, the last one first, and those behind it: a block with a
-- value too much or too little, an `if` without `else` or a loop without `give` of which a value is wanted
abbrev pub breach_between : List Node → Node → List Node → Option Breach
breach_between before n behind = breach_by (part_of n.form) (part_last before) before n behind

abbrev pub breach_next : List Node → List Node → Option Breach
breach_next before [] = None
breach_next before (n ∷ ns) = breach_between before n ns

-- what is not allowed of the value of the node with the number i
abbrev pub value_breach : List Node → ℕ → Option Breach
value_breach nodes i = breach_next (reverse (take i nodes)) (drop i nodes)

abbrev pub before : Breach → Option Breach → Breach
before a o = before_by (λ (b : Breach). b.token) a o

abbrev pub first_of : Option Breach → Option Breach → Option Breach
first_of a o = first_by (λ (b : Breach). b.token) a o

abbrev pub IsLeast : (ℕ → Option Breach) → ℕ → Option Breach → Type 0
IsLeast f k o = IsLeastBy (λ (b : Breach). b.token) f k o
