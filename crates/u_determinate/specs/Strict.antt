-- Strict programs: each port has one source, each procedure one end, each return one call, and
-- each loop one test. They are for runs in which two values come to one port only by two writes of
-- one cell. Each rule stands with a program that breaks it alone: on the argument 0 it gives two
-- answers, of which one is 5, and writes no cell.
use Rattle.std.specs.Prelude.{◌≡◌, ℕ, ◌≤◌, Bool, true, false, List, length, Contains, Some, ◌⊎◌}
use Rattle.u_name.specs.Context.{IsBetween}
use Rattle.u_program.specs.declared.program.Kind.{Kind}
use Rattle.u_program.specs.declared.program.Kind.TheVariants.{Switch, Enter, Next, Last, Leave}
use Rattle.u_program.specs.declared.program.Kind.TheVariants.{Apply, Back, Store, End}
use Rattle.u_program.specs.Parts.{StatementParts, BlockParts}
use Rattle.u_check.specs.Kinds.{ports_of, comes_from_outside}
use Rattle.u_check.specs.Rules.{statement_at, Arc}
use Rattle.u_determinate.specs.Arcs.{Leads, OnlyArc, ArcFrom, IsAppliedOnce}

-- one arc from an `enter` and one from a `next` lead to that port, and no other
pub record EnterAndNext (ss : List StatementParts) (n port : ℕ) : Type 0 where
  pub enter : Arc
  pub next : Arc
  pub enter_leads : Leads ss n port enter
  pub next_leads : Leads ss n port next
  pub loop : ℕ
  pub from_enter : ArcFrom ss enter (Enter loop)
  pub from_next : ArcFrom ss next Next
  pub only : (a : Arc) → Leads ss n port a → (a ≡ enter) ⊎ (a ≡ next)

-- each port of statement n has one arc, or one from an `enter` and one from a `next`
abbrev pub HasOneSource : List StatementParts → ℕ → Kind → Type 0
HasOneSource ss n k =
    (port : ℕ)
    → IsBetween 1 port (ports_of k)
    → ((a : Arc) × OnlyArc ss n port a) ⊎ EnterAndNext ss n port

-- The only arc to port 1 of statement n comes from that list of a `switch` of region l, and the
-- only arc to the control of that `switch` comes from statement t.
pub record IsGuarded (ss : List StatementParts) (l t : ℕ) (on_false : Bool) (n : ℕ) : Type 0 where
  pub arc : Arc
  pub alone : OnlyArc ss n 1 arc
  pub side : arc.on_false ≡ on_false
  pub switch : ArcFrom ss arc Switch
  pub region : switch.it.region ≡ l
  pub control : Arc
  pub controls : OnlyArc ss arc.statement 2 control
  pub test : control.statement ≡ t

-- the kinds that can be a loop's test
abbrev pub is_test : Kind → Bool
is_test (Enter l) = false
is_test Next = false
is_test Last = false
is_test Leave = false
is_test Switch = false
is_test (Apply b n) = false
is_test Store = false
is_test End = false
is_test k = true

-- a statement of region l on which alone it depends whether the loop goes on
pub record IsTested (ss : List StatementParts) (l : ℕ) : Type 0 where
  pub test : ℕ
  pub it : StatementParts
  pub stands : statement_at ss test ≡ Some it
  pub region : it.region ≡ l
  pub kind : is_test it.kind ≡ true
  -- each `next` has its value from what some `switch` of the loop sends where the test is true
  pub nexts : (n : ℕ) (s : StatementParts)
      → statement_at ss n ≡ Some s
      → s.region ≡ l
      → s.kind ≡ Next
      → IsGuarded ss l test false n
  -- and each `last` from what one sends where it is false
  pub lasts : (n : ℕ) (s : StatementParts)
      → statement_at ss n ≡ Some s
      → s.region ≡ l
      → s.kind ≡ Last
      → IsGuarded ss l test true n

pub record IsStrictBlock (b : BlockParts) : Type 0 where
  -- One source for each port: without it two statements give a port a value each.
  --   1 0 begin -> 2.1 3.1
  --   2 0 const 5 -> 4.1
  --   3 0 const 6 -> 4.1
  --   4 0 end ->
  pub one_source : (n : ℕ) (s : StatementParts)
      → statement_at b.statements n ≡ Some s
      → comes_from_outside s.kind ≡ false
      → HasOneSource b.statements n s.kind
  -- One `end` in a block: without it one call has two results.
  --   1 0 begin -> 2.1 3.1
  --   2 0 const 5 -> 4.1
  --   3 0 end ->
  --   4 0 end ->
  pub one_end : (m n : ℕ) (s t : StatementParts)
      → statement_at b.statements m ≡ Some s
      → statement_at b.statements n ≡ Some t
      → s.kind ≡ End
      → t.kind ≡ End
      → m ≡ n
  -- One `apply` for each `back`: without it the results of two calls come back at one statement.
  --   1 0 begin -> 2.1 3.1 4.2
  --   2 0 const 5 -> 5.2
  --   3 0 const @same -> 4.1 5.1
  --   4 0 apply 6 ->
  --   5 0 apply 6 ->
  --   6 0 back -> 7.1
  --   7 0 end ->
  --   block same
  --   1 0 begin -> 2.1
  --   2 0 end ->
  pub one_apply : (n : ℕ) (s : StatementParts)
      → statement_at b.statements n ≡ Some s
      → s.kind ≡ Back
      → IsAppliedOnce b.statements n
  -- One test for each loop: without it a `last` hands a value out of each of two turns.
  --   loop 1 0
  --   1 0 begin -> 2.1
  --   2 0 enter 1 -> 3.1 4.1
  --   3 1 const 5 -> 5.1
  --   4 1 last -> 6.1
  --   5 1 next -> 3.1 4.1
  --   6 1 leave -> 7.1
  --   7 0 end ->
  pub one_test : (l : ℕ) → 1 ≤ l → l ≤ length b.loops → IsTested b.statements l

-- each block is strict
abbrev pub IsStrict : List BlockParts → Type 0
IsStrict p = (b : BlockParts) → Contains p b → IsStrictBlock b
