-- Replies by a function: what a run comes to depends on the program, the argument and the function alone.
--
-- A question is a firing of an `ask` without a write. It gives a structure of one cell, and a reply to it
-- writes that cell. A run is at its end where none of its own firings is left, and no question is open.
use Rattle.std.specs.Prelude.{◌≡◌, ◌⊎◌, ◌↔◌, ℕ, true, IsTrue, List, Some, None, Contains}
use Rattle.std.specs.List.{list_all}
use Rattle.u_base.specs.Firing.{Held, Enabled, Derivation, Cl, Same}
use Rattle.u_value.specs.declared.value.Value.{Value}
use Rattle.u_program.specs.Parts.{StatementParts}
use Rattle.u_check.specs.Kinds.{is_ask}
use Rattle.u_check.specs.Tables.{TableRows}
use Rattle.u_check.specs.Jobs.{JobParts, job}
use Rattle.u_rule.specs.Parts.{ValueList}
use Rattle.u_rule.specs.Fits.{statement_of}
use Rattle.u_rule.specs.Structures.{is_plain}
use Rattle.u_rule.specs.Rule.{is_inner_of, system_of, own_of}
use Rattle.u_rule.specs.Replies.{IsReply, service_of, value_for, reply_to}
use Rattle.u_rule.specs.declared.firing.Firing.{Firing}

-- what services say: a value for each service and each list of values
abbrev pub Oracle : Type 0
Oracle = List ℕ → ValueList → Value

-- the reply is what the services say
abbrev pub Says : Oracle → (j : JobParts) → (f : Firing) → IsReply j f → Type 0
Says F j f r = r.by.value ≡ F (service_of r.it.kind) f.values

-- Each reply among the firings is. So is what the table of the job has, where its replies are among them.
abbrev pub RepliesBy : JobParts → Oracle → List Firing → Type 0
RepliesBy j F fs = (f : Firing) → Contains fs f → (r : IsReply j f) → Says F j f r

-- The question is open: it was asked, about numbers and truth values, the table has no value for it, and not
-- one reply to it is among the firings. That its cell has a write, by a `store` or by a reply of its activity
-- to another question, does not close it. If it did, two runs could each take one reply, store it for the
-- other question, and end apart.
pub record IsOpen (j : JobParts) (fs : List Firing) (q : Firing) : Type 0 where
  pub fired : Contains fs q
  pub it : StatementParts
  pub stands : statement_of j.program.blocks q.activity.block q.activity.statement ≡ Some it
  pub asks : is_ask it.kind ≡ true
  pub no_write : q.write ≡ None
  pub plain : list_all is_plain q.values ≡ true
  pub unknown : value_for j.table it.kind q.values ≡ None
  pub unanswered : (v : Value) → Contains fs (reply_to q v) → ⊥

-- a run at its end, whose replies the services say
pub record EndsBy (j : JobParts) (F : Oracle) (fs : List Firing) : Type 0 where
  pub run : Derivation (system_of j) fs
  pub quiet : (f : Firing) → Enabled (own_of j) (Held (system_of j) fs) f → Contains fs f
  pub none_open : (q : Firing) → IsOpen j fs q → ⊥
  pub replies : RepliesBy j F fs

-- what may fire with those services: all inner firings, and all replies that the services say
abbrev pub MayFireBy : JobParts → Oracle → Firing → Type 0
MayFireBy j F f = IsTrue (is_inner_of j f) ⊎ ((r : IsReply j f) × Says F j f r)

-- The run holds all that any run with those services holds, and its firings are those that may fire and are
-- enabled over it.
pub record IsWholeBy (j : JobParts) (F : Oracle) (fs : List Firing) : Type 0 where
  pub holds : Same (Held (system_of j) fs) (Cl (system_of j) (MayFireBy j F))
  pub fired : (f : Firing) → Contains fs f ↔ (MayFireBy j F f × Enabled (system_of j) (Held (system_of j) fs) f)

-- so does each run at its end
abbrev pub EndsWhole : JobParts → Type 0
EndsWhole j = (F : Oracle) (fs : List Firing) → EndsBy j F fs → IsWholeBy j F fs

-- the job with that table in place of its own
abbrev pub with_table : JobParts → TableRows → JobParts
with_table j table = job j.program j.argument table

-- Two runs at their end, with whatever tables, hold the same and fired the same, in whatever order, by
-- whichever workers and how often the replies came.
abbrev pub HasOneOutcome : JobParts → Type 0
HasOneOutcome j =
    (F : Oracle) (one other : TableRows) (fs gs : List Firing) → EndsBy (with_table j one) F fs → EndsBy (with_table j other) F gs
    → Same (Held (system_of (with_table j one)) fs) (Held (system_of (with_table j other)) gs) × Same (Contains fs) (Contains gs)
