-- Questions to the outside, and replies to them.
use Rattle.std.specs.Prelude.{◌≡◌, ℕ, true, List, [], length, is_some, if◌then◌else◌, Option, Some, None, Contains}
use Rattle.std.specs.List.{list_all}
use Rattle.u_value.specs.declared.value.Value.{Value}
use Rattle.u_program.specs.declared.program.Kind.{Kind}
use Rattle.u_program.specs.declared.program.Kind.TheVariants.{Ask}
use Rattle.u_program.specs.Parts.{StatementParts}
use Rattle.u_check.specs.Kinds.{ports_of, is_ask}
use Rattle.u_check.specs.Jobs.{JobParts}
use Rattle.u_check.specs.Tables.{TableRows, table_value}
use Rattle.u_rule.specs.Parts.{ValueList}
use Rattle.u_rule.specs.Fits.{statement_of}
use Rattle.u_rule.specs.Structures.{is_plain}
use Rattle.u_rule.specs.EntryOrder.{firing}
use Rattle.u_rule.specs.FiringReading.{IsWritten}
use Rattle.u_rule.specs.declared.firing.Firing.{Firing}
use Rattle.u_rule.specs.declared.parts.Written.{Written}

-- the firing is a reply: its activity asks, about numbers and truth values, and writes one
pub record IsReply (job : JobParts) (f : Firing) : Type 0 where
  pub it : StatementParts
  pub stands : statement_of job.program.blocks f.activity.block f.activity.statement ≡ Some it
  pub asks : is_ask it.kind ≡ true
  pub count : length f.values ≡ ports_of it.kind
  pub by : Written
  pub write : f.write ≡ Some by
  pub itself : by.writer ≡ f.activity
  pub plain : list_all is_plain f.values ≡ true
  pub value : is_plain by.value ≡ true

-- the service that a statement of that kind asks
abbrev pub service_of : Kind → List ℕ
service_of (Ask service n) = service
service_of k = []

-- what the table says to a statement of that kind about these values: something to an `ask` alone
abbrev pub value_for : TableRows → Kind → ValueList → Option Value
value_for table (Ask service n) vs = table_value table service vs
value_for table k vs = None

-- the firing is a reply that the table of the job has
pub record IsTold (job : JobParts) (f : Firing) : Type 0 where
  pub reply : IsReply job f
  pub said : value_for job.table reply.it.kind f.values ≡ Some reply.by.value

-- the firing is a reply, and the table of the job does not have it
pub record IsUntold (job : JobParts) (f : Firing) : Type 0 where
  pub reply : IsReply job f
  pub unsaid : value_for job.table reply.it.kind f.values ≡ Some reply.by.value → ⊥

-- What was replied is in its ranges. It comes from outside, so no law of runs says that it is.
abbrev pub HasFineReplies : JobParts → List Firing → Type 0
HasFineReplies job fs = (f : Firing) → Contains fs f → IsReply job f → IsWritten f.write

-- the question that a reply is to: the same values of the same activity, and no write
abbrev pub question_of : Firing → Firing
question_of f = firing f.activity f.values None

-- the reply of that value to a question
abbrev pub reply_to : Firing → Value → Firing
reply_to q v = firing q.activity q.values (Some (record { writer = q.activity; value = v }))

abbrev pub reply_with : Firing → Option Value → Option Firing
reply_with q None = None
reply_with q (Some v) = Some (reply_to q v)

-- the table's reply to a firing without a write, which is one of a statement of that kind
abbrev pub told_to : TableRows → Kind → Firing → Option Firing
told_to table k q = if is_some q.write then None else reply_with q (value_for table k q.values)
