-- The orders of what a history lists: values, writes, pairs of a writer and a value, tokens and faults.
use Rattle.std.specs.declared.cmp.Ordering.{Ordering}
use Rattle.u_value.specs.declared.value.Value.{Value}
use Rattle.u_value.specs.contracts.value.ValueOrd.TheImpl as value_ord
use Rattle.u_rule.specs.Parts.{TokenParts}
use Rattle.u_rule.specs.declared.parts.Write.{Write}
use Rattle.u_rule.specs.declared.parts.Fault.{Fault}
use Rattle.u_rule.specs.declared.parts.Written.{Written}
use Rattle.u_rule.specs.contracts.parts.WrittenOrd.TheImpl as written_ord
use Rattle.u_rule.specs.contracts.parts.TokenOrd.TheImpl as token_ord
use Rattle.u_rule.specs.contracts.parts.WriteOrd.TheImpl as write_ord
use Rattle.u_rule.specs.contracts.parts.FaultOrd.TheImpl as fault_ord

abbrev pub value_order : Value → Value → Ordering
value_order = (value_ord.ghosts).cmp

abbrev pub write_order : Write → Write → Ordering
write_order = (write_ord.ghosts).cmp

abbrev pub token_order : TokenParts → TokenParts → Ordering
token_order = (token_ord.ghosts).cmp

abbrev pub fault_order : Fault → Fault → Ordering
fault_order = (fault_ord.ghosts).cmp

abbrev pub written_order : Written → Written → Ordering
written_order = (written_ord.ghosts).cmp
