-- Firings, lists of them and the ends of an outlet may cross threads.
-- A type above contexts, which share their parts, gets no generated law of this, so the laws stand here.
use denote.RattleType.{RattleType}
use denote.Param.Send.{IsSend, IsSync, sendable}
use Rattle.core.proofs.marker.PhantomData.TheSendSync as phantom
use Rattle.std.proofs.Crossing.{crosses}
use Rattle.std.proofs.alloc.Global.TheSendSync as global
use Rattle.std.below.std_heap.proofs.GlobalAllocator.TheSendSync as frees
use Rattle.std.proofs.option.Option.TheSendSync as option_laws
use Rattle.left_right.proofs.reader.Reader.TheSendSync as reader
use Rattle.u_name.proofs.context.Context.TheLaws.TheKnot as knot
use Rattle.u_name.specs.contracts.name.Name as name
use Rattle.u_rule.specs.contracts.firing.Firing as firing
use Rattle.u_rule.specs.contracts.parts.Written as written
use Rattle.u_rule.specs.contracts.shared_written.SharedWritten as shared_written
use Rattle.u_rule.specs.contracts.values.Values as values
use Rattle.u_outlet.specs.declared.named.Named as named
use Rattle.u_outlet.specs.contracts.published.Published as published
use Rattle.u_outlet.specs.contracts.ends.Inlet as inlet
use Rattle.u_outlet.specs.contracts.ends.Notice as notice

pub name_send : IsSend name.the_row
name_send = search (crosses, knot.crosses, sendable) depth 60 fits 20000

pub name_sync : IsSync name.the_row
name_sync = search (crosses, knot.crosses, sendable) depth 60 fits 20000

pub values_send : IsSend values.the_row
values_send = search (name_send, name_sync, crosses, knot.crosses, sendable) depth 60 fits 20000

pub values_sync : IsSync values.the_row
values_sync = search (name_send, name_sync, crosses, knot.crosses, sendable) depth 60 fits 20000

pub written_send : IsSend written.the_row
written_send = search (name_send, name_sync, crosses, knot.crosses, sendable) depth 60 fits 20000

pub written_sync : IsSync written.the_row
written_sync = search (name_send, name_sync, crosses, knot.crosses, sendable) depth 60 fits 20000

pub shared_send : IsSend shared_written.the_row
shared_send = search (written_send, written_sync, crosses, knot.crosses, sendable) depth 60 fits 20000

pub shared_sync : IsSync shared_written.the_row
shared_sync = search (written_send, written_sync, crosses, knot.crosses, sendable) depth 60 fits 20000

pub firing_send : IsSend firing.the_row
firing_send = search (name_send, values_send, shared_send, option_laws.the_send, crosses, sendable) depth 60 fits 20000

pub firing_sync : IsSync firing.the_row
firing_sync = search (name_sync, values_sync, shared_sync, option_laws.the_sync, crosses, sendable) depth 60 fits 20000

pub published_send : (J : RattleType) (g : named.Ghosts J.Denot) → IsSend (published.the_row J g)
published_send J g = search (firing_send, firing_sync, phantom.the_field_send, phantom.the_send, global.the_send, global.the_field_send, crosses, sendable) depth 60 fits 20000

pub published_sync : (J : RattleType) (g : named.Ghosts J.Denot) → IsSync (published.the_row J g)
published_sync J g = search (firing_send, firing_sync, phantom.the_field_sync, phantom.the_sync, global.the_sync, global.the_field_sync, crosses, sendable) depth 60 fits 20000

pub inlet_send : (J : RattleType) (g : named.Ghosts J.Denot) → IsSend (inlet.the_row J g)
inlet_send J g = search (published_send, published_sync, reader.the_field_send, reader.the_send, global.the_send, global.the_sync, global.the_field_send, frees.the_frees, crosses, sendable) depth 60 fits 20000

pub notice_send : (J : RattleType) (g : named.Ghosts J.Denot) → IsSend (notice.the_row J g)
notice_send J g = search (published_send, published_sync, reader.the_field_send, reader.the_send, global.the_send, global.the_sync, global.the_field_send, frees.the_frees, crosses, sendable) depth 60 fits 20000
