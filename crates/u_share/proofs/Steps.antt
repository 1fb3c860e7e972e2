-- The steps of a turn, one after another.
use Rattle.std.specs.Prelude.{◌≡◌, ℕ, List, [], Ok, Err, Bool, true, false, Option, Some, None, refl}
use Rattle.std.proofs.Common.{sym, subst, arith}
use Rattle.u_base.specs.Pieces.{pieces}
use Rattle.u_check.specs.Jobs.{JobParts}
use Rattle.u_machine.specs.State.{State, IsMachine}
use Rattle.u_machine.specs.declared.answer.Ran.{Ran}
use Rattle.u_machine.specs.declared.answer.Ran.TheVariants as ran
use Rattle.u_share.specs.Headline.{Streams, streams, Member, member, blank, newcomer, IsQuietAndWhole, Shares, StopsSo}
use Rattle.u_share.specs.Calls.{IsBegun, BurstAnswer, LeadAnswer, QuietAnswer, GoesOn, EndsSo, HeardAnswer, TurnAnswer, PartAnswer}
use Rattle.u_share.specs.declared.fault.ShareFault.{ShareFault}
use Rattle.u_share.specs.declared.fault.ShareFault.TheVariants as faults
use Rattle.u_share.specs.declared.ended.Ended.{Ended}
use Rattle.u_share.specs.declared.ended.Ended.TheVariants as ended
use Rattle.u_share.proofs.Written.{appends_none, consumes_none}
use Rattle.u_share.proofs.Ending.{goes_nothing, begun_after}
use Rattle.u_share.proofs.Turned.{lead_goes, stays_on, stop_now, then_on, then_stops, then_ends, ends_quiet, part_fires}
use Rattle.u_share.proofs.Quieted.{shares}

pub on_nothing : (m : Member) (s : Streams) → IsBegun m.begun → GoesOn m m s s
on_nothing m s h = record {
  bytes = [];
  fired = [];
  told = [];
  goes = goes_nothing m h;
  passes = record { reader = consumes_none s.reader; writer = appends_none s.writer; notices = appends_none s.notices };
}

pub on_begun : (a b : Member) (s t : Streams) → GoesOn a b s t → IsBegun b.begun
on_begun a b s t p = begun_after a b p.bytes p.fired p.told p.goes

-- it fired, and was asked whether it is quiet
pub quiet_on : (old m new : State) (o : List ℕ) (e : ℕ) (r w v n : Option (List ℕ)) (is : Bool) → IsBegun o → LeadAnswer old w (Ok tt) m v → QuietAnswer m (Ok is) new → GoesOn (member old o e) (member new o e) (streams r w n) (streams r v n)
quiet_on old m new o e r w v n is h lead stays =
    then_on (member old o e) (member m o e) (member new o e) (streams r w n) (streams r v n) (streams r v n) (lead_goes old m o e r w v n h lead) (stays_on m new o e (streams r v n) h stays)

pub quiet_ends : (old m new : State) (o : List ℕ) (e : ℕ) (r w v n : Option (List ℕ)) (is : Bool) → IsBegun o → LeadAnswer old w (Ok tt) m v → QuietAnswer m (Ok is) new → EndsSo (member old o e) (member new o e) (streams r w n) (streams r v n) ended.Quiet
quiet_ends old m new o e r w v n is h lead stays =
    ends_quiet (member old o e) (member new o e) (streams r w n) (streams r v n) (quiet_on old m new o e r w v n is h lead stays)

pub quiet_stops : (old m new : State) (o : List ℕ) (e : ℕ) (r w v n : Option (List ℕ)) (fault : ShareFault) → IsBegun o → LeadAnswer old w (Ok tt) m v → QuietAnswer m (Err fault) new → StopsSo (member old o e) (streams r w n) (streams r v n) fault
quiet_stops old m new o e r w v n faults.Full h lead x = absurd x
quiet_stops old m new o e r w v n faults.NotReadable h lead x = absurd x
quiet_stops old m new o e r w v n faults.NotWritten h lead x = absurd x
quiet_stops old m new o e r w v n faults.NoMemory h lead x =
    then_stops (member old o e) (member m o e) (streams r w n) (streams r v n) (streams r v n) faults.NoMemory (lead_goes old m o e r w v n h lead) (stop_now (member m o e) (streams r v n) faults.NoMemory h tt)

-- and then it read
pub read_stops : (old m k : State) (new : Member) (o : List ℕ) (e : ℕ) (r w v n left after : Option (List ℕ)) (is : Bool) (fault : ShareFault) → IsBegun o → LeadAnswer old w (Ok tt) m v → QuietAnswer m (Ok is) k → HeardAnswer (member k o e) r n (Err fault) new left after → StopsSo (member old o e) (streams r w n) (streams left v after) fault
read_stops old m k new o e r w v n left after is fault h lead stays heard =
    then_stops (member old o e) (member k o e) (streams r w n) (streams r v n) (streams left v after) fault (quiet_on old m k o e r w v n is h lead stays) (heard v)

pub read_ends : (old m k : State) (new : Member) (o : List ℕ) (e : ℕ) (r w v n left after : Option (List ℕ)) (is at_end : Bool) → IsBegun o → LeadAnswer old w (Ok tt) m v → QuietAnswer m (Ok is) k → at_end ≡ true → HeardAnswer (member k o e) r n (Ok at_end) new left after → EndsSo (member old o e) new (streams r w n) (streams left v after) ended.Input
read_ends old m k new o e r w v n left after is at_end h lead stays is_so heard =
    then_ends (member old o e) (member k o e) new (streams r w n) (streams r v n) (streams left v after) ended.Input (quiet_on old m k o e r w v n is h lead stays)
    (subst (λ (b : Bool). HeardAnswer (member k o e) r n (Ok b) new left after) is_so heard v)

pub read_on : (old m k : State) (new : Member) (o : List ℕ) (e : ℕ) (r w v n left after : Option (List ℕ)) (is at_end : Bool) → IsBegun o → LeadAnswer old w (Ok tt) m v → QuietAnswer m (Ok is) k → at_end ≡ false → HeardAnswer (member k o e) r n (Ok at_end) new left after → GoesOn (member old o e) new (streams r w n) (streams left v after)
read_on old m k new o e r w v n left after is at_end h lead stays is_so heard =
    then_on (member old o e) (member k o e) new (streams r w n) (streams r v n) (streams left v after) (quiet_on old m k o e r w v n is h lead stays)
    (subst (λ (b : Bool). HeardAnswer (member k o e) r n (Ok b) new left after) is_so heard v)

-- turns, one after another
pub turns_stop : (a b : Member) (s t : Streams) → GoesOn a b s t → StopsSo a s t faults.NotReadable
turns_stop a b s t p = then_stops a b s t t faults.NotReadable p (stop_now b t faults.NotReadable (on_begun a b s t p) refl)

pub turns_end : (a b c : Member) (s t u : Streams) (x : Option Ended) (end : Ended) → GoesOn a b s t → x ≡ Some end → TurnAnswer b t (Ok x) c u → EndsSo a c s u end
turns_end a b c s t u x end p e ans = then_ends a b c s t u end p (subst (λ (y : Option Ended). TurnAnswer b t (Ok y) c u) e ans)

pub turns_on : (a b c : Member) (s t u : Streams) (x : Option Ended) → GoesOn a b s t → x ≡ None → TurnAnswer b t (Ok x) c u → GoesOn a c s u
turns_on a b c s t u x p e ans = then_on a b c s t u p (subst (λ (y : Option Ended). TurnAnswer b t (Ok y) c u) e ans)

-- the last burst
pub part_ends : (a b : Member) (s : Streams) (r w v n : Option (List ℕ)) (end : Ended) (times : ℕ) (how : Ran) (k : State) → EndsSo a b s (streams r w n) end → how ≡ ran.Quiet → BurstAnswer b.machine times w (Ok how) k v → PartAnswer a s (Ok end) (member k b.begun b.ended) (streams r v n)
part_ends a b s r w v n end times how k p e ans =
    let quiet = subst (λ (y : Ran). BurstAnswer b.machine times w (Ok y) k v) e ans in
    (part_fires a b s r w v n end times ran.Quiet k p quiet, at_end quiet)
  where
    at_end : BurstAnswer b.machine times w (Ok ran.Quiet) k v → IsQuietAndWhole k
    at_end (gs, fires, prints, q) = q

-- a member that has read nothing

pub nothing_begun : (o : List ℕ) → o ≡ [] → IsBegun o
unfolding pieces
nothing_begun o e = subst IsBegun (sym e) is
  where
    is : IsBegun []
    is = (refl, omega arith)

pub newly : (job : JobParts) (limit : ℕ) (m : State) (o : List ℕ) (e : ℕ) (P : Member → Type 0) → m ≡ blank job limit → o ≡ [] → e ≡ 0 → P (member m o e) → P (newcomer job limit)
newly job limit m o e P a b c p =
    subst (λ (x : State). P (member x [] 0)) a (subst (λ (x : List ℕ). P (member m x 0)) b (subst (λ (x : ℕ). P (member m o x)) c p))

pub no_member : (job : JobParts) (limit : ℕ) (s : Streams) → StopsSo (newcomer job limit) s s faults.NoMemory
no_member job limit s = stop_now (newcomer job limit) s faults.NoMemory (nothing_begun [] refl) tt

pub member_ends : (job : JobParts) (limit : ℕ) (m : State) (o : List ℕ) (e : ℕ) (before after : Streams) (new : Member) (end : Ended) → m ≡ blank job limit → o ≡ [] → e ≡ 0 → PartAnswer (member m o e) before (Ok end) new after → IsMachine new.machine → Shares job limit before after new.machine end
member_ends job limit m o e before after new end a b c p is =
    let q = newly job limit m o e (λ x. PartAnswer x before (Ok end) new after) a b c p in
    shares job limit before after new end q.0 is q.1

pub member_stops : (job : JobParts) (limit : ℕ) (m : State) (o : List ℕ) (e : ℕ) (before after : Streams) (new : Member) (fault : ShareFault) → m ≡ blank job limit → o ≡ [] → e ≡ 0 → PartAnswer (member m o e) before (Err fault) new after → StopsSo (newcomer job limit) before after fault
member_stops job limit m o e before after new fault a b c p =
    newly job limit m o e (λ x. StopsSo x before after fault) a b c p
