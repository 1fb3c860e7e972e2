-- How turns go on, with what was read and written.
use Rattle.std.specs.Prelude.{◌≡◌, ℕ, List, [], ◌++◌, take, Contains, Ok, Err, true, Option, refl}
use Rattle.std.proofs.Common.{sym, ◌∙◌, subst, inl, inr, arith, append_assoc, append-nil}
use Rattle.std.specs.Io.KnownBytes.{Appends, Consumes, IsAtEnd}
use Rattle.u_base.proofs.Member.{Contains-nil}
use Rattle.u_rule.specs.declared.firing.Firing.{Firing}
use Rattle.u_machine.specs.State.{State}
use Rattle.u_machine.specs.Calls.{Applies, Fires, RunAnswer}
use Rattle.u_machine.specs.declared.answer.Ran.{Ran}
use Rattle.u_machine.specs.declared.answer.Ran.TheVariants as ran
use Rattle.u_machine.proofs.Lists.{nil_of_length}
use Rattle.u_machine.proofs.States.{grows_refl}
use Rattle.u_machine.proofs.Runs.{Fires-nil}
use Rattle.u_share.specs.Lines.{text_of, open_notice}
use Rattle.u_share.specs.Headline.{Streams, streams, Member, member, Gains, Goes, IsLast, IsStop, IsLastAt, WritesAt, StopsSo}
use Rattle.u_share.specs.Calls.{IsBegun, Tells, Stays, IsStopAtLine, HearAnswer, Prints, BurstAnswer, LeadAnswer, ReadAnswer, GoesOn, EndsSo, HeardAnswer}
use Rattle.u_share.specs.declared.fault.ShareFault.{ShareFault}
use Rattle.u_share.specs.declared.fault.ShareFault.TheVariants as faults
use Rattle.u_share.specs.declared.ended.Ended.{Ended}
use Rattle.u_share.specs.declared.ended.Ended.TheVariants as ended
use Rattle.u_share.proofs.Written.{appends_none, appends_more, consumes_none, consumes_more, kept_consumes, front_none, at_fault, fault_behind}
use Rattle.u_share.proofs.Going.{goes_on, gains_same}
use Rattle.u_share.proofs.Ending.{goes_within, goes_nothing, goes_stays, begun_after, begun_nothing, first_of_begun}
use Rattle.u_share.proofs.Printing.{text_append}

-- what is fired

pub applies_same : (m : State) → Applies m m
applies_same m = record { grows = grows_refl m; taken = λ f. ((λ t. t), λ t. t); count = refl }

fires_gain : (old new : State) (gs : List Firing) → Fires old gs new → Gains old (Contains gs) new
fires_gain old new gs r = record { job = r.grows.job; limit = r.grows.limit; taken = r.taken }

-- a member that fires so
pub goes_fires : (a b : Member) (bs : List ℕ) (fs gs : List Firing) (t : List ℕ) (k : State) → Goes a bs fs t b → Fires b.machine gs k → Goes a bs (fs ++ gs) t (member k b.begun b.ended)
goes_fires a b bs fs gs t k p r =
    let h = begun_after a b bs fs t p in
    let c = member k b.begun b.ended in
    let q = goes_within b c [] b.begun gs (begun_nothing b.begun h) (fires_gain b.machine k gs r) r.each (sym (first_of_begun b.begun h)) refl in
    subst (λ (x : List ℕ). Goes a x (fs ++ gs) t c) (append-nil bs)
    (subst (λ (x : List ℕ). Goes a (bs ++ []) (fs ++ gs) x c) (append-nil t) (goes_on a b c bs [] fs gs t [] p q))

prints_all : (a b : Option (List ℕ)) (text : List ℕ) → Prints a b text [] → Appends a b text
prints_all a b text p = subst (Appends a b) (sym (p.is ∙ append-nil p.out)) p.written

-- a burst that fails
burst_stop : (old new : State) (times : ℕ) (a b : Option (List ℕ)) (fault : ShareFault) (o : List ℕ) (e : ℕ) → BurstAnswer old times a (Err fault) new b → (gs : List Firing) × (k : State) × Fires old gs k × IsStop (member k o e) [] fault × WritesAt fault a b (text_of gs)
burst_stop old new times a b faults.Full o e (gs, r, p, full) = (gs, new, r, inl (refl, full), prints_all a b (text_of gs) p)
burst_stop old new times a b faults.NotReadable o e x = absurd x
burst_stop old new times a b faults.NotWritten o e (gs, k, r, front) = (gs, k, r, tt, front)
burst_stop old new times a b faults.NoMemory o e (gs, k, r, front) = (gs, k, r, tt, front)

-- what may be told last

none_last : (fault : ShareFault) (m : Member) (rest : List ℕ) (left : Option (List ℕ)) → IsLastAt m rest left fault []
none_last faults.Full m rest left = inl refl
none_last faults.NotReadable m rest left = refl
none_last faults.NotWritten m rest left = inl refl
none_last faults.NoMemory m rest left = inl refl

last_after : (b : Member) (k : State) (left : Option (List ℕ)) (end : Ended) (last : List ℕ) → IsLast b left end last → IsLast (member k b.begun b.ended) left end last
last_after b k left ended.Quiet last p = p
last_after b k left ended.Input last p = p

either_last : (b : Member) (k : State) (left : Option (List ℕ)) (end : Ended) (last : List ℕ) → IsLast b left end last → IsLastAt (member k b.begun b.ended) [] left faults.Full last
either_last b k left ended.Quiet last p = inl p
either_last b k left ended.Input last p = inr (refl, p)

-- where a burst failed, no read did
last_at : (b : Member) (k : State) (left : Option (List ℕ)) (end : Ended) (last : List ℕ) (fault : ShareFault) (times : ℕ) (w v : Option (List ℕ)) (new : State) → BurstAnswer b.machine times w (Err fault) new v → IsLast b left end last → IsLastAt (member k b.begun b.ended) [] left fault last
last_at b k left end last faults.Full times w v new a p = either_last b k left end last p
last_at b k left end last faults.NotReadable times w v new a p = absurd a
last_at b k left end last faults.NotWritten times w v new a p = either_last b k left end last p
last_at b k left end last faults.NoMemory times w v new a p = either_last b k left end last p

-- if it leads

pub lead_not : (m : State) (a : Option (List ℕ)) → LeadAnswer m a (Ok tt) m a
lead_not m a = ([], Fires-nil m m (applies_same m), appends_none a)

pub lead_goes : (old new : State) (o : List ℕ) (e : ℕ) (r w v n : Option (List ℕ)) → IsBegun o → LeadAnswer old w (Ok tt) new v → GoesOn (member old o e) (member new o e) (streams r w n) (streams r v n)
lead_goes old new o e r w v n h (gs, fires, written) = record {
  bytes = [];
  fired = gs;
  told = [];
  goes = goes_fires (member old o e) (member old o e) [] [] gs [] new (goes_nothing (member old o e) h) fires;
  passes = record { reader = consumes_none r; writer = written; notices = appends_none n };
}

pub lead_stops : (old new : State) (o : List ℕ) (e : ℕ) (r w v n : Option (List ℕ)) (fault : ShareFault) → IsBegun o → LeadAnswer old w (Err fault) new v → StopsSo (member old o e) (streams r w n) (streams r v n) fault
lead_stops old new o e r w v n fault h (times, ans) =
    let (gs, k, fires, s, at) = burst_stop old new times w v fault o e ans in
    record {
      bytes = [];
      rest = [];
      fired = gs;
      told = [];
      last = [];
      mid = member k o e;
      goes = goes_fires (member old o e) (member old o e) [] [] gs [] k (goes_nothing (member old o e) h) fires;
      stop = s;
      ends = none_last fault (member k o e) [] r;
      passes = record { reader = consumes_none r; writer = at; notices = at_fault fault n n [] (appends_none n) };
    }

-- whether it is quiet

fired_none : (old new : State) (gs : List Firing) → Fires old gs new → gs ≡ [] → Stays old new
fired_none old new gs r e = gains_same old new (Contains gs) (λ f. ⊥) (fires_gain old new gs r) (λ f n. absurd n) (λ f c. Contains-nil f (subst (λ (xs : List Firing). Contains xs f) e c))

pub run_stays : (old new : State) (end : Ran) → RunAnswer old 0 (Ok end) new → Stays old new
run_stays old new ran.Quiet a = fired_none old new a.0 a.1.fires (nil_of_length a.0 (let few = a.2 in omega (arith, few)))
run_stays old new ran.Paused a = fired_none old new a.0 a.1.fires (nil_of_length a.0 a.2)

pub stays_on : (old new : State) (o : List ℕ) (e : ℕ) (s : Streams) → IsBegun o → Stays old new → GoesOn (member old o e) (member new o e) s s
stays_on old new o e s h p = record {
  bytes = [];
  fired = [];
  told = [];
  goes = goes_stays (member old o e) new h p;
  passes = record { reader = consumes_none s.reader; writer = appends_none s.writer; notices = appends_none s.notices };
}

-- nothing was read or fired
stops_still : (m : Member) (r l w n k : Option (List ℕ)) (fault : ShareFault) (last : List ℕ) → IsBegun m.begun → IsStop m [] fault → IsLastAt m [] l fault last → Consumes r l [] → WritesAt fault n k last → StopsSo m (streams r w n) (streams l w k) fault
stops_still m r l w n k fault last h stop ends reader notices = record {
  bytes = [];
  rest = [];
  fired = [];
  told = [];
  last = last;
  mid = m;
  goes = goes_nothing m h;
  stop = stop;
  ends = ends;
  passes = record { reader = reader; writer = at_fault fault w w [] (appends_none w); notices = notices };
}

pub stop_now : (m : Member) (s : Streams) (fault : ShareFault) → IsBegun m.begun → IsStop m [] fault → StopsSo m s s fault
stop_now m s fault h stop =
    stops_still m s.reader s.reader s.writer s.notices s.notices fault [] h stop (none_last fault m [] s.reader) (consumes_none s.reader) (at_fault fault s.notices s.notices [] (appends_none s.notices))

-- one after another

pub then_on : (a b c : Member) (s t u : Streams) → GoesOn a b s t → GoesOn b c t u → GoesOn a c s u
then_on a b c s t u p q = record {
  bytes = p.bytes ++ q.bytes;
  fired = p.fired ++ q.fired;
  told = p.told ++ q.told;
  goes = goes_on a b c p.bytes q.bytes p.fired q.fired p.told q.told p.goes q.goes;
  passes = record {
    reader = consumes_more s.reader t.reader u.reader p.bytes q.bytes p.passes.reader q.passes.reader;
    writer = subst (Appends s.writer u.writer) (sym (text_append p.fired q.fired)) (appends_more s.writer t.writer u.writer (text_of p.fired) (text_of q.fired) p.passes.writer q.passes.writer);
    notices = appends_more s.notices t.notices u.notices p.told q.told p.passes.notices q.passes.notices;
  };
}

pub then_stops : (a b : Member) (s t u : Streams) (fault : ShareFault) → GoesOn a b s t → StopsSo b t u fault → StopsSo a s u fault
then_stops a b s t u fault p q = record {
  bytes = p.bytes ++ q.bytes;
  rest = q.rest;
  fired = p.fired ++ q.fired;
  told = p.told ++ q.told;
  last = q.last;
  mid = q.mid;
  goes = goes_on a b q.mid p.bytes q.bytes p.fired q.fired p.told q.told p.goes q.goes;
  stop = q.stop;
  ends = q.ends;
  passes = record {
    reader = subst (Consumes s.reader u.reader) (sym (append_assoc p.bytes q.bytes q.rest)) (consumes_more s.reader t.reader u.reader p.bytes (q.bytes ++ q.rest) p.passes.reader q.passes.reader);
    writer = subst (WritesAt fault s.writer u.writer) (sym (text_append p.fired q.fired)) (fault_behind fault s.writer t.writer u.writer (text_of p.fired) (text_of q.fired) p.passes.writer q.passes.writer);
    notices = subst (WritesAt fault s.notices u.notices) (sym (append_assoc p.told q.told q.last)) (fault_behind fault s.notices t.notices u.notices p.told (q.told ++ q.last) p.passes.notices q.passes.notices);
  };
}

pub then_ends : (a b c : Member) (s t u : Streams) (end : Ended) → GoesOn a b s t → EndsSo b c t u end → EndsSo a c s u end
then_ends a b c s t u end p q = record {
  bytes = p.bytes ++ q.bytes;
  fired = p.fired ++ q.fired;
  told = p.told ++ q.told;
  last = q.last;
  goes = goes_on a b c p.bytes q.bytes p.fired q.fired p.told q.told p.goes q.goes;
  passes = record {
    reader = consumes_more s.reader t.reader u.reader p.bytes q.bytes p.passes.reader q.passes.reader;
    writer = subst (Appends s.writer u.writer) (sym (text_append p.fired q.fired)) (appends_more s.writer t.writer u.writer (text_of p.fired) (text_of q.fired) p.passes.writer q.passes.writer);
    notices = subst (Appends s.notices u.notices) (sym (append_assoc p.told q.told q.last)) (appends_more s.notices t.notices u.notices p.told (q.told ++ q.last) p.passes.notices q.passes.notices);
  };
  ends = q.ends;
}

-- nothing is ready
pub ends_quiet : (a b : Member) (s t : Streams) → GoesOn a b s t → EndsSo a b s t ended.Quiet
ends_quiet a b s t p = record {
  bytes = p.bytes;
  fired = p.fired;
  told = p.told;
  last = [];
  goes = p.goes;
  passes = record { reader = p.passes.reader; writer = p.passes.writer; notices = subst (Appends s.notices t.notices) (sym (append-nil p.told)) p.passes.notices };
  ends = refl;
}

-- what is read

pub read_fails : (old b : Member) (chunk : List ℕ) (r l n : Option (List ℕ)) (fault : ShareFault) → IsBegun old.begun → ReadAnswer r (Err fault) chunk l → HeardAnswer old r n (Err fault) b l n
read_fails old b chunk r l n faults.Full h x w = absurd x
read_fails old b chunk r l n faults.NotReadable h x w =
    stops_still old r l w n n faults.NotReadable [] h refl refl (kept_consumes r l x) (appends_none n)
read_fails old b chunk r l n faults.NotWritten h x w = absurd x
read_fails old b chunk r l n faults.NoMemory h x w = absurd x

none_read : (r l : Option (List ℕ)) (chunk : List ℕ) (count : ℕ) → ReadAnswer r (Ok count) chunk l → count ≡ 0 → Consumes r l [] × IsAtEnd l
none_read r l chunk count (few, c, end) e = (subst (λ (k : ℕ). Consumes r l (take k chunk)) e c, end e)

-- the input ended, and the open line is told of
pub read_ended : (old : Member) (chunk : List ℕ) (count : ℕ) (r l n k : Option (List ℕ)) → IsBegun old.begun → ReadAnswer r (Ok count) chunk l → count ≡ 0 → Tells n (open_notice old.begun old.ended) (Ok tt) k → HeardAnswer old r n (Ok true) old l k
read_ended old chunk count r l n k h read e x w =
    let (c, end) = none_read r l chunk count read e in
    record {
      bytes = [];
      fired = [];
      told = [];
      last = open_notice old.begun old.ended;
      goes = goes_nothing old h;
      passes = record { reader = c; writer = appends_none w; notices = x };
      ends = (end, refl);
    }

pub untold : (old b : Member) (chunk : List ℕ) (count : ℕ) (r l n k : Option (List ℕ)) (fault : ShareFault) → IsBegun old.begun → ReadAnswer r (Ok count) chunk l → count ≡ 0 → Tells n (open_notice old.begun old.ended) (Err fault) k → HeardAnswer old r n (Err fault) b l k
untold old b chunk count r l n k faults.Full h read e x w = absurd x
untold old b chunk count r l n k faults.NotReadable h read e x w = absurd x
untold old b chunk count r l n k faults.NotWritten h read e x w =
    let (c, end) = none_read r l chunk count read e in
    stops_still old r l w n k faults.NotWritten (open_notice old.begun old.ended) h tt (inr (refl, (end, refl))) c x
untold old b chunk count r l n k faults.NoMemory h read e x w =
    let (c, end) = none_read r l chunk count read e in
    stops_still old r l w n k faults.NoMemory [] h tt (inl refl) c (front_none n k [] x)

-- a line stops the member
at_line : (m : Member) (rest : List ℕ) (fault : ShareFault) → IsStopAtLine m rest fault → IsStop m rest fault
at_line m rest faults.Full s = inr s
at_line m rest faults.NotReadable s = absurd s
at_line m rest faults.NotWritten s = tt
at_line m rest faults.NoMemory s = tt

pub heard_fails : (old new : Member) (chunk : List ℕ) (count : ℕ) (r l n k : Option (List ℕ)) (fault : ShareFault) → ReadAnswer r (Ok count) chunk l → HearAnswer {A = Unit {0}} old (take count chunk) n (Err fault) new k → HeardAnswer old r n (Err fault) new l k
heard_fails old new chunk count r l n k fault (few, c, end) (told, s, written) w = record {
  bytes = s.front;
  rest = s.rest;
  fired = [];
  told = told;
  last = [];
  mid = s.mid;
  goes = s.goes;
  stop = at_line s.mid s.rest fault s.stop;
  ends = none_last fault s.mid s.rest l;
  passes = record {
    reader = subst (Consumes r l) s.cut c;
    writer = at_fault fault w w [] (appends_none w);
    notices = subst (WritesAt fault n k) (sym (append-nil told)) written;
  };
}

-- the last burst

pub part_fires : (a b : Member) (s : Streams) (r w v n : Option (List ℕ)) (end : Ended) (times : ℕ) (ran : Ran) (k : State) → EndsSo a b s (streams r w n) end → BurstAnswer b.machine times w (Ok ran) k v → EndsSo a (member k b.begun b.ended) s (streams r v n) end
part_fires a b s r w v n end times ran k p (gs, fires, prints, e) = record {
  bytes = p.bytes;
  fired = p.fired ++ gs;
  told = p.told;
  last = p.last;
  goes = goes_fires a b p.bytes p.fired gs p.told k p.goes fires;
  passes = record {
    reader = p.passes.reader;
    writer = subst (Appends s.writer v) (sym (text_append p.fired gs)) (appends_more s.writer w v (text_of p.fired) (text_of gs) p.passes.writer (prints_all w v (text_of gs) prints));
    notices = p.passes.notices;
  };
  ends = last_after b k r end p.last p.ends;
}

pub part_stops : (a b : Member) (s : Streams) (r w v n : Option (List ℕ)) (end : Ended) (times : ℕ) (new : State) (fault : ShareFault) → EndsSo a b s (streams r w n) end → BurstAnswer b.machine times w (Err fault) new v → StopsSo a s (streams r v n) fault
part_stops a b s r w v n end times new fault p ans =
    let (gs, k, fires, stop, at) = burst_stop b.machine new times w v fault b.begun b.ended ans in
    record {
      bytes = p.bytes;
      rest = [];
      fired = p.fired ++ gs;
      told = p.told;
      last = p.last;
      mid = member k b.begun b.ended;
      goes = goes_fires a b p.bytes p.fired gs p.told k p.goes fires;
      stop = stop;
      ends = last_at b k r end p.last fault times w v new ans p.ends;
      passes = record {
        reader = subst (Consumes s.reader r) (sym (append-nil p.bytes)) p.passes.reader;
        writer = subst (WritesAt fault s.writer v) (sym (text_append p.fired gs)) (fault_behind fault s.writer w v (text_of p.fired) (text_of gs) p.passes.writer at);
        notices = at_fault fault s.notices n (p.told ++ p.last) p.passes.notices;
      };
    }
