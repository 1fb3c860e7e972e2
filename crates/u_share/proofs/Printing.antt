-- What is fired and printed, firing after firing.
use Rattle.std.specs.Prelude.{◌≡◌, ℕ, ◌+◌, List, [], ◌∷◌, ◌++◌, length, Ok, Err, true, false, Option, refl}
use Rattle.std.proofs.Common.{sym, ◌∙◌, ap, arith, append_assoc, append-nil, length-append}
use Rattle.std.specs.Io.KnownBytes.{Appends}
use Rattle.u_rule.specs.FiringText.{firing_text}
use Rattle.u_rule.specs.declared.firing.Firing.{Firing}
use Rattle.u_machine.specs.State.{State}
use Rattle.u_machine.specs.Calls.{Fires}
use Rattle.u_machine.specs.declared.answer.Ran.{Ran}
use Rattle.u_machine.specs.declared.answer.Ran.TheVariants as ran
use Rattle.u_machine.proofs.Runs.{Fires-push, Fires-applies}
use Rattle.u_share.specs.Lines.{text_of}
use Rattle.u_share.specs.Headline.{WritesFront}
use Rattle.u_share.specs.Calls.{Tells, line_of, FireNextAnswer, Prints, PutAnswer, BurstWith, BurstAnswer}
use Rattle.u_share.specs.declared.fault.ShareFault.{ShareFault}
use Rattle.u_share.specs.declared.fault.ShareFault.TheVariants as faults
use Rattle.u_share.proofs.Written.{appends_more, appends_none, front_none}

pub text_append : (fs gs : List Firing) → text_of (fs ++ gs) ≡ text_of fs ++ text_of gs
text_append [] gs = refl
text_append (f ∷ fs) gs =
    ap (λ (t : List ℕ). firing_text f ++ (10 ∷ t)) (text_append fs gs) ∙ sym (append_assoc (firing_text f) (10 ∷ text_of fs) (text_of gs))

pub text_push : (fs : List Firing) (f : Firing) → text_of (fs ++ f ∷ []) ≡ text_of fs ++ line_of f
text_push fs f = text_append fs (f ∷ [])

split : (gs : List Firing) (f : Firing) (piece line next out more : List ℕ) → text_of gs ≡ out ++ piece → line ≡ line_of f → piece ++ line ≡ more ++ next → text_of (gs ++ f ∷ []) ≡ (out ++ more) ++ next
split gs f piece line next out more p e q =
    text_push gs f ∙ ap (λ (t : List ℕ). t ++ line_of f) p ∙ ap (λ (t : List ℕ). (out ++ piece) ++ t) (sym e) ∙ append_assoc out piece line ∙ ap (λ (t : List ℕ). out ++ t) q ∙ sym (append_assoc out more next)

-- the lines of what was fired before, and one more line behind the piece
pub prints_line : (a b c : Option (List ℕ)) (gs : List Firing) (f : Firing) (piece line next : List ℕ) → Prints a b (text_of gs) piece → line ≡ line_of f → Prints b c (piece ++ line) next → Prints a c (text_of (gs ++ f ∷ [])) next
prints_line a b c gs f piece line next p e q = record {
  out = p.out ++ q.out;
  written = appends_more a b c p.out q.out p.written q.written;
  is = split gs f piece line next p.out q.out p.is e q.is;
}

-- a front of them
pub front_line : (a b c : Option (List ℕ)) (gs : List Firing) (f : Firing) (piece line : List ℕ) → Prints a b (text_of gs) piece → line ≡ line_of f → WritesFront b c (piece ++ line) → WritesFront a c (text_of (gs ++ f ∷ []))
front_line a b c gs f piece line p e q = record {
  front = p.out ++ q.front;
  rest = q.rest;
  is = split gs f piece line q.rest p.out q.front p.is e q.is;
  written = appends_more a b c p.out q.front p.written q.written;
}

pub front_printed : (a b : Option (List ℕ)) (text piece : List ℕ) → Prints a b text piece → WritesFront a b text
front_printed a b text piece p = record { front = p.out; rest = piece; is = p.is; written = p.written }

pub prints_none : (a : Option (List ℕ)) → Prints a a [] []
prints_none a = record { out = []; written = appends_none a; is = refl }

-- the piece is written too
pub prints_last : (a b c : Option (List ℕ)) (text piece : List ℕ) → Prints a b text piece → Appends b c piece → Prints a c text []
prints_last a b c text piece p q = record {
  out = p.out ++ piece;
  written = appends_more a b c p.out piece p.written q;
  is = p.is ∙ sym (append-nil (p.out ++ piece));
}

pub front_last : (a b c : Option (List ℕ)) (text piece : List ℕ) → Prints a b text piece → WritesFront b c piece → WritesFront a c text
front_last a b c text piece p q = record {
  front = p.out ++ q.front;
  rest = q.rest;
  is = p.is ∙ ap (λ (t : List ℕ). p.out ++ t) q.is ∙ sym (append_assoc p.out q.front q.rest);
  written = appends_more a b c p.out q.front p.written q.written;
}

-- where firing the next one fails
pub next_fails : (old m n : State) (times : ℕ) (a b : Option (List ℕ)) (gs : List Firing) (piece line : List ℕ) (fault : ShareFault) → Fires old gs m → Prints a b (text_of gs) piece → FireNextAnswer m (Err fault) n line → BurstWith piece old times a (Err fault) n b
next_fails old m n times a b gs piece line faults.Full r p (applies, full) = (gs, Fires-applies old m n gs r applies, p, full)
next_fails old m n times a b gs piece line faults.NotReadable r p x = absurd x
next_fails old m n times a b gs piece line faults.NotWritten r p x = absurd x
next_fails old m n times a b gs piece line faults.NoMemory r p x = (gs, m, r, front_printed a b (text_of gs) piece p)

-- where nothing is ready
pub next_quiet : (old m n : State) (times : ℕ) (a b : Option (List ℕ)) (gs : List Firing) (piece line : List ℕ) → Fires old gs m → Prints a b (text_of gs) piece → FireNextAnswer m (Ok false) n line → BurstWith piece old times a (Ok ran.Quiet) n b
next_quiet old m n times a b gs piece line r p (applies, ends) = (gs, Fires-applies old m n gs r applies, p, ends)

-- where its line can't be written
pub put_fails : (old m n k : State) (times : ℕ) (a b c : Option (List ℕ)) (gs : List Firing) (piece line next : List ℕ) (fault : ShareFault) → Fires old gs m → Prints a b (text_of gs) piece → FireNextAnswer m (Ok true) n line → PutAnswer b (piece ++ line) (Err fault) c next → BurstWith next old times a (Err fault) k c
put_fails old m n k times a b c gs piece line next faults.Full r p x y = absurd y
put_fails old m n k times a b c gs piece line next faults.NotReadable r p x y = absurd y
put_fails old m n k times a b c gs piece line next faults.NotWritten r p (f, pick, takes, e) y =
    (gs ++ f ∷ [], n, Fires-push old m n gs f r pick takes, front_line a b c gs f piece line p e y)
put_fails old m n k times a b c gs piece line next faults.NoMemory r p (f, pick, takes, e) y =
    (gs ++ f ∷ [], n, Fires-push old m n gs f r pick takes, front_line a b c gs f piece line p e y)

-- one more is fired
pub put_fired : (old m n : State) (a b c : Option (List ℕ)) (gs : List Firing) (piece line next : List ℕ) (count : ℕ) → Fires old gs m → Prints a b (text_of gs) piece → length gs ≡ count → FireNextAnswer m (Ok true) n line → PutAnswer b (piece ++ line) (Ok tt) c next → (hs : List Firing) × Fires old hs n × Prints a c (text_of hs) next × (length hs ≡ count + 1)
put_fired old m n a b c gs piece line next count r p l (f, pick, takes, e) y =
    (gs ++ f ∷ [], Fires-push old m n gs f r pick takes, prints_line a b c gs f piece line next p e y, let z = length-append gs (f ∷ []) in omega (arith, l, z))

-- the end of a burst
pub burst_ends : (old n : State) (times : ℕ) (a b c : Option (List ℕ)) (piece : List ℕ) (end : Ran) → BurstWith piece old times a (Ok end) n b → Tells b piece (Ok tt) c → BurstAnswer old times a (Ok end) n c
burst_ends old n times a b c piece end (gs, r, p, e) q = (gs, r, prints_last a b c (text_of gs) piece p q, e)

pub burst_full : (old n : State) (times : ℕ) (a b c : Option (List ℕ)) (piece : List ℕ) → BurstWith piece old times a (Err faults.Full) n b → Tells b piece (Ok tt) c → BurstAnswer old times a (Err faults.Full) n c
burst_full old n times a b c piece (gs, r, p, full) q = (gs, r, prints_last a b c (text_of gs) piece p q, full)

unwritten : (old n : State) (a b c : Option (List ℕ)) (piece : List ℕ) (gs : List Firing) (fault : ShareFault) → Fires old gs n → Prints a b (text_of gs) piece → Tells b piece (Err fault) c → (times : ℕ) → BurstAnswer old times a (Err fault) n c
unwritten old n a b c piece gs faults.Full r p q times = absurd q
unwritten old n a b c piece gs faults.NotReadable r p q times = absurd q
unwritten old n a b c piece gs faults.NotWritten r p q times = (gs, n, r, front_last a b c (text_of gs) piece p q)
unwritten old n a b c piece gs faults.NoMemory r p q times = (gs, n, r, front_last a b c (text_of gs) piece p (front_none b c piece q))

pub burst_unwritten : (old n : State) (times : ℕ) (a b c : Option (List ℕ)) (piece : List ℕ) (end : Ran) (fault : ShareFault) → BurstWith piece old times a (Ok end) n b → Tells b piece (Err fault) c → BurstAnswer old times a (Err fault) n c
burst_unwritten old n times a b c piece end fault (gs, r, p, e) q = unwritten old n a b c piece gs fault r p q times

pub full_unwritten : (old n : State) (times : ℕ) (a b c : Option (List ℕ)) (piece : List ℕ) (fault : ShareFault) → BurstWith piece old times a (Err faults.Full) n b → Tells b piece (Err fault) c → BurstAnswer old times a (Err fault) n c
full_unwritten old n times a b c piece fault (gs, r, p, full) q = unwritten old n a b c piece gs fault r p q times
