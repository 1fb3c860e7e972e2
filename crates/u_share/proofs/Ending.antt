-- How a line ends, and where a member stops.
use Rattle.std.specs.Prelude.{◌≡◌, ℕ, ◌+◌, List, [], ◌∷◌, ◌++◌, ◌⊎◌, length, take, Contains, Ok, Err, Bool, Option, refl}
use Rattle.std.proofs.Common.{sym, ◌∙◌, ap, subst, inl, inr, arith, append_assoc, append-nil}
use Rattle.std.proofs.lemmas.List.{take_all, length-take}
use Rattle.u_base.specs.Pieces.{pieces, lines}
use Rattle.u_base.proofs.PiecesLaws.{Free, pieces_cut, pieces_free}
use Rattle.u_base.specs.Firing.{EachPlace, IsNextFrom}
use Rattle.u_base.proofs.Member.{Contains-nil, Contains-head, Contains-cons_cases}
use Rattle.u_base.proofs.Plain.{EachPlace-nil}
use Rattle.u_check.specs.Jobs.{JobParts}
use Rattle.u_rule.specs.Rule.{own_of}
use Rattle.u_rule.specs.declared.firing.Firing.{Firing}
use Rattle.u_machine.specs.State.{State, Taken}
use Rattle.u_machine.specs.Calls.{firing_le}
use Rattle.u_share.specs.Lines.{longest, first_of, IsLineOf, IsAmong, IsTold, AreTold}
use Rattle.u_share.specs.Headline.{Member, member, Gains, IsKnownFrom, WasNext, AreFired, Goes, IsNoRoomForLine}
use Rattle.u_share.specs.Calls.{IsBegun, Stays, TakeLineAnswer, IsStopAtLine, StopsAtLine, HearAnswer}
use Rattle.u_share.specs.declared.fault.ShareFault.{ShareFault}
use Rattle.u_share.specs.declared.fault.ShareFault.TheVariants as faults
use Rattle.u_share.proofs.Pieces.{free_of, free_append, free_take, pieces_are_free, pieces_join}
use Rattle.u_share.proofs.Fronts.{take_twice}
use Rattle.u_share.proofs.Seen.{line_alike, told_alike, among_none}
use Rattle.u_share.proofs.Written.{appends_none, front_none, front_all, kept_appends}
use Rattle.u_share.proofs.Going.{gains_same, next_same, goes_on}

-- the next firings, where no line was read
fired_alone : (old : State) (fs : List Firing) → EachPlace (IsNextFrom (own_of old.job) firing_le (Taken old)) fs → AreFired old [] fs
fired_alone old fs each =
    ((λ n. 0), (λ n. omega arith), (λ n. omega arith), λ k f at. next_same (own_of old.job) firing_le (Taken old) (IsKnownFrom old []) (take k fs) (take k fs) f (to (take k fs)) (back (take k fs)) (each k f at))
  where
    to : (ds : List Firing) (g : Firing) → Taken old g ⊎ Contains ds g → IsKnownFrom old [] g ⊎ Contains ds g
    to ds g (inl t) = inl (inl t)
    to ds g (inr c) = inr c

    back : (ds : List Firing) (g : Firing) → IsKnownFrom old [] g ⊎ Contains ds g → Taken old g ⊎ Contains ds g
    back ds g (inl (inl t)) = inl t
    back ds g (inl (inr m)) = absurd (among_none old.job g m)
    back ds g (inr c) = inr c

-- a step in which no line ends
pub goes_within : (old new : Member) (bs r : List ℕ) (fs : List Firing) → pieces 10 (old.begun ++ bs) ≡ ([], r) → Gains old.machine (Contains fs) new.machine → EachPlace (IsNextFrom (own_of old.machine.job) firing_le (Taken old.machine)) fs → new.begun ≡ first_of r → new.ended ≡ old.ended → Goes old bs fs [] new
goes_within old new bs r fs e gains each begun ended =
    let none : lines (old.begun ++ bs) ≡ [] = ap (λ p. p.0) e in
    record {
      gains = gains_same old.machine new.machine (Contains fs) (λ f. IsAmong old.machine.job (lines (old.begun ++ bs)) f ⊎ Contains fs f) gains
          (λ f s. elim s [ inl m ↦ absurd (among_none old.machine.job f (subst (λ (ls : List (List ℕ)). IsAmong old.machine.job ls f) none m)) | inr c ↦ c ])
          (λ f c. inr c);
      fires = subst (λ (ls : List (List ℕ)). AreFired old.machine ls fs) (sym none) (fired_alone old.machine fs each);
      tells = subst (λ (ls : List (List ℕ)). AreTold old.machine.job (old.ended + 1) ls []) (sym none) refl;
      begun = begun ∙ ap (λ p. first_of p.1) (sym e);
      ended = let n = ap length none in omega (arith, ended, n);
    }

-- what stays open
pub first_of_begun : (o : List ℕ) → IsBegun o → first_of o ≡ o
first_of_begun o h = take_all (longest + 1) o h.1

pub begun_nothing : (o : List ℕ) → IsBegun o → pieces 10 (o ++ []) ≡ ([], o)
begun_nothing o h = ap (pieces 10) (append-nil o) ∙ h.0

pub begun_after : (a b : Member) (bs : List ℕ) (fs : List Firing) (t : List ℕ) → Goes a bs fs t b → IsBegun b.begun
begun_after a b bs fs t p = subst IsBegun (sym p.begun) (is (pieces 10 (a.begun ++ bs)).1 (pieces_are_free 10 (a.begun ++ bs)).1)
  where
    is : (r : List ℕ) → Free 10 r → IsBegun (first_of r)
    is r f = (pieces_free 10 (first_of r) (free_take 10 (longest + 1) r f), let n = length-take (longest + 1) r in omega (arith, n))

gains_nothing : (m : State) → Gains m (Contains []) m
gains_nothing m = record { job = refl; limit = refl; taken = λ f. ((λ t. inl t), λ s. elim s [ inl t ↦ t | inr c ↦ absurd (Contains-nil f c) ]) }

pub stays_nothing : (a b : State) → Stays a b → Gains a (Contains []) b
stays_nothing a b p = gains_same a b (λ f. ⊥) (Contains []) p (λ f c. Contains-nil f c) (λ f n. absurd n)

none_fired : (m : State) → EachPlace (IsNextFrom (own_of m.job) firing_le (Taken m)) []
none_fired m = EachPlace-nil (IsNextFrom (own_of m.job) firing_le (Taken m))

pub goes_stays : (old : Member) (new : State) → IsBegun old.begun → Stays old.machine new → Goes old [] [] [] (member new old.begun old.ended)
goes_stays old new h p =
    goes_within old (member new old.begun old.ended) [] old.begun [] (begun_nothing old.begun h) (stays_nothing old.machine new p) (none_fired old.machine) (sym (first_of_begun old.begun h)) refl

stays_same : (m : State) → Stays m m
stays_same m = gains_same m m (Contains []) (λ f. ⊥) (gains_nothing m) (λ f n. absurd n) (λ f c. Contains-nil f c)

pub goes_nothing : (m : Member) → IsBegun m.begun → Goes m [] [] [] m
goes_nothing m h =
    goes_within m m [] m.begun [] (begun_nothing m.begun h) (gains_nothing m.machine) (none_fired m.machine) (sym (first_of_begun m.begun h)) refl

-- bytes without a newline
pub goes_begun : (old : Member) (bs next : List ℕ) → IsBegun old.begun → pieces 10 bs ≡ ([], bs) → next ≡ first_of (old.begun ++ bs) → Goes old bs [] [] (member old.machine next old.ended)
goes_begun old bs next h f e =
    goes_within old (member old.machine next old.ended) bs (old.begun ++ bs) [] (pieces_free 10 (old.begun ++ bs) (free_append 10 old.begun bs (free_of 10 old.begun h.0) (free_of 10 bs f))) (gains_nothing old.machine) (none_fired old.machine) e refl

-- a line ends

pub line_ends : (o last : List ℕ) → IsBegun o → pieces 10 last ≡ ([], last) → pieces 10 (o ++ (last ++ 10 ∷ [])) ≡ ((o ++ last) ∷ [], [])
unfolding pieces
line_ends o last h f =
    ap (pieces 10) (sym (append_assoc o last (10 ∷ []))) ∙ pieces_cut 10 (o ++ last) [] (free_append 10 o last (free_of 10 o h.0) (free_of 10 last f))

first_twice : (l : List ℕ) → first_of (first_of l) ≡ first_of l
first_twice l = take_twice (longest + 1) l

one_line : (job : JobParts) (l : List ℕ) (f : Firing) → IsAmong job (l ∷ []) f → IsLineOf job l f
one_line job l f (line, m, p) =
    elim (Contains-cons_cases l line [] m) [ inl e ↦ subst (λ (x : List ℕ). IsLineOf job x f) (sym e) p | inr k ↦ absurd (Contains-nil line k) ]

pub goes_line : (old : Member) (new : State) (last kept text : List ℕ) (n : ℕ) → IsBegun old.begun → pieces 10 last ≡ ([], last) → kept ≡ first_of (old.begun ++ last) → Gains old.machine (IsLineOf old.machine.job kept) new → IsTold old.machine.job (old.ended + 1) kept text → n ≡ old.ended + 1 → Goes old (last ++ 10 ∷ []) [] text (member new [] n)
unfolding longest
goes_line old new last kept text n h f k gains told count =
    let e = line_ends old.begun last h f in
    let ls : lines (old.begun ++ (last ++ 10 ∷ [])) ≡ (old.begun ++ last) ∷ [] = ap (λ p. p.0) e in
    let r : (pieces 10 (old.begun ++ (last ++ 10 ∷ []))).1 ≡ [] = ap (λ p. p.1) e in
    record {
      gains = subst (λ (xs : List (List ℕ)). Gains old.machine (λ g. IsAmong old.machine.job xs g ⊎ Contains [] g) new) (sym ls)
          (gains_same old.machine new (IsLineOf old.machine.job kept) (λ g. IsAmong old.machine.job ((old.begun ++ last) ∷ []) g ⊎ Contains [] g) gains to back);
      fires = ((λ n. 0), (λ n. omega arith), (λ n. omega arith), EachPlace-nil (WasNext old.machine (lines (old.begun ++ (last ++ 10 ∷ []))) (λ n. 0)));
      tells = subst (λ (xs : List (List ℕ)). AreTold old.machine.job (old.ended + 1) xs text) (sym ls)
          (text, [], told_alike old.machine.job (old.ended + 1) kept (old.begun ++ last) text alike told, refl, sym (append-nil text));
      begun = ap first_of (sym r);
      ended = let c = ap length ls in omega (arith, c, count);
    }
  where
    alike : first_of kept ≡ first_of (old.begun ++ last)
    alike = ap first_of k ∙ first_twice (old.begun ++ last)

    to : (g : Firing) → IsAmong old.machine.job ((old.begun ++ last) ∷ []) g ⊎ Contains [] g → IsLineOf old.machine.job kept g
    to g (inl m) = line_alike old.machine.job (old.begun ++ last) kept g (sym alike) (one_line old.machine.job (old.begun ++ last) g m)
    to g (inr c) = absurd (Contains-nil g c)

    back : (g : Firing) → IsLineOf old.machine.job kept g → IsAmong old.machine.job ((old.begun ++ last) ∷ []) g ⊎ Contains [] g
    back g p = inl (old.begun ++ last, Contains-head (old.begun ++ last) [], line_alike old.machine.job kept (old.begun ++ last) g alike p)

-- where it stops

stops_here : (m : Member) (bytes : List ℕ) (fault : ShareFault) → IsBegun m.begun → IsStopAtLine m bytes fault → StopsAtLine m bytes [] fault
stops_here m bytes fault h s = record { front = []; rest = bytes; mid = m; cut = refl; goes = goes_nothing m h; stop = s }

stops_full : (old : Member) (new : State) (last kept : List ℕ) → IsBegun old.begun → pieces 10 last ≡ ([], last) → kept ≡ first_of (old.begun ++ last) → Stays old.machine new → IsNoRoomForLine new kept → StopsAtLine old (last ++ 10 ∷ []) [] faults.Full
stops_full old new last kept h f k stays (g, p, full) = record {
  front = [];
  rest = last ++ 10 ∷ [];
  mid = member new old.begun old.ended;
  cut = refl;
  goes = goes_stays old new h stays;
  stop = (
    old.begun ++ last,
    [],
    ap (λ p. p.0) (line_ends old.begun last h f),
    (g, line_alike new.job kept (old.begun ++ last) g (ap first_of k ∙ first_twice (old.begun ++ last)) p, full),
  );
}

stops_untold : (old : Member) (new : State) (last kept text : List ℕ) → IsBegun old.begun → pieces 10 last ≡ ([], last) → kept ≡ first_of (old.begun ++ last) → Gains old.machine (IsLineOf old.machine.job kept) new → IsTold old.machine.job (old.ended + 1) kept text → StopsAtLine old (last ++ 10 ∷ []) text faults.NotWritten
stops_untold old new last kept text h f k gains told = record {
  front = last ++ 10 ∷ [];
  rest = [];
  mid = member new [] (old.ended + 1);
  cut = sym (append-nil (last ++ 10 ∷ []));
  goes = goes_line old new last kept text (old.ended + 1) h f k gains told refl;
  stop = tt;
}

-- what a line's end answers
pub line_answer : (A : Type 0) (old : Member) (new : State) (last kept : List ℕ) (before after : Option (List ℕ)) (fault : ShareFault) (b : Member) → IsBegun old.begun → pieces 10 last ≡ ([], last) → kept ≡ first_of (old.begun ++ last) → TakeLineAnswer old.machine kept (old.ended + 1) before (Err fault) new after → HearAnswer {A = A} old (last ++ 10 ∷ []) before (Err fault) b after
line_answer A old new last kept before after faults.Full b h f k (stays, full, keeps) = ([], stops_full old new last kept h f k stays full, kept_appends before after keeps)
line_answer A old new last kept before after faults.NotReadable b h f k a = absurd a
line_answer A old new last kept before after faults.NotWritten b h f k (text, told, gains, front) = (text, stops_untold old new last kept text h f k gains told, front)
line_answer A old new last kept before after faults.NoMemory b h f k a = ([], stops_here old (last ++ 10 ∷ []) faults.NoMemory h tt, front_none before after [] a)

-- without memory for the line
pub no_memory : (A : Type 0) (old b : Member) (bytes : List ℕ) (n : Option (List ℕ)) → IsBegun old.begun → HearAnswer {A = A} old bytes n (Err faults.NoMemory) b n
no_memory A old b bytes n h = ([], stops_here old bytes faults.NoMemory h tt, front_all n n [] (appends_none n))

pub line_taken : (old : Member) (new : State) (last kept next : List ℕ) (n : ℕ) (before after : Option (List ℕ)) (is_empty : Bool) → IsBegun old.begun → pieces 10 last ≡ ([], last) → kept ≡ first_of (old.begun ++ last) → TakeLineAnswer old.machine kept (old.ended + 1) before (Ok tt) new after → next ≡ [] → n ≡ old.ended + 1 → HearAnswer old (last ++ 10 ∷ []) before (Ok is_empty) (member new next n) after
line_taken old new last kept next n before after is_empty h f k (text, told, gains, appends) e c =
    (text, subst (λ (o : List ℕ). Goes old (last ++ 10 ∷ []) [] text (member new o n)) (sym e) (goes_line old new last kept text n h f k gains told c), appends)

-- the same, of the line as it is kept and counted
pub line_fails : (A : Type 0) (old : Member) (new : State) (last kept line : List ℕ) (count : ℕ) (before after : Option (List ℕ)) (fault : ShareFault) (b : Member) → IsBegun old.begun → pieces 10 last ≡ ([], last) → kept ≡ first_of (old.begun ++ last) → line ≡ kept → count ≡ old.ended → TakeLineAnswer old.machine line (count + 1) before (Err fault) new after → HearAnswer {A = A} old (last ++ 10 ∷ []) before (Err fault) b after
line_fails A old new last kept line count before after fault b h f k e c a =
    line_answer A old new last line before after fault b h f (e ∙ k) (subst (λ (n : ℕ). TakeLineAnswer old.machine line (n + 1) before (Err fault) new after) c a)

pub line_done : (old : Member) (new : State) (last kept line next : List ℕ) (count n : ℕ) (before after : Option (List ℕ)) (is_empty : Bool) → IsBegun old.begun → pieces 10 last ≡ ([], last) → kept ≡ first_of (old.begun ++ last) → line ≡ kept → count ≡ old.ended → TakeLineAnswer old.machine line (count + 1) before (Ok tt) new after → next ≡ [] → n ≡ count + 1 → HearAnswer old (last ++ 10 ∷ []) before (Ok is_empty) (member new next n) after
line_done old new last kept line next count n before after is_empty h f k e c a o m =
    line_taken old new last line next n before after is_empty h f (e ∙ k) (subst (λ (x : ℕ). TakeLineAnswer old.machine line (x + 1) before (Ok tt) new after) c a) o (m ∙ ap (λ (x : ℕ). x + 1) c)

-- a stop behind a step

longer_stop : (m : Member) (bytes more : List ℕ) (fault : ShareFault) → IsStopAtLine m bytes fault → IsStopAtLine m (bytes ++ more) fault
longer_stop m bytes more faults.Full (line, others, next, full) = (
  line,
  others ++ (pieces 10 ((pieces 10 (m.begun ++ bytes)).1 ++ more)).0,
  ap (λ (x : List ℕ). lines x) (sym (append_assoc m.begun bytes more)) ∙ ap (λ p. p.0) (pieces_join 10 (m.begun ++ bytes) more) ∙ ap (λ (ls : List (List ℕ)). ls ++ (pieces 10 ((pieces 10 (m.begun ++ bytes)).1 ++ more)).0) next,
  full,
)
longer_stop m bytes more faults.NotReadable s = absurd s
longer_stop m bytes more faults.NotWritten s = tt
longer_stop m bytes more faults.NoMemory s = tt

pub stops_longer : (old : Member) (bytes more told : List ℕ) (fault : ShareFault) → StopsAtLine old bytes told fault → StopsAtLine old (bytes ++ more) told fault
stops_longer old bytes more told fault s = record {
  front = s.front;
  rest = s.rest ++ more;
  mid = s.mid;
  cut = ap (λ (x : List ℕ). x ++ more) s.cut ∙ append_assoc s.front s.rest more;
  goes = s.goes;
  stop = longer_stop s.mid s.rest more fault s.stop;
}

pub stops_behind : (a b : Member) (bs bs' t t' : List ℕ) (fault : ShareFault) → Goes a bs [] t b → StopsAtLine b bs' t' fault → StopsAtLine a (bs ++ bs') (t ++ t') fault
stops_behind a b bs bs' t t' fault p s = record {
  front = bs ++ s.front;
  rest = s.rest;
  mid = s.mid;
  cut = ap (λ (x : List ℕ). bs ++ x) s.cut ∙ sym (append_assoc bs s.front s.rest);
  goes = goes_on a b s.mid bs s.front [] [] t t' p s.goes;
  stop = s.stop;
}
