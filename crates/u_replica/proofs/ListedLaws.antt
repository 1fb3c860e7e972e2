-- Lines of a checkpoint that stand in any order, and the firings that a machine fires whose lines they are.
use Rattle.std.specs.Prelude.{◌≡◌, ℕ, suc, ◌+◌, ◌^◌, ◌<◌, ◌≤◌, Bool, true, MatchBool, List, [], ◌∷◌, ◌++◌, Contains, IsTrue, Option, Some, Result, Ok, Err, length, map, take, refl}
use Rattle.std.specs.Borrow.{Bor}
use Rattle.std.specs.List.{slice_get}
use Rattle.std.specs.Option.{option_map}
use Rattle.std.proofs.Common.{sym, ◌∙◌, ap, subst, arith, inl, inr, append-nil, length-append}
use Rattle.std.proofs.Math.Seq.{take-append-add}
use Rattle.std.proofs.lemmas.List.{map-append}
use Rattle.std.proofs.lemmas.Option.{slice_get-map}
use Rattle.std.proofs.lemmas.List.Elements.{Contains-append_left, Contains-append_right, Contains-append_cases, Contains-push_cases}
use Rattle.u_base.specs.Pieces.{PiecesAndRest, lines}
use Rattle.u_base.specs.Firing.{Distinct}
use Rattle.u_base.proofs.Member.{Contains-nil, Contains-head, Contains-tail, Contains-cons_cases}
use Rattle.u_base.proofs.Apart.{Distinct-left}
use Rattle.u_program.specs.declared.program.Version.{Version}
use Rattle.u_program.specs.declared.program.Version.TheVariants as versions
use Rattle.u_check.specs.Jobs.{JobParts}
use Rattle.u_rule.specs.Rule.{own_of}
use Rattle.u_rule.specs.declared.firing.Firing.{Firing}
use Rattle.u_rule.specs.FiringText.{firing_text}
use Rattle.u_rule.specs.FiringReading.{IsFiring}
use Rattle.u_delta.specs.Lines.{IsLineAhead, lines_behind}
use Rattle.u_delta.proofs.MessageLaws.{heads_are, map_length}
use Rattle.u_machine.specs.State.{State, IsPick, IsSettled, IsMachine}
use Rattle.u_machine.specs.Calls.{FireAnswer, Runs, IsFresh}
use Rattle.u_machine.specs.declared.answer.Step.TheVariants as step
use Rattle.u_machine.proofs.Lists.{slice_get_Contains}
use Rattle.u_machine.specs.Taking.{TakesAll}
use Rattle.u_machine.proofs.Counting.{all_there, Distinct-right}
use Rattle.u_machine.proofs.States.{Applies-refl}
use Rattle.u_machine.proofs.Runs.{Runs-nil, Runs-push}
use Rattle.u_replica.specs.declared.checkpoint.Checkpoint.{Checkpoint}
use Rattle.u_replica.specs.declared.checkpoint.CheckpointError.{CheckpointError}
use Rattle.u_replica.specs.declared.checkpoint_reading.ReadBehind.{ReadBehind}
use Rattle.u_replica.specs.declared.checkpoint.Ending.{Ending}
use Rattle.u_replica.specs.declared.checkpoint.Ending.TheVariants.{Whole, Torn}
use Rattle.u_replica.specs.CheckpointText.{first_line, count_line, begun_lines}
use Rattle.u_replica.specs.Checkpoints.{AreFirings, MayRead, IsCheckpointErrorIn}
use Rattle.u_replica.specs.CheckpointReading.{AreRead, IsCheckpointIn, IsAnswer, IsAnswerBehind}
use Rattle.u_replica.specs.FiredLines.{AreLines, AreFired, IsReadBehind, behind}
use Rattle.u_replica.specs.Takings.{TookFront}
use Rattle.u_replica.specs.ListedLines.{texts, IsLineAt, FiresListedLine, FiresAmong, FiresListed}
use Rattle.u_replica.proofs.CheckpointLaws.{firing_not_count}
use Rattle.u_replica.proofs.CheckpointSame.{same_firing_text}
use Rattle.u_replica.proofs.FiredLaws.{next_unique, lines_more, fired_none, fired_both, fired_read, fired_text}
use Rattle.u_replica.proofs.Takings.{took_none, takes_on}

-- a line more is listed
pub texts_more : (ls : List (Bor (List ℕ))) (l : Bor (List ℕ)) → texts (ls ++ l ∷ []) ≡ texts ls ++ l.now ∷ []
texts_more ls l = map-append (λ (x : Bor (List ℕ)). x.now) ls (l ∷ [])

pub texts_length : (ls : List (Bor (List ℕ))) → length (texts ls) ≡ length ls
texts_length [] = refl
texts_length (l ∷ ls) = ap suc (texts_length ls)

pub listed_more : (bytes rest others : List ℕ) (ls : List (Bor (List ℕ))) (l : Bor (List ℕ)) → AreLines bytes rest (texts ls) → IsLineAhead rest l.now others → AreLines bytes others (texts (ls ++ l ∷ []))
listed_more bytes rest others ls l are ahead = subst (λ (xs : List (List ℕ)). AreLines bytes others xs) (sym (texts_more ls l)) (lines_more bytes rest l.now others (texts ls) are ahead)

-- what a line is that is listed at a place
pub line_at : (ls : List (Bor (List ℕ))) (place : ℕ) (l : Bor (List ℕ)) (x : List ℕ) → slice_get ls place ≡ Some l → l.now ≡ x → IsLineAt ls place x
line_at ls place l x e same =
    slice_get-map (λ (b : Bor (List ℕ)). b.now) ls place ∙ ap (λ (o : Option (Bor (List ℕ))). option_map (λ (b : Bor (List ℕ)). b.now) o) e ∙ ap (λ (y : List ℕ). Some y) same

pub line_there : (ls : List (Bor (List ℕ))) (place : ℕ) (x : List ℕ) → IsLineAt ls place x → Contains (texts ls) x
line_there ls place x = slice_get_Contains (texts ls) place x

-- a line of the front is one of the bytes
pub line_within : (bytes rest : List ℕ) (ls : List (List ℕ)) (x : List ℕ) → AreLines bytes rest ls → Contains ls x → Contains (lines bytes) x
line_within bytes rest ls x are c =
    subst (λ (xs : List (List ℕ)). Contains xs x) (sym (ap (λ (p : PiecesAndRest). p.0) (are.text []))) (Contains-append_left ls (lines rest) x c)

-- the firing of a line that is listed was fired
pub fires_listed : (old new : State) (ls : List (List ℕ)) (f : Firing) (place : ℕ) → Contains ls (firing_text f) → IsFiring f → IsPick old 0 f → FireAnswer old 0 (Ok (step.Fired place)) new → FiresListedLine old ls new
fires_listed old new ls f place there valid picked (g, may, takes, settled, at) =
    let e : f ≡ g = next_unique old f g picked may.0 in
    record {
      firing = g;
      there = subst (λ (x : Firing). Contains ls (firing_text x)) e there;
      valid = subst IsFiring e valid;
      picked = may.0;
      takes = takes;
      logged = slice_get_Contains new.log place g at;
      settled = settled;
    }

-- where nothing was fired
pub among_none : (m : State) (ls : List (List ℕ)) → IsSettled m → FiresAmong m ls [] m
among_none m ls s = record {
  runs = Runs-nil m m (Applies-refl m);
  there = λ f c. absurd (Contains-nil f c);
  valid = λ f c. absurd (Contains-nil f c);
  settled = s;
}

-- one more was fired
pub among_more : (old mid new : State) (ls : List (List ℕ)) (more : List Firing) → FiresAmong old ls more mid → (l : FiresListedLine mid ls new) → FiresAmong old ls (more ++ l.firing ∷ []) new
among_more old mid new ls more a l = record {
  runs = Runs-push old mid new more l.firing a.runs l.picked l.takes l.logged;
  there = λ f c. elim (Contains-push_cases more l.firing f c) [ inl k ↦ a.there f k | inr e ↦ subst (λ (g : Firing). Contains ls (firing_text g)) e l.there ];
  valid = λ f c. elim (Contains-push_cases more l.firing f c) [ inl k ↦ a.valid f k | inr e ↦ subst IsFiring e l.valid ];
  settled = l.settled;
}

-- one more was fired, if one was found among the lines, which are as they were
module _ {old mid new : State} {now then : List (Bor (List ℕ))} {count : ℕ} {fired : Bool} where
  pub among_found : now ≡ then → fired ≡ true → (more : List Firing) → count ≡ length more → FiresAmong old (texts then) more mid → MatchBool fired (FiresListedLine mid (texts now) new) (new ≡ mid) → (more : List Firing) × (count + 1 ≡ length more) × FiresAmong old (texts then) more new
  among_found same was more counted among fires =
      let found : FiresListedLine mid (texts now) new = rw was at fires in
      let l : FiresListedLine mid (texts then) new = subst (λ (ls : List (Bor (List ℕ))). FiresListedLine mid (texts ls) new) same found in
      (more ++ l.firing ∷ [], omega (arith, counted, length-append more (l.firing ∷ [])), among_more old mid new (texts then) more among l)

among_within : (old new : State) (ls ks : List (List ℕ)) (more : List Firing) → ((x : List ℕ) → Contains ls x → Contains ks x) → FiresAmong old ls more new → FiresAmong old ks more new
among_within old new ls ks more w a = record { runs = a.runs; there = λ f c. w (firing_text f) (a.there f c); valid = a.valid; settled = a.settled }

-- a text of a list of firings is that of one of them
pub text_of : (fs : List Firing) (x : List ℕ) → Contains (map firing_text fs) x → (g : Firing) × Contains fs g × (firing_text g ≡ x)
text_of [] x c = absurd (Contains-nil x c)
text_of (f ∷ fs) x c = elim (Contains-cons_cases (firing_text f) x (map firing_text fs) c) [ inl e ↦ (f, Contains-head f fs, e) | inr k ↦ behind (text_of fs x k) ]
  where
    behind : ((g : Firing) × Contains fs g × (firing_text g ≡ x)) → (g : Firing) × Contains (f ∷ fs) g × (firing_text g ≡ x)
    behind (g, k, e) = (g, Contains-tail f g fs k, e)

-- different firings have different texts
pub texts_once : (fs : List Firing) → ((f : Firing) → Contains fs f → IsFiring f) → Distinct fs → Distinct (map firing_text fs)
texts_once [] v d = tt
texts_once (f ∷ fs) v d = ((λ c. none (text_of fs (firing_text f) c)), texts_once fs (λ g k. v g (Contains-tail f g fs k)) d.1)
  where
    none : ((g : Firing) × Contains fs g × (firing_text g ≡ firing_text f)) → ⊥
    none (g, k, e) = d.0 (subst (λ (h : Firing). Contains fs h) (same_firing_text g f (v g (Contains-tail f g fs k)) (v f (Contains-head f fs)) e) k)

-- firings of a list whose lines these are
pub record HaveLines (more : List Firing) (ls : List (List ℕ)) : Type 0 where
  pub passed : List Firing
  pub said : map firing_text passed ≡ ls
  pub valid : AreFirings passed
  pub within : (f : Firing) → Contains passed f → Contains more f

pub have_lines : (more : List Firing) (ls : List (List ℕ)) → ((f : Firing) → Contains more f → IsFiring f) → ((x : List ℕ) → Contains ls x → Contains (map firing_text more) x) → HaveLines more ls
have_lines more [] v h = record { passed = []; said = refl; valid = tt; within = λ f c. absurd (Contains-nil f c) }
have_lines more (x ∷ xs) v h = put (text_of more x (h x (Contains-head x xs))) (have_lines more xs v (λ y c. h y (Contains-tail x y xs c)))
  where
    put : ((g : Firing) × Contains more g × (firing_text g ≡ x)) → HaveLines more xs → HaveLines more (x ∷ xs)
    put (g, k, e) have = record {
      passed = g ∷ have.passed;
      said = ap (λ (y : List ℕ). y ∷ map firing_text have.passed) e ∙ ap (λ (ys : List (List ℕ)). x ∷ ys) have.said;
      valid = (v g k, have.valid);
      within = λ f c. elim (Contains-cons_cases g f have.passed c) [ inl p ↦ subst (λ (y : Firing). Contains more y) p k | inr q ↦ have.within f q ];
    }

-- where no line is passed
pub listed_none : (old new : State) (bytes : List ℕ) (more : List Firing) → FiresAmong old (lines bytes) more new → FiresListed old bytes bytes 0 new
listed_none old new bytes more a = record {
  more = more;
  fires = a;
  passed = [];
  counted = refl;
  few = omega arith;
  are = fired_none bytes;
  logged = λ f c. absurd (Contains-nil f c);
}

module _ (old new : State) (bytes rest : List ℕ) (ls : List (List ℕ)) (more : List Firing) (alone : old.parked ≡ []) (are : AreLines bytes rest ls) (a : FiresAmong old ls more new) where
  -- some of the lines are those of firings that were fired
  pub listed_some : FiresListed old bytes bytes 0 new
  listed_some = listed_none old new bytes more (among_within old new ls (lines bytes) more (λ x c. line_within bytes rest ls x are c) a)

  grown : new.log ≡ old.log ++ more
  grown = (a.runs.alone alone).0

  -- all of them are, since as many were fired
  module _ (is : IsMachine new) (few : length ls ≤ length more) where
    once : Distinct more
    once = Distinct-right old.log more (subst (λ (fs : List Firing). Distinct fs) grown (Distinct-left new.log new.parked is.sound.distinct))

    covered : (x : List ℕ) → Contains ls x → Contains (map firing_text more) x
    covered =
        all_there (map firing_text more) ls (texts_once more a.valid once)
        (λ x c. (let t = text_of more x c in subst (λ (y : List ℕ). Contains ls y) t.2 (a.there t.0 t.1)))
        (omega (arith, few, map_length more))

    have : HaveLines more ls
    have = have_lines more ls a.valid covered

    pub listed_all : (count : ℕ) → count ≡ length ls → count < 2 ^ 32 → FiresListed old bytes rest count new
    listed_all count e small = record {
      more = more;
      fires = among_within old new ls (lines bytes) more (λ x c. line_within bytes rest ls x are c) a;
      passed = have.passed;
      counted = e ∙ ap length (sym have.said) ∙ map_length have.passed;
      few = small;
      are = record { valid = have.valid; lines = subst (λ (xs : List (List ℕ)). AreLines bytes rest xs) (sym have.said) are };
      logged = λ f c. subst (λ (fs : List Firing). Contains fs f) (sym grown) (Contains-append_right old.log more f (have.within f c));
    }

-- what is read of lines has each firing whose text is one of them

first_not_firing : (head : Version) (f : Firing) → first_line head ≡ firing_text f → ⊥
unfolding firing_text
first_not_firing versions.One f e = let h : ◌≡◌ {A = ℕ} 117 102 = heads_are e in omega arith
first_not_firing versions.Two f e = let h : ◌≡◌ {A = ℕ} 117 102 = heads_are e in omega arith

valid_of : (fs : List Firing) (f : Firing) → AreFirings fs → Contains fs f → IsFiring f
valid_of [] f v c = absurd (Contains-nil f c)
valid_of (g ∷ fs) f v c = elim (Contains-cons_cases g f fs c) [ inl e ↦ subst IsFiring e v.0 | inr k ↦ valid_of fs f v.1 k ]

module _ (f : Firing) (v : IsFiring f) (fs : List Firing) (valid : AreFirings fs) where
  begun_has : (head : Version) → Contains (begun_lines head fs) (firing_text f) → Contains fs f
  begun_has head c = elim (Contains-cons_cases (first_line head) (firing_text f) (map firing_text fs) c) [ inl e ↦ absurd (first_not_firing head f e) | inr k ↦ one (text_of fs (firing_text f) k) ]
    where
      one : ((g : Firing) × Contains fs g × (firing_text g ≡ firing_text f)) → Contains fs f
      one (g, k, e) = subst (λ (h : Firing). Contains fs h) (same_firing_text g f (valid_of fs g valid k) v e) k

  whole_has : (head : Version) (n : ℕ) → Contains (begun_lines head fs ++ count_line n ∷ []) (firing_text f) → Contains fs f
  whole_has head n c = elim (Contains-push_cases (begun_lines head fs) (count_line n) (firing_text f) c) [ inl k ↦ begun_has head k | inr e ↦ absurd (firing_not_count f n (sym e)) ]

pub read_has : (version : Version) (text : PiecesAndRest) (ending : Ending) (fs : List Firing) (f : Firing) → IsFiring f → IsCheckpointIn version text ending fs → Contains text.0 (firing_text f) → Contains fs f
read_has version text Whole fs f v w c = whole_has f v fs w.valid w.head (length fs) (subst (λ (p : PiecesAndRest). Contains p.0 (firing_text f)) w.lines c)
read_has version text Torn fs f v t c =
    elim t.lines [
      | inl b ↦ begun_has f v fs t.valid b.head (subst (λ (ls : List (List ℕ)). Contains ls (firing_text f)) b.lines c)
      | inr n ↦ absurd (Contains-nil (firing_text f) (subst (λ (ls : List (List ℕ)). Contains ls (firing_text f)) n.0 c))
    ]

-- where nothing was fired or taken
pub read_nothing : (m : State) (version : Version) (text : PiecesAndRest) (c : Checkpoint) → IsAnswer version text (Ok c) → IsReadBehind m version text (record { fired = 0; checkpoint = c }) m
read_nothing m version text c a = record { before = []; counted = refl; few = omega arith; read = a; took = took_none m c.firings }

run_takes : (old new : State) (gs : List Firing) → Runs old gs new → TakesAll old gs new
run_takes old new gs r = record { grows = r.fires.grows; taken = r.fires.taken }

front_of : (xs ys : List Firing) → take (length xs) (xs ++ ys) ≡ xs
front_of xs ys = ap (λ (k : ℕ). take k (xs ++ ys)) (let e : length xs ≡ length xs + 0 = omega arith in e) ∙ take-append-add xs ys 0 ∙ append-nil xs

-- a machine fired lines at the front of the bytes, and then such as were listed
module _ (base mid new : State) (bytes rest others : List ℕ) (count : ℕ) (fresh : IsFresh base) (runs : Runs base mid.log mid) (are : AreFired bytes rest mid.log) (l : FiresListed mid rest others count new) (is : IsMachine new) where
  abbrev before : List Firing
  before = mid.log ++ l.passed

  are_all : AreFired bytes others before
  are_all = fired_both bytes rest others mid.log l.passed are l.are

  log_is : new.log ≡ mid.log ++ l.more
  log_is = (l.fires.runs.alone (runs.alone fresh.1).1).0

  takes : TakesAll base (mid.log ++ l.more) new
  takes = takes_on base mid new mid.log l.more (run_takes base mid mid.log runs) (run_takes mid new l.more l.fires.runs)

  logged : (f : Firing) → Contains before f → Contains new.log f
  logged f c = elim (Contains-append_cases mid.log l.passed f c) [ inl k ↦ subst (λ (xs : List Firing). Contains xs f) (sym log_is) (Contains-append_left mid.log l.more f k) | inr k ↦ l.logged f k ]

  module _ (head : Version) (text : PiecesAndRest) (e : text ≡ lines_behind (first_line head ∷ []) bytes) where
    in_text : (f : Firing) → Contains l.more f → Contains text.0 (firing_text f)
    in_text f c =
        subst (λ (p : PiecesAndRest). Contains p.0 (firing_text f)) (sym (e ∙ fired_text bytes rest mid.log are head))
        (Contains-append_right (begun_lines head mid.log) (lines rest) (firing_text f) (l.fires.there f c))

    -- what was read has all that the machine took
    took : (version : Version) (ending : Ending) (fs : List Firing) → IsCheckpointIn version text ending (before ++ fs) → TookFront base (before ++ fs) (length before) new
    took version ending fs read = record {
      some = mid.log ++ l.more;
      takes = takes;
      within = λ f c. elim (Contains-append_cases mid.log l.more f c) [
        | inl k ↦ Contains-append_left before fs f (Contains-append_left mid.log l.passed f k)
        | inr k ↦ read_has version text ending (before ++ fs) f (l.fires.valid f k) read (in_text f k)
      ];
      front = λ f c. subst (λ (xs : List Firing). Contains xs f) log_is (logged f (subst (λ (xs : List Firing). Contains xs f) (front_of before fs) c));
      firings = λ f c. subst (λ (j : JobParts). IsTrue ((own_of j).is_firing f)) takes.grows.job
          (is.sound.firings f (Contains-append_left new.log new.parked f (logged f (subst (λ (xs : List Firing). Contains xs f) (front_of before fs) c))));
      few = omega (arith, length-append before fs);
    }

    -- and what is answered of the bytes behind is so of the text
    module _ (version : Version) (may : MayRead version head) (r : Result Checkpoint CheckpointError) (a : (head : Version) (fs : List Firing) → length mid.log + count ≡ length fs → AreRead head fs → IsAnswerBehind head (lines_behind (begun_lines head fs) others) (behind fs r)) where
      counted : length mid.log + count ≡ length before
      counted = omega (arith, length-append mid.log l.passed, l.counted)

      answered : IsAnswer version text (behind before r)
      answered =
          subst (λ (t : PiecesAndRest). IsAnswer version t (behind before r)) (sym (e ∙ fired_text bytes others before are_all head))
          (a head before counted (fired_read bytes others before are_all head) version may)

    pub unread_listed : (version : Version) → MayRead version head → (error : CheckpointError) → ((head : Version) (fs : List Firing) → length mid.log + count ≡ length fs → AreRead head fs → IsAnswerBehind head (lines_behind (begun_lines head fs) others) (behind fs (Err error))) → IsCheckpointErrorIn version text error
    unread_listed version may error a = answered version may (Err error) a

    pub read_listed : (version : Version) → MayRead version head → (r : ReadBehind) → r.fired ≡ length mid.log + count → r.fired < 2 ^ 62 → ((head : Version) (fs : List Firing) → length mid.log + count ≡ length fs → AreRead head fs → IsAnswerBehind head (lines_behind (begun_lines head fs) others) (behind fs (Ok r.checkpoint))) → IsReadBehind base version text r new
    read_listed version may r n few a = record {
      before = before;
      counted = n ∙ counted version may (Ok r.checkpoint) a;
      few = few;
      read = answered version may (Ok r.checkpoint) a;
      took = took version r.checkpoint.ending r.checkpoint.firings (answered version may (Ok r.checkpoint) a);
    }
