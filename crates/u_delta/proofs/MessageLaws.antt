-- Which lines a message can begin with.
use Rattle.std.specs.Prelude.{◌≡◌, ℕ, zero, suc, ◌+◌, ◌-◌, ◌<◌, ◌≤◌, false, List, [], ◌∷◌, ◌++◌, length, map, None, refl}
use Rattle.std.proofs.Common.{sym, ◌∙◌, ap, subst, arith, append_assoc, length-append}
use Rattle.std.proofs.lemmas.List.{map-append}
use Rattle.std.specs.List.{AllByRecursion}
use Rattle.u_name.specs.Context.{Top}
use Rattle.u_name.specs.Name.{activity}
use Rattle.u_value.specs.declared.value.Value.TheVariants as values
use Rattle.u_rule.specs.EntryOrder.{firing}
use Rattle.u_rule.specs.declared.firing.Firing.{Firing}
use Rattle.u_rule.specs.FiringText.{firing_text}
use Rattle.u_rule.specs.FiringReading.{IsFiring}
use Rattle.u_delta.specs.declared.message.Ask.{Ask}
use Rattle.u_delta.specs.declared.message.Delta.{Delta}
use Rattle.u_delta.specs.declared.message.Message.{Message}
use Rattle.u_delta.specs.declared.message.Message.TheVariants as messages
use Rattle.u_delta.specs.declared.head.Opening.{Opening}
use Rattle.u_delta.specs.declared.head.Head.{Head}
use Rattle.u_delta.specs.declared.head.Head.TheVariants as heads
use Rattle.u_delta.specs.Lines.{Begins}
use Rattle.u_delta.specs.MessageText.{ask_line, last_line, message_lines}
use Rattle.u_delta.specs.Messages.{IsAsk, IsOpening, IsMessage, IsMessageLines}
use Rattle.u_delta.specs.HeadReading.{ask, opening, opening_line, head_line, IsHead}
use Rattle.u_delta.specs.Reading.{begun_lines, delta_of}
use Rattle.u_delta.proofs.HeadLaws.{head_same}
use Rattle.u_delta.proofs.LineLaws.{all_behind}

pub heads_are : {A : Type 0} {a b : A} {x y : List A} → ◌≡◌ {A = List A} (a ∷ x) (b ∷ y) → a ≡ b
heads_are h = cc

pub tails_are : {A : Type 0} {a b : A} {x y : List A} → ◌≡◌ {A = List A} (a ∷ x) (b ∷ y) → x ≡ y
tails_are h = cc

not_empty : (ls : List (List ℕ)) (l : List ℕ) (more : List (List ℕ)) → [] ≡ ls ++ (l ∷ more) → ⊥
not_empty [] l more e = cc
not_empty (x ∷ ls) l more e = cc

-- the first line of a message

abbrev pub head_of : Message → Head
head_of (messages.Ask a) = heads.Ask a
head_of (messages.Delta d) = heads.Delta (opening d.sender d.receiver d.life d.start (length d.firings))

pub head_valid : (m : Message) → IsMessage m → IsHead (head_of m)
head_valid (messages.Ask a) v = v
head_valid (messages.Delta d) v = v.opening

headed : (m : Message) (l : List ℕ) (more : List (List ℕ)) → message_lines m ≡ l ∷ more → l ≡ head_line (head_of m)
headed (messages.Ask a) l more e = sym (heads_are e)
headed (messages.Delta d) l more e = sym (heads_are e)

-- a line that is no first line begins no message
pub none_headed : (l : List ℕ) → ((h : Head) → IsHead h → l ≡ head_line h → ⊥) → Begins IsMessageLines ([] ++ (l ∷ [])) → ⊥
none_headed l n b =
    let m = b.document in
    n (head_of m.message) (head_valid m.message m.valid) (headed m.message l b.more m.there)

-- messages for examples

least_ask : Ask
least_ask = ask 1 2 0 0

pub begins_nothing : Begins IsMessageLines []
unfolding least_ask
begins_nothing = record {
  more = message_lines (messages.Ask least_ask);
  document = record { message = messages.Ask least_ask; valid = record { peers = ((omega arith, omega arith), (omega arith, omega arith), λ e. omega arith); life = omega arith; count = omega arith }; there = refl };
}

pub not_nothing : IsMessageLines [] → ⊥
not_nothing m = at m.message m.there
  where
    at : (m : Message) → message_lines m ≡ [] → ⊥
    at (messages.Ask a) e = cc
    at (messages.Delta d) e = cc

pub ask_whole : (a : Ask) → IsAsk a → IsMessageLines (ask_line a ∷ [])
ask_whole a v = record { message = messages.Ask a; valid = v; there = refl }

least_firing : Firing
least_firing = firing (activity Top (97 ∷ []) 1 1) (values.Bool false ∷ []) None

is_least_firing : IsFiring least_firing
unfolding least_firing
is_least_firing = (
  record {
    context = record { shallow = omega arith; in_range = tt };
    block = record { short = omega arith; first = refl; each = (refl, tt) };
    statement = (omega arith, omega arith);
    initiation = (omega arith, omega arith);
  },
  record { count = (omega arith, omega arith) },
  (tt, tt),
  tt,
)

-- so many of them
fill : ℕ → List Firing
fill zero = []
fill (suc k) = least_firing ∷ fill k

fill_valid : (k : ℕ) → AllByRecursion IsFiring (fill k)
unfolding fill
fill_valid zero = tt
fill_valid (suc k) = (is_least_firing, fill_valid k)

fill_length : (k : ℕ) → length (fill k) ≡ k
unfolding fill
fill_length zero = refl
fill_length (suc k) = ap suc (fill_length k)

-- where these are all firings
pub whole_lines : (o : Opening) (fs : List Firing) → IsHead (heads.Delta o) → AllByRecursion IsFiring fs → length fs ≡ o.count → IsMessageLines (begun_lines o fs ++ (last_line ∷ []))
whole_lines o fs v w h =
    let e : opening_line (opening o.sender o.receiver o.life o.start (length fs)) ≡ opening_line o = ap (λ n. opening_line (opening o.sender o.receiver o.life o.start n)) h in
    record {
      message = messages.Delta (delta_of o fs);
      valid = record { opening = subst (λ n. IsOpening o.sender o.receiver o.life o.start n) (sym h) v; firings = w };
      there = ap (λ l. l ∷ (map firing_text fs ++ (last_line ∷ []))) e;
    }

pub begins_begun : (o : Opening) (fs : List Firing) → IsHead (heads.Delta o) → AllByRecursion IsFiring fs → length fs ≤ o.count → Begins IsMessageLines (begun_lines o fs)
begins_begun o fs v w h =
    let rest = fill (o.count - length fs) in
    let l : length (fs ++ rest) ≡ o.count = omega (arith, length-append fs rest, fill_length (o.count - length fs)) in
    let e : begun_lines o (fs ++ rest) ++ (last_line ∷ []) ≡ begun_lines o fs ++ (map firing_text rest ++ (last_line ∷ [])) =
    ap (λ t. opening_line o ∷ (t ++ (last_line ∷ []))) (map-append firing_text fs rest)
    ∙ ap (λ t. opening_line o ∷ t) (append_assoc (map firing_text fs) (map firing_text rest) (last_line ∷ [])) in
    record { more = map firing_text rest ++ (last_line ∷ []); document = subst IsMessageLines e (whole_lines o (fs ++ rest) v (all_behind IsFiring fs rest w (fill_valid (o.count - length fs))) l) }

-- what stands behind so many lines of firings

data NextIs (gs : List Firing) (k : ℕ) (l : List ℕ) (more : List (List ℕ)) : Type 0 where
  a_firing : (f : Firing) → IsFiring f → l ≡ firing_text f → k < length gs → NextIs gs k l more
  the_end : k ≡ length gs → l ≡ last_line → more ≡ [] → NextIs gs k l more

one_behind : (g : Firing) (gs : List Firing) (k : ℕ) (l : List ℕ) (more : List (List ℕ)) → NextIs gs k l more → NextIs (g ∷ gs) (suc k) l more
one_behind g gs k l more (a_firing f v e h) = a_firing f v e (omega arith)
one_behind g gs k l more (the_end e f n) = the_end (ap suc e) f n

next_is : (gs : List Firing) (ls : List (List ℕ)) (l : List ℕ) (more : List (List ℕ)) → AllByRecursion IsFiring gs → map firing_text gs ++ (last_line ∷ []) ≡ ls ++ (l ∷ more) → NextIs gs (length ls) l more
next_is [] [] l more v e = the_end refl (sym (heads_are e)) (sym (tails_are e))
next_is [] (x ∷ ls) l more v e = absurd (not_empty ls l more (tails_are e))
next_is (g ∷ gs) [] l more v e = a_firing g v.0 (sym (heads_are e)) (omega arith)
next_is (g ∷ gs) (x ∷ ls) l more v e = one_behind g gs (length ls) l more (next_is gs ls l more v.1 (tails_are e))

pub map_length : (fs : List Firing) → length (map firing_text fs) ≡ length fs
map_length [] = refl
map_length (f ∷ fs) = ap suc (map_length fs)

-- a message that begins as a delta does is one, of as many firings
data IsSuch (o : Opening) (m : Message) (ls : List (List ℕ)) : Type 0 where
  such : (gs : List Firing) → AllByRecursion IsFiring gs → length gs ≡ o.count → map firing_text gs ++ (last_line ∷ []) ≡ ls → IsSuch o m ls

same_count : (d : Delta) (o : Opening) → ◌≡◌ {A = Head} (heads.Delta (opening d.sender d.receiver d.life d.start (length d.firings))) (heads.Delta o) → length d.firings ≡ o.count
same_count d o e = ap (λ (h : Head). elim h [ heads.Ask a ↦ 0 | heads.Delta p ↦ p.count ]) e

pub ask_not_delta : (a : Ask) (o : Opening) → ◌≡◌ {A = Head} (heads.Ask a) (heads.Delta o) → ⊥
ask_not_delta a o e = cc

such_is : (o : Opening) (m : Message) (ls : List (List ℕ)) → IsHead (heads.Delta o) → IsMessage m → message_lines m ≡ opening_line o ∷ ls → IsSuch o m ls
such_is o (messages.Ask a) ls v w e = absurd (ask_not_delta a o (head_same (heads.Ask a) (heads.Delta o) w v (heads_are e)))
such_is o (messages.Delta d) ls v w e = such d.firings w.firings (same_count d o (head_same (head_of (messages.Delta d)) (heads.Delta o) w.opening v (heads_are e))) (tails_are e)

module _ (o : Opening) (fs : List Firing) (v : IsHead (heads.Delta o)) where
  -- the lines behind the first one
  behind : (ls more : List (List ℕ)) (m : IsMessageLines ((opening_line o ∷ ls) ++ more)) → IsSuch o m.message (ls ++ more)
  behind ls more m = such_is o m.message (ls ++ more) v m.valid m.there

  next_of : (l : List ℕ) (more : List (List ℕ)) (m : Message) → IsSuch o m (map firing_text fs ++ (l ∷ more)) → (NextOf : Type 0) → ((gs : List Firing) → length gs ≡ o.count → NextIs gs (length fs) l more → NextOf) → NextOf
  next_of l more m (such gs w n e) NextOf k = k gs n (subst (λ j. NextIs gs j l more) (map_length fs) (next_is gs (map firing_text fs) l more w e))

  -- what follows the lines of some firings, and a line
  follows : (l : List ℕ) → Begins IsMessageLines (begun_lines o fs ++ (l ∷ [])) → (more : List (List ℕ)) × (gs : List Firing) × (length gs ≡ o.count) × NextIs gs (length fs) l more
  follows l b =
      let m : IsMessageLines ((opening_line o ∷ map firing_text fs) ++ (l ∷ b.more)) = subst IsMessageLines (append_assoc (begun_lines o fs) (l ∷ []) b.more) b.document in
      next_of l b.more m.message (behind (map firing_text fs) (l ∷ b.more) m) ((more : List (List ℕ)) × (gs : List Firing) × (length gs ≡ o.count) × NextIs gs (length fs) l more) (λ gs n x. (b.more, gs, n, x))

  -- where firings are to come, a line that is none is not allowed
  pub none_firing : (l : List ℕ) → length fs < o.count → ((f : Firing) → IsFiring f → l ≡ firing_text f → ⊥) → Begins IsMessageLines (begun_lines o fs ++ (l ∷ [])) → ⊥
  none_firing l h n b =
      let x = follows l b in
      elim x.3 [ a_firing f w e k ↦ n f w e | the_end e f k ↦ omega (arith, x.2) ]

  -- behind them only `end` is
  pub none_end : (l : List ℕ) → length fs ≡ o.count → (l ≡ last_line → ⊥) → Begins IsMessageLines (begun_lines o fs ++ (l ∷ [])) → ⊥
  none_end l h n b =
      let x = follows l b in
      elim x.3 [ a_firing f w e k ↦ omega (arith, x.2) | the_end e f k ↦ n f ]

  -- and behind that nothing
  pub none_behind : (l : List ℕ) → length fs ≡ o.count → Begins IsMessageLines ((begun_lines o fs ++ (last_line ∷ [])) ++ (l ∷ [])) → ⊥
  none_behind l h b =
      let c : Begins IsMessageLines (begun_lines o fs ++ (last_line ∷ [])) = record { more = l ∷ b.more; document = subst IsMessageLines (append_assoc (begun_lines o fs ++ (last_line ∷ [])) (l ∷ []) b.more) b.document } in
      let m : IsMessageLines ((opening_line o ∷ map firing_text fs) ++ (last_line ∷ (l ∷ b.more))) = subst IsMessageLines (append_assoc (begun_lines o fs) (last_line ∷ []) (l ∷ b.more)) c.document in
      next_of last_line (l ∷ b.more) m.message (behind (map firing_text fs) (last_line ∷ (l ∷ b.more)) m) ⊥
      (λ gs n x. elim x [ a_firing f w e k ↦ omega arith | the_end e f k ↦ not_empty [] l b.more (sym k) ])

  -- without `end` the message is not complete
  pub not_whole : length fs ≤ o.count → IsMessageLines (begun_lines o fs) → ⊥
  not_whole h m = at (such_is o m.message (map firing_text fs) v m.valid m.there)
    where
      at : IsSuch o m.message (map firing_text fs) → ⊥
      at (such gs w n e) =
          let l : length (map firing_text gs ++ (last_line ∷ [])) ≡ length (map firing_text gs) + 1 = length-append (map firing_text gs) (last_line ∷ []) in
          let k : length (map firing_text gs ++ (last_line ∷ [])) ≡ length (map firing_text fs) = ap (λ (ls : List (List ℕ)). length ls) e in
          omega (arith, l, k, n, map_length gs, map_length fs)

-- behind an ask nothing is allowed
pub none_behind_ask : (a : Ask) (l : List ℕ) → IsAsk a → Begins IsMessageLines ((ask_line a ∷ []) ++ (l ∷ [])) → ⊥
none_behind_ask a l v b = at b.document.message b.document.valid b.document.there
  where
    at : (m : Message) → IsMessage m → message_lines m ≡ ask_line a ∷ (l ∷ b.more) → ⊥
    at (messages.Ask c) w e = not_empty [] l b.more (tails_are e)
    at (messages.Delta d) w e = ask_not_delta a (opening d.sender d.receiver d.life d.start (length d.firings)) (head_same (heads.Ask a) (head_of (messages.Delta d)) v w.opening (sym (heads_are e)))
