-- What the readers of a script's lines read.
use Rattle.std.specs.Prelude.{◌≡◌, ℕ, ◌+◌, ◌-◌, ◌^◌, ◌<◌, ◌≤◌, List, [], ◌∷◌, ◌++◌, length, codes, Option, Some, None, MatchOption}
use Rattle.std.proofs.Common.{sym, ◌∙◌, ap, subst, arith}
use Rattle.std.proofs.lemmas.List.{append_cancel_left, append_assoc}
use Rattle.std.proofs.lemmas.Option.{same_Some, none-some}
use Rattle.std.proofs.lemmas.Fmt.{decimal_digit}
use Rattle.std.specs.Fmt.{decimal}
use Rattle.u_base.specs.Pieces.{IsCutInto}
use Rattle.u_base.proofs.PiecesLaws.{glued, glued-pieces}
use Rattle.u_base.specs.Spaced.{ended}
use Rattle.u_base.proofs.SpacedLaws.{ended-append}
use Rattle.u_base.specs.WholeWords.{number_word, number0_word}
use Rattle.u_base.proofs.WholeWordsLaws.{number_word_sound, number_word_complete, number0_word_sound, number0_word_complete}
use Rattle.u_base.specs.TextAt.{IsNoText}
use Rattle.u_rule.specs.FiringText.{firing_text}
use Rattle.u_rule.specs.FiringReading.{IsFiring}
use Rattle.u_rule.specs.declared.firing.Firing.{Firing}
use Rattle.u_world.specs.Scripts.{IsReplica, IsLong, IsTaking, IsDeedOf, IsLineOf, AreLinesOf}
use Rattle.u_world.specs.declared.event.Event.{Event}
use Rattle.u_world.specs.declared.event.Event.TheVariants as events

-- what is known of a result that is there, or that is not

pub found : {A : Type 0} (N : Type 0) (S : A → Type 0) (o : Option A) (x : A) → o ≡ Some x → MatchOption o N S → S x
found N S (Some y) x e h = subst S (same_Some y x e) h
found N S None x e h = absurd (none-some x e)

pub missing : {A : Type 0} (N : Type 0) (S : A → Type 0) (o : Option A) → o ≡ None → MatchOption o N S → N
missing N S (Some y) e h = absurd (none-some y (sym e))
missing N S None e h = h

-- a number behind some bytes

pub number_is : (bs front rest : List ℕ) (n : ℕ) → bs ≡ front ++ rest → number0_word (2 ^ 64 - 1) rest ≡ Some n → bs ≡ front ++ decimal n
number_is bs front rest n e h = e ∙ ap (λ r. front ++ r) (number0_word_sound (2 ^ 64 - 1) rest n (omega arith) (omega arith) h).1

pub number_is_none : (bs front rest : List ℕ) (n : ℕ) → bs ≡ front ++ rest → number0_word (2 ^ 64 - 1) rest ≡ None → IsLong n → bs ≡ front ++ decimal n → ⊥
number_is_none bs front rest n e h l k =
    let r : rest ≡ decimal n = append_cancel_left front rest (decimal n) (sym e ∙ k) in
    none-some n (sym h ∙ ap (number0_word (2 ^ 64 - 1)) r ∙ number0_word_complete (2 ^ 64 - 1) n (omega arith) (omega arith) (omega (arith, l)))

-- the number of a replica, as a word and behind some bytes

pub word_is : (w : List ℕ) (n : ℕ) → number_word 9 w ≡ Some n → n ≤ 8 → IsReplica n × (w ≡ decimal n)
word_is w n h l = let s = number_word_sound 9 w n (omega arith) (omega arith) h in ((s.0.0, l), s.1)

pub word_is_none : (w : List ℕ) (r : ℕ) → number_word 9 w ≡ None → IsReplica r → w ≡ decimal r → ⊥
word_is_none w r h l e = none-some r (sym h ∙ ap (number_word 9) e ∙ number_word_complete 9 r (omega arith) (omega arith) (l.0, omega (arith, l.1)))

pub word_is_over : (w : List ℕ) (n r : ℕ) → number_word 9 w ≡ Some n → 8 < n → IsReplica r → w ≡ decimal r → ⊥
word_is_over w n r h o l e =
    let m : n ≡ r = same_Some n r (sym h ∙ ap (number_word 9) e ∙ number_word_complete 9 r (omega arith) (omega arith) (l.0, omega (arith, l.1))) in
    omega (arith, o, l.1, m)

pub replica_is_none : (bs front rest : List ℕ) (r : ℕ) → bs ≡ front ++ rest → ((q : ℕ) → IsReplica q → rest ≡ decimal q → ⊥) → IsReplica r → bs ≡ front ++ decimal r → ⊥
replica_is_none bs front rest r e h l k = h r l (append_cancel_left front rest (decimal r) (sym e ∙ k))

-- the number of a replica at the front, which is one digit

one_digit : (r : ℕ) (rest : List ℕ) → IsReplica r → decimal r ++ rest ≡ (48 + r) ∷ rest
one_digit r rest l = ap (λ d. d ++ rest) (decimal_digit r (omega (arith, l.1)))

pub digit_is : (line rest : List ℕ) (b : ℕ) → line ≡ b ∷ rest → 49 ≤ b → b ≤ 56 → IsReplica (b - 48) × (line ≡ decimal (b - 48) ++ rest)
digit_is line rest b e low high =
    let is : IsReplica (b - 48) = (omega (arith, low), omega (arith, high)) in
    let n : 48 + (b - 48) ≡ b = omega (arith, low) in
    (is, e ∙ sym (one_digit (b - 48) rest is ∙ ap (λ d. d ∷ rest) n))

pub no_digit : (line rest other : List ℕ) (b r : ℕ) → line ≡ b ∷ rest → (49 ≤ b → b ≤ 56 → ⊥) → IsReplica r → line ≡ decimal r ++ other → ⊥
no_digit line rest other b r e out l k =
    let s : b ∷ rest ≡ (48 + r) ∷ other = sym e ∙ k ∙ one_digit r other l in
    let n : b ≡ 48 + r = cc in
    out (omega (arith, n, l.0)) (omega (arith, n, l.1))

pub nothing_there : (line other : List ℕ) (r : ℕ) → length line ≡ 0 → IsReplica r → line ≡ decimal r ++ other → ⊥
nothing_there line other r e l k = let s : length line ≡ length ((48 + r) ∷ other) = ap length (k ∙ one_digit r other l) in omega (arith, e, s)

-- the digit and what stands behind it are those of the line
one_split : (r q : ℕ) (t u : List ℕ) → IsReplica r → IsReplica q → decimal r ++ t ≡ decimal q ++ u → (r ≡ q) × (t ≡ u)
one_split r q t u l m e =
    let s : (48 + r) ∷ t ≡ (48 + q) ∷ u = sym (one_digit r t l) ∙ e ∙ one_digit q u m in
    let n : 48 + r ≡ 48 + q = cc in
    (omega (arith, n), cc)

same_deed : (D : ℕ → List ℕ → Type 0) (line t : List ℕ) (r : ℕ) → IsReplica r → line ≡ decimal r ++ t
    → (q : ℕ) × (u : List ℕ) × IsReplica q × (line ≡ decimal q ++ u) × D q u → D r t
same_deed D line t r l k (q, u, m, e, d) =
    let s = one_split r q t u l m (sym k ∙ e) in
    subst (λ (q : ℕ). D q t) (sym s.0) (subst (λ (u : List ℕ). D q u) (sym s.1) d)

pub no_event : (line t : List ℕ) (r : ℕ) (e : Event)
    → ((n : ℕ) → IsLong n → line ≡ codes "deliver " ++ decimal n → ⊥)
    → IsReplica r → line ≡ decimal r ++ t
    → ((e : Event) → IsDeedOf r t e → ⊥)
    → IsLineOf line e → ⊥
no_event line t r (events.Deliver m) none l k deed h = none m h.0 h.1
no_event line t r (events.Fire q p) none l k deed h = deed (events.Fire q p) (same_deed (λ r t. IsDeedOf r t (events.Fire q p)) line t r l k h)
no_event line t r (events.Take q p) none l k deed h = deed (events.Take q p) (same_deed (λ r t. IsDeedOf r t (events.Take q p)) line t r l k h)
no_event line t r (events.Ask q p) none l k deed h = deed (events.Ask q p) (same_deed (λ r t. IsDeedOf r t (events.Ask q p)) line t r l k h)
no_event line t r (events.Merge q p) none l k deed h = deed (events.Merge q p) (same_deed (λ r t. IsDeedOf r t (events.Merge q p)) line t r l k h)
no_event line t r (events.Save q) none l k deed h = deed (events.Save q) (same_deed (λ r t. IsDeedOf r t (events.Save q)) line t r l k h)
no_event line t r (events.Restart q p) none l k deed h = deed (events.Restart q p) (same_deed (λ r t. IsDeedOf r t (events.Restart q p)) line t r l k h)
no_event line t r (events.Bytes q p) none l k deed h = deed (events.Bytes q p) (same_deed (λ r t. IsDeedOf r t (events.Bytes q p)) line t r l k h)

-- a firing behind the word for taking

pub no_firing : (bs text : List ℕ) (f : Firing) (k : ℕ) → bs ≡ codes " takes " ++ text → IsNoText firing_text IsFiring text k → IsTaking bs f → ⊥
no_firing bs text f k e h (other, is, o) = h.none f is.0 (append_cancel_left (codes " takes ") text other (sym e ∙ o) ∙ is.1)

pub not_taken : (bs : List ℕ) (f : Firing) → ((rest : List ℕ) → bs ≡ codes " takes " ++ rest → ⊥) → IsTaking bs f → ⊥
not_taken bs f h (text, is, e) = h text e

-- what a replica does is none of all that it may do
pub no_deed : (r : ℕ) (t : List ℕ) (e : Event)
    → ((n : ℕ) → IsLong n → t ≡ codes " fires " ++ decimal n → ⊥)
    → ((q : ℕ) → IsReplica q → t ≡ codes " asks " ++ decimal q → ⊥)
    → ((q : ℕ) → IsReplica q → t ≡ codes " merges " ++ decimal q → ⊥)
    → (t ≡ codes " saves" → ⊥)
    → ((n : ℕ) → IsLong n → t ≡ codes " restarts " ++ decimal n → ⊥)
    → ((f : Firing) → IsTaking t f → ⊥)
    → IsDeedOf r t e → ⊥
no_deed r t (events.Fire q p) fires asks merges saves restarts takes h = fires p h.1 h.2
no_deed r t (events.Take q f) fires asks merges saves restarts takes h = takes f h.1
no_deed r t (events.Ask q s) fires asks merges saves restarts takes h = asks s h.1 h.2
no_deed r t (events.Merge q s) fires asks merges saves restarts takes h = merges s h.1 h.2
no_deed r t (events.Save q) fires asks merges saves restarts takes h = saves h.1
no_deed r t (events.Restart q k) fires asks merges saves restarts takes h = restarts k h.1 h.2
no_deed r t (events.Deliver m) fires asks merges saves restarts takes h = h
no_deed r t (events.Bytes q bs) fires asks merges saves restarts takes h = h

-- lines one after another

pub cut_is : (bs line others : List ℕ) → IsCutInto 10 bs line others → bs ≡ line ++ (10 ∷ others)
cut_is bs line others e =
    sym (glued-pieces 10 bs) ∙ ap (λ p. glued 10 p.0 p.1) e ∙ ap (λ t. line ++ (10 ∷ t)) (glued-pieces 10 others)

pub are_more : (ls : List (List ℕ)) (es : List Event) (l : List ℕ) (e : Event) → AreLinesOf ls es → IsLineOf l e → AreLinesOf (ls ++ (l ∷ [])) (es ++ (e ∷ []))
are_more [] [] l e h k = (k, tt)
are_more [] (f ∷ es) l e h k = absurd h
are_more (m ∷ ls) [] l e h k = absurd h
are_more (m ∷ ls) (f ∷ es) l e h k = (h.0, are_more ls es l e h.1 k)

pub longer : (bs rest line others : List ℕ) (ls : List (List ℕ)) → bs ≡ ended ls ++ rest → IsCutInto 10 rest line others → bs ≡ ended (ls ++ (line ∷ [])) ++ others
longer bs rest line others ls e c =
    e ∙ ap (λ r. ended ls ++ r) (cut_is rest line others c)
    ∙ sym (ap (λ t. t ++ others) (ended-append ls (line ∷ [])) ∙ append_assoc (ended ls) (line ++ (10 ∷ [])) others ∙ ap (λ t. ended ls ++ t) (append_assoc line (10 ∷ []) others))
