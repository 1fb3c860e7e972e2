-- The steps of reading a message answer what they should.
use Rattle.std.specs.Prelude.{◌≡◌, ℕ, suc, ◌+◌, ◌<◌, ◌≤◌, List, [], ◌∷◌, ◌++◌, length, map, None, Result, refl}
use Rattle.std.proofs.Common.{sym, ◌∙◌, ap, subst, arith, length-append}
use Rattle.std.proofs.lemmas.List.{append-nil, map-append}
use Rattle.std.specs.List.{AllByRecursion}
use Rattle.u_base.specs.TextAt.{IsNoText}
use Rattle.u_base.specs.Pieces.{PiecesAndRest, pieces, words}
use Rattle.u_rule.specs.declared.firing.Firing.{Firing}
use Rattle.u_rule.specs.FiringText.{firing_text}
use Rattle.u_rule.specs.FiringReading.{IsFiring, IsFiringOf}
use Rattle.u_delta.specs.declared.message.Ask.{Ask}
use Rattle.u_delta.specs.declared.message.Message.{Message}
use Rattle.u_delta.specs.declared.message.Message.TheVariants as messages
use Rattle.u_delta.specs.declared.head.Opening.{Opening}
use Rattle.u_delta.specs.declared.head.Head.{Head}
use Rattle.u_delta.specs.declared.head.Head.TheVariants as heads
use Rattle.u_delta.specs.declared.read_error.ReadError.{ReadError}
use Rattle.u_delta.specs.declared.read_error.ReadError.TheVariants.{BadLine, TooLong, Truncated, NoMemory}
use Rattle.u_delta.specs.Lines.{IsShort, IsLineAhead, IsRestAhead, IsLongAhead, lines_behind, Begins, AreAllowed, IsBadLine, IsTooLong}
use Rattle.u_delta.specs.MessageText.{last_line}
use Rattle.u_delta.specs.Messages.{IsOpening, IsMessageLines, IsErrorIn}
use Rattle.u_delta.specs.HeadReading.{opening, opening_line, head_line, IsHead, head_at}
use Rattle.u_delta.specs.Reading.{IsNoLine, IsNoEnd, IsNoFiring, IsBegun, begun_lines, delta_of, IsReadAs, IsAnswer}
use Rattle.u_delta.proofs.HeadLaws.{head_none}
use Rattle.u_delta.proofs.MessageLaws.{map_length, none_headed, begins_nothing, not_nothing, ask_whole, whole_lines, begins_begun, none_firing, none_end, none_behind, not_whole, none_behind_ask}
use Rattle.u_delta.proofs.LineLaws.{all_append, read_more, bad_line, bad_rest, too_long, truncated}

pub no_line_long : (bytes : List ℕ) (number : ℕ) → IsLongAhead bytes → IsNoLine bytes number (TooLong number)
no_line_long bytes number h ls a d n = subst (λ k. IsTooLong IsMessageLines (lines_behind ls bytes) k) (sym n) (too_long IsMessageLines ls bytes a h)

pub no_line_rest : (bytes : List ℕ) (number : ℕ) → IsRestAhead bytes → IsNoLine bytes number Truncated
no_line_rest bytes number h ls a d n = truncated IsMessageLines ls bytes a h.0 h.1 d

pub no_end_long : (bytes : List ℕ) (number : ℕ) → IsLongAhead bytes → IsNoEnd bytes number (TooLong number)
no_end_long bytes number h ls a d b n = subst (λ k. IsTooLong IsMessageLines (lines_behind ls bytes) k) (sym n) (too_long IsMessageLines ls bytes a h)

pub no_end_line : (bytes line rest : List ℕ) (number : ℕ) → IsLineAhead bytes line rest → IsNoEnd bytes number (BadLine number)
no_end_line bytes line rest number h ls a d b n = subst (λ k. IsBadLine IsMessageLines (lines_behind ls bytes) k) (sym n) (bad_line IsMessageLines ls bytes line rest a h.0 h.1 (b line))

pub no_end_rest : (bytes : List ℕ) (number : ℕ) → 0 < length bytes → IsRestAhead bytes → IsNoEnd bytes number (BadLine number)
no_end_rest bytes number l h ls a d b n = subst (λ k. IsBadLine IsMessageLines (lines_behind ls bytes) k) (sym n) (bad_rest IsMessageLines ls bytes a h.0 h.1 l d)

pub no_firing_bad : (line : List ℕ) (number k : ℕ) → IsNoText firing_text IsFiring line k → IsNoFiring line number (BadLine number)
no_firing_bad line number k h = (refl, h.none)

pieces_nil : pieces 10 [] ≡ ([], [])
unfolding pieces
pieces_nil = refl

-- a delta of which some firings were read

pub begun_allowed : (o : Opening) (fs : List Firing) → IsBegun o fs → AreAllowed IsMessageLines (begun_lines o fs)
begun_allowed o fs b = record { short = b.short; begins = begins_begun o fs b.head b.firings b.few }

begun_length : (o : Opening) (fs : List Firing) → length fs + 2 ≡ suc (length (begun_lines o fs))
begun_length o fs = omega (arith, map_length fs)

pub few_lines : (o : Opening) (fs : List Firing) → IsBegun o fs → length fs ≤ 4096
few_lines o fs b = omega (arith, b.few, b.head.few)

-- the next line is missing
pub closed_no_line : (o : Opening) (fs : List Firing) (bytes : List ℕ) (n : ℕ) (error : ReadError) → IsBegun o fs → n ≡ length fs → IsNoLine bytes (n + 2) error → IsErrorIn (lines_behind (begun_lines o fs) bytes) error
closed_no_line o fs bytes n error b k h = h (begun_lines o fs) (begun_allowed o fs b) (not_whole o fs b.head b.few) (ap (λ m. m + 2) k ∙ begun_length o fs)

-- the next line is not allowed
refused_line : (o : Opening) (fs : List Firing) (bytes line rest : List ℕ) (n : ℕ) → IsBegun o fs → n ≡ length fs → IsLineAhead bytes line rest → (Begins IsMessageLines (begun_lines o fs ++ (line ∷ [])) → ⊥) → IsErrorIn (lines_behind (begun_lines o fs) bytes) (BadLine (n + 2))
refused_line o fs bytes line rest n b k a r = subst (λ k. IsBadLine IsMessageLines (lines_behind (begun_lines o fs) bytes) k) (sym (ap (λ m. m + 2) k ∙ begun_length o fs)) (bad_line IsMessageLines (begun_lines o fs) bytes line rest (begun_allowed o fs b) a.0 a.1 r)

pub closed_not_end : (o : Opening) (fs : List Firing) (bytes line rest : List ℕ) (n : ℕ) → IsBegun o fs → n ≡ length fs → length fs ≡ o.count → IsLineAhead bytes line rest → (line ≡ last_line → ⊥) → IsErrorIn (lines_behind (begun_lines o fs) bytes) (BadLine (n + 2))
closed_not_end o fs bytes line rest n b k l a r = refused_line o fs bytes line rest n b k a (none_end o fs b.head line l r)

-- something stands behind `end`
pub closed_more : (o : Opening) (fs : List Firing) (bytes line rest : List ℕ) (n : ℕ) (error : ReadError) → IsBegun o fs → n ≡ length fs → length fs ≡ o.count → IsLineAhead bytes line rest → line ≡ last_line → IsNoEnd rest (n + 2 + 1) error → IsErrorIn (lines_behind (begun_lines o fs) bytes) error
closed_more o fs bytes line rest n error b k l a e h =
    let ls = begun_lines o fs ++ (last_line ∷ []) in
    let w = whole_lines o fs b.head b.firings l in
    let allowed : AreAllowed IsMessageLines ls = record { short = all_append IsShort (begun_lines o fs) last_line b.short (omega arith); begins = record { more = []; document = subst IsMessageLines (sym (append-nil ls)) w } } in
    let m : n + 2 + 1 ≡ suc (length ls) = omega (arith, length-append (begun_lines o fs) (last_line ∷ []), begun_length o fs) in
    let t : lines_behind (begun_lines o fs) bytes ≡ lines_behind ls rest = read_more (begun_lines o fs) bytes line rest a.0 ∙ ap (λ line. lines_behind (begun_lines o fs ++ (line ∷ [])) rest) e in
    subst (λ t. IsErrorIn t error) (sym t) (h ls allowed w (λ t. none_behind o fs b.head t l) m)

-- it is whole
pub closed_whole : (o : Opening) (fs : List Firing) (bytes line rest : List ℕ) → IsBegun o fs → length fs ≡ o.count → IsLineAhead bytes line rest → line ≡ last_line → rest ≡ [] → IsReadAs (lines_behind (begun_lines o fs) bytes) (messages.Delta (delta_of o fs))
closed_whole o fs bytes line rest b l a e n =
    let p : pieces 10 bytes ≡ (last_line ∷ [], []) = a.0 ∙ ap (λ line. (line ∷ (pieces 10 rest).0, (pieces 10 rest).1)) e ∙ ap (λ r. (last_line ∷ (pieces 10 r).0, (pieces 10 r).1)) n ∙ ap (λ (q : PiecesAndRest). (last_line ∷ q.0, q.1)) pieces_nil in
    let f : opening_line o ≡ opening_line (opening o.sender o.receiver o.life o.start (length fs)) = ap (λ n. opening_line (opening o.sender o.receiver o.life o.start n)) (sym l) in (
      record { opening = subst (λ n. IsOpening o.sender o.receiver o.life o.start n) (sym l) b.head; firings = b.firings },
      ap (λ (q : PiecesAndRest). (begun_lines o fs ++ q.0, q.1)) p ∙ ap (λ h. (h ∷ (map firing_text fs ++ (last_line ∷ [])), [])) f,
    )

-- the loop over the firings

pub none_read : (o : Opening) → IsHead (heads.Delta o) → IsShort (opening_line o) → IsBegun o []
none_read o h s = record { head = h; firings = tt; short = (s, tt); few = omega arith }

pub one_read : (o : Opening) (fs : List Firing) (f : Firing) (line : List ℕ) → IsBegun o fs → length fs < o.count → IsShort line → IsFiringOf line f → IsBegun o (fs ++ (f ∷ []))
one_read o fs f line b l s i = record {
  head = b.head;
  firings = all_append IsFiring fs f b.firings i.0;
  short = (b.short.0, subst (AllByRecursion IsShort) (sym (map-append firing_text fs (f ∷ []))) (all_append IsShort (map firing_text fs) (firing_text f) b.short.1 (subst (λ t. IsShort t) i.1 s)));
  few = omega (arith, length-append fs (f ∷ []));
}

pub text_read : (o : Opening) (fs : List Firing) (f : Firing) (bytes line rest : List ℕ) → IsLineAhead bytes line rest → IsFiringOf line f → lines_behind (begun_lines o fs) bytes ≡ lines_behind (begun_lines o (fs ++ (f ∷ []))) rest
text_read o fs f bytes line rest a i =
    read_more (begun_lines o fs) bytes line rest a.0
    ∙ ap (λ line. lines_behind (begun_lines o fs ++ (line ∷ [])) rest) i.1
    ∙ ap (λ ls. lines_behind (opening_line o ∷ ls) rest) (sym (map-append firing_text fs (f ∷ [])))

pub not_read : (o : Opening) (fs : List Firing) (bytes line rest : List ℕ) (n : ℕ) (error : ReadError) → IsBegun o fs → n ≡ length fs → length fs < o.count → IsLineAhead bytes line rest → IsNoFiring line (n + 2) error → IsErrorIn (lines_behind (begun_lines o fs) bytes) error
not_read o fs bytes line rest n (BadLine m) b k l a h = subst (λ k. IsErrorIn (lines_behind (begun_lines o fs) bytes) (BadLine k)) (sym h.0) (refused_line o fs bytes line rest n b k a (none_firing o fs b.head line l h.1))
not_read o fs bytes line rest n (TooLong m) b k l a h = absurd h
not_read o fs bytes line rest n Truncated b k l a h = absurd h
not_read o fs bytes line rest n NoMemory b k l a h = tt

-- an ask

pub ask_more : (a : Ask) (bytes : List ℕ) (error : ReadError) → IsHead (heads.Ask a) → IsShort (head_line (heads.Ask a)) → IsNoEnd bytes 2 error → IsErrorIn (lines_behind (head_line (heads.Ask a) ∷ []) bytes) error
ask_more a bytes error v s h = h (head_line (heads.Ask a) ∷ []) (record { short = (s, tt); begins = record { more = []; document = ask_whole a v } }) (ask_whole a v) (λ l. none_behind_ask a l v) refl

pub ask_alone : (a : Ask) (bytes : List ℕ) → IsHead (heads.Ask a) → bytes ≡ [] → IsReadAs (lines_behind (head_line (heads.Ask a) ∷ []) bytes) (messages.Ask a)
ask_alone a bytes v n = (v, ap (λ b. lines_behind (head_line (heads.Ask a) ∷ []) b) n ∙ ap (λ (q : PiecesAndRest). (head_line (heads.Ask a) ∷ q.0, q.1)) pieces_nil)

-- the first line

nothing_allowed : AreAllowed IsMessageLines []
nothing_allowed = record { short = tt; begins = begins_nothing }

pub first_missing : (bytes : List ℕ) (error : ReadError) → IsNoLine bytes 1 error → IsErrorIn (pieces 10 bytes) error
first_missing bytes error h = h [] nothing_allowed not_nothing refl

pub first_bad : (bytes line rest : List ℕ) → IsLineAhead bytes line rest → head_at (words line) ≡ None → IsErrorIn (pieces 10 bytes) (BadLine 1)
first_bad bytes line rest a n = bad_line IsMessageLines [] bytes line rest nothing_allowed a.0 a.1 (none_headed line (head_none line n))

pub first_read : (bytes line rest : List ℕ) (h : Head) (result : Result Message ReadError) → IsLineAhead bytes line rest → line ≡ head_line h → IsAnswer (lines_behind (head_line h ∷ []) rest) result → IsAnswer (pieces 10 bytes) result
first_read bytes line rest h result a e r = subst (λ t. IsAnswer t result) (sym (a.0 ∙ ap (λ l. lines_behind (l ∷ []) rest) e)) r
