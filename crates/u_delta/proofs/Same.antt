-- A message's text is the text of no other message, and is refused for want of memory alone.
use Rattle.std.specs.Prelude.{◌≡◌, ℕ, ◌*◌, ◌^◌, ◌<◌, ◌≤◌, List, [], ◌∷◌, ◌++◌, length, map, Result, Ok, Err, MatchResult, refl}
use Rattle.std.proofs.Common.{sym, ◌∙◌, ap, arith, length-append}
use Rattle.std.proofs.lemmas.Fmt.{length-decimal-le}
use Rattle.std.specs.List.{AllByRecursion}
use Rattle.std.specs.Fmt.{decimal}
use Rattle.u_base.specs.Pieces.{PiecesAndRest, pieces}
use Rattle.u_base.specs.Spaced.{spaced}
use Rattle.u_base.proofs.PiecesLaws.{Free}
use Rattle.u_base.proofs.SpacedLaws.{AllFree, all_free_append, pieces-ended}
use Rattle.u_rule.specs.declared.firing.Firing.{Firing}
use Rattle.u_rule.specs.FiringText.{firing_text}
use Rattle.u_rule.specs.FiringReading.{IsFiring}
use Rattle.u_rule.proofs.FiringReadingLaws.{firing_Reads}
use Rattle.u_delta.specs.declared.message.Ask.{Ask}
use Rattle.u_delta.specs.declared.message.Delta.{Delta}
use Rattle.u_delta.specs.declared.message.Message.{Message}
use Rattle.u_delta.specs.declared.message.Message.TheVariants as messages
use Rattle.u_delta.specs.declared.head.Opening.{Opening}
use Rattle.u_delta.specs.declared.head.Head.{Head}
use Rattle.u_delta.specs.declared.head.Head.TheVariants as heads
use Rattle.u_delta.specs.declared.read_error.ReadError.{ReadError}
use Rattle.u_delta.specs.declared.read_error.ReadError.TheVariants as errors
use Rattle.u_delta.specs.Lines.{IsShort}
use Rattle.u_delta.specs.MessageText.{ask_line, delta_line, last_line, message_lines, message_text}
use Rattle.u_delta.specs.Messages.{IsMessage, IsMessageLines, IsMessageOf, IsReadErrorOf}
use Rattle.u_delta.specs.HeadReading.{opening, head_line, IsHead}
use Rattle.u_delta.specs.Reading.{delta_of, IsAnswer}
use Rattle.u_delta.proofs.HeadLaws.{head_free, head_same}
use Rattle.u_delta.proofs.MessageLaws.{head_of, heads_are, tails_are, ask_not_delta}
use Rattle.u_delta.proofs.FiringTextLaws.{firing_free, firing_short}
use Rattle.u_delta.proofs.OneError.{one_bad, one_long, bad_not_long, bad_not_truncated, long_not_truncated}
use Rattle.u_delta.proofs.LineLaws.{all_behind, read_all, none_bad, none_long, not_truncated}

-- the lines of a message have no newline

pub firings_free : (fs : List Firing) → AllByRecursion IsFiring fs → AllFree 10 (map firing_text fs)
firings_free [] v = tt
firings_free (f ∷ fs) v = (firing_free f v.0, firings_free fs v.1)

last_free : Free 10 last_line
last_free = (λ e. omega arith, (λ e. omega arith, (λ e. omega arith, tt)))

lines_free : (m : Message) → IsMessage m → AllFree 10 (message_lines m)
lines_free (messages.Ask a) v = (head_free 10 (omega arith) (heads.Ask a) (λ e. omega arith) v, tt)
lines_free (messages.Delta d) v =
    (head_free 10 (omega arith) (head_of (messages.Delta d)) (λ e. omega arith) v.opening, all_free_append 10 (map firing_text d.firings) (last_line ∷ []) (firings_free d.firings v.firings) (last_free, tt))

-- and are short

pub firings_short : (fs : List Firing) → AllByRecursion IsFiring fs → AllByRecursion IsShort (map firing_text fs)
firings_short [] v = tt
firings_short (f ∷ fs) v = (omega (arith, firing_short f v.0), firings_short fs v.1)

abbrev Fits : ℕ → Type 0
Fits n = n < 2 ^ 64

number_short : (n : ℕ) → Fits n → length (decimal n) ≤ 20
number_short n h = length-decimal-le 20 n (omega arith) (omega arith) h

spaced_short : (ns : List ℕ) → AllByRecursion Fits ns → length (spaced (map decimal ns)) ≤ 21 * length ns
spaced_short [] v = omega arith
spaced_short (n ∷ ns) v = omega (arith, length-append (decimal n) (spaced (map decimal ns)), number_short n v.0, spaced_short ns v.1)

head_short : (h : Head) → IsHead h → IsShort (head_line h)
unfolding ask_line delta_line
head_short (heads.Ask a) v =
    let p = v.peers in
    let l = spaced_short (a.asker ∷ (a.asked ∷ (a.life ∷ (a.count ∷ [])))) (omega (arith, p.0.1), (omega (arith, p.1.1), (v.life, (v.count, tt)))) in
    omega (arith, l)
head_short (heads.Delta o) v =
    let p = v.peers in
    let l = spaced_short (o.sender ∷ (o.receiver ∷ (o.life ∷ (o.start ∷ (o.count ∷ []))))) (omega (arith, p.0.1), (omega (arith, p.1.1), (v.life_fits, (v.start_fits, (omega (arith, v.few), tt))))) in
    omega (arith, l)

lines_short : (m : Message) → IsMessage m → AllByRecursion IsShort (message_lines m)
lines_short (messages.Ask a) v = (head_short (heads.Ask a) v, tt)
lines_short (messages.Delta d) v =
    (head_short (head_of (messages.Delta d)) v.opening, all_behind IsShort (map firing_text d.firings) (last_line ∷ []) (firings_short d.firings v.firings) (omega arith, tt))

-- two messages with the same lines are one

firings_same : (fs gs : List Firing) → AllByRecursion IsFiring fs → AllByRecursion IsFiring gs → length fs ≡ length gs → map firing_text fs ++ (last_line ∷ []) ≡ map firing_text gs ++ (last_line ∷ []) → fs ≡ gs
firings_same [] [] v w n e = refl
firings_same [] (g ∷ gs) v w n e = absurd (omega arith)
firings_same (f ∷ fs) [] v w n e = absurd (omega arith)
firings_same (f ∷ fs) (g ∷ gs) v w n e =
    let s : f ≡ g = firing_Reads.same f g v.0 w.0 (ap (λ t. t ++ (10 ∷ [])) (heads_are e)) in
    let r : fs ≡ gs = firings_same fs gs v.1 w.1 (omega arith) (tails_are e) in
    cc

abbrev parts_of : Head → Opening
parts_of (heads.Ask a) = opening 0 0 0 0 0
parts_of (heads.Delta o) = o

abbrev ask_of : Ask → Head → Ask
ask_of b (heads.Ask a) = a
ask_of b (heads.Delta o) = b

deltas_same : (d e : Delta) → opening d.sender d.receiver d.life d.start (length d.firings) ≡ opening e.sender e.receiver e.life e.start (length e.firings) → d.firings ≡ e.firings → d ≡ e
deltas_same d e h f =
    ap (λ fs. delta_of (opening d.sender d.receiver d.life d.start (length d.firings)) fs) f ∙ ap (λ (o : Opening). delta_of o e.firings) h

lines_same : (m n : Message) → IsMessage m → IsMessage n → message_lines m ≡ message_lines n → m ≡ n
lines_same (messages.Ask a) (messages.Ask b) v w e = ap (λ (h : Head). messages.Ask (ask_of a h)) (head_same (heads.Ask a) (heads.Ask b) v w (heads_are e))
lines_same (messages.Ask a) (messages.Delta d) v w e = absurd (ask_not_delta a (opening d.sender d.receiver d.life d.start (length d.firings)) (head_same (heads.Ask a) (head_of (messages.Delta d)) v w.opening (heads_are e)))
lines_same (messages.Delta d) (messages.Ask a) v w e = absurd (ask_not_delta a (opening d.sender d.receiver d.life d.start (length d.firings)) (head_same (heads.Ask a) (head_of (messages.Delta d)) w v.opening (sym (heads_are e))))
lines_same (messages.Delta d) (messages.Delta e) v w h =
    let s = ap parts_of (head_same (head_of (messages.Delta d)) (head_of (messages.Delta e)) v.opening w.opening (heads_are h)) in
    let n : length d.firings ≡ length e.firings = ap (λ (o : Opening). o.count) s in
    ap (λ d. messages.Delta d) (deltas_same d e s (firings_same d.firings e.firings v.firings w.firings n (tails_are h)))

pieces_of_text : (m : Message) (bytes : List ℕ) → IsMessageOf bytes m → pieces 10 bytes ≡ (message_lines m, [])
unfolding message_text
pieces_of_text m bytes v = ap (pieces 10) v.1 ∙ pieces-ended (message_lines m) (lines_free m v.0)

-- the text of a message is that of no other
pub same_message : (m n : Message) (bytes : List ℕ) → IsMessageOf bytes m → IsMessageOf bytes n → m ≡ n
same_message m n bytes v w = lines_same m n v.0 w.0 (ap (λ (p : PiecesAndRest). p.0) (sym (pieces_of_text m bytes v) ∙ pieces_of_text n bytes w))

-- what was read of the lines is what the bytes are the text of
pub read_whole : (bytes : List ℕ) (result : Result Message ReadError) → IsAnswer (pieces 10 bytes) result → MatchResult result (λ m. IsMessageOf bytes m) (λ error. IsReadErrorOf bytes error)
unfolding message_text
read_whole bytes (Ok m) h = (h.0, read_all bytes (message_lines m) h.1)
read_whole bytes (Err e) h = h

-- what is returned for the text of a message
pub read_back : (bytes : List ℕ) (m : Message) (result : Result Message ReadError) → MatchResult result (λ x. IsMessageOf bytes x) (λ error. IsReadErrorOf bytes error) → IsMessageOf bytes m → MatchResult result (λ x. x ≡ m) (λ error. error ≡ errors.NoMemory)
unfolding message_text
read_back bytes m (Ok x) h v = same_message x m bytes h v
read_back bytes m (Err (errors.BadLine n)) h v = absurd (none_bad IsMessageLines (message_lines m) (record { message = m; valid = v.0; there = refl }) (lines_free m v.0) (lines_short m v.0) bytes v.1 n h)
read_back bytes m (Err (errors.TooLong n)) h v = absurd (none_long IsMessageLines (message_lines m) (record { message = m; valid = v.0; there = refl }) (lines_free m v.0) (lines_short m v.0) bytes v.1 n h)
read_back bytes m (Err errors.Truncated) h v = absurd (not_truncated IsMessageLines (message_lines m) (record { message = m; valid = v.0; there = refl }) (lines_free m v.0) (lines_short m v.0) bytes v.1 h)
read_back bytes m (Err errors.NoMemory) h v = refl

-- other bytes have one error at most, but that memory may be wanting at any of them
pub one_error : (bytes : List ℕ) (a b : ReadError) → (a ≡ errors.NoMemory → ⊥) → (b ≡ errors.NoMemory → ⊥) → IsReadErrorOf bytes a → IsReadErrorOf bytes b → a ≡ b
one_error bytes (errors.BadLine n) (errors.BadLine m) x y v w = ap (λ k. errors.BadLine k) (one_bad IsMessageLines (pieces 10 bytes) n m v w)
one_error bytes (errors.BadLine n) (errors.TooLong m) x y v w = absurd (bad_not_long IsMessageLines (pieces 10 bytes) n m v w)
one_error bytes (errors.BadLine n) errors.Truncated x y v w = absurd (bad_not_truncated IsMessageLines (pieces 10 bytes) n v w)
one_error bytes (errors.BadLine n) errors.NoMemory x y v w = absurd (y refl)
one_error bytes (errors.TooLong n) (errors.BadLine m) x y v w = absurd (bad_not_long IsMessageLines (pieces 10 bytes) m n w v)
one_error bytes (errors.TooLong n) (errors.TooLong m) x y v w = ap (λ k. errors.TooLong k) (one_long IsMessageLines (pieces 10 bytes) n m v w)
one_error bytes (errors.TooLong n) errors.Truncated x y v w = absurd (long_not_truncated IsMessageLines (pieces 10 bytes) n v w)
one_error bytes (errors.TooLong n) errors.NoMemory x y v w = absurd (y refl)
one_error bytes errors.Truncated (errors.BadLine m) x y v w = absurd (bad_not_truncated IsMessageLines (pieces 10 bytes) m w v)
one_error bytes errors.Truncated (errors.TooLong m) x y v w = absurd (long_not_truncated IsMessageLines (pieces 10 bytes) m w v)
one_error bytes errors.Truncated errors.Truncated x y v w = refl
one_error bytes errors.Truncated errors.NoMemory x y v w = absurd (y refl)
one_error bytes errors.NoMemory b x y v w = absurd (x refl)
