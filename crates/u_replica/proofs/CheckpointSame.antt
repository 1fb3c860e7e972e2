-- A text is read in one way: as the checkpoint of one list, whole or torn, or with one error.
use Rattle.std.specs.Prelude.{◌≡◌, ℕ, ◌^◌, ◌<◌, ◌≤◌, List, [], ◌∷◌, ◌++◌, length, map, Result, Ok, Err, MatchResult, refl}
use Rattle.std.proofs.Common.{sym, ◌∙◌, ap, subst, arith, inl, inr, length-append}
use Rattle.std.proofs.lemmas.Fmt.{length-decimal-le}
use Rattle.std.specs.List.{AllByRecursion}
use Rattle.u_base.specs.Pieces.{PiecesAndRest, pieces}
use Rattle.u_base.specs.Spaced.{ended}
use Rattle.u_base.proofs.PiecesLaws.{Free}
use Rattle.u_base.proofs.SpacedLaws.{AllFree, all_free_append, free_decimal, pieces-ended}
use Rattle.u_program.specs.declared.program.Version.{Version}
use Rattle.u_program.specs.declared.program.Version.TheVariants as versions
use Rattle.u_rule.specs.declared.firing.Firing.{Firing}
use Rattle.u_rule.specs.FiringText.{firing_text}
use Rattle.u_rule.specs.FiringReading.{IsFiring}
use Rattle.u_rule.proofs.FiringReadingLaws.{firing_Reads}
use Rattle.u_delta.specs.Lines.{IsShort}
use Rattle.u_delta.proofs.MessageLaws.{heads_are, tails_are}
use Rattle.u_delta.proofs.Same.{firings_free, firings_short}
use Rattle.u_delta.proofs.LineLaws.{all_append, read_all, none_bad, none_long}
use Rattle.u_delta.proofs.OneError.{one_bad, one_long, bad_not_long, bad_not_truncated, long_not_truncated}
use Rattle.u_replica.specs.declared.checkpoint.Ending.{Ending}
use Rattle.u_replica.specs.declared.checkpoint.Ending.TheVariants.{Whole, Torn}
use Rattle.u_replica.specs.declared.checkpoint.Checkpoint.{Checkpoint}
use Rattle.u_replica.specs.declared.checkpoint.CheckpointError.{CheckpointError}
use Rattle.u_replica.specs.declared.checkpoint.CheckpointError.TheVariants as errors
use Rattle.u_replica.specs.CheckpointText.{first_line, count_line, begun_lines, checkpoint_lines, checkpoint_text}
use Rattle.u_replica.specs.Checkpoints.{AreFirings, MayRead, IsCheckpointLines, SayFirings, IsWholeOf, IsTornIn, IsCheckpointOf, IsCheckpointErrorIn, IsCheckpointErrorOf}
use Rattle.u_replica.specs.CheckpointReading.{IsWholeIn, IsCheckpointIn, IsAnswer}
use Rattle.u_replica.proofs.CheckpointLaws.{firing_not_count, whole_lines}

-- the lines of a checkpoint have no newline

pub first_free : (head : Version) → Free 10 (first_line head)
first_free versions.One =
    (λ e. omega arith, (λ e. omega arith, (λ e. omega arith, (λ e. omega arith, (λ e. omega arith, (λ e. omega arith, (λ e. omega arith, (λ e. omega arith, (λ e. omega arith, (λ e. omega arith, (λ e. omega arith, tt)))))))))))
first_free versions.Two =
    (λ e. omega arith, (λ e. omega arith, (λ e. omega arith, (λ e. omega arith, (λ e. omega arith, (λ e. omega arith, (λ e. omega arith, (λ e. omega arith, (λ e. omega arith, (λ e. omega arith, (λ e. omega arith, tt)))))))))))

pub count_free : (n : ℕ) → n < 2 ^ 64 → Free 10 (count_line n)
count_free n h = (λ e. omega arith, (λ e. omega arith, (λ e. omega arith, (λ e. omega arith, free_decimal 10 n (omega arith) h))))

lines_free : (head : Version) (fs : List Firing) → AreFirings fs → length fs < 2 ^ 64 → AllFree 10 (checkpoint_lines head fs)
lines_free head fs v h = (first_free head, all_free_append 10 (map firing_text fs) (count_line (length fs) ∷ []) (firings_free fs v) (count_free (length fs) h, tt))

-- and are short

pub first_short : (head : Version) → IsShort (first_line head)
first_short versions.One = omega arith
first_short versions.Two = omega arith

pub count_short : (n : ℕ) → n < 2 ^ 64 → IsShort (count_line n)
count_short n h = omega (arith, length-decimal-le 20 n (omega arith) (omega arith) h)

lines_short : (head : Version) (fs : List Firing) → AreFirings fs → length fs < 2 ^ 64 → AllByRecursion IsShort (checkpoint_lines head fs)
lines_short head fs v h = (first_short head, all_append IsShort (map firing_text fs) (count_line (length fs)) (firings_short fs v) (count_short (length fs) h))

-- a text has more bytes than firings

pub lines_few : (ls : List (List ℕ)) → length ls ≤ length (ended ls)
lines_few [] = omega arith
lines_few (l ∷ ls) = omega (arith, lines_few ls, length-append l (10 ∷ ended ls))

pub firings_few : (head : Version) (fs : List Firing) → length fs ≤ length (begun_lines head fs)
firings_few head [] = omega arith
firings_few head (f ∷ fs) = omega (arith, firings_few head fs)

text_few : (head : Version) (fs : List Firing) → length fs ≤ length (ended (checkpoint_lines head fs))
text_few head fs = omega (arith, lines_few (checkpoint_lines head fs), firings_few head fs, length-append (begun_lines head fs) (count_line (length fs) ∷ []))

-- two lists with the same lines are one

pub same_firing_text : (f g : Firing) → IsFiring f → IsFiring g → firing_text f ≡ firing_text g → f ≡ g
same_firing_text f g v w e = firing_Reads.same f g v w (ap (λ t. t ++ (10 ∷ [])) e)

one_more : (f g : Firing) (fs gs : List Firing) → AreFirings (f ∷ fs) → AreFirings (g ∷ gs) → firing_text f ≡ firing_text g → fs ≡ gs → f ∷ fs ≡ g ∷ gs
one_more f g fs gs v w e r = let s : f ≡ g = same_firing_text f g v.0 w.0 e in cc

begun_same : (fs gs : List Firing) → AreFirings fs → AreFirings gs → map firing_text fs ≡ map firing_text gs → fs ≡ gs
begun_same [] [] v w e = refl
begun_same [] (g ∷ gs) v w e = cc
begun_same (f ∷ fs) [] v w e = cc
begun_same (f ∷ fs) (g ∷ gs) v w e = one_more f g fs gs v w (heads_are e) (begun_same fs gs v.1 w.1 (tails_are e))

counted_same : (m n : ℕ) (fs gs : List Firing) → AreFirings fs → AreFirings gs → map firing_text fs ++ (count_line m ∷ []) ≡ map firing_text gs ++ (count_line n ∷ []) → fs ≡ gs
counted_same m n [] [] v w e = refl
counted_same m n [] (g ∷ gs) v w e = absurd (firing_not_count g m (sym (heads_are e)))
counted_same m n (f ∷ fs) [] v w e = absurd (firing_not_count f n (heads_are e))
counted_same m n (f ∷ fs) (g ∷ gs) v w e = one_more f g fs gs v w (heads_are e) (counted_same m n fs gs v.1 w.1 (tails_are e))

-- lines say one list of firings
pub said_same : (version : Version) (ls : List (List ℕ)) (fs gs : List Firing) → AreFirings fs → AreFirings gs → SayFirings version ls fs → SayFirings version ls gs → fs ≡ gs
said_same version ls fs gs v w (inl d) (inl e) = begun_same fs gs v w (tails_are (sym d.lines ∙ e.lines))
said_same version ls fs gs v w (inl d) (inr e) = let n : begun_lines d.head fs ≡ [] = sym d.lines ∙ e.0 in cc
said_same version ls fs gs v w (inr d) (inl e) = let n : begun_lines e.head gs ≡ [] = sym e.lines ∙ d.0 in cc
said_same version ls fs gs v w (inr d) (inr e) = d.1 ∙ sym e.1

-- a whole text is the text of one list
pub whole_same : (one other : Version) (fs gs : List Firing) → AreFirings fs → AreFirings gs → checkpoint_lines one fs ≡ checkpoint_lines other gs → fs ≡ gs
whole_same one other fs gs v w e = counted_same (length fs) (length gs) fs gs v w (tails_are e)

-- what was read of the lines is what is read of the bytes

read_in : (version : Version) (bytes : List ℕ) (ending : Ending) (fs : List Firing) → IsCheckpointIn version (pieces 10 bytes) ending fs → IsCheckpointOf version bytes ending fs
unfolding checkpoint_text
read_in version bytes Whole fs h = record { head = h.head; may = h.may; valid = h.valid; text = read_all bytes (checkpoint_lines h.head fs) h.lines }
read_in version bytes Torn fs h = h

pub read_whole : (version : Version) (bytes : List ℕ) (result : Result Checkpoint CheckpointError) → IsAnswer version (pieces 10 bytes) result → MatchResult result (λ c. IsCheckpointOf version bytes c.ending c.firings) (λ error. IsCheckpointErrorOf version bytes error)
read_whole version bytes (Ok c) h = read_in version bytes c.ending c.firings h
read_whole version bytes (Err e) h = h

pub whole_in : (version : Version) (bytes : List ℕ) (fs : List Firing) → length bytes < 2 ^ 64 → IsWholeOf version bytes fs → IsWholeIn version (pieces 10 bytes) fs
unfolding checkpoint_text
whole_in version bytes fs l w =
    let few : length fs < 2 ^ 64 = omega (arith, text_few w.head fs, ap (λ (b : List ℕ). length b) w.text) in
    record { head = w.head; may = w.may; valid = w.valid; lines = ap (pieces 10) w.text ∙ pieces-ended (checkpoint_lines w.head fs) (lines_free w.head fs w.valid few) }

-- bytes that are read as the checkpoint of some firings are read so alone

module _ (version : Version) (bytes : List ℕ) (l : length bytes < 2 ^ 64) where
  whole_few : (fs : List Firing) → IsWholeIn version (pieces 10 bytes) fs → length fs < 2 ^ 64
  whole_few fs w = omega (arith, text_few w.head fs, ap (λ (b : List ℕ). length b) (read_all bytes (checkpoint_lines w.head fs) w.lines), l)

  whole_not_torn : (fs gs : List Firing) → IsWholeIn version (pieces 10 bytes) fs → IsTornIn version (pieces 10 bytes) gs → ⊥
  whole_not_torn fs gs w t = t.torn.incomplete (subst (IsCheckpointLines version) (sym (ap (λ (p : PiecesAndRest). p.0) w.lines)) (whole_lines version w.head w.may fs w.valid))

  pub one_reading : (d e : Ending) (fs gs : List Firing) → IsCheckpointIn version (pieces 10 bytes) d fs → IsCheckpointIn version (pieces 10 bytes) e gs → (d ≡ e) × (fs ≡ gs)
  one_reading Whole Whole fs gs v w = (refl, whole_same v.head w.head fs gs v.valid w.valid (ap (λ (p : PiecesAndRest). p.0) (sym v.lines ∙ w.lines)))
  one_reading Whole Torn fs gs v w = absurd (whole_not_torn fs gs v w)
  one_reading Torn Whole fs gs v w = absurd (whole_not_torn gs fs w v)
  one_reading Torn Torn fs gs v w = (refl, said_same version (pieces 10 bytes).0 fs gs v.valid w.valid v.lines w.lines)

  pub no_error : (d : Ending) (fs : List Firing) (error : CheckpointError) → IsCheckpointIn version (pieces 10 bytes) d fs → IsCheckpointErrorIn version (pieces 10 bytes) error → error ≡ errors.NoMemory
  no_error Whole fs (errors.BadLine n) v h =
      absurd (none_bad (IsCheckpointLines version) (checkpoint_lines v.head fs) (whole_lines version v.head v.may fs v.valid) (lines_free v.head fs v.valid (whole_few fs v)) (lines_short v.head fs v.valid (whole_few fs v)) bytes (read_all bytes (checkpoint_lines v.head fs) v.lines) n h)
  no_error Whole fs (errors.TooLong n) v h =
      absurd (none_long (IsCheckpointLines version) (checkpoint_lines v.head fs) (whole_lines version v.head v.may fs v.valid) (lines_free v.head fs v.valid (whole_few fs v)) (lines_short v.head fs v.valid (whole_few fs v)) bytes (read_all bytes (checkpoint_lines v.head fs) v.lines) n h)
  no_error Whole fs errors.NoMemory v h = refl
  no_error Torn fs (errors.BadLine n) v h = absurd (bad_not_truncated (IsCheckpointLines version) (pieces 10 bytes) n h v.torn)
  no_error Torn fs (errors.TooLong n) v h = absurd (long_not_truncated (IsCheckpointLines version) (pieces 10 bytes) n h v.torn)
  no_error Torn fs errors.NoMemory v h = refl

  -- what is returned for them
  pub read_so : (d : Ending) (fs : List Firing) (result : Result Checkpoint CheckpointError) → IsCheckpointIn version (pieces 10 bytes) d fs → IsAnswer version (pieces 10 bytes) result → MatchResult result (λ c. (c.ending ≡ d) × (c.firings ≡ fs)) (λ error. error ≡ errors.NoMemory)
  read_so d fs (Ok c) v h = one_reading c.ending d c.firings fs h v
  read_so d fs (Err error) v h = no_error d fs error v h

  -- the text of a checkpoint
  pub read_back : (head : Version) (fs : List Firing) (result : Result Checkpoint CheckpointError) → IsAnswer version (pieces 10 bytes) result → MayRead version head → AreFirings fs → bytes ≡ checkpoint_text head fs → MatchResult result (λ c. (c.ending ≡ Whole) × (c.firings ≡ fs)) (λ error. error ≡ errors.NoMemory)
  read_back head fs result h may v e = read_so Whole fs result (whole_in version bytes fs l (record { head = head; may = may; valid = v; text = e })) h

-- other bytes have one error at most, but that memory may be wanting at any of them
pub one_error : (version : Version) (bytes : List ℕ) (a b : CheckpointError) → (a ≡ errors.NoMemory → ⊥) → (b ≡ errors.NoMemory → ⊥) → IsCheckpointErrorOf version bytes a → IsCheckpointErrorOf version bytes b → a ≡ b
one_error version bytes (errors.BadLine n) (errors.BadLine m) x y v w = ap (λ k. errors.BadLine k) (one_bad (IsCheckpointLines version) (pieces 10 bytes) n m v w)
one_error version bytes (errors.BadLine n) (errors.TooLong m) x y v w = absurd (bad_not_long (IsCheckpointLines version) (pieces 10 bytes) n m v w)
one_error version bytes (errors.BadLine n) errors.NoMemory x y v w = absurd (y refl)
one_error version bytes (errors.TooLong n) (errors.BadLine m) x y v w = absurd (bad_not_long (IsCheckpointLines version) (pieces 10 bytes) m n w v)
one_error version bytes (errors.TooLong n) (errors.TooLong m) x y v w = ap (λ k. errors.TooLong k) (one_long (IsCheckpointLines version) (pieces 10 bytes) n m v w)
one_error version bytes (errors.TooLong n) errors.NoMemory x y v w = absurd (y refl)
one_error version bytes errors.NoMemory b x y v w = absurd (x refl)
