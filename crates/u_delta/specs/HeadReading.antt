-- What is read of the words of a message's first line.
use Rattle.std.specs.Prelude.{◌≡◌, ℕ, ◌-◌, ◌^◌, cond, ◌==◌, nat_le, List, [], ◌∷◌, codes, Option, Some, None}
use Rattle.u_base.specs.WholeWords.{◌then◌, is, number_word, number0_word}
use Rattle.u_delta.specs.declared.message.Ask.{Ask}
use Rattle.u_delta.specs.declared.head.Opening.{Opening}
use Rattle.u_delta.specs.declared.head.Head.{Head}
use Rattle.u_delta.specs.declared.head.Head.TheVariants as heads
use Rattle.u_delta.specs.MessageText.{ask_line, delta_line}
use Rattle.u_delta.specs.Messages.{IsAsk, IsOpening}

abbrev pub Words : Type 0
Words = List (List ℕ)

abbrev pub ask : (asker asked life count : ℕ) → Ask
ask asker asked life count = record { asker = asker; asked = asked; life = life; count = count }

abbrev pub opening : (sender receiver life start count : ℕ) → Opening
opening sender receiver life start count = record { sender = sender; receiver = receiver; life = life; start = start; count = count }

abbrev pub opening_line : Opening → List ℕ
opening_line o = delta_line o.sender o.receiver o.life o.start o.count

abbrev pub head_line : Head → List ℕ
head_line (heads.Ask a) = ask_line a
head_line (heads.Delta o) = opening_line o

abbrev pub IsHead : Head → Type 0
IsHead (heads.Ask a) = IsAsk a
IsHead (heads.Delta o) = IsOpening o.sender o.receiver o.life o.start o.count

abbrev pub word_at : Words → Option (List ℕ × Words)
word_at [] = None
word_at (w ∷ ws) = Some (w, ws)

-- a number from 1 to 8
unfoldable pub replica_word : List ℕ → Option ℕ
replica_word w = number_word 9 w then λ n. cond (nat_le n 8) (Some n) None

-- the numbers of two replicas that differ
unfoldable pub peers_at : Words → Option ((ℕ × ℕ) × Words)
peers_at ws = word_at ws then λ a. replica_word a.0 then λ r. word_at a.1 then λ b. replica_word b.0 then λ s. cond (r == s) None (Some ((r, s), b.1))

-- a number of 64 bits
unfoldable pub long_at : Words → Option (ℕ × Words)
long_at ws = word_at ws then λ a. number0_word (2 ^ 64 - 1) a.0 then λ n. Some (n, a.1)

abbrev pub is_empty : Words → Type 0
is_empty ws = ws ≡ []

abbrev pub is_not_empty : Words → Type 0
is_not_empty [] = ⊥
is_not_empty (w ∷ ws) = Unit {0}

-- where no word stands behind it
abbrev pub alone : Head → Words → Option Head
alone h [] = Some h
alone h (w ∷ ws) = None

-- `ASKER ASKED LIFE COUNT`
unfoldable pub ask_at : Words → Option Head
ask_at ws = peers_at ws then λ p. long_at p.1 then λ l. long_at l.1 then λ c. alone (heads.Ask (ask p.0.0 p.0.1 l.0 c.0)) c.1

-- `LIFE START COUNT`, behind the numbers of the replicas
abbrev pub part_at : ℕ × ℕ → Words → Option Head
part_at p ws =
    long_at ws then λ l. cond (l.0 == 0) None
    (long_at l.1 then λ s. word_at s.1 then λ c. number0_word 4096 c.0 then λ n. alone (heads.Delta (opening p.0 p.1 l.0 s.0 n)) c.1)

-- `SENDER RECEIVER LIFE START COUNT`
unfoldable pub delta_at : Words → Option Head
delta_at ws = peers_at ws then λ p. part_at p.0 p.1

-- what stands behind the word for the sort of message and the word `1`
abbrev pub sort_at : List ℕ → Words → Option Head
sort_at w ws = cond (is w (codes "u-ask")) (ask_at ws) (cond (is w (codes "u-delta")) (delta_at ws) None)

unfoldable pub head_at : Words → Option Head
head_at ws = word_at ws then λ a. word_at a.1 then λ b. cond (is b.0 (codes "1")) (sort_at a.0 b.1) None
