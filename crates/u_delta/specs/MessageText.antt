-- The texts of messages.
use Rattle.std.specs.Prelude.{ℕ, List, [], ◌∷◌, ◌++◌, length, map, codes}
use Rattle.std.specs.Fmt.{decimal}
use Rattle.u_base.specs.Spaced.{spaced, ended}
use Rattle.u_rule.specs.FiringText.{firing_text}
use Rattle.u_delta.specs.declared.message.Ask.{Ask}
use Rattle.u_delta.specs.declared.message.Delta.{Delta}
use Rattle.u_delta.specs.declared.message.Message.{Message}
use Rattle.u_delta.specs.declared.message.Message.TheVariants as messages

abbrev pub ask_words : Ask → List (List ℕ)
ask_words a = codes "1" ∷ decimal a.asker ∷ decimal a.asked ∷ decimal a.life ∷ decimal a.count ∷ []

abbrev pub delta_words : (sender receiver life start count : ℕ) → List (List ℕ)
delta_words sender receiver life start count = codes "1" ∷ decimal sender ∷ decimal receiver ∷ decimal life ∷ decimal start ∷ decimal count ∷ []

-- `u-ask 1 ASKER ASKED LIFE COUNT`
unfoldable pub ask_line : Ask → List ℕ
ask_line a = codes "u-ask" ++ spaced (ask_words a)

-- `u-delta 1 SENDER RECEIVER LIFE START COUNT`
unfoldable pub delta_line : (sender receiver life start count : ℕ) → List ℕ
delta_line sender receiver life start count = codes "u-delta" ++ spaced (delta_words sender receiver life start count)

-- `end`
abbrev pub last_line : List ℕ
last_line = codes "end"

-- the line that says what is brought, one line for each firing, and `end`
abbrev pub delta_lines : Delta → List (List ℕ)
delta_lines d = delta_line d.sender d.receiver d.life d.start (length d.firings) ∷ (map firing_text d.firings ++ (last_line ∷ []))

abbrev pub message_lines : Message → List (List ℕ)
message_lines (messages.Ask a) = ask_line a ∷ []
message_lines (messages.Delta d) = delta_lines d

-- the lines, each with a newline behind it
unfoldable pub message_text : Message → List ℕ
message_text m = ended (message_lines m)
