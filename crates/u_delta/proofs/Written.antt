-- What is written piece by piece is the text.
use Rattle.std.specs.Prelude.{◌≡◌, ℕ, ◌+◌, ◌<◌, List, [], ◌∷◌, ◌++◌, length, map, take, codes}
use Rattle.std.proofs.Common.{sym, ◌∙◌, ap, append_assoc, get_or}
use Rattle.std.proofs.lemmas.List.{take_more, map-append, append-nil}
use Rattle.std.specs.Fmt.{decimal}
use Rattle.u_base.specs.Spaced.{ended}
use Rattle.u_base.proofs.SpacedLaws.{ended-append}
use Rattle.u_rule.specs.declared.firing.Firing.{Firing}
use Rattle.u_rule.specs.FiringText.{firing_text}
use Rattle.u_delta.specs.declared.message.Ask.{Ask}
use Rattle.u_delta.specs.declared.message.Delta.{Delta}
use Rattle.u_delta.specs.MessageText.{ask_line, delta_line, last_line, delta_lines}

pub join3 : (o a b c n1 n2 n3 : List ℕ) → n1 ≡ o ++ a → n2 ≡ n1 ++ b → n3 ≡ n2 ++ c → n3 ≡ o ++ (a ++ (b ++ c))
join3 o a b c n1 n2 n3 p q r = rw (r, q, p) (simp append_assoc)

-- the line of an ask
pub ask_written : (o n1 n2 n3 : List ℕ) (a : Ask) → n1 ≡ o ++ codes "u-ask 1" → n2 ≡ n1 ++ (32 ∷ (decimal a.asker ++ (32 ∷ decimal a.asked))) → n3 ≡ n2 ++ ((32 ∷ decimal a.life) ++ ((32 ∷ decimal a.count) ++ (10 ∷ []))) → n3 ≡ o ++ (ask_line a ++ (10 ∷ []))
unfolding ask_line
ask_written o n1 n2 n3 a p q r = rw (r, q, p) (simp (append_assoc, append-nil))

-- the first line of a delta
pub delta_written : (o n1 n2 n3 n4 : List ℕ) (sender receiver life start count : ℕ) → n1 ≡ o ++ codes "u-delta 1" → n2 ≡ n1 ++ (32 ∷ (decimal sender ++ (32 ∷ decimal receiver))) → n3 ≡ n2 ++ (32 ∷ decimal life) → n4 ≡ n3 ++ ((32 ∷ decimal start) ++ ((32 ∷ decimal count) ++ (10 ∷ []))) → n4 ≡ o ++ (delta_line sender receiver life start count ++ (10 ∷ []))
unfolding delta_line
delta_written o n1 n2 n3 n4 sender receiver life start count p q r s = rw (s, r, q, p) (simp (append_assoc, append-nil))

-- one more firing
pub firings_more : (start : List ℕ) (fs : List Firing) (i : ℕ) (f : Firing) → i < length fs → f ≡ get_or fs i f → ((start ++ ended (map firing_text (take i fs))) ++ firing_text f) ++ (10 ∷ []) ≡ start ++ ended (map firing_text (take (i + 1) fs))
firings_more start fs i f h e =
    let t : map firing_text (take (i + 1) fs) ≡ map firing_text (take i fs) ++ (firing_text f ∷ []) =
    ap (map firing_text) (take_more fs i f h)
    ∙ ap (λ f. map firing_text (take i fs ++ (f ∷ []))) (sym e)
    ∙ map-append firing_text (take i fs) (f ∷ []) in
    append_assoc (start ++ ended (map firing_text (take i fs))) (firing_text f) (10 ∷ [])
    ∙ append_assoc start (ended (map firing_text (take i fs))) (firing_text f ++ (10 ∷ []))
    ∙ ap (λ t. start ++ t) (sym (ended-append (map firing_text (take i fs)) (firing_text f ∷ [])))
    ∙ ap (λ ls. start ++ ended ls) (sym t)

pub lines_written : (start : List ℕ) (d : Delta) → ((start ++ (delta_line d.sender d.receiver d.life d.start (length d.firings) ++ (10 ∷ []))) ++ ended (map firing_text d.firings)) ++ codes "end\n" ≡ start ++ ended (delta_lines d)
lines_written start d =
    let head = delta_line d.sender d.receiver d.life d.start (length d.firings) in
    let texts = map firing_text d.firings in
    append_assoc (start ++ (head ++ (10 ∷ []))) (ended texts) (codes "end\n")
    ∙ ap (λ t. (start ++ (head ++ (10 ∷ []))) ++ t) (sym (ended-append texts (last_line ∷ [])))
    ∙ append_assoc start (head ++ (10 ∷ [])) (ended (texts ++ (last_line ∷ [])))
    ∙ ap (λ t. start ++ t) (append_assoc head (10 ∷ []) (ended (texts ++ (last_line ∷ []))))
