-- What is written piece by piece is the text of the checkpoint.
use Rattle.std.specs.Prelude.{◌≡◌, ℕ, ◌+◌, ◌≤◌, List, [], ◌∷◌, ◌++◌, length, map, codes, Result, Ok, Err, OnOk}
use Rattle.std.proofs.Common.{sym, ◌∙◌, ap, arith, append_assoc, length-append}
use Rattle.std.proofs.lemmas.List.{map-append}
use Rattle.std.specs.Borrow.{Bor}
use Rattle.std.specs.Fmt.{decimal}
use Rattle.std.specs.Map.Iter.{deref}
use Rattle.u_base.specs.Spaced.{ended}
use Rattle.u_base.proofs.SpacedLaws.{ended-append}
use Rattle.u_program.specs.declared.program.Version.{Version}
use Rattle.u_rule.specs.declared.firing.Firing.{Firing}
use Rattle.u_rule.specs.FiringText.{firing_text}
use Rattle.u_rule.specs.FiringReading.{IsFiring}
use Rattle.u_delta.proofs.LineLaws as lines
use Rattle.u_replica.specs.CheckpointText.{first_line, count_line, checkpoint_lines}
use Rattle.u_replica.specs.Checkpoints.{AreFirings}

-- the firings of a set, one after another

-- one more firing that a set's iterator has shown
shown_more : (fs : List (Bor Firing)) (f : Bor Firing) → map (deref {X = Firing}) (fs ++ (f ∷ [])) ≡ map (deref {X = Firing}) fs ++ (f.now ∷ [])
shown_more fs f = map-append (deref {X = Firing}) fs (f ∷ [])

pub set_more : (fs : List (Bor Firing)) (f : Bor Firing) (o old mid new : List ℕ) → old ≡ o ++ ended (map firing_text (map (deref {X = Firing}) fs)) → mid ≡ old ++ firing_text f.now → new ≡ mid ++ (10 ∷ []) → new ≡ o ++ ended (map firing_text (map (deref {X = Firing}) (fs ++ (f ∷ []))))
set_more fs f o old mid new p q r =
    let shown = map (deref {X = Firing}) fs in
    let t : map firing_text (map (deref {X = Firing}) (fs ++ (f ∷ []))) ≡ map firing_text shown ++ (firing_text f.now ∷ []) = ap (map firing_text) (shown_more fs f) ∙ map-append firing_text shown (f.now ∷ []) in
    r
    ∙ ap (λ b. b ++ (10 ∷ [])) (q ∙ ap (λ b. b ++ firing_text f.now) p)
    ∙ append_assoc (o ++ ended (map firing_text shown)) (firing_text f.now) (10 ∷ [])
    ∙ append_assoc o (ended (map firing_text shown)) (firing_text f.now ++ (10 ∷ []))
    ∙ ap (λ b. o ++ b) (sym (ended-append (map firing_text shown) (firing_text f.now ∷ [])))
    ∙ ap (λ ls. o ++ ended ls) (sym t)

pub valid_more : (fs : List (Bor Firing)) (f : Bor Firing) → AreFirings (map (deref {X = Firing}) fs) → IsFiring f.now → AreFirings (map (deref {X = Firing}) (fs ++ (f ∷ [])))
valid_more [] f v w = (w, tt)
valid_more (g ∷ fs) f v w = (v.0, valid_more fs f v.1 w)

-- the lines

pub count_written : (o n1 n2 n3 : List ℕ) (count : ℕ) → n1 ≡ o ++ codes "end " → n2 ≡ n1 ++ decimal count → n3 ≡ n2 ++ (10 ∷ []) → n3 ≡ o ++ (count_line count ++ (10 ∷ []))
count_written o n1 n2 n3 count p q r = rw (r, q, p) (simp append_assoc)

pub all_behind : (fs gs : List Firing) → AreFirings fs → AreFirings gs → AreFirings (fs ++ gs)
all_behind = lines.all_behind IsFiring

-- each line has a byte at least, its newline
ended_few : (fs : List Firing) → length fs ≤ length (ended (map firing_text fs))
ended_few [] = omega arith
ended_few (f ∷ fs) = omega (arith, ended_few fs, length-append (firing_text f) (10 ∷ ended (map firing_text fs)))

-- so what was written has more bytes than there are firings
pub counted : (n1 n2 n3 : List ℕ) (fs gs : List Firing) → n2 ≡ n1 ++ ended (map firing_text fs) → n3 ≡ n2 ++ ended (map firing_text gs) → length fs + length gs ≤ length n3
counted n1 n2 n3 fs gs p q =
    omega (arith, ap (λ (b : List ℕ). length b) p, ap (λ (b : List ℕ). length b) q, length-append n1 (ended (map firing_text fs)), length-append n2 (ended (map firing_text gs)), ended_few fs, ended_few gs)

lines_written : (version : Version) (o n1 n2 n3 n4 : List ℕ) (fs gs : List Firing) (count : ℕ) → n1 ≡ o ++ (first_line version ++ (10 ∷ [])) → n2 ≡ n1 ++ ended (map firing_text fs) → n3 ≡ n2 ++ ended (map firing_text gs) → count ≡ length fs + length gs → n4 ≡ n3 ++ (count_line count ++ (10 ∷ [])) → n4 ≡ o ++ ended (checkpoint_lines version (fs ++ gs))
lines_written version o n1 n2 n3 n4 fs gs count p q r k s =
    let h = first_line version ++ (10 ∷ []) in
    let f = ended (map firing_text fs) in
    let g = ended (map firing_text gs) in
    let e : count ≡ length (fs ++ gs) = k ∙ sym (length-append fs gs) in
    let t : (f ++ g) ++ (count_line (length (fs ++ gs)) ++ (10 ∷ [])) ≡ ended (map firing_text (fs ++ gs) ++ (count_line (length (fs ++ gs)) ∷ [])) =
    ap (λ b. b ++ (count_line (length (fs ++ gs)) ++ (10 ∷ []))) (sym (ended-append (map firing_text fs) (map firing_text gs)) ∙ ap ended (sym (map-append firing_text fs gs)))
    ∙ sym (ended-append (map firing_text (fs ++ gs)) (count_line (length (fs ++ gs)) ∷ [])) in
    s
    ∙ ap (λ b. b ++ (count_line count ++ (10 ∷ []))) (r ∙ ap (λ b. b ++ g) (q ∙ ap (λ b. b ++ f) p))
    ∙ ap (λ n. (((o ++ h) ++ f) ++ g) ++ (count_line n ++ (10 ∷ []))) e
    ∙ ap (λ b. b ++ (count_line (length (fs ++ gs)) ++ (10 ∷ []))) (append_assoc (o ++ h) f g)
    ∙ append_assoc (o ++ h) (f ++ g) (count_line (length (fs ++ gs)) ++ (10 ∷ []))
    ∙ ap (λ b. (o ++ h) ++ b) t
    ∙ append_assoc o h (ended (map firing_text (fs ++ gs) ++ (count_line (length (fs ++ gs)) ∷ [])))
    ∙ ap (λ b. o ++ b) (append_assoc (first_line version) (10 ∷ []) (ended (map firing_text (fs ++ gs) ++ (count_line (length (fs ++ gs)) ∷ []))))

pub all_written : {A E : Type 0} (version : Version) (o n1 n2 n3 n4 : List ℕ) (fs gs : List Firing) (count : ℕ) (result : Result A E) → n1 ≡ o ++ (first_line version ++ (10 ∷ [])) → n2 ≡ n1 ++ ended (map firing_text fs) → n3 ≡ n2 ++ ended (map firing_text gs) → count ≡ length fs + length gs → OnOk result (n4 ≡ n3 ++ (count_line count ++ (10 ∷ []))) → OnOk result (n4 ≡ o ++ ended (checkpoint_lines version (fs ++ gs)))
all_written version o n1 n2 n3 n4 fs gs count (Ok a) p q r k s = lines_written version o n1 n2 n3 n4 fs gs count p q r k s
all_written version o n1 n2 n3 n4 fs gs count (Err e) p q r k s = s
