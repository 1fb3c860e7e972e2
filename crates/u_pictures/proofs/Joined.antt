-- Texts one after another.
use Rattle.std.proofs.Common.{◌≡◌, ℕ, suc, ◌+◌, ◌<◌, List, [], ◌∷◌, ◌++◌, sym, ap, ◌∙◌, append_assoc, length, take, arith}
use Rattle.std.proofs.lemmas.List.{append-nil, length-take-le}
use Rattle.u_pictures.specs.Dot.{Shown, shown_line, text}
use Rattle.u_pictures.proofs.Shows.{text-append}
use Rattle.u_pictures.specs.declared.happening.Happening.{Happening}
use Rattle.u_pictures.specs.WorldPicture.{event_shown, events_shown, life_shown, lives_shown}

pub joined3 : (a b c n1 n2 n3 : List ℕ) → n1 ≡ a → n2 ≡ n1 ++ b → n3 ≡ n2 ++ c → n3 ≡ a ++ (b ++ c)
joined3 a b c n1 n2 n3 p q r = rw (r, q, p) (simp append_assoc)

pub joined4 : (a b c d n1 n2 n3 n4 : List ℕ) → n1 ≡ a → n2 ≡ n1 ++ b → n3 ≡ n2 ++ c → n4 ≡ n3 ++ d → n4 ≡ a ++ (b ++ (c ++ d))
joined4 a b c d n1 n2 n3 n4 p q r s = rw (s, r, q, p) (simp append_assoc)

-- three lines
pub text_of_three : (a b c : Shown) (o n1 n2 n3 : List ℕ) → n1 ≡ o ++ shown_line a → n2 ≡ n1 ++ shown_line b → n3 ≡ n2 ++ shown_line c → n3 ≡ o ++ text (a ∷ b ∷ c ∷ [])
text_of_three a b c o n1 n2 n3 p q r = rw (r, q, p, append-nil (shown_line c)) (simp append_assoc)

-- one event more
events-append : (row : ℕ) (hs : List Happening) (h : Happening) → events_shown row (hs ++ (h ∷ [])) ≡ events_shown row hs ++ event_shown (row + length hs) h
events-append row [] h = append-nil (event_shown row h) ∙ ap (λ n. event_shown n h) (omega arith)
events-append row (x ∷ hs) h =
    ap (λ (t : List Shown). event_shown row x ++ t) (events-append (suc row) hs h)
    ∙ ap (λ n. event_shown row x ++ (events_shown (suc row) hs ++ event_shown n h)) (omega arith)
    ∙ sym (append_assoc (event_shown row x) (events_shown (suc row) hs) (event_shown (row + length (x ∷ hs)) h))

pub events_more : (hs : List Happening) (i : ℕ) (h : Happening) (o old new : List ℕ) → i < length hs → take (i + 1) hs ≡ take i hs ++ (h ∷ []) → old ≡ o ++ text (events_shown 1 (take i hs)) → new ≡ old ++ text (event_shown (i + 1) h) → new ≡ o ++ text (events_shown 1 (take (i + 1) hs))
events_more hs i h o old new l at p q =
    let n : 1 + length (take i hs) ≡ i + 1 = omega (arith, length-take-le i hs (omega arith)) in
    let t : events_shown 1 (take (i + 1) hs) ≡ events_shown 1 (take i hs) ++ event_shown (i + 1) h =
    ap (events_shown 1) at
    ∙ events-append 1 (take i hs) h
    ∙ ap (λ n. events_shown 1 (take i hs) ++ event_shown n h) n in
    q ∙ ap (λ t. t ++ text (event_shown (i + 1) h)) p
    ∙ append_assoc o (text (events_shown 1 (take i hs))) (text (event_shown (i + 1) h))
    ∙ ap (λ t. o ++ t) (sym (text-append (events_shown 1 (take i hs)) (event_shown (i + 1) h)))
    ∙ ap (λ t. o ++ text t) (sym t)

-- one replica more
pub lives_more : (last k : ℕ) (o old new : List ℕ) → old ≡ o ++ text (lives_shown last k) → new ≡ old ++ text (life_shown last (k + 1)) → new ≡ o ++ text (lives_shown last (k + 1))
lives_more last k o old new p q =
    let e : k + 1 ≡ suc k = omega arith in
    q ∙ ap (λ t. t ++ text (life_shown last (k + 1))) p
    ∙ append_assoc o (text (lives_shown last k)) (text (life_shown last (k + 1)))
    ∙ ap (λ n. o ++ (text (lives_shown last k) ++ text (life_shown last n))) e
    ∙ ap (λ t. o ++ t) (sym (text-append (lives_shown last k) (life_shown last (suc k))))
    ∙ ap (λ n. o ++ text (lives_shown last n)) (sym e)
