-- The lines of a history, one after the other.
use Rattle.std.proofs.Common.{◌≡◌, ◌∙◌, sym, ap, refl, ℕ, List, [], ◌∷◌, ◌++◌, map, append_assoc}
use Rattle.u_base.specs.Spaced.{ended}
use Rattle.u_rule.specs.EntryText.{entry_text}
use Rattle.u_rule.specs.declared.entry.Entry.{Entry}

ended_push : (ls : List (List ℕ)) (l : List ℕ) → ended (ls ++ l ∷ []) ≡ ended ls ++ (l ++ (10 ∷ []))
ended_push [] l = refl
ended_push (k ∷ ls) l = ap (λ (t : List ℕ). k ++ (10 ∷ t)) (ended_push ls l) ∙ sym (append_assoc k (10 ∷ ended ls) (l ++ (10 ∷ [])))

texts_push : (es : List Entry) (e : Entry) → map entry_text (es ++ e ∷ []) ≡ map entry_text es ++ entry_text e ∷ []
texts_push [] e = refl
texts_push (d ∷ es) e = ap (λ (t : List (List ℕ)). entry_text d ∷ t) (texts_push es e)

-- one entry more
pub text_more : (es : List Entry) (e : Entry) (o old new : List ℕ) → old ≡ o ++ ended (map entry_text es) → new ≡ old ++ (entry_text e ++ (10 ∷ [])) → new ≡ o ++ ended (map entry_text (es ++ e ∷ []))
text_more es e o old new p q = rw (q, p, texts_push es e, ended_push (map entry_text es) (entry_text e)) (simp append_assoc)
