-- Rounds: all that is enabled fires, until nothing new does.
use Rattle.std.proofs.Common.{◌≡◌, ◌↔◌, List, [], ◌∷◌, ◌++◌, sym, refl, length, Contains, IsTrue, append_assoc, append-nil, subst}
use Rattle.std.proofs.lemmas.Option.{slice_get_read}
use Rattle.u_base.specs.Firing.{System, Held, Enabled, Derivation, Whole, Within}
use Rattle.u_base.proofs.Held.{Held-append_left, Enabled-mono}
use Rattle.u_base.proofs.Member.{Contains-head, Contains-tail}
use Rattle.u_base.proofs.Closure.{Derivation-push, Quiet-whole}

module _ {E F : Type 0} (s : System E F) where
  -- all members of a derivation are firings
  pub are_firings : (fs : List F) → Derivation s fs → Within (λ f. IsTrue (s.is_firing f)) fs
  are_firings fs d f (k, l, e) = (d.each k f (slice_get_read fs (length fs) k f refl l (sym e))).0

  -- those that are enabled may fire one after another
  pub round_more : (fs more : List F) → Derivation s fs → ((f : F) → Contains more f → Enabled s (Held s fs) f) → Derivation s (fs ++ more)
  round_more fs [] d en = rw append-nil d
  round_more fs (f ∷ more) d en =
      rw append_assoc at (round_more (fs ++ f ∷ []) more (Derivation-push s fs f d (en f (Contains-head f more))) (λ g m. Enabled-mono s (Held s fs) (Held s (fs ++ f ∷ [])) (λ e h. Held-append_left s fs (f ∷ []) e h) g (en g (Contains-tail f g more m))))

  module _ (fs : List F) (held : List E) (ready : List F) (is : (e : E) → Contains held e ↔ Held s fs e) (found : (f : F) → Contains ready f ↔ Enabled s (Contains held) f) (d : Derivation s fs) where
    pub round_fired : (new : List F) → new ≡ fs ++ ready → Derivation s new
    round_fired new e =
        subst (λ (xs : List F). Derivation s xs) (sym e) (round_more fs ready d (λ f m. Enabled-mono s (Contains held) (Held s fs) (λ x n. (is x).0 n) f ((found f).0 m)))

    quiet : Within (Contains fs) ready → (f : F) → Enabled s (Held s fs) f → Contains fs f
    quiet w f en = w f ((found f).1 (Enabled-mono s (Held s fs) (Contains held) (λ x n. (is x).1 n) f en))

    pub round_whole : Within (Contains fs) ready → (e : E) → Contains held e ↔ Whole s e
    round_whole w e =
        ((λ m. (Quiet-whole s fs d (quiet w) e).0 ((is e).0 m)), (λ h. (is e).1 ((Quiet-whole s fs d (quiet w) e).1 h)))
