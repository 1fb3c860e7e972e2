-- The tooltips of a world's picture say what each event did, in their order.
use Rattle.std.proofs.Common.{◌≡◌, ℕ, zero, suc, List, [], ◌∷◌, ◌++◌, refl, sym, ap, ◌∙◌, append_assoc, length, ◌+◌}
use Rattle.std.specs.Prelude.{Option, Some, None}
use Rattle.u_pictures.specs.Dot.{Shown, Cluster, Node, Arc}
use Rattle.u_pictures.specs.Told.{tooltips, told}
use Rattle.u_pictures.specs.declared.happening.Spot.{Spot}
use Rattle.u_pictures.specs.declared.happening.Deed.{Deed}
use Rattle.u_pictures.specs.declared.happening.Deed.TheVariants as deeds
use Rattle.u_pictures.specs.declared.happening.Happening.{Happening}
use Rattle.u_pictures.specs.Words.{full_words, all_words}
use Rattle.u_pictures.specs.WorldPicture.{event_node, way_from, ways, event_shown, events_shown, life_shown, lives_shown, picture}

told-append : (a b : List Shown) → told (a ++ b) ≡ told a ++ told b
told-append [] b = refl
told-append (Cluster names list ∷ a) b = ap (λ t. tooltips list ++ t) (told-append a b) ∙ sym (append_assoc (tooltips list) (told a) (told b))
told-append (Node names name list ∷ a) b = ap (λ t. tooltips list ++ t) (told-append a b) ∙ sym (append_assoc (tooltips list) (told a) (told b))
told-append (Arc from to list ∷ a) b = told-append a b

-- life lines have no tooltips
lives_silent : (last k : ℕ) → told (lives_shown last k) ≡ []
unfolding life_shown
lives_silent last zero = refl
lives_silent last (suc k) = told-append (lives_shown last k) (life_shown last (suc k)) ∙ ap (λ t. t ++ []) (lives_silent last k)

way_silent : (from : Option Spot) (row k n : ℕ) → told (way_from from row k n) ≡ []
way_silent None row k n = refl
way_silent (Some s) row k n = refl

-- nor has what came
ways_silent : (row k : ℕ) (d : Deed) → told (ways row k d) ≡ []
unfolding ways
ways_silent row k (deeds.Fires a) = refl
ways_silent row k deeds.Idles = refl
ways_silent row k (deeds.Asks j) = refl
ways_silent row k (deeds.Answers s) = refl
ways_silent row k (deeds.Takes from n) = way_silent from row k n
ways_silent row k (deeds.Merges other n) = refl
ways_silent row k deeds.Saves = refl
ways_silent row k (deeds.Restarts had has) = refl

looks_told : (row k : ℕ) (d : Deed) → told (event_node row k d ∷ []) ≡ full_words d ∷ []
looks_told row k (deeds.Fires a) = refl
looks_told row k deeds.Idles = refl
looks_told row k (deeds.Asks j) = refl
looks_told row k (deeds.Answers s) = refl
looks_told row k (deeds.Takes from n) = refl
looks_told row k (deeds.Merges other n) = refl
looks_told row k deeds.Saves = refl
looks_told row k (deeds.Restarts had has) = refl

event_told : (row : ℕ) (h : Happening) → told (event_shown row h) ≡ full_words h.deed ∷ []
unfolding event_shown
event_told row h =
    told-append (event_node row h.replica h.deed ∷ []) (ways row h.replica h.deed)
    ∙ ap (λ t. t ++ told (ways row h.replica h.deed)) (looks_told row h.replica h.deed)
    ∙ ap (λ t. full_words h.deed ∷ t) (ways_silent row h.replica h.deed)

events_told : (row : ℕ) (hs : List Happening) → told (events_shown row hs) ≡ all_words hs
events_told row [] = refl
events_told row (h ∷ hs) =
    told-append (event_shown row h) (events_shown (suc row) hs)
    ∙ ap (λ t. t ++ told (events_shown (suc row) hs)) (event_told row h)
    ∙ ap (λ t. full_words h.deed ∷ t) (events_told (suc row) hs)

pub happenings_told : (count : ℕ) (hs : List Happening) → told (picture count hs) ≡ all_words hs
unfolding picture
happenings_told count hs =
    told-append (lives_shown (length hs + 1) count) (events_shown 1 hs)
    ∙ ap (λ t. t ++ told (events_shown 1 hs)) (lives_silent (length hs + 1) count)
    ∙ events_told 1 hs
