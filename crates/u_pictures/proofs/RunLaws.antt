-- The tooltips of the firings in a picture are their texts, in order, each with the place of its statement.
use Rattle.std.proofs.Common.{◌≡◌, ℕ, Bool, true, false, List, [], ◌∷◌, ◌++◌, refl, sym, ap, ◌∙◌, append_assoc, map, if◌then◌else◌}
use Rattle.std.specs.List.{flat_map}
use Rattle.u_name.specs.Context.{Tree, Top, InLoop, InCall}
use Rattle.u_program.specs.Parts.{BlockParts, ProgramParts}
use Rattle.u_rule.specs.Fits.{statement_of}
use Rattle.u_rule.specs.declared.firing.Firing.{Firing}
use Rattle.u_compile.specs.declared.origins.BlockOrigins.{BlockOrigins}
use Rattle.u_pictures.specs.Dot.{Shown, Cluster, Node, Arc}
use Rattle.u_pictures.specs.Told.{tooltips, told}
use Rattle.u_pictures.specs.Places.{is_leaving, of_context, of_turn, clusters_of}
use Rattle.u_pictures.specs.Tips.{firing_tip}
use Rattle.u_pictures.specs.Picture.{firing_node, firing_lines}

told-append : (a b : List Shown) → told (a ++ b) ≡ told a ++ told b
told-append [] b = refl
told-append (Cluster names list ∷ a) b = ap (λ t. tooltips list ++ t) (told-append a b) ∙ sym (append_assoc (tooltips list) (told a) (told b))
told-append (Node names name list ∷ a) b = ap (λ t. tooltips list ++ t) (told-append a b) ∙ sym (append_assoc (tooltips list) (told a) (told b))
told-append (Arc from to list ∷ a) b = told-append a b

context_silent : (u : Tree) → told (of_context u) ≡ []
context_silent Top = refl
context_silent (InLoop o b n t) = refl
context_silent (InCall o b s t) = refl

turn_silent : (u : Tree) (i : ℕ) → told (of_turn u i) ≡ []
turn_silent Top i = refl
turn_silent (InLoop o b n t) i = refl
turn_silent (InCall o b s t) i = refl

-- clusters have no tooltips
clusters_silent : (p : List BlockParts) (f : Firing) → told (clusters_of p f.activity) ≡ []
unfolding clusters_of
clusters_silent p f = told-append (of_context f.activity.context) _ ∙ ap (λ t. t ++ told (turn (is_leaving (statement_of p f.activity.block f.activity.statement)))) (context_silent f.activity.context) ∙ silent (is_leaving (statement_of p f.activity.block f.activity.statement))
  where
    turn : Bool → List Shown
    turn leaves = if leaves then [] else of_turn f.activity.context f.activity.initiation

    silent : (leaves : Bool) → told (turn leaves) ≡ []
    silent true = refl
    silent false = turn_silent f.activity.context f.activity.initiation

one_told : (origins : List BlockOrigins) (p : ProgramParts) (f : Firing) → told (firing_lines origins p f) ≡ firing_tip origins f ∷ []
unfolding firing_lines
one_told origins p f = told-append (clusters_of p.blocks f.activity) (firing_node origins p f ∷ []) ∙ ap (λ t. t ++ (firing_tip origins f ∷ [])) (clusters_silent p.blocks f)

pub firings_told : (origins : List BlockOrigins) (p : ProgramParts) (fs : List Firing) → told (flat_map (firing_lines origins p) fs) ≡ map (firing_tip origins) fs
firings_told origins p [] = refl
firings_told origins p (f ∷ fs) =
    told-append (firing_lines origins p f) (flat_map (firing_lines origins p) fs)
    ∙ ap (λ t. t ++ told (flat_map (firing_lines origins p) fs)) (one_told origins p f)
    ∙ ap (λ t. firing_tip origins f ∷ t) (firings_told origins p fs)
