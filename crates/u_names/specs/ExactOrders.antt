-- Only a context's key itself ties with it, only a frame, only a place and only a spot. These laws stand here because the impls of
-- `ExactOrd` cite them.
use Rattle.std.specs.Prelude.{◌≡◌, Bool, true, false, refl}
use Rattle.std.proofs.Common.{ap, ◌∙◌}
use Rattle.std.specs.Ordering.{bool_cmp}
use Rattle.std.specs.FinMap.{nat_cmp-IsAntisymmetric}
use Rattle.std.specs.declared.cmp.Ordering.TheVariants.{Equal}
use Rattle.u_name.specs.ContextLaws.{both}
use Rattle.u_name.specs.ExactOrders.{block_cmp_ties}
use Rattle.u_names.specs.Contexts.{KeyParts, context_key}
use Rattle.u_names.specs.Places.{NamePlaceParts, place}
use Rattle.u_names.specs.Frames.{FrameKey, frame_key}
use Rattle.u_names.specs.Spots.{SpotParts, spot}
use Rattle.u_names.specs.contracts.context_keys.ContextKeyOrd.TheImpl as key_ord
use Rattle.u_names.specs.contracts.spots.SpotOrd.TheImpl as spot_ord
use Rattle.u_names.specs.contracts.frames.FrameOrd.TheImpl as frame_ord
use Rattle.u_names.specs.contracts.places.NamePlaceOrd.TheImpl as place_ord

bool_ties : (a b : Bool) → bool_cmp a b ≡ Equal → a ≡ b
bool_ties false false h = refl
bool_ties false true h = cc
bool_ties true false h = cc
bool_ties true true h = refl

pub key_ties : (a b : KeyParts) → (key_ord.ghosts).cmp a b ≡ Equal → a ≡ b
key_ties a b h =
    let u = both _ _ h in
    let v = both _ _ u.1 in
    let w = both _ _ v.1 in
    let x = both _ _ w.1 in
    ap (λ c. context_key c a.outer a.block a.number a.initiation) (bool_ties a.is_call b.is_call u.0)
    ∙ ap (λ o. context_key b.is_call o a.block a.number a.initiation) (nat_cmp-IsAntisymmetric a.outer b.outer v.0)
    ∙ ap (λ k. context_key b.is_call b.outer k a.number a.initiation) (block_cmp_ties a.block b.block w.0)
    ∙ ap (λ n. context_key b.is_call b.outer b.block n a.initiation) (nat_cmp-IsAntisymmetric a.number b.number x.0)
    ∙ ap (λ i. context_key b.is_call b.outer b.block b.number i) (nat_cmp-IsAntisymmetric a.initiation b.initiation x.1)

pub frame_ties : (a b : FrameKey) → (frame_ord.ghosts).cmp a b ≡ Equal → a ≡ b
frame_ties a b h =
    let u = both _ _ h in
    ap (λ c. frame_key c a.block) (nat_cmp-IsAntisymmetric a.context b.context u.0)
    ∙ ap (λ k. frame_key b.context k) (block_cmp_ties a.block b.block u.1)

pub place_ties : (a b : NamePlaceParts) → (place_ord.ghosts).cmp a b ≡ Equal → a ≡ b
place_ties a b h =
    let u = both _ _ h in
    let v = both _ _ u.1 in
    ap (λ f. place f a.statement a.initiation) (nat_cmp-IsAntisymmetric a.frame b.frame u.0)
    ∙ ap (λ s. place b.frame s a.initiation) (nat_cmp-IsAntisymmetric a.statement b.statement v.0)
    ∙ ap (λ i. place b.frame b.statement i) (nat_cmp-IsAntisymmetric a.initiation b.initiation v.1)

pub spot_ties : (a b : SpotParts) → (spot_ord.ghosts).cmp a b ≡ Equal → a ≡ b
spot_ties a b h =
    let u = both _ _ h in
    ap (λ k. spot k a.index) (nat_cmp-IsAntisymmetric a.structure b.structure u.0)
    ∙ ap (λ i. spot b.structure i) (nat_cmp-IsAntisymmetric a.index b.index u.1)
