-- Frames: a block in a context.
use Rattle.std.specs.Prelude.{◌<◌, ℕ, List, map, length, Contains, refl}
use Rattle.std.proofs.Common.{get_or}
use Rattle.std.specs.Coded.{Coded, code_by, coded×, coded_ℕ, coded_list}
use Rattle.u_base.specs.Firing.{Distinct}
use Rattle.u_name.specs.Context.{Tree, Top, tree_code}
use Rattle.u_name.specs.Name.{Activity, activity}

pub record FrameParts : Type 0 where
  pub context : Tree
  pub block : List ℕ

abbrev pub frame : Tree → List ℕ → FrameParts
frame context block = record { context = context; block = block }

-- the activity with that statement in place of its own
abbrev pub beside : Activity → ℕ → Activity
beside a statement = activity a.context a.block statement a.initiation

-- the block of the activity in its context
abbrev pub frame_of : Activity → FrameParts
frame_of a = frame a.context a.block

-- a frame whose context has a number
pub record FrameKey : Type 0 where
  pub context : ℕ
  pub block : List ℕ

abbrev pub frame_key : ℕ → List ℕ → FrameKey
frame_key context block = record { context = context; block = block }

abbrev pub frame_key_code : Coded FrameKey
frame_key_code = code_by (ℕ × List ℕ) (coded× coded_ℕ (coded_list coded_ℕ)) (λ k. (k.context, k.block)) (λ t. frame_key t.0 t.1) (λ _. refl)

-- the frame of a key, whose context is that at its number
abbrev pub frame_at : List Tree → FrameKey → FrameParts
frame_at ts k = frame (get_or ts k.context Top) k.block

abbrev pub frames_at : List Tree → List FrameKey → List FrameParts
frames_at ts ks = map (λ (k : FrameKey). frame_at ts k) ks

-- no context has two numbers, and no frame, and the number of each frame's context is that of a context
pub record AreFrames (ts : List Tree) (ks : List FrameKey) : Type 0 where
  pub contexts : Distinct ts
  pub keys : Distinct ks
  pub placed : (k : FrameKey) → Contains ks k → k.context < length ts

abbrev pub frame_code : Coded FrameParts
frame_code = code_by (Tree × List ℕ) (coded× tree_code (coded_list coded_ℕ)) (λ f. (f.context, f.block)) (λ t. frame t.0 t.1) (λ _. refl)

abbrev pub frames_code : Coded (List FrameParts)
frames_code = coded_list frame_code
