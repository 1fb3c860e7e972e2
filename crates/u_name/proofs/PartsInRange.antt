-- What the cursor reads of a loop, a call or a tail is in range.
use Rattle.std.proofs.Common.{◌≡◌, List, ℕ, Result, Ok, Err, MatchResult, IfOk}
use Rattle.u_name.specs.NameReader.{IsFrame, IsTail}
use Rattle.u_name.proofs.NameByParts.{frame_fine, tail_fine}
use Rattle.u_name.specs.CursorValues.{frame_value, tail_value}
use Rattle.u_name.specs.declared.reading.Frame.{Frame}
use Rattle.u_name.specs.declared.reading.Tail.{Tail}
use Rattle.u_name.specs.declared.reading.Stuck.{Stuck}
use Rattle.u_name.specs.NameReader as reader

pub frame_is_fine : (r : Result Frame Stuck) (bs rest : List ℕ) → MatchResult r (λ f. reader.frame_at bs ≡ Ok (frame_value f, rest)) (λ _. reader.frame_at bs ≡ Err rest) → IfOk r (λ f. IsFrame (frame_value f))
frame_is_fine (Ok f) bs rest h = frame_fine bs (frame_value f) rest h
frame_is_fine (Err e) bs rest h = tt

pub tail_is_fine : (r : Result Tail Stuck) (bs rest : List ℕ) → MatchResult r (λ f. reader.tail_at bs ≡ Ok (tail_value f, rest)) (λ _. reader.tail_at bs ≡ Err rest) → IfOk r (λ f. IsTail (tail_value f))
tail_is_fine (Ok f) bs rest h = tail_fine bs (tail_value f) rest h
tail_is_fine (Err e) bs rest h = tt
