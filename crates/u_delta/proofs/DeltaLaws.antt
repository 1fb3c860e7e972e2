-- What a delta has of the log that it comes from.
use Rattle.std.specs.Prelude.{◌≡◌, ℕ, ◌+◌, ◌-◌, ◌≤◌, ◌<◌, Bool, true, false, List, ◌++◌, length, take, drop, min, nat_eq, nat_le, ◌&&◌, if◌then◌else◌, refl}
use Rattle.std.proofs.Common.{sym, ◌∙◌, ap, subst, arith}
use Rattle.std.proofs.lemmas.Bool.{and_parts, leb-true}
use Rattle.std.proofs.lemmas.List.{length-take, length-take-le, length-drop, take_all, take-append-drop}
use Rattle.u_rule.specs.declared.firing.Firing.{Firing}
use Rattle.u_delta.specs.declared.message.Mark.{Mark}
use Rattle.u_delta.specs.declared.message.Delta.{Delta}
use Rattle.u_delta.specs.Marks.{most_firings, starts_at, part_from, IsDelta}

-- a delta has at most 4096 firings
pub most_is : most_firings ≡ 4096
unfolding most_firings
most_is = refl

-- the first firings, where there are more than so many, and where there are not

pub long_part : (n : ℕ) (fs : List Firing) → n < length fs → n ≡ length (take n fs)
long_part n fs h = sym (length-take-le n fs (omega arith))

pub short_part : (n : ℕ) (fs : List Firing) → length fs ≤ n → fs ≡ take n fs
short_part n fs h = sym (take_all n fs h)

-- it starts within the log, or at its end
pub starts_within : (log : List Firing) (life : ℕ) (mark : Mark) → starts_at log life mark ≤ length log
starts_within log life mark = at (nat_eq mark.life life && nat_le mark.count (length log)) refl
  where
    at : (t : Bool) → nat_eq mark.life life && nat_le mark.count (length log) ≡ t → (if t then mark.count else 0) ≤ length log
    at true h = leb-true mark.count (length log) (and_parts (nat_eq mark.life life) (nat_le mark.count (length log)) h).1
    at false h = omega arith

part_length : (log : List Firing) (start : ℕ) → length (part_from log start) ≡ min most_firings (length log - start)
part_length log start = length-take most_firings (drop start log) ∙ ap (min most_firings) (length-drop start log)

module _ (log : List Firing) (sender receiver life : ℕ) (mark : Mark) (delta : Delta) (is : IsDelta log sender receiver life mark delta) where
  -- its firings are the log's, from its start on
  pub delta_part : delta.firings ≡ take most_firings (drop delta.start log)
  delta_part = is.firings_are ∙ ap (part_from log) (sym is.start_is)

  -- so the log is what stands before it, the delta's firings, and what stands behind them
  pub delta_lies : log ≡ take delta.start log ++ (delta.firings ++ drop most_firings (drop delta.start log))
  delta_lies =
      sym (ap (λ t. take delta.start log ++ (t ++ drop most_firings (drop delta.start log))) delta_part
      ∙ ap (λ t. take delta.start log ++ t) (take-append-drop most_firings (drop delta.start log))
      ∙ take-append-drop delta.start log)

  delta_length : length delta.firings ≡ min most_firings (length log - delta.start)
  delta_length = ap (λ (fs : List Firing). length fs) delta_part ∙ part_length log delta.start

  pub delta_starts : delta.start ≤ length log
  delta_starts = subst (λ n. n ≤ length log) (sym is.start_is) (starts_within log life mark)

  -- it ends within the log, or where the log ends
  pub delta_within : delta.start + length delta.firings ≤ length log
  delta_within = omega (arith, delta_length, delta_starts)

  -- it has at most 4096 firings
  pub delta_few : length delta.firings ≤ 4096
  delta_few = omega (arith, delta_length, most_is)

  -- where it has fewer, it reaches the log's end
  pub delta_reaches : length delta.firings < 4096 → delta.start + length delta.firings ≡ length log
  delta_reaches h = omega (arith, delta_length, delta_starts, most_is)
