-- The marks of a replica: how much of each peer's log it has, and where a mark moves.
use Rattle.std.specs.Prelude.{◌≡◌, ℕ, ◌+◌, ◌-◌, ◌≤◌, ◌<◌, ◌⊎◌, List, [], ◌∷◌, length, max, slice_index_or, slice_set}
use Rattle.std.specs.Prelude.{Bool, nat_eq, nat_le, nat_lt, ◌&&◌, not, if◌then◌else◌}
use Rattle.u_name.specs.Context.{IsBetween}
use Rattle.u_delta.specs.declared.message.Mark.{Mark}
use Rattle.u_delta.specs.declared.message.Delta.{Delta}

-- no mark counts more firings
unfoldable pub most_count : ℕ
most_count = 1000000

abbrev pub mark : ℕ → ℕ → Mark
mark life count = record { life = life; count = count }

-- nothing is known of the peer: lives begin with 1
abbrev pub fresh_mark : Mark
fresh_mark = mark 0 0

-- one for each replica, from 1 to 8
abbrev pub fresh_marks : List Mark
fresh_marks =
    fresh_mark ∷ fresh_mark ∷ fresh_mark ∷ fresh_mark
    ∷ fresh_mark ∷ fresh_mark ∷ fresh_mark ∷ fresh_mark ∷ []

-- the mark for a peer
abbrev pub mark_of : List Mark → ℕ → Mark
mark_of marks peer = slice_index_or marks (peer - 1) fresh_mark

-- one mark for each replica, and none counts too many
pub record AreMarks (marks : List Mark) : Type 0 where
  pub eight : length marks ≡ 8
  pub small : (peer : ℕ) → IsBetween 1 peer 8 → (mark_of marks peer).count ≤ most_count

-- how many of the first firings of the sender's log there are up to the delta's end
abbrev pub end_of : Delta → ℕ
end_of d = d.start + length d.firings

-- The mark counts further where the delta is of the mark's life and leaves nothing out behind what the
-- mark counts. It begins anew where the delta is of a later life and begins with that life's first
-- firing. Elsewhere it stays.
abbrev pub moved : Delta → Mark → Mark
moved d m =
    if nat_eq d.life m.life && nat_le d.start m.count then mark m.life (max m.count (end_of d))
    else if nat_lt m.life d.life && nat_eq d.start 0 then mark d.life (end_of d)
    else m

-- the sender is another replica, and the delta ends where a mark may count to
abbrev pub is_heeded : ℕ → Delta → Bool
is_heeded own d = nat_le 1 d.sender && nat_le d.sender 8 && not (nat_eq d.sender own) && nat_le (end_of d) most_count

-- the marks of the replica with that number, once it took the delta: the sender's alone may move
abbrev pub marks_after : ℕ → Delta → List Mark → List Mark
marks_after own d marks = if is_heeded own d then slice_set marks (d.sender - 1) (moved d (mark_of marks d.sender)) else marks

-- the second mark is of a later life, or counts as many of the same life's firings or more
abbrev pub IsNoLess : Mark → Mark → Type 0
IsNoLess old new = (old.life < new.life) ⊎ ((old.life ≡ new.life) × (old.count ≤ new.count))
