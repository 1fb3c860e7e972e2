use Rattle.std.proofs.Common.{rules, ◌≡◌, ◌≤◌, ◌-◌, ◌++◌, ◌∙◌, List, ℕ, length, min, Ok, Err, cond}
use Rattle.std.specs.Prelude.{Result, OnOk, is_ok}
use Rattle.u_share.specs.Lines.{longest}
use Rattle.u_share.proofs.Fronts.{take_room}
use Rattle.u_share.proofs.splitting.Splitter.extend.Goals as goal

extended : {A E : Type 0} (r : Result A E) (new old piece want : List ℕ) → new ≡ cond (is_ok r) (old ++ piece) old → old ++ piece ≡ want → OnOk r (new ≡ want)
extended (Ok x) new old piece want e w = e ∙ w
extended (Err x) new old piece want e w = tt

pub returns-clause-begun : goal.returns-clause-begun
unfolding longest
returns-clause-begun c =
    let o = c.args.self.now.begun.items in
    let l : length o ≤ 32769 = search rules in
    let r : c.saturating_sub-room.result ≡ 32769 - length o = search rules in
    let m : c.min-count.result ≡ min c.saturating_sub-room.result (length c.args.bytes.now) = search rules in
    extended c.extend_from_slice.result _ o _ _ c.extend_from_slice.ensures.items (take_room 32769 c.saturating_sub-room.result c.min-count.result o c.args.bytes.now l r m)
