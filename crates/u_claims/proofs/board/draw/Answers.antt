use Rattle.std.proofs.Common.{◌≡◌, ◌<◌, ◌+◌, ℕ, arith, ap, sym, subst, true, ◌∙◌}
use Rattle.std.proofs.lemmas.Bool.Decides.{nat_tests}
use Rattle.u_claims.specs.Held.{hand, none_held, has_bucket, IsMaskOf}
use Rattle.u_claims.proofs.Masking.{none_masked}
use Rattle.u_claims.proofs.SeatSteps.{draws, newcomer_lacks}
use Rattle.u_claims.proofs.board.draw.Goals as goal

pub compare_exchange-found-requires : goal.compare_exchange-found-requires
compare_exchange-found-requires c =
    let bare : (b : ℕ) → b < 64 → has_bucket c.args.seat.me.0 b ≡ true → ⊥ =
    λ b small has. newcomer_lacks c.args.board.now.table.shared.key b small (subst (λ m. has_bucket m.0 b ≡ true) c.requires.new has) in
    (c.requires.board, rw c.args.board.now.wide (omega arith), draws _ _ _ _ _ c.requires.room bare)

pub invariant_of-result-clause-held_known : goal.invariant_of-result-clause-held_known
invariant_of-result-clause-held_known c =
    let seats = c.args.board.now.table.shared.key in
    let number = c.args.drawn + 1 in
    let found : c.compare_exchange-found.result ≡ c.args.drawn = grind (arith, nat_tests, c.if-found-drawn.false) in
    let view : c.compare_exchange-found.new.seat.me.0 ≡ hand seats number none_held = c.compare_exchange-found.ensures.2.1 found ∙ ap (λ m. hand m.0.seats number m.0.held) c.requires.new in
    subst (λ v. IsMaskOf 0 v) (sym view) (none_masked seats number)
