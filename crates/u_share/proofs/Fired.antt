-- What was fired and printed so far.
use Rattle.std.specs.Prelude.{◌≡◌, ℕ, ◌+◌, List, [], ◌++◌, length, Ok, Err, Bool, true, false, Option, refl}
use Rattle.std.proofs.Common.{sym, subst}
use Rattle.u_rule.specs.declared.firing.Firing.{Firing}
use Rattle.u_machine.specs.State.{State}
use Rattle.u_machine.specs.Calls.{Fires}
use Rattle.u_machine.specs.declared.answer.Ran.TheVariants as ran
use Rattle.u_machine.proofs.Runs.{Fires-nil}
use Rattle.u_share.specs.Lines.{text_of}
use Rattle.u_share.specs.Calls.{FireNextAnswer, Prints, PutAnswer, BurstWith}
use Rattle.u_share.specs.declared.fault.ShareFault.{ShareFault}
use Rattle.u_share.proofs.Turned.{applies_same}
use Rattle.u_share.proofs.Printing.{prints_none, next_fails, next_quiet, put_fails, put_fired}

-- so many were fired, and their lines were written, but for what the piece has
abbrev pub FiredTo : State → State → Option (List ℕ) → Option (List ℕ) → List ℕ → ℕ → Type 0
FiredTo old m a b piece count = (gs : List Firing) × Fires old gs m × Prints a b (text_of gs) piece × (length gs ≡ count)

pub fired_none : (m : State) (a : Option (List ℕ)) (piece : List ℕ) → piece ≡ [] → FiredTo m m a a piece 0
fired_none m a piece e =
    ([], Fires-nil m m (applies_same m), subst (λ (p : List ℕ). Prints a a [] p) (sym e) (prints_none a), refl)

pub fired_fails : (old m n : State) (times : ℕ) (a b : Option (List ℕ)) (piece line : List ℕ) (count : ℕ) (fault : ShareFault) → FiredTo old m a b piece count → FireNextAnswer m (Err fault) n line → BurstWith piece old times a (Err fault) n b
fired_fails old m n times a b piece line count fault (gs, r, p, l) x = next_fails old m n times a b gs piece line fault r p x

pub fired_quiet : (old m n : State) (times : ℕ) (a b : Option (List ℕ)) (piece line : List ℕ) (count : ℕ) (is : Bool) → FiredTo old m a b piece count → is ≡ false → FireNextAnswer m (Ok is) n line → BurstWith piece old times a (Ok ran.Quiet) n b
fired_quiet old m n times a b piece line count is (gs, r, p, l) e x =
    next_quiet old m n times a b gs piece line r p (subst (λ (y : Bool). FireNextAnswer m (Ok y) n line) e x)

pub fired_unput : (old m n : State) (times : ℕ) (a b c : Option (List ℕ)) (piece line next put : List ℕ) (count : ℕ) (is : Bool) (fault : ShareFault) → FiredTo old m a b piece count → is ≡ true → FireNextAnswer m (Ok is) n line → put ≡ line → PutAnswer b (piece ++ put) (Err fault) c next → BurstWith next old times a (Err fault) n c
fired_unput old m n times a b c piece line next put count is fault (gs, r, p, l) e x d y =
    put_fails old m n n times a b c gs piece line next fault r p (subst (λ (z : Bool). FireNextAnswer m (Ok z) n line) e x) (subst (λ (z : List ℕ). PutAnswer b (piece ++ z) (Err fault) c next) d y)

pub fired_more : (old m n : State) (a b c : Option (List ℕ)) (piece line next put : List ℕ) (count : ℕ) (is : Bool) → FiredTo old m a b piece count → is ≡ true → FireNextAnswer m (Ok is) n line → put ≡ line → PutAnswer b (piece ++ put) (Ok tt) c next → FiredTo old n a c next (count + 1)
fired_more old m n a b c piece line next put count is (gs, r, p, l) e x d y =
    put_fired old m n a b c gs piece line next count r p l (subst (λ (z : Bool). FireNextAnswer m (Ok z) n line) e x) (subst (λ (z : List ℕ). PutAnswer b (piece ++ z) (Ok tt) c next) d y)
