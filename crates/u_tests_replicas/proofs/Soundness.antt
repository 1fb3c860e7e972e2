-- The firings of a machine's log are sound.
use Rattle.std.proofs.Common.{◌≡◌, ℕ, zero, suc, List, [], ◌∷◌, ◌++◌, take, Some, All}
use Rattle.std.specs.Prelude.{slice_get, slice_index_or}
use Rattle.std.proofs.lemmas.List.Elements.{All-take}
use Rattle.std.proofs.lemmas.Option.{slice_get-get_or}
use Rattle.u_base.specs.Firing.{System, Held, Enabled, Derivation, Whole, Follows}
use Rattle.u_base.proofs.Held.{Enabled-mono, Follows-from_Derivation, Derivation-from_Follows}
use Rattle.u_check.specs.Jobs.{JobParts}
use Rattle.u_rule.specs.Rule.{own_of}
use Rattle.u_rule.specs.declared.firing.Firing.{Firing}
use Rattle.u_machine.specs.State.{State, IsMachine}
use Rattle.u_outlet.specs.Sound.{IsSound}

module _ {E F : Type 0} (s : System E F) where
  Follows-take : (done fs : List F) (k : ℕ) → Follows s done fs → Follows s done (take k fs)
  Follows-take done [] zero d = tt
  Follows-take done [] (suc k) d = tt
  Follows-take done (f ∷ fs) zero d = tt
  Follows-take done (f ∷ fs) (suc k) d = (d.0, Follows-take (done ++ f ∷ []) fs k d.1)

  -- the front of a derivation is one
  Derivation-take : (fs : List F) (k : ℕ) → Derivation s fs → Derivation s (take k fs)
  Derivation-take fs k d = Derivation-from_Follows s (take k fs) (Follows-take [] fs k (Follows-from_Derivation s fs d))

  -- each firing of a derivation needs what some run holds
  Derivation-at : (fs : List F) (k : ℕ) (f : F) → Derivation s fs → slice_get fs k ≡ Some f → Enabled s (Whole s) f
  Derivation-at fs k f d at = Enabled-mono s (Held s (take k fs)) (Whole s) (λ e h. (take k fs, Derivation-take fs k d, h)) f (d.each k f at)

-- the log of a machine is sound
log_sound : (m : State) → IsMachine m → All (IsSound m.job) m.log
log_sound m is k d h = Derivation-at (own_of m.job) m.log k (slice_index_or m.log k d) is.sound.derivation (slice_get-get_or m.log k d h)

-- and so is each front of it, for the job that the machine runs
pub front_sound : (job : JobParts) (m : State) (log : List Firing) (n : ℕ) → IsMachine m → job ≡ m.job → log ≡ m.log → All (IsSound job) (take n log)
front_sound job m log n is same e = rw (same, e) (All-take (IsSound m.job) n m.log (log_sound m is))
