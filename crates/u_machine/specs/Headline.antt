-- What one machine promises, in the words of those who use it.
--
-- A job is a firing system (`u_base/specs/Firing.antt`): a start token, and firings, each with the
-- entries that it needs and those that it gives. A run of the job is a list of firings, each of which
-- needs only the start and what earlier ones of the list give; there it is called a derivation.
use Rattle.std.specs.Prelude.{◌≡◌, Contains}
use Rattle.u_base.specs.Firing.{Derivation, Closed, Cl, Whole, Same}
use Rattle.u_rule.specs.Rule.{own_of}
use Rattle.u_rule.specs.declared.entry.Entry.{Entry}
use Rattle.u_machine.specs.State.{State, Taken, IsSettled, NothingReady}

-- the history is the closure of what was taken: the entries of all runs that fire taken firings alone
abbrev pub IsClosure : State → Type 0
IsClosure m = Same (Contains m.history) (Cl (own_of m.job) (Taken m))

-- the history is whole: it has the entries of all runs of the job, and no firing could add to it
abbrev pub IsWhole : State → Type 0
IsWhole m = Closed (own_of m.job) (Contains m.history) × Same (Contains m.history) (Whole (own_of m.job))

-- The headline of one machine: the firings that it applied are one run of its job, and each entry that it
-- holds is one that a run reaches; once it is settled, its history is fixed by the set of firings that
-- it took; and where nothing is ready it holds all that any run reaches.
pub record KeepsItsPromise (m : State) : Type 0 where
  pub run : Derivation (own_of m.job) m.log
  pub reached : (e : Entry) → Contains m.history e → Whole (own_of m.job) e
  pub closure : IsSettled m → IsClosure m
  pub whole : IsSettled m → NothingReady m → IsWhole m

-- Two machines of one job that took the same firings, in whatever orders, have the same history, the
-- very list, once both are settled.
abbrev pub Agree : State → State → Type 0
Agree a b = IsSettled a → IsSettled b → b.job ≡ a.job → Same (Taken b) (Taken a) → b.history ≡ a.history
