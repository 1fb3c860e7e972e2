-- What came of an entry, with the firings that are left of those that were made.
use Rattle.std.proofs.Common.{List, Result, Ok, Err, sym, subst}
use Rattle.std.specs.declared.alloc.AllocError.{AllocError}
use Rattle.u_check.specs.Jobs.{JobParts}
use Rattle.u_rule.specs.declared.entry.Entry.{Entry}
use Rattle.u_rule.specs.declared.firing.Firing.{Firing}
use Rattle.u_match.specs.declared.matcher.Entered.{Entered}
use Rattle.u_match.specs.declared.matcher.Entered.TheVariants as entered
use Rattle.u_match.specs.Waking.{Enters, EnterAnswer, IsLeft}

pub answered : (job : JobParts) (old : List Entry) (entry : Entry) (r : Result Entered AllocError) (made left : List Firing) (new : List Entry) → Enters job old entry r made new → IsLeft r made left → EnterAnswer job old entry r left new
answered job old entry (Ok entered.Known) made left new came l = (l, came.0, came.1)
answered job old entry (Ok entered.Woken) made left new came l = subst (λ (fs : List Firing). EnterAnswer job old entry (Ok entered.Woken) fs new) (sym l) came
answered job old entry (Ok entered.Many) made left new came l = (l, came.0, came.1, came.2)
answered job old entry (Err e) made left new came l = (l, came)
