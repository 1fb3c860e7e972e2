use Rattle.std.proofs.Common.{◌≡◌, ◌<◌, ◌∙◌, ℕ, List, [], ◌∷◌, ◌++◌, length, Some, sym, subst, ap}
use Rattle.std.specs.Prelude.{slice_get}
use Rattle.u_name.specs.Name.{Activity}
use Rattle.u_sets.specs.Columns.{IsNumberOf}
use Rattle.u_trace.proofs.NumberLaws.{number_there}
use Rattle.u_trace.proofs.table.Givers.own.Goals as goal

pub returns-clause-more : goal.returns-clause-more
returns-clause-more c =
    let names = c.number_at.new.self.names in
    let n = c.in_ok-number.number in
    let there : IsNumberOf names c.of.result n =
    subst (λ (m : ℕ). slice_get names m ≡ Some c.of.result) (sym c.in_ok-number.ensures.number) (number_there names c.of.result (subst (λ (m : ℕ). m < length names) c.in_ok-number.ensures.number c.in_ok-number.ensures.below)) in
    record {
      number = n;
      is = subst (λ (a : Activity). IsNumberOf names a n) c.of.ensures there;
      names = c.number_at.ensures.owns.names;
      owners = c.in_ok-push.ensures.items ∙ ap (λ (ns : List ℕ). ns ++ n ∷ []) c.number_at.ensures.owns.owners;
    }
