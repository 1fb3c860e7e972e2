use Rattle.std.proofs.Common.{◌≡◌, List, length, Some, refl, sym, subst}
use Rattle.std.specs.Prelude.{slice_get}
use Rattle.u_name.specs.Name.{Activity}
use Rattle.u_trace.specs.Numbers.{LieUnder}
use Rattle.u_trace.proofs.Lists.{get_below}
use Rattle.u_trace.proofs.NumberLaws.{have_one, number_is}
use Rattle.u_trace.proofs.TableLaws.{still_under, same_places}
use Rattle.u_trace.proofs.table.Givers.number_at.Goals as goal

pub invariant_of-self : goal.invariant_of-self
invariant_of-self c = record {
  one_number = have_one c.number_beside.new.self c.number_beside.ensures.distinct;
  numbered = subst (λ (ns : List Activity). LieUnder (length ns) c.args.self.now.tokens) (sym c.number_beside.ensures.grows.1) (still_under c.args.self.now.names c.number_beside.ensures.grows.0 c.args.self.now.tokens c.args.self.now.numbered);
  columns = c.args.self.now.columns;
}

pub returns-in_err-number-clause-same : goal.returns-in_err-number-clause-same
returns-in_err-number-clause-same c =
    same_places c.args.self.now.names c.number_beside.ensures.grows.0 c.number_beside.new.self c.args.self.now.tokens c.args.self.now.others c.args.self.now.numbered c.number_beside.ensures.grows.1

pub returns-clause-number : goal.returns-clause-number
returns-clause-number c =
    number_is c.number_beside.new.self c.args.activity.now c.in_ok-number.number (have_one c.number_beside.new.self c.number_beside.ensures.distinct)
    (subst (λ (a : Activity). slice_get c.number_beside.new.self c.in_ok-number.number ≡ Some a) c.parts-statement.ensures.name c.in_ok-number.ensures.number)

pub returns-clause-below : goal.returns-clause-below
returns-clause-below c = get_below c.number_beside.new.self c.in_ok-number.number _ c.in_ok-number.ensures.number

pub returns-clause-same : goal.returns-clause-same
returns-clause-same c = same_places c.args.self.now.names c.number_beside.ensures.grows.0 c.number_beside.new.self c.args.self.now.tokens c.args.self.now.others c.args.self.now.numbered c.number_beside.ensures.grows.1

pub returns-in_err-number-clause-owns : goal.returns-in_err-number-clause-owns
returns-in_err-number-clause-owns c = record { names = c.number_beside.ensures.grows; owners = refl }

pub returns-clause-owns : goal.returns-clause-owns
returns-clause-owns c = record { names = c.number_beside.ensures.grows; owners = refl }
