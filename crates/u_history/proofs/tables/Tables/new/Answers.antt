use Rattle.std.proofs.Common.{◌≡◌, ◌<◌, ℕ, [], List, Contains, length, get_or, sym, subst, rules, arith}
use Rattle.u_base.specs.Firing.{Distinct}
use Rattle.u_base.proofs.Member.{Contains-nil}
use Rattle.u_name.specs.Name.{Activity}
use Rattle.u_rule.specs.declared.entry.Entry.{Entry}
use Rattle.u_history.specs.Tables.{tables_by}
use Rattle.u_history.proofs.Tabled.{none_held}
use Rattle.u_history.proofs.Numbering.{Column, all_empty, below_empty}
use Rattle.u_history.proofs.tables.Tables.new.Goals as goal

pub returns-clause-held : goal.returns-clause-held
returns-clause-held c =
    let none : (i : ℕ) (d : Column) → i < length c.from_fn.result → get_or c.from_fn.result i d ≡ [] = (λ i d l. let w = c.from_fn.ensures.items.at i d (omega (arith, l, c.from_fn.ensures.items.long)) in search rules) in
    none_held (tables_by c.new.result c.from_fn.result) c.new-2.result c.new-3.result (all_empty c.new.result c.from_fn.result none) c.new-2.ensures c.new-3.ensures

pub returns-clause-tables : goal.returns-clause-tables
returns-clause-tables c =
    let none : (i : ℕ) (d : Column) → i < length c.from_fn.result → get_or c.from_fn.result i d ≡ [] = (λ i d l. let w = c.from_fn.ensures.items.at i d (omega (arith, l, c.from_fn.ensures.items.long)) in search rules) in
    record {
      ports = omega (arith, c.from_fn.ensures.items.long);
      distinct = subst (λ (xs : List Activity). Distinct xs) (sym c.new.ensures) tt;
      below = below_empty (length c.new.result) c.from_fn.result none;
      others = λ e m. absurd (Contains-nil e (subst (λ (es : List Entry). Contains es e) c.new-3.ensures m));
    }
