use Rattle.std.proofs.Common.{◌∙◌, ap, sym, subst, ◌≤◌, List, ℕ}
use Rattle.u_name.specs.NameReader.{name_steps, paren_span}
use Rattle.u_name.proofs.WholeTexts.{name_found, name_missing, name_found_within, name_missing_within}
use Rattle.u_name.proofs.name.Name.read_at.Goals as goal

pub overflow_sub-result : goal.overflow_sub-result
overflow_sub-result c = name_found_within c.args.bytes.now c.args.offset c.in-Ok.name c.name.new.self.rest.now (ap name_steps c.behind-rest.ensures ∙ c.in-Ok.ensures.1)

pub overflow_sub-result-in-Err-Stuck : goal.overflow_sub-result-in-Err-Stuck
overflow_sub-result-in-Err-Stuck c = name_missing_within c.args.bytes.now c.args.offset c.name.new.self.rest.now (ap name_steps c.behind-rest.ensures ∙ (rw c.in-Err-Stuck.field-0-is at c.in-Err-Stuck.ensures).1)

pub returns-in-Ok : goal.returns-in-Ok
returns-in-Ok c = name_found c.args.bytes.now c.args.offset c.in-Ok.name c.name.new.self.rest.now c.requires (ap name_steps c.behind-rest.ensures ∙ c.in-Ok.ensures.1)

pub returns-in-Err-Stuck : goal.returns-in-Err-Stuck
returns-in-Err-Stuck c =
    let e = rw c.in-Err-Stuck.field-0-is at c.in-Err-Stuck.ensures in
    name_missing c.args.bytes.now c.args.offset c.name.new.self.rest.now c.requires (ap name_steps c.behind-rest.ensures ∙ e.1) (subst (λ (bs : List ℕ). paren_span 65 bs ≤ 64) (sym c.behind-rest.ensures) e.0)
