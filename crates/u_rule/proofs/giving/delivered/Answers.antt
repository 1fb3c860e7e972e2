use Rattle.std.proofs.Common.{◌≡◌, subst, rules, List, None}
use Rattle.u_program.specs.declared.program.Kind.{Kind}
use Rattle.u_rule.specs.Rule.{reached, refusal_of, list_of}
use Rattle.u_rule.specs.declared.entry.Entry.{Entry}
use Rattle.u_rule.proofs.Linkage.{sent_on}
use Rattle.u_rule.proofs.giving.delivered.Goals as goal

pub returns-in-Ok : goal.returns-in-Ok
returns-in-Ok c =
    let near = c.in-Ok.near in
    let s = c.args.statement.now in
    let f = c.args.firing.now in
    let to = list_of s.kind s f.values in
    let there = subst (λ (k : Kind). near ≡ reached k f.activity f.activity.statement) c.kind.ensures c.in-Ok.ensures.0 in
    let free = subst (λ (k : Kind). refusal_of c.args.version k f.activity ≡ None) c.kind.ensures c.in-Ok.ensures.1 in
    subst (λ (es : List Entry). c.new.result ≡ es) (sent_on c.args.version s.kind f.activity near c.args.value to c.requires.reaches there free) (search rules)
