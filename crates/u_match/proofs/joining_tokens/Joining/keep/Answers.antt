use Rattle.std.proofs.Common.{sym, ◌∙◌, refl}
use Rattle.std.proofs.lemmas.Bool.{false≢true}
use Rattle.u_match.proofs.Steps.{put_in, put_last, left_out}
use Rattle.u_match.proofs.joining_tokens.Joining.keep.Goals as goal

pub returns-clause-ok : goal.returns-clause-ok
returns-clause-ok c = put_in c.args.self.now.job.now c.args.firing c.args.found.now.items c.push.new.self.items (sym c.is_one.ensures ∙ c.if-not-is_one.false) (put_last c.args.firing c.args.found.now.items c.push.new.self.items c.in_ok-push.ensures.items)

pub returns-then-len-self-clause-many : goal.returns-then-len-self-clause-many
returns-then-len-self-clause-many c e = (c.args.firing, (refl, sym c.is_one.ensures ∙ c.if-not-is_one.false))

pub returns-then-not-is_one-clause-ok : goal.returns-then-not-is_one-clause-ok
returns-then-not-is_one-clause-ok c = left_out c.args.self.now.job.now c.args.firing c.args.found.now.items (λ is. false≢true (sym c.if-not-is_one.true ∙ (c.is_one.ensures ∙ is)))
