use Rattle.std.proofs.Common.{◌≡◌, ◌+◌, ◌≤◌, ℕ, List, [], take, length, sym, subst, arith, rules}
use Rattle.std.proofs.lemmas.List.{take_all}
use Rattle.u_value.specs.declared.value.Value.{Value}
use Rattle.u_rule.specs.Parts.{TokenParts, token}
use Rattle.u_rule.specs.Rule.{tokens_from}
use Rattle.u_rule.specs.declared.entry.Entry.{Entry}
use Rattle.u_rule.specs.declared.entry.Entry.TheVariants as entries
use Rattle.u_sets.specs.Members.{SomeOf}
use Rattle.u_base.proofs.Member.{Contains-nil}
use Rattle.u_trace.specs.Table.{place_in}
use Rattle.u_trace.specs.Marks.{IsWanted, Marks}
use Rattle.u_trace.proofs.MarkLaws.{mark_none, marks_on}
use Rattle.u_trace.proofs.NeedLaws.{tokens_next}
use Rattle.u_trace.proofs.marks.Applied.mark_tokens.Goals as goal

pub loop-value-init : goal.loop-value-init
loop-value-init c = record {
  marked = mark_none c.args.marks.now (SomeOf [] (IsWanted c.args.self.now.start.now (place_in c.args.self.now.givers.now))) (λ k s. Contains-nil s.0 s.1);
  port = omega arith;
}

pub mark_token-requires-clause-below : goal.mark_token-requires-clause-below
mark_token-requires-clause-below c x k e = let l = c.requires.below x k e in let n = c.loop-value.invariant.marked.count in omega (arith, l, n)

pub loop-value-preserved : goal.loop-value-preserved
loop-value-preserved c =
    let a = c.args.activity.now in
    let vs = c.args.values.now in
    let i = c.loop-value.value-index in
    let v = c.value-item.result in
    let W : Entry → ℕ → Type 0 = IsWanted c.args.self.now.start.now (place_in c.args.self.now.givers.now) in
    let t : c.new-token.result ≡ token a (i + 1) v = search rules in
    record {
      marked = subst (λ (xs : List Entry). Marks c.args.marks.now (SomeOf xs W) c.mark_token.new.marks) (sym (tokens_next a vs i v c.loop-value-test.true c.value-item.is))
          (marks_on W (tokens_from a 1 (take i vs)) (entries.Token (token a (i + 1) v)) c.args.marks.now c.loop-value.marks c.mark_token.new.marks c.loop-value.invariant.marked
          (subst (λ (x : TokenParts). Marks c.loop-value.marks (W (entries.Token x)) c.mark_token.new.marks) t c.in_ok-mark_token.ensures));
      port = (let p = c.loop-value.invariant.port in omega (arith, p));
    }

pub returns : goal.returns
returns c =
    let h : length c.args.values.now ≤ c.loop-value.value-index = omega arith in
    subst (λ (vs : List Value). Marks c.args.marks.now (SomeOf (tokens_from c.args.activity.now 1 vs) (IsWanted c.args.self.now.start.now (place_in c.args.self.now.givers.now))) c.loop-value.marks) (take_all c.loop-value.value-index c.args.values.now h) c.loop-value.invariant.marked
