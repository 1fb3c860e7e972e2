use Rattle.std.proofs.Common.{◌<◌, ◌≤◌, ◌∙◌, ◌+◌, ◌++◌, ap, sym, subst, length, map, get_or, List, arith}
use Rattle.std.proofs.lemmas.List.{take_all}
use Rattle.u_base.specs.Firing.{Distinct}
use Rattle.u_rule.specs.declared.entry.Entry.{Entry}
use Rattle.u_sets.specs.Columns.{named, deref_value, AreBelow}
use Rattle.u_sets.proofs.Named.{named_distinct}
use Rattle.u_history.specs.Tables.{contents_of, token_entry, listed_tokens, AreDistinct}
use Rattle.u_history.proofs.Tabled.{listed_step, distinct_step}
use Rattle.u_history.proofs.Numbering.{below_at, tables_length, tables_get}
use Rattle.u_history.proofs.tables.Tables.tokens_listed.Goals as goal

pub push_tokens-requires-clause-below : goal.push_tokens-requires-clause-below
push_tokens-requires-clause-below c =
    let t = c.args.self.now in
    let i = c.loop-place.place in
    let l : i < length t.columns = omega (arith, c.requires.ports, c.loop-place-test.true) in
    subst (AreBelow (length t.names)) (sym (ap (map deref_value) c.deref.ensures.value ∙ c.in_ok-pairs.ensures.all)) (below_at t c.requires i c.index-self-place.result l)

pub loop-place-preserved : goal.loop-place-preserved
loop-place-preserved c =
    let t = c.args.self.now in
    let ts = (contents_of t).tokens in
    let i = c.loop-place.place in
    let d = c.index-self-place.result in
    let m = named t.names d in
    let l : i < length t.columns = omega (arith, c.requires.ports, c.loop-place-test.true) in
    let k : i < length ts = omega (arith, l, tables_length t.names t.columns) in
    let is = tables_get t.names t.columns i d in
    let pairs = ap (λ ps. map (token_entry (i + 1)) (named t.names (map deref_value ps))) c.deref.ensures.value ∙ ap (λ ps. map (token_entry (i + 1)) (named t.names ps)) c.in_ok-pairs.ensures.all ∙ ap (map (token_entry (i + 1))) (sym is) in
    let apart = subst (λ (ps : List _). Distinct ps) (sym is) (named_distinct t.names (get_or t.columns i d) c.requires.distinct c.in_ok-pairs.ensures.distinct) in
    (listed_step ts i m k c.loop-place.list.items c.push_tokens.new.list.items c.loop-place.invariant.0 (c.in_ok-push_tokens.ensures ∙ ap (λ (es : List Entry). c.loop-place.list.items ++ es) pairs), distinct_step ts i m k c.loop-place.invariant.1 apart)

pub returns-clause-all : goal.returns-clause-all
returns-clause-all c =
    let t = c.args.self.now in
    let ts = (contents_of t).tokens in
    let l : length ts ≤ c.loop-place.place = omega (arith, c.requires.ports, tables_length t.names t.columns, c.loop-place-test.false) in
    c.loop-place.invariant.0 ∙ ap (listed_tokens 1) (take_all c.loop-place.place ts l)

pub returns-clause-distinct : goal.returns-clause-distinct
returns-clause-distinct c =
    let t = c.args.self.now in
    let ts = (contents_of t).tokens in
    let l : length ts ≤ c.loop-place.place = omega (arith, c.requires.ports, tables_length t.names t.columns, c.loop-place-test.false) in
    subst AreDistinct (take_all c.loop-place.place ts l) c.loop-place.invariant.1
