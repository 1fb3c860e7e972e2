use Rattle.std.proofs.Common.{◌<◌, ◌≤◌, ◌∙◌, ◌++◌, [], ◌∷◌, ◌+◌, ap, sym, subst, length, map, get_or, List, Contains, arith}
use Rattle.std.proofs.lemmas.List.{take_all}
use Rattle.u_rule.specs.declared.entry.Entry.{Entry}
use Rattle.u_sets.specs.Columns.{named, deref_value}
use Rattle.u_sets.proofs.Named.{named_distinct, named_shared}
use Rattle.u_history.specs.Tables.{PortTables, contents_of, token_entry, IsSharing, AreSharing}
use Rattle.u_history.proofs.Tabled.{sharing_step, shared_step}
use Rattle.u_history.proofs.Numbering.{below_at, tables_length, tables_get}
use Rattle.u_history.proofs.tables.Tables.tokens_sharing.Goals as goal

pub push_tokens-requires-clause-below : goal.push_tokens-requires-clause-below
push_tokens-requires-clause-below c p m =
    let t = c.args.self.now in
    let i = c.loop-place.place in
    let l : i < length t.columns = omega (arith, c.requires.ports, c.loop-place-test.true) in
    let k = subst (λ ps. Contains (map deref_value ps) p) c.deref.ensures.value m in
    below_at t c.requires i c.index-self-place.result l p ((c.in_ok-pairs.ensures.all p.0 p.1).0 k).0

pub loop-place-preserved : goal.loop-place-preserved
loop-place-preserved c =
    let t = c.args.self.now in
    let ts = (contents_of t).tokens in
    let i = c.loop-place.place in
    let d = c.index-self-place.result in
    let m = named t.names d in
    let l : i < length t.columns = omega (arith, c.requires.ports, c.loop-place-test.true) in
    let k : i < length ts = omega (arith, l, tables_length t.names t.columns) in
    let is = tables_get t.names t.columns i d in
    let us = c.loop-place.invariant.0 in
    let qs = map deref_value c.in_ok-pairs.pairs.items in
    let ps = named t.names qs in
    let pairs = ap (λ rs. map (token_entry (i + 1)) (named t.names (map deref_value rs))) c.deref.ensures.value in
    let own : IsSharing (named t.names (get_or t.columns i d)) ps = record { shared = named_shared t.names (get_or t.columns i d) qs c.requires.distinct c.in_ok-pairs.ensures.all; distinct = named_distinct t.names qs c.requires.distinct c.in_ok-pairs.ensures.distinct } in
    let s : IsSharing (get_or ts i m) ps = subst (λ (rs : List _). IsSharing rs ps) (sym is) own in (
      us ++ (ps ∷ []),
      sharing_step ts us i m ps k c.loop-place.invariant.1 s,
      shared_step ts us i ps k c.loop-place.invariant.1 c.loop-place.list.items c.push_tokens.new.list.items c.loop-place.invariant.2 (c.in_ok-push_tokens.ensures ∙ ap (λ (es : List Entry). c.loop-place.list.items ++ es) pairs),
    )

pub returns : goal.returns
returns c =
    let t = c.args.self.now in
    let ts = (contents_of t).tokens in
    let l : length ts ≤ c.loop-place.place = omega (arith, c.requires.ports, tables_length t.names t.columns, c.loop-place-test.false) in
    (c.loop-place.invariant.0, subst (λ (xs : PortTables). AreSharing xs c.loop-place.invariant.0) (take_all c.loop-place.place ts l) c.loop-place.invariant.1, c.loop-place.invariant.2)
