use Rattle.std.proofs.Common.{List, sym, subst}
use Rattle.u_source.specs.Sources.{SourceParts}
use Rattle.u_scope.specs.Verdicts.{IsChecked}
use Rattle.u_scope.specs.declared.checked.Meaning.{Meaning}
use Rattle.u_scope.specs.KindVerdicts.{HasNoClash}
use Rattle.u_compile.proofs.compiling.read_allowed.Goals as goal

pub returns-in-Err-clause-back : goal.returns-in-Err-clause-back
returns-in-Err-clause-back c = λ s ms may. c.in-Err.ensures.back s may.reads

pub returns-in-Err-check-clause-back : goal.returns-in-Err-check-clause-back
returns-in-Err-check-clause-back c = λ s ms may.
    let same = c.in-Ok.ensures.back s may.reads in
    c.in-Err-check.ensures.back ms (subst (λ (v : SourceParts). IsChecked v ms) (sym same) may.names)

pub returns-in-Err-check_kinds-clause-back : goal.returns-in-Err-check_kinds-clause-back
returns-in-Err-check_kinds-clause-back c = λ s ms may.
    let same = c.in-Ok.ensures.back s may.reads in
    let names = c.in-Ok-check.ensures.back ms (subst (λ (v : SourceParts). IsChecked v ms) (sym same) may.names) in
    let kinds : HasNoClash c.in-Ok.source ms = subst (λ (v : SourceParts). HasNoClash v ms) (sym same) may.kinds in
    c.in-Err-check_kinds.ensures.back (subst (λ (v : List Meaning). HasNoClash c.in-Ok.source v) (sym names) kinds)
