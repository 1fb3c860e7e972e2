-- Each firing of a job needs a token.
use Rattle.std.proofs.Common.{◌≡◌, ◌≤◌, refl, arith, true, IsTrue, List, [], ◌∷◌, ◌++◌, length, Option, Some, None}
use Rattle.std.specs.Prelude.{Contains}
use Rattle.std.proofs.lemmas.Bool.{false≢true}
use Rattle.u_name.specs.Name.{Activity}
use Rattle.u_program.specs.Parts.{StatementParts}
use Rattle.u_check.specs.Jobs.{JobParts}
use Rattle.u_rule.specs.Parts.{token, ValueList}
use Rattle.u_rule.specs.Rule.{is_own_of, is_own_at, needs_of, tokens_from, own_of}
use Rattle.u_rule.specs.Fits.{statement_of}
use Rattle.u_rule.specs.Structures.{write_read}
use Rattle.u_rule.specs.declared.entry.Entry.{Entry}
use Rattle.u_rule.specs.declared.entry.Entry.TheVariants as entries
use Rattle.u_rule.specs.declared.firing.Firing.{Firing}
use Rattle.u_base.proofs.Member.{Contains-head}
use Rattle.u_check.proofs.KindTests.{few_ports}
use Rattle.u_rule.proofs.Firings.{own_at_statement, own_counted}

some_value : (job : JobParts) (f : Firing) → is_own_of job f ≡ true → 1 ≤ length f.values
some_value job f h = at (statement_of job.program.blocks f.activity.block f.activity.statement) refl (own_at_statement job f h)
  where
    at : (o : Option StatementParts) → statement_of job.program.blocks f.activity.block f.activity.statement ≡ o → is_own_at job.table job.program.blocks o f ≡ true → 1 ≤ length f.values
    at None e k = absurd (false≢true k)
    at (Some s) e k =
        let l = (few_ports s.kind).0 in
        omega (arith, own_counted job f s e h)

first_token : (a : Activity) (vs : ValueList) (more : List Entry) → 1 ≤ length vs → (e : Entry) × Contains (tokens_from a 1 vs ++ more) e
first_token a [] more l = absurd (omega arith)
first_token a (v ∷ vs) more l = (entries.Token (token a 1 v), Contains-head _ _)

pub needs_some : (job : JobParts) (f : Firing) → IsTrue ((own_of job).is_firing f) → (e : Entry) × Contains ((own_of job).needs f) e
unfolding needs_of
needs_some job f h = first_token f.activity f.values (write_read f.values f.write) (some_value job f h)
