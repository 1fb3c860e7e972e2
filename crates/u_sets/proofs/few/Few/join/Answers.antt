use Rattle.std.proofs.Common.{◌≡◌, ◌∷◌, [], subst, ap, ◌∙◌}
use Rattle.u_sets.specs.Members.{IsWith}
use Rattle.u_sets.specs.Pairs.{items_of}
use Rattle.u_sets.specs.declared.few.Few.TheVariants.{One}
use Rattle.u_sets.proofs.Hashed.{exactly, puts}
use Rattle.u_sets.proofs.Keyed.{turned}
use Rattle.u_sets.proofs.few.Few.join.Goals as goal

pub returns-clause-ok : goal.returns-clause-ok
returns-clause-ok g c =
    let x = exactly g.V.PartialEq.eq g.V.Ord.cmp g.met.V.ExactOrd.exact g.met.V.Ord.matches_eq in
    let p = c.in-Many-One.is-0 in
    let q = c.in-Many-One.is-1 in
    let r = c.replace-first.ensures.value in
    let s = c.replace-first.ensures.after in
    let all : c.in-Many-One.all ≡ c.in_ok-all.all = cc in
    let keys : c.deref_mut.result.now.keys ≡ c.args.value ∷ [] = ap (λ s. s.keys) c.deref_mut.ensures.value ∙ ap (λ b. b.value.keys) all ∙ c.in_ok-all.ensures.keys in
    let one : One c.in-Many-One.first ≡ c.args.self.now = cc in
    let w = puts g.V.PartialEq.eq g.met.V.Eq.laws x c.deref_mut.result.now.keys c.insert.new.self.keys c.in-Many-One.first c.in-Ok.ensures.updates.0 in
    subst (λ f. IsWith (items_of f) c.args.value c.insert.new.self.keys) one (turned c.args.value c.in-Many-One.first c.insert.new.self.keys (subst (λ ks. IsWith ks c.in-Many-One.first c.insert.new.self.keys) keys w))
