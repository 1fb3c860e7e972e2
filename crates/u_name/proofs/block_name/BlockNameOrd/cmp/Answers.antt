use Rattle.std.proofs.Common.{◌≡◌, ◌∙◌, refl, sym, subst, ℕ, List, Equal}
use Rattle.std.specs.Cmp.Lexicographic.{slice_cmp}
use Rattle.std.specs.Ordering.{nat_cmp}
use Rattle.std.proofs.lemmas.Cmp.{nat_list_cmp_total, tied_itself}
use Rattle.u_name.proofs.block_name.BlockNameOrd.cmp.Goals as goal

pub returns-then-same_bytes : goal.returns-then-same_bytes
returns-then-same_bytes c =
    let bytes : c.self.inside.bytes ≡ c.other.inside.bytes = c.same_bytes.ensures.0 c.if-same_bytes.true in
    let names : c.args.self.now ≡ c.args.other.now = sym c.self.view_is ∙ (rw (c.if-self-other.true, bytes) refl) ∙ c.other.view_is in
    subst (λ (x : List ℕ). Equal ≡ slice_cmp nat_cmp c.args.self.now x) names (sym (tied_itself nat_list_cmp_total c.args.self.now))
