-- Which cell a firing reads, and when it is enabled.
use Rattle.std.proofs.Common.{◌≡◌, ◌↔◌, ◌∙◌, ◌≤◌, ◌+◌, ◌-◌, get_or, take, drop, inl, inr, sym, ap, subst, refl, arith, ℕ, Bool, true, IsTrue, Result, Ok, Err, List, [], ◌∷◌, length}
use Rattle.std.proofs.lemmas.List.{take_all}
use Rattle.std.proofs.lemmas.List.Elements.{Contains-append_left, Contains-append_right, Contains-append_cases}
use Rattle.u_base.specs.Firing.{Enabled, Within}
use Rattle.u_base.proofs.Member.{Contains-nil, Contains-head, Contains-tail, Contains-cons_cases}
use Rattle.u_name.specs.Name.{Activity}
use Rattle.u_value.specs.declared.value.Value.{Value}
use Rattle.u_value.specs.declared.value.Value.TheVariants as values
use Rattle.u_check.specs.Jobs.{JobParts}
use Rattle.u_rule.specs.Parts.{token, ValueList}
use Rattle.u_rule.specs.Rule.{own_of, is_own_of, needs_of, tokens_from}
use Rattle.u_rule.specs.Structures.{cell_named, wrote, read_from, write_read}
use Rattle.u_rule.specs.declared.entry.Entry.{Entry}
use Rattle.u_rule.specs.declared.entry.Entry.TheVariants as entries
use Rattle.u_rule.specs.declared.firing.Firing.{Firing}
use Rattle.u_rule.proofs.FiringShapes.{one_member}
use Rattle.u_rule.specs.declared.parts.Written.{Written}
use Rattle.u_name.specs.Cell.{CellOf}
use Rattle.u_value.specs.declared.fault_kind.FaultKind.{FaultKind}

-- each of a list, the first and the others
pub within_cons : {X : Type 0} (P : X → Type 0) (x : X) (xs : List X) → Within P (x ∷ xs) ↔ (P x × Within P xs)
within_cons P x xs = (
  (λ all. (all x (Contains-head x xs), λ y m. all y (Contains-tail x y xs m))),
  λ p y m. elim (Contains-cons_cases x y xs m) [ inl e ↦ subst P e p.0 | inr k ↦ p.1 y k ],
)

-- which cell the first two values name
pub named_two : (v w : Value) (vs : ValueList) → cell_named (v ∷ w ∷ vs) ≡ cell_named (v ∷ w ∷ [])
named_two (values.Ref p) (values.Int z) vs = refl
named_two v w vs = refl

-- the write of the cell that the two values name, where they name one
pub reads_named : (H : Entry → Type 0) (r : Result CellOf FaultKind) (c : CellOf) (w : Written) (b : Bool) → r ≡ Ok c → (IsTrue b ↔ H (wrote c w.writer w.value)) → IsTrue b ↔ Within H (read_from r w)
reads_named H r c w b e h = rw e (
  (λ t x m. subst H ((one_member (wrote c w.writer w.value) x).0 m) (h.0 t)),
  (λ all. h.1 (all (wrote c w.writer w.value) (Contains-head (wrote c w.writer w.value) []))),
)

pub reads_none : (H : Entry → Type 0) (r : Result CellOf FaultKind) (w : Written) → ((c : CellOf) → r ≡ Ok c → ⊥) → IsTrue true ↔ Within H (read_from r w)
reads_none H (Ok c) w n = absurd (n c refl)
reads_none H (Err k) w n = ((λ t x m. absurd (Contains-nil x m)), λ all. refl)

-- a firing of the job is enabled where its tokens and the write that it read are there
pub enabled_if : (job : JobParts) (f : Firing) (H : Entry → Type 0) → is_own_of job f ≡ true → Enabled (own_of job) H f ↔ (Within H (tokens_from f.activity 1 f.values) × Within H (write_read f.values f.write))
unfolding needs_of
enabled_if job f H is = (
  (λ en. (
    (λ e m. en.1 e (Contains-append_left (tokens_from f.activity 1 f.values) (write_read f.values f.write) e m)),
    λ e m. en.1 e (Contains-append_right (tokens_from f.activity 1 f.values) (write_read f.values f.write) e m),
  )),
  λ p. (is, λ e m. elim (Contains-append_cases (tokens_from f.activity 1 f.values) (write_read f.values f.write) e m) [ inl a ↦ p.0 e a | inr b ↦ p.1 e b ]),
)

-- the token of the first value, and those of the others
pub tokens_split : (a : Activity) (p : ℕ) (vs : ValueList) (d : Value) → 1 ≤ length vs → d ≡ get_or vs 0 d → tokens_from a p vs ≡ entries.Token (token a p d) ∷ tokens_from a (p + 1) (take (length vs - 1) (drop 1 vs))
tokens_split a p [] d l e = absurd (omega (arith, l))
tokens_split a p (v ∷ vs) d l e =
    let whole : take (length (v ∷ vs) - 1) vs ≡ vs = take_all (length (v ∷ vs) - 1) vs (omega arith) in
    ap (λ (x : Value). entries.Token (token a p x) ∷ tokens_from a (p + 1) vs) (sym e)
    ∙ ap (λ (xs : ValueList). entries.Token (token a p d) ∷ tokens_from a (p + 1) xs) (sym whole)
