-- What a write wakes is made of a read that waits for its cell; faults and answers wake nothing.
use Rattle.std.proofs.Common.{◌≡◌, ◌↔◌, ◌⊎◌, inl, inr, sym, subst, ap, ◌∙◌, refl, List, [], ◌∷◌, Contains, Some, None, Ok}
use Rattle.u_name.specs.Cell.{CellOf}
use Rattle.u_value.specs.declared.value.Value.{Value}
use Rattle.u_check.specs.Jobs.{JobParts}
use Rattle.u_rule.specs.Parts.{TokenParts, token}
use Rattle.u_rule.specs.Rule.{needs_of}
use Rattle.u_rule.specs.EntryOrder.{firing, written, write_of}
use Rattle.u_rule.specs.Structures.{cell_named, wrote}
use Rattle.u_rule.specs.declared.entry.Entry.{Entry}
use Rattle.u_rule.specs.declared.entry.Entry.TheVariants as entries
use Rattle.u_rule.specs.declared.firing.Firing.{Firing}
use Rattle.u_rule.specs.declared.parts.Written.{Written}
use Rattle.u_rule.specs.declared.parts.Write.{Write}
use Rattle.u_sets.specs.Members.{SomeOf}
use Rattle.u_base.proofs.Member.{Contains-nil}
use Rattle.u_match.specs.declared.meeting.Read.{Read}
use Rattle.u_match.specs.Keys.{ReadTable, read, IsComplete}
use Rattle.u_match.specs.Joins.{IsWoken}
use Rattle.u_match.specs.Waking.{IsWokenBy}
use Rattle.u_rule.proofs.FiringShapes.{TwoValues, Reading, Shape, shape_of, rebuilt, needs_read}
use Rattle.u_rule.specs.Replies.{IsTold, question_of}
use Rattle.u_rule.proofs.Firings.{inner_or_told}
use Rattle.u_rule.proofs.Told.{question_needs}
use Rattle.u_match.proofs.Choices.{is_token, needs_tokens}

-- a need of a firing is a token or the write that it reads
pub record IsNeed (f : Firing) (e : Entry) : Type 0 where
  pub kind : ((t : TokenParts) × (e ≡ entries.Token t)) ⊎ ((v : Value) × (u : Value) × (x : Written) × (cell : CellOf) × (f ≡ firing f.activity (v ∷ u ∷ []) (Some x)) × (cell_named (v ∷ u ∷ []) ≡ Ok cell) × (wrote cell x.writer x.value ≡ e))

a_token : (f : Firing) (e : Entry) (t : TokenParts) → entries.Token t ≡ e → IsNeed f e
a_token f e t h = record { kind = inl (t, sym h) }

pub need_of : (job : JobParts) (H : Entry → Type 0) (f : Firing) (e : Entry) → IsWokenBy job e H f → IsNeed f e
need_of job H f e w = elim (inner_or_told job f w.1.0) [ inl i ↦ by_shape (shape_of job f i) | inr t ↦ told t ]
  where
    moved : (g : Firing) → f ≡ g → Contains (needs_of g) e
    moved g h = subst (λ (x : Firing). Contains (needs_of x) e) h w.0

    plain : f.write ≡ None → IsNeed f e
    plain n = let (t, h) = is_token f.activity 1 f.values e ((needs_tokens f.activity f.values e).0 (moved (firing f.activity f.values None) (rebuilt f f.values None n refl))) in record { kind = inl (t, h) }

    told : IsTold job f → IsNeed f e
    told t =
        let m : Contains (needs_of (question_of f)) e = subst (λ (es : List Entry). Contains es e) (sym (question_needs job f t.reply)) w.0 in
        let (x, h) = is_token f.activity 1 f.values e ((needs_tokens f.activity f.values e).0 m) in record { kind = inl (x, h) }

    reading : (r : Reading f) → TwoValues f.values → IsNeed f e
    reading r (v, u, h) =
        let k = rebuilt f (v ∷ u ∷ []) (Some r.by) r.write h in
        let n : cell_named (v ∷ u ∷ []) ≡ Ok r.cell = ap cell_named (sym h) ∙ r.names in
        elim ((needs_read f.activity v u r.by r.cell n e).0 (moved (firing f.activity (v ∷ u ∷ []) (Some r.by)) k))
        [ inl q ↦ a_token f e (token f.activity 1 v) q | inr (inl q) ↦ a_token f e (token f.activity 2 u) q | inr (inr q) ↦ record { kind = inr (v, u, r.by, r.cell, k, n, q) } ]

    by_shape : Shape f → IsNeed f e
    by_shape (inl p) = plain p.write
    by_shape (inr r) = reading r r.values

-- what is neither a token nor a write wakes nothing
pub other_wakes_nothing : (job : JobParts) (H : Entry → Type 0) (e : Entry) → ((t : TokenParts) → e ≡ entries.Token t → ⊥) → ((w : Write) → e ≡ entries.Write w → ⊥) → (f : Firing) → IsWokenBy job e H f → ⊥
other_wakes_nothing job H e no_token no_write f w =
    elim ((need_of job H f e w).kind)
    [ inl (t, h) ↦ no_token t h | inr (v, u, x, cell, k, n, h) ↦ no_write (write_of cell x.writer x.value) (sym h) ]

pub wakes_none : (job : JobParts) (H : Entry → Type 0) (e : Entry) → ((t : TokenParts) → e ≡ entries.Token t → ⊥) → ((w : Write) → e ≡ entries.Write w → ⊥) → (found : List Firing) → found ≡ [] → (f : Firing) → Contains found f ↔ IsWokenBy job e H f
wakes_none job H e no_token no_write found none f = (
  (λ m. absurd (Contains-nil f (subst (λ (xs : List Firing). Contains xs f) none m))),
  (λ w. absurd (other_wakes_nothing job H e no_token no_write f w)),
)

module _ (reads : ReadTable) (es : List Entry) (c : IsComplete reads es) (write : Write) (job : JobParts) where
  abbrev Held : Entry → Type 0
  Held x = Contains es x ⊎ (entries.Write write ≡ x)

  same_write : (y z : Write) → entries.Write y ≡ entries.Write z → y ≡ z
  same_write y z e = cc

  token_there : (t : TokenParts) → Held (entries.Token t) → Contains es (entries.Token t)
  token_there t h = elim h [ inl m ↦ m | inr e ↦ absurd (cc) ]

  -- one of the reads that wait for its cell, with the write
  abbrev Waits : Firing → Type 0
  Waits f = (r : Read) × Contains reads (write.cell, r) × IsWoken write r f

  -- what the write wakes is one of these
  pub woken_waits : (f : Firing) → IsWokenBy job (entries.Write write) Held f → Waits f
  woken_waits f w =
      elim ((need_of job Held f (entries.Write write) w).kind)
      [ inl (t, h) ↦ absurd (cc) | inr (v, u, x, cell, k, n, h) ↦ by v u x cell k n (same_write (write_of cell x.writer x.value) write h) ]
    where
      by : (v u : Value) (x : Written) (cell : CellOf) → f ≡ firing f.activity (v ∷ u ∷ []) (Some x) → cell_named (v ∷ u ∷ []) ≡ Ok cell → write_of cell x.writer x.value ≡ write → Waits f
      by v u x cell k n e = (read f.activity v u, there, made)
        where
          held : (y : Entry) → (entries.Token (token f.activity 1 v) ≡ y) ⊎ ((entries.Token (token f.activity 2 u) ≡ y) ⊎ (wrote cell x.writer x.value ≡ y)) → Held y
          held y s = w.1.1 y (subst (λ (z : Firing). Contains (needs_of z) y) (sym k) ((needs_read f.activity v u x cell n y).1 s))

          noted : Contains reads (cell, read f.activity v u)
          noted =
              c f.activity v u (token_there (token f.activity 1 v) (held (entries.Token (token f.activity 1 v)) (inl refl)))
              (token_there (token f.activity 2 u) (held (entries.Token (token f.activity 2 u)) (inr (inl refl)))) cell n

          there : Contains reads (write.cell, read f.activity v u)
          there = subst (λ (q : CellOf). Contains reads (q, read f.activity v u)) (ap (λ (z : Write). z.cell) e) noted

          made : firing f.activity (v ∷ u ∷ []) (Some (written write.writer write.value)) ≡ f
          made = sym (k ∙ ap (λ (z : Write). firing f.activity (v ∷ u ∷ []) (Some (written z.writer z.value))) e)

  -- those that it wakes among those that are made of reads that wait, are all that it wakes
  pub answered_write : (entry : Entry) (made seen found : List Firing) (waiting : List Read) → entry ≡ entries.Write write → ((r : Read) → Contains waiting r ↔ Contains reads (write.cell, r)) → ((f : Firing) → Contains seen f ↔ Contains made f) → ((f : Firing) → Contains made f ↔ SomeOf waiting (IsWoken write) f)
      → ((f : Firing) → Contains found f ↔ (Contains seen f × IsWokenBy job entry (λ x. Contains es x ⊎ (entry ≡ x)) f))
      → (f : Firing) → Contains found f ↔ IsWokenBy job entry (λ x. Contains es x ⊎ (entry ≡ x)) f
  answered_write entry made seen found waiting is at same all some f = ((λ m. ((some f).0 m).1), λ w. (some f).1 ((same f).1 ((all f).1 (waits w)), w))
    where
      waits : IsWokenBy job entry (λ x. Contains es x ⊎ (entry ≡ x)) f → SomeOf waiting (IsWoken write) f
      waits w =
          let (r, m, k) = woken_waits f (subst (λ (x : Entry). IsWokenBy job x (λ y. Contains es y ⊎ (x ≡ y)) f) is w) in
          (r, (at r).1 m, k)
