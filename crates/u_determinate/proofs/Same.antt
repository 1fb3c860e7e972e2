-- Two inner firings of one activity, both enabled over one history, are one, or the history has trouble. Of
-- any two, as of a question and a reply, the values are.
use Rattle.std.proofs.Common.{◌≡◌, ℕ, ◌+◌, refl, ap, sym, ◌∙◌, arith, Bool, true, false, List, [], ◌∷◌, length, Option, Some, None, Result, Ok, Err, cond, inl, inr, ◌⊎◌}
use Rattle.std.specs.Prelude.{Contains, is_ok, is_some, is_none}
use Rattle.std.proofs.lemmas.Bool.{false≢true}
use Rattle.std.proofs.lemmas.List.Elements.{Contains-append_left, Contains-append_right}
use Rattle.u_base.specs.Firing.{Enabled, Both}
use Rattle.u_base.proofs.Member.{Contains-head, Contains-tail}
use Rattle.u_name.specs.Name.{Activity}
use Rattle.u_name.specs.Cell.{CellOf}
use Rattle.u_value.specs.declared.value.Value.{Value}
use Rattle.u_value.specs.declared.fault_kind.FaultKind.{FaultKind}
use Rattle.u_program.specs.declared.program.Kind.{Kind}
use Rattle.u_program.specs.declared.program.Kind.TheVariants.{Fetch}
use Rattle.u_program.specs.Parts.{StatementParts}
use Rattle.u_check.specs.Kinds.{ports_of}
use Rattle.u_check.specs.Rules.{IsChecked}
use Rattle.u_check.specs.Jobs.{JobParts}
use Rattle.u_rule.specs.Parts.{token, ValueList}
use Rattle.u_rule.specs.Fits.{statement_of}
use Rattle.u_rule.specs.Structures.{cell_named, has_its_write, reads_cell, write_read, wrote}
use Rattle.u_rule.specs.Rule.{tokens_from, needs_of, is_inner_of, system_of}
use Rattle.u_rule.specs.declared.entry.Entry.{Entry}
use Rattle.u_rule.specs.declared.entry.Entry.TheVariants as entries
use Rattle.u_rule.specs.declared.firing.Firing.{Firing}
use Rattle.u_rule.specs.declared.parts.Written.{Written}
use Rattle.u_determinate.proofs.Clash.{Clash, Cells}
use Rattle.u_determinate.proofs.Checked.{Fires, fires_of, same_value, same_written}

abbrev pub Trouble : (Entry → Type 0) → Type 0
Trouble H = Both Clash H ⊎ Both Cells H

-- the history has a list of entries
abbrev pub Has : (Entry → Type 0) → List Entry → Type 0
Has H es = (e : Entry) → Contains es e → H e

ok_some : (r : Result CellOf FaultKind) → is_ok r ≡ true → (c : CellOf) × (r ≡ Ok c)
ok_some (Ok c) e = (c, refl)
ok_some (Err k) e = absurd (false≢true e)

same_parts : (a b : Written) → a.writer ≡ b.writer → a.value ≡ b.value → a ≡ b
same_parts a b e q = ap (λ (x : Activity). record { writer = x; value = a.value }) e ∙ ap (λ (x : Value). record { writer = b.writer; value = x }) q

same_firing : (f g : Firing) → f.activity ≡ g.activity → f.values ≡ g.values → f.write ≡ g.write → f ≡ g
same_firing f g a v r =
    ap (λ (x : Activity). record { activity = x; values = f.values; write = f.write }) a
    ∙ ap (λ (x : ValueList). record { activity = g.activity; values = x; write = f.write }) v
    ∙ ap (λ (x : Option Written). record { activity = g.activity; values = g.values; write = x }) r

module _ (job : JobParts) (sound : IsChecked job.program.blocks) (H : Entry → Type 0) where
  compare_values : (a : Activity) (port : ℕ) (vs us : ValueList) → length vs ≡ length us → Has H (tokens_from a port vs) → Has H (tokens_from a port us) → (vs ≡ us) ⊎ Both Clash H
  compare_values a port [] [] l h k = inl refl
  compare_values a port [] (u ∷ us) l h k = absurd (omega (arith, l))
  compare_values a port (v ∷ vs) [] l h k = absurd (omega (arith, l))
  compare_values a port (v ∷ vs) (u ∷ us) l h k =
      at (same_value v u) (compare_values a (port + 1) vs us (omega (arith, l)) (λ x m. h x (Contains-tail _ x _ m)) (λ x m. k x (Contains-tail _ x _ m)))
    where
      at : (v ≡ u) ⊎ (v ≡ u → ⊥) → (vs ≡ us) ⊎ Both Clash H → (v ∷ vs ≡ u ∷ us) ⊎ Both Clash H
      at (inr n) r = inr (entries.Token (token a port v), entries.Token (token a port u), h _ (Contains-head _ _), k _ (Contains-head _ _), (refl, refl, n))
      at (inl e) (inl q) = inl (ap (λ (x : Value). x ∷ vs) e ∙ ap (λ (xs : ValueList). u ∷ xs) q)
      at (inl e) (inr c) = inr c

  reading : (k : Kind) (vs : ValueList) → reads_cell k vs ≡ true → (c : CellOf) × (cell_named vs ≡ Ok c)
  reading Fetch vs e = ok_some (cell_named vs) e
  reading k vs e = absurd (false≢true e)

  compare_writes : (k : Kind) (vs : ValueList) (r q : Option Written) → has_its_write k vs r ≡ true → has_its_write k vs q ≡ true → Has H (write_read vs r) → Has H (write_read vs q) → (r ≡ q) ⊎ Both Cells H
  compare_writes k vs r q x y h i = at (reads_cell k vs) refl r q x y h i
    where
      at : (b : Bool) → reads_cell k vs ≡ b → (r q : Option Written) → cond b (is_some r) (is_none r) ≡ true → cond b (is_some q) (is_none q) ≡ true → Has H (write_read vs r) → Has H (write_read vs q) → (r ≡ q) ⊎ Both Cells H
      at true z (Some r) (Some q) x y h i =
          let c = reading k vs z in
          let hr : H (wrote c.0 r.writer r.value) = h (wrote c.0 r.writer r.value) (rw c.1 (Contains-head (wrote c.0 r.writer r.value) [])) in
          let hq : H (wrote c.0 q.writer q.value) = i (wrote c.0 q.writer q.value) (rw c.1 (Contains-head (wrote c.0 q.writer q.value) [])) in
          elim (same_written r q)
          [ inl e ↦ inl (ap (λ (o : Written). Some o) e) | inr n ↦ inr (wrote c.0 r.writer r.value, wrote c.0 q.writer q.value, hr, hq, (refl, λ p. n (same_parts r q p.0 p.1))) ]
      at true z None q x y h i = absurd (false≢true x)
      at true z (Some r) None x y h i = absurd (false≢true y)
      at false z None None x y h i = inl refl
      at false z (Some r) q x y h i = absurd (false≢true x)
      at false z None (Some q) x y h i = absurd (false≢true y)

  module _ (f g : Firing) (x : Enabled (system_of job) H f) (y : Enabled (system_of job) H g) (e : f.activity ≡ g.activity) where
    tokens : (f : Firing) → Enabled (system_of job) H f → Has H (tokens_from f.activity 1 f.values)
    unfolding needs_of
    tokens f x t m = x.1 t (Contains-append_left (tokens_from f.activity 1 f.values) (write_read f.values f.write) t m)

    reads : (f : Firing) → Enabled (system_of job) H f → Has H (write_read f.values f.write)
    unfolding needs_of
    reads f x t m = x.1 t (Contains-append_right (tokens_from f.activity 1 f.values) (write_read f.values f.write) t m)

    -- they are firings of one statement
    one_statement : (a b : Fires job f) → (a.it ≡ a.it)
    one_statement a b = refl

    same_it : (a : Fires job f) (b : Fires job g) → a.it ≡ b.it
    same_it a b =
        let s : statement_of job.program.blocks f.activity.block f.activity.statement ≡ statement_of job.program.blocks g.activity.block g.activity.statement = ap (λ (n : Activity). statement_of job.program.blocks n.block n.statement) e in
        (let p = a.stands in let q = b.stands in cc)

    -- they have the same values
    pub same_values : (f.values ≡ g.values) ⊎ Both Clash H
    same_values = by (fires_of job sound f x.0) (fires_of job sound g y.0)
      where
        by : Fires job f → Fires job g → (f.values ≡ g.values) ⊎ Both Clash H
        by a b =
            let l : length f.values ≡ length g.values = a.count ∙ ap (λ (z : StatementParts). ports_of z.kind) (same_it a b) ∙ sym b.count in
            compare_values f.activity 1 f.values g.values l (tokens f x) (rw e (tokens g y))

    pub same_activity : is_inner_of job f ≡ true → is_inner_of job g ≡ true → (f ≡ g) ⊎ Trouble H
    same_activity own other = by (fires_of job sound f x.0) (fires_of job sound g y.0)
      where
        by : Fires job f → Fires job g → (f ≡ g) ⊎ Trouble H
        by a b =
            let t = same_it a b in
            elim same_values [
              | inr c ↦ inr (inl c)
              | inl v ↦
                  let h : has_its_write a.it.kind f.values g.write ≡ true = ap (λ (z : StatementParts). has_its_write z.kind f.values g.write) t ∙ ap (λ (z : ValueList). has_its_write b.it.kind z g.write) v ∙ b.write other in
                  elim (compare_writes a.it.kind f.values f.write g.write (a.write own) h (reads f x) (rw v (reads g y))) [
                    | inr c ↦ inr (inr c)
                    | inl r ↦ inl (same_firing f g e v r)
                  ]
            ]
