-- The firings that a token wakes are those of the job that are made of what it meets.
use Rattle.std.proofs.Common.{◌≡◌, ◌↔◌, ◌⊎◌, inl, inr, sym, subst, ap, ◌∙◌, refl, arith, ℕ, ◌≤◌, List, [], ◌∷◌, length, IsTrue, true, ◌==◌, Contains, Option, Some, None, Ok}
use Rattle.std.proofs.lemmas.Bool.{and_parts, eqb-true}
use Rattle.u_name.specs.Name.{Activity}
use Rattle.u_name.specs.Cell.{CellOf}
use Rattle.u_value.specs.declared.value.Value.{Value}
use Rattle.u_program.specs.Parts.{StatementParts, BlockParts}
use Rattle.u_check.specs.Jobs.{JobParts}
use Rattle.u_check.specs.Kinds.{ports_of}
use Rattle.u_rule.specs.Parts.{most_ports, TokenParts, token, ValueList}
use Rattle.u_rule.specs.Fits.{statement_of, fits_at}
use Rattle.u_match.specs.Ports.{ports_in, ports_at}
use Rattle.u_rule.specs.Rule.{is_own_of, is_inner_at, needs_of, tokens_from}
use Rattle.u_rule.specs.EntryOrder.{firing}
use Rattle.u_rule.specs.Replies.{question_of}
use Rattle.u_rule.specs.Structures.{cell_named, wrote, has_its_write}
use Rattle.u_rule.specs.declared.entry.Entry.{Entry}
use Rattle.u_rule.specs.declared.entry.Entry.TheVariants as entries
use Rattle.u_rule.specs.declared.firing.Firing.{Firing}
use Rattle.u_rule.specs.declared.parts.Written.{Written}
use Rattle.u_match.specs.Keys.{IsMet, AreMetFrom}
use Rattle.u_match.specs.Joins.{IsMadeOf, IsKept, JoinsTwo, JoinsAll}
use Rattle.u_match.specs.Waking.{IsWokenBy}
use Rattle.u_match.proofs.MetValues.{Held, own_token, met_held, held_met, same_token}
use Rattle.u_match.proofs.Choices.{IsAmong, its_place, needed_token, tokens_needed, needs_tokens, own_chosen, held_chosen, chosen_of}
use Rattle.u_check.proofs.KindTests.{few_ports}
use Rattle.u_rule.proofs.FiringShapes.{TwoValues, Reading, Shape, shape_of, rebuilt, needs_two, needs_read}
use Rattle.u_rule.proofs.Firings.{inner_at_statement, inner_or_told}
use Rattle.u_rule.proofs.Told.{question_needs}

-- a firing has as many values as its activity has ports
counted_at : (p : List BlockParts) (s : Option StatementParts) (f : Firing) → is_inner_at p s f ≡ true → length f.values ≡ ports_in s
counted_at p None f h = cc
counted_at p (Some s) f h =
    let r = (and_parts (fits_at p s.region f.activity) _ h).1 in
    eqb-true (length f.values) (ports_of s.kind) (and_parts (length f.values == ports_of s.kind) (has_its_write s.kind f.values f.write) r).0

pub counted : (job : JobParts) (f : Firing) → IsTrue (is_own_of job f) → length f.values ≡ ports_at job f.activity
counted job f h = elim (inner_or_told job f h) [
  | inl i ↦ counted_at job.program.blocks (statement_of job.program.blocks f.activity.block f.activity.statement) f (inner_at_statement job f i)
  | inr t ↦ t.reply.count ∙ ap ports_in (sym t.reply.stands)
]

-- as many ports as its statement
pub ports_of_stated : (job : JobParts) (a : Activity) (s : StatementParts) → statement_of job.program.blocks a.block a.statement ≡ Some s → ports_of s.kind ≡ ports_at job a
ports_of_stated job a s e = ap ports_in (sym e)

-- how many ports an activity has at most
few_in : (s : Option StatementParts) → ports_in s ≤ most_ports
few_in None = omega arith
few_in (Some s) = let few = few_ports s.kind in omega (arith, few.1)

pub few_at : (job : JobParts) (a : Activity) → ports_at job a ≤ most_ports
few_at job a = few_in (statement_of job.program.blocks a.block a.statement)

module _ (H : Entry → Type 0) (t : TokenParts) (job : JobParts) where
  abbrev pub Woken : Firing → Type 0
  Woken f = IsWokenBy job (entries.Token t) (Held H t) f

  -- made of two values that are met
  abbrev pub TwoMet : Firing → Type 0
  TwoMet f = (v : Value) × IsMet H t 1 v × ((w : Value) × IsMet H t 2 w × JoinsTwo job H t.activity v w f)

  -- what is made of such a firing needs the same
  needs_same : (g f : Firing) → IsMadeOf job g f → needs_of g ≡ needs_of f
  needs_same g f (inl e) = ap needs_of e
  needs_same g f (inr (t, e)) = ap needs_of e ∙ question_needs job f t.reply

  woken_made : (g f : Firing) → IsKept job g f → Contains (needs_of g) (entries.Token t) → ((e : Entry) → Contains (needs_of g) e → Held H t e) → Woken f
  woken_made g f (made, is) own all =
      let same = needs_same g f made in
      (subst (λ (es : List Entry). Contains es (entries.Token t)) same own, (is, λ x m. all x (subst (λ (es : List Entry). Contains es x) (sym same) m)))

  made_as : (x g f : Firing) → x ≡ g → IsMadeOf job g f → IsMadeOf job x f
  made_as x g f e made = subst (λ (z : Firing). IsMadeOf job z f) (sym e) made

  -- the token is one of two
  own_of_two : (v w : Value) → (t.port ≡ 1) ⊎ (t.port ≡ 2) → IsMet H t 1 v → IsMet H t 2 w → (entries.Token (token t.activity 1 v) ≡ entries.Token t) ⊎ (entries.Token (token t.activity 2 w) ≡ entries.Token t)
  own_of_two v w (inl p) m n = inl (own_token H t 1 v p m)
  own_of_two v w (inr p) m n = inr (own_token H t 2 w p n)

  pub two_woken : (t.port ≡ 1) ⊎ (t.port ≡ 2) → (f : Firing) → TwoMet f → Woken f
  two_woken p f (v, m, (w, n, inl k)) =
      woken_made (firing t.activity (v ∷ w ∷ []) None) f k ((needs_two t.activity v w (entries.Token t)).1 (own_of_two v w p m n))
      (λ x k. elim ((needs_two t.activity v w x).0 k) [ inl q ↦ subst (Held H t) q (met_held H t 1 v m) | inr q ↦ subst (Held H t) q (met_held H t 2 w n) ])
  two_woken p f (v, m, (w, n, inr (cell, named, (x, there, kept)))) =
      woken_made (firing t.activity (v ∷ w ∷ []) (Some x)) f kept ((needs_read t.activity v w x cell named (entries.Token t)).1 (own (own_of_two v w p m n))) (λ y k. all y ((needs_read t.activity v w x cell named y).0 k))
    where
      own : (entries.Token (token t.activity 1 v) ≡ entries.Token t) ⊎ (entries.Token (token t.activity 2 w) ≡ entries.Token t) → (entries.Token (token t.activity 1 v) ≡ entries.Token t) ⊎ ((entries.Token (token t.activity 2 w) ≡ entries.Token t) ⊎ (wrote cell x.writer x.value ≡ entries.Token t))
      own (inl q) = inl q
      own (inr q) = inr (inl q)

      all : (y : Entry) → (entries.Token (token t.activity 1 v) ≡ y) ⊎ ((entries.Token (token t.activity 2 w) ≡ y) ⊎ (wrote cell x.writer x.value ≡ y)) → Held H t y
      all y (inl q) = subst (Held H t) q (met_held H t 1 v m)
      all y (inr (inl q)) = subst (Held H t) q (met_held H t 2 w n)
      all y (inr (inr q)) = subst (Held H t) q (inl there)

  -- the token by its activity, port and value
  its_activity : (a : Activity) (p : ℕ) (x : Value) → entries.Token (token a p x) ≡ entries.Token t → a ≡ t.activity
  its_activity a p x e = ap (λ (y : TokenParts). y.activity) (same_token (token a p x) t e)

  its_port : (a : Activity) (p : ℕ) (x : Value) → entries.Token (token a p x) ≡ entries.Token t → p ≡ t.port
  its_port a p x e = ap (λ (y : TokenParts). y.port) (same_token (token a p x) t e)

  its_value : (a : Activity) (p : ℕ) (x : Value) → entries.Token (token a p x) ≡ entries.Token t → x ≡ t.value
  its_value a p x e = ap (λ (y : TokenParts). y.value) (same_token (token a p x) t e)

  -- a token that is held is met, where it lies at another port than the token or is the same
  pub met : (q : ℕ) (y : Value) (p : ℕ) (x : Value) (a : Activity) → entries.Token (token a q y) ≡ entries.Token t → Held H t (entries.Token (token a p x)) → (q ≡ p → y ≡ x) → IsMet H t p x
  met q y p x a e h one =
      held_met H t p x (subst (λ (b : Activity). Held H t (entries.Token (token b p x))) (its_activity a q y e) h) (λ s. sym (its_value a q y e) ∙ one (its_port a q y e ∙ s))

  -- the firing, of the token's activity
  moved : (a : Activity) (vs : ValueList) (x : Option Written) (f : Firing) → a ≡ t.activity → f ≡ firing a vs x → firing t.activity vs x ≡ f
  moved a vs x f e h = sym (h ∙ ap (λ (b : Activity). firing b vs x) e)

  -- what it wakes is made of what it meets: of two values
  pub woken_two : (a : Activity) (v u : Value) (g f : Firing) → g ≡ firing a (v ∷ u ∷ []) None → IsMadeOf job g f → Woken f → TwoMet f × ((t.port ≡ 1) ⊎ (t.port ≡ 2))
  woken_two a v u g f h made w = cases ((needs_two a v u (entries.Token t)).0 (subst (λ (es : List Entry). Contains es (entries.Token t)) needed w.0))
    where
      needed : needs_of f ≡ needs_of (firing a (v ∷ u ∷ []) None)
      needed = sym (needs_same g f made) ∙ ap needs_of h

      held : (e : Entry) → (entries.Token (token a 1 v) ≡ e) ⊎ (entries.Token (token a 2 u) ≡ e) → Held H t e
      held e s = w.1.1 e (subst (λ (es : List Entry). Contains es e) (sym needed) ((needs_two a v u e).1 s))

      by : (q : ℕ) (y : Value) → entries.Token (token a q y) ≡ entries.Token t → (q ≡ 1 → y ≡ v) → (q ≡ 2 → y ≡ u) → TwoMet f
      by q y e first second = (
        v,
        met q y 1 v a e (held (entries.Token (token a 1 v)) (inl refl)) first,
        (u, met q y 2 u a e (held (entries.Token (token a 2 u)) (inr refl)) second, inl (made_as (firing t.activity (v ∷ u ∷ []) None) g f (moved a (v ∷ u ∷ []) None g (its_activity a q y e) h) made, w.1.0)),
      )

      cases : (entries.Token (token a 1 v) ≡ entries.Token t) ⊎ (entries.Token (token a 2 u) ≡ entries.Token t) → TwoMet f × ((t.port ≡ 1) ⊎ (t.port ≡ 2))
      cases (inl e) = (by 1 v e (λ z. refl) (λ z. absurd (omega (arith, z))), inl (sym (its_port a 1 v e)))
      cases (inr e) = (by 2 u e (λ z. absurd (omega (arith, z))) (λ z. refl), inr (sym (its_port a 2 u e)))

  -- of two and a write
  pub woken_read : (a : Activity) (v u : Value) (x : Written) (cell : CellOf) (f : Firing) → cell_named (v ∷ u ∷ []) ≡ Ok cell → f ≡ firing a (v ∷ u ∷ []) (Some x) → Woken f → TwoMet f × ((t.port ≡ 1) ⊎ (t.port ≡ 2))
  woken_read a v u x cell f n h w = cases ((needs_read a v u x cell n (entries.Token t)).0 (subst (λ (z : Firing). Contains (needs_of z) (entries.Token t)) h w.0))
    where
      held : (e : Entry) → (entries.Token (token a 1 v) ≡ e) ⊎ ((entries.Token (token a 2 u) ≡ e) ⊎ (wrote cell x.writer x.value ≡ e)) → Held H t e
      held e s = w.1.1 e (subst (λ (z : Firing). Contains (needs_of z) e) (sym h) ((needs_read a v u x cell n e).1 s))

      written_there : H (wrote cell x.writer x.value)
      written_there = elim (held (wrote cell x.writer x.value) (inr (inr refl))) [ inl m ↦ m | inr f ↦ absurd (cc) ]

      by : (q : ℕ) (y : Value) → entries.Token (token a q y) ≡ entries.Token t → (q ≡ 1 → y ≡ v) → (q ≡ 2 → y ≡ u) → TwoMet f
      by q y e first second = (
        v,
        met q y 1 v a e (held (entries.Token (token a 1 v)) (inl refl)) first,
        (u, met q y 2 u a e (held (entries.Token (token a 2 u)) (inr (inl refl))) second, inr (cell, n, (x, written_there, (inl (moved a (v ∷ u ∷ []) (Some x) f (its_activity a q y e) h), w.1.0)))),
      )

      cases : (entries.Token (token a 1 v) ≡ entries.Token t) ⊎ ((entries.Token (token a 2 u) ≡ entries.Token t) ⊎ (wrote cell x.writer x.value ≡ entries.Token t)) → TwoMet f × ((t.port ≡ 1) ⊎ (t.port ≡ 2))
      cases (inl e) = (by 1 v e (λ z. refl) (λ z. absurd (omega (arith, z))), inl (sym (its_port a 1 v e)))
      cases (inr (inl e)) = (by 2 u e (λ z. absurd (omega (arith, z))) (λ z. refl), inr (sym (its_port a 2 u e)))
      cases (inr (inr e)) = absurd (cc)

  -- the activity of what it wakes, and its port there
  pub place_of : (f : Firing) → Woken f → IsAmong t f.activity 1 (length f.values)
  place_of f w = its_place t f.activity 1 f.values (needed_token f t w.0)

  -- so many values
  pub counts : (f : Firing) → Woken f → length f.values ≡ ports_at job t.activity
  counts f w = counted job f w.1.0 ∙ ap (ports_at job) ((place_of f w).activity)

  -- of two, with a write or without
  pub woken_of_two : ports_at job t.activity ≡ 2 → (f : Firing) → Woken f → TwoMet f
  woken_of_two two f w = elim (inner_or_told job f w.1.0) [
    | inl i ↦ by_shape (shape_of job f i)
    | inr told ↦ plain (question_of f) refl (inr (told, refl)) f.values refl (counts f w ∙ two)
  ]
    where
      plain : (g : Firing) → g ≡ firing f.activity f.values None → IsMadeOf job g f → (vs : ValueList) → vs ≡ f.values → length vs ≡ 2 → TwoMet f
      plain g is made [] e k = absurd (omega (arith, k))
      plain g is made (v ∷ []) e k = absurd (omega (arith, k))
      plain g is made (v ∷ u ∷ []) e k = (woken_two f.activity v u g f (is ∙ ap (λ (vs : ValueList). firing f.activity vs None) (sym e)) made w).0
      plain g is made (v ∷ u ∷ x ∷ vs) e k = absurd (omega (arith, k))

      reading : (r : Reading f) → TwoValues f.values → TwoMet f
      reading r (v, u, e) = (woken_read f.activity v u r.by r.cell f (ap cell_named (sym e) ∙ r.names) (rebuilt f (v ∷ u ∷ []) (Some r.by) r.write e) w).0

      by_shape : Shape f → TwoMet f
      by_shape (inl p) = plain f (rebuilt f f.values None p.write refl) (inl refl) f.values refl (counts f w ∙ two)
      by_shape (inr r) = reading r r.values

  -- made of its values with no write, where there are not two
  made_plain : (ports_at job t.activity ≡ 2 → ⊥) → (f : Firing) → Woken f → IsMadeOf job (firing f.activity f.values None) f
  made_plain other f w = elim (inner_or_told job f w.1.0) [ inl i ↦ by_shape (shape_of job f i) | inr told ↦ inr (told, refl) ]
    where
      two : TwoValues f.values → ports_at job t.activity ≡ 2
      two (v, u, e) = sym (counts f w) ∙ ap length e

      by_shape : Shape f → IsMadeOf job (firing f.activity f.values None) f
      by_shape (inl p) = inl (sym (rebuilt f f.values None p.write refl))
      by_shape (inr r) = absurd (other (two r.values))

  -- what is made of a firing has its values, and is of its activity
  values_made : (g f : Firing) → IsMadeOf job g f → g.values ≡ f.values
  values_made g f (inl e) = ap (λ (x : Firing). x.values) e
  values_made g f (inr (told, e)) = ap (λ (x : Firing). x.values) e

  activity_made : (g f : Firing) → IsMadeOf job g f → g.activity ≡ f.activity
  activity_made g f (inl e) = ap (λ (x : Firing). x.activity) e
  activity_made g f (inr (told, e)) = ap (λ (x : Firing). x.activity) e

  -- what is made of one value of each list of those that are met is woken, and what is woken with no write is made so
  module _ (lists : List ValueList) (met_each : AreMetFrom H t 1 lists) where
    pub all_woken : 1 ≤ t.port → t.port ≤ ports_at job t.activity → (f : Firing) → JoinsAll job t.activity [] lists f → Woken f
    all_woken low high f (vs, is, kept) =
        let g = firing t.activity vs None in
        let ports = counted job f kept.1 in
        let same_values : vs ≡ f.values = values_made g f kept.0 in
        let same_count = ap length same_values in
        let same_ports : ports_at job t.activity ≡ ports_at job f.activity = ap (ports_at job) (activity_made g f kept.0) in
        woken_made g f kept
        ((needs_tokens t.activity vs (entries.Token t)).1 (own_chosen H t 1 lists vs met_each is low (omega (arith, ports, same_count, same_ports, high))))
        (λ x m. held_chosen H t 1 lists vs met_each is x ((needs_tokens t.activity vs x).0 m))

    woken_all : length lists ≡ ports_at job t.activity → (f : Firing) → IsMadeOf job (firing f.activity f.values None) f → Woken f → JoinsAll job t.activity [] lists f
    woken_all n f made w =
        let same : f.activity ≡ t.activity = (place_of f w).activity in
        let own = subst (λ (a : Activity). Contains (tokens_from a 1 f.values) (entries.Token t)) same (needed_token f t w.0) in
        let is = chosen_of H t 1 lists f.values met_each (n ∙ sym (counts f w)) (λ e m. w.1.1 e (tokens_needed f e (subst (λ (a : Activity). Contains (tokens_from a 1 f.values) e) (sym same) m))) (inr own) in
        (f.values, is, (made_as (firing t.activity f.values None) (firing f.activity f.values None) f (moved f.activity f.values None (firing f.activity f.values None) same refl) made, w.1.0))

    pub alls : (ports_at job t.activity ≡ 2 → ⊥) → length lists ≡ ports_at job t.activity → 1 ≤ t.port → t.port ≤ ports_at job t.activity → (f : Firing) → JoinsAll job t.activity [] lists f ↔ Woken f
    alls other n low high f = (all_woken low high f, λ w. woken_all n f (made_plain other f w) w)
