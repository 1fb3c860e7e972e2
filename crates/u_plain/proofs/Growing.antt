-- What is enabled grows from its first token, value by value.
use Rattle.std.proofs.Common.{◌≡◌, ◌↔◌, ◌⊎◌, inl, inr, refl, sym, subst, ap, ◌∙◌, arith, true, ℕ, ◌+◌, ◌≤◌, List, [], ◌∷◌, ◌++◌, length, Contains, Option, Some, None, Result, append_assoc, append-nil, length-append}
use Rattle.std.proofs.lemmas.Bool.{false≢true}
use Rattle.std.proofs.lemmas.List.Elements.{Contains-append_left, Contains-append_right}
use Rattle.u_name.specs.Cell.{CellOf}
use Rattle.u_name.specs.Name.{Activity}
use Rattle.u_value.specs.declared.value.Value.{Value}
use Rattle.u_value.specs.declared.fault_kind.FaultKind.{FaultKind}
use Rattle.u_program.specs.Parts.{StatementParts}
use Rattle.u_check.specs.Jobs.{JobParts}
use Rattle.u_base.specs.Firing.{Enabled}
use Rattle.u_base.proofs.Member.{Contains-head, Contains-tail}
use Rattle.u_sets.specs.Members.{SomeOf}
use Rattle.u_rule.specs.Parts.{TokenParts, token, ValueList, most_ports}
use Rattle.u_rule.specs.Fits.{statement_of}
use Rattle.u_rule.specs.Rule.{own_of, needs_of, tokens_from, is_inner_of, is_own_of, is_own_at}
use Rattle.u_rule.specs.Replies.{IsTold, question_of}
use Rattle.u_rule.specs.Structures.{cell_named, wrote, read_from, write_read}
use Rattle.u_rule.specs.EntryOrder.{firing, write_of}
use Rattle.u_rule.specs.declared.entry.Entry.{Entry}
use Rattle.u_rule.specs.declared.entry.Entry.TheVariants as entries
use Rattle.u_rule.specs.declared.firing.Firing.{Firing}
use Rattle.u_rule.specs.declared.parts.Written.{Written}
use Rattle.u_rule.proofs.Firings.{own_at_statement, own_counted, inner_or_told}
use Rattle.u_check.proofs.KindTests.{few_ports}
use Rattle.u_rule.proofs.FiringShapes.{Reading, Shape, shape_of}
use Rattle.u_plain.specs.Tries.{EnabledOver, Extends, longer, FitsItself, IsReplyTo, FitsRead, FitsLonger, FitsFirst}

-- a firing has one value for each port of its statement
values_counted : (job : JobParts) (f : Firing) → is_own_of job f ≡ true → (1 ≤ length f.values) × (length f.values ≤ most_ports)
values_counted job f h = at (statement_of job.program.blocks f.activity.block f.activity.statement) refl (own_at_statement job f h)
  where
    at : (o : Option StatementParts) → statement_of job.program.blocks f.activity.block f.activity.statement ≡ o → is_own_at job.table job.program.blocks o f ≡ true → (1 ≤ length f.values) × (length f.values ≤ most_ports)
    at None e k = absurd (false≢true k)
    at (Some s) e k =
        let n = own_counted job f s e h in
        let few = few_ports s.kind in
        (omega (arith, n, few.0), omega (arith, n, few.1))

-- the token of a value, by how many stand before it
token_there : (a : Activity) (port : ℕ) (before : ValueList) (v : Value) (rest : ValueList) → Contains (tokens_from a port (before ++ (v ∷ rest))) (entries.Token (token a (port + length before) v))
token_there a port [] v rest =
    let n : port ≡ port + 0 = omega arith in
    subst (λ (p : ℕ). Contains (tokens_from a port (v ∷ rest)) (entries.Token (token a p v))) n (Contains-head _ _)
token_there a port (u ∷ us) v rest =
    let n : (port + 1) + length us ≡ port + length (u ∷ us) = omega arith in
    Contains-tail _ _ _ (subst (λ (p : ℕ). Contains (tokens_from a (port + 1) (us ++ (v ∷ rest))) (entries.Token (token a p v))) n (token_there a (port + 1) us v rest))

module _ (job : JobParts) (h : List Entry) where
  -- the token of a value of an enabled firing is there
  token_held : (f : Firing) → EnabledOver job h f → (before : ValueList) (v : Value) (rest : ValueList) → f.values ≡ before ++ (v ∷ rest) → Contains h (entries.Token (token f.activity (length before + 1) v))
  unfolding needs_of
  token_held f en before v rest e =
      let n : 1 + length before ≡ length before + 1 = omega arith in
      let m = subst (λ (vs : ValueList). Contains (tokens_from f.activity 1 vs) (entries.Token (token f.activity (1 + length before) v))) (sym e) (token_there f.activity 1 before v rest) in
      subst (λ (p : ℕ). Contains h (entries.Token (token f.activity p v))) n (en.1 _ (Contains-append_left (tokens_from f.activity 1 f.values) (write_read f.values f.write) _ m))

  -- and the write that it reads
  write_held : (f : Firing) → EnabledOver job h f → (r : Reading f) → Contains h (wrote r.cell r.by.writer r.by.value)
  unfolding needs_of
  write_held f en r =
      let w = wrote r.cell r.by.writer r.by.value in
      let m : Contains (read_from (cell_named f.values) r.by) w = subst (λ (c : Result CellOf FaultKind). Contains (read_from c r.by) w) (sym r.names) (Contains-head w []) in
      let n : Contains (write_read f.values f.write) w = subst (λ (o : Option Written). Contains (write_read f.values o) w) (sym r.write) m in
      en.1 w (Contains-append_right (tokens_from f.activity 1 f.values) (write_read f.values f.write) w n)

  -- what is added of the record itself, and of the reply to it
  module _ (made : Firing) (told : Option Firing) (t : IsReplyTo job made told) (f : Firing) (alone : Firing) (is : alone ≡ made) where
    pub both_added : (known : Firing) → told ≡ Some known → (A B C : Type 0) → B ↔ (A ⊎ ((alone ≡ f) × EnabledOver job h f)) → C ↔ (B ⊎ ((known ≡ f) × EnabledOver job h f)) → C ↔ (A ⊎ FitsItself job h made f)
    both_added known k A B C b c = (to, back)
      where
        to : C → A ⊎ FitsItself job h made f
        to m = elim (c.0 m) [
          | inl n ↦ elim (b.0 n) [ inl a ↦ inl a | inr e ↦ inr (inl (sym is ∙ e.0), e.1) ]
          | inr r ↦ inr (inr ((t f r.1.0).0 (k ∙ ap (λ (x : Firing). Some x) r.0)), r.1)
        ]

        same : ◌≡◌ {A = Option Firing} (Some known) (Some f) → known ≡ f
        same e = cc

        back : A ⊎ FitsItself job h made f → C
        back (inl a) = c.1 (inl (b.1 (inl a)))
        back (inr (inl e, en)) = c.1 (inl (b.1 (inr (is ∙ e, en))))
        back (inr (inr p, en)) = c.1 (inr (same (sym k ∙ (t f en.0).1 p), en))

    pub alone_added : told ≡ None → (A B : Type 0) → B ↔ (A ⊎ ((alone ≡ f) × EnabledOver job h f)) → B ↔ (A ⊎ FitsItself job h made f)
    alone_added k A B b = (to, back)
      where
        to : B → A ⊎ FitsItself job h made f
        to m = elim (b.0 m) [ inl a ↦ inl a | inr e ↦ inr (inl (sym is ∙ e.0), e.1) ]

        none : ◌≡◌ {A = Option Firing} None (Some f) → ⊥
        none e = cc

        back : A ⊎ FitsItself job h made f → B
        back (inl a) = b.1 (inl a)
        back (inr (inl e, en)) = b.1 (inr (is ∙ e, en))
        back (inr (inr p, en)) = absurd (none (sym k ∙ (t f en.0).1 p))

  module _ (g : Firing) (plain : g.write ≡ None) where
    -- an equal firing, part by part
    made_of : (f : Firing) (w : Option Written) → f.activity ≡ g.activity → f.values ≡ g.values → f.write ≡ w → firing g.activity g.values w ≡ f
    made_of f w a v e = ap (λ (x : Activity). firing x g.values w) (sym a) ∙ ap (λ (x : ValueList). firing f.activity x w) (sym v) ∙ ap (λ (x : Option Written). firing f.activity f.values x) (sym e)

    abbrev pub Grown : Firing → Type 0
    Grown f = FitsItself job h g f ⊎ (SomeOf h (FitsRead job h g) f ⊎ SomeOf h (FitsLonger job h g) f)

    alone : (f : Firing) → f.activity ≡ g.activity → f.values ≡ g.values → EnabledOver job h f → Shape f → Grown f
    alone f a v en (inl s) = inl (inl (ap (λ (w : Option Written). firing g.activity g.values w) plain ∙ made_of f None a v s.write), en)
    alone f a v en (inr r) = inr (inl (wrote r.cell r.by.writer r.by.value, write_held f en r, (write_of r.cell r.by.writer r.by.value, refl, made_of f (Some r.by) a v r.write, en)))

    -- it is the question of a firing of its activity and values
    is_question : (f : Firing) → f.activity ≡ g.activity → f.values ≡ g.values → g ≡ question_of f
    is_question f a v = ap (λ (w : Option Written). firing g.activity g.values w) plain ∙ (ap (λ (x : Activity). firing x g.values None) (sym a) ∙ ap (λ (x : ValueList). firing f.activity x None) (sym v))

    itself : (f : Firing) → f.activity ≡ g.activity → f.values ≡ g.values → EnabledOver job h f → (is_inner_of job f ≡ true) ⊎ IsTold job f → Grown f
    itself f a v en (inl i) = alone f a v en (shape_of job f i)
    itself f a v en (inr t) = inl (inr (t, is_question f a v), en)

    pub grows_into : (f : Firing) → Extends g f → EnabledOver job h f → Grown f
    grows_into f (a, ([], e)) en = itself f a (e ∙ append-nil g.values) en (inner_or_told job f en.0)
    grows_into f (a, (v ∷ rest, e)) en =
        inr (inr (
          entries.Token (token f.activity (length g.values + 1) v),
          token_held f en g.values v rest e,
          (token f.activity (length g.values + 1) v, refl, a, refl, (a, (rest, e ∙ sym (append_assoc g.values (v ∷ []) rest))), en),
        ))

    pub grown_from : (f : Firing) → Grown f → Extends g f × EnabledOver job h f
    grown_from f (inl (inl e, en)) = ((ap (λ (x : Firing). x.activity) (sym e), ([], ap (λ (x : Firing). x.values) (sym e) ∙ sym (append-nil g.values))), en)
    grown_from f (inl (inr (t, e), en)) = ((ap (λ (x : Firing). x.activity) (sym e), ([], ap (λ (x : Firing). x.values) (sym e) ∙ sym (append-nil g.values))), en)
    grown_from f (inr (inl (x, m, (w, k, e, en)))) = ((ap (λ (x : Firing). x.activity) (sym e), ([], ap (λ (x : Firing). x.values) (sym e) ∙ sym (append-nil g.values))), en)
    grown_from f (inr (inr (x, m, (t, k, a, p, (b, (rest, e)), en)))) = ((b, (t.value ∷ rest, e ∙ append_assoc g.values (t.value ∷ []) rest)), en)

    -- none has more values than there are ports
    pub full : length g.values ≡ most_ports → (f : Firing) → SomeOf h (FitsLonger job h g) f → ⊥
    full l f (x, m, (t, k, a, p, (b, (rest, e)), en)) =
        let c = (values_counted job f en.0).1 in
        omega (arith, l, c, ap length e, length-append (g.values ++ (t.value ∷ [])) rest, length-append g.values (t.value ∷ []))

    -- the firings that the record grows into, gathered in three steps
    pub grown_all : (f : Firing) (A B C D : Type 0) → B ↔ (A ⊎ FitsItself job h g f) → C ↔ (B ⊎ SomeOf h (FitsRead job h g) f) → D ↔ (C ⊎ SomeOf h (FitsLonger job h g) f) → D ↔ (A ⊎ (Extends g f × EnabledOver job h f))
    grown_all f A B C D b c d = (to, back)
      where
        to : D → A ⊎ (Extends g f × EnabledOver job h f)
        to m = elim (d.0 m) [
          | inl n ↦ elim (c.0 n) [
            | inl o ↦ elim (b.0 o) [ inl a ↦ inl a | inr e ↦ inr (grown_from f (inl e)) ]
            | inr r ↦ inr (grown_from f (inr (inl r)))
          ]
          | inr l ↦ inr (grown_from f (inr (inr l)))
        ]

        grown : Grown f → D
        grown (inl e) = d.1 (inl (c.1 (inl (b.1 (inr e)))))
        grown (inr (inl r)) = d.1 (inl (c.1 (inr r)))
        grown (inr (inr l)) = d.1 (inr l)

        back : A ⊎ (Extends g f × EnabledOver job h f) → D
        back (inl a) = d.1 (inl (c.1 (inl (b.1 (inl a)))))
        back (inr e) = grown (grows_into f e.0 e.1)

    -- of a record with a value at each port, in two
    pub grown_full : length g.values ≡ most_ports → (f : Firing) (A B C : Type 0) → B ↔ (A ⊎ FitsItself job h g f) → C ↔ (B ⊎ SomeOf h (FitsRead job h g) f) → C ↔ (A ⊎ (Extends g f × EnabledOver job h f))
    grown_full l f A B C b c = grown_all f A B C C b c ((λ m. inl m), λ s. elim s [ inl m ↦ m | inr n ↦ absurd (full l f n) ])

  -- the firings that have this token next

  same_token : (e : Entry) (t u : TokenParts) → e ≡ entries.Token t → e ≡ entries.Token u → t ≡ u
  same_token e t u k l = cc

  pub longer_fits : (g : Firing) (e : Entry) (t : TokenParts) (more : Firing) → e ≡ entries.Token t → t.activity ≡ g.activity → t.port ≡ length g.values + 1 → more ≡ longer g t.value → (f : Firing) → (Extends more f × EnabledOver job h f) ↔ FitsLonger job h g e f
  longer_fits g e t more k a p m f = (
    λ s. (t, k, a, p, subst (λ (x : Firing). Extends x f) m s.0, s.1),
    λ s. (subst (λ (x : Firing). Extends x f) (ap (λ (u : TokenParts). longer g u.value) (same_token e s.0 t s.1 k) ∙ sym m) s.4, s.5),
  )

  -- a step over the entries: those that have this token next are added, or it is no next token
  pub stepped : (g : Firing) (e : Entry) (t : TokenParts) (more : Firing) (old new : List Firing) → (e ≡ entries.Token t) × (t.activity ≡ g.activity) × (t.port ≡ length g.values + 1) → more ≡ longer g t.value → ((f : Firing) → Contains new f ↔ (Contains old f ⊎ (Extends more f × EnabledOver job h f))) → (f : Firing) → Contains new f ↔ (Contains old f ⊎ FitsLonger job h g e f)
  stepped g e t more old new k m step f =
      let fits = longer_fits g e t more k.0 k.1 k.2 m f in (
        λ n. elim ((step f).0 n) [ inl o ↦ inl o | inr s ↦ inr (fits.0 s) ],
        λ s. elim s [ inl o ↦ (step f).1 (inl o) | inr s ↦ (step f).1 (inr (fits.1 s)) ],
      )

  pub passed_over : (g : Firing) (e : Entry) (old new : List Firing) → ((t : TokenParts) → e ≡ entries.Token t → t.activity ≡ g.activity → t.port ≡ length g.values + 1 → ⊥) → new ≡ old → (f : Firing) → Contains new f ↔ (Contains old f ⊎ FitsLonger job h g e f)
  passed_over g e old new none same f = (
    λ n. inl (subst (λ (xs : List Firing). Contains xs f) same n),
    λ s. elim s [ inl o ↦ subst (λ (xs : List Firing). Contains xs f) (sym same) o | inr t ↦ absurd (none t.0 t.1 t.2 t.3) ],
  )

  pub first_fits : (e : Entry) (t : TokenParts) (made : Firing) → e ≡ entries.Token t → t.port ≡ 1 → made ≡ firing t.activity (t.value ∷ []) None → (f : Firing) → (Extends made f × EnabledOver job h f) ↔ FitsFirst job h e f
  first_fits e t made k p m f = (
    λ s. (t, k, p, subst (λ (x : Firing). Extends x f) m s.0, s.1),
    λ s. (subst (λ (x : Firing). Extends x f) (ap (λ (u : TokenParts). firing u.activity (u.value ∷ []) None) (same_token e s.0 t s.1 k) ∙ sym m) s.3, s.4),
  )

-- what is enabled has a first token
pub first_enabled : (job : JobParts) (h : List Entry) (f : Firing) → SomeOf h (FitsFirst job h) f ↔ Enabled (own_of job) (Contains h) f
first_enabled job h f = (to, λ en. from en f.values refl)
  where
    to : SomeOf h (FitsFirst job h) f → Enabled (own_of job) (Contains h) f
    to (x, m, (t, k, p, g, en)) = en

    from : Enabled (own_of job) (Contains h) f → (vs : ValueList) → f.values ≡ vs → SomeOf h (FitsFirst job h) f
    from en [] e = absurd (omega (arith, (values_counted job f en.0).0, ap length e))
    from en (v ∷ rest) e =
        (entries.Token (token f.activity 1 v), token_held job h f en [] v rest e, (token f.activity 1 v, refl, refl, (refl, (rest, e)), en))
