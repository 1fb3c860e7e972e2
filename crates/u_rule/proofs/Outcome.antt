-- Two runs at their end whose replies are those of one function hold the same and fired the same.
use Rattle.std.proofs.Common.{◌≡◌, ◌∙◌, ◌⊎◌, ap, sym, subst, refl, eq-eqb, inl, inr, ℤ, Bool, true, false, ◌&&◌, ◌==◌, List, [], ◌∷◌, length, Contains, Option, Some, None}
use Rattle.std.specs.List.{list_all}
use Rattle.std.specs.Ordering.{eq_by_cmp}
use Rattle.std.specs.Cmp.{tied_itself, Equal-is}
use Rattle.std.specs.Ordering.{is_eq}
use Rattle.std.proofs.lemmas.Bool.{false≢true, and_parts, or_right}
use Rattle.u_base.specs.Firing.{System, Held, Enabled, Cl}
use Rattle.u_base.proofs.Member.{Contains-nil, Contains-head, Contains-tail, Contains-cons_cases}
use Rattle.u_base.proofs.Closure.{Settled-is_Cl, Cl-mono}
use Rattle.u_base.proofs.Determinate.{Derivation-enabled}
use Rattle.u_name.specs.NameOrder.{name_cmp}
use Rattle.u_value.specs.declared.value.Value.{Value}
use Rattle.u_value.specs.declared.value.Value.TheVariants as values
use Rattle.u_program.specs.declared.program.Kind.{Kind}
use Rattle.u_program.specs.declared.program.Kind.TheVariants.{Ask}
use Rattle.u_program.specs.declared.program.Version.{Version}
use Rattle.u_program.specs.Parts.{StatementParts, ProgramParts}
use Rattle.u_check.specs.Kinds.{ports_of, is_ask}
use Rattle.u_check.specs.Tables.{TableRows}
use Rattle.u_check.specs.Jobs.{JobParts, IsOneJob, job}
use Rattle.u_check.proofs.TableLaws.{says_plain}
use Rattle.u_rule.specs.Parts.{ValueList}
use Rattle.u_rule.specs.Fits.{statement_of, fits_at}
use Rattle.u_rule.specs.EntryOrder.{firing_cmp}
use Rattle.u_rule.specs.ExactOrders.{firing_cmp_total, firing_cmp_ties}
use Rattle.u_rule.specs.Initiations.{is_turn, has_turns, wrote_in_turns, fires_in_turns}
use Rattle.u_rule.specs.Structures.{is_plain, answers}
use Rattle.u_rule.specs.Rule.{is_firing_of, is_firing_at, is_inner_of, is_reply_at, has_its_values, has_its_form, needs_of, gives_of, start_of, system_of}
use Rattle.u_rule.specs.Replies.{IsReply, question_of, reply_to, service_of, value_for}
use Rattle.u_rule.specs.Outside.{Oracle, Says, EndsBy, MayFireBy, IsWholeBy, EndsWhole, with_table, HasOneOutcome}
use Rattle.u_rule.specs.declared.entry.Entry.{Entry}
use Rattle.u_rule.specs.declared.firing.Firing.{Firing}
use Rattle.u_rule.specs.declared.parts.Written.{Written}
use Rattle.u_rule.proofs.Cells.{same_name}
use Rattle.u_rule.proofs.Firings.{in_turns, inner_or_reply, inner_is_own, told_is_own}
use Rattle.u_rule.proofs.Follow.{firing_fits}
use Rattle.u_rule.proofs.Own.{inner_no_answer}
use Rattle.u_rule.proofs.Told.{question_is_inner, question_needs, reply_is}

both : (a b : Bool) → a ≡ true → b ≡ true → (a && b) ≡ true
both a b p q = rw (p, q) refl

-- what the table says is a number or a truth value
known_plain : (table : TableRows) (k : Kind) (vs : ValueList) (v : Value) → value_for table k vs ≡ Some v → is_plain v ≡ true
known_plain table (Ask service n) vs v e = says_plain table service vs v e
known_plain table k vs v e = cc

plain_turns : (version : Version) (v : Value) → is_plain v ≡ true → has_turns version v ≡ true
plain_turns version (values.Int z) e = refl
plain_turns version (values.Bool b) e = refl
plain_turns version (values.Proc b) e = refl
plain_turns version (values.Ref p) e = absurd (false≢true e)

-- whether one of the firings is a reply to the question
same_firing : (f g : Firing) → (f ≡ g) ⊎ (f ≡ g → ⊥)
same_firing f g = at (is_eq (firing_cmp f g)) refl
  where
    at : (b : Bool) → is_eq (firing_cmp f g) ≡ b → (f ≡ g) ⊎ (f ≡ g → ⊥)
    at true e = inl (firing_cmp_ties f g ((Equal-is (firing_cmp f g)).0 e))
    at false e = inr (λ q. false≢true (sym e ∙ ap (λ (x : Firing). is_eq (firing_cmp f x)) (sym q) ∙ ap is_eq (tied_itself firing_cmp_total f)))

is_reply_to : (q f : Firing) → ((v : Value) × (f ≡ reply_to q v)) ⊎ ((v : Value) → f ≡ reply_to q v → ⊥)
is_reply_to q f = at f.write refl
  where
    its_write : (v : Value) → f ≡ reply_to q v → f.write ≡ Some (record { writer = q.activity; value = v })
    its_write v e = ap (λ (x : Firing). x.write) e

    same : (w : Written) → f.write ≡ Some w → (v : Value) → f ≡ reply_to q v → w.value ≡ v
    same w e v h = let k = its_write v h in ap (λ (x : Written). x.value) (the_same w (record { writer = q.activity; value = v }) (sym e ∙ k))
      where
        the_same : (x y : Written) → ◌≡◌ {A = Option Written} (Some x) (Some y) → x ≡ y
        the_same x y p = cc

    at : (o : Option Written) → f.write ≡ o → ((v : Value) × (f ≡ reply_to q v)) ⊎ ((v : Value) → f ≡ reply_to q v → ⊥)
    at None e = inr (λ v h. let k = its_write v h in absurd (cc))
    at (Some w) e =
        elim (same_firing f (reply_to q w.value)) [
          | inl p ↦ inl (w.value, p)
          | inr n ↦ inr (λ v h. n (h ∙ ap (reply_to q) (sym (same w e v h))))
        ]

some_reply : (q : Firing) (fs : List Firing) → ((v : Value) × Contains fs (reply_to q v)) ⊎ ((v : Value) → Contains fs (reply_to q v) → ⊥)
some_reply q [] = inr (λ v m. Contains-nil (reply_to q v) m)
some_reply q (f ∷ fs) =
    elim (is_reply_to q f) [
      | inl (v, e) ↦ inl (v, subst (λ (x : Firing). Contains (f ∷ fs) x) e (Contains-head f fs))
      | inr n ↦ elim (some_reply q fs) [
        | inl (v, m) ↦ inl (v, Contains-tail f (reply_to q v) fs m)
        | inr k ↦ inr (λ v m. elim (Contains-cons_cases f (reply_to q v) fs m) [ inl e ↦ n v e | inr j ↦ k v j ])
      ]
    ]

module _ (j : JobParts) where
  -- a reply of another value is a firing too
  reply_fires : (f : Firing) (v : Value) → is_firing_of j f ≡ true → IsReply j f → is_plain v ≡ true → is_firing_of j (reply_to (question_of f) v) ≡ true
  unfolding is_firing_of fires_in_turns
  reply_fires f v x r p =
      both (is_firing_at j.program.blocks o g) (is_turn j.program.version f.activity && (list_all (has_turns j.program.version) f.values && (is_turn j.program.version f.activity && has_turns j.program.version v))) there turns
    where
      g : Firing
      g = reply_to (question_of f) v

      o : Option StatementParts
      o = statement_of j.program.blocks f.activity.block f.activity.statement

      given : answers f.activity f.values (Some (record { writer = f.activity; value = v })) ≡ true
      given = both (eq_by_cmp name_cmp f.activity f.activity) (list_all is_plain f.values && is_plain v) ((same_name f.activity f.activity).1 refl) (both (list_all is_plain f.values) (is_plain v) r.plain p)

      form : is_reply_at r.it (reply_to (question_of f) v) ≡ true
      form = both (is_ask r.it.kind) (length f.values == ports_of r.it.kind && answers f.activity f.values (Some (record { writer = f.activity; value = v }))) r.asks (both (length f.values == ports_of r.it.kind) (answers f.activity f.values (Some (record { writer = f.activity; value = v }))) (eq-eqb (length f.values) (ports_of r.it.kind) r.count) given)

      here : is_firing_at j.program.blocks (Some r.it) (reply_to (question_of f) v) ≡ true
      here = both (fits_at j.program.blocks r.it.region f.activity) (has_its_form r.it (reply_to (question_of f) v)) (firing_fits j f r.it x r.stands) (or_right (has_its_values r.it (reply_to (question_of f) v)) (is_reply_at r.it (reply_to (question_of f) v)) form)

      there : is_firing_at j.program.blocks (statement_of j.program.blocks f.activity.block f.activity.statement) (reply_to (question_of f) v) ≡ true
      there = ap (λ (y : Option StatementParts). is_firing_at j.program.blocks y (reply_to (question_of f) v)) r.stands ∙ here

      turns : (is_turn j.program.version f.activity && (list_all (has_turns j.program.version) f.values && (is_turn j.program.version f.activity && has_turns j.program.version v))) ≡ true
      turns =
          let a = and_parts (is_turn j.program.version f.activity) (list_all (has_turns j.program.version) f.values && wrote_in_turns j.program.version f.write) (in_turns j f x) in
          let b = and_parts (list_all (has_turns j.program.version) f.values) (wrote_in_turns j.program.version f.write) a.1 in
          both (is_turn j.program.version f.activity) (list_all (has_turns j.program.version) f.values && (is_turn j.program.version f.activity && has_turns j.program.version v)) a.0
          (both (list_all (has_turns j.program.version) f.values) (is_turn j.program.version f.activity && has_turns j.program.version v) b.0
          (both (is_turn j.program.version f.activity) (has_turns j.program.version v) a.0 (plain_turns j.program.version v p)))

  module _ (F : Oracle) (gs : List Firing) (b : EndsBy j F gs) where
    -- a reply that the services say is applied where it is enabled
    replied : (f : Firing) → (r : IsReply j f) → Says F j f r → Enabled (system_of j) (Held (system_of j) gs) f → Contains gs f
    replied f r v en = by (value_for j.table r.it.kind f.values) refl
      where
        q : Firing
        q = question_of f

        asked : Contains gs (question_of f)
        asked =
            b.quiet (question_of f)
            (inner_is_own j (question_of f) (question_is_inner j f en.0 r), λ e m. en.1 e (subst (λ (es : List Entry). Contains es e) (question_needs j f r) m))

        -- a reply to the question that is there has the same value, so it is the one
        same : (w : Value) → Contains gs (reply_to (question_of f) w) → Contains gs f
        same w m = elim (inner_or_reply j (reply_to (question_of f) w) (Derivation-enabled (system_of j) gs b.run (reply_to (question_of f) w) m).0) [
          | inl i ↦ absurd (inner_no_answer j (reply_to (question_of f) w) i r.it r.stands (both (is_ask r.it.kind) true r.asks refl))
          | inr y ↦ subst (λ (x : Firing). Contains gs x) (ap (reply_to (question_of f)) (is_value y) ∙ reply_is j f r) m
        ]
          where
            the_same : (x y : Written) → ◌≡◌ {A = Option Written} (Some x) (Some y) → x ≡ y
            the_same x y p = cc

            is_value : IsReply j (reply_to (question_of f) w) → w ≡ r.by.value
            is_value y =
                let it : y.it ≡ r.it = (let a = y.stands in let c = r.stands in cc) in
                let said : w ≡ y.by.value = ap (λ (x : Written). x.value) (the_same (record { writer = f.activity; value = w }) y.by y.write) in
                said ∙ b.replies (reply_to (question_of f) w) m y ∙ ap (λ (s : StatementParts). F (service_of s.kind) f.values) it ∙ sym v

        by : (o : Option Value) → value_for j.table r.it.kind f.values ≡ o → Contains gs f
        by None e =
            elim (some_reply (question_of f) gs) [
              | inl (w, m) ↦ same w m
              | inr n ↦ absurd (b.none_open (question_of f) (record { fired = asked; it = r.it; stands = r.stands; asks = r.asks; no_write = refl; plain = r.plain; unknown = e; unanswered = n }))
            ]
        by (Some w) e = same w (b.quiet (reply_to (question_of f) w) (told_is_own j (reply_to (question_of f) w) fires (record { reply = reply; said = e }), needs))
          where
            fires : is_firing_of j (reply_to (question_of f) w) ≡ true
            fires = reply_fires f w en.0 r (known_plain j.table r.it.kind f.values w e)

            reply : IsReply j (reply_to (question_of f) w)
            reply = record {
              it = r.it;
              stands = r.stands;
              asks = r.asks;
              count = r.count;
              by = record { writer = f.activity; value = w };
              write = refl;
              itself = refl;
              plain = r.plain;
              value = known_plain j.table r.it.kind f.values w e;
            }

            needs : (x : Entry) → Contains (needs_of (reply_to (question_of f) w)) x → Held (system_of j) gs x
            needs x m = en.1 x (subst (λ (es : List Entry). Contains es x) (sym (question_needs j (reply_to (question_of f) w) reply) ∙ question_needs j f r) m)

    applied : (f : Firing) → MayFireBy j F f → Enabled (system_of j) (Held (system_of j) gs) f → Contains gs f
    applied f (inl i) en = b.quiet f (inner_is_own j f i, en.1)
    applied f (inr (r, v)) en = replied f r v en

    may : (f : Firing) → Contains gs f → MayFireBy j F f
    may f m = elim (inner_or_reply j f (Derivation-enabled (system_of j) gs b.run f m).0) [ inl i ↦ inl i | inr r ↦ inr (r, b.replies f m r) ]

    ends : IsWholeBy j F gs
    ends = record {
      holds = Settled-is_Cl (system_of j) (MayFireBy j F) gs b.run may applied;
      fired = λ f. ((λ m. (may f m, Derivation-enabled (system_of j) gs b.run f m)), λ p. applied f p.0 p.1);
    }

-- a run at its end holds all that may come
pub ends_whole : (j : JobParts) → EndsWhole j
ends_whole j F fs b = ends j F fs b

module _ (j : JobParts) (one other : TableRows) where
  -- a table is nothing to what is a firing, needs and gives
  systems_alike : system_of (with_table j one) ≡ system_of (with_table j other)
  unfolding is_firing_of gives_of start_of
  systems_alike = refl

  inner_alike : (f : Firing) → is_inner_of (with_table j one) f ≡ is_inner_of (with_table j other) f
  unfolding is_inner_of
  inner_alike f = refl

  reply_alike : (F : Oracle) (f : Firing) (r : IsReply (with_table j one) f) → Says F (with_table j one) f r → (t : IsReply (with_table j other) f) × Says F (with_table j other) f t
  reply_alike F f r v = (record { it = r.it; stands = r.stands; asks = r.asks; count = r.count; by = r.by; write = r.write; itself = r.itself; plain = r.plain; value = r.value }, v)

  may_alike : (F : Oracle) (f : Firing) → MayFireBy (with_table j one) F f → MayFireBy (with_table j other) F f
  may_alike F f (inl i) = inl (sym (inner_alike f) ∙ i)
  may_alike F f (inr (r, v)) = inr (reply_alike F f r v)

  closure_alike : (F : Oracle) (e : Entry) → Cl (system_of (with_table j one)) (MayFireBy (with_table j one) F) e → Cl (system_of (with_table j other)) (MayFireBy (with_table j other) F) e
  closure_alike F e c =
      subst (λ (s : System Entry Firing). Cl s (MayFireBy (with_table j other) F) e) systems_alike
      (Cl-mono (system_of (with_table j one)) (MayFireBy (with_table j one) F) (MayFireBy (with_table j other) F) (may_alike F) e c)

module _ (j : JobParts) (F : Oracle) (one other : TableRows) (fs gs : List Firing) (a : EndsBy (with_table j one) F fs) (b : EndsBy (with_table j other) F gs) where
  held_there : (e : Entry) → Held (system_of (with_table j one)) fs e → Held (system_of (with_table j other)) gs e
  held_there e h = ((ends_whole (with_table j other) F gs b).holds e).1 (closure_alike j one other F e (((ends_whole (with_table j one) F fs a).holds e).0 h))

  fired_there : (f : Firing) → Contains fs f → Contains gs f
  fired_there f m =
      let k = ((ends_whole (with_table j one) F fs a).fired f).0 m in
      let moved = subst (λ (s : System Entry Firing). Enabled s (Held (system_of (with_table j one)) fs) f) (systems_alike j one other) k.1 in
      ((ends_whole (with_table j other) F gs b).fired f).1 (may_alike j one other F f k.0, (moved.0, λ e n. held_there e (moved.1 e n)))

-- so two runs at their end hold the same and fired the same
pub has_one_outcome : (j : JobParts) → HasOneOutcome j
has_one_outcome j F one other fs gs a b =
    ((λ e. (held_there j F one other fs gs a b e, held_there j F other one gs fs b a e)), λ f. (fired_there j F one other fs gs a b f, fired_there j F other one gs fs b a f))

-- Where two jobs are one, their systems are, whatever their tables: what is a firing, needs and gives does not
-- look at them.
pub one_system : (a b : JobParts) → IsOneJob a b → system_of a ≡ system_of b
unfolding is_firing_of gives_of start_of
one_system a b e =
    subst (λ (p : ProgramParts). system_of a ≡ system_of (job p b.argument b.table)) e.program
    (subst (λ (z : ℤ). system_of a ≡ system_of (job a.program z b.table)) e.argument refl)
