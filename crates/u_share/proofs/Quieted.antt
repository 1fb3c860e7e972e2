-- What a member holds that ended with nothing ready.
use Rattle.std.specs.Prelude.{◌≡◌, ℕ, ◌≤◌, List, [], ◌∷◌, ◌++◌, ◌⊎◌, ◌↔◌, length, Option, Contains, refl}
use Rattle.std.proofs.Common.{sym, ◌∙◌, ap, subst, inl, inr, arith}
use Rattle.std.proofs.lemmas.List.Elements.{Contains-append_right, Contains-append_cases, Contains-push_cases}
use Rattle.u_base.specs.Pieces.{pieces, lines}
use Rattle.u_sets.proofs.Places.{one_list}
use Rattle.u_base.specs.Firing.{System, Held, Enabled, Derivation, Distinct, Cl, Whole, Same}
use Rattle.u_base.proofs.Member.{Contains-nil, Contains-head}
use Rattle.u_base.proofs.Held.{Enabled-mono}
use Rattle.u_base.proofs.Closure.{Derivation-nil, Derivation-push, Cl-whole}
use Rattle.u_base.proofs.Plain.{EachPlace-along}
use Rattle.u_base.proofs.Apart.{Distinct-push, Distinct-left}
use Rattle.u_check.specs.Jobs.{JobParts}
use Rattle.u_rule.specs.Rule.{own_of}
use Rattle.u_rule.specs.EntryOrder.{entry_cmp}
use Rattle.u_rule.specs.ExactOrders.{entry_cmp_total}
use Rattle.u_rule.specs.FiringText.{firing_text}
use Rattle.u_rule.specs.FiringReading.{IsFiringOf}
use Rattle.u_rule.specs.declared.entry.Entry.{Entry}
use Rattle.u_rule.specs.declared.firing.Firing.{Firing}
use Rattle.u_rule.proofs.FiringReadingLaws.{firing_Reads}
use Rattle.u_machine.specs.State.{State, Taken, IsMachine}
use Rattle.u_machine.proofs.States.{settled_is_Cl}
use Rattle.u_machine.proofs.Counting.{no_more}
use Rattle.u_share.specs.Lines.{longest, first_of, IsAmong, open_notice}
use Rattle.u_share.specs.Headline.{Streams, Member, member, WasNext, AreFired, Goes, blank, newcomer, IsTrueFiring, AreTrueLines, IsQuietAndWhole, HasWhole, IsLast, Shares, Agree}
use Rattle.u_share.specs.Calls.{EndsSo}
use Rattle.u_share.specs.declared.ended.Ended.{Ended}
use Rattle.u_share.specs.declared.ended.Ended.TheVariants as ended

-- each firing of a derivation is enabled over the whole history
derived : {E F : Type 0} (s : System E F) (fs : List F) → Derivation s fs → Derivation s fs × ((f : F) → Contains fs f → Enabled s (Whole s) f)
derived {E} {F} s fs d =
    EachPlace-along (λ done f. Enabled s (Held s done) f) (λ gs. Derivation s gs × ((f : F) → Contains gs f → Enabled s (Whole s) f)) (Derivation-nil s, λ f m. absurd (Contains-nil f m)) more fs d.each
  where
    more : (gs : List F) (f : F) → Derivation s gs × ((g : F) → Contains gs g → Enabled s (Whole s) g) → Enabled s (Held s gs) f → Derivation s (gs ++ f ∷ []) × ((g : F) → Contains (gs ++ f ∷ []) g → Enabled s (Whole s) g)
    more gs f q p = (
      Derivation-push s gs f q.0 p,
      λ g m. elim (Contains-push_cases gs f g m) [ inl k ↦ q.1 g k | inr e ↦ subst (λ (x : F). Enabled s (Whole s) x) e (Enabled-mono s (Held s gs) (Whole s) (λ x h. (gs, q.0, h)) f p) ],
    )

-- what was printed is true, and none of it twice
printed_true : (job : JobParts) (limit : ℕ) (ls : List (List ℕ)) (fs : List Firing) → AreFired (blank job limit) ls fs → Distinct fs × ((f : Firing) → Contains fs f → IsTrueFiring job f)
printed_true job limit ls fs (read, rises, within, each) =
    EachPlace-along (WasNext (blank job limit) ls read) (λ gs. Distinct gs × ((f : Firing) → Contains gs f → IsTrueFiring job f)) (tt, λ f m. absurd (Contains-nil f m)) more fs each
  where
    more : (gs : List Firing) (f : Firing) → Distinct gs × ((g : Firing) → Contains gs g → IsTrueFiring job g) → WasNext (blank job limit) ls read gs f → Distinct (gs ++ f ∷ []) × ((g : Firing) → Contains (gs ++ f ∷ []) g → IsTrueFiring job g)
    more gs f q p = (
      Distinct-push gs f (λ c. p.new (inr c)) q.0,
      λ g m. elim (Contains-push_cases gs f g m) [ inl k ↦ q.1 g k | inr e ↦ subst (λ (x : Firing). IsTrueFiring job x) e (Enabled-mono (own_of job) _ (Whole (own_of job)) (Cl-whole (own_of job) _) f p.enabled) ],
    )

-- a machine that is quiet has applied exactly the true firings
module _ (m : State) (is : IsMachine m) (q : IsQuietAndWhole m) where
  in_history : (e : Entry) → Whole (own_of m.job) e → Contains m.history e
  in_history e w = (q.1.1 e).1 w

  logged_true : (f : Firing) → Contains m.log f → IsTrueFiring m.job f
  logged_true f k = (derived (own_of m.job) m.log is.sound.derivation).1 f k

  unparked : (f : Firing) → IsTrueFiring m.job f → Contains m.parked f → ⊥
  unparked f t k = q.0.0.none f k (Enabled-mono (own_of m.job) (Whole (own_of m.job)) (Contains m.history) in_history f t)

  true_taken : (f : Firing) → IsTrueFiring m.job f → Taken m f
  true_taken f t =
      q.0.1 f (Enabled-mono (own_of m.job) (Whole (own_of m.job)) (Cl (own_of m.job) (Taken m)) (λ e w. ((settled_is_Cl m is.sound q.0.0).0 e).0 (in_history e w)) f t)

  true_logged : (f : Firing) → IsTrueFiring m.job f → Contains m.log f
  true_logged f t = elim (Contains-append_cases m.log m.parked f (true_taken f t)) [ inl a ↦ a | inr b ↦ absurd (unparked f t b) ]

pub same_firing : (line : List ℕ) (f g : Firing) → IsFiringOf line f → IsFiringOf line g → f ≡ g
same_firing line f g p q = firing_Reads.same f g p.0 q.0 (ap (λ (t : List ℕ). t ++ (10 ∷ [])) (sym p.1 ∙ q.1))

pub no_empty_firing : (line : List ℕ) (f : Firing) → line ≡ [] → IsFiringOf line f → ⊥
unfolding firing_text
no_empty_firing line f e p = absurd (cc)

no_members : {X : Type 0} (xs : List X) → ((x : X) → Contains xs x → ⊥) → xs ≡ []
no_members [] n = refl
no_members (x ∷ xs) n = absurd (n x (Contains-head x xs))

module _ (job : JobParts) (limit : ℕ) (bytes : List ℕ) (printed : List Firing) (told o : List ℕ) (n : ℕ) (m : State) (p : Goes (newcomer job limit) bytes printed told (member m o n)) (is : IsMachine m) (q : IsQuietAndWhole m) where
  taken_is : (f : Firing) → Taken m f ↔ (IsAmong job (lines bytes) f ⊎ Contains printed f)
  taken_is f = ((λ t. elim ((p.gains.taken f).0 t) [ inl x ↦ absurd (Contains-nil f x) | inr y ↦ y ]), λ s. (p.gains.taken f).1 (inr s))

  here : (f : Firing) → IsTrueFiring m.job f → IsTrueFiring job f
  here f t = subst (λ (j : JobParts). IsTrueFiring j f) p.gains.job t

  there : (f : Firing) → IsTrueFiring job f → IsTrueFiring m.job f
  there f t = subst (λ (j : JobParts). IsTrueFiring j f) (sym p.gains.job) t

  printed_is : Distinct printed × ((f : Firing) → Contains printed f → IsTrueFiring job f)
  printed_is = printed_true job limit (lines bytes) printed p.fires

  parked_from : (f : Firing) → Contains m.parked f → IsAmong job (lines bytes) f × (IsTrueFiring job f → ⊥)
  parked_from f k =
      let no_true : IsTrueFiring job f → ⊥ = λ t. unparked m is q f (there f t) k in
      elim ((taken_is f).0 (Contains-append_right m.log m.parked f k)) [ inl a ↦ (a, no_true) | inr c ↦ absurd (no_true (printed_is.1 f c)) ]

  parked_to : (f : Firing) → IsAmong job (lines bytes) f × (IsTrueFiring job f → ⊥) → Contains m.parked f
  parked_to f (a, no_true) =
      elim (Contains-append_cases m.log m.parked f ((taken_is f).1 (inl a))) [ inl k ↦ absurd (no_true (here f (logged_true m is q f k))) | inr k ↦ k ]

  none_parked : AreTrueLines job (lines bytes) → (f : Firing) → Contains m.parked f → ⊥
  none_parked all f k = ends (parked_from f k)
    where
      ends : IsAmong job (lines bytes) f × (IsTrueFiring job f → ⊥) → ⊥
      ends ((line, there_is, of), no_true) =
          elim (all line there_is) [
            | inl e ↦ no_empty_firing line f e of.text
            | inr g ↦ no_true (subst (λ (x : Firing). IsTrueFiring job x) (same_firing line g.0 f g.1 of.text) g.2)
          ]

  pub has_whole : HasWhole job limit bytes printed m
  has_whole = record {
    of = p.gains.job;
    taken = taken_is;
    fires = p.fires;
    once = printed_is.0;
    trues = printed_is.1;
    quiet = q;
    applied = λ f. ((λ k. here f (logged_true m is q f k)), λ t. true_logged m is q f (there f t));
    parked = λ f. (parked_from f, parked_to f);
    clean = λ all. no_members m.parked (none_parked all);
  }

-- the notice of what is left does not depend on how much of it is kept
same_last : (o : List ℕ) (n : ℕ) → open_notice (first_of o) n ≡ open_notice o n
unfolding longest
same_last [] n = refl
same_last (b ∷ o) n = refl

last_is : (m : State) (left : Option (List ℕ)) (end : Ended) (last r o : List ℕ) (n k : ℕ) → o ≡ first_of r → k ≡ n → IsLast (member m o n) left end last → IsLast (member m r k) left end last
last_is m left ended.Quiet last r o n k e c p = p
last_is m left ended.Input last r o n k e c (end, p) =
    (end, p ∙ ap (λ (x : List ℕ). open_notice x n) e ∙ same_last r n ∙ ap (λ (i : ℕ). open_notice r i) (sym c))

pub shares : (job : JobParts) (limit : ℕ) (before after : Streams) (new : Member) (end : Ended) → EndsSo (newcomer job limit) new before after end → IsMachine new.machine → IsQuietAndWhole new.machine → Shares job limit before after new.machine end
shares job limit before after new end p is q = record {
  bytes = p.bytes;
  fired = p.fired;
  told = p.told;
  last = p.last;
  has = has_whole job limit p.bytes p.fired p.told new.begun new.ended new.machine p.goes is q;
  tells = p.goes.tells;
  passes = p.passes;
  ends = last_is new.machine after.reader end p.last (pieces 10 p.bytes).1 new.begun new.ended (length (lines p.bytes)) p.goes.begun (let c = p.goes.ended in omega (arith, c)) p.ends;
}

-- two members agree

few : (a b : State) → IsMachine a → IsMachine b → IsQuietAndWhole a → IsQuietAndWhole b → b.job ≡ a.job → length a.log ≤ length b.log
few a b ia ib qa qb e =
    no_more a.log b.log (Distinct-left a.log a.parked ia.sound.distinct) (λ f k. true_logged b ib qb f (subst (λ (j : JobParts). IsTrueFiring j f) (sym e) (logged_true a ia qa f k)))

pub counts_agree : (a b : State) → IsMachine a → IsMachine b → IsQuietAndWhole a → IsQuietAndWhole b → b.job ≡ a.job → length b.log ≡ length a.log
counts_agree a b ia ib qa qb e =
    let x = few a b ia ib qa qb e in
    let y = few b a ib ia qb qa (sym e) in
    omega (arith, x, y)

pub holds_agree : (a b : State) → IsQuietAndWhole a → IsQuietAndWhole b → b.job ≡ a.job → Same (Contains b.history) (Contains a.history)
holds_agree a b qa qb e x = (
  (λ k. (qa.1.1 x).1 (subst (λ (j : JobParts). Whole (own_of j) x) e ((qb.1.1 x).0 k))),
  λ k. (qb.1.1 x).1 (subst (λ (j : JobParts). Whole (own_of j) x) (sym e) ((qa.1.1 x).0 k)),
)

pub members_agree : (a b : State) → IsMachine a → IsMachine b → Agree a b
members_agree a b ia ib qa qb e =
    (one_list entry_cmp entry_cmp_total b.history a.history ib.history_rises ia.history_rises (holds_agree a b qa qb e), counts_agree a b ia ib qa qb e)
