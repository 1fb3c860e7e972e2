-- Which late tokens a firing needs, and where the firings that need one stand.
use Rattle.std.proofs.Common.{◌≡◌, ◌∙◌, IsTrue, ℕ, ◌+◌, [], ◌∷◌, ◌⊎◌, inl, inr, None, Some, Option, Ok, Err, Result, sym, ap, subst, refl}
use Rattle.std.specs.Prelude.{Contains, IfSome, IfNone, slice_get}
use Rattle.std.specs.declared.cmp.Ordering.{Ordering}
use Rattle.std.specs.declared.cmp.Ordering.TheVariants.{Less, Equal, Greater}
use Rattle.std.specs.Ordering.{is_lt, ordering_then}
use Rattle.std.proofs.lemmas.List.Elements.{Contains-append_left, Contains-append_cases}
use Rattle.u_base.proofs.Member.{Contains-nil, Contains-cons_cases}
use Rattle.u_sets.specs.Rising.{Rises}
use Rattle.u_name.specs.Name.{Activity}
use Rattle.u_name.specs.Cell.{CellOf}
use Rattle.u_name.specs.NameOrder.{name_cmp, name_cmp_total, name_cmp_ties}
use Rattle.u_value.specs.declared.fault_kind.FaultKind.{FaultKind}
use Rattle.u_rule.specs.declared.entry.Entry.{Entry}
use Rattle.u_rule.specs.declared.entry.Entry.TheVariants.{Token as token_entry}
use Rattle.u_rule.specs.declared.firing.Firing.{Firing}
use Rattle.u_rule.specs.declared.parts.Written.{Written}
use Rattle.u_rule.specs.Parts.{TokenParts, ValueList, token}
use Rattle.u_rule.specs.Rule.{needs_of, tokens_from}
use Rattle.u_rule.specs.Structures.{cell_named, wrote, read_from, write_read}
use Rattle.u_rule.specs.EntryOrder.{EntryList, entry_cmp, firing_cmp}
use Rattle.u_machine.specs.Invariant.{HasNoneOf}
use Rattle.u_rule.proofs.Orders.{derived_entry_cmp, derived_firing_cmp}

-- a token that a firing has at one of its ports is one that it needs
pub token_needed : (f : Firing) (e : Entry) → Contains (tokens_from f.activity 1 f.values) e → Contains (needs_of f) e
unfolding needs_of
token_needed f e m = Contains-append_left (tokens_from f.activity 1 f.values) (write_read f.values f.write) e m

read_is_no_token : (r : Result CellOf FaultKind) (w : Written) (t : TokenParts) → Contains (read_from r w) (token_entry t) → ⊥
read_is_no_token (Ok cell) w t m = elim (Contains-cons_cases (wrote cell w.writer w.value) (token_entry t) [] m) [ inl e ↦ cc | inr k ↦ Contains-nil (token_entry t) k ]
read_is_no_token (Err x) w t m = Contains-nil (token_entry t) m

no_token_read : (vs : ValueList) (w : Option Written) (t : TokenParts) → Contains (write_read vs w) (token_entry t) → ⊥
no_token_read vs None t m = Contains-nil (token_entry t) m
no_token_read vs (Some w) t m = read_is_no_token (cell_named vs) w t m

-- a token that it needs is one that it has at a port
pub needed_token : (f : Firing) (t : TokenParts) → Contains (needs_of f) (token_entry t) → Contains (tokens_from f.activity 1 f.values) (token_entry t)
unfolding needs_of
needed_token f t m =
    elim (Contains-append_cases (tokens_from f.activity 1 f.values) (write_read f.values f.write) (token_entry t) m)
    [ inl a ↦ a | inr b ↦ absurd (no_token_read f.values f.write t b) ]

tokens_activity : (a : Activity) (p : ℕ) (vs : ValueList) (t : TokenParts) → Contains (tokens_from a p vs) (token_entry t) → t.activity ≡ a
tokens_activity a p [] t m = absurd (Contains-nil (token_entry t) m)
tokens_activity a p (v ∷ vs) t m = elim (Contains-cons_cases (token_entry (token a p v)) (token_entry t) (tokens_from a (p + 1) vs) m) [
  | inl e ↦ (let k : token a p v ≡ t = cc in ap (λ (x : TokenParts). x.activity) (sym k))
  | inr k ↦ tokens_activity a (p + 1) vs t k
]

-- and of its activity
pub needs_activity : (f : Firing) (t : TokenParts) → Contains (needs_of f) (token_entry t) → t.activity ≡ f.activity
needs_activity f t m = tokens_activity f.activity 1 f.values t (needed_token f t m)

pub less_if : (o : Ordering) → IsTrue (is_lt o) → o ≡ Less
less_if Less h = refl
less_if Equal h = absurd (cc)
less_if Greater h = absurd (cc)

-- the firing whose activity is before comes before
before_by_activity : (f g : Firing) → name_cmp f.activity g.activity ≡ Less → firing_cmp f g ≡ Less
before_by_activity f g e = derived_firing_cmp f g ∙ rw e refl

then_less : (o r : Ordering) → ordering_then o r ≡ Less → (o ≡ Less) ⊎ (o ≡ Equal)
then_less Less r h = inl refl
then_less Equal r h = inr refl
then_less Greater r h = absurd (cc)

-- of two tokens the first has an activity that is not behind
not_behind : (a t : TokenParts) → entry_cmp (token_entry a) (token_entry t) ≡ Less → (name_cmp a.activity t.activity ≡ Less) ⊎ (a.activity ≡ t.activity)
not_behind a t h =
    elim (then_less (name_cmp a.activity t.activity) _ (sym (derived_entry_cmp (token_entry a) (token_entry t)) ∙ h))
    [ inl l ↦ inl l | inr e ↦ inr (name_cmp_ties a.activity t.activity e) ]

-- Where the first of the late tokens has a later activity than a firing, so has each late token, and the
-- firing stands before all that need one.
pub before_all_late : (late : EntryList) (first : TokenParts) (f g : Firing) (t : TokenParts) → Rises entry_cmp late → slice_get late 0 ≡ Some (token_entry first) → name_cmp f.activity first.activity ≡ Less → Contains late (token_entry t) → Contains (needs_of g) (token_entry t) → firing_cmp f g ≡ Less
before_all_late [] first f g t r at l m n = absurd (Contains-nil (token_entry t) m)
before_all_late (e ∷ late) first f g t r at l m n = before_by_activity f g (subst (λ (a : Activity). name_cmp f.activity a ≡ Less) (needs_activity g t n) behind)
  where
    is : e ≡ token_entry first
    is = cc

    same : token_entry first ≡ token_entry t → name_cmp f.activity t.activity ≡ Less
    same q = let k : first ≡ t = cc in subst (λ (x : TokenParts). name_cmp f.activity x.activity ≡ Less) k l

    behind : name_cmp f.activity t.activity ≡ Less
    behind = elim (Contains-cons_cases e (token_entry t) late m) [
      | inl q ↦ same (sym is ∙ q)
      | inr k ↦ elim (not_behind first t (subst (λ (x : Entry). entry_cmp x (token_entry t) ≡ Less) is (r.0 (token_entry t) k))) [
        | inl b ↦ name_cmp_total.trans f.activity first.activity t.activity l b
        | inr q ↦ subst (λ (a : Activity). name_cmp f.activity a ≡ Less) q l
      ]
    ]

-- what is said of a value that may be there, by what follows from it
pub some_map : {X : Type 0} (P Q : X → Type 0) (o : Option X) → ((x : X) → P x → Q x) → IfSome o P → IfSome o Q
some_map P Q None f h = h
some_map P Q (Some x) f h = f x h

pub none_map : {X : Type 0} (P Q : Type 0) (o : Option X) → (P → Q) → IfNone o P → IfNone o Q
none_map P Q None f h = f h
none_map P Q (Some x) f h = h

-- a token is in a list of tokens from a port on, or is the one at that port
pub none_of_tokens : (set : EntryList) (e : Entry) (rest : EntryList) → (Contains set e → ⊥) → HasNoneOf set rest → HasNoneOf set (e ∷ rest)
none_of_tokens set e rest n none x i m = elim (Contains-cons_cases e x rest m) [ inl q ↦ n (subst (λ (y : Entry). Contains set y) (sym q) i) | inr k ↦ none x i k ]

-- none of the late tokens is needed where none is among the tokens of the firing
pub needs_none : (late : EntryList) (f : Firing) → ((e : Entry) → Contains late e → (t : TokenParts) × (e ≡ token_entry t)) → HasNoneOf late (tokens_from f.activity 1 f.values) → HasNoneOf late (needs_of f)
needs_none late f tokens none e i m =
    let (t, is) = tokens e i in
    none e i (subst (λ (x : Entry). Contains (tokens_from f.activity 1 f.values) x) (sym is) (needed_token f t (subst (λ (x : Entry). Contains (needs_of f) x) is m)))
