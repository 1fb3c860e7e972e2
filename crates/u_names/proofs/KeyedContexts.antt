-- The contexts that keys give, and their numbers.
use Rattle.std.proofs.Common.{◌≡◌, inl, inr, ℕ, suc, ◌+◌, ◌-◌, ◌<◌, Bool, true, false, List, [], ◌∷◌, ◌++◌, Contains, length, get_or, Some, subst, sym, ap, ◌∙◌, refl, arith}
use Rattle.std.specs.Prelude.{slice_get, ◌^◌}
use Rattle.u_base.specs.Firing.{Distinct}
use Rattle.u_base.proofs.Member.{Contains-nil, Contains-head, Contains-tail, Contains-cons_cases}
use Rattle.u_name.specs.Context.{Tree, Top, InLoop, InCall}
use Rattle.u_sets.specs.Members.{GoesLast}
use Rattle.u_sets.proofs.Keyed.{joined}
use Rattle.u_names.specs.Contexts.{KeyParts, context_key, key_within, tree_by_kind, tree_around, tree_at, trees_at, AreContexts}
use Rattle.u_names.proofs.OneNumber.{one_place}
use Rattle.u_names.proofs.Mapped.{get_is, get_at, below_at, there_at, front_stays, longer, pushed, old_or_last, given_back, get_given, given_last, given_length}

get_next : {X : Type 0} (x : X) (xs : List X) (p : ℕ) → slice_get (x ∷ xs) (p + 1) ≡ slice_get xs p
get_next x xs p = let e : p + 1 ≡ suc p = omega arith in subst (λ (n : ℕ). slice_get (x ∷ xs) n ≡ slice_get xs p) (sym e) refl

-- the outer context, and the key where its number is 0
abbrev parts_of : Tree → Tree × KeyParts
parts_of Top = (Top, context_key false 0 [] 0 0)
parts_of (InLoop o b m i) = (o, context_key false 0 b m i)
parts_of (InCall o b m i) = (o, context_key true 0 b m i)

around_parts : (o : Tree) (k : KeyParts) → parts_of (tree_around o k) ≡ (o, key_within 0 k)
around_parts o k = at k.is_call
  where
    at : (b : Bool) → parts_of (tree_by_kind b o k.block k.number k.initiation) ≡ (o, context_key b 0 k.block k.number k.initiation)
    at true = refl
    at false = refl

not_root : (o : Tree) (k : KeyParts) → tree_around o k ≡ Top → ⊥
not_root o k = at k.is_call
  where
    at : (b : Bool) → tree_by_kind b o k.block k.number k.initiation ≡ Top → ⊥
    at true e = cc
    at false e = cc

same_parts : (o p : Tree) (k l : KeyParts) → tree_around o k ≡ tree_around p l → ◌≡◌ {A = Tree × KeyParts} (o, key_within 0 k) (p, key_within 0 l)
same_parts o p k l e = sym (around_parts o k) ∙ ap parts_of e ∙ around_parts p l

-- the key of a context is that of its outer one's number
pub key_back : (cs : List Tree) (n : ℕ) (o t : Tree) (k : KeyParts) → slice_get cs n ≡ Some o → tree_around o k ≡ t → tree_at cs (key_within n k) ≡ t
key_back cs n o t k at is = ap (λ (u : Tree). tree_around u k) (get_at cs n Top o at) ∙ is

module _ (cs : List Tree) (apart : Distinct cs) where
  -- keys with one context are one
  pub same_key : (k l : KeyParts) → k.outer < length cs → l.outer < length cs → tree_at cs k ≡ tree_at cs l → k ≡ l
  same_key k l m n e =
      let o : Tree = get_or cs k.outer Top in
      let p : Tree = get_or cs l.outer Top in
      let both = same_parts o p k l e in
      let h : o ≡ p = ap (λ (r : Tree × KeyParts). r.0) both in
      let i : k.outer ≡ l.outer = one_place cs apart k.outer l.outer p (get_is cs k.outer Top m ∙ ap (λ (u : Tree). Some u) h) (get_is cs l.outer Top n) in
      ap (λ (r : Tree × KeyParts). key_within k.outer r.1) both ∙ ap (λ (j : ℕ). key_within j l) i

-- contexts behind leave those of the keys
trees_still : (cs more : List Tree) (ks : List KeyParts) → ((k : KeyParts) → Contains ks k → k.outer < length cs) → trees_at (cs ++ more) ks ≡ trees_at cs ks
trees_still cs more [] h = refl
trees_still cs more (k ∷ ks) h =
    ap (λ (o : Tree). tree_around o k ∷ trees_at (cs ++ more) ks) (front_stays cs more Top k.outer (h k (Contains-head k ks)))
    ∙ ap (λ (us : List Tree). tree_at cs k ∷ us) (trees_still cs more ks (λ l m. h l (Contains-tail k l ks m)))

apart_last : (cs : List Tree) (t : Tree) → Distinct cs → (Contains cs t → ⊥) → Distinct (cs ++ t ∷ [])
apart_last cs t d none = joined cs (t ∷ []) d (Contains-nil t, tt) (λ u m n. elim (Contains-cons_cases t u [] n) [
  | inl e ↦ none (subst (λ (v : Tree). Contains cs v) (sym e) m)
  | inr k ↦ Contains-nil u k
])

no_more : (ks ls : List KeyParts) (k : KeyParts) → GoesLast ks k ls → (Contains ks k → ⊥) → ls ≡ ks ++ k ∷ []
no_more ks ls k (inl (m, e)) none = absurd (none m)
no_more ks ls k (inr (n, e)) none = e

module _ (root : Tree) (ts : List Tree) (ks : List KeyParts) (c : AreContexts root ts ks) where
  at_key : (p : ℕ) (k : KeyParts) → slice_get ks p ≡ Some k → slice_get ts p ≡ Some (tree_at (root ∷ ts) k)
  at_key p k e = subst (λ (us : List Tree). slice_get us p ≡ Some (tree_at (root ∷ ts) k)) c.keyed (get_given (λ (l : KeyParts). tree_at (root ∷ ts) l) ks p k e)

  as_long : length ks ≡ length ts
  as_long = sym (given_length (λ (l : KeyParts). tree_at (root ∷ ts) l) ks) ∙ ap length c.keyed

  -- the number of a context, by the place of its key
  pub number_at : (p : ℕ) (k : KeyParts) (t : Tree) → slice_get ks p ≡ Some k → tree_at (root ∷ ts) k ≡ t → slice_get (root ∷ ts) (p + 1) ≡ Some t
  number_at p k t e is = get_next root ts p ∙ at_key p k e ∙ ap (λ (u : Tree). Some u) is

  pub number_fits : (p : ℕ) (k : KeyParts) → slice_get ks p ≡ Some k → p + 1 < 2 ^ 32
  number_fits p k e = let l = below_at ks p k e in let n = as_long in let f = c.few in omega (arith, l, n, f)

  pub root_number : (t : Tree) → t ≡ Top → slice_get (root ∷ ts) 0 ≡ Some t
  root_number t e = ap (λ (u : Tree). Some u) (c.first ∙ sym e)

  key_of : (t : Tree) → (t ≡ Top → ⊥) → Contains (root ∷ ts) t → (k : KeyParts) × Contains ks k × (tree_at (root ∷ ts) k ≡ t)
  key_of t inner m = elim (Contains-cons_cases root t ts m) [
    | inl e ↦ absurd (inner (sym e ∙ c.first))
    | inr n ↦ given_back (λ (l : KeyParts). tree_at (root ∷ ts) l) ks t (subst (λ (us : List Tree). Contains us t) (sym c.keyed) n)
  ]

  -- a context whose key is not there is not there
  pub no_context : (k : KeyParts) (t : Tree) → tree_at (root ∷ ts) k ≡ t → k.outer < length (root ∷ ts) → (Contains ks k → ⊥) → Contains (root ∷ ts) t → ⊥
  no_context k t is l none m =
      let r = key_of t (λ e. not_root (get_or (root ∷ ts) k.outer Top) k (is ∙ e)) m in
      let e : r.0 ≡ k = same_key (root ∷ ts) c.distinct r.0 k (c.outer r.0 r.1) l (r.2 ∙ sym is) in
      none (subst (λ (j : KeyParts). Contains ks j) e r.1)

  -- nor one whose outer context is not there
  pub no_outer : (k : KeyParts) (o t : Tree) → tree_around o k ≡ t → (Contains (root ∷ ts) o → ⊥) → Contains (root ∷ ts) t → ⊥
  no_outer k o t is none m =
      let r = key_of t (λ e. not_root o k (is ∙ e)) m in
      let e : get_or (root ∷ ts) (r.0).outer Top ≡ o = ap (λ (p : Tree × KeyParts). p.0) (same_parts (get_or (root ∷ ts) (r.0).outer Top) o r.0 k (r.2 ∙ sym is)) in
      none (subst (λ (u : Tree). Contains (root ∷ ts) u) e (there_at (root ∷ ts) (r.0).outer Top (c.outer r.0 r.1)))

  -- another context
  module _ (k : KeyParts) (t : Tree) (ls : List KeyParts) (us : List Tree) (is : tree_at (root ∷ ts) k ≡ t) (l : k.outer < length (root ∷ ts)) (none : Contains ks k → ⊥) (g : GoesLast ks k ls) (p : us ≡ ts ++ t ∷ []) where
    apart_more : Distinct (root ∷ ts ++ t ∷ [])
    apart_more = apart_last (root ∷ ts) t c.distinct (no_context k t is l none)

    keyed_more : trees_at (root ∷ ts ++ t ∷ []) ls ≡ ts ++ t ∷ []
    keyed_more =
        ap (λ (js : List KeyParts). trees_at (root ∷ ts ++ t ∷ []) js) (no_more ks ls k g none)
        ∙ given_last (λ (j : KeyParts). tree_at (root ∷ ts ++ t ∷ []) j) ks k
        ∙ ap (λ (vs : List Tree). vs ++ tree_at (root ∷ ts ++ t ∷ []) k ∷ []) (trees_still (root ∷ ts) (t ∷ []) ks c.outer ∙ c.keyed)
        ∙ ap (λ (u : Tree). ts ++ u ∷ []) (ap (λ (o : Tree). tree_around o k) (front_stays (root ∷ ts) (t ∷ []) Top k.outer l) ∙ is)

    outer_more : (j : KeyParts) → Contains ls j → j.outer < length (root ∷ ts ++ t ∷ [])
    outer_more j m = let n = longer ts (t ∷ []) in elim (old_or_last ks ls k j g m) [
      | inl o ↦ let h = c.outer j o in omega (arith, h, n)
      | inr e ↦ subst (λ (i : KeyParts). i.outer < length (root ∷ ts ++ t ∷ [])) e (omega (arith, l, n))
    ]

    pub more_contexts : length ts < 2 ^ 32 - 1 → AreContexts root us ls
    more_contexts room = subst (λ (vs : List Tree). AreContexts root vs ls) (sym p) (record {
      first = c.first;
      distinct = apart_more;
      keyed = keyed_more;
      outer = outer_more;
      few = let n = pushed ts t in omega (arith, room, n);
    })

    pub still_key : tree_at (root ∷ us) k ≡ t
    still_key = subst (λ (vs : List Tree). tree_at (root ∷ vs) k ≡ t) (sym p) (ap (λ (o : Tree). tree_around o k) (front_stays (root ∷ ts) (t ∷ []) Top k.outer l) ∙ is)
