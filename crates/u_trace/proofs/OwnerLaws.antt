-- The numbers of the activities of firings, as more are noted.
use Rattle.std.proofs.Common.{◌≡◌, ℕ, List, [], ◌∷◌, ◌++◌, ◌⊎◌, inl, inr, sym, subst, ◌∙◌, ap, length, length-append, append_assoc, append-nil, Some, arith}
use Rattle.std.specs.Prelude.{slice_get}
use Rattle.u_sets.specs.Columns.{IsNumberOf}
use Rattle.u_names.specs.Groups.{Grows}
use Rattle.u_name.specs.Name.{Activity}
use Rattle.u_rule.specs.declared.firing.Firing.{Firing}
use Rattle.u_trace.specs.Numbers.{number_in}
use Rattle.u_trace.specs.Table.{Owns, StillOwns, OwnsMore}
use Rattle.u_trace.specs.declared.table.Givers.{Givers}
use Rattle.u_trace.proofs.Lists.{get_longer, get_push_cases, get_push_end, same_at}
use Rattle.u_trace.proofs.NumberLaws.{number_is}

grows_itself : (xs ys : List Activity) → ys ≡ xs → Grows xs ys
grows_itself xs ys e = ([], e ∙ sym (append-nil xs))

grows_on : (xs ys zs : List Activity) → Grows xs ys → Grows ys zs → Grows xs zs
grows_on xs ys zs (r, e) (t, f) = (r ++ t, f ∙ ap (λ (us : List Activity). us ++ t) e ∙ append_assoc xs r t)

grown_at : (xs ys : List Activity) (a : Activity) (n : ℕ) → Grows xs ys → IsNumberOf xs a n → IsNumberOf ys a n
grown_at xs ys a n (r, e) h = subst (λ (us : List Activity). IsNumberOf us a n) (sym e) (get_longer xs r n a h)

pub still_same : (old new : Givers) → new.names ≡ old.names → new.owners.items ≡ old.owners.items → StillOwns old new
still_same old new e f = record { names = grows_itself old.names new.names e; owners = f }

pub still_on : (a b c : Givers) → StillOwns a b → StillOwns b c → StillOwns a c
still_on a b c s t = record { names = grows_on a.names b.names c.names s.names t.names; owners = t.owners ∙ s.owners }

pub owns_none : (g : Givers) → g.owners.items ≡ [] → Owns g []
owns_none g e = record { count = ap (λ (ns : List ℕ). length ns) e; owners = λ k f h. absurd (cc) }

pub owns_still : (old new : Givers) (fs : List Firing) → Owns old fs → StillOwns old new → Owns new fs
owns_still old new fs o s = record {
  count = ap (λ (ns : List ℕ). length ns) s.owners ∙ o.count;
  owners = λ k f e. (let r = o.owners k f e in (r.0, ap (λ (ns : List ℕ). slice_get ns k) s.owners ∙ r.1, grown_at old.names new.names f.activity r.0 s.names r.2));
}

pub owns_more : (old new : Givers) (fs : List Firing) (f : Firing) → Owns old fs → OwnsMore old f new → Owns new (fs ++ f ∷ [])
owns_more old new fs f o m = record {
  count = (let h = ap (λ (ns : List ℕ). length ns) m.owners in let q = length-append old.owners.items (m.number ∷ []) in let r = length-append fs (f ∷ []) in let c = o.count in omega (arith, h, q, r, c));
  owners = λ k g e. subst (λ (ns : List ℕ). (n : ℕ) × (slice_get ns k ≡ Some n) × IsNumberOf new.names g.activity n) (sym m.owners) (at k g (get_push_cases fs f g k e));
}
  where
    at : (k : ℕ) (g : Firing) → (slice_get fs k ≡ Some g) ⊎ ((length fs ≡ k) × (f ≡ g)) → (n : ℕ) × (slice_get (old.owners.items ++ m.number ∷ []) k ≡ Some n) × IsNumberOf new.names g.activity n
    at k g (inl h) = let r = o.owners k g h in (r.0, get_longer old.owners.items (m.number ∷ []) k r.0 r.1, grown_at old.names new.names g.activity r.0 m.names r.2)
    at k g (inr (l, is)) = (
      m.number,
      subst (λ (j : ℕ). slice_get (old.owners.items ++ m.number ∷ []) j ≡ Some m.number) (o.count ∙ l) (get_push_end old.owners.items m.number),
      subst (λ (x : Firing). IsNumberOf new.names x.activity m.number) is m.is,
    )

-- the number that stands at a firing's place is that of its activity
pub owner_is : (g : Givers) (fs : List Firing) (k n : ℕ) (f : Firing) → Owns g fs → slice_get fs k ≡ Some f → slice_get g.owners.items k ≡ Some n → n ≡ number_in g.names f.activity
owner_is g fs k n f o e h =
    let r = o.owners k f e in
    same_at g.owners.items k n r.0 h r.1 ∙ number_is g.names f.activity r.0 g.one_number r.2
