-- Links to a statement, as far as the lists of a block were gone over.
use Rattle.std.proofs.Common.{◌≡◌, ℕ, zero, suc, ◌+◌, ◌-◌, ◌<◌, ◌≤◌, refl, ap, sym, ◌∙◌, arith, subst, Bool, true, false, List, [], ◌∷◌, ◌++◌, length, length-append, get_or, Option, Some, None, inl, inr, ◌⊎◌}
use Rattle.std.specs.Prelude.{slice_get, Contains, ◌↔◌}
use Rattle.std.proofs.lemmas.List.Elements.{Contains-push, Contains-push_cases, Contains-append_left}
use Rattle.std.proofs.lemmas.Option.{slice_get_within, slice_get_read}
use Rattle.std.proofs.lemmas.Bool.{false≢true}
use Rattle.u_program.specs.declared.program.Destination.{Destination}
use Rattle.u_program.specs.Parts.{StatementParts}
use Rattle.u_check.specs.Rules.{statement_at, Arc, list_of, destination_in, destination_of}
use Rattle.u_check.proofs.Arcs.{has_number}
use Rattle.u_determinate.specs.Arcs.{destination, Leads}
use Rattle.u_determinate.specs.declared.incoming.Link.{Link}
use Rattle.u_check.proofs.Arcs.{numbered}
use Rattle.u_determinate.specs.declared.incoming.Sources.{Sources}
use Rattle.u_determinate.specs.Flow.{arc_of, IsListed, AreLinks, is_behind, IsBehind, StandsBehind, AreSourcesOf}

abbrev pub link : ℕ → Bool → ℕ → ℕ → Link
link s f place port = record { statement = s; on_false = f; place = place; port = port }

pub same_link : (a b : Link) → a.statement ≡ b.statement → a.on_false ≡ b.on_false → a.place ≡ b.place → a.port ≡ b.port → a ≡ b
same_link a b s f p q =
    ap (λ (x : ℕ). link x a.on_false a.place a.port) s
    ∙ ap (λ (x : Bool). link b.statement x a.place a.port) f
    ∙ ap (λ (x : ℕ). link b.statement b.on_false x a.port) p
    ∙ ap (λ (x : ℕ). link b.statement b.on_false b.place x) q

pub split : (m k : ℕ) → m < k + 1 → (m < k) ⊎ (m ≡ k)
split zero zero h = inr refl
split zero (suc k) h = inl (omega arith)
split (suc m) zero h = absurd (omega (arith, h))
split (suc m) (suc k) h = elim (split m k (omega (arith, h))) [ inl e ↦ inl (omega (arith, e)) | inr e ↦ inr (omega (arith, e)) ]

-- the links are those with A, and those of the list at places below k
abbrev pub Gained : (Link → Type 0) → List Destination → ℕ → Bool → ℕ → ℕ → List Link → Type 0
Gained A ds s f n k links = (l : Link) → Contains links l ↔ (A l ⊎ (IsListed ds s f n l × (l.place < k)))

module _ (A : Link → Type 0) (ds : List Destination) (s : ℕ) (f : Bool) (n : ℕ) where
  pub gained_none : (links : List Link) → ((l : Link) → Contains links l ↔ A l) → Gained A ds s f n 0 links
  gained_none links h l = ((λ m. inl ((h l).0 m)), λ x. elim x [ inl a ↦ (h l).1 a | inr b ↦ absurd (omega (arith, b.1)) ])

  pub gained_one : (k : ℕ) (d : Destination) → slice_get ds k ≡ Some d → d.statement ≡ n → (links : List Link) → Gained A ds s f n k links → Gained A ds s f n (k + 1) (links ++ link s f k d.port ∷ [])
  gained_one k d e q links h l = ((λ m. to (Contains-push_cases links (link s f k d.port) l m)), back)
    where
      there : slice_get ds k ≡ Some (destination n d.port)
      there = e ∙ ap (λ (x : ℕ). Some (destination x d.port)) q

      to : Contains links l ⊎ (link s f k d.port ≡ l) → A l ⊎ (IsListed ds s f n l × (l.place < k + 1))
      to (inl m) = elim ((h l).0 m) [ inl a ↦ inl a | inr b ↦ inr (b.0, omega (arith, b.1)) ]
      to (inr p) =
          inr (subst (λ (x : Link). IsListed ds s f n x × (x.place < k + 1)) p (record { from = refl; list = refl; there = there }, omega arith))

      last : IsListed ds s f n l → l.place ≡ k → link s f k d.port ≡ l
      last i p =
          let z = i.there in
          let y : Some (destination n l.port) ≡ Some (destination n d.port) = sym z ∙ ap (slice_get ds) p ∙ there in
          same_link (link s f k d.port) l (sym i.from) (sym i.list) (sym p) (let w = y in cc)

      back : A l ⊎ (IsListed ds s f n l × (l.place < k + 1)) → Contains (links ++ link s f k d.port ∷ []) l
      back (inl a) = Contains-append_left links (link s f k d.port ∷ []) l ((h l).1 (inl a))
      back (inr b) =
          elim (split l.place k b.1) [
            | inl lt ↦ Contains-append_left links (link s f k d.port ∷ []) l ((h l).1 (inr (b.0, lt)))
            | inr p ↦ subst (Contains (links ++ link s f k d.port ∷ [])) (last b.0 p) (Contains-push links (link s f k d.port))
          ]

  pub gained_other : (k : ℕ) (d : Destination) → slice_get ds k ≡ Some d → (d.statement ≡ n → ⊥) → (links : List Link) → Gained A ds s f n k links → Gained A ds s f n (k + 1) links
  gained_other k d e q links h l =
      ((λ m. elim ((h l).0 m) [ inl a ↦ inl a | inr b ↦ inr (b.0, omega (arith, b.1)) ]), back)
    where
      back : A l ⊎ (IsListed ds s f n l × (l.place < k + 1)) → Contains links l
      back (inl a) = (h l).1 (inl a)
      back (inr b) =
          elim (split l.place k b.1) [
            | inl lt ↦ (h l).1 (inr (b.0, lt))
            | inr p ↦ let y : Some d ≡ Some (destination n l.port) = sym e ∙ ap (slice_get ds) (sym p) ∙ b.0.there in absurd (q (let z = y in cc))
          ]

  pub gained_all : (k : ℕ) → length ds ≤ k → (links : List Link) → Gained A ds s f n k links → (l : Link) → Contains links l ↔ (A l ⊎ IsListed ds s f n l)
  gained_all k e links h l =
      ((λ m. elim ((h l).0 m) [ inl a ↦ inl a | inr b ↦ inr b.0 ]), λ x. elim x [ inl a ↦ (h l).1 (inl a) | inr b ↦ (let w = slice_get_within ds l.place (destination n l.port) b.there in (h l).1 (inr (b, omega (arith, w, e)))) ])

-- a destination of a statement of the block is where an arc leads
pub leads_of : (ss : List StatementParts) (m : ℕ) (s : StatementParts) (f : Bool) (n : ℕ) (l : Link) → statement_at ss m ≡ Some s → IsListed (list_of s f) m f n l → Leads ss n l.port (arc_of l)
leads_of ss m s f n l e i =
    let x : statement_at ss l.statement ≡ Some s = ap (statement_at ss) i.from ∙ e in
    ap (λ (o : Option StatementParts). destination_in o (arc_of l)) x
    ∙ ap (λ (b : Bool). slice_get (list_of s b) l.place) i.list ∙ i.there

pub listed_of : (ss : List StatementParts) (s : StatementParts) (n : ℕ) (l : Link) → statement_at ss l.statement ≡ Some s → Leads ss n l.port (arc_of l) → IsListed (list_of s l.on_false) l.statement l.on_false n l
listed_of ss s n l e h = record {
  from = refl;
  list = refl;
  there = sym (ap (λ (o : Option StatementParts). destination_in o (arc_of l)) e) ∙ h;
}

-- what an arc comes from is a statement of the block
pub stands_of : (ss : List StatementParts) (a : Arc) (d : Destination) → destination_of ss a ≡ Some d → (s : StatementParts) × (statement_at ss a.statement ≡ Some s)
stands_of ss a d e = at (statement_at ss a.statement) refl e
  where
    at : (o : Option StatementParts) → statement_at ss a.statement ≡ o → destination_in o a ≡ Some d → (s : StatementParts) × (statement_at ss a.statement ≡ Some s)
    at None z q = cc
    at (Some s) z q = (s, z)

-- a statement's number is from 1 to their count
pub number_within : (ss : List StatementParts) (n : ℕ) (s : StatementParts) → statement_at ss n ≡ Some s → (1 ≤ n) × (n ≤ length ss)
number_within ss n s e =
    let h = has_number ss n s e in
    let w = slice_get_within ss (n - 1) s h.1 in
    (h.0, omega (arith, h.0, w))

-- the links are the arcs to statement n from the first k statements
abbrev pub LinksFrom : List StatementParts → ℕ → ℕ → List Link → Type 0
LinksFrom ss n k links = (l : Link) → Contains links l ↔ (Leads ss n l.port (arc_of l) × (l.statement ≤ k))

module _ (ss : List StatementParts) (n : ℕ) where
  pub links_none : LinksFrom ss n 0 []
  links_none l = ((λ m. absurd (none m)), λ h. (let s = stands_of ss (arc_of l) _ h.0 in let w = number_within ss l.statement s.0 s.1 in absurd (omega (arith, w.0, h.1))))
    where
      none : Contains [] l → ⊥
      none (i, b, e) = omega (arith, b)

  pub links_more : (k : ℕ) (s : StatementParts) → statement_at ss (k + 1) ≡ Some s → (a b c : List Link) → LinksFrom ss n k a → ((l : Link) → Contains b l ↔ (Contains a l ⊎ IsListed s.to (k + 1) false n l)) → ((l : Link) → Contains c l ↔ (Contains b l ⊎ IsListed s.otherwise (k + 1) true n l)) → LinksFrom ss n (k + 1) c
  links_more k s e a b c ha hb hc l = (to, back)
    where
      here : (f : Bool) → IsListed (list_of s f) (k + 1) f n l → Leads ss n l.port (arc_of l) × (l.statement ≤ k + 1)
      here f i = (leads_of ss (k + 1) s f n l e i, omega (arith, i.from))

      to : Contains c l → Leads ss n l.port (arc_of l) × (l.statement ≤ k + 1)
      to m =
          elim ((hc l).0 m) [
            | inr i ↦ here true i
            | inl m ↦ elim ((hb l).0 m) [ inr i ↦ here false i | inl m ↦ (let z = (ha l).0 m in (z.0, omega (arith, z.1))) ]
          ]

      by : (f : Bool) → IsListed (list_of s f) (k + 1) f n l → Contains c l
      by true i = (hc l).1 (inr i)
      by false i = (hc l).1 (inl ((hb l).1 (inr i)))

      back : Leads ss n l.port (arc_of l) × (l.statement ≤ k + 1) → Contains c l
      back h =
          elim (split l.statement (k + 1) (omega (arith, h.1))) [
            | inl lt ↦ (hc l).1 (inl ((hb l).1 (inl ((ha l).1 (h.0, omega (arith, lt))))))
            | inr p ↦
                let i = listed_of ss s n l (ap (statement_at ss) p ∙ e) h.0 in
                by l.on_false (record { from = p; list = refl; there = i.there })
          ]

  pub links_all : (k : ℕ) → length ss ≤ k → (links : List Link) → LinksFrom ss n k links → AreLinks ss n links
  links_all k e links h l =
      ((λ m. ((h l).0 m).0), λ x. (let s = stands_of ss (arc_of l) _ x in let w = number_within ss l.statement s.0 s.1 in (h l).1 (x, omega (arith, w.1, e))))

-- what an element at a place is, by its number
pub statement_there : (ss : List StatementParts) (i : ℕ) (s : StatementParts) → i < length ss → s ≡ get_or ss i s → statement_at ss (i + 1) ≡ Some s
statement_there ss i s lt e = numbered ss i ∙ slice_get_read ss (length ss) i s refl lt e

-- the numbers are those of the first k statements that stand behind statement n
abbrev pub BehindFrom : List StatementParts → ℕ → StatementParts → ℕ → List ℕ → Type 0
BehindFrom ss n s k ms = (m : ℕ) → Contains ms m ↔ (IsBehind ss n s m × (m ≤ k))

module _ (ss : List StatementParts) (n : ℕ) (s : StatementParts) where
  pub behind_none : BehindFrom ss n s 0 []
  behind_none m =
      ((λ h. absurd (none h)), λ h. (let w = number_within ss m h.0.it h.0.stands in absurd (omega (arith, w.0, h.1))))
    where
      none : Contains [] m → ⊥
      none (i, b, e) = omega (arith, b)

  pub behind_one : (k : ℕ) (t : StatementParts) → statement_at ss (k + 1) ≡ Some t → is_behind n s s.kind t.kind ≡ true → (ms : List ℕ) → BehindFrom ss n s k ms → BehindFrom ss n s (k + 1) (ms ++ (k + 1) ∷ [])
  behind_one k t e y ms h m = ((λ x. to (Contains-push_cases ms (k + 1) m x)), back)
    where
      to : Contains ms m ⊎ (k + 1 ≡ m) → IsBehind ss n s m × (m ≤ k + 1)
      to (inl x) = (let z = (h m).0 x in (z.0, omega (arith, z.1)))
      to (inr p) =
          subst (λ (i : ℕ). IsBehind ss n s i × (i ≤ k + 1)) p (record { it = t; stands = e; names = y }, omega arith)

      back : IsBehind ss n s m × (m ≤ k + 1) → Contains (ms ++ (k + 1) ∷ []) m
      back x =
          elim (split m (k + 1) (omega (arith, x.1))) [
            | inl lt ↦ Contains-append_left ms ((k + 1) ∷ []) m ((h m).1 (x.0, omega (arith, lt)))
            | inr p ↦ subst (Contains (ms ++ (k + 1) ∷ [])) (sym p) (Contains-push ms (k + 1))
          ]

  pub behind_other : (k : ℕ) (t : StatementParts) → statement_at ss (k + 1) ≡ Some t → is_behind n s s.kind t.kind ≡ false → (ms : List ℕ) → BehindFrom ss n s k ms → BehindFrom ss n s (k + 1) ms
  behind_other k t e y ms h m = ((λ x. (let z = (h m).0 x in (z.0, omega (arith, z.1)))), back)
    where
      back : IsBehind ss n s m × (m ≤ k + 1) → Contains ms m
      back x =
          elim (split m (k + 1) (omega (arith, x.1))) [
            | inl lt ↦ (h m).1 (x.0, omega (arith, lt))
            | inr p ↦
                let q : Some x.0.it ≡ Some t = sym x.0.stands ∙ ap (statement_at ss) p ∙ e in
                let z : x.0.it ≡ t = cc in
                absurd (false≢true (sym y ∙ ap (λ (u : StatementParts). is_behind n s s.kind u.kind) (sym z) ∙ x.0.names))
          ]

  pub behind_all : (k : ℕ) → length ss ≤ k → (ms : List ℕ) → BehindFrom ss n s k ms → (m : ℕ) → Contains ms m ↔ IsBehind ss n s m
  behind_all k e ms h m =
      ((λ x. ((h m).0 x).0), λ x. (let w = number_within ss m x.it x.stands in (h m).1 (x, omega (arith, w.1, e))))

pub behind_some : (ss : List StatementParts) (n : ℕ) (s : StatementParts) → statement_at ss n ≡ Some s → (ms : List ℕ) → ((m : ℕ) → Contains ms m ↔ IsBehind ss n s m) → (m : ℕ) → Contains ms m ↔ StandsBehind ss n m
behind_some ss n s e ms h m = ((λ x. (s, e, (h m).0 x)), λ x. (h m).1 (same x.0 x.1 x.2))
  where
    same : (t : StatementParts) → statement_at ss n ≡ Some t → IsBehind ss n t m → IsBehind ss n s m
    same t q b =
        let z : Some t ≡ Some s = sym q ∙ e in
        let y : t ≡ s = cc in
        subst (λ (u : StatementParts). IsBehind ss n u m) y b

pub behind_nobody : (ss : List StatementParts) (n : ℕ) → statement_at ss n ≡ None → (m : ℕ) → Contains [] m ↔ StandsBehind ss n m
behind_nobody ss n e m = ((λ h. absurd (none h)), λ x. (let q = x.1 in absurd (let z : None ≡ Some x.0 = sym e ∙ q in cc)))
  where
    none : Contains [] m → ⊥
    none (i, b, h) = omega (arith, b)

-- the table as far as it was made
abbrev pub SourcesBelow : List StatementParts → ℕ → List Sources → Type 0
SourcesBelow ss k table =
    (length table ≡ k) × ((n : ℕ) (p : Sources) → slice_get table n ≡ Some p → AreSourcesOf ss n p)

pub pushed : {X : Type 0} (xs : List X) (p : X) (n : ℕ) (y : X) → slice_get (xs ++ p ∷ []) n ≡ Some y → (slice_get xs n ≡ Some y) ⊎ ((n ≡ length xs) × (p ≡ y))
pushed [] p zero y e = inr (refl, cc)
pushed [] p (suc n) y e = absurd (cc)
pushed (x ∷ xs) p zero y e = inl e
pushed (x ∷ xs) p (suc n) y e = elim (pushed xs p n y e) [ inl h ↦ inl h | inr h ↦ inr (omega (arith, h.0), h.1) ]

pub sources_more : (ss : List StatementParts) (k : ℕ) (table : List Sources) (p : Sources) → SourcesBelow ss k table → AreLinks ss k p.links.items → ((m : ℕ) → Contains p.behind.items m ↔ StandsBehind ss k m) → SourcesBelow ss (k + 1) (table ++ p ∷ [])
sources_more ss k table p h links behind =
    (omega (arith, length-append table (p ∷ []), h.0), λ n y e. by n y (pushed table p n y e))
  where
    it : AreSourcesOf ss k p
    it = record { links = links; behind = behind }

    by : (n : ℕ) (y : Sources) → (slice_get table n ≡ Some y) ⊎ ((n ≡ length table) × (p ≡ y)) → AreSourcesOf ss n y
    by n y (inl e) = h.1 n y e
    by n y (inr (e, q)) = subst (λ (z : Sources). AreSourcesOf ss n z) q (subst (λ (i : ℕ). AreSourcesOf ss i p) (omega (arith, e, h.0)) it)
