-- The names that frames and places give.
use Rattle.std.proofs.Common.{◌≡◌, inl, inr, ℕ, ◌<◌, ◌≤◌, List, [], ◌∷◌, ◌++◌, Contains, length, get_or, Some, subst, sym, ap, ◌∙◌, refl, arith}
use Rattle.std.specs.Prelude.{slice_get, ◌^◌}
use Rattle.u_base.specs.Firing.{Distinct}
use Rattle.u_base.proofs.Member.{Contains-head, Contains-tail}
use Rattle.u_name.specs.Name.{Activity}
use Rattle.u_name.specs.Context.{Tree}
use Rattle.u_sets.specs.Members.{GoesLast}
use Rattle.u_names.specs.Frames.{FrameParts, frame, frame_of}
use Rattle.u_names.specs.Places.{NamePlaceParts, place, place_of, IsPlace}
use Rattle.u_names.specs.NameLists.{name_in, name_at, names_at, no_frame, HaveFrames, AreNames}
use Rattle.u_names.proofs.OneNumber.{one_place}
use Rattle.u_names.proofs.Mapped.{get_is, get_at, below_at, there_at, stays_at, no_shorter, old_or_last, given, given_back, get_given, given_last, given_distinct}

same_parts : (f g : FrameParts) → f.context ≡ g.context → f.block ≡ g.block → f ≡ g
same_parts f g c b = ap (λ (t : Tree). frame t f.block) c ∙ ap (λ (k : List ℕ). frame g.context k) b

-- a name is that of its place
pub name_back : (fs : List FrameParts) (k : ℕ) (a : Activity) → slice_get fs k ≡ Some (frame_of a) → name_at fs (place_of k a) ≡ a
name_back fs k a e = ap (λ (f : FrameParts). name_in f (place_of k a)) (get_at fs k no_frame (frame_of a) e)

module _ (fs : List FrameParts) (apart : Distinct fs) where
  -- places with one name are one
  pub same_place : (p q : NamePlaceParts) → p.frame < length fs → q.frame < length fs → name_at fs p ≡ name_at fs q → p ≡ q
  same_place p q l m e =
      let f : FrameParts = get_or fs p.frame no_frame in
      let g : FrameParts = get_or fs q.frame no_frame in
      let h : f ≡ g = same_parts f g (ap (λ (a : Activity). a.context) e) (ap (λ (a : Activity). a.block) e) in
      let i : p.frame ≡ q.frame = one_place fs apart p.frame q.frame g (get_is fs p.frame no_frame l ∙ ap (λ (x : FrameParts). Some x) h) (get_is fs q.frame no_frame m) in
      ap (λ (k : ℕ). place k p.statement p.initiation) i
      ∙ ap (λ (k : ℕ). place q.frame k p.initiation) (ap (λ (a : Activity). a.statement) e)
      ∙ ap (λ (k : ℕ). place q.frame q.statement k) (ap (λ (a : Activity). a.initiation) e)

  pub names_distinct : (ps : List NamePlaceParts) → HaveFrames fs ps → Distinct ps → Distinct (names_at fs ps)
  names_distinct ps h d = given_distinct (λ (p : NamePlaceParts). name_at fs p) ps (λ p q m n e. same_place p q (h p m) (h q n) e) d

  -- a name whose place is not there is not there
  pub no_place : (ps : List NamePlaceParts) (k : ℕ) (a : Activity) → HaveFrames fs ps → slice_get fs k ≡ Some (frame_of a) → (Contains ps (place_of k a) → ⊥) → Contains (names_at fs ps) a → ⊥
  no_place ps k a h at none m =
      let r = given_back (λ (p : NamePlaceParts). name_at fs p) ps a m in
      let e : r.0 ≡ place_of k a = same_place r.0 (place_of k a) (h r.0 r.1) (below_at fs k (frame_of a) at) (r.2 ∙ sym (name_back fs k a at)) in
      none (subst (λ (p : NamePlaceParts). Contains ps p) e r.1)

  -- nor one whose frame has too great a number
  pub no_number : (ps : List NamePlaceParts) (k : ℕ) (a : Activity) → HaveFrames fs ps → ((p : NamePlaceParts) → Contains ps p → IsPlace p) → slice_get fs k ≡ Some (frame_of a) → 2 ^ 32 ≤ k → Contains (names_at fs ps) a → ⊥
  no_number ps k a h ranged at far = no_place ps k a h at (λ m. let l = (ranged (place_of k a) m).frame in omega (arith, l, far))

-- nor one whose frame is not there
pub no_frame_of : (fs : List FrameParts) (ps : List NamePlaceParts) (a : Activity) → HaveFrames fs ps → (Contains fs (frame_of a) → ⊥) → Contains (names_at fs ps) a → ⊥
no_frame_of fs ps a h none m =
    let r = given_back (λ (p : NamePlaceParts). name_at fs p) ps a m in
    let f : FrameParts = get_or fs (r.0).frame no_frame in
    let e : f ≡ frame_of a = same_parts f (frame_of a) (ap (λ (b : Activity). b.context) r.2) (ap (λ (b : Activity). b.block) r.2) in
    none (subst (λ (g : FrameParts). Contains fs g) e (there_at fs (r.0).frame no_frame (h r.0 r.1)))

-- another frame leaves the names
pub names_still : (fs more : List FrameParts) (f : FrameParts) (ps : List NamePlaceParts) → GoesLast fs f more → HaveFrames fs ps → names_at more ps ≡ names_at fs ps
names_still fs more f [] g h = refl
names_still fs more f (p ∷ ps) g h =
    ap (λ (x : FrameParts). name_in x p ∷ names_at more ps) (stays_at fs more f no_frame p.frame g (h p (Contains-head p ps)))
    ∙ ap (λ (ns : List Activity). name_at fs p ∷ ns) (names_still fs more f ps g (λ q m. h q (Contains-tail p q ps m)))

pub still_framed : (fs more : List FrameParts) (f : FrameParts) (ps : List NamePlaceParts) → GoesLast fs f more → HaveFrames fs ps → HaveFrames more ps
still_framed fs more f ps g h p m = let l = h p m in let k = no_shorter fs more f g in omega (arith, l, k)

pub still_names : (fs more : List FrameParts) (f : FrameParts) (ps : List NamePlaceParts) → GoesLast fs f more → Distinct more → AreNames fs ps → AreNames more ps
still_names fs more f ps g d n = record {
  frames = d;
  places = n.places;
  framed = still_framed fs more f ps g n.framed;
  ranged = n.ranged;
}

-- another name
module _ (fs more : List FrameParts) (ps qs : List NamePlaceParts) (k : ℕ) (a : Activity) (n : AreNames fs ps) (g : GoesLast fs (frame_of a) more) (d : Distinct more) (at : slice_get more k ≡ Some (frame_of a)) (l : GoesLast ps (place_of k a) qs) where
  pub name_last : GoesLast (names_at fs ps) a (names_at more qs)
  name_last = elim l [
    | inl (m, e) ↦
        inl (subst (λ (ns : List Activity). Contains ns a) still (subst (λ (b : Activity). Contains (names_at more ps) b) back (given (λ (p : NamePlaceParts). name_at more p) ps (place_of k a) m)), ap (λ (rs : List NamePlaceParts). names_at more rs) e ∙ still)
    | inr (m, e) ↦
        inr (
          (λ c. no_place more d ps k a (still_framed fs more (frame_of a) ps g n.framed) at m (subst (λ (ns : List Activity). Contains ns a) (sym still) c)),
          ap (λ (rs : List NamePlaceParts). names_at more rs) e
              ∙ given_last (λ (p : NamePlaceParts). name_at more p) ps (place_of k a)
              ∙ ap (λ (ns : List Activity). ns ++ name_at more (place_of k a) ∷ []) still
              ∙ ap (λ (b : Activity). names_at fs ps ++ b ∷ []) back,
        )
  ]
    where
      still : names_at more ps ≡ names_at fs ps
      still = names_still fs more (frame_of a) ps g n.framed

      back : name_at more (place_of k a) ≡ a
      back = name_back more k a at

  pub more_framed : HaveFrames more qs
  more_framed p m = elim (old_or_last ps qs (place_of k a) p l m) [
    | inl o ↦ still_framed fs more (frame_of a) ps g n.framed p o
    | inr e ↦ subst (λ (q : NamePlaceParts). q.frame < length more) e (below_at more k (frame_of a) at)
  ]

  pub more_names : Distinct qs → IsPlace (place_of k a) → AreNames more qs
  more_names apart in_range = record {
    frames = d;
    places = apart;
    framed = more_framed;
    ranged = λ p m. elim (old_or_last ps qs (place_of k a) p l m) [ inl o ↦ n.ranged p o | inr e ↦ subst (λ (q : NamePlaceParts). IsPlace q) e in_range ];
  }

  pub more_distinct : Distinct qs → Distinct (names_at more qs)
  more_distinct apart = names_distinct more d qs more_framed apart

pub number_back : (fs : List FrameParts) (ps : List NamePlaceParts) (k i : ℕ) (a : Activity) → slice_get fs k ≡ Some (frame_of a) → slice_get ps i ≡ Some (place_of k a) → slice_get (names_at fs ps) i ≡ Some a
number_back fs ps k i a at is = get_given (λ (p : NamePlaceParts). name_at fs p) ps i (place_of k a) is ∙ ap (λ (b : Activity). Some b) (name_back fs k a at)
