-- The frames that keys give, and their numbers.
use Rattle.std.proofs.Common.{◌≡◌, inl, inr, ℕ, ◌<◌, Bool, true, false, List, [], ◌∷◌, ◌++◌, Contains, length, get_or, Some, subst, sym, ap, ◌∙◌, refl, arith}
use Rattle.std.specs.Prelude.{slice_get, not, ◌==◌, IsTrue}
use Rattle.std.specs.Ordering.{eq_by_cmp}
use Rattle.std.specs.Cmp.Lexicographic.{same_text}
use lib.Pointwise.{pointwise}
use Rattle.u_base.specs.Firing.{Distinct}
use Rattle.u_base.proofs.Member.{Contains-head, Contains-tail}
use Rattle.u_name.specs.Context.{Tree, Top}
use Rattle.u_name.specs.ContextOrder.{context_cmp}
use Rattle.u_name.specs.ContextHash.{same_context}
use Rattle.u_name.specs.Name.{Activity, activity}
use Rattle.u_sets.specs.Members.{GoesLast}
use Rattle.u_names.specs.Frames.{FrameParts, FrameKey, frame, frame_key, frame_of, frame_at, frames_at, AreFrames}
use Rattle.u_names.specs.Groups.{Grows}
use Rattle.u_names.specs.Places.{place}
use Rattle.u_names.specs.NameLists.{name_in, name_at, no_frame}
use Rattle.u_names.proofs.OneNumber.{one_place}
use Rattle.u_names.proofs.Mapped.{get_is, get_at, below_at, there_at, front_stays, longer, old_or_last, given, given_back, get_given, given_last, given_distinct}

-- a frame is that of its context's number
pub frame_back : (ts : List Tree) (n : ℕ) (a : Activity) → slice_get ts n ≡ Some a.context → frame_at ts (frame_key n a.block) ≡ frame_of a
frame_back ts n a e = ap (λ (t : Tree). frame t a.block) (get_at ts n Top a.context e)

pub frame_number : (ts : List Tree) (ks : List FrameKey) (n i : ℕ) (a : Activity) → slice_get ts n ≡ Some a.context → slice_get ks i ≡ Some (frame_key n a.block) → slice_get (frames_at ts ks) i ≡ Some (frame_of a)
frame_number ts ks n i a e at = get_given (λ (k : FrameKey). frame_at ts k) ks i (frame_key n a.block) at ∙ ap (λ (f : FrameParts). Some f) (frame_back ts n a e)

not_other : (b : Bool) → false ≡ not b → b ≡ true
not_other true e = refl
not_other false e = absurd (cc)

-- a key whose block and whose context are those of a name is that of its frame
pub last_number : (ts : List Tree) (ks : List FrameKey) (i : ℕ) (k : FrameKey) (t : Tree) (a : Activity) → slice_get ks i ≡ Some k → slice_get ts k.context ≡ Some t
    → false ≡ not (pointwise ◌==◌ k.block a.block) → IsTrue (eq_by_cmp context_cmp t a.context) → slice_get (frames_at ts ks) i ≡ Some (frame_of a)
last_number ts ks i k t a at e b c =
    let block : k.block ≡ a.block = same_text k.block a.block (sym (not_other (pointwise ◌==◌ k.block a.block) b)) in
    frame_number ts ks k.context i a (e ∙ ap (λ (u : Tree). Some u) (same_context t a.context c)) (at ∙ ap (λ (w : List ℕ). Some (frame_key k.context w)) block)

-- the name with that statement and initiation in the frame of a key
pub name_there : (ts : List Tree) (ks : List FrameKey) (i statement initiation : ℕ) (k : FrameKey) (t : Tree) → slice_get ks i ≡ Some k → slice_get ts k.context ≡ Some t
    → name_at (frames_at ts ks) (place i statement initiation) ≡ activity t k.block statement initiation
name_there ts ks i statement initiation k t at e =
    ap (λ (f : FrameParts). name_in f (place i statement initiation))
    (get_at (frames_at ts ks) i no_frame (frame t k.block) (get_given (λ (l : FrameKey). frame_at ts l) ks i k at ∙ ap (λ (u : Tree). Some (frame u k.block)) (get_at ts k.context Top t e)))

module _ (ts : List Tree) (apart : Distinct ts) where
  -- keys with one frame are one
  same_key : (k l : FrameKey) → k.context < length ts → l.context < length ts → frame_at ts k ≡ frame_at ts l → k ≡ l
  same_key k l m n e =
      let t : Tree = get_or ts k.context Top in
      let u : Tree = get_or ts l.context Top in
      let h : t ≡ u = ap (λ (f : FrameParts). f.context) e in
      let i : k.context ≡ l.context = one_place ts apart k.context l.context u (get_is ts k.context Top m ∙ ap (λ (v : Tree). Some v) h) (get_is ts l.context Top n) in
      ap (λ (c : ℕ). frame_key c k.block) i ∙ ap (λ (b : List ℕ). frame_key l.context b) (ap (λ (f : FrameParts). f.block) e)

module _ (ts : List Tree) (ks : List FrameKey) (f : AreFrames ts ks) where
  pub frames_distinct : Distinct (frames_at ts ks)
  frames_distinct = given_distinct (λ (k : FrameKey). frame_at ts k) ks (λ k l m n e. same_key ts f.contexts k l (f.placed k m) (f.placed l n) e) f.keys

  -- a frame whose key is not there is not there
  pub no_key : (n : ℕ) (a : Activity) → slice_get ts n ≡ Some a.context → (Contains ks (frame_key n a.block) → ⊥) → Contains (frames_at ts ks) (frame_of a) → ⊥
  no_key n a at none m =
      let r = given_back (λ (k : FrameKey). frame_at ts k) ks (frame_of a) m in
      let e : r.0 ≡ frame_key n a.block = same_key ts f.contexts r.0 (frame_key n a.block) (f.placed r.0 r.1) (below_at ts n a.context at) (r.2 ∙ sym (frame_back ts n a at)) in
      none (subst (λ (k : FrameKey). Contains ks k) e r.1)

  -- nor one whose context is not there
  pub no_context_of : (a : Activity) → (Contains ts a.context → ⊥) → Contains (frames_at ts ks) (frame_of a) → ⊥
  no_context_of a none m =
      let r = given_back (λ (k : FrameKey). frame_at ts k) ks (frame_of a) m in
      let e : get_or ts (r.0).context Top ≡ a.context = ap (λ (g : FrameParts). g.context) r.2 in
      none (subst (λ (t : Tree). Contains ts t) e (there_at ts (r.0).context Top (f.placed r.0 r.1)))

-- contexts behind leave the frames
still : (ts rest : List Tree) (ks : List FrameKey) → ((k : FrameKey) → Contains ks k → k.context < length ts) → frames_at (ts ++ rest) ks ≡ frames_at ts ks
still ts rest [] h = refl
still ts rest (k ∷ ks) h =
    ap (λ (t : Tree). frame t k.block ∷ frames_at (ts ++ rest) ks) (front_stays ts rest Top k.context (h k (Contains-head k ks)))
    ∙ ap (λ (fs : List FrameParts). frame_at ts k ∷ fs) (still ts rest ks (λ l m. h l (Contains-tail k l ks m)))

module _ (ts us : List Tree) (ks : List FrameKey) (f : AreFrames ts ks) (g : Grows ts us) (d : Distinct us) where
  pub frames_still : frames_at us ks ≡ frames_at ts ks
  frames_still = ap (λ (vs : List Tree). frames_at vs ks) g.1 ∙ still ts g.0 ks f.placed

  pub still_frames : AreFrames us ks
  still_frames = record {
    contexts = d;
    keys = f.keys;
    placed = λ k m. let l = f.placed k m in let n = longer ts g.0 in subst (λ (vs : List Tree). k.context < length vs) (sym g.1) (omega (arith, l, n));
  }

  -- another frame
  module _ (ls : List FrameKey) (n : ℕ) (a : Activity) (at : slice_get us n ≡ Some a.context) (l : GoesLast ks (frame_key n a.block) ls) where
    pub more_frames : Distinct ls → AreFrames us ls
    more_frames keys = record {
      contexts = d;
      keys = keys;
      placed = λ k m. elim (old_or_last ks ls (frame_key n a.block) k l m) [
        | inl o ↦ still_frames.placed k o
        | inr e ↦ subst (λ (j : FrameKey). j.context < length us) e (below_at us n a.context at)
      ];
    }

    pub frame_last : GoesLast (frames_at ts ks) (frame_of a) (frames_at us ls)
    frame_last = elim l [
      | inl (m, e) ↦
          inl (subst (λ (fs : List FrameParts). Contains fs (frame_of a)) frames_still (subst (λ (g : FrameParts). Contains (frames_at us ks) g) (frame_back us n a at) (given (λ (k : FrameKey). frame_at us k) ks (frame_key n a.block) m)), ap (λ (js : List FrameKey). frames_at us js) e ∙ frames_still)
      | inr (m, e) ↦
          inr (
            (λ c. no_key us ks still_frames n a at m (subst (λ (fs : List FrameParts). Contains fs (frame_of a)) (sym frames_still) c)),
            ap (λ (js : List FrameKey). frames_at us js) e
                ∙ given_last (λ (k : FrameKey). frame_at us k) ks (frame_key n a.block)
                ∙ ap (λ (fs : List FrameParts). fs ++ frame_at us (frame_key n a.block) ∷ []) frames_still
                ∙ ap (λ (g : FrameParts). frames_at ts ks ++ g ∷ []) (frame_back us n a at),
          )
    ]
