-- What is noted of events is what they did.
use Rattle.std.specs.Prelude.{◌≡◌, ℕ, Bool, true, false, List, [], ◌∷◌, ◌++◌, length, map, Option, Some, None, Ok, slice_get, refl}
use Rattle.std.specs.Option.{option_map}
use Rattle.std.proofs.Common.{sym, ◌∙◌, ap, subst, arith, inl, inr, append-nil}
use Rattle.std.proofs.lemmas.Bool.{cond-true, cond-false}
use Rattle.std.proofs.lemmas.List.{length-map, map-append}
use Rattle.std.proofs.lemmas.Option.{slice_get-map}
use Rattle.u_delta.specs.declared.message.Message.{Message}
use Rattle.u_delta.specs.declared.message.Message.TheVariants as messages
use Rattle.u_machine.proofs.Lists.{slice_get_Contains}
use Rattle.u_replica.specs.ReplicaState.{ReplicaState, ask_of}
use Rattle.u_world.specs.declared.event.Event.{Event}
use Rattle.u_world.specs.declared.event.Event.TheVariants as events
use Rattle.u_world.specs.WorldState.{WorldState, At, Has}
use Rattle.u_world.specs.Worlds.{IsWorld, IsSent}
use Rattle.u_world.specs.Happenings.{EventStep, Delivers, Arrives}
use Rattle.u_world.proofs.Effects.{stays}
use Rattle.u_world.proofs.Places.{at_between}
use Rattle.u_pictures.specs.declared.living.Sent.{Sent}
use Rattle.u_pictures.specs.Living.{spot, posted, Posts, IsDoer, IsKnown, noted, letter, Agree, answered, answered_at, sent_by}

-- a note of a message, and the message

posted_noted : (row : ℕ) (m : Message) → noted (posted row m) ≡ letter m
posted_noted row (messages.Ask a) = refl
posted_noted row (messages.Delta d) = refl

all_noted : (row : ℕ) (ms : List Message) → map noted (map (posted row) ms) ≡ map letter ms
all_noted row [] = refl
all_noted row (m ∷ ms) =
    ap (λ (x : Bool × (ℕ × ℕ)). x ∷ map noted (map (posted row) ms)) (posted_noted row m)
    ∙ ap (λ (xs : List (Bool × (ℕ × ℕ))). letter m ∷ xs) (all_noted row ms)

-- the notes agree with the messages still
pub posts_agree : (row : ℕ) (old new : WorldState) (sent later : List Sent) → Agree sent old.messages → Posts row old new sent later → Agree later new.messages
posts_agree row old new sent later a p =
    ap (λ (xs : List Sent). map noted xs) p.later_is
    ∙ map-append noted sent (map (posted row) p.more)
    ∙ ap (λ (xs : List (Bool × (ℕ × ℕ))). xs ++ map noted (map (posted row) p.more)) a
    ∙ ap (λ (xs : List (Bool × (ℕ × ℕ))). map letter old.messages ++ xs) (all_noted row p.more)
    ∙ sym (map-append letter old.messages p.more)
    ∙ ap (λ (xs : List Message). map letter xs) (sym p.messages)

same_some : {X : Type 0} (a b : X) → Some a ≡ Some b → a ≡ b
same_some a b p = cc

module _ (sent : List Sent) (ms : List Message) (agree : Agree sent ms) where
  pub as_many : length sent ≡ length ms
  as_many = sym (length-map sent noted) ∙ ap (λ (xs : List (Bool × (ℕ × ℕ))). length xs) agree ∙ length-map ms letter

  -- the note at a place is of the message there
  note_is : (i : ℕ) (s : Sent) (m : Message) → slice_get sent i ≡ Some s → slice_get ms i ≡ Some m → noted s ≡ letter m
  note_is i s m p q =
      same_some (noted s) (letter m)
      (sym (slice_get-map noted sent i ∙ ap (λ (o : Option Sent). option_map noted o) p)
      ∙ ap (λ (xs : List (Bool × (ℕ × ℕ))). slice_get xs i) agree
      ∙ slice_get-map letter ms i
      ∙ ap (λ (o : Option Message). option_map letter o) q)

  -- where there is a message there is a note
  found : (o : Option Sent) (x : Bool × (ℕ × ℕ)) → option_map noted o ≡ Some x → (s : Sent) × (o ≡ Some s)
  found None x e = absurd (cc)
  found (Some s) x e = (s, refl)

  note_at : (i : ℕ) (m : Message) → slice_get ms i ≡ Some m → (s : Sent) × (slice_get sent i ≡ Some s)
  note_at i m q =
      found (slice_get sent i) (letter m)
      (sym (slice_get-map noted sent i)
      ∙ ap (λ (xs : List (Bool × (ℕ × ℕ))). slice_get xs i) agree
      ∙ slice_get-map letter ms i
      ∙ ap (λ (o : Option Message). option_map letter o) q)

note_to : (s : Sent) (m : Message) → noted s ≡ letter m → (is_ask : Bool) (from to : ℕ) → letter m ≡ (is_ask, (from, to)) → s.to ≡ to
note_to s m p is_ask from to e = ap (λ (x : Bool × (ℕ × ℕ)). x.1.1) (p ∙ e)

-- the event's message is known, and its replica is there

module _ (old new : WorldState) (is : IsWorld old) (sent : List Sent) (agree : Agree sent old.messages) where
  pub known : (e : Event) → EventStep old e new → IsKnown sent e
  known (events.Fire k pick) s = tt
  known (events.Take k f) s = tt
  known (events.Ask k j) s = tt
  known (events.Deliver i) s = let l = as_many sent old.messages agree in let m = s.0 in omega (arith, l, m)
  known (events.Merge k j) s = tt
  known (events.Save k) s = tt
  known (events.Restart k keep) s = tt
  known (events.Bytes k bytes) s = tt

  there : (m : Message) (s : Sent) → IsSent old m → noted s ≡ letter m → Has old s.to
  there (messages.Ask a) s x p = subst (λ (n : ℕ). Has old n) (sym (ap (λ (x : Bool × (ℕ × ℕ)). x.1.1) p)) x.asked
  there (messages.Delta d) s x p = subst (λ (n : ℕ). Has old n) (sym (ap (λ (x : Bool × (ℕ × ℕ)). x.1.1) p)) x.receiver

  so : (k n : ℕ) → Has old k → n ≡ k → Has old n
  so k n h e = subst (λ (n : ℕ). Has old n) (sym e) h

  pub has_doer : (e : Event) (n : ℕ) → EventStep old e new → IsDoer sent e n → Has old n
  has_doer (events.Fire k pick) n s d = so k n s.0 d
  has_doer (events.Take k f) n s d = so k n s.0 d
  has_doer (events.Ask k j) n s d = so k n s.0.0 d
  has_doer (events.Deliver i) n (may, (m, at, x)) (s, p, q) =
      so s.to n (there m s (is.sent m (slice_get_Contains old.messages i m at)) (note_is sent old.messages agree i s m p at)) q
  has_doer (events.Merge k j) n s d = so k n s.0.0 d
  has_doer (events.Save k) n s d = so k n s.0 d
  has_doer (events.Restart k keep) n s d = so k n (at_between old.replicas k s.0.0 s.0.1) d
  has_doer (events.Bytes k bytes) n s d = so k n s.0 d

  pub still_has : (e : Event) (n : ℕ) → EventStep old e new → Has old n → Has new n
  still_has e n s h = let c = (stays old new e s).count in (h.0, omega (arith, h.1, c))

  -- what is noted of what was sent

  module _ (row : ℕ) where
    none : new.messages ≡ old.messages → Posts row old new sent sent
    none e = record { more = []; messages = e ∙ sym (append-nil old.messages); later_is = sym (append-nil sent) }

    one : (m : Message) (later : List Sent) → new.messages ≡ old.messages ++ (m ∷ []) → later ≡ sent ++ (posted row m ∷ []) → Posts row old new sent later
    one m later e f = record { more = m ∷ []; messages = e; later_is = f }

    note : Bool → ℕ → ℕ → Sent
    note is_ask from to = record { is_ask = is_ask; from = spot row from; to = to }

    number_of : (k : ℕ) (r : ReplicaState) → At old.replicas k r → r.number ≡ k
    number_of k r at = (is.members k r at).number

    delivered : (i : ℕ) (m : Message) (s : Sent) → slice_get sent i ≡ Some s → noted s ≡ letter m → Delivers m (Ok tt) old new → Posts row old new sent (answered row s sent)
    unfolding note
    delivered i (messages.Ask a) s p q (r, at, d, is_delta, sends) =
        let ask : s.is_ask ≡ true = ap (λ (x : Bool × (ℕ × ℕ)). x.0) q in
        let from : s.from.replica ≡ a.asker = ap (λ (x : Bool × (ℕ × ℕ)). x.1.0) q in
        let to : s.to ≡ a.asked = ap (λ (x : Bool × (ℕ × ℕ)). x.1.1) q in
        let sender : s.to ≡ d.sender = to ∙ sym (number_of a.asked r at) ∙ sym is_delta.sender_is in
        let receiver : s.from.replica ≡ d.receiver = from ∙ sym is_delta.receiver_is in
        one (messages.Delta d) (answered row s sent) (ap (λ (w : WorldState). w.messages) sends)
        (cond-true s.is_ask (sent ++ (note false s.to s.from.replica ∷ [])) sent ask
        ∙ ap (λ (n : ℕ). sent ++ (note false n s.from.replica ∷ [])) sender
        ∙ ap (λ (n : ℕ). sent ++ (note false d.sender n ∷ [])) receiver)
    delivered i (messages.Delta d) s p q c =
        let ask : s.is_ask ≡ false = ap (λ (x : Bool × (ℕ × ℕ)). x.0) q in
        subst (λ (xs : List Sent). Posts row old new sent xs)
        (sym (cond-false s.is_ask (sent ++ (note false s.to s.from.replica ∷ [])) sent ask))
        (none (ap (λ (w : WorldState). w.messages) c.others))

    arrived : (k : ℕ) (bytes : List ℕ) → Arrives k bytes (Ok tt) old new → new.messages ≡ old.messages
    arrived k bytes (inl a) = ap (λ (w : WorldState). w.messages) a.1
    arrived k bytes (inr (d, m, c)) = ap (λ (w : WorldState). w.messages) c.others

    pub posts : (e : Event) → EventStep old e new → Posts row old new sent (sent_by row e sent)
    unfolding note
    posts (events.Fire k pick) (may, c) = none (ap (λ (w : WorldState). w.messages) c.others)
    posts (events.Take k f) (may, c) = none (ap (λ (w : WorldState). w.messages) c.others)
    posts (events.Ask k j) (may, (r, at, s)) =
        one (messages.Ask (ask_of r j)) (sent ++ (note true k j ∷ [])) (ap (λ (w : WorldState). w.messages) s)
        (ap (λ (n : ℕ). sent ++ (note true n j ∷ [])) (sym (number_of k r at)))
    posts (events.Deliver i) (may, (m, at, d)) =
        let s = note_at sent old.messages agree i m at in
        subst (λ (o : Option Sent). Posts row old new sent (answered_at row o sent)) (sym s.1)
        (delivered i m s.0 s.1 (note_is sent old.messages agree i s.0 m s.1 at) d)
    posts (events.Merge k j) (may, (o, at, c)) = none (ap (λ (w : WorldState). w.messages) c.others)
    posts (events.Save k) (may, (r, at, valid, s)) = none (ap (λ (w : WorldState). w.messages) s)
    posts (events.Restart k keep) (may, (saved, at, c)) = none (ap (λ (w : WorldState). w.messages) c.others)
    posts (events.Bytes k bytes) (may, a) = none (arrived k bytes.items a)
