-- A program of version 1 runs alike under version 2, but for a `next` at the last turn of version 1: each firing of
-- its job is one of the lifted job, needs the same and gives the same, and so the closures are the same.
use Rattle.std.proofs.Common.{◌≡◌, ◌∙◌, refl, sym, ap, subst, arith, Bool, true, false, ◌≤◌, ◌<◌, ◌&&◌, nat_le, List, [], ◌∷◌, ◌++◌, cond, Contains, IsTrue, Option, Some, None, Result, Ok, Err, inl, inr}
use Rattle.std.specs.List.{list_all}
use Rattle.std.proofs.Math.Nat.{le-max_right}
use Rattle.std.proofs.lemmas.Bool.{and_parts, leb-true}
use Rattle.std.proofs.lemmas.Bool.Decides.{nat_tests}
use Rattle.u_name.specs.Name.{Activity}
use Rattle.u_name.specs.Greatest.{greatest_turn, greatest_initiation}
use Rattle.u_value.specs.declared.value.Value.{Value}
use Rattle.u_value.specs.declared.value.Value.TheVariants as values
use Rattle.u_value.specs.declared.fault_kind.FaultKind.{FaultKind}
use Rattle.u_value.specs.declared.fault_kind.FaultKind.TheVariants as faults
use Rattle.u_program.specs.Parts.{StatementParts, BlockParts}
use Rattle.u_program.specs.declared.program.Destination.{Destination}
use Rattle.u_program.specs.declared.program.Kind.{Kind}
use Rattle.u_program.specs.declared.program.Kind.TheVariants.{Next}
use Rattle.u_program.specs.declared.program.Version.{Version}
use Rattle.u_program.specs.declared.program.Version.TheVariants as versions
use Rattle.u_check.specs.Kinds.{is_apply, is_end, is_store}
use Rattle.u_check.specs.Jobs.{JobParts}
use Rattle.u_base.specs.Firing.{System, Held, Enabled, Derivation, Within, Cl, Same}
use Rattle.u_base.proofs.Member.{Contains-head}
use Rattle.u_base.proofs.Closure.{Derivation-nil, Derivation-push}
use Rattle.u_base.proofs.Determinate.{Derivation-along}
use Rattle.std.proofs.lemmas.List.Elements.{Contains-append_left, Contains-append_right}
use Rattle.u_rule.specs.Parts.{ValueList}
use Rattle.u_rule.specs.Fits.{statement_of}
use Rattle.u_rule.specs.Structures.{stored, is_answer, replied}
use Rattle.u_rule.specs.Initiations.{last_turn, is_turn, has_turns, wrote_in_turns, fires_in_turns}
use Rattle.u_rule.specs.Rule.{is_firing_of, is_firing_at, refusal_of, delivered, handed_on, list_of, result_of, first_of, called, ended, given, given_with, given_at, gives_of, start_of, system_of}
use Rattle.u_rule.specs.Lift.{lifted, TurnsLast}
use Rattle.u_rule.specs.declared.entry.Entry.{Entry}
use Rattle.u_rule.specs.declared.firing.Firing.{Firing}
use Rattle.u_rule.specs.declared.parts.Written.{Written}
use Rattle.u_rule.proofs.Firings.{at_statement, in_turns}

-- an initiation of version 1 is one of version 2
turn_lifted : (a : Activity) → is_turn versions.One a ≡ true → is_turn versions.Two a ≡ true
turn_lifted a h = grind (arith, nat_tests)

value_lifted : (v : Value) → has_turns versions.One v ≡ true → has_turns versions.Two v ≡ true
value_lifted (values.Ref p) h = turn_lifted p.name h
value_lifted v h = refl

both : (a b : Bool) → a ≡ true → b ≡ true → (a && b) ≡ true
both a b p q = rw (p, q) refl

values_lifted : (vs : ValueList) → list_all (has_turns versions.One) vs ≡ true → list_all (has_turns versions.Two) vs ≡ true
values_lifted [] h = refl
values_lifted (v ∷ vs) h =
    let k = and_parts (has_turns versions.One v) (list_all (has_turns versions.One) vs) h in
    both (has_turns versions.Two v) (list_all (has_turns versions.Two) vs) (value_lifted v k.0) (values_lifted vs k.1)

write_lifted : (w : Option Written) → wrote_in_turns versions.One w ≡ true → wrote_in_turns versions.Two w ≡ true
write_lifted None h = refl
write_lifted (Some w) h =
    let k = and_parts (is_turn versions.One w.writer) (has_turns versions.One w.value) h in
    both (is_turn versions.Two w.writer) (has_turns versions.Two w.value) (turn_lifted w.writer k.0) (value_lifted w.value k.1)

turns_lifted : (f : Firing) → fires_in_turns versions.One f ≡ true → fires_in_turns versions.Two f ≡ true
unfolding fires_in_turns
turns_lifted f h =
    let k = and_parts (is_turn versions.One f.activity) _ h in
    let l = and_parts (list_all (has_turns versions.One) f.values) (wrote_in_turns versions.One f.write) k.1 in
    both (is_turn versions.Two f.activity) _ (turn_lifted f.activity k.0)
    (both (list_all (has_turns versions.Two) f.values) (wrote_in_turns versions.Two f.write) (values_lifted f.values l.0) (write_lifted f.write l.1))

-- the initiation of a firing's activity is at most the last turn
own_turn : (f : Firing) → fires_in_turns versions.One f ≡ true → f.activity.initiation ≤ last_turn versions.One
unfolding fires_in_turns
own_turn f h =
    let k = and_parts (is_turn versions.One f.activity) _ h in
    let l = leb-true (greatest_initiation f.activity) (last_turn versions.One) k.0 in
    let m = le-max_right (greatest_turn f.activity.context) f.activity.initiation in
    omega (arith, l, m)

-- below the last turn of version 1 nothing is refused that version 2 does not refuse
refused_alike : (k : Kind) (a : Activity) → (k ≡ Next → a.initiation < last_turn versions.One) → refusal_of versions.Two k a ≡ refusal_of versions.One k a
refused_alike Next a l =
    let b = l refl in
    let x : nat_le (last_turn versions.One) a.initiation ≡ false = grind (arith, nat_tests, b) in
    let y : nat_le (last_turn versions.Two) a.initiation ≡ false = grind (arith, nat_tests, b) in
    ap (λ (t : Bool). cond t (Some faults.Initiation) None) (y ∙ sym x)
refused_alike k a l = refl

handed_alike : (k : Kind) (a : Activity) (to : List Destination) (r : Result Value FaultKind) → (k ≡ Next → a.initiation < last_turn versions.One) → handed_on versions.Two k a to r ≡ handed_on versions.One k a to r
handed_alike k a to (Ok v) l = ap (λ (o : Option FaultKind). delivered o k a to v) (refused_alike k a l)
handed_alike k a to (Err why) l = refl

given_alike : (p : List BlockParts) (s : StatementParts) (a : Activity) (vs : ValueList) (write : Option Written) → (s.kind ≡ Next → a.initiation < last_turn versions.One) → given versions.Two p s a vs write ≡ given versions.One p s a vs write
given_alike p s a vs write l =
    ap (λ (es : List Entry). cond (is_apply s.kind) (called p a vs) (cond (is_end s.kind) (ended p a (first_of vs)) (cond (is_store s.kind) (stored a vs) es)))
    (handed_alike s.kind a (list_of s.kind s vs) (result_of s.kind a vs write) l)

given_with_alike : (p : List BlockParts) (s : StatementParts) (a : Activity) (vs : ValueList) (write : Option Written) → (s.kind ≡ Next → a.initiation < last_turn versions.One) → given_with versions.Two p s a vs write ≡ given_with versions.One p s a vs write
given_with_alike p s a vs write l = ap (λ (es : List Entry). cond (is_answer s.kind write) (replied a write) es) (given_alike p s a vs write l)

module _ (j : JobParts) (one : j.program.version ≡ versions.One) where
  of_version_1 : (f : Firing) → is_firing_of j f ≡ true → fires_in_turns versions.One f ≡ true
  of_version_1 f h = subst (λ (v : Version). fires_in_turns v f ≡ true) one (in_turns j f h)

  -- a firing of the job is one of the lifted job
  pub fires_lifted : (f : Firing) → is_firing_of j f ≡ true → is_firing_of (lifted j) f ≡ true
  unfolding is_firing_of
  fires_lifted f h =
      both (is_firing_at j.program.blocks (statement_of j.program.blocks f.activity.block f.activity.statement) f) (fires_in_turns versions.Two f) (at_statement j f h)
      (turns_lifted f (of_version_1 f h))

  -- where it is no `next` at the last turn, it gives the same
  pub gives_lifted : (f : Firing) → is_firing_of j f ≡ true → (TurnsLast j f → ⊥) → gives_of (lifted j) f ≡ gives_of j f
  unfolding gives_of
  gives_lifted f h n = at (statement_of j.program.blocks f.activity.block f.activity.statement) refl
    where
      turn : f.activity.initiation ≤ last_turn versions.One
      turn = own_turn f (of_version_1 f h)

      below : (s : StatementParts) → statement_of j.program.blocks f.activity.block f.activity.statement ≡ Some s → s.kind ≡ Next → f.activity.initiation < last_turn versions.One
      below s e k =
          let other : f.activity.initiation ≡ last_turn versions.One → ⊥ = λ l. n (record { it = s; stands = e; is_next = k; last = l }) in
          omega (arith, turn, other)

      at : (o : Option StatementParts) → statement_of j.program.blocks f.activity.block f.activity.statement ≡ o → given_at versions.Two j.program.blocks o f ≡ given_at j.program.version j.program.blocks o f
      at None e = refl
      at (Some s) e =
          given_with_alike j.program.blocks s f.activity f.values f.write (below s e)
          ∙ ap (λ (v : Version). given_with v j.program.blocks s f.activity f.values f.write) (sym one)

-- the start is the same
start_lifted : (j : JobParts) → start_of j ≡ start_of (lifted j)
unfolding start_of
start_lifted j = refl

-- what the firings of M do in the system s, they do in t
record Carries {E F : Type 0} (s t : System E F) (M : F → Type 0) : Type 0 where
  start : s.start ≡ t.start
  fire : (f : F) → M f → IsTrue (t.is_firing f)
  needs : (f : F) (e : E) → M f → Contains (t.needs f) e → Contains (s.needs f) e
  gives : (f : F) (e : E) → M f → Contains (s.gives f) e → Contains (t.gives f) e

module _ {E F : Type 0} (s t : System E F) (M : F → Type 0) (c : Carries s t M) where
  held_carried : (fs : List F) (e : E) → Within M fs → Held s fs e → Held t fs e
  held_carried fs e w (inl p) = inl (p ∙ c.start)
  held_carried fs e w (inr (f, m, g)) = inr (f, m, c.gives f e (w f m) g)

  derivation_carried : (fs : List F) → Derivation s fs → Within M fs → Derivation t fs
  derivation_carried = Derivation-along s (λ fs. Within M fs → Derivation t fs) (λ w. Derivation-nil t) push
    where
      push : (fs : List F) (f : F) → (Within M fs → Derivation t fs) → Enabled s (Held s fs) f → Within M (fs ++ f ∷ []) → Derivation t (fs ++ f ∷ [])
      push fs f q en w =
          let before : Within M fs = λ g m. w g (Contains-append_left fs (f ∷ []) g m) in
          let own : M f = w f (Contains-append_right fs (f ∷ []) f (Contains-head f [])) in
          Derivation-push t fs f (q before) (c.fire f own, λ e m. held_carried fs e before (en.1 e (c.needs f e own m)))

  closure_carried : (e : E) → Cl s M e → Cl t M e
  closure_carried e (fs, d, w, h) = (fs, derivation_carried fs d w, w, held_carried fs e w h)

-- The closure of every set of firings of the job in which no `next` is at the last turn is that of the lifted job.
pub closure_lifted : (j : JobParts) → j.program.version ≡ versions.One → (M : Firing → Type 0) → ((f : Firing) → M f → IsTrue (is_firing_of j f) × (TurnsLast j f → ⊥))
    → Same (Cl (system_of j) M) (Cl (system_of (lifted j)) M)
closure_lifted j one M each e = (closure_carried (system_of j) (system_of (lifted j)) M up e, closure_carried (system_of (lifted j)) (system_of j) M down e)
  where
    gives_alike : (f : Firing) → M f → gives_of (lifted j) f ≡ gives_of j f
    gives_alike f m = gives_lifted j one f (each f m).0 (each f m).1

    up : Carries (system_of j) (system_of (lifted j)) M
    up = record {
      start = start_lifted j;
      fire = λ f m. fires_lifted j one f (each f m).0;
      needs = λ f e m n. n;
      gives = λ f e m g. subst (λ (es : List Entry). Contains es e) (sym (gives_alike f m)) g;
    }

    down : Carries (system_of (lifted j)) (system_of j) M
    down = record {
      start = sym (start_lifted j);
      fire = λ f m. (each f m).0;
      needs = λ f e m n. n;
      gives = λ f e m g. subst (λ (es : List Entry). Contains es e) (gives_alike f m) g;
    }
