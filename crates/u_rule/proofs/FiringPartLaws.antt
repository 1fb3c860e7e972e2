-- The readers of the parts of a firing, once the first byte is known, and how the firing is put together of them.
use Rattle.std.specs.Prelude.{◌≡◌, ℕ, suc, ◌-◌, ◌<◌, ◌⊎◌, List, [], ◌∷◌, ◌++◌, Option, Some, None, length, Ok, Err, refl}
use Rattle.std.proofs.Common.{sym, ◌∙◌, ap, inl, inr, arith, append_assoc, append-nil, length-append}
use Rattle.u_base.specs.Reader.{Reader, ◌>>=◌}
use Rattle.u_base.specs.Parts.{empty, lead, after_byte}
use Rattle.u_base.specs.Then.{both}
use Rattle.u_base.specs.Choice.{mapped, choice}
use Rattle.u_name.specs.Name.{Activity}
use Rattle.u_name.specs.NameReader.{name_steps}
use Rattle.u_value.specs.Reading.{value_at}
use Rattle.u_value.specs.declared.value.Value.{Value}
use Rattle.u_rule.proofs.FirstByteLaws.{ReadOf, turned, twice, NotBehind, taken, skipped, chosen, passed, begins_with, begins_with_none, behind, other, first_byte}
use Rattle.u_rule.proofs.StepLaws.{lead_both, both_ok, both_err}
use Rattle.u_rule.specs.EntryReading.{spaced_value}
use Rattle.u_rule.specs.Parts.{most_ports}
use Rattle.u_rule.specs.EntryOrder.{firing}
use Rattle.u_rule.specs.FiringReading.{By, by_at, Tail, tail_at, values_of, write_in, values_at, firing_of, activity_at, firing_at, written_next, next_value, behind_space, next_at, spaced_by, last_write, end_at, more_values, behind_values, firing_behind, behind_name}
use Rattle.u_rule.specs.declared.firing.Firing.{Firing}
use Rattle.u_rule.specs.declared.parts.Written.{Written}
use Rattle.u_rule.specs.declared.firing_reading.Next.{Next}
use Rattle.u_rule.specs.declared.firing_reading.Next.TheVariants.{End, Another}

-- what stands behind a value

abbrev next_of : Unit {0} ⊎ Next → Next
next_of = elim [ inl _ ↦ End None | inr n ↦ n ]

abbrev next_behind_space : By ⊎ Value → Next
next_behind_space = elim [ inl b ↦ written_next b | inr v ↦ Another v ]

as_it_is : {X : Type 0} (P : Reader X) (bs : List ℕ) → mapped (λ x. x) P bs ≡ P bs
as_it_is {X} P bs = same (P bs)
  where
    same : (r : ReadOf X) → ◌>>=◌ {A = X × List ℕ} {B = X × List ℕ} r (λ a. Ok (a.0, a.1)) ≡ r
    same (Ok a) = refl
    same (Err e) = refl

pub next_end : (bs cs : List ℕ) → bs ≡ 10 ∷ cs → next_at bs ≡ Ok (End None, cs)
unfolding next_at
next_end bs cs e = chosen 10 (empty tt) (lead 32 behind_space) next_of bs cs e

next_other : (bs : List ℕ) → NotBehind 10 bs → next_at bs ≡ lead 32 behind_space bs
unfolding next_at
next_other bs n = passed 10 (empty tt) (lead 32 behind_space) next_of bs n ∙ as_it_is (lead 32 behind_space) bs

pub next_behind_other : (bs : List ℕ) (c : ℕ) (cs : List ℕ) (r : ReadOf Next) → bs ≡ c ∷ cs → (c ≡ 10 → ⊥) → lead 32 behind_space bs ≡ r → next_at bs ≡ r
next_behind_other bs c cs r e n h = next_other bs (begins_with c 10 bs cs e n) ∙ h

pub next_behind_nothing : (bs : List ℕ) (r : ReadOf Next) → length bs ≡ 0 → lead 32 behind_space bs ≡ r → next_at bs ≡ r
next_behind_nothing [] r e h = next_other [] (begins_with_none 10) ∙ h
next_behind_nothing (c ∷ cs) r e h = absurd (omega arith)

pub space_by : (bs cs : List ℕ) → bs ≡ 98 ∷ cs → behind_space bs ≡ mapped written_next by_at cs
space_by bs cs e = chosen 98 by_at value_at next_behind_space bs cs e

space_other : (bs : List ℕ) → NotBehind 98 bs → behind_space bs ≡ next_value bs
space_other bs n = passed 98 by_at value_at next_behind_space bs n

pub space_behind_other : (bs : List ℕ) (c : ℕ) (cs : List ℕ) (r : ReadOf Next) → bs ≡ c ∷ cs → (c ≡ 98 → ⊥) → next_value bs ≡ r → behind_space bs ≡ r
space_behind_other bs c cs r e n h = space_other bs (begins_with c 98 bs cs e n) ∙ h

pub space_behind_nothing : (bs : List ℕ) (r : ReadOf Next) → length bs ≡ 0 → next_value bs ≡ r → behind_space bs ≡ r
space_behind_nothing [] r e h = space_other [] (begins_with_none 98) ∙ h
space_behind_nothing (c ∷ cs) r e h = absurd (omega arith)

-- what stands behind the last value that there may be

pub end_here : (bs cs : List ℕ) → bs ≡ 10 ∷ cs → end_at bs ≡ Ok (None, cs)
unfolding end_at tail_at
end_here bs cs e = chosen 10 (empty tt) spaced_by (write_in 0) bs cs e

end_other : (bs : List ℕ) → NotBehind 10 bs → end_at bs ≡ last_write bs
unfolding end_at tail_at
end_other bs n = passed 10 (empty tt) spaced_by (write_in 0) bs n

pub end_behind_other : (bs : List ℕ) (c : ℕ) (cs : List ℕ) (r : ReadOf (Option Written)) → bs ≡ c ∷ cs → (c ≡ 10 → ⊥) → last_write bs ≡ r → end_at bs ≡ r
end_behind_other bs c cs r e n h = end_other bs (begins_with c 10 bs cs e n) ∙ h

pub end_behind_nothing : (bs : List ℕ) (r : ReadOf (Option Written)) → length bs ≡ 0 → last_write bs ≡ r → end_at bs ≡ r
end_behind_nothing [] r e h = end_other [] (begins_with_none 10) ∙ h
end_behind_nothing (c ∷ cs) r e h = absurd (omega arith)

-- a tail where more values may come, by what stands at its front

abbrev by_of : Written → By
by_of w = (w.writer, (w.value, tt))

abbrev tail_behind : (k : ℕ) → Next → List ℕ → ReadOf (Tail (suc k))
tail_behind k (End None) rest = Ok (inl tt, rest)
tail_behind k (End (Some w)) rest = Ok (inr (inl (by_of w)), rest)
tail_behind k (Another v) rest = turned {X = Tail k} {Z = Tail (suc k)} (λ t. inr (inr (v, t))) (tail_at k rest)

abbrev goes_on : (k : ℕ) → ReadOf Next → ReadOf (Tail (suc k))
goes_on k r = ◌>>=◌ {A = Next × List ℕ} {B = Tail (suc k) × List ℕ} r (λ a. tail_behind k a.0 a.1)

abbrev MoreTail : ℕ → Type 0
MoreTail k = By ⊎ (Value × Tail k)

abbrev value_and_tail : (k : ℕ) → Reader (Value × Tail k)
value_and_tail k = both value_at (λ _. tail_at k)

abbrev more_behind : (k : ℕ) → Reader (MoreTail k)
more_behind k = choice 98 by_at (value_and_tail k)

by_on : (k : ℕ) (r : ReadOf By) → turned {X = MoreTail k} {Z = Tail (suc k)} inr (turned {X = By} {Z = MoreTail k} inl r) ≡ goes_on k (turned written_next r)
by_on k (Ok a) = refl
by_on k (Err e) = refl

abbrev with_tail : (k : ℕ) → ReadOf Value → ReadOf (Value × Tail k)
with_tail k r = ◌>>=◌ {A = Value × List ℕ} {B = (Value × Tail k) × List ℕ} r (λ a. ◌>>=◌ {A = Tail k × List ℕ} {B = (Value × Tail k) × List ℕ} (tail_at k a.1) (λ b. Ok ((a.0, b.0), b.1)))

paired : (k : ℕ) (v : Value) (r : ReadOf (Tail k)) →
    turned {X = MoreTail k} {Z = Tail (suc k)} inr (turned {X = Value × Tail k} {Z = MoreTail k} inr (◌>>=◌ {A = Tail k × List ℕ} {B = (Value × Tail k) × List ℕ} r (λ b. Ok ((v, b.0), b.1)))) ≡ turned {X = Tail k} {Z = Tail (suc k)} (λ t. inr (inr (v, t))) r
paired k v (Ok b) = refl
paired k v (Err e) = refl

value_on : (k : ℕ) (r : ReadOf Value) → turned {X = MoreTail k} {Z = Tail (suc k)} inr (turned {X = Value × Tail k} {Z = MoreTail k} inr (with_tail k r)) ≡ goes_on k (turned (λ v. Another v) r)
value_on k (Ok a) = paired k a.0 (tail_at k a.1)
value_on k (Err e) = refl

space_on : (k : ℕ) (bs : List ℕ) → turned {X = MoreTail k} {Z = Tail (suc k)} inr (more_behind k bs) ≡ goes_on k (behind_space bs)
space_on k bs =
    elim (first_byte 98 bs) [
      | behind cs e ↦
          ap (λ t. turned {X = MoreTail k} {Z = Tail (suc k)} inr (more_behind k t)) e
          ∙ ap (turned {X = MoreTail k} {Z = Tail (suc k)} inr) (taken 98 by_at (value_and_tail k) cs)
          ∙ by_on k (by_at cs)
          ∙ ap (goes_on k) (sym (space_by bs cs e))
      | other n ↦
          ap (turned {X = MoreTail k} {Z = Tail (suc k)} inr) (skipped 98 by_at (value_and_tail k) bs n) ∙ value_on k (value_at bs) ∙ ap (goes_on k) (sym (space_other bs n))
    ]

abbrev led : {X : Type 0} → Reader X → ReadOf (Unit {0}) → ReadOf X
led {X} P r = ◌>>=◌ {A = Unit {0} × List ℕ} {B = X × List ℕ} r (λ a. P a.1)

led_on : (k : ℕ) (r : ReadOf (Unit {0})) → turned {X = MoreTail k} {Z = Tail (suc k)} inr (led (more_behind k) r) ≡ goes_on k (led behind_space r)
led_on k (Ok a) = space_on k a.1
led_on k (Err e) = refl

tail_next : (k : ℕ) (bs : List ℕ) → tail_at (suc k) bs ≡ goes_on k (next_at bs)
unfolding tail_at
tail_next k bs =
    elim (first_byte 10 bs) [
      | behind cs e ↦
          ap (tail_at (suc k)) e ∙ taken 10 (empty tt) (lead 32 (more_behind k)) cs ∙ ap (goes_on k) (sym (next_end bs cs e))
      | other n ↦
          skipped 10 (empty tt) (lead 32 (more_behind k)) bs n ∙ led_on k (after_byte 32 bs) ∙ ap (goes_on k) (sym (next_other bs n))
    ]

pub tail_read : (k : ℕ) (bs : List ℕ) (n : Next) (rest : List ℕ) → next_at bs ≡ Ok (n, rest) → tail_at (suc k) bs ≡ tail_behind k n rest
tail_read k bs n rest h = tail_next k bs ∙ ap (goes_on k) h

pub tail_refused : (k : ℕ) (bs rest : List ℕ) → next_at bs ≡ Err rest → tail_at (suc k) bs ≡ Err rest
tail_refused k bs rest h = tail_next k bs ∙ ap (goes_on k) h

-- the firing whose name and values are read, where so many more may come

abbrev with_values : (k : ℕ) → Activity → List Value → Tail k → Firing
with_values k name vs t = firing name (vs ++ values_of k t) (write_in k t)

ends : (k : ℕ) (name : Activity) (vs : List Value) (w : Option Written) (rest : List ℕ) → turned (with_values (suc k) name vs) (tail_behind k (End w) rest) ≡ Ok (firing name vs w, rest)
ends k name vs None rest = ap (λ (us : List Value). Ok (firing name us None, rest)) (append-nil vs)
ends k name vs (Some w) rest = ap (λ (us : List Value). Ok (firing name us (Some w), rest)) (append-nil vs)

ends_at : (k : ℕ) (name : Activity) (vs : List Value) (w : Option Written) (bs rest : List ℕ) → next_at bs ≡ Ok (End w, rest) → behind_values (suc k) name vs bs ≡ Ok (firing name vs w, rest)
ends_at k name vs w bs rest h = ap (turned (with_values (suc k) name vs)) (tail_read k bs (End w) rest h) ∙ ends k name vs w rest

-- one value more, and what comes behind it
one_more : (k : ℕ) (name : Activity) (vs : List Value) (v : Value) (r : ReadOf (Tail k)) → turned (λ t. firing name (vs ++ (v ∷ values_of k t)) (write_in k t)) r ≡ turned (with_values k name (vs ++ (v ∷ []))) r
one_more k name vs v (Ok t) = ap (λ (us : List Value). Ok (firing name us (write_in k t.0), t.1)) (sym (append_assoc vs (v ∷ []) (values_of k t.0)))
one_more k name vs v (Err e) = refl

another_at : (k : ℕ) (name : Activity) (vs : List Value) (v : Value) (bs rest : List ℕ) → next_at bs ≡ Ok (Another v, rest) → behind_values (suc k) name vs bs ≡ behind_values k name (vs ++ (v ∷ [])) rest
another_at k name vs v bs rest h =
    ap (turned (with_values (suc k) name vs)) (tail_read k bs (Another v) rest h)
    ∙ twice (λ t. inr (inr (v, t))) (with_values (suc k) name vs) (tail_at k rest)
    ∙ one_more k name vs v (tail_at k rest)

refused_at : (k : ℕ) (name : Activity) (vs : List Value) (bs rest : List ℕ) → next_at bs ≡ Err rest → behind_values (suc k) name vs bs ≡ Err rest
refused_at k name vs bs rest h = ap (turned (with_values (suc k) name vs)) (tail_refused k bs rest h)

-- where the values are fewer than there may be

room : (n : ℕ) → n < most_ports → most_ports - n ≡ suc (most_ports - suc n)
room n l = omega (arith, l)

pub values_end : (name : Activity) (vs : List Value) (w : Option Written) (bs rest : List ℕ) → length vs < most_ports → next_at bs ≡ Ok (End w, rest) → firing_behind name vs bs ≡ Ok (firing name vs w, rest)
unfolding firing_behind
values_end name vs w bs rest l h = ap (λ k. behind_values k name vs bs) (room (length vs) l) ∙ ends_at (most_ports - suc (length vs)) name vs w bs rest h

pub values_another : (name : Activity) (vs : List Value) (v : Value) (bs rest : List ℕ) (r : ReadOf Firing) → length vs < most_ports → next_at bs ≡ Ok (Another v, rest) → firing_behind name (vs ++ (v ∷ [])) rest ≡ r → firing_behind name vs bs ≡ r
unfolding firing_behind
values_another name vs v bs rest r l h k =
    let n : length (vs ++ (v ∷ [])) ≡ suc (length vs) = omega (arith, length-append vs (v ∷ [])) in
    ap (λ j. behind_values j name vs bs) (room (length vs) l)
    ∙ another_at (most_ports - suc (length vs)) name vs v bs rest h
    ∙ ap (λ j. behind_values (most_ports - j) name (vs ++ (v ∷ [])) rest) (sym n)
    ∙ k

pub values_refused : (name : Activity) (vs : List Value) (bs rest : List ℕ) → length vs < most_ports → next_at bs ≡ Err rest → firing_behind name vs bs ≡ Err rest
unfolding firing_behind
values_refused name vs bs rest l h = ap (λ k. behind_values k name vs bs) (room (length vs) l) ∙ refused_at (most_ports - suc (length vs)) name vs bs rest h

-- behind the first

pub first_end : (name : Activity) (a : Value) (w : Option Written) (bs rest : List ℕ) → next_at bs ≡ Ok (End w, rest) → firing_behind name (a ∷ []) bs ≡ Ok (firing name (a ∷ []) w, rest)
first_end name a w bs rest h = values_end name (a ∷ []) w bs rest (omega arith) h

pub first_another : (name : Activity) (a b : Value) (bs rest : List ℕ) (r : ReadOf Firing) → next_at bs ≡ Ok (Another b, rest) → firing_behind name (a ∷ b ∷ []) rest ≡ r → firing_behind name (a ∷ []) bs ≡ r
first_another name a b bs rest r h k = values_another name (a ∷ []) b bs rest r (omega arith) h k

pub first_refused : (name : Activity) (a : Value) (bs rest : List ℕ) → next_at bs ≡ Err rest → firing_behind name (a ∷ []) bs ≡ Err rest
first_refused name a bs rest h = values_refused name (a ∷ []) bs rest (omega arith) h

-- behind the second

pub second_end : (name : Activity) (a b : Value) (w : Option Written) (bs rest : List ℕ) → next_at bs ≡ Ok (End w, rest) → firing_behind name (a ∷ b ∷ []) bs ≡ Ok (firing name (a ∷ b ∷ []) w, rest)
second_end name a b w bs rest h = values_end name (a ∷ b ∷ []) w bs rest (omega arith) h

pub second_another : (name : Activity) (a b c : Value) (bs rest : List ℕ) (r : ReadOf Firing) → next_at bs ≡ Ok (Another c, rest) → firing_behind name (a ∷ b ∷ c ∷ []) rest ≡ r → firing_behind name (a ∷ b ∷ []) bs ≡ r
second_another name a b c bs rest r h k = values_another name (a ∷ b ∷ []) c bs rest r (omega arith) h k

pub second_refused : (name : Activity) (a b : Value) (bs rest : List ℕ) → next_at bs ≡ Err rest → firing_behind name (a ∷ b ∷ []) bs ≡ Err rest
second_refused name a b bs rest h = values_refused name (a ∷ b ∷ []) bs rest (omega arith) h

-- and where they are all

none_left : (n : ℕ) → n ≡ most_ports → most_ports - n ≡ 0
none_left n e = omega (arith, e)

none_behind : (name : Activity) (vs : List Value) (bs : List ℕ) → length vs ≡ most_ports → firing_behind name vs bs ≡ mapped (λ w. firing name vs w) end_at bs
unfolding firing_behind end_at
none_behind name vs bs e =
    ap (λ k. behind_values k name vs bs) (none_left (length vs) e)
    ∙ all_there (tail_at 0 bs)
    ∙ sym (twice (write_in 0) (λ w. firing name vs w) (tail_at 0 bs))
  where
    all_there : (r : ReadOf (Tail 0)) → turned (with_values 0 name vs) r ≡ turned (λ t. firing name vs (write_in 0 t)) r
    all_there (Ok t) = ap (λ (us : List Value). Ok (firing name us (write_in 0 t.0), t.1)) (append-nil vs)
    all_there (Err x) = refl

pub last_end : (name : Activity) (vs : List Value) (w : Option Written) (bs rest : List ℕ) → length vs ≡ most_ports → end_at bs ≡ Ok (w, rest) → firing_behind name vs bs ≡ Ok (firing name vs w, rest)
last_end name vs w bs rest e h = none_behind name vs bs e ∙ ap (turned (λ w. firing name vs w)) h

pub last_refused : (name : Activity) (vs : List Value) (bs rest : List ℕ) → length vs ≡ most_ports → end_at bs ≡ Err rest → firing_behind name vs bs ≡ Err rest
last_refused name vs bs rest e h = none_behind name vs bs e ∙ ap (turned (λ w. firing name vs w)) h

-- from the front on

abbrev FirstAndTail : Type 0
FirstAndTail = Value × Tail more_values

abbrev first_and_tail : Activity → FirstAndTail → Firing
first_and_tail name t = firing name (t.0 ∷ values_of more_values t.1) (write_in more_values t.1)

abbrev any_tail : Value → Reader (Tail more_values)
any_tail _ = tail_at more_values

name_then : (name : Activity) (bs : List ℕ) → behind_name name bs ≡ mapped (first_and_tail name) (both spaced_value any_tail) bs
unfolding behind_name
name_then name bs = ap (turned (first_and_tail name)) (lead_both 32 value_at any_tail bs)

pub name_and_first : (name : Activity) (a : Value) (bs rest : List ℕ) (r : ReadOf Firing) → spaced_value bs ≡ Ok (a, rest) → firing_behind name (a ∷ []) rest ≡ r → behind_name name bs ≡ r
unfolding firing_behind
name_and_first name a bs rest r h k = name_then name bs ∙ both_ok spaced_value any_tail (first_and_tail name) bs a rest h ∙ k

pub name_alone : (name : Activity) (bs rest : List ℕ) → spaced_value bs ≡ Err rest → behind_name name bs ≡ Err rest
name_alone name bs rest h = name_then name bs ∙ both_err spaced_value any_tail (first_and_tail name) bs rest h

abbrev any_values : Activity → Reader FirstAndTail
any_values _ = values_at

firing_then : (bs : List ℕ) → firing_at bs ≡ mapped firing_of (both activity_at any_values) bs
unfolding firing_at
firing_then bs =
    ap (λ (R : Reader (Activity × FirstAndTail)). mapped firing_of (lead 102 R) bs) (λ i cs. lead_both 32 name_steps any_values cs i)
    ∙ ap (turned firing_of) (lead_both 102 (lead 32 name_steps) any_values bs)

pub firing_named : (name : Activity) (bs rest : List ℕ) (r : ReadOf Firing) → activity_at bs ≡ Ok (name, rest) → behind_name name rest ≡ r → firing_at bs ≡ r
unfolding behind_name
firing_named name bs rest r h k = firing_then bs ∙ both_ok activity_at any_values firing_of bs name rest h ∙ k

pub firing_unnamed : (bs rest : List ℕ) → activity_at bs ≡ Err rest → firing_at bs ≡ Err rest
firing_unnamed bs rest h = firing_then bs ∙ both_err activity_at any_values firing_of bs rest h
