-- Where the contexts and initiations of a derivation come from.
use Rattle.std.proofs.Common.{◌≡◌, ℕ, ◌+◌, ◌≤◌, refl, ap, arith, subst, List, [], ◌∷◌, ◌++◌, length, Some, inl, inr, ◌⊎◌}
use Rattle.std.specs.Prelude.{Contains}
use Rattle.std.proofs.lemmas.List.Elements.{Contains-append_left, Contains-push_cases}
use Rattle.u_base.specs.Firing.{Held, Enabled, Derivation}
use Rattle.u_base.proofs.Member.{Contains-nil, Contains-head}
use Rattle.u_base.proofs.Determinate.{Derivation-along}
use Rattle.u_name.specs.Context.{Tree, Top, InLoop, InCall}
use Rattle.u_name.specs.Name.{Activity, activity}
use Rattle.u_value.specs.declared.value.Value.{Value}
use Rattle.u_value.specs.declared.value.Value.TheVariants as values
use Rattle.u_program.specs.declared.program.Kind.{Kind}
use Rattle.u_program.specs.declared.program.Kind.TheVariants.{Enter, Next, Last, Leave}
use Rattle.u_program.specs.Parts.{StatementParts}
use Rattle.u_check.specs.Rules.{main_name, IsChecked}
use Rattle.u_check.specs.Jobs.{JobParts}
use Rattle.u_check.proofs.KindTests.{few_ports}
use Rattle.u_rule.specs.Parts.{TokenParts, token, ValueList}
use Rattle.u_rule.specs.Fits.{statement_of}
use Rattle.u_rule.specs.Rule.{needs_of, reached, start_of, system_of}
use Rattle.u_rule.specs.declared.entry.Entry.{Entry}
use Rattle.u_rule.specs.declared.entry.Entry.TheVariants as entries
use Rattle.u_rule.specs.declared.firing.Firing.{Firing}
use Rattle.u_determinate.proofs.Checked.{Fires, fires_of}
use Rattle.u_determinate.proofs.Givers.{Giver, giver}

-- a `next` of that context, block and initiation fired
pub record Stepped (job : JobParts) (fs : List Firing) (u : Tree) (name : List ℕ) (i : ℕ) : Type 0 where
  pub firing : Firing
  pub fired : Contains fs firing
  pub context : firing.activity.context ≡ u
  pub block : firing.activity.block ≡ name
  pub initiation : firing.activity.initiation ≡ i
  pub it : StatementParts
  pub stands : statement_of job.program.blocks name firing.activity.statement ≡ Some it
  pub is_next : it.kind ≡ Next

-- that activity called that block
pub record Called (fs : List Firing) (a : Activity) (block : List ℕ) : Type 0 where
  pub firing : Firing
  pub fired : Contains fs firing
  pub activity : firing.activity ≡ a
  pub rest : ValueList
  pub values : firing.values ≡ values.Proc block ∷ rest

-- an `enter` of that loop fired in that context and block, at that initiation
pub record Entered (job : JobParts) (fs : List Firing) (u : Tree) (name : List ℕ) (l i : ℕ) : Type 0 where
  pub firing : Firing
  pub fired : Contains fs firing
  pub context : firing.activity.context ≡ u
  pub block : firing.activity.block ≡ name
  pub initiation : firing.activity.initiation ≡ i
  pub it : StatementParts
  pub stands : statement_of job.program.blocks name firing.activity.statement ≡ Some it
  pub is_enter : it.kind ≡ Enter l

-- In a loop the first initiation was entered, and a later one was stepped to from the one before it.
-- A called block was called. And so for the place where the loop was entered, or the call made.
abbrev pub Rooted : JobParts → List Firing → Tree → List ℕ → ℕ → Type 0
Rooted job fs Top block i = Unit {0}
Rooted job fs (InLoop v d l j) block i = (1 ≤ i) × ((i ≡ 1) ⊎ ((k : ℕ) × (i ≡ k + 1) × Stepped job fs (InLoop v d l j) block k)) × Rooted job fs v d j × Entered job fs v d l j
Rooted job fs (InCall v d s j) block i = Called fs (activity v d s j) block × Rooted job fs v d j

abbrev pub RootedAt : JobParts → List Firing → Activity → Type 0
RootedAt job fs a = Rooted job fs a.context a.block a.initiation

-- more firings root no less
rooted_more : (job : JobParts) (fs gs : List Firing) → ((f : Firing) → Contains fs f → Contains gs f) → (u : Tree) (block : List ℕ) (i : ℕ) → Rooted job fs u block i → Rooted job gs u block i
rooted_more job fs gs sub Top block i r = tt
rooted_more job fs gs sub (InLoop v d l j) block i r =
    (r.0, step r.1, rooted_more job fs gs sub v d j r.2, entered r.3)
  where
    entered : Entered job fs v d l j → Entered job gs v d l j
    entered e = record { firing = e.firing; fired = sub e.firing e.fired; context = e.context; block = e.block; initiation = e.initiation; it = e.it; stands = e.stands; is_enter = e.is_enter }

    step : (i ≡ 1) ⊎ ((k : ℕ) × (i ≡ k + 1) × Stepped job fs (InLoop v d l j) block k) → (i ≡ 1) ⊎ ((k : ℕ) × (i ≡ k + 1) × Stepped job gs (InLoop v d l j) block k)
    step (inl e) = inl e
    step (inr (k, e, s)) =
        inr (k, e, record { firing = s.firing; fired = sub s.firing s.fired; context = s.context; block = s.block; initiation = s.initiation; it = s.it; stands = s.stands; is_next = s.is_next })
rooted_more job fs gs sub (InCall v d s j) block i r =
    (record { firing = r.0.firing; fired = sub r.0.firing r.0.fired; activity = r.0.activity; rest = r.0.rest; values = r.0.values }, rooted_more job fs gs sub v d j r.1)

-- what is held is the start, or given by a firing
held_cases : (job : JobParts) (fs : List Firing) (t : TokenParts) → Held (system_of job) fs (entries.Token t) → (entries.Token t ≡ start_of job) ⊎ ((f : Firing) × Contains fs f × Giver job f t)
held_cases job fs t (inl e) = inl e
held_cases job fs t (inr (f, m, g)) = inr (f, m, giver job f t g)

pub given_token : (job : JobParts) (fs : List Firing) (t : TokenParts) → Held (system_of job) fs (entries.Token t) → (entries.Token t ≡ start_of job) ⊎ ((f : Firing) × Contains fs f × Giver job f t)
given_token = held_cases

pub start_place : (job : JobParts) (t : TokenParts) → entries.Token t ≡ start_of job → (t.activity ≡ activity Top main_name 1 1) × (t.port ≡ 1)
unfolding start_of
start_place job t e =
    let z : t ≡ token (activity Top main_name 1 1) 1 (values.Int job.argument) = cc in
    (ap (λ (x : TokenParts). x.activity) z, ap (λ (x : TokenParts). x.port) z)

-- a firing needs a token at its first port
pub first_token : (job : JobParts) (sound : IsChecked job.program.blocks) (H : Entry → Type 0) (f : Firing) → Enabled (system_of job) H f → (v : Value) × H (entries.Token (token f.activity 1 v))
unfolding needs_of
first_token job sound H f en = at f.values refl (fires_of job sound f en.0)
  where
    need : (v : Value) (vs : ValueList) → f.values ≡ v ∷ vs → Contains (needs_of f) (entries.Token (token f.activity 1 v))
    need v vs e = rw e (Contains-head _ _)

    at : (vs : ValueList) → f.values ≡ vs → Fires job f → (v : Value) × H (entries.Token (token f.activity 1 v))
    at [] e r = let l = (few_ports r.it.kind).0 in absurd (omega (arith, l, r.count, ap length e))
    at (v ∷ vs) e r = (v, en.1 _ (need v vs e))

module _ (job : JobParts) (fs : List Firing) (f : Firing) (m : Contains fs f) (r : RootedAt job fs f.activity) where
  -- where an arc leads from a rooted activity is rooted
  stepped : (u : Tree) (i : ℕ) → f.activity.context ≡ u → f.activity.initiation ≡ i → Rooted job fs u f.activity.block i → (s : StatementParts) → statement_of job.program.blocks f.activity.block f.activity.statement ≡ Some s → s.kind ≡ Next → Rooted job fs u f.activity.block (i + 1)
  stepped Top i c j q s e k = tt
  stepped (InLoop v d l t) i c j q s e k =
      (omega arith, inr (i, refl, record { firing = f; fired = m; context = c; block = refl; initiation = j; it = s; stands = e; is_next = k }), q.2, q.3)
  stepped (InCall v d n t) i c j q s e k = q

  anew : (u : Tree) → Rooted job fs u f.activity.block f.activity.initiation → Rooted job fs u f.activity.block 1
  anew Top q = tt
  anew (InLoop v d l t) q = (omega arith, inl refl, q.2, q.3)
  anew (InCall v d n t) q = q

  leaving : (u : Tree) → f.activity.context ≡ u → Rooted job fs u f.activity.block f.activity.initiation → (n : ℕ) → RootedAt job fs (reached Leave f.activity n)
  leaving Top c q n = rw c tt
  leaving (InLoop v d l t) c q n = rw c q.2
  leaving (InCall v d s t) c q n = rw c q

  arc_rooted : (k : Kind) (s : StatementParts) → statement_of job.program.blocks f.activity.block f.activity.statement ≡ Some s → s.kind ≡ k → (n : ℕ) → RootedAt job fs (reached k f.activity n)
  arc_rooted (Enter l) s e q n = (omega arith, inl refl, r, record { firing = f; fired = m; context = refl; block = refl; initiation = refl; it = s; stands = e; is_enter = q })
  arc_rooted Next s e q n = stepped f.activity.context f.activity.initiation refl refl r s e q
  arc_rooted Last s e q n = anew f.activity.context r
  arc_rooted Leave s e q n = leaving f.activity.context refl r n
  arc_rooted k s e q n = r

  token_rooted : (t : TokenParts) → Giver job f t → RootedAt job fs t.activity
  token_rooted t (inl b) = rw b.activity (arc_rooted b.it.kind b.it b.stands refl b.to.statement)
  token_rooted t (inr (inl b)) =
      rw b.activity (record { firing = f; fired = m; activity = refl; rest = b.rest; values = b.values }, r)
  token_rooted t (inr (inr b)) =
      let q = subst (λ (u : Tree). Rooted job fs u f.activity.block f.activity.initiation) b.context r in rw b.activity q.1

abbrev pub AllRooted : JobParts → List Firing → Type 0
AllRooted job fs = (f : Firing) → Contains fs f → RootedAt job fs f.activity

module _ (job : JobParts) (sound : IsChecked job.program.blocks) where
  -- an enabled firing is rooted where all that fired are
  pub enabled_rooted : (fs : List Firing) → AllRooted job fs → (f : Firing) → Enabled (system_of job) (Held (system_of job) fs) f → RootedAt job fs f.activity
  enabled_rooted fs q f en =
      let t = first_token job sound (Held (system_of job) fs) f en in
      elim (held_cases job fs (token f.activity 1 t.0) t.1) [
        | inl e ↦ let z = (start_place job _ e).0 in rw z tt
        | inr (h, m, g) ↦ token_rooted job fs h m (q h m) (token f.activity 1 t.0) g
      ]

  pub all_rooted : (fs : List Firing) → Derivation (system_of job) fs → AllRooted job fs
  all_rooted =
      Derivation-along (system_of job) (AllRooted job) (λ f m. absurd (Contains-nil f m)) (λ fs g q en f m. more fs g f (elim (Contains-push_cases fs g f m) [ inl a ↦ q f a | inr e ↦ subst (λ (x : Firing). RootedAt job fs x.activity) e (enabled_rooted fs q g en) ]))
    where
      more : (fs : List Firing) (g f : Firing) → RootedAt job fs f.activity → RootedAt job (fs ++ g ∷ []) f.activity
      more fs g f r =
          rooted_more job fs (fs ++ g ∷ []) (λ x m. Contains-append_left fs (g ∷ []) x m) f.activity.context f.activity.block f.activity.initiation r

  -- so is each place at which a token is held
  pub held_rooted : (fs : List Firing) → Derivation (system_of job) fs → (t : TokenParts) → Held (system_of job) fs (entries.Token t) → RootedAt job fs t.activity
  held_rooted fs d t h =
      elim (held_cases job fs t h) [
        | inl e ↦ let z = (start_place job t e).0 in rw z tt
        | inr (f, m, g) ↦ token_rooted job fs f m (all_rooted fs d f m) t g
      ]
