-- The arc along which a token came.
use Rattle.std.proofs.Common.{◌≡◌, ℕ, ◌≤◌, refl, ap, sym, ◌∙◌, subst, Bool, true, false, List, ◌++◌, length, Option, Some, None, inl, inr}
use Rattle.std.specs.Prelude.{slice_get, Contains}
use Rattle.std.proofs.lemmas.Bool.{false≢true}
use Rattle.std.proofs.lemmas.Option.{slice_get_read}
use Rattle.std.proofs.lemmas.List.Elements.{Contains-append_left, Contains-append_right}
use Rattle.u_base.specs.Firing.{Held}
use Rattle.u_name.specs.Context.{Tree, InLoop}
use Rattle.u_name.specs.Name.{Activity, activity, left}
use Rattle.u_program.specs.declared.program.Kind.{Kind}
use Rattle.u_program.specs.declared.program.Kind.TheVariants.{Begin, Enter, Next, Last, Leave, Back}
use Rattle.u_program.specs.declared.program.Destination.{Destination}
use Rattle.u_program.specs.Parts.{StatementParts, BlockParts}
use Rattle.u_check.specs.Kinds.{comes_from_outside, is_last, is_leave, is_of_loop, back_named}
use Rattle.u_check.specs.Rules.{statement_at, Arc, arc, destination_in, destination_of, IsChecked}
use Rattle.u_check.specs.Rules as rules
use Rattle.u_check.specs.Jobs.{JobParts}
use Rattle.u_rule.specs.Parts.{TokenParts}
use Rattle.u_rule.specs.Fits.{statement_in, statement_of}
use Rattle.u_rule.specs.Rule.{is_firing_of, reached, system_of}
use Rattle.u_rule.specs.declared.entry.Entry.TheVariants as entries
use Rattle.u_rule.specs.declared.firing.Firing.{Firing}
use Rattle.u_determinate.proofs.Named.{named}
use Rattle.u_determinate.proofs.Checked.{Fires, keeps, fires_of}
use Rattle.u_determinate.proofs.Givers.{ByArc, ByApply, ByEnd}
use Rattle.u_determinate.proofs.Parameters.{takes_argument}
use Rattle.u_determinate.proofs.Rooted.{given_token, start_place}

-- a statement in its block
pub record Placed (job : JobParts) (a : Activity) (s : StatementParts) : Type 0 where
  pub block : BlockParts
  pub named : named job a.block ≡ Some block
  pub stands : statement_at block.statements a.statement ≡ Some s

pub placed : (job : JobParts) (a : Activity) (s : StatementParts) → statement_of job.program.blocks a.block a.statement ≡ Some s → Placed job a s
placed job a s e = at (named job a.block) refl e
  where
    at : (o : Option BlockParts) → named job a.block ≡ o → statement_in o a.statement ≡ Some s → Placed job a s
    at None q e = cc
    at (Some b) q e = record { block = b; named = q; stands = e }

-- an arc from the firing's statement, with its block and the statement that it leads to
pub record Sent (job : JobParts) (f : Firing) (t : TokenParts) : Type 0 where
  pub by : ByArc job f t
  pub there : Placed job f.activity by.it
  pub arc : Arc
  pub from : arc.statement ≡ f.activity.statement
  pub side : arc.on_false ≡ by.on_false
  pub leads : destination_of there.block.statements arc ≡ Some by.to
  pub target : StatementParts
  pub target_stands : statement_at there.block.statements by.to.statement ≡ Some target
  pub takes : comes_from_outside target.kind ≡ false
  pub leaves : is_last by.it.kind ≡ is_leave target.kind
  pub block : t.activity.block ≡ f.activity.block
  pub statement : t.activity.statement ≡ by.to.statement

place_of_member : {X : Type 0} (xs : List X) (x : X) → Contains xs x → (i : ℕ) × (slice_get xs i ≡ Some x)
place_of_member xs x (i, l, e) = (i, slice_get_read xs (length xs) i x refl l (sym e))

in_sends : (s : StatementParts) (on_false : Bool) (d : Destination) → Contains (rules.list_of s on_false) d → Contains (s.to ++ s.otherwise) d
in_sends s true d m = Contains-append_right s.to s.otherwise d m
in_sends s false d m = Contains-append_left s.to s.otherwise d m

leave_kind : (k : Kind) → is_leave k ≡ true → k ≡ Leave
leave_kind Leave e = refl
leave_kind k e = absurd (false≢true e)

-- a reached activity is of the same block, and of the statement that the arc leads to
reached_place : (k : Kind) (a : Activity) (n : ℕ) → (k ≡ Leave → (u : Tree) × (l : ℕ) × (j : ℕ) × (a.context ≡ InLoop u a.block l j)) → ((reached k a n).block ≡ a.block) × ((reached k a n).statement ≡ n)
reached_place (Enter l) a n h = (refl, refl)
reached_place Next a n h = (refl, refl)
reached_place Last a n h = (refl, refl)
reached_place Leave a n h =
    let q = h refl in
    let e : left a n ≡ activity q.0 a.block n q.2 = rw q.3 refl in
    (ap (λ (x : Activity). x.block) e, ap (λ (x : Activity). x.statement) e)
reached_place k a n h = (refl, refl)

-- the context of a statement that stands in a loop
pub record Looped (f : Firing) (region : ℕ) : Type 0 where
  pub from : 1 ≤ region
  pub outer : Tree
  pub turn : ℕ
  pub context : f.activity.context ≡ InLoop outer f.activity.block region turn

module _ (job : JobParts) (sound : IsChecked job.program.blocks) where
  looped_in : (f : Firing) (r : Fires job f) (region : ℕ) → r.it.region ≡ region → 1 ≤ region → Looped f region
  looped_in f r region e l =
      let z = r.in_loop (subst (λ (x : ℕ). 1 ≤ x) (sym e) l) in
      record { from = l; outer = z.0; turn = z.1; context = z.2 ∙ ap (λ (x : ℕ). InLoop z.0 f.activity.block x z.1) e }

  pub looped : (f : Firing) → is_firing_of job f ≡ true → (s : StatementParts) (p : Placed job f.activity s) → is_of_loop s.kind ≡ true → Looped f s.region
  looped f x s p q =
      let k = keeps job sound f.activity.block p.block p.named f.activity.statement s p.stands in
      looped_in f (fires_of job sound f x) s.region (region_of (fires_of job sound f x)) (k.lies_in_loop q)
    where
      region_of : (r : Fires job f) → r.it.region ≡ s.region
      region_of r =
          let z : statement_of job.program.blocks f.activity.block f.activity.statement ≡ Some s = ap (λ (o : Option BlockParts). statement_in o f.activity.statement) p.named ∙ p.stands in
          let y : r.it ≡ s = (let a = r.stands in cc) in
          ap (λ (t : StatementParts). t.region) y

  pub sent : (f : Firing) → is_firing_of job f ≡ true → (t : TokenParts) → ByArc job f t → Sent job f t
  sent f x t b =
      let p = placed job f.activity b.it b.stands in
      let k = keeps job sound f.activity.block p.block p.named f.activity.statement b.it p.stands in
      let i = place_of_member (rules.list_of b.it b.on_false) b.to b.listed in
      let g = k.target b.to (in_sends b.it b.on_false b.to b.listed) in
      let r = fires_of job sound f x in
      let s : r.it ≡ b.it = (let m = r.stands in let n = b.stands in cc) in
      let looping : b.it.kind ≡ Leave → (u : Tree) × (l : ℕ) × (j : ℕ) × (f.activity.context ≡ InLoop u f.activity.block l j) = λ q. (let z = r.in_loop (rw s (k.lies_in_loop (rw q refl))) in (z.0, r.it.region, z.1, z.2)) in
      let z = reached_place b.it.kind f.activity b.to.statement looping in
      record {
        by = b;
        there = p;
        arc = arc f.activity.statement b.on_false i.0;
        from = refl;
        side = refl;
        leads = ap (λ (o : Option StatementParts). destination_in o (arc f.activity.statement b.on_false i.0)) p.stands ∙ i.1;
        target = g.0;
        target_stands = g.1;
        takes = g.2;
        leaves = g.3;
        block = ap (λ (x : Activity). x.block) b.activity ∙ z.0;
        statement = ap (λ (x : Activity). x.statement) b.activity ∙ z.1;
      }

  -- statement 1 of a block takes no token from an arc
  pub not_first : (name : List ℕ) (b : BlockParts) (s : StatementParts) → named job name ≡ Some b → statement_at b.statements 1 ≡ Some s → comes_from_outside s.kind ≡ false → ⊥
  not_first name b s q e o =
      let k = (keeps job sound name b q 1 s e).begin_first refl in false≢true (sym o ∙ ap comes_from_outside k)

  -- nor does the `back` that an `apply` names
  pub not_back : (name : List ℕ) (b : BlockParts) (c back : ℕ) (s t : StatementParts) → named job name ≡ Some b → statement_at b.statements c ≡ Some s → back_named s.kind ≡ Some back → statement_at b.statements back ≡ Some t → comes_from_outside t.kind ≡ false → ⊥
  not_back name b c back s t q e a g o =
      let k = (keeps job sound name b q c s e).apply_back back a in
      let z : k.0 ≡ t = (let m = k.1 in cc) in
      false≢true (sym o ∙ ap (λ (x : StatementParts). comes_from_outside x.kind) (sym z) ∙ ap comes_from_outside k.2)

  -- a block's statement 1 is no `back`
  pub back_not_first : (name : List ℕ) (b : BlockParts) (c : ℕ) (s : StatementParts) → named job name ≡ Some b → statement_at b.statements c ≡ Some s → back_named s.kind ≡ Some 1 → ⊥
  back_not_first name b c s q e a =
      let k = (keeps job sound name b q c s e).apply_back 1 a in
      let z = (keeps job sound name b q 1 k.0 k.1).begin_first refl in
      let y : Back ≡ Begin = sym k.2 ∙ z in
      cc

  -- a token for a statement that takes its tokens from arcs came along one
  pub sender : (fs : List Firing) → ((h : Firing) → Contains fs h → is_firing_of job h ≡ true) → (t : TokenParts) (s : StatementParts) → statement_of job.program.blocks t.activity.block t.activity.statement ≡ Some s → comes_from_outside s.kind ≡ false → Held (system_of job) fs (entries.Token t) → (h : Firing) × Contains fs h × Sent job h t
  sender fs each t s e o held =
      elim (given_token job fs t held) [
        | inl z ↦ absurd (first (ap (λ (x : Activity). x.statement) (start_place job t z).0))
        | inr (h, m, g) ↦ elim g [
          | inl b ↦ (h, m, sent h (each h m) t b)
          | inr (inl b) ↦ absurd (argument h b)
          | inr (inr b) ↦ absurd (behind h b)
        ]
      ]
    where
      first : t.activity.statement ≡ 1 → ⊥
      first z = (let p = placed job t.activity s e in not_first t.activity.block p.block s p.named (subst (λ (x : ℕ). statement_at p.block.statements x ≡ Some s) z p.stands) o)

      argument : (h : Firing) → ByApply job h t → ⊥
      argument h b =
          let p = placed job t.activity s e in
          false≢true (sym o ∙ (takes_argument job sound h t b t.activity.block p.block p.named t.activity.statement s p.stands refl refl).0)

      behind : (h : Firing) → ByEnd job h t → ⊥
      behind h b =
          let p = placed job t.activity s e in
          let x : t.activity.block ≡ b.from = ap (λ (y : Activity). y.block) b.activity in
          let y : t.activity.statement ≡ b.back = ap (λ (y : Activity). y.statement) b.activity in
          let q = placed job (activity b.outer b.from b.caller b.turn) b.by b.by_stands in
          let z : p.block ≡ q.block = (let m = p.named in let n = q.named in cc) in
          not_back b.from q.block b.caller b.back b.by s q.named q.stands b.names (let m = p.stands in cc) o
