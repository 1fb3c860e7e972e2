-- What the checker's rules and `is_firing_of` say, gathered; and that equality is decided.
use Rattle.std.proofs.Common.{◌≡◌, ℕ, ◌-◌, ◌≤◌, refl, ap, sym, ◌∙◌, arith, subst, true, false, ◌==◌, List, length, Option, Some, None, inl, inr, ◌⊎◌}
use Rattle.std.specs.Prelude.{Contains}
use Rattle.std.specs.Cmp.{tied_itself}
use Rattle.std.specs.declared.cmp.Ordering.{Ordering}
use Rattle.std.specs.declared.cmp.Ordering.TheVariants.{Less, Equal, Greater}
use Rattle.std.proofs.lemmas.Bool.{false≢true, and_parts, eqb-true}
use Rattle.std.specs.Cmp.Lexicographic.{bytes_decides}
use Rattle.u_name.specs.Context.{Tree, Top, InLoop, InCall}
use Rattle.u_name.specs.Name.{Activity}
use Rattle.u_name.specs.NameOrder.{name_cmp, name_cmp_total, name_cmp_ties}
use Rattle.u_value.specs.declared.value.Value.{Value}
use Rattle.u_value.specs.Values.{value_cmp}
use Rattle.u_value.specs.ExactOrders.{value_cmp_total, value_cmp_ties}
use Rattle.u_program.specs.declared.program.Kind.TheVariants.{Begin, Back}
use Rattle.u_program.specs.declared.program.Destination.{Destination}
use Rattle.u_program.specs.Parts.{StatementParts, BlockParts}
use Rattle.u_check.specs.Kinds.{ports_of, comes_from_outside, is_last, is_leave, is_of_loop, is_end, back_named}
use Rattle.u_check.specs.Rules.{main_name, statement_at, sends, IsChecked}
use Rattle.u_check.specs.Jobs.{JobParts}
use Rattle.u_check.proofs.Arcs.{has_number}
use Rattle.u_check.proofs.Blocks.{named_member}
use Rattle.u_check.proofs.KindTests.{begin_kind}
use Rattle.u_check.proofs.Facts.{begin_first, region_exists, lies_in_loop, end_outside, apply_returned, target_exists, target_takes, leave_from_last}
use Rattle.u_determinate.proofs.KindFacts.{named_apply}
use Rattle.u_rule.specs.Fits.{statement_of, fits, fits_at}
use Rattle.u_rule.specs.Structures.{has_its_write}
use Rattle.u_rule.specs.Rule.{is_firing_of, is_firing_at, is_inner_of, is_inner_at, has_its_values, has_its_form}
use Rattle.u_rule.specs.Replies.{IsReply}
use Rattle.u_rule.specs.declared.firing.Firing.{Firing}
use Rattle.u_rule.specs.declared.parts.Written.{Written}
use Rattle.u_rule.proofs.Places.{looping}
use Rattle.u_determinate.proofs.Named.{named}
use Rattle.u_rule.proofs.Firings.{at_statement, inner_at_statement, inner_or_reply}

pub record Keeps (b : BlockParts) (n : ℕ) (s : StatementParts) : Type 0 where
  pub begin_first : n ≡ 1 → s.kind ≡ Begin
  pub region_exists : s.region ≤ length b.loops
  pub lies_in_loop : is_of_loop s.kind ≡ true → 1 ≤ s.region
  pub end_outside : is_end s.kind ≡ true → s.region ≡ 0
  pub apply_back : (m : ℕ) → back_named s.kind ≡ Some m → (t : StatementParts) × (statement_at b.statements m ≡ Some t) × (t.kind ≡ Back)
  pub target : (d : Destination) → Contains (sends s) d → (t : StatementParts) × (statement_at b.statements d.statement ≡ Some t) × (comes_from_outside t.kind ≡ false) × (is_last s.kind ≡ is_leave t.kind)

pub keeps : (job : JobParts) → IsChecked job.program.blocks → (name : List ℕ) (b : BlockParts) → named job name ≡ Some b → (n : ℕ) (s : StatementParts) → statement_at b.statements n ≡ Some s → Keeps b n s
keeps job c name b q n s e =
    let p = job.program.blocks in
    let m = (named_member p name b q).0 in
    let i = has_number b.statements n s e in
    record {
      begin_first = λ z. begin_kind s.kind (begin_first p c b m (n - 1) s i.1 (omega (arith, z))).0;
      region_exists = region_exists p c b m (n - 1) s i.1;
      lies_in_loop = lies_in_loop p c b m (n - 1) s i.1;
      end_outside = end_outside p c b m (n - 1) s i.1;
      apply_back = λ j z. (let a = named_apply s.kind j z in let r = apply_returned p c b m (n - 1) s i.1 j a.0 a.1 in (r.it, r.stands, r.is_a_back));
      target = λ d x. (let g = target_exists p c b m (n - 1) s i.1 d x in (g.it, g.stands, target_takes p c b m (n - 1) s i.1 d x g.it g.stands, leave_from_last p c b m (n - 1) s i.1 d x g.it g.stands));
    }

pub record Fires (job : JobParts) (f : Firing) : Type 0 where
  pub it : StatementParts
  pub stands : statement_of job.program.blocks f.activity.block f.activity.statement ≡ Some it
  pub count : length f.values ≡ ports_of it.kind
  pub write : is_inner_of job f ≡ true → has_its_write it.kind f.values f.write ≡ true
  pub in_loop : 1 ≤ it.region → (outer : Tree) × (turn : ℕ) × (f.activity.context ≡ InLoop outer f.activity.block it.region turn)
  pub outside : it.region ≡ 0 → f.activity.initiation ≡ 1
  pub in_main : f.activity.context ≡ Top → f.activity.block ≡ main_name

module _ (job : JobParts) where
  first_turn : (u : Tree) (block : List ℕ) (region i : ℕ) → fits job.program.blocks u block region i ≡ true → region ≡ 0 → i ≡ 1
  first_turn Top block region i e z =
      let a = and_parts (region == 0) _ e in
      eqb-true i 1 (and_parts (i == 1) _ a.1).0
  first_turn (InLoop outer from number turn) block region i e z = (let q : fits job.program.blocks (InLoop outer from number turn) block 0 i ≡ true = subst (λ (r : ℕ). fits job.program.blocks (InLoop outer from number turn) block r i ≡ true) z e in absurd (false≢true q))
  first_turn (InCall outer from caller turn) block region i e z =
      let a = and_parts (region == 0) _ e in
      eqb-true i 1 (and_parts (i == 1) _ a.1).0

  main_alone : (u : Tree) (block : List ℕ) (region i : ℕ) → fits job.program.blocks u block region i ≡ true → u ≡ Top → block ≡ main_name
  main_alone Top block region i e z =
      let a = and_parts (region == 0) _ e in
      (bytes_decides block main_name).0 (and_parts (i == 1) _ a.1).1
  main_alone (InLoop outer from number turn) block region i e z = cc
  main_alone (InCall outer from caller turn) block region i e z = cc

  -- an inner firing of a statement
  inner_parts : (f : Firing) (s : StatementParts) → statement_of job.program.blocks f.activity.block f.activity.statement ≡ Some s → is_inner_of job f ≡ true → (length f.values ≡ ports_of s.kind) × (has_its_write s.kind f.values f.write ≡ true)
  inner_parts f s q o =
      let k : is_inner_at job.program.blocks (Some s) f ≡ true = rw q at (inner_at_statement job f o) in
      let a = and_parts (fits_at job.program.blocks s.region f.activity) (has_its_values s f) k in
      let b = and_parts (length f.values == ports_of s.kind) (has_its_write s.kind f.values f.write) a.1 in
      (eqb-true (length f.values) (ports_of s.kind) b.0, b.1)

  -- an inner firing and a reply have one value for each port
  counted : (f : Firing) (s : StatementParts) → statement_of job.program.blocks f.activity.block f.activity.statement ≡ Some s → is_firing_of job f ≡ true → length f.values ≡ ports_of s.kind
  counted f s q e = elim (inner_or_reply job f e) [ inl o ↦ (inner_parts f s q o).0 | inr r ↦ of_reply r ]
    where
      of_reply : IsReply job f → length f.values ≡ ports_of s.kind
      of_reply r =
          let it : r.it ≡ s = (let p = r.stands in cc) in
          r.count ∙ ap (λ (z : StatementParts). ports_of z.kind) it

  pub fires_of : IsChecked job.program.blocks → (f : Firing) → is_firing_of job f ≡ true → Fires job f
  fires_of c f is = at (statement_of job.program.blocks f.activity.block f.activity.statement) refl (at_statement job f is)
    where
      at : (o : Option StatementParts) → statement_of job.program.blocks f.activity.block f.activity.statement ≡ o → is_firing_at job.program.blocks o f ≡ true → Fires job f
      at None q e = absurd (false≢true e)
      at (Some s) q e =
          let a = and_parts (fits_at job.program.blocks s.region f.activity) (has_its_form s f) e in
          record {
            it = s;
            stands = q;
            count = counted f s q is;
            write = λ o. (inner_parts f s q o).1;
            in_loop = λ l. (let r = looping job.program.blocks f.activity.context f.activity.block s.region f.activity.initiation a.0 l in (r.outer, r.turn, r.is));
            outside = first_turn f.activity.context f.activity.block s.region f.activity.initiation a.0;
            in_main = main_alone f.activity.context f.activity.block s.region f.activity.initiation a.0;
          }

decided : (o : Ordering) → (o ≡ Equal) ⊎ (o ≡ Equal → ⊥)
decided Less = inr (λ e. cc)
decided Equal = inl refl
decided Greater = inr (λ e. cc)

pub same_value : (a b : Value) → (a ≡ b) ⊎ (a ≡ b → ⊥)
same_value a b =
    elim (decided (value_cmp a b)) [ inl e ↦ inl (value_cmp_ties a b e) | inr n ↦ inr (λ q. n (ap (λ (x : Value). value_cmp a x) (sym q) ∙ tied_itself value_cmp_total a)) ]

same_writer : (a b : Activity) → (a ≡ b) ⊎ (a ≡ b → ⊥)
same_writer a b =
    elim (decided (name_cmp a b)) [ inl e ↦ inl (name_cmp_ties a b e) | inr n ↦ inr (λ q. n (ap (λ (x : Activity). name_cmp a x) (sym q) ∙ tied_itself name_cmp_total a)) ]

pub same_written : (a b : Written) → (a ≡ b) ⊎ (a ≡ b → ⊥)
same_written a b =
    elim (same_writer a.writer b.writer) [
      | inr n ↦ inr (λ q. n (ap (λ (x : Written). x.writer) q))
      | inl e ↦ elim (same_value a.value b.value) [
        | inr n ↦ inr (λ q. n (ap (λ (x : Written). x.value) q))
        | inl q ↦ inl (ap (λ (x : Activity). record { writer = x; value = a.value }) e ∙ ap (λ (x : Value). record { writer = b.writer; value = x }) q)
      ]
    ]
