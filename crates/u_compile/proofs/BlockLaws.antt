-- The block of a graph lies within the limits of a block.
use Rattle.std.proofs.Common.{◌≡◌, ℕ, zero, suc, ◌⊎◌, inl, inr, ◌≤◌, refl, sym, ap, ◌∙◌, subst, arith, Bool, true, false, cond, not, ◌&&◌, ◌||◌, ◌==◌, List, [], ◌∷◌, ◌++◌, ◌<◌, length, Some, Option}
use Rattle.std.specs.Prelude.{slice_get, take}
use Rattle.std.specs.List.{AllByRecursion}
use Rattle.std.proofs.lemmas.List.{length-append, take-append-le}
use Rattle.std.proofs.lemmas.Option.{slice_get_within}
use Rattle.std.proofs.Math.Seq.{take-append_seam}
use Rattle.std.proofs.lemmas.List.Elements.{Contains-push_cases}
use Rattle.std.proofs.lemmas.Bool.{false≢true, and_left, and_right, eqb-true}
use Rattle.u_name.specs.Block.{IsBlock}
use Rattle.u_program.specs.declared.program.Kind.{Kind}
use Rattle.u_program.specs.declared.program.Kind.TheVariants.{Enter, Next}
use Rattle.u_program.specs.declared.program.Destination.{Destination}
use Rattle.u_program.specs.declared.program.Version.TheVariants.{Two}
use Rattle.u_program.specs.Parts.{BlockParts}
use Rattle.u_program.proofs.Steps.{all_append}
use Rattle.u_program.specs.Limits.{has_list, has_otherwise, HasPorts, IsListed, Ascending, rank, IsStatement, IsBlockOf, IsProgram, limits_of}
use Rattle.u_check.specs.Rules.{names_block, main_name}
use Rattle.u_determinate.specs.Determinate.{IsDeterminateBlock}
use Rattle.u_compile.specs.declared.graph.Link.{Link}
use Rattle.u_compile.specs.Drafts.{DraftParts}
use Rattle.u_compile.specs.Graphs.{GraphParts, output, destinations, draft_at, has_output, is_next, is_enter, enters, IsGraph}
use Rattle.u_compile.specs.Blocks.{statement_of, statements_of, block_of, AreBlocks}
use Rattle.u_compile.specs.Kept.{KeepsItself, TakesOne, NamesDiffer}
use Rattle.u_compile.specs.Fanning.{AreFew, IsFinished}
use Rattle.u_compile.proofs.Numbers.{test_stands}
use Rattle.u_compile.proofs.Links.{sends_some}

ports_within : (ds : List Destination) (below : ℕ) → Ascending below ds → HasPorts Two ds
ports_within [] below a = tt
ports_within (d ∷ ds) below a = (a.0.port.1, ports_within ds (rank d) a.2)

next_lists : (k : Kind) → is_next k ≡ true → has_list k ≡ true
next_lists Next e = refl
next_lists k e = absurd (false≢true e)

next_has_one : (k : Kind) → is_next k ≡ true → has_otherwise k ≡ false
next_has_one Next e = refl
next_has_one k e = absurd (false≢true e)

enter_has_one : (k : Kind) → enters k ≡ true → has_otherwise k ≡ false
enter_has_one (Enter l) e = refl
enter_has_one k e = absurd (false≢true e)

-- no link comes from a list that a statement does not have
lists_nothing : (g : GraphParts) (n : ℕ) (side : Bool) (d : DraftParts) → IsGraph g → draft_at g.statements n ≡ Some d → has_output (Some d) side ≡ false → destinations (output n side) g.links ≡ []
lists_nothing g n side d is at lacks = by (destinations (output n side) g.links) refl
  where
    by : (ds : List Destination) → destinations (output n side) g.links ≡ ds → ds ≡ []
    by [] e = refl
    by (x ∷ xs) e =
        let s = sends_some g.statements g.links (output n side) is.links (omega (arith, ap (λ (v : List Destination). length v) e)) in
        absurd (false≢true (sym lacks ∙ (ap (λ (v : Option DraftParts). has_output v side) (sym at) ∙ s)))

listed : (g : GraphParts) (n : ℕ) (d : DraftParts) → IsGraph g → draft_at g.statements n ≡ Some d → (b : Bool) → has_list d.kind ≡ b → IsListed b (destinations (output d.shares false) g.links)
listed g n d is at true e = tt
listed g n d is at false e = by (is_next d.kind) refl (is.drafts n d at).shares
  where
    by : (b : Bool) → is_next d.kind ≡ b → cond b (is_enter (draft_at g.statements d.shares)) (d.shares == n) ≡ true → destinations (output d.shares false) g.links ≡ []
    by true q h = absurd (false≢true (sym e ∙ next_lists d.kind q))
    by false q h =
        let s = eqb-true d.shares n h in
        subst (λ (m : ℕ). destinations (output m false) g.links ≡ []) (sym s) (lists_nothing g n false d is at (and_left (has_list d.kind) (not false || has_otherwise d.kind) e))

one_list : (k : Kind) → has_otherwise k ≡ false → (has_list k && (not true || has_otherwise k)) ≡ false
one_list k e = and_right (has_list k) (not true || has_otherwise k) e

listed_otherwise : (g : GraphParts) (n : ℕ) (d : DraftParts) → IsGraph g → draft_at g.statements n ≡ Some d → (b : Bool) → has_otherwise d.kind ≡ b → IsListed b (destinations (output d.shares true) g.links)
listed_otherwise g n d is at true e = tt
listed_otherwise g n d is at false e = by (is_next d.kind) refl (is.drafts n d at).shares
  where
    by : (b : Bool) → is_next d.kind ≡ b → cond b (is_enter (draft_at g.statements d.shares)) (d.shares == n) ≡ true → destinations (output d.shares true) g.links ≡ []
    by true q h =
        let s = test_stands is_enter refl g.statements d.shares h in
        lists_nothing g d.shares true s.0 is s.1 (one_list s.0.kind (enter_has_one s.0.kind s.2))
    by false q h =
        let s = eqb-true d.shares n h in
        subst (λ (m : ℕ). destinations (output m true) g.links ≡ []) (sym s) (lists_nothing g n true d is at (one_list d.kind e))

statement_is : (g : GraphParts) (n : ℕ) (d : DraftParts) → IsGraph g → AreFew g.links → draft_at g.statements n ≡ Some d → IsStatement (limits_of Two) (statement_of g.links d)
statement_is g n d is few at =
    let it = is.drafts n d at in
    let region = it.region in
    let loops = is.few_loops in
    record {
      region = omega (arith, region, loops);
      kind = it.kind;
      has_kind = it.known;
      to = is.sorted (output d.shares false);
      ports = ports_within (destinations (output d.shares false) g.links) 0 (is.sorted (output d.shares false));
      listed = listed g n d is at (has_list d.kind) refl;
      few = few (output d.shares false);
      otherwise = is.sorted (output d.shares true);
      ports_otherwise = ports_within (destinations (output d.shares true) g.links) 0 (is.sorted (output d.shares true));
      listed_otherwise = listed_otherwise g n d is at (has_otherwise d.kind) refl;
      few_otherwise = few (output d.shares true);
    }

all_statements : (ls : List Link) (ds : List DraftParts) → ((k : ℕ) (d : DraftParts) → slice_get ds k ≡ Some d → IsStatement (limits_of Two) (statement_of ls d)) → AllByRecursion (IsStatement (limits_of Two)) (statements_of ls ds)
all_statements ls [] all = tt
all_statements ls (d ∷ ds) all = (all 0 d refl, all_statements ls ds (λ k e at. all (suc k) e at))

pub length-statements_of : (ls : List Link) (ds : List DraftParts) → length (statements_of ls ds) ≡ length ds
length-statements_of ls [] = refl
length-statements_of ls (d ∷ ds) = ap suc (length-statements_of ls ds)

pub block_is : (name : List ℕ) (g : GraphParts) → IsBlock name → IsGraph g → AreFew g.links → 1 ≤ length g.statements → IsBlockOf (limits_of Two) (block_of name g)
block_is name g named is few some =
    let l = length-statements_of g.links g.statements in
    let most = is.few in
    record {
      name = named;
      loops = is.loops;
      few_loops = is.few_loops;
      each = all_statements g.links g.statements (λ k d at. statement_is g (suc k) d is few at);
      few = omega (arith, l, most);
      some = omega (arith, l, some);
    }

-- a finished graph lies within the limits of a block
pub finished_within : (name : List ℕ) (g : GraphParts) (b : BlockParts) → IsFinished name g b → IsBlockOf (limits_of Two) b
finished_within name g b f = f.within

-- the names of some blocks differ, and so do they with one more whose name none of them has
get_either : (bs : List BlockParts) (b : BlockParts) (n : ℕ) (c : BlockParts) → slice_get (bs ++ (b ∷ [])) n ≡ Some c → (slice_get bs n ≡ Some c) ⊎ ((n ≡ length bs) × (c ≡ b))
get_either [] b zero c e = inr (refl, cc)
get_either [] b (suc n) c e = cc
get_either (x ∷ bs) b zero c e = inl e
get_either (x ∷ bs) b (suc n) c e = elim (get_either bs b n c e) [ inl h ↦ inl h | inr h ↦ inr (ap suc h.0, h.1) ]

differ_more : (bs : List BlockParts) (b : BlockParts) → NamesDiffer bs → names_block bs b.name ≡ false → NamesDiffer (bs ++ (b ∷ []))
differ_more bs b differ new n c at = elim (get_either bs b n c at) [
  | inl old ↦
      let w = slice_get_within bs n c old in
      ap (λ (v : List BlockParts). names_block v c.name) (take-append-le n bs (b ∷ []) (omega (arith, w))) ∙ differ n c old
  | inr last ↦
      ap (λ (m : ℕ). names_block (take m (bs ++ (b ∷ []))) c.name) last.0
      ∙ (ap (λ (v : List BlockParts). names_block v c.name) (take-append_seam bs (b ∷ []))
      ∙ (ap (λ (v : BlockParts). names_block bs v.name) last.1 ∙ new))
]

-- one block more
pub one_more_block : (bs : List BlockParts) (b : BlockParts) → AreBlocks bs → length bs < 64 → IsBlockOf (limits_of Two) b → IsDeterminateBlock b → KeepsItself b → TakesOne b → names_block bs b.name ≡ false → AreBlocks (bs ++ (b ∷ []))
one_more_block bs b are few is sure keeps one new = record {
  each = all_append (IsBlockOf (limits_of Two)) bs b are.each is;
  few = let l = length-append bs (b ∷ []) in omega (arith, l, few);
  determinate = λ c has. elim (Contains-push_cases bs b c has) [ inl h ↦ are.determinate c h | inr e ↦ subst IsDeterminateBlock e sure ];
  kept = λ c has. elim (Contains-push_cases bs b c has) [ inl h ↦ are.kept c h | inr e ↦ subst (λ (v : BlockParts). KeepsItself v × TakesOne v) e (keeps, one) ];
  differ = differ_more bs b are.differ new;
}

pub no_blocks : AreBlocks []
no_blocks = record {
  each = tt;
  few = omega arith;
  determinate = λ b has. let h = has.1 in absurd (omega (arith, h));
  kept = λ b has. let h = has.1 in absurd (omega (arith, h));
  differ = λ n b at. cc;
}

-- blocks of which one is called that are some
pub some_named : (bs : List BlockParts) (name : List ℕ) → names_block bs name ≡ true → 1 ≤ length bs
some_named [] name has = cc
some_named (b ∷ bs) name has = omega arith

-- blocks of which one is called `main` are those of a program
pub are_program : (bs : List BlockParts) → AreBlocks bs → names_block bs main_name ≡ true → IsProgram (limits_of Two) bs
are_program bs are main = record { each = are.each; few = are.few; some = some_named bs main_name main }
