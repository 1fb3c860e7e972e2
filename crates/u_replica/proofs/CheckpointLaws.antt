-- Which lines a checkpoint can begin with.
use Rattle.std.specs.Prelude.{◌≡◌, ℕ, suc, List, [], ◌∷◌, ◌++◌, length, map, refl}
use Rattle.std.proofs.Common.{sym, ◌∙◌, ap, subst, arith, append_assoc}
use Rattle.u_program.specs.declared.program.Version.{Version}
use Rattle.u_program.specs.declared.program.Version.TheVariants as versions
use Rattle.u_rule.specs.declared.firing.Firing.{Firing}
use Rattle.u_rule.specs.FiringText.{firing_text}
use Rattle.u_rule.specs.FiringReading.{IsFiring}
use Rattle.u_delta.specs.Lines.{Begins}
use Rattle.u_delta.proofs.MessageLaws.{heads_are, tails_are, map_length}
use Rattle.u_replica.specs.CheckpointText.{first_line, count_line, begun_lines, checkpoint_lines}
use Rattle.u_replica.specs.Checkpoints.{AreFirings, MayRead, IsCheckpointLines}

-- a firing's line begins with `f`, and the last one with `e`
pub firing_not_count : (f : Firing) (n : ℕ) → firing_text f ≡ count_line n → ⊥
unfolding firing_text
firing_not_count f n e = let h : ◌≡◌ {A = ℕ} 102 101 = heads_are e in omega arith

-- each job reads its own head, and the first one

pub reads_own : (version : Version) → MayRead version version
reads_own versions.One = refl
reads_own versions.Two = tt

pub reads_first : (version : Version) → MayRead version versions.One
reads_first versions.One = refl
reads_first versions.Two = tt

-- the lines of a checkpoint with a head that is read

pub whole_lines : (version head : Version) → MayRead version head → (fs : List Firing) → AreFirings fs → IsCheckpointLines version (checkpoint_lines head fs)
whole_lines version head may fs v = record { head = head; may = may; firings = fs; valid = v; there = refl }

pub begins_begun : (version head : Version) → MayRead version head → (fs : List Firing) → AreFirings fs → Begins (IsCheckpointLines version) (begun_lines head fs)
begins_begun version head may fs v = record { more = count_line (length fs) ∷ []; document = whole_lines version head may fs v }

pub begins_nothing : (version : Version) → Begins (IsCheckpointLines version) []
begins_nothing version = record { more = checkpoint_lines versions.One []; document = whole_lines version versions.One (reads_first version) [] tt }

-- without the last line it is not complete

pub not_nothing : (version : Version) → IsCheckpointLines version [] → ⊥
not_nothing version m = let e = m.there in cc

none_counts : (gs : List Firing) (n : ℕ) (fs : List Firing) → map firing_text gs ++ (count_line n ∷ []) ≡ map firing_text fs → ⊥
none_counts [] n [] e = cc
none_counts [] n (f ∷ fs) e = firing_not_count f n (sym (heads_are e))
none_counts (g ∷ gs) n [] e = cc
none_counts (g ∷ gs) n (f ∷ fs) e = none_counts gs n fs (tails_are e)

pub not_whole : (version head : Version) (fs : List Firing) → IsCheckpointLines version (begun_lines head fs) → ⊥
not_whole version head fs m = none_counts m.firings (length m.firings) fs (tails_are m.there)

-- what stands behind so many lines of firings

data NextIs (n : ℕ) (gs : List Firing) (k : ℕ) (l : List ℕ) (more : List (List ℕ)) : Type 0 where
  a_firing : (f : Firing) → IsFiring f → l ≡ firing_text f → NextIs n gs k l more
  the_count : k ≡ length gs → l ≡ count_line n → more ≡ [] → NextIs n gs k l more

one_behind : (n : ℕ) (g : Firing) (gs : List Firing) (k : ℕ) (l : List ℕ) (more : List (List ℕ)) → NextIs n gs k l more → NextIs n (g ∷ gs) (suc k) l more
one_behind n g gs k l more (a_firing f v e) = a_firing f v e
one_behind n g gs k l more (the_count e f m) = the_count (ap suc e) f m

pub not_empty : (ls : List (List ℕ)) (l : List ℕ) (more : List (List ℕ)) → [] ≡ ls ++ (l ∷ more) → ⊥
not_empty [] l more e = cc
not_empty (x ∷ ls) l more e = cc

next_is : (n : ℕ) (gs : List Firing) (ls : List (List ℕ)) (l : List ℕ) (more : List (List ℕ)) → AreFirings gs → map firing_text gs ++ (count_line n ∷ []) ≡ ls ++ (l ∷ more) → NextIs n gs (length ls) l more
next_is n [] [] l more v e = the_count refl (sym (heads_are e)) (sym (tails_are e))
next_is n [] (x ∷ ls) l more v e = absurd (not_empty ls l more (tails_are e))
next_is n (g ∷ gs) [] l more v e = a_firing g v.0 (sym (heads_are e))
next_is n (g ∷ gs) (x ∷ ls) l more v e = one_behind n g gs (length ls) l more (next_is n gs ls l more v.1 (tails_are e))

-- a line that is no first one begins no checkpoint
pub none_headed : (version : Version) (l : List ℕ) → ((head : Version) → MayRead version head → l ≡ first_line head → ⊥) → Begins (IsCheckpointLines version) ([] ++ (l ∷ [])) → ⊥
none_headed version l n b = n b.document.head b.document.may (sym (heads_are b.document.there))

module _ (version head : Version) (fs : List Firing) where
  -- what follows the lines of some firings
  follows : (l : List ℕ) (more : List (List ℕ)) (m : IsCheckpointLines version (begun_lines head fs ++ (l ∷ more))) → NextIs (length m.firings) m.firings (length fs) l more
  follows l more m = subst (λ k. NextIs (length m.firings) m.firings k l more) (map_length fs) (next_is (length m.firings) m.firings (map firing_text fs) l more m.valid (tails_are m.there))

  -- behind them only a firing's line is allowed, and the one that counts them
  pub none_other : (l : List ℕ) → (l ≡ count_line (length fs) → ⊥) → ((f : Firing) → IsFiring f → l ≡ firing_text f → ⊥) → Begins (IsCheckpointLines version) (begun_lines head fs ++ (l ∷ [])) → ⊥
  none_other l c n b =
      let m : IsCheckpointLines version (begun_lines head fs ++ (l ∷ b.more)) = subst (IsCheckpointLines version) (append_assoc (begun_lines head fs) (l ∷ []) b.more) b.document in
      elim (follows l b.more m) [ a_firing f v e ↦ n f v e | the_count k e x ↦ c (e ∙ ap count_line (sym k)) ]

  -- and behind that nothing
  pub none_behind : (l : List ℕ) → Begins (IsCheckpointLines version) (checkpoint_lines head fs ++ (l ∷ [])) → ⊥
  none_behind l b =
      let e : (checkpoint_lines head fs ++ (l ∷ [])) ++ b.more ≡ begun_lines head fs ++ (count_line (length fs) ∷ (l ∷ b.more)) =
      append_assoc (checkpoint_lines head fs) (l ∷ []) b.more ∙ append_assoc (begun_lines head fs) (count_line (length fs) ∷ []) (l ∷ b.more) in
      let m : IsCheckpointLines version (begun_lines head fs ++ (count_line (length fs) ∷ (l ∷ b.more))) = subst (IsCheckpointLines version) e b.document in
      elim (follows (count_line (length fs)) (l ∷ b.more) m) [ a_firing f v e ↦ firing_not_count f (length fs) (sym e) | the_count k e x ↦ not_empty [] l b.more (sym x) ]
