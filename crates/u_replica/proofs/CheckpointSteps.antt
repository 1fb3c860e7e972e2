-- The steps of reading a checkpoint answer what they should.
use Rattle.std.specs.Prelude.{◌≡◌, ℕ, suc, ◌+◌, ◌^◌, ◌<◌, List, [], ◌∷◌, ◌++◌, length, map, Result, refl}
use Rattle.std.proofs.Common.{sym, ◌∙◌, ap, subst, arith, inl, inr, length-append}
use Rattle.std.proofs.lemmas.List.{append-nil, map-append}
use Rattle.std.specs.List.{AllByRecursion}
use Rattle.u_base.specs.TextAt.{IsNoText}
use Rattle.u_base.specs.Pieces.{PiecesAndRest, pieces}
use Rattle.u_program.specs.declared.program.Version.{Version}
use Rattle.u_program.specs.declared.program.Version.TheVariants as versions
use Rattle.u_rule.specs.declared.firing.Firing.{Firing}
use Rattle.u_rule.specs.FiringText.{firing_text}
use Rattle.u_rule.specs.FiringReading.{IsFiring, IsFiringOf}
use Rattle.u_delta.specs.declared.lines.Ahead.{Ahead}
use Rattle.u_delta.specs.declared.lines.Ahead.TheVariants as aheads
use Rattle.u_delta.specs.Front.{IsAhead}
use Rattle.u_delta.specs.Lines.{IsShort, IsLineAhead, IsRestAhead, IsLongAhead, lines_behind, AreAllowed, IsBadLine, IsTooLong}
use Rattle.u_delta.proofs.LineLaws.{all_append, read_more, bad_line, bad_rest, too_long, truncated}
use Rattle.u_delta.proofs.MessageLaws.{map_length}
use Rattle.u_replica.specs.declared.checkpoint.Checkpoint.{Checkpoint}
use Rattle.u_replica.specs.declared.checkpoint.CheckpointError.{CheckpointError}
use Rattle.u_replica.specs.declared.checkpoint.CheckpointError.TheVariants.{BadLine, TooLong, NoMemory}
use Rattle.u_replica.specs.CheckpointText.{first_line, count_line, begun_lines, checkpoint_lines}
use Rattle.u_replica.specs.Checkpoints.{AreFirings, MayRead, IsCheckpointLines, IsTornIn, IsCheckpointErrorIn}
use Rattle.u_replica.specs.CheckpointReading.{AreRead, IsNoFiring, IsWholeIn, IsAnswer, IsAnswerBehind}
use Rattle.u_replica.proofs.CheckpointLaws.{whole_lines, begins_begun, begins_nothing, not_nothing, not_whole, none_headed, none_other, none_behind}
use Rattle.u_replica.proofs.CheckpointSame.{first_short, count_short}

pub no_firing_bad : (line : List ℕ) (number k : ℕ) → IsNoText firing_text IsFiring line k → IsNoFiring line number (BadLine number)
no_firing_bad line number k h = (refl, h.none)

pieces_nil : pieces 10 [] ≡ ([], [])
unfolding pieces
pieces_nil = refl

-- the first line

nothing_allowed : (version : Version) → AreAllowed (IsCheckpointLines version) []
nothing_allowed version = record { short = tt; begins = begins_nothing version }

pub first_long : (version : Version) (bytes : List ℕ) → IsLongAhead bytes → IsCheckpointErrorIn version (pieces 10 bytes) (TooLong 1)
first_long version bytes h = too_long (IsCheckpointLines version) [] bytes (nothing_allowed version) h

pub first_bad : (version : Version) (bytes line rest : List ℕ) → IsLineAhead bytes line rest → ((head : Version) → MayRead version head → line ≡ first_line head → ⊥) → IsCheckpointErrorIn version (pieces 10 bytes) (BadLine 1)
first_bad version bytes line rest a n = bad_line (IsCheckpointLines version) [] bytes line rest (nothing_allowed version) a.0 a.1 (none_headed version line n)

pub first_rest : (version : Version) (bytes : List ℕ) (fs : List Firing) → fs ≡ [] → IsRestAhead bytes → IsTornIn version (pieces 10 bytes) fs
first_rest version bytes fs e h = record {
  valid = subst AreFirings (sym e) tt;
  torn = truncated (IsCheckpointLines version) [] bytes (nothing_allowed version) h.0 h.1 (not_nothing version);
  lines = inr (ap (λ (p : PiecesAndRest). p.0) h.0, e);
}

pub first_read : (version head : Version) (bytes line rest : List ℕ) (result : Result Checkpoint CheckpointError) → IsLineAhead bytes line rest → MayRead version head → line ≡ first_line head → IsAnswerBehind head (lines_behind (first_line head ∷ []) rest) result → IsAnswer version (pieces 10 bytes) result
first_read version head bytes line rest result a may e r = subst (λ t. IsAnswer version t result) (sym (a.0 ∙ ap (λ l. lines_behind (l ∷ []) rest) e)) (r version may)

-- which heads are read

pub no_head : (version : Version) (line : List ℕ) → (line ≡ first_line versions.One → ⊥) → (version ≡ versions.Two → line ≡ first_line versions.Two → ⊥) → (head : Version) → MayRead version head → line ≡ first_line head → ⊥
no_head version line one two versions.One may e = one e
no_head versions.One line one two versions.Two may e = cc
no_head versions.Two line one two versions.Two may e = two refl e

-- where some firings were read

module _ (head : Version) where
  pub none_read : AreRead head []
  none_read = record { valid = tt; short = (first_short head, tt) }

  pub one_read : (fs : List Firing) (f : Firing) (line : List ℕ) → AreRead head fs → IsShort line → IsFiringOf line f → AreRead head (fs ++ (f ∷ []))
  one_read fs f line r s i = record {
    valid = all_append IsFiring fs f r.valid i.0;
    short = (r.short.0, subst (AllByRecursion IsShort) (sym (map-append firing_text fs (f ∷ []))) (all_append IsShort (map firing_text fs) (firing_text f) r.short.1 (subst (λ t. IsShort t) i.1 s)));
  }

  pub text_read : (fs : List Firing) (f : Firing) (bytes line rest : List ℕ) → IsLineAhead bytes line rest → IsFiringOf line f → lines_behind (begun_lines head fs) bytes ≡ lines_behind (begun_lines head (fs ++ (f ∷ []))) rest
  text_read fs f bytes line rest a i =
      read_more (begun_lines head fs) bytes line rest a.0
      ∙ ap (λ line. lines_behind (begun_lines head fs ++ (line ∷ [])) rest) i.1
      ∙ ap (λ ls. lines_behind (first_line head ∷ ls) rest) (sym (map-append firing_text fs (f ∷ [])))

  pub text_closed : (fs : List Firing) (bytes line rest : List ℕ) → IsLineAhead bytes line rest → line ≡ count_line (length fs) → lines_behind (begun_lines head fs) bytes ≡ lines_behind (checkpoint_lines head fs) rest
  text_closed fs bytes line rest a e = read_more (begun_lines head fs) bytes line rest a.0 ∙ ap (λ line. lines_behind (begun_lines head fs ++ (line ∷ [])) rest) e

module _ (version head : Version) (may : MayRead version head) where
  begun_allowed : (fs : List Firing) → AreRead head fs → AreAllowed (IsCheckpointLines version) (begun_lines head fs)
  begun_allowed fs r = record { short = r.short; begins = begins_begun version head may fs r.valid }

  next_number : (fs : List Firing) → length fs + 2 ≡ suc (length (begun_lines head fs))
  next_number fs = omega (arith, map_length fs)

  pub next_long : (fs : List Firing) (bytes : List ℕ) (n : ℕ) → AreRead head fs → n ≡ length fs → IsLongAhead bytes → IsCheckpointErrorIn version (lines_behind (begun_lines head fs) bytes) (TooLong (n + 2))
  next_long fs bytes n r k h = subst (λ k. IsTooLong (IsCheckpointLines version) (lines_behind (begun_lines head fs) bytes) k) (sym (ap (λ m. m + 2) k ∙ next_number fs)) (too_long (IsCheckpointLines version) (begun_lines head fs) bytes (begun_allowed fs r) h)

  pub next_rest : (fs : List Firing) (bytes : List ℕ) → AreRead head fs → IsRestAhead bytes → IsTornIn version (lines_behind (begun_lines head fs) bytes) fs
  next_rest fs bytes r h = record {
    valid = r.valid;
    torn = truncated (IsCheckpointLines version) (begun_lines head fs) bytes (begun_allowed fs r) h.0 h.1 (not_whole version head fs);
    lines = inl (record { head = head; may = may; lines = ap (λ (p : PiecesAndRest). begun_lines head fs ++ p.0) h.0 ∙ append-nil (begun_lines head fs) });
  }

  pub next_bad : (fs : List Firing) (bytes line rest : List ℕ) (n : ℕ) (error : CheckpointError) → AreRead head fs → n ≡ length fs → IsLineAhead bytes line rest → (line ≡ count_line (length fs) → ⊥) → IsNoFiring line (n + 2) error → IsCheckpointErrorIn version (lines_behind (begun_lines head fs) bytes) error
  next_bad fs bytes line rest n (BadLine m) r k a c h =
      subst (λ m. IsBadLine (IsCheckpointLines version) (lines_behind (begun_lines head fs) bytes) m) (sym (h.0 ∙ ap (λ m. m + 2) k ∙ next_number fs))
      (bad_line (IsCheckpointLines version) (begun_lines head fs) bytes line rest (begun_allowed fs r) a.0 a.1 (none_other version head fs line c h.1))
  next_bad fs bytes line rest n (TooLong m) r k a c h = absurd h
  next_bad fs bytes line rest n NoMemory r k a c h = tt

  -- where all lines were read

  whole_allowed : (fs : List Firing) → AreRead head fs → length fs < 2 ^ 64 → AreAllowed (IsCheckpointLines version) (checkpoint_lines head fs)
  whole_allowed fs r h = record {
    short = all_append IsShort (begun_lines head fs) (count_line (length fs)) r.short (count_short (length fs) h);
    begins = record { more = []; document = subst (IsCheckpointLines version) (sym (append-nil (checkpoint_lines head fs))) (whole_lines version head may fs r.valid) };
  }

  last_number : (fs : List Firing) → length fs + 3 ≡ suc (length (checkpoint_lines head fs))
  last_number fs = omega (arith, map_length fs, length-append (begun_lines head fs) (count_line (length fs) ∷ []))

  pub closed_whole : (fs : List Firing) (bytes : List ℕ) → AreRead head fs → bytes ≡ [] → IsWholeIn version (lines_behind (checkpoint_lines head fs) bytes) fs
  closed_whole fs bytes r e = record {
    head = head;
    may = may;
    valid = r.valid;
    lines = ap (λ b. lines_behind (checkpoint_lines head fs) b) e ∙ ap (λ (p : PiecesAndRest). (checkpoint_lines head fs ++ p.0, p.1)) pieces_nil ∙ ap (λ ls. (ls, [])) (append-nil (checkpoint_lines head fs));
  }

  pub closed_long : (fs : List Firing) (bytes : List ℕ) (n : ℕ) → AreRead head fs → length fs < 2 ^ 64 → n ≡ length fs → IsLongAhead bytes → IsCheckpointErrorIn version (lines_behind (checkpoint_lines head fs) bytes) (TooLong (n + 3))
  closed_long fs bytes n r l k h = subst (λ k. IsTooLong (IsCheckpointLines version) (lines_behind (checkpoint_lines head fs) bytes) k) (sym (ap (λ m. m + 3) k ∙ last_number fs)) (too_long (IsCheckpointLines version) (checkpoint_lines head fs) bytes (whole_allowed fs r l) h)

  pub closed_line : (fs : List Firing) (bytes line rest : List ℕ) (n : ℕ) → AreRead head fs → length fs < 2 ^ 64 → n ≡ length fs → IsLineAhead bytes line rest → IsCheckpointErrorIn version (lines_behind (checkpoint_lines head fs) bytes) (BadLine (n + 3))
  closed_line fs bytes line rest n r l k a = subst (λ k. IsBadLine (IsCheckpointLines version) (lines_behind (checkpoint_lines head fs) bytes) k) (sym (ap (λ m. m + 3) k ∙ last_number fs)) (bad_line (IsCheckpointLines version) (checkpoint_lines head fs) bytes line rest (whole_allowed fs r l) a.0 a.1 (none_behind version head fs line))

  pub closed_rest : (fs : List Firing) (bytes : List ℕ) (n : ℕ) → AreRead head fs → length fs < 2 ^ 64 → n ≡ length fs → 0 < length bytes → IsRestAhead bytes → IsCheckpointErrorIn version (lines_behind (checkpoint_lines head fs) bytes) (BadLine (n + 3))
  closed_rest fs bytes n r l k b h = subst (λ k. IsBadLine (IsCheckpointLines version) (lines_behind (checkpoint_lines head fs) bytes) k) (sym (ap (λ m. m + 3) k ∙ last_number fs)) (bad_rest (IsCheckpointLines version) (checkpoint_lines head fs) bytes (whole_allowed fs r l) h.0 h.1 b (whole_lines version head may fs r.valid))

  pub closed_other : (fs : List Firing) (bytes : List ℕ) (n : ℕ) (a : Ahead) → AreRead head fs → length fs < 2 ^ 64 → n ≡ length fs → 0 < length bytes → IsAhead bytes a → (a ≡ aheads.TooLong → ⊥) → IsCheckpointErrorIn version (lines_behind (checkpoint_lines head fs) bytes) (BadLine (n + 3))
  closed_other fs bytes n (aheads.Line line rest) r l k b h t = closed_line fs bytes line.now rest.now n r l k h.0
  closed_other fs bytes n aheads.Rest r l k b h t = closed_rest fs bytes n r l k b h
  closed_other fs bytes n aheads.TooLong r l k b h t = absurd (t refl)
