-- Links that move behind another statement.
use Rattle.std.proofs.Common.{◌≡◌, ℕ, zero, suc, inl, inr, refl, sym, ap, ◌∙◌, subst, true, false, cond, List, [], ◌∷◌, take, drop}
use Rattle.std.specs.List.{AllByRecursion}
use Rattle.std.proofs.lemmas.Bool.{cases_Bool, cond-true, cond-false, and_parts, and_from}
use Rattle.u_program.specs.declared.program.Destination.{Destination}
use Rattle.u_compile.specs.declared.graph.Link.{Link}
use Rattle.u_compile.specs.declared.graph.Output.{Output}
use Rattle.u_compile.specs.Drafts.{DraftParts}
use Rattle.u_compile.specs.Graphs.{output, same_output, destinations, draft_at, has_port, has_output, is_output, is_link, AreLinks}
use Rattle.u_compile.specs.Fanning.{moved}
use Rattle.u_compile.proofs.Links.{same_is, same_own, leads_yes, leads_no}

-- the link, from that statement
abbrev pub from_behind : ℕ → Link → Link
from_behind b l = record l { from = output b false }

zero_yes : (o : Output) (b : ℕ) (l : Link) (ls : List Link) → same_output o l.from ≡ true → moved o 0 b (l ∷ ls) ≡ from_behind b l ∷ moved o 0 b ls
zero_yes o b l ls e = cond-true (same_output o l.from) (from_behind b l ∷ moved o 0 b ls) (l ∷ moved o 0 b ls) e

zero_no : (o : Output) (b : ℕ) (l : Link) (ls : List Link) → same_output o l.from ≡ false → moved o 0 b (l ∷ ls) ≡ l ∷ moved o 0 b ls
zero_no o b l ls e = cond-false (same_output o l.from) (from_behind b l ∷ moved o 0 b ls) (l ∷ moved o 0 b ls) e

suc_yes : (o : Output) (k b : ℕ) (l : Link) (ls : List Link) → same_output o l.from ≡ true → moved o (suc k) b (l ∷ ls) ≡ l ∷ moved o k b ls
suc_yes o k b l ls e = cond-true (same_output o l.from) (l ∷ moved o k b ls) (l ∷ moved o (suc k) b ls) e

suc_no : (o : Output) (k b : ℕ) (l : Link) (ls : List Link) → same_output o l.from ≡ false → moved o (suc k) b (l ∷ ls) ≡ l ∷ moved o (suc k) b ls
suc_no o k b l ls e = cond-false (same_output o l.from) (l ∷ moved o k b ls) (l ∷ moved o (suc k) b ls) e

-- the first links from the output stay
pub moved_stay : (o : Output) (k b : ℕ) (ls : List Link) → same_output o (output b false) ≡ false → destinations o (moved o k b ls) ≡ take k (destinations o ls)
moved_stay o zero b [] other = refl
moved_stay o (suc k) b [] other = refl
moved_stay o zero b (l ∷ ls) other = elim (cases_Bool (same_output o l.from)) [
  | inl e ↦ ap (destinations o) (zero_yes o b l ls e) ∙ (leads_no o (from_behind b l) (moved o 0 b ls) other ∙ moved_stay o 0 b ls other)
  | inr e ↦ ap (destinations o) (zero_no o b l ls e) ∙ (leads_no o l (moved o 0 b ls) e ∙ moved_stay o 0 b ls other)
]
moved_stay o (suc k) b (l ∷ ls) other = elim (cases_Bool (same_output o l.from)) [
  | inl e ↦ ap (destinations o) (suc_yes o k b l ls e) ∙ (leads_yes o l (moved o k b ls) e ∙ (ap (λ (v : List Destination). l.to ∷ v) (moved_stay o k b ls other) ∙ sym (ap (take (suc k)) (leads_yes o l ls e))))
  | inr e ↦ ap (destinations o) (suc_no o k b l ls e) ∙ (leads_no o l (moved o (suc k) b ls) e ∙ (moved_stay o (suc k) b ls other ∙ sym (ap (take (suc k)) (leads_no o l ls e))))
]

-- and the others come from the other statement, from which no link came
pub moved_come : (o : Output) (k b : ℕ) (ls : List Link) → AllByRecursion (λ (l : Link). same_output (output b false) l.from ≡ false) ls → destinations (output b false) (moved o k b ls) ≡ drop k (destinations o ls)
moved_come o zero b [] none = refl
moved_come o (suc k) b [] none = refl
moved_come o zero b (l ∷ ls) none = elim (cases_Bool (same_output o l.from)) [
  | inl e ↦ ap (destinations (output b false)) (zero_yes o b l ls e) ∙ (leads_yes (output b false) (from_behind b l) (moved o 0 b ls) (same_own (output b false)) ∙ (ap (λ (v : List Destination). l.to ∷ v) (moved_come o 0 b ls none.1) ∙ sym (leads_yes o l ls e)))
  | inr e ↦ ap (destinations (output b false)) (zero_no o b l ls e) ∙ (leads_no (output b false) l (moved o 0 b ls) none.0 ∙ (moved_come o 0 b ls none.1 ∙ sym (leads_no o l ls e)))
]
moved_come o (suc k) b (l ∷ ls) none = elim (cases_Bool (same_output o l.from)) [
  | inl e ↦ ap (destinations (output b false)) (suc_yes o k b l ls e) ∙ (leads_no (output b false) l (moved o k b ls) none.0 ∙ (moved_come o k b ls none.1 ∙ sym (ap (drop (suc k)) (leads_yes o l ls e))))
  | inr e ↦ ap (destinations (output b false)) (suc_no o k b l ls e) ∙ (leads_no (output b false) l (moved o (suc k) b ls) none.0 ∙ (moved_come o (suc k) b ls none.1 ∙ sym (ap (drop (suc k)) (leads_no o l ls e))))
]

-- other outputs keep their links
keeps_here : (p : Output) (l : Link) (xs ys : List Link) → destinations p xs ≡ destinations p ys → destinations p (l ∷ xs) ≡ destinations p (l ∷ ys)
keeps_here p l xs ys e = ap (λ (v : List Destination). cond (same_output p l.from) (l.to ∷ v) v) e

not_from : (o p : Output) (l : Link) → same_output p o ≡ false → same_output o l.from ≡ true → same_output p l.from ≡ false
not_from o p l other e = let q = same_is o l.from e in subst (λ (f : Output). same_output p f ≡ false) q other

pub moved_keeps : (o p : Output) (k b : ℕ) (ls : List Link) → same_output p o ≡ false → same_output p (output b false) ≡ false → destinations p (moved o k b ls) ≡ destinations p ls
moved_keeps o p zero b [] other new = refl
moved_keeps o p (suc k) b [] other new = refl
moved_keeps o p zero b (l ∷ ls) other new = elim (cases_Bool (same_output o l.from)) [
  | inl e ↦ ap (destinations p) (zero_yes o b l ls e) ∙ (leads_no p (from_behind b l) (moved o 0 b ls) new ∙ (moved_keeps o p 0 b ls other new ∙ sym (leads_no p l ls (not_from o p l other e))))
  | inr e ↦ ap (destinations p) (zero_no o b l ls e) ∙ keeps_here p l (moved o 0 b ls) ls (moved_keeps o p 0 b ls other new)
]
moved_keeps o p (suc k) b (l ∷ ls) other new = elim (cases_Bool (same_output o l.from)) [
  | inl e ↦ ap (destinations p) (suc_yes o k b l ls e) ∙ keeps_here p l (moved o k b ls) ls (moved_keeps o p k b ls other new)
  | inr e ↦ ap (destinations p) (suc_no o k b l ls e) ∙ keeps_here p l (moved o (suc k) b ls) ls (moved_keeps o p (suc k) b ls other new)
]

-- links stay links where some move behind an output
moved_link : (ds : List DraftParts) (b : ℕ) (l : Link) → is_output ds (output b false) ≡ true → is_link ds l ≡ true → is_link ds (from_behind b l) ≡ true
moved_link ds b l sends h =
    let p = and_parts (has_output (draft_at ds l.from.statement) l.from.on_false) (has_port (draft_at ds l.to.statement) l.to.port) h in
    and_from (has_output (draft_at ds b) false) (has_port (draft_at ds l.to.statement) l.to.port) sends p.1

pub moved_links : (ds : List DraftParts) (o : Output) (k b : ℕ) (ls : List Link) → is_output ds (output b false) ≡ true → AreLinks ds ls → AreLinks ds (moved o k b ls)
moved_links ds o zero b [] sends h = tt
moved_links ds o (suc k) b [] sends h = tt
moved_links ds o zero b (l ∷ ls) sends h = elim (cases_Bool (same_output o l.from)) [
  | inl e ↦ subst (AreLinks ds) (sym (zero_yes o b l ls e)) (moved_link ds b l sends h.0, moved_links ds o 0 b ls sends h.1)
  | inr e ↦ subst (AreLinks ds) (sym (zero_no o b l ls e)) (h.0, moved_links ds o 0 b ls sends h.1)
]
moved_links ds o (suc k) b (l ∷ ls) sends h = elim (cases_Bool (same_output o l.from)) [
  | inl e ↦ subst (AreLinks ds) (sym (suc_yes o k b l ls e)) (h.0, moved_links ds o k b ls sends h.1)
  | inr e ↦ subst (AreLinks ds) (sym (suc_no o k b l ls e)) (h.0, moved_links ds o (suc k) b ls sends h.1)
]
