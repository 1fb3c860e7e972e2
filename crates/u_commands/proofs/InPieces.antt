-- A run in pieces is one run.
use Rattle.std.proofs.Common.{◌≡◌, ◌∙◌, sym, ap, subst, refl, inl, inr, ◌⊎◌, ℕ, suc, ◌+◌, ◌-◌, ◌≤◌, List, [], ◌∷◌, ◌++◌, length, take, append-nil, append_assoc, length-append, Some, Ok, Err, arith}
use Rattle.std.specs.Prelude.{Result, Contains, slice_get}
use Rattle.std.proofs.lemmas.List.Elements.{Contains-append_left, Contains-append_right, Contains-append_cases}
use Rattle.u_base.specs.Firing.{System, Cl, EachPlace, IsNextFrom}
use Rattle.u_base.proofs.Held.{Enabled-mono}
use Rattle.u_base.proofs.Closure.{Cl-mono}
use Rattle.u_base.proofs.Plain.{EachPlace-push}
use Rattle.u_rule.specs.Rule.{own_of}
use Rattle.u_rule.specs.declared.firing.Firing.{Firing}
use Rattle.u_machine.specs.State.{State, Taken}
use Rattle.u_machine.specs.Calls.{firing_le, Fires, Runs, RunAnswer}
use Rattle.u_machine.specs.declared.answer.Ran.{Ran}
use Rattle.u_machine.specs.declared.answer.Ran.TheVariants as ran
use Rattle.u_machine.specs.declared.answer.Refusal.{Refusal}
use Rattle.u_machine.specs.declared.answer.Refusal.TheVariants as refusals
use Rattle.u_machine.proofs.States.{Applies-refl, grows_trans}
use Rattle.u_machine.proofs.Runs.{Runs-nil}

each_append : {F : Type 0} (P : List F → F → Type 0) (fs gs : List F) → EachPlace P fs → ((k : ℕ) (f : F) → slice_get gs k ≡ Some f → P (fs ++ take k gs) f) → EachPlace P (fs ++ gs)
each_append {F} P fs [] a b = subst (EachPlace P) (sym (append-nil fs)) a
each_append {F} P fs (g ∷ gs) a b =
    subst (EachPlace P) (append_assoc fs (g ∷ []) gs)
    (each_append P (fs ++ g ∷ []) gs (EachPlace-push P fs g a (subst (λ (xs : List F). P xs g) (append-nil fs) (b 0 g refl))) (λ k f e. subst (λ (xs : List F). P xs f) (sym (append_assoc fs (g ∷ []) (take k gs))) (b (suc k) f e)))

-- what is next after one list is next after another, where they have the same firings with those of their sets
module _ {E F : Type 0} (s : System E F) (le : F → F → Type 0) (M N : F → Type 0) (done more : List F) (there : (g : F) → M g ⊎ Contains done g → N g ⊎ Contains more g) (back : (g : F) → N g ⊎ Contains more g → M g ⊎ Contains done g) where
  next_along : (f : F) → IsNextFrom s le M done f → IsNextFrom s le N more f
  next_along f n = record {
    enabled = Enabled-mono s (Cl s (λ g. M g ⊎ Contains done g)) (Cl s (λ g. N g ⊎ Contains more g)) (Cl-mono s (λ g. M g ⊎ Contains done g) (λ g. N g ⊎ Contains more g) there) f n.enabled;
    new = λ t. n.new (back f t);
    least = λ g en. elim (n.least g (Enabled-mono s (Cl s (λ h. N h ⊎ Contains more h)) (Cl s (λ h. M h ⊎ Contains done h)) (Cl-mono s (λ h. N h ⊎ Contains more h) (λ h. M h ⊎ Contains done h) back) g en)) [ inl t ↦ inl (there g t) | inr l ↦ inr l ];
  }

module _ (old mid : State) (gs : List Firing) (first : Fires old gs mid) where
  there : (hs : List Firing) (g : Firing) → Taken mid g ⊎ Contains hs g → Taken old g ⊎ Contains (gs ++ hs) g
  there hs g (inl t) = elim ((first.taken g).0 t) [ inl a ↦ inl a | inr b ↦ inr (Contains-append_left gs hs g b) ]
  there hs g (inr c) = inr (Contains-append_right gs hs g c)

  back : (hs : List Firing) (g : Firing) → Taken old g ⊎ Contains (gs ++ hs) g → Taken mid g ⊎ Contains hs g
  back hs g (inl t) = inl ((first.taken g).1 (inl t))
  back hs g (inr c) = elim (Contains-append_cases gs hs g c) [ inl a ↦ inl ((first.taken g).1 (inr a)) | inr b ↦ inr b ]

  next_on : (hs : List Firing) (f : Firing) → IsNextFrom (own_of mid.job) firing_le (Taken mid) hs f → IsNextFrom (own_of old.job) firing_le (Taken old) (gs ++ hs) f
  next_on hs f n =
      next_along (own_of old.job) firing_le (Taken mid) (Taken old) hs (gs ++ hs) (there hs) (back hs) f (rw first.grows.job at n)

  -- firings after firings
  pub fires_on : (new : State) (hs : List Firing) → Fires mid hs new → Fires old (gs ++ hs) new
  fires_on new hs next = record {
    grows = grows_trans old mid new first.grows next.grows;
    each = each_append (IsNextFrom (own_of old.job) firing_le (Taken old)) gs hs first.each (λ k f e. next_on (take k hs) f (next.each k f e));
    taken = λ g. ((λ t. there hs g ((next.taken g).0 t)), (λ t. (next.taken g).1 (back hs g t)));
    count = let x = next.count in let y = first.count in let z = length-append gs hs in omega arith;
  }

pub runs_on : (old mid new : State) (gs hs : List Firing) → Runs old gs mid → Runs mid hs new → Runs old (gs ++ hs) new
runs_on old mid new gs hs p q = record {
  fires = fires_on old mid gs p.fires new hs q.fires;
  alone = λ e. let a = p.alone e in let b = q.alone a.1 in (b.0 ∙ ap (λ (xs : List Firing). xs ++ hs) a.0 ∙ append_assoc old.log gs hs, b.1);
}

-- so many of the firings were made, and so many are left
pub record HasRun (old : State) (left firings : ℕ) (now : State) : Type 0 where
  pub gs : List Firing
  pub runs : Runs old gs now
  pub count : length gs + left ≡ firings

pub has_run_none : (m : State) (firings : ℕ) → HasRun m firings firings m
has_run_none m firings = record { gs = []; runs = Runs-nil m m (Applies-refl m); count = omega arith }

-- one piece more
pub has_run_more : (old mid new : State) (piece left firings : ℕ) → piece ≤ left → HasRun old left firings mid → RunAnswer mid piece (Ok ran.Paused) new → HasRun old (left - piece) firings new
has_run_more old mid new piece left firings few h a = record {
  gs = h.gs ++ a.0;
  runs = runs_on old mid new h.gs a.0 h.runs a.1;
  count = let x = h.count in let y = a.2 in let z = length-append h.gs a.0 in omega (arith, few);
}

-- a piece that is the last, or is quiet or refused, ends the whole run in the same way
pub run_ends : (old mid new : State) (piece left firings : ℕ) → piece ≤ left → HasRun old left firings mid → (r : Result Ran Refusal) → (r ≡ Ok ran.Paused → piece ≡ left) → RunAnswer mid piece r new → RunAnswer old firings r new
run_ends old mid new piece left firings few h (Ok ran.Quiet) last a =
    (h.gs ++ a.0, runs_on old mid new h.gs a.0 h.runs a.1, let x = h.count in let y = a.2 in let z = length-append h.gs a.0 in omega (arith, few), a.3, a.4, a.5)
run_ends old mid new piece left firings few h (Ok ran.Paused) last a =
    (h.gs ++ a.0, runs_on old mid new h.gs a.0 h.runs a.1, let x = h.count in let y = a.2 in let z = length-append h.gs a.0 in let w = last refl in omega (arith, few), a.3, a.4)
run_ends old mid new piece left firings few h (Err refusals.Full) last a =
    (h.gs ++ a.0, runs_on old mid new h.gs a.0 h.runs a.1, let x = h.count in let y = a.2 in let z = length-append h.gs a.0 in omega (arith, few), a.3, a.4, a.5)
run_ends old mid new piece left firings few h (Err refusals.NoMemory) last a =
    (h.gs ++ a.0, fires_on old mid h.gs h.runs.fires new a.0 a.1, let x = h.count in let y = a.2 in let z = length-append h.gs a.0 in omega (arith, few))
