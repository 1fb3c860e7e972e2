-- Which activities wait.
use Rattle.std.proofs.Common.{◌≡◌, ◌↔◌, ℕ, List, Some, IsTrue, sym, subst, ap, ◌∙◌, arith}
use Rattle.u_name.specs.Context.{IsBetween}
use Rattle.u_name.specs.Name.{Activity}
use Rattle.u_program.specs.Parts.{BlockParts}
use Rattle.u_rule.specs.declared.entry.Entry.{Entry}
use Rattle.u_rule.specs.Parts.{most_ports}
use Rattle.u_trace.specs.Ports.{has_port}
use Rattle.u_trace.specs.Waiting.{HasToken, IsPortOf, IsWaiting}
use Rattle.u_trace.specs.declared.ports.Ports.{Ports}
use Rattle.u_trace.specs.declared.activities.WaitingActivity.{WaitingActivity}
use Rattle.u_check.proofs.KindTests.{few_ports}
use Rattle.u_trace.proofs.PortLaws.{ports_same}

abbrev pub waiting : Activity → Ports → Ports → WaitingActivity
waiting activity has lacks = record { activity = activity; has = has; lacks = lacks }

pub port_between : (p : List BlockParts) (a : Activity) (k : ℕ) → IsPortOf p a k → IsBetween 1 k most_ports
port_between p a k (s, e, w) = let t = (few_ports s.kind).1 in (w.0, omega (arith, w.1, t))

module _ (p : List BlockParts) (H : Entry → Type 0) (a : Activity) (all tokens has lacks : Ports) (of_all : (k : ℕ) → IsTrue (has_port all k) ↔ IsPortOf p a k) (of_tokens : (k : ℕ) → IsTrue (has_port tokens k) ↔ (IsBetween 1 k most_ports × HasToken H a k)) (both : (k : ℕ) → IsTrue (has_port has k) ↔ (IsTrue (has_port all k) × IsTrue (has_port tokens k))) (but : (k : ℕ) → IsTrue (has_port lacks k) ↔ (IsTrue (has_port all k) × (IsTrue (has_port tokens k) → ⊥))) where
  pub has_those : (k : ℕ) → IsTrue (has_port has k) ↔ (IsPortOf p a k × HasToken H a k)
  has_those k = (
    (λ h. let w = (both k).0 h in ((of_all k).0 w.0, ((of_tokens k).0 w.1).1)),
    (λ w. (both k).1 ((of_all k).1 w.0, (of_tokens k).1 (port_between p a k w.0, w.1))),
  )

  pub lacks_those : (k : ℕ) → IsTrue (has_port lacks k) ↔ (IsPortOf p a k × (HasToken H a k → ⊥))
  lacks_those k = (
    (λ h. let w = (but k).0 h in ((of_all k).0 w.0, λ t. w.1 ((of_tokens k).1 (port_between p a k ((of_all k).0 w.0), t)))),
    (λ w. (but k).1 ((of_all k).1 w.0, λ h. w.1 ((of_tokens k).0 h).1)),
  )

  -- with no port in one of the two sets it does not wait
  pub none_waits_full : ((k : ℕ) → IsTrue (has_port has k) → ⊥) → (w : WaitingActivity) → (a ≡ w.activity) × IsWaiting p H w → ⊥
  none_waits_full none w (e, is) =
      let k = is.filled.0 in
      let h = (is.has k).0 is.filled.1 in
      none k ((has_those k).1 (subst (λ (n : Activity). IsPortOf p n k × HasToken H n k) (sym e) h))

  pub none_waits_empty : ((k : ℕ) → IsTrue (has_port lacks k) → ⊥) → (w : WaitingActivity) → (a ≡ w.activity) × IsWaiting p H w → ⊥
  none_waits_empty none w (e, is) =
      let k = is.missing.0 in
      let h = (is.lacks k).0 is.missing.1 in
      none k ((lacks_those k).1 (subst (λ (n : Activity). IsPortOf p n k × (HasToken H n k → ⊥)) (sym e) h))

  -- else it does, with these two sets and no others
  pub it_waits : (b : Activity) → b ≡ a → (k : ℕ) × IsTrue (has_port has k) → (k : ℕ) × IsTrue (has_port lacks k) → (w : WaitingActivity) → (Some (waiting b has lacks) ≡ Some w) ↔ ((a ≡ w.activity) × IsWaiting p H w)
  it_waits b e h l w = ((λ q. to (let r : waiting b has lacks ≡ w = cc in r)), λ v. ap Some (back v))
    where
      it : IsWaiting p H (waiting a has lacks)
      it = record { has = has_those; lacks = lacks_those; filled = h; missing = l }

      to : waiting b has lacks ≡ w → (a ≡ w.activity) × IsWaiting p H w
      to q = let r : waiting a has lacks ≡ w = ap (λ (n : Activity). waiting n has lacks) (sym e) ∙ q in (ap (λ (x : WaitingActivity). x.activity) r, subst (IsWaiting p H) r it)

      back : (a ≡ w.activity) × IsWaiting p H w → waiting b has lacks ≡ w
      back (q, is) =
          let f : has ≡ w.has = ports_same has w.has (λ k. ((λ m. (is.has k).1 (subst (λ (n : Activity). IsPortOf p n k × HasToken H n k) q ((has_those k).0 m))), λ m. (has_those k).1 (subst (λ (n : Activity). IsPortOf p n k × HasToken H n k) (sym q) ((is.has k).0 m)))) in
          let g : lacks ≡ w.lacks = ports_same lacks w.lacks (λ k. ((λ m. (is.lacks k).1 (subst (λ (n : Activity). IsPortOf p n k × (HasToken H n k → ⊥)) q ((lacks_those k).0 m))), λ m. (lacks_those k).1 (subst (λ (n : Activity). IsPortOf p n k × (HasToken H n k → ⊥)) (sym q) ((is.lacks k).0 m)))) in
          ap (λ (n : Activity). waiting n has lacks) (e ∙ q) ∙ ap (λ (x : Ports). waiting w.activity x lacks) f ∙ ap (λ (x : Ports). waiting w.activity w.has x) g
