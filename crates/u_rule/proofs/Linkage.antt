-- Where the destinations of a statement lie: beside one activity.
use Rattle.std.proofs.Common.{◌≡◌, refl, ap, sym, ◌∙◌, ℕ, List, [], ◌∷◌, map, Contains, inl, inr, Some, None, Ok}
use Rattle.u_name.specs.Context.{Tree, Top, InLoop, InCall}
use Rattle.u_name.specs.Name.{Activity, left, IsInLoop}
use Rattle.u_value.specs.declared.value.Value.{Value}
use Rattle.u_value.specs.declared.fault_kind.FaultKind.{FaultKind}
use Rattle.u_program.specs.declared.program.Kind.{Kind}
use Rattle.u_program.specs.declared.program.Kind.TheVariants.{Leave}
use Rattle.u_program.specs.declared.program.Destination.{Destination}
use Rattle.u_program.specs.declared.program.Version.{Version}
use Rattle.u_base.proofs.Member.{Contains-nil, Contains-head, Contains-tail, Contains-cons_cases}
use Rattle.u_rule.specs.declared.entry.Entry.{Entry}
use Rattle.u_rule.specs.Rule.{sent, beside, reached, refusal_of, handed_on, fault_of}
use Rattle.u_rule.specs.HandingOn.{IsReachable}

-- each entry of those that are sent is sent to a destination
pub mapped : (to : ℕ → Activity) (v : Value) (ds : List Destination) (x : Entry) → Contains (map (sent to v) ds) x → (e : Destination) × Contains ds e × (sent to v e ≡ x)
mapped to v [] x m = absurd (Contains-nil x m)
mapped to v (d ∷ ds) x m =
    elim (Contains-cons_cases (sent to v d) x (map (sent to v) ds) m)
    [ inl p ↦ (d, Contains-head d ds, p) | inr k ↦ (let q = mapped to v ds x k in (q.0, Contains-tail d q.0 ds q.1, q.2)) ]

left_beside : (a : Activity) (u : Tree) (t : ℕ) → a.context ≡ u → IsInLoop u → left a t ≡ beside (left a a.statement) t
left_beside a Top t e i = absurd i
left_beside a (InLoop v d l j) t e i = rw e refl
left_beside a (InCall v d s j) t e i = absurd i

-- the activities that a statement reaches are beside one another
pub reached_beside : (k : Kind) (a : Activity) (t : ℕ) → IsReachable k a → reached k a t ≡ beside (reached k a a.statement) t
reached_beside Leave a t i = left_beside a a.context t refl i
reached_beside k a t i = refl

sent_alike : (k : Kind) (a near : Activity) (v : Value) (ds : List Destination) → IsReachable k a → near ≡ reached k a a.statement → map (sent (beside near) v) ds ≡ map (sent (reached k a) v) ds
sent_alike k a near v [] i e = refl
sent_alike k a near v (d ∷ ds) i e =
    let q : reached k a d.statement ≡ beside near d.statement = reached_beside k a d.statement i ∙ ap (λ (n : Activity). beside n d.statement) (sym e) in
    rw q (rw (sent_alike k a near v ds i e) refl)

-- what is sent beside the activity that a statement reaches is what it hands on
pub sent_on : (version : Version) (k : Kind) (a near : Activity) (v : Value) (ds : List Destination) → IsReachable k a → near ≡ reached k a a.statement → refusal_of version k a ≡ None → map (sent (beside near) v) ds ≡ handed_on version k a ds (Ok v)
sent_on version k a near v ds i n r = rw r (sent_alike k a near v ds i n)

-- a refusal is a fault
pub refused_on : (es : List Entry) (version : Version) (k : Kind) (a : Activity) (v : Value) (ds : List Destination) (why : FaultKind) → es ≡ fault_of a why ∷ [] → refusal_of version k a ≡ Some why → es ≡ handed_on version k a ds (Ok v)
refused_on es version k a v ds why e r = rw r e
