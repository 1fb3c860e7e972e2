-- What the lines of one read do, line after line.
use Rattle.std.specs.Prelude.{◌≡◌, ℕ, ◌+◌, ◌≤◌, List, [], ◌∷◌, ◌++◌, length, Ok, Err, Bool, Option, refl}
use Rattle.std.proofs.Common.{sym, ◌∙◌, ap, subst, arith, append_assoc, append-nil, length-append}
use Rattle.std.specs.Io.KnownBytes.{Appends}
use Rattle.u_base.specs.Pieces.{pieces, IsCutInto}
use Rattle.u_base.proofs.PiecesLaws.{pieces_free}
use Rattle.u_share.specs.Lines.{first_of}
use Rattle.u_share.specs.Headline.{Member, member, Goes}
use Rattle.u_share.specs.Calls.{IsBegun, StopsAtLine, HearAnswer}
use Rattle.u_share.specs.declared.fault.ShareFault.{ShareFault}
use Rattle.u_share.specs.declared.fault.ShareFault.TheVariants as faults
use Rattle.u_share.proofs.Pieces.{first_cut}
use Rattle.u_share.proofs.Written.{appends_none, appends_more, front_all, fault_behind}
use Rattle.u_share.proofs.Going.{goes_on}
use Rattle.u_share.proofs.Ending.{goes_nothing, goes_begun, begun_after, stops_longer, stops_behind}

-- the lines before the rest were taken
abbrev pub HeardTo : Member → List ℕ → List ℕ → Option (List ℕ) → Member → Option (List ℕ) → Type 0
HeardTo old bytes rest before m mid =
    (front : List ℕ) × (told : List ℕ) × (bytes ≡ front ++ rest) × Goes old front [] told m × Appends before mid told × (m.ended + length rest ≤ old.ended + length bytes)

pub heard_none : (old : Member) (bytes : List ℕ) (n : Option (List ℕ)) → IsBegun old.begun → HeardTo old bytes bytes n old n
heard_none old bytes n h = ([], [], refl, goes_nothing old h, appends_none n, omega arith)

pub heard_begun : (old : Member) (bytes rest : List ℕ) (before : Option (List ℕ)) (m : Member) (mid : Option (List ℕ)) → HeardTo old bytes rest before m mid → IsBegun m.begun
heard_begun old bytes rest before m mid (front, told, e, goes, w, few) = begun_after old m front [] told goes

pub last_is_free : (rest last others : List ℕ) → IsCutInto 10 rest last others → pieces 10 last ≡ ([], last)
last_is_free rest last others i = pieces_free 10 last (first_cut 10 rest last others i).1

whole : (bytes front rest last others : List ℕ) → bytes ≡ front ++ rest → IsCutInto 10 rest last others → bytes ≡ (front ++ (last ++ 10 ∷ [])) ++ others
whole bytes front rest last others e i =
    e ∙ ap (λ (x : List ℕ). front ++ x) ((first_cut 10 rest last others i).0 ∙ sym (append_assoc last (10 ∷ []) others)) ∙ sym (append_assoc front (last ++ 10 ∷ []) others)

pub heard_next : (old : Member) (bytes rest last others : List ℕ) (before : Option (List ℕ)) (m : Member) (mid : Option (List ℕ)) (new : Member) (after : Option (List ℕ)) (is_empty : Bool) → IsCutInto 10 rest last others → HeardTo old bytes rest before m mid → HearAnswer m (last ++ 10 ∷ []) mid (Ok is_empty) new after → new.ended ≡ m.ended + 1 → HeardTo old bytes others before new after
heard_next old bytes rest last others before m mid new after is_empty i (front, told, e, goes, w, few) (more, on, written) count = (
  front ++ (last ++ 10 ∷ []),
  told ++ more,
  whole bytes front rest last others e i,
  goes_on old m new front (last ++ 10 ∷ []) [] [] told more goes on,
  appends_more before mid after told more w written,
  let n = ap length (first_cut 10 rest last others i).0 in
      let k = length-append last (10 ∷ others) in
      omega (arith, few, count, n, k),
)

pub heard_stop : (A : Type 0) (old : Member) (bytes rest last others : List ℕ) (before : Option (List ℕ)) (m : Member) (mid : Option (List ℕ)) (new : Member) (after : Option (List ℕ)) (fault : ShareFault) → IsCutInto 10 rest last others → HeardTo old bytes rest before m mid → HearAnswer {A = A} m (last ++ 10 ∷ []) mid (Err fault) new after → HearAnswer {A = A} old bytes before (Err fault) new after
heard_stop A old bytes rest last others before m mid new after fault i (front, told, e, goes, w, few) (text, stops, at) = (
  told ++ text,
  subst (λ (x : List ℕ). StopsAtLine old x (told ++ text) fault) (sym (whole bytes front rest last others e i))
      (stops_longer old (front ++ (last ++ 10 ∷ [])) others (told ++ text) fault (stops_behind old m front (last ++ 10 ∷ []) told text fault goes stops)),
  fault_behind fault before mid after told text w at,
)

pub heard_no_memory : (A : Type 0) (old : Member) (bytes rest : List ℕ) (before : Option (List ℕ)) (m : Member) (mid : Option (List ℕ)) (b : Member) → HeardTo old bytes rest before m mid → HearAnswer {A = A} old bytes before (Err faults.NoMemory) b mid
heard_no_memory A old bytes rest before m mid b (front, told, e, goes, w, few) =
    (told, record { front = front; rest = rest; mid = m; cut = e; goes = goes; stop = tt }, front_all before mid told w)

pub heard_all : (old : Member) (bytes rest : List ℕ) (before : Option (List ℕ)) (m : Member) (mid : Option (List ℕ)) (next : List ℕ) (n : ℕ) (has_empty : Bool) → pieces 10 rest ≡ ([], rest) → HeardTo old bytes rest before m mid → next ≡ first_of (m.begun ++ rest) → n ≡ m.ended → HearAnswer old bytes before (Ok has_empty) (member m.machine next n) mid
heard_all old bytes rest before m mid next n has_empty f (front, told, e, goes, w, few) o c =
    let on = goes_begun m rest next (begun_after old m front [] told goes) f o in
    let all = goes_on old m (member m.machine next m.ended) front rest [] [] told [] goes on in
    let named = subst (λ (t : List ℕ). Goes old (front ++ rest) [] t (member m.machine next m.ended)) (append-nil told) all in
    let read = subst (λ (x : List ℕ). Goes old x [] told (member m.machine next m.ended)) (sym e) named in
    (told, subst (λ (k : ℕ). Goes old bytes [] told (member m.machine next k)) (sym c) read, w)
