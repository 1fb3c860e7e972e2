-- Lists of destinations, from a place of theirs on.
use Rattle.std.specs.Prelude.{◌≡◌, ℕ, suc, Bool, true, false, ◌+◌, ◌*◌, ◌-◌, ◌≤◌, ◌<◌, ◌⊎◌, List, [], ◌∷◌, ◌++◌, length, map, Ok, Err, codes, refl}
use Rattle.std.proofs.Common.{sym, ◌∙◌, ap, subst, arith, inl, inr, append_assoc}
use Rattle.std.specs.Fmt.{decimal}
use Rattle.u_name.specs.Context.{IsBetween}
use Rattle.u_base.specs.Fixed.{fixed}
use Rattle.u_base.specs.Spaced.{spaced}
use Rattle.u_program.specs.declared.program.Version.{Version}
use Rattle.u_program.specs.declared.program.Version.TheVariants as versions
use Rattle.u_program.specs.declared.program.Destination.{Destination}
use Rattle.u_program.specs.Limits.{Ascending, greatest_port, rank}
use Rattle.u_program.specs.Text.{destination_word, slash}
use Rattle.u_explain.specs.Left.{IsLeft, Either, Behind, Among}
use Rattle.u_explain.specs.Lines.{EndOn, port_text, IsDestinationOf, AscendingOf, ListEnd, ListOn, DestinationOn, ArrowOn}
use Rattle.u_explain.proofs.LeftLaws.{HasText, same, nothing, ended, either, word_on, word_stuck}

pub some_end : HasText EndOn
some_end = ([], refl)

pub ports_to_five : (version : Version) → greatest_port version ≤ 5
ports_to_five versions.One = omega arith
ports_to_five versions.Two = omega arith

module _ (version : Version) where
  pub some_list_end : (slashed : Bool) → HasText (ListEnd version slashed)
  some_list_end false = ([], refl)
  some_list_end true = (spaced (slash ∷ []), ([], (tt, tt), omega arith, refl))

  pub some_list : (slashed : Bool) (below room : ℕ) → HasText (ListOn version slashed below room)
  some_list slashed below room = let e = some_list_end slashed in (e.0, ([], (tt, tt), omega arith, (e.0, refl, e.1)))

  pub some_arrow : (slashed : Bool) (room : ℕ) → HasText (ArrowOn version slashed room)
  some_arrow slashed room = let l = some_list slashed 0 room in (codes " ->" ++ l.0, (l.0, refl, l.1))

  -- the list that has ended
  list_of_end : (below room : ℕ) (slashed : Bool) (t : List ℕ) → ListEnd version slashed t → ListOn version slashed below room t
  list_of_end below room slashed t e = ([], (tt, tt), omega arith, (t, refl, e))

  -- a list of destinations without room for one
  no_room : (slashed : Bool) (below : ℕ) (t : List ℕ) → ListOn version slashed below 0 t → ListEnd version slashed t
  no_room slashed below t l = at l.0 l.1 l.2 l.3
    where
      at : (ds : List Destination) → AscendingOf version below ds → length ds ≤ 0 → Behind (spaced (map destination_word ds)) (ListEnd version slashed) t → ListEnd version slashed t
      at [] a f b = subst (ListEnd version slashed) (sym b.1) b.2
      at (d ∷ ds) a f b = absurd (omega arith)

  pub left_full : (slashed : Bool) (below : ℕ) (bs rest : List ℕ) → IsLeft (ListEnd version slashed) bs rest → IsLeft (ListOn version slashed below 0) bs rest
  left_full slashed below bs rest v = same (ListEnd version slashed) (ListOn version slashed below 0) bs rest (λ t e. list_of_end below 0 slashed t e) (λ t l. no_room slashed below t l) v

  -- the list that has ended, or a destination of a rank below
  abbrev pub SoFar : Bool → ℕ → ℕ → ℕ → List ℕ → Type 0
  SoFar slashed below room n = Either (ListEnd version slashed) (Among (suc below) n (DestinationOn version slashed room))

  pub so_far_none : (slashed : Bool) (below room : ℕ) (bs rest : List ℕ) → IsLeft (ListEnd version slashed) bs rest → IsLeft (SoFar slashed below room (suc below)) bs rest
  so_far_none slashed below room bs rest v = same (ListEnd version slashed) (SoFar slashed below room (suc below)) bs rest (λ t e. inl e) back v
    where
      back : (t : List ℕ) → SoFar slashed below room (suc below) t → ListEnd version slashed t
      back t (inl e) = e
      back t (inr m) = absurd (omega (arith, m.1, m.2))

  pub so_far_next : (slashed : Bool) (below room n : ℕ) (bs a b rest : List ℕ) → suc below ≤ n → IsLeft (SoFar slashed below room n) bs a → IsLeft (DestinationOn version slashed room n) bs b → (rest ≡ a) ⊎ (rest ≡ b) → length rest ≤ length a → length rest ≤ length b → IsLeft (SoFar slashed below room (n + 1)) bs rest
  so_far_next slashed below room n bs a b rest le v w e f g = same (Either (SoFar slashed below room n) (DestinationOn version slashed room n)) (SoFar slashed below room (n + 1)) bs rest onto back (either (SoFar slashed below room n) (DestinationOn version slashed room n) bs a b rest v w e f g)
    where
      onto : (t : List ℕ) → Either (SoFar slashed below room n) (DestinationOn version slashed room n) t → SoFar slashed below room (n + 1) t
      onto t (inl (inl m)) = inl m
      onto t (inl (inr m)) = inr (m.0, m.1, omega (arith, m.2), m.3)
      onto t (inr m) = inr (n, le, omega arith, m)

      at : (t : List ℕ) (m : ℕ) → suc below ≤ m → (m < n) ⊎ (m ≡ n) → DestinationOn version slashed room m t → Either (SoFar slashed below room n) (DestinationOn version slashed room n) t
      at t m l (inl k) x = inl (inr (m, l, k, x))
      at t m l (inr k) x = inr (subst (λ i. DestinationOn version slashed room i t) k x)

      which : (m k : ℕ) → m < k + 1 → (m < k) ⊎ (m ≡ k)
      which m k h = grind arith

      back : (t : List ℕ) → SoFar slashed below room (n + 1) t → Either (SoFar slashed below room n) (DestinationOn version slashed room n) t
      back t (inl m) = inl (inl m)
      back t (inr m) = at t m.0 m.1 (which m.0 n m.2) m.3

  -- a destination, and the list without it
  first_on : (slashed : Bool) (below room : ℕ) (t : List ℕ) → 1 ≤ room → (n : ℕ) → suc below ≤ n → n < 8000 → DestinationOn version slashed room n t → ListOn version slashed below room t
  first_on slashed below room t some n low high m =
      let d = m.0 in
      let b = m.3 in
      let l = b.2 in
      let ds = l.0 in
      let k = l.3 in
      let lowest : below < rank d = omega (arith, m.2) in (
        d ∷ ds,
        ((m.1.0, lowest, subst (λ i. Ascending i ds) (sym m.2) l.1.0), (m.1.1, l.1.1)),
        omega (arith, l.2),
        (k.0, b.1 ∙ ap (λ i. (32 ∷ destination_word d) ++ i) k.1 ∙ sym (append_assoc (32 ∷ destination_word d) (spaced (map destination_word ds)) k.0), k.2),
      )

  on_first : (slashed : Bool) (below room : ℕ) (t : List ℕ) → ListOn version slashed below room t → SoFar slashed below room 8000 t
  on_first slashed below room t l = at l.0 l.1 l.2 l.3
    where
      at : (ds : List Destination) → AscendingOf version below ds → length ds ≤ room → Behind (spaced (map destination_word ds)) (ListEnd version slashed) t → SoFar slashed below room 8000 t
      at [] a f b = inl (subst (ListEnd version slashed) (sym b.1) b.2)
      at (d ∷ ds) a f b =
          let s = a.0.0.statement in
          let p = a.0.0.port in
          inr (
            rank d,
            omega (arith, a.0.1),
            omega (arith, s, p),
            (
              d,
              (a.0.0, a.1.0),
              refl,
              (spaced (map destination_word ds) ++ b.0, b.1 ∙ append_assoc (32 ∷ destination_word d) (spaced (map destination_word ds)) b.0, (ds, (a.0.2, a.1.1), omega arith, (b.0, refl, b.2))),
            ),
          )

  pub left_list : (slashed : Bool) (below room : ℕ) (bs rest : List ℕ) → 1 ≤ room → IsLeft (SoFar slashed below room 8000) bs rest → IsLeft (ListOn version slashed below room) bs rest
  left_list slashed below room bs rest some v = same (SoFar slashed below room 8000) (ListOn version slashed below room) bs rest onto (on_first slashed below room) v
    where
      onto : (t : List ℕ) → SoFar slashed below room 8000 t → ListOn version slashed below room t
      onto t (inl e) = list_of_end below room slashed t e
      onto t (inr m) = first_on slashed below room t some m.0 m.1 m.2 m.3

  -- the list for false
  second_on : (t : List ℕ) → Behind (codes " /") (ListOn version false 0 16) t → ListEnd version true t
  second_on t b =
      let l = b.2 in
      let k = l.3 in
      (l.0, l.1, l.2, b.1 ∙ ap (λ i. codes " /" ++ i) (k.1 ∙ ap (λ i. spaced (map destination_word l.0) ++ i) k.2) ∙ ap (λ i. codes " /" ++ i) (nil (spaced (map destination_word l.0))))
    where
      nil : (xs : List ℕ) → xs ++ [] ≡ xs
      nil [] = refl
      nil (x ∷ xs) = ap (λ i. x ∷ i) (nil xs)

  on_second : (t : List ℕ) → ListEnd version true t → Behind (codes " /") (ListOn version false 0 16) t
  on_second t e = (spaced (map destination_word e.0), e.3, (e.0, e.1, e.2, ([], nil (spaced (map destination_word e.0)), refl)))
    where
      nil : (xs : List ℕ) → xs ≡ xs ++ []
      nil [] = refl
      nil (x ∷ xs) = ap (λ i. x ∷ i) (nil xs)

  pub left_second : (bs r rest : List ℕ) → fixed (codes " /") bs ≡ Ok (tt, r) → IsLeft (ListOn version false 0 16) r rest → IsLeft (ListEnd version true) bs rest
  left_second bs r rest h v = same (Behind (codes " /") (ListOn version false 0 16)) (ListEnd version true) bs rest second_on on_second (word_on (codes " /") (ListOn version false 0 16) (some_list false 0 16) bs r rest h v)

  pub stuck_second : (bs rest : List ℕ) → fixed (codes " /") bs ≡ Err rest → IsLeft (ListEnd version true) bs rest
  stuck_second bs rest h = same (Behind (codes " /") (ListOn version false 0 16)) (ListEnd version true) bs rest second_on on_second (word_stuck (codes " /") (ListOn version false 0 16) (some_list false 0 16) bs rest h)

  -- no destination of the version has such a rank
  pub no_rank : (slashed : Bool) (room r : ℕ) (bs : List ℕ) → ((d : Destination) → IsDestinationOf version d → rank d ≡ r → ⊥) → IsLeft (DestinationOn version slashed room r) bs bs
  no_rank slashed room r bs n = nothing (DestinationOn version slashed room r) bs (λ t m. n m.0 m.1 m.2)

  -- a port of the version
  abbrev pub IsPort : ℕ → Type 0
  IsPort p = IsBetween 1 p 5 × (p ≤ greatest_port version)

  -- the destination of a rank, where there is one
  of_rank : (slashed : Bool) (room r : ℕ) (s p : ℕ) → IsBetween 1 s 999 → IsPort p → 8 * s + p ≡ r → (t : List ℕ) → Behind (32 ∷ port_text s p) (ListOn version slashed r (room - 1)) t → DestinationOn version slashed room r t
  of_rank slashed room r s p v w e t b = (record { statement = s; port = p }, (record { statement = v; port = w.0 }, w.1), e, b)

  rank_of : (slashed : Bool) (room r : ℕ) (s p : ℕ) → IsPort p → 8 * s + p ≡ r → (t : List ℕ) → DestinationOn version slashed room r t → Behind (32 ∷ port_text s p) (ListOn version slashed r (room - 1)) t
  rank_of slashed room r s p w e t m =
      let d = m.0 in
      let a = m.1.0.port in
      let f : d.statement ≡ s = omega (arith, m.2, a, w.0) in
      let g : d.port ≡ p = omega (arith, m.2, a, w.0) in
      (m.3.0, m.3.1 ∙ ap (λ i. (32 ∷ (decimal i ++ (46 ∷ decimal d.port))) ++ m.3.0) f ∙ ap (λ i. (32 ∷ port_text s i) ++ m.3.0) g, m.3.2)

  pub left_destination : (slashed : Bool) (room r : ℕ) (s p : ℕ) → IsBetween 1 s 999 → IsPort p → 8 * s + p ≡ r → (bs c rest : List ℕ) → fixed (32 ∷ port_text s p) bs ≡ Ok (tt, c) → IsLeft (ListOn version slashed r (room - 1)) c rest → IsLeft (DestinationOn version slashed room r) bs rest
  left_destination slashed room r s p v w e bs c rest h l = same (Behind (32 ∷ port_text s p) (ListOn version slashed r (room - 1))) (DestinationOn version slashed room r) bs rest (of_rank slashed room r s p v w e) (rank_of slashed room r s p w e) (word_on (32 ∷ port_text s p) (ListOn version slashed r (room - 1)) (some_list slashed r (room - 1)) bs c rest h l)

  pub stuck_destination : (slashed : Bool) (room r : ℕ) (s p : ℕ) → IsBetween 1 s 999 → IsPort p → 8 * s + p ≡ r → (bs rest : List ℕ) → fixed (32 ∷ port_text s p) bs ≡ Err rest → IsLeft (DestinationOn version slashed room r) bs rest
  stuck_destination slashed room r s p v w e bs rest h = same (Behind (32 ∷ port_text s p) (ListOn version slashed r (room - 1))) (DestinationOn version slashed room r) bs rest (of_rank slashed room r s p v w e) (rank_of slashed room r s p w e) (word_stuck (32 ∷ port_text s p) (ListOn version slashed r (room - 1)) (some_list slashed r (room - 1)) bs rest h)

  -- the same, where a slash is wanted or not
  pub second_for : (slashed : Bool) → slashed ≡ true → (bs r rest : List ℕ) → fixed (codes " /") bs ≡ Ok (tt, r) → IsLeft (ListOn version false 0 16) r rest → IsLeft (ListEnd version slashed) bs rest
  second_for slashed e bs r rest h v = subst (λ i. IsLeft (ListEnd version i) bs rest) (sym e) (left_second bs r rest h v)

  pub stuck_for : (slashed : Bool) → slashed ≡ true → (bs rest : List ℕ) → fixed (codes " /") bs ≡ Err rest → IsLeft (ListEnd version slashed) bs rest
  stuck_for slashed e bs rest h = subst (λ i. IsLeft (ListEnd version i) bs rest) (sym e) (stuck_second bs rest h)

  pub not_slashed : (slashed : Bool) (bs : List ℕ) → slashed ≡ false → IsLeft (ListEnd version slashed) bs bs
  not_slashed slashed bs e = subst (λ i. IsLeft (ListEnd version i) bs bs) (sym e) (ended bs)
