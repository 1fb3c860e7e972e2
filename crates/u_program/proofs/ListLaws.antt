-- The readers of lists and of statements read exactly their words.
use Rattle.std.specs.Prelude.{◌≡◌, ℕ, ◌≤◌, ◌<◌, Bool, true, false, ◌&&◌, cond, nat_le, List, [], ◌∷◌, ◌++◌, map, Option, Some, None, refl}
use Rattle.std.proofs.Common.{sym, ◌∙◌, ap, subst, arith, inl, inr, append_assoc}
use Rattle.std.proofs.lemmas.List.{append-nil}
use Rattle.std.specs.Fmt.{decimal}
use Rattle.u_base.specs.WholeWords.{◌then◌, number0_word}
use Rattle.u_base.proofs.WholeWordsLaws.{told, then_some, le_cases, number0_word_sound, number0_word_complete}
use Rattle.std.proofs.lemmas.Option.{same_Some, none-some}
use Rattle.u_program.specs.declared.program.Kind.{Kind}
use Rattle.u_program.specs.declared.program.Kind.TheVariants.{Switch, Apply, Store, End}
use Rattle.u_program.specs.declared.program.Destination.{Destination}
use Rattle.u_program.specs.Parts.{StatementParts, statement}
use Rattle.u_program.specs.Limits.{IsKind, has_list, has_otherwise, IsListed, HasKind, HasPorts, Ascending, rank, IsStatement, no_limits}
use Rattle.u_program.specs.Text.{arrow, slash, kind_word, argument_words, destination_word, lists_words, statement_words}
use Rattle.u_program.specs.Reading.{Words, destination_at, is_slash, destinations_at, none_at, list_at, otherwise_at, kind_at, arrow_at, statement_at}
use Rattle.u_program.proofs.WordLaws.{destination_sound, destination_complete, kind_sound, kind_complete, arrow_sound}
use Rattle.u_program.specs.declared.program.Version.{Version}

abbrev pub onto_read : List Destination → Option (List Destination × Words) → Option (List Destination × Words)
onto_read to r = r then λ ds. Some (to ++ ds.0, ds.1)

onto_more : (to : List Destination) (d : Destination) (r : Option (List Destination × Words)) → onto_read to (r then λ ds. Some (d ∷ ds.0, ds.1)) ≡ onto_read (to ++ (d ∷ [])) r
onto_more to d (Some ds) = ap (λ t. Some (t, ds.1)) (sym (append_assoc to (d ∷ []) ds.0))
onto_more to d None = refl

module _ (version : Version) where
  -- what stands behind a list: a slash and the rest, or nothing
  abbrev behind : Bool → Words → Words
  behind true rest = slash ∷ rest
  behind false rest = []

  -- what is left then
  abbrev IsLeft : Bool → Words → Type 0
  IsLeft true rest = Unit {0}
  IsLeft false rest = rest ≡ []

  -- the rest of a list behind a destination
  abbrev more_at : Bool → ℕ → Words → Destination → Option (List Destination × Words)
  more_at slashed below ws d = cond (nat_le (rank d) below) None (destinations_at version slashed (rank d) ws then λ ds. Some (d ∷ ds.0, ds.1))

  no_slash : destination_at version slash ≡ None
  unfolding destination_at
  no_slash = refl

  -- a destination's word is no slash
  not_slash : (w : List ℕ) (d : Destination) → destination_at version w ≡ Some d → is_slash w ≡ false
  not_slash w d h =
      elim (told w slash (is_slash w) refl) [
        | inl a ↦ absurd (none-some d (sym no_slash ∙ ap (destination_at version) (sym a.1) ∙ h))
        | inr a ↦ a
      ]

  and_false : (b c : Bool) → c ≡ false → (b && c) ≡ false
  and_false true c h = h
  and_false false c h = refl

  -- with a destination ahead the reader goes on
  goes_on : (slashed : Bool) (below : ℕ) (w : List ℕ) (ws : Words) (d : Destination) → destination_at version w ≡ Some d → destinations_at version slashed below (w ∷ ws) ≡ more_at slashed below ws d
  unfolding destinations_at
  goes_on slashed below w ws d h =
      ap (λ t. cond t (Some ([], ws)) (destination_at version w then more_at slashed below ws)) (and_false slashed (is_slash w) (not_slash w d h))
      ∙ ap (λ r. r then more_at slashed below ws) h

  SaysList : Bool → ℕ → Words → List Destination → Words → Type 0
  SaysList slashed below ws ds rest = (Ascending below ds × HasPorts version ds) × IsLeft slashed rest × (ws ≡ map destination_word ds ++ behind slashed rest)

  none_left : (slashed : Bool) (below : ℕ) (ds : List Destination) (rest : Words) → ◌≡◌ {A = Option (List Destination × Words)} (cond slashed None (Some ([], []))) (Some (ds, rest)) → SaysList slashed below [] ds rest
  unfolding SaysList
  none_left true below ds rest h = absurd (none-some _ h)
  none_left false below ds rest h =
      let o = same_Some ([], []) (ds, rest) h in
      let e : [] ≡ ds = ap (λ t. t.0) o in
      let f : [] ≡ rest = ap (λ t. t.1) o in
      subst (λ ds. (Ascending below ds × HasPorts version ds) × (rest ≡ []) × ([] ≡ map destination_word ds ++ [])) e ((tt, tt), sym f, refl)

  more_sound : (slashed : Bool) (below : ℕ) (w : List ℕ) (ws : Words) (ds : List Destination) (rest : Words) → ((d : Destination) (es : List Destination) → destinations_at version slashed (rank d) ws ≡ Some (es, rest) → SaysList slashed (rank d) ws es rest) → (destination_at version w then more_at slashed below ws) ≡ Some (ds, rest) → SaysList slashed below (w ∷ ws) ds rest
  unfolding SaysList
  more_sound slashed below w ws ds rest others h =
      let a = then_some (destination_at version w) (more_at slashed below ws) (ds, rest) h in
      let s = destination_sound version w a.0 a.1 in
      elim (le_cases (rank a.0) below) [
        | inl b ↦ absurd (none-some _ (ap (λ t. cond t None (destinations_at version slashed (rank a.0) ws then λ es. Some (a.0 ∷ es.0, es.1))) (sym b.0) ∙ a.2))
        | inr b ↦
            let g = then_some (destinations_at version slashed (rank a.0) ws) (λ es. Some (a.0 ∷ es.0, es.1)) (ds, rest) (ap (λ t. cond t None (destinations_at version slashed (rank a.0) ws then λ es. Some (a.0 ∷ es.0, es.1))) (sym b.0) ∙ a.2) in
            let o = same_Some (a.0 ∷ g.0.0, g.0.1) (ds, rest) g.2 in
            let e : a.0 ∷ g.0.0 ≡ ds = ap (λ t. t.0) o in
            let f : g.0.1 ≡ rest = ap (λ t. t.1) o in
            let i = others a.0 g.0.0 (g.1 ∙ ap (λ r. Some (g.0.0, r)) f) in
            subst (λ ds. (Ascending below ds × HasPorts version ds) × IsLeft slashed rest × (w ∷ ws ≡ map destination_word ds ++ behind slashed rest)) e
            (((s.0, b.1, i.0.0), (s.1, i.0.1)), i.1, ap (λ w. w ∷ ws) s.2 ∙ ap (λ ws. destination_word a.0 ∷ ws) i.2)
      ]

  slash_sound : (slashed : Bool) (below : ℕ) (w : List ℕ) (ws : Words) (ds : List Destination) (rest : Words) → ((d : Destination) (es : List Destination) → destinations_at version slashed (rank d) ws ≡ Some (es, rest) → SaysList slashed (rank d) ws es rest) → cond (slashed && is_slash w) (Some ([], ws)) (destination_at version w then more_at slashed below ws) ≡ Some (ds, rest) → SaysList slashed below (w ∷ ws) ds rest
  unfolding SaysList
  slash_sound false below w ws ds rest others h = more_sound false below w ws ds rest others h
  slash_sound true below w ws ds rest others h =
      elim (told w slash (is_slash w) refl) [
        | inl a ↦
            let o = same_Some ([], ws) (ds, rest) (ap (λ t. cond t (Some ([], ws)) (destination_at version w then more_at true below ws)) (sym a.0) ∙ h) in
            let e : [] ≡ ds = ap (λ t. t.0) o in
            let f : ws ≡ rest = ap (λ t. t.1) o in
            subst (λ ds. (Ascending below ds × HasPorts version ds) × Unit {0} × (w ∷ ws ≡ map destination_word ds ++ (slash ∷ rest))) e ((tt, tt), tt, ap (λ w. w ∷ ws) a.1 ∙ ap (λ ws. slash ∷ ws) f)
        | inr a ↦ more_sound true below w ws ds rest others (ap (λ t. cond t (Some ([], ws)) (destination_at version w then more_at true below ws)) (sym a) ∙ h)
      ]

  destinations_sound : (slashed : Bool) (below : ℕ) (ws : Words) (ds : List Destination) (rest : Words) → destinations_at version slashed below ws ≡ Some (ds, rest) → SaysList slashed below ws ds rest
  unfolding destinations_at
  destinations_sound slashed below [] ds rest h = none_left slashed below ds rest h
  destinations_sound slashed below (w ∷ ws) ds rest h = slash_sound slashed below w ws ds rest (λ d es g. destinations_sound slashed (rank d) ws es rest g) h

  list_end : (slashed : Bool) (below : ℕ) (rest : Words) → IsLeft slashed rest → destinations_at version slashed below (behind slashed rest) ≡ Some ([], rest)
  unfolding destinations_at
  list_end true below rest v = refl
  list_end false below rest v = ap (λ r. Some ([], r)) (sym v)

  destinations_complete : (slashed : Bool) (below : ℕ) (ds : List Destination) (rest : Words) → Ascending below ds → HasPorts version ds → IsLeft slashed rest → destinations_at version slashed below (map destination_word ds ++ behind slashed rest) ≡ Some (ds, rest)
  destinations_complete slashed below [] rest v p l = list_end slashed below rest l
  destinations_complete slashed below (d ∷ ds) rest v p l =
      let ws = map destination_word ds ++ behind slashed rest in
      goes_on slashed below (destination_word d) ws d (destination_complete version d v.0 p.0)
      ∙ elim (le_cases (rank d) below) [
        | inl b ↦ absurd (omega (arith, v.1))
        | inr b ↦ ap (λ t. cond t None (destinations_at version slashed (rank d) ws then λ es. Some (d ∷ es.0, es.1))) b.0 ∙ ap (λ r. r then λ es. Some (d ∷ es.0, es.1)) (destinations_complete slashed (rank d) ds rest v.2 p.1 l)
      ]

  -- both lists of a statement

  SaysLists : Kind → Words → List Destination → List Destination → Type 0
  SaysLists k ws to otherwise = (Ascending 0 to × HasPorts version to) × IsListed (has_list k) to × (Ascending 0 otherwise × HasPorts version otherwise) × IsListed (has_otherwise k) otherwise × (ws ≡ lists_words k to otherwise)

  no_otherwise : (rest : Words) (otherwise : List Destination) (last : Words) → ◌≡◌ {A = Option (List Destination × Words)} (Some ([], rest)) (Some (otherwise, last)) → otherwise ≡ []
  no_otherwise rest otherwise last h = let o = same_Some ([], rest) (otherwise, last) h in sym (ap (λ t. t.0) o)

  none_sound : (ws : Words) (ds : List Destination) (rest : Words) → none_at ws ≡ Some (ds, rest) → (ds ≡ []) × (ws ≡ [])
  none_sound [] ds rest h = let o = same_Some ([], []) (ds, rest) h in (sym (ap (λ t. t.0) o), refl)
  none_sound (w ∷ ws) ds rest h = absurd (none-some _ h)

  unlisted_sound : (ws : Words) (to : List Destination) (rest : Words) (otherwise : List Destination) (last : Words) → none_at ws ≡ Some (to, rest) → ◌≡◌ {A = Option (List Destination × Words)} (Some ([], rest)) (Some (otherwise, last)) → (Ascending 0 to × HasPorts version to) × (to ≡ []) × (Ascending 0 otherwise × HasPorts version otherwise) × (otherwise ≡ []) × (ws ≡ map destination_word to ++ [])
  unlisted_sound ws to rest otherwise last h i =
      let s = none_sound ws to rest h in
      let e = no_otherwise rest otherwise last i in
      ((subst (Ascending 0) (sym s.0) tt, subst (HasPorts version) (sym s.0) tt), s.0, (subst (Ascending 0) (sym e) tt, subst (HasPorts version) (sym e) tt), e, s.1 ∙ ap (λ ds. map destination_word ds ++ []) (sym s.0))

  listed_sound : (ws : Words) (to : List Destination) (rest : Words) (otherwise : List Destination) (last : Words) → destinations_at version false 0 ws ≡ Some (to, rest) → ◌≡◌ {A = Option (List Destination × Words)} (Some ([], rest)) (Some (otherwise, last)) → (Ascending 0 to × HasPorts version to) × Unit {0} × (Ascending 0 otherwise × HasPorts version otherwise) × (otherwise ≡ []) × (ws ≡ map destination_word to ++ [])
  unfolding SaysList
  listed_sound ws to rest otherwise last h i =
      let s = destinations_sound false 0 ws to rest h in
      let e = no_otherwise rest otherwise last i in
      (s.0, tt, (subst (Ascending 0) (sym e) tt, subst (HasPorts version) (sym e) tt), e, s.2)

  switched_sound : (ws : Words) (to : List Destination) (rest : Words) (otherwise : List Destination) (last : Words) → destinations_at version true 0 ws ≡ Some (to, rest) → destinations_at version false 0 rest ≡ Some (otherwise, last) → (Ascending 0 to × HasPorts version to) × Unit {0} × (Ascending 0 otherwise × HasPorts version otherwise) × Unit {0} × (ws ≡ map destination_word to ++ (slash ∷ map destination_word otherwise))
  unfolding SaysList
  switched_sound ws to rest otherwise last h i =
      let s = destinations_sound true 0 ws to rest h in
      let t = destinations_sound false 0 rest otherwise last i in
      (s.0, tt, t.0, tt, s.2 ∙ ap (λ r. map destination_word to ++ (slash ∷ r)) (t.2 ∙ append-nil (map destination_word otherwise)))

  lists_sound : (k : Kind) (ws : Words) (to : List Destination) (rest : Words) (otherwise : List Destination) (last : Words) → list_at version k ws ≡ Some (to, rest) → otherwise_at version k rest ≡ Some (otherwise, last) → SaysLists k ws to otherwise
  unfolding SaysLists list_at otherwise_at
  lists_sound Switch ws to rest otherwise last h i = switched_sound ws to rest otherwise last h i
  lists_sound (Apply b n) ws to rest otherwise last h i = unlisted_sound ws to rest otherwise last h i
  lists_sound Store ws to rest otherwise last h i = unlisted_sound ws to rest otherwise last h i
  lists_sound End ws to rest otherwise last h i = unlisted_sound ws to rest otherwise last h i
  lists_sound k ws to rest otherwise last h i = listed_sound ws to rest otherwise last h i

  -- what is left behind the first list
  abbrev left_of : Kind → List Destination → Words
  left_of Switch otherwise = map destination_word otherwise
  left_of k otherwise = []

  listed_complete : (to : List Destination) → Ascending 0 to → HasPorts version to → destinations_at version false 0 (map destination_word to ++ []) ≡ Some (to, [])
  listed_complete to v p = destinations_complete false 0 to [] v p refl

  unlisted_complete : (to : List Destination) → to ≡ [] → none_at (map destination_word to ++ []) ≡ Some (to, [])
  unlisted_complete to e = ap (λ ds. none_at (map destination_word ds ++ [])) e ∙ ap (λ ds. Some (ds, [])) (sym e)

  list_complete : (k : Kind) (to otherwise : List Destination) → Ascending 0 to → HasPorts version to → IsListed (has_list k) to → list_at version k (lists_words k to otherwise) ≡ Some (to, left_of k otherwise)
  unfolding list_at
  list_complete Switch to otherwise v p l = destinations_complete true 0 to (map destination_word otherwise) v p tt
  list_complete (Apply b n) to otherwise v p l = unlisted_complete to l
  list_complete Store to otherwise v p l = unlisted_complete to l
  list_complete End to otherwise v p l = unlisted_complete to l
  list_complete k to otherwise v p l = listed_complete to v p

  otherwise_complete : (k : Kind) (otherwise : List Destination) → Ascending 0 otherwise → HasPorts version otherwise → IsListed (has_otherwise k) otherwise → otherwise_at version k (left_of k otherwise) ≡ Some (otherwise, [])
  unfolding otherwise_at
  otherwise_complete Switch otherwise v p l = ap (destinations_at version false 0) (sym (append-nil (map destination_word otherwise))) ∙ listed_complete otherwise v p
  otherwise_complete k otherwise v p l = ap (λ ds. Some (ds, [])) (sym l)

  -- statements

  abbrev said : ℕ → Kind → List Destination → List Destination × Words → Option StatementParts
  said region k to otherwise = Some (statement region k to otherwise.0)

  abbrev lists_of : ℕ → Kind → Words → Option StatementParts
  lists_of region k ws = list_at version k ws then λ to. otherwise_at version k to.1 then said region k to.0

  abbrev tail_of : ℕ → Kind × Words → Option StatementParts
  tail_of region k = arrow_at k.1 then λ b. lists_of region k.0 b.1

  abbrev rest_of : Words → ℕ → Option StatementParts
  rest_of ws region = kind_at version ws then tail_of region

  -- what stands behind the arrow, of a statement with this region and kind
  lists_of_sound : (region : ℕ) (k : Kind) (ws : Words) (s : StatementParts) → region ≤ 99 → IsKind k → HasKind version k → lists_of region k ws ≡ Some s → IsStatement (no_limits version) s × (decimal region ∷ kind_word k ∷ (argument_words version k ++ (arrow ∷ ws)) ≡ statement_words version s)
  unfolding SaysLists
  lists_of_sound region k ws s low valid has h =
      let g = then_some (list_at version k ws) (λ to. otherwise_at version k to.1 then said region k to.0) s h in
      let o = then_some (otherwise_at version k g.0.1) (said region k g.0.0) s g.2 in
      let i = lists_sound k ws g.0.0 g.0.1 o.0.0 o.0.1 g.1 o.1 in
      let j = same_Some (statement region k g.0.0 o.0.0) s o.2 in
      subst (λ s. IsStatement (no_limits version) s × (decimal region ∷ kind_word k ∷ (argument_words version k ++ (arrow ∷ ws)) ≡ statement_words version s)) j (
        record { region = low; kind = valid; has_kind = has; to = i.0.0; ports = i.0.1; listed = i.1; few = tt; otherwise = i.2.0; ports_otherwise = i.2.1; listed_otherwise = i.3; few_otherwise = tt },
        ap (λ t. decimal region ∷ kind_word k ∷ (argument_words version k ++ (arrow ∷ t))) i.4,
      )

  pub statement_sound : (ws : Words) (s : StatementParts) → statement_at version ws ≡ Some s → IsStatement (no_limits version) s × (ws ≡ statement_words version s)
  unfolding statement_at
  statement_sound [] s h = absurd (none-some s h)
  statement_sound (w ∷ ws) s h =
      let a = then_some (number0_word 99 w) (rest_of ws) s h in
      let b = number0_word_sound 99 w a.0 (omega arith) (omega arith) a.1 in
      let c = then_some (kind_at version ws) (tail_of a.0) s a.2 in
      let d = kind_sound version ws c.0.0 c.0.1 c.1 in
      let e = then_some (arrow_at c.0.1) (λ b. lists_of a.0 c.0.0 b.1) s c.2 in
      let f = arrow_sound c.0.1 e.0.0 e.0.1 e.1 in
      let g = lists_of_sound a.0 c.0.0 e.0.1 s b.0 d.0 d.1 e.2 in
      (g.0, ap (λ w. w ∷ ws) b.1 ∙ ap (λ ws. decimal a.0 ∷ ws) (d.2 ∙ ap (λ t. kind_word c.0.0 ∷ (argument_words version c.0.0 ++ t)) f) ∙ g.1)

  pub statement_complete : (s : StatementParts) → IsStatement (no_limits version) s → statement_at version (statement_words version s) ≡ Some s
  unfolding statement_at arrow_at
  statement_complete s v =
      let ls = lists_words s.kind s.to s.otherwise in
      ap (λ r. r then rest_of (kind_word s.kind ∷ (argument_words version s.kind ++ (arrow ∷ ls)))) (number0_word_complete 99 s.region (omega arith) (omega arith) v.region)
      ∙ ap (λ r. r then tail_of s.region) (kind_complete version s.kind (arrow ∷ ls) v.kind v.has_kind)
      ∙ ap (λ r. r then λ to. otherwise_at version s.kind to.1 then said s.region s.kind to.0) (list_complete s.kind s.to s.otherwise v.to v.ports v.listed)
      ∙ ap (λ r. r then said s.region s.kind s.to) (otherwise_complete s.kind s.otherwise v.otherwise v.ports_otherwise v.listed_otherwise)

  -- for the loop over destinations

  pub destinations_turn : (slashed : Bool) (below : ℕ) (w : List ℕ) (ws : Words) (d : Destination) (to : List Destination) → destination_at version w ≡ Some d → below < rank d → onto_read to (destinations_at version slashed below (w ∷ ws)) ≡ onto_read (to ++ (d ∷ [])) (destinations_at version slashed (rank d) ws)
  destinations_turn slashed below w ws d to h lt =
      ap (onto_read to) (goes_on slashed below w ws d h)
      ∙ elim (le_cases (rank d) below) [
        | inl b ↦ absurd (omega arith)
        | inr b ↦ ap (λ t. onto_read to (cond t None (destinations_at version slashed (rank d) ws then λ ds. Some (d ∷ ds.0, ds.1)))) b.0 ∙ onto_more to d (destinations_at version slashed (rank d) ws)
      ]

  pub destinations_low : (slashed : Bool) (below : ℕ) (w : List ℕ) (ws : Words) (d : Destination) (to : List Destination) → destination_at version w ≡ Some d → rank d ≤ below → onto_read to (destinations_at version slashed below (w ∷ ws)) ≡ None
  destinations_low slashed below w ws d to h le =
      ap (onto_read to) (goes_on slashed below w ws d h)
      ∙ elim (le_cases (rank d) below) [
        | inl b ↦ ap (λ t. onto_read to (cond t None (destinations_at version slashed (rank d) ws then λ ds. Some (d ∷ ds.0, ds.1)))) b.0
        | inr b ↦ absurd (omega arith)
      ]

  pub destinations_bad : (slashed : Bool) (below : ℕ) (w : List ℕ) (ws : Words) (to : List Destination) → (slashed && is_slash w) ≡ false → destination_at version w ≡ None → onto_read to (destinations_at version slashed below (w ∷ ws)) ≡ None
  unfolding destinations_at
  destinations_bad slashed below w ws to s h =
      ap (λ t. onto_read to (cond t (Some ([], ws)) (destination_at version w then more_at slashed below ws))) s
      ∙ ap (λ r. onto_read to (r then more_at slashed below ws)) h

  pub destinations_slash : (slashed : Bool) (below : ℕ) (w : List ℕ) (ws : Words) (to : List Destination) → (slashed && is_slash w) ≡ true → onto_read to (destinations_at version slashed below (w ∷ ws)) ≡ Some (to, ws)
  unfolding destinations_at
  destinations_slash slashed below w ws to s =
      ap (λ t. onto_read to (cond t (Some ([], ws)) (destination_at version w then more_at slashed below ws))) s
      ∙ ap (λ t. Some (t, ws)) (append-nil to)

  pub destinations_end : (below : ℕ) (to : List Destination) → onto_read to (destinations_at version false below []) ≡ Some (to, [])
  unfolding destinations_at
  destinations_end below to = ap (λ t. Some (t, [])) (append-nil to)

  pub destinations_open : (below : ℕ) (to : List Destination) → onto_read to (destinations_at version true below []) ≡ None
  unfolding destinations_at
  destinations_open below to = refl
