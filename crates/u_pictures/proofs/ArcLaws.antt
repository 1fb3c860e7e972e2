-- A picture leads from one statement to a port of another where the program does.
use Rattle.std.proofs.Common.{◌≡◌, ℕ, suc, ◌+◌, ◌≤◌, true, false, List, [], ◌∷◌, ◌++◌, sym, ap, refl, ◌∙◌, subst, map, length, arith, inl, inr}
use Rattle.std.proofs.lemmas.List.Sums.{sum_by-cons}
use Rattle.std.specs.Prelude.{cond, ◌==◌, ◌&&◌, not, nat_le, if◌then◌else◌}
use Rattle.std.specs.Cmp.Derive.{both_true}
use Rattle.std.proofs.lemmas.Bool.{false≢true, and_parts, cases_Bool, cases_lt, leb-true, eqb-true, eq-eqb}
use Rattle.u_program.specs.declared.program.Kind.TheVariants.{Apply}
use Rattle.u_program.specs.declared.program.Version.{Version}
use Rattle.u_compile.specs.declared.origins.BlockOrigins.{BlockOrigins}
use Rattle.u_program.specs.declared.program.Arguments.{Arguments}
use Rattle.u_program.specs.declared.program.Destination.{Destination}
use Rattle.u_program.specs.Parts.{StatementParts, BlockParts}
use Rattle.u_program.specs.Limits.{has_otherwise}
use Rattle.u_pictures.specs.declared.styles.Exit.TheVariants.{OnFalse, FromPoint}
use Rattle.u_pictures.specs.Dot.{Shown, Arc, numbered}
use Rattle.u_pictures.specs.ProgramNames.{statement_name, point_name}
use Rattle.u_pictures.specs.Styles.{exit_of, join, result_arc}
use Rattle.u_pictures.specs.Sharing.{same_list, has_list, times, shares}
use Rattle.u_pictures.specs.Clusters.{the_loop}
use Rattle.u_pictures.specs.Arcs.{arc_to, arcs_to, the_point, point_node, shared_arcs, join_arc, list_arcs, result_arcs, statement_arcs, the_arcs}
use Rattle.u_pictures.specs.ProgramPicture.{the_node, block_picture}
use Rattle.u_pictures.specs.Leads.{Among, IsNumbered, Leads, Directly, Through}

among_left : {X : Type 0} (x : X) (a b : List X) → Among x a → Among x (a ++ b)
among_left x [] b h = absurd h
among_left x (y ∷ a) b (inl e) = inl e
among_left x (y ∷ a) b (inr h) = inr (among_left x a b h)

among_right : {X : Type 0} (x : X) (a b : List X) → Among x b → Among x (a ++ b)
among_right x [] b h = h
among_right x (y ∷ a) b h = inr (among_right x a b h)

among_map : {X Y : Type 0} (f : X → Y) (x : X) (xs : List X) → Among x xs → Among (f x) (map f xs)
among_map f x [] h = absurd h
among_map f x (y ∷ xs) (inl e) = inl (ap f e)
among_map f x (y ∷ xs) (inr h) = inr (among_map f x xs h)

-- lists that are the same, and how often one is there

destination_eq : (d e : Destination) → d.statement ≡ e.statement → d.port ≡ e.port → d ≡ e
destination_eq d e p q =
    let mid : Destination = record { statement = e.statement; port = d.port } in
    let f : d ≡ mid = ap (λ (n : ℕ). let r : Destination = record { statement = n; port = d.port } in r) p in
    let g : mid ≡ e = ap (λ (n : ℕ). let r : Destination = record { statement = e.statement; port = n } in r) q in
    f ∙ g

same_list_eq : (a b : List Destination) → same_list a b ≡ true → a ≡ b
same_list_eq [] [] h = refl
same_list_eq [] (e ∷ es) h = absurd (false≢true h)
same_list_eq (d ∷ ds) [] h = absurd (false≢true h)
same_list_eq (d ∷ ds) (e ∷ es) h =
    let p = and_parts (d.statement == e.statement && d.port == e.port) (same_list ds es) h in
    let q = and_parts (d.statement == e.statement) (d.port == e.port) p.0 in
    ap (λ x. x ∷ ds) (destination_eq d e (eqb-true d.statement e.statement q.0) (eqb-true d.port e.port q.1)) ∙ ap (λ t. e ∷ t) (same_list_eq ds es p.1)

times_yes : (to : List Destination) (s : StatementParts) (ss : List StatementParts) → has_list to s ≡ true → times to (s ∷ ss) ≡ times to ss + 1
times_yes to s ss h = sum_by-cons (λ t. cond (has_list to t) 1 0) s ss ∙ ap (λ c. cond c 1 0 + times to ss) h ∙ omega arith

times_no : (to : List Destination) (s : StatementParts) (ss : List StatementParts) → has_list to s ≡ false → times to (s ∷ ss) ≡ times to ss
times_no to s ss h = sum_by-cons (λ t. cond (has_list to t) 1 0) s ss ∙ ap (λ c. cond c 1 0 + times to ss) h ∙ omega arith

module _ (origins : List BlockOrigins) (version : Version) (b : BlockParts) where
  -- the arcs of a statement stand among those of the block
  record Found (k : ℕ) (ss : List StatementParts) (n : ℕ) (s : StatementParts) : Type 0 where
    behind : List StatementParts
    there : (x : Shown) → Among x (statement_arcs b n s behind) → Among x (the_arcs b k ss)

  here : (n : ℕ) (s : StatementParts) (ss : List StatementParts) → Found n (s ∷ ss) n s
  here n s ss = record { behind = ss; there = λ x a. among_left x (statement_arcs b n s ss) (the_arcs b (suc n) ss) a }

  later : (k : ℕ) (t : StatementParts) (ts : List StatementParts) (n : ℕ) (s : StatementParts) → Found (suc k) ts n s → Found k (t ∷ ts) n s
  later k t ts n s f = record { behind = f.behind; there = λ x a. among_right x (statement_arcs b k t ts) (the_arcs b (suc k) ts) (f.there x a) }

  found : (k : ℕ) (ss : List StatementParts) (n : ℕ) (s : StatementParts) → IsNumbered k ss n s → Found k ss n s
  found k [] n s h = absurd h
  found k (t ∷ ts) n s (inl h) = subst (λ m. Found k (t ∷ ts) m s) (sym h.0) (subst (λ u. Found k (t ∷ ts) k u) (sym h.1) (here k t ts))
  found k (t ∷ ts) n s (inr h) = later k t ts n s (found (suc k) ts n s h)

  in_block : (x : Shown) → Among x (the_arcs b 1 b.statements) → Among x (block_picture origins version b)
  unfolding block_picture
  in_block x h = inr (among_right x (numbered (the_loop b) 1 b.loops) (numbered (the_node origins version b) 1 b.statements ++ the_arcs b 1 b.statements) (among_right x (numbered (the_node origins version b) 1 b.statements) (the_arcs b 1 b.statements) h))

  module _ (n : ℕ) (s : StatementParts) (at : IsNumbered 1 b.statements n s) where
    abbrev from : List ℕ
    from = statement_name b.name n

    of_statement : (x : Shown) → ((behind : List StatementParts) → Among x (statement_arcs b n s behind)) → Among x (block_picture origins version b)
    of_statement x h = let f = found 1 b.statements n s at in in_block x (f.there x (h f.behind))

    of_list : (x : Shown) → ((behind : List StatementParts) → Among x (list_arcs b from s behind)) → Among x (block_picture origins version b)
    unfolding statement_arcs
    of_list x h = of_statement x (λ behind. among_left x (list_arcs b from s behind) (arcs_to b.name from OnFalse s.otherwise ++ result_arcs b.name from s.kind) (h behind))

    -- a value that a `switch` sends on false
    pub otherwise_leads : (d : Destination) → Among d s.otherwise → Leads (block_picture origins version b) from (statement_name b.name d.statement) d.port
    unfolding statement_arcs
    otherwise_leads d h =
        let x = arc_to b.name from OnFalse d in
        Directly OnFalse (of_statement x (λ behind. among_right x (list_arcs b from s behind) (arcs_to b.name from OnFalse s.otherwise ++ result_arcs b.name from s.kind)
        (among_left x (arcs_to b.name from OnFalse s.otherwise) (result_arcs b.name from s.kind) (among_map (arc_to b.name from OnFalse) d s.otherwise h))))

    -- the result of a call
    pub result_shown : (back : ℕ) (c : Arguments) → s.kind ≡ Apply back c → Among (Arc from (statement_name b.name back) result_arc) (block_picture origins version b)
    unfolding statement_arcs result_arcs
    result_shown back c k =
        let x = Arc from (statement_name b.name back) result_arc in
        of_statement x (λ behind. among_right x (list_arcs b from s behind) (arcs_to b.name from OnFalse s.otherwise ++ result_arcs b.name from s.kind)
        (among_right x (arcs_to b.name from OnFalse s.otherwise) (result_arcs b.name from s.kind) (subst (λ kind. Among x (result_arcs b.name from kind)) (sym k) (inl refl))))

    -- A statement that shares no list: the arc to a destination.
    alone : (d : Destination) → shares b.statements s ≡ false → Among d s.to → Leads (block_picture origins version b) from (statement_name b.name d.statement) d.port
    unfolding list_arcs
    alone d alone_so h =
        let x = arc_to b.name from (exit_of s.kind) d in
        Directly (exit_of s.kind) (of_list x (λ behind.
        subst (λ c. Among x (if c then shared_arcs b from s behind else arcs_to b.name from (exit_of s.kind) s.to)) (sym alone_so)
        (among_map (arc_to b.name from (exit_of s.kind)) d s.to h)))

    -- a statement that shares its list: the arc to the point
    joins : shares b.statements s ≡ true → Among (join_arc b.name from s) (block_picture origins version b)
    unfolding list_arcs
    joins shared_so =
        let x = join_arc b.name from s in
        of_list x (λ behind.
        subst (λ c. Among x (if c then shared_arcs b from s behind else arcs_to b.name from (exit_of s.kind) s.to)) (sym shared_so)
        (among_right x (the_point b s behind) (x ∷ []) (inl refl)))

  -- the last statement but one that has the list
  record Holds (to : List Destination) (k : ℕ) (ss : List StatementParts) : Type 0 where
    number : ℕ
    held : StatementParts
    behind : List StatementParts
    has : has_list to held ≡ true
    once : times to behind ≡ 1
    there : (x : Shown) → Among x (statement_arcs b number held behind) → Among x (the_arcs b k ss)

  held_later : (to : List Destination) (k : ℕ) (t : StatementParts) (ts : List StatementParts) → Holds to (suc k) ts → Holds to k (t ∷ ts)
  held_later to k t ts f = record { number = f.number; held = f.held; behind = f.behind; has = f.has; once = f.once; there = λ x a. among_right x (statement_arcs b k t ts) (the_arcs b (suc k) ts) (f.there x a) }

  holds : (to : List Destination) (k : ℕ) (ss : List StatementParts) → 2 ≤ times to ss → Holds to k ss
  holds to k [] h = absurd (omega (arith, h))
  holds to k (t ∷ ts) h =
      elim (cases_Bool (has_list to t)) [
        | inl y ↦ (let e = times_yes to t ts y in
            elim (cases_lt 1 (times to ts)) [
              | inl l ↦ held_later to k t ts (holds to (suc k) ts (omega (arith, l)))
              | inr l ↦ record { number = k; held = t; behind = ts; has = y; once = omega (arith, e, h, l); there = λ x a. among_left x (statement_arcs b k t ts) (the_arcs b (suc k) ts) a }
            ])
        | inr y ↦ (let e = times_no to t ts y in held_later to k t ts (holds to (suc k) ts (omega (arith, e, h))))
      ]

  -- that statement shows the point's arcs
  point_shown : (s : StatementParts) (d : Destination) → shares b.statements s ≡ true → Among d s.to → Among (arc_to b.name (point_name b.name s.to) FromPoint d) (block_picture origins version b)
  unfolding statement_arcs list_arcs the_point
  point_shown s d shared_so h =
      let p = and_parts (not (has_otherwise s.kind) && nat_le 2 (length s.to)) (nat_le 2 (times s.to b.statements)) shared_so in
      let q = and_parts (not (has_otherwise s.kind)) (nat_le 2 (length s.to)) p.0 in
      let f = holds s.to 1 b.statements (leb-true 2 (times s.to b.statements) p.1) in
      let t = f.held in
      let r = and_parts (not (has_otherwise t.kind)) (same_list s.to t.to) f.has in
      let e : s.to ≡ t.to = same_list_eq s.to t.to r.1 in
      let x = arc_to b.name (point_name b.name s.to) FromPoint d in
      let from = statement_name b.name f.number in
      let shared : shares b.statements t ≡ true = both_true (both_true r.0 (ap (λ l. nat_le 2 (length l)) (sym e) ∙ q.1)) (ap (λ l. nat_le 2 (times l b.statements)) (sym e) ∙ p.1) in
      let once : (times t.to f.behind == 1) ≡ true = eq-eqb (times t.to f.behind) 1 (ap (λ l. times l f.behind) (sym e) ∙ f.once) in
      let arcs : Among x (arcs_to b.name (point_name b.name t.to) FromPoint t.to) = subst (λ l. Among x (arcs_to b.name (point_name b.name l) FromPoint l)) e (among_map (arc_to b.name (point_name b.name s.to) FromPoint) d s.to h) in
      let point : Among x (the_point b t f.behind) = subst (λ c. Among x (if c then point_node b t ∷ arcs_to b.name (point_name b.name t.to) FromPoint t.to else [])) (sym once) (inr arcs) in
      let list : Among x (list_arcs b from t f.behind) = subst (λ c. Among x (if c then shared_arcs b from t f.behind else arcs_to b.name from (exit_of t.kind) t.to)) (sym shared) (among_left x (the_point b t f.behind) (join_arc b.name from t ∷ []) point) in
      in_block x (f.there x (among_left x (list_arcs b from t f.behind) (arcs_to b.name from OnFalse t.otherwise ++ result_arcs b.name from t.kind) list))

  -- a value that a statement sends on
  pub list_leads : (n : ℕ) (s : StatementParts) (d : Destination) → IsNumbered 1 b.statements n s → Among d s.to → Leads (block_picture origins version b) (statement_name b.name n) (statement_name b.name d.statement) d.port
  list_leads n s d at h =
      elim (cases_Bool (shares b.statements s)) [
        | inl y ↦ Through (point_name b.name s.to) (join s.kind) (joins n s at y) (point_shown s d y h)
        | inr y ↦ alone n s at d y h
      ]
