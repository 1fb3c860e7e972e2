-- Statements and links of a graph that stand well do so with one more.
use Rattle.std.proofs.Common.{◌≡◌, ℕ, zero, suc, ◌+◌, ◌⊎◌, inl, inr, sym, ap, ◌∙◌, subst, arith, false, List, [], ◌∷◌, ◌++◌, length, Some}
use Rattle.std.proofs.lemmas.Bool.{false≢true}
use Rattle.u_program.specs.declared.program.Parameter.{Parameter}
use Rattle.u_program.specs.declared.program.Parameter.TheVariants as parameters
use Rattle.u_check.specs.Kinds.{is_last, is_leave}
use Rattle.u_compile.specs.declared.graph.Link.{Link}
use Rattle.u_compile.specs.declared.graph.Output.{Output}
use Rattle.u_compile.specs.Drafts.{DraftParts}
use Rattle.u_compile.specs.Graphs.{GraphParts, link, draft_at}
use Rattle.u_compile.specs.Fanning.{moved, FansOut, none, one_more}
use Rattle.u_compile.specs.Scoped.{IsOf}
use Rattle.u_compile.specs.Orderly.{IsNamed, EntersLoop, IsParamAt, FollowsParams, ComesInOrder, StandsWell, LeavesWell, IsOrderly}
use Rattle.u_compile.proofs.Numbers.{at_within, at_more, at_cases, at_last}
use Rattle.u_compile.proofs.Fans.{pass_of}
use Rattle.u_compile.proofs.GuardLaws.{one_draft}
use Rattle.u_compile.proofs.ScopedFans.{of_either, of_moved}

-- what stands well stands so with one statement more behind it
module _ (ds : List DraftParts) (y : DraftParts) where
  named_more : (n : ℕ) → IsNamed ds n → IsNamed (ds ++ (y ∷ [])) n
  named_more n (m, d, at, k) = (m, d, at_more ds y m d at, k)

  enters_more : (n l : ℕ) → EntersLoop ds n l → EntersLoop (ds ++ (y ∷ [])) n l
  enters_more n l (d, at, k) = (d, at_more ds y n d at, k)

  param_more : (n : ℕ) → IsParamAt ds n → IsParamAt (ds ++ (y ∷ [])) n
  param_more n (d, at, k) = (d, at_more ds y n d at, k)

  follows_more : (k : Parameter) → FollowsParams ds k → FollowsParams (ds ++ (y ∷ [])) k
  follows_more parameters.Second f = tt
  follows_more parameters.Third f = param_more 2 f
  follows_more parameters.Fourth f = (param_more 2 f.0, param_more 3 f.1)

  in_order_more : (n region : ℕ) (k : Parameter) → ComesInOrder ds n region k → ComesInOrder (ds ++ (y ∷ [])) n region k
  in_order_more n region k c = record { number = c.number; outer = c.outer; follows = follows_more k c.follows }

  stands_more : (n : ℕ) (x : DraftParts) → StandsWell ds n x → StandsWell (ds ++ (y ∷ [])) n x
  stands_more n x s = record {
    first = s.first;
    begins = s.begins;
    ends = s.ends;
    turns = s.turns;
    next = λ k. enters_more x.shares x.region (s.next k);
    backs = λ k. named_more n (s.backs k);
    params = λ p k. in_order_more n x.region p (s.params p k);
  }

  leaves_more : (m n : ℕ) → LeavesWell ds m n → LeavesWell (ds ++ (y ∷ [])) m n
  leaves_more m n w = record {
    sender = w.sender;
    sends = at_more ds y m w.sender w.sends;
    taker = w.taker;
    takes = at_more ds y n w.taker w.takes;
    same = w.same;
  }

-- with one statement more
pub statement_orderly : (ds : List DraftParts) (ls : List Link) (x : DraftParts) → IsOrderly ds ls → StandsWell ds (length ds + 1) x → IsOrderly (ds ++ (x ∷ [])) ls
statement_orderly ds ls x o w = record {
  stands = λ n d at. elim (at_cases ds x n d at) [
    | inl old ↦ stands_more ds x n d (o.stands n d old)
    | inr new ↦ subst (λ (m : ℕ). StandsWell (ds ++ (x ∷ [])) m d) (sym new.0) (subst (StandsWell (ds ++ (x ∷ [])) (length ds + 1)) (sym new.1) (stands_more ds x (length ds + 1) x w))
  ];
  leaves = λ l i. leaves_more ds x l.from.statement l.to.statement (o.leaves l i);
}

of_last : (ls : List Link) (m l : Link) → IsOf (ls ++ (m ∷ [])) l → IsOf ls l ⊎ (m ≡ l)
of_last ls m l i = elim (of_either ls (m ∷ []) l i) [
  | inl old ↦ inl old
  | inr new ↦ elim new [ inl e ↦ inr e | inr q ↦ absurd q ]
]

-- with one link more
pub link_orderly : (ds : List DraftParts) (ls : List Link) (o : Output) (n port : ℕ) → IsOrderly ds ls → LeavesWell ds o.statement n → IsOrderly ds (ls ++ (link o n port ∷ []))
link_orderly ds ls o n port is w = record {
  stands = is.stands;
  leaves = λ l i. elim (of_last ls (link o n port) l i) [
    | inl old ↦ is.leaves l old
    | inr e ↦ subst (λ (v : Link). LeavesWell ds v.from.statement v.to.statement) e w
  ];
}

pub none_orderly : IsOrderly [] []
none_orderly = record {
  stands = λ n d at. none_at n d at;
  leaves = λ l i. absurd i;
}
  where
    none_at : (n : ℕ) (d : DraftParts) → draft_at [] n ≡ Some d → StandsWell [] n d
    none_at zero d at = cc
    none_at (suc n) d at = cc

-- with one `pass` more, behind an output of another statement than a `last`
module _ (g : GraphParts) (is : IsOrderly g.statements g.links) (o : Output) (d : DraftParts) (at : draft_at g.statements o.statement ≡ Some d) (other : is_last d.kind ≡ false) where
  abbrev p : ℕ
  p = length g.statements + 1

  abbrev new : DraftParts
  new = pass_of d g

  pass_stands : StandsWell g.statements (length g.statements + 1) (pass_of d g)
  pass_stands = record {
    first = λ e. let w = at_within g.statements o.statement d at in let one = w.0 in let two = w.1 in absurd (omega (arith, e, one, two));
    begins = λ k. cc;
    ends = λ k. cc;
    turns = λ k. absurd (false≢true k);
    next = λ k. cc;
    backs = λ k. cc;
    params = λ q k. cc;
  }

  -- a link that moved behind the `pass` leads to no `leave`
  moved_leaves : (l : Link) → IsOf g.links l → l.from ≡ o → LeavesWell (g.statements ++ (new ∷ [])) p l.to.statement
  moved_leaves l i e =
      let w = is.leaves l i in
      let same : w.sender ≡ d = one_draft g.statements o.statement w.sender d (ap (λ (v : Output). draft_at g.statements v.statement) (sym e) ∙ w.sends) at in
      let none : is_leave w.taker.kind ≡ false = sym w.same ∙ (ap (λ (v : DraftParts). is_last v.kind) same ∙ other) in
      record {
        sender = new;
        sends = at_last g.statements new;
        taker = w.taker;
        takes = at_more g.statements new l.to.statement w.taker w.takes;
        same = sym none;
      }

  to_pass : LeavesWell (g.statements ++ (new ∷ [])) o.statement p
  to_pass = record {
    sender = d;
    sends = at_more g.statements new o.statement d at;
    taker = new;
    takes = at_last g.statements new;
    same = other;
  }

  pub fan_orderly : IsOrderly (g.statements ++ (pass_of d g ∷ [])) (moved o 15 (length g.statements + 1) g.links ++ (link o (length g.statements + 1) 1 ∷ []))
  fan_orderly = record {
    stands = (statement_orderly g.statements g.links new is pass_stands).stands;
    leaves = λ l i. elim (of_last (moved o 15 p g.links) (link o p 1) l i) [
      | inr e ↦ subst (λ (v : Link). LeavesWell (g.statements ++ (new ∷ [])) v.from.statement v.to.statement) e to_pass
      | inl old ↦ elim (of_moved o 15 p g.links l old) [
        | inl j ↦ leaves_more g.statements new l.from.statement l.to.statement (is.leaves l j)
        | inr w ↦ subst (λ (v : Link). LeavesWell (g.statements ++ (new ∷ [])) v.from.statement v.to.statement) w.3 (moved_leaves w.0 w.1 w.2)
      ]
    ];
  }

-- and with more of them
pub fans_orderly : (g h : GraphParts) → FansOut g h → IsOrderly g.statements g.links → IsOrderly h.statements h.links
fans_orderly g h none is = is
fans_orderly g h (one_more i o d f at many other) is = fan_orderly i (fans_orderly g i f is) o d at other
