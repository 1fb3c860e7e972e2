-- Names of activities, and the linkage calls.
use Rattle.std.specs.Prelude.{ℕ, List, refl}
use Rattle.std.specs.Coded.{Coded, code_by, coded×, coded_ℕ, coded_list}
use Rattle.u_name.specs.Block.{IsBlock}
use Rattle.u_name.specs.Context.{Tree, Top, InLoop, InCall, IsContext, IsBetween, tree_code}

-- The name of an activity.
pub record Activity : Type 0 where
  pub context : Tree
  pub block : List ℕ
  pub statement : ℕ
  pub initiation : ℕ

pub record IsName (n : Activity) : Type 0 where
  pub context : IsContext n.context
  pub block : IsBlock n.block
  pub statement : IsBetween 1 n.statement 999
  pub initiation : IsBetween 1 n.initiation 18446744073709551615

-- the context of a loop that this activity enters, and of a call that it makes
abbrev pub loop_context : Activity → ℕ → Tree
loop_context n number = InLoop n.context n.block number n.initiation

abbrev pub call_context : Activity → Tree
call_context n = InCall n.context n.block n.statement n.initiation

abbrev pub activity : Tree → List ℕ → ℕ → ℕ → Activity
activity context block statement initiation = record { context = context; block = block; statement = statement; initiation = initiation }

abbrev pub IsInLoop : Tree → Type 0
IsInLoop Top = ⊥
IsInLoop (InLoop outer block number initiation) = Unit {0}
IsInLoop (InCall outer block statement initiation) = ⊥

abbrev pub IsInCall : Tree → Type 0
IsInCall Top = ⊥
IsInCall (InLoop outer block number initiation) = ⊥
IsInCall (InCall outer block statement initiation) = Unit {0}

-- v.d.t.j where the context is Loop(v, d, l, j); elsewhere it says nothing.
abbrev pub left : Activity → ℕ → Activity
left n t = elim n.context [ Top ↦ n | InLoop v d l j ↦ activity v d t j | InCall v d s j ↦ n ]

-- v.d.t.j where the context is Call(v, d, s, j); elsewhere it says nothing.
abbrev pub returned : Activity → ℕ → Activity
returned n t = elim n.context [ Top ↦ n | InLoop v d l j ↦ n | InCall v d s j ↦ activity v d t j ]

abbrev pub activity_code : Coded Activity
activity_code =
    code_by (Tree × (List ℕ × (ℕ × ℕ)))
    (coded× tree_code (coded× (coded_list coded_ℕ) (coded× coded_ℕ coded_ℕ)))
    (λ n. (n.context, (n.block, (n.statement, n.initiation))))
    (λ p. activity p.0 p.1.0 p.1.1.0 p.1.1.1)
    (λ _. refl)
