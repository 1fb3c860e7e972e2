-- Contexts in a table: each has a number, and a key that has its outer context's number.
use Rattle.std.specs.Prelude.{◌≡◌, ◌<◌, ◌^◌, ℕ, Bool, true, false, List, ◌∷◌, map, length, Contains, refl}
use Rattle.std.proofs.Common.{get_or}
use Rattle.std.specs.Coded.{Coded, code_by, coded×, coded_ℕ, coded_bool, coded_list}
use Rattle.u_base.specs.Firing.{Distinct}
use Rattle.u_name.specs.Context.{Tree, Top, InLoop, InCall, tree_code}

pub record KeyParts : Type 0 where
  pub is_call : Bool
  pub outer : ℕ
  pub block : List ℕ
  pub number : ℕ
  pub initiation : ℕ

abbrev pub context_key : Bool → ℕ → List ℕ → ℕ → ℕ → KeyParts
context_key is_call outer block number initiation = record { is_call = is_call; outer = outer; block = block; number = number; initiation = initiation }

abbrev pub key_code : Coded KeyParts
key_code =
    code_by (Bool × (ℕ × (List ℕ × (ℕ × ℕ))))
    (coded× coded_bool (coded× coded_ℕ (coded× (coded_list coded_ℕ) (coded× coded_ℕ coded_ℕ))))
    (λ k. (k.is_call, (k.outer, (k.block, (k.number, k.initiation)))))
    (λ t. context_key t.0 t.1.0 t.1.1.0 t.1.1.1.0 t.1.1.1.1)
    (λ _. refl)

-- the key with that number of the outer context
abbrev pub key_within : ℕ → KeyParts → KeyParts
key_within outer k = context_key k.is_call outer k.block k.number k.initiation

abbrev pub tree_by_kind : Bool → Tree → List ℕ → ℕ → ℕ → Tree
tree_by_kind true outer block number initiation = InCall outer block number initiation
tree_by_kind false outer block number initiation = InLoop outer block number initiation

-- the context that has the key's kind and parts, in that outer context
abbrev pub tree_around : Tree → KeyParts → Tree
tree_around outer k = tree_by_kind k.is_call outer k.block k.number k.initiation

-- the context of a key, whose outer one is that at its number
abbrev pub tree_at : List Tree → KeyParts → Tree
tree_at ts k = tree_around (get_or ts k.outer Top) k

abbrev pub trees_at : List Tree → List KeyParts → List Tree
trees_at ts ks = map (λ (k : KeyParts). tree_at ts k) ks

-- the root stands before the contexts of the keys, no context has two numbers, and the number of each key's outer one
-- is that of a context
pub record AreContexts (root : Tree) (ts : List Tree) (ks : List KeyParts) : Type 0 where
  pub first : root ≡ Top
  pub distinct : Distinct (root ∷ ts)
  pub keyed : trees_at (root ∷ ts) ks ≡ ts
  pub outer : (k : KeyParts) → Contains ks k → k.outer < length (root ∷ ts)
  pub few : length ts < 2 ^ 32

abbrev pub trees_code : Coded (List Tree)
trees_code = coded_list tree_code
