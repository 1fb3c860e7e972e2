-- The tables of a history: what they hold, and the entries that they list.
use Rattle.std.specs.Prelude.{◌≡◌, ◌↔◌, ◌⊎◌, ℕ, zero, suc, List, [], ◌∷◌, ◌++◌, map, length, Contains}
use Rattle.u_base.specs.Firing.{Distinct}
use Rattle.u_name.specs.Name.{Activity}
use Rattle.u_name.specs.Cell.{CellOf}
use Rattle.u_value.specs.declared.value.Value.{Value}
use Rattle.u_sets.specs.Rising.{in_order}
use Rattle.u_sets.specs.Pairs.{HasAnother}
use Rattle.u_sets.specs.Columns.{named, AreBelow}
use Rattle.u_rule.specs.Parts.{token, most_ports}
use Rattle.u_rule.specs.EntryOrder.{entry_cmp, write_of, written}
use Rattle.u_rule.specs.declared.parts.Written.{Written}
use Rattle.u_rule.specs.declared.entry.Entry.{Entry}
use Rattle.u_rule.specs.declared.entry.Entry.TheVariants as entries
use Rattle.u_history.specs.declared.tables.Tables.{Tables}

-- the tables of the ports, the first being that of port 1
abbrev pub PortTables : Type 0
PortTables = List (List (Activity × Value))

-- what tables hold: the tokens by port, the writes by cell, and the rest
pub record Contents : Type 0 where
  pub tokens : PortTables
  pub writes : List (CellOf × Written)
  pub rest : List Entry

-- the tables that columns give, in which a number is that of an activity
abbrev pub tables_by : List Activity → List (List (ℕ × Value)) → PortTables
tables_by names columns = map (λ (c : List (ℕ × Value)). named names c) columns

abbrev pub contents_of : Tables → Contents
contents_of t = record { tokens = tables_by t.names t.columns; writes = t.writes; rest = t.rest }

abbrev pub place_at : PortTables → ℕ → List (Activity × Value)
place_at [] n = []
place_at (t ∷ ts) zero = []
place_at (t ∷ ts) (suc zero) = t
place_at (t ∷ ts) (suc (suc n)) = place_at ts (suc n)

-- the activities with their values at that port
abbrev pub table_at : Contents → ℕ → List (Activity × Value)
table_at t n = place_at t.tokens n

-- the tables hold the entry
abbrev pub InTables : Contents → Entry → Type 0
InTables t (entries.Token k) = Contains (table_at t k.port) (k.activity, k.value)
InTables t (entries.Write w) = Contains t.writes (w.cell, written w.writer w.value)
InTables t (entries.Fault x) = Contains t.rest (entries.Fault x)
InTables t (entries.Answer v) = Contains t.rest (entries.Answer v)

abbrev pub token_entry : ℕ → Activity × Value → Entry
token_entry n p = entries.Token (token p.0 n p.1)

abbrev pub write_entry : CellOf × Written → Entry
write_entry p = entries.Write (write_of p.0 p.1.writer p.1.value)

-- the tokens of such tables, where the first is that of port n
abbrev pub listed_tokens : ℕ → PortTables → List Entry
listed_tokens n [] = []
listed_tokens n (t ∷ ts) = map (token_entry n) t ++ listed_tokens (suc n) ts

-- the entries of such tables, table by table
abbrev pub listed_entries : PortTables → List (CellOf × Written) → List Entry → List Entry
listed_entries ts ws rest = listed_tokens 1 ts ++ (map write_entry ws ++ rest)

-- all entries, in order
abbrev pub all_entries : Contents → List Entry
all_entries t = in_order entry_cmp (listed_entries t.tokens t.writes t.rest)

-- the entry is a fault or an answer
abbrev pub IsOther : Entry → Type 0
IsOther (entries.Token k) = ⊥
IsOther (entries.Write w) = ⊥
IsOther (entries.Fault x) = Unit {0}
IsOther (entries.Answer v) = Unit {0}

-- tokens and writes stand in their own tables
abbrev pub OthersAreOther : Contents → Type 0
OthersAreOther t = (e : Entry) → Contains t.rest e → IsOther e

-- there is a column for each port, no activity has two numbers, each number in a column is that of an
-- activity, and tokens and writes stand in their own tables
pub record AreTables (t : Tables) : Type 0 where
  pub ports : length t.columns ≡ most_ports
  pub distinct : Distinct t.names
  pub below : (c : List (ℕ × Value)) → Contains t.columns c → AreBelow (length t.names) c
  pub others : OthersAreOther (contents_of t)

-- and n is how many entries there are
pub record AreCounted (t : Tables) (n : ℕ) : Type 0 where
  pub tables : AreTables t
  pub count : n ≡ length (all_entries (contents_of t))

-- u has what t has, and e
abbrev pub HasMore : Contents → Entry → Contents → Type 0
HasMore t e u = (x : Entry) → InTables u x ↔ (InTables t x ⊎ (e ≡ x))

-- the same of what such tables hold
abbrev pub Holds : Tables → Entry → Type 0
Holds t e = InTables (contents_of t) e

abbrev pub HoldsMore : Tables → Entry → Tables → Type 0
HoldsMore t e u = HasMore (contents_of t) e (contents_of u)

-- u holds what t holds; it may have more names, which have no tokens
abbrev pub HoldsTheSame : Tables → Tables → Type 0
HoldsTheSame t u = contents_of u ≡ contents_of t

-- H has the entry, which tells in an outcome: a token or a write has another at its place
abbrev pub Matters : (Entry → Type 0) → Entry → Type 0
Matters H (entries.Token k) = H (entries.Token k) × HasAnother (λ (v : Value). H (entries.Token (token k.activity k.port v))) k.value
Matters H (entries.Write w) =
    H (entries.Write w) × HasAnother (λ (x : Written). H (entries.Write (write_of w.cell x.writer x.value))) (written w.writer w.value)
Matters H (entries.Fault x) = H (entries.Fault x)
Matters H (entries.Answer v) = H (entries.Answer v)

-- u has the pairs of t that are not alone under their activity, each once
pub record IsSharing (t u : List (Activity × Value)) : Type 0 where
  pub shared : (a : Activity) (v : Value) → Contains u (a, v) ↔ (Contains t (a, v) × HasAnother (λ y. Contains t (a, y)) v)
  pub distinct : Distinct u

-- each of the one tables has the pairs of the other at its place that are not alone
abbrev pub AreSharing : PortTables → PortTables → Type 0
AreSharing [] [] = Unit {0}
AreSharing (t ∷ ts) (u ∷ us) = IsSharing t u × AreSharing ts us
AreSharing ts us = ⊥

-- each table has each pair once
abbrev pub AreDistinct : PortTables → Type 0
AreDistinct [] = Unit {0}
AreDistinct (t ∷ ts) = Distinct t × AreDistinct ts
