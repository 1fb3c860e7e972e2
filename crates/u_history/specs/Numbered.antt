-- What contracts see of a history whose activities have numbers.
use Rattle.std.specs.Prelude.{List, refl}
use Rattle.std.specs.Coded.{Coded, code_by, coded×, coded_list}
use Rattle.u_name.specs.Name.{Activity, activity_code}
use Rattle.u_rule.specs.declared.entry.Entry.{Entry}
use Rattle.u_history.specs.Stored.{entries_code}

-- the entries, in order, and the activities that have numbers: the number of one is its place
pub record NumberedEntries : Type 0 where
  pub names : List Activity
  pub entries : List Entry

abbrev pub numbered : List Activity → List Entry → NumberedEntries
numbered names entries = record { names = names; entries = entries }

abbrev pub numbered_code : Coded NumberedEntries
numbered_code =
    code_by (List Activity × List Entry) (coded× (coded_list activity_code) entries_code) (λ h. (h.names, h.entries)) (λ p. numbered p.0 p.1) (λ _. refl)
