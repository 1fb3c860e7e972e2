-- How lists of entries are stored.
use Rattle.std.specs.Prelude.{List}
use Rattle.std.specs.Coded.{Coded, coded_list}
use Rattle.u_rule.specs.declared.entry.Entry.{Entry}
use Rattle.u_rule.specs.contracts.entry.Entry as entries

abbrev pub entries_code : Coded (List Entry)
entries_code = coded_list entries.the_row.coded
