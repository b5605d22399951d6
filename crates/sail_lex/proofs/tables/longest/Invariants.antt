use Rattle.std.proofs.Common.{◌≡◌, true, drop}
use Rattle.std.specs.Option.{option_map}
use Rattle.sail_lex.specs.Entries.{entry, entries, none_empty}
use Rattle.sail_lex.specs.Lookup.{longest_in, longer_of}
use Rattle.sail_lex.proofs.tables.longest.Given as goal

-- the best so far, or a longer one in what is left of the table, answers for the whole of it
abbrev pub invariant-loop-spelling : goal.invariant-loop-spelling
invariant-loop-spelling l = record {
  some : none_empty (entries (drop l.spelling-index l.table)) ≡ true;
  same : longer_of (option_map entry l.best) (longest_in (entries (drop l.spelling-index l.table)) l.text) ≡ longest_in (entries l.table) l.text;
}
