use Rattle.std.proofs.Common.{◌≡◌, drop}
use Rattle.sail_lex.specs.Entries.{entries}
use Rattle.sail_lex.specs.Lookup.{kind_in}
use Rattle.sail_lex.proofs.tables.find.Given as goal

-- what is left of the table answers for the whole of it
abbrev pub invariant-loop-spelling : goal.invariant-loop-spelling
invariant-loop-spelling l = kind_in (entries (drop l.spelling-index l.table)) l.word ≡ kind_in (entries l.table) l.word
