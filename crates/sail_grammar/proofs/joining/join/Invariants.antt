use Rattle.std.proofs.Common.{◌≡◌, take}
use Rattle.sail_grammar.specs.Joined.{joined}
use Rattle.sail_grammar.proofs.joining.join.Given as goal

abbrev pub invariant-loop-file : goal.invariant-loop-file
invariant-loop-file l = l.all ≡ joined (take l.file-index l.files)
