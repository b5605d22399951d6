use Rattle.std.proofs.Common.{◌≡◌, drop}
use Rattle.sail_grammar.specs.Leaves.{nowhere}
use Rattle.sail_grammar.specs.Joined.{end_from}
use Rattle.sail_compile.proofs.models.last_end.Given as goal

-- the files that are left decide
abbrev pub invariant-loop-file : goal.invariant-loop-file
invariant-loop-file l = end_from l.end (drop l.file-index l.files) ≡ end_from nowhere l.files
