-- the name is looked up among the files that are left
use Rattle.std.proofs.Common.{◌≡◌, drop}
use Rattle.sail_outside.specs.Files.{lookup, files_of}
use Rattle.sail_outside.proofs.held.index_of.Given as goal

abbrev pub invariant-loop-index : goal.invariant-loop-index
invariant-loop-index l = lookup (drop l.index (files_of l.files)) l.name ≡ lookup (files_of l.files) l.name
