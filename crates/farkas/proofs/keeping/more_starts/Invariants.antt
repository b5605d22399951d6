use Rattle.std.proofs.Common.{◌≡◌, drop}
use Rattle.std.specs.List.{fold}
use Rattle.farkas.specs.Keeping.{started}
use Rattle.farkas.specs.declared.keeping.Starts.TheVariants.{Kept}
use Rattle.farkas.proofs.keeping.more_starts.Given as goal

abbrev pub invariant-loop-row : goal.invariant-loop-row
invariant-loop-row l = fold started (Kept l.kept) (drop l.row-index l.rows) ≡ fold started (Kept l.fn.first) l.rows
