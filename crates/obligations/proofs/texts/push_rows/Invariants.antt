use Rattle.std.proofs.Common.{◌≡◌, suc, ◌++◌, drop}
use Rattle.obligations.specs.Texts.{rows_text}
use Rattle.obligations.proofs.texts.push_rows.Given as goal

abbrev pub invariant-loop-place : goal.invariant-loop-place
invariant-loop-place l = l.out.items ++ rows_text l.names (suc l.place) (drop l.place l.rows) ≡ l.fn.out.items ++ rows_text l.names 1 l.rows
