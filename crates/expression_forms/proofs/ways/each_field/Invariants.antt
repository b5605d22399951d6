use Rattle.std.proofs.Common.{◌≡◌, ◌++◌, drop, Some}
use Rattle.expression_forms.specs.Ways.{fields_at}
use Rattle.expression_forms.proofs.ways.each_field.Given as goal

abbrev pub invariant-loop-place : goal.invariant-loop-place
invariant-loop-place l = l.types ++ fields_at (drop l.place-index l.places) (Some l.fields) ≡ fields_at l.places (Some l.fields)
