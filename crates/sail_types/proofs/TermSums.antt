-- Sums of terms.
use Rattle.std.proofs.Common.{◌≡◌, ℕ, ◌<◌, List, length, get_or, ap, sym, ◌∙◌}
use Rattle.std.proofs.lemmas.Option.{slice_get-get_or}
use Rattle.sail_types.specs.Sums.{coefficient_at, coefficient_of, coefficient_or}
use Rattle.sail_types.specs.declared.numbers.Term.{Term}

pub at_item : (ts : List Term) (i : ℕ) (t : Term) → t ≡ get_or ts i t → i < length ts → coefficient_at ts i ≡ coefficient_of t
at_item ts i t e h = ap coefficient_or (slice_get-get_or ts i t h) ∙ ap coefficient_of (sym e)
