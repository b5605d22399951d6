-- What a later way owes of a first one counts variables on.
use Rattle.std.proofs.Common.{ℕ, Bool, true, false, ◌&&◌, if◌then◌else◌}
use Rattle.sail_types.specs.Zero.{deepest}
use Rattle.sail_types.specs.declared.table.Types.{Types}
use Rattle.value_indices.specs.declared.indices.Indices.{Indices}
use Rattle.value_indices.specs.declared.indices.Reading.TheVariants as R
use Rattle.value_fits.specs.Fitting.{fits, never, says}
use Rattle.fitting_laws.proofs.Counted.{Counts, fits_count}
use Rattle.fitting_laws.proofs.Counting.{le_self}
use Rattle.wide_types.specs.Widening.{agrees_within, value_spelled}
use Rattle.expression_forms.specs.Inside.{is_value_below, is_value_told, is_value_whole}
use Rattle.expression_forms.specs.Meeting.{as_first}
use Rattle.soundness_forms.proofs.JoinGrowth.{AgreementCounts}

whole_counts : (types : Types) (first i : Indices) (b : Bool) → Counts (λ n. if b then fits types i (R.Widened first) n else never n)
whole_counts types first i true n = fits_count types deepest i (R.Widened first) n
whole_counts types first i false n = le_self n

first_counts : (types : Types) (m : ℕ) (first i : Indices) → Counts (as_first types m first i)
first_counts types m first i = whole_counts types first i (is_value_whole first && is_value_below m first)

numbers_count : (types : Types) (m : ℕ) (first i : Indices) (b : Bool)
    → Counts (λ n. if b then says (agrees_within deepest m (value_spelled first) (value_spelled i)) n else as_first types m first i n)
numbers_count types m first i true n = le_self n
numbers_count types m first i false n = first_counts types m first i n

pub agreement_counts : AgreementCounts
agreement_counts types m true first i n = le_self n
agreement_counts types m false first i n = numbers_count types m first i (is_value_told (value_spelled first) && is_value_told (value_spelled i)) n
