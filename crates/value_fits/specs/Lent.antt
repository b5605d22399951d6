-- A type with what its variables stand for, as the code lends it.
use Rattle.value_indices.specs.declared.indices.Reading.{Reading}
use Rattle.value_indices.specs.declared.indices.Reading.TheVariants as R
use Rattle.value_fits.specs.declared.wanted.Wanted.{Wanted}
use Rattle.value_fits.specs.declared.wanted.Wanted.TheVariants as W

abbrev pub reading_of : Wanted → Reading
reading_of (W.Of t is rs) = R.Of t.now is.now rs.now
reading_of (W.Widened i) = R.Widened i.now
reading_of (W.Parts rs) = R.Parts rs.now
reading_of W.Hole = R.Hole
