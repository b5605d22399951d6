use Rattle.farkas.proofs.Opened.{open_shows}
use Rattle.farkas.proofs.laws.an_open_point_makes_the_rows_true.Goals as goal

pub returns : goal.returns
returns c = open_shows
