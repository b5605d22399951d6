use Rattle.opening_meanings.proofs.Worlds.{openings_described}
use Rattle.opening_meanings.proofs.laws.opening_worlds_are_described.Goals as goal

pub returns : goal.returns
returns c = openings_described
