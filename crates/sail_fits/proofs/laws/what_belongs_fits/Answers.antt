use Rattle.sail_types.specs.Belongs.{reading}
use Rattle.sail_types.specs.Shapes.{at, shape}
use Rattle.sail_fits.proofs.Belonging.{belonging_fits}
use Rattle.sail_fits.proofs.Filling.{filled_fits}
use Rattle.sail_fits.proofs.laws.what_belongs_fits.Goals as goal
use Rattle.sail_fits.specs.laws.ReadShapes.{read_shapes}

pub returns-clause-filled : goal.returns-clause-filled
returns-clause-filled c = belonging_fits

pub returns-clause-plain : goal.returns-clause-plain
returns-clause-plain c = λ types v t nu rs h. filled_fits types v (at (read_shapes rs)) (shape t) (belonging_fits types v (reading t nu rs) h)
