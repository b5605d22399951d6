use Rattle.std.proofs.Common.{drop}
use Rattle.shape_models.specs.Sources.{tabled_by}
use Rattle.shapes.specs.Failures.{own_in}
use Rattle.shapes.specs.Parts.{AreRead}
use Rattle.shapes.proofs.lets.read_lets.Given as goal

abbrev pub invariant-loop-definition : goal.invariant-loop-definition
invariant-loop-definition l =
    AreRead (tabled_by l.top.source) (own_in (tabled_by l.top.source) l.definitions) l.definitions (drop l.definition-index l.definitions) l.count
    l.openings l.initial.first.error l.first.error l.meanings
