use Rattle.call_graph.specs.Search.{Sound, NoneIsNew, steps_left}
use Rattle.call_graph.proofs.search.Search.finish.Given as goal

abbrev pub invariant-loop-place : goal.invariant-loop-place
invariant-loop-place l = Sound l.graph l.self × NoneIsNew l.fn.self.marks.items l.self.marks.items

abbrev pub decreases-loop-place : goal.decreases-loop-place
decreases-loop-place l = steps_left l.graph l.self
