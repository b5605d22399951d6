use Rattle.std.proofs.Common.{◌∙◌, sym}
use Rattle.lowered_pieces.specs.Places.{Naming}
use Rattle.lowered_typed.proofs.Said.{ends_same}
use Rattle.lowered_typed.proofs.ends.ends_of.Goals as goal

first : Naming
first p t = 0

pub returns : goal.returns
returns c = c.in_ok-ends.ensures first ∙ sym (ends_same c.args.judge.now first c.args.node.now)
