use Rattle.fact_index.proofs.Picks.{HasRead}
use Rattle.fact_index.proofs.picking.push_picked.Given as goal

abbrev pub invariant-loop-position : goal.invariant-loop-position
invariant-loop-position l = HasRead l.facts l.first l.positions l.fn.made l.position-index l.next l.made
