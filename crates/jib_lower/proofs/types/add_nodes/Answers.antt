use Rattle.std.proofs.Common.{refl, take}
use Rattle.lowered_pieces.specs.Emitted.{Begins}
use Rattle.lowered_tables.proofs.Growing.{begins_here, begins_then}
use Rattle.jib_lower.specs.Types.{all_in_nodes, types_in_nodes}
use Rattle.jib_lower.proofs.Gathered.{node_in, node_types, nodes_first, nodes_said, numbered_next, numbered_stuck, numbered_whole, said_next, said_whole}
use Rattle.jib_lower.proofs.Kept.{nodes_stay}
use Rattle.jib_lower.proofs.Unmade.{exit_more}
use Rattle.jib_lower.proofs.types.add_nodes.Goals as goal

pub loop-sizes-init : goal.loop-sizes-init
loop-sizes-init c = record { begins = begins_here c.args.table.now.numbered; known = refl; listed = refl }

pub loop-sizes-preserved : goal.loop-sizes-preserved
loop-sizes-preserved c =
    let l = c.loop-sizes in
    let us = c.add_node.new.table.numbered in
    let more : Begins l.table.numbered us = c.in_ok-add_node.ensures.grown in
    record {
      begins = begins_then c.args.table.now.numbered l.table.numbered us l.invariant.begins more;
      known = said_next (node_in us) (all_in_nodes us) refl (nodes_said us) c.args.nodes.now l.sizes-index c.sizes-item.result
          (nodes_stay l.table.numbered us more (take l.sizes-index c.args.nodes.now) l.invariant.known) (c.in_ok-add_node.ensures.known)
          c.loop-sizes-test.true c.sizes-item.is;
      listed = numbered_next node_types types_in_nodes refl nodes_first c.args.types.now c.args.table.now.numbered c.args.nodes.now l.sizes-index
          c.sizes-item.result l.table.numbered us l.invariant.listed
          (c.in_ok-add_node.ensures.listed) c.loop-sizes-test.true c.sizes-item.is;
    }

pub returns-clause-known : goal.returns-clause-known
returns-clause-known c =
    let l = c.loop-sizes in said_whole (all_in_nodes l.table.numbered) c.args.nodes.now l.sizes-index c.loop-sizes-test.false l.invariant.known

pub returns-clause-listed : goal.returns-clause-listed
returns-clause-listed c =
    let l = c.loop-sizes in
    numbered_whole types_in_nodes c.args.types.now c.args.table.now.numbered c.args.nodes.now l.sizes-index l.table.numbered c.loop-sizes-test.false
    l.invariant.listed

pub returns-in_err-add_node-clause-left : goal.returns-in_err-add_node-clause-left
returns-in_err-add_node-clause-left c =
    let l = c.loop-sizes in
    exit_more _ _ c.from_residual.ensures.1
    (λ none. numbered_stuck node_types types_in_nodes refl nodes_first c.args.types.now c.args.table.now.numbered c.args.nodes.now l.sizes-index
    c.sizes-item.result l.table.numbered c.loop-sizes-test.true c.sizes-item.is l.invariant.listed
    (none)) c.in_err-add_node.ensures.left
