use Rattle.std.proofs.Common.{◌≡◌, refl, take, sym, ap, ◌∙◌, subst, true}
use Rattle.lowered_tables.specs.Built.{with_numbers}
use Rattle.lowered_pieces.specs.Emitted.{Begins}
use Rattle.lowered_tables.proofs.Growing.{begins_here, begins_then}
use Rattle.jib_lower.specs.Types.{all_in_bodies, all_in_nodes, types_in_bodies, types_in_nodes}
use Rattle.jib_lower.proofs.Gathered.{bodies_first, bodies_said, numbered_next, numbered_stuck, numbered_whole, said_next, said_whole}
use Rattle.jib_lower.proofs.Kept.{bodies_stay}
use Rattle.jib_lower.proofs.Unmade.{exit_more}
use Rattle.jib_lower.proofs.types.add_bodies.Goals as goal

pub loop-nodes-init : goal.loop-nodes-init
loop-nodes-init c = record { begins = begins_here c.args.table.now.numbered; known = refl; listed = refl }

pub loop-nodes-preserved : goal.loop-nodes-preserved
loop-nodes-preserved c =
    let l = c.loop-nodes in
    let us = c.add_nodes.new.table.numbered in
    let more : Begins l.table.numbered us = c.in_ok-add_nodes.ensures.grown in
    record {
      begins = begins_then c.args.table.now.numbered l.table.numbered us l.invariant.begins more;
      known = said_next (all_in_nodes us) (all_in_bodies us) refl (bodies_said us) c.args.bodies.now l.nodes-index c.nodes-item.result
          (bodies_stay l.table.numbered us more (take l.nodes-index c.args.bodies.now) l.invariant.known)
          (subst (λ xs. all_in_nodes us xs ≡ true) c.as_slice.ensures c.in_ok-add_nodes.ensures.known) c.loop-nodes-test.true c.nodes-item.is;
      listed = numbered_next types_in_nodes types_in_bodies refl bodies_first c.args.types.now c.args.table.now.numbered c.args.bodies.now l.nodes-index
          c.nodes-item.result l.table.numbered us l.invariant.listed
          (ap (λ xs. with_numbers c.args.types.now l.table.numbered (types_in_nodes xs)) (sym c.as_slice.ensures) ∙ c.in_ok-add_nodes.ensures.listed)
          c.loop-nodes-test.true c.nodes-item.is;
    }

pub returns-clause-known : goal.returns-clause-known
returns-clause-known c =
    let l = c.loop-nodes in said_whole (all_in_bodies l.table.numbered) c.args.bodies.now l.nodes-index c.loop-nodes-test.false l.invariant.known

pub returns-clause-listed : goal.returns-clause-listed
returns-clause-listed c =
    let l = c.loop-nodes in
    numbered_whole types_in_bodies c.args.types.now c.args.table.now.numbered c.args.bodies.now l.nodes-index l.table.numbered c.loop-nodes-test.false
    l.invariant.listed

pub returns-in_err-add_nodes-clause-left : goal.returns-in_err-add_nodes-clause-left
returns-in_err-add_nodes-clause-left c =
    let l = c.loop-nodes in
    exit_more _ _ c.from_residual.ensures.1
    (λ none. numbered_stuck types_in_nodes types_in_bodies refl bodies_first c.args.types.now c.args.table.now.numbered c.args.bodies.now l.nodes-index
    c.nodes-item.result l.table.numbered c.loop-nodes-test.true c.nodes-item.is l.invariant.listed
    (ap (λ xs. with_numbers c.args.types.now l.table.numbered (types_in_nodes xs)) (sym c.as_slice.ensures) ∙ none)) c.in_err-add_nodes.ensures.left
