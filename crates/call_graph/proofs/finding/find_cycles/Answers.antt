use Rattle.std.proofs.Common.{◌≡◌, ℕ, ◌+◌, ◌<◌, true, List, length, sym, subst, arith}
use Rattle.std.specs.Prelude.{◌↔◌}
use Rattle.std.proofs.lemmas.List.{get_or_read}
use Rattle.call_graph.specs.Components.{StaysInComponent}
use Rattle.call_graph.proofs.Components.{ShowsBelow, Shows, shows_more, shows_all, below_shown, components_shown, order_shown, cycles_shown, same_cycle_shown}
use Rattle.call_graph.proofs.finding.find_cycles.Goals as goal

pub loop-node-preserved : goal.loop-node-preserved
loop-node-preserved c =
    let numbers : List ℕ = c.in_ok-components.components.items in
    let within : c.loop-node.node < length numbers =
    omega (arith, c.in_ok-components.ensures.every, c.node_count-node-end.ensures, c.loop-node-test.true) in
    subst (λ members. ShowsBelow c.args.graph.now numbers members (c.loop-node.node + 1)) (sym c.in_ok-push.ensures.pushed)
    (shows_more c.args.graph.now numbers c.loop-node.members c.loop-node.node c.index.result.now c.stays_in_component.result c.loop-node.invariant
    (get_or_read numbers c.loop-node.node c.index.result.now within c.index.ensures 0)
    (subst (λ (xs : List ℕ). (c.stays_in_component.result ≡ true) ↔ StaysInComponent c.args.graph.now xs c.loop-node.node) c.deref.ensures.value
    c.stays_in_component.ensures))

pub returns-clause-below : goal.returns-clause-below
returns-clause-below c =
    let shown : Shows c.args.graph.now c.in_ok-components.components.items (record { members = c.loop-node.members }) =
    shows_all c.loop-node.members c.loop-node.node c.loop-node.invariant (omega (arith, c.node_count-node-end.ensures, c.loop-node-test.false)) in
    below_shown c.in_ok-components.ensures shown

pub returns-clause-components : goal.returns-clause-components
returns-clause-components c =
    let shown : Shows c.args.graph.now c.in_ok-components.components.items (record { members = c.loop-node.members }) =
    shows_all c.loop-node.members c.loop-node.node c.loop-node.invariant (omega (arith, c.node_count-node-end.ensures, c.loop-node-test.false)) in
    components_shown c.in_ok-components.ensures shown

pub returns-clause-order : goal.returns-clause-order
returns-clause-order c =
    let shown : Shows c.args.graph.now c.in_ok-components.components.items (record { members = c.loop-node.members }) =
    shows_all c.loop-node.members c.loop-node.node c.loop-node.invariant (omega (arith, c.node_count-node-end.ensures, c.loop-node-test.false)) in
    order_shown c.in_ok-components.ensures shown

pub returns-clause-cycles : goal.returns-clause-cycles
returns-clause-cycles c =
    let shown : Shows c.args.graph.now c.in_ok-components.components.items (record { members = c.loop-node.members }) =
    shows_all c.loop-node.members c.loop-node.node c.loop-node.invariant (omega (arith, c.node_count-node-end.ensures, c.loop-node-test.false)) in
    cycles_shown c.in_ok-components.ensures shown

pub returns-clause-same_cycle : goal.returns-clause-same_cycle
returns-clause-same_cycle c =
    let shown : Shows c.args.graph.now c.in_ok-components.components.items (record { members = c.loop-node.members }) =
    shows_all c.loop-node.members c.loop-node.node c.loop-node.invariant (omega (arith, c.node_count-node-end.ensures, c.loop-node-test.false)) in
    same_cycle_shown c.in_ok-components.ensures shown
