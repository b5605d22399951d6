use Rattle.std.proofs.Common.{◌≡◌, ◌≤◌, ◌+◌, ◌++◌, None, map, drop, length}
use Rattle.value_indices.specs.Walking.{got, run, seen}
use Rattle.pattern_leaves.specs.Settings.{around_of}
use Rattle.expression_forms.specs.Scopes.{newest, scope_of}
use Rattle.expression_forms.specs.Spots.{spot_of}
use Rattle.expression_steps.specs.Coded.{each_part, left_behind, ways_seen}
use Rattle.expression_steps.specs.Parts.{each_walk, numbers_walk}
use Rattle.expression_steps.specs.Statements.{block_walk, each_way}
use Rattle.expression_steps.specs.Targets.{assigned, assigned_to, each_spot, spotting}
use Rattle.expression_steps.specs.Values.{items_like, suffixes_walk}
use Rattle.expression_steps.proofs.Masses.{kind_mass, mass, masses, target_mass, target_masses, way_mass, way_masses}
use Rattle.expression_notes.specs.Chains.{written_back}
use Rattle.expression_notes.specs.Claims.{unclaimed_times}
use Rattle.expression_notes.proofs.Numbers.{more_numbers}
use Rattle.expression_notes.proofs.Spotted.{more_spots}
use Rattle.expression_notes.proofs.+walk.Given as goal

-- by how much there is to walk over; of the same what calls the others stands above them
abbrev pub decreases-expressions::walk_expression : goal.decreases-expressions::walk_expression
decreases-expressions::walk_expression l = mass l.core.now

abbrev pub decreases-parts::walk_each : goal.decreases-parts::walk_each
decreases-parts::walk_each l = masses l.parts.now + 10

abbrev pub decreases-parts::walk_truth : goal.decreases-parts::walk_truth
decreases-parts::walk_truth l = mass l.core.now + 2

abbrev pub decreases-truths::walk_guarded : goal.decreases-truths::walk_guarded
decreases-truths::walk_guarded l = masses l.parts.now + 20

abbrev pub decreases-values::walk_like : goal.decreases-values::walk_like
decreases-values::walk_like l = masses l.items.now + 5

abbrev pub decreases-values::walk_first : goal.decreases-values::walk_first
decreases-values::walk_first l = masses l.items.now + 10

abbrev pub invariant-parts::walk_each-loop-index : goal.invariant-parts::walk_each-loop-index
invariant-parts::walk_each-loop-index l =
    let rest = each_walk (each_part (drop l.index l.parts)) (around_of l.around) (scope_of l.scope) (drop l.index l.aims) in
    let all = each_walk (each_part l.parts) (around_of l.around) (scope_of l.scope) l.aims in
    record {
      value : l.made ++ got rest (seen l.walking) ≡ got all (seen l.fn.walking);
      walked : run rest (seen l.walking) ≡ run all (seen l.fn.walking);
    }

abbrev pub invariant-values::walk_like-loop-item : goal.invariant-values::walk_like-loop-item
invariant-values::walk_like-loop-item l =
    let rest = items_like (each_part (drop l.item-index l.items)) (around_of l.around) (scope_of l.scope) l.reading in
    let all = items_like (each_part l.items) (around_of l.around) (scope_of l.scope) l.reading in
    record {
      value : l.made ++ got rest (seen l.walking) ≡ l.initial.made ++ got all (seen l.fn.walking);
      walked : run rest (seen l.walking) ≡ run all (seen l.fn.walking);
    }

abbrev pub decreases-expressions::walk_inward : goal.decreases-expressions::walk_inward
decreases-expressions::walk_inward l = masses l.parts.now + 58

abbrev pub decreases-expressions::walk_plain : goal.decreases-expressions::walk_plain
decreases-expressions::walk_plain l = kind_mass l.kind.now + masses l.parts.now + 60

abbrev pub decreases-expressions::walk_parted : goal.decreases-expressions::walk_parted
decreases-expressions::walk_parted l = kind_mass l.kind.now + masses l.parts.now + 58

abbrev pub decreases-parts::walk_numbers : goal.decreases-parts::walk_numbers
decreases-parts::walk_numbers l = masses l.parts.now + 10

abbrev pub decreases-truths::walk_joined : goal.decreases-truths::walk_joined
decreases-truths::walk_joined l = masses l.parts.now + 20

abbrev pub decreases-values::walk_row : goal.decreases-values::walk_row
decreases-values::walk_row l = masses l.items.now + 20

abbrev pub invariant-parts::walk_numbers-loop-core : goal.invariant-parts::walk_numbers-loop-core
invariant-parts::walk_numbers-loop-core l =
    let rest = numbers_walk (each_part (drop l.core-index l.parts)) (around_of l.around) (scope_of l.scope) in
    let all = numbers_walk (each_part l.parts) (around_of l.around) (scope_of l.scope) in
    record {
      value : more_numbers l.made (got rest (seen l.walking)) ≡ got all (seen l.fn.walking);
      walked : run rest (seen l.walking) ≡ run all (seen l.fn.walking);
    }

abbrev pub decreases-made::walk_made : goal.decreases-made::walk_made
decreases-made::walk_made l = masses l.parts.now + 50

abbrev pub decreases-made::walk_with : goal.decreases-made::walk_with
decreases-made::walk_with l = masses l.parts.now + 40

abbrev pub decreases-made::walk_place : goal.decreases-made::walk_place
decreases-made::walk_place l = masses l.parts.now + 40

abbrev pub decreases-branches::walk_branch : goal.decreases-branches::walk_branch
decreases-branches::walk_branch l = way_mass l.way.now + 6

abbrev pub decreases-branches::walk_ways : goal.decreases-branches::walk_ways
decreases-branches::walk_ways l = way_masses l.ways.now + 10

abbrev pub decreases-branches::walk_either : goal.decreases-branches::walk_either
decreases-branches::walk_either l = mass l.condition.now + mass l.then.now + mass l.otherwise.now + 20

abbrev pub decreases-branches::walk_branches : goal.decreases-branches::walk_branches
decreases-branches::walk_branches l = masses l.parts.now + 40

abbrev pub decreases-branches::walk_cases : goal.decreases-branches::walk_cases
decreases-branches::walk_cases l = masses l.parts.now + 40

abbrev pub decreases-loops::walk_foreach : goal.decreases-loops::walk_foreach
decreases-loops::walk_foreach l = masses l.parts.now + 40

abbrev pub decreases-loops::walk_measure : goal.decreases-loops::walk_measure
decreases-loops::walk_measure l = mass l.core.now + 4

abbrev pub decreases-loops::walk_turn : goal.decreases-loops::walk_turn
decreases-loops::walk_turn l = mass l.core.now + 4

abbrev pub decreases-loops::walk_loop : goal.decreases-loops::walk_loop
decreases-loops::walk_loop l = masses l.parts.now + 40

abbrev pub invariant-branches::walk_ways-loop-way : goal.invariant-branches::walk_ways-loop-way
invariant-branches::walk_ways-loop-way l =
    let rest = each_way (around_of l.around) l.free l.before l.shape (ways_seen (around_of l.around) (scope_of l.scope) l.aim (drop l.way-index l.ways))
    l.first in
    let all = each_way (around_of l.around) l.free l.before l.shape (ways_seen (around_of l.around) (scope_of l.scope) l.aim l.ways) None in
    record {
      value : got rest (seen l.walking) ≡ got all (seen l.fn.walking);
      walked : run rest (seen l.walking) ≡ run all (seen l.fn.walking);
    }

abbrev pub decreases-statements::walk_state : goal.decreases-statements::walk_state
decreases-statements::walk_state l = mass l.core.now + 1

abbrev pub decreases-statements::walk_bound : goal.decreases-statements::walk_bound
decreases-statements::walk_bound l = mass l.core.now + 5

abbrev pub decreases-statements::walk_in : goal.decreases-statements::walk_in
decreases-statements::walk_in l = masses l.parts.now + 40

abbrev pub decreases-statements::walk_statement : goal.decreases-statements::walk_statement
decreases-statements::walk_statement l = mass l.core.now + 8

abbrev pub decreases-statements::walk_value : goal.decreases-statements::walk_value
decreases-statements::walk_value l = masses l.parts.now + 20

abbrev pub decreases-statements::walk_block : goal.decreases-statements::walk_block
decreases-statements::walk_block l = masses l.parts.now + 28

abbrev pub invariant-statements::walk_block-loop-index : goal.invariant-statements::walk_block-loop-index
invariant-statements::walk_block-loop-index l =
    let outer = scope_of l.scope in
    let rest = block_walk l.place l.number (drop l.index l.statements) (each_part (drop l.index l.parts)) (around_of l.around) (newest l.groups ++ outer)
    l.aim in
    let all = block_walk l.place l.number l.statements (each_part l.parts) (around_of l.around) outer l.aim in
    record {
      value : got rest (seen l.walking) ≡ got all (seen l.fn.walking);
      walked : unclaimed_times l.claims (run rest (seen l.walking)) ≡ run all (seen l.fn.walking);
      few : l.claims ≤ l.index;
      within : l.index ≤ length l.statements;
    }

abbrev pub decreases-reading::walk_way : goal.decreases-reading::walk_way
decreases-reading::walk_way l = masses l.parts.now + 12

abbrev pub decreases-reading::walk_suffixes : goal.decreases-reading::walk_suffixes
decreases-reading::walk_suffixes l = masses l.parts.now + 16

abbrev pub decreases-reading::walk_part : goal.decreases-reading::walk_part
decreases-reading::walk_part l = masses l.parts.now + 20

abbrev pub decreases-reading::updated : goal.decreases-reading::updated
decreases-reading::updated l = mass l.core.now + 6

abbrev pub decreases-reading::walk_update : goal.decreases-reading::walk_update
decreases-reading::walk_update l = masses l.parts.now + 20

abbrev pub decreases-targets::spot_within : goal.decreases-targets::spot_within
decreases-targets::spot_within l = masses l.parts.now + 18

abbrev pub decreases-targets::spot_late : goal.decreases-targets::spot_late
decreases-targets::spot_late l = masses l.parts.now + 18

abbrev pub decreases-targets::spot_part : goal.decreases-targets::spot_part
decreases-targets::spot_part l = masses l.parts.now + 19

abbrev pub decreases-targets::spot_each : goal.decreases-targets::spot_each
decreases-targets::spot_each l = masses l.parts.now + target_masses l.targets.now + 18

abbrev pub decreases-targets::spot_target : goal.decreases-targets::spot_target
decreases-targets::spot_target l = masses l.parts.now + target_mass l.target.now

abbrev pub decreases-targets::assign_to : goal.decreases-targets::assign_to
decreases-targets::assign_to l = masses l.parts.now + target_masses l.targets.now + 34

abbrev pub decreases-targets::assign_last : goal.decreases-targets::assign_last
decreases-targets::assign_last l = masses l.parts.now + 20

abbrev pub decreases-targets::assign : goal.decreases-targets::assign
decreases-targets::assign l = masses l.parts.now + target_masses l.targets.now + 30

abbrev pub invariant-reading::walk_suffixes-loop-suffix : goal.invariant-reading::walk_suffixes-loop-suffix
invariant-reading::walk_suffixes-loop-suffix l =
    let rest = suffixes_walk l.is_target (drop l.suffix-index l.suffixes) (around_of l.around) (scope_of l.scope) (left_behind l.parts l.at) l.value in
    let all = suffixes_walk l.is_target l.suffixes (around_of l.around) (scope_of l.scope) (left_behind l.parts l.initial.at) l.initial.value in
    record {
      value : got rest (seen l.walking) ≡ got all (seen l.fn.walking);
      walked : run rest (seen l.walking) ≡ run all (seen l.fn.walking);
    }

abbrev pub invariant-targets::spot_each-loop-target : goal.invariant-targets::spot_each-loop-target
invariant-targets::spot_each-loop-target l =
    let rest = each_spot (map spotting (drop l.target-index l.targets)) (around_of l.around) (scope_of l.scope) (left_behind l.parts l.at) in
    let all = each_spot (map spotting l.targets) (around_of l.around) (scope_of l.scope) (left_behind l.parts l.initial.at) in
    record {
      value : more_spots (map (spot_of (around_of l.around)) l.spots) (got rest (seen l.walking)) ≡ got all (seen l.fn.walking);
      walked : run rest (seen l.walking) ≡ run all (seen l.fn.walking);
    }

abbrev pub invariant-targets::assign_to-loop-target : goal.invariant-targets::assign_to-loop-target
invariant-targets::assign_to-loop-target l =
    let around = around_of l.around in
    let scope = scope_of l.scope in
    let left = map spotting (drop l.target-index l.targets) in
    let targets = map spotting l.targets in
    let rest = assigned_to l.place left (assigned l.place left around scope) around scope (spot_of around l.spot) (left_behind l.parts l.at) in
    let all = assigned_to l.place targets (assigned l.place targets around scope) around scope (spot_of around l.initial.spot)
    (left_behind l.parts l.initial.at) in
    let back = written_back l.place (map (spot_of around) l.before) (got rest (seen l.walking)) in
    record {
      value : got back (run rest (seen l.walking)) ≡ got all (seen l.fn.walking);
      walked : run back (run rest (seen l.walking)) ≡ run all (seen l.fn.walking);
    }
