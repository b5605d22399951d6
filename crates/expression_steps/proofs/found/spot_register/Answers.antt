use Rattle.std.proofs.Common.{◌∙◌}
use Rattle.value_indices.specs.Walking.{seen}
use Rattle.pattern_leaves.specs.Settings.{around_of}
use Rattle.expression_forms.specs.Scopes.{scope_of}
use Rattle.expression_forms.specs.Spots.{register_spot, spot_of}
use Rattle.expression_steps.specs.Coded.{left_behind}
use Rattle.expression_steps.proofs.Left.{item_there}
use Rattle.expression_steps.proofs.Spots.{register_got, register_run}
use Rattle.expression_steps.proofs.found.spot_register.Goals as goal

pub returns-in_ok-spot-in-empty : goal.returns-in_ok-spot-in-empty
returns-in_ok-spot-in-empty c =
    let around = around_of c.args.around.now in
    let scope = scope_of c.args.scope.now in
    let left = left_behind c.args.parts.now c.args.at in
    let there = item_there around.registers c.args.register c.get.result c.get.ensures.lookup.0 c.get.ensures.lookup.1 in
    record {
      value = register_got c.args.place c.args.number around scope left c.args.register c.args.targets.now (spot_of around c.in_ok-spot-in-empty.spot)
          (seen c.args.walking.now) c.in-empty.len_below
          (c.in_ok-spot-in-empty.ensures around ∙ (λ j. register_spot around c.args.place c.args.number (there j)));
      walked = register_run c.args.place c.args.number around scope left c.args.register c.args.targets.now (seen c.args.walking.now) c.in-empty.len_below;
    }
