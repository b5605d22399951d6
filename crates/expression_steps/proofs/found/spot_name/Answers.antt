use Rattle.std.proofs.Common.{◌∙◌}
use Rattle.std.specs.Option.{option_copied}
use Rattle.value_indices.specs.Walking.{seen}
use Rattle.pattern_leaves.specs.Settings.{around_of, held_in}
use Rattle.expression_forms.specs.Scopes.{scope_of}
use Rattle.expression_forms.specs.Spots.{spot_of}
use Rattle.expression_steps.specs.Coded.{left_behind}
use Rattle.expression_steps.proofs.Spots.{name_got, name_run}
use Rattle.expression_steps.proofs.found.spot_name.Goals as goal

pub returns-in_ok-spot-in-empty : goal.returns-in_ok-spot-in-empty
returns-in_ok-spot-in-empty c =
    let around = around_of c.args.around.now in
    let scope = scope_of c.args.scope.now in
    let left = left_behind c.args.parts.now c.args.at in
    record {
      value = name_got c.args.place c.args.number around scope left c.args.name.now c.args.targets.now (spot_of around c.in_ok-spot-in-empty.spot)
          (option_copied c.look_up.result) (seen c.args.walking.now) c.in-empty.len_below (c.in_ok-spot-in-empty.ensures around)
          (c.look_up.ensures ∙ (λ j. held_in (c.as_str.ensures j) scope));
      walked = name_run c.args.place c.args.number around scope left c.args.name.now c.args.targets.now (seen c.args.walking.now) c.in-empty.len_below;
    }
