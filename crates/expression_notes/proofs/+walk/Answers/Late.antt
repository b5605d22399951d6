-- Parts of what is there late, and of targets: what is found of them, and how it is walked.
use Rattle.std.proofs.Common.{◌∙◌, Some, sym, ◌-◌}
use Rattle.value_indices.specs.Walking.{seen}
use Rattle.pattern_leaves.specs.Settings.{around_of}
use Rattle.expression_forms.specs.Scopes.{scope_of}
use Rattle.expression_forms.specs.Spots.{spot_of}
use Rattle.expression_steps.specs.Targets.{part_within}
use Rattle.expression_notes.proofs.LateSpots.{here_opens, late_got, late_none, late_opens, late_run, short_opens, wrong_opens}
use Rattle.expression_steps.proofs.Onward.{same_got, same_run}
use Rattle.expression_steps.proofs.Spots.{no_spot_got}
use Rattle.expression_notes.proofs.Spotted.{absent_alike}
use Rattle.expression_notes.proofs.+walk.Goals as goal

pub no_way_late : goal.targets::spot_late-returns-then-has_no_way
no_way_late t c = let around = around_of c.args.around.now in let ss = c.args.suffixes.now in let r = c.no_spot.result in let
    spot = spot_of around c.args.base in let parts = c.args.parts.now in let by = c.no_spot.ensures in let opens = short_opens around (scope_of
    c.args.scope.now) c.args.place c.args.number ss parts spot c.args.at _ c.left_at-left.ensures (sym c.has_no_way.ensures ∙ c.if-has_no_way.true) in
    record { value = no_spot_got r around parts c.args.place _ _ opens by.value; walked = same_run r _ _ _ _ opens by.walked }

pub none_late : goal.targets::spot_late-returns-in-None
none_late t c = let ahead = c.in_ok-ahead.ensures in let numbers = c.in_ok-walk_numbers.ensures in let ss = c.args.suffixes.now in
    let enough = sym c.has_no_way.ensures ∙ c.if-has_no_way.false in let count = c.late_count-count.ensures in
    let spot = spot_of (around_of c.args.around.now) c.args.base in let left = c.left_at-left.ensures in let first = c.first_parts.ensures in
    let same = late_none _ _ c.args.place c.args.number ss c.args.parts.now spot c.args.at _ _ _ left enough count first _ _ _ _ ahead.value
    ahead.walked _ numbers.value numbers.walked c.in-None.is in record { value = same.value; walked = same.walked }

pub some_late : goal.targets::spot_late-returns-in-Some
some_late t c = let around = around_of c.args.around.now in let scope = scope_of c.args.scope.now in
    let ahead = c.in_ok-ahead.ensures in let numbers = c.in_ok-walk_numbers.ensures in let ss = c.args.suffixes.now in let parts = c.args.parts.now in
    let enough = sym c.has_no_way.ensures ∙ c.if-has_no_way.false in let count = c.late_count-count.ensures in
    let some = (λ j. Some (c.as_slice.ensures j)) ∙ sym c.in-Some.is in let left = c.left_at-left.ensures in let first = c.first_parts.ensures in
    let by = c.late_found.ensures in let r = c.late_found.result in let spot = spot_of around c.args.base in
    record {
      value = late_got around scope c.args.place c.args.number ss parts spot c.args.at _ _ _ left enough count first _ _ _ _ ahead.value ahead.walked _
          numbers.value numbers.walked _ some _ c.behind.ensures r by.value;
      walked = late_run around scope c.args.place c.args.number ss parts spot c.args.at _ _ _ left enough count first _ _ _ _ ahead.value ahead.walked _
          numbers.value numbers.walked _ some _ c.behind.ensures r _ by.walked;
    }

pub none_part : goal.targets::spot_part-returns-in-None
none_part t c = let around = around_of c.args.around.now in
    let next = part_within c.args.place c.args.number c.args.suffixes.now around (scope_of c.args.scope.now) in
    let same = absent_alike around c.args.parts.now c.args.found next (seen c.args.walking.now) c.in-None.is in
    record { value = same.value; walked = same.walked }

pub wrong_part : goal.targets::spot_part-returns-then-not-is_base
wrong_part t c = let around = around_of c.args.around.now in let by = c.no_spot.ensures in let r = c.no_spot.result in
    let opens = wrong_opens around (scope_of c.args.scope.now) c.args.place c.args.number c.args.suffixes.now c.args.parts.now _ _ _ c.in-Some.is
    (sym (c.is_base.ensures around) ∙ c.if-not-is_base.true) in
    record { value = no_spot_got r around c.args.parts.now c.args.place _ _ opens by.value; walked = same_run r _ _ _ _ opens by.walked }

pub late_part : goal.targets::spot_part-returns-then-is_late
late_part t c = let around = around_of c.args.around.now in let by = c.spot_late.ensures in
    let opens = late_opens around (scope_of c.args.scope.now) c.args.place c.args.number c.args.suffixes.now c.args.parts.now _ _ _ c.in-Some.is
    (sym (c.is_base.ensures around) ∙ c.if-not-is_base.false) (sym (c.is_late.ensures around) ∙ c.if-is_late.true) in
    record { value = same_got _ _ _ _ _ opens by.value; walked = same_run _ _ _ _ _ opens by.walked }

pub here_part : goal.targets::spot_part-returns-else-is_late
here_part t c = let around = around_of c.args.around.now in let by = c.spot_within.ensures in
    let opens = here_opens around (scope_of c.args.scope.now) c.args.place c.args.number c.args.suffixes.now c.args.parts.now _ _ _ c.in-Some.is
    (sym (c.is_base.ensures around) ∙ c.if-not-is_base.false) (sym (c.is_late.ensures around) ∙ c.if-is_late.false) in
    record { value = same_got _ _ _ _ _ opens by.value; walked = same_run _ _ _ _ _ opens by.walked }
