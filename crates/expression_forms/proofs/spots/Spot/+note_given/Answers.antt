use Rattle.std.proofs.Common.{◌∙◌, ap, refl, sym}
use Rattle.value_indices.specs.Walking.{got, run, seen}
use Rattle.value_indices.proofs.Walks.{run_give}
use Rattle.wide_types.proofs.Turns.{left_as}
use Rattle.pattern_leaves.specs.Settings.{around_of}
use Rattle.pattern_leaves.proofs.Walked.{then_run}
use Rattle.call_notes.specs.Noted.{numbers_noted}
use Rattle.expression_forms.specs.Spots.{Spot, spot_of}
use Rattle.expression_forms.proofs.SpotForms.{late_is, part_is, tuple_is, wrong_is}
use Rattle.expression_forms.proofs.spots.Spot.+note_given.Goals as goal

pub returns-in-Wrong : goal.returns-in-Wrong
returns-in-Wrong t c =
    let w = seen c.args.walking.now in
    let is = wrong_is (around_of c.args.around.now) c.args.self.now c.in-Wrong.field-0 c.in-Wrong.is in
    sym (ap (λ (s : Spot). run (s.given c.args.value.now) w) is ∙ run_give tt w)

pub returns-in-Tuple : goal.returns-in-Tuple
returns-in-Tuple t c =
    let w = seen c.args.walking.now in
    let is = tuple_is (around_of c.args.around.now) c.args.self.now c.in-Tuple.field-0 c.in-Tuple.field-1 c.in-Tuple.field-2 c.in-Tuple.field-2
    c.in-Tuple.is refl in
    sym (ap (λ (s : Spot). run (s.given c.args.value.now) w) is ∙ run_give tt w)

pub returns-in-Late : goal.returns-in-Late
returns-in-Late t c =
    let w = seen c.args.walking.now in
    let is = late_is (around_of c.args.around.now) c.args.self.now c.in-Late.field-0 c.in-Late.field-1 c.in-Late.field-2 c.in-Late.field-3 c.in-Late.field-4
    c.in-Late.field-5 c.in-Late.is in
    sym (ap (λ (s : Spot). run (s.given c.args.value.now) w) is ∙ run_give tt w)

-- of a part, first what its base gives
pub returns-in_ok-note_given-in-Part : goal.returns-in_ok-note_given-in-Part
returns-in_ok-note_given-in-Part t c =
    let around = around_of c.args.around.now in
    let i = c.args.value.now in
    let k = c.in-Part.number in
    let held = c.in-Part.held in
    let base = spot_of around c.in-Part.base in
    let is = part_is around c.args.self.now c.in-Part.field-0 k c.in-Part.field-2 c.in-Part.base held c.in-Part.field-5 c.in-Part.is in
    let first = base.given held in
    let w = seen c.args.walking.now in
    let v = seen c.note_given.new.walking in
    left_as c.note_numbers-in-Part.result (seen c.note_numbers-in-Part.new.walking) _ _ c.note_numbers-in-Part.ensures
    (then_run first (λ (u : Unit {0}). numbers_noted k i) w v (got first w) refl
    (c.in_ok-note_given-in-Part.ensures ∙ (λ j. run (Spot.given (spot_of around (c.get.ensures j)) held) w))
    ∙ sym (ap (λ (s : Spot). run (s.given i) w) is))
