use Rattle.std.proofs.Common.{◌≡◌, ◌∙◌, ap, refl, sym}
use Rattle.value_indices.specs.Walking.{got, run, seen}
use Rattle.value_indices.specs.declared.indices.Indices.{Indices}
use Rattle.value_indices.specs.declared.indices.Indices.TheVariants as I
use Rattle.value_indices.proofs.Walks.{got_give, run_give}
use Rattle.wide_types.proofs.Turns.{found, left_as}
use Rattle.pattern_leaves.specs.Settings.{around_of}
use Rattle.pattern_leaves.proofs.Walked.{then_got, then_run}
use Rattle.expression_forms.specs.Spots.{Spot, spot_of}
use Rattle.expression_forms.proofs.SpotForms.{named_is, part_is}
use Rattle.expression_forms.proofs.spots.Spot.+renew.Goals as goal

pub returns-in-Named-clause-value : goal.returns-in-Named-clause-value
returns-in-Named-clause-value t c =
    let w = seen c.args.walking.now in
    let is = named_is (around_of c.args.around.now) c.args.self.now c.in-Named.field-0 c.in-Named.field-1 c.in-Named.field-2 c.in-Named.field-3
    c.in-Named.is in
    sym (ap (λ (s : Spot). got (s.renew c.args.value.now) w) is ∙ got_give I.Unit w)

pub returns-in-Named-clause-walked : goal.returns-in-Named-clause-walked
returns-in-Named-clause-walked t c =
    let w = seen c.args.walking.now in
    let is = named_is (around_of c.args.around.now) c.args.self.now c.in-Named.field-0 c.in-Named.field-1 c.in-Named.field-2 c.in-Named.field-3
    c.in-Named.is in
    sym (ap (λ (s : Spot). run (s.renew c.args.value.now) w) is ∙ run_give {A = Indices} I.Unit w)

-- of a part the base is noted, and written again

pub returns-in_ok-note_given-in-Part-clause-value : goal.returns-in_ok-note_given-in-Part-clause-value
returns-in_ok-note_given-in-Part-clause-value t c =
    let around = around_of c.args.around.now in
    let held = c.in-Part.held in
    let base = spot_of around c.in-Part.base in
    let is = part_is around c.args.self.now c.in-Part.field-0 c.in-Part.field-1 c.in-Part.field-2 c.in-Part.base held c.in-Part.field-5 c.in-Part.is in
    let first = base.given held in
    let w = seen c.args.walking.now in
    let v = seen c.note_given.new.walking in
    let was : v ≡ run first w = c.in_ok-note_given-in-Part.ensures ∙ (λ j. run (Spot.given (spot_of around (c.get.ensures j)) held) w) in
    found c.renew.result _ _ c.renew.ensures.value
    ((λ j. got (Spot.renew (spot_of around (c.get-in-Part.ensures j)) held) v)
    ∙ then_got first (λ (u : Unit {0}). base.renew held) w v (got first w) refl was
    ∙ sym (ap (λ (s : Spot). got (s.renew c.args.value.now) w) is))

pub returns-in_ok-note_given-in-Part-clause-walked : goal.returns-in_ok-note_given-in-Part-clause-walked
returns-in_ok-note_given-in-Part-clause-walked t c =
    let around = around_of c.args.around.now in
    let held = c.in-Part.held in
    let base = spot_of around c.in-Part.base in
    let is = part_is around c.args.self.now c.in-Part.field-0 c.in-Part.field-1 c.in-Part.field-2 c.in-Part.base held c.in-Part.field-5 c.in-Part.is in
    let first = base.given held in
    let w = seen c.args.walking.now in
    let v = seen c.note_given.new.walking in
    let was : v ≡ run first w = c.in_ok-note_given-in-Part.ensures ∙ (λ j. run (Spot.given (spot_of around (c.get.ensures j)) held) w) in
    left_as c.renew.result (seen c.renew.new.walking) _ _ c.renew.ensures.walked
    ((λ j. run (Spot.renew (spot_of around (c.get-in-Part.ensures j)) held) v)
    ∙ then_run first (λ (u : Unit {0}). base.renew held) w v (got first w) refl was
    ∙ sym (ap (λ (s : Spot). run (s.renew c.args.value.now) w) is))
