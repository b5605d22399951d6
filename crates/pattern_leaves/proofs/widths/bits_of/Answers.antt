use Rattle.std.proofs.Common.{◌≡◌, ap, ◌∙◌, subst, Option, IfOk, OnOk}
use Rattle.sail_types.specs.declared.numbers.Num.{Num}
use Rattle.value_indices.specs.declared.indices.Indices.{Indices}
use Rattle.value_indices.specs.Opening.{number_or_fresh}
use Rattle.value_indices.specs.Walking.{Written, got, run, seen}
use Rattle.pattern_leaves.specs.Widths.{bits_part, sized_bits}
use Rattle.pattern_leaves.proofs.Walked.{then_got, then_run}
use Rattle.pattern_leaves.proofs.widths.bits_of.Goals as goal

pub returns-clause-made : goal.returns-clause-made
returns-clause-made c =
    let v = seen c.args.walking.now in
    let w = seen c.number_or_fresh.new.walked in
    let is : c.in_ok-number.number ≡ got (number_or_fresh c.args.width.now) v =
    c.in_ok-number.ensures.value ∙ ap (λ (o : Option Num). got (number_or_fresh o) v) c.in_ok-width.ensures in
    let was : w ≡ run (number_or_fresh c.args.width.now) v =
    c.in_ok-number.ensures.walked ∙ ap (λ (o : Option Num). run (number_or_fresh o) v) c.in_ok-width.ensures in
    subst (λ (i : Indices). IfOk c.sized_bits.result (λ made. made ≡ i))
    (then_got (number_or_fresh c.args.width.now) (sized_bits c.args.place) v w c.in_ok-number.number is was) c.sized_bits.ensures.made

pub returns-clause-walked : goal.returns-clause-walked
returns-clause-walked c =
    let v = seen c.args.walking.now in
    let w = seen c.number_or_fresh.new.walked in
    let is : c.in_ok-number.number ≡ got (number_or_fresh c.args.width.now) v =
    c.in_ok-number.ensures.value ∙ ap (λ (o : Option Num). got (number_or_fresh o) v) c.in_ok-width.ensures in
    let was : w ≡ run (number_or_fresh c.args.width.now) v =
    c.in_ok-number.ensures.walked ∙ ap (λ (o : Option Num). run (number_or_fresh o) v) c.in_ok-width.ensures in
    subst (λ (u : Written). OnOk c.sized_bits.result (seen c.sized_bits.new.walking ≡ u))
    (then_run (number_or_fresh c.args.width.now) (sized_bits c.args.place) v w c.in_ok-number.number is was) c.sized_bits.ensures.walked
