use Rattle.std.proofs.Common.{refl, sym, ◌∙◌}
use Rattle.size_values.specs.Numbers.{known_of}
use Rattle.size_splits.specs.Telling.{told_in}
use Rattle.size_splits.proofs.Told.{told_read}
use Rattle.size_splits.proofs.telling.follow_telling.Goals as goal

pub returns-in_ok-follow-in-Some : goal.returns-in_ok-follow-in-Some
returns-in_ok-follow-in-Some c = λ w h.
    let k = known_of c.args.numbers.now in
    let vs = c.args.split.now in
    told_read k vs w c.args.step.now c.in-Some.told _ _ _ (sym c.in-Some.is ∙ c.in_ok-told.ensures) refl
    (c.in_ok-follow-in-Some.ensures (told_in k vs w) h)

pub returns-in_ok-follow-in-None : goal.returns-in_ok-follow-in-None
returns-in_ok-follow-in-None c = λ w h.
    let k = known_of c.args.numbers.now in
    let vs = c.args.split.now in
    told_read k vs w c.args.step.now c.args.step.now _ _ _ (sym c.in-None.is ∙ c.in_ok-told.ensures) refl
    (c.in_ok-follow-in-None.ensures (told_in k vs w) h)
