use Rattle.std.proofs.Common.{◌∙◌, ◌&&◌, Some, ap}
use Rattle.jib.specs.Operands.{some_comparable}
use Rattle.jib.specs.Typing.{literal_some, sort_at}
use Rattle.std.specs.Prelude.{slice_get}
use Rattle.lowered_typed.proofs.heads.is_tested.Goals as goal

pub returns : goal.returns
returns c =
    c.both-all.ensures ∙ (λ i. (c.is_constant-one.ensures
    ∙ (λ k. literal_some (slice_get c.args.judge.now.signs.now.shell.now.types (c.in_ok-number.ensures k)) (c.in_ok-constant.ensures k))) i &&
    (c.is_comparable-other.ensures ∙ ap (λ n. some_comparable (sort_at c.args.judge.now.signs.now.shell.now (Some n))) c.in_ok-number.ensures) i)
