use Rattle.std.proofs.Common.{◌∙◌, ◌++◌, ap}
use Rattle.jib_lower.specs.Crossings.{calls_of}
use Rattle.jib_lower.proofs.crossings.calls_of.Goals as goal

pub returns : goal.returns
returns c =
    c.in_ok-push_calls.ensures ∙ ap (λ xs. xs ++ calls_of c.as_slice-directions.result.now) c.new-calls.ensures ∙ ap calls_of c.as_slice-directions.ensures
