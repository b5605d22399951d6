use Rattle.std.proofs.Common.{◌∙◌, ◌++◌, ap}
use Rattle.jib_lower.specs.Crossings.{calls_of, turns_by}
use Rattle.jib_lower.proofs.crossings.turns_of.Goals as goal

pub returns : goal.returns
returns c =
    c.in_ok-push_turns.ensures ∙ ap (λ xs. xs ++ turns_by c.as_slice-all.result.now c.as_slice-functions.result.now) c.new-turns.ensures
    ∙ ap (λ ds. turns_by ds c.as_slice-functions.result.now) (c.as_slice-all.ensures ∙ c.in_ok-calls.ensures)
    ∙ ap (turns_by (calls_of c.args.core.now.directions)) c.as_slice-functions.ensures
