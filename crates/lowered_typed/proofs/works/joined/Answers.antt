use Rattle.std.proofs.Common.{◌∙◌, ◌++◌, ap}
use Rattle.lowered_typed.proofs.works.joined.Goals as goal

pub returns : goal.returns
returns c =
    c.in_ok-push_copies-2.ensures ∙ ap (λ us. us ++ c.args.others.now) (c.in_ok-push_copies.ensures
    ∙ ap (λ us. us ++ c.args.types.now) c.new-joined.ensures)
