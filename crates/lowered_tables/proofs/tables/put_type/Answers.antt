use Rattle.std.proofs.Common.{◌∙◌, ◌∷◌, ◌++◌, [], ap}
use Rattle.lowered_tables.proofs.Growing.{grown_put}
use Rattle.lowered_tables.proofs.tables.put_type.Goals as goal

pub returns-clause-grown : goal.returns-clause-grown
returns-clause-grown c =
    grown_put c.args.list.now (record { numbered = c.push.new.self }) c.args.typ.now
    (c.in_ok-push.ensures.pushed ∙ ap (λ u. c.args.list.now.numbered ++ u ∷ []) c.in_ok-copy.ensures)
