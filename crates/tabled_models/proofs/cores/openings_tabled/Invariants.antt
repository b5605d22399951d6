use Rattle.std.proofs.Common.{◌≡◌, drop, map}
use Rattle.std.specs.List.{list_all}
use Rattle.size_splits.specs.Bodies.{body_read}
use Rattle.monomorph.specs.Lasts.{model_in}
use Rattle.tabled_cores.specs.Cores.{alone_tabled}
use Rattle.tabled_models.proofs.cores.openings_tabled.Given as goal

-- the rest decides
abbrev pub invariant-loop-body : goal.invariant-loop-body
invariant-loop-body l =
    list_all (alone_tabled l.given (model_in l.model) l.list) (map body_read (drop l.body-index l.openings))
    ≡ list_all (alone_tabled l.given (model_in l.model) l.list) (map body_read l.openings)
