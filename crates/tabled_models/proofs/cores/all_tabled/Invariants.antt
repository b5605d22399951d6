use Rattle.std.proofs.Common.{◌≡◌, drop}
use Rattle.std.specs.List.{list_all}
use Rattle.monomorph.specs.Lasts.{model_in}
use Rattle.tabled_cores.specs.Cores.{found_tabled}
use Rattle.tabled_models.proofs.cores.all_tabled.Given as goal

-- the rest decides
abbrev pub invariant-loop-one : goal.invariant-loop-one
invariant-loop-one l =
    list_all (found_tabled l.given (model_in l.model) l.list) (drop l.one-index l.found) ≡ list_all (found_tabled l.given (model_in l.model) l.list) l.found
