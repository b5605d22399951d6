use Rattle.std.proofs.Common.{◌≡◌, ◌∙◌, ◌++◌, ap, map, sym}
use Rattle.std.specs.Option.{option_copied}
use Rattle.std.proofs.lemmas.Result.{on_ok_weaker}
use Rattle.lowered_pieces.specs.Functions.{measure_of}
use Rattle.lowered_typed.proofs.Pushed.{none}
use Rattle.jib_lower.specs.Reads.{read_by, read_in, read_of}
use Rattle.jib_lower.proofs.reads.list_measure.Goals as goal

pub returns-in-Some : goal.returns-in-Some
returns-in-Some c =
    on_ok_weaker c.list_read.result
    (λ (e : map read_of c.list_read.new.found ≡ map read_of c.args.found.now ++ read_in c.in-Some.measure.now).
    e ∙ ap (λ m. map read_of c.args.found.now ++ read_by m) (sym (sym c.active_measure.ensures ∙ ap option_copied c.in-Some.is)))
    c.list_read.ensures

pub returns-in-None : goal.returns-in-None
returns-in-None c =
    none (map read_of c.args.found.now) (read_by (measure_of c.args.function.now.cycle c.args.function.now.measure))
    (ap read_by (sym c.active_measure.ensures ∙ ap option_copied c.in-None.is))
