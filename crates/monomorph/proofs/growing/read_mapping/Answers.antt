use Rattle.std.proofs.Common.{sym, refl}
use Rattle.monomorph.specs.Lasts.{model_in}
use Rattle.monomorph.proofs.Lasting.{one_mapping}
use Rattle.monomorph.proofs.growing.read_mapping.Goals as goal

pub returns-in-Some : goal.returns-in-Some
returns-in-Some c =
    let m = c.args.model.now in
    one_mapping c.read_body.result (model_in m) m.bodies.now.mappings c.args.mapping c.in-Some.body.now c.args.found.now c.read_body.new.found refl
    (sym c.in-Some.ensures.item) c.read_body.ensures
