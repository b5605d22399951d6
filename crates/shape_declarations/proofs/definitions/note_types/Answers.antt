use Rattle.std.proofs.Common.{refl, ◌∙◌}
use Rattle.shape_models.specs.Sources.{tabled_by}
use Rattle.written_types.proofs.Rows.{noted_more}
use Rattle.shape_declarations.specs.Failures.{typ_faults, types_faults}
use Rattle.shape_declarations.proofs.definitions.note_types.Goals as goal

pub loop-definition-preserved : goal.loop-definition-preserved
loop-definition-preserved c =
    let tabled = tabled_by c.args.source.now in
    noted_more (typ_faults tabled) (types_faults tabled) (λ x xs. refl)
    c.args.source.now.definitions.now c.loop-definition.definition-index c.definition-item.result c.loop-definition.first.error
    c.note_typ.new.first.error c.loop-definition-test.true c.definition-item.is c.in_ok-note_typ.ensures
    ∙ c.loop-definition.invariant
