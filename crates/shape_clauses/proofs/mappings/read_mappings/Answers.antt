use Rattle.std.proofs.Common.{refl, [], map, ◌∙◌}
use Rattle.shape_rules.specs.Around.{setting_of}
use Rattle.shape_rules.specs.Written.{joined}
use Rattle.shape_models.specs.Sources.{tabled_by}
use Rattle.written_types.proofs.Rows.{noted_more, pushed_more}
use Rattle.shape_clauses.specs.Mappings.{mapping_faults, directions_of}
use Rattle.shape_clauses.proofs.mappings.read_mappings.Goals as goal

pub loop-definition-preserved : goal.loop-definition-preserved
loop-definition-preserved c =
    let tabled = tabled_by c.args.source.now in
    let setting = setting_of c.args.around.now in record {
      directions = pushed_more (directions_of tabled setting) (λ ds. joined (map (directions_of tabled setting) ds)) refl (λ x xs. refl)
          c.args.source.now.definitions.now c.loop-definition.definition-index c.definition-item.result
          [] c.loop-definition.directions c.push_mapping.new.directions
          c.loop-definition-test.true c.definition-item.is c.loop-definition.invariant.directions c.in_ok-push_mapping.ensures.directions;
      failures = noted_more (mapping_faults tabled setting) (λ ds. joined (map (mapping_faults tabled setting) ds)) (λ x xs. refl)
          c.args.source.now.definitions.now c.loop-definition.definition-index c.definition-item.result
          c.loop-definition.first.error c.push_mapping.new.first.error
          c.loop-definition-test.true c.definition-item.is c.in_ok-push_mapping.ensures.failures
          ∙ c.loop-definition.invariant.failures;
    }
