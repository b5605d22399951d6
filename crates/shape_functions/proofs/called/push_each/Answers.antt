use Rattle.std.proofs.Common.{refl, map, ◌∙◌}
use Rattle.shape_rules.specs.Written.{joined}
use Rattle.shape_models.specs.Sources.{tabled_by}
use Rattle.written_types.proofs.Rows.{noted_more, pushed_more}
use Rattle.shape_clauses.specs.Functions.{called_faults, functions_of, cycle_in}
use Rattle.shape_functions.specs.Parts.{held_setting}
use Rattle.shape_functions.proofs.called.push_each.Goals as goal

pub loop-definition-preserved : goal.loop-definition-preserved
loop-definition-preserved c =
    let tabled = tabled_by c.args.source.now in
    let all = c.args.source.now.definitions.now in
    let setting = held_setting c.args.source.now c.args.meanings.now in
    let one = called_faults tabled setting in record {
      functions = λ text end t.
          pushed_more (functions_of tabled all setting (cycle_in c.args.tables.now text))
          (λ ds. joined (map (functions_of tabled all setting (cycle_in c.args.tables.now text)) ds)) refl (λ x xs. refl)
          all c.loop-definition.definition-index c.definition-item.result c.args.functions.now c.loop-definition.functions
          c.push_called.new.functions c.loop-definition-test.true c.definition-item.is (c.loop-definition.invariant.functions text end t)
          (c.in_ok-push_called.ensures.functions text end t);
      failures = noted_more one (λ ds. joined (map one ds)) (λ x xs. refl)
          all c.loop-definition.definition-index c.definition-item.result c.loop-definition.first.error c.push_called.new.first.error
          c.loop-definition-test.true c.definition-item.is c.in_ok-push_called.ensures.failures
          ∙ c.loop-definition.invariant.failures;
    }
