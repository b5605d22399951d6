use Rattle.std.proofs.Common.{refl, [], ◌∷◌, ◌∙◌}
use Rattle.shape_rules.specs.Around.{setting_of}
use Rattle.written_types.proofs.Rows.{noted_more, pushed_more}
use Rattle.shape_clauses.specs.Clauses.{clauses_arms, clauses_bodies, clauses_faults}
use Rattle.shape_clauses.specs.Functions.{function_clause, function_clauses}
use Rattle.shape_functions.proofs.functions.function_clauses.Goals as goal

pub loop-clause-preserved : goal.loop-clause-preserved
loop-clause-preserved c =
    let one = function_clause (setting_of c.args.around.now) c.args.params.now c.args.answer.now in
    let all = function_clauses (setting_of c.args.around.now) c.args.params.now c.args.answer.now in record {
      arms = pushed_more (λ x. (one x).arm ∷ []) (λ xs. clauses_arms (all xs)) refl (λ x xs. refl)
          c.args.clauses.now c.loop-clause.clause-index c.clause-item.result [] c.loop-clause.made.arms c.push_clause.new.clauses.arms
          c.loop-clause-test.true c.clause-item.is c.loop-clause.invariant.arms c.in_ok-push_clause.ensures.arms;
      bodies = pushed_more (λ x. (one x).body ∷ []) (λ xs. clauses_bodies (all xs)) refl (λ x xs. refl)
          c.args.clauses.now c.loop-clause.clause-index c.clause-item.result [] c.loop-clause.made.bodies c.push_clause.new.clauses.bodies
          c.loop-clause-test.true c.clause-item.is c.loop-clause.invariant.bodies c.in_ok-push_clause.ensures.bodies;
      failures = noted_more (λ x. (one x).faults) (λ xs. clauses_faults (all xs)) (λ x xs. refl)
          c.args.clauses.now c.loop-clause.clause-index c.clause-item.result c.loop-clause.first.error c.push_clause.new.first.error
          c.loop-clause-test.true c.clause-item.is c.in_ok-push_clause.ensures.failures
          ∙ c.loop-clause.invariant.failures;
    }
