use Rattle.std.proofs.Common.{◌≡◌, ◌+◌, ◌∷◌, List, drop, sym, ap, ◌∙◌}
use Rattle.std.proofs.lemmas.List.{drop_more}
use Rattle.shape_rules.specs.Around.{setting_of}
use Rattle.shape_rules.specs.Findings.{first_failure, Found}
use Rattle.shape_rules.specs.Scopes.{Locals}
use Rattle.shape_rules.proofs.Firsts.{first_failure_append}
use Rattle.shape_walks.specs.Trees.{elaborates}
use Rattle.shape_rules.specs.Expressions.{elaborate as elaborated}
use Rattle.sail_syntax.specs.declared.expressions.Exp.{Exp}
use Rattle.shape_walks.specs.declared.walks.Walk.{Walk}
use Rattle.shape_walks.specs.Walks.{want_of, took, one_faults, each_taken, each_faults}
use Rattle.shape_rules.specs.Calls.{Elaborate}
use Rattle.shape_values.proofs.walks.push_all.Goals as goal

pub loop-expression-preserved : goal.loop-expression-preserved
loop-expression-preserved g c =
    let setting = setting_of c.args.around.now in
    let names = c.args.locals.now in
    let all = c.args.expressions.now in
    let i = c.loop-expression.expression-index in
    let one = c.expression-item.result in
    let walk = c.loop-expression.walk in
    let old = c.loop-expression.first.error in
    let rest : drop i all ≡ one ∷ drop (i + 1) all =
    drop_more all i one c.loop-expression-test.true ∙ ap (λ x. x ∷ drop (i + 1) all) (sym c.expression-item.is) in
    let next : c.in_ok-walk.walk ≡ took walk (elaborated one setting names (want_of walk)) =
    c.in_ok-walk.ensures.walk ∙ ap (λ (l : Locals). took walk (elaborated one setting l (want_of walk))) c.loop-expression.invariant.locals in
    let a : Found = elaborated one setting names (want_of walk) in
    let left : List Elaborate = elaborates (drop (i + 1) all) in
    let noted : c.push_one.new.first.error ≡ first_failure old (one_faults walk a) =
    c.in_ok-walk.ensures.failures
    ∙ ap (λ (l : Locals). first_failure old (one_faults walk (elaborated one setting l (want_of walk)))) c.loop-expression.invariant.locals in
    record {
      locals = c.in_ok-walk.ensures.locals ∙ c.loop-expression.invariant.locals;
      walk = ap (λ (w : Walk). each_taken left setting names w) next
          ∙ sym (ap (λ (es : List Exp). each_taken (elaborates es) setting names walk) rest) ∙ c.loop-expression.invariant.walk;
      failures = ap (λ (w : Walk). first_failure c.push_one.new.first.error (each_faults left setting names w)) next
          ∙ (λ j. first_failure (noted j) (each_faults left setting names (took walk a)))
          ∙ sym (first_failure_append old (one_faults walk a) (each_faults left setting names (took walk a)))
          ∙ sym (ap (λ (es : List Exp). first_failure old (each_faults (elaborates es) setting names walk)) rest) ∙ c.loop-expression.invariant.failures;
    }
