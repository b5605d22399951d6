use Rattle.std.proofs.Common.{◌≡◌, ◌+◌, ◌++◌, ◌∷◌, List, map, drop, sym, ap, ◌∙◌, [], append_assoc}
use Rattle.std.proofs.lemmas.List.{drop_more}
use Rattle.shape_rules.specs.Around.{setting_of}
use Rattle.shape_rules.specs.Findings.{first_failure}
use Rattle.shape_rules.specs.Scopes.{Locals}
use Rattle.shape_rules.proofs.Firsts.{first_failure_append}
use Rattle.sail_syntax.specs.declared.expressions.Case.{Case}
use Rattle.sail_types.specs.declared.shapes.Shape.{Shape}
use Rattle.shape_rules.specs.Statements.{Cases, cases_found}
use Rattle.shape_walks.specs.Trees.{case_part}
use Rattle.shape_forms.specs.Steps.{Cased, cased}
use Rattle.shape_statements.proofs.branches.push_cases.Goals as goal

pub loop-case-preserved : goal.loop-case-preserved
loop-case-preserved g c =
    let setting = setting_of c.args.around.now in
    let names = c.args.locals.now in
    let subject = c.args.subject.now in
    let all = c.args.cases.now in
    let i = c.loop-case.case-index in
    let one = c.case-item.result in
    let given = c.loop-case.given in
    let arms = c.loop-case.arms in
    let bodies = c.loop-case.bodies in
    let old = c.loop-case.first.error in
    let same : c.loop-case.locals ≡ names = c.loop-case.invariant.locals in
    let rest : drop i all ≡ one ∷ drop (i + 1) all =
    drop_more all i one c.loop-case-test.true ∙ ap (λ x. x ∷ drop (i + 1) all) (sym c.case-item.is) in
    let found : Cased = cased (case_part one) setting names subject given in
    let left = map case_part (drop (i + 1) all) in
    let more : Cases = cases_found left setting names subject found.shape in
    let opened : cases_found (map case_part (drop i all)) setting names subject given
    ≡ record { arms = found.arm ∷ more.arms; bodies = found.body ∷ more.bodies; shape = more.shape; faults = found.faults ++ more.faults } =
    ap (λ (cs : List Case). cases_found (map case_part cs) setting names subject given) rest in
    let next : c.in_ok-given.given ≡ found.shape =
    c.in_ok-given.ensures.shape ∙ ap (λ (l : Locals). (cased (case_part one) setting l subject given).shape) same in
    let armed : c.push_case.new.arms ≡ arms ++ found.arm ∷ [] =
    c.in_ok-given.ensures.arms ∙ ap (λ (l : Locals). arms ++ (cased (case_part one) setting l subject given).arm ∷ []) same in
    let bodied : c.push_case.new.bodies ≡ bodies ++ found.body ∷ [] =
    c.in_ok-given.ensures.bodies ∙ ap (λ (l : Locals). bodies ++ (cased (case_part one) setting l subject given).body ∷ []) same in
    let noted : c.push_case.new.first.error ≡ first_failure old found.faults =
    c.in_ok-given.ensures.failures ∙ ap (λ (l : Locals). first_failure old (cased (case_part one) setting l subject given).faults) same in
    record {
      locals = c.in_ok-given.ensures.locals ∙ same;
      shape = ap (λ (w : Shape). (cases_found left setting names subject w).shape) next
          ∙ sym (ap (λ (x : Cases). x.shape) opened) ∙ c.loop-case.invariant.shape;
      arms = (λ j. armed j ++ (cases_found left setting names subject (next j)).arms) ∙ append_assoc arms (found.arm ∷ []) more.arms
          ∙ ap (λ (x : Cases). arms ++ x.arms) (sym opened) ∙ c.loop-case.invariant.arms;
      bodies = (λ j. bodied j ++ (cases_found left setting names subject (next j)).bodies) ∙ append_assoc bodies (found.body ∷ []) more.bodies
          ∙ ap (λ (x : Cases). bodies ++ x.bodies) (sym opened) ∙ c.loop-case.invariant.bodies;
      failures = (λ j. first_failure (noted j) (cases_found left setting names subject (next j)).faults)
          ∙ sym (first_failure_append old found.faults more.faults)
          ∙ ap (λ (x : Cases). first_failure old x.faults) (sym opened) ∙ c.loop-case.invariant.failures;
    }
