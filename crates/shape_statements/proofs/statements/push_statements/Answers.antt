use Rattle.std.proofs.Common.{◌≡◌, ◌+◌, ◌++◌, ◌∷◌, List, map, drop, sym, ap, ◌∙◌, [], append_assoc}
use Rattle.std.proofs.lemmas.List.{drop_more}
use Rattle.shape_rules.specs.Around.{setting_of}
use Rattle.shape_rules.specs.Findings.{first_failure}
use Rattle.shape_rules.specs.Scopes.{Locals}
use Rattle.shape_rules.proofs.Firsts.{first_failure_append}
use Rattle.shape_rules.specs.Statements.{Blocked, blocked, also_stated, Stated}
use Rattle.shape_walks.specs.Trees.{statement_part}
use Rattle.shape_rules.specs.Expressions.{part}
use Rattle.sail_syntax.specs.declared.expressions.Stmt.{Stmt}
use Rattle.shape_forms.proofs.Left.{inside_trans}
use Rattle.shape_statements.proofs.statements.push_statements.Goals as goal

pub loop-statement-preserved : goal.loop-statement-preserved
loop-statement-preserved g c =
    let setting = setting_of c.args.around.now in
    let all = c.args.statements.now in
    let i = c.loop-statement.statement-index in
    let one = c.statement-item.result in
    let names = c.loop-statement.locals in
    let made = c.loop-statement.made in
    let parts = c.loop-statement.parts in
    let old = c.loop-statement.first.error in
    let rest : drop i all ≡ one ∷ drop (i + 1) all =
    drop_more all i one c.loop-statement-test.true ∙ ap (λ x. x ∷ drop (i + 1) all) (sym c.statement-item.is) in
    let found : Stated = statement_part one setting names in
    let left = map statement_part (drop (i + 1) all) in
    let more : Blocked = blocked left setting found.locals in
    let opened : blocked (map statement_part (drop i all)) setting names ≡ also_stated found more =
    ap (λ (ss : List Stmt). blocked (map statement_part ss) setting names) rest in
    let next : c.push_statement.new.locals ≡ found.locals = c.in_ok-now.ensures.locals in
    let pushed : c.push.new.self ≡ made ++ found.statement ∷ [] =
    c.in_ok-push.ensures.pushed ∙ ap (λ s. made ++ s ∷ []) c.in_ok-now.ensures.statement in
    record {
      inside = inside_trans c.push_statement.new.locals names c.args.locals.now c.in_ok-now.ensures.inside c.loop-statement.invariant.inside;
      locals = ap (λ (l : Locals). (blocked left setting l).locals) next
          ∙ sym (ap (λ (x : Blocked). x.locals) opened) ∙ c.loop-statement.invariant.locals;
      statements = (λ j. pushed j ++ (blocked left setting (next j)).statements) ∙ append_assoc made (found.statement ∷ []) more.statements
          ∙ ap (λ (x : Blocked). made ++ x.statements) (sym opened) ∙ c.loop-statement.invariant.statements;
      parts = (λ j. c.in_ok-now.ensures.parts j ++ (blocked left setting (next j)).parts) ∙ append_assoc parts (found.part ∷ []) more.parts
          ∙ ap (λ (x : Blocked). parts ++ x.parts) (sym opened) ∙ c.loop-statement.invariant.parts;
      failures = (λ j. first_failure (c.in_ok-now.ensures.failures j) (blocked left setting (next j)).faults)
          ∙ sym (first_failure_append old found.faults more.faults)
          ∙ ap (λ (x : Blocked). first_failure old x.faults) (sym opened) ∙ c.loop-statement.invariant.failures;
    }
