use Rattle.std.proofs.Common.{◌≡◌, List, sym, ap, ◌∙◌}
use Rattle.shape_rules.specs.Around.{setting_of}
use Rattle.shape_rules.specs.Findings.{first_failure}
use Rattle.shape_rules.specs.Scopes.{Locals}
use Rattle.shape_values.proofs.Noted.{noted_behind}
use Rattle.shape_statements.proofs.Cases.{guarded_faults}
use Rattle.sail_types.specs.declared.shapes.Shape.TheVariants as V
use Rattle.shape_rules.specs.declared.error.ShapeError.{ShapeError}
use Rattle.shape_rules.specs.Expressions.{elaborate as elaborated}
use Rattle.shape_statements.proofs.branches.push_body.Goals as goal

pub returns-in_ok-push-in-Some-clause-failures : goal.returns-in_ok-push-in-Some-clause-failures
returns-in_ok-push-in-Some-clause-failures g c =
    let setting = setting_of c.args.around.now in
    let names = c.args.locals.now in
    let want = c.args.want.now in
    let guard = c.get-guard.result.now in
    let body = c.get-body.result.now in
    let mid = c.push_part.new.first.error in
    let same : c.push_part.new.locals ≡ names = c.in_ok-push_part-in-Some.ensures.locals in
    let last : c.push_cast-in-Some.new.first.error ≡ first_failure mid (elaborated body setting names want).faults =
    c.in_ok-shape-in-Some.ensures.failures ∙ ap (λ (l : Locals). first_failure mid (elaborated body setting l want).faults) same in
    noted_behind c.args.first.now.error mid c.push_cast-in-Some.new.first.error (elaborated guard setting names V.Bool).faults
    (elaborated body setting names want).faults c.in_ok-push_part-in-Some.ensures.failures last
    ∙ ap (λ (es : List ShapeError). first_failure c.args.first.now.error es)
    (sym (guarded_faults c.args.case.now _ guard body setting names want c.in-Some.is c.get-guard.ensures c.get-body.ensures))
