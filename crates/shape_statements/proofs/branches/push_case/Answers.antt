use Rattle.std.proofs.Common.{◌≡◌, sym, ap, ◌∙◌}
use Rattle.shape_rules.specs.Around.{setting_of}
use Rattle.shape_rules.specs.Findings.{first_failure}
use Rattle.shape_rules.specs.Scopes.{Locals, under}
use Rattle.sail_syntax.specs.declared.expressions.Case.{out-Case}
use Rattle.shape_walks.specs.Trees.{case_part}
use Rattle.shape_forms.specs.Steps.{case_faults}
use Rattle.sail_syntax.specs.declared.patterns.Pat.{Pat}
use Rattle.shape_rules.specs.Patterns.{Looked, look, no_widths}
use Rattle.shape_values.proofs.Noted.{noted_behind, on_ok_of}
use Rattle.shape_statements.proofs.Cases.{pattern_is}
use Rattle.shape_statements.proofs.branches.push_case.Goals as goal

pub returns-clause-failures : goal.returns-clause-failures
returns-clause-failures g c =
    let setting = setting_of c.args.around.now in
    let names = c.args.locals.now in
    let subject = c.args.subject.now in
    let one = case_part c.args.case.now in
    let old = c.args.first.now.error in
    let mid = c.enter_pattern.new.first.error in
    let found : Looked = look one.pattern setting no_widths subject in
    let opened : (out-Case c.args.case.now).pattern ≡ one.pattern = sym (pattern_is c.args.case.now) in
    let noted : mid ≡ first_failure old found.faults =
    c.in_ok-arm.ensures.failures ∙ ap (λ (p : Pat). first_failure old (look p setting no_widths subject).faults) opened in
    let scope : c.enter_pattern.new.locals ≡ under found.binds names =
    c.in_ok-arm.ensures.locals ∙ ap (λ (p : Pat). under (look p setting no_widths subject).binds names) opened in
    let last : c.push_body.new.first.error ≡ first_failure mid (case_faults one setting (under found.binds names) c.args.want) =
    c.in_ok-shape.ensures.failures ∙ ap (λ (l : Locals). first_failure mid (case_faults one setting l c.args.want)) scope in
    on_ok_of c.given_on.result (noted_behind old mid c.push_body.new.first.error found.faults
    (case_faults one setting (under found.binds names) c.args.want) noted last)
