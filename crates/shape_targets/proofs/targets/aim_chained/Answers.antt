use Rattle.std.proofs.Common.{◌≡◌, List, sym, ap, ◌∙◌, Option, None}
use Rattle.shape_rules.specs.Around.{setting_of}
use Rattle.shape_rules.specs.Findings.{first_failure}
use Rattle.shape_rules.proofs.Firsts.{first_failure_append}
use Rattle.shape_rules.specs.Statements.{any_failed, answer_faults}
use Rattle.shape_walks.specs.Trees.{target_part}
use Rattle.shape_rules.specs.declared.error.ShapeError.{ShapeError}
use Rattle.shape_rules.specs.Targets.{Aimed}
use Rattle.std.specs.Prelude.{is_some}
use Rattle.shape_calls.specs.Apart.{note_of}
use Rattle.shape_calls.proofs.Apart.{noted_apart}
use Rattle.shape_calls.specs.declared.targets.Aim.{Aim}
use Rattle.shape_targets.proofs.targets.aim_chained.Goals as goal

pub returns-clause-failures : goal.returns-clause-failures
returns-clause-failures g c =
    let setting = setting_of c.args.around.now in
    let names = c.args.locals.now in
    let old = c.args.first.now.error in
    let a : Aimed = (target_part c.args.target.now).aim setting names in
    let open_left : List ShapeError = answer_faults c.args.place (any_failed a.faults) a.answer in
    let answer : c.in_ok-aim.aim.answer ≡ a.answer = ap (λ (x : Aim). x.answer) c.in_ok-aim.ensures.aim in
    let apart : c.aim.new.first.error ≡ first_failure None a.faults =
    c.in_ok-aim.ensures.failures ∙ ap (λ (kept : Option ShapeError). first_failure kept a.faults) c.none-apart.ensures in
    let failed : c.is_some.result ≡ any_failed a.faults = c.is_some.ensures ∙ ap is_some apart in
    let noted : c.note_answer.new.first.error ≡ first_failure old open_left =
    c.note_answer.ensures ∙ (λ j. first_failure old (answer_faults c.args.place (failed j) (answer j))) in
    c.note_apart.ensures ∙ (λ j. note_of (noted j) (apart j)) ∙ noted_apart (first_failure old open_left) a.faults
    ∙ sym (first_failure_append old open_left a.faults)
