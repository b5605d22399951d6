use Rattle.std.proofs.Common.{◌≡◌, List, sym, ap, ◌∙◌, None}
use Rattle.shape_rules.specs.Around.{setting_of}
use Rattle.shape_rules.specs.Findings.{first_failure}
use Rattle.shape_rules.proofs.Firsts.{first_failure_append}
use Rattle.shape_rules.specs.Statements.{inner_faults, chained_faults}
use Rattle.shape_walks.specs.Trees.{target_part, further_part}
use Rattle.shape_values.proofs.Noted.{on_ok_of}
use Rattle.shape_rules.specs.declared.error.ShapeError.{ShapeError}
use Rattle.shape_rules.specs.Targets.{Aimed}
use Rattle.shape_calls.specs.Apart.{note_of}
use Rattle.shape_calls.proofs.Apart.{noted_apart}
use Rattle.shape_calls.specs.declared.targets.Aim.{Aim}
use Rattle.shape_targets.proofs.CallTargets.{further_to, further_place}
use Rattle.shape_targets.proofs.targets.push_further.Goals as goal

pub returns-clause-failures : goal.returns-clause-failures
returns-clause-failures g c =
    let setting = setting_of c.args.around.now in
    let names = c.args.locals.now in
    let want = c.args.want.now in
    let old = c.args.first.now.error in
    let f = c.args.further.now in
    let a : Aimed = (further_part f).to.aim setting names in
    let inner : List ShapeError = inner_faults (further_part f).place want a.answer in
    let aimed : (target_part c.get.result.now).aim setting names ≡ a = further_to f setting names c.get.result.now c.get.ensures in
    let answer : c.in_ok-aim.aim.answer ≡ a.answer = ap (λ (x : Aim). x.answer) c.in_ok-aim.ensures.aim ∙ ap (λ (x : Aimed). x.answer) aimed in
    let faults : List ShapeError = chained_faults (further_part f).place a in
    let apart : c.aim_chained.new.first.error ≡ first_failure None faults =
    c.in_ok-aim.ensures.failures ∙ (λ j. first_failure (c.none-apart.ensures j) (chained_faults (further_place f j) (aimed j))) in
    on_ok_of c.into_shape.result
    (c.in_ok-note_inner.ensures
    ∙ (λ j. note_of (first_failure old (inner_faults (further_place f j) want (answer j))) (apart j))
    ∙ noted_apart (first_failure old inner) faults ∙ sym (first_failure_append old inner faults))
