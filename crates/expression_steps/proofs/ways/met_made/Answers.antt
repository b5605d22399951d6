use Rattle.std.proofs.Common.{◌≡◌, ◌∙◌, None, Option, Some, ap, sym}
use Rattle.std.specs.Option.{option_copied}
use Rattle.value_indices.specs.Walking.{got, run, seen}
use Rattle.value_indices.specs.declared.indices.Reading.{Reading}
use Rattle.pattern_leaves.specs.Settings.{around_of}
use Rattle.call_arguments.specs.Aims.{wanted}
use Rattle.expression_steps.specs.Statements.{met_made}
use Rattle.expression_steps.proofs.Conditions.{value_same, walked_same}
use Rattle.expression_steps.proofs.ways.met_made.Goals as goal

pub returns-in-None-clause-value : goal.returns-in-None-clause-value
returns-in-None-clause-value c =
    let is : wanted c.args.aim.now ≡ None = sym c.wanted.ensures ∙ ap option_copied c.in-None.is in
    value_same c.made_freely.result _ _
    (ap (λ (r : Option Reading). got (met_made (around_of c.args.around.now) c.args.place c.args.number c.args.shape.now r c.args.before (option_copied
    c.args.first)) (seen c.args.walking.now)) (sym is))
    c.made_freely.ensures.value

pub returns-in-None-clause-walked : goal.returns-in-None-clause-walked
returns-in-None-clause-walked c =
    let is : wanted c.args.aim.now ≡ None = sym c.wanted.ensures ∙ ap option_copied c.in-None.is in
    walked_same c.made_freely.result _ _ _
    (ap (λ (r : Option Reading). run (met_made (around_of c.args.around.now) c.args.place c.args.number c.args.shape.now r c.args.before (option_copied
    c.args.first)) (seen c.args.walking.now)) (sym is))
    c.made_freely.ensures.walked

pub returns-in-Some-clause-value : goal.returns-in-Some-clause-value
returns-in-Some-clause-value c =
    let is : wanted c.args.aim.now ≡ Some c.in-Some.wanted.now = sym c.wanted.ensures ∙ ap option_copied c.in-Some.is in
    value_same c.made_wanted.result _ _
    (ap (λ (r : Option Reading). got (met_made (around_of c.args.around.now) c.args.place c.args.number c.args.shape.now r c.args.before (option_copied
    c.args.first)) (seen c.args.walking.now)) (sym is))
    c.made_wanted.ensures.value

pub returns-in-Some-clause-walked : goal.returns-in-Some-clause-walked
returns-in-Some-clause-walked c =
    let is : wanted c.args.aim.now ≡ Some c.in-Some.wanted.now = sym c.wanted.ensures ∙ ap option_copied c.in-Some.is in
    walked_same c.made_wanted.result _ _ _
    (ap (λ (r : Option Reading). run (met_made (around_of c.args.around.now) c.args.place c.args.number c.args.shape.now r c.args.before (option_copied
    c.args.first)) (seen c.args.walking.now)) (sym is))
    c.made_wanted.ensures.walked
