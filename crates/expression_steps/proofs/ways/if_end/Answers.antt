use Rattle.std.proofs.Common.{◌≡◌, ◌∙◌, sym, ap, subst, IfOk, OnOk}
use Rattle.value_indices.specs.Steps.{Walk}
use Rattle.value_indices.specs.Walking.{got, run, seen}
use Rattle.value_indices.specs.declared.indices.Indices.{Indices}
use Rattle.pattern_leaves.specs.Settings.{around_of}
use Rattle.call_arguments.specs.Aims.{branch_aim}
use Rattle.call_notes.specs.Ends.{settled}
use Rattle.expression_steps.specs.Coded.{each_part}
use Rattle.expression_steps.specs.Statements.{if_end, value_met}
use Rattle.expression_steps.proofs.BranchEnds.{alone_got, alone_run, if_given, when_settled}
use Rattle.expression_steps.proofs.ways.if_end.Goals as goal

pub returns-in-len2-clause-value : goal.returns-in-len2-clause-value
returns-in-len2-clause-value c =
    let around = around_of c.args.around.now in
    let v = seen c.args.walking.now in
    let is = ap (settled around c.args.place (branch_aim c.args.aim.now)) c.value_met.ensures
    ∙ sym (when_settled c.args.place c.args.parts.now around c.args.aim.now c.args.met c.in-len2.len_at_least c.in-len2.len_below) in
    subst (λ (a : Walk Indices). IfOk c.end_when.result (λ made. made ≡ got a v)) is c.end_when.ensures.value

pub returns-in-len2-clause-walked : goal.returns-in-len2-clause-walked
returns-in-len2-clause-walked c =
    let around = around_of c.args.around.now in
    let v = seen c.args.walking.now in
    let is = ap (settled around c.args.place (branch_aim c.args.aim.now)) c.value_met.ensures
    ∙ sym (when_settled c.args.place c.args.parts.now around c.args.aim.now c.args.met c.in-len2.len_at_least c.in-len2.len_below) in
    subst (λ (a : Walk Indices). OnOk c.end_when.result (seen c.end_when.new.walking ≡ run a v)) is c.end_when.ensures.walked

pub returns-in-len3-clause-value : goal.returns-in-len3-clause-value
returns-in-len3-clause-value c =
    let around = around_of c.args.around.now in
    c.value_met-in-len3.ensures
    ∙ alone_got (if_end c.args.place (each_part c.args.parts.now) around c.args.aim.now c.args.met) (value_met c.args.met) (seen c.args.walking.now)
    (if_given c.args.place c.args.parts.now around c.args.aim.now c.args.met c.in-len3.len_at_least c.in-len3.len_below)

pub returns-in-len3-clause-walked : goal.returns-in-len3-clause-walked
returns-in-len3-clause-walked c =
    let around = around_of c.args.around.now in
    alone_run (if_end c.args.place (each_part c.args.parts.now) around c.args.aim.now c.args.met) (value_met c.args.met) (seen c.args.walking.now)
    (if_given c.args.place c.args.parts.now around c.args.aim.now c.args.met c.in-len3.len_at_least c.in-len3.len_below)
