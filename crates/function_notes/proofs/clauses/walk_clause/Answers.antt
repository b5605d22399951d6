use Rattle.std.proofs.Common.{List, map, ap, ◌∙◌}
use Rattle.sail_core.specs.declared.patterns.Pattern.{Pattern}
use Rattle.value_indices.specs.Walking.{got, run, seen}
use Rattle.pattern_leaves.proofs.Walked.{then_got, then_run}
use Rattle.pattern_leaves.specs.Settings.{around_of, exponents_owed}
use Rattle.expression_notes.specs.Patterns.{look, looks, arm_match}
use Rattle.call_notes.specs.Noted.{names_given}
use Rattle.expression_notes.specs.Parts.{Part}
use Rattle.function_notes.specs.Functions.{parameters_opened, in_clause, body_part, clause_names}
use Rattle.function_notes.proofs.Chained.{chained_run, chained_got}
use Rattle.function_notes.proofs.clauses.walk_clause.Goals as goal

pub returns-clause-value : goal.returns-clause-value
returns-clause-value c =
    let around = around_of c.args.around.now in
    let common = c.args.common.now in
    let arm = c.args.arm.now in
    let first = λ (ps : List Pattern). parameters_opened (map look ps) around.numbers common.types.now in
    let v = seen c.remember.new.self in
    let given = c.as_slice-given.result.now in
    let meeting = arm_match common.place arm around in_clause given in
    let s = seen c.owe_exponents.new.walking in
    let r = seen c.match_arm.new.walking in
    let matched = c.in_ok-matched.matched in
    let finds = c.in_ok-found.ensures.value ∙ then_got meeting (names_given c.args.giver given) s r matched c.in_ok-matched.ensures.found
    c.in_ok-matched.ensures.walked in
    let meets = c.in_ok-found.ensures.walked ∙ then_run meeting (names_given c.args.giver given) s r matched c.in_ok-matched.ensures.found
    c.in_ok-matched.ensures.walked in
    chained_got (parameters_opened (looks arm) around.numbers common.types.now) (exponents_owed around c.args.once.now)
    (clause_names common.place c.args.giver around arm)
    (λ found. Part.walk (body_part common.is_declared c.args.body.now) around found common.aim.now)
    (seen c.args.walking.now) v (seen c.open_parameters.new.walking) (seen c.owe_exponents.new.walking) (seen c.names_given.new.walking)
    given c.as_slice.result.now c.in_ok-remember.ensures
    (c.as_slice-given.ensures ∙ (c.in_ok-values.ensures.value ∙ ap (λ ps. got (first ps) v) c.patterns_of.ensures))
    (c.in_ok-values.ensures.walked ∙ ap (λ ps. run (first ps) v) c.patterns_of.ensures)
    c.in_ok-owe_exponents.ensures (c.as_slice.ensures ∙ finds) meets
    _ c.in_ok-value.ensures.value

pub returns-clause-walked : goal.returns-clause-walked
returns-clause-walked c =
    let around = around_of c.args.around.now in
    let common = c.args.common.now in
    let arm = c.args.arm.now in
    let first = λ (ps : List Pattern). parameters_opened (map look ps) around.numbers common.types.now in
    let v = seen c.remember.new.self in
    let given = c.as_slice-given.result.now in
    let meeting = arm_match common.place arm around in_clause given in
    let s = seen c.owe_exponents.new.walking in
    let r = seen c.match_arm.new.walking in
    let matched = c.in_ok-matched.matched in
    let finds = c.in_ok-found.ensures.value ∙ then_got meeting (names_given c.args.giver given) s r matched c.in_ok-matched.ensures.found
    c.in_ok-matched.ensures.walked in
    let meets = c.in_ok-found.ensures.walked ∙ then_run meeting (names_given c.args.giver given) s r matched c.in_ok-matched.ensures.found
    c.in_ok-matched.ensures.walked in
    chained_run (parameters_opened (looks arm) around.numbers common.types.now) (exponents_owed around c.args.once.now)
    (clause_names common.place c.args.giver around arm)
    (λ found. Part.walk (body_part common.is_declared c.args.body.now) around found common.aim.now)
    (seen c.args.walking.now) v (seen c.open_parameters.new.walking) (seen c.owe_exponents.new.walking) (seen c.names_given.new.walking)
    given c.as_slice.result.now c.in_ok-remember.ensures
    (c.as_slice-given.ensures ∙ (c.in_ok-values.ensures.value ∙ ap (λ ps. got (first ps) v) c.patterns_of.ensures))
    (c.in_ok-values.ensures.walked ∙ ap (λ ps. run (first ps) v) c.patterns_of.ensures)
    c.in_ok-owe_exponents.ensures (c.as_slice.ensures ∙ finds) meets
    (seen c.walk_body.new.walking) (seen c.restore.new.self) c.in_ok-value.ensures.walked c.in_ok-restore.ensures
