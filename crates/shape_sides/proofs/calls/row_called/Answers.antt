use Rattle.std.proofs.Common.{◌≡◌, List, map, sym, ap, ◌∙◌, subst, IfOk, OnOk}
use Rattle.sail_types.specs.declared.members.Member.{Member}
use Rattle.sail_types.specs.Rows.{row_members as row_members_of}
use Rattle.shape_rules.specs.declared.callees.Candidate.{Candidate}
use Rattle.shape_rules.specs.Around.{setting_of}
use Rattle.shape_rules.specs.Calls as calls
use Rattle.shape_rules.specs.Findings.{Found, first_failure}
use Rattle.shape_rules.specs.Values as values
use Rattle.shape_calls.specs.Made.{made_of}
use Rattle.shape_sides.specs.Trees.{elaborates}
use Rattle.shape_sides.proofs.Called.{row_one}
use Rattle.shape_sides.proofs.calls.row_called.Goals as goal

pub returns-in-len1-clause-made : goal.returns-in-len1-clause-made
returns-in-len1-clause-made g c =
    let place = c.args.name.now.place in
    let text = c.args.name.now.text in
    let setting = setting_of c.args.around.now in
    let names = c.args.locals.now in
    let want = c.args.want.now in
    let args = elaborates c.args.parts.now in
    let unit = values.unit_found place in
    let only = c.member-item.result in
    let all = row_members_of c.args.around.now.types.now c.args.row in
    let same : calls.row_called place text (map calls.member_candidate all) unit args setting names want
    ≡ calls.one_called place c.in_ok-callee-in-len1.callee (calls.arguments_for unit c.in_ok-callee-in-len1.callee.params args) setting names want =
    ap (λ (ms : List Member). calls.row_called place text (map calls.member_candidate ms) unit args setting names want)
    (sym (c.as_slice.ensures ∙ c.in_ok-members.ensures))
    ∙ row_one place text c.as_slice.result.now only unit args setting names want c.in-len1.len_at_least c.in-len1.len_below c.member-item.is
    ∙ ap (λ (f : Candidate). calls.one_called place f (calls.arguments_for unit f.params args) setting names want) (sym c.in_ok-callee-in-len1.ensures) in
    subst (λ (found : Found). IfOk c.listed.result (λ made. made ≡ made_of found)) (sym same) c.listed.ensures.made

pub returns-in-len1-clause-failures : goal.returns-in-len1-clause-failures
returns-in-len1-clause-failures g c =
    let place = c.args.name.now.place in
    let text = c.args.name.now.text in
    let setting = setting_of c.args.around.now in
    let names = c.args.locals.now in
    let want = c.args.want.now in
    let args = elaborates c.args.parts.now in
    let unit = values.unit_found place in
    let only = c.member-item.result in
    let all = row_members_of c.args.around.now.types.now c.args.row in
    let same : calls.row_called place text (map calls.member_candidate all) unit args setting names want
    ≡ calls.one_called place c.in_ok-callee-in-len1.callee (calls.arguments_for unit c.in_ok-callee-in-len1.callee.params args) setting names want =
    ap (λ (ms : List Member). calls.row_called place text (map calls.member_candidate ms) unit args setting names want)
    (sym (c.as_slice.ensures ∙ c.in_ok-members.ensures))
    ∙ row_one place text c.as_slice.result.now only unit args setting names want c.in-len1.len_at_least c.in-len1.len_below c.member-item.is
    ∙ ap (λ (f : Candidate). calls.one_called place f (calls.arguments_for unit f.params args) setting names want) (sym c.in_ok-callee-in-len1.ensures) in
    subst (λ (found : Found). OnOk c.listed.result (c.listed.new.first.error ≡ first_failure c.args.first.now.error found.faults)) (sym same)
    c.listed.ensures.failures
