use Rattle.std.proofs.Common.{◌≡◌, List, sym, ap, ◌∙◌, [], subst, IfOk, Option, None}
use Rattle.shape_rules.specs.Around.{setting_of}
use Rattle.shape_rules.specs.Findings.{first_failure}
use Rattle.sail_types.specs.declared.shapes.Shape.{Shape}
use Rattle.shape_walks.specs.Trees.{elaborates}
use Rattle.shape_rules.specs.Targets.{callees_of, one_of}
use Rattle.shape_walks.specs.declared.walks.Walk.{Walk}
use Rattle.shape_walks.specs.Walks.{each_taken, each_faults, begun}
use Rattle.std.specs.Option.{option_copied}
use Rattle.shape_calls.specs.declared.targets.Aim.{Aim}
use Rattle.shape_walks.specs.declared.walks.Plan.TheVariants as P
use Rattle.shape_targets.proofs.AimedWalks.{several_aim, several_noted}
use Rattle.shape_rules.specs.declared.callees.Meant.{Meant}
use Rattle.shape_targets.proofs.targets.aim_read.Goals as goal

pub returns-clause-aim : goal.returns-clause-aim
returns-clause-aim g c =
    let setting = setting_of c.args.around.now in
    let names = c.args.locals.now in
    let name = c.args.name.now in
    let args = c.args.args.now in
    let fs = c.as_slice-callees.result.now in
    let walk = c.in_ok-walk-in-None.walk in
    let meant : option_copied c.value-meant.result ≡ setting.value name.text = c.value-meant.ensures ∙ ap setting.value c.as_str.ensures in
    let same : fs ≡ callees_of setting.types (setting.value name.text) =
    c.as_slice-callees.ensures ∙ c.in_ok-held.ensures ∙ ap (callees_of setting.types) meant in
    let none : one_of (setting.value name.text) fs ≡ None =
    ap (λ (m : Option Meant). one_of m fs) (sym meant) ∙ sym c.one_of.ensures ∙ ap option_copied c.in-None.is in
    let started : c.new-begun.result ≡ begun (P.Each []) = c.new-begun.ensures ∙ ap (λ (ss : List Shape). begun (P.Each ss)) c.new.ensures in
    let found : walk ≡ each_taken (elaborates args) setting names (begun (P.Each [])) =
    c.in_ok-walk-in-None.ensures.walk ∙ ap (λ (w : Walk). each_taken (elaborates args) setting names w) started in
    subst (λ (x : Aim). IfOk c.read_member.result (λ aim. aim ≡ x)) (several_aim name args setting names fs walk same none found)
    c.read_member.ensures.aim

pub returns-clause-failures : goal.returns-clause-failures
returns-clause-failures g c =
    let setting = setting_of c.args.around.now in
    let names = c.args.locals.now in
    let name = c.args.name.now in
    let args = c.args.args.now in
    let old = c.args.first.now.error in
    let mid = c.push_all.new.first.error in
    let fs = c.as_slice-callees.result.now in
    let walk = c.in_ok-walk-in-None.walk in
    let meant : option_copied c.value-meant.result ≡ setting.value name.text = c.value-meant.ensures ∙ ap setting.value c.as_str.ensures in
    let same : fs ≡ callees_of setting.types (setting.value name.text) =
    c.as_slice-callees.ensures ∙ c.in_ok-held.ensures ∙ ap (callees_of setting.types) meant in
    let none : one_of (setting.value name.text) fs ≡ None =
    ap (λ (m : Option Meant). one_of m fs) (sym meant) ∙ sym c.one_of.ensures ∙ ap option_copied c.in-None.is in
    let started : c.new-begun.result ≡ begun (P.Each []) = c.new-begun.ensures ∙ ap (λ (ss : List Shape). begun (P.Each ss)) c.new.ensures in
    let found : walk ≡ each_taken (elaborates args) setting names (begun (P.Each [])) =
    c.in_ok-walk-in-None.ensures.walk ∙ ap (λ (w : Walk). each_taken (elaborates args) setting names w) started in
    let noted : mid ≡ first_failure old (each_faults (elaborates args) setting names (begun (P.Each []))) =
    c.in_ok-walk-in-None.ensures.failures ∙ ap (λ (w : Walk). first_failure old (each_faults (elaborates args) setting names w)) started in
    several_noted c.read_member.result old mid c.read_member.new.first.error name args setting names fs walk same none found noted
    c.read_member.ensures.failures
