use Rattle.std.proofs.Common.{◌≡◌, ◌+◌, length, map, sym, ap, ◌∙◌, subst, IfOk}
use Rattle.shape_rules.specs.Around.{setting_of}
use Rattle.shape_rules.specs.Expressions.{part}
use Rattle.shape_rules.specs.Targets.{callee_aimed, callee_counted}
use Rattle.shape_calls.specs.Ways.{aim_of}
use Rattle.shape_calls.specs.declared.targets.Aim.{Aim}
use Rattle.shape_walks.specs.Heads.{head_walk}
use Rattle.shape_walks.specs.Trees.{elaborates}
use Rattle.shape_walks.specs.Walks.{each_taken}
use Rattle.shape_walks.specs.declared.walks.Walk.{Walk}
use Rattle.shape_forms.specs.Aims.{solved_of}
use Rattle.shape_targets.proofs.AimedWalks.{counted_is, params_walk}
use Rattle.shape_targets.proofs.targets.aim_one.Goals as goal

pub returns-clause-aim : goal.returns-clause-aim
unfolding head_walk
returns-clause-aim g c =
    let setting = setting_of c.args.around.now in
    let names = c.args.locals.now in
    let name = c.args.name.now in
    let f = c.args.callee.now in
    let args = c.args.args.now in
    let many : length f.params ≡ length args + 1 = sym c.len-wanted.ensures ∙ c.if-wanted-found.false in
    let begun : c.in_ok-begun.begun ≡ params_walk f = c.in_ok-begun.ensures in
    let walk : c.in_ok-walk.walk ≡ each_taken (elaborates args) setting names (params_walk f) =
    c.in_ok-walk.ensures.walk ∙ ap (λ (w : Walk). each_taken (elaborates args) setting names w) begun in
    let same : aim_of (callee_aimed name f (length args) (solved_of c.in_ok-walk.walk)) ≡ aim_of (callee_counted name f (map part args) setting names) =
    ap (λ (w : Walk). aim_of (callee_aimed name f (length args) (solved_of w))) walk
    ∙ ap aim_of (sym (counted_is name f args setting names many)) in
    subst (λ (x : Aim). IfOk c.aim_callee.result (λ aim. aim ≡ x)) same c.aim_callee.ensures
