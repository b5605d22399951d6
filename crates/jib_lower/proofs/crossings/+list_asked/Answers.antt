use Rattle.std.proofs.Common.{◌≡◌, ◌∙◌, ◌++◌, ℕ, List, ap, arith, map, sym}
use Rattle.std.proofs.lemmas.Result.{on_ok_weaker}
use Rattle.sail_core.specs.declared.tree.Core.{Core, fold_out-Core, out-Core}
use Rattle.lowered_steps.proofs.Lists.{first_of, none_of, others}
use Rattle.lowered_typed.proofs.Pushed.{joined as joins, none}
use Rattle.jib_lower.specs.Crossings.{asked_here, asked_in, joined}
use Rattle.jib_lower.proofs.Trees.{mass_opens, mass_some, rest_mass}
use Rattle.jib_lower.proofs.crossings.+list_asked.Goals as goal

pub list_asked-list_all_asked-requires : goal.list_asked-list_all_asked-requires
list_asked-list_all_asked-requires t c = (omega (arith, mass_opens c.args.tree.now _ c.as_slice-parts.ensures, c.decreases), tt)

pub list_asked-returns : goal.list_asked-returns
list_asked-returns t c =
    let tree = out-Core c.args.tree.now in
    on_ok_weaker c.list_all_asked.result
    (λ (e : c.list_all_asked.new.asked ≡ c.push_asked.new.asked ++ joined (map asked_in c.as_slice-parts.result.now)).
    joins c.args.asked.now c.push_asked.new.asked c.list_all_asked.new.asked (asked_here tree.kind) (joined (map asked_in c.as_slice-parts.result.now))
    (asked_in c.args.tree.now) c.in_ok-push_asked.ensures e
    (fold_out-Core (List ℕ) (λ x. asked_here x.kind ++ joined x.parts) c.args.tree.now
    ∙ ap (λ (cs : List Core). asked_here tree.kind ++ joined (map asked_in cs)) (sym c.as_slice-parts.ensures)))
    c.list_all_asked.ensures

pub list_all_asked-list_asked-requires : goal.list_all_asked-list_asked-requires
list_all_asked-list_asked-requires t c = (omega (arith, rest_mass _ _ c.in-len1-up.len_at_least c.first-item.is, c.decreases), tt)

pub list_all_asked-list_all_asked-requires : goal.list_all_asked-list_all_asked-requires
list_all_asked-list_all_asked-requires t c =
    (omega (arith, rest_mass _ _ c.in-len1-up.len_at_least c.first-item.is, mass_some c.first-item.result, c.decreases), tt)

pub list_all_asked-returns-in-empty : goal.list_all_asked-returns-in-empty
list_all_asked-returns-in-empty t c =
    none c.args.asked.now (joined (map asked_in c.args.trees.now))
    (ap (λ (cs : List Core). joined (map asked_in cs)) (none_of c.args.trees.now c.in-empty.len_below))

pub list_all_asked-returns-in_ok-list_asked-in-len1-up : goal.list_all_asked-returns-in_ok-list_asked-in-len1-up
list_all_asked-returns-in_ok-list_asked-in-len1-up t c =
    let rest : List Core = others c.args.trees.now in
    on_ok_weaker c.list_all_asked.result
    (λ (e : c.list_all_asked.new.asked ≡ c.list_asked.new.asked ++ joined (map asked_in rest)).
    joins c.args.asked.now c.list_asked.new.asked c.list_all_asked.new.asked (asked_in c.first-item.result) (joined (map asked_in rest))
    (joined (map asked_in c.args.trees.now)) c.in_ok-list_asked-in-len1-up.ensures e
    (ap (λ (cs : List Core). joined (map asked_in cs)) (first_of c.args.trees.now c.first-item.result c.in-len1-up.len_at_least c.first-item.is)))
    c.list_all_asked.ensures
