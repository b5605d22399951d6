use Rattle.std.proofs.Common.{◌≡◌, ◌∙◌, ◌++◌, List, ap, arith, map, sym}
use Rattle.std.proofs.lemmas.Result.{on_ok_weaker}
use Rattle.sail_core.specs.declared.tree.Core.{Core, fold_out-Core, out-Core}
use Rattle.lowered_steps.proofs.Lists.{first_of, none_of, others}
use Rattle.lowered_typed.proofs.Pushed.{joined as joins, none}
use Rattle.jib_lower.specs.Reads.{Read, joined, read_here, read_in, read_of}
use Rattle.jib_lower.proofs.Trees.{mass_opens, mass_some, rest_mass}
use Rattle.jib_lower.proofs.reads.+list_read.Goals as goal

pub list_read-list_all_read-requires : goal.list_read-list_all_read-requires
list_read-list_all_read-requires t c = (omega (arith, mass_opens c.args.tree.now _ c.as_slice-parts.ensures, c.decreases), tt)

pub list_read-returns : goal.list_read-returns
list_read-returns t c =
    let tree = out-Core c.args.tree.now in
    on_ok_weaker c.list_all_read.result
    (λ (e : map read_of c.list_all_read.new.found ≡ map read_of c.push_read.new.found ++ joined (map read_in c.as_slice-parts.result.now)).
    joins (map read_of c.args.found.now) (map read_of c.push_read.new.found) (map read_of c.list_all_read.new.found) (read_here tree.number tree.kind)
    (joined (map read_in c.as_slice-parts.result.now)) (read_in c.args.tree.now) c.in_ok-push_read.ensures e
    (fold_out-Core (List Read) (λ x. read_here x.number x.kind ++ joined x.parts) c.args.tree.now
    ∙ ap (λ (cs : List Core). read_here tree.number tree.kind ++ joined (map read_in cs)) (sym c.as_slice-parts.ensures)))
    c.list_all_read.ensures

pub list_all_read-list_read-requires : goal.list_all_read-list_read-requires
list_all_read-list_read-requires t c = (omega (arith, rest_mass _ _ c.in-len1-up.len_at_least c.first-item.is, c.decreases), tt)

pub list_all_read-list_all_read-requires : goal.list_all_read-list_all_read-requires
list_all_read-list_all_read-requires t c =
    (omega (arith, rest_mass _ _ c.in-len1-up.len_at_least c.first-item.is, mass_some c.first-item.result, c.decreases), tt)

pub list_all_read-returns-in-empty : goal.list_all_read-returns-in-empty
list_all_read-returns-in-empty t c =
    none (map read_of c.args.found.now) (joined (map read_in c.args.trees.now))
    (ap (λ (cs : List Core). joined (map read_in cs)) (none_of c.args.trees.now c.in-empty.len_below))

pub list_all_read-returns-in_ok-list_read-in-len1-up : goal.list_all_read-returns-in_ok-list_read-in-len1-up
list_all_read-returns-in_ok-list_read-in-len1-up t c =
    let rest : List Core = others c.args.trees.now in
    on_ok_weaker c.list_all_read.result
    (λ (e : map read_of c.list_all_read.new.found ≡ map read_of c.list_read.new.found ++ joined (map read_in rest)).
    joins (map read_of c.args.found.now) (map read_of c.list_read.new.found) (map read_of c.list_all_read.new.found) (read_in c.first-item.result)
    (joined (map read_in rest)) (joined (map read_in c.args.trees.now)) c.in_ok-list_read-in-len1-up.ensures e
    (ap (λ (cs : List Core). joined (map read_in cs)) (first_of c.args.trees.now c.first-item.result c.in-len1-up.len_at_least c.first-item.is)))
    c.list_all_read.ensures
