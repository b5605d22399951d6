use Rattle.std.proofs.Common.{◌∙◌, ap, arith, map, sym, Bool, List}
use Rattle.std.specs.Prelude.{◌&&◌}
use Rattle.sail_core.specs.declared.tree.Core.{Core, fold_out-Core, out-Core}
use Rattle.lowered_laws.specs.Returning.{all_so, returns_nothing, stays_here}
use Rattle.lowered_steps.proofs.Lists.{first_of, none_of}
use Rattle.jib_lower.proofs.Trees.{mass_opens, mass_some, rest_mass}
use Rattle.jib_lower.proofs.turned.+returns_nothing.Goals as goal

pub returns_nothing-all_return_nothing-rest-requires : goal.returns_nothing-all_return_nothing-rest-requires
returns_nothing-all_return_nothing-rest-requires t c = (omega (arith, mass_opens c.args.tree.now _ c.as_slice-parts.ensures, c.decreases), tt)

pub all_return_nothing-returns_nothing-one-requires : goal.all_return_nothing-returns_nothing-one-requires
all_return_nothing-returns_nothing-one-requires t c = (omega (arith, rest_mass _ _ c.in-len1-up.len_at_least c.first-item.is, c.decreases), tt)

pub all_return_nothing-all_return_nothing-others-requires : goal.all_return_nothing-all_return_nothing-others-requires
all_return_nothing-all_return_nothing-others-requires t c =
    (omega (arith, rest_mass _ _ c.in-len1-up.len_at_least c.first-item.is, mass_some c.first-item.result, c.decreases), tt)

pub returns_nothing-returns : goal.returns_nothing-returns
returns_nothing-returns t c =
    let tree = out-Core c.args.tree.now in
    c.both.ensures ∙ (λ i. c.stays_here-here.ensures i && c.all_return_nothing-rest.ensures i)
    ∙ ap (λ (cs : List Core). stays_here tree.kind && all_so (map returns_nothing cs)) c.as_slice-parts.ensures
    ∙ sym (fold_out-Core Bool (λ x. stays_here x.kind && all_so x.parts) c.args.tree.now)

pub all_return_nothing-returns-in-empty : goal.all_return_nothing-returns-in-empty
all_return_nothing-returns-in-empty t c = ap (λ (cs : List Core). all_so (map returns_nothing cs)) (sym (none_of c.args.trees.now c.in-empty.len_below))

pub all_return_nothing-returns-in-len1-up : goal.all_return_nothing-returns-in-len1-up
all_return_nothing-returns-in-len1-up t c =
    c.both.ensures ∙ (λ i. c.returns_nothing-one.ensures i && c.all_return_nothing-others.ensures i)
    ∙ ap (λ (cs : List Core). all_so (map returns_nothing cs))
    (sym (first_of c.args.trees.now c.first-item.result c.in-len1-up.len_at_least c.first-item.is))
