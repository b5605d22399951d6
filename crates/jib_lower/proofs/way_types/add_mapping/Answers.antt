use Rattle.std.proofs.Common.{◌≡◌, ◌∙◌, None, Some, ap, subst, sym, true}
use Rattle.std.proofs.lemmas.Result.{on_ok_weaker}
use Rattle.lowered_tables.proofs.Growing.{begins_here}
use Rattle.lowered_tables.specs.Built.{with_numbers}
use Rattle.lowered_steps.proofs.Lists.{got_item, got_none}
use Rattle.jib_lower.specs.Types.{all_in_nodes, in_mapping, types_in_mapping, types_in_nodes}
use Rattle.jib_lower.proofs.Unmade.{last_more}
use Rattle.jib_lower.proofs.way_types.add_mapping.Goals as goal

pub returns-in-Some-clause-known : goal.returns-in-Some-clause-known
returns-in-Some-clause-known c =
    on_ok_weaker c.add_nodes.result (λ (h : all_in_nodes c.add_nodes.new.table.numbered c.as_slice.result.now ≡ true).
    ap (in_mapping c.add_nodes.new.table.numbered)
    (got_item c.args.mappings.now c.args.at c.in-Some.nodes.now c.in-Some.ensures.lookup.0 c.in-Some.ensures.lookup.1)
    ∙ subst (λ nodes. all_in_nodes c.add_nodes.new.table.numbered nodes ≡ true) c.as_slice.ensures h) c.add_nodes.ensures.known

pub returns-in-Some-clause-grown : goal.returns-in-Some-clause-grown
returns-in-Some-clause-grown c = c.add_nodes.ensures.grown

pub returns-in-Some-clause-listed : goal.returns-in-Some-clause-listed
returns-in-Some-clause-listed c =
    on_ok_weaker c.add_nodes.result
    (λ (h : with_numbers c.args.types.now c.args.table.now.numbered (types_in_nodes c.as_slice.result.now) ≡ Some c.add_nodes.new.table.numbered).
    ap (with_numbers c.args.types.now c.args.table.now.numbered)
    (ap types_in_mapping (got_item c.args.mappings.now c.args.at c.in-Some.nodes.now c.in-Some.ensures.lookup.0 c.in-Some.ensures.lookup.1)
    ∙ ap types_in_nodes (sym c.as_slice.ensures)) ∙ h) c.add_nodes.ensures.listed

pub returns-in-Some-clause-left : goal.returns-in-Some-clause-left
returns-in-Some-clause-left c =
    last_more c.add_nodes.result
    (λ (h : with_numbers c.args.types.now c.args.table.now.numbered (types_in_nodes c.as_slice.result.now) ≡ None).
    ap (with_numbers c.args.types.now c.args.table.now.numbered)
    (ap types_in_mapping (got_item c.args.mappings.now c.args.at c.in-Some.nodes.now c.in-Some.ensures.lookup.0 c.in-Some.ensures.lookup.1)
    ∙ ap types_in_nodes (sym c.as_slice.ensures)) ∙ h) c.add_nodes.ensures.left

pub returns-in-None-clause-known : goal.returns-in-None-clause-known
returns-in-None-clause-known c = ap (in_mapping c.args.table.now.numbered) (got_none c.args.mappings.now c.args.at c.in-None.ensures.lookup.0)

pub returns-in-None-clause-grown : goal.returns-in-None-clause-grown
returns-in-None-clause-grown c = begins_here c.args.table.now.numbered

pub returns-in-None-clause-listed : goal.returns-in-None-clause-listed
returns-in-None-clause-listed c =
    ap (λ o. with_numbers c.args.types.now c.args.table.now.numbered (types_in_mapping o))
    (got_none c.args.mappings.now c.args.at c.in-None.ensures.lookup.0)
