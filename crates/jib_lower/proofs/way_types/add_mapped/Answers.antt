use Rattle.std.proofs.Common.{◌∙◌, ap, sym}
use Rattle.lowered_tables.specs.Built.{with_numbers}
use Rattle.jib_lower.specs.Types.{types_in_mapped}
use Rattle.jib_lower.proofs.Unmade.{exit_table}
use Rattle.jib_lower.proofs.way_types.add_mapped.Goals as goal

pub returns-clause-grown : goal.returns-clause-grown
returns-clause-grown c = c.in_ok-add_all.ensures.grown

pub returns-clause-listed : goal.returns-clause-listed
returns-clause-listed c =
    ap (λ x. with_numbers c.args.types.now c.args.table.now.numbered (types_in_mapped x)) (sym c.in_ok-mapped.ensures) ∙ c.in_ok-add_all.ensures.listed

pub returns-in_err-add_all-clause-left : goal.returns-in_err-add_all-clause-left
returns-in_err-add_all-clause-left c =
    exit_table _ _ c.from_residual-in_err-add_all.ensures.1
    (λ none. ap (λ x. with_numbers c.args.types.now c.args.table.now.numbered (types_in_mapped x)) (sym c.in_ok-mapped.ensures) ∙ none)
    c.in_err-add_all.ensures.left
