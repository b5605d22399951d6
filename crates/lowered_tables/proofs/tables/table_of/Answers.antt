use Rattle.std.proofs.Common.{◌≡◌, map, subst, true}
use Rattle.lowered_tables.specs.Built.{SomeNoValueType, all_inside, value_at}
use Rattle.lowered_tables.proofs.Growing.{all_stand, exit_more}
use Rattle.lowered_tables.proofs.tables.table_of.Goals as goal

pub returns-clause-stands : goal.returns-clause-stands
returns-clause-stands c =
    let e = c.in_ok-values.ensures in
    let ss = c.args.list.numbered in
    all_stand c.args.types.now ss c.in_ok-values.values c.requires
    (subst (λ us. c.in_ok-values.values ≡ map (value_at c.args.types.now us) us) c.as_slice.ensures e.values)
    (subst (λ us. all_inside c.args.types.now us us ≡ true) c.as_slice.ensures e.inside)

pub returns-clause-values : goal.returns-clause-values
returns-clause-values c =
    subst (λ us. c.in_ok-values.values ≡ map (value_at c.args.types.now us) us) c.as_slice.ensures c.in_ok-values.ensures.values

pub returns-in_err-values-clause-left : goal.returns-in_err-values-clause-left
returns-in_err-values-clause-left c =
    exit_more _ _ c.from_residual.ensures.1 (subst (λ us. SomeNoValueType c.args.types.now us us) c.as_slice.ensures) c.in_err-values.ensures.left
