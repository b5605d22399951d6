use Rattle.std.proofs.Common.{◌≡◌, ◌∙◌, ◌∷◌, ◌++◌, None, Some, [], ap, pos, refl, subst, sym, true}
use Rattle.size_values.specs.declared.sized.Sized.TheVariants as S
use Rattle.lowered_tables.proofs.Growing.{begins_then}
use Rattle.lowered_tables.specs.Built.{with_numbers}
use Rattle.jib_lower.specs.Types.{all_in_ways, exception_typ, types_in_model, types_in_ways}
use Rattle.jib_lower.proofs.Kept.{all_stay, bodies_stay, instances_stay, known_stays, registers_stay}
use Rattle.jib_lower.proofs.Unmade.{both_listed, exit_more, first_none}
use Rattle.jib_lower.proofs.types.list_all.Goals as goal

pub returns-clause-never : goal.returns-clause-never
returns-clause-never c =
    begins_then (S.Never ∷ []) c.in_ok-list.list.numbered c.add_ways.new.table.numbered c.in_ok-list.ensures.never c.in_ok-add_ways.ensures.grown

pub returns-clause-instances : goal.returns-clause-instances
returns-clause-instances c =
    instances_stay c.in_ok-list.list.numbered c.add_ways.new.table.numbered c.in_ok-add_ways.ensures.grown c.args.sized.now.instances
    c.in_ok-list.ensures.instances

pub returns-clause-openings : goal.returns-clause-openings
returns-clause-openings c =
    bodies_stay c.in_ok-list.list.numbered c.add_ways.new.table.numbered c.in_ok-add_ways.ensures.grown c.args.sized.now.openings
    c.in_ok-list.ensures.openings

pub returns-clause-ways : goal.returns-clause-ways
returns-clause-ways c =
    subst (λ ds. all_in_ways c.add_ways.new.table.numbered c.args.sized.now.mappings 0 ds c.args.turned.now ≡ true) c.as_slice-directions.ensures
    (subst (λ ms. all_in_ways c.add_ways.new.table.numbered ms 0 c.as_slice-directions.result.now c.args.turned.now ≡ true) c.as_slice-mappings.ensures
    c.in_ok-add_ways.ensures.known)

pub returns-clause-basic : goal.returns-clause-basic
returns-clause-basic c =
    all_stay c.in_ok-list.list.numbered c.add_ways.new.table.numbered c.in_ok-add_ways.ensures.grown
    (S.Unit ∷ S.Bool ∷ S.Int ∷ exception_typ c.args.core.now.exception ∷ []) c.in_ok-list.ensures.basic

pub returns-clause-registers : goal.returns-clause-registers
returns-clause-registers c =
    registers_stay c.in_ok-list.list.numbered c.add_ways.new.table.numbered c.in_ok-add_ways.ensures.grown c.args.core.now.types
    c.args.core.now.registers c.in_ok-list.ensures.registers

pub returns-clause-words : goal.returns-clause-words
returns-clause-words c = λ m le.
    known_stays c.in_ok-list.list.numbered c.add_ways.new.table.numbered c.in_ok-add_ways.ensures.grown (S.Bits (pos m)) (c.in_ok-list.ensures.words m le)

pub returns-clause-listed : goal.returns-clause-listed
returns-clause-listed c =
    let t = c.args.core.now.types in
    let model = types_in_model c.args.core.now c.args.sized.now in
    let ways = types_in_ways t c.args.sized.now.mappings 0 c.args.core.now.directions c.args.turned.now in
    both_listed t (S.Never ∷ []) c.in_ok-list.list.numbered model ways model (model ++ ways) (Some c.add_ways.new.table.numbered) refl refl
    c.in_ok-list.ensures.listed
    (ap (λ ms. with_numbers t c.in_ok-list.list.numbered (types_in_ways t ms 0 c.args.core.now.directions c.args.turned.now)) (sym c.as_slice-mappings.ensures)
    ∙ ap (λ ds. with_numbers t c.in_ok-list.list.numbered (types_in_ways t c.as_slice-mappings.result.now 0 ds c.args.turned.now))
    (sym c.as_slice-directions.ensures)
    ∙ c.in_ok-add_ways.ensures.listed)

pub returns-in_err-list-clause-left : goal.returns-in_err-list-clause-left
returns-in_err-list-clause-left c =
    let t = c.args.core.now.types in
    let model = types_in_model c.args.core.now c.args.sized.now in
    let ways = types_in_ways t c.args.sized.now.mappings 0 c.args.core.now.directions c.args.turned.now in
    exit_more _ _ c.from_residual.ensures.1 (λ none. first_none t (S.Never ∷ []) model ways model (model ++ ways) refl refl none) c.in_err-list.ensures.left

pub returns-in_err-add_ways-clause-left : goal.returns-in_err-add_ways-clause-left
returns-in_err-add_ways-clause-left c =
    let t = c.args.core.now.types in
    let model = types_in_model c.args.core.now c.args.sized.now in
    let ways = types_in_ways t c.args.sized.now.mappings 0 c.args.core.now.directions c.args.turned.now in
    exit_more _ _ c.from_residual-in_err-add_ways.ensures.1
    (λ none. both_listed t (S.Never ∷ []) c.in_ok-list.list.numbered model ways model (model ++ ways) None refl refl c.in_ok-list.ensures.listed
    (ap (λ ms. with_numbers t c.in_ok-list.list.numbered (types_in_ways t ms 0 c.args.core.now.directions c.args.turned.now)) (sym c.as_slice-mappings.ensures)
    ∙ ap (λ ds. with_numbers t c.in_ok-list.list.numbered (types_in_ways t c.as_slice-mappings.result.now 0 ds c.args.turned.now))
    (sym c.as_slice-directions.ensures)
    ∙ none))
    c.in_err-add_ways.ensures.left
