use Rattle.std.proofs.Common.{◌≡◌, ◌≤◌, ℕ, ◌∷◌, [], pos, subst, sym, true}
use Rattle.size_values.specs.declared.sized.Sized.TheVariants as S
use Rattle.lowered_types.specs.Table.{all_known, is_known}
use Rattle.jib_lower.specs.Types.{all_in_bodies, all_in_instances, all_in_registers, all_in_ways, exception_typ}
use Rattle.std.proofs.Common.{◌∙◌, Some, ap}
use Rattle.jib_lower.specs.Left.{nested_types, no_value_type}
use Rattle.jib_lower.proofs.Unmade.{exit_more, exit_table}
use Rattle.jib_lower.proofs.types.number_types.Goals as goal

pub table_of-requires : goal.table_of-requires
table_of-requires c = c.in_ok-list.ensures.never

pub returns-clause-stands : goal.returns-clause-stands
returns-clause-stands c = c.in_ok-table.ensures.stands

pub returns-clause-instances : goal.returns-clause-instances
returns-clause-instances c =
    subst (λ ns. all_in_instances ns c.args.sized.now.instances ≡ true) (sym c.in_ok-table.ensures.same) c.in_ok-list.ensures.instances

pub returns-clause-openings : goal.returns-clause-openings
returns-clause-openings c =
    subst (λ ns. all_in_bodies ns c.args.sized.now.openings ≡ true) (sym c.in_ok-table.ensures.same) c.in_ok-list.ensures.openings

pub returns-clause-ways : goal.returns-clause-ways
returns-clause-ways c =
    subst (λ ns. all_in_ways ns c.args.sized.now.mappings 0 c.args.core.now.directions c.args.turned.now ≡ true) (sym c.in_ok-table.ensures.same)
    c.in_ok-list.ensures.ways

pub returns-clause-basic : goal.returns-clause-basic
returns-clause-basic c =
    subst (λ ns. all_known ns (S.Unit ∷ S.Bool ∷ S.Int ∷ exception_typ c.args.core.now.exception ∷ []) ≡ true) (sym c.in_ok-table.ensures.same)
    c.in_ok-list.ensures.basic

pub returns-clause-registers : goal.returns-clause-registers
returns-clause-registers c =
    subst (λ ns. all_in_registers c.args.core.now.types ns c.args.core.now.registers ≡ true) (sym c.in_ok-table.ensures.same)
    c.in_ok-list.ensures.registers

pub returns-clause-words : goal.returns-clause-words
returns-clause-words c =
    subst (λ ns. (n : ℕ) → n ≤ 128 → is_known ns (S.Bits (pos n)) ≡ true) (sym c.in_ok-table.ensures.same) c.in_ok-list.ensures.words

pub returns-clause-listed : goal.returns-clause-listed
returns-clause-listed c = c.in_ok-list.ensures.listed ∙ ap (λ ns. Some ns) (sym c.in_ok-table.ensures.same)

pub returns-in_err-list-clause-left : goal.returns-in_err-list-clause-left
returns-in_err-list-clause-left c = exit_more _ _ c.from_residual.ensures.1 nested_types c.in_err-list.ensures.left

pub returns-in_err-table-clause-left : goal.returns-in_err-table-clause-left
returns-in_err-table-clause-left c =
    exit_table _ _ c.from_residual-in_err-table.ensures.1 (no_value_type c.in_ok-list.ensures.listed) c.in_err-table.ensures.left
