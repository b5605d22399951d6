use Rattle.std.proofs.Common.{◌≡◌, Some, None, [], ◌∷◌, refl, take, subst, true}
use Rattle.lowered_types.specs.Table.{all_known, is_known}
use Rattle.lowered_pieces.specs.Emitted.{Begins}
use Rattle.lowered_tables.proofs.Growing.{begins_here, begins_then}
use Rattle.jib_lower.specs.Types.{all_in_cases, types_in_cases}
use Rattle.jib_lower.proofs.Basics.{both}
use Rattle.jib_lower.proofs.Gathered.{case_in, case_types, cases_first, cases_said, numbered_next, numbered_stuck, numbered_whole, said_next, said_whole}
use Rattle.jib_lower.proofs.Kept.{all_stay, cases_stay}
use Rattle.jib_lower.proofs.Unmade.{both_listed, exit_table, first_none, type_listed, type_none}
use Rattle.jib_lower.proofs.types.add_cases.Goals as goal

pub loop-case-init : goal.loop-case-init
loop-case-init c = record { begins = begins_here c.args.table.now.numbered; known = refl; listed = refl }

pub loop-case-preserved : goal.loop-case-preserved
loop-case-preserved c =
    let l = c.loop-case in
    let us = c.add_type.new.list.numbered in
    let vs = c.add_all.new.list.numbered in
    let each = c.in_ok-add_all.ensures in
    let last = c.in_ok-add_type.ensures in
    let more : Begins l.table.numbered us = begins_then l.table.numbered vs us each.grown last.grown.begins in
    record {
      begins = begins_then c.args.table.now.numbered l.table.numbered us l.invariant.begins more;
      known = said_next (case_in us) (all_in_cases us) refl (cases_said us) c.args.cases.now l.case-index c.case-item.result
          (cases_stay l.table.numbered us more (take l.case-index c.args.cases.now) l.invariant.known)
          (both (all_known us c.case-item.result.takes) (is_known us c.case-item.result.gives) (all_stay vs us last.grown.begins c.case-item.result.takes
          (subst (λ ts. all_known vs ts ≡ true) c.as_slice.ensures each.known)) last.grown.known) c.loop-case-test.true c.case-item.is;
      listed = numbered_next case_types types_in_cases refl cases_first c.args.types.now c.args.table.now.numbered c.args.cases.now l.case-index
          c.case-item.result l.table.numbered us l.invariant.listed
          (both_listed c.args.types.now l.table.numbered vs c.case-item.result.takes (c.case-item.result.gives ∷ []) c.as_slice.result.now
          (case_types c.case-item.result) (Some us) refl c.as_slice.ensures
          each.listed (type_listed c.args.types.now vs us [] (c.case-item.result.gives ∷ []) c.case-item.result.gives c.case-item.result.gives (Some us) refl
          refl last.listed refl)) c.loop-case-test.true c.case-item.is;
    }

pub returns-clause-known : goal.returns-clause-known
returns-clause-known c =
    let l = c.loop-case in said_whole (all_in_cases l.table.numbered) c.args.cases.now l.case-index c.loop-case-test.false l.invariant.known

pub returns-clause-listed : goal.returns-clause-listed
returns-clause-listed c =
    let l = c.loop-case in
    numbered_whole types_in_cases c.args.types.now c.args.table.now.numbered c.args.cases.now l.case-index l.table.numbered c.loop-case-test.false
    l.invariant.listed

pub returns-in_err-add_all-clause-left : goal.returns-in_err-add_all-clause-left
returns-in_err-add_all-clause-left c =
    let l = c.loop-case in
    exit_table _ _ c.from_residual.ensures.1
    (λ none. numbered_stuck case_types types_in_cases refl cases_first c.args.types.now c.args.table.now.numbered c.args.cases.now l.case-index
    c.case-item.result l.table.numbered c.loop-case-test.true c.case-item.is l.invariant.listed
    (first_none c.args.types.now l.table.numbered c.case-item.result.takes (c.case-item.result.gives ∷ []) c.as_slice.result.now
    (case_types c.case-item.result) refl c.as_slice.ensures none)) c.in_err-add_all.ensures.left

pub returns-in_err-add_type-clause-left : goal.returns-in_err-add_type-clause-left
returns-in_err-add_type-clause-left c =
    let l = c.loop-case in
    exit_table _ _ c.from_residual-in_err-add_type.ensures.1
    (λ none. numbered_stuck case_types types_in_cases refl cases_first c.args.types.now c.args.table.now.numbered c.args.cases.now l.case-index
    c.case-item.result l.table.numbered c.loop-case-test.true c.case-item.is l.invariant.listed
    (both_listed c.args.types.now l.table.numbered c.add_all.new.list.numbered c.case-item.result.takes (c.case-item.result.gives ∷ []) c.as_slice.result.now
    (case_types c.case-item.result) None refl c.as_slice.ensures
    c.in_ok-add_all.ensures.listed (type_none c.args.types.now c.add_all.new.list.numbered [] (c.case-item.result.gives ∷ []) c.case-item.result.gives
    c.case-item.result.gives refl refl none))) c.in_err-add_type.ensures.left
