use Rattle.std.proofs.Common.{◌≡◌, refl, take, sym, ap, ◌∙◌, subst, true}
use Rattle.lowered_tables.specs.Built.{with_numbers}
use Rattle.lowered_pieces.specs.Emitted.{Begins}
use Rattle.lowered_tables.proofs.Growing.{begins_here, begins_then}
use Rattle.jib_lower.specs.Types.{all_in_cases, all_in_told, types_in_cases, types_in_told}
use Rattle.jib_lower.proofs.Gathered.{numbered_next, numbered_stuck, numbered_whole, said_next, said_whole, told_first, told_in, told_said, told_types}
use Rattle.jib_lower.proofs.Kept.{told_stay}
use Rattle.jib_lower.proofs.Unmade.{exit_more}
use Rattle.jib_lower.proofs.types.add_told.Goals as goal

pub loop-one-init : goal.loop-one-init
loop-one-init c = record { begins = begins_here c.args.table.now.numbered; known = refl; listed = refl }

pub loop-one-preserved : goal.loop-one-preserved
loop-one-preserved c =
    let l = c.loop-one in
    let us = c.add_cases.new.table.numbered in
    let more : Begins l.table.numbered us = c.in_ok-add_cases.ensures.grown in
    record {
      begins = begins_then c.args.table.now.numbered l.table.numbered us l.invariant.begins more;
      known = said_next (told_in us) (all_in_told us) refl (told_said us) c.args.told.now l.one-index c.one-item.result
          (told_stay l.table.numbered us more (take l.one-index c.args.told.now) l.invariant.known)
          (subst (λ xs. all_in_cases us xs ≡ true) c.as_slice.ensures c.in_ok-add_cases.ensures.known) c.loop-one-test.true c.one-item.is;
      listed = numbered_next told_types types_in_told refl told_first c.args.types.now c.args.table.now.numbered c.args.told.now l.one-index
          c.one-item.result l.table.numbered us l.invariant.listed
          (ap (λ xs. with_numbers c.args.types.now l.table.numbered (types_in_cases xs)) (sym c.as_slice.ensures) ∙ c.in_ok-add_cases.ensures.listed)
          c.loop-one-test.true c.one-item.is;
    }

pub returns-clause-known : goal.returns-clause-known
returns-clause-known c =
    let l = c.loop-one in said_whole (all_in_told l.table.numbered) c.args.told.now l.one-index c.loop-one-test.false l.invariant.known

pub returns-clause-listed : goal.returns-clause-listed
returns-clause-listed c =
    let l = c.loop-one in
    numbered_whole types_in_told c.args.types.now c.args.table.now.numbered c.args.told.now l.one-index l.table.numbered c.loop-one-test.false
    l.invariant.listed

pub returns-in_err-add_cases-clause-left : goal.returns-in_err-add_cases-clause-left
returns-in_err-add_cases-clause-left c =
    let l = c.loop-one in
    exit_more _ _ c.from_residual.ensures.1
    (λ none. numbered_stuck told_types types_in_told refl told_first c.args.types.now c.args.table.now.numbered c.args.told.now l.one-index c.one-item.result
    l.table.numbered c.loop-one-test.true c.one-item.is l.invariant.listed
    (ap (λ xs. with_numbers c.args.types.now l.table.numbered (types_in_cases xs)) (sym c.as_slice.ensures) ∙ none)) c.in_err-add_cases.ensures.left
