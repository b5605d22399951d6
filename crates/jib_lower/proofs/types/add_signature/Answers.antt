use Rattle.std.proofs.Common.{◌≡◌, ap, subst, sym, true, ◌∙◌}
use Rattle.std.proofs.lemmas.Result.{on_ok_weaker}
use Rattle.lowered_pieces.specs.Emitted.{Begins}
use Rattle.lowered_tables.proofs.Growing.{begins_here, begins_then}
use Rattle.jib_lower.specs.Types.{all_in_cases, all_in_told, in_signature}
use Rattle.jib_lower.proofs.Basics.{both}
use Rattle.jib_lower.proofs.Kept.{told_stay}
use Rattle.jib_lower.proofs.Numbering.{ok_both}
use Rattle.std.proofs.Common.{None, Some}
use Rattle.lowered_tables.specs.Built.{with_numbers}
use Rattle.jib_lower.specs.Types.{types_in_cases, types_in_signature, types_in_told}
use Rattle.jib_lower.proofs.Unmade.{both_listed, exit_more, first_none, last_more}
use Rattle.jib_lower.proofs.types.add_signature.Goals as goal

pub returns-in_ok-add_told-in-Some-clause-known : goal.returns-in_ok-add_told-in-Some-clause-known
returns-in_ok-add_told-in-Some-clause-known c =
    ok_both c.add_cases.result (λ (g : Begins c.add_told.new.table.numbered c.add_cases.new.table.numbered)
    (k : all_in_cases c.add_cases.new.table.numbered c.as_slice-in-Some.result.now ≡ true).
    subst (λ o. in_signature c.add_cases.new.table.numbered o ≡ true) (sym c.in-Some.is)
    (both (all_in_told c.add_cases.new.table.numbered c.in-Some.signature.parameters) (all_in_cases c.add_cases.new.table.numbered
    c.in-Some.signature.result.cases)
    (told_stay c.add_told.new.table.numbered c.add_cases.new.table.numbered g c.in-Some.signature.parameters
    (subst (λ xs. all_in_told c.add_told.new.table.numbered xs ≡ true) c.as_slice.ensures c.in_ok-add_told-in-Some.ensures.known))
    (subst (λ xs. all_in_cases c.add_cases.new.table.numbered xs ≡ true) c.as_slice-in-Some.ensures k))) c.add_cases.ensures.grown
    c.add_cases.ensures.known

pub returns-in_ok-add_told-in-Some-clause-grown : goal.returns-in_ok-add_told-in-Some-clause-grown
returns-in_ok-add_told-in-Some-clause-grown c =
    on_ok_weaker c.add_cases.result (λ (g : Begins c.add_told.new.table.numbered c.add_cases.new.table.numbered).
    begins_then c.args.table.now.numbered c.add_told.new.table.numbered c.add_cases.new.table.numbered c.in_ok-add_told-in-Some.ensures.grown g)
    c.add_cases.ensures.grown

pub returns-in-None-clause-known : goal.returns-in-None-clause-known
returns-in-None-clause-known c = ap (λ o. in_signature c.args.table.now.numbered o) c.in-None.is

pub returns-in-None-clause-grown : goal.returns-in-None-clause-grown
returns-in-None-clause-grown c = begins_here c.args.table.now.numbered

pub returns-in_ok-add_told-in-Some-clause-listed : goal.returns-in_ok-add_told-in-Some-clause-listed
returns-in_ok-add_told-in-Some-clause-listed c =
    on_ok_weaker c.add_cases.result
    (λ (h : with_numbers c.args.types.now c.add_told.new.table.numbered (types_in_cases c.as_slice-in-Some.result.now) ≡ Some c.add_cases.new.table.numbered).
    both_listed c.args.types.now c.args.table.now.numbered c.add_told.new.table.numbered (types_in_told c.in-Some.signature.parameters)
    (types_in_cases c.in-Some.signature.result.cases) (types_in_told c.as_slice.result.now) (types_in_signature c.args.signature.now) (Some c.add_cases.new.table.numbered)
    (ap types_in_signature c.in-Some.is) (ap types_in_told c.as_slice.ensures) c.in_ok-add_told-in-Some.ensures.listed
    (ap (λ xs. with_numbers c.args.types.now c.add_told.new.table.numbered (types_in_cases xs)) (sym c.as_slice-in-Some.ensures) ∙ h))
    c.add_cases.ensures.listed

pub returns-in_ok-add_told-in-Some-clause-left : goal.returns-in_ok-add_told-in-Some-clause-left
returns-in_ok-add_told-in-Some-clause-left c =
    last_more c.add_cases.result
    (λ (h : with_numbers c.args.types.now c.add_told.new.table.numbered (types_in_cases c.as_slice-in-Some.result.now) ≡ None).
    both_listed c.args.types.now c.args.table.now.numbered c.add_told.new.table.numbered (types_in_told c.in-Some.signature.parameters)
    (types_in_cases c.in-Some.signature.result.cases) (types_in_told c.as_slice.result.now) (types_in_signature c.args.signature.now) None
    (ap types_in_signature c.in-Some.is) (ap types_in_told c.as_slice.ensures) c.in_ok-add_told-in-Some.ensures.listed
    (ap (λ xs. with_numbers c.args.types.now c.add_told.new.table.numbered (types_in_cases xs)) (sym c.as_slice-in-Some.ensures) ∙ h))
    c.add_cases.ensures.left

pub returns-in_err-add_told-in-Some-clause-left : goal.returns-in_err-add_told-in-Some-clause-left
returns-in_err-add_told-in-Some-clause-left c =
    exit_more _ _ c.from_residual.ensures.1
    (first_none c.args.types.now c.args.table.now.numbered (types_in_told c.in-Some.signature.parameters) (types_in_cases c.in-Some.signature.result.cases)
    (types_in_told c.as_slice.result.now) (types_in_signature c.args.signature.now) (ap types_in_signature c.in-Some.is)
    (ap types_in_told c.as_slice.ensures)) c.in_err-add_told-in-Some.ensures.left

pub returns-in-None-clause-listed : goal.returns-in-None-clause-listed
returns-in-None-clause-listed c = ap (λ o. with_numbers c.args.types.now c.args.table.now.numbered (types_in_signature o)) c.in-None.is
