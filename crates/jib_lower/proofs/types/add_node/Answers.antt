use Rattle.std.proofs.Common.{◌≡◌, ◌∙◌, None, Some, ap, true}
use Rattle.std.proofs.lemmas.Result.{on_ok_weaker}
use Rattle.lowered_tables.proofs.Growing.{begins_here}
use Rattle.lowered_tables.specs.Built.{with_numbers}
use Rattle.jib_lower.specs.Types.{all_in_cases, all_in_leads, types_in_cases, types_in_leads}
use Rattle.jib_lower.proofs.Gathered.{calls_in, cases_alone, leads_alone, makes_in, node_in, node_types}
use Rattle.jib_lower.proofs.Unmade.{last_more}
use Rattle.jib_lower.proofs.types.add_node.Goals as goal

pub returns-in-Makes-clause-known : goal.returns-in-Makes-clause-known
returns-in-Makes-clause-known c =
    on_ok_weaker c.add_cases.result (λ (h : all_in_cases c.add_cases.new.table.numbered c.as_slice.result.now ≡ true).
    ap (node_in c.add_cases.new.table.numbered) c.in-Makes.is ∙ makes_in c.add_cases.new.table.numbered c.in-Makes.cases c.as_slice.result.now
    c.as_slice.ensures h) c.add_cases.ensures.known

pub returns-in-Makes-clause-grown : goal.returns-in-Makes-clause-grown
returns-in-Makes-clause-grown c = c.add_cases.ensures.grown

pub returns-in-Makes-clause-listed : goal.returns-in-Makes-clause-listed
returns-in-Makes-clause-listed c =
    on_ok_weaker c.add_cases.result (λ (h : with_numbers c.args.types.now c.args.table.now.numbered (types_in_cases c.as_slice.result.now) ≡ Some
    c.add_cases.new.table.numbered).
    ap (λ x. with_numbers c.args.types.now c.args.table.now.numbered (node_types x)) c.in-Makes.is
    ∙ cases_alone c.args.types.now c.args.table.now.numbered c.in-Makes.cases c.as_slice.result.now (Some c.add_cases.new.table.numbered) c.as_slice.ensures
    h) c.add_cases.ensures.listed

pub returns-in-Makes-clause-left : goal.returns-in-Makes-clause-left
returns-in-Makes-clause-left c =
    last_more c.add_cases.result (λ (h : with_numbers c.args.types.now c.args.table.now.numbered (types_in_cases c.as_slice.result.now) ≡ None).
    ap (λ x. with_numbers c.args.types.now c.args.table.now.numbered (node_types x)) c.in-Makes.is
    ∙ cases_alone c.args.types.now c.args.table.now.numbered c.in-Makes.cases c.as_slice.result.now None c.as_slice.ensures h) c.add_cases.ensures.left

pub returns-in-Calls-clause-known : goal.returns-in-Calls-clause-known
returns-in-Calls-clause-known c =
    on_ok_weaker c.add_leads.result (λ (h : all_in_leads c.add_leads.new.table.numbered c.as_slice-in-Calls.result.now ≡ true).
    ap (node_in c.add_leads.new.table.numbered) c.in-Calls.is ∙ calls_in c.add_leads.new.table.numbered c.in-Calls.leads c.as_slice-in-Calls.result.now
    c.as_slice-in-Calls.ensures h) c.add_leads.ensures.known

pub returns-in-Calls-clause-grown : goal.returns-in-Calls-clause-grown
returns-in-Calls-clause-grown c = c.add_leads.ensures.grown

pub returns-in-Calls-clause-listed : goal.returns-in-Calls-clause-listed
returns-in-Calls-clause-listed c =
    on_ok_weaker c.add_leads.result (λ (h : with_numbers c.args.types.now c.args.table.now.numbered (types_in_leads c.as_slice-in-Calls.result.now) ≡ Some
    c.add_leads.new.table.numbered).
    ap (λ x. with_numbers c.args.types.now c.args.table.now.numbered (node_types x)) c.in-Calls.is
    ∙ leads_alone c.args.types.now c.args.table.now.numbered c.in-Calls.leads c.as_slice-in-Calls.result.now (Some c.add_leads.new.table.numbered)
    c.as_slice-in-Calls.ensures h) c.add_leads.ensures.listed

pub returns-in-Calls-clause-left : goal.returns-in-Calls-clause-left
returns-in-Calls-clause-left c =
    last_more c.add_leads.result (λ (h : with_numbers c.args.types.now c.args.table.now.numbered (types_in_leads c.as_slice-in-Calls.result.now) ≡ None).
    ap (λ x. with_numbers c.args.types.now c.args.table.now.numbered (node_types x)) c.in-Calls.is
    ∙ leads_alone c.args.types.now c.args.table.now.numbered c.in-Calls.leads c.as_slice-in-Calls.result.now None c.as_slice-in-Calls.ensures h)
    c.add_leads.ensures.left

pub returns-in-Gives-clause-known : goal.returns-in-Gives-clause-known
returns-in-Gives-clause-known c = ap (node_in c.args.table.now.numbered) c.in-Gives.is

pub returns-in-Gives-clause-grown : goal.returns-in-Gives-clause-grown
returns-in-Gives-clause-grown c = begins_here c.args.table.now.numbered

pub returns-in-Gives-clause-listed : goal.returns-in-Gives-clause-listed
returns-in-Gives-clause-listed c = ap (λ x. with_numbers c.args.types.now c.args.table.now.numbered (node_types x)) c.in-Gives.is
