use Rattle.std.proofs.Common.{◌≡◌, refl, take, sym, ap, ◌∙◌, subst, true}
use Rattle.lowered_tables.specs.Built.{with_numbers}
use Rattle.lowered_types.specs.Table.{all_known}
use Rattle.lowered_pieces.specs.Emitted.{Begins}
use Rattle.lowered_tables.proofs.Growing.{begins_here, begins_then}
use Rattle.jib_lower.specs.Types.{all_in_leads, types_in_leads}
use Rattle.jib_lower.proofs.Gathered.{lead_in, lead_types, leads_first, leads_said, numbered_next, numbered_stuck, numbered_whole, said_next, said_whole}
use Rattle.jib_lower.proofs.Kept.{leads_stay}
use Rattle.jib_lower.proofs.Unmade.{exit_table}
use Rattle.jib_lower.proofs.types.add_leads.Goals as goal

pub loop-lead-init : goal.loop-lead-init
loop-lead-init c = record { begins = begins_here c.args.table.now.numbered; known = refl; listed = refl }

pub loop-lead-preserved : goal.loop-lead-preserved
loop-lead-preserved c =
    let l = c.loop-lead in
    let us = c.add_all.new.list.numbered in
    let more : Begins l.table.numbered us = c.in_ok-add_all.ensures.grown in
    record {
      begins = begins_then c.args.table.now.numbered l.table.numbered us l.invariant.begins more;
      known = said_next (lead_in us) (all_in_leads us) refl (leads_said us) c.args.leads.now l.lead-index c.lead-item.result
          (leads_stay l.table.numbered us more (take l.lead-index c.args.leads.now) l.invariant.known)
          (subst (λ ts. all_known us ts ≡ true) c.as_slice.ensures c.in_ok-add_all.ensures.known) c.loop-lead-test.true c.lead-item.is;
      listed = numbered_next lead_types types_in_leads refl leads_first c.args.types.now c.args.table.now.numbered c.args.leads.now l.lead-index
          c.lead-item.result l.table.numbered us l.invariant.listed
          (ap (with_numbers c.args.types.now l.table.numbered) (sym c.as_slice.ensures) ∙ c.in_ok-add_all.ensures.listed) c.loop-lead-test.true c.lead-item.is;
    }

pub returns-clause-known : goal.returns-clause-known
returns-clause-known c =
    let l = c.loop-lead in said_whole (all_in_leads l.table.numbered) c.args.leads.now l.lead-index c.loop-lead-test.false l.invariant.known

pub returns-clause-listed : goal.returns-clause-listed
returns-clause-listed c =
    let l = c.loop-lead in
    numbered_whole types_in_leads c.args.types.now c.args.table.now.numbered c.args.leads.now l.lead-index l.table.numbered c.loop-lead-test.false
    l.invariant.listed

pub returns-in_err-add_all-clause-left : goal.returns-in_err-add_all-clause-left
returns-in_err-add_all-clause-left c =
    let l = c.loop-lead in
    exit_table _ _ c.from_residual.ensures.1
    (λ none. numbered_stuck lead_types types_in_leads refl leads_first c.args.types.now c.args.table.now.numbered c.args.leads.now l.lead-index
    c.lead-item.result l.table.numbered c.loop-lead-test.true c.lead-item.is l.invariant.listed
    (ap (with_numbers c.args.types.now l.table.numbered) (sym c.as_slice.ensures) ∙ none)) c.in_err-add_all.ensures.left
