use Rattle.std.proofs.Common.{◌≡◌, Some, take, true}
use Rattle.lowered_pieces.specs.Emitted.{Begins}
use Rattle.lowered_tables.specs.Built.{with_numbers}
use Rattle.jib_lower.specs.Types.{all_in_leads, types_in_leads}
use Rattle.jib_lower.proofs.types.add_leads.Given as goal

abbrev pub invariant-loop-lead : goal.invariant-loop-lead
invariant-loop-lead l = record {
  begins : Begins l.initial.table.numbered l.table.numbered;
  known : all_in_leads l.table.numbered (take l.lead-index l.leads) ≡ true;
  listed : with_numbers l.types l.initial.table.numbered (types_in_leads (take l.lead-index l.leads)) ≡ Some l.table.numbered;
}
