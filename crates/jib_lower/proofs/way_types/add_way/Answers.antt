use Rattle.std.proofs.Common.{◌≡◌, None, Some, refl}
use Rattle.std.specs.Prelude.{slice_get}
use Rattle.std.proofs.lemmas.Result.{on_ok_weaker}
use Rattle.lowered_pieces.specs.Emitted.{Begins}
use Rattle.lowered_tables.proofs.Growing.{begins_then}
use Rattle.lowered_tables.specs.Built.{with_numbers}
use Rattle.jib_lower.specs.Entering.{mapped_by}
use Rattle.jib_lower.specs.Types.{types_in_mapped, types_in_mapping, types_in_way}
use Rattle.jib_lower.proofs.Unmade.{both_listed, exit_more, first_none, last_more}
use Rattle.jib_lower.proofs.way_types.add_way.Goals as goal

pub returns-clause-known : goal.returns-clause-known
returns-clause-known c = c.add_mapping.ensures.known

pub returns-clause-grown : goal.returns-clause-grown
returns-clause-grown c =
    on_ok_weaker c.add_mapping.result (λ (g : Begins c.add_mapped.new.table.numbered c.add_mapping.new.table.numbered).
    begins_then c.args.table.now.numbered c.add_mapped.new.table.numbered c.add_mapping.new.table.numbered c.in_ok-add_mapped.ensures.grown g)
    c.add_mapping.ensures.grown

pub returns-clause-listed : goal.returns-clause-listed
returns-clause-listed c =
    let t = c.args.types.now in
    let first = types_in_mapped (mapped_by t 0 c.args.direction.now) in
    let nodes = types_in_mapping (slice_get c.args.mappings.now c.args.at) in
    on_ok_weaker c.add_mapping.result
    (λ (h : with_numbers t c.add_mapped.new.table.numbered nodes ≡ Some c.add_mapping.new.table.numbered).
    both_listed t c.args.table.now.numbered c.add_mapped.new.table.numbered first nodes first (types_in_way t c.args.mappings.now c.args.at c.args.direction.now)
    (Some c.add_mapping.new.table.numbered) refl refl c.in_ok-add_mapped.ensures.listed h) c.add_mapping.ensures.listed

pub returns-clause-left : goal.returns-clause-left
returns-clause-left c =
    let t = c.args.types.now in
    let first = types_in_mapped (mapped_by t 0 c.args.direction.now) in
    let nodes = types_in_mapping (slice_get c.args.mappings.now c.args.at) in
    last_more c.add_mapping.result
    (λ (h : with_numbers t c.add_mapped.new.table.numbered nodes ≡ None).
    both_listed t c.args.table.now.numbered c.add_mapped.new.table.numbered first nodes first (types_in_way t c.args.mappings.now c.args.at c.args.direction.now)
    None refl refl c.in_ok-add_mapped.ensures.listed h) c.add_mapping.ensures.left

pub returns-in_err-add_mapped-clause-left : goal.returns-in_err-add_mapped-clause-left
returns-in_err-add_mapped-clause-left c =
    let t = c.args.types.now in
    let first = types_in_mapped (mapped_by t 0 c.args.direction.now) in
    let nodes = types_in_mapping (slice_get c.args.mappings.now c.args.at) in
    exit_more _ _ c.from_residual.ensures.1
    (λ none. first_none t c.args.table.now.numbered first nodes first (types_in_way t c.args.mappings.now c.args.at c.args.direction.now) refl refl none)
    c.in_err-add_mapped.ensures.left
