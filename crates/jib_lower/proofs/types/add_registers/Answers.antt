use Rattle.std.proofs.Common.{◌≡◌, Some, [], ◌∷◌, refl, take, subst, true}
use Rattle.lowered_types.specs.Table.{is_known}
use Rattle.checked_meaning.specs.Items.{fixed_typ}
use Rattle.lowered_pieces.specs.Emitted.{Begins}
use Rattle.lowered_tables.proofs.Growing.{begins_here, begins_then}
use Rattle.jib_lower.specs.Types.{all_in_registers, types_in_registers}
use Rattle.jib_lower.proofs.Gathered.{numbered_next, numbered_stuck, numbered_whole, register_in, register_types, registers_first, registers_said, said_next}
use Rattle.jib_lower.proofs.Gathered.{said_whole}
use Rattle.jib_lower.proofs.Kept.{registers_stay}
use Rattle.jib_lower.proofs.Unmade.{exit_table, type_listed, type_none}
use Rattle.jib_lower.proofs.types.add_registers.Goals as goal

pub loop-register-init : goal.loop-register-init
loop-register-init c = record { begins = begins_here c.args.table.now.numbered; known = refl; listed = refl }

pub loop-register-preserved : goal.loop-register-preserved
loop-register-preserved c =
    let l = c.loop-register in
    let us = c.add_type.new.list.numbered in
    let last = c.in_ok-add_type.ensures in
    let more : Begins l.table.numbered us = last.grown.begins in
    record {
      begins = begins_then c.args.table.now.numbered l.table.numbered us l.invariant.begins more;
      known = said_next (register_in c.args.types.now us) (all_in_registers c.args.types.now us) refl (registers_said c.args.types.now us)
          c.args.registers.now l.register-index c.register-item.result
          (registers_stay l.table.numbered us more c.args.types.now (take l.register-index c.args.registers.now) l.invariant.known)
          (subst (λ t. is_known us t ≡ true) c.in_ok-typ.ensures last.grown.known) c.loop-register-test.true c.register-item.is;
      listed = numbered_next (register_types c.args.types.now) (types_in_registers c.args.types.now) refl (registers_first c.args.types.now) c.args.types.now
          c.args.table.now.numbered c.args.registers.now l.register-index c.register-item.result l.table.numbered us l.invariant.listed
          (type_listed c.args.types.now l.table.numbered us [] ((fixed_typ c.args.types.now c.register-item.result.typ) ∷ [])
          (fixed_typ c.args.types.now c.register-item.result.typ) c.in_ok-typ.typ (Some us) refl c.in_ok-typ.ensures last.listed refl)
          c.loop-register-test.true c.register-item.is;
    }

pub returns-clause-known : goal.returns-clause-known
returns-clause-known c =
    let l = c.loop-register in said_whole (all_in_registers c.args.types.now l.table.numbered) c.args.registers.now l.register-index
    c.loop-register-test.false l.invariant.known

pub returns-clause-listed : goal.returns-clause-listed
returns-clause-listed c =
    let l = c.loop-register in
    numbered_whole (types_in_registers c.args.types.now) c.args.types.now c.args.table.now.numbered c.args.registers.now l.register-index l.table.numbered
    c.loop-register-test.false l.invariant.listed

pub returns-in_err-add_type-clause-left : goal.returns-in_err-add_type-clause-left
returns-in_err-add_type-clause-left c =
    let l = c.loop-register in
    exit_table _ _ c.from_residual-in_err-add_type.ensures.1
    (λ none. numbered_stuck (register_types c.args.types.now) (types_in_registers c.args.types.now) refl (registers_first c.args.types.now) c.args.types.now
    c.args.table.now.numbered c.args.registers.now l.register-index c.register-item.result l.table.numbered c.loop-register-test.true c.register-item.is
    l.invariant.listed
    (type_none c.args.types.now l.table.numbered [] ((fixed_typ c.args.types.now c.register-item.result.typ) ∷ [])
    (fixed_typ c.args.types.now c.register-item.result.typ) c.in_ok-typ.typ refl c.in_ok-typ.ensures none)) c.in_err-add_type.ensures.left
