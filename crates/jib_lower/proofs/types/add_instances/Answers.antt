use Rattle.std.proofs.Common.{◌≡◌, Some, None, refl, take, sym, ap, ◌∙◌, subst, true}
use Rattle.lowered_tables.specs.Built.{with_numbers}
use Rattle.lowered_pieces.specs.Emitted.{Begins}
use Rattle.lowered_tables.proofs.Growing.{begins_here, begins_then}
use Rattle.jib_lower.specs.Types.{all_in_bodies, all_in_instances, in_signature, types_in_bodies, types_in_instances, types_in_signature}
use Rattle.jib_lower.proofs.Basics.{both}
use Rattle.jib_lower.proofs.Gathered.{instance_in, instance_types, instances_first, instances_said, numbered_next, numbered_stuck, numbered_whole, said_next}
use Rattle.jib_lower.proofs.Gathered.{said_whole}
use Rattle.jib_lower.proofs.Kept.{instances_stay, signature_stays}
use Rattle.jib_lower.proofs.Unmade.{both_listed, exit_more, first_none}
use Rattle.jib_lower.proofs.types.add_instances.Goals as goal

pub loop-instance-init : goal.loop-instance-init
loop-instance-init c = record { begins = begins_here c.args.table.now.numbered; known = refl; listed = refl }

pub loop-instance-preserved : goal.loop-instance-preserved
loop-instance-preserved c =
    let l = c.loop-instance in
    let us = c.add_bodies.new.table.numbered in
    let vs = c.add_signature.new.table.numbered in
    let sides = c.in_ok-add_signature.ensures in
    let inside = c.in_ok-add_bodies.ensures in
    let more : Begins l.table.numbered us = begins_then l.table.numbered vs us sides.grown inside.grown in
    record {
      begins = begins_then c.args.table.now.numbered l.table.numbered us l.invariant.begins more;
      known = said_next (instance_in us) (all_in_instances us) refl (instances_said us) c.args.instances.now l.instance-index c.instance-item.result
          (instances_stay l.table.numbered us more (take l.instance-index c.args.instances.now) l.invariant.known)
          (both (in_signature us c.instance-item.result.signature) (all_in_bodies us c.instance-item.result.bodies)
          (signature_stays vs us inside.grown c.instance-item.result.signature sides.known)
          (subst (λ xs. all_in_bodies us xs ≡ true) c.as_slice.ensures inside.known)) c.loop-instance-test.true c.instance-item.is;
      listed = numbered_next instance_types types_in_instances refl instances_first c.args.types.now c.args.table.now.numbered c.args.instances.now
          l.instance-index c.instance-item.result l.table.numbered us l.invariant.listed
          (both_listed c.args.types.now l.table.numbered vs (types_in_signature c.instance-item.result.signature)
          (types_in_bodies c.instance-item.result.bodies) (types_in_signature c.instance-item.result.signature)
          (instance_types c.instance-item.result) (Some us) refl refl sides.listed
          (ap (λ xs. with_numbers c.args.types.now vs (types_in_bodies xs)) (sym c.as_slice.ensures) ∙ inside.listed)) c.loop-instance-test.true
          c.instance-item.is;
    }

pub returns-clause-known : goal.returns-clause-known
returns-clause-known c =
    let l = c.loop-instance in said_whole (all_in_instances l.table.numbered) c.args.instances.now l.instance-index c.loop-instance-test.false l.invariant.known

pub returns-clause-listed : goal.returns-clause-listed
returns-clause-listed c =
    let l = c.loop-instance in
    numbered_whole types_in_instances c.args.types.now c.args.table.now.numbered c.args.instances.now l.instance-index l.table.numbered
    c.loop-instance-test.false l.invariant.listed

pub returns-in_err-add_signature-clause-left : goal.returns-in_err-add_signature-clause-left
returns-in_err-add_signature-clause-left c =
    let l = c.loop-instance in
    exit_more _ _ c.from_residual.ensures.1
    (λ none. numbered_stuck instance_types types_in_instances refl instances_first c.args.types.now c.args.table.now.numbered c.args.instances.now
    l.instance-index c.instance-item.result l.table.numbered c.loop-instance-test.true c.instance-item.is l.invariant.listed
    (first_none c.args.types.now l.table.numbered (types_in_signature c.instance-item.result.signature) (types_in_bodies c.instance-item.result.bodies)
    (types_in_signature c.instance-item.result.signature)
    (instance_types c.instance-item.result) refl refl none)) c.in_err-add_signature.ensures.left

pub returns-in_err-add_bodies-clause-left : goal.returns-in_err-add_bodies-clause-left
returns-in_err-add_bodies-clause-left c =
    let l = c.loop-instance in
    exit_more _ _ c.from_residual-in_err-add_bodies.ensures.1
    (λ none. numbered_stuck instance_types types_in_instances refl instances_first c.args.types.now c.args.table.now.numbered c.args.instances.now
    l.instance-index c.instance-item.result l.table.numbered c.loop-instance-test.true c.instance-item.is l.invariant.listed
    (both_listed c.args.types.now l.table.numbered c.add_signature.new.table.numbered (types_in_signature c.instance-item.result.signature)
    (types_in_bodies c.instance-item.result.bodies)
    (types_in_signature c.instance-item.result.signature) (instance_types c.instance-item.result) None refl refl c.in_ok-add_signature.ensures.listed
    (ap (λ xs. with_numbers c.args.types.now c.add_signature.new.table.numbered (types_in_bodies xs)) (sym c.as_slice.ensures) ∙ none)))
    c.in_err-add_bodies.ensures.left
