use Rattle.std.proofs.Common.{◌∙◌, ◌-◌, ap, arith, refl, sym}
use Rattle.lowered_tables.specs.Built.{has_number, numbered_below}
use Rattle.lowered_tables.proofs.Growing.{begins_here, begins_then, below_more, below_none, exit_more, one_next, one_stuck}
use Rattle.lowered_tables.proofs.Growing.{one_whole}
use Rattle.lowered_tables.proofs.tables.+add_below.Goals as goal

pub loop-part-init : goal.loop-part-init
loop-part-init t c = record { begins = begins_here c.put_list.new.list.numbered; listed = refl }

pub loop-part-preserved : goal.loop-part-preserved
loop-part-preserved t c =
    let l = c.loop-part in
    record {
      begins = begins_then c.put_list.new.list.numbered l.list.numbered c.add_below.new.list.numbered l.invariant.begins c.in_ok-add_below.ensures.grown.begins;
      listed = one_next (numbered_below c.args.types.now (c.args.depth - 1)) c.put_list.new.list.numbered c.as_slice-inside.result.now l.part-index c.part-item.result
          l.list.numbered c.add_below.new.list.numbered l.invariant.listed c.in_ok-add_below.ensures.listed c.loop-part-test.true c.part-item.is;
    }

pub returns-clause-grown : goal.returns-clause-grown
returns-clause-grown t c =
    let l = c.loop-part in
    let put = c.in_ok-put_type.ensures.grown in
    record {
      begins = begins_then c.args.list.now.numbered l.list.numbered c.put_type.new.list.numbered
          (begins_then c.args.list.now.numbered c.put_list.new.list.numbered l.list.numbered c.in_ok-put_list.ensures.begins l.invariant.begins) put.begins;
      known = put.known;
    }

pub returns-clause-listed : goal.returns-clause-listed
returns-clause-listed t c =
    let l = c.loop-part in
    below_more c.args.types.now c.args.typ.now c.args.depth (c.args.depth - 1) c.args.list.now.numbered c.put_list.new.list.numbered c.as_slice-inside.result.now
    l.list.numbered c.put_type.new.list.numbered (omega arith) (sym c.if-has_number.false ∙ c.has_number.ensures ∙ ap (λ ns. has_number ns c.args.typ.now) c.as_slice.ensures) c.in_ok-put_list.ensures.put
    (c.as_slice-inside.ensures ∙ c.in_ok-parts.ensures)
    (one_whole (numbered_below c.args.types.now (c.args.depth - 1)) c.put_list.new.list.numbered c.as_slice-inside.result.now l.part-index l.list.numbered
    c.loop-part-test.false l.invariant.listed)
    c.in_ok-put_type.ensures.put

pub returns-in_err-add_below-clause-left : goal.returns-in_err-add_below-clause-left
returns-in_err-add_below-clause-left t c =
    let l = c.loop-part in
    exit_more _ _ c.from_residual-in_err-add_below.ensures.1 (λ stuck.
    below_none c.args.types.now c.args.typ.now c.args.depth (c.args.depth - 1) c.args.list.now.numbered c.put_list.new.list.numbered c.as_slice-inside.result.now
    (omega arith) (sym c.if-has_number.false ∙ c.has_number.ensures ∙ ap (λ ns. has_number ns c.args.typ.now) c.as_slice.ensures) c.in_ok-put_list.ensures.put (c.as_slice-inside.ensures ∙ c.in_ok-parts.ensures)
    (one_stuck (numbered_below c.args.types.now (c.args.depth - 1)) c.put_list.new.list.numbered c.as_slice-inside.result.now l.part-index c.part-item.result
    l.list.numbered c.loop-part-test.true c.part-item.is l.invariant.listed stuck))
    c.in_err-add_below.ensures.left
