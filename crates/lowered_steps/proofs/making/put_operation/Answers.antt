use Rattle.std.proofs.Common.{subst}
use Rattle.lowered_steps.proofs.Made.{works}
use Rattle.lowered_steps.proofs.Sourcing.{slots_in}
use Rattle.lowered_pieces.specs.Emitted.{Sourced}
use Rattle.lowered_steps.specs.Setting.{kit_for, number_for}
use Rattle.lowered_pieces.specs.Forms.{numbers_of}
use Rattle.lowered_pieces.specs.Moves.{sources}
use Rattle.lowered_steps.proofs.making.put_operation.Goals as goal

pub ordered-requires : goal.ordered-requires
ordered-requires c =
    record {
      slots = slots_in c.list_sources.new.coding.slots c.in_ok-listed.listed (λ name. kit_for c.args.setting.now name) c.args.temp
          (λ name. numbers_of (kit_for c.args.setting.now name) (number_for c.args.setting.now) c.as_slice.result.now) c.in_ok-listed.ensures.read;
    }

pub returns : goal.returns
returns c =
    works c.put_apply.result c.args.setting.now c.args.coding.now c.put_apply.new.self c.args.temp c.in_ok-gives.gives c.args.op c.args.order
    c.args.case.now c.list_sources.new.coding c.in_ok-listed.listed c.in_ok-sources.sources
    c.in_ok-gives.ensures c.in_ok-listed.ensures.grown
    (subst (λ us. Sourced c.list_sources.new.coding.slots c.in_ok-listed.listed (λ name. sources (kit_for c.args.setting.now name) c.args.temp
    (numbers_of (kit_for c.args.setting.now name) (number_for c.args.setting.now) us)))
    c.as_slice.ensures c.in_ok-listed.ensures.read) c.in_ok-sources.ensures c.put_apply.ensures
