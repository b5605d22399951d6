use Rattle.std.proofs.Common.{sym, subst}
use Rattle.lowered_pieces.proofs.Emitting.{emits_none}
use Rattle.lowered_pieces.specs.Emitted.{Emits, no_labels}
use Rattle.lowered_steps.specs.Setting.{kit_for, number_for}
use Rattle.std.specs.Prelude.{OnOk}
use Rattle.lowered_pieces.specs.Places.{from}
use Rattle.lowered_steps.specs.Noting.{taken_where}
use Rattle.lowered_steps.proofs.notes.put_where.Goals as goal

pub returns-then-gives : goal.returns-then-gives
returns-then-gives c =
    subst (λ b. OnOk c.put_taken.result (Emits c.args.coding.now c.put_taken.new.coding (λ name l. taken_where (kit_for c.args.setting.now name)
    (number_for c.args.setting.now) b c.args.sized.now c.args.part (from (kit_for c.args.setting.now name) c.args.place c.args.typ) c.args.free)
    no_labels)) (sym c.if-gives.true) c.put_taken.ensures

pub returns-else-gives : goal.returns-else-gives
returns-else-gives c =
    subst (λ b. Emits c.args.coding.now c.args.coding.now (λ name l. taken_where (kit_for c.args.setting.now name) (number_for c.args.setting.now) b
    c.args.sized.now c.args.part (from (kit_for c.args.setting.now name) c.args.place c.args.typ) c.args.free) no_labels) (sym c.if-gives.false)
    (emits_none c.args.coding.now)
