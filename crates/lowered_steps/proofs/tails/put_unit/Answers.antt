use Rattle.std.proofs.Common.{subst}
use Rattle.lowered_pieces.specs.Emitted.{Emits, no_labels}
use Rattle.lowered_steps.specs.Setting.{kit_for}
use Rattle.lowered_pieces.specs.Forms.{constant_code}
use Rattle.std.specs.Prelude.{OnOk}
use Rattle.jib.specs.declared.code.Literal.TheVariants as L
use Rattle.lowered_steps.proofs.tails.put_unit.Goals as goal

pub returns : goal.returns
returns c =
    subst (λ k. OnOk c.put_constant.result (Emits c.args.coding.now c.put_constant.new.self (λ name l. constant_code (kit_for c.args.setting.now name) k
    L.Unit c.args.temp) no_labels))
    c.in_ok-number.ensures c.put_constant.ensures
