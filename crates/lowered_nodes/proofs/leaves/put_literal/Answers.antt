use Rattle.std.proofs.Common.{[], ◌∷◌, ◌++◌, refl, ap}
use Rattle.jib.specs.declared.code.Instruction.TheVariants as I
use Rattle.jib.specs.declared.code.Source.TheVariants as R
use Rattle.jib.specs.declared.code.Target.TheVariants as G
use Rattle.lowered_pieces.specs.Places.{Temp}
use Rattle.lowered_steps.specs.Tails.{tail_of}
use Rattle.lowered_nodes.proofs.Joining.{ok_as, ok_first}
use Rattle.lowered_nodes.proofs.leaves.put_literal.Goals as goal

pub returns : goal.returns
returns c =
    let setting = c.args.walk.now.setting.now in
    ok_as c.put_tail.result _ _ _ _ _ _
    (ok_first c.put_tail.result _ _ _ _ _ _ c.in_ok-put_constant.ensures c.put_tail.ensures)
    (λ name. ap (λ n. I.Copy (G.Slot (name (Temp c.args.stand.now.temp) n)) (R.Constant n c.args.literal)
    ∷ (tail_of setting name c.args.tail.now).code c.args.typ.now c.args.coding.now.labels) c.in_ok-number.ensures) (λ name. refl)
