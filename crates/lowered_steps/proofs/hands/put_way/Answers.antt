use Rattle.std.proofs.Common.{◌∙◌, List, [], ◌∷◌, ◌++◌, sym, ap, subst}
use Rattle.jib.specs.declared.code.Instruction.{Instruction}
use Rattle.jib.specs.declared.code.Instruction.TheVariants as I
use Rattle.jib.specs.declared.code.Source.{Source}
use Rattle.jib.specs.declared.code.Source.TheVariants as R
use Rattle.lowered_pieces.specs.Emitted.{Sourced, no_labels}
use Rattle.lowered_pieces.specs.Moves.{move}
use Rattle.lowered_pieces.specs.Places.{Naming, Place, Temp}
use Rattle.lowered_pieces.proofs.Emitting.{ok_from, ok_next, ok_same}
use Rattle.lowered_steps.specs.Setting.{kit_for}
use Rattle.lowered_steps.proofs.hands.put_way.Goals as goal

pub returns : goal.returns
returns c =
    let setting = c.args.setting.now in
    let place : Place = Temp c.args.free in
    let by : Naming → List Source = λ name. R.Slot (name place c.in_ok-takes.takes) ∷ [] in
    let moved : Naming → List Instruction = λ name.
    move (kit_for setting name) place c.in_ok-takes.takes c.args.value.now.place c.in_ok-from.from ∷ [] in
    let called : Naming → List Instruction = λ name. I.Call (record {
      slot = name place c.in_ok-gives.gives;
      function = c.args.mapped.now.function;
      arguments = by name;
      on_throw = c.args.throw;
      place = record { file = 0; line = 0; column = 0 };
    }) ∷ [] in
    let is = c.in_ok-push.ensures.pushed ∙ ap (λ (us : List Source). us ++ c.in_ok-source.field-0 ∷ []) c.new-arguments.ensures in
    let read = subst (λ (us : List Source). Sourced c.source.new.self.slots us by) (sym is) c.in_ok-source.ensures.read in
    ok_same c.put_call.result _ _ _ _ no_labels
    (λ name i. move (kit_for setting name) place (c.in_ok-takes.ensures i) c.args.value.now.place (c.in_ok-from.ensures i) ∷ I.Call (record {
      slot = name place (c.in_ok-gives.ensures i);
      function = c.args.mapped.now.function;
      arguments = R.Slot (name place (c.in_ok-takes.ensures i)) ∷ [];
      on_throw = c.args.throw;
      place = record { file = 0; line = 0; column = 0 };
    }) ∷ [])
    (ok_next c.put_call.result _ _ _ moved called c.in_ok-put_move.ensures
    (ok_from c.put_call.result _ _ _ _ _ c.in_ok-source.ensures.grown (c.put_call.ensures by read)))
