use Rattle.std.proofs.Common.{◌∙◌, List, [], ◌∷◌, ◌++◌, refl, sym, ap, subst}
use Rattle.jib.specs.declared.code.Instruction.{Instruction}
use Rattle.jib.specs.declared.code.Source.{Source}
use Rattle.lowered_nodes.proofs.Forms.{operand_is}
use Rattle.lowered_nodes.proofs.Joining.{ok_as}
use Rattle.lowered_nodes.specs.Walk.{operand_for}
use Rattle.lowered_pieces.proofs.Emitting.{emits_from, emits_next, ok_next}
use Rattle.lowered_pieces.specs.Emitted.{Sourced}
use Rattle.lowered_pieces.specs.Places.{Naming, Place, Temp}
use Rattle.lowered_steps.specs.Hands.{types_of}
use Rattle.lowered_steps.specs.Setting.{number_for}
use Rattle.lowered_steps.specs.Stands.{stand_of}
use Rattle.std.proofs.Common.{append_assoc}
use Rattle.jib.specs.declared.code.Instruction.TheVariants as I
use Rattle.jib.specs.declared.code.Source.TheVariants as R
use Rattle.lowered_nodes.proofs.mappings.put_direction.Goals as goal

pub returns : goal.returns
returns c =
    let walk = c.args.walk.now in
    let setting = walk.setting.now in
    let s = stand_of c.args.stand.now in
    let m = c.args.mapped.now in
    let es = types_of c.args.ends.now in
    let place : Place = Temp c.args.stand.now.temp in
    let by : Naming → List Source = λ name. R.Slot (name place c.in_ok-takes.takes) ∷ [] in
    let called : Naming → List Instruction = λ name. I.Tick ∷ I.Call (record {
      slot = name place c.in_ok-gives.gives;
      function = m.function;
      arguments = by name;
      on_throw = s.on_throw;
      place = c.args.place;
    }) ∷ [] in
    let paid : Naming → List Instruction = λ name.
    I.Payload (name place c.in_ok-payload.payload) (R.Slot (name place c.in_ok-gives.gives)) 0 c.args.label ∷ [] in
    let is = c.in_ok-push.ensures.pushed ∙ ap (λ (us : List Source). us ++ c.in_ok-source.field-0 ∷ []) c.new-arguments.ensures in
    let read = subst (λ (us : List Source). Sourced c.source.new.self.slots us by) (sym is) c.in_ok-source.ensures.read in
    let asked = emits_next _ _ _ _ _ c.in_ok-put_tick.ensures (emits_from _ _ _ _ _ c.in_ok-source.ensures.grown (c.in_ok-put_call.ensures by read)) in
    ok_as c.put_payload.result _ _ _ _ _ _
    (ok_next c.put_payload.result _ _ _ _ _ (emits_next _ _ _ _ called c.in_ok-put_operand.ensures asked) c.put_payload.ensures)
    (λ name. append_assoc (operand_for walk name c.args.stand.now.temp es c.in_ok-takes.takes) (called name) (paid name)
    ∙ (λ i. operand_for walk name c.args.stand.now.temp es (c.in_ok-takes.ensures i) ++ I.Tick ∷ I.Call (record {
      slot = name place (c.in_ok-gives.ensures i);
      function = m.function;
      arguments = R.Slot (name place (c.in_ok-takes.ensures i)) ∷ [];
      on_throw = s.on_throw;
      place = c.args.place;
    }) ∷ I.Payload (name place (c.in_ok-payload.ensures i)) (R.Slot (name place (c.in_ok-gives.ensures i))) 0 c.args.label ∷ [])
    ∙ ap (λ (us : List Instruction). us ++ I.Tick ∷ I.Call (record {
      slot = name place (number_for setting m.gives);
      function = m.function;
      arguments = R.Slot (name place (number_for setting m.takes)) ∷ [];
      on_throw = s.on_throw;
      place = c.args.place;
    }) ∷ I.Payload (name place (number_for setting m.payload)) (R.Slot (name place (number_for setting m.gives))) 0 c.args.label ∷ [])
    (operand_is walk name c.args.stand.now.temp es m.takes)) (λ name. refl)
