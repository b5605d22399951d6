use Rattle.std.proofs.Common.{◌≡◌, ◌∙◌, ◌-◌, List, ◌∷◌, refl, ap}
use Rattle.jib.specs.declared.code.Source.{Source}
use Rattle.lowered_nodes.proofs.Joining.{ok_as, ok_first}
use Rattle.lowered_ends.specs.Around.{answer_in}
use Rattle.lowered_pieces.proofs.Emitting.{emits_from}
use Rattle.lowered_pieces.specs.Forms.{answer_make, made_code, numbers_of}
use Rattle.lowered_pieces.specs.Moves.{sources}
use Rattle.lowered_pieces.specs.Nodes.{cases_at}
use Rattle.lowered_pieces.specs.Places.{Naming, Temp}
use Rattle.lowered_steps.specs.Setting.{kit_for, nodes_in, number_for}
use Rattle.lowered_steps.specs.Stands.{stand_of}
use Rattle.lowered_steps.specs.Tails.{tail_of}
use Rattle.size_values.specs.declared.sized.Sized.{Sized}
use Rattle.sized_meanings.specs.Present.{gives_at}
use Rattle.std.specs.Prelude.{slice_get}
use Rattle.sail_core.specs.declared.tree.Giver.TheVariants as G
use Rattle.jib.specs.declared.code.Instruction.TheVariants as I
use Rattle.lowered_nodes.proofs.calls.put_lead.Goals as goal

pub returns : goal.returns
returns c =
    let walk = c.args.walk.now in let setting = walk.setting.now in let s = stand_of c.args.stand.now in let lead = c.args.lead.now in let by : Naming →
    List Source = λ name. sources (kit_for setting name) c.args.stand.now.temp (numbers_of (kit_for setting name) (number_for setting)
    c.as_slice-takes.result.now) in let typ_is : c.in_ok-typ.typ ≡ number_for setting (answer_in (slice_get walk.around.now.instances.now lead.instance)) =
    c.in_ok-typ.ensures ∙ ap (λ (t : Sized). number_for setting t) c.in_ok-answer.ensures in ok_as c.put_made.result _ _ _ _ _ _ (ok_first c.put_made.result
    _ _ _ _ _ _ (emits_from _ _ _ _ _ c.in_ok-arguments.ensures.grown (c.in_ok-put_call.ensures by c.in_ok-arguments.ensures.read)) c.put_made.ensures) (λ
    name i. I.Call (record {
      slot = name (Temp s.temp) (typ_is i);
      function = c.in_ok-called_function.ensures i;
      arguments = sources (kit_for setting name)
          s.temp (numbers_of (kit_for setting name) (number_for setting) (c.as_slice-takes.ensures i));
      on_throw = s.on_throw;
      place = c.args.calling.place;
    }) ∷
    made_code (kit_for setting name) (number_for setting) 1 (answer_make (kit_for setting name) (number_for setting) (typ_is i)) (cases_at
    c.args.calling.node c.args.calling.count (nodes_in setting)) (gives_at (nodes_in setting) (G.Node c.args.calling.node)) (tail_of setting name
    c.args.tail.now) s c.args.coding.now.labels) (λ name. refl)
