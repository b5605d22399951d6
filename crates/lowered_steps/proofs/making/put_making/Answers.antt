use Rattle.std.proofs.Common.{◌∙◌, [], ◌∷◌, sym, ap, subst}
use Rattle.lowered_pieces.proofs.Emitting.{emits_none, ok_same}
use Rattle.lowered_steps.proofs.Made.{making_is}
use Rattle.lowered_pieces.specs.Emitted.{Emits, no_labels}
use Rattle.lowered_pieces.specs.Places.{Temp}
use Rattle.lowered_steps.specs.Setting.{kit_for, number_for}
use Rattle.lowered_steps.specs.Stands.{stand_of, scope_of}
use Rattle.lowered_pieces.specs.Forms.{first_type}
use Rattle.lowered_steps.specs.Makers.{maker_of}
use Rattle.std.specs.Prelude.{OnOk}
use Rattle.lowered_pieces.specs.Moves.{move, retype}
use Rattle.jib.specs.declared.code.Instruction.TheVariants as I
use Rattle.jib.specs.declared.code.Source.TheVariants as R
use Rattle.jib.specs.declared.code.Target.TheVariants as G
use Rattle.lowered_steps.specs.declared.making.Making.TheVariants as M
use Rattle.lowered_pieces.specs.Forms.{place_of}
use Rattle.lowered_pieces.specs.Places.{Raised}
use Rattle.lowered_steps.proofs.making.put_making.Goals as goal

pub returns-in_ok-takes-in-Local : goal.returns-in_ok-takes-in-Local
returns-in_ok-takes-in-Local c =
    making_is c.put_move.result c.args.setting.now c.args.coding.now c.put_move.new.coding c.args.stand.now c.args.case.now c.args.making.now _ c.in-Local.is
    (ok_same c.put_move.result c.args.coding.now c.put_move.new.coding (λ name l. move (kit_for c.args.setting.now name) (Temp c.args.stand.now.temp)
    c.in_ok-gives-in-Local.gives c.place_in-from.result c.in_ok-takes-in-Local.takes ∷ [])
    (λ name l. maker_of c.args.setting.now name (M.Local c.in-Local.name) (stand_of c.args.stand.now) c.args.case.now) no_labels
    (λ name. ap (λ k. move (kit_for c.args.setting.now name) (Temp c.args.stand.now.temp) k c.place_in-from.result c.in_ok-takes-in-Local.takes ∷ [])
    c.in_ok-gives-in-Local.ensures
    ∙ ap (λ q. move (kit_for c.args.setting.now name) (Temp c.args.stand.now.temp) (number_for c.args.setting.now c.args.case.now.gives) q
    c.in_ok-takes-in-Local.takes ∷ []) c.place_in-from.ensures
    ∙ ap (λ k. move (kit_for c.args.setting.now name) (Temp c.args.stand.now.temp) (number_for c.args.setting.now c.args.case.now.gives)
    (place_of (scope_of c.args.stand.now.scope.now) c.in-Local.name.now) k ∷ [])
    (c.in_ok-takes-in-Local.ensures name ∙ ap (λ us. first_type (kit_for c.args.setting.now name) (number_for c.args.setting.now) us) c.as_slice.ensures))
    c.put_move.ensures)

pub returns-in_ok-gives-in-Register : goal.returns-in_ok-gives-in-Register
returns-in_ok-gives-in-Register c =
    making_is c.put_register.result c.args.setting.now c.args.coding.now c.put_register.new.self c.args.stand.now c.args.case.now c.args.making.now _
    c.in-Register.is
    (subst (λ k. OnOk c.put_register.result (Emits c.args.coding.now c.put_register.new.self (λ name l. I.Copy
    (G.Slot (name (Temp c.args.stand.now.temp) k)) (R.Register c.in-Register.register) ∷ []) no_labels)) c.in_ok-gives-in-Register.ensures
    c.put_register.ensures)

pub returns-in_ok-gives-in-Opening : goal.returns-in_ok-gives-in-Opening
returns-in_ok-gives-in-Opening c =
    making_is c.put_opening.result c.args.setting.now c.args.coding.now c.put_opening.new.self c.args.stand.now c.args.case.now c.args.making.now _
    c.in-Opening.is
    (subst (λ k. OnOk c.put_opening.result (Emits c.args.coding.now c.put_opening.new.self (λ name l. I.Copy (G.Slot (name (Temp c.args.stand.now.temp) k))
    (R.Let c.in-Opening.opening) ∷ []) no_labels)) c.in_ok-gives-in-Opening.ensures c.put_opening.ensures)

pub returns-in_ok-gives-in-Caught : goal.returns-in_ok-gives-in-Caught
returns-in_ok-gives-in-Caught c =
    making_is c.put_copy.result c.args.setting.now c.args.coding.now c.put_copy.new.self c.args.stand.now c.args.case.now c.args.making.now _ c.in-Caught.is
    (subst (λ k. OnOk c.put_copy.result (Emits c.args.coding.now c.put_copy.new.self (λ name l. I.Copy (G.Slot (name (Temp c.args.stand.now.temp) k))
    (R.Slot (name Raised c.args.setting.now.exception)) ∷ []) no_labels)) c.in_ok-gives-in-Caught.ensures c.put_copy.ensures)

pub returns-in-Casts : goal.returns-in-Casts
returns-in-Casts c =
    making_is c.put_cast.result c.args.setting.now c.args.coding.now c.put_cast.new.coding c.args.stand.now c.args.case.now c.args.making.now _ c.in-Casts.is
    (c.put_cast.ensures)

pub returns-in-Works : goal.returns-in-Works
returns-in-Works c =
    making_is c.put_work.result c.args.setting.now c.args.coding.now c.put_work.new.coding c.args.stand.now c.args.case.now c.args.making.now _ c.in-Works.is
    (c.put_work.ensures)

pub returns-in-Changes : goal.returns-in-Changes
returns-in-Changes c =
    making_is c.put_changed.result c.args.setting.now c.args.coding.now c.put_changed.new.coding c.args.stand.now c.args.case.now c.args.making.now _
    c.in-Changes.is (c.put_changed.ensures)

pub returns-in-Constructs : goal.returns-in-Constructs
returns-in-Constructs c =
    making_is c.put_constructed.result c.args.setting.now c.args.coding.now c.put_constructed.new.coding c.args.stand.now c.args.case.now c.args.making.now
    _ c.in-Constructs.is
    (c.put_constructed.ensures)

pub returns-in_ok-gives-in-Answers : goal.returns-in_ok-gives-in-Answers
returns-in_ok-gives-in-Answers c =
    making_is c.put_retype.result c.args.setting.now c.args.coding.now c.put_retype.new.coding c.args.stand.now c.args.case.now
    c.args.making.now _ c.in-Answers.is
    (subst (λ k. OnOk c.put_retype.result (Emits c.args.coding.now c.put_retype.new.coding
    (λ name l. retype (kit_for c.args.setting.now name) c.args.stand.now.temp c.in-Answers.typ k) no_labels))
    c.in_ok-gives-in-Answers.ensures c.put_retype.ensures)

pub returns-in-Again : goal.returns-in-Again
returns-in-Again c =
    subst (λ v. Emits c.args.coding.now c.args.coding.now (λ name l. maker_of c.args.setting.now name v (stand_of c.args.stand.now) c.args.case.now)
    no_labels) (sym c.in-Again.is) (emits_none c.args.coding.now)

pub returns-in_ok-gives-in-Variable : goal.returns-in_ok-gives-in-Variable
returns-in_ok-gives-in-Variable c =
    making_is c.put_copy-in-Variable.result c.args.setting.now c.args.coding.now c.put_copy-in-Variable.new.self c.args.stand.now c.args.case.now
    c.args.making.now _ c.in-Variable.is
    (ok_same c.put_copy-in-Variable.result c.args.coding.now c.put_copy-in-Variable.new.self
    (λ name l. I.Copy (G.Slot (name (Temp c.args.stand.now.temp) c.in_ok-gives-in-Variable.gives))
    (R.Slot (name c.place_in-from-in-Variable.result c.in_ok-gives-in-Variable.gives)) ∷ [])
    (λ name l. maker_of c.args.setting.now name (M.Variable c.in-Variable.name) (stand_of c.args.stand.now) c.args.case.now) no_labels
    (λ name. ap (λ k. I.Copy (G.Slot (name (Temp c.args.stand.now.temp) k)) (R.Slot (name c.place_in-from-in-Variable.result k)) ∷ [])
    c.in_ok-gives-in-Variable.ensures
    ∙ ap (λ q. I.Copy (G.Slot (name (Temp c.args.stand.now.temp) (number_for c.args.setting.now c.args.case.now.gives)))
    (R.Slot (name q (number_for c.args.setting.now c.args.case.now.gives))) ∷ []) c.place_in-from-in-Variable.ensures)
    c.put_copy-in-Variable.ensures)
