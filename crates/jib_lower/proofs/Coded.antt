-- The functions of openings, by what is around them and by their code.
use Rattle.std.proofs.Common.{◌≡◌, ◌∙◌, ℕ, List, [], ◌∷◌, Some, ap, refl, subst, sym, true}
use Rattle.std.specs.Prelude.{slice_get}
use Rattle.sail_core.specs.declared.patterns.Arm.{Arm}
use Rattle.sail_core.specs.declared.patterns.Arm.TheVariants.{Flat}
use Rattle.sail_core.specs.declared.model.Opening.{Opening}
use Rattle.size_values.specs.declared.sized.Sized.{Sized}
use Rattle.sized_nodes.specs.declared.trees.NodeSizes.{NodeSizes}
use Rattle.jib.specs.declared.code.Function.{Function as Made}
use Rattle.jib.specs.Typing.{same}
use Rattle.lowered_types.specs.Table.{type_in}
use Rattle.lowered_pieces.specs.Arms.{steps_in}
use Rattle.lowered_steps.specs.declared.setting.Setting.{Setting}
use Rattle.lowered_laws.specs.Opened.{held_typ}
use Rattle.lowered_functions.specs.Walk.{Walk}
use Rattle.lowered_functions.specs.declared.openings.LetName.{LetName}
use Rattle.lowered_typed.specs.declared.signs.Judge.{Judge}
use Rattle.lowered_typed.specs.Judging.{arm_typed}
use Rattle.lowered_typed.proofs.Fixed.{nothing_typ}
use Rattle.jib_lower.specs.declared.functions.Head.{Head}
use Rattle.jib_lower.specs.declared.instances.Model.{Model}
use Rattle.jib_lower.specs.Lowered.{ArmTaken, NameMade, OpeningAround, ValueMade, let_hand}
use Rattle.jib_lower.specs.Openings.{LetMade, NameCode, ValueCode}
use Rattle.jib_lower.specs.Reads.{tree_reads}
use Rattle.jib_lower.proofs.Held.{holds}

module _ (model : Model) (before names : List ℕ) (walk : Walk) (judge : Judge) (head : Head) (made : Made) where
  -- of a value
  abbrev value_of : (o : Opening) (bodies : List (List NodeSizes)) (typ : Sized) → ValueCode walk judge head o typ made
      → OpeningAround model bodies (tree_reads bodies o.value) before names walk judge head → head.result ≡ type_in model.numbered.now typ
      → ValueMade model o bodies before names made
  value_of o bodies typ code around result = record {
    walk = walk;
    judge = judge;
    head = head;
    coding = code.coding;
    around = around;
    able = code.able;
    right = code.right;
    typ = typ;
    only = code.only;
    result = result;
    code = code.code;
    is = code.is;
  }

  pub value_made : (o : Opening) (bodies : List (List NodeSizes)) (typ : Sized) → ValueCode walk judge head o typ made
      → OpeningAround model bodies (tree_reads bodies o.value) before names walk judge head → head.result ≡ type_in model.numbered.now typ
      → ValueMade model o bodies before names made
  value_made o bodies typ code around result = value_of o bodies typ code around result

  -- of a let
  pub let_made : (o : Opening) (bodies : List (List NodeSizes)) (arm : Arm) (typ : Sized) → ValueCode walk judge head o typ made
      → OpeningAround model bodies (tree_reads bodies o.value) before names walk judge head → head.result ≡ type_in model.numbered.now typ
      → ArmTaken walk.setting.now walk.around.now o.value arm typ → LetMade model o bodies before names arm typ made
  let_made o bodies arm typ code around result taken = record { value = value_of o bodies typ code around result; taken = taken }

  -- of a name
  pub name_made : (name : LetName) (arm : Arm) → NameCode walk judge head name arm made → OpeningAround model [] [] before names walk judge head
      → head.result ≡ type_in model.numbered.now name.typ.now → name.steps.now ≡ steps_in arm
      → NameMade model name.place name.opening name.whole.now name.steps.now name.name.now before names made
  name_made name arm code around result steps = record {
    walk = walk;
    judge = judge;
    head = head;
    coding = code.coding;
    name = name;
    around = around;
    placed = refl;
    opening = refl;
    whole_is = refl;
    steps_are = refl;
    text_is = refl;
    given = subst (λ ts. same (slice_get ts name.opening) (Some (type_in model.numbered.now name.whole.now)) ≡ true) around.lets
        (subst (λ xs. same (slice_get judge.signs.now.lets.now name.opening) (Some (type_in xs name.whole.now)) ≡ true) around.setting.numbered code.given);
    right = ap (λ ss. arm_typed judge (Flat 0 ss) (name.whole.now ∷ [])) steps ∙ code.held.right;
    holds = λ naming. subst (λ (z : Setting). held_typ (let_hand z naming name.steps.now name.whole.now).names
        (let_hand z naming name.steps.now name.whole.now).named name.name.now ≡ Some name.typ.now) around.judged.0
        (holds judge naming name.steps.now name.whole.now name.name.now name.typ.now
        (ap (λ (z : Setting). z.nothing.now) around.judged.0 ∙ code.nothing ∙ sym (nothing_typ judge.setting.now.types.now)) code.held.typ);
    result = result;
    code = code.code;
    is = code.is;
  }
