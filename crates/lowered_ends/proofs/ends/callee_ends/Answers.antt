use Rattle.std.proofs.Common.{◌≡◌, ◌∙◌, List, length, sym, ap}
use Rattle.lowered_ends.proofs.Said.{applies_ends, made_same, row_said}
use Rattle.lowered_ends.specs.Around.{piece_as}
use Rattle.lowered_ends.specs.Ends.{counted_ends}
use Rattle.lowered_pieces.specs.Places.{Naming}
use Rattle.lowered_steps.specs.Hands.{types_of}
use Rattle.lowered_steps.specs.declared.hands.Ends.{Ends}
use Rattle.sail_core.specs.declared.tree.Callee.{Callee}
use Rattle.sail_core.specs.declared.tree.Core.{Core, out-Core}
use Rattle.std.proofs.lemmas.Result.{IfOk-weaker}
use Rattle.std.specs.Prelude.{nat_eq}
use Rattle.sail_core.specs.declared.tree.Kind.TheVariants as K
use Rattle.lowered_ends.proofs.ends.callee_ends.Goals as goal

pub returns-in-Function : goal.returns-in-Function
returns-in-Function c =
    let setting = c.args.setting.now in let around = c.args.around.now in let node = c.args.node.now in IfOk-weaker c.made_ends.result _ (λ (ends : Ends).
    (name : Naming) → types_of ends ≡ (piece_as setting around name (K.Call c.args.callee) node).ends) (λ ends is name. is ∙ made_same setting around name
    node _ (ap (λ (cs : List Core). length cs) c.as_slice-parts.ensures) ∙ ap (λ (f : Callee). (piece_as setting around name (K.Call f) node).ends) (sym
    c.in-Function.is)) c.made_ends.ensures

pub returns-in-Row : goal.returns-in-Row
returns-in-Row c =
    let setting = c.args.setting.now in let around = c.args.around.now in let node = c.args.node.now in IfOk-weaker c.row_ends.result _ (λ (ends : Ends).
    (name : Naming) → types_of ends ≡ (piece_as setting around name (K.Call c.args.callee) node).ends) (λ ends is name. is ∙ row_said setting around name
    node c.in-Row.row _ (ap (λ (cs : List Core). length cs) c.as_slice-parts.ensures) ∙ ap (λ (f : Callee). (piece_as setting around name (K.Call f)
    node).ends) (sym c.in-Row.is)) c.row_ends.ensures

pub returns-in-Constructor : goal.returns-in-Constructor
returns-in-Constructor c =
    let setting = c.args.setting.now in let around = c.args.around.now in let node = c.args.node.now in IfOk-weaker c.made_ends-in-Constructor.result _ (λ
    (ends : Ends). (name : Naming) → types_of ends ≡ (piece_as setting around name (K.Call c.args.callee) node).ends) (λ ends is name. is ∙ made_same
    setting around name node _ (ap (λ (cs : List Core). length cs) c.as_slice-parts.ensures) ∙ ap (λ (f : Callee). (piece_as setting around name (K.Call f)
    node).ends) (sym c.in-Constructor.is)) c.made_ends-in-Constructor.ensures

pub returns-in-Converts : goal.returns-in-Converts
returns-in-Converts c =
    let setting = c.args.setting.now in let around = c.args.around.now in let node = c.args.node.now in λ name. ap (λ (f : Callee). (piece_as setting around
    name (K.Call f) node).ends) (sym c.in-Converts.is)

pub returns-in-Applies : goal.returns-in-Applies
returns-in-Applies c =
    let setting = c.args.setting.now in let around = c.args.around.now in let node = c.args.node.now in IfOk-weaker c.counted_ends.result _ (λ (ends :
    Ends). (name : Naming) → types_of ends ≡ (piece_as setting around name (K.Call c.args.callee) node).ends) (λ ends is name. is ∙ ap (λ (cs : List Core).
    counted_ends setting (out-Core node).number 1 (nat_eq (length cs) 1)) c.as_slice-parts.ensures ∙ applies_ends setting around name node _ (out-Core
    node).parts ∙ ap (λ (f : Callee). (piece_as setting around name (K.Call f) node).ends) (sym c.in-Applies.is)) c.counted_ends.ensures
