use Rattle.std.proofs.Common.{◌≡◌, ◌∙◌, List, sym, ap}
use Rattle.lowered_ends.proofs.Known.{constant_short}
use Rattle.lowered_ends.proofs.Lists.{none_of}
use Rattle.lowered_ends.proofs.Opened.{ok_with}
use Rattle.lowered_ends.specs.Around.{ok_as as ok_kind}
use Rattle.lowered_pieces.specs.Places.{Naming}
use Rattle.sail_core.specs.declared.tree.Core.{Core}
use Rattle.std.proofs.lemmas.Result.{IfOk-weaker}
use Rattle.std.specs.Prelude.{Bool}
use Rattle.sail_core.specs.declared.tree.Kind.TheVariants as K
use Rattle.lowered_ends.proofs.able.is_constant.Goals as goal

pub returns-in-empty : goal.returns-in-empty
returns-in-empty c =
    let setting = c.args.setting.now in let around = c.args.around.now in let node = c.args.node.now in IfOk-weaker c.is_literal.result _ (λ (answer :
    Bool). (name : Naming) → answer ≡ ok_kind setting around name (K.Constant c.args.literal.now) node) (λ answer is name. is ∙ ap (λ (cs : List Core).
    ok_with setting around name (K.Constant c.args.literal.now) node cs) (sym (none_of c.as_slice.result.now c.in-empty.len_below) ∙ c.as_slice.ensures))
    c.is_literal.ensures

pub returns-in_default : goal.returns-in_default
returns-in_default c =
    let setting = c.args.setting.now in let around = c.args.around.now in let node = c.args.node.now in λ name. constant_short setting around name node
    c.args.literal.now c.as_slice.result.now c.in_default.len_at_least ∙ ap (λ (cs : List Core). ok_with setting around name (K.Constant c.args.literal.now)
    node cs) c.as_slice.ensures
