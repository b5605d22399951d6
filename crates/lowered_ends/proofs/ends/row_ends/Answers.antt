use Rattle.std.proofs.Common.{◌≡◌, ◌∙◌, List, sym, ap, subst}
use Rattle.lowered_ends.proofs.Lists.{none_of, one_of}
use Rattle.lowered_ends.proofs.Said.{several_gives}
use Rattle.lowered_ends.specs.Ends.{only_gives, row_ends}
use Rattle.lowered_pieces.specs.Forms.{End, one_end}
use Rattle.lowered_steps.specs.Hands.{types_of}
use Rattle.lowered_steps.specs.declared.hands.Ends.{Ends}
use Rattle.size_values.specs.declared.sized.Sized.{Sized}
use Rattle.sized_nodes.specs.declared.trees.Case.{Case}
use Rattle.std.specs.Prelude.{Bool, IfOk}
use Rattle.lowered_ends.proofs.ends.row_ends.Goals as goal

pub returns-in-empty : goal.returns-in-empty
returns-in-empty c =
    ap (λ (cs : List Case). only_gives c.args.setting.now cs) (sym (none_of c.cases.result.now c.in-empty.len_below) ∙ c.cases.ensures) ∙ ap (λ (b : Bool).
    row_ends c.args.setting.now b c.args.node c.args.count) (sym (sym c.has_state.ensures ∙ c.if-has_state.true))

pub returns-in_ok-copy_sized-in-len1 : goal.returns-in_ok-copy_sized-in-len1
returns-in_ok-copy_sized-in-len1 c =
    ap (λ (t : Sized). one_end t) c.in_ok-copy_sized-in-len1.ensures ∙ ap (λ (cs : List Case). only_gives c.args.setting.now cs) (sym (one_of
    c.cases.result.now c.only-item.result c.in-len1.len_at_least c.in-len1.len_below c.only-item.is) ∙ c.cases.ensures) ∙ ap (λ (b : Bool). row_ends
    c.args.setting.now b c.args.node c.args.count) (sym (sym c.has_state.ensures ∙ c.if-has_state.true))

pub returns-in-len2-up : goal.returns-in-len2-up
returns-in-len2-up c =
    several_gives c.args.setting.now c.cases.result.now c.in-len2-up.len_at_least ∙ ap (λ (cs : List Case). only_gives c.args.setting.now cs)
    c.cases.ensures ∙ ap (λ (b : Bool). row_ends c.args.setting.now b c.args.node c.args.count) (sym (sym c.has_state.ensures ∙ c.if-has_state.true))

pub returns-else-has_state : goal.returns-else-has_state
returns-else-has_state c =
    subst (λ (es : List End). IfOk c.made_ends.result (λ (ends : Ends). types_of ends ≡ es)) (ap (λ (b : Bool). row_ends c.args.setting.now b c.args.node
    c.args.count) (sym (sym c.has_state.ensures ∙ c.if-has_state.false))) c.made_ends.ensures
