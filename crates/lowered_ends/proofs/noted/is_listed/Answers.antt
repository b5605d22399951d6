use Rattle.std.proofs.Common.{◌∙◌, List, sym, ap}
use Rattle.lowered_ends.specs.Noted.{row_listed}
use Rattle.lowered_pieces.specs.Forms.{cases_ends}
use Rattle.lowered_pieces.specs.Gathered.{is_one}
use Rattle.sized_nodes.specs.declared.trees.Case.{Case}
use Rattle.std.specs.Prelude.{Bool}
use Rattle.lowered_ends.proofs.noted.is_listed.Goals as goal

pub returns-then-has_state : goal.returns-then-has_state
returns-then-has_state c =
    c.has_one.ensures ∙ ap (λ (cs : List Case). is_one (cases_ends cs)) c.cases.ensures ∙ ap (λ (b : Bool). row_listed c.args.setting.now b c.args.node
    c.args.count) (sym (sym c.has_state.ensures ∙ c.if-has_state.true))

pub returns-else-has_state : goal.returns-else-has_state
returns-else-has_state c =
    ap (λ (b : Bool). row_listed c.args.setting.now b c.args.node c.args.count) (sym (sym c.has_state.ensures ∙ c.if-has_state.false))
