use Rattle.std.proofs.Common.{◌≡◌, ◌∙◌, sym, ap}
use Rattle.lowered_pieces.specs.Gathered.{only_end}
use Rattle.lowered_steps.specs.Hands.{types_of}
use Rattle.lowered_steps.specs.declared.hands.Ends.{Ends as EndsHeld}
use Rattle.lowered_typed.proofs.Fixed.{nothing_typ}
use Rattle.size_values.specs.declared.sized.Sized.{Sized}
use Rattle.std.proofs.lemmas.Result.{IfOk-weaker}
use Rattle.lowered_typed.specs.Here as here
use Rattle.lowered_typed.proofs.ends.only_type.Goals as goal

pub returns-in-Unsaid : goal.returns-in-Unsaid
returns-in-Unsaid c =
    sym (nothing_typ c.args.judge.now.setting.now.types.now)
    ∙ ap (λ (es : EndsHeld). here.operand_typ c.args.judge.now (only_end (types_of es))) (sym c.in-Unsaid.is)

pub returns-in-Cases : goal.returns-in-Cases
returns-in-Cases c =
    IfOk-weaker c.only_gives.result _ (λ (a : Sized). a ≡ here.operand_typ c.args.judge.now (only_end (types_of c.args.ends.now))) (λ a e. e
    ∙ ap (λ (es : EndsHeld). here.operand_typ c.args.judge.now (only_end (types_of es))) (sym c.in-Cases.is)) c.only_gives.ensures

pub returns-in-One : goal.returns-in-One
returns-in-One c =
    IfOk-weaker c.copy_sized.result _ (λ (a : Sized). a ≡ here.operand_typ c.args.judge.now (only_end (types_of c.args.ends.now))) (λ a e. e
    ∙ ap (λ (es : EndsHeld). here.operand_typ c.args.judge.now (only_end (types_of es))) (sym c.in-One.is)) c.copy_sized.ensures
