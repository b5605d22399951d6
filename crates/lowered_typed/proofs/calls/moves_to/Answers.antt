use Rattle.std.proofs.Common.{◌≡◌, ◌∙◌, Bool, sym, ap}
use Rattle.lowered_pieces.specs.Forms.{cases_ends}
use Rattle.lowered_pieces.specs.Gathered.{only_end}
use Rattle.lowered_steps.specs.Hands.{types_of}
use Rattle.lowered_steps.specs.declared.hands.Ends.{Ends as EndsHeld}
use Rattle.lowered_typed.proofs.More.{comes_same}
use Rattle.lowered_typed.specs.Judging.{signs_here}
use Rattle.lowered_validity.specs.Typing.{comes}
use Rattle.std.proofs.lemmas.Result.{IfOk-weaker}
use Rattle.lowered_typed.specs.Here as here
use Rattle.lowered_typed.specs.Judged as judged
use Rattle.lowered_typed.proofs.calls.moves_to.Goals as goal

pub returns-in-Unsaid : goal.returns-in-Unsaid
returns-in-Unsaid c = ap (λ (es : EndsHeld). here.moves_to c.args.judge.now (only_end (types_of es)) c.args.takes.now) (sym c.in-Unsaid.is)

pub returns-in-Cases : goal.returns-in-Cases
returns-in-Cases c =
    IfOk-weaker c.only_moves.result _ (λ (a : Bool). a ≡ here.moves_to c.args.judge.now (only_end (types_of c.args.ends.now)) c.args.takes.now)
    (λ a e. e ∙ ap (judged.comes_to c.args.judge.now (only_end (cases_ends c.in-Cases.cases.now))) c.in_ok-to.ensures
    ∙ comes_same c.args.judge.now (only_end (cases_ends c.in-Cases.cases.now)) c.args.takes.now
    ∙ ap (λ (es : EndsHeld). here.moves_to c.args.judge.now (only_end (types_of es)) c.args.takes.now) (sym c.in-Cases.is)) c.only_moves.ensures

pub returns-in_ok-from-in-One : goal.returns-in_ok-from-in-One
returns-in_ok-from-in-One c =
    c.comes.ensures ∙ (λ i. comes (signs_here c.args.judge.now) (c.in_ok-from-in-One.ensures i) (c.in_ok-to.ensures i))
    ∙ ap (λ (es : EndsHeld). here.moves_to c.args.judge.now (only_end (types_of es)) c.args.takes.now) (sym c.in-One.is)
