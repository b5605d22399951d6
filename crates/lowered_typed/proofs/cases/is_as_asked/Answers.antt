use Rattle.std.proofs.Common.{◌≡◌, ◌∙◌, Bool, sym, ap}
use Rattle.lowered_pieces.specs.Forms.{dead}
use Rattle.lowered_typed.specs.Asked.{asked}
use Rattle.lowered_typed.specs.Judging.{signs_here}
use Rattle.lowered_validity.specs.Typing.{comes}
use Rattle.std.proofs.lemmas.Result.{IfOk-weaker}
use Rattle.std.specs.Prelude.{◌||◌}
use Rattle.lowered_typed.specs.Here as here
use Rattle.lowered_typed.specs.Judged as judged
use Rattle.lowered_typed.proofs.cases.is_as_asked.Goals as goal

pub returns-in-Nothing : goal.returns-in-Nothing
returns-in-Nothing c = ap (λ q. asked c.args.judge.now q c.args.case.now) (sym c.in-Nothing.is)

pub returns-in-Casts : goal.returns-in-Casts
returns-in-Casts c =
    IfOk-weaker c.is_cast.result _ (λ (a : Bool). a ≡ asked c.args.judge.now c.args.asked c.args.case.now) (λ a e. e
    ∙ (λ i. comes (signs_here c.args.judge.now) (here.first_number c.args.judge.now (c.as_slice.ensures i)) (c.in_ok-gives.ensures i))
    ∙ ap (λ q. asked c.args.judge.now q c.args.case.now) (sym c.in-Casts.is)) c.is_cast.ensures

pub returns-in-Recasts : goal.returns-in-Recasts
returns-in-Recasts c =
    IfOk-weaker c.is_recast.result _ (λ (a : Bool). a ≡ asked c.args.judge.now c.args.asked c.args.case.now) (λ a e. e
    ∙ (λ i. dead (c.as_slice-in-Recasts.ensures i) || comes (signs_here c.args.judge.now) (here.first_number c.args.judge.now
    (c.as_slice-in-Recasts.ensures i)) (c.in_ok-gives.ensures i))
    ∙ ap (λ q. asked c.args.judge.now q c.args.case.now) (sym c.in-Recasts.is)) c.is_recast.ensures

pub returns-in-From : goal.returns-in-From
returns-in-From c =
    c.comes.ensures ∙ ap (comes (signs_here c.args.judge.now) c.in-From.from) c.in_ok-gives.ensures
    ∙ ap (λ q. asked c.args.judge.now q c.args.case.now) (sym c.in-From.is)

pub returns-in-Sourced : goal.returns-in-Sourced
returns-in-Sourced c =
    c.is_source.ensures ∙ ap (judged.is_of c.in-Sourced.source) c.in_ok-gives.ensures
    ∙ ap (λ q. asked c.args.judge.now q c.args.case.now) (sym c.in-Sourced.is)

pub returns-in-Works : goal.returns-in-Works
returns-in-Works c =
    IfOk-weaker c.is_work.result _ (λ (a : Bool). a ≡ asked c.args.judge.now c.args.asked c.args.case.now) (λ a e. e
    ∙ ap (λ q. asked c.args.judge.now q c.args.case.now) (sym c.in-Works.is)) c.is_work.ensures

pub returns-in-Changes : goal.returns-in-Changes
returns-in-Changes c =
    IfOk-weaker c.is_changed.result _ (λ (a : Bool). a ≡ asked c.args.judge.now c.args.asked c.args.case.now) (λ a e. e
    ∙ ap (λ q. asked c.args.judge.now q c.args.case.now) (sym c.in-Changes.is)) c.is_changed.ensures

pub returns-in-Constructs : goal.returns-in-Constructs
returns-in-Constructs c =
    IfOk-weaker c.is_constructed.result _ (λ (a : Bool). a ≡ asked c.args.judge.now c.args.asked c.args.case.now) (λ a e. e
    ∙ ap (λ q. asked c.args.judge.now q c.args.case.now) (sym c.in-Constructs.is)) c.is_constructed.ensures
