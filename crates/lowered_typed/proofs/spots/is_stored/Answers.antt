use Rattle.std.proofs.Common.{◌≡◌, ◌∙◌, ◌++◌, Bool, sym, ap}
use Rattle.std.proofs.lemmas.Result.{IfOk-weaker}
use Rattle.lowered_steps.specs.Cells.{holder_in}
use Rattle.lowered_steps.specs.declared.cells.Holder.{Holder}
use Rattle.lowered_validity.specs.Typing.{gives_in}
use Rattle.lowered_typed.specs.Here as here
use Rattle.lowered_typed.proofs.spots.is_stored.Goals as goal

pub returns-in-Register : goal.returns-in-Register
returns-in-Register c =
    IfOk-weaker c.is_read.result _ (λ (a : Bool). a ≡ here.holder_right c.args.judge.now (holder_in c.args.holder) c.args.cases.now)
    (λ a e. e ∙ ap (λ (h : Holder). here.holder_right c.args.judge.now (holder_in h) c.args.cases.now) (sym c.in-Register.is)) c.is_read.ensures

pub returns-in_ok-put_gives-in-Variable : goal.returns-in_ok-put_gives-in-Variable
returns-in_ok-put_gives-in-Variable c =
    IfOk-weaker c.are_kept.result _ (λ (a : Bool). a ≡ here.holder_right c.args.judge.now (holder_in c.args.holder) c.args.cases.now)
    (λ a e. e
    ∙ (λ k. here.kept_right c.args.judge.now (c.reads_as.ensures k) ((c.as_slice.ensures ∙ c.in_ok-put_gives-in-Variable.ensures
    ∙ ap (λ us. us ++ gives_in c.args.cases.now) c.new-types.ensures) k))
    ∙ ap (λ (h : Holder). here.holder_right c.args.judge.now (holder_in h) c.args.cases.now) (sym c.in-Variable.is)) c.are_kept.ensures
