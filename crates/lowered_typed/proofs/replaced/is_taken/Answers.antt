use Rattle.std.proofs.Common.{◌≡◌, ◌∙◌, ◌∷◌, Bool, sym, ap, []}
use Rattle.lowered_pieces.specs.Writes.{way_typ}
use Rattle.lowered_validity.specs.Typing.{one_operand}
use Rattle.sail_core.specs.declared.targets.Way.{Way}
use Rattle.std.proofs.lemmas.Result.{IfOk-weaker}
use Rattle.jib.specs.declared.code.Operation.TheVariants as O
use Rattle.lowered_typed.specs.Here as here
use Rattle.lowered_typed.specs.Judged as judged
use Rattle.lowered_typed.proofs.replaced.is_taken.Goals as goal

pub returns-in-Field : goal.returns-in-Field
returns-in-Field c =
    IfOk-weaker c.works_on.result _ (λ (a : Bool). a ≡ here.is_taken c.args.judge.now c.args.way.now c.args.whole.now) (λ a e. e
    ∙ ap (λ t. here.works c.args.judge.now (O.Field c.in-Field.field) one_operand (c.args.whole.now ∷ []) t) (c.in_ok-part.ensures
    ∙ ap (λ (w : Way). way_typ c.args.judge.now.setting.now.types.now w c.args.whole.now) c.in-Field.is)
    ∙ ap (λ (w : Way). here.is_taken c.args.judge.now w c.args.whole.now) (sym c.in-Field.is)) c.works_on.ensures

pub returns-in-Item : goal.returns-in-Item
returns-in-Item c =
    IfOk-weaker c.works_at.result _ (λ (a : Bool). a ≡ here.is_taken c.args.judge.now c.args.way.now c.args.whole.now) (λ a e. e
    ∙ ap (judged.works_at c.args.judge.now O.Item c.args.whole.now) (c.in_ok-part.ensures
    ∙ ap (λ (w : Way). way_typ c.args.judge.now.setting.now.types.now w c.args.whole.now) c.in-Item.is)
    ∙ ap (λ (w : Way). here.is_taken c.args.judge.now w c.args.whole.now) (sym c.in-Item.is)) c.works_at.ensures

pub returns : goal.returns
returns c =
    IfOk-weaker c.works_between.result _ (λ (a : Bool). a ≡ here.is_taken c.args.judge.now c.args.way.now c.args.whole.now) (λ a e. e
    ∙ ap (judged.works_between c.args.judge.now O.Slice c.args.whole.now) (c.in_ok-part.ensures
    ∙ ap (λ (w : Way). way_typ c.args.judge.now.setting.now.types.now w c.args.whole.now) c.in-Slice.is)
    ∙ ap (λ (w : Way). here.is_taken c.args.judge.now w c.args.whole.now) (sym c.in-Slice.is)) c.works_between.ensures
