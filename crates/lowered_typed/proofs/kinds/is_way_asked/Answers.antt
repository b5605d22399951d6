use Rattle.std.proofs.Common.{◌≡◌, ◌∙◌, Bool, sym, ap}
use Rattle.std.proofs.lemmas.Result.{IfOk-weaker}
use Rattle.lowered_typed.specs.Judged as judged
use Rattle.lowered_typed.proofs.kinds.is_way_asked.Goals as goal

pub returns-in-Field : goal.returns-in-Field
returns-in-Field c =
    IfOk-weaker c.is_built.result _ (λ (a : Bool). a ≡ judged.way_asked c.args.judge.now c.args.way.now c.args.node) (λ a e. e
    ∙ ap (λ w. judged.way_asked c.args.judge.now w c.args.node) (sym c.in-Field.is)) c.is_built.ensures

pub returns-in-Item : goal.returns-in-Item
returns-in-Item c =
    IfOk-weaker c.is_built-in-Item.result _ (λ (a : Bool). a ≡ judged.way_asked c.args.judge.now c.args.way.now c.args.node) (λ a e. e
    ∙ ap (λ w. judged.way_asked c.args.judge.now w c.args.node) (sym c.in-Item.is)) c.is_built-in-Item.ensures

pub returns-in-Slice : goal.returns-in-Slice
returns-in-Slice c =
    IfOk-weaker c.is_built-in-Slice.result _ (λ (a : Bool). a ≡ judged.way_asked c.args.judge.now c.args.way.now c.args.node) (λ a e. e
    ∙ ap (λ w. judged.way_asked c.args.judge.now w c.args.node) (sym c.in-Slice.is)) c.is_built-in-Slice.ensures
