use Rattle.std.proofs.Common.{◌∙◌, sym, ap}
use Rattle.std.proofs.lemmas.Result.{IfOk-weaker}
use Rattle.lowered_ends.specs.Ends.{suffix_ends}
use Rattle.lowered_ends.proofs.ends.suffix_ends.Goals as goal

pub returns-in-Field : goal.returns-in-Field
returns-in-Field c =
    IfOk-weaker c.made_ends.result _ _ (λ ends e. e ∙ ap (λ way. suffix_ends c.args.setting.now way c.args.suffix.now.number) (sym c.in-Field.is))
    c.made_ends.ensures

pub returns-in-Item : goal.returns-in-Item
returns-in-Item c =
    IfOk-weaker c.made_ends-in-Item.result _ _ (λ ends e. e ∙ ap (λ way. suffix_ends c.args.setting.now way c.args.suffix.now.number) (sym c.in-Item.is))
    c.made_ends-in-Item.ensures

pub returns-in-Slice : goal.returns-in-Slice
returns-in-Slice c =
    IfOk-weaker c.made_ends-in-Slice.result _ _ (λ ends e. e ∙ ap (λ way. suffix_ends c.args.setting.now way c.args.suffix.now.number) (sym c.in-Slice.is))
    c.made_ends-in-Slice.ensures
