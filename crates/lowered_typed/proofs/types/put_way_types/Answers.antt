use Rattle.std.proofs.Common.{◌≡◌, ◌∙◌, ◌++◌, sym, ap}
use Rattle.lowered_validity.specs.Typing.{gives_in}
use Rattle.std.proofs.lemmas.Result.{on_ok_weaker}
use Rattle.lowered_typed.specs.Here as here
use Rattle.lowered_typed.proofs.types.put_way_types.Goals as goal

pub returns-in-Field : goal.returns-in-Field
returns-in-Field c =
    on_ok_weaker c.put_gives.result (λ (e : c.put_gives.new.types ≡ c.args.types.now ++ gives_in c.cases.result.now). e
    ∙ ap (λ xs. c.args.types.now ++ gives_in xs) c.cases.ensures
    ∙ ap (λ w. c.args.types.now ++ here.way_types c.args.judge.now w c.args.node) (sym c.in-Field.is)) c.put_gives.ensures

pub returns-in-Item : goal.returns-in-Item
returns-in-Item c =
    on_ok_weaker c.put_gives-in-Item.result (λ (e : c.put_gives-in-Item.new.types ≡ c.args.types.now ++ gives_in c.cases-in-Item.result.now). e
    ∙ ap (λ xs. c.args.types.now ++ gives_in xs) c.cases-in-Item.ensures
    ∙ ap (λ w. c.args.types.now ++ here.way_types c.args.judge.now w c.args.node) (sym c.in-Item.is)) c.put_gives-in-Item.ensures

pub returns-in-Slice : goal.returns-in-Slice
returns-in-Slice c =
    on_ok_weaker c.put_gives-in-Slice.result (λ (e : c.put_gives-in-Slice.new.types ≡ c.args.types.now ++ gives_in c.cases-in-Slice.result.now). e
    ∙ ap (λ xs. c.args.types.now ++ gives_in xs) c.cases-in-Slice.ensures
    ∙ ap (λ w. c.args.types.now ++ here.way_types c.args.judge.now w c.args.node) (sym c.in-Slice.is)) c.put_gives-in-Slice.ensures
