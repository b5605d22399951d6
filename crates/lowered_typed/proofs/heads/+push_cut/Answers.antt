use Rattle.std.proofs.Common.{◌≡◌, ◌∙◌, ◌∷◌, ◌++◌, sym, ap}
use Rattle.lowered_steps.proofs.Lists.{first_of, none_of, others}
use Rattle.lowered_typed.proofs.Pushed.{none, pushed}
use Rattle.std.proofs.lemmas.Result.{on_ok_weaker}
use Rattle.std.specs.Prelude.{pos}
use Rattle.size_values.specs.declared.sized.Sized.TheVariants as Z
use Rattle.lowered_typed.specs.Here as here
use Rattle.lowered_typed.specs.Judged as judged
use Rattle.lowered_typed.proofs.heads.+push_cut.Goals as goal

pub returns-in-empty : goal.returns-in-empty
returns-in-empty t c =
    none c.args.types.now (here.cut_types c.args.judge.now (judged.widths_by c.args.judge.now c.args.rest c.args.widths.now)) (ap
    (λ ws. here.cut_types c.args.judge.now (judged.widths_by c.args.judge.now c.args.rest ws)) (none_of c.args.widths.now c.in-empty.len_below))

pub returns-in_ok-push_bits-in-len1-up : goal.returns-in_ok-push_bits-in-len1-up
returns-in_ok-push_bits-in-len1-up t c =
    on_ok_weaker c.push_cut.result
    (λ (e : c.push_cut.new.types ≡ c.push_bits.new.types ++ here.cut_types c.args.judge.now (judged.widths_by c.args.judge.now c.args.rest
    (others c.args.widths.now))).
    pushed c.args.types.now c.push_bits.new.types c.push_cut.new.types (here.cut_types c.args.judge.now
    (judged.widths_by c.args.judge.now c.args.rest (others c.args.widths.now))) (here.cut_types c.args.judge.now
    (judged.widths_by c.args.judge.now c.args.rest c.args.widths.now)) (Z.Bits (pos c.width_of-width.result)) c.in_ok-push_bits-in-len1-up.ensures e
    (ap (λ ws. here.cut_types c.args.judge.now (judged.widths_by c.args.judge.now c.args.rest ws))
    (first_of c.args.widths.now c.first-item.result c.in-len1-up.len_at_least c.first-item.is)
    ∙ ap (λ n. Z.Bits (pos n) ∷ here.cut_types c.args.judge.now (judged.widths_by c.args.judge.now c.args.rest (others c.args.widths.now)))
    (sym c.width_of-width.ensures))) c.push_cut.ensures
