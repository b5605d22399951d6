use Rattle.std.proofs.Common.{◌≡◌, ◌∙◌, sym, ap}
use Rattle.lowered_steps.proofs.Lists.{first_of, none_of}
use Rattle.lowered_pieces.specs.Places.{Naming}
use Rattle.lowered_steps.specs.Setting.{kit_for, number_for}
use Rattle.std.proofs.lemmas.Result.{IfOk-weaker}
use Rattle.lowered_pieces.specs.Forms.{first_type}
use Rattle.lowered_types.specs.Table.{type_in}
use Rattle.lowered_steps.proofs.moves.first_number.Goals as goal

pub returns-in-empty : goal.returns-in-empty
returns-in-empty c =
    λ name. ap (λ us. first_type (kit_for c.args.setting.now name) (number_for c.args.setting.now) us) (sym (none_of c.args.types.now c.in-empty.len_below))

pub returns-in-len1-up : goal.returns-in-len1-up
returns-in-len1-up c =
    IfOk-weaker c.number.result (λ n. n ≡ type_in c.args.setting.now.numbered.now c.first-item.result)
    (λ n. (name : Naming) → n ≡ first_type (kit_for c.args.setting.now name) (number_for c.args.setting.now) c.args.types.now)
    (λ n e name. e ∙ ap (λ us. first_type (kit_for c.args.setting.now name) (number_for c.args.setting.now) us)
    (sym (first_of c.args.types.now c.first-item.result c.in-len1-up.len_at_least c.first-item.is))) c.number.ensures
