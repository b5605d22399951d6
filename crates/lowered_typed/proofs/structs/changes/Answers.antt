use Rattle.std.proofs.Common.{◌≡◌, ◌∙◌, ◌&&◌, sym, ap}
use Rattle.lowered_pieces.specs.Fields.{field_types_of}
use Rattle.lowered_steps.proofs.Lists.{first_of, none_of, others}
use Rattle.size_values.specs.declared.sized.Sized.{out-Sized}
use Rattle.lowered_typed.specs.Here as here
use Rattle.lowered_typed.specs.Judged as judged
use Rattle.lowered_typed.proofs.structs.changes.Goals as goal

pub returns-in-empty : goal.returns-in-empty
returns-in-empty c =
    ap (λ us. here.is_with c.args.judge.now c.args.fields.now us c.args.gives.now) (sym (none_of c.args.types.now c.in-empty.len_below))

pub returns-in_ok-other-in-len1-up : goal.returns-in_ok-other-in-len1-up
returns-in_ok-other-in-len1-up c =
    let j = c.args.judge.now in let t = c.whole-item.result in let old : c.as_slice-listed.result.now ≡ field_types_of j.setting.now.types.now
    (out-Sized t) = c.as_slice-listed.ensures ∙ c.in_ok-old-in-len1-up.ensures in
    c.both-all.ensures ∙ (λ i. (c.in_ok-one-in-len1-up.ensures ∙ ap (here.takes_fields j t 0) old) i
    && (c.in_ok-other-in-len1-up.ensures ∙ ap (λ us. judged.is_built j c.args.fields.now (others c.args.types.now) us c.args.gives.now) old) i)
    ∙ ap (λ us. here.is_with j c.args.fields.now us c.args.gives.now) (sym
    (first_of c.args.types.now c.whole-item.result c.in-len1-up.len_at_least c.whole-item.is))
