use Rattle.std.proofs.Common.{◌≡◌, ◌∙◌, ◌∷◌, ◌++◌, [], ap, if◌then◌else◌, sym}
use Rattle.std.proofs.lemmas.Result.{on_ok_weaker}
use Rattle.lowered_pieces.specs.Tables.{is_among}
use Rattle.jib_lower.proofs.reads.add_type.Goals as goal

pub returns-then-told : goal.returns-then-told
returns-then-told c =
    let us = c.args.types.now in
    sym (ap (λ b. if b then us else us ++ c.args.typ.now ∷ [])
    (ap (is_among c.args.typ.now) (sym c.as_slice.ensures) ∙ sym c.is_among-told.ensures ∙ c.if-told.true))

pub returns-in_ok-copy : goal.returns-in_ok-copy
returns-in_ok-copy c =
    let us = c.args.types.now in
    on_ok_weaker c.push.result
    (λ (e : c.push.new.self ≡ us ++ c.in_ok-copy.copy ∷ []). e ∙ ap (λ x. us ++ x ∷ []) c.in_ok-copy.ensures
    ∙ sym (ap (λ b. if b then us else us ++ c.args.typ.now ∷ [])
    (ap (is_among c.args.typ.now) (sym c.as_slice.ensures) ∙ sym c.is_among-told.ensures ∙ c.if-told.false)))
    c.push.ensures.pushed
