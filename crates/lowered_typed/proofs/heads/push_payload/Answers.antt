use Rattle.std.proofs.Common.{◌≡◌, ◌∙◌, ◌++◌, sym, ap}
use Rattle.lowered_typed.proofs.More.{parts_more}
use Rattle.std.proofs.lemmas.Result.{on_ok_weaker}
use Rattle.lowered_typed.specs.Here as here
use Rattle.lowered_typed.proofs.heads.push_payload.Goals as goal

pub returns-then-count-eq1 : goal.returns-then-count-eq1
returns-then-count-eq1 c =
    on_ok_weaker c.push_copies.result (λ (e : c.push_copies.new.copies ≡ c.args.types.now ++ c.from_ref.result.now). e
    ∙ ap (λ us. c.args.types.now ++ us) c.from_ref.ensures.value
    ∙ ap (λ n. c.args.types.now ++ here.payload_parts c.args.judge.now c.args.payload.now n) (sym c.if-count-eq1.true)) c.push_copies.ensures

pub returns-else-count-eq1 : goal.returns-else-count-eq1
returns-else-count-eq1 c =
    on_ok_weaker c.push_parts.result
    (λ (e : c.push_parts.new.types ≡ c.args.types.now ++ here.fields_typ c.args.judge.now c.args.payload.now 0 c.args.count). e
    ∙ ap (λ us. c.args.types.now ++ us) (parts_more c.args.judge.now c.args.payload.now c.args.count c.if-count-eq1.false)) c.push_parts.ensures
