use Rattle.std.proofs.Common.{◌≡◌, ◌∙◌, ℕ, Bool, sym, ap}
use Rattle.lowered_typed.proofs.More.{payload_more}
use Rattle.std.proofs.lemmas.Result.{IfOk-weaker}
use Rattle.lowered_typed.specs.Here as here
use Rattle.lowered_typed.proofs.heads.are_payload.Goals as goal

pub returns-then-count-eq1 : goal.returns-then-count-eq1
returns-then-count-eq1 c = ap (λ (n : ℕ). here.payload_right c.args.judge.now c.args.payload.now n) (sym c.if-count-eq1.true)

pub returns-else-count-eq1 : goal.returns-else-count-eq1
returns-else-count-eq1 c =
    IfOk-weaker c.are_parts.result _ (λ (a : Bool). a ≡ here.payload_right c.args.judge.now c.args.payload.now c.args.count) (λ a e. e
    ∙ payload_more c.args.judge.now c.args.payload.now c.args.count c.if-count-eq1.false) c.are_parts.ensures
