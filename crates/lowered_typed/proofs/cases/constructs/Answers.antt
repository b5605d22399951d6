use Rattle.std.proofs.Common.{◌≡◌, ◌∙◌, ◌∷◌, Bool, sym, ap, []}
use Rattle.lowered_steps.proofs.Lists.{none_of, one_of}
use Rattle.lowered_typed.proofs.More.{payload_many}
use Rattle.std.proofs.lemmas.Result.{IfOk-weaker}
use Rattle.jib.specs.declared.code.Literal.TheVariants as L
use Rattle.jib.specs.declared.code.Operation.TheVariants as O
use Rattle.jib.specs.declared.code.Source.TheVariants as R
use Rattle.lowered_typed.specs.Here as here
use Rattle.lowered_typed.specs.Judged as judged
use Rattle.lowered_typed.proofs.cases.constructs.Goals as goal

pub returns-in_ok-number-in-empty : goal.returns-in_ok-number-in-empty
returns-in_ok-number-in-empty c =
    IfOk-weaker c.works_alone.result _
    (λ (a : Bool). a ≡ here.is_payload c.args.judge.now c.args.union c.args.constructor c.args.types.now c.args.gives.now) (λ a e. e
    ∙ ap (λ n. here.works c.args.judge.now (O.Construct c.args.constructor)
    (R.Constant n L.Unit ∷ []) [] c.args.gives.now) c.in_ok-number-in-empty.ensures
    ∙ ap (λ us. here.is_payload c.args.judge.now c.args.union c.args.constructor us c.args.gives.now) (sym
    (none_of c.args.types.now c.in-empty.len_below))) c.works_alone.ensures

pub returns-in-len1 : goal.returns-in-len1
returns-in-len1 c =
    IfOk-weaker c.works_on.result _
    (λ (a : Bool). a ≡ here.is_payload c.args.judge.now c.args.union c.args.constructor c.args.types.now c.args.gives.now) (λ a e. e
    ∙ ap (λ us. here.is_payload c.args.judge.now c.args.union c.args.constructor us c.args.gives.now) (sym
    (one_of c.args.types.now c.one-item.result c.in-len1.len_at_least c.in-len1.len_below c.one-item.is))) c.works_on.ensures

pub returns-in_ok-payload-in-len2-up : goal.returns-in_ok-payload-in-len2-up
returns-in_ok-payload-in-len2-up c =
    IfOk-weaker c.constructs_tuple.result _
    (λ (a : Bool). a ≡ here.is_payload c.args.judge.now c.args.union c.args.constructor c.args.types.now c.args.gives.now) (λ a e. e
    ∙ ap (λ t. judged.tuple_right c.args.judge.now c.args.constructor c.args.types.now t c.args.gives.now) c.in_ok-payload-in-len2-up.ensures
    ∙ payload_many c.args.judge.now c.args.union c.args.constructor c.args.types.now c.args.gives.now c.in-len2-up.len_at_least)
    c.constructs_tuple.ensures
