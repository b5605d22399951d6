use Rattle.std.proofs.Common.{◌≡◌, ◌∙◌, Bool}
use Rattle.std.proofs.lemmas.Result.{IfOk-weaker}
use Rattle.jib.specs.declared.code.Operation.TheVariants as O
use Rattle.lowered_typed.specs.Here as here
use Rattle.lowered_typed.specs.Judged as judged
use Rattle.lowered_typed.proofs.structs.is_built.Goals as goal

pub returns : goal.returns
returns c =
    IfOk-weaker c.works.result _
    (λ (a : Bool). a ≡ judged.is_built c.args.judge.now c.args.fields.now c.args.new.now c.args.old.now c.args.gives.now) (λ a e. e
    ∙ (λ i. here.works c.args.judge.now O.Build ((c.as_slice.ensures ∙ c.in_ok-sources.ensures) i) ((c.as_slice-2.ensures
    ∙ c.in_ok-types.ensures) i) c.args.gives.now)) c.works.ensures
