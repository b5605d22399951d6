use Rattle.std.proofs.Common.{◌≡◌, ◌∙◌, ◌∷◌, ◌++◌, sym, ap, []}
use Rattle.lowered_typed.proofs.Pushed.{none}
use Rattle.sail_core.specs.declared.patterns.Step.{Step}
use Rattle.std.proofs.lemmas.Result.{on_ok_weaker}
use Rattle.lowered_typed.specs.Here as here
use Rattle.lowered_typed.proofs.arms.push_step.Goals as goal

pub returns-in_ok-whole-in-Opens : goal.returns-in_ok-whole-in-Opens
returns-in_ok-whole-in-Opens c =
    on_ok_weaker c.push_head.result
    (λ (e : c.push_head.new.types ≡ c.args.parts.now ++ here.head_types c.args.judge.now c.in_ok-whole-in-Opens.whole c.in-Opens.head
    c.in-Opens.count). e
    ∙ ap (λ t. c.args.parts.now ++ here.head_types c.args.judge.now t c.in-Opens.head c.in-Opens.count) c.in_ok-whole-in-Opens.ensures
    ∙ ap (λ (s : Step). c.args.parts.now ++ here.step_types c.args.judge.now s c.args.types.now) (sym c.in-Opens.is)) c.push_head.ensures

pub returns-in-Names : goal.returns-in-Names
returns-in-Names c =
    none c.args.parts.now (here.step_types c.args.judge.now c.args.step.now c.args.types.now) (ap
    (λ (s : Step). here.step_types c.args.judge.now s c.args.types.now) c.in-Names.is)

pub returns-in_ok-option-in-Sees : goal.returns-in_ok-option-in-Sees
returns-in_ok-option-in-Sees c =
    on_ok_weaker c.push.result (λ (e : c.push.new.self ≡ c.args.parts.now ++ c.in_ok-option-in-Sees.option ∷ []). e
    ∙ ap (λ t. c.args.parts.now ++ t ∷ []) c.in_ok-option-in-Sees.ensures
    ∙ ap (λ (s : Step). c.args.parts.now ++ here.step_types c.args.judge.now s c.args.types.now) (sym c.in-Sees.is)) c.push.ensures.pushed
