use Rattle.std.proofs.Common.{◌≡◌, ◌+◌, List, ◌∷◌, drop, sym, ap, ◌∙◌}
use Rattle.std.proofs.lemmas.List.{drop_more}
use Rattle.sail_syntax.specs.declared.definitions.Def.{Def}
use Rattle.sail_kinds.specs.Failures.{first_failure}
use Rattle.type_definitions.specs.Defined.{Types, held, types_with, type_failures, types_behind, type_failures_behind}
use Rattle.sail_kinds.proofs.Firsts.{first_failure_append}
use Rattle.type_definitions.proofs.defined.define_all.Goals as goal

pub loop-definition-preserved : goal.loop-definition-preserved
loop-definition-preserved c =
    let text = c.args.definitions.now in
    let i = c.loop-definition.definition-index in
    let item = c.definition-item.result in
    let left = drop (i + 1) text in
    let rest : drop i text ≡ item ∷ left =
    drop_more text i item c.loop-definition-test.true ∙ ap (λ (x : Def). x ∷ left) (sym c.definition-item.is) in
    let was = held c.loop-definition.defined in
    let kept = c.loop-definition.first.error in
    let now : held c.define.new.self ≡ types_with was item = c.in_ok-define.ensures.types in
    let noted : c.define.new.first.error ≡ first_failure kept (type_failures was item) = c.in_ok-define.ensures.failures in record {
      between = c.in_ok-define.ensures.between;
      types = ap (λ (t : Types). types_behind t left) now ∙ ap (types_behind was) (sym rest) ∙ c.loop-definition.invariant.types;
      failures = (λ j. first_failure (noted j) (type_failures_behind (now j) left))
          ∙ sym (first_failure_append kept (type_failures was item) (type_failures_behind (types_with was item) left))
          ∙ ap (λ (ds : List Def). first_failure kept (type_failures_behind was ds)) (sym rest) ∙ c.loop-definition.invariant.failures;
    }
