use Rattle.std.proofs.Common.{◌≡◌, ◌+◌, List, ◌∷◌, ◌++◌, map, drop, sym, ap, ◌∙◌}
use Rattle.std.proofs.lemmas.List.{drop_more}
use Rattle.sail_syntax.specs.declared.definitions.Def.{Def}
use Rattle.shape_rules.specs.Around.{setting_of}
use Rattle.shape_rules.specs.Written.{joined}
use Rattle.shapes.specs.Failures.{state_faults}
use Rattle.shapes.specs.Resolved.{register_of, register_text_of, registers_with, initial_openings, initials_openings}
use Rattle.shapes.proofs.Steps.{pushed, noted}
use Rattle.shapes.proofs.state.read_state.Goals as goal

pub loop-definition-preserved : goal.loop-definition-preserved
loop-definition-preserved c =
    let setting = setting_of c.args.around.now in
    let text = c.args.definitions.now in
    let at = c.loop-definition.definition-index in
    let d = c.definition-item.result in
    let rest = drop (at + 1) text in
    let left = drop at text in
    let number = c.loop-definition.number in
    let state = c.loop-definition.state in
    let next : left ≡ d ∷ rest = drop_more text at d c.loop-definition-test.true ∙ ap (λ x. x ∷ rest) (sym c.definition-item.is) in
    let after = initials_openings setting (registers_with number d) rest in record {
      registers = pushed state.registers _ (register_of setting d) (joined (map (register_of setting) rest)) (joined (map (register_of setting) left))
          _ c.in_ok-number.ensures.registers (ap (λ (ds : List Def). joined (map (register_of setting) ds)) next)
          c.loop-definition.invariant.registers;
      texts = pushed state.texts _ (register_text_of setting d) (joined (map (register_text_of setting) rest))
          (joined (map (register_text_of setting) left)) _ c.in_ok-number.ensures.texts
          (ap (λ (ds : List Def). joined (map (register_text_of setting) ds)) next) c.loop-definition.invariant.texts;
      initials = ap (λ n. c.push_state.new.state.initials ++ initials_openings setting n rest) c.in_ok-number.ensures.number
          ∙ pushed state.initials _ (initial_openings setting number d) after (initials_openings setting number left) _
          c.in_ok-number.ensures.initials (ap (initials_openings setting number) next) c.loop-definition.invariant.initials;
      failures = noted c.loop-definition.first.error _ (state_faults setting d) (joined (map (state_faults setting) rest))
          (joined (map (state_faults setting) left)) _ c.in_ok-number.ensures.failures
          (ap (λ (ds : List Def). joined (map (state_faults setting) ds)) next) c.loop-definition.invariant.failures;
    }
