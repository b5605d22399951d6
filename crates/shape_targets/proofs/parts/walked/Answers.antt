use Rattle.std.proofs.Common.{◌≡◌, ◌+◌, ◌++◌, ◌∷◌, List, map, drop, sym, ap, ◌∙◌, append_assoc, Option}
use Rattle.std.proofs.lemmas.List.{drop_more}
use Rattle.shape_rules.specs.Around.{setting_of}
use Rattle.shape_rules.specs.Findings.{first_failure, Found}
use Rattle.shape_rules.specs.Scopes.{Locals}
use Rattle.shape_rules.proofs.Firsts.{first_failure_append}
use Rattle.sail_types.specs.declared.shapes.Shape.{out-Shape}
use Rattle.shape_walks.specs.Trees.{suffix_part}
use Rattle.shape_rules.specs.Targets.{Walked, walked, Led, also_walked, led_form, led_shape, suffix_found, suffix_place, suffixes_if, cores_of, faults_of}
use Rattle.shape_rules.specs.Targets.{base_faults}
use Rattle.sail_base.specs.declared.place.Place.{Place}
use Rattle.sail_syntax.specs.declared.expressions.Suffix.{Suffix}
use Rattle.shape_targets.proofs.parts.walked.Goals as goal

pub loop-suffix-preserved : goal.loop-suffix-preserved
loop-suffix-preserved g c =
    let setting = setting_of c.args.around.now in
    let names = c.args.locals.now in
    let all = c.args.suffixes.now in
    let start = c.args.first_place in
    let i = c.loop-suffix.suffix-index in
    let one = c.suffix-item.result in
    let base = c.loop-suffix.base in
    let shape = c.loop-suffix.shape in
    let steps = c.loop-suffix.steps in
    let cores = c.loop-suffix.cores in
    let old = c.loop-suffix.first.error in
    let same : c.loop-suffix.locals ≡ names = c.loop-suffix.invariant.locals in
    let rest : drop i all ≡ one ∷ drop (i + 1) all =
    drop_more all i one c.loop-suffix-test.true ∙ ap (λ x. x ∷ drop (i + 1) all) (sym c.suffix-item.is) in
    let place : Place = suffix_place start (suffix_part one) in
    let way : Option Led = led_form setting (suffix_part one) (out-Shape shape) in
    let indexes : List Found = suffix_found (suffix_part one) setting names in
    let left = map suffix_part (drop (i + 1) all) in
    let more : Walked = walked left setting names start place (led_shape way) in
    let opened : walked (map suffix_part (drop i all)) setting names start base shape ≡ also_walked base place shape way indexes more =
    ap (λ (ss : List Suffix). walked (map suffix_part ss) setting names start base shape) rest in
    let stood : c.suffix_place-place.result ≡ place = c.suffix_place-place.ensures in
    let given : c.shape_inside-shape.result ≡ led_shape way = c.shape_inside-shape.ensures ∙ ap led_shape c.in_ok-inside.ensures in
    let stepped : c.push_step.new.steps ≡ steps ++ suffixes_if place way =
    c.in_ok-push_step.ensures ∙ (λ j. steps ++ suffixes_if (stood j) (c.in_ok-inside.ensures j)) in
    let pushed : c.push_indexes.new.cores ≡ cores ++ cores_of indexes =
    c.in_ok-push_indexes.ensures.cores ∙ ap (λ (l : Locals). cores ++ cores_of (suffix_found (suffix_part one) setting l)) same in
    let based : c.note_base.new.first.error ≡ first_failure old (base_faults base shape way) =
    c.note_base.ensures ∙ ap (λ (w : Option Led). first_failure old (base_faults base shape w)) c.in_ok-inside.ensures in
    let noted : c.push_indexes.new.first.error ≡ first_failure old (base_faults base shape way ++ faults_of indexes) =
    c.in_ok-push_indexes.ensures.failures
    ∙ (λ j. first_failure (based j) (faults_of (suffix_found (suffix_part one) setting (same j))))
    ∙ sym (first_failure_append old (base_faults base shape way) (faults_of indexes)) in
    record {
      locals = c.in_ok-push_indexes.ensures.locals ∙ same;
      shape = (λ j. (walked left setting names start (stood j) (given j)).shape)
          ∙ sym (ap (λ (x : Walked). x.shape) opened) ∙ c.loop-suffix.invariant.shape;
      steps = (λ j. stepped j ++ (walked left setting names start (stood j) (given j)).suffixes)
          ∙ append_assoc steps (suffixes_if place way) more.suffixes
          ∙ ap (λ (x : Walked). steps ++ x.suffixes) (sym opened) ∙ c.loop-suffix.invariant.steps;
      cores = (λ j. pushed j ++ (walked left setting names start (stood j) (given j)).parts)
          ∙ append_assoc cores (cores_of indexes) more.parts
          ∙ ap (λ (x : Walked). cores ++ x.parts) (sym opened) ∙ c.loop-suffix.invariant.cores;
      failures = (λ j. first_failure (noted j) (walked left setting names start (stood j) (given j)).faults)
          ∙ sym (first_failure_append old (base_faults base shape way ++ faults_of indexes) more.faults)
          ∙ ap (λ (x : Walked). first_failure old x.faults) (sym opened) ∙ c.loop-suffix.invariant.failures;
    }
