use Rattle.std.proofs.Common.{◌≡◌, ◌+◌, ◌∷◌, List, drop, sym, ap, ◌∙◌}
use Rattle.std.proofs.lemmas.List.{drop_more}
use Rattle.shape_rules.specs.Around.{setting_of}
use Rattle.shape_rules.specs.Findings.{first_failure, Found}
use Rattle.shape_rules.specs.Scopes.{Locals}
use Rattle.shape_rules.proofs.Firsts.{first_failure_append}
use Rattle.shape_rules.specs.Expressions.{elaborate as elaborated}
use Rattle.sail_syntax.specs.declared.expressions.Exp.{Exp}
use Rattle.shape_walks.specs.declared.walks.Walk.{Walk}
use Rattle.shape_walks.specs.Walks.{want_of, took, one_faults, each_taken, each_faults}
use Rattle.sail_syntax.specs.declared.expressions.FieldValue.{FieldValue}
use Rattle.shape_rules.specs.Calls.{Elaborate}
use Rattle.shape_forms.specs.Structs.{values as values_of}
use Rattle.shape_values.proofs.Fields.{value_found}
use Rattle.shape_values.proofs.structs.push_fields.Goals as goal

pub loop-field-preserved : goal.loop-field-preserved
loop-field-preserved g c =
    let setting = setting_of c.args.around.now in
    let names = c.args.locals.now in
    let all = c.args.fields.now in
    let i = c.loop-field.field-index in
    let one = c.field-item.result in
    let walk = c.loop-field.walk in
    let old = c.loop-field.first.error in
    let value : Exp = c.get.result.now in
    let same : c.loop-field.locals ≡ names = c.loop-field.invariant.locals in
    let rest : drop i all ≡ one ∷ drop (i + 1) all =
    drop_more all i one c.loop-field-test.true ∙ ap (λ x. x ∷ drop (i + 1) all) (sym c.field-item.is) in
    let more : List Elaborate = values_of (drop (i + 1) all) in
    let opened : values_of (drop i all) ≡ elaborated value ∷ more =
    ap (λ (fs : List FieldValue). values_of fs) rest
    ∙ ap (λ (e : Elaborate). e ∷ more) (value_found one ∙ sym (ap (λ (e : Exp). elaborated e) c.get.ensures)) in
    let a : Found = elaborated value setting names (want_of walk) in
    let next : c.in_ok-walk.walk ≡ took walk a =
    c.in_ok-walk.ensures.walk ∙ ap (λ (l : Locals). took walk (elaborated value setting l (want_of walk))) same in
    let noted : c.push_one.new.first.error ≡ first_failure old (one_faults walk a) =
    c.in_ok-walk.ensures.failures ∙ ap (λ (l : Locals). first_failure old (one_faults walk (elaborated value setting l (want_of walk)))) same in
    record {
      locals = c.in_ok-walk.ensures.locals ∙ same;
      walk = ap (λ (w : Walk). each_taken more setting names w) next
          ∙ sym (ap (λ (es : List Elaborate). each_taken es setting names walk) opened) ∙ c.loop-field.invariant.walk;
      failures = ap (λ (w : Walk). first_failure c.push_one.new.first.error (each_faults more setting names w)) next
          ∙ (λ j. first_failure (noted j) (each_faults more setting names (took walk a)))
          ∙ sym (first_failure_append old (one_faults walk a) (each_faults more setting names (took walk a)))
          ∙ sym (ap (λ (es : List Elaborate). first_failure old (each_faults es setting names walk)) opened) ∙ c.loop-field.invariant.failures;
    }
