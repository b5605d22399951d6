-- The values of fields, struct literals by what they are to be, and structs with other fields by what was made of their base.
use Rattle.std.proofs.Common.{◌≡◌, ℕ, List, [], length, Option, Some, None, ap, ◌∙◌}
use Rattle.sail_base.specs.declared.place.Place.{Place}
use Rattle.sail_syntax.specs.declared.name.Name.{Name}
use Rattle.sail_syntax.specs.declared.expressions.FieldValue.{FieldValue, out-FieldValue}
use Rattle.sail_syntax.specs.declared.expressions.Exp.TheFolds.{fold_out-FieldValue}
use Rattle.sail_types.specs.Named.{fields}
use Rattle.sail_types.specs.declared.shapes.Shape.{Shape}
use Rattle.shape_rules.specs.Findings.{behind, unknown}
use Rattle.shape_rules.specs.Scopes.{Setting, Locals}
use Rattle.shape_rules.specs.Targets.{Part, TargetPart, SuffixPart, IndexPart}
use Rattle.shape_rules.specs.Statements.{StatementPart, CasePart, RangePart, FurtherPart}
use Rattle.shape_rules.specs.Expressions.{elaborate as elaborated, exp_form, target_form, statement_form, suffix_form, case_form}
use Rattle.shape_rules.specs.Expressions.{field_form, index_form}
use Rattle.shape_rules.specs.Expressions.{range_form, further_form}
use Rattle.shape_walks.specs.Trees.{field_value}
use Rattle.shape_rules.specs.Values.{FieldPart, values_of, field_count, struct_place, struct_found}
use Rattle.shape_walks.specs.Walks.{each_taken, each_faults}
use Rattle.shape_forms.specs.declared.structs.StructPlan.{StructPlan}
use Rattle.shape_forms.specs.Structs.{struct_plan_of, struct_plan_in, struct_faults, struct_faults_at, count_faults, struct_made}
use Rattle.shape_forms.specs.Structs.{struct_walked}
use Rattle.shape_forms.proofs.Structured.{struct_is}

-- what is found of a field's value is that of its expression
pub value_found : (f : FieldValue) → (field_value f).value.elaborate ≡ elaborated (out-FieldValue f).value
value_found f = ap (λ (part : FieldPart). part.value.elaborate)
    (fold_out-FieldValue Part TargetPart StatementPart SuffixPart CasePart FieldPart IndexPart RangePart FurtherPart
    exp_form target_form statement_form suffix_form case_form field_form index_form range_form further_form f)

faults_in : (place : Place) (setting : Setting) (fs : List FieldPart) (at : Option ℕ) (plan : StructPlan)
    → struct_plan_in setting fs at ≡ Some plan → struct_faults_at place setting fs at ≡ []
faults_in place setting fs None plan h = absurd (cc)
faults_in place setting fs (Some i) plan h = ap (count_faults place (field_count (fields setting.types i)) (length fs)) h

-- a literal that has a plan fails in nothing of its own before its values
pub planned_faults : (place : Place) (name : Option Name) (fs : List FieldPart) (setting : Setting) (plan : StructPlan)
    → struct_plan_of setting name fs ≡ Some plan → struct_faults place setting name fs ≡ []
planned_faults place name fs setting plan h = faults_in place setting fs (struct_place setting name fs) plan h

pub planned : (place : Place) (name : Option Name) (fs : List FieldPart) (setting : Setting) (locals : Locals) (want : Shape) (plan : StructPlan)
    → struct_plan_of setting name fs ≡ Some plan
    → struct_found place name fs setting locals want
    ≡ behind (each_faults (values_of fs) setting locals plan.walk)
    (struct_made place want plan.at plan.places (each_taken (values_of fs) setting locals plan.walk))
planned place name fs setting locals want plan h =
    struct_is place name fs setting locals want
    ∙ ap (struct_walked place (values_of fs) setting locals want (struct_faults place setting name fs)) h

pub unplanned : (place : Place) (name : Option Name) (fs : List FieldPart) (setting : Setting) (locals : Locals) (want : Shape)
    → struct_plan_of setting name fs ≡ None
    → struct_found place name fs setting locals want ≡ behind (struct_faults place setting name fs) (unknown place)
unplanned place name fs setting locals want h =
    struct_is place name fs setting locals want
    ∙ ap (struct_walked place (values_of fs) setting locals want (struct_faults place setting name fs)) h
