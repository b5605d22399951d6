-- What is found of an expression: one case for each form (Sail language manual, "Expressions").
use Rattle.std.specs.Prelude.{Some, None}
use Rattle.sail_base.specs.declared.place.Place.{Place}
use Rattle.sail_syntax.specs.declared.expressions.Exp.{Exp, fold-Exp}
use Rattle.sail_syntax.specs.declared.expressions.Exp.TheOpen as E
use Rattle.sail_syntax.specs.declared.expressions.Exp.TheOpen.{Exp-F, LExp-F, Stmt-F, Suffix-F, Case-F, FieldValue-F, Index-F, Range-F, Target-F}
use Rattle.shape_rules.specs.Scopes.{local_of}
use Rattle.shape_rules.specs.Calls.{Elaborate}
use Rattle.shape_rules.specs.Targets.{Part, elaborations, IndexPart, SuffixPart, field_part, at_part, walked}
use Rattle.shape_rules.specs.Targets.{TargetPart, name_aimed}
use Rattle.shape_rules.specs.Targets.{call_aim}
use Rattle.shape_rules.specs.Targets.{each_aimed, tuple_aimed, part_aimed, read_aimed}
use Rattle.shape_rules.specs.Values.{constant_found, name_found, group_found, call_named, infix_found, prefix_found, leave_found, last_place}
use Rattle.shape_rules.specs.Values.{part_found, typed_found, update_found, struct_found, with_found, FieldPart}
use Rattle.shape_rules.specs.Statements.{assign_found, bound, declaring, let_found, var_found, StatementPart, evaluated, defined_as, declared_as}
use Rattle.shape_rules.specs.Statements.{block_found, if_found, choose_found, foreach_found, loop_found, of_type_found, assert_found}
use Rattle.shape_rules.specs.Statements.{FurtherPart, CasePart, RangePart}

-- ---- the forms

abbrev pub Form : Type 0
Form = Exp-F Part TargetPart StatementPart SuffixPart CasePart FieldPart IndexPart RangePart FurtherPart

abbrev pub expression_form : Form → Elaborate
expression_form (E.Constant place literal) setting locals want = constant_found place literal want
expression_form (E.Variable name) setting locals want = name_found name (local_of name.text locals) (setting.value name.text) want
expression_form (E.Call name args) setting locals want = call_named name args setting locals want
expression_form (E.Prefixed place prefix a) setting locals want = prefix_found place prefix a setting locals want
expression_form (E.Infix place operator a b) setting locals want = infix_found place operator a b setting locals want
expression_form (E.Leave place leaving a) setting locals want = leave_found place leaving a setting locals want
expression_form (E.Group place brackets items) setting locals want = group_found place brackets (elaborations items) setting locals want
expression_form (E.Part place base suffixes) setting locals want = part_found place base suffixes setting locals want
expression_form (E.Typed place a typ) setting locals want = typed_found place a typ setting locals want
expression_form (E.Assign place target more value) setting locals want = assign_found place target more value setting locals want
expression_form (E.Block place statements value) setting locals want = block_found place statements value setting locals want
expression_form (E.Let place pattern a b) setting locals want = let_found place pattern a b setting locals want
expression_form (E.Var place name typ a b) setting locals want = var_found place name typ a b setting locals want
expression_form (E.If place c a b) setting locals want = if_found place c a b setting locals want
expression_form (E.Choose place choosing a cases) setting locals want = choose_found place choosing a cases setting locals want
expression_form (E.Foreach place name range body) setting locals want = foreach_found place name range body setting locals want
expression_form (E.Loop place looping measure c body) setting locals want = loop_found place looping measure c body setting locals want
expression_form (E.Update place base index a) setting locals want = update_found place base index a setting locals want
expression_form (E.Struct place name fs) setting locals want = struct_found place name fs setting locals want
expression_form (E.With place base fs) setting locals want = with_found place base fs setting locals want
expression_form (E.OfType place asking typ) setting locals want = of_type_found place asking typ setting locals want
expression_form (E.Assert place a text) setting locals want = assert_found place a text setting locals want

abbrev pub form_place : Form → Place
form_place (E.Constant place literal) = place
form_place (E.Variable name) = name.place
form_place (E.Call name args) = name.place
form_place (E.Prefixed place prefix a) = place
form_place (E.Infix place operator a b) = place
form_place (E.Leave place leaving a) = place
form_place (E.Group place brackets items) = place
form_place (E.Part first base suffixes) = last_place first suffixes
form_place (E.Typed place a typ) = place
form_place (E.Assign place target more value) = place
form_place (E.Block place statements value) = place
form_place (E.Let place pattern a b) = place
form_place (E.Var place name typ a b) = place
form_place (E.If place c a b) = place
form_place (E.Choose place choosing a cases) = place
form_place (E.Foreach place name range body) = place
form_place (E.Loop place looping measure c body) = place
form_place (E.Update place base index a) = place
form_place (E.Struct place name fs) = place
form_place (E.With place base fs) = place
form_place (E.OfType place asking typ) = place
form_place (E.Assert place a text) = place

abbrev pub exp_form : Form → Part
exp_form form = record { place = form_place form; elaborate = expression_form form }

abbrev pub target_form : LExp-F Part TargetPart StatementPart SuffixPart CasePart FieldPart IndexPart RangePart FurtherPart → TargetPart
target_form (E.ToName name) = record {
  place = name.place;
  aim = λ setting locals. name_aimed name (local_of name.text locals) (setting.value name.text);
  call = None;
}
target_form (E.ToCall name args) = record { place = name.place; aim = call_aim name args; call = Some (name, args) }
target_form (E.ToTuple place targets) = record {
  place = place;
  aim = λ setting locals. tuple_aimed place (each_aimed targets setting locals);
  call = None;
}
target_form (E.ToPart first base suffixes) = record {
  place = last_place first suffixes;
  aim = λ setting locals. part_aimed (last_place first suffixes) (read_aimed base.call setting locals (base.aim setting locals))
      (walked suffixes setting locals first base.place (read_aimed base.call setting locals (base.aim setting locals)).shape);
  call = None;
}

abbrev pub statement_form : Stmt-F Part TargetPart StatementPart SuffixPart CasePart FieldPart IndexPart RangePart FurtherPart → StatementPart
statement_form (E.Evaluate a) setting locals = evaluated a setting locals
statement_form (E.Define place pattern a) setting locals = defined_as place (bound place pattern a setting locals) locals
statement_form (E.Declare place name typ a) setting locals = declared_as name (declaring place name typ a setting locals) locals

abbrev pub suffix_form : Suffix-F Part TargetPart StatementPart SuffixPart CasePart FieldPart IndexPart RangePart FurtherPart → SuffixPart
suffix_form (E.Field name) = field_part name
suffix_form (E.At place index) = at_part place index

abbrev pub case_form : Case-F Part TargetPart StatementPart SuffixPart CasePart FieldPart IndexPart RangePart FurtherPart → CasePart
case_form c = record { pattern = c.pattern; guard = c.guard; body = c.body }

abbrev pub field_form : FieldValue-F Part TargetPart StatementPart SuffixPart CasePart FieldPart IndexPart RangePart FurtherPart → FieldPart
field_form f = record { name = f.name; value = f.value }

abbrev pub index_form : Index-F Part TargetPart StatementPart SuffixPart CasePart FieldPart IndexPart RangePart FurtherPart → IndexPart
index_form i = record { first = i.first; last = i.last }

abbrev pub range_form : Range-F Part TargetPart StatementPart SuffixPart CasePart FieldPart IndexPart RangePart FurtherPart → RangePart
range_form r = record { from = r.from; to = r.to; by = r.by; direction = r.direction }

abbrev pub further_form : Target-F Part TargetPart StatementPart SuffixPart CasePart FieldPart IndexPart RangePart FurtherPart → FurtherPart
further_form t = record { place = t.place; to = t.to }

-- ---- the tree

abbrev pub part : Exp → Part
part = fold-Exp Part TargetPart StatementPart SuffixPart CasePart FieldPart IndexPart RangePart FurtherPart
    exp_form target_form statement_form suffix_form case_form field_form index_form range_form further_form

-- what is found of an expression
abbrev pub elaborate : Exp → Elaborate
elaborate e = (part e).elaborate
