-- The numbers of a `foreach` as the code has them in hand.
use Rattle.std.proofs.Common.{◌≡◌, List, [], ◌∷◌, ◌++◌, append_assoc, Option, Some, None, option_map, Result, OnOk, sym, ap, ◌∙◌}
use Rattle.std.proofs.lemmas.Result.{on_ok_weaker}
use Rattle.sail_base.specs.declared.place.Place.{Place}
use Rattle.sail_syntax.specs.declared.expressions.Exp.{Exp}
use Rattle.sail_syntax.specs.declared.expressions.Exp.TheFolds.{fold-roll-Range}
use Rattle.sail_syntax.specs.declared.expressions.Exp.TheViews.{roll-out-Range}
use Rattle.sail_syntax.specs.declared.expressions.Range.{Range, out-Range, roll-Range}
use Rattle.sail_syntax.specs.declared.words.Direction.{Direction}
use Rattle.sail_types.specs.declared.shapes.Shape.TheVariants as V
use Rattle.sail_core.specs.declared.tree.Core.{Core}
use Rattle.shape_rules.specs.declared.error.ShapeError.{ShapeError}
use Rattle.shape_rules.specs.Findings.{first_failure}
use Rattle.shape_rules.specs.Scopes.{Setting, Locals}
use Rattle.shape_rules.specs.Targets.{Part, TargetPart, SuffixPart, IndexPart}
use Rattle.shape_rules.specs.Values.{FieldPart}
use Rattle.shape_rules.specs.Statements.{StatementPart, CasePart, RangePart, FurtherPart, by_found}
use Rattle.shape_rules.specs.Expressions.{elaborate as elaborated, part, exp_form, target_form, statement_form, suffix_form}
use Rattle.shape_rules.specs.Expressions.{case_form, field_form}
use Rattle.shape_rules.specs.Expressions.{index_form, range_form, further_form}
use Rattle.shape_walks.specs.Trees.{range_part}
use Rattle.shape_forms.specs.Steps.{range_cores, range_faults}
use Rattle.shape_values.proofs.Noted.{noted_behind}

of_parts : (from to : Exp) (by : Option Exp) (direction : Direction)
    → range_part (roll-Range (record { from = from; to = to; by = by; direction = direction }))
    ≡ range_form (record { from = part from; to = part to; by = option_map part by; direction = direction })
of_parts from to None direction =
    fold-roll-Range Part TargetPart StatementPart SuffixPart CasePart FieldPart IndexPart RangePart FurtherPart
    exp_form target_form statement_form suffix_form case_form field_form index_form range_form further_form
    (record { from = from; to = to; by = None; direction = direction })
of_parts from to (Some by) direction =
    fold-roll-Range Part TargetPart StatementPart SuffixPart CasePart FieldPart IndexPart RangePart FurtherPart
    exp_form target_form statement_form suffix_form case_form field_form index_form range_form further_form
    (record { from = from; to = to; by = Some by; direction = direction })

-- a range, by its parts
pub range_is : (r : Range)
    → range_part r ≡ range_form (record {
      from = part (out-Range r).from;
      to = part (out-Range r).to;
      by = option_map part (out-Range r).by;
      direction = (out-Range r).direction;
    })
range_is r = ap range_part (sym (roll-out-Range r)) ∙ of_parts (out-Range r).from (out-Range r).to (out-Range r).by (out-Range r).direction

-- the failures of a range's numbers
pub range_noted : (r : Range) (place : Place) (setting : Setting) (locals : Locals) (from to : Exp)
    → from ≡ (out-Range r).from → to ≡ (out-Range r).to
    → range_faults place (range_part r) setting locals
    ≡ ((elaborated from setting locals V.Int).faults ++ (elaborated to setting locals V.Int).faults)
    ++ (by_found place (option_map part (out-Range r).by) setting locals).faults
range_noted r place setting locals from to first last =
    let rest : List ShapeError = (by_found place (option_map part (out-Range r).by) setting locals).faults in
    ap (λ (p : RangePart). range_faults place p setting locals) (range_is r)
    ∙ ap (λ (e : Exp). ((elaborated e setting locals V.Int).faults ++ (elaborated (out-Range r).to setting locals V.Int).faults) ++ rest) (sym first)
    ∙ ap (λ (e : Exp). ((elaborated from setting locals V.Int).faults ++ (elaborated e setting locals V.Int).faults) ++ rest) (sym last)

pub three_noted : {T E : Type 0} (result : Result T E) (old mid far new : Option ShapeError) (es fs gs : List ShapeError)
    → mid ≡ first_failure old es → far ≡ first_failure mid fs → OnOk result (new ≡ first_failure far gs)
    → OnOk result (new ≡ first_failure old ((es ++ fs) ++ gs))
three_noted result old mid far new es fs gs first second third =
    on_ok_weaker result (noted_behind old far new (es ++ fs) gs (noted_behind old mid far es fs first second)) third

-- their cores
pub range_made : (r : Range) (place : Place) (setting : Setting) (locals : Locals) (from to : Exp)
    → from ≡ (out-Range r).from → to ≡ (out-Range r).to
    → range_cores place (range_part r) setting locals
    ≡ (elaborated from setting locals V.Int).core ∷ (elaborated to setting locals V.Int).core
    ∷ (by_found place (option_map part (out-Range r).by) setting locals).core ∷ []
range_made r place setting locals from to first last =
    let by : Core = (by_found place (option_map part (out-Range r).by) setting locals).core in
    ap (λ (p : RangePart). range_cores place p setting locals) (range_is r)
    ∙ ap (λ (e : Exp). (elaborated e setting locals V.Int).core ∷ (elaborated (out-Range r).to setting locals V.Int).core ∷ by ∷ []) (sym first)
    ∙ ap (λ (e : Exp). (elaborated from setting locals V.Int).core ∷ (elaborated e setting locals V.Int).core ∷ by ∷ []) (sym last)

pub three_pushed : {T E : Type 0} (result : Result T E) (old mid far new : List Core) (a b d : Core)
    → mid ≡ old ++ a ∷ [] → far ≡ mid ++ b ∷ [] → OnOk result (new ≡ far ++ d ∷ []) → OnOk result (new ≡ old ++ a ∷ b ∷ d ∷ [])
three_pushed result old mid far new a b d first second third =
    on_ok_weaker result
    (λ (h : new ≡ far ++ d ∷ []). h
    ∙ ap (λ (xs : List Core). xs ++ d ∷ []) (second ∙ ap (λ (xs : List Core). xs ++ b ∷ []) first ∙ append_assoc old (a ∷ []) (b ∷ []))
    ∙ append_assoc old (a ∷ b ∷ []) (d ∷ [])) third
