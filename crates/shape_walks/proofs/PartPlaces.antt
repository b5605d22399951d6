-- A part stands where its text does.
use Rattle.std.proofs.Common.{◌≡◌, ◌-◌, suc, List, [], ◌∷◌, map, length, slice_get, refl, sym, ap, ◌∙◌, arith}
use Rattle.sail_base.specs.declared.place.Place.{Place}
use Rattle.sail_syntax.specs.Places.{expression_place, expression_form_place, target_place, target_form_place, part_place, suffix_place, suffix_form_place}
use Rattle.sail_syntax.specs.declared.expressions.Exp.{Exp, out-Exp, fold_out-Exp, map-Exp}
use Rattle.sail_syntax.specs.declared.expressions.Exp.TheOpen as E
use Rattle.sail_syntax.specs.declared.expressions.Exp.TheOpen.{Exp-F, LExp-F, Suffix-F}
use Rattle.sail_syntax.specs.declared.expressions.Exp.TheFolds.{fold_out-LExp, fold_out-Suffix, map-LExp, map-Suffix}
use Rattle.sail_syntax.specs.declared.expressions.LExp.{LExp, out-LExp}
use Rattle.sail_syntax.specs.declared.expressions.Stmt.{Stmt}
use Rattle.sail_syntax.specs.declared.expressions.Suffix.{Suffix, out-Suffix}
use Rattle.sail_syntax.specs.declared.expressions.Case.{Case}
use Rattle.sail_syntax.specs.declared.expressions.FieldValue.{FieldValue}
use Rattle.sail_syntax.specs.declared.expressions.Index.{Index}
use Rattle.sail_syntax.specs.declared.expressions.Range.{Range}
use Rattle.sail_syntax.specs.declared.expressions.Target.{Target}
use Rattle.shape_rules.specs.Targets.{Part, TargetPart, SuffixPart, IndexPart, field_part, at_part}
use Rattle.shape_rules.specs.Values.{last_place, FieldPart}
use Rattle.shape_rules.specs.Statements.{StatementPart, CasePart, RangePart, FurtherPart}
use Rattle.shape_rules.specs.Expressions.{part, form_place, exp_form, target_form, statement_form, suffix_form, case_form, field_form}
use Rattle.shape_rules.specs.Expressions.{index_form, range_form, further_form}
use Rattle.shape_walks.specs.Trees.{target_part, statement_part, suffix_part, case_part, field_value, index_part, range_part, further_part}

-- the place of what ends with this suffix
ended : (first : Place) (form : Suffix-F Exp LExp Stmt Suffix Case FieldValue Index Range Target)
    → last_place first (suffix_form (map-Suffix Exp LExp Stmt Suffix Case FieldValue Index Range Target
    Part TargetPart StatementPart SuffixPart CasePart FieldPart IndexPart RangePart FurtherPart
    part target_part statement_part suffix_part case_part field_value index_part range_part further_part form) ∷ []) ≡ suffix_form_place first form
ended first (E.Field name) = refl
ended first (E.At place index) = refl

one_suffix : (first : Place) (suffix : Suffix) → last_place first (suffix_part suffix ∷ []) ≡ suffix_form_place first (out-Suffix suffix)
one_suffix first suffix = ap (λ (s : SuffixPart). last_place first (s ∷ []))
    (fold_out-Suffix Part TargetPart StatementPart SuffixPart CasePart FieldPart IndexPart RangePart FurtherPart
    exp_form target_form statement_form suffix_form case_form field_form index_form range_form further_form suffix) ∙ ended first (out-Suffix suffix)

later : (first : Place) (suffix next : SuffixPart) (more : List SuffixPart) → last_place first (suffix ∷ next ∷ more) ≡ last_place first (next ∷ more)
later first (field_part name) next more = refl
later first (at_part place index) next more = refl

last_is : (first : Place) (suffixes : List Suffix) → last_place first (map suffix_part suffixes) ≡ part_place first suffixes
last_is first [] = refl
last_is first (suffix ∷ []) = one_suffix first suffix
last_is first (suffix ∷ next ∷ more) =
    let long : length (suffix ∷ next ∷ more) - 1 ≡ suc (length more) = omega arith in
    let short : length (next ∷ more) - 1 ≡ length more = omega arith in
    later first (suffix_part suffix) (suffix_part next) (map suffix_part more) ∙ last_is first (next ∷ more)
    ∙ ap (λ n. suffix_place first (slice_get (next ∷ more) n)) short
    ∙ sym (ap (λ n. suffix_place first (slice_get (suffix ∷ next ∷ more) n)) long)

form_same : (form : Exp-F Exp LExp Stmt Suffix Case FieldValue Index Range Target)
    → form_place (map-Exp Exp LExp Stmt Suffix Case FieldValue Index Range Target
    Part TargetPart StatementPart SuffixPart CasePart FieldPart IndexPart RangePart FurtherPart
    part target_part statement_part suffix_part case_part field_value index_part range_part further_part form) ≡ expression_form_place form
form_same (E.Constant place literal) = refl
form_same (E.Variable name) = refl
form_same (E.Call name args) = refl
form_same (E.Prefixed place prefix a) = refl
form_same (E.Infix place operator a b) = refl
form_same (E.Leave place leaving a) = refl
form_same (E.Group place brackets items) = refl
form_same (E.Part first base suffixes) = last_is first suffixes
form_same (E.Typed place a t) = refl
form_same (E.Assign place target more a) = refl
form_same (E.Block place statements a) = refl
form_same (E.Let place p a b) = refl
form_same (E.Var place name t a b) = refl
form_same (E.If place a b c) = refl
form_same (E.Choose place choosing a cases) = refl
form_same (E.Foreach place name range a) = refl
form_same (E.Loop place looping measure a b) = refl
form_same (E.Update place base index a) = refl
form_same (E.Struct place name fields) = refl
form_same (E.With place base fields) = refl
form_same (E.OfType place asking t) = refl
form_same (E.Assert place a text) = refl

pub place_is : (e : Exp) → (part e).place ≡ expression_place e
place_is e = ap (λ (p : Part). p.place)
    (fold_out-Exp Part TargetPart StatementPart SuffixPart CasePart FieldPart IndexPart RangePart FurtherPart
    exp_form target_form statement_form suffix_form case_form field_form index_form range_form further_form e) ∙ form_same (out-Exp e)

target_same : (form : LExp-F Exp LExp Stmt Suffix Case FieldValue Index Range Target)
    → (target_form (map-LExp Exp LExp Stmt Suffix Case FieldValue Index Range Target
    Part TargetPart StatementPart SuffixPart CasePart FieldPart IndexPart RangePart FurtherPart
    part target_part statement_part suffix_part case_part field_value index_part range_part further_part form)).place ≡ target_form_place form
target_same (E.ToName name) = refl
target_same (E.ToCall name args) = refl
target_same (E.ToTuple place targets) = refl
target_same (E.ToPart first base suffixes) = last_is first suffixes

pub target_place_is : (l : LExp) → (target_part l).place ≡ target_place l
target_place_is l = ap (λ (p : TargetPart). p.place)
    (fold_out-LExp Part TargetPart StatementPart SuffixPart CasePart FieldPart IndexPart RangePart FurtherPart
    exp_form target_form statement_form suffix_form case_form field_form index_form range_form further_form l) ∙ target_same (out-LExp l)
