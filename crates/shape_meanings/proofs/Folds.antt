-- The four ways in which expressions are folded, and how each of them goes over a form.
use Rattle.std.proofs.Common.{◌≡◌, Bool, true, [], Option, sym, subst}
use Rattle.sail_base.specs.declared.place.Place.{Place}
use Rattle.sail_types.specs.declared.shapes.Shape.{Shape}
use Rattle.sail_syntax.specs.declared.expressions.Exp.{Exp, Exp-F, fold-Exp, roll-Exp}
use Rattle.sail_syntax.specs.declared.expressions.Exp.TheOpen.{LExp-F, Stmt-F, Suffix-F, Case-F, FieldValue-F, Index-F, Range-F, Target-F}
use Rattle.sail_syntax.specs.declared.expressions.Exp.TheFolds.{fold-LExp, fold-Stmt, fold-Suffix, fold-Case, fold-FieldValue, fold-Index, fold-Range}
use Rattle.sail_syntax.specs.declared.expressions.Exp.TheFolds.{fold-Target, fold-roll-Exp, fold-roll-Stmt, fold-roll-Suffix, fold-roll-Case}
use Rattle.sail_syntax.specs.declared.expressions.Exp.TheFolds.{fold-roll-LExp}
use Rattle.sail_syntax.specs.declared.expressions.Exp.TheFolds.{fold-roll-FieldValue, fold-roll-Target, map-LExp, map-FieldValue, map-Target}
use Rattle.sail_syntax.specs.declared.expressions.Exp.TheFolds.{fold-roll-Index, fold-roll-Range, map-Exp, map-Stmt, map-Suffix, map-Case, map-Index}
use Rattle.sail_syntax.specs.declared.expressions.Exp.TheFolds.{map-Range}
use Rattle.sail_syntax.specs.declared.expressions.LExp.{LExp, roll-LExp}
use Rattle.sail_syntax.specs.declared.expressions.Stmt.{Stmt, roll-Stmt}
use Rattle.sail_syntax.specs.declared.expressions.Suffix.{Suffix as SuffixTree, roll-Suffix}
use Rattle.sail_syntax.specs.declared.expressions.Case.{Case as CaseTree, roll-Case}
use Rattle.sail_syntax.specs.declared.expressions.FieldValue.{FieldValue, roll-FieldValue}
use Rattle.sail_syntax.specs.declared.expressions.Index.{Index, roll-Index}
use Rattle.sail_syntax.specs.declared.expressions.Range.{Range, roll-Range}
use Rattle.sail_syntax.specs.declared.expressions.Target.{Target as TargetTree, roll-Target}
use Rattle.sail_meaning.specs.World.{Meaning}
use Rattle.sail_meaning.specs.Targets.{Suffix, Target, assigned}
use Rattle.sail_meaning.specs.Expressions as Means
use Rattle.sail_meaning.specs.Expressions.{Case, Field, Span, Statement, or_one}
use Rattle.sail_names.specs.Known as Tables
use Rattle.sail_names.specs.Locals as Bound
use Rattle.sail_names.specs.Uses as Uses
use Rattle.sail_names.specs.Uses.{Failures}
use Rattle.shape_rules.specs.Scopes.{Setting, Locals}
use Rattle.shape_rules.specs.Targets.{Part, IndexPart, SuffixPart, TargetPart, read_aimed}
use Rattle.shape_rules.specs.Values.{FieldPart}
use Rattle.shape_rules.specs.Statements.{CasePart, FurtherPart, RangePart, StatementPart, assign_found, chained_faults}
use Rattle.shape_rules.specs.Expressions as Rules
use Rattle.shape_meanings.specs.Aims.{AimIs, PartAimIs}
use Rattle.shape_meanings.specs.Counted.{counted}
use Rattle.shape_meanings.specs.Trees as Trees
use Rattle.shape_meanings.specs.Parts.{IsRight, MaybeIs, CaseIs, IndexIs, StatementIs, SuffixIs}
use Rattle.shape_meanings.proofs.Bases.{BaseHolds}
use Rattle.shape_meanings.proofs.Ready.{Ready}

-- ---- what is found of a part

abbrev pub found_exp : Exp → Part
found_exp = fold-Exp Part TargetPart StatementPart SuffixPart CasePart FieldPart IndexPart RangePart FurtherPart
    Rules.exp_form Rules.target_form Rules.statement_form Rules.suffix_form Rules.case_form Rules.field_form Rules.index_form Rules.range_form
    Rules.further_form

abbrev pub found_lexp : LExp → TargetPart
found_lexp = fold-LExp Part TargetPart StatementPart SuffixPart CasePart FieldPart IndexPart RangePart FurtherPart
    Rules.exp_form Rules.target_form Rules.statement_form Rules.suffix_form Rules.case_form Rules.field_form Rules.index_form Rules.range_form
    Rules.further_form

abbrev pub found_stmt : Stmt → StatementPart
found_stmt = fold-Stmt Part TargetPart StatementPart SuffixPart CasePart FieldPart IndexPart RangePart FurtherPart
    Rules.exp_form Rules.target_form Rules.statement_form Rules.suffix_form Rules.case_form Rules.field_form Rules.index_form Rules.range_form
    Rules.further_form

abbrev pub found_suffix : SuffixTree → SuffixPart
found_suffix = fold-Suffix Part TargetPart StatementPart SuffixPart CasePart FieldPart IndexPart RangePart FurtherPart
    Rules.exp_form Rules.target_form Rules.statement_form Rules.suffix_form Rules.case_form Rules.field_form Rules.index_form Rules.range_form
    Rules.further_form

abbrev pub found_case : CaseTree → CasePart
found_case = fold-Case Part TargetPart StatementPart SuffixPart CasePart FieldPart IndexPart RangePart FurtherPart
    Rules.exp_form Rules.target_form Rules.statement_form Rules.suffix_form Rules.case_form Rules.field_form Rules.index_form Rules.range_form
    Rules.further_form

abbrev pub found_field : FieldValue → FieldPart
found_field = fold-FieldValue Part TargetPart StatementPart SuffixPart CasePart FieldPart IndexPart RangePart FurtherPart
    Rules.exp_form Rules.target_form Rules.statement_form Rules.suffix_form Rules.case_form Rules.field_form Rules.index_form Rules.range_form
    Rules.further_form

abbrev pub found_index : Index → IndexPart
found_index = fold-Index Part TargetPart StatementPart SuffixPart CasePart FieldPart IndexPart RangePart FurtherPart
    Rules.exp_form Rules.target_form Rules.statement_form Rules.suffix_form Rules.case_form Rules.field_form Rules.index_form Rules.range_form
    Rules.further_form

abbrev pub found_range : Range → RangePart
found_range = fold-Range Part TargetPart StatementPart SuffixPart CasePart FieldPart IndexPart RangePart FurtherPart
    Rules.exp_form Rules.target_form Rules.statement_form Rules.suffix_form Rules.case_form Rules.field_form Rules.index_form Rules.range_form
    Rules.further_form

abbrev pub found_target : TargetTree → FurtherPart
found_target = fold-Target Part TargetPart StatementPart SuffixPart CasePart FieldPart IndexPart RangePart FurtherPart
    Rules.exp_form Rules.target_form Rules.statement_form Rules.suffix_form Rules.case_form Rules.field_form Rules.index_form Rules.range_form
    Rules.further_form

-- ---- what it means

abbrev pub meant_exp : Exp → Meaning
meant_exp = fold-Exp Meaning Target Statement Suffix Case Field Suffix Span Target
    Means.expression_form Means.target_form Means.statement_form Means.suffix_form Means.case_form Means.field_form Means.index_form
    Means.range_form Means.further_form

abbrev pub meant_lexp : LExp → Target
meant_lexp = fold-LExp Meaning Target Statement Suffix Case Field Suffix Span Target
    Means.expression_form Means.target_form Means.statement_form Means.suffix_form Means.case_form Means.field_form Means.index_form
    Means.range_form Means.further_form

abbrev pub meant_stmt : Stmt → Statement
meant_stmt = fold-Stmt Meaning Target Statement Suffix Case Field Suffix Span Target
    Means.expression_form Means.target_form Means.statement_form Means.suffix_form Means.case_form Means.field_form Means.index_form
    Means.range_form Means.further_form

abbrev pub meant_suffix : SuffixTree → Suffix
meant_suffix = fold-Suffix Meaning Target Statement Suffix Case Field Suffix Span Target
    Means.expression_form Means.target_form Means.statement_form Means.suffix_form Means.case_form Means.field_form Means.index_form
    Means.range_form Means.further_form

abbrev pub meant_case : CaseTree → Case
meant_case = fold-Case Meaning Target Statement Suffix Case Field Suffix Span Target
    Means.expression_form Means.target_form Means.statement_form Means.suffix_form Means.case_form Means.field_form Means.index_form
    Means.range_form Means.further_form

abbrev pub meant_field : FieldValue → Field
meant_field = fold-FieldValue Meaning Target Statement Suffix Case Field Suffix Span Target
    Means.expression_form Means.target_form Means.statement_form Means.suffix_form Means.case_form Means.field_form Means.index_form
    Means.range_form Means.further_form

abbrev pub meant_index : Index → Suffix
meant_index = fold-Index Meaning Target Statement Suffix Case Field Suffix Span Target
    Means.expression_form Means.target_form Means.statement_form Means.suffix_form Means.case_form Means.field_form Means.index_form
    Means.range_form Means.further_form

abbrev pub meant_range : Range → Span
meant_range = fold-Range Meaning Target Statement Suffix Case Field Suffix Span Target
    Means.expression_form Means.target_form Means.statement_form Means.suffix_form Means.case_form Means.field_form Means.index_form
    Means.range_form Means.further_form

abbrev pub meant_target : TargetTree → Target
meant_target = fold-Target Meaning Target Statement Suffix Case Field Suffix Span Target
    Means.expression_form Means.target_form Means.statement_form Means.suffix_form Means.case_form Means.field_form Means.index_form
    Means.range_form Means.further_form

-- ---- the failures of its names

abbrev pub failed_exp : Exp → Failures
failed_exp = fold-Exp Failures Failures Uses.Statement Failures Failures Uses.Field Failures Failures Failures
    Uses.expression_form Uses.target_form Uses.statement_form Uses.suffix_form Uses.case_form Uses.field_form Uses.index_form Uses.range_form
    Uses.further_form

abbrev pub failed_lexp : LExp → Failures
failed_lexp = fold-LExp Failures Failures Uses.Statement Failures Failures Uses.Field Failures Failures Failures
    Uses.expression_form Uses.target_form Uses.statement_form Uses.suffix_form Uses.case_form Uses.field_form Uses.index_form Uses.range_form
    Uses.further_form

abbrev pub failed_stmt : Stmt → Uses.Statement
failed_stmt = fold-Stmt Failures Failures Uses.Statement Failures Failures Uses.Field Failures Failures Failures
    Uses.expression_form Uses.target_form Uses.statement_form Uses.suffix_form Uses.case_form Uses.field_form Uses.index_form Uses.range_form
    Uses.further_form

abbrev pub failed_suffix : SuffixTree → Failures
failed_suffix = fold-Suffix Failures Failures Uses.Statement Failures Failures Uses.Field Failures Failures Failures
    Uses.expression_form Uses.target_form Uses.statement_form Uses.suffix_form Uses.case_form Uses.field_form Uses.index_form Uses.range_form
    Uses.further_form

abbrev pub failed_case : CaseTree → Failures
failed_case = fold-Case Failures Failures Uses.Statement Failures Failures Uses.Field Failures Failures Failures
    Uses.expression_form Uses.target_form Uses.statement_form Uses.suffix_form Uses.case_form Uses.field_form Uses.index_form Uses.range_form
    Uses.further_form

abbrev pub failed_field : FieldValue → Uses.Field
failed_field = fold-FieldValue Failures Failures Uses.Statement Failures Failures Uses.Field Failures Failures Failures
    Uses.expression_form Uses.target_form Uses.statement_form Uses.suffix_form Uses.case_form Uses.field_form Uses.index_form Uses.range_form
    Uses.further_form

abbrev pub failed_index : Index → Failures
failed_index = fold-Index Failures Failures Uses.Statement Failures Failures Uses.Field Failures Failures Failures
    Uses.expression_form Uses.target_form Uses.statement_form Uses.suffix_form Uses.case_form Uses.field_form Uses.index_form Uses.range_form
    Uses.further_form

abbrev pub failed_range : Range → Failures
failed_range = fold-Range Failures Failures Uses.Statement Failures Failures Uses.Field Failures Failures Failures
    Uses.expression_form Uses.target_form Uses.statement_form Uses.suffix_form Uses.case_form Uses.field_form Uses.index_form Uses.range_form
    Uses.further_form

abbrev pub failed_target : TargetTree → Failures
failed_target = fold-Target Failures Failures Uses.Statement Failures Failures Uses.Field Failures Failures Failures
    Uses.expression_form Uses.target_form Uses.statement_form Uses.suffix_form Uses.case_form Uses.field_form Uses.index_form Uses.range_form
    Uses.further_form

-- ---- whether it is as the grammar has it

abbrev pub written_exp : Exp → Bool
written_exp = fold-Exp Bool Bool Bool Bool Bool Bool Bool Bool Bool
    Trees.expression_form Trees.target_form Trees.statement_form Trees.suffix_form Trees.case_form Trees.field_form Trees.index_form
    Trees.range_form Trees.further_form

abbrev pub written_lexp : LExp → Bool
written_lexp = fold-LExp Bool Bool Bool Bool Bool Bool Bool Bool Bool
    Trees.expression_form Trees.target_form Trees.statement_form Trees.suffix_form Trees.case_form Trees.field_form Trees.index_form
    Trees.range_form Trees.further_form

abbrev pub written_stmt : Stmt → Bool
written_stmt = fold-Stmt Bool Bool Bool Bool Bool Bool Bool Bool Bool
    Trees.expression_form Trees.target_form Trees.statement_form Trees.suffix_form Trees.case_form Trees.field_form Trees.index_form
    Trees.range_form Trees.further_form

abbrev pub written_suffix : SuffixTree → Bool
written_suffix = fold-Suffix Bool Bool Bool Bool Bool Bool Bool Bool Bool
    Trees.expression_form Trees.target_form Trees.statement_form Trees.suffix_form Trees.case_form Trees.field_form Trees.index_form
    Trees.range_form Trees.further_form

abbrev pub written_case : CaseTree → Bool
written_case = fold-Case Bool Bool Bool Bool Bool Bool Bool Bool Bool
    Trees.expression_form Trees.target_form Trees.statement_form Trees.suffix_form Trees.case_form Trees.field_form Trees.index_form
    Trees.range_form Trees.further_form

abbrev pub written_field : FieldValue → Bool
written_field = fold-FieldValue Bool Bool Bool Bool Bool Bool Bool Bool Bool
    Trees.expression_form Trees.target_form Trees.statement_form Trees.suffix_form Trees.case_form Trees.field_form Trees.index_form
    Trees.range_form Trees.further_form

abbrev pub written_index : Index → Bool
written_index = fold-Index Bool Bool Bool Bool Bool Bool Bool Bool Bool
    Trees.expression_form Trees.target_form Trees.statement_form Trees.suffix_form Trees.case_form Trees.field_form Trees.index_form
    Trees.range_form Trees.further_form

abbrev pub written_range : Range → Bool
written_range = fold-Range Bool Bool Bool Bool Bool Bool Bool Bool Bool
    Trees.expression_form Trees.target_form Trees.statement_form Trees.suffix_form Trees.case_form Trees.field_form Trees.index_form
    Trees.range_form Trees.further_form

abbrev pub written_target : TargetTree → Bool
written_target = fold-Target Bool Bool Bool Bool Bool Bool Bool Bool Bool
    Trees.expression_form Trees.target_form Trees.statement_form Trees.suffix_form Trees.case_form Trees.field_form Trees.index_form
    Trees.range_form Trees.further_form

-- ---- what is said of each tree

abbrev pub Known : Bool → (Setting → Tables.Setting → Locals → Bound.Locals → Type 0) → Type 0
Known b said =
    b ≡ true → (setting : Setting) (names : Tables.Setting) (locals : Locals) (bound : Bound.Locals) → Ready setting names locals bound
    → said setting names locals bound

abbrev pub ExpHolds : Part → Meaning → Failures → Bool → Type 0
ExpHolds a m f b = Known b (λ setting names locals bound. f names bound ≡ [] → IsRight setting locals a.elaborate m)

abbrev pub StmtHolds : StatementPart → Statement → Uses.Statement → Bool → Type 0
StmtHolds s m f b = Known b (λ setting names locals bound.
    (f names bound).failures ≡ [] → StatementIs setting locals s m
    × ((s setting locals).faults ≡ [] → Ready setting names (s setting locals).locals (f names bound).locals))

abbrev pub SuffixHolds : SuffixPart → Suffix → Failures → Bool → Type 0
SuffixHolds s m f b = Known b (λ setting names locals bound. f names bound ≡ [] → SuffixIs setting locals s m)

abbrev pub CaseHolds : CasePart → Case → Failures → Bool → Type 0
CaseHolds c m f b = Known b (λ setting names locals bound.
    f names bound ≡ [] → (subject : Shape) → counted setting.types subject ≡ true → CaseIs setting locals subject c m)

abbrev pub IndexHolds : IndexPart → Suffix → Failures → Bool → Type 0
IndexHolds i m f b = Known b (λ setting names locals bound. f names bound ≡ [] → IndexIs setting locals i m)

abbrev pub RangeIs : Setting → Locals → RangePart → Span → Type 0
RangeIs setting locals r m =
    (from : Meaning) × (to : Meaning) × (by : Option Meaning) × (m ≡ record { from = from; to = to; by = or_one by; direction = r.direction })
    × IsRight setting locals r.from.elaborate from × IsRight setting locals r.to.elaborate to × MaybeIs setting locals r.by by

abbrev pub RangeHolds : RangePart → Span → Failures → Bool → Type 0
RangeHolds r m f b = Known b (λ setting names locals bound. f names bound ≡ [] → RangeIs setting locals r m)

-- a target: as the only one of an assignment, as one of several, in a tuple, and as one of which parts are assigned
abbrev pub LExpHolds : TargetPart → Target → Failures → Bool → Type 0
LExpHolds t m f b =
    Known b (λ setting names locals bound. f names bound ≡ []
    → ((place : Place) (value : Part) (mv : Meaning) → IsRight setting locals value.elaborate mv
    → IsRight setting locals (assign_found place t [] value) (assigned m [] mv))
    × ((place : Place) → chained_faults place (t.aim setting locals) ≡ [] → AimIs setting locals (t.aim setting locals) m)
    × ((t.aim setting locals).faults ≡ [] → PartAimIs setting locals (t.aim setting locals) m)
    × ((read_aimed t.call setting locals (t.aim setting locals)).faults ≡ []
    → BaseHolds setting locals (read_aimed t.call setting locals (t.aim setting locals)) m))

abbrev pub FurtherHolds : FurtherPart → Target → Failures → Bool → Type 0
FurtherHolds t m f b =
    Known b (λ setting names locals bound. f names bound ≡ [] → chained_faults t.place (t.to.aim setting locals) ≡ [] → AimIs setting locals
    (t.to.aim setting locals) m)

abbrev pub FieldHolds : FieldPart → Field → Uses.Field → Bool → Type 0
FieldHolds p m f b =
    (p.name ≡ f.name)
    × Known b (λ setting names locals bound. f.value names bound ≡ [] → (m.name ≡ p.name.text) × IsRight setting locals p.value.elaborate m.value)

abbrev pub SuchExp : Type 0
SuchExp = (x : Exp) × ExpHolds (found_exp x) (meant_exp x) (failed_exp x) (written_exp x)

abbrev pub SuchLExp : Type 0
SuchLExp = (x : LExp) × LExpHolds (found_lexp x) (meant_lexp x) (failed_lexp x) (written_lexp x)

abbrev pub SuchStmt : Type 0
SuchStmt = (x : Stmt) × StmtHolds (found_stmt x) (meant_stmt x) (failed_stmt x) (written_stmt x)

abbrev pub SuchSuffix : Type 0
SuchSuffix = (x : SuffixTree) × SuffixHolds (found_suffix x) (meant_suffix x) (failed_suffix x) (written_suffix x)

abbrev pub SuchCase : Type 0
SuchCase = (x : CaseTree) × CaseHolds (found_case x) (meant_case x) (failed_case x) (written_case x)

abbrev pub SuchFieldValue : Type 0
SuchFieldValue = (x : FieldValue) × FieldHolds (found_field x) (meant_field x) (failed_field x) (written_field x)

abbrev pub SuchIndex : Type 0
SuchIndex = (x : Index) × IndexHolds (found_index x) (meant_index x) (failed_index x) (written_index x)

abbrev pub SuchRange : Type 0
SuchRange = (x : Range) × RangeHolds (found_range x) (meant_range x) (failed_range x) (written_range x)

abbrev pub SuchTarget : Type 0
SuchTarget = (x : TargetTree) × FurtherHolds (found_target x) (meant_target x) (failed_target x) (written_target x)

-- ---- forms over the trees

abbrev pub OverTrees : (Type 0 → Type 0 → Type 0 → Type 0 → Type 0 → Type 0 → Type 0 → Type 0 → Type 0 → Type 0) → Type 0
OverTrees F = F Exp LExp Stmt SuffixTree CaseTree FieldValue Index Range TargetTree

abbrev pub OverSuch : (Type 0 → Type 0 → Type 0 → Type 0 → Type 0 → Type 0 → Type 0 → Type 0 → Type 0 → Type 0) → Type 0
OverSuch F = F SuchExp SuchLExp SuchStmt SuchSuffix SuchCase SuchFieldValue SuchIndex SuchRange SuchTarget

abbrev pub OverFound : (Type 0 → Type 0 → Type 0 → Type 0 → Type 0 → Type 0 → Type 0 → Type 0 → Type 0 → Type 0) → Type 0
OverFound F = F Part TargetPart StatementPart SuffixPart CasePart FieldPart IndexPart RangePart FurtherPart

abbrev pub OverMeant : (Type 0 → Type 0 → Type 0 → Type 0 → Type 0 → Type 0 → Type 0 → Type 0 → Type 0 → Type 0) → Type 0
OverMeant F = F Meaning Target Statement Suffix Case Field Suffix Span Target

abbrev pub OverFailed : (Type 0 → Type 0 → Type 0 → Type 0 → Type 0 → Type 0 → Type 0 → Type 0 → Type 0 → Type 0) → Type 0
OverFailed F = F Failures Failures Uses.Statement Failures Failures Uses.Field Failures Failures Failures

abbrev pub OverWritten : (Type 0 → Type 0 → Type 0 → Type 0 → Type 0 → Type 0 → Type 0 → Type 0 → Type 0 → Type 0) → Type 0
OverWritten F = F Bool Bool Bool Bool Bool Bool Bool Bool Bool

abbrev pub first_Exp : OverSuch Exp-F → OverTrees Exp-F
first_Exp = map-Exp SuchExp SuchLExp SuchStmt SuchSuffix SuchCase SuchFieldValue SuchIndex SuchRange SuchTarget
    Exp LExp Stmt SuffixTree CaseTree FieldValue Index Range TargetTree
    (λ p. p.0) (λ p. p.0) (λ p. p.0) (λ p. p.0) (λ p. p.0) (λ p. p.0) (λ p. p.0) (λ p. p.0) (λ p. p.0)

abbrev pub found_Exp : OverTrees Exp-F → OverFound Exp-F
found_Exp = map-Exp Exp LExp Stmt SuffixTree CaseTree FieldValue Index Range TargetTree
    Part TargetPart StatementPart SuffixPart CasePart FieldPart IndexPart RangePart FurtherPart
    found_exp found_lexp found_stmt found_suffix found_case found_field found_index found_range found_target

abbrev pub meant_Exp : OverTrees Exp-F → OverMeant Exp-F
meant_Exp = map-Exp Exp LExp Stmt SuffixTree CaseTree FieldValue Index Range TargetTree
    Meaning Target Statement Suffix Case Field Suffix Span Target
    meant_exp meant_lexp meant_stmt meant_suffix meant_case meant_field meant_index meant_range meant_target

abbrev pub failed_Exp : OverTrees Exp-F → OverFailed Exp-F
failed_Exp = map-Exp Exp LExp Stmt SuffixTree CaseTree FieldValue Index Range TargetTree
    Failures Failures Uses.Statement Failures Failures Uses.Field Failures Failures Failures
    failed_exp failed_lexp failed_stmt failed_suffix failed_case failed_field failed_index failed_range failed_target

abbrev pub written_Exp : OverTrees Exp-F → OverWritten Exp-F
written_Exp = map-Exp Exp LExp Stmt SuffixTree CaseTree FieldValue Index Range TargetTree
    Bool Bool Bool Bool Bool Bool Bool Bool Bool
    written_exp written_lexp written_stmt written_suffix written_case written_field written_index written_range written_target

abbrev pub ExpForm : OverTrees Exp-F → Type 0
ExpForm d =
    ExpHolds (Rules.exp_form (found_Exp d)) (Means.expression_form (meant_Exp d))
    (Uses.expression_form (failed_Exp d)) (Trees.expression_form (written_Exp d))

pub rolled_Exp : (d : OverTrees Exp-F) → ExpForm d
    → ExpHolds (found_exp (roll-Exp d)) (meant_exp (roll-Exp d)) (failed_exp (roll-Exp d)) (written_exp (roll-Exp d))
rolled_Exp d h =
    subst (λ k. ExpHolds k (meant_exp (roll-Exp d)) (failed_exp (roll-Exp d)) (written_exp (roll-Exp d)))
    (sym (fold-roll-Exp Part TargetPart StatementPart SuffixPart CasePart FieldPart IndexPart RangePart FurtherPart
    Rules.exp_form Rules.target_form Rules.statement_form Rules.suffix_form Rules.case_form Rules.field_form Rules.index_form Rules.range_form
    Rules.further_form d))
    (subst (λ k. ExpHolds (Rules.exp_form (found_Exp d)) k (failed_exp (roll-Exp d)) (written_exp (roll-Exp d)))
    (sym (fold-roll-Exp Meaning Target Statement Suffix Case Field Suffix Span Target
    Means.expression_form Means.target_form Means.statement_form Means.suffix_form Means.case_form Means.field_form Means.index_form
    Means.range_form Means.further_form d))
    (subst (λ k. ExpHolds (Rules.exp_form (found_Exp d)) (Means.expression_form (meant_Exp d)) k (written_exp (roll-Exp d)))
    (sym (fold-roll-Exp Failures Failures Uses.Statement Failures Failures Uses.Field Failures Failures Failures
    Uses.expression_form Uses.target_form Uses.statement_form Uses.suffix_form Uses.case_form Uses.field_form Uses.index_form Uses.range_form
    Uses.further_form d))
    (subst (λ k. ExpHolds (Rules.exp_form (found_Exp d)) (Means.expression_form (meant_Exp d)) (Uses.expression_form (failed_Exp d)) k)
    (sym (fold-roll-Exp Bool Bool Bool Bool Bool Bool Bool Bool Bool
    Trees.expression_form Trees.target_form Trees.statement_form Trees.suffix_form Trees.case_form Trees.field_form Trees.index_form
    Trees.range_form Trees.further_form d)) h)))

abbrev pub first_LExp : OverSuch LExp-F → OverTrees LExp-F
first_LExp = map-LExp SuchExp SuchLExp SuchStmt SuchSuffix SuchCase SuchFieldValue SuchIndex SuchRange SuchTarget
    Exp LExp Stmt SuffixTree CaseTree FieldValue Index Range TargetTree
    (λ p. p.0) (λ p. p.0) (λ p. p.0) (λ p. p.0) (λ p. p.0) (λ p. p.0) (λ p. p.0) (λ p. p.0) (λ p. p.0)

abbrev pub found_LExp : OverTrees LExp-F → OverFound LExp-F
found_LExp = map-LExp Exp LExp Stmt SuffixTree CaseTree FieldValue Index Range TargetTree
    Part TargetPart StatementPart SuffixPart CasePart FieldPart IndexPart RangePart FurtherPart
    found_exp found_lexp found_stmt found_suffix found_case found_field found_index found_range found_target

abbrev pub meant_LExp : OverTrees LExp-F → OverMeant LExp-F
meant_LExp = map-LExp Exp LExp Stmt SuffixTree CaseTree FieldValue Index Range TargetTree
    Meaning Target Statement Suffix Case Field Suffix Span Target
    meant_exp meant_lexp meant_stmt meant_suffix meant_case meant_field meant_index meant_range meant_target

abbrev pub failed_LExp : OverTrees LExp-F → OverFailed LExp-F
failed_LExp = map-LExp Exp LExp Stmt SuffixTree CaseTree FieldValue Index Range TargetTree
    Failures Failures Uses.Statement Failures Failures Uses.Field Failures Failures Failures
    failed_exp failed_lexp failed_stmt failed_suffix failed_case failed_field failed_index failed_range failed_target

abbrev pub written_LExp : OverTrees LExp-F → OverWritten LExp-F
written_LExp = map-LExp Exp LExp Stmt SuffixTree CaseTree FieldValue Index Range TargetTree
    Bool Bool Bool Bool Bool Bool Bool Bool Bool
    written_exp written_lexp written_stmt written_suffix written_case written_field written_index written_range written_target

abbrev pub LExpForm : OverTrees LExp-F → Type 0
LExpForm d =
    LExpHolds (Rules.target_form (found_LExp d)) (Means.target_form (meant_LExp d))
    (Uses.target_form (failed_LExp d)) (Trees.target_form (written_LExp d))

pub rolled_LExp : (d : OverTrees LExp-F) → LExpForm d
    → LExpHolds (found_lexp (roll-LExp d)) (meant_lexp (roll-LExp d)) (failed_lexp (roll-LExp d)) (written_lexp (roll-LExp d))
rolled_LExp d h =
    subst (λ k. LExpHolds k (meant_lexp (roll-LExp d)) (failed_lexp (roll-LExp d)) (written_lexp (roll-LExp d)))
    (sym (fold-roll-LExp Part TargetPart StatementPart SuffixPart CasePart FieldPart IndexPart RangePart FurtherPart
    Rules.exp_form Rules.target_form Rules.statement_form Rules.suffix_form Rules.case_form Rules.field_form Rules.index_form Rules.range_form
    Rules.further_form d))
    (subst (λ k. LExpHolds (Rules.target_form (found_LExp d)) k (failed_lexp (roll-LExp d)) (written_lexp (roll-LExp d)))
    (sym (fold-roll-LExp Meaning Target Statement Suffix Case Field Suffix Span Target
    Means.expression_form Means.target_form Means.statement_form Means.suffix_form Means.case_form Means.field_form Means.index_form
    Means.range_form Means.further_form d))
    (subst (λ k. LExpHolds (Rules.target_form (found_LExp d)) (Means.target_form (meant_LExp d)) k (written_lexp (roll-LExp d)))
    (sym (fold-roll-LExp Failures Failures Uses.Statement Failures Failures Uses.Field Failures Failures Failures
    Uses.expression_form Uses.target_form Uses.statement_form Uses.suffix_form Uses.case_form Uses.field_form Uses.index_form Uses.range_form
    Uses.further_form d))
    (subst (λ k. LExpHolds (Rules.target_form (found_LExp d)) (Means.target_form (meant_LExp d)) (Uses.target_form (failed_LExp d)) k)
    (sym (fold-roll-LExp Bool Bool Bool Bool Bool Bool Bool Bool Bool
    Trees.expression_form Trees.target_form Trees.statement_form Trees.suffix_form Trees.case_form Trees.field_form Trees.index_form
    Trees.range_form Trees.further_form d)) h)))

abbrev pub first_Stmt : OverSuch Stmt-F → OverTrees Stmt-F
first_Stmt = map-Stmt SuchExp SuchLExp SuchStmt SuchSuffix SuchCase SuchFieldValue SuchIndex SuchRange SuchTarget
    Exp LExp Stmt SuffixTree CaseTree FieldValue Index Range TargetTree
    (λ p. p.0) (λ p. p.0) (λ p. p.0) (λ p. p.0) (λ p. p.0) (λ p. p.0) (λ p. p.0) (λ p. p.0) (λ p. p.0)

abbrev pub found_Stmt : OverTrees Stmt-F → OverFound Stmt-F
found_Stmt = map-Stmt Exp LExp Stmt SuffixTree CaseTree FieldValue Index Range TargetTree
    Part TargetPart StatementPart SuffixPart CasePart FieldPart IndexPart RangePart FurtherPart
    found_exp found_lexp found_stmt found_suffix found_case found_field found_index found_range found_target

abbrev pub meant_Stmt : OverTrees Stmt-F → OverMeant Stmt-F
meant_Stmt = map-Stmt Exp LExp Stmt SuffixTree CaseTree FieldValue Index Range TargetTree
    Meaning Target Statement Suffix Case Field Suffix Span Target
    meant_exp meant_lexp meant_stmt meant_suffix meant_case meant_field meant_index meant_range meant_target

abbrev pub failed_Stmt : OverTrees Stmt-F → OverFailed Stmt-F
failed_Stmt = map-Stmt Exp LExp Stmt SuffixTree CaseTree FieldValue Index Range TargetTree
    Failures Failures Uses.Statement Failures Failures Uses.Field Failures Failures Failures
    failed_exp failed_lexp failed_stmt failed_suffix failed_case failed_field failed_index failed_range failed_target

abbrev pub written_Stmt : OverTrees Stmt-F → OverWritten Stmt-F
written_Stmt = map-Stmt Exp LExp Stmt SuffixTree CaseTree FieldValue Index Range TargetTree
    Bool Bool Bool Bool Bool Bool Bool Bool Bool
    written_exp written_lexp written_stmt written_suffix written_case written_field written_index written_range written_target

abbrev pub StmtForm : OverTrees Stmt-F → Type 0
StmtForm d =
    StmtHolds (Rules.statement_form (found_Stmt d)) (Means.statement_form (meant_Stmt d))
    (Uses.statement_form (failed_Stmt d)) (Trees.statement_form (written_Stmt d))

pub rolled_Stmt : (d : OverTrees Stmt-F) → StmtForm d
    → StmtHolds (found_stmt (roll-Stmt d)) (meant_stmt (roll-Stmt d)) (failed_stmt (roll-Stmt d)) (written_stmt (roll-Stmt d))
rolled_Stmt d h =
    subst (λ k. StmtHolds k (meant_stmt (roll-Stmt d)) (failed_stmt (roll-Stmt d)) (written_stmt (roll-Stmt d)))
    (sym (fold-roll-Stmt Part TargetPart StatementPart SuffixPart CasePart FieldPart IndexPart RangePart FurtherPart
    Rules.exp_form Rules.target_form Rules.statement_form Rules.suffix_form Rules.case_form Rules.field_form Rules.index_form Rules.range_form
    Rules.further_form d))
    (subst (λ k. StmtHolds (Rules.statement_form (found_Stmt d)) k (failed_stmt (roll-Stmt d)) (written_stmt (roll-Stmt d)))
    (sym (fold-roll-Stmt Meaning Target Statement Suffix Case Field Suffix Span Target
    Means.expression_form Means.target_form Means.statement_form Means.suffix_form Means.case_form Means.field_form Means.index_form
    Means.range_form Means.further_form d))
    (subst (λ k. StmtHolds (Rules.statement_form (found_Stmt d)) (Means.statement_form (meant_Stmt d)) k (written_stmt (roll-Stmt d)))
    (sym (fold-roll-Stmt Failures Failures Uses.Statement Failures Failures Uses.Field Failures Failures Failures
    Uses.expression_form Uses.target_form Uses.statement_form Uses.suffix_form Uses.case_form Uses.field_form Uses.index_form Uses.range_form
    Uses.further_form d))
    (subst (λ k. StmtHolds (Rules.statement_form (found_Stmt d)) (Means.statement_form (meant_Stmt d)) (Uses.statement_form (failed_Stmt d)) k)
    (sym (fold-roll-Stmt Bool Bool Bool Bool Bool Bool Bool Bool Bool
    Trees.expression_form Trees.target_form Trees.statement_form Trees.suffix_form Trees.case_form Trees.field_form Trees.index_form
    Trees.range_form Trees.further_form d)) h)))

abbrev pub first_Suffix : OverSuch Suffix-F → OverTrees Suffix-F
first_Suffix = map-Suffix SuchExp SuchLExp SuchStmt SuchSuffix SuchCase SuchFieldValue SuchIndex SuchRange SuchTarget
    Exp LExp Stmt SuffixTree CaseTree FieldValue Index Range TargetTree
    (λ p. p.0) (λ p. p.0) (λ p. p.0) (λ p. p.0) (λ p. p.0) (λ p. p.0) (λ p. p.0) (λ p. p.0) (λ p. p.0)

abbrev pub found_Suffix : OverTrees Suffix-F → OverFound Suffix-F
found_Suffix = map-Suffix Exp LExp Stmt SuffixTree CaseTree FieldValue Index Range TargetTree
    Part TargetPart StatementPart SuffixPart CasePart FieldPart IndexPart RangePart FurtherPart
    found_exp found_lexp found_stmt found_suffix found_case found_field found_index found_range found_target

abbrev pub meant_Suffix : OverTrees Suffix-F → OverMeant Suffix-F
meant_Suffix = map-Suffix Exp LExp Stmt SuffixTree CaseTree FieldValue Index Range TargetTree
    Meaning Target Statement Suffix Case Field Suffix Span Target
    meant_exp meant_lexp meant_stmt meant_suffix meant_case meant_field meant_index meant_range meant_target

abbrev pub failed_Suffix : OverTrees Suffix-F → OverFailed Suffix-F
failed_Suffix = map-Suffix Exp LExp Stmt SuffixTree CaseTree FieldValue Index Range TargetTree
    Failures Failures Uses.Statement Failures Failures Uses.Field Failures Failures Failures
    failed_exp failed_lexp failed_stmt failed_suffix failed_case failed_field failed_index failed_range failed_target

abbrev pub written_Suffix : OverTrees Suffix-F → OverWritten Suffix-F
written_Suffix = map-Suffix Exp LExp Stmt SuffixTree CaseTree FieldValue Index Range TargetTree
    Bool Bool Bool Bool Bool Bool Bool Bool Bool
    written_exp written_lexp written_stmt written_suffix written_case written_field written_index written_range written_target

abbrev pub SuffixForm : OverTrees Suffix-F → Type 0
SuffixForm d =
    SuffixHolds (Rules.suffix_form (found_Suffix d)) (Means.suffix_form (meant_Suffix d))
    (Uses.suffix_form (failed_Suffix d)) (Trees.suffix_form (written_Suffix d))

pub rolled_Suffix : (d : OverTrees Suffix-F) → SuffixForm d
    → SuffixHolds (found_suffix (roll-Suffix d)) (meant_suffix (roll-Suffix d)) (failed_suffix (roll-Suffix d)) (written_suffix (roll-Suffix d))
rolled_Suffix d h =
    subst (λ k. SuffixHolds k (meant_suffix (roll-Suffix d)) (failed_suffix (roll-Suffix d)) (written_suffix (roll-Suffix d)))
    (sym (fold-roll-Suffix Part TargetPart StatementPart SuffixPart CasePart FieldPart IndexPart RangePart FurtherPart
    Rules.exp_form Rules.target_form Rules.statement_form Rules.suffix_form Rules.case_form Rules.field_form Rules.index_form Rules.range_form
    Rules.further_form d))
    (subst (λ k. SuffixHolds (Rules.suffix_form (found_Suffix d)) k (failed_suffix (roll-Suffix d)) (written_suffix (roll-Suffix d)))
    (sym (fold-roll-Suffix Meaning Target Statement Suffix Case Field Suffix Span Target
    Means.expression_form Means.target_form Means.statement_form Means.suffix_form Means.case_form Means.field_form Means.index_form
    Means.range_form Means.further_form d))
    (subst (λ k. SuffixHolds (Rules.suffix_form (found_Suffix d)) (Means.suffix_form (meant_Suffix d)) k (written_suffix (roll-Suffix d)))
    (sym (fold-roll-Suffix Failures Failures Uses.Statement Failures Failures Uses.Field Failures Failures Failures
    Uses.expression_form Uses.target_form Uses.statement_form Uses.suffix_form Uses.case_form Uses.field_form Uses.index_form Uses.range_form
    Uses.further_form d))
    (subst (λ k. SuffixHolds (Rules.suffix_form (found_Suffix d)) (Means.suffix_form (meant_Suffix d)) (Uses.suffix_form (failed_Suffix d)) k)
    (sym (fold-roll-Suffix Bool Bool Bool Bool Bool Bool Bool Bool Bool
    Trees.expression_form Trees.target_form Trees.statement_form Trees.suffix_form Trees.case_form Trees.field_form Trees.index_form
    Trees.range_form Trees.further_form d)) h)))

abbrev pub first_Case : OverSuch Case-F → OverTrees Case-F
first_Case = map-Case SuchExp SuchLExp SuchStmt SuchSuffix SuchCase SuchFieldValue SuchIndex SuchRange SuchTarget
    Exp LExp Stmt SuffixTree CaseTree FieldValue Index Range TargetTree
    (λ p. p.0) (λ p. p.0) (λ p. p.0) (λ p. p.0) (λ p. p.0) (λ p. p.0) (λ p. p.0) (λ p. p.0) (λ p. p.0)

abbrev pub found_Case : OverTrees Case-F → OverFound Case-F
found_Case = map-Case Exp LExp Stmt SuffixTree CaseTree FieldValue Index Range TargetTree
    Part TargetPart StatementPart SuffixPart CasePart FieldPart IndexPart RangePart FurtherPart
    found_exp found_lexp found_stmt found_suffix found_case found_field found_index found_range found_target

abbrev pub meant_Case : OverTrees Case-F → OverMeant Case-F
meant_Case = map-Case Exp LExp Stmt SuffixTree CaseTree FieldValue Index Range TargetTree
    Meaning Target Statement Suffix Case Field Suffix Span Target
    meant_exp meant_lexp meant_stmt meant_suffix meant_case meant_field meant_index meant_range meant_target

abbrev pub failed_Case : OverTrees Case-F → OverFailed Case-F
failed_Case = map-Case Exp LExp Stmt SuffixTree CaseTree FieldValue Index Range TargetTree
    Failures Failures Uses.Statement Failures Failures Uses.Field Failures Failures Failures
    failed_exp failed_lexp failed_stmt failed_suffix failed_case failed_field failed_index failed_range failed_target

abbrev pub written_Case : OverTrees Case-F → OverWritten Case-F
written_Case = map-Case Exp LExp Stmt SuffixTree CaseTree FieldValue Index Range TargetTree
    Bool Bool Bool Bool Bool Bool Bool Bool Bool
    written_exp written_lexp written_stmt written_suffix written_case written_field written_index written_range written_target

abbrev pub CaseForm : OverTrees Case-F → Type 0
CaseForm d =
    CaseHolds (Rules.case_form (found_Case d)) (Means.case_form (meant_Case d))
    (Uses.case_form (failed_Case d)) (Trees.case_form (written_Case d))

pub rolled_Case : (d : OverTrees Case-F) → CaseForm d
    → CaseHolds (found_case (roll-Case d)) (meant_case (roll-Case d)) (failed_case (roll-Case d)) (written_case (roll-Case d))
rolled_Case d h =
    subst (λ k. CaseHolds k (meant_case (roll-Case d)) (failed_case (roll-Case d)) (written_case (roll-Case d)))
    (sym (fold-roll-Case Part TargetPart StatementPart SuffixPart CasePart FieldPart IndexPart RangePart FurtherPart
    Rules.exp_form Rules.target_form Rules.statement_form Rules.suffix_form Rules.case_form Rules.field_form Rules.index_form Rules.range_form
    Rules.further_form d))
    (subst (λ k. CaseHolds (Rules.case_form (found_Case d)) k (failed_case (roll-Case d)) (written_case (roll-Case d)))
    (sym (fold-roll-Case Meaning Target Statement Suffix Case Field Suffix Span Target
    Means.expression_form Means.target_form Means.statement_form Means.suffix_form Means.case_form Means.field_form Means.index_form
    Means.range_form Means.further_form d))
    (subst (λ k. CaseHolds (Rules.case_form (found_Case d)) (Means.case_form (meant_Case d)) k (written_case (roll-Case d)))
    (sym (fold-roll-Case Failures Failures Uses.Statement Failures Failures Uses.Field Failures Failures Failures
    Uses.expression_form Uses.target_form Uses.statement_form Uses.suffix_form Uses.case_form Uses.field_form Uses.index_form Uses.range_form
    Uses.further_form d))
    (subst (λ k. CaseHolds (Rules.case_form (found_Case d)) (Means.case_form (meant_Case d)) (Uses.case_form (failed_Case d)) k)
    (sym (fold-roll-Case Bool Bool Bool Bool Bool Bool Bool Bool Bool
    Trees.expression_form Trees.target_form Trees.statement_form Trees.suffix_form Trees.case_form Trees.field_form Trees.index_form
    Trees.range_form Trees.further_form d)) h)))

abbrev pub first_FieldValue : OverSuch FieldValue-F → OverTrees FieldValue-F
first_FieldValue = map-FieldValue SuchExp SuchLExp SuchStmt SuchSuffix SuchCase SuchFieldValue SuchIndex SuchRange SuchTarget
    Exp LExp Stmt SuffixTree CaseTree FieldValue Index Range TargetTree
    (λ p. p.0) (λ p. p.0) (λ p. p.0) (λ p. p.0) (λ p. p.0) (λ p. p.0) (λ p. p.0) (λ p. p.0) (λ p. p.0)

abbrev pub found_FieldValue : OverTrees FieldValue-F → OverFound FieldValue-F
found_FieldValue = map-FieldValue Exp LExp Stmt SuffixTree CaseTree FieldValue Index Range TargetTree
    Part TargetPart StatementPart SuffixPart CasePart FieldPart IndexPart RangePart FurtherPart
    found_exp found_lexp found_stmt found_suffix found_case found_field found_index found_range found_target

abbrev pub meant_FieldValue : OverTrees FieldValue-F → OverMeant FieldValue-F
meant_FieldValue = map-FieldValue Exp LExp Stmt SuffixTree CaseTree FieldValue Index Range TargetTree
    Meaning Target Statement Suffix Case Field Suffix Span Target
    meant_exp meant_lexp meant_stmt meant_suffix meant_case meant_field meant_index meant_range meant_target

abbrev pub failed_FieldValue : OverTrees FieldValue-F → OverFailed FieldValue-F
failed_FieldValue = map-FieldValue Exp LExp Stmt SuffixTree CaseTree FieldValue Index Range TargetTree
    Failures Failures Uses.Statement Failures Failures Uses.Field Failures Failures Failures
    failed_exp failed_lexp failed_stmt failed_suffix failed_case failed_field failed_index failed_range failed_target

abbrev pub written_FieldValue : OverTrees FieldValue-F → OverWritten FieldValue-F
written_FieldValue = map-FieldValue Exp LExp Stmt SuffixTree CaseTree FieldValue Index Range TargetTree
    Bool Bool Bool Bool Bool Bool Bool Bool Bool
    written_exp written_lexp written_stmt written_suffix written_case written_field written_index written_range written_target

abbrev pub FieldValueForm : OverTrees FieldValue-F → Type 0
FieldValueForm d =
    FieldHolds (Rules.field_form (found_FieldValue d)) (Means.field_form (meant_FieldValue d))
    (Uses.field_form (failed_FieldValue d)) (Trees.field_form (written_FieldValue d))

pub rolled_FieldValue : (d : OverTrees FieldValue-F) → FieldValueForm d
    → FieldHolds (found_field (roll-FieldValue d)) (meant_field (roll-FieldValue d)) (failed_field (roll-FieldValue d)) (written_field (roll-FieldValue d))
rolled_FieldValue d h =
    subst (λ k. FieldHolds k (meant_field (roll-FieldValue d)) (failed_field (roll-FieldValue d)) (written_field (roll-FieldValue d)))
    (sym (fold-roll-FieldValue Part TargetPart StatementPart SuffixPart CasePart FieldPart IndexPart RangePart FurtherPart
    Rules.exp_form Rules.target_form Rules.statement_form Rules.suffix_form Rules.case_form Rules.field_form Rules.index_form Rules.range_form
    Rules.further_form d))
    (subst (λ k. FieldHolds (Rules.field_form (found_FieldValue d)) k (failed_field (roll-FieldValue d)) (written_field (roll-FieldValue d)))
    (sym (fold-roll-FieldValue Meaning Target Statement Suffix Case Field Suffix Span Target
    Means.expression_form Means.target_form Means.statement_form Means.suffix_form Means.case_form Means.field_form Means.index_form
    Means.range_form Means.further_form d))
    (subst (λ k. FieldHolds (Rules.field_form (found_FieldValue d)) (Means.field_form (meant_FieldValue d)) k (written_field (roll-FieldValue d)))
    (sym (fold-roll-FieldValue Failures Failures Uses.Statement Failures Failures Uses.Field Failures Failures Failures
    Uses.expression_form Uses.target_form Uses.statement_form Uses.suffix_form Uses.case_form Uses.field_form Uses.index_form Uses.range_form
    Uses.further_form d))
    (subst (λ k. FieldHolds (Rules.field_form (found_FieldValue d)) (Means.field_form (meant_FieldValue d)) (Uses.field_form (failed_FieldValue d)) k)
    (sym (fold-roll-FieldValue Bool Bool Bool Bool Bool Bool Bool Bool Bool
    Trees.expression_form Trees.target_form Trees.statement_form Trees.suffix_form Trees.case_form Trees.field_form Trees.index_form
    Trees.range_form Trees.further_form d)) h)))

abbrev pub first_Index : OverSuch Index-F → OverTrees Index-F
first_Index = map-Index SuchExp SuchLExp SuchStmt SuchSuffix SuchCase SuchFieldValue SuchIndex SuchRange SuchTarget
    Exp LExp Stmt SuffixTree CaseTree FieldValue Index Range TargetTree
    (λ p. p.0) (λ p. p.0) (λ p. p.0) (λ p. p.0) (λ p. p.0) (λ p. p.0) (λ p. p.0) (λ p. p.0) (λ p. p.0)

abbrev pub found_Index : OverTrees Index-F → OverFound Index-F
found_Index = map-Index Exp LExp Stmt SuffixTree CaseTree FieldValue Index Range TargetTree
    Part TargetPart StatementPart SuffixPart CasePart FieldPart IndexPart RangePart FurtherPart
    found_exp found_lexp found_stmt found_suffix found_case found_field found_index found_range found_target

abbrev pub meant_Index : OverTrees Index-F → OverMeant Index-F
meant_Index = map-Index Exp LExp Stmt SuffixTree CaseTree FieldValue Index Range TargetTree
    Meaning Target Statement Suffix Case Field Suffix Span Target
    meant_exp meant_lexp meant_stmt meant_suffix meant_case meant_field meant_index meant_range meant_target

abbrev pub failed_Index : OverTrees Index-F → OverFailed Index-F
failed_Index = map-Index Exp LExp Stmt SuffixTree CaseTree FieldValue Index Range TargetTree
    Failures Failures Uses.Statement Failures Failures Uses.Field Failures Failures Failures
    failed_exp failed_lexp failed_stmt failed_suffix failed_case failed_field failed_index failed_range failed_target

abbrev pub written_Index : OverTrees Index-F → OverWritten Index-F
written_Index = map-Index Exp LExp Stmt SuffixTree CaseTree FieldValue Index Range TargetTree
    Bool Bool Bool Bool Bool Bool Bool Bool Bool
    written_exp written_lexp written_stmt written_suffix written_case written_field written_index written_range written_target

abbrev pub IndexForm : OverTrees Index-F → Type 0
IndexForm d =
    IndexHolds (Rules.index_form (found_Index d)) (Means.index_form (meant_Index d))
    (Uses.index_form (failed_Index d)) (Trees.index_form (written_Index d))

pub rolled_Index : (d : OverTrees Index-F) → IndexForm d
    → IndexHolds (found_index (roll-Index d)) (meant_index (roll-Index d)) (failed_index (roll-Index d)) (written_index (roll-Index d))
rolled_Index d h =
    subst (λ k. IndexHolds k (meant_index (roll-Index d)) (failed_index (roll-Index d)) (written_index (roll-Index d)))
    (sym (fold-roll-Index Part TargetPart StatementPart SuffixPart CasePart FieldPart IndexPart RangePart FurtherPart
    Rules.exp_form Rules.target_form Rules.statement_form Rules.suffix_form Rules.case_form Rules.field_form Rules.index_form Rules.range_form
    Rules.further_form d))
    (subst (λ k. IndexHolds (Rules.index_form (found_Index d)) k (failed_index (roll-Index d)) (written_index (roll-Index d)))
    (sym (fold-roll-Index Meaning Target Statement Suffix Case Field Suffix Span Target
    Means.expression_form Means.target_form Means.statement_form Means.suffix_form Means.case_form Means.field_form Means.index_form
    Means.range_form Means.further_form d))
    (subst (λ k. IndexHolds (Rules.index_form (found_Index d)) (Means.index_form (meant_Index d)) k (written_index (roll-Index d)))
    (sym (fold-roll-Index Failures Failures Uses.Statement Failures Failures Uses.Field Failures Failures Failures
    Uses.expression_form Uses.target_form Uses.statement_form Uses.suffix_form Uses.case_form Uses.field_form Uses.index_form Uses.range_form
    Uses.further_form d))
    (subst (λ k. IndexHolds (Rules.index_form (found_Index d)) (Means.index_form (meant_Index d)) (Uses.index_form (failed_Index d)) k)
    (sym (fold-roll-Index Bool Bool Bool Bool Bool Bool Bool Bool Bool
    Trees.expression_form Trees.target_form Trees.statement_form Trees.suffix_form Trees.case_form Trees.field_form Trees.index_form
    Trees.range_form Trees.further_form d)) h)))

abbrev pub first_Range : OverSuch Range-F → OverTrees Range-F
first_Range = map-Range SuchExp SuchLExp SuchStmt SuchSuffix SuchCase SuchFieldValue SuchIndex SuchRange SuchTarget
    Exp LExp Stmt SuffixTree CaseTree FieldValue Index Range TargetTree
    (λ p. p.0) (λ p. p.0) (λ p. p.0) (λ p. p.0) (λ p. p.0) (λ p. p.0) (λ p. p.0) (λ p. p.0) (λ p. p.0)

abbrev pub found_Range : OverTrees Range-F → OverFound Range-F
found_Range = map-Range Exp LExp Stmt SuffixTree CaseTree FieldValue Index Range TargetTree
    Part TargetPart StatementPart SuffixPart CasePart FieldPart IndexPart RangePart FurtherPart
    found_exp found_lexp found_stmt found_suffix found_case found_field found_index found_range found_target

abbrev pub meant_Range : OverTrees Range-F → OverMeant Range-F
meant_Range = map-Range Exp LExp Stmt SuffixTree CaseTree FieldValue Index Range TargetTree
    Meaning Target Statement Suffix Case Field Suffix Span Target
    meant_exp meant_lexp meant_stmt meant_suffix meant_case meant_field meant_index meant_range meant_target

abbrev pub failed_Range : OverTrees Range-F → OverFailed Range-F
failed_Range = map-Range Exp LExp Stmt SuffixTree CaseTree FieldValue Index Range TargetTree
    Failures Failures Uses.Statement Failures Failures Uses.Field Failures Failures Failures
    failed_exp failed_lexp failed_stmt failed_suffix failed_case failed_field failed_index failed_range failed_target

abbrev pub written_Range : OverTrees Range-F → OverWritten Range-F
written_Range = map-Range Exp LExp Stmt SuffixTree CaseTree FieldValue Index Range TargetTree
    Bool Bool Bool Bool Bool Bool Bool Bool Bool
    written_exp written_lexp written_stmt written_suffix written_case written_field written_index written_range written_target

abbrev pub RangeForm : OverTrees Range-F → Type 0
RangeForm d =
    RangeHolds (Rules.range_form (found_Range d)) (Means.range_form (meant_Range d))
    (Uses.range_form (failed_Range d)) (Trees.range_form (written_Range d))

pub rolled_Range : (d : OverTrees Range-F) → RangeForm d
    → RangeHolds (found_range (roll-Range d)) (meant_range (roll-Range d)) (failed_range (roll-Range d)) (written_range (roll-Range d))
rolled_Range d h =
    subst (λ k. RangeHolds k (meant_range (roll-Range d)) (failed_range (roll-Range d)) (written_range (roll-Range d)))
    (sym (fold-roll-Range Part TargetPart StatementPart SuffixPart CasePart FieldPart IndexPart RangePart FurtherPart
    Rules.exp_form Rules.target_form Rules.statement_form Rules.suffix_form Rules.case_form Rules.field_form Rules.index_form Rules.range_form
    Rules.further_form d))
    (subst (λ k. RangeHolds (Rules.range_form (found_Range d)) k (failed_range (roll-Range d)) (written_range (roll-Range d)))
    (sym (fold-roll-Range Meaning Target Statement Suffix Case Field Suffix Span Target
    Means.expression_form Means.target_form Means.statement_form Means.suffix_form Means.case_form Means.field_form Means.index_form
    Means.range_form Means.further_form d))
    (subst (λ k. RangeHolds (Rules.range_form (found_Range d)) (Means.range_form (meant_Range d)) k (written_range (roll-Range d)))
    (sym (fold-roll-Range Failures Failures Uses.Statement Failures Failures Uses.Field Failures Failures Failures
    Uses.expression_form Uses.target_form Uses.statement_form Uses.suffix_form Uses.case_form Uses.field_form Uses.index_form Uses.range_form
    Uses.further_form d))
    (subst (λ k. RangeHolds (Rules.range_form (found_Range d)) (Means.range_form (meant_Range d)) (Uses.range_form (failed_Range d)) k)
    (sym (fold-roll-Range Bool Bool Bool Bool Bool Bool Bool Bool Bool
    Trees.expression_form Trees.target_form Trees.statement_form Trees.suffix_form Trees.case_form Trees.field_form Trees.index_form
    Trees.range_form Trees.further_form d)) h)))

abbrev pub first_Target : OverSuch Target-F → OverTrees Target-F
first_Target = map-Target SuchExp SuchLExp SuchStmt SuchSuffix SuchCase SuchFieldValue SuchIndex SuchRange SuchTarget
    Exp LExp Stmt SuffixTree CaseTree FieldValue Index Range TargetTree
    (λ p. p.0) (λ p. p.0) (λ p. p.0) (λ p. p.0) (λ p. p.0) (λ p. p.0) (λ p. p.0) (λ p. p.0) (λ p. p.0)

abbrev pub found_Target : OverTrees Target-F → OverFound Target-F
found_Target = map-Target Exp LExp Stmt SuffixTree CaseTree FieldValue Index Range TargetTree
    Part TargetPart StatementPart SuffixPart CasePart FieldPart IndexPart RangePart FurtherPart
    found_exp found_lexp found_stmt found_suffix found_case found_field found_index found_range found_target

abbrev pub meant_Target : OverTrees Target-F → OverMeant Target-F
meant_Target = map-Target Exp LExp Stmt SuffixTree CaseTree FieldValue Index Range TargetTree
    Meaning Target Statement Suffix Case Field Suffix Span Target
    meant_exp meant_lexp meant_stmt meant_suffix meant_case meant_field meant_index meant_range meant_target

abbrev pub failed_Target : OverTrees Target-F → OverFailed Target-F
failed_Target = map-Target Exp LExp Stmt SuffixTree CaseTree FieldValue Index Range TargetTree
    Failures Failures Uses.Statement Failures Failures Uses.Field Failures Failures Failures
    failed_exp failed_lexp failed_stmt failed_suffix failed_case failed_field failed_index failed_range failed_target

abbrev pub written_Target : OverTrees Target-F → OverWritten Target-F
written_Target = map-Target Exp LExp Stmt SuffixTree CaseTree FieldValue Index Range TargetTree
    Bool Bool Bool Bool Bool Bool Bool Bool Bool
    written_exp written_lexp written_stmt written_suffix written_case written_field written_index written_range written_target

abbrev pub TargetForm : OverTrees Target-F → Type 0
TargetForm d =
    FurtherHolds (Rules.further_form (found_Target d)) (Means.further_form (meant_Target d))
    (Uses.further_form (failed_Target d)) (Trees.further_form (written_Target d))

pub rolled_Target : (d : OverTrees Target-F) → TargetForm d
    → FurtherHolds (found_target (roll-Target d)) (meant_target (roll-Target d)) (failed_target (roll-Target d)) (written_target (roll-Target d))
rolled_Target d h =
    subst (λ k. FurtherHolds k (meant_target (roll-Target d)) (failed_target (roll-Target d)) (written_target (roll-Target d)))
    (sym (fold-roll-Target Part TargetPart StatementPart SuffixPart CasePart FieldPart IndexPart RangePart FurtherPart
    Rules.exp_form Rules.target_form Rules.statement_form Rules.suffix_form Rules.case_form Rules.field_form Rules.index_form Rules.range_form
    Rules.further_form d))
    (subst (λ k. FurtherHolds (Rules.further_form (found_Target d)) k (failed_target (roll-Target d)) (written_target (roll-Target d)))
    (sym (fold-roll-Target Meaning Target Statement Suffix Case Field Suffix Span Target
    Means.expression_form Means.target_form Means.statement_form Means.suffix_form Means.case_form Means.field_form Means.index_form
    Means.range_form Means.further_form d))
    (subst (λ k. FurtherHolds (Rules.further_form (found_Target d)) (Means.further_form (meant_Target d)) k (written_target (roll-Target d)))
    (sym (fold-roll-Target Failures Failures Uses.Statement Failures Failures Uses.Field Failures Failures Failures
    Uses.expression_form Uses.target_form Uses.statement_form Uses.suffix_form Uses.case_form Uses.field_form Uses.index_form Uses.range_form
    Uses.further_form d))
    (subst (λ k. FurtherHolds (Rules.further_form (found_Target d)) (Means.further_form (meant_Target d)) (Uses.further_form (failed_Target d)) k)
    (sym (fold-roll-Target Bool Bool Bool Bool Bool Bool Bool Bool Bool
    Trees.expression_form Trees.target_form Trees.statement_form Trees.suffix_form Trees.case_form Trees.field_form Trees.index_form
    Trees.range_form Trees.further_form d)) h)))
