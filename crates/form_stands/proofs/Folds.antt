-- The five ways in which expressions are folded, and how each of them goes over a form: what is found, the failures of names, twice what the grammar has,
-- and the mappings by which patterns convert.
use Rattle.std.proofs.Common.{◌≡◌, ℕ, Bool, true, List, [], sym, subst}
use Rattle.sail_base.specs.declared.place.Place.{Place}
use Rattle.sail_types.specs.declared.shapes.Shape.{Shape}
use Rattle.sail_syntax.specs.declared.expressions.Exp.{Exp, Exp-F, fold-Exp, roll-Exp}
use Rattle.sail_syntax.specs.declared.expressions.Exp.TheOpen.{LExp-F, Stmt-F, Suffix-F, Case-F, FieldValue-F, Index-F, Range-F, Target-F}
use Rattle.sail_syntax.specs.declared.expressions.Exp.TheFolds.{fold-roll-Exp, fold-roll-LExp, fold-roll-Stmt, fold-roll-Suffix, fold-roll-Case}
use Rattle.sail_syntax.specs.declared.expressions.Exp.TheFolds.{fold-roll-FieldValue, fold-roll-Target, fold-roll-Index, fold-roll-Range}
use Rattle.sail_syntax.specs.declared.expressions.Exp.TheFolds.{map-Exp, map-LExp, map-Stmt, map-Suffix, map-Case, map-FieldValue, map-Index, map-Range}
use Rattle.sail_syntax.specs.declared.expressions.Exp.TheFolds.{map-Target, fold-LExp, fold-Stmt, fold-Suffix, fold-Case, fold-FieldValue, fold-Index}
use Rattle.sail_syntax.specs.declared.expressions.Exp.TheFolds.{fold-Range, fold-Target}
use Rattle.sail_syntax.specs.declared.expressions.LExp.{LExp, roll-LExp}
use Rattle.sail_syntax.specs.declared.expressions.Stmt.{Stmt, roll-Stmt}
use Rattle.sail_syntax.specs.declared.expressions.Suffix.{Suffix as SuffixTree, roll-Suffix}
use Rattle.sail_syntax.specs.declared.expressions.Case.{Case as CaseTree, roll-Case}
use Rattle.sail_syntax.specs.declared.expressions.FieldValue.{FieldValue, roll-FieldValue}
use Rattle.sail_syntax.specs.declared.expressions.Index.{Index, roll-Index}
use Rattle.sail_syntax.specs.declared.expressions.Range.{Range, roll-Range}
use Rattle.sail_syntax.specs.declared.expressions.Target.{Target as TargetTree, roll-Target}
use Rattle.sail_cycles.specs.declared.expressions.Which.TheVariants.{Patterns}
use Rattle.sail_cycles.specs.Callees as Callees
use Rattle.sail_cycles.specs.Callees.{case_callees, expression_callees, field_callees, further_callees, index_callees, range_callees, statement_callees}
use Rattle.sail_cycles.specs.Callees.{suffix_callees, target_callees}
use Rattle.sail_names.specs.Known as Tables
use Rattle.sail_names.specs.Locals as Bound
use Rattle.sail_names.specs.Uses as Uses
use Rattle.sail_names.specs.Uses.{Failures}
use Rattle.shape_rules.specs.Scopes.{Locals}
use Rattle.shape_rules.specs.Targets.{IndexPart, Part, SuffixPart, TargetPart, read_aimed}
use Rattle.shape_rules.specs.Values.{FieldPart}
use Rattle.shape_rules.specs.Statements.{CasePart, FurtherPart, RangePart, StatementPart, assign_found, chained_faults}
use Rattle.shape_rules.specs.Expressions as Rules
use Rattle.shape_meanings.specs.Counted.{counted}
use Rattle.shape_meanings.specs.Trees as Trees
use Rattle.shape_meanings.proofs.Folds.{OverTrees}
use Rattle.shape_meanings.proofs.Folds.{failed_Case, failed_Exp, failed_FieldValue, failed_Index, failed_LExp, failed_Range, failed_Stmt, failed_Suffix}
use Rattle.shape_meanings.proofs.Folds.{failed_Target, failed_case, failed_exp, failed_field, failed_index, failed_lexp, failed_range, failed_stmt}
use Rattle.shape_meanings.proofs.Folds.{failed_suffix, failed_target}
use Rattle.shape_meanings.proofs.Folds.{found_Case, found_Exp, found_FieldValue, found_Index, found_LExp, found_Range, found_Stmt, found_Suffix, found_Target}
use Rattle.shape_meanings.proofs.Folds.{found_case, found_exp, found_field, found_index, found_lexp, found_range, found_stmt, found_suffix, found_target}
use Rattle.shape_meanings.proofs.Folds.{written_Case, written_Exp, written_FieldValue, written_Index, written_LExp, written_Range, written_Stmt}
use Rattle.shape_meanings.proofs.Folds.{written_Suffix, written_Target, written_case, written_exp, written_field, written_index, written_lexp}
use Rattle.shape_meanings.proofs.Folds.{written_range, written_stmt, written_suffix, written_target}
use Rattle.shape_meanings.proofs.Ready.{Ready}
use Rattle.shape_stands.specs.Inside.{Position}
use Rattle.shape_stands.specs.Manner as Manner
use Rattle.shape_stands.specs.Manner.{Manner as Mannered, Quiet}
use Rattle.shape_stands.specs.Stands.{AimStands, CaseStands, Converting, IndexStands, IsShapedAt, PartAimStands, RangeStands, StandsAt}
use Rattle.shape_stands.specs.Stands.{StatementStands, SuffixStands}
use Rattle.form_stands.proofs.Bases.{BaseHas}

-- the mappings by which patterns in a tree convert
abbrev pub Numbers : Type 0
Numbers = Tables.Known → List ℕ

abbrev pub in_exp : Exp → Numbers
in_exp x known = expression_callees Patterns known x

abbrev pub in_lexp : LExp → Numbers
in_lexp x known = target_callees Patterns known x

abbrev pub in_stmt : Stmt → Numbers
in_stmt x known = statement_callees Patterns known x

abbrev pub in_suffix : SuffixTree → Numbers
in_suffix x known = suffix_callees Patterns known x

abbrev pub in_case : CaseTree → Numbers
in_case x known = case_callees Patterns known x

abbrev pub in_field : FieldValue → Numbers
in_field x known = field_callees Patterns known x

abbrev pub in_index : Index → Numbers
in_index x known = index_callees Patterns known x

abbrev pub in_range : Range → Numbers
in_range x known = range_callees Patterns known x

abbrev pub in_target : TargetTree → Numbers
in_target x known = further_callees Patterns known x

-- what the grammar has of a tree
abbrev pub manner_exp : Exp → Mannered
manner_exp = fold-Exp Mannered Mannered Mannered Mannered Mannered Mannered Mannered Mannered Mannered
    Manner.expression_form Manner.target_form Manner.statement_form Manner.suffix_form Manner.case_form Manner.field_form Manner.index_form
    Manner.range_form Manner.further_form

abbrev pub manner_lexp : LExp → Mannered
manner_lexp = fold-LExp Mannered Mannered Mannered Mannered Mannered Mannered Mannered Mannered Mannered
    Manner.expression_form Manner.target_form Manner.statement_form Manner.suffix_form Manner.case_form Manner.field_form Manner.index_form
    Manner.range_form Manner.further_form

abbrev pub manner_stmt : Stmt → Mannered
manner_stmt = fold-Stmt Mannered Mannered Mannered Mannered Mannered Mannered Mannered Mannered Mannered
    Manner.expression_form Manner.target_form Manner.statement_form Manner.suffix_form Manner.case_form Manner.field_form Manner.index_form
    Manner.range_form Manner.further_form

abbrev pub manner_suffix : SuffixTree → Mannered
manner_suffix = fold-Suffix Mannered Mannered Mannered Mannered Mannered Mannered Mannered Mannered Mannered
    Manner.expression_form Manner.target_form Manner.statement_form Manner.suffix_form Manner.case_form Manner.field_form Manner.index_form
    Manner.range_form Manner.further_form

abbrev pub manner_case : CaseTree → Mannered
manner_case = fold-Case Mannered Mannered Mannered Mannered Mannered Mannered Mannered Mannered Mannered
    Manner.expression_form Manner.target_form Manner.statement_form Manner.suffix_form Manner.case_form Manner.field_form Manner.index_form
    Manner.range_form Manner.further_form

abbrev pub manner_field : FieldValue → Mannered
manner_field = fold-FieldValue Mannered Mannered Mannered Mannered Mannered Mannered Mannered Mannered Mannered
    Manner.expression_form Manner.target_form Manner.statement_form Manner.suffix_form Manner.case_form Manner.field_form Manner.index_form
    Manner.range_form Manner.further_form

abbrev pub manner_index : Index → Mannered
manner_index = fold-Index Mannered Mannered Mannered Mannered Mannered Mannered Mannered Mannered Mannered
    Manner.expression_form Manner.target_form Manner.statement_form Manner.suffix_form Manner.case_form Manner.field_form Manner.index_form
    Manner.range_form Manner.further_form

abbrev pub manner_range : Range → Mannered
manner_range = fold-Range Mannered Mannered Mannered Mannered Mannered Mannered Mannered Mannered Mannered
    Manner.expression_form Manner.target_form Manner.statement_form Manner.suffix_form Manner.case_form Manner.field_form Manner.index_form
    Manner.range_form Manner.further_form

abbrev pub manner_target : TargetTree → Mannered
manner_target = fold-Target Mannered Mannered Mannered Mannered Mannered Mannered Mannered Mannered Mannered
    Manner.expression_form Manner.target_form Manner.statement_form Manner.suffix_form Manner.case_form Manner.field_form Manner.index_form
    Manner.range_form Manner.further_form

-- ---- what is said of each tree

abbrev pub Placed : Bool → Mannered → Numbers → (Position → Locals → Bound.Locals → Type 0) → Type 0
Placed b m numbers said =
    b ≡ true → (here : Position) (locals : Locals) (bound : Bound.Locals) → Ready here.setting here.names locals bound → Quiet here m
    → Converting here (numbers here.names.known) → said here locals bound

abbrev pub ExpStands : Part → Failures → Bool → Mannered → Numbers → Type 0
ExpStands a f b p n = Placed b p n (λ here locals bound. f here.names bound ≡ [] → IsShapedAt here locals a.elaborate)

abbrev pub StmtStands : StatementPart → Uses.Statement → Bool → Mannered → Numbers → Type 0
StmtStands s f b p n = Placed b p n (λ here locals bound.
    (f here.names bound).failures ≡ [] → StatementStands here locals s
    × ((s here.setting locals).faults ≡ [] → Ready here.setting here.names (s here.setting locals).locals (f here.names bound).locals))

abbrev pub SuffixTreeStands : SuffixPart → Failures → Bool → Mannered → Numbers → Type 0
SuffixTreeStands s f b p n = Placed b p n (λ here locals bound. f here.names bound ≡ [] → SuffixStands here locals s)

abbrev pub CaseTreeStands : CasePart → Failures → Bool → Mannered → Numbers → Type 0
CaseTreeStands c f b p n = Placed b p n (λ here locals bound.
    f here.names bound ≡ [] → (subject : Shape) → counted here.setting.types subject ≡ true → CaseStands here locals subject c)

abbrev pub IndexTreeStands : IndexPart → Failures → Bool → Mannered → Numbers → Type 0
IndexTreeStands i f b p n = Placed b p n (λ here locals bound. f here.names bound ≡ [] → IndexStands here locals i)

abbrev pub RangeTreeStands : RangePart → Failures → Bool → Mannered → Numbers → Type 0
RangeTreeStands r f b p n = Placed b p n (λ here locals bound. f here.names bound ≡ [] → RangeStands here locals r)

-- a target: as the only one of an assignment, as one of several, in a tuple, and as one of which parts are assigned
abbrev pub LExpStands : TargetPart → Failures → Bool → Mannered → Numbers → Type 0
LExpStands t f b p n = Placed b p n (λ here locals bound. f here.names bound ≡ []
    → ((place : Place) (value : Part) → StandsAt here locals value.elaborate → IsShapedAt here locals (assign_found place t [] value))
    × ((place : Place) → chained_faults place (t.aim here.setting locals) ≡ [] → AimStands here locals (t.aim here.setting locals))
    × ((t.aim here.setting locals).faults ≡ [] → PartAimStands here locals (t.aim here.setting locals))
    × ((read_aimed t.call here.setting locals (t.aim here.setting locals)).faults ≡ []
    → BaseHas here locals (read_aimed t.call here.setting locals (t.aim here.setting locals))))

abbrev pub FurtherTreeStands : FurtherPart → Failures → Bool → Mannered → Numbers → Type 0
FurtherTreeStands t f b p n = Placed b p n (λ here locals bound.
    f here.names bound ≡ [] → chained_faults t.place (t.to.aim here.setting locals) ≡ [] → AimStands here locals (t.to.aim here.setting locals))

abbrev pub FieldStands : FieldPart → Uses.Field → Bool → Mannered → Numbers → Type 0
FieldStands v f b p n = (v.name ≡ f.name) × Placed b p n (λ here locals bound. f.value here.names bound ≡ [] → StandsAt here locals v.value.elaborate)

abbrev pub SuchExp : Type 0
SuchExp = (x : Exp) × ExpStands (found_exp x) (failed_exp x) (written_exp x) (manner_exp x) (in_exp x)

abbrev pub SuchLExp : Type 0
SuchLExp = (x : LExp) × LExpStands (found_lexp x) (failed_lexp x) (written_lexp x) (manner_lexp x) (in_lexp x)

abbrev pub SuchStmt : Type 0
SuchStmt = (x : Stmt) × StmtStands (found_stmt x) (failed_stmt x) (written_stmt x) (manner_stmt x) (in_stmt x)

abbrev pub SuchSuffix : Type 0
SuchSuffix = (x : SuffixTree) × SuffixTreeStands (found_suffix x) (failed_suffix x) (written_suffix x) (manner_suffix x) (in_suffix x)

abbrev pub SuchCase : Type 0
SuchCase = (x : CaseTree) × CaseTreeStands (found_case x) (failed_case x) (written_case x) (manner_case x) (in_case x)

abbrev pub SuchFieldValue : Type 0
SuchFieldValue = (x : FieldValue) × FieldStands (found_field x) (failed_field x) (written_field x) (manner_field x) (in_field x)

abbrev pub SuchIndex : Type 0
SuchIndex = (x : Index) × IndexTreeStands (found_index x) (failed_index x) (written_index x) (manner_index x) (in_index x)

abbrev pub SuchRange : Type 0
SuchRange = (x : Range) × RangeTreeStands (found_range x) (failed_range x) (written_range x) (manner_range x) (in_range x)

abbrev pub SuchTarget : Type 0
SuchTarget = (x : TargetTree) × FurtherTreeStands (found_target x) (failed_target x) (written_target x) (manner_target x) (in_target x)

-- ---- forms over the trees

abbrev pub OverSuch : (Type 0 → Type 0 → Type 0 → Type 0 → Type 0 → Type 0 → Type 0 → Type 0 → Type 0 → Type 0) → Type 0
OverSuch F = F SuchExp SuchLExp SuchStmt SuchSuffix SuchCase SuchFieldValue SuchIndex SuchRange SuchTarget

abbrev pub OverManners : (Type 0 → Type 0 → Type 0 → Type 0 → Type 0 → Type 0 → Type 0 → Type 0 → Type 0 → Type 0) → Type 0
OverManners F = F Mannered Mannered Mannered Mannered Mannered Mannered Mannered Mannered Mannered

abbrev pub OverNumbers : (Type 0 → Type 0 → Type 0 → Type 0 → Type 0 → Type 0 → Type 0 → Type 0 → Type 0 → Type 0) → Type 0
OverNumbers F = F (List ℕ) (List ℕ) (List ℕ) (List ℕ) (List ℕ) (List ℕ) (List ℕ) (List ℕ) (List ℕ)

abbrev pub first_Exp : OverSuch Exp-F → OverTrees Exp-F
first_Exp = map-Exp SuchExp SuchLExp SuchStmt SuchSuffix SuchCase SuchFieldValue SuchIndex SuchRange SuchTarget
    Exp LExp Stmt SuffixTree CaseTree FieldValue Index Range TargetTree
    (λ p. p.0) (λ p. p.0) (λ p. p.0) (λ p. p.0) (λ p. p.0) (λ p. p.0) (λ p. p.0) (λ p. p.0) (λ p. p.0)

abbrev pub in_Exp : Tables.Known → OverTrees Exp-F → OverNumbers Exp-F
in_Exp known = map-Exp Exp LExp Stmt SuffixTree CaseTree FieldValue Index Range TargetTree
    (List ℕ) (List ℕ) (List ℕ) (List ℕ) (List ℕ) (List ℕ) (List ℕ) (List ℕ) (List ℕ)
    (λ x. in_exp x known) (λ x. in_lexp x known) (λ x. in_stmt x known) (λ x. in_suffix x known) (λ x. in_case x known) (λ x. in_field x known)
    (λ x. in_index x known) (λ x. in_range x known) (λ x. in_target x known)

abbrev pub manner_Exp : OverTrees Exp-F → OverManners Exp-F
manner_Exp = map-Exp Exp LExp Stmt SuffixTree CaseTree FieldValue Index Range TargetTree
    Mannered Mannered Mannered Mannered Mannered Mannered Mannered Mannered Mannered
    manner_exp manner_lexp manner_stmt manner_suffix manner_case manner_field manner_index manner_range manner_target

abbrev pub ExpForm : OverTrees Exp-F → Type 0
ExpForm d =
    ExpStands (Rules.exp_form (found_Exp d)) (Uses.expression_form (failed_Exp d)) (Trees.expression_form (written_Exp d))
    (Manner.expression_form (manner_Exp d)) (λ known. Callees.expression_form Patterns known (in_Exp known d))

pub numbers_Exp : (d : OverTrees Exp-F) → in_exp (roll-Exp d) ≡ (λ known. Callees.expression_form Patterns known (in_Exp known d))
numbers_Exp d = λ i known.
    fold-roll-Exp (List ℕ) (List ℕ) (List ℕ) (List ℕ) (List ℕ) (List ℕ) (List ℕ) (List ℕ) (List ℕ)
    (Callees.expression_form Patterns known) (Callees.target_form Patterns known) (Callees.statement_form known) Callees.suffix_form
    (Callees.case_form known) Callees.field_form Callees.index_form Callees.range_form Callees.further_form d i

pub rolled_Exp : (d : OverTrees Exp-F) → ExpForm d
    → ExpStands (found_exp (roll-Exp d)) (failed_exp (roll-Exp d)) (written_exp (roll-Exp d)) (manner_exp (roll-Exp d)) (in_exp (roll-Exp d))
rolled_Exp d h =
    subst (λ k. ExpStands k (failed_exp (roll-Exp d)) (written_exp (roll-Exp d)) (manner_exp (roll-Exp d)) (in_exp (roll-Exp d)))
    (sym (fold-roll-Exp Part TargetPart StatementPart SuffixPart CasePart FieldPart IndexPart RangePart FurtherPart
    Rules.exp_form Rules.target_form Rules.statement_form Rules.suffix_form Rules.case_form Rules.field_form Rules.index_form Rules.range_form
    Rules.further_form d))
    (subst (λ k. ExpStands (Rules.exp_form (found_Exp d)) k (written_exp (roll-Exp d)) (manner_exp (roll-Exp d)) (in_exp (roll-Exp d)))
    (sym (fold-roll-Exp Failures Failures Uses.Statement Failures Failures Uses.Field Failures Failures Failures
    Uses.expression_form Uses.target_form Uses.statement_form Uses.suffix_form Uses.case_form Uses.field_form Uses.index_form Uses.range_form
    Uses.further_form d))
    (subst (λ k. ExpStands (Rules.exp_form (found_Exp d)) (Uses.expression_form (failed_Exp d)) k (manner_exp (roll-Exp d)) (in_exp (roll-Exp d)))
    (sym (fold-roll-Exp Bool Bool Bool Bool Bool Bool Bool Bool Bool
    Trees.expression_form Trees.target_form Trees.statement_form Trees.suffix_form Trees.case_form Trees.field_form Trees.index_form
    Trees.range_form Trees.further_form d))
    (subst (λ k. ExpStands (Rules.exp_form (found_Exp d)) (Uses.expression_form (failed_Exp d)) (Trees.expression_form (written_Exp d)) k (in_exp (roll-Exp d)))
    (sym (fold-roll-Exp Mannered Mannered Mannered Mannered Mannered Mannered Mannered Mannered Mannered
    Manner.expression_form Manner.target_form Manner.statement_form Manner.suffix_form Manner.case_form Manner.field_form Manner.index_form
    Manner.range_form Manner.further_form d))
    (subst (λ k. ExpStands (Rules.exp_form (found_Exp d)) (Uses.expression_form (failed_Exp d)) (Trees.expression_form (written_Exp d))
    (Manner.expression_form (manner_Exp d)) k)
    (sym (numbers_Exp d)) h))))

abbrev pub first_LExp : OverSuch LExp-F → OverTrees LExp-F
first_LExp = map-LExp SuchExp SuchLExp SuchStmt SuchSuffix SuchCase SuchFieldValue SuchIndex SuchRange SuchTarget
    Exp LExp Stmt SuffixTree CaseTree FieldValue Index Range TargetTree
    (λ p. p.0) (λ p. p.0) (λ p. p.0) (λ p. p.0) (λ p. p.0) (λ p. p.0) (λ p. p.0) (λ p. p.0) (λ p. p.0)

abbrev pub in_LExp : Tables.Known → OverTrees LExp-F → OverNumbers LExp-F
in_LExp known = map-LExp Exp LExp Stmt SuffixTree CaseTree FieldValue Index Range TargetTree
    (List ℕ) (List ℕ) (List ℕ) (List ℕ) (List ℕ) (List ℕ) (List ℕ) (List ℕ) (List ℕ)
    (λ x. in_exp x known) (λ x. in_lexp x known) (λ x. in_stmt x known) (λ x. in_suffix x known) (λ x. in_case x known) (λ x. in_field x known)
    (λ x. in_index x known) (λ x. in_range x known) (λ x. in_target x known)

abbrev pub manner_LExp : OverTrees LExp-F → OverManners LExp-F
manner_LExp = map-LExp Exp LExp Stmt SuffixTree CaseTree FieldValue Index Range TargetTree
    Mannered Mannered Mannered Mannered Mannered Mannered Mannered Mannered Mannered
    manner_exp manner_lexp manner_stmt manner_suffix manner_case manner_field manner_index manner_range manner_target

abbrev pub LExpForm : OverTrees LExp-F → Type 0
LExpForm d =
    LExpStands (Rules.target_form (found_LExp d)) (Uses.target_form (failed_LExp d)) (Trees.target_form (written_LExp d))
    (Manner.target_form (manner_LExp d)) (λ known. Callees.target_form Patterns known (in_LExp known d))

pub numbers_LExp : (d : OverTrees LExp-F) → in_lexp (roll-LExp d) ≡ (λ known. Callees.target_form Patterns known (in_LExp known d))
numbers_LExp d = λ i known.
    fold-roll-LExp (List ℕ) (List ℕ) (List ℕ) (List ℕ) (List ℕ) (List ℕ) (List ℕ) (List ℕ) (List ℕ)
    (Callees.expression_form Patterns known) (Callees.target_form Patterns known) (Callees.statement_form known) Callees.suffix_form
    (Callees.case_form known) Callees.field_form Callees.index_form Callees.range_form Callees.further_form d i

pub rolled_LExp : (d : OverTrees LExp-F) → LExpForm d
    → LExpStands (found_lexp (roll-LExp d)) (failed_lexp (roll-LExp d)) (written_lexp (roll-LExp d)) (manner_lexp (roll-LExp d)) (in_lexp (roll-LExp d))
rolled_LExp d h =
    subst (λ k. LExpStands k (failed_lexp (roll-LExp d)) (written_lexp (roll-LExp d)) (manner_lexp (roll-LExp d)) (in_lexp (roll-LExp d)))
    (sym (fold-roll-LExp Part TargetPart StatementPart SuffixPart CasePart FieldPart IndexPart RangePart FurtherPart
    Rules.exp_form Rules.target_form Rules.statement_form Rules.suffix_form Rules.case_form Rules.field_form Rules.index_form Rules.range_form
    Rules.further_form d))
    (subst (λ k. LExpStands (Rules.target_form (found_LExp d)) k (written_lexp (roll-LExp d)) (manner_lexp (roll-LExp d)) (in_lexp (roll-LExp d)))
    (sym (fold-roll-LExp Failures Failures Uses.Statement Failures Failures Uses.Field Failures Failures Failures
    Uses.expression_form Uses.target_form Uses.statement_form Uses.suffix_form Uses.case_form Uses.field_form Uses.index_form Uses.range_form
    Uses.further_form d))
    (subst (λ k. LExpStands (Rules.target_form (found_LExp d)) (Uses.target_form (failed_LExp d)) k (manner_lexp (roll-LExp d)) (in_lexp (roll-LExp d)))
    (sym (fold-roll-LExp Bool Bool Bool Bool Bool Bool Bool Bool Bool
    Trees.expression_form Trees.target_form Trees.statement_form Trees.suffix_form Trees.case_form Trees.field_form Trees.index_form
    Trees.range_form Trees.further_form d))
    (subst (λ k. LExpStands (Rules.target_form (found_LExp d)) (Uses.target_form (failed_LExp d)) (Trees.target_form (written_LExp d)) k (in_lexp
    (roll-LExp d)))
    (sym (fold-roll-LExp Mannered Mannered Mannered Mannered Mannered Mannered Mannered Mannered Mannered
    Manner.expression_form Manner.target_form Manner.statement_form Manner.suffix_form Manner.case_form Manner.field_form Manner.index_form
    Manner.range_form Manner.further_form d))
    (subst (λ k. LExpStands (Rules.target_form (found_LExp d)) (Uses.target_form (failed_LExp d)) (Trees.target_form (written_LExp d)) (Manner.target_form
    (manner_LExp d)) k)
    (sym (numbers_LExp d)) h))))

abbrev pub first_Stmt : OverSuch Stmt-F → OverTrees Stmt-F
first_Stmt = map-Stmt SuchExp SuchLExp SuchStmt SuchSuffix SuchCase SuchFieldValue SuchIndex SuchRange SuchTarget
    Exp LExp Stmt SuffixTree CaseTree FieldValue Index Range TargetTree
    (λ p. p.0) (λ p. p.0) (λ p. p.0) (λ p. p.0) (λ p. p.0) (λ p. p.0) (λ p. p.0) (λ p. p.0) (λ p. p.0)

abbrev pub in_Stmt : Tables.Known → OverTrees Stmt-F → OverNumbers Stmt-F
in_Stmt known = map-Stmt Exp LExp Stmt SuffixTree CaseTree FieldValue Index Range TargetTree
    (List ℕ) (List ℕ) (List ℕ) (List ℕ) (List ℕ) (List ℕ) (List ℕ) (List ℕ) (List ℕ)
    (λ x. in_exp x known) (λ x. in_lexp x known) (λ x. in_stmt x known) (λ x. in_suffix x known) (λ x. in_case x known) (λ x. in_field x known)
    (λ x. in_index x known) (λ x. in_range x known) (λ x. in_target x known)

abbrev pub manner_Stmt : OverTrees Stmt-F → OverManners Stmt-F
manner_Stmt = map-Stmt Exp LExp Stmt SuffixTree CaseTree FieldValue Index Range TargetTree
    Mannered Mannered Mannered Mannered Mannered Mannered Mannered Mannered Mannered
    manner_exp manner_lexp manner_stmt manner_suffix manner_case manner_field manner_index manner_range manner_target

abbrev pub StmtForm : OverTrees Stmt-F → Type 0
StmtForm d =
    StmtStands (Rules.statement_form (found_Stmt d)) (Uses.statement_form (failed_Stmt d)) (Trees.statement_form (written_Stmt d))
    (Manner.statement_form (manner_Stmt d)) (λ known. Callees.statement_form known (in_Stmt known d))

pub numbers_Stmt : (d : OverTrees Stmt-F) → in_stmt (roll-Stmt d) ≡ (λ known. Callees.statement_form known (in_Stmt known d))
numbers_Stmt d = λ i known.
    fold-roll-Stmt (List ℕ) (List ℕ) (List ℕ) (List ℕ) (List ℕ) (List ℕ) (List ℕ) (List ℕ) (List ℕ)
    (Callees.expression_form Patterns known) (Callees.target_form Patterns known) (Callees.statement_form known) Callees.suffix_form
    (Callees.case_form known) Callees.field_form Callees.index_form Callees.range_form Callees.further_form d i

pub rolled_Stmt : (d : OverTrees Stmt-F) → StmtForm d
    → StmtStands (found_stmt (roll-Stmt d)) (failed_stmt (roll-Stmt d)) (written_stmt (roll-Stmt d)) (manner_stmt (roll-Stmt d)) (in_stmt (roll-Stmt d))
rolled_Stmt d h =
    subst (λ k. StmtStands k (failed_stmt (roll-Stmt d)) (written_stmt (roll-Stmt d)) (manner_stmt (roll-Stmt d)) (in_stmt (roll-Stmt d)))
    (sym (fold-roll-Stmt Part TargetPart StatementPart SuffixPart CasePart FieldPart IndexPart RangePart FurtherPart
    Rules.exp_form Rules.target_form Rules.statement_form Rules.suffix_form Rules.case_form Rules.field_form Rules.index_form Rules.range_form
    Rules.further_form d))
    (subst (λ k. StmtStands (Rules.statement_form (found_Stmt d)) k (written_stmt (roll-Stmt d)) (manner_stmt (roll-Stmt d)) (in_stmt (roll-Stmt d)))
    (sym (fold-roll-Stmt Failures Failures Uses.Statement Failures Failures Uses.Field Failures Failures Failures
    Uses.expression_form Uses.target_form Uses.statement_form Uses.suffix_form Uses.case_form Uses.field_form Uses.index_form Uses.range_form
    Uses.further_form d))
    (subst (λ k. StmtStands (Rules.statement_form (found_Stmt d)) (Uses.statement_form (failed_Stmt d)) k (manner_stmt (roll-Stmt d)) (in_stmt (roll-Stmt d)))
    (sym (fold-roll-Stmt Bool Bool Bool Bool Bool Bool Bool Bool Bool
    Trees.expression_form Trees.target_form Trees.statement_form Trees.suffix_form Trees.case_form Trees.field_form Trees.index_form
    Trees.range_form Trees.further_form d))
    (subst (λ k. StmtStands (Rules.statement_form (found_Stmt d)) (Uses.statement_form (failed_Stmt d)) (Trees.statement_form (written_Stmt d)) k (in_stmt
    (roll-Stmt d)))
    (sym (fold-roll-Stmt Mannered Mannered Mannered Mannered Mannered Mannered Mannered Mannered Mannered
    Manner.expression_form Manner.target_form Manner.statement_form Manner.suffix_form Manner.case_form Manner.field_form Manner.index_form
    Manner.range_form Manner.further_form d))
    (subst (λ k. StmtStands (Rules.statement_form (found_Stmt d)) (Uses.statement_form (failed_Stmt d)) (Trees.statement_form (written_Stmt d))
    (Manner.statement_form (manner_Stmt d)) k)
    (sym (numbers_Stmt d)) h))))

abbrev pub first_Suffix : OverSuch Suffix-F → OverTrees Suffix-F
first_Suffix = map-Suffix SuchExp SuchLExp SuchStmt SuchSuffix SuchCase SuchFieldValue SuchIndex SuchRange SuchTarget
    Exp LExp Stmt SuffixTree CaseTree FieldValue Index Range TargetTree
    (λ p. p.0) (λ p. p.0) (λ p. p.0) (λ p. p.0) (λ p. p.0) (λ p. p.0) (λ p. p.0) (λ p. p.0) (λ p. p.0)

abbrev pub in_Suffix : Tables.Known → OverTrees Suffix-F → OverNumbers Suffix-F
in_Suffix known = map-Suffix Exp LExp Stmt SuffixTree CaseTree FieldValue Index Range TargetTree
    (List ℕ) (List ℕ) (List ℕ) (List ℕ) (List ℕ) (List ℕ) (List ℕ) (List ℕ) (List ℕ)
    (λ x. in_exp x known) (λ x. in_lexp x known) (λ x. in_stmt x known) (λ x. in_suffix x known) (λ x. in_case x known) (λ x. in_field x known)
    (λ x. in_index x known) (λ x. in_range x known) (λ x. in_target x known)

abbrev pub manner_Suffix : OverTrees Suffix-F → OverManners Suffix-F
manner_Suffix = map-Suffix Exp LExp Stmt SuffixTree CaseTree FieldValue Index Range TargetTree
    Mannered Mannered Mannered Mannered Mannered Mannered Mannered Mannered Mannered
    manner_exp manner_lexp manner_stmt manner_suffix manner_case manner_field manner_index manner_range manner_target

abbrev pub SuffixForm : OverTrees Suffix-F → Type 0
SuffixForm d =
    SuffixTreeStands (Rules.suffix_form (found_Suffix d)) (Uses.suffix_form (failed_Suffix d)) (Trees.suffix_form (written_Suffix d))
    (Manner.suffix_form (manner_Suffix d)) (λ known. Callees.suffix_form (in_Suffix known d))

pub numbers_Suffix : (d : OverTrees Suffix-F) → in_suffix (roll-Suffix d) ≡ (λ known. Callees.suffix_form (in_Suffix known d))
numbers_Suffix d = λ i known.
    fold-roll-Suffix (List ℕ) (List ℕ) (List ℕ) (List ℕ) (List ℕ) (List ℕ) (List ℕ) (List ℕ) (List ℕ)
    (Callees.expression_form Patterns known) (Callees.target_form Patterns known) (Callees.statement_form known) Callees.suffix_form
    (Callees.case_form known) Callees.field_form Callees.index_form Callees.range_form Callees.further_form d i

pub rolled_Suffix : (d : OverTrees Suffix-F) → SuffixForm d
    → SuffixTreeStands (found_suffix (roll-Suffix d)) (failed_suffix (roll-Suffix d)) (written_suffix (roll-Suffix d)) (manner_suffix (roll-Suffix d))
    (in_suffix (roll-Suffix d))
rolled_Suffix d h =
    subst (λ k. SuffixTreeStands k (failed_suffix (roll-Suffix d)) (written_suffix (roll-Suffix d)) (manner_suffix (roll-Suffix d)) (in_suffix (roll-Suffix d)))
    (sym (fold-roll-Suffix Part TargetPart StatementPart SuffixPart CasePart FieldPart IndexPart RangePart FurtherPart
    Rules.exp_form Rules.target_form Rules.statement_form Rules.suffix_form Rules.case_form Rules.field_form Rules.index_form Rules.range_form
    Rules.further_form d))
    (subst (λ k. SuffixTreeStands (Rules.suffix_form (found_Suffix d)) k (written_suffix (roll-Suffix d)) (manner_suffix (roll-Suffix d)) (in_suffix
    (roll-Suffix d)))
    (sym (fold-roll-Suffix Failures Failures Uses.Statement Failures Failures Uses.Field Failures Failures Failures
    Uses.expression_form Uses.target_form Uses.statement_form Uses.suffix_form Uses.case_form Uses.field_form Uses.index_form Uses.range_form
    Uses.further_form d))
    (subst (λ k. SuffixTreeStands (Rules.suffix_form (found_Suffix d)) (Uses.suffix_form (failed_Suffix d)) k (manner_suffix (roll-Suffix d)) (in_suffix
    (roll-Suffix d)))
    (sym (fold-roll-Suffix Bool Bool Bool Bool Bool Bool Bool Bool Bool
    Trees.expression_form Trees.target_form Trees.statement_form Trees.suffix_form Trees.case_form Trees.field_form Trees.index_form
    Trees.range_form Trees.further_form d))
    (subst (λ k. SuffixTreeStands (Rules.suffix_form (found_Suffix d)) (Uses.suffix_form (failed_Suffix d)) (Trees.suffix_form (written_Suffix d)) k
    (in_suffix (roll-Suffix d)))
    (sym (fold-roll-Suffix Mannered Mannered Mannered Mannered Mannered Mannered Mannered Mannered Mannered
    Manner.expression_form Manner.target_form Manner.statement_form Manner.suffix_form Manner.case_form Manner.field_form Manner.index_form
    Manner.range_form Manner.further_form d))
    (subst (λ k. SuffixTreeStands (Rules.suffix_form (found_Suffix d)) (Uses.suffix_form (failed_Suffix d)) (Trees.suffix_form (written_Suffix d))
    (Manner.suffix_form (manner_Suffix d)) k)
    (sym (numbers_Suffix d)) h))))

abbrev pub first_Case : OverSuch Case-F → OverTrees Case-F
first_Case = map-Case SuchExp SuchLExp SuchStmt SuchSuffix SuchCase SuchFieldValue SuchIndex SuchRange SuchTarget
    Exp LExp Stmt SuffixTree CaseTree FieldValue Index Range TargetTree
    (λ p. p.0) (λ p. p.0) (λ p. p.0) (λ p. p.0) (λ p. p.0) (λ p. p.0) (λ p. p.0) (λ p. p.0) (λ p. p.0)

abbrev pub in_Case : Tables.Known → OverTrees Case-F → OverNumbers Case-F
in_Case known = map-Case Exp LExp Stmt SuffixTree CaseTree FieldValue Index Range TargetTree
    (List ℕ) (List ℕ) (List ℕ) (List ℕ) (List ℕ) (List ℕ) (List ℕ) (List ℕ) (List ℕ)
    (λ x. in_exp x known) (λ x. in_lexp x known) (λ x. in_stmt x known) (λ x. in_suffix x known) (λ x. in_case x known) (λ x. in_field x known)
    (λ x. in_index x known) (λ x. in_range x known) (λ x. in_target x known)

abbrev pub manner_Case : OverTrees Case-F → OverManners Case-F
manner_Case = map-Case Exp LExp Stmt SuffixTree CaseTree FieldValue Index Range TargetTree
    Mannered Mannered Mannered Mannered Mannered Mannered Mannered Mannered Mannered
    manner_exp manner_lexp manner_stmt manner_suffix manner_case manner_field manner_index manner_range manner_target

abbrev pub CaseForm : OverTrees Case-F → Type 0
CaseForm d =
    CaseTreeStands (Rules.case_form (found_Case d)) (Uses.case_form (failed_Case d)) (Trees.case_form (written_Case d))
    (Manner.case_form (manner_Case d)) (λ known. Callees.case_form known (in_Case known d))

pub numbers_Case : (d : OverTrees Case-F) → in_case (roll-Case d) ≡ (λ known. Callees.case_form known (in_Case known d))
numbers_Case d = λ i known.
    fold-roll-Case (List ℕ) (List ℕ) (List ℕ) (List ℕ) (List ℕ) (List ℕ) (List ℕ) (List ℕ) (List ℕ)
    (Callees.expression_form Patterns known) (Callees.target_form Patterns known) (Callees.statement_form known) Callees.suffix_form
    (Callees.case_form known) Callees.field_form Callees.index_form Callees.range_form Callees.further_form d i

pub rolled_Case : (d : OverTrees Case-F) → CaseForm d
    → CaseTreeStands (found_case (roll-Case d)) (failed_case (roll-Case d)) (written_case (roll-Case d)) (manner_case (roll-Case d)) (in_case (roll-Case d))
rolled_Case d h =
    subst (λ k. CaseTreeStands k (failed_case (roll-Case d)) (written_case (roll-Case d)) (manner_case (roll-Case d)) (in_case (roll-Case d)))
    (sym (fold-roll-Case Part TargetPart StatementPart SuffixPart CasePart FieldPart IndexPart RangePart FurtherPart
    Rules.exp_form Rules.target_form Rules.statement_form Rules.suffix_form Rules.case_form Rules.field_form Rules.index_form Rules.range_form
    Rules.further_form d))
    (subst (λ k. CaseTreeStands (Rules.case_form (found_Case d)) k (written_case (roll-Case d)) (manner_case (roll-Case d)) (in_case (roll-Case d)))
    (sym (fold-roll-Case Failures Failures Uses.Statement Failures Failures Uses.Field Failures Failures Failures
    Uses.expression_form Uses.target_form Uses.statement_form Uses.suffix_form Uses.case_form Uses.field_form Uses.index_form Uses.range_form
    Uses.further_form d))
    (subst (λ k. CaseTreeStands (Rules.case_form (found_Case d)) (Uses.case_form (failed_Case d)) k (manner_case (roll-Case d)) (in_case (roll-Case d)))
    (sym (fold-roll-Case Bool Bool Bool Bool Bool Bool Bool Bool Bool
    Trees.expression_form Trees.target_form Trees.statement_form Trees.suffix_form Trees.case_form Trees.field_form Trees.index_form
    Trees.range_form Trees.further_form d))
    (subst (λ k. CaseTreeStands (Rules.case_form (found_Case d)) (Uses.case_form (failed_Case d)) (Trees.case_form (written_Case d)) k (in_case (roll-Case d)))
    (sym (fold-roll-Case Mannered Mannered Mannered Mannered Mannered Mannered Mannered Mannered Mannered
    Manner.expression_form Manner.target_form Manner.statement_form Manner.suffix_form Manner.case_form Manner.field_form Manner.index_form
    Manner.range_form Manner.further_form d))
    (subst (λ k. CaseTreeStands (Rules.case_form (found_Case d)) (Uses.case_form (failed_Case d)) (Trees.case_form (written_Case d)) (Manner.case_form
    (manner_Case d)) k)
    (sym (numbers_Case d)) h))))

abbrev pub first_FieldValue : OverSuch FieldValue-F → OverTrees FieldValue-F
first_FieldValue = map-FieldValue SuchExp SuchLExp SuchStmt SuchSuffix SuchCase SuchFieldValue SuchIndex SuchRange SuchTarget
    Exp LExp Stmt SuffixTree CaseTree FieldValue Index Range TargetTree
    (λ p. p.0) (λ p. p.0) (λ p. p.0) (λ p. p.0) (λ p. p.0) (λ p. p.0) (λ p. p.0) (λ p. p.0) (λ p. p.0)

abbrev pub in_FieldValue : Tables.Known → OverTrees FieldValue-F → OverNumbers FieldValue-F
in_FieldValue known = map-FieldValue Exp LExp Stmt SuffixTree CaseTree FieldValue Index Range TargetTree
    (List ℕ) (List ℕ) (List ℕ) (List ℕ) (List ℕ) (List ℕ) (List ℕ) (List ℕ) (List ℕ)
    (λ x. in_exp x known) (λ x. in_lexp x known) (λ x. in_stmt x known) (λ x. in_suffix x known) (λ x. in_case x known) (λ x. in_field x known)
    (λ x. in_index x known) (λ x. in_range x known) (λ x. in_target x known)

abbrev pub manner_FieldValue : OverTrees FieldValue-F → OverManners FieldValue-F
manner_FieldValue = map-FieldValue Exp LExp Stmt SuffixTree CaseTree FieldValue Index Range TargetTree
    Mannered Mannered Mannered Mannered Mannered Mannered Mannered Mannered Mannered
    manner_exp manner_lexp manner_stmt manner_suffix manner_case manner_field manner_index manner_range manner_target

abbrev pub FieldValueForm : OverTrees FieldValue-F → Type 0
FieldValueForm d =
    FieldStands (Rules.field_form (found_FieldValue d)) (Uses.field_form (failed_FieldValue d)) (Trees.field_form (written_FieldValue d))
    (Manner.field_form (manner_FieldValue d)) (λ known. Callees.field_form (in_FieldValue known d))

pub numbers_FieldValue : (d : OverTrees FieldValue-F) → in_field (roll-FieldValue d) ≡ (λ known. Callees.field_form (in_FieldValue known d))
numbers_FieldValue d = λ i known.
    fold-roll-FieldValue (List ℕ) (List ℕ) (List ℕ) (List ℕ) (List ℕ) (List ℕ) (List ℕ) (List ℕ) (List ℕ)
    (Callees.expression_form Patterns known) (Callees.target_form Patterns known) (Callees.statement_form known) Callees.suffix_form
    (Callees.case_form known) Callees.field_form Callees.index_form Callees.range_form Callees.further_form d i

pub rolled_FieldValue : (d : OverTrees FieldValue-F) → FieldValueForm d
    → FieldStands (found_field (roll-FieldValue d)) (failed_field (roll-FieldValue d)) (written_field (roll-FieldValue d)) (manner_field (roll-FieldValue d))
    (in_field (roll-FieldValue d))
rolled_FieldValue d h =
    subst (λ k. FieldStands k (failed_field (roll-FieldValue d)) (written_field (roll-FieldValue d)) (manner_field (roll-FieldValue d)) (in_field
    (roll-FieldValue d)))
    (sym (fold-roll-FieldValue Part TargetPart StatementPart SuffixPart CasePart FieldPart IndexPart RangePart FurtherPart
    Rules.exp_form Rules.target_form Rules.statement_form Rules.suffix_form Rules.case_form Rules.field_form Rules.index_form Rules.range_form
    Rules.further_form d))
    (subst (λ k. FieldStands (Rules.field_form (found_FieldValue d)) k (written_field (roll-FieldValue d)) (manner_field (roll-FieldValue d)) (in_field
    (roll-FieldValue d)))
    (sym (fold-roll-FieldValue Failures Failures Uses.Statement Failures Failures Uses.Field Failures Failures Failures
    Uses.expression_form Uses.target_form Uses.statement_form Uses.suffix_form Uses.case_form Uses.field_form Uses.index_form Uses.range_form
    Uses.further_form d))
    (subst (λ k. FieldStands (Rules.field_form (found_FieldValue d)) (Uses.field_form (failed_FieldValue d)) k (manner_field (roll-FieldValue d)) (in_field
    (roll-FieldValue d)))
    (sym (fold-roll-FieldValue Bool Bool Bool Bool Bool Bool Bool Bool Bool
    Trees.expression_form Trees.target_form Trees.statement_form Trees.suffix_form Trees.case_form Trees.field_form Trees.index_form
    Trees.range_form Trees.further_form d))
    (subst (λ k. FieldStands (Rules.field_form (found_FieldValue d)) (Uses.field_form (failed_FieldValue d)) (Trees.field_form (written_FieldValue d)) k
    (in_field (roll-FieldValue d)))
    (sym (fold-roll-FieldValue Mannered Mannered Mannered Mannered Mannered Mannered Mannered Mannered Mannered
    Manner.expression_form Manner.target_form Manner.statement_form Manner.suffix_form Manner.case_form Manner.field_form Manner.index_form
    Manner.range_form Manner.further_form d))
    (subst (λ k. FieldStands (Rules.field_form (found_FieldValue d)) (Uses.field_form (failed_FieldValue d)) (Trees.field_form (written_FieldValue d))
    (Manner.field_form (manner_FieldValue d)) k)
    (sym (numbers_FieldValue d)) h))))

abbrev pub first_Index : OverSuch Index-F → OverTrees Index-F
first_Index = map-Index SuchExp SuchLExp SuchStmt SuchSuffix SuchCase SuchFieldValue SuchIndex SuchRange SuchTarget
    Exp LExp Stmt SuffixTree CaseTree FieldValue Index Range TargetTree
    (λ p. p.0) (λ p. p.0) (λ p. p.0) (λ p. p.0) (λ p. p.0) (λ p. p.0) (λ p. p.0) (λ p. p.0) (λ p. p.0)

abbrev pub in_Index : Tables.Known → OverTrees Index-F → OverNumbers Index-F
in_Index known = map-Index Exp LExp Stmt SuffixTree CaseTree FieldValue Index Range TargetTree
    (List ℕ) (List ℕ) (List ℕ) (List ℕ) (List ℕ) (List ℕ) (List ℕ) (List ℕ) (List ℕ)
    (λ x. in_exp x known) (λ x. in_lexp x known) (λ x. in_stmt x known) (λ x. in_suffix x known) (λ x. in_case x known) (λ x. in_field x known)
    (λ x. in_index x known) (λ x. in_range x known) (λ x. in_target x known)

abbrev pub manner_Index : OverTrees Index-F → OverManners Index-F
manner_Index = map-Index Exp LExp Stmt SuffixTree CaseTree FieldValue Index Range TargetTree
    Mannered Mannered Mannered Mannered Mannered Mannered Mannered Mannered Mannered
    manner_exp manner_lexp manner_stmt manner_suffix manner_case manner_field manner_index manner_range manner_target

abbrev pub IndexForm : OverTrees Index-F → Type 0
IndexForm d =
    IndexTreeStands (Rules.index_form (found_Index d)) (Uses.index_form (failed_Index d)) (Trees.index_form (written_Index d))
    (Manner.index_form (manner_Index d)) (λ known. Callees.index_form (in_Index known d))

pub numbers_Index : (d : OverTrees Index-F) → in_index (roll-Index d) ≡ (λ known. Callees.index_form (in_Index known d))
numbers_Index d = λ i known.
    fold-roll-Index (List ℕ) (List ℕ) (List ℕ) (List ℕ) (List ℕ) (List ℕ) (List ℕ) (List ℕ) (List ℕ)
    (Callees.expression_form Patterns known) (Callees.target_form Patterns known) (Callees.statement_form known) Callees.suffix_form
    (Callees.case_form known) Callees.field_form Callees.index_form Callees.range_form Callees.further_form d i

pub rolled_Index : (d : OverTrees Index-F) → IndexForm d
    → IndexTreeStands (found_index (roll-Index d)) (failed_index (roll-Index d)) (written_index (roll-Index d)) (manner_index (roll-Index d)) (in_index
    (roll-Index d))
rolled_Index d h =
    subst (λ k. IndexTreeStands k (failed_index (roll-Index d)) (written_index (roll-Index d)) (manner_index (roll-Index d)) (in_index (roll-Index d)))
    (sym (fold-roll-Index Part TargetPart StatementPart SuffixPart CasePart FieldPart IndexPart RangePart FurtherPart
    Rules.exp_form Rules.target_form Rules.statement_form Rules.suffix_form Rules.case_form Rules.field_form Rules.index_form Rules.range_form
    Rules.further_form d))
    (subst (λ k. IndexTreeStands (Rules.index_form (found_Index d)) k (written_index (roll-Index d)) (manner_index (roll-Index d)) (in_index (roll-Index d)))
    (sym (fold-roll-Index Failures Failures Uses.Statement Failures Failures Uses.Field Failures Failures Failures
    Uses.expression_form Uses.target_form Uses.statement_form Uses.suffix_form Uses.case_form Uses.field_form Uses.index_form Uses.range_form
    Uses.further_form d))
    (subst (λ k. IndexTreeStands (Rules.index_form (found_Index d)) (Uses.index_form (failed_Index d)) k (manner_index (roll-Index d)) (in_index
    (roll-Index d)))
    (sym (fold-roll-Index Bool Bool Bool Bool Bool Bool Bool Bool Bool
    Trees.expression_form Trees.target_form Trees.statement_form Trees.suffix_form Trees.case_form Trees.field_form Trees.index_form
    Trees.range_form Trees.further_form d))
    (subst (λ k. IndexTreeStands (Rules.index_form (found_Index d)) (Uses.index_form (failed_Index d)) (Trees.index_form (written_Index d)) k (in_index
    (roll-Index d)))
    (sym (fold-roll-Index Mannered Mannered Mannered Mannered Mannered Mannered Mannered Mannered Mannered
    Manner.expression_form Manner.target_form Manner.statement_form Manner.suffix_form Manner.case_form Manner.field_form Manner.index_form
    Manner.range_form Manner.further_form d))
    (subst (λ k. IndexTreeStands (Rules.index_form (found_Index d)) (Uses.index_form (failed_Index d)) (Trees.index_form (written_Index d)) (Manner.index_form
    (manner_Index d)) k)
    (sym (numbers_Index d)) h))))

abbrev pub first_Range : OverSuch Range-F → OverTrees Range-F
first_Range = map-Range SuchExp SuchLExp SuchStmt SuchSuffix SuchCase SuchFieldValue SuchIndex SuchRange SuchTarget
    Exp LExp Stmt SuffixTree CaseTree FieldValue Index Range TargetTree
    (λ p. p.0) (λ p. p.0) (λ p. p.0) (λ p. p.0) (λ p. p.0) (λ p. p.0) (λ p. p.0) (λ p. p.0) (λ p. p.0)

abbrev pub in_Range : Tables.Known → OverTrees Range-F → OverNumbers Range-F
in_Range known = map-Range Exp LExp Stmt SuffixTree CaseTree FieldValue Index Range TargetTree
    (List ℕ) (List ℕ) (List ℕ) (List ℕ) (List ℕ) (List ℕ) (List ℕ) (List ℕ) (List ℕ)
    (λ x. in_exp x known) (λ x. in_lexp x known) (λ x. in_stmt x known) (λ x. in_suffix x known) (λ x. in_case x known) (λ x. in_field x known)
    (λ x. in_index x known) (λ x. in_range x known) (λ x. in_target x known)

abbrev pub manner_Range : OverTrees Range-F → OverManners Range-F
manner_Range = map-Range Exp LExp Stmt SuffixTree CaseTree FieldValue Index Range TargetTree
    Mannered Mannered Mannered Mannered Mannered Mannered Mannered Mannered Mannered
    manner_exp manner_lexp manner_stmt manner_suffix manner_case manner_field manner_index manner_range manner_target

abbrev pub RangeForm : OverTrees Range-F → Type 0
RangeForm d =
    RangeTreeStands (Rules.range_form (found_Range d)) (Uses.range_form (failed_Range d)) (Trees.range_form (written_Range d))
    (Manner.range_form (manner_Range d)) (λ known. Callees.range_form (in_Range known d))

pub numbers_Range : (d : OverTrees Range-F) → in_range (roll-Range d) ≡ (λ known. Callees.range_form (in_Range known d))
numbers_Range d = λ i known.
    fold-roll-Range (List ℕ) (List ℕ) (List ℕ) (List ℕ) (List ℕ) (List ℕ) (List ℕ) (List ℕ) (List ℕ)
    (Callees.expression_form Patterns known) (Callees.target_form Patterns known) (Callees.statement_form known) Callees.suffix_form
    (Callees.case_form known) Callees.field_form Callees.index_form Callees.range_form Callees.further_form d i

pub rolled_Range : (d : OverTrees Range-F) → RangeForm d
    → RangeTreeStands (found_range (roll-Range d)) (failed_range (roll-Range d)) (written_range (roll-Range d)) (manner_range (roll-Range d)) (in_range
    (roll-Range d))
rolled_Range d h =
    subst (λ k. RangeTreeStands k (failed_range (roll-Range d)) (written_range (roll-Range d)) (manner_range (roll-Range d)) (in_range (roll-Range d)))
    (sym (fold-roll-Range Part TargetPart StatementPart SuffixPart CasePart FieldPart IndexPart RangePart FurtherPart
    Rules.exp_form Rules.target_form Rules.statement_form Rules.suffix_form Rules.case_form Rules.field_form Rules.index_form Rules.range_form
    Rules.further_form d))
    (subst (λ k. RangeTreeStands (Rules.range_form (found_Range d)) k (written_range (roll-Range d)) (manner_range (roll-Range d)) (in_range (roll-Range d)))
    (sym (fold-roll-Range Failures Failures Uses.Statement Failures Failures Uses.Field Failures Failures Failures
    Uses.expression_form Uses.target_form Uses.statement_form Uses.suffix_form Uses.case_form Uses.field_form Uses.index_form Uses.range_form
    Uses.further_form d))
    (subst (λ k. RangeTreeStands (Rules.range_form (found_Range d)) (Uses.range_form (failed_Range d)) k (manner_range (roll-Range d)) (in_range
    (roll-Range d)))
    (sym (fold-roll-Range Bool Bool Bool Bool Bool Bool Bool Bool Bool
    Trees.expression_form Trees.target_form Trees.statement_form Trees.suffix_form Trees.case_form Trees.field_form Trees.index_form
    Trees.range_form Trees.further_form d))
    (subst (λ k. RangeTreeStands (Rules.range_form (found_Range d)) (Uses.range_form (failed_Range d)) (Trees.range_form (written_Range d)) k (in_range
    (roll-Range d)))
    (sym (fold-roll-Range Mannered Mannered Mannered Mannered Mannered Mannered Mannered Mannered Mannered
    Manner.expression_form Manner.target_form Manner.statement_form Manner.suffix_form Manner.case_form Manner.field_form Manner.index_form
    Manner.range_form Manner.further_form d))
    (subst (λ k. RangeTreeStands (Rules.range_form (found_Range d)) (Uses.range_form (failed_Range d)) (Trees.range_form (written_Range d)) (Manner.range_form
    (manner_Range d)) k)
    (sym (numbers_Range d)) h))))

abbrev pub first_Target : OverSuch Target-F → OverTrees Target-F
first_Target = map-Target SuchExp SuchLExp SuchStmt SuchSuffix SuchCase SuchFieldValue SuchIndex SuchRange SuchTarget
    Exp LExp Stmt SuffixTree CaseTree FieldValue Index Range TargetTree
    (λ p. p.0) (λ p. p.0) (λ p. p.0) (λ p. p.0) (λ p. p.0) (λ p. p.0) (λ p. p.0) (λ p. p.0) (λ p. p.0)

abbrev pub in_Target : Tables.Known → OverTrees Target-F → OverNumbers Target-F
in_Target known = map-Target Exp LExp Stmt SuffixTree CaseTree FieldValue Index Range TargetTree
    (List ℕ) (List ℕ) (List ℕ) (List ℕ) (List ℕ) (List ℕ) (List ℕ) (List ℕ) (List ℕ)
    (λ x. in_exp x known) (λ x. in_lexp x known) (λ x. in_stmt x known) (λ x. in_suffix x known) (λ x. in_case x known) (λ x. in_field x known)
    (λ x. in_index x known) (λ x. in_range x known) (λ x. in_target x known)

abbrev pub manner_Target : OverTrees Target-F → OverManners Target-F
manner_Target = map-Target Exp LExp Stmt SuffixTree CaseTree FieldValue Index Range TargetTree
    Mannered Mannered Mannered Mannered Mannered Mannered Mannered Mannered Mannered
    manner_exp manner_lexp manner_stmt manner_suffix manner_case manner_field manner_index manner_range manner_target

abbrev pub TargetForm : OverTrees Target-F → Type 0
TargetForm d =
    FurtherTreeStands (Rules.further_form (found_Target d)) (Uses.further_form (failed_Target d)) (Trees.further_form (written_Target d))
    (Manner.further_form (manner_Target d)) (λ known. Callees.further_form (in_Target known d))

pub numbers_Target : (d : OverTrees Target-F) → in_target (roll-Target d) ≡ (λ known. Callees.further_form (in_Target known d))
numbers_Target d = λ i known.
    fold-roll-Target (List ℕ) (List ℕ) (List ℕ) (List ℕ) (List ℕ) (List ℕ) (List ℕ) (List ℕ) (List ℕ)
    (Callees.expression_form Patterns known) (Callees.target_form Patterns known) (Callees.statement_form known) Callees.suffix_form
    (Callees.case_form known) Callees.field_form Callees.index_form Callees.range_form Callees.further_form d i

pub rolled_Target : (d : OverTrees Target-F) → TargetForm d
    → FurtherTreeStands (found_target (roll-Target d)) (failed_target (roll-Target d)) (written_target (roll-Target d)) (manner_target (roll-Target d))
    (in_target (roll-Target d))
rolled_Target d h =
    subst (λ k. FurtherTreeStands k (failed_target (roll-Target d)) (written_target (roll-Target d)) (manner_target (roll-Target d)) (in_target
    (roll-Target d)))
    (sym (fold-roll-Target Part TargetPart StatementPart SuffixPart CasePart FieldPart IndexPart RangePart FurtherPart
    Rules.exp_form Rules.target_form Rules.statement_form Rules.suffix_form Rules.case_form Rules.field_form Rules.index_form Rules.range_form
    Rules.further_form d))
    (subst (λ k. FurtherTreeStands (Rules.further_form (found_Target d)) k (written_target (roll-Target d)) (manner_target (roll-Target d)) (in_target
    (roll-Target d)))
    (sym (fold-roll-Target Failures Failures Uses.Statement Failures Failures Uses.Field Failures Failures Failures
    Uses.expression_form Uses.target_form Uses.statement_form Uses.suffix_form Uses.case_form Uses.field_form Uses.index_form Uses.range_form
    Uses.further_form d))
    (subst (λ k. FurtherTreeStands (Rules.further_form (found_Target d)) (Uses.further_form (failed_Target d)) k (manner_target (roll-Target d)) (in_target
    (roll-Target d)))
    (sym (fold-roll-Target Bool Bool Bool Bool Bool Bool Bool Bool Bool
    Trees.expression_form Trees.target_form Trees.statement_form Trees.suffix_form Trees.case_form Trees.field_form Trees.index_form
    Trees.range_form Trees.further_form d))
    (subst (λ k. FurtherTreeStands (Rules.further_form (found_Target d)) (Uses.further_form (failed_Target d)) (Trees.further_form (written_Target d)) k
    (in_target (roll-Target d)))
    (sym (fold-roll-Target Mannered Mannered Mannered Mannered Mannered Mannered Mannered Mannered Mannered
    Manner.expression_form Manner.target_form Manner.statement_form Manner.suffix_form Manner.case_form Manner.field_form Manner.index_form
    Manner.range_form Manner.further_form d))
    (subst (λ k. FurtherTreeStands (Rules.further_form (found_Target d)) (Uses.further_form (failed_Target d)) (Trees.further_form (written_Target d))
    (Manner.further_form (manner_Target d)) k)
    (sym (numbers_Target d)) h))))
