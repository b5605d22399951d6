-- What is found of a plain expression decides: by induction on the expression.
use Rattle.std.proofs.Common.{◌≡◌, true, ◌&&◌, List, [], ◌∷◌, map, sym, subst, Option, Some, None}
use Rattle.std.proofs.lemmas.Bool.{and_parts}
use Rattle.sail_syntax.specs.declared.words.Choosing.TheVariants.{Match, Try}
use Rattle.sail_syntax.specs.declared.expressions.Exp.{Exp, Exp-F, fold-Exp, roll-Exp}
use Rattle.sail_syntax.specs.declared.expressions.Exp.TheOpen as E
use Rattle.sail_syntax.specs.declared.expressions.Exp.TheOpen.{Suffix-F, Case-F, FieldValue-F, Index-F}
use Rattle.sail_syntax.specs.declared.expressions.Exp.TheFolds.{fold-roll-Case, fold-roll-Exp, fold-roll-FieldValue, fold-roll-Index, fold-roll-Suffix}
use Rattle.sail_syntax.specs.declared.expressions.Exp.TheFolds.{fold-Case, fold-FieldValue, fold-Index, fold-LExp, fold-Range, fold-Stmt, fold-Suffix}
use Rattle.sail_syntax.specs.declared.expressions.Exp.TheFolds.{fold-Target, ind-Exp, map-Case, map-Exp, map-FieldValue, map-Index, map-Suffix}
use Rattle.sail_syntax.specs.declared.expressions.LExp.{LExp}
use Rattle.sail_syntax.specs.declared.expressions.Stmt.{Stmt}
use Rattle.sail_syntax.specs.declared.expressions.Suffix.{Suffix as SuffixTree, roll-Suffix}
use Rattle.sail_syntax.specs.declared.expressions.Case.{Case as CaseTree, roll-Case}
use Rattle.sail_syntax.specs.declared.expressions.FieldValue.{FieldValue, roll-FieldValue}
use Rattle.sail_syntax.specs.declared.expressions.Index.{Index, roll-Index}
use Rattle.sail_syntax.specs.declared.expressions.Range.{Range}
use Rattle.sail_syntax.specs.declared.expressions.Target.{Target as TargetTree}
use Rattle.shape_joins.proofs.Order.{no}
use Rattle.shape_rules.specs.Expressions as Rules
use Rattle.shape_rules.specs.Statements.{CasePart, FurtherPart, RangePart, StatementPart}
use Rattle.shape_rules.specs.Targets.{IndexPart, Part, SuffixPart, TargetPart, elaborations}
use Rattle.shape_rules.specs.Values.{FieldPart}
use Rattle.shape_meanings.proofs.Folds.{OverTrees}
use Rattle.shape_meanings.proofs.Folds.{found_Case, found_Exp, found_FieldValue, found_Index, found_Suffix}
use Rattle.shape_meanings.proofs.Folds.{found_case, found_exp, found_field, found_index, found_suffix}
use Rattle.shape_stands.specs.Manner as Manner
use Rattle.shape_stands.specs.Manner.{Manner as Mannered, every, fields_form}
use Rattle.plain_cores.specs.Ends.{IsFine}
use Rattle.plain_cores.specs.Laws.{PlainCoresDecide}
use Rattle.plain_cores.proofs.Forms.{CaseFine, CasesFine, FieldsFine, IndexFine, PartsFine, SuffixFine, SuffixesFine, constant_fine, els_fine}
use Rattle.plain_cores.proofs.Forms.{group_fine, if_fine, index_fine, infix_fine, let_fine, match_fine, name_fine, named_fine, of_type_fine, part_fine}
use Rattle.plain_cores.proofs.Forms.{prefix_fine, structs_fine, typed_fine, update_fine, var_fine, with_fine}

-- ---- what the grammar has of each tree

abbrev manner_exp : Exp → Mannered
manner_exp = fold-Exp Mannered Mannered Mannered Mannered Mannered Mannered Mannered Mannered Mannered
    Manner.expression_form Manner.target_form Manner.statement_form Manner.suffix_form Manner.case_form Manner.field_form Manner.index_form
    Manner.range_form Manner.further_form

abbrev manner_lexp : LExp → Mannered
manner_lexp = fold-LExp Mannered Mannered Mannered Mannered Mannered Mannered Mannered Mannered Mannered
    Manner.expression_form Manner.target_form Manner.statement_form Manner.suffix_form Manner.case_form Manner.field_form Manner.index_form
    Manner.range_form Manner.further_form

abbrev manner_stmt : Stmt → Mannered
manner_stmt = fold-Stmt Mannered Mannered Mannered Mannered Mannered Mannered Mannered Mannered Mannered
    Manner.expression_form Manner.target_form Manner.statement_form Manner.suffix_form Manner.case_form Manner.field_form Manner.index_form
    Manner.range_form Manner.further_form

abbrev manner_suffix : SuffixTree → Mannered
manner_suffix = fold-Suffix Mannered Mannered Mannered Mannered Mannered Mannered Mannered Mannered Mannered
    Manner.expression_form Manner.target_form Manner.statement_form Manner.suffix_form Manner.case_form Manner.field_form Manner.index_form
    Manner.range_form Manner.further_form

abbrev manner_case : CaseTree → Mannered
manner_case = fold-Case Mannered Mannered Mannered Mannered Mannered Mannered Mannered Mannered Mannered
    Manner.expression_form Manner.target_form Manner.statement_form Manner.suffix_form Manner.case_form Manner.field_form Manner.index_form
    Manner.range_form Manner.further_form

abbrev manner_field : FieldValue → Mannered
manner_field = fold-FieldValue Mannered Mannered Mannered Mannered Mannered Mannered Mannered Mannered Mannered
    Manner.expression_form Manner.target_form Manner.statement_form Manner.suffix_form Manner.case_form Manner.field_form Manner.index_form
    Manner.range_form Manner.further_form

abbrev manner_index : Index → Mannered
manner_index = fold-Index Mannered Mannered Mannered Mannered Mannered Mannered Mannered Mannered Mannered
    Manner.expression_form Manner.target_form Manner.statement_form Manner.suffix_form Manner.case_form Manner.field_form Manner.index_form
    Manner.range_form Manner.further_form

abbrev manner_range : Range → Mannered
manner_range = fold-Range Mannered Mannered Mannered Mannered Mannered Mannered Mannered Mannered Mannered
    Manner.expression_form Manner.target_form Manner.statement_form Manner.suffix_form Manner.case_form Manner.field_form Manner.index_form
    Manner.range_form Manner.further_form

abbrev manner_target : TargetTree → Mannered
manner_target = fold-Target Mannered Mannered Mannered Mannered Mannered Mannered Mannered Mannered Mannered
    Manner.expression_form Manner.target_form Manner.statement_form Manner.suffix_form Manner.case_form Manner.field_form Manner.index_form
    Manner.range_form Manner.further_form

-- ---- what is said of each tree

abbrev IfPlain : Mannered → Type 0 → Type 0
IfPlain m said = m.is_plain ≡ true → said

abbrev ExpFine : Part → Mannered → Type 0
ExpFine a m = IfPlain m (IsFine a.elaborate)

abbrev SuffixTreeFine : SuffixPart → Mannered → Type 0
SuffixTreeFine x m = IfPlain m (SuffixFine x)

abbrev CaseTreeFine : CasePart → Mannered → Type 0
CaseTreeFine c m = IfPlain m (CaseFine c)

abbrev FieldTreeFine : FieldPart → Mannered → Type 0
FieldTreeFine f m = IfPlain m (IsFine f.value.elaborate)

abbrev IndexTreeFine : IndexPart → Mannered → Type 0
IndexTreeFine i m = IfPlain m (IndexFine i)

abbrev OfExp : Exp → Type 0
OfExp x = ExpFine (found_exp x) (manner_exp x)

abbrev SuchExp : Type 0
SuchExp = (x : Exp) × OfExp x

abbrev OfLExp : LExp → Type 0
OfLExp x = Unit {0}

abbrev SuchLExp : Type 0
SuchLExp = (x : LExp) × OfLExp x

abbrev OfStmt : Stmt → Type 0
OfStmt x = Unit {0}

abbrev SuchStmt : Type 0
SuchStmt = (x : Stmt) × OfStmt x

abbrev OfSuffix : SuffixTree → Type 0
OfSuffix x = SuffixTreeFine (found_suffix x) (manner_suffix x)

abbrev SuchSuffix : Type 0
SuchSuffix = (x : SuffixTree) × OfSuffix x

abbrev OfCase : CaseTree → Type 0
OfCase x = CaseTreeFine (found_case x) (manner_case x)

abbrev SuchCase : Type 0
SuchCase = (x : CaseTree) × OfCase x

abbrev OfFieldValue : FieldValue → Type 0
OfFieldValue x = FieldTreeFine (found_field x) (manner_field x)

abbrev SuchFieldValue : Type 0
SuchFieldValue = (x : FieldValue) × OfFieldValue x

abbrev OfIndex : Index → Type 0
OfIndex x = IndexTreeFine (found_index x) (manner_index x)

abbrev SuchIndex : Type 0
SuchIndex = (x : Index) × OfIndex x

abbrev OfRange : Range → Type 0
OfRange x = Unit {0}

abbrev SuchRange : Type 0
SuchRange = (x : Range) × OfRange x

abbrev OfTarget : TargetTree → Type 0
OfTarget x = Unit {0}

abbrev SuchTarget : Type 0
SuchTarget = (x : TargetTree) × OfTarget x

abbrev OverSuch : (Type 0 → Type 0 → Type 0 → Type 0 → Type 0 → Type 0 → Type 0 → Type 0 → Type 0 → Type 0) → Type 0
OverSuch F = F SuchExp SuchLExp SuchStmt SuchSuffix SuchCase SuchFieldValue SuchIndex SuchRange SuchTarget

abbrev OverManners : (Type 0 → Type 0 → Type 0 → Type 0 → Type 0 → Type 0 → Type 0 → Type 0 → Type 0 → Type 0) → Type 0
OverManners F = F Mannered Mannered Mannered Mannered Mannered Mannered Mannered Mannered Mannered

abbrev first_Exp : OverSuch Exp-F → OverTrees Exp-F
first_Exp = map-Exp SuchExp SuchLExp SuchStmt SuchSuffix SuchCase SuchFieldValue SuchIndex SuchRange SuchTarget
    Exp LExp Stmt SuffixTree CaseTree FieldValue Index Range TargetTree
    (λ p. p.0) (λ p. p.0) (λ p. p.0) (λ p. p.0) (λ p. p.0) (λ p. p.0) (λ p. p.0) (λ p. p.0) (λ p. p.0)

abbrev manner_Exp : OverTrees Exp-F → OverManners Exp-F
manner_Exp = map-Exp Exp LExp Stmt SuffixTree CaseTree FieldValue Index Range TargetTree
    Mannered Mannered Mannered Mannered Mannered Mannered Mannered Mannered Mannered
    manner_exp manner_lexp manner_stmt manner_suffix manner_case manner_field manner_index manner_range manner_target

rolled_Exp : (d : OverTrees Exp-F) → ExpFine (Rules.exp_form (found_Exp d)) (Manner.expression_form (manner_Exp d)) → OfExp (roll-Exp d)
rolled_Exp d h =
    subst (λ k. ExpFine k (manner_exp (roll-Exp d)))
    (sym (fold-roll-Exp Part TargetPart StatementPart SuffixPart CasePart FieldPart IndexPart RangePart FurtherPart
    Rules.exp_form Rules.target_form Rules.statement_form Rules.suffix_form Rules.case_form Rules.field_form Rules.index_form Rules.range_form
    Rules.further_form d))
    (subst (λ k. ExpFine (Rules.exp_form (found_Exp d)) k)
    (sym (fold-roll-Exp Mannered Mannered Mannered Mannered Mannered Mannered Mannered Mannered Mannered
    Manner.expression_form Manner.target_form Manner.statement_form Manner.suffix_form Manner.case_form Manner.field_form Manner.index_form
    Manner.range_form Manner.further_form d)) h)

abbrev first_Suffix : OverSuch Suffix-F → OverTrees Suffix-F
first_Suffix = map-Suffix SuchExp SuchLExp SuchStmt SuchSuffix SuchCase SuchFieldValue SuchIndex SuchRange SuchTarget
    Exp LExp Stmt SuffixTree CaseTree FieldValue Index Range TargetTree
    (λ p. p.0) (λ p. p.0) (λ p. p.0) (λ p. p.0) (λ p. p.0) (λ p. p.0) (λ p. p.0) (λ p. p.0) (λ p. p.0)

abbrev manner_Suffix : OverTrees Suffix-F → OverManners Suffix-F
manner_Suffix = map-Suffix Exp LExp Stmt SuffixTree CaseTree FieldValue Index Range TargetTree
    Mannered Mannered Mannered Mannered Mannered Mannered Mannered Mannered Mannered
    manner_exp manner_lexp manner_stmt manner_suffix manner_case manner_field manner_index manner_range manner_target

rolled_Suffix : (d : OverTrees Suffix-F) → SuffixTreeFine (Rules.suffix_form (found_Suffix d)) (Manner.suffix_form (manner_Suffix d)) → OfSuffix (roll-Suffix d)
rolled_Suffix d h =
    subst (λ k. SuffixTreeFine k (manner_suffix (roll-Suffix d)))
    (sym (fold-roll-Suffix Part TargetPart StatementPart SuffixPart CasePart FieldPart IndexPart RangePart FurtherPart
    Rules.exp_form Rules.target_form Rules.statement_form Rules.suffix_form Rules.case_form Rules.field_form Rules.index_form Rules.range_form
    Rules.further_form d))
    (subst (λ k. SuffixTreeFine (Rules.suffix_form (found_Suffix d)) k)
    (sym (fold-roll-Suffix Mannered Mannered Mannered Mannered Mannered Mannered Mannered Mannered Mannered
    Manner.expression_form Manner.target_form Manner.statement_form Manner.suffix_form Manner.case_form Manner.field_form Manner.index_form
    Manner.range_form Manner.further_form d)) h)

abbrev first_Case : OverSuch Case-F → OverTrees Case-F
first_Case = map-Case SuchExp SuchLExp SuchStmt SuchSuffix SuchCase SuchFieldValue SuchIndex SuchRange SuchTarget
    Exp LExp Stmt SuffixTree CaseTree FieldValue Index Range TargetTree
    (λ p. p.0) (λ p. p.0) (λ p. p.0) (λ p. p.0) (λ p. p.0) (λ p. p.0) (λ p. p.0) (λ p. p.0) (λ p. p.0)

abbrev manner_Case : OverTrees Case-F → OverManners Case-F
manner_Case = map-Case Exp LExp Stmt SuffixTree CaseTree FieldValue Index Range TargetTree
    Mannered Mannered Mannered Mannered Mannered Mannered Mannered Mannered Mannered
    manner_exp manner_lexp manner_stmt manner_suffix manner_case manner_field manner_index manner_range manner_target

rolled_Case : (d : OverTrees Case-F) → CaseTreeFine (Rules.case_form (found_Case d)) (Manner.case_form (manner_Case d)) → OfCase (roll-Case d)
rolled_Case d h =
    subst (λ k. CaseTreeFine k (manner_case (roll-Case d)))
    (sym (fold-roll-Case Part TargetPart StatementPart SuffixPart CasePart FieldPart IndexPart RangePart FurtherPart
    Rules.exp_form Rules.target_form Rules.statement_form Rules.suffix_form Rules.case_form Rules.field_form Rules.index_form Rules.range_form
    Rules.further_form d))
    (subst (λ k. CaseTreeFine (Rules.case_form (found_Case d)) k)
    (sym (fold-roll-Case Mannered Mannered Mannered Mannered Mannered Mannered Mannered Mannered Mannered
    Manner.expression_form Manner.target_form Manner.statement_form Manner.suffix_form Manner.case_form Manner.field_form Manner.index_form
    Manner.range_form Manner.further_form d)) h)

abbrev first_FieldValue : OverSuch FieldValue-F → OverTrees FieldValue-F
first_FieldValue = map-FieldValue SuchExp SuchLExp SuchStmt SuchSuffix SuchCase SuchFieldValue SuchIndex SuchRange SuchTarget
    Exp LExp Stmt SuffixTree CaseTree FieldValue Index Range TargetTree
    (λ p. p.0) (λ p. p.0) (λ p. p.0) (λ p. p.0) (λ p. p.0) (λ p. p.0) (λ p. p.0) (λ p. p.0) (λ p. p.0)

abbrev manner_FieldValue : OverTrees FieldValue-F → OverManners FieldValue-F
manner_FieldValue = map-FieldValue Exp LExp Stmt SuffixTree CaseTree FieldValue Index Range TargetTree
    Mannered Mannered Mannered Mannered Mannered Mannered Mannered Mannered Mannered
    manner_exp manner_lexp manner_stmt manner_suffix manner_case manner_field manner_index manner_range manner_target

rolled_FieldValue : (d : OverTrees FieldValue-F) → FieldTreeFine (Rules.field_form (found_FieldValue d)) (Manner.field_form (manner_FieldValue d))
    → OfFieldValue (roll-FieldValue d)
rolled_FieldValue d h =
    subst (λ k. FieldTreeFine k (manner_field (roll-FieldValue d)))
    (sym (fold-roll-FieldValue Part TargetPart StatementPart SuffixPart CasePart FieldPart IndexPart RangePart FurtherPart
    Rules.exp_form Rules.target_form Rules.statement_form Rules.suffix_form Rules.case_form Rules.field_form Rules.index_form Rules.range_form
    Rules.further_form d))
    (subst (λ k. FieldTreeFine (Rules.field_form (found_FieldValue d)) k)
    (sym (fold-roll-FieldValue Mannered Mannered Mannered Mannered Mannered Mannered Mannered Mannered Mannered
    Manner.expression_form Manner.target_form Manner.statement_form Manner.suffix_form Manner.case_form Manner.field_form Manner.index_form
    Manner.range_form Manner.further_form d)) h)

abbrev first_Index : OverSuch Index-F → OverTrees Index-F
first_Index = map-Index SuchExp SuchLExp SuchStmt SuchSuffix SuchCase SuchFieldValue SuchIndex SuchRange SuchTarget
    Exp LExp Stmt SuffixTree CaseTree FieldValue Index Range TargetTree
    (λ p. p.0) (λ p. p.0) (λ p. p.0) (λ p. p.0) (λ p. p.0) (λ p. p.0) (λ p. p.0) (λ p. p.0) (λ p. p.0)

abbrev manner_Index : OverTrees Index-F → OverManners Index-F
manner_Index = map-Index Exp LExp Stmt SuffixTree CaseTree FieldValue Index Range TargetTree
    Mannered Mannered Mannered Mannered Mannered Mannered Mannered Mannered Mannered
    manner_exp manner_lexp manner_stmt manner_suffix manner_case manner_field manner_index manner_range manner_target

rolled_Index : (d : OverTrees Index-F) → IndexTreeFine (Rules.index_form (found_Index d)) (Manner.index_form (manner_Index d)) → OfIndex (roll-Index d)
rolled_Index d h =
    subst (λ k. IndexTreeFine k (manner_index (roll-Index d)))
    (sym (fold-roll-Index Part TargetPart StatementPart SuffixPart CasePart FieldPart IndexPart RangePart FurtherPart
    Rules.exp_form Rules.target_form Rules.statement_form Rules.suffix_form Rules.case_form Rules.field_form Rules.index_form Rules.range_form
    Rules.further_form d))
    (subst (λ k. IndexTreeFine (Rules.index_form (found_Index d)) k)
    (sym (fold-roll-Index Mannered Mannered Mannered Mannered Mannered Mannered Mannered Mannered Mannered
    Manner.expression_form Manner.target_form Manner.statement_form Manner.suffix_form Manner.case_form Manner.field_form Manner.index_form
    Manner.range_form Manner.further_form d)) h)

-- ---- parts

abbrev exps : List SuchExp → List Exp
exps ys = map (λ (p : SuchExp). p.0) ys

each_part : (ys : List SuchExp) → (every (map manner_exp (exps ys))).is_plain ≡ true → PartsFine (map found_exp (exps ys))
each_part [] q = tt
each_part (y ∷ ys) q =
    let p = and_parts (manner_exp y.0).is_plain (every (map manner_exp (exps ys))).is_plain q in (y.1 p.0, each_part ys p.1)

abbrev suffixes : List SuchSuffix → List SuffixTree
suffixes ys = map (λ (p : SuchSuffix). p.0) ys

each_suffix : (ys : List SuchSuffix) → (every (map manner_suffix (suffixes ys))).is_plain ≡ true → SuffixesFine (map found_suffix (suffixes ys))
each_suffix [] q = tt
each_suffix (y ∷ ys) q =
    let p = and_parts (manner_suffix y.0).is_plain (every (map manner_suffix (suffixes ys))).is_plain q in (y.1 p.0, each_suffix ys p.1)

abbrev cases : List SuchCase → List CaseTree
cases ys = map (λ (p : SuchCase). p.0) ys

each_case : (ys : List SuchCase) → (every (map manner_case (cases ys))).is_plain ≡ true → CasesFine (map found_case (cases ys))
each_case [] q = tt
each_case (y ∷ ys) q =
    let p = and_parts (manner_case y.0).is_plain (every (map manner_case (cases ys))).is_plain q in (y.1 p.0, each_case ys p.1)

abbrev fields : List SuchFieldValue → List FieldValue
fields ys = map (λ (p : SuchFieldValue). p.0) ys

each_field : (ys : List SuchFieldValue) → (every (map manner_field (fields ys))).is_plain ≡ true → FieldsFine (map found_field (fields ys))
each_field [] q = tt
each_field (y ∷ ys) q =
    let p = and_parts (manner_field y.0).is_plain (every (map manner_field (fields ys))).is_plain q in (y.1 p.0, each_field ys p.1)

field_list : (ys : List SuchFieldValue) → (fields_form (map manner_field (fields ys))).is_plain ≡ true → FieldsFine (map found_field (fields ys))
field_list [] q = tt
field_list (y ∷ ys) q = each_field (y ∷ ys) q

-- ---- forms

again : (y : Exp-F SuchExp SuchLExp SuchStmt SuchSuffix SuchCase SuchFieldValue SuchIndex SuchRange SuchTarget)
    → ExpFine (Rules.exp_form (found_Exp (first_Exp y)))
    (Manner.expression_form (manner_Exp (first_Exp y)))
again (E.Constant place literal) q = λ setting locals want. constant_fine place literal want
again (E.Variable name) q = λ setting locals want. name_fine name _ _ want
again (E.Call name ys) q = named_fine name (map found_exp (exps ys)) (each_part ys q)
again (E.Prefixed place prefix a) q = prefix_fine place prefix (found_exp a.0) (a.1 q)
again (E.Infix place operator a b) q =
    let p = and_parts (manner_exp a.0).is_plain (manner_exp b.0).is_plain q in
    infix_fine operator place (found_exp a.0) (found_exp b.0) (a.1 p.0) (b.1 p.1)
again (E.Leave place leaving a) q = no q
again (E.Group place brackets ys) q =
    group_fine place brackets (elaborations (map found_exp (exps ys))) (els_fine (map found_exp (exps ys)) (each_part ys q))
again (E.Part place a ys) q =
    let p = and_parts (manner_exp a.0).is_plain (every (map manner_suffix (suffixes ys))).is_plain q in
    part_fine place (found_exp a.0) (map found_suffix (suffixes ys)) (a.1 p.0) (each_suffix ys p.1)
again (E.Typed place a typ) q = typed_fine place (found_exp a.0) typ (a.1 q)
again (E.Assign place target more a) q = no q
again (E.Block place statements a) q = no q
again (E.Let place pattern a b) q =
    let p = and_parts (manner_exp a.0).is_plain (manner_exp b.0).is_plain q in
    let_fine place pattern (found_exp a.0) (found_exp b.0) (a.1 p.0) (b.1 p.1)
again (E.Var place name typ a b) q =
    let p = and_parts (manner_exp a.0).is_plain (manner_exp b.0).is_plain q in
    var_fine place name typ (found_exp a.0) (found_exp b.0) (a.1 p.0) (b.1 p.1)
again (E.If place a b None) q =
    let p = and_parts ((manner_exp a.0).is_plain && (manner_exp b.0).is_plain) true q in
    let p2 = and_parts (manner_exp a.0).is_plain (manner_exp b.0).is_plain p.0 in
    if_fine place (found_exp a.0) (found_exp b.0) None (a.1 p2.0) (b.1 p2.1) tt
again (E.If place a b (Some c)) q =
    let p = and_parts ((manner_exp a.0).is_plain && (manner_exp b.0).is_plain) (manner_exp c.0).is_plain q in
    let p2 = and_parts (manner_exp a.0).is_plain (manner_exp b.0).is_plain p.0 in
    if_fine place (found_exp a.0) (found_exp b.0) (Some (found_exp c.0)) (a.1 p2.0) (b.1 p2.1) (c.1 p.1)
again (E.Choose place Match a ys) q =
    let p = and_parts (manner_exp a.0).is_plain (every (map manner_case (cases ys))).is_plain q in
    match_fine place (found_exp a.0) (map found_case (cases ys)) (a.1 p.0) (each_case ys p.1)
again (E.Choose place Try a ys) q = no q
again (E.Foreach place name range a) q = no q
again (E.Loop place looping measure a b) q = no q
again (E.Update place a i b) q =
    let p = and_parts ((manner_exp a.0).is_plain && (manner_index i.0).is_plain) (manner_exp b.0).is_plain q in
    let p2 = and_parts (manner_exp a.0).is_plain (manner_index i.0).is_plain p.0 in
    update_fine place (found_exp a.0) (found_index i.0) (found_exp b.0) (a.1 p2.0) (i.1 p2.1) (b.1 p.1)
again (E.Struct place name ys) q = structs_fine place name (map found_field (fields ys)) (each_field ys q)
again (E.With place a ys) q =
    let p = and_parts (manner_exp a.0).is_plain (fields_form (map manner_field (fields ys))).is_plain q in
    with_fine place (found_exp a.0) (map found_field (fields ys)) (a.1 p.0) (field_list ys p.1)
again (E.OfType place asking typ) q = of_type_fine place asking typ
again (E.Assert place a text) q = no q

suffix_again : (y : Suffix-F SuchExp SuchLExp SuchStmt SuchSuffix SuchCase SuchFieldValue SuchIndex SuchRange SuchTarget) → SuffixTreeFine
    (Rules.suffix_form (found_Suffix (first_Suffix y))) (Manner.suffix_form (manner_Suffix (first_Suffix y)))
suffix_again (E.Field name) q = λ setting locals. tt
suffix_again (E.At place i) q = index_fine place (found_index i.0) (i.1 q)

case_by : (pattern : _) (guard : Option SuchExp) (body : SuchExp)
    → CaseTreeFine (Rules.case_form (found_Case (first_Case (record { pattern = pattern; guard = guard; body = body }))))
    (Manner.case_form (manner_Case (first_Case (record { pattern = pattern; guard = guard; body = body }))))
case_by pattern None body q = (tt, body.1 q)
case_by pattern (Some guard) body q =
    let p = and_parts (manner_exp guard.0).is_plain (manner_exp body.0).is_plain q in (guard.1 p.0, body.1 p.1)

index_by : (first : SuchExp) (last : Option SuchExp)
    → IndexTreeFine (Rules.index_form (found_Index (first_Index (record { first = first; last = last }))))
    (Manner.index_form (manner_Index (first_Index (record { first = first; last = last }))))
index_by first None q = ((first.1 (and_parts (manner_exp first.0).is_plain true q).0), tt)
index_by first (Some last) q =
    let p = and_parts (manner_exp first.0).is_plain (manner_exp last.0).is_plain q in (first.1 p.0, last.1 p.1)

-- ---- the trees

decide : (e : Exp) → OfExp e
decide = ind-Exp OfExp OfLExp OfStmt OfSuffix OfCase OfFieldValue OfIndex OfRange OfTarget
    (λ e y is. subst (λ d. OfExp (roll-Exp d)) is (rolled_Exp (first_Exp y) (again y)))
    (λ e y is. tt)
    (λ e y is. tt)
    (λ e y is. subst (λ d. OfSuffix (roll-Suffix d)) is (rolled_Suffix (first_Suffix y) (suffix_again y)))
    (λ e y is. subst (λ d. OfCase (roll-Case d)) is (rolled_Case (first_Case y) (case_by y.pattern y.guard y.body)))
    (λ e y is. subst (λ d. OfFieldValue (roll-FieldValue d)) is (rolled_FieldValue (first_FieldValue y) (λ q. y.value.1 q)))
    (λ e y is. subst (λ d. OfIndex (roll-Index d)) is (rolled_Index (first_Index y) (index_by y.first y.last)))
    (λ e y is. tt)
    (λ e y is. tt)

pub plain_cores_decide : PlainCoresDecide
plain_cores_decide e plain = decide e plain
