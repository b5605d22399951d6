-- What is found of each expression has a shape whose named types have the arguments that they should have: by induction on the expression.
use Rattle.std.proofs.Common.{◌≡◌, List, [], ◌∷◌, ◌++◌, map, sym, subst, true, Option, Some, None}
use Rattle.sail_base.specs.declared.kind.Kind.TheVariants as Sort
use Rattle.sail_base.specs.declared.place.Place.{Place}
use Rattle.sail_types.specs.declared.shapes.Shape.{Shape}
use Rattle.sail_types.specs.declared.table.Types.{Types}
use Rattle.sail_syntax.specs.declared.types.TyExp.{TyExp}
use Rattle.sail_syntax.specs.declared.patterns.Pat.{Pat}
use Rattle.sail_syntax.specs.declared.expressions.Exp.{Exp, Exp-F, roll-Exp}
use Rattle.sail_syntax.specs.declared.expressions.Exp.TheOpen as E
use Rattle.sail_syntax.specs.declared.expressions.Exp.TheOpen.{Case-F, FieldValue-F, LExp-F, Stmt-F}
use Rattle.sail_syntax.specs.declared.expressions.Exp.TheFolds.{ind-Exp, fold-roll-Exp, fold-roll-Stmt, fold-roll-Case, fold-roll-LExp}
use Rattle.sail_syntax.specs.declared.expressions.Exp.TheFolds.{fold-roll-FieldValue, map-Exp, map-LExp, map-Stmt, map-Case, map-FieldValue}
use Rattle.sail_syntax.specs.declared.expressions.Stmt.{Stmt, roll-Stmt}
use Rattle.sail_syntax.specs.declared.expressions.Suffix.{Suffix as SuffixTree}
use Rattle.sail_syntax.specs.declared.expressions.Case.{Case as CaseTree, roll-Case}
use Rattle.sail_syntax.specs.declared.expressions.Index.{Index}
use Rattle.sail_syntax.specs.declared.expressions.Range.{Range}
use Rattle.sail_syntax.specs.declared.expressions.LExp.{LExp, roll-LExp}
use Rattle.sail_syntax.specs.declared.expressions.FieldValue.{FieldValue, roll-FieldValue}
use Rattle.sail_syntax.specs.declared.expressions.Target.{Target as TargetTree}
use Rattle.sail_names.specs.Known as Tables
use Rattle.sail_names.specs.Known.{is_callee}
use Rattle.sail_names.specs.Locals as Bound
use Rattle.sail_names.specs.Locals.{behind}
use Rattle.sail_names.specs.Patterns.{binds, clashes, pattern_failures, type_failures, unless, uses_failures}
use Rattle.sail_names.specs.Uses as Uses
use Rattle.sail_names.specs.Uses.{Failures}
use Rattle.shape_rules.specs.declared.locals.Local.{Local}
use Rattle.shape_rules.specs.Scopes.{Setting, Locals, local_of, under}
use Rattle.shape_rules.specs.Patterns.{look, no_widths, wanted_by, written_shape}
use Rattle.shape_rules.specs.Targets.{Aimed, Part, IndexPart, SuffixPart, TargetPart, each_aimed, name_aimed, elaborations, part_aimed, read_aimed}
use Rattle.shape_rules.specs.Targets.{tuple_aimed, walked}
use Rattle.shape_rules.specs.Values.{FieldPart, last_place, values_of}
use Rattle.shape_rules.specs.Statements.{CasePart, FurtherPart, RangePart, StatementPart, assign_found, blocked, declared_shape}
use Rattle.shape_rules.specs.Expressions as Rules
use Rattle.shape_meanings.specs.Counted.{counted, LocalsCounted}
use Rattle.shape_meanings.specs.Naming.{AreKnown}
use Rattle.shape_meanings.proofs.Counting.{never_counted, unit_counted, tuple_counted}
use Rattle.shape_meanings.proofs.PatternCounts.{pat_counts, typ_counted}
use Rattle.shape_meanings.proofs.CallCounts.{ElCounts, ElsCount, called_counts, group_counts, infix_counts, literal_counted, name_counts}
use Rattle.shape_meanings.proofs.CallCounts.{prefix_counts}
use Rattle.shape_meanings.proofs.TargetCounts.{AimCounted, TargetCounts, TargetsCount, call_aim_counts, call_base_counts, each_aim_counts}
use Rattle.shape_meanings.proofs.TargetCounts.{name_aim_counts, walked_counts}
use Rattle.shape_meanings.proofs.FormCounts.{StatementsCount, CasesCount, CaseCounts, asked_counts, assert_counts, assign_counts, block_counts}
use Rattle.shape_meanings.proofs.FormCounts.{blocked_counts}
use Rattle.shape_meanings.proofs.FormCounts.{choose_counts, foreach_counts, if_counts, leave_counts, loop_counts, part_counts, short_if_counts}
use Rattle.shape_meanings.proofs.FormCounts.{struct_counts}
use Rattle.shape_meanings.proofs.FormCounts.{typed_counts, unit_block_counts, update_counts, with_counts}
use Rattle.shape_meanings.proofs.Counting.{settled_counted}
use Rattle.shape_meanings.proofs.Folds.{found_exp, found_lexp, found_stmt, found_suffix, found_case, found_field, found_index, found_range}
use Rattle.shape_meanings.proofs.Folds.{found_target}
use Rattle.shape_meanings.proofs.Folds.{failed_exp, failed_lexp, failed_stmt, failed_suffix, failed_case, failed_field, failed_index, failed_target}
use Rattle.shape_meanings.proofs.Folds.{OverTrees, found_Exp, found_LExp, found_Stmt, found_Case, found_FieldValue}
use Rattle.shape_meanings.proofs.Folds.{failed_Exp, failed_LExp, failed_Stmt, failed_Case, failed_FieldValue}
use Rattle.shape_meanings.proofs.Ready.{under_more}
use Rattle.shape_meanings.proofs.Settling.{both_empty}

-- names of a pattern before others
pub under_counted : (types : Types) (ls : List Local) (locals : Locals) → LocalsCounted types ls → LocalsCounted types locals
    → LocalsCounted types (under ls locals)
under_counted types [] locals h k = k
under_counted types (l ∷ ls) locals h k =
    subst (LocalsCounted types) (under_more l ls locals) (under_counted types ls (l ∷ locals) h.1 (h.0, k))

-- what a `var` has
pub declared_counted : (setting : Setting) (names : Tables.Setting) → AreKnown setting names → (typ : Option TyExp) (s : Shape)
    → Uses.maybe_type typ names ≡ [] → counted setting.types s ≡ true → counted setting.types (declared_shape setting typ s) ≡ true
declared_counted setting names known None s u h = h
declared_counted setting names known (Some typ) s u h = typ_counted setting names known typ u

-- what is wanted of it
pub wanted_counted : (setting : Setting) (names : Tables.Setting) → AreKnown setting names → (typ : Option TyExp) → Uses.maybe_type typ names ≡ []
    → counted setting.types (written_shape setting typ) ≡ true
wanted_counted setting names known None u = never_counted setting.types
wanted_counted setting names known (Some typ) u = typ_counted setting names known typ u

-- ---- what is said of each tree

abbrev CountsIn : (Setting → Tables.Setting → Locals → Bound.Locals → Type 0) → Type 0
CountsIn said =
    (setting : Setting) (names : Tables.Setting) → AreKnown setting names → (locals : Locals) (bound : Bound.Locals) → LocalsCounted setting.types locals
    → said setting names locals bound

abbrev ExpCounts : Part → Failures → Type 0
ExpCounts a f = CountsIn (λ setting names locals bound. f names bound ≡ [] → ElCounts setting locals a.elaborate)

abbrev LExpCounts : TargetPart → Failures → Type 0
LExpCounts t f =
    CountsIn (λ setting names locals bound.
    f names bound ≡ [] → TargetCounts setting locals t
    × ((place : Place) (value : Part) → ElCounts setting locals value.elaborate → ElCounts setting locals (assign_found place t [] value)))

abbrev StmtCounts : StatementPart → Uses.Statement → Type 0
StmtCounts s f = CountsIn (λ setting names locals bound. (f names bound).failures ≡ [] → LocalsCounted setting.types (s setting locals).locals)

abbrev OneCase : CasePart → Failures → Type 0
OneCase c f = CountsIn (λ setting names locals bound. f names bound ≡ [] → CaseCounts setting locals c)

abbrev FieldCounts : FieldPart → Uses.Field → Type 0
FieldCounts p f = CountsIn (λ setting names locals bound. f.value names bound ≡ [] → ElCounts setting locals p.value.elaborate)

abbrev SuchExp : Type 0
SuchExp = (x : Exp) × ExpCounts (found_exp x) (failed_exp x)

abbrev SuchLExp : Type 0
SuchLExp = (x : LExp) × LExpCounts (found_lexp x) (failed_lexp x)

abbrev SuchStmt : Type 0
SuchStmt = (x : Stmt) × StmtCounts (found_stmt x) (failed_stmt x)

abbrev SuchSuffix : Type 0
SuchSuffix = (x : SuffixTree) × Unit {0}

abbrev SuchCase : Type 0
SuchCase = (x : CaseTree) × OneCase (found_case x) (failed_case x)

abbrev SuchFieldValue : Type 0
SuchFieldValue = (x : FieldValue) × FieldCounts (found_field x) (failed_field x)

abbrev SuchIndex : Type 0
SuchIndex = (x : Index) × Unit {0}

abbrev SuchRange : Type 0
SuchRange = (x : Range) × Unit {0}

abbrev SuchTarget : Type 0
SuchTarget = (x : TargetTree) × Unit {0}

abbrev OverSuch : (Type 0 → Type 0 → Type 0 → Type 0 → Type 0 → Type 0 → Type 0 → Type 0 → Type 0 → Type 0) → Type 0
OverSuch F = F SuchExp SuchLExp SuchStmt SuchSuffix SuchCase SuchFieldValue SuchIndex SuchRange SuchTarget

abbrev first_Exp : OverSuch Exp-F → OverTrees Exp-F
first_Exp = map-Exp SuchExp SuchLExp SuchStmt SuchSuffix SuchCase SuchFieldValue SuchIndex SuchRange SuchTarget
    Exp LExp Stmt SuffixTree CaseTree FieldValue Index Range TargetTree
    (λ p. p.0) (λ p. p.0) (λ p. p.0) (λ p. p.0) (λ p. p.0) (λ p. p.0) (λ p. p.0) (λ p. p.0) (λ p. p.0)

abbrev first_LExp : OverSuch LExp-F → OverTrees LExp-F
first_LExp = map-LExp SuchExp SuchLExp SuchStmt SuchSuffix SuchCase SuchFieldValue SuchIndex SuchRange SuchTarget
    Exp LExp Stmt SuffixTree CaseTree FieldValue Index Range TargetTree
    (λ p. p.0) (λ p. p.0) (λ p. p.0) (λ p. p.0) (λ p. p.0) (λ p. p.0) (λ p. p.0) (λ p. p.0) (λ p. p.0)

abbrev first_Stmt : OverSuch Stmt-F → OverTrees Stmt-F
first_Stmt = map-Stmt SuchExp SuchLExp SuchStmt SuchSuffix SuchCase SuchFieldValue SuchIndex SuchRange SuchTarget
    Exp LExp Stmt SuffixTree CaseTree FieldValue Index Range TargetTree
    (λ p. p.0) (λ p. p.0) (λ p. p.0) (λ p. p.0) (λ p. p.0) (λ p. p.0) (λ p. p.0) (λ p. p.0) (λ p. p.0)

abbrev first_Case : OverSuch Case-F → OverTrees Case-F
first_Case = map-Case SuchExp SuchLExp SuchStmt SuchSuffix SuchCase SuchFieldValue SuchIndex SuchRange SuchTarget
    Exp LExp Stmt SuffixTree CaseTree FieldValue Index Range TargetTree
    (λ p. p.0) (λ p. p.0) (λ p. p.0) (λ p. p.0) (λ p. p.0) (λ p. p.0) (λ p. p.0) (λ p. p.0) (λ p. p.0)

abbrev first_FieldValue : OverSuch FieldValue-F → OverTrees FieldValue-F
first_FieldValue = map-FieldValue SuchExp SuchLExp SuchStmt SuchSuffix SuchCase SuchFieldValue SuchIndex SuchRange SuchTarget
    Exp LExp Stmt SuffixTree CaseTree FieldValue Index Range TargetTree
    (λ p. p.0) (λ p. p.0) (λ p. p.0) (λ p. p.0) (λ p. p.0) (λ p. p.0) (λ p. p.0) (λ p. p.0) (λ p. p.0)

-- ---- parts in a list

abbrev exps : List SuchExp → List Exp
exps ys = map (λ (p : SuchExp). p.0) ys

abbrev suffixes : List SuchSuffix → List SuffixTree
suffixes ys = map (λ (p : SuchSuffix). p.0) ys

each_counts : (ys : List SuchExp) (setting : Setting) (names : Tables.Setting) → AreKnown setting names → (locals : Locals) (bound : Bound.Locals)
    → LocalsCounted setting.types locals → Uses.each (map failed_exp (exps ys)) names bound ≡ []
    → ElsCount setting locals (elaborations (map found_exp (exps ys)))
each_counts [] setting names known locals bound l u = tt
each_counts (y ∷ ys) setting names known locals bound l u =
    let h = both_empty (failed_exp y.0 names bound) (Uses.each (map failed_exp (exps ys)) names bound) u in
    (y.1 setting names known locals bound l h.0, each_counts ys setting names known locals bound l h.1)

more_counts : (es : List Part) (a : Part) (setting : Setting) (locals : Locals) → ElsCount setting locals (elaborations es)
    → ElCounts setting locals a.elaborate → ElsCount setting locals (elaborations (es ++ a ∷ []))
more_counts [] a setting locals are c = (c, tt)
more_counts (e ∷ es) a setting locals are c = (are.0, more_counts es a setting locals are.1 c)

abbrev fieldvalues : List SuchFieldValue → List FieldValue
fieldvalues ys = map (λ (p : SuchFieldValue). p.0) ys

fields_count : (ys : List SuchFieldValue) (setting : Setting) (names : Tables.Setting) → AreKnown setting names → (locals : Locals) (bound : Bound.Locals)
    → LocalsCounted setting.types locals → Uses.fields_failures (map failed_field (fieldvalues ys)) names bound ≡ []
    → ElsCount setting locals (values_of (map found_field (fieldvalues ys)))
fields_count [] setting names known locals bound l u = tt
fields_count (y ∷ ys) setting names known locals bound l u =
    let field = failed_field y.0 in
    let h = both_empty (Uses.field_failures names field.name ++ field.value names bound) (Uses.fields_failures
    (map failed_field (fieldvalues ys)) names bound) u in
    let h2 = both_empty (Uses.field_failures names field.name) (field.value names bound) h.0 in
    (y.1 setting names known locals bound l h2.1, fields_count ys setting names known locals bound l h.1)

abbrev cases : List SuchCase → List CaseTree
cases ys = map (λ (p : SuchCase). p.0) ys

cases_count : (ys : List SuchCase) (setting : Setting) (names : Tables.Setting) → AreKnown setting names → (locals : Locals) (bound : Bound.Locals)
    → LocalsCounted setting.types locals → Uses.each (map failed_case (cases ys)) names bound ≡ [] → CasesCount setting locals (map found_case (cases ys))
cases_count [] setting names known locals bound l u = tt
cases_count (y ∷ ys) setting names known locals bound l u =
    let h = both_empty (failed_case y.0 names bound) (Uses.each (map failed_case (cases ys)) names bound) u in
    (y.1 setting names known locals bound l h.0, cases_count ys setting names known locals bound l h.1)

abbrev lexps : List SuchLExp → List LExp
lexps ys = map (λ (p : SuchLExp). p.0) ys

lexps_count : (ys : List SuchLExp) (setting : Setting) (names : Tables.Setting) → AreKnown setting names → (locals : Locals) (bound : Bound.Locals)
    → LocalsCounted setting.types locals → Uses.each (map failed_lexp (lexps ys)) names bound ≡ [] → TargetsCount setting locals (map found_lexp (lexps ys))
lexps_count [] setting names known locals bound l u = tt
lexps_count (y ∷ ys) setting names known locals bound l u =
    let h = both_empty (failed_lexp y.0 names bound) (Uses.each (map failed_lexp (lexps ys)) names bound) u in
    ((y.1 setting names known locals bound l h.0).0, lexps_count ys setting names known locals bound l h.1)

abbrev stmts : List SuchStmt → List Stmt
stmts ys = map (λ (p : SuchStmt). p.0) ys

stmts_count : (ys : List SuchStmt) (setting : Setting) (names : Tables.Setting) → AreKnown setting names → (locals : Locals) (bound : Bound.Locals)
    → LocalsCounted setting.types locals → (Uses.steps (map failed_stmt (stmts ys)) names bound).failures ≡ []
    → StatementsCount setting locals (map found_stmt (stmts ys))
stmts_count [] setting names known locals bound l u = tt
stmts_count (y ∷ ys) setting names known locals bound l u =
    let step = failed_stmt y.0 names bound in
    let h = both_empty step.failures (Uses.steps (map failed_stmt (stmts ys)) names step.locals).failures u in
    let one = y.1 setting names known locals bound l h.0 in
    (one, stmts_count ys setting names known (found_stmt y.0 setting locals).locals step.locals one h.1)

-- ---- patterns

-- the names that a pattern binds, and what is wanted of what it is matched with
pub pattern_counts : (setting : Setting) (names : Tables.Setting) → AreKnown setting names → (p : Pat) → pattern_failures names p ≡ []
    → (locals : Locals) → LocalsCounted setting.types locals
    → (counted setting.types (wanted_by setting p) ≡ true)
    × ((subject : Shape) → counted setting.types subject ≡ true → LocalsCounted setting.types (under (look p setting no_widths subject).binds locals))
pattern_counts setting names known p u locals l =
    let r = pat_counts p setting names known (both_empty (uses_failures names p) (clashes (binds names.known p)) u).0 in
    (r.0, λ subject h. under_counted setting.types (look p setting no_widths subject).binds locals (r.1 no_widths subject h) l)

-- ---- the forms

abbrev ExpForm : OverTrees Exp-F → Type 0
ExpForm d = ExpCounts (Rules.exp_form (found_Exp d)) (Uses.expression_form (failed_Exp d))

again : (y : OverSuch Exp-F) → ExpForm (first_Exp y)
again (E.Constant place literal) setting names known locals bound l u = λ want h.
    settled_counted setting.types place want _ _ h (literal_counted setting.types literal)
again (E.Variable name) setting names known locals bound l u = λ want h.
    name_counts setting.types name locals (setting.value name.text) want l (known.counts.values name.text) h
again (E.Call name args) setting names known locals bound l u =
    let k = both_empty (unless (is_callee names name.text) name) (Uses.each (map failed_exp (exps args)) names bound) u in
    called_counts setting locals name (setting.value name.text) (map found_exp (exps args)) (known.counts.values name.text)
    (each_counts args setting names known locals bound l k.1)
again (E.Prefixed place prefix a) setting names known locals bound l u =
    prefix_counts setting locals place prefix (found_exp a.0) known.counts (a.1 setting names known locals bound l u)
again (E.Infix place operator a c) setting names known locals bound l u =
    let k = both_empty (failed_exp a.0 names bound) (failed_exp c.0 names bound) u in
    infix_counts setting locals place operator (found_exp a.0) (found_exp c.0) known.counts (a.1 setting names known locals bound l k.0)
    (c.1 setting names known locals bound l k.1)
again (E.Leave place leaving a) setting names known locals bound l u = leave_counts setting locals place leaving (found_exp a.0)
again (E.Group place brackets ys) setting names known locals bound l u =
    group_counts setting locals place brackets (elaborations (map found_exp (exps ys))) (each_counts ys setting names known locals bound l u)
again (E.Part place a ys) setting names known locals bound l u =
    let k = both_empty (failed_exp a.0 names bound) (Uses.each (map failed_suffix (suffixes ys)) names bound) u in
    part_counts setting locals place (found_exp a.0) (map found_suffix (suffixes ys)) known.counts (a.1 setting names known locals bound l k.0)
again (E.Typed place a typ) setting names known locals bound l u =
    let k = both_empty (failed_exp a.0 names bound) (type_failures Sort.Type typ names) u in
    typed_counts setting locals place (found_exp a.0) typ (typ_counted setting names known typ k.1)
again (E.Assign place target [] a) setting names known locals bound l u =
    let k = both_empty (failed_lexp target.0 names bound ++ []) (failed_exp a.0 names bound) u in
    let k2 = both_empty (failed_lexp target.0 names bound) [] k.0 in
    (target.1 setting names known locals bound l k2.0).1 place (found_exp a.0) (a.1 setting names known locals bound l k.1)
again (E.Assign place target (x ∷ xs) a) setting names known locals bound l u =
    let more = map (λ (p : SuchTarget). p.0) (x ∷ xs) in
    let k = both_empty (failed_lexp target.0 names bound ++ Uses.each (map failed_target more) names bound) (failed_exp a.0 names bound) u in
    let k2 = both_empty (failed_lexp target.0 names bound) (Uses.each (map failed_target more) names bound) k.0 in
    assign_counts setting locals place ((found_lexp target.0).aim setting locals) (map found_target more) (found_exp a.0)
    (target.1 setting names known locals bound l k2.0).0.0
again (E.Block place ys None) setting names known locals bound l u = unit_block_counts setting locals place (map found_stmt (stmts ys))
again (E.Block place ys (Some a)) setting names known locals bound l u =
    let steps = Uses.steps (map failed_stmt (stmts ys)) names bound in
    let k = both_empty steps.failures (failed_exp a.0 names steps.locals) u in
    let ss : List StatementPart = map found_stmt (stmts ys) in
    block_counts setting locals place ss (found_exp a.0)
    (a.1 setting names known (blocked ss setting locals).locals steps.locals
    (blocked_counts setting locals ss l (stmts_count ys setting names known locals bound l k.0)) k.1)
again (E.Let place pattern a c) setting names known locals bound l u = λ want h.
    let k = both_empty (failed_exp a.0 names bound ++ pattern_failures names pattern) (failed_exp c.0 names (behind (binds names.known pattern) bound)) u in
    let k2 = both_empty (failed_exp a.0 names bound) (pattern_failures names pattern) k.0 in
    let p = pattern_counts setting names known pattern k2.1 locals l in
    let s : Shape = ((found_exp a.0).elaborate setting locals (wanted_by setting pattern)).shape in
    c.1 setting names known (under (look pattern setting no_widths s).binds locals) (behind (binds names.known pattern) bound)
    (p.1 s (a.1 setting names known locals bound l k2.0 (wanted_by setting pattern) p.0)) k.1 want h
again (E.Var place name typ a c) setting names known locals bound l u = λ want h.
    let k = both_empty (Uses.maybe_type typ names ++ failed_exp a.0 names bound) (failed_exp c.0 names (Bound.variable name ∷ bound)) u in
    let k2 = both_empty (Uses.maybe_type typ names) (failed_exp a.0 names bound) k.0 in
    let s : Shape = ((found_exp a.0).elaborate setting locals (written_shape setting typ)).shape in
    let fine = a.1 setting names known locals bound l k2.1 (written_shape setting typ) (wanted_counted setting names known typ k2.0) in
    c.1 setting names known _ (Bound.variable name ∷ bound) (declared_counted setting names known typ s k2.0 fine, l) k.1 want h
again (E.If place a c None) setting names known locals bound l u = short_if_counts setting locals place (found_exp a.0) (found_exp c.0)
again (E.If place a c (Some d)) setting names known locals bound l u =
    let k = both_empty (failed_exp a.0 names bound ++ failed_exp c.0 names bound) (failed_exp d.0 names bound) u in
    let k2 = both_empty (failed_exp a.0 names bound) (failed_exp c.0 names bound) k.0 in
    if_counts setting locals place (found_exp a.0) (found_exp c.0) (found_exp d.0) (c.1 setting names known locals bound l k2.1)
    (d.1 setting names known locals bound l k.1)
again (E.Choose place choosing a ys) setting names known locals bound l u =
    let k = both_empty (failed_exp a.0 names bound) (Uses.each (map failed_case (cases ys)) names bound) u in
    choose_counts setting locals place choosing (found_exp a.0) (map found_case (cases ys)) known.counts (a.1 setting names known locals bound l k.0)
    (cases_count ys setting names known locals bound l k.1)
again (E.Foreach place name range a) setting names known locals bound l u =
    foreach_counts setting locals place name (found_range range.0) (found_exp a.0)
again (E.Loop place looping None a c) setting names known locals bound l u =
    loop_counts setting locals place looping None (found_exp a.0) (found_exp c.0)
again (E.Loop place looping (Some m) a c) setting names known locals bound l u =
    loop_counts setting locals place looping (Some (found_exp m.0)) (found_exp a.0) (found_exp c.0)
again (E.Update place a i c) setting names known locals bound l u =
    let k = both_empty (failed_exp a.0 names bound ++ failed_index i.0 names bound) (failed_exp c.0 names bound) u in
    let k2 = both_empty (failed_exp a.0 names bound) (failed_index i.0 names bound) k.0 in
    update_counts setting locals place (found_exp a.0) (found_index i.0) (found_exp c.0) (a.1 setting names known locals bound l k2.0)
    (c.1 setting names known locals bound l k.1)
again (E.Struct place name ys) setting names known locals bound l u =
    let failed = map failed_field (fieldvalues ys) in
    let k = both_empty (Uses.struct_failures names name ++ clashes (Uses.named failed)) (Uses.fields_failures failed names bound) u in
    struct_counts setting locals place name (map found_field (fieldvalues ys)) known.counts (fields_count ys setting names known locals bound l k.1)
again (E.With place a ys) setting names known locals bound l u =
    let failed = map failed_field (fieldvalues ys) in
    let k = both_empty (failed_exp a.0 names bound ++ clashes (Uses.named failed)) (Uses.fields_failures failed names bound) u in
    let k2 = both_empty (failed_exp a.0 names bound) (clashes (Uses.named failed)) k.0 in
    with_counts setting locals place (found_exp a.0) (map found_field (fieldvalues ys)) known.counts (a.1 setting names known locals bound l k2.0)
    (fields_count ys setting names known locals bound l k.1)
again (E.OfType place asking typ) setting names known locals bound l u = asked_counts setting locals place asking typ
again (E.Assert place a text) setting names known locals bound l u = assert_counts setting locals place (found_exp a.0) text

abbrev LExpForm : OverTrees LExp-F → Type 0
LExpForm d = LExpCounts (Rules.target_form (found_LExp d)) (Uses.target_form (failed_LExp d))

lexp_again : (y : OverSuch LExp-F) → LExpForm (first_LExp y)
lexp_again (E.ToName name) setting names known locals bound l u =
    let a = name_aim_counts setting.types name locals (setting.value name.text) l (known.counts.values name.text) in
    ((a, a), λ place value v. assign_counts setting locals place (name_aimed name (local_of name.text locals) (setting.value name.text)) [] value a)
lexp_again (E.ToCall name args) setting names known locals bound l u =
    let k = both_empty (unless (is_callee names name.text) name) (Uses.each (map failed_exp (exps args)) names bound) u in
    let es : List Part = map found_exp (exps args) in
    let are = each_counts args setting names known locals bound l k.1 in
    let m = known.counts.values name.text in (
      (call_aim_counts setting locals name es are m, call_base_counts setting locals name es are m),
      λ place value v. called_counts setting locals name (setting.value name.text) (es ++ value ∷ []) m (more_counts es value setting locals are v),
    )
lexp_again (E.ToTuple place ys) setting names known locals bound l u =
    let ts : List TargetPart = map found_lexp (lexps ys) in
    let aim : Aimed = tuple_aimed place (each_aimed ts setting locals) in
    let a : AimCounted setting.types aim = (
      tuple_counted setting.types (each_aimed ts setting locals).shapes (each_aim_counts setting locals ts
          (lexps_count ys setting names known locals bound l u)),
      unit_counted setting.types,
    ) in
    ((a, a), λ at value v. assign_counts setting locals at aim [] value a)
lexp_again (E.ToPart place base ys) setting names known locals bound l u =
    let k = both_empty (failed_lexp base.0 names bound) (Uses.each (map failed_suffix (suffixes ys)) names bound) u in
    let b = (base.1 setting names known locals bound l k.0).0.1 in
    let xs : List SuffixPart = map found_suffix (suffixes ys) in
    let t : TargetPart = found_lexp base.0 in
    let from : Aimed = read_aimed t.call setting locals (t.aim setting locals) in
    let aim : Aimed = part_aimed (last_place place xs) from (walked xs setting locals place t.place from.shape) in
    let a : AimCounted setting.types aim =
    (walked_counts setting known.counts xs locals place t.place from.shape b.0, b.1) in
    ((a, a), λ at value v. assign_counts setting locals at aim [] value a)

abbrev StmtForm : OverTrees Stmt-F → Type 0
StmtForm d = StmtCounts (Rules.statement_form (found_Stmt d)) (Uses.statement_form (failed_Stmt d))

stmt_again : (y : OverSuch Stmt-F) → StmtForm (first_Stmt y)
stmt_again (E.Evaluate a) setting names known locals bound l u = l
stmt_again (E.Define place pattern a) setting names known locals bound l u =
    let k = both_empty (failed_exp a.0 names bound) (pattern_failures names pattern) u in
    let p = pattern_counts setting names known pattern k.1 locals l in
    p.1 _ (a.1 setting names known locals bound l k.0 (wanted_by setting pattern) p.0)
stmt_again (E.Declare place name typ a) setting names known locals bound l u =
    let k = both_empty (Uses.maybe_type typ names) (failed_exp a.0 names bound) u in
    let fine = a.1 setting names known locals bound l k.1 (written_shape setting typ) (wanted_counted setting names known typ k.0) in
    (declared_counted setting names known typ _ k.0 fine, l)

abbrev CaseForm : OverTrees Case-F → Type 0
CaseForm d = OneCase (Rules.case_form (found_Case d)) (Uses.case_form (failed_Case d))

case_again : (p : Pat) (guard : Option SuchExp) (body : SuchExp) → CaseForm (first_Case (record { pattern = p; guard = guard; body = body }))
case_again p None body setting names known locals bound l u subject h =
    let inner = behind (binds names.known p) bound in
    let k = both_empty (pattern_failures names p ++ []) (failed_exp body.0 names inner) u in
    let k2 = both_empty (pattern_failures names p) [] k.0 in
    body.1 setting names known _ inner ((pattern_counts setting names known p k2.0 locals l).1 subject h) k.1
case_again p (Some guard) body setting names known locals bound l u subject h =
    let inner = behind (binds names.known p) bound in
    let k = both_empty (pattern_failures names p ++ failed_exp guard.0 names inner) (failed_exp body.0 names inner) u in
    let k2 = both_empty (pattern_failures names p) (failed_exp guard.0 names inner) k.0 in
    body.1 setting names known _ inner ((pattern_counts setting names known p k2.0 locals l).1 subject h) k.1

abbrev FieldForm : OverTrees FieldValue-F → Type 0
FieldForm d = FieldCounts (Rules.field_form (found_FieldValue d)) (Uses.field_form (failed_FieldValue d))

field_again : (y : OverSuch FieldValue-F) → FieldForm (first_FieldValue y)
field_again y = y.value.1

-- ---- the trees

rolled_Exp : (d : OverTrees Exp-F) → ExpForm d → ExpCounts (found_exp (roll-Exp d)) (failed_exp (roll-Exp d))
rolled_Exp d h =
    subst (λ k. ExpCounts k (failed_exp (roll-Exp d)))
    (sym (fold-roll-Exp Part TargetPart StatementPart SuffixPart CasePart FieldPart IndexPart RangePart FurtherPart
    Rules.exp_form Rules.target_form Rules.statement_form Rules.suffix_form Rules.case_form Rules.field_form Rules.index_form Rules.range_form
    Rules.further_form d))
    (subst (ExpCounts (Rules.exp_form (found_Exp d)))
    (sym (fold-roll-Exp Failures Failures Uses.Statement Failures Failures Uses.Field Failures Failures Failures
    Uses.expression_form Uses.target_form Uses.statement_form Uses.suffix_form Uses.case_form Uses.field_form Uses.index_form Uses.range_form
    Uses.further_form d)) h)

rolled_LExp : (d : OverTrees LExp-F) → LExpForm d → LExpCounts (found_lexp (roll-LExp d)) (failed_lexp (roll-LExp d))
rolled_LExp d h =
    subst (λ k. LExpCounts k (failed_lexp (roll-LExp d)))
    (sym (fold-roll-LExp Part TargetPart StatementPart SuffixPart CasePart FieldPart IndexPart RangePart FurtherPart
    Rules.exp_form Rules.target_form Rules.statement_form Rules.suffix_form Rules.case_form Rules.field_form Rules.index_form Rules.range_form
    Rules.further_form d))
    (subst (LExpCounts (Rules.target_form (found_LExp d)))
    (sym (fold-roll-LExp Failures Failures Uses.Statement Failures Failures Uses.Field Failures Failures Failures
    Uses.expression_form Uses.target_form Uses.statement_form Uses.suffix_form Uses.case_form Uses.field_form Uses.index_form Uses.range_form
    Uses.further_form d)) h)

rolled_Stmt : (d : OverTrees Stmt-F) → StmtForm d → StmtCounts (found_stmt (roll-Stmt d)) (failed_stmt (roll-Stmt d))
rolled_Stmt d h =
    subst (λ k. StmtCounts k (failed_stmt (roll-Stmt d)))
    (sym (fold-roll-Stmt Part TargetPart StatementPart SuffixPart CasePart FieldPart IndexPart RangePart FurtherPart
    Rules.exp_form Rules.target_form Rules.statement_form Rules.suffix_form Rules.case_form Rules.field_form Rules.index_form Rules.range_form
    Rules.further_form d))
    (subst (StmtCounts (Rules.statement_form (found_Stmt d)))
    (sym (fold-roll-Stmt Failures Failures Uses.Statement Failures Failures Uses.Field Failures Failures Failures
    Uses.expression_form Uses.target_form Uses.statement_form Uses.suffix_form Uses.case_form Uses.field_form Uses.index_form Uses.range_form
    Uses.further_form d)) h)

rolled_Case : (d : OverTrees Case-F) → CaseForm d → OneCase (found_case (roll-Case d)) (failed_case (roll-Case d))
rolled_Case d h =
    subst (λ k. OneCase k (failed_case (roll-Case d)))
    (sym (fold-roll-Case Part TargetPart StatementPart SuffixPart CasePart FieldPart IndexPart RangePart FurtherPart
    Rules.exp_form Rules.target_form Rules.statement_form Rules.suffix_form Rules.case_form Rules.field_form Rules.index_form Rules.range_form
    Rules.further_form d))
    (subst (OneCase (Rules.case_form (found_Case d)))
    (sym (fold-roll-Case Failures Failures Uses.Statement Failures Failures Uses.Field Failures Failures Failures
    Uses.expression_form Uses.target_form Uses.statement_form Uses.suffix_form Uses.case_form Uses.field_form Uses.index_form Uses.range_form
    Uses.further_form d)) h)

rolled_FieldValue : (d : OverTrees FieldValue-F) → FieldForm d → FieldCounts (found_field (roll-FieldValue d)) (failed_field (roll-FieldValue d))
rolled_FieldValue d h =
    subst (λ k. FieldCounts k (failed_field (roll-FieldValue d)))
    (sym (fold-roll-FieldValue Part TargetPart StatementPart SuffixPart CasePart FieldPart IndexPart RangePart FurtherPart
    Rules.exp_form Rules.target_form Rules.statement_form Rules.suffix_form Rules.case_form Rules.field_form Rules.index_form Rules.range_form
    Rules.further_form d))
    (subst (FieldCounts (Rules.field_form (found_FieldValue d)))
    (sym (fold-roll-FieldValue Failures Failures Uses.Statement Failures Failures Uses.Field Failures Failures Failures
    Uses.expression_form Uses.target_form Uses.statement_form Uses.suffix_form Uses.case_form Uses.field_form Uses.index_form Uses.range_form
    Uses.further_form d)) h)

abbrev OfExp : Exp → Type 0
OfExp x = ExpCounts (found_exp x) (failed_exp x)

abbrev OfLExp : LExp → Type 0
OfLExp x = LExpCounts (found_lexp x) (failed_lexp x)

abbrev OfStmt : Stmt → Type 0
OfStmt x = StmtCounts (found_stmt x) (failed_stmt x)

abbrev OfCase : CaseTree → Type 0
OfCase x = OneCase (found_case x) (failed_case x)

abbrev OfFieldValue : FieldValue → Type 0
OfFieldValue x = FieldCounts (found_field x) (failed_field x)

pub exp_counts : (e : Exp) → OfExp e
exp_counts = ind-Exp OfExp OfLExp OfStmt (λ x. Unit {0}) OfCase OfFieldValue (λ x. Unit {0}) (λ x. Unit {0}) (λ x. Unit {0})
    (λ e y is. subst (λ d. OfExp (roll-Exp d)) is (rolled_Exp (first_Exp y) (again y)))
    (λ e y is. subst (λ d. OfLExp (roll-LExp d)) is (rolled_LExp (first_LExp y) (lexp_again y)))
    (λ e y is. subst (λ d. OfStmt (roll-Stmt d)) is (rolled_Stmt (first_Stmt y) (stmt_again y)))
    (λ e y is. tt)
    (λ e y is. subst (λ d. OfCase (roll-Case d)) is (rolled_Case (first_Case y) (case_again y.pattern y.guard y.body)))
    (λ e y is. subst (λ d. OfFieldValue (roll-FieldValue d)) is (rolled_FieldValue (first_FieldValue y) (field_again y)))
    (λ e y is. tt)
    (λ e y is. tt)
    (λ e y is. tt)
