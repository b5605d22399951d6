-- What is found of each expression passes the tests of nodes: by induction on the expression.
use Rattle.std.proofs.Common.{◌≡◌, Bool, true, ◌&&◌, List, [], ◌∷◌, ◌++◌, map, refl, subst, Option, Some, None}
use Rattle.std.proofs.lemmas.Bool.{and_parts}
use Rattle.sail_base.specs.declared.kind.Kind.TheVariants as Sort
use Rattle.sail_types.specs.declared.numbers.Index.{Index as Number}
use Rattle.sail_syntax.specs.declared.patterns.Pat.{Pat}
use Rattle.sail_syntax.specs.declared.words.Choosing.TheVariants.{Match, Try}
use Rattle.sail_syntax.specs.declared.expressions.Exp.{Exp, Exp-F, roll-Exp}
use Rattle.sail_syntax.specs.declared.expressions.Exp.TheOpen as E
use Rattle.sail_syntax.specs.declared.expressions.Exp.TheOpen.{LExp-F, Stmt-F, Suffix-F}
use Rattle.sail_syntax.specs.declared.expressions.Exp.TheFolds.{ind-Exp}
use Rattle.sail_syntax.specs.declared.expressions.LExp.{LExp, roll-LExp}
use Rattle.sail_syntax.specs.declared.expressions.Stmt.{Stmt, roll-Stmt}
use Rattle.sail_syntax.specs.declared.expressions.Suffix.{Suffix as SuffixTree, roll-Suffix}
use Rattle.sail_syntax.specs.declared.expressions.Case.{Case as CaseTree, roll-Case}
use Rattle.sail_syntax.specs.declared.expressions.FieldValue.{FieldValue, roll-FieldValue}
use Rattle.sail_syntax.specs.declared.expressions.Index.{roll-Index}
use Rattle.sail_syntax.specs.declared.expressions.Range.{roll-Range}
use Rattle.sail_syntax.specs.declared.expressions.Target.{Target as TargetTree, roll-Target}
use Rattle.sail_core.specs.declared.patterns.Pattern.{Pattern}
use Rattle.sail_cycles.specs.Callees.{pattern_callees}
use Rattle.sail_names.specs.Known as Tables
use Rattle.sail_names.specs.Known.{in_measure, is_callee}
use Rattle.sail_names.specs.Locals as Bound
use Rattle.sail_names.specs.Locals.{behind}
use Rattle.sail_names.specs.Patterns.{binds, clashes, joined, pattern_failures, type_failures, unless}
use Rattle.sail_names.specs.Uses as Uses
use Rattle.pattern_leaves.specs.Settings.{Around}
use Rattle.shape_joins.proofs.JoinsLeast.{none}
use Rattle.shape_rules.specs.Scopes.{Setting, local_of, plainly}
use Rattle.shape_rules.specs.Targets.{elaborations, read_aimed}
use Rattle.shape_rules.specs.Values.{FieldPart, last_place}
use Rattle.shape_meanings.specs.Naming.{AreKnown}
use Rattle.shape_meanings.specs.Whole.{all_of}
use Rattle.shape_meanings.specs.Trees.{is_part, pattern_written, written}
use Rattle.shape_meanings.proofs.Folds.{failed_case, failed_exp, failed_field, failed_index, failed_lexp, failed_range, failed_stmt, failed_suffix}
use Rattle.shape_meanings.proofs.Folds.{failed_target, found_case, found_exp, found_field, found_index, found_lexp, found_range, found_stmt, found_suffix}
use Rattle.shape_meanings.proofs.Folds.{found_target}
use Rattle.shape_meanings.proofs.Ready.{plain_ready}
use Rattle.shape_meanings.proofs.Settling.{both_empty}
use Rattle.shape_meanings.proofs.TargetNames.{names_apart}
use Rattle.shape_meanings.proofs.Folds.{written_case, written_exp, written_field, written_index}
use Rattle.shape_meanings.proofs.Folds.{written_lexp, written_range, written_stmt, written_suffix, written_target}
use Rattle.form_stands.proofs.Folds.{in_case, in_exp, in_field, in_index, in_lexp, in_range, in_stmt, in_suffix, in_target}
use Rattle.standing_models.specs.Tests.{Converts, Fits, Tested}
use Rattle.standing_models.proofs.Converting.{halves, none_in_measure}
use Rattle.standing_models.proofs.CorePasses.{constant_passes, group_all}
use Rattle.standing_models.proofs.Passing.{PartsAre, SuffixesAre, each_of, group_passes, index_passes, infix_passes, name_passes}
use Rattle.standing_models.proofs.Passing.{named_passes, not_empty, part_passes, prefix_passes, typed_passes, update_passes}
use Rattle.standing_models.proofs.PassingSteps.{CasesAre, FieldsAre, FurthersAre, StatementsAre, TargetsAre, assert_passes, assign_passes}
use Rattle.standing_models.proofs.PassingSteps.{block_passes, call_aims, declare_passes, defined_passes, each_aims, evaluated_passes, foreach_passes, if_passes}
use Rattle.standing_models.proofs.PassingSteps.{leave_passes, let_passes, loop_passes, match_passes, name_aims, of_type_passes, part_aims, read_aims}
use Rattle.standing_models.proofs.PassingSteps.{struct_passes, try_passes, var_passes, with_passes}
use Rattle.standing_models.proofs.PassingTrees.{CaseForm, ExpForm, IndexForm, LExpForm, OfCase, OfExp, OfFieldValue, OfIndex, OfLExp, OfRange, OfStmt}
use Rattle.standing_models.proofs.PassingTrees.{OfSuffix, OfTarget, RangeForm, StmtForm, SuchCase, SuchExp, SuchFieldValue, SuchIndex, SuchLExp, SuchRange}
use Rattle.standing_models.proofs.PassingTrees.{SuchStmt, SuchSuffix, SuchTarget, SuffixForm, first_Case, first_Exp, first_FieldValue, first_Index, first_LExp}
use Rattle.standing_models.proofs.PassingTrees.{first_Range, first_Stmt, first_Suffix, first_Target}
use Rattle.standing_models.proofs.PassingTrees.{rolled_Case, rolled_Exp}
use Rattle.standing_models.proofs.PassingTrees.{rolled_FieldValue, rolled_Index, rolled_LExp, rolled_Range, rolled_Stmt, rolled_Suffix, rolled_Target}

-- ---- a loop's measure is plain

plain_known : (setting : Setting) (names : Tables.Setting) → AreKnown setting names → AreKnown (plainly setting) (in_measure names)
plain_known setting names known =
    (plain_ready setting names [] [] (record { known = known; are = λ name. tt; settled = λ name l is var. none is; counted = tt })).known

module _ (around : Around) (numbers : List Number) (fits : Pattern → Bool) where
  plain_fits : (setting : Setting) (names : Tables.Setting) → Fits around numbers fits setting names
      → Fits around numbers fits (plainly setting) (in_measure names)
  unfolding type_failures
  plain_fits setting names fit = record {
    types = fit.types;
    known = plain_known setting names fit.known;
    values = fit.values;
    added = λ operator. refl;
    converts = fit.converts;
    sizes = λ typ n u is. fit.sizes typ n u is;
    truths = λ typ c u is. fit.truths typ c u is;
    patterns = fit.measures;
    measures = fit.measures;
    unit = fit.unit;
  }

  abbrev Exps : Type 0
  Exps = SuchExp around numbers fits

  -- ---- parts in a list

  abbrev exps : List Exps → List Exp
  exps ys = map (λ (p : Exps). p.0) ys

  each_part : (ys : List Exps) → all_of (map written_exp (exps ys)) ≡ true → (names : Tables.Setting) (bound : Bound.Locals)
      → Uses.each (map failed_exp (exps ys)) names bound ≡ [] → (setting : Setting) (fit : Fits around numbers fits setting names)
      → Converts fit.converts names (joined (map (λ x. in_exp x names.known) (exps ys)))
      → PartsAre around numbers fits setting names fit (map found_exp (exps ys))
  each_part [] q names bound u setting fit v = tt
  each_part (y ∷ ys) q names bound u setting fit v =
      let n = halves fit.converts names (in_exp y.0 names.known) (joined (map (λ x. in_exp x names.known) (exps ys))) v in
      let p = and_parts (written_exp y.0) (all_of (map written_exp (exps ys))) q in
      let h = both_empty (failed_exp y.0 names bound) (Uses.each (map failed_exp (exps ys)) names bound) u in
      (y.1 p.0 names bound h.0 setting fit n.0, each_part ys p.1 names bound h.1 setting fit n.1)

  abbrev suffixes : List (SuchSuffix around numbers fits) → List SuffixTree
  suffixes ys = map (λ (p : SuchSuffix around numbers fits). p.0) ys

  each_suffix : (ys : List (SuchSuffix around numbers fits)) → all_of (map written_suffix (suffixes ys)) ≡ true
      → (names : Tables.Setting) (bound : Bound.Locals)
      → Uses.each (map failed_suffix (suffixes ys)) names bound ≡ [] → (setting : Setting) (fit : Fits around numbers fits setting names)
      → Converts fit.converts names (joined (map (λ x. in_suffix x names.known) (suffixes ys)))
      → SuffixesAre around numbers fits setting names fit (map found_suffix (suffixes ys))
  each_suffix [] q names bound u setting fit v = tt
  each_suffix (y ∷ ys) q names bound u setting fit v =
      let n = halves fit.converts names (in_suffix y.0 names.known) (joined (map (λ x. in_suffix x names.known) (suffixes ys))) v in
      let p = and_parts (written_suffix y.0) (all_of (map written_suffix (suffixes ys))) q in
      let h = both_empty (failed_suffix y.0 names bound) (Uses.each (map failed_suffix (suffixes ys)) names bound) u in
      (y.1 p.0 names bound h.0 setting fit n.0, each_suffix ys p.1 names bound h.1 setting fit n.1)

  abbrev cases : List (SuchCase around numbers fits) → List CaseTree
  cases ys = map (λ (p : SuchCase around numbers fits). p.0) ys

  each_case : (ys : List (SuchCase around numbers fits)) → all_of (map written_case (cases ys)) ≡ true → (names : Tables.Setting) (bound : Bound.Locals)
      → Uses.each (map failed_case (cases ys)) names bound ≡ [] → (setting : Setting) (fit : Fits around numbers fits setting names)
      → Converts fit.converts names (joined (map (λ x. in_case x names.known) (cases ys)))
      → CasesAre around numbers fits setting names fit (map found_case (cases ys))
  each_case [] q names bound u setting fit v = tt
  each_case (y ∷ ys) q names bound u setting fit v =
      let n = halves fit.converts names (in_case y.0 names.known) (joined (map (λ x. in_case x names.known) (cases ys))) v in
      let p = and_parts (written_case y.0) (all_of (map written_case (cases ys))) q in
      let h = both_empty (failed_case y.0 names bound) (Uses.each (map failed_case (cases ys)) names bound) u in
      (y.1 p.0 names bound h.0 setting fit n.0, each_case ys p.1 names bound h.1 setting fit n.1)

  abbrev fields : List (SuchFieldValue around numbers fits) → List FieldValue
  fields ys = map (λ (p : SuchFieldValue around numbers fits). p.0) ys

  each_field : (ys : List (SuchFieldValue around numbers fits)) → all_of (map written_field (fields ys)) ≡ true
      → (names : Tables.Setting) (bound : Bound.Locals)
      → Uses.fields_failures (map failed_field (fields ys)) names bound ≡ [] → (setting : Setting) (fit : Fits around numbers fits setting names)
      → Converts fit.converts names (joined (map (λ x. in_field x names.known) (fields ys)))
      → FieldsAre around numbers fits setting names fit (map found_field (fields ys))
  each_field [] q names bound u setting fit v = tt
  each_field (y ∷ ys) q names bound u setting fit v =
      let n = halves fit.converts names (in_field y.0 names.known) (joined (map (λ x. in_field x names.known) (fields ys))) v in
      let p = and_parts (written_field y.0) (all_of (map written_field (fields ys))) q in
      let field = failed_field y.0 in
      let h = both_empty (Uses.field_failures names field.name ++ field.value names bound)
      (Uses.fields_failures (map failed_field (fields ys)) names bound) u in
      let k = both_empty (Uses.field_failures names field.name) (field.value names bound) h.0 in
      (y.1.1 p.0 names bound k.1 setting fit n.0, each_field ys p.1 names bound h.1 setting fit n.1)

  same_names : (ys : List (SuchFieldValue around numbers fits)) → map (λ (f : FieldPart). f.name) (map found_field (fields ys))
      ≡ Uses.named (map failed_field (fields ys))
  same_names [] = refl
  same_names (y ∷ ys) = λ i. y.1.0 i ∷ same_names ys i

  abbrev targets : List (SuchLExp around numbers fits) → List LExp
  targets ys = map (λ (p : SuchLExp around numbers fits). p.0) ys

  each_target : (ys : List (SuchLExp around numbers fits)) → all_of (map written_lexp (targets ys)) ≡ true → (names : Tables.Setting) (bound : Bound.Locals)
      → Uses.each (map failed_lexp (targets ys)) names bound ≡ [] → (setting : Setting) (fit : Fits around numbers fits setting names)
      → Converts fit.converts names (joined (map (λ x. in_lexp x names.known) (targets ys)))
      → TargetsAre around numbers fits setting names fit (map found_lexp (targets ys))
  each_target [] q names bound u setting fit v = tt
  each_target (y ∷ ys) q names bound u setting fit v =
      let n = halves fit.converts names (in_lexp y.0 names.known) (joined (map (λ x. in_lexp x names.known) (targets ys))) v in
      let p = and_parts (written_lexp y.0) (all_of (map written_lexp (targets ys))) q in
      let h = both_empty (failed_lexp y.0 names bound) (Uses.each (map failed_lexp (targets ys)) names bound) u in
      (y.1 p.0 names bound h.0 setting fit n.0, each_target ys p.1 names bound h.1 setting fit n.1)

  abbrev furthers : List (SuchTarget around numbers fits) → List TargetTree
  furthers ys = map (λ (p : SuchTarget around numbers fits). p.0) ys

  each_further : (ys : List (SuchTarget around numbers fits)) → all_of (map written_target (furthers ys)) ≡ true
      → (names : Tables.Setting) (bound : Bound.Locals)
      → Uses.each (map failed_target (furthers ys)) names bound ≡ [] → (setting : Setting) (fit : Fits around numbers fits setting names)
      → Converts fit.converts names (joined (map (λ x. in_target x names.known) (furthers ys)))
      → FurthersAre around numbers fits setting names fit (map found_target (furthers ys))
  each_further [] q names bound u setting fit v = tt
  each_further (y ∷ ys) q names bound u setting fit v =
      let n = halves fit.converts names (in_target y.0 names.known) (joined (map (λ x. in_target x names.known) (furthers ys))) v in
      let p = and_parts (written_target y.0) (all_of (map written_target (furthers ys))) q in
      let h = both_empty (failed_target y.0 names bound) (Uses.each (map failed_target (furthers ys)) names bound) u in
      (y.1 p.0 names bound h.0 setting fit n.0, each_further ys p.1 names bound h.1 setting fit n.1)

  abbrev stmts : List (SuchStmt around numbers fits) → List Stmt
  stmts ys = map (λ (p : SuchStmt around numbers fits). p.0) ys

  each_statement : (ys : List (SuchStmt around numbers fits)) → all_of (map written_stmt (stmts ys)) ≡ true → (names : Tables.Setting) (bound : Bound.Locals)
      → (Uses.steps (map failed_stmt (stmts ys)) names bound).failures ≡ [] → (setting : Setting) (fit : Fits around numbers fits setting names)
      → Converts fit.converts names (joined (map (λ x. in_stmt x names.known) (stmts ys)))
      → StatementsAre around numbers fits setting names fit (map found_stmt (stmts ys))
  each_statement [] q names bound u setting fit v = tt
  each_statement (y ∷ ys) q names bound u setting fit v =
      let n = halves fit.converts names (in_stmt y.0 names.known) (joined (map (λ x. in_stmt x names.known) (stmts ys))) v in
      let p = and_parts (written_stmt y.0) (all_of (map written_stmt (stmts ys))) q in
      let step = failed_stmt y.0 names bound in
      let h = both_empty step.failures (Uses.steps (map failed_stmt (stmts ys)) names step.locals).failures u in
      (y.1 p.0 names bound h.0 setting fit n.0, each_statement ys p.1 names step.locals h.1 setting fit n.1)

  -- ---- forms

  again : (y : Exp-F (SuchExp around numbers fits) (SuchLExp around numbers fits) (SuchStmt around numbers fits) (SuchSuffix around numbers fits)
      (SuchCase around numbers fits)
      (SuchFieldValue around numbers fits) (SuchIndex around numbers fits) (SuchRange around numbers fits) (SuchTarget around numbers fits))
      → ExpForm around numbers fits (first_Exp around numbers fits y)
  unfolding plain_fits
  again (E.Constant place literal) q names bound u setting fit v = λ locals want e. constant_passes around numbers fits place literal want q
  again (E.Variable name) q names bound u setting fit v = λ locals want e.
      name_passes around numbers fits setting names fit name (local_of name.text locals) want
  again (E.Call name ys) q names bound u setting fit v =
      let h = both_empty (unless (is_callee names name.text) name) (Uses.each (map failed_exp (exps ys)) names bound) u in
      named_passes around numbers fits setting names fit name (map found_exp (exps ys)) (each_part ys q names bound h.1 setting fit v)
  again (E.Prefixed place prefix a) q names bound u setting fit v =
      prefix_passes around numbers fits setting names fit place prefix (found_exp a.0) (a.1 q names bound u setting fit v)
  again (E.Infix place operator a b) q names bound u setting fit v =
      let n = halves fit.converts names (in_exp a.0 names.known ++ in_exp b.0 names.known) [] v in
      let n2 = halves fit.converts names (in_exp a.0 names.known) (in_exp b.0 names.known) n.0 in
      let p = and_parts (written_exp a.0) (written_exp b.0) q in
      let h = both_empty (failed_exp a.0 names bound) (failed_exp b.0 names bound) u in
      infix_passes around numbers fits setting names fit operator place (found_exp a.0) (found_exp b.0) (a.1 p.0 names bound h.0 setting fit n2.0)
      (b.1 p.1 names bound h.1 setting fit n2.1)
  again (E.Leave place leaving a) q names bound u setting fit v =
      let h = both_empty (Uses.leave_failures names place leaving) (failed_exp a.0 names bound) u in
      leave_passes around numbers fits setting names fit place leaving (found_exp a.0) (a.1 q names bound h.1 setting fit v)
  again (E.Group place brackets ys) q names bound u setting fit v =
      group_passes around numbers fits setting names fit place brackets (elaborations (map found_exp (exps ys)))
      (each_of around numbers fits setting names fit (map found_exp (exps ys))
      (each_part ys (group_all brackets (map written_exp (exps ys)) q) names bound u setting fit v))
  again (E.Part place a ys) q names bound u setting fit v =
      let n = halves fit.converts names (in_exp a.0 names.known) (joined (map (λ x. in_suffix x names.known) (suffixes ys))) v in
      let p = and_parts (written_exp a.0) (all_of (map written_suffix (suffixes ys))) q in
      let h = both_empty (failed_exp a.0 names bound) (Uses.each (map failed_suffix (suffixes ys)) names bound) u in
      part_passes around numbers fits setting names fit place (found_exp a.0) (map found_suffix (suffixes ys)) (a.1 p.0 names bound h.0 setting fit n.0)
      (each_suffix ys p.1 names bound h.1 setting fit n.1)
  again (E.Typed place a typ) q names bound u setting fit v =
      let h = both_empty (failed_exp a.0 names bound) (type_failures Sort.Type typ names) u in
      typed_passes around numbers fits setting names fit place (found_exp a.0) typ (a.1 q names bound h.0 setting fit v)
  again (E.Assign place target more a) q names bound u setting fit v =
      let n = halves fit.converts names (in_lexp target.0 names.known ++ joined (map (λ x. in_target x names.known) (furthers more)))
      (in_exp a.0 names.known) v in
      let n2 = halves fit.converts names (in_lexp target.0 names.known) (joined (map (λ x. in_target x names.known) (furthers more))) n.0 in
      let p = and_parts (written_lexp target.0 && all_of (map written_target (furthers more))) (written_exp a.0) q in
      let r = and_parts (written_lexp target.0) (all_of (map written_target (furthers more))) p.0 in
      let h = both_empty (failed_lexp target.0 names bound ++ Uses.each (map failed_target (furthers more)) names bound) (failed_exp a.0 names bound) u in
      let k = both_empty (failed_lexp target.0 names bound) (Uses.each (map failed_target (furthers more)) names bound) h.0 in
      assign_passes around numbers fits setting names fit place (found_lexp target.0) (map found_target (furthers more)) (found_exp a.0)
      (target.1 r.0 names bound k.0 setting fit n2.0) (each_further more r.1 names bound k.1 setting fit n2.1) (a.1 p.1 names bound h.1 setting fit n.1)
  again (E.Block place ss None) q names bound u setting fit v =
      let n = halves fit.converts names (joined (map (λ x. in_stmt x names.known) (stmts ss))) [] v in
      let p = and_parts (all_of (map written_stmt (stmts ss))) true q in
      let h = both_empty (Uses.steps (map failed_stmt (stmts ss)) names bound).failures [] u in
      block_passes around numbers fits setting names fit place (map found_stmt (stmts ss)) None (each_statement ss p.0 names bound h.0 setting fit n.0) tt
  again (E.Block place ss (Some a)) q names bound u setting fit v =
      let n = halves fit.converts names (joined (map (λ x. in_stmt x names.known) (stmts ss))) (in_exp a.0 names.known) v in
      let p = and_parts (all_of (map written_stmt (stmts ss))) (written_exp a.0) q in
      let steps = Uses.steps (map failed_stmt (stmts ss)) names bound in
      let h = both_empty steps.failures (failed_exp a.0 names steps.locals) u in
      block_passes around numbers fits setting names fit place (map found_stmt (stmts ss)) (Some (found_exp a.0))
      (each_statement ss p.0 names bound h.0 setting fit n.0) (a.1 p.1 names steps.locals h.1 setting fit n.1)
  again (E.Let place pattern a b) q names bound u setting fit v =
      let n = halves fit.converts names (in_exp a.0 names.known ++ pattern_callees names.known pattern) (in_exp b.0 names.known) v in
      let n2 = halves fit.converts names (in_exp a.0 names.known) (pattern_callees names.known pattern) n.0 in
      let p = and_parts (pattern_written pattern && written_exp a.0) (written_exp b.0) q in
      let r = and_parts (pattern_written pattern) (written_exp a.0) p.0 in
      let inner = behind (binds names.known pattern) bound in
      let h = both_empty (failed_exp a.0 names bound ++ pattern_failures names pattern) (failed_exp b.0 names inner) u in
      let k = both_empty (failed_exp a.0 names bound) (pattern_failures names pattern) h.0 in
      let_passes around numbers fits setting names fit place pattern (found_exp a.0) (found_exp b.0) (a.1 r.1 names bound k.0 setting fit n2.0) k.1 r.0 n2.1
      (b.1 p.1 names inner h.1 setting fit n.1)
  again (E.Var place name typ a b) q names bound u setting fit v =
      let n = halves fit.converts names (in_exp a.0 names.known) (in_exp b.0 names.known) v in
      let p = and_parts (written_exp a.0) (written_exp b.0) q in
      let inner = Bound.variable name ∷ bound in
      let h = both_empty (Uses.maybe_type typ names ++ failed_exp a.0 names bound) (failed_exp b.0 names inner) u in
      let k = both_empty (Uses.maybe_type typ names) (failed_exp a.0 names bound) h.0 in
      var_passes around numbers fits setting names fit place name typ (found_exp a.0) (found_exp b.0) (a.1 p.0 names bound k.1 setting fit n.0)
      (b.1 p.1 names inner h.1 setting fit n.1)
  again (E.If place a b None) q names bound u setting fit v =
      let n = halves fit.converts names (in_exp a.0 names.known ++ in_exp b.0 names.known) [] v in
      let n2 = halves fit.converts names (in_exp a.0 names.known) (in_exp b.0 names.known) n.0 in
      let p = and_parts (written_exp a.0 && written_exp b.0) true q in
      let r = and_parts (written_exp a.0) (written_exp b.0) p.0 in
      let h = both_empty (failed_exp a.0 names bound ++ failed_exp b.0 names bound) [] u in
      let k = both_empty (failed_exp a.0 names bound) (failed_exp b.0 names bound) h.0 in
      if_passes around numbers fits setting names fit place (found_exp a.0) (found_exp b.0) None (a.1 r.0 names bound k.0 setting fit n2.0)
      (b.1 r.1 names bound k.1 setting fit n2.1) tt
  again (E.If place a b (Some c)) q names bound u setting fit v =
      let n = halves fit.converts names (in_exp a.0 names.known ++ in_exp b.0 names.known) (in_exp c.0 names.known) v in
      let n2 = halves fit.converts names (in_exp a.0 names.known) (in_exp b.0 names.known) n.0 in
      let p = and_parts (written_exp a.0 && written_exp b.0) (written_exp c.0) q in
      let r = and_parts (written_exp a.0) (written_exp b.0) p.0 in
      let h = both_empty (failed_exp a.0 names bound ++ failed_exp b.0 names bound) (failed_exp c.0 names bound) u in
      let k = both_empty (failed_exp a.0 names bound) (failed_exp b.0 names bound) h.0 in
      if_passes around numbers fits setting names fit place (found_exp a.0) (found_exp b.0) (Some (found_exp c.0)) (a.1 r.0 names bound k.0 setting fit n2.0)
      (b.1 r.1 names bound k.1 setting fit n2.1) (c.1 p.1 names bound h.1 setting fit n.1)
  again (E.Choose place Match a ys) q names bound u setting fit v =
      let n = halves fit.converts names (in_exp a.0 names.known) (joined (map (λ x. in_case x names.known) (cases ys))) v in
      let p = and_parts (written_exp a.0) (all_of (map written_case (cases ys))) q in
      let h = both_empty (failed_exp a.0 names bound) (Uses.each (map failed_case (cases ys)) names bound) u in
      match_passes around numbers fits setting names fit place (found_exp a.0) (map found_case (cases ys)) (a.1 p.0 names bound h.0 setting fit n.0)
      (each_case ys p.1 names bound h.1 setting fit n.1)
  again (E.Choose place Try a ys) q names bound u setting fit v =
      let n = halves fit.converts names (in_exp a.0 names.known) (joined (map (λ x. in_case x names.known) (cases ys))) v in
      let p = and_parts (written_exp a.0) (all_of (map written_case (cases ys))) q in
      let h = both_empty (failed_exp a.0 names bound) (Uses.each (map failed_case (cases ys)) names bound) u in
      try_passes around numbers fits setting names fit place (found_exp a.0) (map found_case (cases ys)) (a.1 p.0 names bound h.0 setting fit n.0)
      (each_case ys p.1 names bound h.1 setting fit n.1)
  again (E.Foreach place name range a) q names bound u setting fit v =
      let n = halves fit.converts names (in_range range.0 names.known) (in_exp a.0 names.known) v in
      let p = and_parts (written_range range.0) (written_exp a.0) q in
      let inner = Bound.constant name ∷ bound in
      let h = both_empty (failed_range range.0 names bound) (failed_exp a.0 names inner) u in
      foreach_passes around numbers fits setting names fit place name (found_range range.0) (found_exp a.0) (range.1 p.0 names bound h.0 setting fit n.0)
      (a.1 p.1 names inner h.1 setting fit n.1)
  again (E.Loop place looping None a b) q names bound u setting fit v = not_empty u
  again (E.Loop place looping (Some m) a b) q names bound u setting fit v =
      let n = halves fit.converts names (in_exp a.0 names.known) (in_exp b.0 names.known) v in
      let p = and_parts (written_exp m.0 && written_exp a.0) (written_exp b.0) q in
      let r = and_parts (written_exp m.0) (written_exp a.0) p.0 in
      let h = both_empty (failed_exp m.0 (in_measure names) bound ++ failed_exp a.0 names bound) (failed_exp b.0 names bound) u in
      let k = both_empty (failed_exp m.0 (in_measure names) bound) (failed_exp a.0 names bound) h.0 in
      loop_passes around numbers fits setting names fit place looping (found_exp m.0) (found_exp a.0) (found_exp b.0)
      (m.1 r.0 (in_measure names) bound k.0 (plainly setting) (plain_fits setting names fit)
      (none_in_measure fit.converts names (in_exp m.0 names.known))) (a.1 r.1 names bound k.1 setting fit n.0)
      (b.1 p.1 names bound h.1 setting fit n.1)
  again (E.Update place a i b) q names bound u setting fit v =
      let n = halves fit.converts names (in_exp a.0 names.known ++ in_index i.0 names.known) (in_exp b.0 names.known) v in
      let n2 = halves fit.converts names (in_exp a.0 names.known) (in_index i.0 names.known) n.0 in
      let p = and_parts (written_exp a.0 && written_index i.0) (written_exp b.0) q in
      let r = and_parts (written_exp a.0) (written_index i.0) p.0 in
      let h = both_empty (failed_exp a.0 names bound ++ failed_index i.0 names bound) (failed_exp b.0 names bound) u in
      let k = both_empty (failed_exp a.0 names bound) (failed_index i.0 names bound) h.0 in
      update_passes around numbers fits setting names fit place (found_exp a.0) (found_index i.0) (found_exp b.0) (a.1 r.0 names bound k.0 setting fit n2.0)
      (i.1 r.1 names bound k.1 setting fit n2.1) (b.1 p.1 names bound h.1 setting fit n.1)
  again (E.Struct place name ys) q names bound u setting fit v =
      let ns = Uses.named (map failed_field (fields ys)) in
      let h = both_empty (Uses.struct_failures names name ++ clashes ns) (Uses.fields_failures (map failed_field (fields ys)) names bound) u in
      let k = both_empty (Uses.struct_failures names name) (clashes ns) h.0 in
      struct_passes around numbers fits setting names fit place name (map found_field (fields ys)) k.0
      (names_apart (map found_field (fields ys)) ns (same_names ys) k.1) (each_field ys q names bound h.1 setting fit v)
  again (E.With place a ys) q names bound u setting fit v =
      let n = halves fit.converts names (in_exp a.0 names.known) (joined (map (λ x. in_field x names.known) (fields ys))) v in
      let p = and_parts (written_exp a.0) (all_of (map written_field (fields ys))) q in
      let ns = Uses.named (map failed_field (fields ys)) in
      let h = both_empty (failed_exp a.0 names bound ++ clashes ns) (Uses.fields_failures (map failed_field (fields ys)) names bound) u in
      let k = both_empty (failed_exp a.0 names bound) (clashes ns) h.0 in
      with_passes around numbers fits setting names fit place (found_exp a.0) (map found_field (fields ys)) (a.1 p.0 names bound k.0 setting fit n.0)
      (each_field ys p.1 names bound h.1 setting fit n.1)
  again (E.OfType place asking typ) q names bound u setting fit v = of_type_passes around numbers fits setting names fit place asking typ u
  again (E.Assert place a text) q names bound u setting fit v =
      assert_passes around numbers fits setting names fit place (found_exp a.0) text (a.1 q names bound u setting fit v)

  target_again : (y : LExp-F (SuchExp around numbers fits) (SuchLExp around numbers fits) (SuchStmt around numbers fits) (SuchSuffix around numbers fits)
      (SuchCase around numbers fits) (SuchFieldValue around numbers fits) (SuchIndex around numbers fits) (SuchRange around numbers fits)
      (SuchTarget around numbers fits))
      → LExpForm around numbers fits (first_LExp around numbers fits y)
  target_again (E.ToName name) q names bound u setting fit v =
      record { parts = λ locals e. name_aims around numbers fits setting names fit name (local_of name.text locals) (setting.value name.text); call = tt }
  target_again (E.ToCall name ys) q names bound u setting fit v =
      let h = both_empty (unless (is_callee names name.text) name) (Uses.each (map failed_exp (exps ys)) names bound) u in
      let args = each_part ys q names bound h.1 setting fit v in
      record { parts = λ locals e. call_aims around numbers fits setting names fit name (map found_exp (exps ys)) args locals e; call = args }
  target_again (E.ToTuple place ys) q names bound u setting fit v = record {
    parts = λ locals e. each_aims around numbers fits setting names fit (map found_lexp (targets ys)) (each_target ys q names bound u setting fit v) locals e;
    call = tt;
  }
  target_again (E.ToPart place t ys) q names bound u setting fit v =
      let n = halves fit.converts names (in_lexp t.0 names.known) (joined (map (λ x. in_suffix x names.known) (suffixes ys))) v in
      let r = and_parts (written_lexp t.0 && all_of (map written_suffix (suffixes ys))) (is_part (map written_suffix (suffixes ys))) q in
      let p = and_parts (written_lexp t.0) (all_of (map written_suffix (suffixes ys))) r.0 in
      let h = both_empty (failed_lexp t.0 names bound) (Uses.each (map failed_suffix (suffixes ys)) names bound) u in
      let base = t.1 p.0 names bound h.0 setting fit n.0 in record {
        parts = λ locals e. part_aims around numbers fits setting names fit (last_place place (map found_suffix (suffixes ys))) place (found_lexp t.0).place
            (read_aimed (found_lexp t.0).call setting locals ((found_lexp t.0).aim setting locals)) (map found_suffix (suffixes ys))
            (read_aims around numbers fits setting names fit (found_lexp t.0).call base.call locals ((found_lexp t.0).aim setting locals) (base.parts locals))
            (each_suffix ys p.1 names bound h.1 setting fit n.1) locals e;
        call = tt;
      }

  statement_again : (y : Stmt-F (SuchExp around numbers fits) (SuchLExp around numbers fits) (SuchStmt around numbers fits) (SuchSuffix around numbers fits)
      (SuchCase around numbers fits) (SuchFieldValue around numbers fits) (SuchIndex around numbers fits) (SuchRange around numbers fits)
      (SuchTarget around numbers fits))
      → StmtForm around numbers fits (first_Stmt around numbers fits y)
  statement_again (E.Evaluate a) q names bound u setting fit v =
      evaluated_passes around numbers fits setting names fit (found_exp a.0) (a.1 q names bound u setting fit v)
  statement_again (E.Define place pattern a) q names bound u setting fit v =
      let n = halves fit.converts names (in_exp a.0 names.known) (pattern_callees names.known pattern) v in
      let p = and_parts (pattern_written pattern) (written_exp a.0) q in
      let h = both_empty (failed_exp a.0 names bound) (pattern_failures names pattern) u in
      defined_passes around numbers fits setting names fit place pattern (found_exp a.0) (a.1 p.1 names bound h.0 setting fit n.0) h.1 p.0 n.1
  statement_again (E.Declare place name typ a) q names bound u setting fit v =
      let h = both_empty (Uses.maybe_type typ names) (failed_exp a.0 names bound) u in
      declare_passes around numbers fits setting names fit place name typ (found_exp a.0) (a.1 q names bound h.1 setting fit v)

  suffix_again : (y : Suffix-F (SuchExp around numbers fits) (SuchLExp around numbers fits) (SuchStmt around numbers fits) (SuchSuffix around numbers fits)
      (SuchCase around numbers fits) (SuchFieldValue around numbers fits) (SuchIndex around numbers fits) (SuchRange around numbers fits)
      (SuchTarget around numbers fits))
      → SuffixForm around numbers fits (first_Suffix around numbers fits y)
  suffix_again (E.Field name) q names bound u setting fit v = λ locals e. tt
  suffix_again (E.At place i) q names bound u setting fit v =
      index_passes around numbers fits setting names fit place (found_index i.0) (i.1 q names bound u setting fit v)

  case_by : (pattern : Pat) (guard : Option Exps) (body : Exps)
      → CaseForm around numbers fits (first_Case around numbers fits (record { pattern = pattern; guard = guard; body = body }))
  case_by pattern None body q names bound u setting fit v =
      let n = halves fit.converts names (pattern_callees names.known pattern ++ []) (in_exp body.0 names.known) v in
      let n2 = halves fit.converts names (pattern_callees names.known pattern) [] n.0 in
      let p = and_parts (pattern_written pattern && true) (written_exp body.0) q in
      let r = and_parts (pattern_written pattern) true p.0 in
      let inner = behind (binds names.known pattern) bound in
      let h = both_empty (pattern_failures names pattern ++ []) (failed_exp body.0 names inner) u in
      let k = both_empty (pattern_failures names pattern) [] h.0 in
      record { named = k.0; limits = r.0; converts = n2.0; guard = tt; body = body.1 p.1 names inner h.1 setting fit n.1 }
  case_by pattern (Some guard) body q names bound u setting fit v =
      let n = halves fit.converts names (pattern_callees names.known pattern ++ in_exp guard.0 names.known) (in_exp body.0 names.known) v in
      let n2 = halves fit.converts names (pattern_callees names.known pattern) (in_exp guard.0 names.known) n.0 in
      let p = and_parts (pattern_written pattern && written_exp guard.0) (written_exp body.0) q in
      let r = and_parts (pattern_written pattern) (written_exp guard.0) p.0 in
      let inner = behind (binds names.known pattern) bound in
      let h = both_empty (pattern_failures names pattern ++ failed_exp guard.0 names inner) (failed_exp body.0 names inner) u in
      let k = both_empty (pattern_failures names pattern) (failed_exp guard.0 names inner) h.0 in
      record {
        named = k.0;
        limits = r.0;
        converts = n2.0;
        guard = guard.1 r.1 names inner k.1 setting fit n2.1;
        body = body.1 p.1 names inner h.1 setting fit n.1;
      }

  index_by : (first : Exps) (last : Option Exps) → IndexForm around numbers fits (first_Index around numbers fits (record { first = first; last = last }))
  index_by first None q names bound u setting fit v =
      let n = halves fit.converts names (in_exp first.0 names.known) [] v in
      let h = both_empty (failed_exp first.0 names bound) [] u in
      (first.1 (and_parts (written_exp first.0) true q).0 names bound h.0 setting fit n.0, tt)
  index_by first (Some last) q names bound u setting fit v =
      let n = halves fit.converts names (in_exp first.0 names.known) (in_exp last.0 names.known) v in
      let p = and_parts (written_exp first.0) (written_exp last.0) q in
      let h = both_empty (failed_exp first.0 names bound) (failed_exp last.0 names bound) u in
      (first.1 p.0 names bound h.0 setting fit n.0, last.1 p.1 names bound h.1 setting fit n.1)

  range_by : (from to : Exps) (by : Option Exps) (direction : _)
      → RangeForm around numbers fits (first_Range around numbers fits (record { from = from; to = to; by = by; direction = direction }))
  range_by from to None direction q names bound u setting fit v =
      let n = halves fit.converts names (in_exp from.0 names.known ++ in_exp to.0 names.known) [] v in
      let n2 = halves fit.converts names (in_exp from.0 names.known) (in_exp to.0 names.known) n.0 in
      let p = and_parts (written_exp from.0 && written_exp to.0) true q in
      let r = and_parts (written_exp from.0) (written_exp to.0) p.0 in
      let h = both_empty (failed_exp from.0 names bound ++ failed_exp to.0 names bound) [] u in
      let k = both_empty (failed_exp from.0 names bound) (failed_exp to.0 names bound) h.0 in
      record { from = from.1 r.0 names bound k.0 setting fit n2.0; to = to.1 r.1 names bound k.1 setting fit n2.1; by = tt }
  range_by from to (Some by) direction q names bound u setting fit v =
      let n = halves fit.converts names (in_exp from.0 names.known ++ in_exp to.0 names.known) (in_exp by.0 names.known) v in
      let n2 = halves fit.converts names (in_exp from.0 names.known) (in_exp to.0 names.known) n.0 in
      let p = and_parts (written_exp from.0 && written_exp to.0) (written_exp by.0) q in
      let r = and_parts (written_exp from.0) (written_exp to.0) p.0 in
      let h = both_empty (failed_exp from.0 names bound ++ failed_exp to.0 names bound) (failed_exp by.0 names bound) u in
      let k = both_empty (failed_exp from.0 names bound) (failed_exp to.0 names bound) h.0 in
      record {
        from = from.1 r.0 names bound k.0 setting fit n2.0;
        to = to.1 r.1 names bound k.1 setting fit n2.1;
        by = by.1 p.1 names bound h.1 setting fit n.1;
      }

  -- ---- the trees

  each_passes : (e : Exp) → OfExp around numbers fits e
  each_passes =
      ind-Exp (OfExp around numbers fits) (OfLExp around numbers fits) (OfStmt around numbers fits) (OfSuffix around numbers fits) (OfCase around numbers fits)
      (OfFieldValue around numbers fits) (OfIndex around numbers fits) (OfRange around numbers fits) (OfTarget around numbers fits)
      (λ e y is. subst (λ d. OfExp around numbers fits (roll-Exp d)) is (rolled_Exp around numbers fits (first_Exp around numbers fits y) (again y)))
      (λ e y is. subst (λ d. OfLExp around numbers fits (roll-LExp d)) is (rolled_LExp around numbers fits (first_LExp around numbers fits y) (target_again y)))
      (λ e y is. subst (λ d. OfStmt around numbers fits (roll-Stmt d)) is
      (rolled_Stmt around numbers fits (first_Stmt around numbers fits y) (statement_again y)))
      (λ e y is. subst (λ d. OfSuffix around numbers fits (roll-Suffix d)) is
      (rolled_Suffix around numbers fits (first_Suffix around numbers fits y) (suffix_again y)))
      (λ e y is. subst (λ d. OfCase around numbers fits (roll-Case d)) is
      (rolled_Case around numbers fits (first_Case around numbers fits y) (case_by y.pattern y.guard y.body)))
      (λ e y is. subst (λ d. OfFieldValue around numbers fits (roll-FieldValue d)) is
      (rolled_FieldValue around numbers fits (first_FieldValue around numbers fits y)
      (refl, λ q names bound u setting fit v. y.value.1 q names bound u setting fit v)))
      (λ e y is. subst (λ d. OfIndex around numbers fits (roll-Index d)) is
      (rolled_Index around numbers fits (first_Index around numbers fits y) (index_by y.first y.last)))
      (λ e y is. subst (λ d. OfRange around numbers fits (roll-Range d)) is
      (rolled_Range around numbers fits (first_Range around numbers fits y) (range_by y.from y.to y.by y.direction)))
      (λ e y is. subst (λ d. OfTarget around numbers fits (roll-Target d)) is
      (rolled_Target around numbers fits (first_Target around numbers fits y) (λ q names bound u setting fit v. y.to.1 q names bound u setting fit v)))

  pub found_passes : (e : Exp) → written e ≡ true → (names : Tables.Setting) (bound : Bound.Locals) → Uses.expression_failures e names bound ≡ []
      → (setting : Setting) (fit : Fits around numbers fits setting names) → Converts fit.converts names (in_exp e names.known)
      → Tested around numbers fits setting (found_exp e).elaborate
  found_passes e q names bound u setting fit v = each_passes e q names bound u setting fit v
