-- Statements, cases, fields, indices and suffixes over their parts, and blocks over their statements.
use Rattle.std.proofs.Common.{◌≡◌, Bool, true, false, List, [], ◌∷◌, map, refl, sym, ◌∙◌, ap, subst, Option, Some, None}
use Rattle.sail_base.specs.declared.place.Place.{Place}
use Rattle.sail_syntax.specs.declared.name.Name.{Name}
use Rattle.sail_syntax.specs.declared.words.Direction.{Direction}
use Rattle.sail_syntax.specs.declared.types.TyExp.{TyExp}
use Rattle.sail_syntax.specs.declared.patterns.Pat.{Pat}
use Rattle.sail_syntax.specs.declared.expressions.Exp.{Exp}
use Rattle.sail_syntax.specs.declared.expressions.Exp.TheFolds.{fold-roll-Case, fold-roll-FieldValue, fold-roll-Index, fold-roll-Range, fold-roll-Stmt}
use Rattle.sail_syntax.specs.declared.expressions.Exp.TheFolds.{fold-roll-Suffix, fold-roll-Target}
use Rattle.sail_syntax.specs.declared.expressions.Exp.TheOpen as E
use Rattle.sail_syntax.specs.declared.expressions.Exp.TheViews.{out-roll-Stmt}
use Rattle.sail_syntax.specs.declared.expressions.LExp.{LExp}
use Rattle.sail_syntax.specs.declared.expressions.Stmt.{Stmt, roll-Stmt}
use Rattle.sail_syntax.specs.declared.expressions.Stmt.TheVariants as S
use Rattle.sail_syntax.specs.declared.expressions.Suffix.{Suffix, roll-Suffix}
use Rattle.sail_syntax.specs.declared.expressions.Suffix.TheVariants as F
use Rattle.sail_syntax.specs.declared.expressions.Case.{roll-Case}
use Rattle.sail_syntax.specs.declared.expressions.FieldValue.{roll-FieldValue}
use Rattle.sail_syntax.specs.declared.expressions.Index.{Index, roll-Index}
use Rattle.sail_syntax.specs.declared.expressions.Range.{roll-Range}
use Rattle.sail_syntax.specs.declared.expressions.Target.{roll-Target}
use Rattle.sail_grammar.specs.ExpTrees.{block, exp_of_statement, exp_or, part_last, parted, statement_value, value_if}
use Rattle.sail_grammar.specs.Leaves.{nowhere}
use Rattle.shape_joins.proofs.JoinsLeast.{none, some_same}
use Rattle.shape_joins.proofs.Order.{two}
use Rattle.shape_meanings.specs.Trees as Trees
use Rattle.shape_meanings.specs.Trees.{pattern_written}
use Rattle.shape_meanings.specs.Whole.{all_of}
use Rattle.shape_meanings.proofs.Folds.{OverTrees, written_Case, written_Index, written_Range, written_Stmt, written_Suffix}
use Rattle.shape_meanings.proofs.Folds.{written_case, written_field, written_index, written_lexp, written_range, written_stmt}
use Rattle.shape_meanings.proofs.Folds.{written_suffix, written_target}
use Rattle.text_progress.proofs.ExpForms.{FineExp, FineIf, block_fine, in_brackets_fine}

-- ---- parts of expressions

case_form : (x : OverTrees E.Case-F) → Trees.case_form (written_Case x) ≡ true → written_case (roll-Case x) ≡ true
case_form x h = fold-roll-Case Bool Bool Bool Bool Bool Bool Bool Bool Bool
    Trees.expression_form Trees.target_form Trees.statement_form Trees.suffix_form Trees.case_form Trees.field_form Trees.index_form
    Trees.range_form Trees.further_form x ∙ h

pub case_fine : (p : Pat) (o : Option Exp) (a : Exp) → pattern_written p ≡ true → FineIf o → FineExp a
    → written_case (roll-Case (record { pattern = p; guard = o; body = a })) ≡ true
case_fine p None a w f h = case_form (record { pattern = p; guard = None; body = a }) (two _ _ (two _ _ w refl) h.is_written)
case_fine p (Some e) a w f h = case_form (record { pattern = p; guard = Some e; body = a }) (two _ _ (two _ _ w f.is_written) h.is_written)

pub field_fine : (name : Name) (a : Exp) → FineExp a → written_field (roll-FieldValue (record { name = name; value = a })) ≡ true
field_fine name a h = fold-roll-FieldValue Bool Bool Bool Bool Bool Bool Bool Bool Bool
    Trees.expression_form Trees.target_form Trees.statement_form Trees.suffix_form Trees.case_form Trees.field_form Trees.index_form
    Trees.range_form Trees.further_form (record { name = name; value = a }) ∙ h.is_written

index_form : (x : OverTrees E.Index-F) → Trees.index_form (written_Index x) ≡ true → written_index (roll-Index x) ≡ true
index_form x h = fold-roll-Index Bool Bool Bool Bool Bool Bool Bool Bool Bool
    Trees.expression_form Trees.target_form Trees.statement_form Trees.suffix_form Trees.case_form Trees.field_form Trees.index_form
    Trees.range_form Trees.further_form x ∙ h

pub index_fine : (a : Exp) (o : Option Exp) → FineExp a → FineIf o → written_index (roll-Index (record { first = a; last = o })) ≡ true
index_fine a None h f = index_form (record { first = a; last = None }) (two _ _ h.is_written refl)
index_fine a (Some e) h f = index_form (record { first = a; last = Some e }) (two _ _ h.is_written f.is_written)

range_form : (x : OverTrees E.Range-F) → Trees.range_form (written_Range x) ≡ true → written_range (roll-Range x) ≡ true
range_form x h = fold-roll-Range Bool Bool Bool Bool Bool Bool Bool Bool Bool
    Trees.expression_form Trees.target_form Trees.statement_form Trees.suffix_form Trees.case_form Trees.field_form Trees.index_form
    Trees.range_form Trees.further_form x ∙ h

pub range_fine : (a b : Exp) (o : Option Exp) (d : Direction) → FineExp a → FineExp b → FineIf o
    → written_range (roll-Range (record { from = a; to = b; by = o; direction = d })) ≡ true
range_fine a b None d h k f =
    range_form (record { from = a; to = b; by = None; direction = d }) (two _ _ (two _ _ h.is_written k.is_written) refl)
range_fine a b (Some e) d h k f =
    range_form (record { from = a; to = b; by = Some e; direction = d }) (two _ _ (two _ _ h.is_written k.is_written) f.is_written)

pub further_fine : (place : Place) (l : LExp) → written_lexp l ≡ true → written_target (roll-Target (record { place = place; to = l })) ≡ true
further_fine place l h = fold-roll-Target Bool Bool Bool Bool Bool Bool Bool Bool Bool
    Trees.expression_form Trees.target_form Trees.statement_form Trees.suffix_form Trees.case_form Trees.field_form Trees.index_form
    Trees.range_form Trees.further_form (record { place = place; to = l }) ∙ h

suffix_form : (x : OverTrees E.Suffix-F) (s : Suffix) → roll-Suffix x ≡ s → Trees.suffix_form (written_Suffix x) ≡ true → written_suffix s ≡ true
suffix_form x s same h = ap written_suffix (sym same) ∙ fold-roll-Suffix Bool Bool Bool Bool Bool Bool Bool Bool Bool
    Trees.expression_form Trees.target_form Trees.statement_form Trees.suffix_form Trees.case_form Trees.field_form Trees.index_form
    Trees.range_form Trees.further_form x ∙ h

pub dot_fine : (name : Name) → written_suffix (F.Field name) ≡ true
dot_fine name = suffix_form (E.Field name) (F.Field name) (F.rolls-Field name) refl

pub at_fine : (place : Place) (i : Index) → written_index i ≡ true → written_suffix (F.At place i) ≡ true
at_fine place i h = suffix_form (E.At place i) (F.At place i) (F.rolls-At place i) h

-- ---- statements

-- a statement as the grammar has it, and so is the expression that it is, if it is one
pub record FineStmt (s : Stmt) : Type 0 where
  pub is_written : written_stmt s ≡ true
  pub value : (e : Exp) → value_if s ≡ Some e → FineExp e

abbrev pub FineStmts : List Stmt → Type 0
FineStmts [] = Unit {0}
FineStmts (s ∷ ss) = FineStmt s × FineStmts ss

stmt_form : (x : OverTrees E.Stmt-F) (s : Stmt) → roll-Stmt x ≡ s → Trees.statement_form (written_Stmt x) ≡ true
    → ((e : Exp) → statement_value x ≡ Some e → FineExp e) → FineStmt s
stmt_form x s same h value = subst FineStmt same (record {
  is_written = fold-roll-Stmt Bool Bool Bool Bool Bool Bool Bool Bool Bool
      Trees.expression_form Trees.target_form Trees.statement_form Trees.suffix_form Trees.case_form Trees.field_form Trees.index_form
      Trees.range_form Trees.further_form x ∙ h;
  value = λ e k. value e (ap statement_value (sym (out-roll-Stmt x)) ∙ k);
})

pub evaluate_fine : (a : Exp) → FineExp a → FineStmt (S.Evaluate a)
evaluate_fine a h = stmt_form (E.Evaluate a) (S.Evaluate a) (S.rolls-Evaluate a) h.is_written (λ e k. subst FineExp (some_same a e k) h)

pub define_fine : (place : Place) (p : Pat) (a : Exp) → pattern_written p ≡ true → FineExp a → FineStmt (S.Define place p a)
define_fine place p a w h =
    stmt_form (E.Define place p a) (S.Define place p a) (S.rolls-Define place p a) (two _ _ w h.is_written) (λ e k. none k)

pub declare_fine : (place : Place) (name : Name) (typ : Option TyExp) (a : Exp) → FineExp a → FineStmt (S.Declare place name typ a)
declare_fine place name typ a h =
    stmt_form (E.Declare place name typ a) (S.Declare place name typ a) (S.rolls-Declare place name typ a) h.is_written (λ e k. none k)

-- ---- blocks

pub fine_if : (o : Option Exp) → ((e : Exp) → o ≡ Some e → FineExp e) → FineIf o
fine_if None f = tt
fine_if (Some e) f = f e refl

-- the expression that a statement is
pub statement_exp : (s : Stmt) → FineStmt s → FineExp (exp_of_statement s)
statement_exp s h = or_none (value_if s) (fine_if (value_if s) h.value)
  where
    or_none : (o : Option Exp) → FineIf o → FineExp (exp_or o)
    or_none None f = in_brackets_fine nowhere [] tt
    or_none (Some e) f = f

abbrev FineParts : List Stmt × Option Exp → Type 0
FineParts parts = (all_of (map written_stmt parts.0) ≡ true) × FineIf parts.1

parted_fine : (o : Option Exp) (s : Stmt) → written_stmt s ≡ true → FineIf o → FineParts (parted o s)
parted_fine None s h f = (two _ _ h refl, tt)
parted_fine (Some e) s h f = (refl, f)

parts_fine : (ss : List Stmt) → FineStmts ss → FineParts (part_last ss)
parts_fine [] f = (refl, tt)
parts_fine (s ∷ []) f = parted_fine (value_if s) s f.0.is_written (fine_if (value_if s) f.0.value)
parts_fine (s ∷ a ∷ ss) f = let rest = parts_fine (a ∷ ss) f.1 in (two _ _ f.0.is_written rest.0, rest.1)

all_statements : (ss : List Stmt) → FineStmts ss → all_of (map written_stmt ss) ≡ true
all_statements [] f = refl
all_statements (s ∷ ss) f = two _ _ f.0.is_written (all_statements ss f.1)

pub statements_fine : (place : Place) (ss : List Stmt) (closed : Bool) → FineStmts ss → FineExp (block place ss closed)
statements_fine place ss true f = block_fine place ss None (all_statements ss f) tt
statements_fine place ss false f = let parts = parts_fine ss f in block_fine place (part_last ss).0 (part_last ss).1 parts.0 parts.1
