-- Statements, cases, fields, indices and suffixes over their parts, and blocks over their statements.
use Rattle.std.proofs.Common.{◌≡◌, Bool, true, false, List, [], ◌∷◌, map, refl, sym, ◌∙◌, ap, subst, Option, Some, None}
use Rattle.sail_base.specs.declared.place.Place.{Place}
use Rattle.sail_syntax.specs.declared.name.Name.{Name}
use Rattle.sail_syntax.specs.declared.words.Direction.{Direction}
use Rattle.sail_syntax.specs.declared.types.TyExp.{TyExp}
use Rattle.sail_syntax.specs.declared.patterns.Pat.{Pat}
use Rattle.sail_syntax.specs.declared.expressions.Exp.{Exp}
use Rattle.sail_syntax.specs.declared.expressions.Exp.TheFolds.{fold-roll-Case, fold-roll-FieldValue, fold-roll-Index, fold-roll-Range, fold-roll-Stmt}
use Rattle.sail_syntax.specs.declared.expressions.Exp.TheFolds.{fold-roll-Suffix, fold-roll-Target}
use Rattle.sail_syntax.specs.declared.expressions.Exp.TheOpen as E
use Rattle.sail_syntax.specs.declared.expressions.Exp.TheViews.{out-roll-Stmt}
use Rattle.sail_syntax.specs.declared.expressions.LExp.{LExp}
use Rattle.sail_syntax.specs.declared.expressions.Stmt.{Stmt, roll-Stmt}
use Rattle.sail_syntax.specs.declared.expressions.Stmt.TheVariants as S
use Rattle.sail_syntax.specs.declared.expressions.Suffix.{Suffix, roll-Suffix}
use Rattle.sail_syntax.specs.declared.expressions.Suffix.TheVariants as F
use Rattle.sail_syntax.specs.declared.expressions.Case.{roll-Case}
use Rattle.sail_syntax.specs.declared.expressions.FieldValue.{roll-FieldValue}
use Rattle.sail_syntax.specs.declared.expressions.Index.{Index, roll-Index}
use Rattle.sail_syntax.specs.declared.expressions.Range.{roll-Range}
use Rattle.sail_syntax.specs.declared.expressions.Target.{roll-Target}
use Rattle.sail_grammar.specs.declared.mode.Mode.{Mode}
use Rattle.sail_grammar.specs.declared.mode.Mode.TheVariants.{Full}
use Rattle.sail_grammar.specs.ExpTrees.{block, exp_of_statement, exp_or, part_last, parted, statement_value, value_if}
use Rattle.sail_grammar.specs.Leaves.{nowhere}
use Rattle.shape_joins.proofs.JoinsLeast.{none, some_same}
use Rattle.shape_joins.proofs.Order.{two}
use Rattle.shape_meanings.proofs.Folds.{OverTrees}
use Rattle.shape_stands.specs.Manner as M
use Rattle.shape_stands.specs.Manner.{Manner, every, leaf, manner}
use Rattle.accepted_models.proofs.Manners.{Suits, manner_Case, manner_Index, manner_Range, manner_Stmt, manner_Suffix, manner_case, manner_field}
use Rattle.accepted_models.proofs.Manners.{manner_index, manner_lexp, manner_range, manner_stmt, manner_suffix, manner_target, suits_both, suits_leaf}
use Rattle.accepted_models.proofs.ExpForms.{FineExp, FineIf, block_fine, in_brackets_fine}

-- ---- parts of expressions

case_form : (mode : Mode) (x : OverTrees E.Case-F) → Suits mode (M.case_form (manner_Case x)) → Suits mode (manner_case (roll-Case x))
case_form mode x h = subst (Suits mode) (sym (fold-roll-Case Manner Manner Manner Manner Manner Manner Manner Manner Manner
    M.expression_form M.target_form M.statement_form M.suffix_form M.case_form M.field_form M.index_form M.range_form M.further_form x)) h

pub case_fine : (mode : Mode) (p : Pat) (o : Option Exp) (a : Exp) → FineIf mode o → FineExp mode a
    → Suits mode (manner_case (roll-Case (record { pattern = p; guard = o; body = a })))
case_fine mode p None a f h =
    case_form mode (record { pattern = p; guard = None; body = a }) (suits_both mode leaf (manner a) (suits_leaf mode) h.suits)
case_fine mode p (Some e) a f h =
    case_form mode (record { pattern = p; guard = Some e; body = a }) (suits_both mode (manner e) (manner a) f.suits h.suits)

pub field_fine : (mode : Mode) (name : Name) (a : Exp) → FineExp mode a
    → Suits mode (manner_field (roll-FieldValue (record { name = name; value = a })))
field_fine mode name a h = subst (Suits mode) (sym (fold-roll-FieldValue Manner Manner Manner Manner Manner Manner Manner Manner Manner
    M.expression_form M.target_form M.statement_form M.suffix_form M.case_form M.field_form M.index_form M.range_form M.further_form
    (record { name = name; value = a }))) h.suits

index_form : (mode : Mode) (x : OverTrees E.Index-F) → Suits mode (M.index_form (manner_Index x)) → Suits mode (manner_index (roll-Index x))
index_form mode x h = subst (Suits mode) (sym (fold-roll-Index Manner Manner Manner Manner Manner Manner Manner Manner Manner
    M.expression_form M.target_form M.statement_form M.suffix_form M.case_form M.field_form M.index_form M.range_form M.further_form x)) h

pub index_fine : (mode : Mode) (a : Exp) (o : Option Exp) → FineExp mode a → FineIf mode o
    → Suits mode (manner_index (roll-Index (record { first = a; last = o })))
index_fine mode a None h f = index_form mode (record { first = a; last = None }) (suits_both mode (manner a) leaf h.suits (suits_leaf mode))
index_fine mode a (Some e) h f = index_form mode (record { first = a; last = Some e }) (suits_both mode (manner a) (manner e) h.suits f.suits)

range_form : (x : OverTrees E.Range-F) → (M.range_form (manner_Range x)).is_full ≡ true → (manner_range (roll-Range x)).is_full ≡ true
range_form x h = ap (λ (m : Manner). m.is_full) (fold-roll-Range Manner Manner Manner Manner Manner Manner Manner Manner Manner
    M.expression_form M.target_form M.statement_form M.suffix_form M.case_form M.field_form M.index_form M.range_form M.further_form x) ∙ h

pub range_fine : (a b : Exp) (o : Option Exp) (d : Direction) → FineExp Full a → FineExp Full b → FineIf Full o
    → (manner_range (roll-Range (record { from = a; to = b; by = o; direction = d }))).is_full ≡ true
range_fine a b None d h k f =
    range_form (record { from = a; to = b; by = None; direction = d }) (two _ _ (two _ _ h.suits.full k.suits.full) refl)
range_fine a b (Some e) d h k f =
    range_form (record { from = a; to = b; by = Some e; direction = d }) (two _ _ (two _ _ h.suits.full k.suits.full) f.suits.full)

pub further_fine : (place : Place) (l : LExp) → (manner_lexp l).is_full ≡ true → (manner_target (roll-Target (record { place = place; to = l }))).is_full ≡ true
further_fine place l h = ap (λ (m : Manner). m.is_full) (fold-roll-Target Manner Manner Manner Manner Manner Manner Manner Manner Manner
    M.expression_form M.target_form M.statement_form M.suffix_form M.case_form M.field_form M.index_form M.range_form M.further_form
    (record { place = place; to = l })) ∙ h

suffix_form : (mode : Mode) (x : OverTrees E.Suffix-F) (s : Suffix) → roll-Suffix x ≡ s → Suits mode (M.suffix_form (manner_Suffix x))
    → Suits mode (manner_suffix s)
suffix_form mode x s same h = subst (λ k. Suits mode (manner_suffix k)) same (subst (Suits mode)
    (sym (fold-roll-Suffix Manner Manner Manner Manner Manner Manner Manner Manner Manner
    M.expression_form M.target_form M.statement_form M.suffix_form M.case_form M.field_form M.index_form M.range_form M.further_form x)) h)

pub dot_fine : (mode : Mode) (name : Name) → Suits mode (manner_suffix (F.Field name))
dot_fine mode name = suffix_form mode (E.Field name) (F.Field name) (F.rolls-Field name) (suits_leaf mode)

pub at_fine : (mode : Mode) (place : Place) (i : Index) → Suits mode (manner_index i) → Suits mode (manner_suffix (F.At place i))
at_fine mode place i h = suffix_form mode (E.At place i) (F.At place i) (F.rolls-At place i) h

-- ---- statements

-- a statement that is read in a mode, and so is the expression that it is, if it is one
pub record FineStmt (mode : Mode) (s : Stmt) : Type 0 where
  pub suits : Suits mode (manner_stmt s)
  pub value : (e : Exp) → value_if s ≡ Some e → FineExp mode e

abbrev pub FineStmts : Mode → List Stmt → Type 0
FineStmts mode [] = Unit {0}
FineStmts mode (s ∷ ss) = FineStmt mode s × FineStmts mode ss

stmt_form : (mode : Mode) (x : OverTrees E.Stmt-F) (s : Stmt) → roll-Stmt x ≡ s → Suits mode (M.statement_form (manner_Stmt x))
    → ((e : Exp) → statement_value x ≡ Some e → FineExp mode e) → FineStmt mode s
stmt_form mode x s same h value = subst (FineStmt mode) same (record {
  suits = subst (Suits mode) (sym (fold-roll-Stmt Manner Manner Manner Manner Manner Manner Manner Manner Manner
      M.expression_form M.target_form M.statement_form M.suffix_form M.case_form M.field_form M.index_form M.range_form M.further_form x)) h;
  value = λ e k. value e (ap statement_value (sym (out-roll-Stmt x)) ∙ k);
})

pub evaluate_fine : (mode : Mode) (a : Exp) → FineExp mode a → FineStmt mode (S.Evaluate a)
evaluate_fine mode a h =
    stmt_form mode (E.Evaluate a) (S.Evaluate a) (S.rolls-Evaluate a) h.suits (λ e k. subst (FineExp mode) (some_same a e k) h)

pub define_fine : (mode : Mode) (place : Place) (p : Pat) (a : Exp) → FineExp mode a → FineStmt mode (S.Define place p a)
define_fine mode place p a h = stmt_form mode (E.Define place p a) (S.Define place p a) (S.rolls-Define place p a) h.suits (λ e k. none k)

pub declare_fine : (mode : Mode) (place : Place) (name : Name) (typ : Option TyExp) (a : Exp) → FineExp mode a
    → FineStmt mode (S.Declare place name typ a)
declare_fine mode place name typ a h =
    stmt_form mode (E.Declare place name typ a) (S.Declare place name typ a) (S.rolls-Declare place name typ a) h.suits (λ e k. none k)

-- ---- blocks

fine_if : (mode : Mode) (o : Option Exp) → ((e : Exp) → o ≡ Some e → FineExp mode e) → FineIf mode o
fine_if mode None f = tt
fine_if mode (Some e) f = f e refl

-- the expression that a statement is
pub statement_exp : (mode : Mode) (s : Stmt) → FineStmt mode s → FineExp mode (exp_of_statement s)
statement_exp mode s h = or_none (value_if s) (fine_if mode (value_if s) h.value)
  where
    or_none : (o : Option Exp) → FineIf mode o → FineExp mode (exp_or o)
    or_none None f = in_brackets_fine mode nowhere [] tt
    or_none (Some e) f = f

abbrev FineParts : List Stmt × Option Exp → Type 0
FineParts parts = ((every (map manner_stmt parts.0)).is_full ≡ true) × FineIf Full parts.1

parted_fine : (o : Option Exp) (s : Stmt) → (manner_stmt s).is_full ≡ true → FineIf Full o → FineParts (parted o s)
parted_fine None s h f = (two _ _ h refl, tt)
parted_fine (Some e) s h f = (refl, f)

parts_fine : (ss : List Stmt) → FineStmts Full ss → FineParts (part_last ss)
parts_fine [] f = (refl, tt)
parts_fine (s ∷ []) f = parted_fine (value_if s) s f.0.suits.full (fine_if Full (value_if s) f.0.value)
parts_fine (s ∷ a ∷ ss) f = let rest = parts_fine (a ∷ ss) f.1 in (two _ _ f.0.suits.full rest.0, rest.1)

all_statements : (ss : List Stmt) → FineStmts Full ss → (every (map manner_stmt ss)).is_full ≡ true
all_statements [] f = refl
all_statements (s ∷ ss) f = two _ _ f.0.suits.full (all_statements ss f.1)

pub statements_fine : (place : Place) (ss : List Stmt) (closed : Bool) → FineStmts Full ss → FineExp Full (block place ss closed)
statements_fine place ss true f = block_fine place ss None (all_statements ss f) tt
statements_fine place ss false f = let parts = parts_fine ss f in block_fine place (part_last ss).0 (part_last ss).1 parts.0 parts.1
