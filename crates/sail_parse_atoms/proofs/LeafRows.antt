-- What is made of the parts of a block.
use Rattle.std.proofs.Common.{◌≡◌, ◌++◌, List, [], ◌∷◌, refl, sym, ◌∙◌, ap, append-nil}
use Rattle.std.specs.Prelude.{Some, None, Result, Ok, Err, IfOk}
use Rattle.sail_base.specs.declared.place.Place.{Place}
use Rattle.sail_syntax.specs.declared.expressions.Exp.{Exp}
use Rattle.sail_syntax.specs.declared.expressions.Exp.TheVariants as V
use Rattle.sail_syntax.specs.declared.expressions.Exp.TheOpen as E
use Rattle.sail_syntax.specs.declared.expressions.Exp.TheOpen.{Stmt-F}
use Rattle.sail_syntax.specs.declared.expressions.LExp.{LExp}
use Rattle.sail_syntax.specs.declared.expressions.Stmt.{Stmt, roll-Stmt, out-Stmt}
use Rattle.sail_syntax.specs.declared.expressions.Stmt.TheVariants as S
use Rattle.sail_syntax.specs.declared.expressions.Exp.TheViews.{out-roll-Stmt, roll-out-Stmt}
use Rattle.sail_syntax.specs.declared.expressions.Suffix.{Suffix}
use Rattle.sail_syntax.specs.declared.expressions.Case.{Case}
use Rattle.sail_syntax.specs.declared.expressions.FieldValue.{FieldValue}
use Rattle.sail_syntax.specs.declared.expressions.Index.{Index}
use Rattle.sail_syntax.specs.declared.expressions.Range.{Range}
use Rattle.sail_syntax.specs.declared.expressions.Target.{Target}
use Rattle.sail_grammar.specs.ExpTrees as T

-- the last of some statements is parted off
pub last_parted : (list : List Stmt) (s : Stmt) → T.part_last (list ++ s ∷ []) ≡ (list ++ (T.parted (T.value_if s) s).0, (T.parted (T.value_if s) s).1)
last_parted [] s = refl
last_parted (a ∷ []) s = refl
last_parted (a ∷ b ∷ list) s = ap (λ p. (a ∷ p.0, p.1)) (last_parted (b ∷ list) s)

pub block_value : (place : Place) (list : List Stmt) (s : Stmt) (e : Exp) → T.value_if s ≡ Some e →
    V.Block place list (Some e) ≡ T.block_of_parts place (T.part_last (list ++ s ∷ []))
block_value place list s e h = sym (ap (T.block_of_parts place) (last_parted list s) ∙
    ap (λ o. V.Block place (list ++ (T.parted o s).0) (T.parted o s).1) h ∙ ap (λ l. V.Block place l (Some e)) (append-nil list))

pub block_alone : (place : Place) (list : List Stmt) (s : Stmt) → T.value_if s ≡ None →
    V.Block place (list ++ s ∷ []) None ≡ T.block_of_parts place (T.part_last (list ++ s ∷ []))
block_alone place list s h = sym (ap (T.block_of_parts place) (last_parted list s) ∙
    ap (λ o. V.Block place (list ++ (T.parted o s).0) (T.parted o s).1) h)

-- what is made is as well what that is equal to
pub made_as : {X E : Type 0} {a b : X} (r : Result X E) → IfOk r (λ made. made ≡ a) → a ≡ b → IfOk r (λ made. made ≡ b)
made_as (Ok made) h e = h ∙ e
made_as (Err x) h e = tt

-- the value of a statement
pub value_there : (s : Stmt) (e : Exp) → s ≡ S.Evaluate e → T.value_if s ≡ Some e
value_there s e h = ap T.value_if (h ∙ sym (S.rolls-Evaluate e)) ∙ ap T.statement_value (out-roll-Stmt (E.Evaluate e))

pub value_missing : (s : Stmt) → ((e : Exp) → s ≡ S.Evaluate e → ⊥) → T.value_if s ≡ None
value_missing s = of_form (out-Stmt s) s (roll-out-Stmt s) where
  of_form : (f : Stmt-F Exp LExp Stmt Suffix Case FieldValue Index Range Target) (s : Stmt) → roll-Stmt f ≡ s → ((e : Exp) → s ≡ S.Evaluate e → ⊥) →
      T.statement_value f ≡ None
  of_form (E.Evaluate e) s r h = absurd (h e (sym r ∙ S.rolls-Evaluate e))
  of_form f s r h = refl
