-- The parts of the forms of a type, and failures that are noted part by part.
use Rattle.std.proofs.Common.{◌≡◌, List, [], ◌++◌, map, sym, ap, ◌∙◌, Option, Result, Ok, Err, OnOk}
use Rattle.sail_base.specs.declared.place.Place.{Place}
use Rattle.sail_syntax.specs.declared.name.Name.{Name}
use Rattle.sail_syntax.specs.declared.words.TypeOperator.{TypeOperator}
use Rattle.sail_syntax.specs.declared.types.TyExp.{TyExp, fold-roll-TyExp}
use Rattle.sail_syntax.specs.declared.types.TyExp.TheOpen as X
use Rattle.sail_syntax.specs.declared.types.TyExp.TheVariants as V
use Rattle.sail_kinds.specs.declared.error.TableError.{TableError}
use Rattle.sail_kinds.specs.Failures.{first_failure}
use Rattle.sail_kinds.specs.Normal.{Part, Reading, part, form_part, behind, both, then_read, made_of, made_of_both}
use Rattle.sail_kinds.proofs.Firsts.{first_failure_append}

pub of_named : (name : Name) (args : List TyExp) → part (V.Named name args) ≡ form_part (X.Named name (map part args))
of_named name args = ap part (sym (V.rolls-Named name args)) ∙ fold-roll-TyExp Part form_part (X.Named name args)

pub of_infix : (place : Place) (operator : TypeOperator) (left right : TyExp)
    → part (V.Infix place operator left right) ≡ form_part (X.Infix place operator (part left) (part right))
of_infix place operator left right =
    ap part (sym (V.rolls-Infix place operator left right)) ∙ fold-roll-TyExp Part form_part (X.Infix place operator left right)

pub of_tuple : (place : Place) (parts : List TyExp) → part (V.Tuple place parts) ≡ form_part (X.Tuple place (map part parts))
of_tuple place parts = ap part (sym (V.rolls-Tuple place parts)) ∙ fold-roll-TyExp Part form_part (X.Tuple place parts)

pub on_ok : {T E P Q : Type 0} (r : Result T E) → (P → Q) → OnOk r P → OnOk r Q
on_ok (Ok x) f h = f h
on_ok (Err e) f h = tt

-- two parts, and then what is made of them
pub both_noted : {A B C : Type 0} (r : Reading A) (s : Reading B) (f : A → B → Reading C) (before left right after : Option TableError)
    (x : Option A) (y : Option B) → left ≡ first_failure before r.failures → right ≡ first_failure left s.failures → x ≡ r.normal → y ≡ s.normal
    → after ≡ first_failure right (made_of_both f x y).failures → after ≡ first_failure before (both r s f).failures
both_noted r s f before left right after x y of_left of_right is_x is_y last =
    last ∙ (λ i. first_failure (of_right i) (made_of_both f (is_x i) (is_y i)).failures)
    ∙ (λ i. first_failure (first_failure (of_left i) s.failures) (made_of_both f r.normal s.normal).failures)
    ∙ ap (λ k. first_failure k (made_of_both f r.normal s.normal).failures) (sym (first_failure_append before r.failures s.failures))
    ∙ sym (first_failure_append before (r.failures ++ s.failures) (made_of_both f r.normal s.normal).failures)

pub both_calm : {A B C : Type 0} (r : Reading A) (s : Reading B) (f : A → B → Reading C) (before left right : Option TableError)
    (x : Option A) (y : Option B) → left ≡ first_failure before r.failures → right ≡ first_failure left s.failures → x ≡ r.normal → y ≡ s.normal
    → (made_of_both f x y).failures ≡ [] → right ≡ first_failure before (both r s f).failures
both_calm r s f before left right x y of_left of_right is_x is_y calm =
    both_noted r s f before left right right x y of_left of_right is_x is_y (sym (ap (first_failure right) calm))

pub then_noted : {A B : Type 0} (r : Reading A) (f : A → Reading B) (before middle after : Option TableError) (x : Option A)
    → middle ≡ first_failure before r.failures → x ≡ r.normal
    → after ≡ first_failure middle (made_of f x).failures → after ≡ first_failure before (then_read r f).failures
then_noted r f before middle after x of_middle is last =
    last ∙ (λ i. first_failure (of_middle i) (made_of f (is i)).failures) ∙ sym (first_failure_append before r.failures (made_of f r.normal).failures)

-- failures in front of two parts that are joined
pub behind_calm : {A B C : Type 0} (es : List TableError) (r : Reading A) (s : Reading B) (f : A → B → Reading C) (before first left right : Option TableError)
    (x : Option A) (y : Option B) → first ≡ first_failure before es → left ≡ first_failure first r.failures → right ≡ first_failure left s.failures
    → x ≡ r.normal → y ≡ s.normal → (made_of_both f x y).failures ≡ [] → right ≡ first_failure before (behind es (both r s f)).failures
behind_calm es r s f before first left right x y of_first of_left of_right is_x is_y calm =
    both_calm r s f first left right x y of_left of_right is_x is_y calm
    ∙ ap (λ k. first_failure k (both r s f).failures) of_first ∙ sym (first_failure_append before es (both r s f).failures)
