-- Expressions as targets.
use Rattle.std.proofs.Common.{◌≡◌, ℕ, ◌++◌, Bool, true, false, List, [], ◌∷◌, refl, sym, ◌∙◌, ap, map, length, append_assoc, arith, ◌≤◌}
use Rattle.std.specs.Prelude.{◌&&◌, ◌==◌, not, Option, Some, None, option_map, Result, Ok, Err, IfOk}
use Rattle.std.specs.Option.{is_some}
use Rattle.std.proofs.lemmas.Bool.{true≢false}
use Rattle.std.proofs.Math.Dec.{eqb-suc-zero}
use denote.Param.Weighed.{most, most-append}
use Rattle.sail_base.specs.declared.place.Place.{Place}
use Rattle.sail_syntax.specs.declared.name.Name.{Name}
use Rattle.sail_syntax.specs.declared.words.Brackets.{Brackets}
use Rattle.sail_syntax.specs.declared.words.Brackets.TheVariants as B
use Rattle.sail_syntax.specs.declared.words.Brackets.TheVariants.{Tuple}
use Rattle.sail_syntax.specs.declared.expressions.Exp.{Exp, roll-Exp, out-Exp, roll-out-Exp, map-Exp, para-roll-Exp}
use Rattle.sail_syntax.specs.declared.expressions.Exp.TheVariants as V
use Rattle.sail_syntax.specs.declared.expressions.Exp.TheOpen as E
use Rattle.sail_syntax.specs.declared.expressions.Exp.TheOpen.{Exp-F}
use Rattle.sail_syntax.specs.declared.expressions.LExp.{LExp}
use Rattle.sail_syntax.specs.declared.expressions.LExp.TheVariants as L
use Rattle.sail_syntax.specs.declared.expressions.Stmt.{Stmt}
use Rattle.sail_syntax.specs.declared.expressions.Suffix.{Suffix}
use Rattle.sail_syntax.specs.declared.expressions.Case.{Case}
use Rattle.sail_syntax.specs.declared.expressions.FieldValue.{FieldValue}
use Rattle.sail_syntax.specs.declared.expressions.Index.{Index}
use Rattle.sail_syntax.specs.declared.expressions.Range.{Range}
use Rattle.sail_syntax.specs.declared.expressions.Target.{Target}
use Rattle.sail_grammar.specs.Targets.{target, target_step, part_target, both_there, all_there, some_of, arguments}
use Rattle.sail_parse_expr.specs.TargetLists.{all_targets, each_is_target, some_targets}

-- an expression with what it is as a target
abbrev pub with_target : Exp → Exp × Option LExp
with_target e = (e, target e)

abbrev pub with_targets : List Exp → List (Exp × Option LExp)
with_targets es = map with_target es

-- a form with its parts and what they are as targets
abbrev answered : Exp-F Exp LExp Stmt Suffix Case FieldValue Index Range Target →
    Exp-F (Exp × Option LExp) (LExp × Unit {0}) (Stmt × Unit {0}) (Suffix × Unit {0}) (Case × Unit {0}) (FieldValue × Unit {0}) (Index × Unit {0})
    (Range × Unit {0}) (Target × Unit {0})
answered x = map-Exp Exp LExp Stmt Suffix Case FieldValue Index Range Target (Exp × Option LExp) (LExp × Unit {0}) (Stmt × Unit {0}) (Suffix × Unit {0})
    (Case × Unit {0}) (FieldValue × Unit {0}) (Index × Unit {0}) (Range × Unit {0}) (Target × Unit {0}) with_target (λ a. (a, tt)) (λ a. (a, tt))
    (λ a. (a, tt)) (λ a. (a, tt)) (λ a. (a, tt)) (λ a. (a, tt)) (λ a. (a, tt)) (λ a. (a, tt)) x

of_form : (x : Exp-F Exp LExp Stmt Suffix Case FieldValue Index Range Target) → target (roll-Exp x) ≡ target_step (answered x)
of_form x = para-roll-Exp (Option LExp) (Unit {0}) (Unit {0}) (Unit {0}) (Unit {0}) (Unit {0}) (Unit {0}) (Unit {0}) (Unit {0}) target_step (λ a. tt)
    (λ a. tt) (λ a. tt) (λ a. tt) (λ a. tt) (λ a. tt) (λ a. tt) (λ a. tt) x

all_there_is : (es : List Exp) → all_there (with_targets es) ≡ all_targets es
all_there_is [] = refl
all_there_is (e ∷ es) = ap (both_there (target e)) (all_there_is es)

some_of_is : (es : List Exp) → some_of (with_targets es) ≡ some_targets es
some_of_is [] = refl
some_of_is (e ∷ es) = all_there_is (e ∷ es)

firsts : {A : Type 0} (xs : List A) → map (λ (p : A × Unit {0}). p.0) (map (λ (x : A). (x, tt {0})) xs) ≡ xs
firsts [] = refl
firsts (x ∷ xs) = ap (λ more. x ∷ more) (firsts xs)

first_of_targets : (es : List Exp) → map (λ (p : Exp × Option LExp). p.0) (with_targets es) ≡ es
first_of_targets [] = refl
first_of_targets (e ∷ es) = ap (λ more. e ∷ more) (first_of_targets es)

-- the targets, form by form
pub of_variable : (n : Name) → target (V.Variable n) ≡ Some (L.ToName n)
of_variable n = ap target (sym (V.rolls-Variable n)) ∙ of_form (E.Variable n)

pub of_call : (n : Name) (es : List Exp) → target (V.Call n es) ≡ option_map (L.ToCall n) (arguments (with_targets es))
of_call n es = ap target (sym (V.rolls-Call n es)) ∙ of_form (E.Call n es)

pub of_tuple : (p : Place) (es : List Exp) → target (V.Group p Tuple es) ≡ option_map (L.ToTuple p) (some_targets es)
of_tuple p es = ap target (sym (V.rolls-Group p Tuple es)) ∙ of_form (E.Group p Tuple es) ∙ ap (option_map (L.ToTuple p)) (some_of_is es)

pub of_part : (p : Place) (base : Exp) (ss : List Suffix) → target (V.Part p base ss) ≡ option_map (part_target p ss) (target base)
of_part p base ss = ap target (sym (V.rolls-Part p base ss)) ∙ of_form (E.Part p base ss) ∙
    ap (λ xs. option_map (part_target p xs) (target base)) (firsts ss)

pub of_group : (p : Place) (b : Brackets) (es : List Exp) → (b ≡ Tuple → ⊥) → target (V.Group p b es) ≡ None
of_group p Tuple es h = absurd (h refl)
of_group p B.Vector es h = ap target (sym (V.rolls-Group p B.Vector es)) ∙ of_form (E.Group p B.Vector es)
of_group p B.List es h = ap target (sym (V.rolls-Group p B.List es)) ∙ of_form (E.Group p B.List es)

of_other : (e : Exp) (x : Exp-F Exp LExp Stmt Suffix Case FieldValue Index Range Target) → e ≡ roll-Exp x → ((n : Name) → e ≡ V.Variable n → ⊥) →
    ((n : Name) (es : List Exp) → e ≡ V.Call n es → ⊥) → ((p : Place) (b : Brackets) (es : List Exp) → e ≡ V.Group p b es → ⊥) →
    ((p : Place) (base : Exp) (ss : List Suffix) → e ≡ V.Part p base ss → ⊥) → target e ≡ None
of_other e (E.Variable n) h v c g p = absurd (v n (h ∙ V.rolls-Variable n))
of_other e (E.Call n es) h v c g p = absurd (c n es (h ∙ V.rolls-Call n es))
of_other e (E.Group q b es) h v c g p = absurd (g q b es (h ∙ V.rolls-Group q b es))
of_other e (E.Part q base ss) h v c g p = absurd (p q base ss (h ∙ V.rolls-Part q base ss))
of_other e (E.Constant x0 x1) h v c g p = ap target h ∙ of_form (E.Constant x0 x1)
of_other e (E.Prefixed x0 x1 x2) h v c g p = ap target h ∙ of_form (E.Prefixed x0 x1 x2)
of_other e (E.Infix x0 x1 x2 x3) h v c g p = ap target h ∙ of_form (E.Infix x0 x1 x2 x3)
of_other e (E.Leave x0 x1 x2) h v c g p = ap target h ∙ of_form (E.Leave x0 x1 x2)
of_other e (E.Typed x0 x1 x2) h v c g p = ap target h ∙ of_form (E.Typed x0 x1 x2)
of_other e (E.Assign x0 x1 x2 x3) h v c g p = ap target h ∙ of_form (E.Assign x0 x1 x2 x3)
of_other e (E.Block x0 x1 x2) h v c g p = ap target h ∙ of_form (E.Block x0 x1 x2)
of_other e (E.Let x0 x1 x2 x3) h v c g p = ap target h ∙ of_form (E.Let x0 x1 x2 x3)
of_other e (E.Var x0 x1 x2 x3 x4) h v c g p = ap target h ∙ of_form (E.Var x0 x1 x2 x3 x4)
of_other e (E.If x0 x1 x2 x3) h v c g p = ap target h ∙ of_form (E.If x0 x1 x2 x3)
of_other e (E.Choose x0 x1 x2 x3) h v c g p = ap target h ∙ of_form (E.Choose x0 x1 x2 x3)
of_other e (E.Foreach x0 x1 x2 x3) h v c g p = ap target h ∙ of_form (E.Foreach x0 x1 x2 x3)
of_other e (E.Loop x0 x1 x2 x3 x4) h v c g p = ap target h ∙ of_form (E.Loop x0 x1 x2 x3 x4)
of_other e (E.Update x0 x1 x2 x3) h v c g p = ap target h ∙ of_form (E.Update x0 x1 x2 x3)
of_other e (E.Struct x0 x1 x2) h v c g p = ap target h ∙ of_form (E.Struct x0 x1 x2)
of_other e (E.With x0 x1 x2) h v c g p = ap target h ∙ of_form (E.With x0 x1 x2)
of_other e (E.OfType x0 x1 x2) h v c g p = ap target h ∙ of_form (E.OfType x0 x1 x2)
of_other e (E.Assert x0 x1 x2) h v c g p = ap target h ∙ of_form (E.Assert x0 x1 x2)

pub no_target : (e : Exp) → ((n : Name) → e ≡ V.Variable n → ⊥) → ((n : Name) (es : List Exp) → e ≡ V.Call n es → ⊥) →
    ((p : Place) (b : Brackets) (es : List Exp) → e ≡ V.Group p b es → ⊥) → ((p : Place) (base : Exp) (ss : List Suffix) → e ≡ V.Part p base ss → ⊥) →
    target e ≡ None
no_target e v c g p = of_other e (out-Exp e) (sym (roll-out-Exp e)) v c g p

-- whether they are there
pub name_is : {e : Exp} {n : Name} → e ≡ V.Variable n → true ≡ is_some (target e)
name_is {n = n} h = sym (ap is_some (ap target h ∙ of_variable n))

some_arguments : (n : Name) (es : List Exp) → not (length es == 0) ≡ is_some (option_map (L.ToCall n) (arguments (with_targets es)))
some_arguments n [] = refl
some_arguments n (e ∷ es) = ap not (eqb-suc-zero (length es))

pub call_is : (e : Exp) (n : Name) (es : List Exp) {b : Bool} → e ≡ V.Call n es → b ≡ (length es == 0) → not b ≡ is_some (target e)
call_is e n es h k = ap not k ∙ some_arguments n es ∙ sym (ap is_some (ap target h ∙ of_call n es))

both_some : (l : Option LExp) (ls : Option (List LExp)) → is_some (both_there l ls) ≡ (is_some l && is_some ls)
both_some None ls = refl
both_some (Some l) None = refl
both_some (Some l) (Some ls) = refl

each_is : (es : List Exp) → is_some (all_targets es) ≡ each_is_target es
each_is [] = refl
each_is (e ∷ es) = both_some (target e) (all_targets es) ∙ ap (λ b. is_some (target e) && b) (each_is es)

mapped_is_some : {A B : Type 0} (f : A → B) (o : Option A) → is_some (option_map f o) ≡ is_some o
mapped_is_some f None = refl
mapped_is_some f (Some x) = refl

some_is : (es : List Exp) → (length es == 0) ≡ false → is_some (some_targets es) ≡ each_is_target es
some_is [] h = absurd (true≢false h)
some_is (e ∷ es) h = each_is (e ∷ es)

none_is : (es : List Exp) → (length es == 0) ≡ true → is_some (some_targets es) ≡ false
none_is [] h = refl
none_is (e ∷ es) h = absurd (true≢false (sym h ∙ eqb-suc-zero (length es)))

tuple_is_some : (e : Exp) (p : Place) (b : Brackets) (es : List Exp) → e ≡ V.Group p b es → b ≡ Tuple → is_some (target e) ≡ is_some (some_targets es)
tuple_is_some e p b es h t =
    ap is_some (ap target h ∙ ap (λ b. target (V.Group p b es)) t ∙ of_tuple p es) ∙ mapped_is_some (L.ToTuple p) (some_targets es)

pub tuple_is : (e : Exp) (p : Place) (b : Brackets) (es : List Exp) {z r : Bool} → e ≡ V.Group p b es → b ≡ Tuple → z ≡ (length es == 0) → z ≡ false →
    r ≡ each_is_target es → r ≡ is_some (target e)
tuple_is e p b es h t k n a = a ∙ sym (some_is es (sym k ∙ n)) ∙ sym (tuple_is_some e p b es h t)

pub empty_is : (e : Exp) (p : Place) (b : Brackets) (es : List Exp) {z : Bool} → e ≡ V.Group p b es → b ≡ Tuple → z ≡ (length es == 0) → z ≡ true →
    not z ≡ is_some (target e)
empty_is e p b es h t k n = ap not n ∙ sym (none_is es (sym k ∙ n)) ∙ sym (tuple_is_some e p b es h t)

pub group_is : (e : Exp) (p : Place) (b : Brackets) (es : List Exp) → e ≡ V.Group p b es → (b ≡ Tuple → ⊥) → false ≡ is_some (target e)
group_is e p b es h n = sym (ap is_some (ap target h ∙ of_group p b es n))

pub part_is : (e base lent : Exp) (p : Place) (ss : List Suffix) {r : Bool} → e ≡ V.Part p base ss → lent ≡ base → r ≡ is_some (target lent) →
    r ≡ is_some (target e)
part_is e base lent p ss h k a =
    a ∙ ap (λ x. is_some (target x)) k ∙ sym (mapped_is_some (part_target p ss) (target base)) ∙ sym (ap is_some (ap target h ∙ of_part p base ss))

pub other_is : (e : Exp) → target e ≡ None → false ≡ is_some (target e)
other_is e h = sym (ap is_some h)

-- a target more
pub one_more : (e : Exp) (l : LExp) (es : List Exp) (list : List LExp) → target e ≡ Some l →
    option_map (λ more. list ++ more) (all_targets (e ∷ es)) ≡ option_map (λ more. (list ++ l ∷ []) ++ more) (all_targets es)
one_more e l es list h = ap (λ o. option_map (λ more. list ++ more) (both_there o (all_targets es))) h ∙ behind (all_targets es) where
  behind : (o : Option (List LExp)) →
      option_map (λ more. list ++ more) (both_there (Some l) o) ≡ option_map (λ more. (list ++ l ∷ []) ++ more) o
  behind None = refl
  behind (Some ls) = ap Some (sym (append_assoc list (l ∷ []) ls))

pub none_more : (e : Exp) (es : List Exp) (list : List LExp) → target e ≡ None → option_map (λ more. list ++ more) (all_targets (e ∷ es)) ≡ None
none_more e es list h = ap (λ o. option_map (λ more. list ++ more) (both_there o (all_targets es))) h

pub step_more : {items rest : List Exp} {part given : Exp} {found : Option LExp} {l item : LExp} (list : List LExp) {new : List LExp}
    {all : Option (List LExp)} →
    items ≡ part ∷ rest → option_map (λ more. list ++ more) (all_targets items) ≡ all → given ≡ part → found ≡ target given → found ≡ Some l →
    item ≡ l → new ≡ list ++ item ∷ [] → option_map (λ more. new ++ more) (all_targets rest) ≡ all
step_more {rest = rest} {part = part} {l = l} list e inv b f s i p =
    (λ j. option_map (λ more. p j ++ more) (all_targets rest)) ∙ (λ j. option_map (λ more. (list ++ i j ∷ []) ++ more) (all_targets rest)) ∙
    sym (one_more part l rest list (ap target (sym b) ∙ sym f ∙ s)) ∙ (λ j. option_map (λ more. list ++ more) (all_targets (sym e j))) ∙ inv

-- each of some expressions is no deeper than the deepest of them
pub not_deeper : (size : Exp → ℕ) (done : List Exp) {items rest all : List Exp} {given part : Exp} → done ++ items ≡ all → items ≡ part ∷ rest → given ≡ part →
    size given ≤ most size all
not_deeper size done {rest = rest} {part = part} a e g =
    let joined = most-append size done (part ∷ rest) in
    let whole = ap (most size) (sym a) in
    let opened = ap (λ xs. most size (done ++ xs)) e in
    let same = ap size g in
    omega (arith, joined, whole, opened, same)

-- what is made of a form that was taken apart
no_arguments : (es : List Exp) → (length es == 0) ≡ true → arguments (with_targets es) ≡ None
no_arguments [] h = refl
no_arguments (e ∷ es) h = absurd (true≢false (sym h ∙ eqb-suc-zero (length es)))

all_arguments : (es : List Exp) → (length es == 0) ≡ false → arguments (with_targets es) ≡ Some es
all_arguments [] h = absurd (true≢false h)
all_arguments (e ∷ es) h = ap Some (first_of_targets (e ∷ es))

pub new_name : (e : Exp) (n : Name) {made : LExp} → V.Variable n ≡ e → made ≡ L.ToName n → Some made ≡ target e
new_name e n h q = ap Some q ∙ sym (of_variable n) ∙ ap target h

pub no_call : (e : Exp) (n : Name) (es : List Exp) {b : Bool} → V.Call n es ≡ e → b ≡ (length es == 0) → b ≡ true → None ≡ target e
no_call e n es h k t = sym (of_call n es ∙ ap (option_map (L.ToCall n)) (no_arguments es (sym k ∙ t))) ∙ ap target h

pub new_call : (e : Exp) (n : Name) (es : List Exp) {b : Bool} {made : LExp} → V.Call n es ≡ e → b ≡ (length es == 0) → b ≡ false →
    made ≡ L.ToCall n es → Some made ≡ target e
new_call e n es h k t q = ap Some q ∙ sym (of_call n es ∙ ap (option_map (L.ToCall n)) (all_arguments es (sym k ∙ t))) ∙ ap target h

pub new_tuple : (e : Exp) (p : Place) (b : Brackets) (es : List Exp) → V.Group p b es ≡ e → b ≡ Tuple →
    option_map (L.ToTuple p) (some_targets es) ≡ target e
new_tuple e p b es h t = sym (of_tuple p es) ∙ ap (λ b. target (V.Group p b es)) (sym t) ∙ ap target h

pub no_group : (e : Exp) (p : Place) (b : Brackets) (es : List Exp) → V.Group p b es ≡ e → (b ≡ Tuple → ⊥) → None ≡ target e
no_group e p b es h n = sym (of_group p b es n) ∙ ap target h

pub new_part : (e : Exp) (p : Place) (base : Exp) (ss : List Suffix) → V.Part p base ss ≡ e → option_map (part_target p ss) (target base) ≡ target e
new_part e p base ss h = sym (of_part p base ss) ∙ ap target h

-- what holds of the result of a call
pub of_result : {X E : Type 0} {P Q : X → Type 0} (r : Result X E) → IfOk r P → ((x : X) → P x → Q x) → IfOk r Q
of_result (Ok x) h k = k x h
of_result (Err e) h k = tt
