-- Expressions over their parts: as the grammar has them, where their parts are, also as what is assigned to.
use Rattle.std.proofs.Common.{◌≡◌, ℕ, Bool, true, List, [], ◌∷◌, ◌++◌, map, refl, sym, ◌∙◌, ap, subst, Option, Some, None, option_map}
use Rattle.std.proofs.lemmas.Bool.{and_parts}
use Rattle.sail_base.specs.declared.operators.Operator.{Operator}
use Rattle.sail_base.specs.declared.operators.Prefix.{Prefix}
use Rattle.sail_base.specs.declared.place.Place.{Place}
use Rattle.sail_syntax.specs.declared.name.Name.{Name}
use Rattle.sail_syntax.specs.declared.name.Literal.{Literal}
use Rattle.sail_syntax.specs.declared.words.Asking.{Asking}
use Rattle.sail_syntax.specs.declared.words.Brackets.TheVariants as B
use Rattle.sail_syntax.specs.declared.words.Choosing.{Choosing}
use Rattle.sail_syntax.specs.declared.words.Leaving.{Leaving}
use Rattle.sail_syntax.specs.declared.words.Looping.{Looping}
use Rattle.sail_syntax.specs.declared.types.TyExp.{TyExp}
use Rattle.sail_syntax.specs.declared.patterns.Pat.{Pat}
use Rattle.sail_syntax.specs.declared.expressions.Exp.{Exp, Exp-F, map-Exp, para-roll-Exp, roll-Exp}
use Rattle.sail_syntax.specs.declared.expressions.Exp.TheFolds.{fold-roll-Exp, fold-roll-LExp}
use Rattle.sail_syntax.specs.declared.expressions.Exp.TheOpen as E
use Rattle.sail_syntax.specs.declared.expressions.Exp.TheVariants as V
use Rattle.sail_syntax.specs.declared.expressions.LExp.{LExp, out-LExp, roll-LExp, roll-out-LExp}
use Rattle.sail_syntax.specs.declared.expressions.LExp.TheVariants as L
use Rattle.sail_syntax.specs.declared.expressions.Stmt.{Stmt}
use Rattle.sail_syntax.specs.declared.expressions.Suffix.{Suffix}
use Rattle.sail_syntax.specs.declared.expressions.Case.{Case}
use Rattle.sail_syntax.specs.declared.expressions.FieldValue.{FieldValue}
use Rattle.sail_syntax.specs.declared.expressions.Index.{Index}
use Rattle.sail_syntax.specs.declared.expressions.Range.{Range}
use Rattle.sail_syntax.specs.declared.expressions.Target.{Target}
use Rattle.sail_grammar.specs.ExpTrees.{in_brackets, target_or, target_value, with_suffixes}
use Rattle.sail_grammar.specs.Leaves.{nowhere}
use Rattle.sail_grammar.specs.Targets.{all_there, arguments, both_there, further_suffixes, part_target, some_of, target, target_step}
use Rattle.shape_joins.proofs.JoinsLeast.{none, some_same}
use Rattle.shape_joins.proofs.Order.{two}
use Rattle.shape_meanings.specs.Trees as Trees
use Rattle.shape_meanings.specs.Trees.{group_written, literal_written, pattern_written, written}
use Rattle.shape_meanings.specs.Whole.{all_of}
use Rattle.shape_meanings.proofs.Folds.{OverTrees, written_Exp, written_LExp, written_case, written_field, written_index, written_lexp}
use Rattle.shape_meanings.proofs.Folds.{written_range, written_stmt, written_suffix, written_target}

-- an expression as the grammar has it, and as what is assigned to, where it can be
pub record FineExp (e : Exp) : Type 0 where
  pub is_written : written e ≡ true
  pub aims : (l : LExp) → target e ≡ Some l → written_lexp l ≡ true

abbrev pub FineExps : List Exp → Type 0
FineExps [] = Unit {0}
FineExps (e ∷ es) = FineExp e × FineExps es

abbrev pub FineIf : Option Exp → Type 0
FineIf None = Unit {0}
FineIf (Some e) = FineExp e

-- ---- what is assigned to

-- a form with its parts and what they are as what is assigned to
abbrev with_target : Exp → Exp × Option LExp
with_target e = (e, target e)

abbrev pub answered : OverTrees E.Exp-F → E.Exp-F (Exp × Option LExp) (LExp × Unit {0}) (Stmt × Unit {0}) (Suffix × Unit {0}) (Case × Unit {0})
    (FieldValue × Unit {0}) (Index × Unit {0}) (Range × Unit {0}) (Target × Unit {0})
answered x = map-Exp Exp LExp Stmt Suffix Case FieldValue Index Range Target (Exp × Option LExp) (LExp × Unit {0}) (Stmt × Unit {0}) (Suffix × Unit {0})
    (Case × Unit {0}) (FieldValue × Unit {0}) (Index × Unit {0}) (Range × Unit {0}) (Target × Unit {0}) with_target (λ a. (a, tt)) (λ a. (a, tt))
    (λ a. (a, tt)) (λ a. (a, tt)) (λ a. (a, tt)) (λ a. (a, tt)) (λ a. (a, tt)) (λ a. (a, tt)) x

of_lexp : (x : OverTrees E.LExp-F) (l : LExp) → roll-LExp x ≡ l → Trees.target_form (written_LExp x) ≡ true → written_lexp l ≡ true
of_lexp x l same h = ap written_lexp (sym same) ∙ fold-roll-LExp Bool Bool Bool Bool Bool Bool Bool Bool Bool
    Trees.expression_form Trees.target_form Trees.statement_form Trees.suffix_form Trees.case_form Trees.field_form Trees.index_form
    Trees.range_form Trees.further_form x ∙ h

-- a form that is as the grammar has it
form_of : (x : OverTrees E.LExp-F) (l : LExp) → roll-LExp x ≡ l → written_lexp l ≡ true → Trees.target_form (written_LExp x) ≡ true
form_of x l same h = sym (ap written_lexp (sym same) ∙ fold-roll-LExp Bool Bool Bool Bool Bool Bool Bool Bool Bool
    Trees.expression_form Trees.target_form Trees.statement_form Trees.suffix_form Trees.case_form Trees.field_form Trees.index_form
    Trees.range_form Trees.further_form x) ∙ h

name_target : (name : Name) → written_lexp (L.ToName name) ≡ true
name_target name = of_lexp (E.ToName name) (L.ToName name) (L.rolls-ToName name) refl

call_target : (name : Name) (es : List Exp) → all_of (map written es) ≡ true → written_lexp (L.ToCall name es) ≡ true
call_target name es h = of_lexp (E.ToCall name es) (L.ToCall name es) (L.rolls-ToCall name es) h

tuple_target : (place : Place) (ls : List LExp) → all_of (map written_lexp ls) ≡ true → written_lexp (L.ToTuple place ls) ≡ true
tuple_target place ls h = of_lexp (E.ToTuple place ls) (L.ToTuple place ls) (L.rolls-ToTuple place ls) h

part_of : (place : Place) (l : LExp) (s : Suffix) (ss : List Suffix) → written_lexp l ≡ true → all_of (map written_suffix (s ∷ ss)) ≡ true
    → written_lexp (L.ToPart place l (s ∷ ss)) ≡ true
part_of place l s ss h k =
    of_lexp (E.ToPart place l (s ∷ ss)) (L.ToPart place l (s ∷ ss)) (L.rolls-ToPart place l (s ∷ ss)) (two _ _ (two _ _ h k) refl)

behind : (ys more : List Suffix) → all_of (map written_suffix ys) ≡ true → all_of (map written_suffix more) ≡ true
    → all_of (map written_suffix (ys ++ more)) ≡ true
behind [] more h k = k
behind (y ∷ ys) more h k =
    let parts = and_parts (written_suffix y) (all_of (map written_suffix ys)) h in
    two _ _ parts.0 (behind ys more parts.1 k)

-- a target with further suffixes behind it
further_of : (place : Place) (s : Suffix) (ss : List Suffix) (l : LExp) (x : OverTrees E.LExp-F) → roll-LExp x ≡ l → written_lexp l ≡ true
    → all_of (map written_suffix (s ∷ ss)) ≡ true → written_lexp (further_suffixes place (s ∷ ss) l x) ≡ true
further_of place s ss l (E.ToPart first base []) same h k = part_of place base s ss (and_parts _ _ (and_parts _ _ (form_of _ l same h)).0).0 k
further_of place s ss l (E.ToPart first base (y ∷ ys)) same h k =
    let parts = and_parts _ _ (and_parts _ _ (form_of _ l same h)).0 in
    part_of place base y (ys ++ s ∷ ss) parts.0 (behind (y ∷ ys) (s ∷ ss) parts.1 k)
further_of place s ss l (E.ToName name) same h k = part_of place l s ss h k
further_of place s ss l (E.ToCall name es) same h k = part_of place l s ss h k
further_of place s ss l (E.ToTuple first ls) same h k = part_of place l s ss h k

further_written : (place : Place) (s : Suffix) (ss : List Suffix) (l : LExp) → written_lexp l ≡ true → all_of (map written_suffix (s ∷ ss)) ≡ true
    → written_lexp (part_target place (s ∷ ss) l) ≡ true
further_written place s ss l h k = further_of place s ss l (out-LExp l) (roll-out-LExp l) h k

both_aimed : (o : Option LExp) (os : Option (List LExp)) (ls : List LExp) → ((l : LExp) → o ≡ Some l → written_lexp l ≡ true)
    → ((ks : List LExp) → os ≡ Some ks → all_of (map written_lexp ks) ≡ true) → both_there o os ≡ Some ls → all_of (map written_lexp ls) ≡ true
both_aimed None os ls f g h = none h
both_aimed (Some l) None ls f g h = none h
both_aimed (Some l) (Some ks) ls f g h =
    subst (λ xs. all_of (map written_lexp xs) ≡ true) (some_same (l ∷ ks) ls h) (two _ _ (f l refl) (g ks refl))

all_aimed : (es : List Exp) (ls : List LExp) → FineExps es → all_there (map with_target es) ≡ Some ls → all_of (map written_lexp ls) ≡ true
all_aimed [] ls f h = subst (λ xs. all_of (map written_lexp xs) ≡ true) (some_same [] ls h) refl
all_aimed (e ∷ es) ls f h = both_aimed (target e) (all_there (map with_target es)) ls f.0.aims (λ ks k. all_aimed es ks f.1 k) h

map_aimed : {A : Type 0} (make : A → LExp) (o : Option A) (l : LExp) → ((x : A) → o ≡ Some x → written_lexp (make x) ≡ true) → option_map make o ≡ Some l
    → written_lexp l ≡ true
map_aimed make None l f h = none h
map_aimed make (Some x) l f h = subst (λ k. written_lexp k ≡ true) (some_same (make x) l h) (f x refl)

-- the target that an expression is
pub aimed : (e : Exp) → FineExp e → written_lexp (target_value e) ≡ true
aimed e h = or_any (target e) h.aims
  where
    or_any : (o : Option LExp) → ((l : LExp) → o ≡ Some l → written_lexp l ≡ true) → written_lexp (target_or o) ≡ true
    or_any None f = tuple_target nowhere [] refl
    or_any (Some l) f = f l refl

-- ---- forms

-- an expression of this form
of_form : (x : OverTrees E.Exp-F) (e : Exp) → roll-Exp x ≡ e → Trees.expression_form (written_Exp x) ≡ true
    → ((l : LExp) → target_step (answered x) ≡ Some l → written_lexp l ≡ true) → FineExp e
of_form x e same h aims = subst FineExp same (record {
  is_written = fold-roll-Exp Bool Bool Bool Bool Bool Bool Bool Bool Bool
      Trees.expression_form Trees.target_form Trees.statement_form Trees.suffix_form Trees.case_form Trees.field_form Trees.index_form
      Trees.range_form Trees.further_form x ∙ h;
  aims = λ l k. aims l (sym (para-roll-Exp (Option LExp) (Unit {0}) (Unit {0}) (Unit {0}) (Unit {0}) (Unit {0}) (Unit {0}) (Unit {0}) (Unit {0}) target_step
      (λ a. tt) (λ a. tt) (λ a. tt) (λ a. tt) (λ a. tt) (λ a. tt) (λ a. tt) (λ a. tt) x) ∙ k);
})

-- the same of a form that isn't assigned to
of_other : (x : OverTrees E.Exp-F) (e : Exp) → roll-Exp x ≡ e → Trees.expression_form (written_Exp x) ≡ true → target_step (answered x) ≡ None → FineExp e
of_other x e same h other = of_form x e same h (λ l k. none (sym other ∙ k))

pub all_written : (es : List Exp) → FineExps es → all_of (map written es) ≡ true
all_written [] f = refl
all_written (e ∷ es) f = two _ _ f.0.is_written (all_written es f.1)

pub constant_fine : (place : Place) (literal : Literal) → literal_written literal ≡ true → FineExp (V.Constant place literal)
constant_fine place literal h = of_other (E.Constant place literal) (V.Constant place literal) (V.rolls-Constant place literal) h refl

pub variable_fine : (name : Name) → FineExp (V.Variable name)
variable_fine name = of_form (E.Variable name) (V.Variable name) (V.rolls-Variable name) refl
    (λ l k. subst (λ x. written_lexp x ≡ true) (some_same (L.ToName name) l k) (name_target name))

firsts : (es : List Exp) → map (λ (p : Exp × Option LExp). p.0) (map with_target es) ≡ es
firsts [] = refl
firsts (e ∷ es) = ap (λ more. e ∷ more) (firsts es)

suffix_firsts : (ss : List Suffix) → map (λ (p : Suffix × Unit {0}). p.0) (map (λ (s : Suffix). (s, tt {0})) ss) ≡ ss
suffix_firsts [] = refl
suffix_firsts (s ∷ ss) = ap (λ more. s ∷ more) (suffix_firsts ss)

pub call_fine : (name : Name) (es : List Exp) → FineExps es → FineExp (V.Call name es)
call_fine name es f = of_form (E.Call name es) (V.Call name es) (V.rolls-Call name es) (all_written es f) (aims es f)
  where
    aims : (es : List Exp) → FineExps es → (l : LExp) → option_map (L.ToCall name) (arguments (map with_target es)) ≡ Some l → written_lexp l ≡ true
    aims [] f l k = none k
    aims (e ∷ es) f l k =
        subst (λ x. written_lexp x ≡ true) (ap (L.ToCall name) (sym (firsts (e ∷ es))) ∙ some_same _ l k)
        (call_target name (e ∷ es) (all_written (e ∷ es) f))

pub prefixed_fine : (place : Place) (prefix : Prefix) (a : Exp) → FineExp a → FineExp (V.Prefixed place prefix a)
prefixed_fine place prefix a h = of_other (E.Prefixed place prefix a) (V.Prefixed place prefix a) (V.rolls-Prefixed place prefix a) h.is_written refl

pub infix_fine : (place : Place) (operator : Operator) (a b : Exp) → FineExp a → FineExp b → FineExp (V.Infix place operator a b)
infix_fine place operator a b h k =
    of_other (E.Infix place operator a b) (V.Infix place operator a b) (V.rolls-Infix place operator a b) (two _ _ h.is_written k.is_written) refl

pub leave_fine : (place : Place) (leaving : Leaving) (a : Exp) → FineExp a → FineExp (V.Leave place leaving a)
leave_fine place leaving a h = of_other (E.Leave place leaving a) (V.Leave place leaving a) (V.rolls-Leave place leaving a) h.is_written refl

pub vector_fine : (place : Place) (es : List Exp) → FineExps es → FineExp (V.Group place B.Vector es)
vector_fine place es f = of_other (E.Group place B.Vector es) (V.Group place B.Vector es) (V.rolls-Group place B.Vector es) (all_written es f) refl

pub list_fine : (place : Place) (es : List Exp) → FineExps es → FineExp (V.Group place B.List es)
list_fine place es f = of_other (E.Group place B.List es) (V.Group place B.List es) (V.rolls-Group place B.List es) (all_written es f) refl

tuple_fine : (place : Place) (es : List Exp) → FineExps es → group_written B.Tuple (map written es) ≡ true → FineExp (V.Group place B.Tuple es)
tuple_fine place es f h = of_form (E.Group place B.Tuple es) (V.Group place B.Tuple es) (V.rolls-Group place B.Tuple es) h (aims es f)
  where
    aims : (es : List Exp) → FineExps es → (l : LExp) → option_map (L.ToTuple place) (some_of (map with_target es)) ≡ Some l → written_lexp l ≡ true
    aims [] f l k = none k
    aims (e ∷ es) f l k =
        map_aimed (L.ToTuple place) (all_there (map with_target (e ∷ es))) l (λ ls s. tuple_target place ls (all_aimed (e ∷ es) ls f s)) k

-- one expression in brackets is that expression, none or several are a tuple
pub in_brackets_fine : (place : Place) (es : List Exp) → FineExps es → FineExp (in_brackets place es)
in_brackets_fine place [] f = tuple_fine place [] f refl
in_brackets_fine place (e ∷ []) f = f.0
in_brackets_fine place (e ∷ a ∷ es) f = tuple_fine place (e ∷ a ∷ es) f (all_written (e ∷ a ∷ es) f)

part_fine : (place : Place) (a : Exp) (s : Suffix) (ss : List Suffix) → FineExp a → all_of (map written_suffix (s ∷ ss)) ≡ true
    → FineExp (V.Part place a (s ∷ ss))
part_fine place a s ss h k =
    of_form (E.Part place a (s ∷ ss)) (V.Part place a (s ∷ ss)) (V.rolls-Part place a (s ∷ ss)) (two _ _ h.is_written k)
    (λ l e. map_aimed (part_target place (map (λ (p : Suffix × Unit {0}). p.0) (map (λ (s : Suffix). (s, tt {0})) (s ∷ ss)))) (target a) l
    (λ x is. subst (λ xs. written_lexp (part_target place xs x) ≡ true) (sym (suffix_firsts (s ∷ ss))) (further_written place s ss x (h.aims x is) k)) e)

-- a base with its suffixes
pub with_suffixes_fine : (place : Place) (a : Exp) (ss : List Suffix) → FineExp a → all_of (map written_suffix ss) ≡ true → FineExp (with_suffixes place a ss)
with_suffixes_fine place a [] h k = h
with_suffixes_fine place a (s ∷ ss) h k = part_fine place a s ss h k

pub typed_fine : (place : Place) (a : Exp) (typ : TyExp) → FineExp a → FineExp (V.Typed place a typ)
typed_fine place a typ h = of_other (E.Typed place a typ) (V.Typed place a typ) (V.rolls-Typed place a typ) h.is_written refl

pub assign_fine : (place : Place) (l : LExp) (ts : List Target) (a : Exp) → written_lexp l ≡ true → all_of (map written_target ts) ≡ true → FineExp a
    → FineExp (V.Assign place l ts a)
assign_fine place l ts a h k f =
    of_other (E.Assign place l ts a) (V.Assign place l ts a) (V.rolls-Assign place l ts a) (two _ _ (two _ _ h k) f.is_written) refl

pub block_fine : (place : Place) (ss : List Stmt) (o : Option Exp) → all_of (map written_stmt ss) ≡ true → FineIf o → FineExp (V.Block place ss o)
block_fine place ss None h f = of_other (E.Block place ss None) (V.Block place ss None) (V.rolls-Block place ss None) (two _ _ h refl) refl
block_fine place ss (Some e) h f =
    of_other (E.Block place ss (Some e)) (V.Block place ss (Some e)) (V.rolls-Block place ss (Some e)) (two _ _ h f.is_written) refl

pub let_fine : (place : Place) (p : Pat) (a b : Exp) → pattern_written p ≡ true → FineExp a → FineExp b → FineExp (V.Let place p a b)
let_fine place p a b w h k =
    of_other (E.Let place p a b) (V.Let place p a b) (V.rolls-Let place p a b) (two _ _ (two _ _ w h.is_written) k.is_written) refl

pub var_fine : (place : Place) (name : Name) (typ : Option TyExp) (a b : Exp) → FineExp a → FineExp b → FineExp (V.Var place name typ a b)
var_fine place name typ a b h k =
    of_other (E.Var place name typ a b) (V.Var place name typ a b) (V.rolls-Var place name typ a b) (two _ _ h.is_written k.is_written) refl

pub if_fine : (place : Place) (a b : Exp) (o : Option Exp) → FineExp a → FineExp b → FineIf o → FineExp (V.If place a b o)
if_fine place a b None h k f =
    of_other (E.If place a b None) (V.If place a b None) (V.rolls-If place a b None) (two _ _ (two _ _ h.is_written k.is_written) refl) refl
if_fine place a b (Some e) h k f =
    of_other (E.If place a b (Some e)) (V.If place a b (Some e)) (V.rolls-If place a b (Some e))
    (two _ _ (two _ _ h.is_written k.is_written) f.is_written) refl

pub choose_fine : (place : Place) (choosing : Choosing) (a : Exp) (cs : List Case) → FineExp a → all_of (map written_case cs) ≡ true
    → FineExp (V.Choose place choosing a cs)
choose_fine place choosing a cs h k =
    of_other (E.Choose place choosing a cs) (V.Choose place choosing a cs) (V.rolls-Choose place choosing a cs) (two _ _ h.is_written k) refl

pub foreach_fine : (place : Place) (name : Name) (r : Range) (a : Exp) → written_range r ≡ true → FineExp a → FineExp (V.Foreach place name r a)
foreach_fine place name r a w h =
    of_other (E.Foreach place name r a) (V.Foreach place name r a) (V.rolls-Foreach place name r a) (two _ _ w h.is_written) refl

pub loop_fine : (place : Place) (looping : Looping) (o : Option Exp) (a b : Exp) → FineIf o → FineExp a → FineExp b → FineExp (V.Loop place looping o a b)
loop_fine place looping None a b f h k =
    of_other (E.Loop place looping None a b) (V.Loop place looping None a b) (V.rolls-Loop place looping None a b)
    (two _ _ h.is_written k.is_written) refl
loop_fine place looping (Some e) a b f h k =
    of_other (E.Loop place looping (Some e) a b) (V.Loop place looping (Some e) a b) (V.rolls-Loop place looping (Some e) a b)
    (two _ _ (two _ _ f.is_written h.is_written) k.is_written) refl

pub update_fine : (place : Place) (a : Exp) (i : Index) (b : Exp) → FineExp a → written_index i ≡ true → FineExp b → FineExp (V.Update place a i b)
update_fine place a i b h w k =
    of_other (E.Update place a i b) (V.Update place a i b) (V.rolls-Update place a i b) (two _ _ (two _ _ h.is_written w) k.is_written) refl

pub struct_fine : (place : Place) (name : Option Name) (vs : List FieldValue) → all_of (map written_field vs) ≡ true → FineExp (V.Struct place name vs)
struct_fine place name vs h = of_other (E.Struct place name vs) (V.Struct place name vs) (V.rolls-Struct place name vs) h refl

pub with_fine : (place : Place) (a : Exp) (vs : List FieldValue) → FineExp a → all_of (map written_field vs) ≡ true → FineExp (V.With place a vs)
with_fine place a vs h k = of_other (E.With place a vs) (V.With place a vs) (V.rolls-With place a vs) (two _ _ h.is_written k) refl

pub of_type_fine : (place : Place) (asking : Asking) (typ : TyExp) → FineExp (V.OfType place asking typ)
of_type_fine place asking typ = of_other (E.OfType place asking typ) (V.OfType place asking typ) (V.rolls-OfType place asking typ) refl refl

pub assert_fine : (place : Place) (a : Exp) (text : Option (List ℕ)) → FineExp a → FineExp (V.Assert place a text)
assert_fine place a text h = of_other (E.Assert place a text) (V.Assert place a text) (V.rolls-Assert place a text) h.is_written refl
