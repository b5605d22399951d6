-- Expressions over their parts: read in a mode, where their parts are, also as what is assigned to.
use Rattle.std.proofs.Common.{◌≡◌, ℕ, true, List, [], ◌∷◌, ◌++◌, map, refl, sym, ◌∙◌, ap, subst, Option, Some, None, option_map}
use Rattle.std.proofs.lemmas.Bool.{and_parts}
use Rattle.sail_base.specs.declared.operators.Operator.{Operator}
use Rattle.sail_base.specs.declared.operators.Prefix.{Prefix}
use Rattle.sail_base.specs.declared.place.Place.{Place}
use Rattle.sail_syntax.specs.declared.name.Name.{Name}
use Rattle.sail_syntax.specs.declared.name.Literal.{Literal}
use Rattle.sail_syntax.specs.declared.words.Asking.{Asking}
use Rattle.sail_syntax.specs.declared.words.Brackets.TheVariants as B
use Rattle.sail_syntax.specs.declared.words.Choosing.TheVariants.{Match, Try}
use Rattle.sail_syntax.specs.declared.words.Leaving.{Leaving}
use Rattle.sail_syntax.specs.declared.words.Looping.{Looping}
use Rattle.sail_syntax.specs.declared.types.TyExp.{TyExp}
use Rattle.sail_syntax.specs.declared.patterns.Pat.{Pat}
use Rattle.sail_syntax.specs.declared.expressions.Exp.{Exp, Exp-F, map-Exp, para-roll-Exp, roll-Exp}
use Rattle.sail_syntax.specs.declared.expressions.Exp.TheFolds.{fold-roll-Exp, fold-roll-LExp}
use Rattle.sail_syntax.specs.declared.expressions.Exp.TheOpen as E
use Rattle.sail_syntax.specs.declared.expressions.Exp.TheVariants as V
use Rattle.sail_syntax.specs.declared.expressions.LExp.{LExp, out-LExp, roll-LExp, roll-out-LExp}
use Rattle.sail_syntax.specs.declared.expressions.LExp.TheVariants as L
use Rattle.sail_syntax.specs.declared.expressions.Stmt.{Stmt}
use Rattle.sail_syntax.specs.declared.expressions.Suffix.{Suffix}
use Rattle.sail_syntax.specs.declared.expressions.Case.{Case}
use Rattle.sail_syntax.specs.declared.expressions.FieldValue.{FieldValue}
use Rattle.sail_syntax.specs.declared.expressions.Index.{Index}
use Rattle.sail_syntax.specs.declared.expressions.Range.{Range}
use Rattle.sail_syntax.specs.declared.expressions.Target.{Target}
use Rattle.sail_grammar.specs.declared.mode.Mode.{Mode}
use Rattle.sail_grammar.specs.declared.mode.Mode.TheVariants.{Full, Limited}
use Rattle.sail_grammar.specs.ExpTrees.{in_brackets, target_or, target_value, with_suffixes}
use Rattle.sail_grammar.specs.Leaves.{nowhere}
use Rattle.sail_grammar.specs.Targets.{all_there, arguments, both_there, further_suffixes, part_target, some_of, target, target_step}
use Rattle.shape_joins.proofs.JoinsLeast.{none, some_same}
use Rattle.shape_joins.proofs.Order.{two}
use Rattle.shape_meanings.proofs.Folds.{OverTrees}
use Rattle.shape_stands.specs.Manner as M
use Rattle.shape_stands.specs.Manner.{Manner, both, every, fields_form, leaf, manner}
use Rattle.accepted_models.proofs.Manners.{Suits, manner_Exp, manner_LExp, manner_case, manner_field, manner_index, manner_lexp, manner_range, manner_stmt}
use Rattle.accepted_models.proofs.Manners.{manner_suffix, manner_target, suits_both, suits_fields, suits_full, suits_leaf}

-- an expression that is read in a mode, and what is assigned to, where it can be
pub record FineExp (mode : Mode) (e : Exp) : Type 0 where
  pub suits : Suits mode (manner e)
  pub aims : (l : LExp) → target e ≡ Some l → (manner_lexp l).is_full ≡ true

abbrev pub FineExps : Mode → List Exp → Type 0
FineExps mode [] = Unit {0}
FineExps mode (e ∷ es) = FineExp mode e × FineExps mode es

abbrev pub FineIf : Mode → Option Exp → Type 0
FineIf mode None = Unit {0}
FineIf mode (Some e) = FineExp mode e

-- ---- what is assigned to

-- a form with its parts and what they are as what is assigned to
abbrev with_target : Exp → Exp × Option LExp
with_target e = (e, target e)

abbrev answered : OverTrees E.Exp-F → E.Exp-F (Exp × Option LExp) (LExp × Unit {0}) (Stmt × Unit {0}) (Suffix × Unit {0}) (Case × Unit {0})
    (FieldValue × Unit {0}) (Index × Unit {0}) (Range × Unit {0}) (Target × Unit {0})
answered x = map-Exp Exp LExp Stmt Suffix Case FieldValue Index Range Target (Exp × Option LExp) (LExp × Unit {0}) (Stmt × Unit {0}) (Suffix × Unit {0})
    (Case × Unit {0}) (FieldValue × Unit {0}) (Index × Unit {0}) (Range × Unit {0}) (Target × Unit {0}) with_target (λ a. (a, tt)) (λ a. (a, tt))
    (λ a. (a, tt)) (λ a. (a, tt)) (λ a. (a, tt)) (λ a. (a, tt)) (λ a. (a, tt)) (λ a. (a, tt)) x

abbrev AllFull : List LExp → Type 0
AllFull ls = (every (map manner_lexp ls)).is_full ≡ true

of_lexp : (x : OverTrees E.LExp-F) (l : LExp) → roll-LExp x ≡ l → (M.target_form (manner_LExp x)).is_full ≡ true → (manner_lexp l).is_full ≡ true
of_lexp x l same h =
    ap (λ k. (manner_lexp k).is_full) (sym same)
    ∙ ap (λ (m : Manner). m.is_full) (fold-roll-LExp Manner Manner Manner Manner Manner Manner Manner Manner Manner
    M.expression_form M.target_form M.statement_form M.suffix_form M.case_form M.field_form M.index_form M.range_form M.further_form x) ∙ h

-- a form in whose `with`s are fields
form_of : (x : OverTrees E.LExp-F) (l : LExp) → roll-LExp x ≡ l → (manner_lexp l).is_full ≡ true → (M.target_form (manner_LExp x)).is_full ≡ true
form_of x l same h = sym (ap (λ k. (manner_lexp k).is_full) (sym same)
    ∙ ap (λ (m : Manner). m.is_full) (fold-roll-LExp Manner Manner Manner Manner Manner Manner Manner Manner Manner
    M.expression_form M.target_form M.statement_form M.suffix_form M.case_form M.field_form M.index_form M.range_form M.further_form x)) ∙ h

name_target : (name : Name) → (manner_lexp (L.ToName name)).is_full ≡ true
name_target name = of_lexp (E.ToName name) (L.ToName name) (L.rolls-ToName name) refl

call_target : (name : Name) (es : List Exp) → (every (map manner es)).is_full ≡ true → (manner_lexp (L.ToCall name es)).is_full ≡ true
call_target name es h = of_lexp (E.ToCall name es) (L.ToCall name es) (L.rolls-ToCall name es) h

tuple_target : (place : Place) (ls : List LExp) → AllFull ls → (manner_lexp (L.ToTuple place ls)).is_full ≡ true
tuple_target place ls h = of_lexp (E.ToTuple place ls) (L.ToTuple place ls) (L.rolls-ToTuple place ls) h

part_of : (place : Place) (l : LExp) (ss : List Suffix) → (manner_lexp l).is_full ≡ true → (every (map manner_suffix ss)).is_full ≡ true
    → (manner_lexp (L.ToPart place l ss)).is_full ≡ true
part_of place l ss h k = of_lexp (E.ToPart place l ss) (L.ToPart place l ss) (L.rolls-ToPart place l ss) (two _ _ h k)

behind : (ys more : List Suffix) → (every (map manner_suffix ys)).is_full ≡ true → (every (map manner_suffix more)).is_full ≡ true
    → (every (map manner_suffix (ys ++ more))).is_full ≡ true
behind [] more h k = k
behind (y ∷ ys) more h k =
    let parts = and_parts (manner_suffix y).is_full (every (map manner_suffix ys)).is_full h in
    two _ _ parts.0 (behind ys more parts.1 k)

-- a target with further suffixes behind it
further_of : (place : Place) (more : List Suffix) (l : LExp) (x : OverTrees E.LExp-F) → roll-LExp x ≡ l → (manner_lexp l).is_full ≡ true
    → (every (map manner_suffix more)).is_full ≡ true → (manner_lexp (further_suffixes place more l x)).is_full ≡ true
further_of place more l (E.ToPart first base ys) same h k =
    let parts = and_parts _ _ (form_of _ l same h) in
    part_of place base (ys ++ more) parts.0 (behind ys more parts.1 k)
further_of place more l (E.ToName name) same h k = part_of place l more h k
further_of place more l (E.ToCall name es) same h k = part_of place l more h k
further_of place more l (E.ToTuple first ls) same h k = part_of place l more h k

further_full : (place : Place) (more : List Suffix) (l : LExp) → (manner_lexp l).is_full ≡ true → (every (map manner_suffix more)).is_full ≡ true
    → (manner_lexp (part_target place more l)).is_full ≡ true
further_full place more l h k = further_of place more l (out-LExp l) (roll-out-LExp l) h k

both_aimed : (o : Option LExp) (os : Option (List LExp)) (ls : List LExp) → ((l : LExp) → o ≡ Some l → (manner_lexp l).is_full ≡ true)
    → ((ks : List LExp) → os ≡ Some ks → AllFull ks) → both_there o os ≡ Some ls → AllFull ls
both_aimed None os ls f g h = none h
both_aimed (Some l) None ls f g h = none h
both_aimed (Some l) (Some ks) ls f g h = subst (λ xs. AllFull xs) (some_same (l ∷ ks) ls h) (two _ _ (f l refl) (g ks refl))

all_aimed : (mode : Mode) (es : List Exp) (ls : List LExp) → FineExps mode es → all_there (map with_target es) ≡ Some ls → AllFull ls
all_aimed mode [] ls f h = subst (λ xs. AllFull xs) (some_same [] ls h) refl
all_aimed mode (e ∷ es) ls f h = both_aimed (target e) (all_there (map with_target es)) ls f.0.aims (λ ks k. all_aimed mode es ks f.1 k) h

map_aimed : {A : Type 0} (make : A → LExp) (o : Option A) (l : LExp) → ((x : A) → o ≡ Some x → (manner_lexp (make x)).is_full ≡ true)
    → option_map make o ≡ Some l → (manner_lexp l).is_full ≡ true
map_aimed make None l f h = none h
map_aimed make (Some x) l f h = subst (λ k. (manner_lexp k).is_full ≡ true) (some_same (make x) l h) (f x refl)

-- the target that an expression is
pub aimed : (mode : Mode) (e : Exp) → FineExp mode e → (manner_lexp (target_value e)).is_full ≡ true
aimed mode e h = or_any (target e) h.aims
  where
    or_any : (o : Option LExp) → ((l : LExp) → o ≡ Some l → (manner_lexp l).is_full ≡ true) → (manner_lexp (target_or o)).is_full ≡ true
    or_any None f = tuple_target nowhere [] refl
    or_any (Some l) f = f l refl

-- ---- forms

-- an expression of this form
of_form : (mode : Mode) (x : OverTrees E.Exp-F) (e : Exp) → roll-Exp x ≡ e → Suits mode (M.expression_form (manner_Exp x))
    → ((l : LExp) → target_step (answered x) ≡ Some l → (manner_lexp l).is_full ≡ true) → FineExp mode e
of_form mode x e same h aims = subst (FineExp mode) same (record {
  suits = subst (Suits mode) (sym (fold-roll-Exp Manner Manner Manner Manner Manner Manner Manner Manner Manner
      M.expression_form M.target_form M.statement_form M.suffix_form M.case_form M.field_form M.index_form M.range_form M.further_form x)) h;
  aims = λ l k. aims l (sym (para-roll-Exp (Option LExp) (Unit {0}) (Unit {0}) (Unit {0}) (Unit {0}) (Unit {0}) (Unit {0}) (Unit {0}) (Unit {0}) target_step
      (λ a. tt) (λ a. tt) (λ a. tt) (λ a. tt) (λ a. tt) (λ a. tt) (λ a. tt) (λ a. tt) x) ∙ k);
})

-- the same of a form that isn't assigned to
of_other : (mode : Mode) (x : OverTrees E.Exp-F) (e : Exp) → roll-Exp x ≡ e → Suits mode (M.expression_form (manner_Exp x))
    → target_step (answered x) ≡ None → FineExp mode e
of_other mode x e same h other = of_form mode x e same h (λ l k. none (sym other ∙ k))

pub all_suit : (mode : Mode) (es : List Exp) → FineExps mode es → Suits mode (every (map manner es))
all_suit mode [] f = suits_leaf mode
all_suit mode (e ∷ es) f = suits_both mode (manner e) (every (map manner es)) f.0.suits (all_suit mode es f.1)

pub constant_fine : (mode : Mode) (place : Place) (literal : Literal) → FineExp mode (V.Constant place literal)
constant_fine mode place literal =
    of_other mode (E.Constant place literal) (V.Constant place literal) (V.rolls-Constant place literal) (suits_leaf mode) refl

pub variable_fine : (mode : Mode) (name : Name) → FineExp mode (V.Variable name)
variable_fine mode name = of_form mode (E.Variable name) (V.Variable name) (V.rolls-Variable name) (suits_leaf mode)
    (λ l k. subst (λ x. (manner_lexp x).is_full ≡ true) (some_same (L.ToName name) l k) (name_target name))

firsts : (es : List Exp) → map (λ (p : Exp × Option LExp). p.0) (map with_target es) ≡ es
firsts [] = refl
firsts (e ∷ es) = ap (λ more. e ∷ more) (firsts es)

suffix_firsts : (ss : List Suffix) → map (λ (p : Suffix × Unit {0}). p.0) (map (λ (s : Suffix). (s, tt {0})) ss) ≡ ss
suffix_firsts [] = refl
suffix_firsts (s ∷ ss) = ap (λ more. s ∷ more) (suffix_firsts ss)

pub call_fine : (mode : Mode) (name : Name) (es : List Exp) → FineExps mode es → FineExp mode (V.Call name es)
call_fine mode name es f = of_form mode (E.Call name es) (V.Call name es) (V.rolls-Call name es) (all_suit mode es f) (aims es f)
  where
    aims : (es : List Exp) → FineExps mode es → (l : LExp) → option_map (L.ToCall name) (arguments (map with_target es)) ≡ Some l
        → (manner_lexp l).is_full ≡ true
    aims [] f l k = none k
    aims (e ∷ es) f l k =
        subst (λ x. (manner_lexp x).is_full ≡ true) (ap (L.ToCall name) (sym (firsts (e ∷ es))) ∙ some_same _ l k)
        (call_target name (e ∷ es) (all_suit mode (e ∷ es) f).full)

pub prefixed_fine : (mode : Mode) (place : Place) (prefix : Prefix) (a : Exp) → FineExp mode a → FineExp mode (V.Prefixed place prefix a)
prefixed_fine mode place prefix a h =
    of_other mode (E.Prefixed place prefix a) (V.Prefixed place prefix a) (V.rolls-Prefixed place prefix a) h.suits refl

pub infix_fine : (mode : Mode) (place : Place) (operator : Operator) (a b : Exp) → FineExp mode a → FineExp mode b
    → FineExp mode (V.Infix place operator a b)
infix_fine mode place operator a b h k =
    of_other mode (E.Infix place operator a b) (V.Infix place operator a b) (V.rolls-Infix place operator a b)
    (suits_both mode (manner a) (manner b) h.suits k.suits) refl

pub leave_fine : (place : Place) (leaving : Leaving) (a : Exp) → FineExp Full a → FineExp Full (V.Leave place leaving a)
leave_fine place leaving a h =
    of_other Full (E.Leave place leaving a) (V.Leave place leaving a) (V.rolls-Leave place leaving a) (suits_full _ h.suits.full) refl

pub vector_fine : (mode : Mode) (place : Place) (es : List Exp) → FineExps mode es → FineExp mode (V.Group place B.Vector es)
vector_fine mode place es f =
    of_other mode (E.Group place B.Vector es) (V.Group place B.Vector es) (V.rolls-Group place B.Vector es) (all_suit mode es f) refl

pub list_fine : (mode : Mode) (place : Place) (es : List Exp) → FineExps mode es → FineExp mode (V.Group place B.List es)
list_fine mode place es f =
    of_other mode (E.Group place B.List es) (V.Group place B.List es) (V.rolls-Group place B.List es) (all_suit mode es f) refl

tuple_fine : (mode : Mode) (place : Place) (es : List Exp) → FineExps mode es → FineExp mode (V.Group place B.Tuple es)
tuple_fine mode place es f =
    of_form mode (E.Group place B.Tuple es) (V.Group place B.Tuple es) (V.rolls-Group place B.Tuple es) (all_suit mode es f) (aims es f)
  where
    aims : (es : List Exp) → FineExps mode es → (l : LExp) → option_map (L.ToTuple place) (some_of (map with_target es)) ≡ Some l
        → (manner_lexp l).is_full ≡ true
    aims [] f l k = none k
    aims (e ∷ es) f l k =
        map_aimed (L.ToTuple place) (all_there (map with_target (e ∷ es))) l (λ ls s. tuple_target place ls (all_aimed mode (e ∷ es) ls f s)) k

-- one expression in brackets is that expression, none or several are a tuple
pub in_brackets_fine : (mode : Mode) (place : Place) (es : List Exp) → FineExps mode es → FineExp mode (in_brackets place es)
in_brackets_fine mode place [] f = tuple_fine mode place [] f
in_brackets_fine mode place (e ∷ []) f = f.0
in_brackets_fine mode place (e ∷ a ∷ es) f = tuple_fine mode place (e ∷ a ∷ es) f

part_fine : (mode : Mode) (place : Place) (a : Exp) (ss : List Suffix) → FineExp mode a → Suits mode (every (map manner_suffix ss))
    → FineExp mode (V.Part place a ss)
part_fine mode place a ss h k =
    of_form mode (E.Part place a ss) (V.Part place a ss) (V.rolls-Part place a ss) (suits_both mode (manner a) (every (map manner_suffix ss)) h.suits k)
    (λ l e. map_aimed (part_target place (map (λ (p : Suffix × Unit {0}). p.0) (map (λ (s : Suffix). (s, tt {0})) ss))) (target a) l
    (λ x is. subst (λ xs. (manner_lexp (part_target place xs x)).is_full ≡ true) (sym (suffix_firsts ss)) (further_full place ss x (h.aims x is) k.full)) e)

-- a base with its suffixes
pub with_suffixes_fine : (mode : Mode) (place : Place) (a : Exp) (ss : List Suffix) → FineExp mode a → Suits mode (every (map manner_suffix ss))
    → FineExp mode (with_suffixes place a ss)
with_suffixes_fine mode place a [] h k = h
with_suffixes_fine mode place a (s ∷ ss) h k = part_fine mode place a (s ∷ ss) h k

pub typed_fine : (mode : Mode) (place : Place) (a : Exp) (typ : TyExp) → FineExp mode a → FineExp mode (V.Typed place a typ)
typed_fine mode place a typ h = of_other mode (E.Typed place a typ) (V.Typed place a typ) (V.rolls-Typed place a typ) h.suits refl

pub assign_fine : (place : Place) (l : LExp) (ts : List Target) (a : Exp) → (manner_lexp l).is_full ≡ true
    → (every (map manner_target ts)).is_full ≡ true → FineExp Full a → FineExp Full (V.Assign place l ts a)
assign_fine place l ts a h k f =
    of_other Full (E.Assign place l ts a) (V.Assign place l ts a) (V.rolls-Assign place l ts a)
    (suits_full _ (two _ _ (two _ _ h k) f.suits.full)) refl

pub block_fine : (place : Place) (ss : List Stmt) (o : Option Exp) → (every (map manner_stmt ss)).is_full ≡ true → FineIf Full o
    → FineExp Full (V.Block place ss o)
block_fine place ss None h f =
    of_other Full (E.Block place ss None) (V.Block place ss None) (V.rolls-Block place ss None) (suits_full _ (two _ _ h refl)) refl
block_fine place ss (Some e) h f =
    of_other Full (E.Block place ss (Some e)) (V.Block place ss (Some e)) (V.rolls-Block place ss (Some e)) (suits_full _ (two _ _ h f.suits.full)) refl

pub let_fine : (mode : Mode) (place : Place) (p : Pat) (a b : Exp) → FineExp mode a → FineExp mode b → FineExp mode (V.Let place p a b)
let_fine mode place p a b h k =
    of_other mode (E.Let place p a b) (V.Let place p a b) (V.rolls-Let place p a b) (suits_both mode (manner a) (manner b) h.suits k.suits) refl

pub var_fine : (mode : Mode) (place : Place) (name : Name) (typ : Option TyExp) (a b : Exp) → FineExp mode a → FineExp mode b
    → FineExp mode (V.Var place name typ a b)
var_fine mode place name typ a b h k =
    of_other mode (E.Var place name typ a b) (V.Var place name typ a b) (V.rolls-Var place name typ a b)
    (suits_both mode (manner a) (manner b) h.suits k.suits) refl

pub if_fine : (mode : Mode) (place : Place) (a b : Exp) (o : Option Exp) → FineExp mode a → FineExp mode b → FineIf mode o
    → FineExp mode (V.If place a b o)
if_fine mode place a b None h k f =
    of_other mode (E.If place a b None) (V.If place a b None) (V.rolls-If place a b None)
    (suits_both mode (both (manner a) (manner b)) leaf (suits_both mode (manner a) (manner b) h.suits k.suits) (suits_leaf mode)) refl
if_fine mode place a b (Some e) h k f =
    of_other mode (E.If place a b (Some e)) (V.If place a b (Some e)) (V.rolls-If place a b (Some e))
    (suits_both mode (both (manner a) (manner b)) (manner e) (suits_both mode (manner a) (manner b) h.suits k.suits) f.suits) refl

pub match_fine : (mode : Mode) (place : Place) (a : Exp) (cs : List Case) → FineExp mode a → Suits mode (every (map manner_case cs))
    → FineExp mode (V.Choose place Match a cs)
match_fine mode place a cs h k =
    of_other mode (E.Choose place Match a cs) (V.Choose place Match a cs) (V.rolls-Choose place Match a cs)
    (suits_both mode (manner a) (every (map manner_case cs)) h.suits k) refl

pub try_fine : (place : Place) (a : Exp) (cs : List Case) → FineExp Full a → Suits Full (every (map manner_case cs))
    → FineExp Full (V.Choose place Try a cs)
try_fine place a cs h k =
    of_other Full (E.Choose place Try a cs) (V.Choose place Try a cs) (V.rolls-Choose place Try a cs) (suits_full _ (two _ _ h.suits.full k.full)) refl

pub foreach_fine : (place : Place) (name : Name) (r : Range) (a : Exp) → (manner_range r).is_full ≡ true → FineExp Full a
    → FineExp Full (V.Foreach place name r a)
foreach_fine place name r a w h =
    of_other Full (E.Foreach place name r a) (V.Foreach place name r a) (V.rolls-Foreach place name r a) (suits_full _ (two _ _ w h.suits.full)) refl

pub loop_fine : (place : Place) (looping : Looping) (o : Option Exp) (a b : Exp) → FineIf Limited o → FineExp Full a → FineExp Full b
    → FineExp Full (V.Loop place looping o a b)
loop_fine place looping None a b f h k =
    of_other Full (E.Loop place looping None a b) (V.Loop place looping None a b) (V.rolls-Loop place looping None a b)
    (suits_full _ (two _ _ h.suits.full k.suits.full)) refl
loop_fine place looping (Some e) a b f h k =
    of_other Full (E.Loop place looping (Some e) a b) (V.Loop place looping (Some e) a b) (V.rolls-Loop place looping (Some e) a b)
    (suits_full _ (two _ _ (two _ _ f.suits.full h.suits.full) k.suits.full)) refl

pub update_fine : (mode : Mode) (place : Place) (a : Exp) (i : Index) (b : Exp) → FineExp mode a → Suits mode (manner_index i) → FineExp mode b
    → FineExp mode (V.Update place a i b)
update_fine mode place a i b h w k =
    of_other mode (E.Update place a i b) (V.Update place a i b) (V.rolls-Update place a i b)
    (suits_both mode (both (manner a) (manner_index i)) (manner b) (suits_both mode (manner a) (manner_index i) h.suits w) k.suits) refl

pub struct_fine : (mode : Mode) (place : Place) (name : Option Name) (vs : List FieldValue) → Suits mode (fields_form (map manner_field vs))
    → FineExp mode (V.Struct place name vs)
struct_fine mode place name vs h =
    of_other mode (E.Struct place name vs) (V.Struct place name vs) (V.rolls-Struct place name vs) (suits_fields mode (map manner_field vs) h) refl

pub with_fine : (mode : Mode) (place : Place) (a : Exp) (vs : List FieldValue) → FineExp mode a → Suits mode (fields_form (map manner_field vs))
    → FineExp mode (V.With place a vs)
with_fine mode place a vs h k =
    of_other mode (E.With place a vs) (V.With place a vs) (V.rolls-With place a vs)
    (suits_both mode (manner a) (fields_form (map manner_field vs)) h.suits k) refl

pub of_type_fine : (mode : Mode) (place : Place) (asking : Asking) (typ : TyExp) → FineExp mode (V.OfType place asking typ)
of_type_fine mode place asking typ =
    of_other mode (E.OfType place asking typ) (V.OfType place asking typ) (V.rolls-OfType place asking typ) (suits_leaf mode) refl

pub assert_fine : (place : Place) (a : Exp) (text : Option (List ℕ)) → FineExp Full a → FineExp Full (V.Assert place a text)
assert_fine place a text h =
    of_other Full (E.Assert place a text) (V.Assert place a text) (V.rolls-Assert place a text) (suits_full _ h.suits.full) refl
