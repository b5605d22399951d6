-- What is found of a pattern binds the names that it says.
use Rattle.std.proofs.Common.{◌≡◌, ℕ, suc, ◌*◌, pos, ◌-ℤ◌, List, [], ◌∷◌, ◌++◌, map, length, replicate, nat_eq, refl, sym, ap, ◌∙◌, subst, append-nil}
use Rattle.std.proofs.Common.{Bool, true, false, if◌then◌else◌, Option, Some, None}
use Rattle.sail_base.specs.declared.place.Place.{Place}
use Rattle.sail_syntax.specs.declared.name.Name.{Name}
use Rattle.sail_syntax.specs.declared.patterns.Joined.{Joined, roll-Joined}
use Rattle.sail_syntax.specs.declared.patterns.Pat.{Pat, Pat-F, roll-Pat}
use Rattle.sail_syntax.specs.declared.patterns.Pat.TheFolds.{fold-roll-Joined, fold-roll-Pat, ind-Pat, map-Joined, map-Pat}
use Rattle.sail_syntax.specs.declared.patterns.Pat.TheOpen as P
use Rattle.sail_syntax.specs.declared.patterns.Pat.TheOpen.{Joined-F}
use Rattle.sail_syntax.specs.declared.words.Brackets.TheVariants as B
use Rattle.sail_types.specs.Shapes.{at, put, shape}
use Rattle.sail_types.specs.declared.shapes.Shape.{Shape, out-Shape}
use Rattle.sail_types.specs.declared.shapes.Shape.TheVariants as V
use Rattle.sail_core.specs.declared.patterns.Form.{Form}
use Rattle.sail_core.specs.declared.patterns.Form.TheVariants as F
use Rattle.sail_core.specs.declared.patterns.Head.{Head}
use Rattle.sail_core.specs.declared.patterns.Head.TheVariants as H
use Rattle.sail_core.specs.declared.patterns.Literal.{Literal as CoreLiteral}
use Rattle.sail_core.specs.declared.patterns.Literal.TheVariants as L
use Rattle.sail_core.specs.declared.patterns.Pattern.{Pattern, fold-roll-Pattern}
use Rattle.sail_core.specs.declared.written.Written.{Written}
use Rattle.shape_joins.specs.Learning.{learn}
use Rattle.shape_rules.specs.declared.callees.Candidate.{Candidate}
use Rattle.shape_rules.specs.declared.callees.Mapping.{Mapping}
use Rattle.shape_rules.specs.declared.callees.Meant.{Meant}
use Rattle.shape_rules.specs.declared.callees.Meant.TheVariants as M
use Rattle.shape_rules.specs.declared.error.ShapeError.TheVariants as error
use Rattle.shape_rules.specs.declared.locals.Local.{Local}
use Rattle.shape_rules.specs.Calls.{takes_unit}
use Rattle.shape_rules.specs.Patterns.{Looked, LookedAll, Piece, Which, Widths, as_one, backwards, callee_head, callee_look, construct_look}
use Rattle.shape_rules.specs.Patterns.{constructor_look, constructor_parts, core_literal, direction_of, each_looked, either, form_piece, forwards}
use Rattle.shape_rules.specs.Patterns.{joined_piece, known_or_nevers, list_item, look, mapping_look_as, name_look, neither, nevers, opened, pattern}
use Rattle.shape_rules.specs.Patterns.{piece, pieces_for, seen_as, tuple_parts, typed_form, unit_piece, vector_item, which_side}
use Rattle.shape_rules.specs.Scopes.{Setting, constant}
use Rattle.shape_rules.specs.Written.{shape_in, written}
use Rattle.shape_meanings.proofs.PatternsSound.{joined_look}
use Rattle.safe_models.specs.Names.{form_names, in_order, pattern_names}

abbrev pub local_names : List Local → List (List ℕ)
local_names ls = map (λ (l : Local). l.name) ls

locals_both : (xs ys : List Local) → local_names (xs ++ ys) ≡ (local_names xs ++ local_names ys)
locals_both [] ys = refl
locals_both (x ∷ xs) ys = ap (λ ns. x.name ∷ ns) (locals_both xs ys)

-- ---- what is said

abbrev Says : Looked → Type 0
Says l = pattern_names l.pattern ≡ local_names l.binds

abbrev SaysAll : LookedAll → Type 0
SaysAll l = in_order (map pattern_names l.patterns) ≡ local_names l.binds

abbrev PieceSays : Piece → Type 0
PieceSays p = (setting : Setting) (widths : Widths) (subject : Shape) → Says (p.look setting widths subject)

abbrev EachSays : List Piece → Type 0
EachSays ps = (setting : Setting) (widths : Widths) (ss : List Shape) → SaysAll (each_looked ps setting widths ss)

-- the names of a pattern of this form
names_are : (place : Place) (form : Form) (ps : List Pattern) → pattern_names (pattern place form ps) ≡ form_names form (map pattern_names ps)
names_are place form ps =
    fold-roll-Pattern (List (List ℕ)) (λ p. form_names p.form p.parts) (record { place = place; form = form; parts = ps })

-- ---- several

none_say : EachSays []
none_say setting widths ss = refl

joined_names : (p q : List (List ℕ)) (xs ys : List Local) → p ≡ local_names xs → q ≡ local_names ys → (p ++ q) ≡ local_names (xs ++ ys)
joined_names p q xs ys e k = (λ j. e j ++ k j) ∙ sym (locals_both xs ys)

more_say : (p : Piece) (ps : List Piece) → PieceSays p → EachSays ps → EachSays (p ∷ ps)
more_say p ps one others setting widths [] =
    let l = p.look setting widths V.Never in
    let more = each_looked ps setting widths [] in
    joined_names (pattern_names l.pattern) (in_order (map pattern_names more.patterns)) l.binds more.binds (one setting widths V.Never)
    (others setting widths [])
more_say p ps one others setting widths (s ∷ ss) =
    let l = p.look setting widths s in
    let more = each_looked ps setting widths ss in
    joined_names (pattern_names l.pattern) (in_order (map pattern_names more.patterns)) l.binds more.binds (one setting widths s)
    (others setting widths ss)

-- ---- forms

found_says : (place : Place) (literal : CoreLiteral) → pattern_names (pattern place (F.Opens (H.Is literal)) []) ≡ []
found_says place literal = names_are place (F.Opens (H.Is literal)) []

any_says : (place : Place) → pattern_names (pattern place F.Any []) ≡ []
any_says place = names_are place F.Any []

opened_says : (place : Place) (head : Head) (all : LookedAll) → SaysAll all
    → pattern_names (pattern place (F.Opens head) all.patterns) ≡ local_names all.binds
opened_says place head all h = names_are place (F.Opens head) all.patterns ∙ h

maps_says : (place : Place) (d : ℕ) (l : Looked) → Says l → pattern_names (pattern place (F.Maps d) (l.pattern ∷ [])) ≡ local_names l.binds
maps_says place d l h = names_are place (F.Maps d) (l.pattern ∷ []) ∙ append-nil (pattern_names l.pattern) ∙ h

-- the shapes that come to the parts of a tuple, and to the parameters of a constructor
abbrev tuple_shapes : Shape → List Piece → List Shape
tuple_shapes subject ps = tuple_parts (out-Shape (seen_as subject (V.Tuple (replicate (length ps) V.Never))))

abbrev param_shapes_of : Candidate → Shape → List Shape
param_shapes_of f subject = map (put (at (known_or_nevers f.variables (learn f.answer subject (nevers f.variables))))) f.params

one_says : (place : Place) (ps : List Piece) → EachSays ps → (setting : Setting) (widths : Widths) (subject : Shape)
    → Says (as_one place ps setting widths subject)
one_says place [] each setting widths subject = found_says place L.Unit
one_says place (p ∷ []) each setting widths subject =
    let l = p.look setting widths subject in
    sym (append-nil (pattern_names l.pattern)) ∙ each setting widths (subject ∷ []) ∙ ap local_names (append-nil l.binds)
one_says place (p ∷ q ∷ ps) each setting widths subject =
    opened_says place H.Tuple (each_looked (p ∷ q ∷ ps) setting widths (tuple_shapes subject (p ∷ q ∷ ps)))
    (each setting widths (tuple_shapes subject (p ∷ q ∷ ps)))

name_says : (name : Name) (meant : Option Meant) (setting : Setting) (widths : Widths) (subject : Shape) → Says (name_look name meant setting widths subject)
name_says name (Some (M.Member i k)) setting widths subject = found_says name.place (L.Member i k)
name_says name meant setting widths subject = names_are name.place (F.Binds name.text) []

unit_says : (place : Place) (b : Bool) → EachSays (if b then unit_piece place ∷ [] else [])
unit_says place true = more_say (unit_piece place) [] (λ setting widths subject. found_says place L.Unit) none_say
unit_says place false = none_say

pieces_say : (place : Place) (params : List Shape) (ps : List Piece) → EachSays ps → EachSays (pieces_for place params ps)
pieces_say place params [] each = unit_says place (takes_unit params)
pieces_say place params (p ∷ ps) each = each

constructor_says : (name : Name) (head : Head) (f : Candidate) (ps : List Piece) → EachSays ps → (setting : Setting) (widths : Widths) (subject : Shape)
    → Says (constructor_look name head f ps setting widths subject)
constructor_says name head f ps each setting widths subject = by (nat_eq (length f.params) (length ps))
  where
    by : (b : Bool) → Says (if b then constructor_parts name head f ps (learn f.answer subject (nevers f.variables)) setting widths subject
        else opened name.place head (error.Arity name.place (length f.params) (length ps) ∷ []) (each_looked ps setting widths []))
    by true =
        opened_says name.place head (each_looked ps setting widths (param_shapes_of f subject)) (each setting widths (param_shapes_of f subject))
    by false = opened_says name.place head (each_looked ps setting widths []) (each setting widths [])

callee_says : (name : Name) (ps : List Piece) (f : Candidate) (d : Option ℕ) (head : Option Head) → EachSays ps → (setting : Setting) (widths : Widths)
    (subject : Shape) → Says (callee_look name ps f d head setting widths subject)
callee_says name ps f (Some d) head each setting widths subject =
    maps_says name.place d (as_one name.place ps setting widths f.answer) (one_says name.place ps each setting widths f.answer)
callee_says name ps f None (Some head) each setting widths subject =
    constructor_says name head f (pieces_for name.place f.params ps) (pieces_say name.place f.params ps each) setting widths subject
callee_says name ps f None None each setting widths subject = any_says name.place

mapping_says : (name : Name) (m : Mapping) (ps : List Piece) → EachSays ps → (w : Which) (setting : Setting) (widths : Widths) (subject : Shape)
    → Says (mapping_look_as name.place m ps w setting widths subject)
mapping_says name m ps each forwards setting widths subject =
    maps_says name.place (2 * m.number) (as_one name.place ps setting widths (shape m.right)) (one_says name.place ps each setting widths (shape m.right))
mapping_says name m ps each backwards setting widths subject =
    maps_says name.place (suc (2 * m.number)) (as_one name.place ps setting widths (shape m.left))
    (one_says name.place ps each setting widths (shape m.left))
mapping_says name m ps each neither setting widths subject =
    maps_says name.place (2 * m.number) (as_one name.place ps setting widths V.Never) (one_says name.place ps each setting widths V.Never)
mapping_says name m ps each either setting widths subject =
    maps_says name.place (2 * m.number) (as_one name.place ps setting widths V.Never) (one_says name.place ps each setting widths V.Never)

construct_says : (name : Name) (ps : List Piece) (meant : Option Meant) → EachSays ps → (setting : Setting) (widths : Widths) (subject : Shape)
    → Says (construct_look name ps meant setting widths subject)
construct_says name ps (Some (M.Callee f)) each setting widths subject =
    callee_says name ps f (direction_of f.doing) (callee_head f.doing) each setting widths subject
construct_says name ps (Some (M.Mapping m)) each setting widths subject =
    mapping_says name m ps each (which_side m subject) setting widths subject
construct_says name ps meant each setting widths subject = any_says name.place

-- a type that doesn't read leaves a form without one
typed_names : (place : Place) (o : Option Written) (p : Pattern) → pattern_names (pattern place (typed_form o) (p ∷ [])) ≡ pattern_names p
typed_names place None p = names_are place F.Any (p ∷ []) ∙ append-nil (pattern_names p)
typed_names place (Some w) p = names_are place (F.Typed w) (p ∷ []) ∙ append-nil (pattern_names p)

-- ---- patterns

abbrev SuchP : Type 0
SuchP = (p : Pat) × PieceSays (piece p)

abbrev SuchJ : Type 0
SuchJ = (j : Joined) × PieceSays (joined_look j)

abbrev pats : List SuchP → List Pat
pats ys = map (λ (p : SuchP). p.0) ys

abbrev joins : List SuchJ → List Joined
joins ys = map (λ (j : SuchJ). j.0) ys

each_says : (ys : List SuchP) → EachSays (map piece (pats ys))
each_says [] = none_say
each_says (y ∷ ys) = more_say (piece y.0) (map piece (pats ys)) y.1 (each_says ys)

each_joined : (ys : List SuchJ) → EachSays (map joined_look (joins ys))
each_joined [] = none_say
each_joined (y ∷ ys) = more_say (joined_look y.0) (map joined_look (joins ys)) y.1 (each_joined ys)

abbrev first : Pat-F SuchP SuchJ → Pat-F Pat Joined
first y = map-Pat SuchP SuchJ Pat Joined (λ p. p.0) (λ j. j.0) y

abbrev looked_form : Pat-F Pat Joined → Pat-F Piece Piece
looked_form d = map-Pat Pat Joined Piece Piece piece joined_look d

again : (y : Pat-F SuchP SuchJ) → PieceSays (form_piece (looked_form (first y)))
again (P.Wildcard place) setting widths subject = any_says place
again (P.Constant place literal) setting widths subject = found_says place (core_literal literal)
again (P.Negative place n) setting widths subject = found_says place (L.Integer (pos 0 -ℤ n))
again (P.Bind name) setting widths subject = name_says name (setting.value name.text) setting widths subject
again (P.Construct name ys) setting widths subject =
    construct_says name (map piece (pats ys)) (setting.value name.text) (each_says ys) setting widths subject
again (P.Group place B.Tuple []) setting widths subject = found_says place L.Unit
again (P.Group place B.Tuple (y ∷ ys)) setting widths subject =
    let ps : List Piece = map piece (pats (y ∷ ys)) in
    opened_says place H.Tuple (each_looked ps setting widths (tuple_shapes subject ps)) (each_says (y ∷ ys) setting widths (tuple_shapes subject ps))
again (P.Group place B.Vector ys) setting widths subject =
    let ps : List Piece = map piece (pats ys) in
    let ss : List Shape = replicate (length ps) (vector_item (out-Shape subject)) in
    opened_says place H.Vector (each_looked ps setting widths ss) (each_says ys setting widths ss)
again (P.Group place B.List ys) setting widths subject =
    let ps : List Piece = map piece (pats ys) in
    let ss : List Shape = replicate (length ps) (list_item (out-Shape subject)) in
    opened_says place H.List (each_looked ps setting widths ss) (each_says ys setting widths ss)
again (P.Concat place a b ys) setting widths subject =
    let ps : List Piece = piece a.0 ∷ piece b.0 ∷ map joined_look (joins ys) in
    let ss : List Shape = replicate (length ps) V.Bits in
    opened_says place (H.Cut (map (λ (p : Piece). p.width setting widths) ps)) (each_looked ps setting widths ss)
    (more_say (piece a.0) (piece b.0 ∷ map joined_look (joins ys)) a.1 (more_say (piece b.0) (map joined_look (joins ys)) b.1 (each_joined ys))
    setting widths ss)
again (P.Cons place a b) setting widths subject =
    let ps : List Piece = piece a.0 ∷ piece b.0 ∷ [] in
    let ss : List Shape = list_item (out-Shape subject) ∷ V.List (list_item (out-Shape subject)) ∷ [] in
    opened_says place H.Cons (each_looked ps setting widths ss)
    (more_say (piece a.0) (piece b.0 ∷ []) a.1 (more_say (piece b.0) [] b.1 none_say) setting widths ss)
again (P.As place a name) setting widths subject =
    let l = (piece a.0).look setting widths subject in
    names_are place (F.As name.text) (l.pattern ∷ [])
    ∙ ap (λ ns. ns ++ name.text ∷ []) (append-nil (pattern_names l.pattern) ∙ a.1 setting widths subject)
    ∙ sym (locals_both l.binds (constant name.text subject ∷ []))
again (P.Typed place a typ) setting widths subject =
    let seen : Shape = seen_as subject (shape_in setting.within typ) in
    typed_names place (written setting.within typ) ((piece a.0).look setting widths seen).pattern ∙ a.1 setting widths seen

rolled : (y : Pat-F SuchP SuchJ) → PieceSays (piece (roll-Pat (first y)))
rolled y = subst PieceSays (sym (fold-roll-Pat Piece Piece form_piece joined_piece (first y))) (again y)

abbrev first_joined : Joined-F SuchP SuchJ → Joined-F Pat Joined
first_joined y = map-Joined SuchP SuchJ Pat Joined (λ p. p.0) (λ j. j.0) y

rolled_joined : (y : Joined-F SuchP SuchJ) → PieceSays (joined_look (roll-Joined (first_joined y)))
rolled_joined y = subst PieceSays (sym (fold-roll-Joined Piece Piece form_piece joined_piece (first_joined y))) y.part.1

pub look_says : (p : Pat) (setting : Setting) (widths : Widths) (subject : Shape)
    → pattern_names (look p setting widths subject).pattern ≡ local_names (look p setting widths subject).binds
look_says = ind-Pat (λ p. PieceSays (piece p)) (λ j. PieceSays (joined_look j)) (λ e y same. subst (λ d. PieceSays (piece (roll-Pat d))) same (rolled y))
    (λ e y same. subst (λ d. PieceSays (joined_look (roll-Joined d))) same (rolled_joined y))
