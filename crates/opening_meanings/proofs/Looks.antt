-- What is found of a pattern in a plain expression is found of it too where no mapping is: an induction on the pattern.
use Rattle.std.proofs.Common.{◌≡◌, ℕ, suc, ◌*◌, List, [], ◌∷◌, ◌++◌, length, map, replicate, ap, sym, ◌∙◌, refl, subst, Bool, true, false, nat_eq, is_some}
use Rattle.std.proofs.Common.{if◌then◌else◌, Option, Some, None}
use Rattle.sail_base.specs.declared.kind.Kind.TheVariants as Sort
use Rattle.sail_base.specs.declared.place.Place.{Place}
use Rattle.sail_kinds.specs.declared.error.TableError.{TableError}
use Rattle.sail_types.specs.Shapes.{put, at, shape}
use Rattle.sail_types.specs.declared.shapes.Shape.{Shape, out-Shape}
use Rattle.sail_types.specs.declared.shapes.Shape.TheVariants as V
use Rattle.sail_syntax.specs.declared.name.Name.{Name}
use Rattle.sail_syntax.specs.declared.words.Brackets.{Brackets}
use Rattle.sail_syntax.specs.declared.words.Brackets.TheVariants as B
use Rattle.sail_syntax.specs.declared.patterns.Joined.{Joined, roll-Joined}
use Rattle.sail_syntax.specs.declared.patterns.Pat.{Pat, Pat-F, roll-Pat}
use Rattle.sail_syntax.specs.declared.patterns.Pat.TheOpen as P
use Rattle.sail_syntax.specs.declared.patterns.Pat.TheOpen.{Joined-F}
use Rattle.sail_syntax.specs.declared.patterns.Pat.TheFolds.{fold-Joined, fold-roll-Pat, fold-roll-Joined, map-Pat, map-Joined, ind-Pat}
use Rattle.sail_core.specs.declared.patterns.Head.{Head}
use Rattle.sail_core.specs.declared.patterns.Head.TheVariants as H
use Rattle.sail_names.specs.Known as Tables
use Rattle.sail_names.specs.Known.{is_construction}
use Rattle.sail_names.specs.Patterns.{unless, joined, type_failures, uses_form, uses_joined, uses_failures, uses_of_joined}
use Rattle.shape_joins.specs.Learning.{learn}
use Rattle.shape_rules.specs.declared.callees.Candidate.{Candidate}
use Rattle.shape_rules.specs.declared.callees.Mapping.{Mapping}
use Rattle.shape_rules.specs.declared.callees.Meant.{Meant}
use Rattle.shape_rules.specs.declared.callees.Meant.TheVariants as M
use Rattle.shape_rules.specs.declared.error.ShapeError.{ShapeError}
use Rattle.shape_rules.specs.declared.error.ShapeError.TheVariants as error
use Rattle.shape_rules.specs.Scopes.{Setting}
use Rattle.shape_rules.specs.Written.{shape_in}
use Rattle.shape_rules.specs.Patterns.{Looked, Piece, Widths, Which, forwards, backwards, neither, either, piece, look, form_piece, joined_piece}
use Rattle.shape_rules.specs.Patterns.{also_looked, as_look, as_one, callee_head, callee_look, concat_look, construct_look, construct_width}
use Rattle.shape_rules.specs.Patterns.{constructor_look, direction_of, direction_width, each_looked, first_param, group_look, known_or_nevers, list_item}
use Rattle.shape_rules.specs.Patterns.{mapping_look_as, maps, name_look, name_width, nevers, opened, overlap_at, pieces_for, seen_as, shape_faults}
use Rattle.shape_rules.specs.Patterns.{tuple_parts, typed_look, unit_piece, vector_item, which_side, width_faults}
use Rattle.shape_rules.specs.Findings.{ill_shaped}
use Rattle.shape_rules.specs.Calls.{takes_unit}
use Rattle.shape_meanings.specs.Naming.{is_constructor}
use Rattle.shape_meanings.proofs.Naming.{unless_true}
use Rattle.shape_meanings.proofs.Settling.{both_empty}
use Rattle.opening_meanings.specs.Plain.{callee_if, uncalled, uncalled_meant}
use Rattle.opening_meanings.proofs.Plain.{IsPlain, construction_left}

-- ---- a part of a pattern

pub record SamePiece (s : Setting) (p : Piece) : Type 0 where
  pub width : (widths : Widths) → p.width s widths ≡ p.width (uncalled s) widths
  pub look : (widths : Widths) (subject : Shape) → p.look s widths subject ≡ p.look (uncalled s) widths subject

abbrev pub SamePieces : Setting → List Piece → Type 0
SamePieces s [] = Unit {0}
SamePieces s (p ∷ ps) = SamePiece s p × SamePieces s ps

each_same : (s : Setting) (ps : List Piece) → SamePieces s ps → (widths : Widths) (ss : List Shape)
    → each_looked ps s widths ss ≡ each_looked ps (uncalled s) widths ss
each_same s [] same widths ss = refl
each_same s (p ∷ ps) same widths [] = λ j. also_looked (same.0.look widths V.Never j) (each_same s ps same.1 widths [] j)
each_same s (p ∷ ps) same widths (t ∷ ts) = λ j. also_looked (same.0.look widths t j) (each_same s ps same.1 widths ts j)

widths_same : (s : Setting) (ps : List Piece) → SamePieces s ps → (widths : Widths)
    → map (λ (p : Piece). p.width s widths) ps ≡ map (λ (p : Piece). p.width (uncalled s) widths) ps
widths_same s [] same widths = refl
widths_same s (p ∷ ps) same widths = λ j. same.0.width widths j ∷ widths_same s ps same.1 widths j

width_faults_same : (s : Setting) (ps : List Piece) → SamePieces s ps → (before : Bool) (widths : Widths)
    → width_faults before s widths ps ≡ width_faults before (uncalled s) widths ps
width_faults_same s [] same before widths = refl
width_faults_same s (p ∷ ps) same before widths = λ j.
    if is_some (same.0.width widths j) then width_faults_same s ps same.1 before widths j
    else (if before then error.WidthUnknown p.place ∷ width_faults_same s ps same.1 true widths j
    else width_faults_same s ps same.1 true widths j)

-- a part of which this is found
abbrev midway : Piece → Looked → Piece
midway p found = record { place = p.place; width = p.width; typ = p.typ; look = λ setting widths subject. found }

-- ---- names

-- a bare identifier binds, unless an enum has it
callee_looked : (s : Setting) (name : Name) (f : Candidate) (b : Bool) (widths : Widths) (subject : Shape)
    → name_look name (Some (M.Callee f)) s widths subject ≡ name_look name (callee_if b f) (uncalled s) widths subject
callee_looked s name f true widths subject = refl
callee_looked s name f false widths subject = refl

name_looked : (s : Setting) (name : Name) (meant : Option Meant) (widths : Widths) (subject : Shape)
    → name_look name meant s widths subject ≡ name_look name (uncalled_meant meant) (uncalled s) widths subject
name_looked s name (Some (M.Callee f)) widths subject = callee_looked s name f (is_constructor f.doing) widths subject
name_looked s name (Some (M.Mapping m)) widths subject = refl
name_looked s name (Some (M.Overload fs)) widths subject = refl
name_looked s name (Some (M.Member i k)) widths subject = refl
name_looked s name (Some (M.Register r t)) widths subject = refl
name_looked s name (Some (M.Let i t)) widths subject = refl
name_looked s name (Some (M.Row row)) widths subject = refl
name_looked s name None widths subject = refl

callee_wide : (name : Name) (f : Candidate) (b : Bool) (widths : Widths)
    → name_width name (Some (M.Callee f)) widths ≡ name_width name (callee_if b f) widths
callee_wide name f true widths = refl
callee_wide name f false widths = refl

name_wide : (name : Name) (meant : Option Meant) (widths : Widths) → name_width name meant widths ≡ name_width name (uncalled_meant meant) widths
name_wide name (Some (M.Callee f)) widths = callee_wide name f (is_constructor f.doing) widths
name_wide name (Some (M.Mapping m)) widths = refl
name_wide name (Some (M.Overload fs)) widths = refl
name_wide name (Some (M.Member i k)) widths = refl
name_wide name (Some (M.Register r t)) widths = refl
name_wide name (Some (M.Let i t)) widths = refl
name_wide name (Some (M.Row row)) widths = refl
name_wide name None widths = refl

-- ---- `id(p, q)`, whatever it means

unit_same : (s : Setting) (place : Place) → SamePiece s (unit_piece place)
unit_same s place = record { width = λ widths. refl; look = λ widths subject. refl }

pieces_same : (s : Setting) (place : Place) (params : List Shape) (ps : List Piece) → SamePieces s ps → SamePieces s (pieces_for place params ps)
pieces_same s place params [] same = by_unit (takes_unit params)
  where
    by_unit : (b : Bool) → SamePieces s (if b then unit_piece place ∷ [] else [])
    by_unit true = (unit_same s place, tt)
    by_unit false = tt
pieces_same s place params (p ∷ ps) same = same

one_same : (s : Setting) (place : Place) (ps : List Piece) → SamePieces s ps → (widths : Widths) (subject : Shape)
    → as_one place ps s widths subject ≡ as_one place ps (uncalled s) widths subject
one_same s place [] same widths subject = refl
one_same s place (p ∷ []) same widths subject = same.0.look widths subject
one_same s place (p ∷ q ∷ ps) same widths subject = λ j.
    let count : ℕ = length (p ∷ q ∷ ps) in
    opened place H.Tuple (shape_faults place subject (V.Tuple (replicate count V.Never)))
    (each_same s (p ∷ q ∷ ps) same widths (tuple_parts (out-Shape (seen_as subject (V.Tuple (replicate count V.Never))))) j)

constructor_same : (s : Setting) (name : Name) (head : Head) (f : Candidate) (ps : List Piece) → SamePieces s ps → (widths : Widths) (subject : Shape)
    → constructor_look name head f ps s widths subject ≡ constructor_look name head f ps (uncalled s) widths subject
constructor_same s name head f ps same widths subject = by_count (nat_eq (length f.params) (length ps))
  where
    own : List ShapeError
    own = shape_faults name.place subject (put (at (nevers f.variables)) f.answer)

    params : List Shape
    params = map (put (at (known_or_nevers f.variables (learn f.answer subject (nevers f.variables))))) f.params

    by_count : (b : Bool)
        → (if b then opened name.place head own (each_looked ps s widths params)
        else opened name.place head (error.Arity name.place (length f.params) (length ps) ∷ []) (each_looked ps s widths []))
        ≡ (if b then opened name.place head own (each_looked ps (uncalled s) widths params)
        else opened name.place head (error.Arity name.place (length f.params) (length ps) ∷ []) (each_looked ps (uncalled s) widths []))
    by_count true = λ j. opened name.place head own (each_same s ps same widths params j)
    by_count false = λ j.
        opened name.place head (error.Arity name.place (length f.params) (length ps) ∷ []) (each_same s ps same widths [] j)

callee_same : (s : Setting) (name : Name) (ps : List Piece) → SamePieces s ps → (f : Candidate) (d : Option ℕ) (head : Option Head) (widths : Widths)
    (subject : Shape)
    → callee_look name ps f d head s widths subject ≡ callee_look name ps f d head (uncalled s) widths subject
callee_same s name ps same f (Some d) head widths subject = λ j.
    maps name.place d (shape_faults name.place subject (first_param f.params)) (one_same s name.place ps same widths f.answer j)
callee_same s name ps same f None (Some head) widths subject =
    constructor_same s name head f (pieces_for name.place f.params ps) (pieces_same s name.place f.params ps same) widths subject
callee_same s name ps same f None None widths subject = refl

mapping_same : (s : Setting) (place : Place) (m : Mapping) (ps : List Piece) → SamePieces s ps → (w : Which) (widths : Widths) (subject : Shape)
    → mapping_look_as place m ps w s widths subject ≡ mapping_look_as place m ps w (uncalled s) widths subject
mapping_same s place m ps same forwards widths subject = λ j. maps place (2 * m.number) [] (one_same s place ps same widths (shape m.right) j)
mapping_same s place m ps same backwards widths subject = λ j. maps place (suc (2 * m.number)) [] (one_same s place ps same widths (shape m.left) j)
mapping_same s place m ps same neither widths subject = λ j.
    maps place (2 * m.number) (ill_shaped place ∷ []) (one_same s place ps same widths V.Never j)
mapping_same s place m ps same either widths subject = λ j.
    maps place (2 * m.number) (overlap_at place m ∷ []) (one_same s place ps same widths V.Never j)

construct_same : (s : Setting) (name : Name) (ps : List Piece) → SamePieces s ps → (meant : Option Meant) (widths : Widths) (subject : Shape)
    → construct_look name ps meant s widths subject ≡ construct_look name ps meant (uncalled s) widths subject
construct_same s name ps same (Some (M.Callee f)) widths subject =
    callee_same s name ps same f (direction_of f.doing) (callee_head f.doing) widths subject
construct_same s name ps same (Some (M.Mapping m)) widths subject = mapping_same s name.place m ps same (which_side m subject) widths subject
construct_same s name ps same meant widths subject = refl

direction_wide : (s : Setting) (d : Option ℕ) → direction_width s d ≡ direction_width (uncalled s) d
direction_wide s None = refl
direction_wide s (Some d) = refl

construct_wide : (s : Setting) (meant : Option Meant) → construct_width s meant ≡ construct_width (uncalled s) meant
construct_wide s (Some (M.Mapping m)) = refl
construct_wide s (Some (M.Callee f)) = direction_wide s (direction_of f.doing)
construct_wide s meant = refl

-- ---- several patterns

group_same : (s : Setting) (place : Place) (brackets : Brackets) (ps : List Piece) → SamePieces s ps → (widths : Widths) (subject : Shape)
    → group_look place brackets ps s widths subject ≡ group_look place brackets ps (uncalled s) widths subject
group_same s place B.Tuple [] same widths subject = refl
group_same s place B.Tuple (p ∷ ps) same widths subject = λ j.
    let count : ℕ = length (p ∷ ps) in
    opened place H.Tuple (shape_faults place subject (V.Tuple (replicate count V.Never)))
    (each_same s (p ∷ ps) same widths (tuple_parts (out-Shape (seen_as subject (V.Tuple (replicate count V.Never))))) j)
group_same s place B.Vector ps same widths subject = λ j.
    opened place H.Vector (shape_faults place subject (V.Vector V.Never))
    (each_same s ps same widths (replicate (length ps) (vector_item (out-Shape subject))) j)
group_same s place B.List ps same widths subject = λ j.
    opened place H.List (shape_faults place subject (V.List V.Never))
    (each_same s ps same widths (replicate (length ps) (list_item (out-Shape subject))) j)

concat_same : (s : Setting) (place : Place) (ps : List Piece) → SamePieces s ps → (widths : Widths) (subject : Shape)
    → concat_look place ps s widths subject ≡ concat_look place ps (uncalled s) widths subject
concat_same s place ps same widths subject = λ j.
    opened place (H.Cut (widths_same s ps same widths j)) (shape_faults place subject V.Bits ++ width_faults_same s ps same false widths j)
    (each_same s ps same widths (replicate (length ps) V.Bits) j)

-- ---- one form

abbrev joined_look : Joined → Piece
joined_look = fold-Joined Piece Piece form_piece joined_piece

-- what is found of a pattern whose names have no failure is found of it where no mapping is
abbrev SameAs : (Tables.Setting → List TableError) → Piece → Type 0
SameAs uses p = (s : Setting) (names : Tables.Setting) → IsPlain s names → uses names ≡ [] → SamePiece s p

abbrev SamePat : Pat → Type 0
SamePat p = SameAs (λ names. uses_failures names p) (piece p)

abbrev SameJoined : Joined → Type 0
SameJoined j = SameAs (λ names. uses_of_joined names j) (joined_look j)

abbrev SuchP : Type 0
SuchP = (p : Pat) × SamePat p

abbrev SuchJ : Type 0
SuchJ = (j : Joined) × SameJoined j

abbrev pats : List SuchP → List Pat
pats ys = map (λ (p : SuchP). p.0) ys

abbrev joins : List SuchJ → List Joined
joins ys = map (λ (j : SuchJ). j.0) ys

parts_same : (ys : List SuchP) (s : Setting) (names : Tables.Setting) → IsPlain s names → joined (map (uses_failures names) (pats ys)) ≡ []
    → SamePieces s (map piece (pats ys))
parts_same [] s names is u = tt
parts_same (y ∷ ys) s names is u =
    let h = both_empty (uses_failures names y.0) (joined (map (uses_failures names) (pats ys))) u in
    (y.1 s names is h.0, parts_same ys s names is h.1)

joins_same : (ys : List SuchJ) (s : Setting) (names : Tables.Setting) → IsPlain s names → joined (map (uses_of_joined names) (joins ys)) ≡ []
    → SamePieces s (map joined_look (joins ys))
joins_same [] s names is u = tt
joins_same (y ∷ ys) s names is u =
    let h = both_empty (uses_of_joined names y.0) (joined (map (uses_of_joined names) (joins ys))) u in
    (y.1 s names is h.0, joins_same ys s names is h.1)

abbrev first : Pat-F SuchP SuchJ → Pat-F Pat Joined
first = map-Pat SuchP SuchJ Pat Joined (λ p. p.0) (λ j. j.0)

abbrev used_form : Tables.Setting → Pat-F Pat Joined → Pat-F (List TableError) (List TableError)
used_form names = map-Pat Pat Joined (List TableError) (List TableError) (uses_failures names) (uses_of_joined names)

abbrev looked_form : Pat-F Pat Joined → Pat-F Piece Piece
looked_form = map-Pat Pat Joined Piece Piece piece joined_look

abbrev FormSame : Pat-F Pat Joined → Type 0
FormSame d = SameAs (λ names. uses_form names (used_form names d)) (form_piece (looked_form d))

again : (y : Pat-F SuchP SuchJ) → FormSame (first y)
again (P.Wildcard place) s names is u = record { width = λ widths. refl; look = λ widths subject. refl }
again (P.Constant place literal) s names is u = record { width = λ widths. refl; look = λ widths subject. refl }
again (P.Negative place n) s names is u = record { width = λ widths. refl; look = λ widths subject. refl }
again (P.Bind name) s names is u = record {
  width = λ widths. name_wide name (s.value name.text) widths;
  look = λ widths subject. name_looked s name (s.value name.text) widths subject;
}
again (P.Construct name ys) s names is u =
    let h = both_empty (unless (is_construction names name.text) name) (joined (map (uses_failures names) (pats ys))) u in
    let left = construction_left s names is name.text (unless_true (is_construction names name.text) name h.0) in
    let same = parts_same ys s names is h.1 in
    record {
      width = λ widths. construct_wide s (s.value name.text) ∙ ap (construct_width (uncalled s)) (sym left);
      look = λ widths subject.
          construct_same s name (map piece (pats ys)) same (s.value name.text) widths subject
          ∙ ap (λ meant. construct_look name (map piece (pats ys)) meant (uncalled s) widths subject) (sym left);
    }
again (P.Group place brackets ys) s names is u = record {
  width = λ widths. refl;
  look = λ widths subject. group_same s place brackets (map piece (pats ys)) (parts_same ys s names is u) widths subject;
}
again (P.Concat place a b ys) s names is u =
    let h = both_empty (uses_failures names a.0 ++ uses_failures names b.0) (joined (map (uses_of_joined names) (joins ys))) u in
    let k = both_empty (uses_failures names a.0) (uses_failures names b.0) h.0 in
    let same : SamePieces s (piece a.0 ∷ piece b.0 ∷ map joined_look (joins ys)) =
    (a.1 s names is k.0, (b.1 s names is k.1, joins_same ys s names is h.1)) in
    record {
      width = λ widths. refl;
      look = λ widths subject. concat_same s place (piece a.0 ∷ piece b.0 ∷ map joined_look (joins ys)) same widths subject;
    }
again (P.Cons place a b) s names is u =
    let h = both_empty (uses_failures names a.0) (uses_failures names b.0) u in
    let same : SamePieces s (piece a.0 ∷ piece b.0 ∷ []) = (a.1 s names is h.0, (b.1 s names is h.1, tt)) in
    record {
      width = λ widths. refl;
      look = λ widths subject. λ j.
          opened place H.Cons (shape_faults place subject (V.List V.Never))
          (each_same s (piece a.0 ∷ piece b.0 ∷ []) same widths
          (list_item (out-Shape subject) ∷ V.List (list_item (out-Shape subject)) ∷ []) j);
    }
again (P.As place a name) s names is u =
    let same = a.1 s names is u in
    record {
      width = λ widths. refl;
      look = λ widths subject. λ j. as_look place (midway (piece a.0) (same.look widths subject j)) name s widths subject;
    }
again (P.Typed place a typ) s names is u =
    let h = both_empty (uses_failures names a.0) (type_failures Sort.Type typ names) u in
    let same = a.1 s names is h.0 in
    record {
      width = λ widths. refl;
      look = λ widths subject. λ j.
          typed_look place (midway (piece a.0) (same.look widths (seen_as subject (shape_in s.within typ)) j)) typ s widths subject;
    }

-- ---- the tree

rolled : (d : Pat-F Pat Joined) → FormSame d → SamePat (roll-Pat d)
rolled d h =
    subst (λ u. SameAs u (piece (roll-Pat d)))
    (λ i names. sym (fold-roll-Pat (List TableError) (List TableError) (uses_form names) uses_joined d) i)
    (subst (λ p. SameAs (λ names. uses_form names (used_form names d)) p) (sym (fold-roll-Pat Piece Piece form_piece joined_piece d)) h)

abbrev first_joined : Joined-F SuchP SuchJ → Joined-F Pat Joined
first_joined = map-Joined SuchP SuchJ Pat Joined (λ p. p.0) (λ j. j.0)

rolled_joined : (y : Joined-F SuchP SuchJ) → SameJoined (roll-Joined (first_joined y))
rolled_joined y =
    let d : Joined-F Pat Joined = first_joined y in
    subst (λ u. SameAs u (joined_look (roll-Joined d)))
    (λ i names. sym (fold-roll-Joined (List TableError) (List TableError) (uses_form names) uses_joined d) i)
    (subst (λ p. SameAs (λ names. uses_failures names y.part.0) p) (sym (fold-roll-Joined Piece Piece form_piece joined_piece d)) y.part.1)

pat_same : (p : Pat) → SamePat p
pat_same = ind-Pat SamePat SameJoined (λ e y is. subst (λ d. SamePat (roll-Pat d)) is (rolled (first y) (again y)))
    (λ e y is. subst (λ d. SameJoined (roll-Joined d)) is (rolled_joined y))

pub looks_same : (p : Pat) (s : Setting) (names : Tables.Setting) → IsPlain s names → uses_failures names p ≡ []
    → (widths : Widths) (subject : Shape) → look p s widths subject ≡ look p (uncalled s) widths subject
looks_same p s names is u widths subject = (pat_same p s names is u).look widths subject
