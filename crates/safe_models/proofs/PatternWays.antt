-- What is found of a pattern goes through those directions of mappings alone that its names mean: an induction on the pattern.
use Rattle.std.proofs.Common.{◌≡◌, ℕ, suc, ◌*◌, List, [], ◌∷◌, ◌++◌, map, length, replicate, sym, ◌∙◌, refl, subst, Bool, true, false, Option, Some, None}
use Rattle.std.proofs.Common.{nat_eq, pos, ◌-ℤ◌, if◌then◌else◌}
use Rattle.std.specs.List.{list_all}
use Rattle.std.proofs.lemmas.Bool.{and_from, and_parts}
use Rattle.sail_base.specs.declared.place.Place.{Place}
use Rattle.sail_syntax.specs.declared.name.Name.{Name}
use Rattle.sail_syntax.specs.declared.patterns.Joined.{Joined, roll-Joined}
use Rattle.sail_syntax.specs.declared.patterns.Pat.{Pat, Pat-F, roll-Pat}
use Rattle.sail_syntax.specs.declared.patterns.Pat.TheOpen as P
use Rattle.sail_syntax.specs.declared.patterns.Pat.TheOpen.{Joined-F}
use Rattle.sail_syntax.specs.declared.patterns.Pat.TheFolds.{fold-roll-Joined, fold-roll-Pat, ind-Pat, map-Joined, map-Pat}
use Rattle.sail_syntax.specs.declared.types.TyExp.{TyExp}
use Rattle.sail_syntax.specs.declared.words.Brackets.{Brackets}
use Rattle.sail_syntax.specs.declared.words.Brackets.TheVariants as B
use Rattle.sail_types.specs.Shapes.{at, put, shape}
use Rattle.sail_types.specs.declared.shapes.Shape.{Shape, out-Shape}
use Rattle.sail_types.specs.declared.shapes.Shape.TheVariants as V
use Rattle.sail_names.specs.Known.{Known}
use Rattle.sail_names.specs.Patterns.{joined}
use Rattle.sail_cycles.specs.Callees.{joined_callees, joined_form, mappings_of_global, pattern_callees, pattern_form}
use Rattle.sail_core.specs.declared.patterns.Form.{Form}
use Rattle.sail_core.specs.declared.patterns.Form.TheVariants as F
use Rattle.sail_core.specs.declared.patterns.Head.{Head}
use Rattle.sail_core.specs.declared.patterns.Head.TheVariants as H
use Rattle.sail_core.specs.declared.patterns.Literal.{Literal as CoreLiteral}
use Rattle.sail_core.specs.declared.patterns.Literal.TheVariants as L
use Rattle.sail_core.specs.declared.patterns.Pattern.{Pattern, fold-roll-Pattern}
use Rattle.sail_core.specs.declared.tree.Callee.TheVariants as C
use Rattle.sail_core.specs.declared.written.Written.{Written}
use Rattle.shape_rules.specs.declared.callees.Candidate.{Candidate}
use Rattle.shape_rules.specs.declared.callees.Doing.{Doing}
use Rattle.shape_rules.specs.declared.callees.Doing.TheVariants as D
use Rattle.shape_rules.specs.declared.callees.Mapping.{Mapping}
use Rattle.shape_rules.specs.declared.callees.Meant.{Meant}
use Rattle.shape_rules.specs.declared.callees.Meant.TheVariants as M
use Rattle.shape_joins.specs.Learning.{learn}
use Rattle.shape_rules.specs.declared.error.ShapeError.TheVariants as error
use Rattle.shape_rules.specs.Calls.{takes_unit}
use Rattle.shape_rules.specs.Scopes.{Setting}
use Rattle.shape_rules.specs.Written.{written}
use Rattle.shape_rules.specs.Patterns.{Piece, Which, Widths, as_one, callee_head, callee_look, construct_look}
use Rattle.shape_rules.specs.Patterns.{constructor_look, constructor_parts, direction_of, each_looked, either, form_piece, forwards, backwards}
use Rattle.shape_rules.specs.Patterns.{group_look, is_found, joined_piece, list_item, mapping_look_as, name_look, neither, pattern, piece, pieces_for}
use Rattle.shape_rules.specs.Patterns.{Looked, core_literal, known_or_nevers, literal_shape, nevers, opened, typed_form, typed_look, unit_piece}
use Rattle.shape_rules.specs.Patterns.{which_side}
use Rattle.shape_meanings.proofs.PatternsSound.{joined_look}
use Rattle.text_progress.proofs.Insides.{HeadWays, Ways}
use Rattle.note_laws.specs.Ways.{form_reached, node_reached, pattern_reached}

all_both : (f : ℕ → Bool) (xs ys : List ℕ) → list_all f (xs ++ ys) ≡ true → (list_all f xs ≡ true) × (list_all f ys ≡ true)
all_both f [] ys h = (refl, h)
all_both f (x ∷ xs) ys h =
    let k = and_parts (f x) (list_all f (xs ++ ys)) h in
    let r = all_both f xs ys k.1 in
    (and_from (f x) (list_all f xs) k.0 r.0, r.1)

module _ (reached : ℕ → Bool) where
  abbrev Reaches : Pattern → Type 0
  Reaches p = pattern_reached reached p ≡ true

  abbrev AllReach : List Pattern → Type 0
  AllReach ps = list_all (λ b. b) (map (pattern_reached reached) ps) ≡ true

  unfoldable pub IsReached : ℕ → Type 0
  IsReached d = reached d ≡ true

  formed : (place : Place) (form : Form) (parts : List Pattern) → form_reached reached form ≡ true → AllReach parts → Reaches (pattern place form parts)
  formed place form parts h k =
      fold-roll-Pattern Bool (node_reached reached) (record { place = place; form = form; parts = parts })
      ∙ and_from (form_reached reached form) (list_all (λ b. b) (map (pattern_reached reached) parts)) h k

  one : (p : Pattern) → Reaches p → AllReach (p ∷ [])
  one p h = and_from (pattern_reached reached p) true h refl

  module _ (setting : Setting) (known : Known) (converts : ℕ → Bool)
      (heads : (name : List ℕ) → list_all converts (mappings_of_global (known.value name)) ≡ true → Ways IsReached (setting.value name)) where
    abbrev PieceReaches : Piece → Type 0
    PieceReaches p = (widths : Widths) (subject : Shape) → Reaches (p.look setting widths subject).pattern

    abbrev EachReaches : List Piece → Type 0
    EachReaches [] = Unit {0}
    EachReaches (p ∷ ps) = PieceReaches p × EachReaches ps

    -- ---- several parts

    each_reaches : (ps : List Piece) → EachReaches ps → (widths : Widths) (ss : List Shape) → AllReach (each_looked ps setting widths ss).patterns
    each_reaches [] h widths ss = refl
    each_reaches (p ∷ ps) h widths [] =
        and_from (pattern_reached reached (p.look setting widths V.Never).pattern)
        (list_all (λ b. b) (map (pattern_reached reached) (each_looked ps setting widths []).patterns))
        (h.0 widths V.Never) (each_reaches ps h.1 widths [])
    each_reaches (p ∷ ps) h widths (s ∷ ss) =
        and_from (pattern_reached reached (p.look setting widths s).pattern)
        (list_all (λ b. b) (map (pattern_reached reached) (each_looked ps setting widths ss).patterns))
        (h.0 widths s) (each_reaches ps h.1 widths ss)

    opened_reaches : (place : Place) (head : Head) (ps : List Piece) → EachReaches ps → (widths : Widths) (ss : List Shape)
        → Reaches (pattern place (F.Opens head) (each_looked ps setting widths ss).patterns)
    opened_reaches place head ps h widths ss =
        formed place (F.Opens head) (each_looked ps setting widths ss).patterns refl (each_reaches ps h widths ss)

    found_reaches : (place : Place) (own : Shape) (literal : CoreLiteral) (widths : Widths) (subject : Shape)
        → Reaches (is_found place own literal setting widths subject).pattern
    found_reaches place own literal widths subject = formed place (F.Opens (H.Is literal)) [] refl refl

    name_reaches : (name : Name) (meant : Option Meant) (widths : Widths) (subject : Shape) → Reaches (name_look name meant setting widths subject).pattern
    name_reaches name (Some (M.Member i k)) widths subject = found_reaches name.place (V.Named i []) (L.Member i k) widths subject
    name_reaches name meant widths subject = formed name.place (F.Binds name.text) [] refl refl

    -- ---- mappings and constructors

    as_one_reaches : (place : Place) (ps : List Piece) → EachReaches ps → (widths : Widths) (subject : Shape)
        → Reaches (as_one place ps setting widths subject).pattern
    as_one_reaches place [] h widths subject = found_reaches place V.Unit L.Unit widths subject
    as_one_reaches place (p ∷ []) h widths subject = h.0 widths subject
    as_one_reaches place (p ∷ q ∷ ps) h widths subject = opened_reaches place H.Tuple (p ∷ q ∷ ps) h widths _

    maps_reaches : (place : Place) (d : ℕ) (part : Pattern) → IsReached d → Reaches part → Reaches (pattern place (F.Maps d) (part ∷ []))
    unfolding IsReached
    maps_reaches place d part h k = formed place (F.Maps d) (part ∷ []) h (one part k)

    mapping_reaches : (place : Place) (m : Mapping) (ps : List Piece) → EachReaches ps → IsReached (2 * m.number) × IsReached (suc (2 * m.number))
        → (which : Which) (widths : Widths) (subject : Shape) → Reaches (mapping_look_as place m ps which setting widths subject).pattern
    mapping_reaches place m ps go h forwards widths subject = maps_reaches place (2 * m.number) _ h.0 (as_one_reaches place ps go widths (shape m.right))
    mapping_reaches place m ps go h backwards widths subject =
        maps_reaches place (suc (2 * m.number)) _ h.1 (as_one_reaches place ps go widths (shape m.left))
    mapping_reaches place m ps go h neither widths subject = maps_reaches place (2 * m.number) _ h.0 (as_one_reaches place ps go widths V.Never)
    mapping_reaches place m ps go h either widths subject = maps_reaches place (2 * m.number) _ h.0 (as_one_reaches place ps go widths V.Never)

    if_reaches : (b : Bool) (x y : Looked) → Reaches x.pattern → Reaches y.pattern → Reaches (if b then x else y).pattern
    if_reaches true x y h k = h
    if_reaches false x y h k = k

    constructor_reaches : (name : Name) (head : Head) (f : Candidate) (ps : List Piece) → EachReaches ps → (widths : Widths) (subject : Shape)
        → Reaches (constructor_look name head f ps setting widths subject).pattern
    constructor_reaches name head f ps go widths subject =
        if_reaches (nat_eq (length f.params) (length ps))
        (constructor_parts name head f ps (learn f.answer subject (nevers f.variables)) setting widths subject)
        (opened name.place head (error.Arity name.place (length f.params) (length ps) ∷ []) (each_looked ps setting widths []))
        (opened_reaches name.place head ps go widths
        (map (put (at (known_or_nevers f.variables (learn f.answer subject (nevers f.variables))))) f.params))
        (opened_reaches name.place head ps go widths [])

    unit_reaches : (place : Place) → PieceReaches (unit_piece place)
    unit_reaches place widths subject = found_reaches place V.Unit L.Unit widths subject

    pieces_reach : (place : Place) (params : List Shape) (ps : List Piece) → EachReaches ps → EachReaches (pieces_for place params ps)
    pieces_reach place params [] go = by (takes_unit params)
      where
        by : (b : Bool) → EachReaches (if b then unit_piece place ∷ [] else [])
        by true = (unit_reaches place, tt)
        by false = tt
    pieces_reach place params (p ∷ ps) go = go

    callee_reaches : (name : Name) (ps : List Piece) → EachReaches ps → (f : Candidate) (doing : Doing) → HeadWays IsReached doing
        → (widths : Widths) (subject : Shape) → Reaches (callee_look name ps f (direction_of doing) (callee_head doing) setting widths subject).pattern
    callee_reaches name ps go f (D.Calls (C.Converts d)) h widths subject =
        maps_reaches name.place d _ h (as_one_reaches name.place ps go widths f.answer)
    callee_reaches name ps go f (D.Calls (C.Constructor u c)) h widths subject =
        constructor_reaches name (H.Constructor u c) f (pieces_for name.place f.params ps) (pieces_reach name.place f.params ps go)
        widths subject
    callee_reaches name ps go f doing h widths subject = formed name.place F.Any [] refl refl

    construct_reaches : (name : Name) (ps : List Piece) → EachReaches ps → (meant : Option Meant) → Ways IsReached meant → (widths : Widths) (subject : Shape)
        → Reaches (construct_look name ps meant setting widths subject).pattern
    construct_reaches name ps go (Some (M.Callee f)) h widths subject = callee_reaches name ps go f f.doing h widths subject
    construct_reaches name ps go (Some (M.Mapping m)) h widths subject = mapping_reaches name.place m ps go h (which_side m subject) widths subject
    construct_reaches name ps go meant h widths subject = formed name.place F.Any [] refl refl

    -- ---- other forms

    group_reaches : (place : Place) (brackets : Brackets) (ps : List Piece) → EachReaches ps → (widths : Widths) (subject : Shape)
        → Reaches (group_look place brackets ps setting widths subject).pattern
    group_reaches place B.Tuple [] go widths subject = found_reaches place V.Unit L.Unit widths subject
    group_reaches place B.Tuple (p ∷ ps) go widths subject = opened_reaches place H.Tuple (p ∷ ps) go widths _
    group_reaches place B.Vector ps go widths subject = opened_reaches place H.Vector ps go widths _
    group_reaches place B.List ps go widths subject = opened_reaches place H.List ps go widths _

    typed_form_reached : (o : Option Written) → form_reached reached (typed_form o) ≡ true
    typed_form_reached None = refl
    typed_form_reached (Some t) = refl

    typed_reaches : (place : Place) (p : Piece) → PieceReaches p → (typ : TyExp) (widths : Widths) (subject : Shape)
        → Reaches (typed_look place p typ setting widths subject).pattern
    typed_reaches place p go typ widths subject =
        formed place (typed_form (written setting.within typ)) _ (typed_form_reached (written setting.within typ)) (one _ (go widths _))

    -- ---- the pattern

    abbrev PatReaches : Pat → Type 0
    PatReaches p = list_all converts (pattern_callees known p) ≡ true → PieceReaches (piece p)

    abbrev JoinedReaches : Joined → Type 0
    JoinedReaches j = list_all converts (joined_callees known j) ≡ true → PieceReaches (joined_look j)

    abbrev SuchP : Type 0
    SuchP = (p : Pat) × PatReaches p

    abbrev SuchJ : Type 0
    SuchJ = (j : Joined) × JoinedReaches j

    abbrev pats : List SuchP → List Pat
    pats ys = map (λ (p : SuchP). p.0) ys

    abbrev joins : List SuchJ → List Joined
    joins ys = map (λ (j : SuchJ). j.0) ys

    each_pat : (ys : List SuchP) → list_all converts (joined (map (pattern_callees known) (pats ys))) ≡ true → EachReaches (map piece (pats ys))
    each_pat [] h = tt
    each_pat (y ∷ ys) h =
        let k = all_both converts (pattern_callees known y.0) (joined (map (pattern_callees known) (pats ys))) h in
        (y.1 k.0, each_pat ys k.1)

    each_joined : (ys : List SuchJ) → list_all converts (joined (map (joined_callees known) (joins ys))) ≡ true → EachReaches (map joined_look (joins ys))
    each_joined [] h = tt
    each_joined (y ∷ ys) h =
        let k = all_both converts (joined_callees known y.0) (joined (map (joined_callees known) (joins ys))) h in
        (y.1 k.0, each_joined ys k.1)

    abbrev first : Pat-F SuchP SuchJ → Pat-F Pat Joined
    first = map-Pat SuchP SuchJ Pat Joined (λ p. p.0) (λ j. j.0)

    abbrev called_form : Pat-F Pat Joined → List ℕ
    called_form d = pattern_form known (map-Pat Pat Joined (List ℕ) (List ℕ) (pattern_callees known) (joined_callees known) d)

    abbrev looked_form : Pat-F Pat Joined → Piece
    looked_form d = form_piece (map-Pat Pat Joined Piece Piece piece joined_look d)

    again : (y : Pat-F SuchP SuchJ) → list_all converts (called_form (first y)) ≡ true → PieceReaches (looked_form (first y))
    again (P.Wildcard place) h widths subject = formed place F.Any [] refl refl
    again (P.Constant place literal) h widths subject = found_reaches place (literal_shape literal) (core_literal literal) widths subject
    again (P.Negative place z) h widths subject = found_reaches place V.Int (L.Integer (pos 0 -ℤ z)) widths subject
    again (P.Bind name) h widths subject = name_reaches name (setting.value name.text) widths subject
    again (P.Construct name ys) h widths subject =
        let k = all_both converts (mappings_of_global (known.value name.text)) (joined (map (pattern_callees known) (pats ys))) h in
        construct_reaches name (map piece (pats ys)) (each_pat ys k.1) (setting.value name.text) (heads name.text k.0) widths subject
    again (P.Group place brackets ys) h widths subject = group_reaches place brackets (map piece (pats ys)) (each_pat ys h) widths subject
    again (P.Concat place a b ys) h widths subject =
        let k = all_both converts (pattern_callees known a.0 ++ pattern_callees known b.0) (joined (map (joined_callees known) (joins ys))) h in
        let m = all_both converts (pattern_callees known a.0) (pattern_callees known b.0) k.0 in
        let ps : List Piece = piece a.0 ∷ piece b.0 ∷ map joined_look (joins ys) in
        opened_reaches place (H.Cut (map (λ (p : Piece). p.width setting widths) ps)) ps (a.1 m.0, (b.1 m.1, each_joined ys k.1)) widths
        (replicate (length ps) V.Bits)
    again (P.Cons place a b) h widths subject =
        let k = all_both converts (pattern_callees known a.0) (pattern_callees known b.0) h in
        opened_reaches place H.Cons (piece a.0 ∷ piece b.0 ∷ []) (a.1 k.0, (b.1 k.1, tt)) widths
        (list_item (out-Shape subject) ∷ V.List (list_item (out-Shape subject)) ∷ [])
    again (P.As place a name) h widths subject = formed place (F.As name.text) _ refl (one _ (a.1 h widths subject))
    again (P.Typed place a typ) h widths subject = typed_reaches place (piece a.0) (a.1 h) typ widths subject

    rolled : (d : Pat-F Pat Joined) → (list_all converts (called_form d) ≡ true → PieceReaches (looked_form d)) → PatReaches (roll-Pat d)
    rolled d h k =
        subst PieceReaches (sym (fold-roll-Pat Piece Piece form_piece joined_piece d))
        (h (subst (λ (l : List ℕ). list_all converts l ≡ true) (fold-roll-Pat (List ℕ) (List ℕ) (pattern_form known) joined_form d) k))

    abbrev first_joined : Joined-F SuchP SuchJ → Joined-F Pat Joined
    first_joined = map-Joined SuchP SuchJ Pat Joined (λ p. p.0) (λ j. j.0)

    rolled_joined : (y : Joined-F SuchP SuchJ) → JoinedReaches (roll-Joined (first_joined y))
    rolled_joined y k =
        subst PieceReaches (sym (fold-roll-Joined Piece Piece form_piece joined_piece (first_joined y)))
        (y.part.1 (subst (λ (l : List ℕ). list_all converts l ≡ true)
        (fold-roll-Joined (List ℕ) (List ℕ) (pattern_form known) joined_form (first_joined y)) k))

    pub pattern_reaches : (p : Pat) → PatReaches p
    pattern_reaches = ind-Pat PatReaches JoinedReaches (λ e y is. subst (λ d. PatReaches (roll-Pat d)) is (rolled (first y) (again y)))
        (λ e y is. subst (λ d. JoinedReaches (roll-Joined d)) is (rolled_joined y))
