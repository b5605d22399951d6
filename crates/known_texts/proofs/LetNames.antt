-- Each name that a top-level let binds for shapes is taken by a let, or by a member of an enum.
use Rattle.std.proofs.Common.{◌≡◌, ℕ, ◌+◌, List, [], ◌∷◌, ◌++◌, map, length, replicate, sym, refl, subst, Bool, true, false, ◌||◌, if◌then◌else◌, nat_eq}
use Rattle.std.specs.Prelude.{Option, Some, None}
use Rattle.std.specs.Str.{bytes_eq}
use Rattle.sail_base.specs.declared.place.Place.{Place}
use Rattle.sail_syntax.specs.Bound.{in_order}
use Rattle.sail_syntax.specs.declared.name.Name.{Name}
use Rattle.sail_syntax.specs.declared.words.Brackets.TheVariants as B
use Rattle.sail_syntax.specs.declared.types.TyExp.{TyExp}
use Rattle.sail_syntax.specs.declared.definitions.Def.{Def}
use Rattle.sail_syntax.specs.declared.definitions.Def.TheVariants as D
use Rattle.sail_syntax.specs.declared.patterns.Joined.{Joined, roll-Joined}
use Rattle.sail_syntax.specs.declared.patterns.Pat.{Pat, Pat-F, roll-Pat}
use Rattle.sail_syntax.specs.declared.patterns.Pat.TheOpen as P
use Rattle.sail_syntax.specs.declared.patterns.Pat.TheOpen.{Joined-F}
use Rattle.sail_syntax.specs.declared.patterns.Pat.TheFolds.{fold-roll-Pat, fold-roll-Joined, map-Pat, map-Joined, ind-Pat}
use Rattle.sail_types.specs.Shapes.{at, put, shape}
use Rattle.sail_types.specs.declared.shapes.Shape.{Shape, out-Shape}
use Rattle.sail_types.specs.declared.shapes.Shape.TheVariants as V
use Rattle.sail_core.specs.declared.patterns.Head.{Head}
use Rattle.sail_globals.specs.declared.naming.Alone.TheVariants as is
use Rattle.sail_globals.specs.declared.naming.Naming.{Naming}
use Rattle.sail_globals.specs.declared.naming.Role.{Role}
use Rattle.sail_globals.specs.declared.naming.Role.TheVariants.{Whole}
use Rattle.sail_globals.specs.Bound.{bound, bound_by_joined, form_bound, is_among, is_plain, joined_bound, members, members_of}
use Rattle.sail_globals.specs.Namings.{let_naming, namings, namings_from, own_naming, type_naming}
use Rattle.shape_joins.specs.Learning.{learn}
use Rattle.shape_joins.proofs.Order.{no}
use Rattle.shape_rules.specs.declared.callees.Candidate.{Candidate}
use Rattle.shape_rules.specs.declared.callees.Mapping.{Mapping}
use Rattle.shape_rules.specs.declared.callees.Meant.{Meant}
use Rattle.shape_rules.specs.declared.callees.Meant.TheVariants as M
use Rattle.shape_rules.specs.declared.error.ShapeError.TheVariants as error
use Rattle.shape_rules.specs.declared.locals.Local.{Local}
use Rattle.shape_rules.specs.Calls.{takes_unit}
use Rattle.shape_rules.specs.Written.{shape_in}
use Rattle.shape_rules.specs.Expressions.{part}
use Rattle.shape_rules.specs.Scopes.{Setting, constant, plainly}
use Rattle.shape_rules.specs.Patterns.{Piece, Which, Widths, as_one, backwards, callee_head, callee_look, construct_look, direction_of}
use Rattle.shape_rules.specs.Patterns.{each_looked, either, form_piece, forwards, joined_piece, list_item, mapping_look_as, name_look, neither}
use Rattle.shape_rules.specs.Patterns.{nevers, no_widths, piece, pieces_for, unit_piece, vector_item, wanted_by, which_side}
use Rattle.shape_rules.specs.Patterns as Rules
use Rattle.shape_models.specs.Models.{Own, Tabled, setting_of}
use Rattle.shape_meanings.proofs.PatternsSound.{joined_look}
use Rattle.shape_meanings.proofs.Settling.{same_name}
use Rattle.shape_meanings.proofs.StructNames.{bytes_same}
use Rattle.shapes.specs.Failures.{let_binds, lets_behind, lets_with}
use Rattle.known_texts.proofs.Roles.{Covers, IsTaken, covers_left, covers_right, or_elim, taken_first}

-- a let binds a name, or it is a member of an enum
abbrev pub is_bound_role : Role → Bool
is_bound_role (Whole is.Let) = true
is_bound_role (Whole is.Member) = true
is_bound_role role = false

module _ (all : List Naming) where
  abbrev pub Taken : List ℕ → Type 0
  Taken name = IsTaken all name is_bound_role

  abbrev AllTaken : List Name → Type 0
  AllTaken [] = Unit {0}
  AllTaken (n ∷ ns) = Taken n.text × AllTaken ns

  abbrev pub LocalsTaken : List Local → Type 0
  LocalsTaken [] = Unit {0}
  LocalsTaken (l ∷ ls) = Taken l.name × LocalsTaken ls

  left_taken : (xs ys : List Name) → AllTaken (xs ++ ys) → AllTaken xs
  left_taken [] ys h = tt
  left_taken (x ∷ xs) ys h = (h.0, left_taken xs ys h.1)

  right_taken : (xs ys : List Name) → AllTaken (xs ++ ys) → AllTaken ys
  right_taken [] ys h = h
  right_taken (x ∷ xs) ys h = right_taken xs ys h.1

  both_taken : (xs ys : List Local) → LocalsTaken xs → LocalsTaken ys → LocalsTaken (xs ++ ys)
  both_taken [] ys h k = k
  both_taken (x ∷ xs) ys h k = (h.0, both_taken xs ys h.1 k)

  module _ (is_member : List ℕ → Bool) (member_taken : (name : List ℕ) → is_member name ≡ true → Taken name) where
    -- ---- what is said of a pattern

    abbrev BindsTaken : List Name → Piece → Type 0
    BindsTaken names p = AllTaken names → (setting : Setting) (widths : Widths) (subject : Shape) → LocalsTaken (p.look setting widths subject).binds

    abbrev OfPat : Pat → Type 0
    OfPat p = BindsTaken (bound is_member p) (piece p)

    abbrev OfJoined : Joined → Type 0
    OfJoined j = BindsTaken (bound_by_joined is_member j) (joined_look j)

    abbrev SuchP : Type 0
    SuchP = (p : Pat) × OfPat p

    abbrev SuchJ : Type 0
    SuchJ = (j : Joined) × OfJoined j

    abbrev pats : List SuchP → List Pat
    pats ys = map (λ (p : SuchP). p.0) ys

    abbrev joins : List SuchJ → List Joined
    joins ys = map (λ (j : SuchJ). j.0) ys

    abbrev names_of : List SuchP → List Name
    names_of ys = in_order (map (bound is_member) (pats ys))

    abbrev names_joined : List SuchJ → List Name
    names_joined ys = in_order (map (bound_by_joined is_member) (joins ys))

    -- pieces that bind such names, whatever shapes come to them
    abbrev EachTaken : Setting → List Piece → Type 0
    EachTaken setting ps = (widths : Widths) (ss : List Shape) → LocalsTaken (each_looked ps setting widths ss).binds

    more_taken : (setting : Setting) (p : Piece) (ps : List Piece)
        → ((widths : Widths) (subject : Shape) → LocalsTaken (p.look setting widths subject).binds) → EachTaken setting ps → EachTaken setting (p ∷ ps)
    more_taken setting p ps one others widths [] =
        both_taken (p.look setting widths V.Never).binds (each_looked ps setting widths []).binds (one widths V.Never) (others widths [])
    more_taken setting p ps one others widths (s ∷ ss) =
        both_taken (p.look setting widths s).binds (each_looked ps setting widths ss).binds (one widths s) (others widths ss)

    each_taken : (ys : List SuchP) (setting : Setting) → AllTaken (names_of ys) → EachTaken setting (map piece (pats ys))
    each_taken [] setting h = λ widths ss. tt
    each_taken (y ∷ ys) setting h =
        more_taken setting (piece y.0) (map piece (pats ys)) (y.1 (left_taken (bound is_member y.0) (names_of ys) h) setting)
        (each_taken ys setting (right_taken (bound is_member y.0) (names_of ys) h))

    each_joined : (ys : List SuchJ) (setting : Setting) → AllTaken (names_joined ys) → EachTaken setting (map joined_look (joins ys))
    each_joined [] setting h = λ widths ss. tt
    each_joined (y ∷ ys) setting h =
        more_taken setting (joined_look y.0) (map joined_look (joins ys))
        (y.1 (left_taken (bound_by_joined is_member y.0) (names_joined ys) h) setting)
        (each_joined ys setting (right_taken (bound_by_joined is_member y.0) (names_joined ys) h))

    -- ---- names

    own_taken : (b : Bool) (name : Name) → is_member name.text ≡ b → AllTaken (if b then [] else name ∷ []) → Taken name.text
    own_taken true name same h = member_taken name.text same
    own_taken false name same h = h.0

    name_taken : (name : Name) (meant : Option Meant) → Taken name.text → (setting : Setting) (widths : Widths) (subject : Shape)
        → LocalsTaken (name_look name meant setting widths subject).binds
    name_taken name (Some (M.Member i k)) h setting widths subject = tt
    name_taken name meant h setting widths subject = (h, tt)

    -- ---- constructors and mappings

    -- the shapes that come to the parts of a tuple, to the parameters of a constructor, and behind a type that is written
    abbrev tuple_shapes : Shape → List Piece → List Shape
    tuple_shapes subject ps = Rules.tuple_parts (out-Shape (Rules.seen_as subject (V.Tuple (replicate (length ps) V.Never))))

    abbrev param_shapes_of : Candidate → Shape → List Shape
    param_shapes_of f subject = map (put (at (Rules.known_or_nevers f.variables (learn f.answer subject (nevers f.variables))))) f.params

    abbrev typed_shape : Setting → Shape → TyExp → Shape
    typed_shape setting subject typ = Rules.seen_as subject (shape_in setting.within typ)

    unit_if : (b : Bool) (setting : Setting) (place : Place) → EachTaken setting (if b then unit_piece place ∷ [] else [])
    unit_if true setting place widths [] = tt
    unit_if true setting place widths (s ∷ ss) = tt
    unit_if false setting place widths ss = tt

    pieces_taken : (setting : Setting) (place : Place) (params : List Shape) (ps : List Piece) → EachTaken setting ps
        → EachTaken setting (pieces_for place params ps)
    pieces_taken setting place params [] each = unit_if (takes_unit params) setting place
    pieces_taken setting place params (p ∷ ps) each = each

    constructor_taken : (b : Bool) (setting : Setting) (name : Name) (head : Head) (f : Candidate) (ps : List Piece) → EachTaken setting ps
        → (widths : Widths) (subject : Shape)
        → LocalsTaken (if b then Rules.constructor_parts name head f ps (learn f.answer subject (nevers f.variables)) setting widths subject
        else Rules.opened name.place head (error.Arity name.place (length f.params) (length ps) ∷ []) (each_looked ps setting widths [])).binds
    constructor_taken true setting name head f ps each widths subject = each widths (param_shapes_of f subject)
    constructor_taken false setting name head f ps each widths subject = each widths []

    one_taken : (setting : Setting) (place : Place) (ps : List Piece) → EachTaken setting ps → (widths : Widths) (subject : Shape)
        → LocalsTaken (as_one place ps setting widths subject).binds
    one_taken setting place [] each widths subject = tt
    one_taken setting place (p ∷ []) each widths subject = first (p.look setting widths subject).binds (each widths (subject ∷ []))
      where
        first : (xs : List Local) → LocalsTaken (xs ++ []) → LocalsTaken xs
        first [] h = tt
        first (x ∷ xs) h = (h.0, first xs h.1)
    one_taken setting place (p ∷ q ∷ ps) each widths subject = each widths (tuple_shapes subject (p ∷ q ∷ ps))

    mapping_taken : (setting : Setting) (name : Name) (m : Mapping) (ps : List Piece) → EachTaken setting ps → (w : Which) (widths : Widths)
        (subject : Shape) → LocalsTaken (mapping_look_as name.place m ps w setting widths subject).binds
    mapping_taken setting name m ps each forwards widths subject = one_taken setting name.place ps each widths (shape m.right)
    mapping_taken setting name m ps each backwards widths subject = one_taken setting name.place ps each widths (shape m.left)
    mapping_taken setting name m ps each neither widths subject = one_taken setting name.place ps each widths V.Never
    mapping_taken setting name m ps each either widths subject = one_taken setting name.place ps each widths V.Never

    callee_taken : (setting : Setting) (name : Name) (ps : List Piece) (f : Candidate) (d : Option ℕ) (head : Option Head) → EachTaken setting ps
        → (widths : Widths) (subject : Shape) → LocalsTaken (callee_look name ps f d head setting widths subject).binds
    callee_taken setting name ps f (Some d) head each widths subject = one_taken setting name.place ps each widths f.answer
    callee_taken setting name ps f None (Some head) each widths subject =
        let pieces : List Piece = pieces_for name.place f.params ps in
        constructor_taken (nat_eq (length f.params) (length pieces)) setting name head f pieces (pieces_taken setting name.place f.params ps each)
        widths subject
    callee_taken setting name ps f None None each widths subject = tt

    construct_taken : (setting : Setting) (name : Name) (ps : List Piece) (meant : Option Meant) → EachTaken setting ps → (widths : Widths)
        (subject : Shape) → LocalsTaken (construct_look name ps meant setting widths subject).binds
    construct_taken setting name ps (Some (M.Callee f)) each widths subject =
        callee_taken setting name ps f (direction_of f.doing) (callee_head f.doing) each widths subject
    construct_taken setting name ps (Some (M.Mapping m)) each widths subject = mapping_taken setting name m ps each (which_side m subject) widths subject
    construct_taken setting name ps meant each widths subject = tt

    -- ---- one form

    abbrev first : Pat-F SuchP SuchJ → Pat-F Pat Joined
    first = map-Pat SuchP SuchJ Pat Joined (λ p. p.0) (λ j. j.0)

    abbrev bound_form : Pat-F Pat Joined → Pat-F (List Name) (List Name)
    bound_form = map-Pat Pat Joined (List Name) (List Name) (bound is_member) (bound_by_joined is_member)

    abbrev looked_form : Pat-F Pat Joined → Pat-F Piece Piece
    looked_form = map-Pat Pat Joined Piece Piece piece joined_look

    again : (y : Pat-F SuchP SuchJ) → BindsTaken (form_bound is_member (bound_form (first y))) (form_piece (looked_form (first y)))
    again (P.Wildcard place) h setting widths subject = tt
    again (P.Constant place literal) h setting widths subject = tt
    again (P.Negative place n) h setting widths subject = tt
    again (P.Bind name) h setting widths subject =
        name_taken name (setting.value name.text) (own_taken (is_member name.text) name refl h) setting widths subject
    again (P.Construct name ys) h setting widths subject =
        construct_taken setting name (map piece (pats ys)) (setting.value name.text) (each_taken ys setting h) widths subject
    again (P.Group place B.Tuple []) h setting widths subject = tt
    again (P.Group place B.Tuple (y ∷ ys)) h setting widths subject =
        each_taken (y ∷ ys) setting h widths (tuple_shapes subject (map piece (pats (y ∷ ys))))
    again (P.Group place B.Vector ys) h setting widths subject =
        each_taken ys setting h widths (replicate (length (map piece (pats ys))) (vector_item (out-Shape subject)))
    again (P.Group place B.List ys) h setting widths subject =
        each_taken ys setting h widths (replicate (length (map piece (pats ys))) (list_item (out-Shape subject)))
    again (P.Concat place a b ys) h setting widths subject =
        let firsts : List Name = bound is_member a.0 ++ bound is_member b.0 in
        let k = left_taken firsts (names_joined ys) h in
        more_taken setting (piece a.0) (piece b.0 ∷ map joined_look (joins ys))
        (a.1 (left_taken (bound is_member a.0) (bound is_member b.0) k) setting)
        (more_taken setting (piece b.0) (map joined_look (joins ys)) (b.1 (right_taken (bound is_member a.0) (bound is_member b.0) k) setting)
        (each_joined ys setting (right_taken firsts (names_joined ys) h))) widths
        (replicate (length (piece a.0 ∷ piece b.0 ∷ map joined_look (joins ys))) V.Bits)
    again (P.Cons place a b) h setting widths subject =
        more_taken setting (piece a.0) (piece b.0 ∷ []) (a.1 (left_taken (bound is_member a.0) (bound is_member b.0) h) setting)
        (more_taken setting (piece b.0) [] (b.1 (right_taken (bound is_member a.0) (bound is_member b.0) h) setting) (λ widths ss. tt)) widths
        (list_item (out-Shape subject) ∷ V.List (list_item (out-Shape subject)) ∷ [])
    again (P.As place a name) h setting widths subject =
        both_taken ((piece a.0).look setting widths subject).binds (constant name.text subject ∷ [])
        (a.1 (left_taken (bound is_member a.0) (name ∷ []) h) setting widths subject) (right_taken (bound is_member a.0) (name ∷ []) h)
    again (P.Typed place a typ) h setting widths subject = a.1 h setting widths (typed_shape setting subject typ)

    -- ---- the tree

    rolled : (y : Pat-F SuchP SuchJ) → OfPat (roll-Pat (first y))
    rolled y =
        let d : Pat-F Pat Joined = first y in
        subst (λ (ns : List Name). BindsTaken ns (piece (roll-Pat d)))
        (sym (fold-roll-Pat (List Name) (List Name) (form_bound is_member) joined_bound d))
        (subst (BindsTaken (form_bound is_member (bound_form d))) (sym (fold-roll-Pat Piece Piece form_piece joined_piece d)) (again y))

    abbrev first_joined : Joined-F SuchP SuchJ → Joined-F Pat Joined
    first_joined = map-Joined SuchP SuchJ Pat Joined (λ p. p.0) (λ j. j.0)

    rolled_joined : (y : Joined-F SuchP SuchJ) → OfJoined (roll-Joined (first_joined y))
    rolled_joined y =
        let d : Joined-F Pat Joined = first_joined y in
        subst (λ (ns : List Name). BindsTaken ns (joined_look (roll-Joined d)))
        (sym (fold-roll-Joined (List Name) (List Name) (form_bound is_member) joined_bound d))
        (subst (BindsTaken (bound is_member y.part.0)) (sym (fold-roll-Joined Piece Piece form_piece joined_piece d)) y.part.1)

    pat_taken : (p : Pat) → OfPat p
    pat_taken = ind-Pat OfPat OfJoined (λ e y same. subst (λ d. OfPat (roll-Pat d)) same (rolled y))
        (λ e y same. subst (λ d. OfJoined (roll-Joined d)) same (rolled_joined y))

    -- ---- lets

    bound_taken : (at : ℕ) (place : Place) (plain : Bool) (ns : List Name) → Covers all (map (let_naming at place plain) ns) → AllTaken ns
    bound_taken at place plain [] c = tt
    bound_taken at place plain (n ∷ ns) c =
        let own : Naming = let_naming at place plain n in
        let rest : List Naming = map (let_naming at place plain) ns in (
          c n.text is_bound_role (taken_first is_bound_role n.text own rest (bytes_same n.text) refl),
          bound_taken at place plain ns (covers_right all (own ∷ []) rest c),
        )

    let_taken : (tabled : Tabled) (own : Own) (text : List Def) (lets : List Local) (at : ℕ) (d : Def) → Covers all (namings is_member at d)
        → LocalsTaken (let_binds tabled own text lets d)
    let_taken tabled own text lets at (D.Let place p value) c =
        let setting : Setting = plainly (setting_of tabled own text lets []) in
        pat_taken p (bound_taken at place (is_plain p) (bound is_member p) c) setting no_widths
        ((part value).elaborate setting [] (wanted_by setting p)).shape
    let_taken tabled own text lets at d c = tt

    pub lets_taken : (tabled : Tabled) (own : Own) (text : List Def) (lets : List Local) (at : ℕ) (rest : List Def) → LocalsTaken lets
        → Covers all (namings_from is_member at rest) → LocalsTaken (lets_behind tabled own text lets rest)
    lets_taken tabled own text lets at [] h c = h
    lets_taken tabled own text lets at (d ∷ rest) h c =
        let first : List Naming = namings is_member at d in
        let more : List Naming = namings_from is_member (at + 1) rest in
        lets_taken tabled own text (lets_with tabled own text lets d) (at + 1) rest
        (both_taken lets (let_binds tabled own text lets d) h (let_taken tabled own text lets at d (covers_left all first more c)))
        (covers_right all first more c)

  -- ---- members of enums

  name_among : (name : List ℕ) (at : ℕ) (ms : List Name) → Covers all (map (own_naming at is.Member) ms) → is_among ms name ≡ true → Taken name
  name_among name at [] c h = no h
  name_among name at (m ∷ ms) c h =
      let own : Naming = own_naming at is.Member m in
      let rest : List Naming = map (own_naming at is.Member) ms in
      or_elim (bytes_eq m.text name) (is_among ms name) h
      (λ e. subst Taken (same_name m.text name e) (c m.text is_bound_role (taken_first is_bound_role m.text own rest (bytes_same m.text) refl)))
      (λ e. name_among name at ms (covers_right all (own ∷ []) rest c) e)

  either_among : (name : List ℕ) (xs ys : List Name) → is_among (xs ++ ys) name ≡ true → (is_among xs name ≡ true → Taken name)
      → (is_among ys name ≡ true → Taken name) → Taken name
  either_among name [] ys h f g = g h
  either_among name (x ∷ xs) ys h f g =
      or_elim (bytes_eq x.text name) (is_among (xs ++ ys) name) h (λ e. f (first (bytes_eq x.text name) (is_among xs name) e))
      (λ e. either_among name xs ys e (λ k. f (second (bytes_eq x.text name) (is_among xs name) k)) g)
    where
      first : (a b : Bool) → a ≡ true → (a || b) ≡ true
      first true b h = refl
      first false b h = no h

      second : (a b : Bool) → b ≡ true → (a || b) ≡ true
      second true b h = refl
      second false b h = h

  own_among : (is_member : List ℕ → Bool) (name : List ℕ) (at : ℕ) (d : Def) → Covers all (namings is_member at d) → is_among (members_of d) name ≡ true
      → Taken name
  own_among is_member name at (D.Enum place own ms) c h =
      name_among name at ms (covers_right all (type_naming at place own.text ∷ []) (map (own_naming at is.Member) ms) c) h
  own_among is_member name at d c h = no h

  pub member_taken : (is_member : List ℕ → Bool) (name : List ℕ) (at : ℕ) (rest : List Def) → Covers all (namings_from is_member at rest)
      → is_among (members rest) name ≡ true → Taken name
  member_taken is_member name at [] c h = no h
  member_taken is_member name at (d ∷ rest) c h =
      let own : List Naming = namings is_member at d in
      let more : List Naming = namings_from is_member (at + 1) rest in
      either_among name (members_of d) (members rest) h (λ e. own_among is_member name at d (covers_left all own more c) e)
      (λ e. member_taken is_member name (at + 1) rest (covers_right all own more c) e)
