-- Patterns, whatever their form: an induction on the pattern.
use Rattle.std.proofs.Common.{◌≡◌, ℕ, pos, List, [], ◌∷◌, ◌++◌, map, length, ap, sym, ◌∙◌, refl, subst, Bool, true, Option, Some, None, option_map}
use Rattle.std.proofs.lemmas.Bool.{and_parts}
use Rattle.std.specs.List.{list_all}
use Rattle.sail_base.specs.declared.kind.Kind.TheVariants as Sort
use Rattle.sail_kinds.specs.declared.error.TableError.{TableError}
use Rattle.sail_syntax.specs.declared.name.Literal.{Literal}
use Rattle.sail_syntax.specs.declared.name.Literal.TheVariants as N
use Rattle.sail_syntax.specs.declared.name.Name.{Name}
use Rattle.sail_syntax.specs.declared.patterns.Joined.{Joined, roll-Joined}
use Rattle.sail_syntax.specs.declared.patterns.Pat.{Pat, Pat-F, roll-Pat}
use Rattle.sail_syntax.specs.declared.patterns.Pat.TheOpen as P
use Rattle.sail_syntax.specs.declared.patterns.Pat.TheOpen.{Joined-F}
use Rattle.sail_syntax.specs.declared.patterns.Pat.TheFolds.{fold-roll-Joined, fold-roll-Pat, ind-Pat, map-Joined, map-Pat}
use Rattle.sail_syntax.specs.declared.words.Brackets.TheVariants as B
use Rattle.sail_types.specs.Sums.{and_then, constant}
use Rattle.sail_types.specs.declared.numbers.Atom.TheFolds.{fold-roll-Num}
use Rattle.sail_types.specs.declared.numbers.Num.{Num}
use Rattle.sail_types.specs.declared.shapes.Shape.{Shape}
use Rattle.sail_types.specs.declared.values.Value.{Value}
use Rattle.sail_core.specs.Making.{World}
use Rattle.sail_core.specs.Numbers.{Givens}
use Rattle.shape_joins.proofs.JoinsLeast.{none, some_same}
use Rattle.shape_joins.proofs.Order.{two}
use Rattle.sail_names.specs.declared.names.Global.{Global}
use Rattle.sail_names.specs.declared.names.Global.TheVariants as G
use Rattle.sail_cycles.specs.Callees as Entered
use Rattle.sail_cycles.specs.Callees.{joined_callees, mappings_of_global, pattern_callees}
use Rattle.sail_names.specs.Known as Tables
use Rattle.sail_names.specs.Known.{Known, is_construction, is_global_construction}
use Rattle.sail_names.specs.Patterns.{joined, type_failures, unless, uses_failures, uses_form, uses_joined, uses_of_joined}
use Rattle.shape_rules.specs.declared.callees.Meant.{Meant}
use Rattle.shape_rules.specs.declared.callees.Meant.TheVariants as M
use Rattle.shape_rules.specs.Patterns.{Piece, Widths, form_piece, joined_piece, literal_width, name_look, name_width, piece, width_of}
use Rattle.shape_rules.specs.Written.{written_as}
use Rattle.shape_meanings.specs.Naming.{AreKnown}
use Rattle.shape_meanings.specs.Whole.{Choice}
use Rattle.shape_meanings.proofs.Naming.{unless_true}
use Rattle.shape_meanings.proofs.PatternsSound.{joined_look}
use Rattle.shape_progress.specs.Conditions.{atom_given, given_in}
use Rattle.shape_stands.specs.Inside.{Inside, Position}
use Rattle.shape_stands.specs.Stands.{AreGiven, Converting, LooksShaped, PieceStands, PiecesStand}
use Rattle.shape_stands.proofs.Standing.{both_empty}
use Rattle.pattern_stands.specs.Laws.{PatternsStand, WidthGiven, WidthsAreGiven, WidthsGiven}
use Rattle.pattern_stands.proofs.Forms.{any_stands, as_stands, cons_stands, list_stands, literal_stands, name_stands, negative_stands, tuple_stands}
use Rattle.pattern_stands.proofs.Forms.{typed_stands, unit_stands, vector_stands}
use Rattle.pattern_stands.proofs.Heads.{construct_stands}
use Rattle.pattern_stands.proofs.Words.{concat_stands}

-- ---- what is said of a pattern: it stands, whatever shape comes to it, and its width is given

abbrev BothStand : Position → Widths → Piece → Type 0
BothStand here widths p = PieceStands here widths p × WidthGiven here widths p

abbrev StandsAs : (Tables.Setting → List TableError) → (Known → List ℕ) → Piece → Type 0
StandsAs uses callees p =
    (here : Position) → AreKnown here.setting here.names → uses here.names ≡ [] → Converting here (callees here.names.known) → (widths : Widths)
    → BothStand here widths p

abbrev PatStands : Pat → Type 0
PatStands p = StandsAs (λ names. uses_failures names p) (λ known. pattern_callees known p) (piece p)

abbrev JoinedStands : Joined → Type 0
JoinedStands j = StandsAs (λ names. uses_of_joined names j) (λ known. joined_callees known j) (joined_look j)

abbrev SuchP : Type 0
SuchP = (p : Pat) × PatStands p

abbrev SuchJ : Type 0
SuchJ = (j : Joined) × JoinedStands j

abbrev pats : List SuchP → List Pat
pats ys = map (λ (p : SuchP). p.0) ys

abbrev joins : List SuchJ → List Joined
joins ys = map (λ (j : SuchJ). j.0) ys

-- ---- mappings of a pattern are those of its parts

all_both : (f : ℕ → Bool) (xs ys : List ℕ) → list_all f (xs ++ ys) ≡ true → (list_all f xs ≡ true) × (list_all f ys ≡ true)
all_both f [] ys h = (refl, h)
all_both f (x ∷ xs) ys h =
    let k = and_parts (f x) (list_all f (xs ++ ys)) h in
    let r = all_both f xs ys k.1 in
    (two (f x) (list_all f xs) k.0 r.0, r.1)

pub both_convert : (here : Position) (xs ys : List ℕ) → Converting here (xs ++ ys) → Converting here xs × Converting here ys
both_convert here xs ys h = ((λ any. (all_both here.converts xs ys (h any)).0), (λ any. (all_both here.converts xs ys (h any)).1))

-- where a pattern is plain there is no mapping in it
mappings_convert : (here : Position) (o : Option Global) → is_global_construction here.names.allowed o ≡ true → Converting here (mappings_of_global o)
    → list_all here.converts (mappings_of_global o) ≡ true
mappings_convert here (Some (G.Mapping n)) h converts = converts h
mappings_convert here (Some (G.Direction n)) h converts = converts h
mappings_convert here o h converts = refl

-- ---- several parts

each_stand : (ys : List SuchP) (here : Position) (widths : Widths) → AreKnown here.setting here.names
    → joined (map (uses_failures here.names) (pats ys)) ≡ [] → Converting here (joined (map (pattern_callees here.names.known) (pats ys)))
    → PiecesStand here widths (map piece (pats ys))
each_stand [] here widths known u converts = tt
each_stand (y ∷ ys) here widths known u converts =
    let h = both_empty (uses_failures here.names y.0) (joined (map (uses_failures here.names) (pats ys))) u in
    let k = both_convert here (pattern_callees here.names.known y.0) (joined (map (pattern_callees here.names.known) (pats ys))) converts in
    ((y.1 here known h.0 k.0 widths).0, each_stand ys here widths known h.1 k.1)

abbrev AllStand : Position → Widths → List Piece → Type 0
AllStand here widths ps = PiecesStand here widths ps × WidthsGiven here widths ps

each_joined : (ys : List SuchJ) (here : Position) (widths : Widths) → AreKnown here.setting here.names
    → joined (map (uses_of_joined here.names) (joins ys)) ≡ [] → Converting here (joined (map (joined_callees here.names.known) (joins ys)))
    → AllStand here widths (map joined_look (joins ys))
each_joined [] here widths known u converts = (tt, tt)
each_joined (y ∷ ys) here widths known u converts =
    let h = both_empty (uses_of_joined here.names y.0) (joined (map (uses_of_joined here.names) (joins ys))) u in
    let k = both_convert here (joined_callees here.names.known y.0) (joined (map (joined_callees here.names.known) (joins ys))) converts in
    let one = y.1 here known h.0 k.0 widths in
    let others = each_joined ys here widths known h.1 k.1 in
    ((one.0, others.0), (one.1, others.1))

-- ---- widths

constant_given : (nu : Givens) (bits : List Bool) → given_in nu (constant (pos (length bits))) ≡ true
constant_given nu bits =
    fold-roll-Num Bool Bool Bool (atom_given nu) (λ n. list_all (λ b. b) n.terms) (λ term. term.atom)
    (record { terms = []; constant = pos (length bits) })

literal_given : (nu : Givens) (literal : Literal) (n : Num) → literal_width literal ≡ Some n → given_in nu n ≡ true
literal_given nu (N.Bits bits) n is = subst (λ m. given_in nu m ≡ true) (some_same (constant (pos (length bits))) n is) (constant_given nu bits)
literal_given nu literal n is = none is

-- ---- one form

abbrev first : Pat-F SuchP SuchJ → Pat-F Pat Joined
first = map-Pat SuchP SuchJ Pat Joined (λ p. p.0) (λ j. j.0)

abbrev used_form : Tables.Setting → Pat-F Pat Joined → Pat-F (List TableError) (List TableError)
used_form names = map-Pat Pat Joined (List TableError) (List TableError) (uses_failures names) (uses_of_joined names)

abbrev entered_form : Known → Pat-F Pat Joined → Pat-F (List ℕ) (List ℕ)
entered_form known = map-Pat Pat Joined (List ℕ) (List ℕ) (pattern_callees known) (joined_callees known)

abbrev looked_form : Pat-F Pat Joined → Pat-F Piece Piece
looked_form = map-Pat Pat Joined Piece Piece piece joined_look

abbrev FormStands : Pat-F Pat Joined → Type 0
FormStands d =
    StandsAs (λ names. uses_form names (used_form names d)) (λ known. Entered.pattern_form known (entered_form known d)) (form_piece (looked_form d))

no_width : (n : Num) → None ≡ Some n → (nu : Givens) → given_in nu n ≡ true
no_width n is nu = none is

-- a bare identifier is no member's, and then has the width that is known of it
name_again : (here : Position) (widths : Widths) (name : Name) (meant : Option Meant) → here.setting.value name.text ≡ meant
    → ((subject : Shape) → (name_look name meant here.setting widths subject).faults ≡ []
    → LooksShaped here widths subject (name_look name meant here.setting widths subject))
    × ((registers : List Shape) (c : Choice) (w : World Value) → Inside here registers c w → AreGiven widths w → (n : Num)
    → name_width name meant widths ≡ Some n → given_in w.numbers n ≡ true)
name_again here widths name (Some (M.Member i k)) is = (
  λ subject e. name_stands here widths subject name (Some (M.Member i k)) is e,
  λ registers c w inside given n known. no_width n known w.numbers,
)
name_again here widths name meant is = (
  λ subject e. name_stands here widths subject name meant is e,
  λ registers c w inside given n known. given name.text n known,
)

again : (y : Pat-F SuchP SuchJ) → FormStands (first y)
again (P.Wildcard place) here known u converts widths =
    ((λ subject e. any_stands here widths subject place), (λ registers c w inside given n is. no_width n is w.numbers))
again (P.Constant place literal) here known u converts widths =
    ((λ subject e. literal_stands here widths subject place literal e), (λ registers c w inside given n is. literal_given w.numbers literal n is))
again (P.Negative place z) here known u converts widths =
    ((λ subject e. negative_stands here widths subject place z e), (λ registers c w inside given n is. no_width n is w.numbers))
again (P.Bind name) here known u converts widths = name_again here widths name (here.setting.value name.text) refl
again (P.Construct name ys) here known u converts widths =
    let h = both_empty (unless (is_construction here.names name.text) name) (joined (map (uses_failures here.names) (pats ys))) u in
    let o : Option Global = here.names.known.value name.text in
    let k = both_convert here (mappings_of_global o) (joined (map (pattern_callees here.names.known) (pats ys))) converts in
    let constructs = unless_true (is_construction here.names name.text) name h.0 in (
      construct_stands here widths name (map piece (pats ys)) o (here.setting.value name.text) (known.values name.text) constructs
          (λ registers c w inside. inside.heads name.text constructs (mappings_convert here o constructs k.0))
          (each_stand ys here widths known h.1 k.1),
      λ registers c w inside given n is. inside.head_widths name.text n constructs is,
    )
again (P.Group place B.Tuple []) here known u converts widths =
    ((λ subject e. unit_stands here widths subject place e), (λ registers c w inside given n is. no_width n is w.numbers))
again (P.Group place B.Tuple (y ∷ ys)) here known u converts widths = (
  λ subject e. tuple_stands here widths subject place (map piece (pats (y ∷ ys))) (each_stand (y ∷ ys) here widths known u converts) e,
  λ registers c w inside given n is. no_width n is w.numbers,
)
again (P.Group place B.Vector ys) here known u converts widths = (
  λ subject e. vector_stands here widths subject place (map piece (pats ys)) (each_stand ys here widths known u converts) e,
  λ registers c w inside given n is. no_width n is w.numbers,
)
again (P.Group place B.List ys) here known u converts widths = (
  λ subject e. list_stands here widths subject place (map piece (pats ys)) (each_stand ys here widths known u converts) e,
  λ registers c w inside given n is. no_width n is w.numbers,
)
again (P.Concat place a b ys) here known u converts widths =
    let uses : Pat → List TableError = uses_failures here.names in
    let enters : Pat → List ℕ = pattern_callees here.names.known in
    let js : List Joined = joins ys in
    let h = both_empty (uses a.0 ++ uses b.0) (joined (map (uses_of_joined here.names) js)) u in
    let h2 = both_empty (uses a.0) (uses b.0) h.0 in
    let k = both_convert here (enters a.0 ++ enters b.0) (joined (map (joined_callees here.names.known) js)) converts in
    let k2 = both_convert here (enters a.0) (enters b.0) k.0 in
    let one = a.1 here known h2.0 k2.0 widths in
    let another = b.1 here known h2.1 k2.1 widths in
    let others = each_joined ys here widths known h.1 k.1 in (
      λ subject e. concat_stands here widths subject place (piece a.0 ∷ piece b.0 ∷ map joined_look js) (one.0, (another.0, others.0))
          (one.1, (another.1, others.1)) e,
      λ registers c w inside given n is. no_width n is w.numbers,
    )
again (P.Cons place a b) here known u converts widths =
    let h = both_empty (uses_failures here.names a.0) (uses_failures here.names b.0) u in
    let k = both_convert here (pattern_callees here.names.known a.0) (pattern_callees here.names.known b.0) converts in (
      λ subject e. cons_stands here widths subject place (piece a.0) (piece b.0) (a.1 here known h.0 k.0 widths).0 (b.1 here known h.1 k.1 widths).0 e,
      λ registers c w inside given n is. no_width n is w.numbers,
    )
again (P.As place a name) here known u converts widths = (
  λ subject e. as_stands here widths subject place (piece a.0) name (a.1 here known u converts widths).0 e,
  λ registers c w inside given n is. no_width n is w.numbers,
)
again (P.Typed place a typ) here known u converts widths =
    let h = both_empty (uses_failures here.names a.0) (type_failures Sort.Type typ here.names) u in
    let t = known.typs typ h.1 in (
      λ subject e. typed_stands here widths subject place (piece a.0) typ (written_as here.setting.within typ t.0)
          (ap (option_map (written_as here.setting.within typ)) t.1) (a.1 here known h.0 converts widths).0 e,
      λ registers c w inside given n is. inside.widths typ t.0 n h.1 t.1 (sym (ap (λ o. and_then o width_of) t.1) ∙ is),
    )

-- ---- the tree

rolled : (d : Pat-F Pat Joined) → FormStands d → PatStands (roll-Pat d)
rolled d h =
    subst (λ u. StandsAs u (λ known. pattern_callees known (roll-Pat d)) (piece (roll-Pat d)))
    (λ i names. sym (fold-roll-Pat (List TableError) (List TableError) (uses_form names) uses_joined d) i)
    (subst (λ q. StandsAs (λ names. uses_form names (used_form names d)) q (piece (roll-Pat d)))
    (λ i known. sym (fold-roll-Pat (List ℕ) (List ℕ) (Entered.pattern_form known) Entered.joined_form d) i)
    (subst (StandsAs (λ names. uses_form names (used_form names d)) (λ known. Entered.pattern_form known (entered_form known d)))
    (sym (fold-roll-Pat Piece Piece form_piece joined_piece d)) h))

abbrev first_joined : Joined-F SuchP SuchJ → Joined-F Pat Joined
first_joined = map-Joined SuchP SuchJ Pat Joined (λ p. p.0) (λ j. j.0)

rolled_joined : (y : Joined-F SuchP SuchJ) → JoinedStands (roll-Joined (first_joined y))
rolled_joined y =
    let d : Joined-F Pat Joined = first_joined y in
    subst (λ u. StandsAs u (λ known. joined_callees known (roll-Joined d)) (joined_look (roll-Joined d)))
    (λ i names. sym (fold-roll-Joined (List TableError) (List TableError) (uses_form names) uses_joined d) i)
    (subst (λ q. StandsAs (λ names. uses_failures names y.part.0) q (joined_look (roll-Joined d)))
    (λ i known. sym (fold-roll-Joined (List ℕ) (List ℕ) (Entered.pattern_form known) Entered.joined_form d) i)
    (subst (StandsAs (λ names. uses_failures names y.part.0) (λ known. pattern_callees known y.part.0))
    (sym (fold-roll-Joined Piece Piece form_piece joined_piece d)) y.part.1))

pat_stands : (p : Pat) → PatStands p
pat_stands = ind-Pat PatStands JoinedStands (λ e y is. subst (λ d. PatStands (roll-Pat d)) is (rolled (first y) (again y)))
    (λ e y is. subst (λ d. JoinedStands (roll-Joined d)) is (rolled_joined y))

pub patterns_stand : PatternsStand
patterns_stand p here known u converts widths subject e = (pat_stands p here known u converts widths).0 subject e

pub widths_given : WidthsAreGiven
widths_given p here known u converts widths = (pat_stands p here known u converts widths).1
