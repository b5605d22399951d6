-- A side of a mapping's clause that is read as an expression: by induction on it.
use Rattle.std.proofs.Common.{◌≡◌, ◌-ℤ◌, ℤ, pos, Bool, true, ◌&&◌, List, [], ◌∷◌, ◌++◌, map, ap, sym, ◌∙◌, refl, subst, Option, Some, arith}
use Rattle.std.specs.Prelude.{neg_ℤ}
use Rattle.std.proofs.lemmas.Bool.{and_parts}
use Rattle.sail_base.specs.declared.kind.Kind.TheVariants as Sort
use Rattle.sail_base.specs.declared.operators.Operator.TheVariants as O
use Rattle.sail_base.specs.declared.place.Place.{Place}
use Rattle.sail_kinds.specs.declared.error.TableError.{TableError}
use Rattle.sail_types.specs.declared.values.Value.TheVariants as Val
use Rattle.sail_syntax.specs.Bound.{form_names, in_order, joined_names, names, names_of_joined}
use Rattle.sail_syntax.specs.declared.name.Literal.TheVariants as N
use Rattle.sail_syntax.specs.declared.name.Name.{Name}
use Rattle.sail_syntax.specs.declared.words.Brackets.TheVariants as B
use Rattle.sail_syntax.specs.declared.patterns.Joined.{Joined, roll-Joined}
use Rattle.sail_syntax.specs.declared.patterns.Pat.{Pat, Pat-F, roll-Pat}
use Rattle.sail_syntax.specs.declared.patterns.Pat.TheOpen as P
use Rattle.sail_syntax.specs.declared.patterns.Pat.TheOpen.{Joined-F}
use Rattle.sail_syntax.specs.declared.patterns.Pat.TheFolds.{fold-Joined, fold-roll-Pat, fold-roll-Joined, map-Pat, map-Joined, ind-Pat}
use Rattle.sail_core.specs.Run.{gives, ◌then◌}
use Rattle.shape_joins.proofs.Order.{no}
use Rattle.sail_meaning.specs.World as Source
use Rattle.sail_meaning.specs.Calls.{Further, concat_value, further_form, side_form as meant_form, side_value}
use Rattle.sail_names.specs.declared.around.Allowed.{Allowed}
use Rattle.sail_names.specs.declared.names.Global.{Global}
use Rattle.sail_names.specs.declared.names.Global.TheVariants as G
use Rattle.sail_names.specs.Known as Tables
use Rattle.sail_names.specs.Known.{is_construction, is_global_callee, is_global_construction, is_value}
use Rattle.sail_names.specs.Locals as Bound
use Rattle.sail_names.specs.Clauses.{values_failures}
use Rattle.sail_names.specs.Patterns.{joined, type_failures, unless, uses_failures, uses_form, uses_joined, uses_of_joined}
use Rattle.shape_rules.specs.Scopes.{Setting, Locals}
use Rattle.shape_rules.specs.Targets.{Part, elaborations}
use Rattle.shape_rules.specs.Sides.{FurtherSide, append_part, further_side, negative_found, read_side, side_part}
use Rattle.shape_meanings.specs.Whole.{all_of}
use Rattle.shape_meanings.specs.Trees.{group_written, joined_form, side_form, side_written}
use Rattle.shape_meanings.specs.Naming.{AreBound, AreKnown}
use Rattle.shape_meanings.specs.Parts.{AreRight, IsRight}
use Rattle.shape_meanings.specs.Sound.{Right}
use Rattle.shape_meanings.proofs.Settling.{both_empty, constant_right}
use Rattle.shape_meanings.proofs.Naming.{name_right, unless_true}
use Rattle.shape_meanings.proofs.Callings.{called_right}
use Rattle.shape_meanings.proofs.Groups.{empty_tuple_right, list_right, tuple_right}
use Rattle.shape_meanings.proofs.Vectors.{vector_right}
use Rattle.shape_meanings.proofs.Operators.{infix_right}
use Rattle.shape_meanings.proofs.Leaving.{typed_right}
use Rattle.body_meanings.specs.Sides.{SidesAreRight}

-- ---- names

pub values_both : (known : Tables.Setting) (bound : Bound.Locals) (xs ys : List Name) → values_failures known bound (xs ++ ys) ≡ []
    → (values_failures known bound xs ≡ []) × (values_failures known bound ys ≡ [])
values_both known bound [] ys e = (refl, e)
values_both known bound (x ∷ xs) ys e =
    let h = both_empty (unless (is_value known bound x.text) x) (values_failures known bound (xs ++ ys)) e in
    let k = values_both known bound xs ys h.1 in
    (ap (λ es. es ++ values_failures known bound xs) h.0 ∙ k.0, k.1)

-- what is named at the head of a pattern can be called
pub called_too : (allowed : Allowed) (o : Option Global) → is_global_construction allowed o ≡ true → is_global_callee allowed o ≡ true
called_too allowed (Some G.Constructor) h = refl
called_too allowed (Some (G.Mapping n)) h = h
called_too allowed (Some (G.Direction n)) h = h
called_too allowed o h = no h

-- ---- what is said of a side

abbrev SideIs : Bool → (Tables.Setting → List TableError) → List Name → Part → Source.Meaning → Type 0
SideIs w uses ns part m =
    w ≡ true → (setting : Setting) (known : Tables.Setting) → AreKnown setting known → (locals : Locals) (bound : Bound.Locals) → AreBound bound locals
    → uses known ≡ [] → values_failures known bound ns ≡ [] → IsRight setting locals part.elaborate m

abbrev read_further : Joined → FurtherSide
read_further = fold-Joined Part FurtherSide side_part further_side

abbrev meant_further : Joined → Further
meant_further = fold-Joined Source.Meaning Further meant_form further_form

abbrev further_written : Joined → Bool
further_written = fold-Joined Bool Bool side_form joined_form

abbrev OfPat : Pat → Type 0
OfPat p = SideIs (side_written p) (λ known. uses_failures known p) (names p) (read_side p) (side_value p)

abbrev OfFurther : Bool → (Tables.Setting → List TableError) → List Name → FurtherSide → Further → Type 0
OfFurther w uses ns f m = (m.place ≡ f.place) × SideIs w uses ns f.part m.value

abbrev OfJoined : Joined → Type 0
OfJoined j = OfFurther (further_written j) (λ known. uses_of_joined known j) (names_of_joined j) (read_further j) (meant_further j)

abbrev SuchP : Type 0
SuchP = (p : Pat) × OfPat p

abbrev SuchJ : Type 0
SuchJ = (j : Joined) × OfJoined j

abbrev pats : List SuchP → List Pat
pats ys = map (λ (p : SuchP). p.0) ys

abbrev joins : List SuchJ → List Joined
joins ys = map (λ (j : SuchJ). j.0) ys

each_right : (ys : List SuchP) → all_of (map side_written (pats ys)) ≡ true → (setting : Setting) (known : Tables.Setting) → AreKnown setting known
    → (locals : Locals) (bound : Bound.Locals) → AreBound bound locals → joined (map (uses_failures known) (pats ys)) ≡ []
    → values_failures known bound (in_order (map names (pats ys))) ≡ []
    → AreRight setting locals (elaborations (map read_side (pats ys))) (map side_value (pats ys))
each_right [] w setting known k locals bound are u v = tt
each_right (y ∷ ys) w setting known k locals bound are u v =
    let b = and_parts (side_written y.0) (all_of (map side_written (pats ys))) w in
    let h = both_empty (uses_failures known y.0) (joined (map (uses_failures known) (pats ys))) u in
    let g = values_both known bound (names y.0) (in_order (map names (pats ys))) v in
    (y.1 b.0 setting known k locals bound are h.0 g.0, each_right ys b.1 setting known k locals bound are h.1 g.1)

-- ---- concatenations

abbrev FurtherAre : Setting → Locals → List FurtherSide → List Further → Type 0
FurtherAre setting locals [] [] = Unit {0}
FurtherAre setting locals (f ∷ fs) (m ∷ ms) = (m.place ≡ f.place) × IsRight setting locals f.part.elaborate m.value × FurtherAre setting locals fs ms
FurtherAre setting locals fs ms = ⊥

joins_right : (ys : List SuchJ) → all_of (map further_written (joins ys)) ≡ true → (setting : Setting) (known : Tables.Setting) → AreKnown setting known
    → (locals : Locals) (bound : Bound.Locals) → AreBound bound locals → joined (map (uses_of_joined known) (joins ys)) ≡ []
    → values_failures known bound (in_order (map names_of_joined (joins ys))) ≡ []
    → FurtherAre setting locals (map read_further (joins ys)) (map meant_further (joins ys))
joins_right [] w setting known k locals bound are u v = tt
joins_right (y ∷ ys) w setting known k locals bound are u v =
    let b = and_parts (further_written y.0) (all_of (map further_written (joins ys))) w in
    let h = both_empty (uses_of_joined known y.0) (joined (map (uses_of_joined known) (joins ys))) u in
    let g = values_both known bound (names_of_joined y.0) (in_order (map names_of_joined (joins ys))) v in
    (y.1.0, y.1.1 b.0 setting known k locals bound are h.0 g.0, joins_right ys b.1 setting known k locals bound are h.1 g.1)

append_right : (fs : List FurtherSide) (ms : List Further) (setting : Setting) (locals : Locals) (place : Place) (a b : Part) (ma mb : Source.Meaning)
    → IsRight setting locals a.elaborate ma → IsRight setting locals b.elaborate mb → FurtherAre setting locals fs ms
    → IsRight setting locals (append_part place a b fs).elaborate (concat_value ma place mb ms)
append_right [] [] setting locals place a b ma mb ra rb are = infix_right setting locals place O.Append a b ma mb refl ra rb
append_right [] (m ∷ ms) setting locals place a b ma mb ra rb are = absurd are
append_right (f ∷ fs) [] setting locals place a b ma mb ra rb are = absurd are
append_right (f ∷ fs) (m ∷ ms) setting locals place a b ma mb ra rb are =
    subst (λ at. IsRight setting locals (append_part place a b (f ∷ fs)).elaborate
    (λ w. ma w then λ u. concat_value mb at m.value ms w then λ v. w.operator place O.Append (u ∷ v ∷ []))) (sym are.0)
    (infix_right setting locals place O.Append a (append_part f.place b f.part fs) ma (concat_value mb f.place m.value ms) refl ra
    (append_right fs ms setting locals f.place b f.part mb m.value rb are.1 are.2))

-- ---- one form

abbrev first : Pat-F SuchP SuchJ → Pat-F Pat Joined
first = map-Pat SuchP SuchJ Pat Joined (λ p. p.0) (λ j. j.0)

abbrev over_written : Pat-F Pat Joined → Pat-F Bool Bool
over_written = map-Pat Pat Joined Bool Bool side_written further_written

abbrev over_uses : Tables.Setting → Pat-F Pat Joined → Pat-F (List TableError) (List TableError)
over_uses known = map-Pat Pat Joined (List TableError) (List TableError) (uses_failures known) (uses_of_joined known)

abbrev over_names : Pat-F Pat Joined → Pat-F (List Name) (List Name)
over_names = map-Pat Pat Joined (List Name) (List Name) names names_of_joined

abbrev over_read : Pat-F Pat Joined → Pat-F Part FurtherSide
over_read = map-Pat Pat Joined Part FurtherSide read_side read_further

abbrev over_meant : Pat-F Pat Joined → Pat-F Source.Meaning Further
over_meant = map-Pat Pat Joined Source.Meaning Further side_value meant_further

abbrev FormIs : Pat-F Pat Joined → Type 0
FormIs d = SideIs (side_form (over_written d)) (λ known. uses_form known (over_uses known d)) (form_names (over_names d)) (side_part (over_read d))
    (meant_form (over_meant d))

group_parts : (y : SuchP) (ys : List SuchP) → group_written B.Tuple (map side_written (pats (y ∷ ys))) ≡ true
    → all_of (map side_written (pats (y ∷ ys))) ≡ true
group_parts y [] h = no h
group_parts y (z ∷ ys) h = h

less : (n : ℤ) → (pos 0 -ℤ n) ≡ neg_ℤ n
less n = grind arith

again : (y : Pat-F SuchP SuchJ) → FormIs (first y)
again (P.Wildcard place) w setting known k locals bound are u v = no w
again (P.Constant place literal) w setting known k locals bound are u v = λ want e. constant_right setting locals want place literal e
again (P.Negative place n) w setting known k locals bound are u v = λ want e.
    subst (λ z. Right setting locals want (negative_found place n setting locals want) (λ w. gives (Val.Integer z))) (less n)
    (constant_right setting locals want place (N.Number (pos 0 -ℤ n)) e)
again (P.Bind name) w setting known k locals bound are u v = λ want e.
    name_right setting known k locals bound are want name (both_empty (unless (is_value known bound name.text) name) [] v).0 e
again (P.Construct name ys) w setting known k locals bound are u v = λ want e.
    let h = both_empty (unless (is_construction known name.text) name) (joined (map (uses_failures known) (pats ys))) u in
    called_right setting known locals want name (map read_side (pats ys)) (map side_value (pats ys)) (k.values name.text)
    (called_too known.allowed (known.known.value name.text) (unless_true (is_construction known name.text) name h.0))
    (each_right ys w setting known k locals bound are h.1 v) e
again (P.Group place B.Tuple []) w setting known k locals bound are u v = empty_tuple_right setting locals place
again (P.Group place B.Tuple (x ∷ [])) w setting known k locals bound are u v = no w
again (P.Group place B.Tuple (x ∷ y ∷ ys)) w setting known k locals bound are u v =
    tuple_right setting locals place (read_side x.0).elaborate (read_side y.0).elaborate (elaborations (map read_side (pats ys)))
    (map side_value (pats (x ∷ y ∷ ys))) (each_right (x ∷ y ∷ ys) w setting known k locals bound are u v)
again (P.Group place B.Vector ys) w setting known k locals bound are u v =
    vector_right setting locals place (elaborations (map read_side (pats ys))) (map side_value (pats ys))
    (each_right ys w setting known k locals bound are u v)
again (P.Group place B.List ys) w setting known k locals bound are u v =
    list_right setting locals place (elaborations (map read_side (pats ys))) (map side_value (pats ys)) (each_right ys w setting known k locals bound are u v)
again (P.Concat place a b ys) w setting known k locals bound are u v =
    let c = and_parts (side_written a.0 && side_written b.0) (all_of (map further_written (joins ys))) w in
    let c2 = and_parts (side_written a.0) (side_written b.0) c.0 in
    let h = both_empty (uses_failures known a.0 ++ uses_failures known b.0) (joined (map (uses_of_joined known) (joins ys))) u in
    let h2 = both_empty (uses_failures known a.0) (uses_failures known b.0) h.0 in
    let g = values_both known bound (names a.0 ++ names b.0) (in_order (map names_of_joined (joins ys))) v in
    let g2 = values_both known bound (names a.0) (names b.0) g.0 in
    append_right (map read_further (joins ys)) (map meant_further (joins ys)) setting locals place (read_side a.0) (read_side b.0) (side_value a.0)
    (side_value b.0) (a.1 c2.0 setting known k locals bound are h2.0 g2.0) (b.1 c2.1 setting known k locals bound are h2.1 g2.1)
    (joins_right ys c.1 setting known k locals bound are h.1 g.1)
again (P.Cons place a b) w setting known k locals bound are u v =
    let c = and_parts (side_written a.0) (side_written b.0) w in
    let h = both_empty (uses_failures known a.0) (uses_failures known b.0) u in
    let g = values_both known bound (names a.0) (names b.0) v in
    infix_right setting locals place O.Cons (read_side a.0) (read_side b.0) (side_value a.0) (side_value b.0) refl
    (a.1 c.0 setting known k locals bound are h.0 g.0) (b.1 c.1 setting known k locals bound are h.1 g.1)
again (P.As place a name) w setting known k locals bound are u v = no w
again (P.Typed place a typ) w setting known k locals bound are u v =
    let h = both_empty (uses_failures known a.0) (type_failures Sort.Type typ known) u in
    let t = k.typs typ h.1 in
    typed_right setting locals place (read_side a.0) typ t.0 t.2.0 (side_value a.0) t.1 t.2.1 (a.1 w setting known k locals bound are h.0 v)

-- ---- the tree

rolled : (d : Pat-F Pat Joined) → FormIs d → OfPat (roll-Pat d)
rolled d h =
    subst (λ w. SideIs w (λ known. uses_failures known (roll-Pat d)) (names (roll-Pat d)) (read_side (roll-Pat d)) (side_value (roll-Pat d)))
    (sym (fold-roll-Pat Bool Bool side_form joined_form d))
    (subst (λ u. SideIs (side_form (over_written d)) u (names (roll-Pat d)) (read_side (roll-Pat d)) (side_value (roll-Pat d)))
    (λ i known. sym (fold-roll-Pat (List TableError) (List TableError) (uses_form known) uses_joined d) i)
    (subst (λ n. SideIs (side_form (over_written d)) (λ known. uses_form known (over_uses known d)) n (read_side (roll-Pat d)) (side_value (roll-Pat d)))
    (sym (fold-roll-Pat (List Name) (List Name) form_names joined_names d))
    (subst (λ r. SideIs (side_form (over_written d)) (λ known. uses_form known (over_uses known d)) (form_names (over_names d)) r (side_value (roll-Pat d)))
    (sym (fold-roll-Pat Part FurtherSide side_part further_side d))
    (subst (SideIs (side_form (over_written d)) (λ known. uses_form known (over_uses known d)) (form_names (over_names d)) (side_part (over_read d)))
    (sym (fold-roll-Pat Source.Meaning Further meant_form further_form d)) h))))

abbrev first_joined : Joined-F SuchP SuchJ → Joined-F Pat Joined
first_joined = map-Joined SuchP SuchJ Pat Joined (λ p. p.0) (λ j. j.0)

rolled_joined : (y : Joined-F SuchP SuchJ) → OfJoined (roll-Joined (first_joined y))
rolled_joined y =
    let d : Joined-F Pat Joined = first_joined y in
    let j : Joined = roll-Joined d in
    let f : FurtherSide = record { place = y.place; part = read_side y.part.0 } in
    let m : Further = record { place = y.place; value = side_value y.part.0 } in
    subst (λ w. OfFurther w (λ known. uses_of_joined known j) (names_of_joined j) (read_further j) (meant_further j))
    (sym (fold-roll-Joined Bool Bool side_form joined_form d))
    (subst (λ u. OfFurther (side_written y.part.0) u (names_of_joined j) (read_further j) (meant_further j))
    (λ i known. sym (fold-roll-Joined (List TableError) (List TableError) (uses_form known) uses_joined d) i)
    (subst (λ n. OfFurther (side_written y.part.0) (λ known. uses_failures known y.part.0) n (read_further j) (meant_further j))
    (sym (fold-roll-Joined (List Name) (List Name) form_names joined_names d))
    (subst (λ r. OfFurther (side_written y.part.0) (λ known. uses_failures known y.part.0) (names y.part.0) r (meant_further j))
    (sym (fold-roll-Joined Part FurtherSide side_part further_side d))
    (subst (OfFurther (side_written y.part.0) (λ known. uses_failures known y.part.0) (names y.part.0) f)
    (sym (fold-roll-Joined Source.Meaning Further meant_form further_form d)) (refl, y.part.1)))))

pub sides_right : SidesAreRight
sides_right = ind-Pat OfPat OfJoined (λ e y is. subst (λ d. OfPat (roll-Pat d)) is (rolled (first y) (again y)))
    (λ e y is. subst (λ d. OfJoined (roll-Joined d)) is (rolled_joined y))
