-- Tuples and lists.
use Rattle.std.proofs.Common.{◌≡◌, List, [], ◌∷◌, map, length, ap, sym, ◌∙◌, refl, subst, true, false}
use Rattle.std.proofs.lemmas.Bool.{and_parts}
use Rattle.std.specs.List.{list_all}
use Rattle.sail_base.specs.declared.place.Place.{Place}
use Rattle.sail_types.specs.Shapes.{fits, put, Asked}
use Rattle.sail_types.specs.declared.shapes.Shape.{Shape, out-Shape}
use Rattle.sail_types.specs.declared.shapes.Shape.TheOpen as S
use Rattle.sail_types.specs.declared.shapes.Shape.TheVariants as V
use Rattle.sail_types.specs.declared.table.Types.{Types}
use Rattle.sail_types.specs.declared.values.Value.{Value}
use Rattle.sail_types.specs.declared.values.Value.TheOpen as W
use Rattle.sail_types.specs.declared.values.Value.TheVariants as Val
use Rattle.sail_syntax.specs.declared.words.Brackets.TheVariants as B
use Rattle.sail_core.specs.declared.tree.Kind.TheVariants as K
use Rattle.sail_core.specs.declared.tree.Core.{Core}
use Rattle.sail_core.specs.Run as R
use Rattle.sail_core.specs.Run.{Now, Run, gives, in_turn, ◌then◌}
use Rattle.sail_core.specs.Values.{payload_of}
use Rattle.sail_core.specs.Making as Core
use Rattle.sail_core.specs.Meaning.{core_meaning}
use Rattle.shape_joins.specs.Filling.{fills}
use Rattle.shape_joins.proofs.Order.{no, two, fills_itself, fills_twice}
use Rattle.sail_meaning.specs.World as Source
use Rattle.sail_meaning.specs.Expressions.{each, group}
use Rattle.shape_rules.specs.declared.locals.Local.{Local}
use Rattle.shape_rules.specs.Findings.{Found, over, given_on}
use Rattle.shape_rules.specs.Scopes.{Setting, Locals}
use Rattle.shape_rules.specs.Calls.{Elaborate}
use Rattle.shape_rules.specs.Values.{Parts, parts_found, tuple_wants, group_found, Chained, chained, list_want, item_shape}
use Rattle.shape_meanings.specs.Whole.{Choice}
use Rattle.shape_meanings.specs.Keeping.{Fits, FitAll, SeenAs, Reach, Good, reach_of, Agree}
use Rattle.shape_meanings.specs.Worlds.{Describes}
use Rattle.shape_meanings.specs.Parts.{AreRight, IsRight}
use Rattle.shape_meanings.proofs.Runs.{then_agree}
use Rattle.shape_meanings.proofs.Settling.{RunsAs, widened, settled_right, behind_right, both_empty, unrolled, form_has}
use Rattle.shape_meanings.proofs.Branches.{given_over}
use Rattle.shape_meanings.proofs.Arguments.{RunAll, none_run, more_run}
use Rattle.shape_meanings.proofs.Calling.{unit_right}
use Rattle.shape_meanings.proofs.Operators.{right_via}

-- ---- parts, each with what is wanted of it

pub parts_right : (es : List Elaborate) (ms : List Source.Meaning) (wants : List Shape) (setting : Setting) (locals : Locals) → AreRight setting locals es ms
    → (parts_found es setting locals wants).faults ≡ []
    → RunAll setting locals (parts_found es setting locals wants).shapes (parts_found es setting locals wants).cores ms
parts_right [] [] wants setting locals right e = none_run setting locals
parts_right [] (m ∷ ms) wants setting locals right e = absurd right
parts_right (x ∷ es) [] wants setting locals right e = absurd right
parts_right (x ∷ es) (m ∷ ms) [] setting locals right e =
    let a : Found = x setting locals V.Never in
    let more : Parts = parts_found es setting locals [] in
    let h = both_empty a.faults more.faults e in
    more_run setting locals a.shape more.shapes a.core more.cores m ms (right.0 V.Never h.0).runs (parts_right es ms [] setting locals right.1 h.1)
parts_right (x ∷ es) (m ∷ ms) (want ∷ wants) setting locals right e =
    let a : Found = x setting locals want in
    let more : Parts = parts_found es setting locals wants in
    let h = both_empty a.faults more.faults e in
    more_run setting locals a.shape more.shapes a.core more.cores m ms (right.0 want h.0).runs (parts_right es ms wants setting locals right.1 h.1)

-- ---- tuples

-- several parts
two_shapes : (e f : Elaborate) (es : List Elaborate) (setting : Setting) (locals : Locals) (wants : List Shape)
    → (s : Shape) × (t : Shape) × (ss : List Shape) × ((parts_found (e ∷ f ∷ es) setting locals wants).shapes ≡ (s ∷ t ∷ ss))
two_shapes e f es setting locals [] = (_, _, _, refl)
two_shapes e f es setting locals (s ∷ []) = (_, _, _, refl)
two_shapes e f es setting locals (s ∷ t ∷ ss) = (_, _, _, refl)

tuple_value : (types : Types) (c : Choice) (s t : Shape) (ss : List Shape) (vs : List Value) → FitAll types c (s ∷ t ∷ ss) vs → payload_of vs ≡ Val.Tuple vs
tuple_value types c s t ss [] h = no h
tuple_value types c s t ss (v ∷ []) h = no ((and_parts (fits types v (put c s)) false h).1)
tuple_value types c s t ss (v ∷ u ∷ vs) h = refl

tuple_runs : (setting : Setting) (locals : Locals) (place : Place) (s t : Shape) (ss : List Shape) (cores : List Core) (ms : List Source.Meaning)
    → RunAll setting locals (s ∷ t ∷ ss) cores ms
    → RunsAs setting locals (V.Tuple (s ∷ t ∷ ss)) (over place K.Tuple cores) (λ w. in_turn (each ms w) then group B.Tuple)
tuple_runs setting locals place s t ss cores ms runs registers c wc ws d slots seen now good =
    let reach : Reach = reach_of setting registers c slots in
    let all : List Shape = s ∷ t ∷ ss in
    let r = then_agree reach (FitAll setting.types c all) (Fits setting.types c (V.Tuple all)) (in_turn (map (core_meaning wc) cores) now) (in_turn
    (each ms ws) now)
    (λ vs. gives (Val.Tuple vs)) (group B.Tuple) (runs registers c wc ws d slots seen now good)
    (λ vs later h good2.
    let is = tuple_value setting.types c s t ss vs h in (
      ap (λ v. R.Gives v later) (sym is),
      (
        subst (λ v. Fits setting.types c (V.Tuple all) v) (sym is)
            (form_has setting.types c (W.Tuple vs) (S.Tuple all) (Val.Tuple vs) (V.Tuple all) (Val.rolls-Tuple vs) (V.rolls-Tuple all) h),
        good2,
      ),
    )) in
    (ap (λ (q : Run Value Value). q now) (unrolled wc place 0 K.Tuple cores) ∙ r.0, r.1)

pub tuple_right : (setting : Setting) (locals : Locals) (place : Place) (e f : Elaborate) (es : List Elaborate) (ms : List Source.Meaning)
    → AreRight setting locals (e ∷ f ∷ es) ms
    → IsRight setting locals (group_found place B.Tuple (e ∷ f ∷ es)) (λ w. in_turn (each ms w) then group B.Tuple)
tuple_right setting locals place e f es ms right want h =
    let wants : List Shape = tuple_wants (length (e ∷ f ∷ es)) (out-Shape want) in
    let parts : Parts = parts_found (e ∷ f ∷ es) setting locals wants in
    let m : Source.Meaning = λ w. in_turn (each ms w) then group B.Tuple in
    let k = both_empty parts.faults _ h in
    let shapes = two_shapes e f es setting locals wants in
    behind_right setting locals want parts.faults _ m
    (settled_right setting locals place want (V.Tuple parts.shapes) (λ s. over place K.Tuple parts.cores) m k.1
    (λ t. subst (λ ss. RunsAs setting locals (V.Tuple ss) (over place K.Tuple parts.cores) m) (sym shapes.3)
    (tuple_runs setting locals place shapes.0 shapes.1 shapes.2 parts.cores ms
    (subst (λ ss. RunAll setting locals ss parts.cores ms) shapes.3 (parts_right (e ∷ f ∷ es) ms wants setting locals right k.0)))))

pub empty_tuple_right : (setting : Setting) (locals : Locals) (place : Place)
    → IsRight setting locals (group_found place B.Tuple []) (λ w. in_turn (each [] w) then group B.Tuple)
empty_tuple_right setting locals place want e =
    right_via setting locals want (group_found place B.Tuple [] setting locals want) (λ w. gives Val.Unit) (λ w. in_turn (each [] w) then group B.Tuple) refl
    (unit_right setting locals place want e)

-- ---- items, each of which gives its shape to those behind it

abbrev pub AllFit : Types → Choice → Shape → List Value → Type 0
AllFit types c s vs = list_all (λ (f : Asked). f (put c s)) (map (fits types) vs) ≡ true

abbrev pub RunItems : Setting → Locals → Shape → List Core → List Source.Meaning → Type 0
RunItems setting locals s cores ms =
    (registers : List Shape) (c : Choice) (wc : Core.World Value) (ws : Source.World) → Describes setting registers wc ws
    → (slots : List Local) → SeenAs slots locals → (now : Now Value) → Good (reach_of setting registers c slots) now
    → Agree (reach_of setting registers c slots) (AllFit setting.types c s) (in_turn (map (core_meaning wc) cores) now) (in_turn (each ms ws) now)

more_items : (setting : Setting) (locals : Locals) (s : Shape) (core : Core) (cores : List Core) (m : Source.Meaning) (ms : List Source.Meaning)
    → RunsAs setting locals s core m → RunItems setting locals s cores ms → RunItems setting locals s (core ∷ cores) (m ∷ ms)
more_items setting locals s core cores m ms one others registers c wc ws d slots seen now good =
    let reach : Reach = reach_of setting registers c slots in
    then_agree reach (Fits setting.types c s) (AllFit setting.types c s) (core_meaning wc core now) (m ws now)
    (λ x. in_turn (map (core_meaning wc) cores) then λ xs. gives (x ∷ xs)) (λ x. in_turn (each ms ws) then λ xs. gives (x ∷ xs))
    (one registers c wc ws d slots seen now good)
    (λ v later h good2.
    then_agree reach (AllFit setting.types c s) (AllFit setting.types c s) (in_turn (map (core_meaning wc) cores) later) (in_turn (each ms ws) later)
    (λ xs. gives (v ∷ xs)) (λ xs. gives (v ∷ xs)) (others registers c wc ws d slots seen later good2)
    (λ vs last hs good3. (refl, (two (fits setting.types v (put c s)) (list_all (λ (f : Asked). f (put c s)) (map (fits setting.types) vs)) h hs, good3))))

pub chained_right : (es : List Elaborate) (ms : List Source.Meaning) (want : Shape) (setting : Setting) (locals : Locals) → AreRight setting locals es ms
    → (chained es setting locals want).faults ≡ []
    → (fills want (chained es setting locals want).shape ≡ true)
    × RunItems setting locals (chained es setting locals want).shape (chained es setting locals want).cores ms
chained_right [] [] want setting locals right e = (fills_itself want, λ registers c wc ws d slots seen now good. (refl, (refl, good)))
chained_right [] (m ∷ ms) want setting locals right e = absurd right
chained_right (x ∷ es) [] want setting locals right e = absurd right
chained_right (x ∷ es) (m ∷ ms) want setting locals right e =
    let a : Found = x setting locals want in
    let next : Chained = chained es setting locals (given_on want a.shape) in
    let h = both_empty a.faults next.faults e in
    let one = right.0 want h.0 in
    let given = given_over want a.shape one.above in
    let others = chained_right es ms (given_on want a.shape) setting locals right.1 h.1 in (
      fills_twice want (given_on want a.shape) next.shape given.0 others.0,
      more_items setting locals next.shape a.core next.cores m ms
          (widened setting locals a.shape next.shape a.core m (fills_twice a.shape (given_on want a.shape) next.shape given.1 others.0) one.runs) others.1,
    )

list_runs : (setting : Setting) (locals : Locals) (place : Place) (s t : Shape) (cores : List Core) (ms : List Source.Meaning)
    → RunItems setting locals s cores ms
    → RunsAs setting locals (V.List s) (over place (K.List t) cores) (λ w. in_turn (each ms w) then group B.List)
list_runs setting locals place s t cores ms runs registers c wc ws d slots seen now good =
    let reach : Reach = reach_of setting registers c slots in
    let r = then_agree reach (AllFit setting.types c s) (Fits setting.types c (V.List s)) (in_turn (map (core_meaning wc) cores) now) (in_turn (each ms ws) now)
    (λ vs. gives (Val.List vs)) (group B.List) (runs registers c wc ws d slots seen now good)
    (λ vs later h good2. (
      refl,
      (form_has setting.types c (W.List vs) (S.List s) (Val.List vs) (V.List s) (Val.rolls-List vs) (V.rolls-List s) h, good2),
    )) in
    (ap (λ (q : Run Value Value). q now) (unrolled wc place 0 (K.List t) cores) ∙ r.0, r.1)

items_as : (es : List Elaborate) (ms : List Source.Meaning) (s : Shape) (cores : List Core) (setting : Setting) (locals : Locals)
    → AreRight setting locals es ms
    → (es ≡ [] → cores ≡ []) → RunItems setting locals s cores ms → RunItems setting locals (item_shape es s) cores ms
items_as [] [] s cores setting locals right empty runs =
    subst (λ cs. RunItems setting locals V.Hole cs []) (sym (empty refl)) (λ registers c wc ws d slots seen now good. (refl, (refl, good)))
items_as [] (m ∷ ms) s cores setting locals right empty runs = absurd right
items_as (e ∷ es) ms s cores setting locals right empty runs = runs

none_chained : (es : List Elaborate) (setting : Setting) (locals : Locals) (want : Shape) → es ≡ [] → (chained es setting locals want).cores ≡ []
none_chained es setting locals want h = ap (λ xs. (chained xs setting locals want).cores) h

pub list_right : (setting : Setting) (locals : Locals) (place : Place) (es : List Elaborate) (ms : List Source.Meaning) → AreRight setting locals es ms
    → IsRight setting locals (group_found place B.List es) (λ w. in_turn (each ms w) then group B.List)
list_right setting locals place es ms right want h =
    let item : Shape = list_want (out-Shape want) in
    let items : Chained = chained es setting locals item in
    let m : Source.Meaning = λ w. in_turn (each ms w) then group B.List in
    let k = both_empty items.faults _ h in
    let r = chained_right es ms item setting locals right k.0 in
    behind_right setting locals want items.faults _ m
    (settled_right setting locals place want (V.List (item_shape es items.shape)) (λ s. over place (K.List (list_want (out-Shape s))) items.cores) m k.1
    (λ t. list_runs setting locals place (item_shape es items.shape) (list_want (out-Shape t)) items.cores ms
    (items_as es ms items.shape items.cores setting locals right (none_chained es setting locals item) r.1)))
