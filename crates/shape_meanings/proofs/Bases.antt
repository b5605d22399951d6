-- Targets of which parts are assigned: names, parts of such, and `f(a)`; and what `f(a)` is as a target beside others.
use Rattle.std.proofs.Common.{◌≡◌, ◌⊎◌, inl, inr, ℕ, zero, suc, List, [], ◌∷◌, ◌++◌, map, length, ap, sym, ◌∙◌, refl, subst, Bool, true, false}
use Rattle.std.proofs.Common.{Option, Some, None}
use Rattle.std.proofs.Common.{arith, nat_eq, nat_lt, if◌then◌else◌}
use Rattle.std.proofs.lemmas.Bool.{and_parts}
use Rattle.sail_base.specs.declared.place.Place.{Place}
use Rattle.sail_types.specs.Named.{fields}
use Rattle.sail_types.specs.Rows.{row_members}
use Rattle.sail_types.specs.Shapes.{at, put, put_form, shape}
use Rattle.sail_types.specs.declared.members.Member.{Member}
use Rattle.sail_types.specs.declared.shapes.Shape.{Shape, Shape-F, out-Shape, roll-Shape}
use Rattle.sail_types.specs.declared.shapes.Shape.TheFolds.{map-Shape, ind-Shape}
use Rattle.sail_types.specs.declared.shapes.Shape.TheOpen as S
use Rattle.sail_types.specs.declared.shapes.Shape.TheVariants as V
use Rattle.sail_types.specs.declared.shapes.Shape.TheViews.{out-roll-Shape, roll-out-Shape}
use Rattle.sail_types.specs.declared.table.Field.{Field}
use Rattle.sail_types.specs.declared.table.Types.{Types}
use Rattle.sail_types.specs.declared.values.Value.{Value}
use Rattle.sail_syntax.specs.declared.name.Name.{Name}
use Rattle.sail_core.specs.Run.{Now, gives, ◌then◌}
use Rattle.sail_core.specs.Making as Core
use Rattle.shape_joins.specs.Filling.{fills, fill_form}
use Rattle.shape_joins.specs.Learning.{learn, learn_all, then_learn, holes}
use Rattle.shape_joins.proofs.Order.{no, two, tests, at_forms}
use Rattle.shape_joins.proofs.JoinsLeast.{some_same, none}
use Rattle.sail_meaning.specs.Text.{builtin}
use Rattle.sail_meaning.specs.Choice.{builtins}
use Rattle.sail_meaning.specs.World as Source
use Rattle.sail_meaning.specs.Targets as Written
use Rattle.sail_meaning.specs.Targets.{Suffix, name_spot, part_spot, ways_of}
use Rattle.sail_names.specs.declared.locals.Binding.{Binding}
use Rattle.sail_names.specs.declared.locals.Binding.TheVariants.{Constant, Variable}
use Rattle.sail_names.specs.declared.names.Global.{Global}
use Rattle.sail_names.specs.declared.names.Global.TheVariants as G
use Rattle.sail_names.specs.Known as Tables
use Rattle.sail_names.specs.Known.{is_assigned, is_assigned_as}
use Rattle.sail_names.specs.Locals as Bound
use Rattle.sail_names.specs.Locals.{binding_of}
use Rattle.shape_rules.specs.declared.callees.Candidate.{Candidate}
use Rattle.shape_rules.specs.declared.callees.Meant.{Meant}
use Rattle.shape_rules.specs.declared.callees.Meant.TheVariants as M
use Rattle.shape_rules.specs.declared.error.ShapeError.TheVariants as error
use Rattle.shape_rules.specs.declared.locals.Local.{Local}
use Rattle.shape_rules.specs.Findings.{ill_shaped}
use Rattle.shape_rules.specs.Scopes.{Setting, Locals, local_of, thrown_shape}
use Rattle.shape_rules.specs.Calls.{Elaborate, Args, args_found, Chosen, chosen, has_never, member_candidate, solved}
use Rattle.shape_rules.specs.Targets.{Part, elaborations, SuffixPart, field_part, at_part, InStruct, field_in, field_named, Led, led_form, led_index}
use Rattle.shape_rules.specs.Targets.{field_led, led_shape, base_faults, faults_of, suffix_found, suffix_place, walked, is_open_form, leaves_open}
use Rattle.shape_rules.specs.Targets.{open_faults}
use Rattle.shape_rules.specs.Targets.{Aimed, aimed_nowhere, callee_aimed, callee_counted, callees_of, call_aim, call_aimed, meant_aim, name_aimed}
use Rattle.shape_rules.specs.Targets.{one_of}
use Rattle.shape_rules.specs.Targets.{part_aimed, read_aimed, read_shape, read_with, unread, written_by}
use Rattle.shape_rules.specs.Values.{variables_of_type}
use Rattle.shape_rules.specs.Statements.{answer_faults, any_failed, chained_faults}
use Rattle.shape_meanings.specs.Whole.{Choice, IsSettled, all_below, below, below_form}
use Rattle.shape_meanings.specs.Counted.{counted, LocalsCounted, MeantCounted, Counts}
use Rattle.shape_meanings.specs.Keeping.{Fits, Reach, SeenAs, Good, reach_of}
use Rattle.shape_meanings.specs.Worlds.{Describes, FieldsBelow, ValueAs}
use Rattle.shape_meanings.specs.Naming.{AreBound, AreCallees, AreKnown, BoundAs, MeantAs}
use Rattle.shape_meanings.specs.Parts.{AreRight, SuffixesAre}
use Rattle.shape_meanings.specs.Sound.{VarsSettled}
use Rattle.shape_meanings.specs.Aims.{AimIs, BaseIs, Leads, PartAimIs}
use Rattle.shape_meanings.proofs.Orders.{at_below, belows, puts}
use Rattle.shape_meanings.proofs.Counting.{named_parts, same_length}
use Rattle.shape_meanings.proofs.Values.{opened_at, out_put}
use Rattle.shape_meanings.proofs.Learning.{at_holes, learnt_all}
use Rattle.shape_meanings.proofs.Runs.{agree_as, in_scope}
use Rattle.shape_meanings.proofs.Settling.{both_empty}
use Rattle.shape_meanings.proofs.Naming.{register_closed}
use Rattle.shape_meanings.proofs.Choosing.{is_taken}
use Rattle.shape_meanings.proofs.Openness.{form_below, is_never_form, is_tuple_form, known_below}
use Rattle.shape_meanings.proofs.Aims.{register_base, variable_base}
use Rattle.shape_meanings.proofs.PartAims.{part_aim, part_base}
use Rattle.shape_meanings.proofs.Callees.{StandsAlone, alone_called}
use Rattle.shape_meanings.proofs.Calling.{StandsOver, overload_called}
use Rattle.shape_meanings.proofs.Rows.{RowThere, row_is}
use Rattle.shape_meanings.proofs.CallAims.{AimsAs, call_meant, callee_aim, chosen_has, each_answers, over_aim, over_base}
use Rattle.shape_meanings.proofs.TargetCounts.{field_has, led_counted, only_one, walked_counts}
use Rattle.shape_meanings.proofs.CallCounts.{local_counted}

pub not_none : {A B : Type 0} {x : A} {xs : List A} → (x ∷ xs) ≡ [] → B
not_none e = absurd (empty e)
  where
    empty : {A : Type 0} {x : A} {xs : List A} → (x ∷ xs) ≡ [] → ⊥
    empty e = cc

true_false : {A : Type 0} → true ≡ false → A
true_false h = no (sym h)

-- ---- what a suffix leads to leaves nothing open

below_out : (n : ℕ) (s : Shape) → below n s ≡ below_form n (map-Shape Shape Bool (below n) (out-Shape s))
below_out n s = ap (below n) (sym (roll-out-Shape s)) ∙ belows n (out-Shape s)

bit_below : (n : ℕ) → below n V.Bit ≡ true
bit_below n = ap (below n) (sym V.rolls-Bit) ∙ belows n S.Bit

bits_below : (n : ℕ) → below n V.Bits ≡ true
bits_below n = ap (below n) (sym V.rolls-Bits) ∙ belows n S.Bits

-- what is put in the place of variables leaves nothing open
abbrev Under : Shape → Type 0
Under s = (k n : ℕ) (e : ℕ → Shape) → ((i : ℕ) → nat_lt i k ≡ true → below n (e i) ≡ true) → below k s ≡ true → below n (put e s) ≡ true

module _ where
  abbrev Such : Type 0
  Such = (s : Shape) × Under s

  abbrev shapes_of : List Such → List Shape
  shapes_of ys = map (λ (p : Such). p.0) ys

  abbrev form : Shape-F Such → Shape-F Shape
  form y = map-Shape Such Shape (λ p. p.0) y

  each_under : (ys : List Such) (k n : ℕ) (e : ℕ → Shape) → ((i : ℕ) → nat_lt i k ≡ true → below n (e i) ≡ true) → all_below k (shapes_of ys) ≡ true
      → all_below n (map (put e) (shapes_of ys)) ≡ true
  each_under [] k n e f h = refl
  each_under (y ∷ ys) k n e f h =
      let b = and_parts (below k y.0) (all_below k (shapes_of ys)) h in
      two (below n (put e y.0)) (all_below n (map (put e) (shapes_of ys))) (y.1 k n e f b.0) (each_under ys k n e f b.1)

  form_under : (y : Shape-F Such) (k n : ℕ) (e : ℕ → Shape) → ((i : ℕ) → nat_lt i k ≡ true → below n (e i) ≡ true)
      → below_form k (map-Shape Shape Bool (below k) (form y)) ≡ true → below n (put_form e (map-Shape Shape Shape (put e) (form y))) ≡ true
  form_under (S.List y) k n e f h = belows n (S.List (put e y.0)) ∙ y.1 k n e f h
  form_under (S.Vector y) k n e f h = belows n (S.Vector (put e y.0)) ∙ y.1 k n e f h
  form_under (S.Tuple ys) k n e f h = belows n (S.Tuple (map (put e) (shapes_of ys))) ∙ each_under ys k n e f h
  form_under (S.Named i ys) k n e f h = belows n (S.Named i (map (put e) (shapes_of ys))) ∙ each_under ys k n e f h
  form_under (S.Variable i) k n e f h = f i h
  form_under S.Unit k n e f h = belows n S.Unit
  form_under S.Bool k n e f h = belows n S.Bool
  form_under S.Bit k n e f h = belows n S.Bit
  form_under S.Bits k n e f h = belows n S.Bits
  form_under S.Int k n e f h = belows n S.Int
  form_under S.String k n e f h = belows n S.String
  form_under S.Hole k n e f h = no h
  form_under S.Never k n e f h = no h

  rolled_under : (y : Shape-F Such) → Under (roll-Shape (form y))
  rolled_under y k n e f h = ap (below n) (puts e (form y)) ∙ form_under y k n e f (sym (belows k (form y)) ∙ h)

  under : (s : Shape) → Under s
  under = ind-Shape Under (λ e y is. subst (λ d. Under (roll-Shape d)) is (rolled_under y))

pub at_place : (n : ℕ) (ss : List Shape) (i : ℕ) → all_below n ss ≡ true → nat_lt i (length ss) ≡ true → below n (at ss i) ≡ true
at_place n [] i all h = absurd (none_less i h)
  where
    none_less : (i : ℕ) → nat_lt i zero ≡ true → ⊥
    none_less i h = grind (arith, h)
at_place n (s ∷ ss) zero all h = (and_parts (below n s) (all_below n ss) all).0
at_place n (s ∷ ss) (suc i) all h = at_place n ss i (and_parts (below n s) (all_below n ss) all).1 (one_less i (length ss) h)
  where
    one_less : (i k : ℕ) → nat_lt (suc i) (suc k) ≡ true → nat_lt i k ≡ true
    one_less i k h = grind (arith, h)

same_less : (i k m : ℕ) → nat_eq m k ≡ true → nat_lt i k ≡ true → nat_lt i m ≡ true
same_less i k m same h = grind (arith, same, h)

field_below : (setting : Setting) (i : ℕ) (n : ℕ) (ss : List Shape) (name : List ℕ) (o : Option (List Field)) (led : Led) → FieldsBelow setting i o
    → nat_eq (length ss) (variables_of_type setting i) ≡ true → all_below n ss ≡ true → field_led i ss (field_in name o) ≡ Some led
    → below n led.shape ≡ true
field_below setting i n ss name None led b many all e = none e
field_below setting i n ss name (Some fs) led b many all e = by_field (field_named name fs) refl e
  where
    by_field : (p : Option InStruct) → field_named name fs ≡ p → field_led i ss p ≡ Some led → below n led.shape ≡ true
    by_field None is e = none e
    by_field (Some g) is e =
        subst (λ (l : Led). below n l.shape ≡ true) (some_same _ led e)
        (under (shape g.typ) (variables_of_type setting i) n (at ss)
        (λ j h. at_place n ss j all (same_less j (variables_of_type setting i) (length ss) many h))
        (field_has (below (variables_of_type setting i)) name fs g b is))

led_below : (setting : Setting) (registers : List Shape) (wc : Core.World Value) (ws : Source.World) → Describes setting registers wc ws
    → (x : SuffixPart) (n : ℕ) (s : Shape) (y : Shape-F Shape) (led : Led) → out-Shape s ≡ y → below n s ≡ true → counted setting.types s ≡ true
    → led_form setting x y ≡ Some led → below n led.shape ≡ true
led_below setting registers wc ws d (field_part name) n s (S.Named i ss) led is b fine e =
    let k = named_parts setting.types s i ss is fine in
    field_below setting i n ss name.text (fields setting.types i) led (d.fields_below i) k.0
    (sym (below_out n s ∙ ap (λ x. below_form n (map-Shape Shape Bool (below n) x)) is) ∙ b) e
led_below setting registers wc ws d (field_part name) n s y led is b fine e = none e
led_below setting registers wc ws d (at_part place index) n s y led is b fine e =
    by_last index.last y e (sym (below_out n s ∙ ap (λ x. below_form n (map-Shape Shape Bool (below n) x)) is) ∙ b)
  where
    by_last : (last : Option Part) (y : Shape-F Shape) → led_index last y ≡ Some led → below_form n (map-Shape Shape Bool (below n) y) ≡ true
        → below n led.shape ≡ true
    by_last None S.Bits is h = subst (λ (l : Led). below n l.shape ≡ true) (some_same _ led is) (bit_below n)
    by_last None (S.Vector s) is h = subst (λ (l : Led). below n l.shape ≡ true) (some_same _ led is) h
    by_last (Some low) S.Bits is h = subst (λ (l : Led). below n l.shape ≡ true) (some_same _ led is) (bits_below n)
    by_last last y is h = none is

pub not_open : (n : ℕ) (y : Shape-F Shape) → below_form n (map-Shape Shape Bool (below n) y) ≡ true → is_open_form y ≡ false
not_open n S.Hole h = no h
not_open n S.Never h = no h
not_open n y h = refl

no_fault : {A : Type 0} (place : Place) (b : Bool) → b ≡ false → (if b then [] else ill_shaped place ∷ []) ≡ [] → A
no_fault place true h e = true_false h
no_fault place false h e = not_none e

suffixes_lead : (xs : List SuffixPart) (setting : Setting) (registers : List Shape) (wc : Core.World Value) (ws : Source.World)
    → Describes setting registers wc ws → Counts setting → (locals : Locals) (first base : Place) (s : Shape) (n : ℕ) → below n s ≡ true
    → counted setting.types s ≡ true → (walked xs setting locals first base s).faults ≡ []
    → Leads xs setting s × (below n (walked xs setting locals first base s).shape ≡ true)
suffixes_lead [] setting registers wc ws d c locals first base s n h fine e = (tt, h)
suffixes_lead (x ∷ xs) setting registers wc ws d c locals first base s n h fine e =
    let o : Option Led = led_form setting x (out-Shape s) in
    let found = suffix_found x setting locals in
    let more = walked xs setting locals first (suffix_place first x) (led_shape o) in
    let k = both_empty (base_faults base s o ++ faults_of found) more.faults e in
    by_led o refl (both_empty (base_faults base s o) (faults_of found) k.0).0
    (λ b fine2. suffixes_lead xs setting registers wc ws d c locals first (suffix_place first x) (led_shape o) n b fine2 k.1)
  where
    by_led : (o : Option Led) → led_form setting x (out-Shape s) ≡ o → base_faults base s o ≡ []
        → (below n (led_shape o) ≡ true → counted setting.types (led_shape o) ≡ true → Leads xs setting (led_shape o)
        × (below n (walked xs setting locals first (suffix_place first x) (led_shape o)).shape ≡ true))
        → ((led : Led) × (led_form setting x (out-Shape s) ≡ Some led) × Leads xs setting led.shape)
        × (below n (walked xs setting locals first (suffix_place first x) (led_shape o)).shape ≡ true)
    by_led None is f others = no_fault base (is_open_form (out-Shape s)) (not_open n (out-Shape s) (sym (below_out n s) ∙ h)) f
    by_led (Some led) is f others =
        let led_fine = subst (λ o. counted setting.types (led_shape o) ≡ true) is (led_counted setting c x s (out-Shape s) refl fine) in
        let b = others (led_below setting registers wc ws d x n s (out-Shape s) led refl h fine is) led_fine in
        ((led, is, b.0), b.1)

-- ---- targets of which parts are assigned

-- wherever it is read, what is there leaves nothing open
abbrev pub KnownThere : Setting → Locals → Shape → Type 0
KnownThere setting locals s =
    (registers : List Shape) (c : Choice) (wc : Core.World Value) (ws : Source.World) → Describes setting registers wc ws
    → (slots : List Local) → SeenAs slots locals → (now : Now Value) → Good (reach_of setting registers c slots) now → (n : ℕ) × (below n s ≡ true)

-- such a base, or a tuple, which has no part
abbrev pub BaseHolds : Setting → Locals → Aimed → Written.Target → Type 0
BaseHolds setting locals b m =
    (BaseIs setting locals b m × (counted setting.types b.shape ≡ true) × KnownThere setting locals b.shape) ⊎ (is_tuple_form (out-Shape b.shape) ≡ true)

abbrev part_meant : Written.Target → List Suffix → Written.Target
part_meant mb ms w = mb w then λ spot. ways_of ms w then λ ways. gives (part_spot spot ways)

pub no_part : (setting : Setting) (x : SuffixPart) (y : Shape-F Shape) → is_tuple_form y ≡ true → (led_form setting x y ≡ None) × (is_open_form y ≡ false)
no_part setting (field_part name) (S.Tuple ss) h = (refl, refl)
no_part setting (at_part place index) (S.Tuple ss) h = (by_last index.last, refl)
  where
    by_last : (last : Option Part) → led_index last (S.Tuple ss) ≡ None
    by_last None = refl
    by_last (Some low) = refl
no_part setting x y h = no h

pub tuple_fails : {A : Type 0} (setting : Setting) (locals : Locals) (first base : Place) (x : SuffixPart) (xs : List SuffixPart) (s : Shape)
    → is_tuple_form (out-Shape s) ≡ true → (walked (x ∷ xs) setting locals first base s).faults ≡ [] → A
tuple_fails setting locals first base x xs s h e =
    let o : Option Led = led_form setting x (out-Shape s) in
    let found = suffix_found x setting locals in
    let k = both_empty (base_faults base s o ++ faults_of found) _ e in
    let p = no_part setting x (out-Shape s) h in
    no_fault base (is_open_form (out-Shape s)) p.1
    (sym (ap (base_faults base s) p.0) ∙ (both_empty (base_faults base s o) (faults_of found) k.0).0)

pub part_holds : (setting : Setting) (locals : Locals) → Counts setting → (place first at_base : Place) (b : Aimed) (x : SuffixPart) (xs : List SuffixPart)
    (mb : Written.Target) (ms : List Suffix) → BaseHolds setting locals b mb → SuffixesAre setting locals (x ∷ xs) ms
    → (walked (x ∷ xs) setting locals first at_base b.shape).faults ≡ []
    → AimIs setting locals (part_aimed place b (walked (x ∷ xs) setting locals first at_base b.shape)) (part_meant mb ms)
    × BaseHolds setting locals (part_aimed place b (walked (x ∷ xs) setting locals first at_base b.shape)) (part_meant mb ms)
part_holds setting locals c place first at_base b x xs mb ms (inr tuple) are e = tuple_fails setting locals first at_base x xs b.shape tuple e
part_holds setting locals c place first at_base b x xs mb ms (inl base) are e = (
  λ registers ch wc ws d slots seen t rest kc km next now good.
      let n = base.2 registers ch wc ws d slots seen now good in
      let l = suffixes_lead (x ∷ xs) setting registers wc ws d c locals first at_base b.shape n.0 n.1 base.1 e in
      part_aim setting locals place first at_base b (x ∷ xs) mb ms n.0 base.0 are l.0 l.1 e registers ch wc ws d slots seen t rest kc km next now good,
  inl (
    λ registers ch wc ws d slots seen t rest kc km next now good.
        let n = base.2 registers ch wc ws d slots seen now good in
        let l = suffixes_lead (x ∷ xs) setting registers wc ws d c locals first at_base b.shape n.0 n.1 base.1 e in
        part_base setting locals place first at_base b (x ∷ xs) mb ms base.0 are l.0 e registers ch wc ws d slots seen t rest kc km next now good,
    walked_counts setting c (x ∷ xs) locals first at_base b.shape base.1,
    λ registers ch wc ws d slots seen now good.
        let n = base.2 registers ch wc ws d slots seen now good in
        (n.0, (suffixes_lead (x ∷ xs) setting registers wc ws d c locals first at_base b.shape n.0 n.1 base.1 e).1),
  ),
)

-- ---- names

variable_known : (setting : Setting) (locals : Locals) (name : List ℕ) (l : Local) → local_of name locals ≡ Some l → IsSettled setting.types l.shape
    → KnownThere setting locals l.shape
variable_known setting locals name l there (inl n) registers c wc ws d slots seen now good = n
variable_known setting locals name l there (inr none_fits) registers c wc ws d slots seen now good =
    let v = in_scope setting.types c slots now.locals name l good.locals (seen name ∙ there) in
    true_false (sym v.2 ∙ none_fits c v.0)

named_base : (setting : Setting) (names : Tables.Setting) (locals : Locals) → VarsSettled setting locals → LocalsCounted setting.types locals
    → (name : Name) (ol : Option Local) (ob : Option Binding) (g : Option Global) (meant : Option Meant)
    → local_of name.text locals ≡ ol → BoundAs ob ol → is_assigned_as ob g ≡ true → MeantAs names g meant → setting.value name.text ≡ meant
    → MeantCounted setting.types meant → BaseHolds setting locals (name_aimed name ol meant) (λ w. gives (name_spot w name.text))
named_base setting names locals settled fine name (Some l) (Some Variable) g meant there bound h m is c =
    inl (
      variable_base setting locals name l meant there (settled name.text l there bound),
      local_counted setting.types locals name.text l fine there,
      variable_known setting locals name.text l there (settled name.text l there bound),
    )
named_base setting names locals settled fine name (Some l) (Some Constant) g meant there bound h m is c = no h
named_base setting names locals settled fine name (Some l) None g meant there bound h m is c = absurd bound
named_base setting names locals settled fine name None (Some Variable) g meant there bound h m is c = absurd bound
named_base setting names locals settled fine name None (Some Constant) g meant there bound h m is c = absurd bound
named_base setting names locals settled fine name None None (Some G.Register) meant there bound h m is c =
    subst (λ x. BaseHolds setting locals (name_aimed name None x) (λ w. gives (name_spot w name.text))) (sym m.2)
    (inl (
      register_base setting locals name m.0 m.1 there (is ∙ m.2),
      subst (MeantCounted setting.types) m.2 c,
      λ registers ch wc ws d slots seen now good.
          let kept = subst (ValueAs setting registers wc ws name.text) (is ∙ m.2) (d.values name.text) in
          (0, register_closed registers m.0 m.1 d.closed_registers kept.2),
    ))
named_base setting names locals settled fine name None None g meant there bound h m is c = no h

pub name_base : (setting : Setting) (names : Tables.Setting) (locals : Locals) (bound : Bound.Locals) → AreKnown setting names → AreBound bound locals
    → VarsSettled setting locals → LocalsCounted setting.types locals → (name : Name) → is_assigned names bound name.text ≡ true
    → BaseHolds setting locals (name_aimed name (local_of name.text locals) (setting.value name.text)) (λ w. gives (name_spot w name.text))
name_base setting names locals bound known are settled fine name h =
    named_base setting names locals settled fine name (local_of name.text locals) (binding_of name.text bound) (names.known.value name.text)
    (setting.value name.text) refl (are name.text) h (known.values name.text) refl (known.counts.values name.text)

-- ---- what a name stands for in calls

members_alone : (setting : Setting) (name : List ℕ) (ms : List Member) (f : Candidate) (row : _) → RowThere setting name ms
    → one_of (Some (M.Row row)) (map member_candidate ms) ≡ Some f → StandsAlone setting name f
members_alone setting name [] f row there e = none e
members_alone setting name (m ∷ []) f row there e =
    subst (StandsAlone setting name) (same (member_candidate m) f e) (λ registers wc ws d.
    let t = there registers wc ws d in
    (builtin m.row m.params, t.0, t.1.0))
  where
    same : (x y : Candidate) → Some x ≡ Some y → x ≡ y
    same x y e = cc
members_alone setting name (m ∷ n ∷ ms) f row there e = none e

alone_there : (setting : Setting) (name : List ℕ) (meant : Option Meant) (f : Candidate) → setting.value name ≡ meant
    → one_of meant (callees_of setting.types meant) ≡ Some f → StandsAlone setting name f
alone_there setting name (Some (M.Callee g)) f is e =
    subst (StandsAlone setting name) (same g f e) (λ registers wc ws d. alone_called setting registers wc ws d name g is)
  where
    same : (x y : Candidate) → Some x ≡ Some y → x ≡ y
    same x y e = cc
alone_there setting name (Some (M.Row row)) f is e =
    members_alone setting name (row_members setting.types row) f row (row_is setting name row is) e
alone_there setting name (Some (M.Overload fs)) f is e = none e
alone_there setting name (Some (M.Register r s)) f is e = none e
alone_there setting name (Some (M.Let i s)) f is e = none e
alone_there setting name (Some (M.Member i k)) f is e = none e
alone_there setting name (Some (M.Mapping m)) f is e = none e
alone_there setting name None f is e = none e

members_over : (setting : Setting) (name : List ℕ) (ms : List Member) (row : _) → RowThere setting name ms
    → one_of (Some (M.Row row)) (map member_candidate ms) ≡ None
    → StandsOver setting name (map member_candidate ms) ⊎ (map member_candidate ms ≡ [])
members_over setting name [] row there e = inr refl
members_over setting name (m ∷ []) row there e = none (sym e)
members_over setting name (m ∷ n ∷ ms) row there e =
    inl (λ registers wc ws d. let t = there registers wc ws d in (builtins (m ∷ n ∷ ms), t.0, t.1, t.2))

over_there : (setting : Setting) (name : List ℕ) (meant : Option Meant) → setting.value name ≡ meant
    → one_of meant (callees_of setting.types meant) ≡ None
    → StandsOver setting name (callees_of setting.types meant) ⊎ (callees_of setting.types meant ≡ [])
over_there setting name (Some (M.Callee g)) is e = none (sym e)
over_there setting name (Some (M.Row row)) is e = members_over setting name (row_members setting.types row) row (row_is setting name row is) e
over_there setting name (Some (M.Overload fs)) is e = inl (λ registers wc ws d. overload_called setting registers wc ws d name fs is)
over_there setting name (Some (M.Register r s)) is e = inr refl
over_there setting name (Some (M.Let i s)) is e = inr refl
over_there setting name (Some (M.Member i k)) is e = inr refl
over_there setting name (Some (M.Mapping m)) is e = inr refl
over_there setting name None is e = inr refl

-- ---- `f(a)` beside others

-- what is known of an answer in each part
pub chained_known : (types : Types) (place : Place) (a : Aimed) → chained_faults place a ≡ [] → (a.faults ≡ []) × ((n : ℕ) × (below n a.answer ≡ true))
chained_known types place a e =
    let h = both_empty (answer_faults place (any_failed a.faults) a.answer) a.faults e in
    (h.1, by_never (has_never a.answer) refl (sym (ap (λ es. answer_faults place (any_failed es) a.answer) h.1) ∙ h.0))
  where
    by_open : (b : Bool) → leaves_open a.answer ≡ b → has_never a.answer ≡ false → (if b then ill_shaped place ∷ [] else []) ≡ []
        → (n : ℕ) × (below n a.answer ≡ true)
    by_open true is never e = not_none e
    by_open false is never e = known_below types a.answer is never

    by_never : (b : Bool) → has_never a.answer ≡ b → (if b then ill_shaped place ∷ [] else open_faults place a.answer) ≡ []
        → (n : ℕ) × (below n a.answer ≡ true)
    by_never true is e = not_none e
    by_never false is e = by_open (leaves_open a.answer) refl is e

pub as_aim : (setting : Setting) (locals : Locals) (a : Aimed) (m : Written.Target) (n : ℕ) → below n a.answer ≡ true → AimsAs setting locals n a m
    → AimIs setting locals a m
as_aim setting locals a m n b aim registers c wc ws d slots seen t rest kc km next now good =
    let reach : Reach = reach_of setting registers c slots in
    aim registers c wc ws d slots seen t rest kc km
    (λ x y alike. next x y (λ s above v fit here good2.
    agree_as reach (λ u. below n a.answer ≡ true → Fits setting.types c a.answer u) (Fits setting.types c a.answer) (x.write v here) (y.write v here)
    (λ u h. h b) (alike s above v fit here good2))) now good

pub as_tuple_part : (setting : Setting) (locals : Locals) (a : Aimed) (m : Written.Target) (n : ℕ) → AimsAs setting locals n a m
    → PartAimIs setting locals a m
as_tuple_part setting locals a m n aim registers c wc ws d slots seen t rest kc km next now good =
    let reach : Reach = reach_of setting registers c slots in
    aim registers c wc ws d slots seen t rest kc km
    (λ x y alike. next x y (λ s above v fit here good2.
    agree_as reach (λ u. below n a.answer ≡ true → Fits setting.types c a.answer u) (λ u. Unit {0}) (x.write v here) (y.write v here)
    (λ u h. tt) (alike s above v fit here good2))) now good

learnt_length : (ps ss known later : List Shape) → learn_all (map learn ps) ss known ≡ Some later → length ps ≡ length ss
learnt_length [] [] known later e = refl
learnt_length [] (s ∷ ss) known later e = none e
learnt_length (p ∷ ps) [] known later e = none e
learnt_length (p ∷ ps) (s ∷ ss) known later e = by_learnt (learn p s known) e (λ middle is. learnt_length ps ss middle later is)
  where
    by_learnt : (o : Option (List Shape)) → then_learn o (learn_all (map learn ps) ss) ≡ Some later
        → ((middle : List Shape) → learn_all (map learn ps) ss middle ≡ Some later → length ps ≡ length ss) → length (p ∷ ps) ≡ length (s ∷ ss)
    by_learnt None e others = none e
    by_learnt (Some middle) e others = ap suc (others middle e)

shapes_length : (es : List Elaborate) (setting : Setting) (locals : Locals) → length (args_found es setting locals).shapes ≡ length es
shapes_length [] setting locals = refl
shapes_length (e ∷ es) setting locals = ap suc (shapes_length es setting locals)

not_more : {A : Type 0} (n k : ℕ) → nat_eq n (suc k) ≡ true → n ≡ k → A
not_more n k h e = absurd (different n k h e)
  where
    different : (n k : ℕ) → nat_eq n (suc k) ≡ true → n ≡ k → ⊥
    different n k h e = grind (arith, h, e)

-- an answer that leaves nothing open has values, whatever its variables come to
put_not_never : (n : ℕ) (answer : Shape) (e : ℕ → Shape) → below n answer ≡ true → ((i : ℕ) → fills V.Hole (e i) ≡ true)
    → is_never_form (out-Shape (put e answer)) ≡ false
put_not_never n answer e b above = ap is_never_form (out_put e answer) ∙ by_form (out-Shape answer) (sym (below_out n answer) ∙ b)
  where
    by_hole : (z : Shape-F Shape) → fill_form (tests S.Hole) z ≡ true → is_never_form z ≡ false
    by_hole S.Never h = no h
    by_hole z h = refl

    by_form : (y : Shape-F Shape) → below_form n (map-Shape Shape Bool (below n) y) ≡ true → is_never_form (opened_at e y) ≡ false
    by_form (S.Variable i) h =
        by_hole (out-Shape (e i))
        (ap (λ x. fill_form (tests x) (out-Shape (e i))) (sym (ap out-Shape (sym V.rolls-Hole) ∙ out-roll-Shape S.Hole)) ∙ sym (at_forms V.Hole (e i))
        ∙ above i)
    by_form S.Hole h = no h
    by_form S.Never h = no h
    by_form y h = refl

module _ (setting : Setting) (locals : Locals) (name : Name) (args : List Part) (ms : List Source.Meaning)
    (right : AreRight setting locals (elaborations args) ms) where
  abbrev found : Args
  found = args_found (elaborations args) setting locals

  meant_aims : (n : ℕ) (meant : Option Meant) → setting.value name.text ≡ meant → (o : Option Candidate)
      → one_of meant (callees_of setting.types meant) ≡ o → AreCallees (callees_of setting.types meant)
      → (meant_aim name args (callees_of setting.types meant) o setting locals).faults ≡ []
      → AimsAs setting locals n (meant_aim name args (callees_of setting.types meant) o setting locals) (call_meant name ms)
  meant_aims n meant is (Some f) one called e = by_count (nat_eq (length f.params) (suc (length args))) refl e
    where
      by_count : (b : Bool) → nat_eq (length f.params) (suc (length args)) ≡ b
          → (if b then callee_aimed name f (length args) (solved (elaborations args) setting locals f.params (holes f.variables))
          else aimed_nowhere name.place (error.Arity name.place (length f.params) (suc (length args)) ∷ [])).faults ≡ []
          → AimsAs setting locals n
          (if b then callee_aimed name f (length args) (solved (elaborations args) setting locals f.params (holes f.variables))
          else aimed_nowhere name.place (error.Arity name.place (length f.params) (suc (length args)) ∷ [])) (call_meant name ms)
      by_count true many e =
          callee_aim setting locals name f (elaborations args) ms n (length args) (alone_there setting name.text meant f is one)
          (subst AreCallees (only_one meant (callees_of setting.types meant) f one) called).0 right (sym (same_length (λ (a : Part). a.elaborate) args))
          (same_count (length f.params) (length args) many ∙ ap suc (sym (same_length (λ (a : Part). a.elaborate) args))) e
        where
          same_count : (n k : ℕ) → nat_eq n (suc k) ≡ true → n ≡ suc k
          same_count n k h = grind (arith, h)
      by_count false many e = not_none e
  meant_aims n meant is None one called e = by_name (over_there setting name.text meant is one)
    where
      fs : List Candidate
      fs = callees_of setting.types meant

      by_name : StandsOver setting name.text fs ⊎ (fs ≡ [])
          → AimsAs setting locals n (meant_aim name args (callees_of setting.types meant) None setting locals) (call_meant name ms)
      by_name (inl there) =
          over_aim setting locals name fs (elaborations args) ms n (chosen fs found.shapes) (chosen fs (found.shapes ++ V.Never ∷ [])) there called right refl e
      by_name (inr empty) =
          not_none (both_empty found.faults _
          (ap (λ gs. (call_aimed name found.faults found (chosen gs found.shapes) (chosen gs (found.shapes ++ V.Never ∷ []))).faults) (sym empty) ∙ e)).1

  pub call_aims : (n : ℕ) → AreCallees (callees_of setting.types (setting.value name.text)) → (call_aim name args setting locals).faults ≡ []
      → AimsAs setting locals n (call_aim name args setting locals) (call_meant name ms)
  call_aims n called e =
      let meant = setting.value name.text in
      meant_aims n meant refl (one_of meant (callees_of setting.types meant)) refl called e

  -- ---- as a base

  abbrev base_of : Option Meant → Option Candidate → Option Chosen → Aimed
  base_of meant o reader =
      read_with name (length args) o reader
      (written_by name (callees_of setting.types meant) found reader o (meant_aim name args (callees_of setting.types meant) o setting locals))

  -- one callee can't be called with two counts
  one_fails : (meant : Option Meant) (f : Candidate) (reader : Option Chosen) → one_of meant (callees_of setting.types meant) ≡ Some f
      → chosen (callees_of setting.types meant) found.shapes ≡ reader → (base_of meant (Some f) reader).faults ≡ [] → ⊥
  one_fails meant f reader one is e =
      let first = (callee_counted name f args setting locals).faults in
      let h = both_empty (first ++ unread name (length args) (Some f) reader) (open_faults name.place (read_shape reader)) e in
      let k = both_empty first (unread name (length args) (Some f) reader) h.0 in
      by_count (nat_eq (length f.params) (suc (length args))) refl k.0 (by_reader reader is k.1)
    where
      by_reader : (reader : Option Chosen) → chosen (callees_of setting.types meant) found.shapes ≡ reader
          → unread name (length args) (Some f) reader ≡ [] → length f.params ≡ length args
      by_reader (Some x) is e =
          let only : callees_of setting.types meant ≡ (f ∷ []) = only_one meant (callees_of setting.types meant) f one in
          let same : chosen (f ∷ []) found.shapes ≡ Some x = ap (λ gs. chosen gs found.shapes) (sym only) ∙ is in
          let member = chosen_has (λ g. g ≡ f) (f ∷ []) found.shapes x (refl, tt) same in
          ap (λ (g : Candidate). length g.params) (sym member)
          ∙ learnt_length x.candidate.params found.shapes (holes x.candidate.variables) x.known (is_taken (f ∷ []) found.shapes x same)
          ∙ shapes_length (elaborations args) setting locals ∙ same_length (λ (a : Part). a.elaborate) args
      by_reader None is e = by_arity (nat_eq (length f.params) (length args)) refl e
        where
          by_arity : (b : Bool) → nat_eq (length f.params) (length args) ≡ b
              → (if b then [] else error.Arity name.place (length f.params) (length args) ∷ []) ≡ [] → length f.params ≡ length args
          by_arity true h e = same_count (length f.params) (length args) h
            where
              same_count : (n k : ℕ) → nat_eq n k ≡ true → n ≡ k
              same_count n k h = grind (arith, h)
          by_arity false h e = not_none e

      by_count : (b : Bool) → nat_eq (length f.params) (suc (length args)) ≡ b
          → (if b then callee_aimed name f (length args) (solved (elaborations args) setting locals f.params (holes f.variables))
          else aimed_nowhere name.place (error.Arity name.place (length f.params) (suc (length args)) ∷ [])).faults ≡ []
          → length f.params ≡ length args → ⊥
      by_count true many e same = not_more (length f.params) (length args) many same
      by_count false many e same = not_none e

  not_open_faults : (place : Place) (s : Shape) (b : Bool) → leaves_open s ≡ b → (if b then ill_shaped place ∷ [] else []) ≡ [] → leaves_open s ≡ false
  not_open_faults place s true is e = not_none e
  not_open_faults place s false is e = is

  -- a base that a member reads and another one writes
  over_holds : (meant : Option Meant) (x w : Chosen) → StandsOver setting name.text (callees_of setting.types meant)
      → AreCallees (callees_of setting.types meant) → found.faults ≡ [] → chosen (callees_of setting.types meant) found.shapes ≡ Some x
      → chosen (callees_of setting.types meant) (found.shapes ++ put (at x.known) x.candidate.answer ∷ []) ≡ Some w
      → leaves_open (put (at x.known) x.candidate.answer) ≡ false → counted setting.types (put (at x.known) x.candidate.answer) ≡ true
      → (b : Aimed) → b ≡ read_with name (length args) None (Some x) (call_aimed name found.faults found (Some x) (Some w))
      → BaseHolds setting locals b (call_meant name ms)
  over_holds meant x w there called e reads writes whole fine b is =
      subst (λ y. BaseHolds setting locals y (call_meant name ms)) (sym is) (by_form (is_tuple_form (out-Shape s)) refl)
    where
      fs : List Candidate
      fs = callees_of setting.types meant

      s : Shape
      s = put (at x.known) x.candidate.answer

      a : Aimed
      a = read_with name (length args) None (Some x) (call_aimed name found.faults found (Some x) (Some w))

      by_form : (t : Bool) → is_tuple_form (out-Shape s) ≡ t → BaseHolds setting locals a (call_meant name ms)
      by_form true h = inr h
      by_form false h =
          inl (
            over_base setting locals name fs (elaborations args) ms x w a there called right e reads writes refl refl refl refl,
            fine,
            λ registers c wc ws d slots seen now good.
                let o = there registers wc ws d in
                let f : Candidate = x.candidate in
                let bounded = chosen_has (λ g. below g.variables g.answer ≡ true) fs found.shapes x
                (each_answers setting.types registers (thrown_shape setting) wc d.apply fs o.0 o.2) reads in
                let learnt = learnt_all f.params found.shapes (holes f.variables) x.known (is_taken fs found.shapes x reads) in
                form_below setting.types s (out-Shape s) refl whole h
                (put_not_never f.variables f.answer (at x.known) bounded
                (λ i. ap (λ t. fills t (at x.known i)) (sym (at_holes f.variables i)) ∙ at_below (holes f.variables) x.known learnt.0 i)),
          )

  base_holds : (meant : Option Meant) → setting.value name.text ≡ meant → (o : Option Candidate) (reader : Option Chosen)
      → one_of meant (callees_of setting.types meant) ≡ o → chosen (callees_of setting.types meant) found.shapes ≡ reader
      → AreCallees (callees_of setting.types meant) → counted setting.types (read_shape reader) ≡ true
      → (base_of meant o reader).faults ≡ [] → BaseHolds setting locals (base_of meant o reader) (call_meant name ms)
  base_holds meant is (Some f) reader one reads called fine e = absurd (one_fails meant f reader one reads e)
  base_holds meant is None None one reads called fine e =
      let first = (written_by name (callees_of setting.types meant) found None None
      (meant_aim name args (callees_of setting.types meant) None setting locals)).faults in
      let h = both_empty (first ++ unread name (length args) None None) (open_faults name.place (read_shape None)) e in
      not_none (both_empty first (unread name (length args) None None) h.0).1
  base_holds meant is None (Some x) one reads called fine e =
      by_name (over_there setting name.text meant is one)
    where
      fs : List Candidate
      fs = callees_of setting.types meant

      by_writer : (w : Option Chosen) → chosen fs (found.shapes ++ put (at x.known) x.candidate.answer ∷ []) ≡ w → StandsOver setting name.text fs
          → (read_with name (length args) None (Some x) (call_aimed name found.faults found (Some x) w)).faults ≡ []
          → BaseHolds setting locals (read_with name (length args) None (Some x) (call_aimed name found.faults found (Some x) w)) (call_meant name ms)
      by_writer None writes there e =
          let first = found.faults ++ error.NoMember name.place name.text ∷ [] in
          let h = both_empty (first ++ []) (open_faults name.place (read_shape (Some x))) e in
          not_none (both_empty found.faults (error.NoMember name.place name.text ∷ []) (both_empty first [] h.0).0).1
      by_writer (Some w) writes there e =
          let h = both_empty (found.faults ++ []) (open_faults name.place (read_shape (Some x))) e in
          over_holds meant x w there called (both_empty found.faults [] h.0).0 reads writes
          (not_open_faults name.place (read_shape (Some x)) (leaves_open (read_shape (Some x))) refl h.1) fine _ refl

      by_name : StandsOver setting name.text fs ⊎ (fs ≡ []) → BaseHolds setting locals (base_of meant None (Some x)) (call_meant name ms)
      by_name (inl there) = by_writer (chosen fs (found.shapes ++ put (at x.known) x.candidate.answer ∷ [])) refl there e
      by_name (inr empty) = none (ap (λ gs. chosen gs found.shapes) (sym empty) ∙ reads)

  pub call_base : AreCallees (callees_of setting.types (setting.value name.text))
      → counted setting.types (read_aimed (Some (name, args)) setting locals (call_aim name args setting locals)).shape ≡ true
      → (read_aimed (Some (name, args)) setting locals (call_aim name args setting locals)).faults ≡ []
      → BaseHolds setting locals (read_aimed (Some (name, args)) setting locals (call_aim name args setting locals)) (call_meant name ms)
  call_base called fine e =
      let meant = setting.value name.text in
      base_holds meant refl (one_of meant (callees_of setting.types meant)) (chosen (callees_of setting.types meant) found.shapes) refl refl called fine e
