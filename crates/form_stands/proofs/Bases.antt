-- Bases of which parts are assigned: wherever they are read, their shapes leave nothing open, and so do those of their parts.
use Rattle.std.proofs.Common.{◌≡◌, ◌⊎◌, ℕ, Bool, true, false, List, [], ◌∷◌, ◌++◌, append_assoc, length, map, ap, sym, ◌∙◌, refl}
use Rattle.std.proofs.Common.{subst, nat_eq, nat_lt, arith, Option, Some, None, if◌then◌else◌}
use Rattle.std.proofs.lemmas.Bool.{and_parts}
use Rattle.sail_base.specs.declared.place.Place.{Place}
use Rattle.sail_types.specs.Named.{fields}
use Rattle.sail_types.specs.Shapes.{at, put, put_form, shape}
use Rattle.sail_types.specs.declared.shapes.Shape.{Shape, Shape-F, out-Shape, roll-Shape}
use Rattle.sail_types.specs.declared.shapes.Shape.TheFolds.{ind-Shape, map-Shape}
use Rattle.sail_types.specs.declared.shapes.Shape.TheOpen as S
use Rattle.sail_types.specs.declared.shapes.Shape.TheVariants as V
use Rattle.sail_types.specs.declared.shapes.Shape.TheViews.{roll-out-Shape}
use Rattle.sail_types.specs.declared.table.Field.{Field}
use Rattle.sail_types.specs.declared.values.Value.{Value}
use Rattle.sail_core.specs.declared.tree.Core.{Core}
use Rattle.sail_core.specs.Making.{World}
use Rattle.shape_joins.proofs.JoinsLeast.{none, some_same}
use Rattle.shape_joins.proofs.Order.{no, two}
use Rattle.shape_rules.specs.declared.locals.Local.{Local}
use Rattle.shape_rules.specs.Findings.{ill_shaped}
use Rattle.shape_rules.specs.Scopes.{Locals, Setting}
use Rattle.shape_rules.specs.Targets.{Aimed, InStruct, Led, Part, SuffixPart, Walked, also_walked, at_part, base_faults, cores_of, faults_of, field_in}
use Rattle.shape_rules.specs.Targets.{field_led, field_named, field_part, is_open_form, led_form, led_index, led_shape, suffix_found, suffix_place, walked}
use Rattle.shape_rules.specs.Values.{variables_of_type}
use Rattle.shape_meanings.specs.Aims.{Leads}
use Rattle.shape_meanings.specs.Counted.{Counts, counted}
use Rattle.shape_meanings.specs.Keeping.{Reach, SeenAs, reach_of}
use Rattle.shape_meanings.specs.Whole.{Choice, all_below, below, below_form}
use Rattle.shape_meanings.specs.Worlds.{FieldsBelow}
use Rattle.shape_meanings.proofs.Counting.{named_parts}
use Rattle.shape_meanings.proofs.Matching.{leaf_below}
use Rattle.shape_meanings.proofs.Openness.{is_tuple_form}
use Rattle.shape_meanings.proofs.Orders.{belows, puts}
use Rattle.shape_meanings.proofs.TargetCounts.{field_has, led_counted}
use Rattle.shape_meanings.proofs.Bases.{at_place, not_none, not_open}
use Rattle.shape_progress.specs.Rules.{IsUnreached}
use Rattle.shape_progress.specs.TargetRules.{SuffixesLead, WayLeads}
use Rattle.shape_stands.specs.Inside.{Inside, Position}
use Rattle.shape_stands.specs.Stands.{BaseStands, HasShape, SuffixesStand}
use Rattle.shape_stands.proofs.Deeper.{way_more}
use Rattle.shape_stands.proofs.Standing.{both_empty}
use Rattle.form_stands.proofs.Suffixes.{suffix_leads}

-- ---- what is said of a base

-- wherever it is read, what is there leaves nothing open
abbrev pub KnownThere : Position → Locals → Shape → Type 0
KnownThere here locals s =
    (registers : List Shape) (c : Choice) (w : World Value) → Inside here registers c w → (slots : List Local) → SeenAs slots locals
    → IsUnreached (reach_of here.setting registers c slots) ⊎ ((n : ℕ) × (below n s ≡ true))

abbrev pub BaseHolds : Position → Locals → Aimed → Type 0
BaseHolds here locals a = BaseStands here locals a × (counted here.setting.types a.shape ≡ true) × KnownThere here locals a.shape

-- or it is a tuple, which has no part
abbrev pub BaseHas : Position → Locals → Aimed → Type 0
BaseHas here locals a = BaseHolds here locals a ⊎ (is_tuple_form (out-Shape a.shape) ≡ true)

-- ---- what is put in the place of variables leaves nothing open

abbrev Under : Shape → Type 0
Under s = (k n : ℕ) (e : ℕ → Shape) → ((i : ℕ) → nat_lt i k ≡ true → below n (e i) ≡ true) → below k s ≡ true → below n (put e s) ≡ true

module _ where
  abbrev Such : Type 0
  Such = (s : Shape) × Under s

  abbrev shapes_of : List Such → List Shape
  shapes_of ys = map (λ (p : Such). p.0) ys

  abbrev form : Shape-F Such → Shape-F Shape
  form y = map-Shape Such Shape (λ p. p.0) y

  each_under : (ys : List Such) (k n : ℕ) (e : ℕ → Shape) → ((i : ℕ) → nat_lt i k ≡ true → below n (e i) ≡ true) → all_below k (shapes_of ys) ≡ true
      → all_below n (map (put e) (shapes_of ys)) ≡ true
  each_under [] k n e f h = refl
  each_under (y ∷ ys) k n e f h =
      let b = and_parts (below k y.0) (all_below k (shapes_of ys)) h in
      two (below n (put e y.0)) (all_below n (map (put e) (shapes_of ys))) (y.1 k n e f b.0) (each_under ys k n e f b.1)

  form_under : (y : Shape-F Such) (k n : ℕ) (e : ℕ → Shape) → ((i : ℕ) → nat_lt i k ≡ true → below n (e i) ≡ true)
      → below_form k (map-Shape Shape Bool (below k) (form y)) ≡ true → below n (put_form e (map-Shape Shape Shape (put e) (form y))) ≡ true
  form_under (S.List y) k n e f h = belows n (S.List (put e y.0)) ∙ y.1 k n e f h
  form_under (S.Vector y) k n e f h = belows n (S.Vector (put e y.0)) ∙ y.1 k n e f h
  form_under (S.Tuple ys) k n e f h = belows n (S.Tuple (map (put e) (shapes_of ys))) ∙ each_under ys k n e f h
  form_under (S.Named i ys) k n e f h = belows n (S.Named i (map (put e) (shapes_of ys))) ∙ each_under ys k n e f h
  form_under (S.Variable i) k n e f h = f i h
  form_under S.Unit k n e f h = belows n S.Unit
  form_under S.Bool k n e f h = belows n S.Bool
  form_under S.Bit k n e f h = belows n S.Bit
  form_under S.Bits k n e f h = belows n S.Bits
  form_under S.Int k n e f h = belows n S.Int
  form_under S.String k n e f h = belows n S.String
  form_under S.Hole k n e f h = no h
  form_under S.Never k n e f h = no h

  rolled_under : (y : Shape-F Such) → Under (roll-Shape (form y))
  rolled_under y k n e f h = ap (below n) (puts e (form y)) ∙ form_under y k n e f (sym (belows k (form y)) ∙ h)

  put_under : (s : Shape) → Under s
  put_under = ind-Shape Under (λ e y is. subst (λ d. Under (roll-Shape d)) is (rolled_under y))

-- ---- parts of what leaves nothing open leave nothing open

same_less : (i k m : ℕ) → nat_eq m k ≡ true → nat_lt i k ≡ true → nat_lt i m ≡ true
same_less i k m same h = grind (arith, same, h)

field_below : (setting : Setting) (i n : ℕ) (ss : List Shape) (name : List ℕ) (o : Option (List Field)) (led : Led) → FieldsBelow setting i o
    → nat_eq (length ss) (variables_of_type setting i) ≡ true → all_below n ss ≡ true → field_led i ss (field_in name o) ≡ Some led
    → below n led.shape ≡ true
field_below setting i n ss name None led b many all e = none e
field_below setting i n ss name (Some fs) led b many all e = by_field (field_named name fs) refl e
  where
    by_field : (p : Option InStruct) → field_named name fs ≡ p → field_led i ss p ≡ Some led → below n led.shape ≡ true
    by_field None is e = none e
    by_field (Some g) is e =
        subst (λ (l : Led). below n l.shape ≡ true) (some_same _ led e)
        (put_under (shape g.typ) (variables_of_type setting i) n (at ss)
        (λ j h. at_place n ss j all (same_less j (variables_of_type setting i) (length ss) many h))
        (field_has (below (variables_of_type setting i)) name fs g b is))

below_out : (n : ℕ) (s : Shape) (y : Shape-F Shape) → out-Shape s ≡ y → below n s ≡ true → below_form n (map-Shape Shape Bool (below n) y) ≡ true
below_out n s y is h = sym (ap (below n) (sym (roll-out-Shape s) ∙ ap roll-Shape is) ∙ belows n y) ∙ h

led_below : (setting : Setting) → ((i : ℕ) → FieldsBelow setting i (fields setting.types i)) → (x : SuffixPart) (n : ℕ) (s : Shape) (y : Shape-F Shape)
    (led : Led)
    → out-Shape s ≡ y → below n s ≡ true → counted setting.types s ≡ true → led_form setting x y ≡ Some led → below n led.shape ≡ true
led_below setting whole (field_part name) n s (S.Named i ss) led is b fine e =
    field_below setting i n ss name.text (fields setting.types i) led (whole i) (named_parts setting.types s i ss is fine).0
    (below_out n s (S.Named i ss) is b) e
led_below setting whole (field_part name) n s y led is b fine e = none e
led_below setting whole (at_part place index) n s y led is b fine e = by_last index.last y e (below_out n s y is b)
  where
    by_last : (last : Option Part) (y : Shape-F Shape) → led_index last y ≡ Some led → below_form n (map-Shape Shape Bool (below n) y) ≡ true
        → below n led.shape ≡ true
    by_last None S.Bits is h = subst (λ (l : Led). below n l.shape ≡ true) (some_same _ led is) (leaf_below n S.Bit V.Bit V.rolls-Bit refl)
    by_last None (S.Vector s) is h = subst (λ (l : Led). below n l.shape ≡ true) (some_same _ led is) h
    by_last (Some low) S.Bits is h = subst (λ (l : Led). below n l.shape ≡ true) (some_same _ led is) (leaf_below n S.Bits V.Bits V.rolls-Bits refl)
    by_last last y is h = none is

no_fault : {A : Type 0} (place : Place) (b : Bool) → b ≡ false → (if b then [] else ill_shaped place ∷ []) ≡ [] → A
no_fault place true h e = no (sym h)
no_fault place false h e = not_none e

-- each suffix leads on, and what the last one leads to leaves nothing open
pub suffixes_lead : (xs : List SuffixPart) (setting : Setting) → ((i : ℕ) → FieldsBelow setting i (fields setting.types i)) → Counts setting
    → (locals : Locals) (first base : Place) (s : Shape) (n : ℕ) → below n s ≡ true → counted setting.types s ≡ true
    → (walked xs setting locals first base s).faults ≡ []
    → Leads xs setting s × (below n (walked xs setting locals first base s).shape ≡ true)
suffixes_lead [] setting whole c locals first base s n h fine e = (tt, h)
suffixes_lead (x ∷ xs) setting whole c locals first base s n h fine e =
    let o : Option Led = led_form setting x (out-Shape s) in
    let found = suffix_found x setting locals in
    let more : Walked = walked xs setting locals first (suffix_place first x) (led_shape o) in
    let k = both_empty (base_faults base s o ++ faults_of found) more.faults e in
    by_led o refl (both_empty (base_faults base s o) (faults_of found) k.0).0
    (λ b fine2. suffixes_lead xs setting whole c locals first (suffix_place first x) (led_shape o) n b fine2 k.1)
  where
    by_led : (o : Option Led) → led_form setting x (out-Shape s) ≡ o → base_faults base s o ≡ []
        → (below n (led_shape o) ≡ true → counted setting.types (led_shape o) ≡ true → Leads xs setting (led_shape o)
        × (below n (walked xs setting locals first (suffix_place first x) (led_shape o)).shape ≡ true))
        → ((led : Led) × (led_form setting x (out-Shape s) ≡ Some led) × Leads xs setting led.shape)
        × (below n (walked xs setting locals first (suffix_place first x) (led_shape o)).shape ≡ true)
    by_led None is f others = no_fault base (is_open_form (out-Shape s)) (not_open n (out-Shape s) (below_out n s (out-Shape s) refl h)) f
    by_led (Some led) is f others =
        let led_fine = subst (λ o. counted setting.types (led_shape o) ≡ true) is (led_counted setting c x s (out-Shape s) refl fine) in
        let b = others (led_below setting whole x n s (out-Shape s) led refl h fine is) led_fine in
        ((led, is, b.0), b.1)

-- ---- ways of suffixes that lead on

abbrev WaysLead : Position → Locals → Shape → Walked → Type 0
WaysLead here locals s ways =
    (registers : List Shape) (c : Choice) (w : World Value) → Inside here registers c w → (slots : List Local) → SeenAs slots locals → (rest : List Core)
    → SuffixesLead here.setting.types (HasShape w (reach_of here.setting registers c slots)) ways.suffixes (ways.parts ++ rest) rest s ways.shape

pub ways_lead : (xs : List SuffixPart) (here : Position) (locals : Locals) (first base : Place) (s : Shape) → SuffixesStand here locals xs
    → Leads xs here.setting s → (walked xs here.setting locals first base s).faults ≡ []
    → WaysLead here locals s (walked xs here.setting locals first base s)
ways_lead [] here locals first base s stand leads e = λ registers c w inside slots seen rest. (refl, refl)
ways_lead (x ∷ xs) here locals first base s stand leads e =
    by_led (λ t on f. ways_lead xs here locals first (suffix_place first x) t stand.1 on f) (led_form here.setting x (out-Shape s)) refl e
  where
    next : Place
    next = suffix_place first x

    cores : List Core
    cores = cores_of (suffix_found x here.setting locals)

    behind : Option Led → Walked
    behind o = also_walked base next s o (suffix_found x here.setting locals) (walked xs here.setting locals first next (led_shape o))

    by_led : ((t : Shape) → Leads xs here.setting t → (walked xs here.setting locals first next t).faults ≡ []
        → WaysLead here locals t (walked xs here.setting locals first next t))
        → (o : Option Led) → led_form here.setting x (out-Shape s) ≡ o → (behind o).faults ≡ [] → WaysLead here locals s (behind o)
    by_led others None is e = none (sym is ∙ leads.1)
    by_led others (Some led) is e =
        let h = both_empty (base_faults base s (Some led) ++ faults_of (suffix_found x here.setting locals)) _ e in
        let k = both_empty (base_faults base s (Some led)) (faults_of (suffix_found x here.setting locals)) h.0 in
        let more : Walked = walked xs here.setting locals first next led.shape in
        let on = subst (λ (l : Led). Leads xs here.setting l.shape) (some_same leads.0 led (sym leads.1 ∙ is)) leads.2 in
        let r = others led.shape on h.1 in
        λ registers c w inside slots seen rest.
        let reach : Reach = reach_of here.setting registers c slots in
        let P : Shape → Core → Type 0 = HasShape w reach in
        way_more here.setting.types P P (λ t d h. h) led.way ((cores ++ more.parts) ++ rest) s (λ ds u. (ds ≡ (more.parts ++ rest)) × (u ≡ led.shape))
        (λ ds u. SuffixesLead here.setting.types P more.suffixes ds rest u more.shape)
        (λ ds u same. subst (λ ys. SuffixesLead here.setting.types P more.suffixes ys rest u more.shape) (sym same.0)
        (subst (λ t. SuffixesLead here.setting.types P more.suffixes (more.parts ++ rest) rest t more.shape) (sym same.1)
        (r registers c w inside slots seen rest)))
        (subst (λ ys. WayLeads here.setting.types P led.way ys s (λ ds u. (ds ≡ (more.parts ++ rest)) × (u ≡ led.shape)))
        (sym (append_assoc cores more.parts rest))
        (suffix_leads here locals s x led stand.0 is k.1 registers c w inside slots seen (more.parts ++ rest)))
