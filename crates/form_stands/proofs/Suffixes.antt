-- Parts of values: indexes and fields behind a base.
use Rattle.std.proofs.Common.{◌≡◌, inl, inr, ℕ, Bool, true, false, List, [], ◌∷◌, ◌++◌, ap, sym, ◌∙◌, refl, subst, slice_get, bytes_eq}
use Rattle.std.proofs.Common.{suc, Option, Some, None, if◌then◌else◌}
use Rattle.sail_base.specs.declared.place.Place.{Place}
use Rattle.sail_types.specs.Named.{field_types, fields}
use Rattle.sail_types.specs.Shapes.{at, put, shape}
use Rattle.sail_types.specs.declared.shapes.Shape.{Shape, Shape-F, out-Shape}
use Rattle.sail_types.specs.declared.shapes.Shape.TheOpen as S
use Rattle.sail_types.specs.declared.shapes.Shape.TheVariants as V
use Rattle.sail_types.specs.declared.shapes.Shape.TheViews.{out-roll-Shape}
use Rattle.sail_types.specs.declared.table.Field.{Field}
use Rattle.sail_types.specs.declared.values.Value.{Value}
use Rattle.sail_core.specs.declared.targets.Way.TheVariants as Y
use Rattle.sail_core.specs.declared.tree.Core.{Core}
use Rattle.sail_core.specs.declared.tree.Kind.TheVariants as K
use Rattle.sail_core.specs.Making.{World}
use Rattle.shape_joins.proofs.JoinsLeast.{none, some_same}
use Rattle.shape_joins.proofs.Order.{no}
use Rattle.shape_rules.specs.declared.locals.Local.{Local}
use Rattle.shape_rules.specs.Findings.{Found, ill_shaped}
use Rattle.shape_rules.specs.Scopes.{Locals}
use Rattle.shape_rules.specs.Targets.{InStruct, IndexPart, Led, Part, SuffixPart, Walked, also_walked, at_part, base_faults, cores_of, faults_of, field_in}
use Rattle.shape_rules.specs.Targets.{field_led, field_named, field_part, index_found, into_field, into_item, into_slice, is_open, is_open_form, led_form}
use Rattle.shape_rules.specs.Targets.{led_index}
use Rattle.shape_rules.specs.Targets.{led_shape, one_further, suffix_found, suffix_place, suffixes_if, walked}
use Rattle.shape_rules.specs.Values.{last_place, part_found}
use Rattle.shape_meanings.specs.Keeping.{Reach, SeenAs, reach_of}
use Rattle.shape_meanings.specs.Whole.{Choice}
use Rattle.shape_meanings.proofs.Looping.{int_exact}
use Rattle.shape_meanings.proofs.Suffixes.{open_fits}
use Rattle.shape_meanings.proofs.Bases.{not_none}
use Rattle.shape_progress.specs.Rules.{IsEmpty, SuffixesHave}
use Rattle.shape_progress.specs.TargetRules.{WayLeads}
use Rattle.shape_stands.specs.Inside.{Inside, Position}
use Rattle.shape_stands.specs.Stands.{HasShape, IndexStands, IsShapedAt, MaybeStandsAt, Shaped, Stands, StandsAt, SuffixStands, SuffixesStand}
use Rattle.shape_stands.proofs.Deeper.{way_more}
use Rattle.shape_stands.proofs.Standing.{both_empty, has_wanted, settled_node}

-- ---- integers

pub integer_shaped : (here : Position) (locals : Locals) (found : Found) → Stands here locals V.Int found → Shaped here locals V.Int found.core
integer_shaped here locals found h = has_wanted here locals V.Int V.Int found (int_exact found.shape) h

-- ---- a suffix leads into what is there, and into whatever is asked of that

-- in each world, what a suffix asks of the cores of its indexes, with others behind them
abbrev pub Leads : Position → Locals → Shape → Led → List Core → Type 0
Leads here locals s led cores =
    (registers : List Shape) (c : Choice) (w : World Value) → Inside here registers c w → (slots : List Local) → SeenAs slots locals → (rest : List Core)
    → WayLeads here.setting.types (HasShape w (reach_of here.setting registers c slots)) led.way (cores ++ rest) s
    (λ ds u. (ds ≡ rest) × (u ≡ led.shape))

abbrev FieldIs : List Field → InStruct → Type 0
FieldIs fs f = slice_get (field_types fs) f.place ≡ Some f.typ

further_is : (g : Field) (gs : List Field) (f : InStruct) (o : Option InStruct) → ((h : InStruct) → o ≡ Some h → FieldIs gs h) → one_further o ≡ Some f
    → FieldIs (g ∷ gs) f
further_is g gs f None others e = none e
further_is g gs f (Some h) others e =
    subst (FieldIs (g ∷ gs)) (some_same (record { place = suc h.place; typ = h.typ }) f e) (others h refl)

field_by : (b : Bool) (g : Field) (gs : List Field) (f : InStruct) (o : Option InStruct) → ((h : InStruct) → o ≡ Some h → FieldIs gs h)
    → (if b then Some (record { place = 0; typ = g.typ }) else one_further o) ≡ Some f → FieldIs (g ∷ gs) f
field_by true g gs f o others e = subst (FieldIs (g ∷ gs)) (some_same (record { place = 0; typ = g.typ }) f e) refl
field_by false g gs f o others e = further_is g gs f o others e

field_at : (name : List ℕ) (fs : List Field) (f : InStruct) → field_named name fs ≡ Some f → FieldIs fs f
field_at name [] f e = none e
field_at name (g ∷ gs) f e = field_by (bytes_eq g.name name) g gs f (field_named name gs) (λ h is. field_at name gs h is) e

field_leads : (here : Position) (locals : Locals) (s : Shape) (name : List ℕ) (led : Led) (i : ℕ) (ss : List Shape) (o : Option (List Field))
    → out-Shape s ≡ S.Named i ss → fields here.setting.types i ≡ o → field_led i ss (field_in name o) ≡ Some led → Leads here locals s led []
field_leads here locals s name led i ss None out is e = none e
field_leads here locals s name led i ss (Some fs) out is e = by_field (field_named name fs) refl e
  where
    by_field : (p : Option InStruct) → field_named name fs ≡ p → field_led i ss p ≡ Some led → Leads here locals s led []
    by_field None there e = none e
    by_field (Some f) there e =
        subst (λ (x : Led). Leads here locals s x []) (some_same (record { way = Y.Field i f.place; shape = put (at ss) (shape f.typ) }) led e)
        (λ registers c w inside slots seen rest. (ss, fs, f.typ, out, is, field_at name fs f there, (refl, refl)))

into_field_leads : (here : Position) (locals : Locals) (s : Shape) (name : List ℕ) (led : Led) (y : Shape-F Shape) → out-Shape s ≡ y
    → into_field here.setting name y ≡ Some led → Leads here locals s led []
into_field_leads here locals s name led (S.Named i ss) out e = field_leads here locals s name led i ss (fields here.setting.types i) out refl e
into_field_leads here locals s name led y out e = none e

item_leads : (here : Position) (locals : Locals) (s : Shape) (led : Led) (y : Shape-F Shape) (i : Core) → out-Shape s ≡ y → into_item y ≡ Some led
    → Shaped here locals V.Int i → Leads here locals s led (i ∷ [])
item_leads here locals s led S.Bits i out e h =
    subst (λ (x : Led). Leads here locals s x (i ∷ [])) (some_same (record { way = Y.Item; shape = V.Bit }) led e)
    (λ registers c w inside slots seen rest. (h registers c w inside slots seen, (V.Bit, inl (out, refl), (refl, refl))))
item_leads here locals s led (S.Vector t) i out e h =
    subst (λ (x : Led). Leads here locals s x (i ∷ [])) (some_same (record { way = Y.Item; shape = t }) led e)
    (λ registers c w inside slots seen rest. (h registers c w inside slots seen, (t, inr out, (refl, refl))))
item_leads here locals s led y i out e h = none e

slice_leads : (here : Position) (locals : Locals) (s : Shape) (led : Led) (y : Shape-F Shape) (a b : Core) → out-Shape s ≡ y → into_slice y ≡ Some led
    → Shaped here locals V.Int a → Shaped here locals V.Int b → Leads here locals s led (a ∷ b ∷ [])
slice_leads here locals s led S.Bits a b out e ha hb =
    subst (λ (x : Led). Leads here locals s x (a ∷ b ∷ [])) (some_same (record { way = Y.Slice; shape = V.Bits }) led e)
    (λ registers c w inside slots seen rest. (ha registers c w inside slots seen, hb registers c w inside slots seen, out, (refl, refl)))
slice_leads here locals s led y a b out e ha hb = none e

index_leads : (here : Position) (locals : Locals) (s : Shape) (index : IndexPart) (led : Led) → IndexStands here locals index
    → led_index index.last (out-Shape s) ≡ Some led
    → faults_of (index_found (Some index.first) here.setting locals ++ index_found index.last here.setting locals) ≡ []
    → Leads here locals s led (cores_of (index_found (Some index.first) here.setting locals ++ index_found index.last here.setting locals))
index_leads here locals s index led stand e h = by_last index.last stand.1 e h
  where
    one : Found
    one = index.first.elaborate here.setting locals V.Int

    by_last : (low : Option Part) → MaybeStandsAt here locals low → led_index low (out-Shape s) ≡ Some led
        → faults_of (one ∷ index_found low here.setting locals) ≡ []
        → Leads here locals s led (cores_of (one ∷ index_found low here.setting locals))
    by_last None maybe e h =
        item_leads here locals s led (out-Shape s) one.core refl e
        (integer_shaped here locals one (stand.0 V.Int (both_empty one.faults [] h).0))
    by_last (Some low) maybe e h =
        let two : Found = low.elaborate here.setting locals V.Int in
        let k = both_empty one.faults (two.faults ++ []) h in
        let k2 = both_empty two.faults [] k.1 in
        slice_leads here locals s led (out-Shape s) one.core two.core refl e (integer_shaped here locals one (stand.0 V.Int k.0))
        (integer_shaped here locals two (maybe V.Int k2.0))

pub suffix_leads : (here : Position) (locals : Locals) (s : Shape) (suffix : SuffixPart) (led : Led) → SuffixStands here locals suffix
    → led_form here.setting suffix (out-Shape s) ≡ Some led → faults_of (suffix_found suffix here.setting locals) ≡ []
    → Leads here locals s led (cores_of (suffix_found suffix here.setting locals))
suffix_leads here locals s (field_part name) led stand e h = into_field_leads here locals s name.text led (out-Shape s) refl e
suffix_leads here locals s (at_part place index) led stand e h = index_leads here locals s index led stand e h

-- ---- several suffixes

-- suffixes take out of values of a shape what is found behind them
abbrev Walks : Position → Locals → Shape → Walked → Type 0
Walks here locals s ways =
    (registers : List Shape) (c : Choice) (w : World Value) → Inside here registers c w → (slots : List Local) → SeenAs slots locals
    → SuffixesHave (reach_of here.setting registers c slots) (HasShape w (reach_of here.setting registers c slots)) ways.suffixes ways.parts s ways.shape

-- nothing is recorded behind a shape that isn't known
no_more : (here : Position) (reach : Reach) (P : Shape → Core → Type 0) (cs : List Core) (s t : Shape) → IsEmpty reach s → SuffixesHave reach P [] cs s t
no_more here reach P [] s t e = inr e
no_more here reach P (c ∷ cs) s t e = e

not_led : (here : Position) (suffix : SuffixPart) (s : Shape) (y : Shape-F Shape) → is_open_form y ≡ true → led_form here.setting suffix y ≡ None
not_led here (field_part name) s S.Hole h = refl
not_led here (field_part name) s S.Never h = refl
not_led here (field_part name) s y h = no h
not_led here (at_part place index) s y h = by_last index.last y h
  where
    by_last : (low : Option Part) (y : Shape-F Shape) → is_open_form y ≡ true → led_index low y ≡ None
    by_last None S.Hole h = refl
    by_last None S.Never h = refl
    by_last None y h = no h
    by_last (Some low) S.Hole h = refl
    by_last (Some low) S.Never h = refl
    by_last (Some low) y h = no h

open_if : (base : Place) (s : Shape) (b : Bool) → is_open s ≡ b → (if b then [] else ill_shaped base ∷ []) ≡ [] → is_open s ≡ true
open_if base s true is e = is
open_if base s false is e = not_none e

never_open : is_open V.Never ≡ true
never_open = ap is_open_form (ap out-Shape (sym V.rolls-Never) ∙ out-roll-Shape S.Never)

-- behind one that isn't known no suffix is recorded
none_recorded : (suffixes : List SuffixPart) (here : Position) (locals : Locals) (first base : Place) (s : Shape) → is_open s ≡ true
    → (walked suffixes here.setting locals first base s).suffixes ≡ []
none_recorded [] here locals first base s h = refl
none_recorded (x ∷ xs) here locals first base s h =
    let o = not_led here x s (out-Shape s) h in
    ap (λ p. suffixes_if (suffix_place first x) p ++ (walked xs here.setting locals first (suffix_place first x) (led_shape p)).suffixes) o
    ∙ none_recorded xs here locals first (suffix_place first x) V.Never never_open

abbrev behind : SuffixPart → List SuffixPart → Position → Locals → Place → Place → Shape → Option Led → Walked
behind x xs here locals first base s o =
    also_walked base (suffix_place first x) s o (suffix_found x here.setting locals)
    (walked xs here.setting locals first (suffix_place first x) (led_shape o))

walk_step : (x : SuffixPart) (xs : List SuffixPart) (here : Position) (locals : Locals) (first base : Place) (s : Shape) (o : Option Led)
    → SuffixStands here locals x
    → ((t : Shape) → (walked xs here.setting locals first (suffix_place first x) t).faults ≡ []
    → Walks here locals t (walked xs here.setting locals first (suffix_place first x) t))
    → led_form here.setting x (out-Shape s) ≡ o → (behind x xs here locals first base s o).faults ≡ []
    → Walks here locals s (behind x xs here locals first base s o)
walk_step x xs here locals first base s None stand others is e =
    let h = both_empty (base_faults base s None ++ faults_of (suffix_found x here.setting locals)) _ e in
    let k = both_empty (base_faults base s None) (faults_of (suffix_found x here.setting locals)) h.0 in
    let unknown = open_if base s (is_open s) refl k.0 in
    let more : Walked = walked xs here.setting locals first (suffix_place first x) V.Never in
    let cores : List Core = cores_of (suffix_found x here.setting locals) in
    λ registers c w inside slots seen.
    let reach : Reach = reach_of here.setting registers c slots in
    subst (λ ss. SuffixesHave reach (HasShape w reach) ss (cores ++ more.parts) s more.shape)
    (sym (none_recorded xs here locals first (suffix_place first x) V.Never never_open))
    (no_more here reach (HasShape w reach) (cores ++ more.parts) s more.shape (λ v fit. open_fits reach.types c s v unknown fit))
walk_step x xs here locals first base s (Some led) stand others is e =
    let h = both_empty (base_faults base s (Some led) ++ faults_of (suffix_found x here.setting locals)) _ e in
    let k = both_empty (base_faults base s (Some led)) (faults_of (suffix_found x here.setting locals)) h.0 in
    let more : Walked = walked xs here.setting locals first (suffix_place first x) led.shape in
    let cores : List Core = cores_of (suffix_found x here.setting locals) in
    let r = others led.shape h.1 in
    λ registers c w inside slots seen.
    let reach : Reach = reach_of here.setting registers c slots in
    let P : Shape → Core → Type 0 = HasShape w reach in
    way_more reach.types P P (λ t d h. h) led.way (cores ++ more.parts) s (λ ds u. (ds ≡ more.parts) × (u ≡ led.shape))
    (λ ds u. SuffixesHave reach P more.suffixes ds u more.shape)
    (λ ds u same. subst (λ xs. SuffixesHave reach P more.suffixes xs u more.shape) (sym same.0)
    (subst (λ t. SuffixesHave reach P more.suffixes more.parts t more.shape) (sym same.1) (r registers c w inside slots seen)))
    (suffix_leads here locals s x led stand is k.1 registers c w inside slots seen more.parts)

pub walks : (suffixes : List SuffixPart) (here : Position) (locals : Locals) (first base : Place) (s : Shape) → SuffixesStand here locals suffixes
    → (walked suffixes here.setting locals first base s).faults ≡ [] → Walks here locals s (walked suffixes here.setting locals first base s)
walks [] here locals first base s stand e = λ registers c w inside slots seen. inl refl
walks (x ∷ xs) here locals first base s stand e =
    walk_step x xs here locals first base s (led_form here.setting x (out-Shape s)) stand.0
    (λ t more. walks xs here locals first (suffix_place first x) t stand.1 more) refl e

-- `e[i]`, `e[h .. l]`, `e.f`
pub part_shaped : (here : Position) (locals : Locals) (first : Place) (base : Part) (suffixes : List SuffixPart) → StandsAt here locals base.elaborate
    → SuffixesStand here locals suffixes → IsShapedAt here locals (part_found first base suffixes)
part_shaped here locals first base suffixes one stand want e =
    let a : Found = base.elaborate here.setting locals V.Never in
    let ways : Walked = walked suffixes here.setting locals first base.place a.shape in
    let h = both_empty (a.faults ++ ways.faults) _ e in
    let k = both_empty a.faults ways.faults h.0 in
    let shaped = (one V.Never k.0).1 in
    let r = walks suffixes here locals first base.place a.shape stand k.1 in
    settled_node here locals (last_place first suffixes) (last_place first suffixes) want ways.shape (λ s. K.Part ways.suffixes) (a.core ∷ ways.parts) h.1
    (λ t registers c w inside slots seen. (a.shape, shaped registers c w inside slots seen, r registers c w inside slots seen))
