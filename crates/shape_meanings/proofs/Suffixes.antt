-- Parts of values: indexes and fields behind a base.
use Rattle.std.proofs.Common.{◌≡◌, ℕ, ℤ, List, [], ◌∷◌, ◌++◌, map, sym, ◌∙◌, refl, subst, true, Option, Some, None}
use Rattle.sail_types.specs.Named.{fields}
use Rattle.sail_types.specs.Shapes.{at, fits, form_fits, put, shape, Asked}
use Rattle.sail_types.specs.declared.shapes.Shape.{Shape, Shape-F, out-Shape}
use Rattle.sail_types.specs.declared.shapes.Shape.TheOpen as S
use Rattle.sail_types.specs.declared.shapes.Shape.TheVariants as V
use Rattle.sail_types.specs.declared.table.Field.{Field}
use Rattle.sail_types.specs.declared.table.Types.{Types}
use Rattle.sail_types.specs.declared.values.Value.{Value, Value-F, out-Value}
use Rattle.sail_types.specs.declared.values.Value.TheFolds.{map-Value}
use Rattle.sail_core.specs.declared.targets.Way.{Way}
use Rattle.sail_core.specs.declared.targets.Way.TheVariants as Y
use Rattle.sail_core.specs.declared.tree.Core.{Core}
use Rattle.sail_core.specs.Run as R
use Rattle.sail_core.specs.Run.{Now, Ended, Run, needs, gives, stuck, goes_on, ◌then◌}
use Rattle.sail_core.specs.Values.{Into, field_way, item_way, slice_way, integer_in}
use Rattle.sail_core.specs.Making as Core
use Rattle.sail_core.specs.Meaning.{core_meaning}
use Rattle.shape_joins.proofs.Order.{no}
use Rattle.shape_joins.proofs.JoinsLeast.{some_same, none}
use Rattle.sail_meaning.specs.World as Source
use Rattle.sail_meaning.specs.World.{integer}
use Rattle.sail_meaning.specs.Expressions.{index_of}
use Rattle.sail_meaning.specs.Targets.{Suffix, into_field}
use Rattle.shape_rules.specs.declared.locals.Local.{Local}
use Rattle.shape_rules.specs.Findings.{Found}
use Rattle.shape_rules.specs.Scopes.{Setting, Locals}
use Rattle.shape_rules.specs.Targets as Aims
use Rattle.shape_rules.specs.Targets.{Part, IndexPart, SuffixPart, field_part, at_part, InStruct, Led, field_led, field_in, into_item, into_slice}
use Rattle.shape_rules.specs.Targets.{led_form}
use Rattle.shape_rules.specs.Targets.{is_open, is_open_form, index_found, suffix_found, cores_of, faults_of}
use Rattle.shape_meanings.specs.Whole.{Choice}
use Rattle.shape_meanings.specs.Keeping.{Fits, SeenAs, Reach, Good, reach_of, Keeps, Agree}
use Rattle.shape_meanings.specs.Worlds.{Describes}
use Rattle.shape_meanings.specs.Parts.{IsRight, MaybeIs, SuffixIs}
use Rattle.shape_meanings.proofs.Values.{opened_at, out_put}
use Rattle.shape_meanings.proofs.Runs.{then_agree}
use Rattle.shape_meanings.proofs.Settling.{RunsAs, both_empty}
use Rattle.shape_meanings.proofs.Matching.{form_given}
use Rattle.shape_meanings.proofs.Loops.{integral}
use Rattle.shape_meanings.proofs.Looping.{int_runs}
use Rattle.shape_meanings.proofs.Ways.{WaysAlike, field_alike, bit_alike, item_alike, slice_alike}

-- one piece after another, and then a third
pub then_then : {A B C : Type 0} (e : Ended Value A) (f : A → Run Value B) (g : B → Run Value C)
    → goes_on (goes_on e f) g ≡ goes_on e (λ x. f x then g)
then_then (R.Gives x now) f g = refl
then_then (R.No now) f g = refl
then_then (R.Returns v now) f g = refl
then_then (R.Throws v now) f g = refl
then_then (R.Stops cause now) f g = refl
then_then R.Stuck f g = refl

-- no value has a shape that isn't known
open_form : (types : Types) (x : Value-F Value) (c : Choice) (y : Shape-F Shape) → is_open_form y ≡ true
    → form_fits types (map-Value Value Asked (fits types) x) (opened_at c y) ≡ true → ⊥
open_form types x c S.Hole h k = no k
open_form types x c S.Never h k = no k
open_form types x c y h k = no h

pub open_fits : (types : Types) (c : Choice) (s : Shape) (v : Value) → is_open s ≡ true → Fits types c s v → ⊥
open_fits types c s v h k = open_form types (out-Value v) c (out-Shape s) h (form_given types c s (opened_at c (out-Shape s)) v (out_put c s) k)

-- ---- the way of a suffix, over the indexes in it

abbrev pub core_way : Way → List (Run Value Value) → Run Value Into
core_way (Y.Field i k) [] = gives (field_way i k)
core_way Y.Item (a ∷ []) = a then λ y. needs (integer_in y) then λ i. gives (item_way i)
core_way Y.Slice (a ∷ b ∷ []) = a then λ y. b then λ u. needs (integer_in y) then λ hi. needs (integer_in u) then λ lo. gives (slice_way hi lo)
core_way way parts = stuck

-- in both worlds a way is found, and both go on with ways that are alike
abbrev pub WayRuns : Setting → Locals → (Choice → Into → Into → Type 0) → Way → List Core → Suffix → Type 0
WayRuns setting locals Alike way cores m =
    (registers : List Shape) (c : Choice) (wc : Core.World Value) (ws : Source.World) → Describes setting registers wc ws
    → (slots : List Local) → SeenAs slots locals → (t : Shape) (kc km : Into → Run Value Value)
    → ((a b : Into) → Alike c a b → (here : Now Value) → Good (reach_of setting registers c slots) here
    → Agree (reach_of setting registers c slots) (Fits setting.types c t) (kc a here) (km b here))
    → (now : Now Value) → Good (reach_of setting registers c slots) now
    → Agree (reach_of setting registers c slots) (Fits setting.types c t) ((core_way way (map (core_meaning wc) cores) then kc) now) ((m ws then km) now)

abbrev pub AlikeAt : Types → Shape → Shape → Choice → Into → Into → Type 0
AlikeAt types s t c a b = WaysAlike types c s t a b

-- an index
pub item_runs : (setting : Setting) (locals : Locals) (Alike : Choice → Into → Into → Type 0) (a : Core) (m : Source.Meaning)
    → RunsAs setting locals V.Int a m → ((c : Choice) (z : ℤ) → Alike c (item_way z) (item_way z))
    → WayRuns setting locals Alike Y.Item (a ∷ []) (index_of m None)
item_runs setting locals Alike a m runs alike registers c wc ws d slots seen t kc km next now good =
    let reach : Reach = reach_of setting registers c slots in
    let Q : Value → Type 0 = Fits setting.types c t in
    let core : Value → Run Value Into = λ y. needs (integer_in y) then λ i. gives (item_way i) in
    let source : Value → Run Value Into = λ y. integer y then λ i. gives (item_way i) in
    let r = then_agree reach (Fits setting.types c V.Int) Q (core_meaning wc a now) (m ws now) (λ y. core y then kc) (λ y. source y then km)
    (runs registers c wc ws d slots seen now good)
    (λ y later h good2.
    let z = integral setting.types c y h in
    subst (λ o. Agree reach Q (((needs o then λ i. gives (item_way i)) then kc) later) (((needs o then λ i. gives (item_way i)) then km) later)) (sym z.1)
    (next (item_way z.0) (item_way z.0) (alike c z.0) later good2)) in (
      then_then (core_meaning wc a now) core kc ∙ r.0 ∙ sym (then_then (m ws now) source km),
      subst (Keeps reach Q) (sym (then_then (m ws now) source km)) r.1,
    )

-- a slice
pub slice_runs : (setting : Setting) (locals : Locals) (Alike : Choice → Into → Into → Type 0) (a b : Core) (m n : Source.Meaning)
    → RunsAs setting locals V.Int a m → RunsAs setting locals V.Int b n → ((c : Choice) (hi lo : ℤ) → Alike c (slice_way hi lo) (slice_way hi lo))
    → WayRuns setting locals Alike Y.Slice (a ∷ b ∷ []) (index_of m (Some n))
slice_runs setting locals Alike a b m n ra rb alike registers c wc ws d slots seen t kc km next now good =
    let reach : Reach = reach_of setting registers c slots in
    let Q : Value → Type 0 = Fits setting.types c t in
    let both : Value → Value → Run Value Into = λ y u. needs (integer_in y) then λ hi. needs (integer_in u) then λ lo. gives (slice_way hi lo) in
    let core : Value → Run Value Into = λ y. core_meaning wc b then both y in
    let source : Value → Run Value Into = λ y. n ws then both y in
    let r = then_agree reach (Fits setting.types c V.Int) Q (core_meaning wc a now) (m ws now) (λ y. core y then kc) (λ y. source y then km)
    (ra registers c wc ws d slots seen now good)
    (λ y later h good2.
    let q = then_agree reach (Fits setting.types c V.Int) Q (core_meaning wc b later) (n ws later) (λ u. both y u then kc) (λ u. both y u then km)
    (rb registers c wc ws d slots seen later good2)
    (λ u last h2 good3.
    let hi = integral setting.types c y h in
    let lo = integral setting.types c u h2 in
    let Go : Option ℤ → Option ℤ → Type 0 = λ o p. Agree reach Q (((needs o then λ x. needs p then λ z. gives (slice_way x z)) then kc) last)
    (((needs o then λ x. needs p then λ z. gives (slice_way x z)) then km) last) in
    subst (λ o. Go o (integer_in u)) (sym hi.1) (subst (λ p. Go (Some hi.0) p) (sym lo.1)
    (next (slice_way hi.0 lo.0) (slice_way hi.0 lo.0) (alike c hi.0 lo.0) last good3))) in (
      then_then (core_meaning wc b later) (both y) kc ∙ q.0 ∙ sym (then_then (n ws later) (both y) km),
      subst (Keeps reach Q) (sym (then_then (n ws later) (both y) km)) q.1,
    )) in (
      then_then (core_meaning wc a now) core kc ∙ r.0 ∙ sym (then_then (m ws now) source km),
      subst (Keeps reach Q) (sym (then_then (m ws now) source km)) r.1,
    )

-- ---- a suffix that leads into values of a shape

abbrev FieldLed : Setting → List ℕ → ℕ → List Shape → Led → Type 0
FieldLed setting name i ss led =
    (fs : List Field) × (f : InStruct) × (fields setting.types i ≡ Some fs) × (field_in name (Some fs) ≡ Some f)
    × (record { way = Y.Field i f.place; shape = put (at ss) (shape f.typ) } ≡ led)

field_led_is : (setting : Setting) (name : List ℕ) (i : ℕ) (ss : List Shape) (led : Led) (o : Option (List Field)) → fields setting.types i ≡ o
    → field_led i ss (field_in name o) ≡ Some led → FieldLed setting name i ss led
field_led_is setting name i ss led None is e = none e
field_led_is setting name i ss led (Some fs) is e = by_field (field_in name (Some fs)) refl e
  where
    by_field : (p : Option InStruct) → field_in name (Some fs) ≡ p → field_led i ss p ≡ Some led → FieldLed setting name i ss led
    by_field None there e = none e
    by_field (Some f) there e = (fs, f, is, there, some_same (record { way = Y.Field i f.place; shape = put (at ss) (shape f.typ) }) led e)

field_way_runs : (setting : Setting) (locals : Locals) (s : Shape) (name : List ℕ) (led : Led) (y : Shape-F Shape) → out-Shape s ≡ y
    → Aims.into_field setting name y ≡ Some led
    → WayRuns setting locals (AlikeAt setting.types s led.shape) led.way [] (λ w. gives (into_field w.text.types name))
field_way_runs setting locals s name led (S.Named i ss) is e =
    let l = field_led_is setting name i ss led (fields setting.types i) refl e in
    subst (λ (x : Led). WayRuns setting locals (AlikeAt setting.types s x.shape) x.way [] (λ w. gives (into_field w.text.types name))) l.4
    (λ registers c wc ws d slots seen t kc km next now good.
    subst (λ types. Agree (reach_of setting registers c slots) (Fits setting.types c t) (kc (field_way i l.1.place) now) (km (into_field types name) now))
    (sym d.types)
    (next (field_way i l.1.place) (into_field setting.types name) (field_alike setting.types c s i ss name l.0 l.1 is l.2 l.3) now good))
field_way_runs setting locals s name led y is e = none e

item_led : (setting : Setting) (locals : Locals) (s : Shape) (led : Led) (y : Shape-F Shape) (a : Core) (m : Source.Meaning) → out-Shape s ≡ y
    → into_item y ≡ Some led → RunsAs setting locals V.Int a m
    → WayRuns setting locals (AlikeAt setting.types s led.shape) led.way (a ∷ []) (index_of m None)
item_led setting locals s led S.Bits a m is e runs =
    subst (λ (x : Led). WayRuns setting locals (AlikeAt setting.types s x.shape) x.way (a ∷ []) (index_of m None))
    (some_same (record { way = Y.Item; shape = V.Bit }) led e)
    (item_runs setting locals (AlikeAt setting.types s V.Bit) a m runs (λ c z. bit_alike setting.types c s z is))
item_led setting locals s led (S.Vector t) a m is e runs =
    subst (λ (x : Led). WayRuns setting locals (AlikeAt setting.types s x.shape) x.way (a ∷ []) (index_of m None))
    (some_same (record { way = Y.Item; shape = t }) led e)
    (item_runs setting locals (AlikeAt setting.types s t) a m runs (λ c z. item_alike setting.types c s t z is))
item_led setting locals s led y a m is e runs = none e

slice_led : (setting : Setting) (locals : Locals) (s : Shape) (led : Led) (y : Shape-F Shape) (a b : Core) (m n : Source.Meaning) → out-Shape s ≡ y
    → into_slice y ≡ Some led → RunsAs setting locals V.Int a m → RunsAs setting locals V.Int b n
    → WayRuns setting locals (AlikeAt setting.types s led.shape) led.way (a ∷ b ∷ []) (index_of m (Some n))
slice_led setting locals s led S.Bits a b m n is e ra rb =
    subst (λ (x : Led). WayRuns setting locals (AlikeAt setting.types s x.shape) x.way (a ∷ b ∷ []) (index_of m (Some n)))
    (some_same (record { way = Y.Slice; shape = V.Bits }) led e)
    (slice_runs setting locals (AlikeAt setting.types s V.Bits) a b m n ra rb (λ c hi lo. slice_alike setting.types c s hi lo is))
slice_led setting locals s led y a b m n is e ra rb = none e

-- an index that leads into values of a shape
index_runs : (setting : Setting) (locals : Locals) (s : Shape) (index : IndexPart) (led : Led) (first : Source.Meaning) (last : Option Source.Meaning)
    → IsRight setting locals index.first.elaborate first → MaybeIs setting locals index.last last
    → Aims.led_index index.last (out-Shape s) ≡ Some led
    → faults_of (index_found (Some index.first) setting locals ++ index_found index.last setting locals) ≡ []
    → WayRuns setting locals (AlikeAt setting.types s led.shape) led.way
    (cores_of (index_found (Some index.first) setting locals ++ index_found index.last setting locals)) (index_of first last)
index_runs setting locals s index led first last right maybe e h = by_last index.last last maybe e h
  where
    one : Found
    one = index.first.elaborate setting locals V.Int

    by_last : (low : Option Part) (last : Option Source.Meaning) → MaybeIs setting locals low last
        → Aims.led_index low (out-Shape s) ≡ Some led → faults_of (one ∷ index_found low setting locals) ≡ []
        → WayRuns setting locals (AlikeAt setting.types s led.shape) led.way (cores_of (one ∷ index_found low setting locals)) (index_of first last)
    by_last None None is e h =
        item_led setting locals s led (out-Shape s) one.core first refl e (int_runs setting locals one first (right V.Int (both_empty one.faults [] h).0))
    by_last None (Some n) is e h = absurd is
    by_last (Some low) None is e h = absurd is
    by_last (Some low) (Some n) is e h =
        let two : Found = low.elaborate setting locals V.Int in
        let k = both_empty one.faults (two.faults ++ []) h in
        let k2 = both_empty two.faults [] k.1 in
        slice_led setting locals s led (out-Shape s) one.core two.core first n refl e (int_runs setting locals one first (right V.Int k.0))
        (int_runs setting locals two n (is V.Int k2.0))

pub suffix_runs : (setting : Setting) (locals : Locals) (s : Shape) (suffix : SuffixPart) (led : Led) (m : Suffix) → SuffixIs setting locals suffix m
    → led_form setting suffix (out-Shape s) ≡ Some led → faults_of (suffix_found suffix setting locals) ≡ []
    → WayRuns setting locals (AlikeAt setting.types s led.shape) led.way (cores_of (suffix_found suffix setting locals)) m
suffix_runs setting locals s (field_part name) led m is e h =
    subst (WayRuns setting locals (AlikeAt setting.types s led.shape) led.way []) (sym is)
    (field_way_runs setting locals s name.text led (out-Shape s) refl e)
suffix_runs setting locals s (at_part place index) led m is e h =
    subst (WayRuns setting locals (AlikeAt setting.types s led.shape) led.way (cores_of (suffix_found (at_part place index) setting locals))) (sym is.2)
    (index_runs setting locals s index led is.0 is.1 is.3 is.4 e h)
