-- `{ e with f = v, .. }`.
use Rattle.std.proofs.Common.{◌≡◌, ℕ, suc, List, [], ◌∷◌, ◌++◌, map, length, ap, sym, ◌∙◌, refl, subst, true, Option, Some, None}
use Rattle.std.proofs.Common.{nat_eq}
use Rattle.std.proofs.lemmas.Bool.{and_parts}
use Rattle.sail_base.specs.declared.place.Place.{Place}
use Rattle.sail_types.specs.Named.{fields}
use Rattle.sail_types.specs.Shapes.{at, fits, each_fits, put, shape}
use Rattle.sail_types.specs.Sums.{and_then}
use Rattle.sail_types.specs.declared.shapes.Shape.{Shape, Shape-F, out-Shape, roll-Shape}
use Rattle.sail_types.specs.declared.shapes.Shape.TheOpen as S
use Rattle.sail_types.specs.declared.shapes.Shape.TheVariants as V
use Rattle.sail_types.specs.declared.shapes.Shape.TheViews.{out-roll-Shape, roll-out-Shape}
use Rattle.sail_types.specs.declared.table.Field.{Field as TypeField}
use Rattle.sail_types.specs.declared.table.Types.{Types}
use Rattle.sail_types.specs.declared.values.Value.{Value, out-Value}
use Rattle.sail_core.specs.declared.tree.Kind.TheVariants as K
use Rattle.sail_core.specs.declared.tree.Core.{Core}
use Rattle.sail_core.specs.Run.{Now, Run, needs, gives, goes_on, in_turn, local, ◌then◌}
use Rattle.sail_core.specs.Values.{with_field, with_of, with_fields}
use Rattle.sail_core.specs.Making.{plainly, made}
use Rattle.sail_core.specs.Meaning.{core_meaning}
use Rattle.shape_joins.specs.Filling.{fills, fill_all}
use Rattle.shape_joins.proofs.Order.{no, two, opens, same_nat}
use Rattle.shape_joins.proofs.JoinsLeast.{some_same, none}
use Rattle.sail_meaning.specs.World as Source
use Rattle.sail_meaning.specs.World.{Bindings}
use Rattle.sail_meaning.specs.Expressions.{Field, each, fields_of}
use Rattle.sail_meaning.specs.Targets as Written
use Rattle.sail_meaning.specs.Targets.{into_field}
use Rattle.shape_rules.specs.Findings.{Found, over}
use Rattle.shape_rules.specs.Scopes.{Setting, Locals}
use Rattle.shape_rules.specs.Calls.{Solved, solved}
use Rattle.shape_rules.specs.Targets.{Part, InStruct, field_in, is_open, base_faults}
use Rattle.shape_rules.specs.Values as Values
use Rattle.shape_rules.specs.Values.{FieldPart, values_of, Named, also_named, fields_named, parts_found, named_place, with_failed, with_named}
use Rattle.shape_rules.specs.Values.{with_found}
use Rattle.shape_meanings.specs.Whole.{Choice}
use Rattle.shape_meanings.specs.Keeping.{Fits, FitAll, Reach, Good, reach_of, Keeps, Agree}
use Rattle.shape_meanings.specs.Parts.{IsRight, AreRight, FieldsAre}
use Rattle.shape_meanings.specs.Sound.{Right}
use Rattle.shape_meanings.proofs.Runs.{then_agree}
use Rattle.shape_meanings.proofs.Settling.{RunsAs, widened, settled_right, behind_right, both_empty, unrolled}
use Rattle.shape_meanings.proofs.Arguments.{RunAll}
use Rattle.shape_meanings.proofs.Solved.{solved_right}
use Rattle.shape_meanings.proofs.Ways.{field_alike}
use Rattle.shape_meanings.proofs.Suffixes.{then_then, open_fits}
use Rattle.shape_meanings.proofs.Walks.{no_part}

-- ---- fields by their places

abbrev Place1 : Option (List TypeField) → List ℕ → ℕ → Shape → Type 0
Place1 known name i s = (g : InStruct) × (field_in name known ≡ Some g) × (g.place ≡ i) × (shape g.typ ≡ s)

abbrev pub Placed : Option (List TypeField) → List FieldPart → List ℕ → List Shape → Type 0
Placed known [] [] [] = Unit {0}
Placed known (f ∷ fs) (i ∷ is) (s ∷ ss) = Place1 known f.name.text i s × Placed known fs is ss
Placed known fs is ss = ⊥

placed_more : (f : FieldPart) (fs : List FieldPart) (known : Option (List TypeField)) (named : Named) (o : Option InStruct) (p : Option Named)
    → field_in f.name.text known ≡ o → fields_named fs known ≡ p
    → ((more : Named) → fields_named fs known ≡ Some more → Placed known fs more.places more.shapes)
    → also_named o p ≡ Some named → Placed known (f ∷ fs) named.places named.shapes
placed_more f fs known named None p is are others e = none e
placed_more f fs known named (Some g) None is are others e = none e
placed_more f fs known named (Some g) (Some more) is are others e =
    subst (λ (n : Named). Placed known (f ∷ fs) n.places n.shapes)
    (some_same (record { places = g.place ∷ more.places; shapes = shape g.typ ∷ more.shapes }) named e)
    ((g, is, refl, refl), others more are)

pub placed_are : (fs : List FieldPart) (known : Option (List TypeField)) (named : Named) → fields_named fs known ≡ Some named
    → Placed known fs named.places named.shapes
placed_are [] known named e = subst (λ (n : Named). Placed known [] n.places n.shapes) (some_same (record { places = []; shapes = [] }) named e) tt
placed_are (f ∷ fs) known named e =
    placed_more f fs known named (field_in f.name.text known) (fields_named fs known) refl refl (λ more is. placed_are fs known more is) e

pub placed_count : (known : Option (List TypeField)) (fs : List FieldPart) (is : List ℕ) (ss : List Shape) → Placed known fs is ss
    → length ss ≡ length (values_of fs)
placed_count known [] [] [] h = refl
placed_count known (f ∷ fs) (i ∷ is) (s ∷ ss) h = ap suc (placed_count known fs is ss h.1)
placed_count known [] [] (s ∷ ss) h = absurd h
placed_count known [] (i ∷ is) ss h = absurd h
placed_count known (f ∷ fs) [] ss h = absurd h
placed_count known (f ∷ fs) (i ∷ is) [] h = absurd h

-- ---- the values of fields, one after the other

abbrev pub field_values : List Field → List Source.Meaning
field_values ms = map (λ m. m.value) ms

abbrev pub zipped : List Field → List Value → Bindings
zipped [] vs = []
zipped (m ∷ ms) [] = []
zipped (m ∷ ms) (v ∷ vs) = local m.name v ∷ zipped ms vs

pub fields_turn : (ms : List Field) (w : Source.World) (now : Now Value)
    → fields_of ms w now ≡ (in_turn (each (field_values ms) w) then λ vs. gives (zipped ms vs)) now
fields_turn [] w now = refl
fields_turn (m ∷ ms) w now =
    let rest : Run Value (List Value) = in_turn (each (field_values ms) w) in
    (λ j. goes_on (m.value w now) (λ v later.
    (ap (λ e. goes_on e (λ others. gives (local m.name v ∷ others))) (fields_turn ms w later)
    ∙ then_then (rest later) (λ vs. gives (zipped ms vs)) (λ others. gives (local m.name v ∷ others))
    ∙ sym (then_then (rest later) (λ vs. gives (v ∷ vs)) (λ vs. gives (zipped (m ∷ ms) vs)))) j))
    ∙ sym (then_then (m.value w now) (λ v. rest then λ vs. gives (v ∷ vs)) (λ vs. gives (zipped (m ∷ ms) vs)))

pub fields_right : (setting : Setting) (locals : Locals) (fs : List FieldPart) (ms : List Field) → FieldsAre setting locals fs ms
    → AreRight setting locals (values_of fs) (field_values ms)
fields_right setting locals [] [] are = tt
fields_right setting locals (f ∷ fs) (m ∷ ms) are = (are.1, fields_right setting locals fs ms are.2)
fields_right setting locals [] (m ∷ ms) are = absurd are
fields_right setting locals (f ∷ fs) [] are = absurd are

-- ---- a struct with other values in some fields

-- the core's fields by place are the source's by name, and the struct keeps its shape
abbrev SameFields : Types → Choice → Shape → ℕ → List ℕ → List Field → List Value → Value → Type 0
SameFields types c s i is ms vs v =
    (with_fields i is vs v ≡ Written.with_fields types (zipped ms vs) v)
    × ((x : Value) → Written.with_fields types (zipped ms vs) v ≡ Some x → Fits types c s x)

-- one field, and then the others
with_more : (types : Types) (c : Choice) (s : Shape) (i k : ℕ) (is : List ℕ) (m : Field) (ms : List Field) (u : Value) (us : List Value) (v : Value)
    (o : Option Value)
    → (into_field types m.name).put_in v u ≡ o → with_field i k (out-Value v) u ≡ (into_field types m.name).put_in v u
    → ((y : Value) → (into_field types m.name).put_in v u ≡ Some y → Fits types c s y)
    → ((y : Value) → Fits types c s y → SameFields types c s i is ms us y)
    → SameFields types c s i (k ∷ is) (m ∷ ms) (u ∷ us) v
with_more types c s i k is m ms u us v None put same keeps others =
    let source = ap (λ o. and_then o (Written.with_fields types (zipped ms us))) put in
    (ap (λ o. and_then o (with_fields i is us)) (same ∙ put) ∙ sym source, λ x e. none (sym source ∙ e))
with_more types c s i k is m ms u us v (Some y) put same keeps others =
    let source = ap (λ o. and_then o (Written.with_fields types (zipped ms us))) put in
    let r = others y (keeps y put) in
    (ap (λ o. and_then o (with_fields i is us)) (same ∙ put) ∙ r.0 ∙ sym source, λ x e. r.1 x (sym source ∙ e))

with_same : (setting : Setting) (locals : Locals) (c : Choice) (s : Shape) (i : ℕ) (ks : List Shape) (known : Option (List TypeField))
    (fs : List FieldPart) (ms : List Field) (is : List ℕ) (ss : List Shape) (vs : List Value) (v : Value)
    → out-Shape s ≡ S.Named i ks → fields setting.types i ≡ known → FieldsAre setting locals fs ms → Placed known fs is ss
    → FitAll setting.types c (map (put (at ks)) ss) vs → Fits setting.types c s v → SameFields setting.types c s i is ms vs v
with_same setting locals c s i ks known [] [] [] [] [] v out there are placed all fit = (refl, λ x e. subst (Fits setting.types c s) (some_same v x e) fit)
with_same setting locals c s i ks None (f ∷ fs) (m ∷ ms) (k ∷ is) (t ∷ ss) (u ∷ us) v out there are placed all fit = none (placed.0.1)
with_same setting locals c s i ks (Some types) (f ∷ fs) (m ∷ ms) (k ∷ is) (t ∷ ss) (u ∷ us) v out there are placed all fit =
    let g = placed.0 in
    let p = and_parts (fits setting.types u (put c (put (at ks) t))) (each_fits (map (fits setting.types) us) (map (put c) (map (put (at ks)) ss))) all in
    let alike = field_alike setting.types c s i ks f.name.text types g.0 out there g.1 in
    let fit_u : Fits setting.types c (put (at ks) (shape g.0.typ)) u = subst (λ x. Fits setting.types c (put (at ks) x) u) (sym g.3) p.0 in
    let named = ap (λ n. (into_field setting.types n).put_in v u) are.0 in
    with_more setting.types c s i k is m ms u us v ((into_field setting.types m.name).put_in v u) refl
    (ap (λ n. with_field i n (out-Value v) u) (sym g.2) ∙ alike.into v u fit ∙ sym named)
    (λ y e. alike.whole v u y fit fit_u (sym named ∙ e))
    (λ y fit_y. with_same setting locals c s i ks (Some types) fs ms is ss us y out there are.2 placed.1 p.1 fit_y)
with_same setting locals c s i ks known [] [] [] [] (u ∷ us) v out there are placed all fit = no all
with_same setting locals c s i ks known [] [] [] (t ∷ ss) vs v out there are placed all fit = absurd placed
with_same setting locals c s i ks known [] [] (k ∷ is) ss vs v out there are placed all fit = absurd placed
with_same setting locals c s i ks known [] (m ∷ ms) is ss vs v out there are placed all fit = absurd are
with_same setting locals c s i ks known (f ∷ fs) [] is ss vs v out there are placed all fit = absurd are
with_same setting locals c s i ks known (f ∷ fs) (m ∷ ms) [] ss vs v out there are placed all fit = absurd placed
with_same setting locals c s i ks known (f ∷ fs) (m ∷ ms) (k ∷ is) [] vs v out there are placed all fit = absurd placed
with_same setting locals c s i ks known (f ∷ fs) (m ∷ ms) (k ∷ is) (t ∷ ss) [] v out there are placed all fit = no all

-- ---- the core's run

after_made : (o : Option Value) (now : Now Value) → goes_on (needs o now) (λ x. made plainly 0 [] x) ≡ needs o now
after_made None now = refl
after_made (Some v) now = refl

abbrev with_source : Source.Meaning → List Field → Source.Meaning
with_source ma ms w = ma w then λ v. fields_of ms w then λ found. needs (Written.with_fields w.text.types found v)

with_runs : (setting : Setting) (locals : Locals) (place : Place) (i : ℕ) (ks : List Shape) (known : Option (List TypeField)) (fs : List FieldPart)
    (ms : List Field) (is : List ℕ) (ss : List Shape) (a : Core) (cores : List Core) (ma : Source.Meaning)
    → fields setting.types i ≡ known → FieldsAre setting locals fs ms → Placed known fs is ss
    → RunsAs setting locals (V.Named i ks) a ma → RunAll setting locals (map (put (at ks)) ss) cores (field_values ms)
    → RunsAs setting locals (V.Named i ks) (over place (K.With i is) (a ∷ cores)) (with_source ma ms)
with_runs setting locals place i ks known fs ms is ss a cores ma there are placed ra rs registers c wc ws d slots seen now good =
    let reach : Reach = reach_of setting registers c slots in
    let s : Shape = V.Named i ks in
    let Q : Value → Type 0 = Fits setting.types c s in
    let rest_c : Run Value (List Value) = in_turn (map (core_meaning wc) cores) in
    let rest_m : Run Value (List Value) = in_turn (each (field_values ms) ws) in
    let last_c : List Value → Run Value Value = λ xs. needs (with_of i is xs) then λ v. made plainly 0 [] v in
    let last_m : Value → Bindings → Run Value Value = λ v found. needs (Written.with_fields ws.text.types found v) in
    let out : out-Shape s ≡ S.Named i ks = ap out-Shape (sym (V.rolls-Named i ks)) ∙ out-roll-Shape (S.Named i ks) in
    let r = then_agree reach Q Q (core_meaning wc a now) (ma ws now) (λ x. (rest_c then λ xs. gives (x ∷ xs)) then last_c) (λ v. fields_of ms ws then last_m v)
    (ra registers c wc ws d slots seen now good)
    (λ v later fit good2.
    let q = then_agree reach (FitAll setting.types c (map (put (at ks)) ss)) Q (rest_c later) (rest_m later) (λ xs. last_c (v ∷ xs))
    (λ xs. last_m v (zipped ms xs)) (rs registers c wc ws d slots seen later good2)
    (λ vs here all good3.
    let same = with_same setting locals c s i ks known fs ms is ss vs v out there are placed all fit in
    subst (λ types. Agree reach Q (last_c (v ∷ vs) here) (needs (Written.with_fields types (zipped ms vs) v) here)) (sym d.types) (
      after_made (with_fields i is vs v) here ∙ (λ j. needs (same.0 j) here),
      kept reach s (Written.with_fields setting.types (zipped ms vs) v) here good3 same.1,
    )) in
    let source : goes_on (fields_of ms ws later) (last_m v) ≡ goes_on (rest_m later) (λ xs. last_m v (zipped ms xs)) =
    ap (λ e. goes_on e (last_m v)) (fields_turn ms ws later) ∙ then_then (rest_m later) (λ vs. gives (zipped ms vs)) (last_m v) in (
      then_then (rest_c later) (λ xs. gives (v ∷ xs)) last_c ∙ q.0 ∙ sym source,
      subst (Keeps reach Q) (sym source) q.1,
    )) in (
      ap (λ (x : Run Value Value). x now) (unrolled wc place 0 (K.With i is) (a ∷ cores))
          ∙ then_then (core_meaning wc a now) (λ x. rest_c then λ xs. gives (x ∷ xs)) last_c ∙ r.0,
      r.1,
    )
  where
    kept : (reach : Reach) (s : Shape) (o : Option Value) (now : Now Value) → Good reach now
        → ((x : Value) → o ≡ Some x → Fits reach.types reach.choice s x) → Keeps reach (Fits reach.types reach.choice s) (needs o now)
    kept reach s None now good f = tt
    kept reach s (Some x) now good f = (f x refl, good)

-- ---- over its base

pub named_fills : (s : Shape) (i : ℕ) (ss ks : List Shape) → out-Shape s ≡ S.Named i ss → fill_all ss ks ≡ true → fills s (V.Named i ks) ≡ true
named_fills s i ss ks is h =
    ap (fills s) (sym (V.rolls-Named i ks)) ∙ ap (λ t. fills t (roll-Shape (S.Named i ks))) (sym (roll-out-Shape s) ∙ ap roll-Shape is)
    ∙ opens (S.Named i ss) (S.Named i ks) ∙ two (nat_eq i i) (fill_all ss ks) (same_nat i) h

-- what never ends has no value whose fields could be replaced
open_runs : (setting : Setting) (locals : Locals) (place : Place) (a : Found) (cores : List Core) (ma : Source.Meaning) (ms : List Field)
    → is_open a.shape ≡ true → RunsAs setting locals a.shape a.core ma
    → RunsAs setting locals V.Never (over place (K.With 0 []) (a.core ∷ cores)) (with_source ma ms)
open_runs setting locals place a cores ma ms hollow ra registers c wc ws d slots seen now good =
    let reach : Reach = reach_of setting registers c slots in
    let rest_c : Run Value (List Value) = in_turn (map (core_meaning wc) cores) in
    let last_c : List Value → Run Value Value = λ xs. needs (with_of 0 [] xs) then λ v. made plainly 0 [] v in
    let last_m : Value → Bindings → Run Value Value = λ v found. needs (Written.with_fields ws.text.types found v) in
    let r = then_agree reach (Fits setting.types c a.shape) (Fits setting.types c V.Never) (core_meaning wc a.core now) (ma ws now)
    (λ x. (rest_c then λ xs. gives (x ∷ xs)) then last_c) (λ v. fields_of ms ws then last_m v) (ra registers c wc ws d slots seen now good)
    (λ v later fit good2. absurd (open_fits setting.types c a.shape v hollow fit)) in (
      ap (λ (x : Run Value Value). x now) (unrolled wc place 0 (K.With 0 []) (a.core ∷ cores))
          ∙ then_then (core_meaning wc a.core now) (λ x. rest_c then λ xs. gives (x ∷ xs)) last_c ∙ r.0,
      r.1,
    )

-- a struct that is there, with other values in some fields
pub with_right : (setting : Setting) (locals : Locals) (place : Place) (base : Part) (fs : List FieldPart) (ma : Source.Meaning) (ms : List Field)
    → IsRight setting locals base.elaborate ma → FieldsAre setting locals fs ms
    → IsRight setting locals (with_found place base fs)
    (λ w. ma w then λ v. fields_of ms w then λ found. needs (Written.with_fields w.text.types found v))
with_right setting locals place base fs ma ms ra are want e = by_shape (named_place (out-Shape a.shape)) (shape_is (out-Shape a.shape) refl) e
  where
    a : Found
    a = base.elaborate setting locals V.Never

    IsNamed : Option (ℕ × List Shape) → Type 0
    IsNamed None = Unit {0}
    IsNamed (Some n) = out-Shape a.shape ≡ S.Named n.0 n.1

    shape_is : (y : Shape-F Shape) → out-Shape a.shape ≡ y → IsNamed (named_place y)
    shape_is (S.Named i ss) is = is
    shape_is y is = tt

    failed : (with_failed place base.place fs a setting locals want).faults ≡ []
        → Right setting locals want (with_failed place base.place fs a setting locals want) (with_source ma ms)
    failed e =
        let parts = parts_found (values_of fs) setting locals [] in
        let faults = (a.faults ++ base_faults base.place a.shape None) ++ parts.faults in
        let h = both_empty faults _ e in
        let h2 = both_empty (a.faults ++ base_faults base.place a.shape None) parts.faults h.0 in
        let h3 = both_empty a.faults (base_faults base.place a.shape None) h2.0 in
        behind_right setting locals want faults _ (with_source ma ms)
        (settled_right setting locals place want V.Never (λ s. over place (K.With 0 []) (a.core ∷ parts.cores)) (with_source ma ms) h.1
        (λ t. open_runs setting locals place a parts.cores ma ms (no_part base.place a.shape (is_open a.shape) refl h3.1) (ra V.Never h3.0).runs))

    by_named : (i : ℕ) (ss : List Shape) → out-Shape a.shape ≡ S.Named i ss → (o : Option Named) → fields_named fs (fields setting.types i) ≡ o
        → (with_named place base.place fs a i ss o setting locals want).faults ≡ []
        → Right setting locals want (with_named place base.place fs a i ss o setting locals want) (with_source ma ms)
    by_named i ss is None there e = failed e
    by_named i ss is (Some named) there e =
        let args : Solved = solved (values_of fs) setting locals named.shapes ss in
        let placed = placed_are fs (fields setting.types i) named there in
        let h = both_empty (a.faults ++ args.faults) _ e in
        let h2 = both_empty a.faults args.faults h.0 in
        let r = solved_right (values_of fs) (field_values ms) setting locals named.shapes ss (fields_right setting locals fs ms are)
        (placed_count (fields setting.types i) fs named.places named.shapes placed) h2.1 in
        behind_right setting locals want (a.faults ++ args.faults) _ (with_source ma ms)
        (settled_right setting locals place want (V.Named i args.known) (λ s. over place (K.With i named.places) (a.core ∷ args.cores)) (with_source ma ms) h.1
        (λ t. with_runs setting locals place i args.known (fields setting.types i) fs ms named.places named.shapes a.core args.cores ma refl are placed
        (widened setting locals a.shape (V.Named i args.known) a.core ma (named_fills a.shape i ss args.known is r.0) (ra V.Never h2.0).runs) r.1))

    by_shape : (o : Option (ℕ × List Shape)) → IsNamed o → (Values.with_of place base.place fs a o setting locals want).faults ≡ []
        → Right setting locals want (Values.with_of place base.place fs a o setting locals want) (with_source ma ms)
    by_shape None is e = failed e
    by_shape (Some n) is e = by_named n.0 n.1 is (fields_named fs (fields setting.types n.0)) refl e
