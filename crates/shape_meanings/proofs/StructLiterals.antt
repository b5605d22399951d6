-- Struct literals are right.
use Rattle.std.proofs.Common.{◌≡◌, ℕ, zero, suc, List, [], ◌∷◌, map, length, ap, sym, ◌∙◌, refl, subst, Bool, true, false, inl, inr, Option, Some}
use Rattle.std.proofs.Common.{None}
use Rattle.std.proofs.Common.{nat_eq, nat_lt, slice_get, option_map, if◌then◌else◌, arith}
use Rattle.std.proofs.lemmas.Bool.{and_parts}
use Rattle.std.specs.List.{position}
use Rattle.std.specs.Str.{bytes_eq}
use Rattle.sail_base.specs.declared.place.Place.{Place}
use Rattle.sail_types.specs.Named.{fields, field_types}
use Rattle.sail_types.specs.Readings.{more, together}
use Rattle.sail_types.specs.Shapes.{at, fits, each_fits, fields_fit, put, shape, shapes_under}
use Rattle.sail_types.specs.Sums.{and_then}
use Rattle.sail_types.specs.declared.shapes.Shape.{Shape}
use Rattle.sail_types.specs.declared.shapes.Shape.TheOpen as S
use Rattle.sail_types.specs.declared.shapes.Shape.TheVariants as V
use Rattle.sail_types.specs.declared.table.Field.{Field as TypeField}
use Rattle.sail_types.specs.declared.table.Types.{Types}
use Rattle.sail_types.specs.declared.values.Value.{Value}
use Rattle.sail_types.specs.declared.values.Value.TheOpen as W
use Rattle.sail_types.specs.declared.values.Value.TheVariants as Val
use Rattle.sail_syntax.specs.declared.name.Name.{Name}
use Rattle.sail_core.specs.declared.tree.Kind.TheVariants as K
use Rattle.sail_core.specs.declared.tree.Core.{Core}
use Rattle.sail_core.specs.Run as R
use Rattle.sail_core.specs.Run.{Run, needs, gives, goes_on, in_turn, ◌then◌}
use Rattle.sail_core.specs.Values.{struct_of}
use Rattle.sail_core.specs.Making.{plainly, made}
use Rattle.sail_core.specs.Meaning.{core_meaning}
use Rattle.shape_joins.specs.Learning.{holes}
use Rattle.shape_joins.proofs.Order.{no, two, same_nat}
use Rattle.shape_joins.proofs.JoinsLeast.{some_same, none}
use Rattle.sail_meaning.specs.World as Source
use Rattle.sail_meaning.specs.World.{Bindings}
use Rattle.sail_meaning.specs.Named.{field_place, field_places, struct_with}
use Rattle.sail_meaning.specs.Expressions as Written
use Rattle.sail_meaning.specs.Expressions.{Field, each, fields_of, names_of, name_of, struct_made}
use Rattle.shape_rules.specs.declared.error.ShapeError.TheVariants as error
use Rattle.shape_rules.specs.Findings.{over, refused}
use Rattle.shape_rules.specs.Scopes.{Setting, Locals}
use Rattle.shape_rules.specs.Calls.{Solved, solved, counted}
use Rattle.shape_rules.specs.Targets.{InStruct, one_further, field_named}
use Rattle.shape_rules.specs.Values.{FieldPart, values_of, Named, fields_named, field_count, struct_place, struct_at, struct_named, struct_solved}
use Rattle.shape_rules.specs.Values.{struct_found}
use Rattle.shape_rules.specs.Values.{variables_of_type}
use Rattle.shape_meanings.specs.Whole.{Choice}
use Rattle.shape_meanings.specs.Keeping.{Fits, FitAll, Reach, reach_of, Keeps}
use Rattle.shape_meanings.specs.Parts.{IsRight, FieldsAre, NotNamed, NamesApart}
use Rattle.shape_meanings.specs.Sound.{Right}
use Rattle.shape_meanings.proofs.Orders.{put_args}
use Rattle.shape_meanings.proofs.Runs.{then_agree}
use Rattle.shape_meanings.proofs.Settling.{RunsAs, settled_right, behind_right, both_empty, unrolled, form_has, same_name}
use Rattle.shape_meanings.proofs.Arguments.{RunAll, fit_count}
use Rattle.shape_meanings.proofs.Solved.{solved_right}
use Rattle.shape_meanings.proofs.Fields.{field_stands, under_at}
use Rattle.shape_meanings.proofs.Withs.{Placed, placed_are, placed_count, field_values, zipped, fields_turn, fields_right}
use Rattle.shape_meanings.proofs.Suffixes.{then_then}
use Rattle.shape_meanings.proofs.Structs.{In, NotIn, AllApart, AllIn, AtPlaces, inside, struct_fits}
use Rattle.shape_meanings.proofs.StructNames.{same_struct, bytes_same}
use Rattle.shape_meanings.proofs.Selecting.{not_none}

-- ---- all places of so many

abbrev places_to : ℕ → List ℕ
places_to zero = []
places_to (suc n) = n ∷ places_to n

so_many : (n : ℕ) → length (places_to n) ≡ n
so_many zero = refl
so_many (suc n) = ap suc (so_many n)

there_by : (k n : ℕ) (b : Bool) → nat_eq k n ≡ b → nat_lt k (suc n) ≡ true → (nat_lt k n ≡ true → In k (places_to n)) → In k (places_to (suc n))
there_by k n true is h later = inl (same k n is)
  where
    same : (k n : ℕ) → nat_eq k n ≡ true → k ≡ n
    same k n h = grind (arith, h)
there_by k n false is h later = inr (later (less k n is h))
  where
    less : (k n : ℕ) → nat_eq k n ≡ false → nat_lt k (suc n) ≡ true → nat_lt k n ≡ true
    less k n is h = grind (arith, is, h)

there : (k n : ℕ) → nat_lt k n ≡ true → In k (places_to n)
there k zero h = absurd (none_below k h)
  where
    none_below : (k : ℕ) → nat_lt k 0 ≡ true → ⊥
    none_below k h = grind (arith, h)
there k (suc n) h = there_by k n (nat_eq k n) refl h (λ l. there k n l)

-- ---- places of names that are apart

-- the field at a place has the name
pub named_if : (b : Bool) (d : TypeField) (fl : List TypeField) (name : List ℕ) (o : Option InStruct) (f : InStruct) → bytes_eq d.name name ≡ b
    → ((g : InStruct) → o ≡ Some g → (e : TypeField) × (slice_get fl g.place ≡ Some e) × (bytes_eq e.name name ≡ true))
    → (if b then Some (record { place = 0; typ = d.typ }) else one_further o) ≡ Some f
    → (e : TypeField) × (slice_get (d ∷ fl) f.place ≡ Some e) × (bytes_eq e.name name ≡ true)
named_if true d fl name o f is later h =
    (d, ap (λ (x : InStruct). slice_get (d ∷ fl) x.place) (sym (some_same (record { place = 0; typ = d.typ }) f h)), is)
named_if false d fl name None f is later h = none h
named_if false d fl name (Some g) f is later h =
    let r = later g refl in
    (r.0, ap (λ (x : InStruct). slice_get (d ∷ fl) x.place) (sym (some_same (record { place = suc g.place; typ = g.typ }) f h)) ∙ r.1, r.2)

pub named_at : (fl : List TypeField) (name : List ℕ) (f : InStruct) → field_named name fl ≡ Some f
    → (e : TypeField) × (slice_get fl f.place ≡ Some e) × (bytes_eq e.name name ≡ true)
named_at [] name f h = none h
named_at (d ∷ fl) name f h = named_if (bytes_eq d.name name) d fl name (field_named name fl) f refl (λ g is. named_at fl name g is) h

-- two fields at one place have one name
pub one_name : (fl : List TypeField) (x y : List ℕ) (f g : InStruct) → field_named x fl ≡ Some f → field_named y fl ≡ Some g → f.place ≡ g.place
    → bytes_eq x y ≡ true
one_name fl x y f g hf hg same =
    let a = named_at fl x f hf in
    let b = named_at fl y g hg in
    let e : a.0 ≡ b.0 = some_same a.0 b.0 (sym a.1 ∙ ap (slice_get fl) same ∙ b.1) in
    let left : a.0.name ≡ x = same_name a.0.name x a.2 in
    let right : b.0.name ≡ y = same_name b.0.name y b.2 in
    ap (bytes_eq x) (sym right ∙ ap (λ (d : TypeField). d.name) (sym e) ∙ left) ∙ bytes_same x

not_at : (fl : List TypeField) (name : List ℕ) (f : InStruct) (fs : List FieldPart) (is : List ℕ) (ss : List Shape) → field_named name fl ≡ Some f
    → NotNamed name fs → Placed (Some fl) fs is ss → NotIn f.place is
not_at fl name f [] [] [] h apart placed = tt
not_at fl name f (p ∷ ps) (i ∷ is) (s ∷ ss) h apart placed = (
  λ same. true_false (sym (one_name fl p.name.text name placed.0.0 f placed.0.1 h (placed.0.2 ∙ same))
      ∙ apart.0),
  not_at fl name f ps is ss h apart.1 placed.1,
)
  where
    true_false : true ≡ false → ⊥
    true_false h = cc
not_at fl name f [] [] (s ∷ ss) h apart placed = absurd placed
not_at fl name f [] (i ∷ is) ss h apart placed = absurd placed
not_at fl name f (p ∷ ps) [] ss h apart placed = absurd placed
not_at fl name f (p ∷ ps) (i ∷ is) [] h apart placed = absurd placed

places_apart : (fl : List TypeField) (fs : List FieldPart) (is : List ℕ) (ss : List Shape) → NamesApart fs → Placed (Some fl) fs is ss → AllApart is
places_apart fl [] [] [] apart placed = tt
places_apart fl (f ∷ fs) (i ∷ is) (s ∷ ss) apart placed =
    (subst (λ k. NotIn k is) placed.0.2 (not_at fl f.name.text placed.0.0 fs is ss placed.0.1 apart.0 placed.1), places_apart fl fs is ss apart.1 placed.1)
places_apart fl [] [] (s ∷ ss) apart placed = absurd placed
places_apart fl [] (i ∷ is) ss apart placed = absurd placed
places_apart fl (f ∷ fs) [] ss apart placed = absurd placed
places_apart fl (f ∷ fs) (i ∷ is) [] apart placed = absurd placed

-- ---- values at their places

typs_count : (fl : List TypeField) (us : List Shape) → length (shapes_under us (field_types fl)) ≡ length fl
typs_count [] us = refl
typs_count (f ∷ fl) us = ap suc (typs_count fl us)

places_in : (fl : List TypeField) (us : List Shape) (fs : List FieldPart) (is : List ℕ) (ss : List Shape) → Placed (Some fl) fs is ss
    → AllIn is (places_to (length fl))
places_in fl us [] [] [] placed = tt
places_in fl us (f ∷ fs) (i ∷ is) (s ∷ ss) placed =
    let stands = field_stands fl f.name.text placed.0.0 placed.0.1 in
    let inner = inside (shapes_under us (field_types fl)) placed.0.0.place _ (under_at us (field_types fl) placed.0.0.place placed.0.0.typ stands.1) in (
      subst (λ k. In k (places_to (length fl))) placed.0.2 (there placed.0.0.place (length fl) (ap (nat_lt placed.0.0.place) (sym (typs_count fl us)) ∙ inner)),
      places_in fl us fs is ss placed.1,
    )
places_in fl us [] [] (s ∷ ss) placed = absurd placed
places_in fl us [] (i ∷ is) ss placed = absurd placed
places_in fl us (f ∷ fs) [] ss placed = absurd placed
places_in fl us (f ∷ fs) (i ∷ is) [] placed = absurd placed

at_places : (types : Types) (c : Choice) (fl : List TypeField) (ks : List Shape) (fs : List FieldPart) (is : List ℕ) (ss : List Shape) (vs : List Value)
    → Placed (Some fl) fs is ss → FitAll types c (map (put (at ks)) ss) vs
    → AtPlaces types (shapes_under (map (put c) ks) (field_types fl)) is vs
at_places types c fl ks [] [] [] [] placed h = tt
at_places types c fl ks (f ∷ fs) (i ∷ is) (s ∷ ss) (v ∷ vs) placed h =
    let us : List Shape = map (put c) ks in
    let g = placed.0.0 in
    let stands = field_stands fl f.name.text g placed.0.1 in
    let k = and_parts (fits types v (put c (put (at ks) s))) (each_fits (map (fits types) vs) (map (put c) (map (put (at ks)) ss))) h in
    let t : Shape = put (at us) (shape g.typ) in (
      (
        t,
        ap (slice_get (shapes_under us (field_types fl))) (sym placed.0.2) ∙ under_at us (field_types fl) g.place g.typ stands.1,
        subst (λ x. fits types v x ≡ true) (ap (λ x. put c (put (at ks) x)) (sym placed.0.3) ∙ sym (put_args (shape g.typ) c ks)) k.0,
      ),
      at_places types c fl ks fs is ss vs placed.1 k.1,
    )
at_places types c fl ks [] [] [] (v ∷ vs) placed h = no h
at_places types c fl ks [] [] (s ∷ ss) vs placed h = absurd placed
at_places types c fl ks [] (i ∷ is) ss vs placed h = absurd placed
at_places types c fl ks (f ∷ fs) [] ss vs placed h = absurd placed
at_places types c fl ks (f ∷ fs) (i ∷ is) [] vs placed h = absurd placed
at_places types c fl ks (f ∷ fs) (i ∷ is) (s ∷ ss) [] placed h = no h

pub places_count : (known : Option (List TypeField)) (fs : List FieldPart) (is : List ℕ) (ss : List Shape) → Placed known fs is ss → length is ≡ length fs
places_count known [] [] [] h = refl
places_count known (f ∷ fs) (i ∷ is) (s ∷ ss) h = ap suc (places_count known fs is ss h.1)
places_count known [] [] (s ∷ ss) h = absurd h
places_count known [] (i ∷ is) ss h = absurd h
places_count known (f ∷ fs) [] ss h = absurd h
places_count known (f ∷ fs) (i ∷ is) [] h = absurd h

mapped_count : {A B : Type 0} (f : A → B) (xs : List A) → length (map f xs) ≡ length xs
mapped_count f [] = refl
mapped_count f (x ∷ xs) = ap suc (mapped_count f xs)

same_count : (n k : ℕ) → nat_eq n k ≡ true → n ≡ k
same_count n k h = grind (arith, h)

-- a struct of values of the fields' shapes has the struct's shape
made_fits : (types : Types) (c : Choice) (i : ℕ) (ks : List Shape) (fl : List TypeField) (fs : List FieldPart) (is : List ℕ) (ss : List Shape) (vs : List Value)
    → fields types i ≡ Some fl → NamesApart fs → Placed (Some fl) fs is ss → nat_eq (length fl) (length fs) ≡ true
    → FitAll types c (map (put (at ks)) ss) vs
    → (v : Value) × (struct_of i is vs ≡ Some v) × Fits types c (V.Named i ks) v
made_fits types c i ks fl fs is ss vs known apart placed many h =
    let us : List Shape = shapes_under (map (put c) ks) (field_types fl) in
    let full : length is ≡ length fl = places_count (Some fl) fs is ss placed ∙ sym (same_count (length fl) (length fs) many) in
    let r = struct_fits types i us is (places_to (length fl)) vs (map (λ k. Val.Unit) is) (places_apart fl fs is ss apart placed)
    (places_in fl (map (put c) ks) fs is ss placed) (so_many (length fl) ∙ sym full)
    (mapped_count (λ k. Val.Unit) is ∙ full ∙ sym (typs_count fl (map (put c) ks)))
    (λ k t there_is. inr (there k (length fl) (ap (nat_lt k) (sym (typs_count fl (map (put c) ks))) ∙ inside us k t there_is)))
    (at_places types c fl ks fs is ss vs placed h) in (
      Val.Struct i r.0,
      r.1,
      form_has types c (W.Struct i r.0) (S.Named i ks) (Val.Struct i r.0) (V.Named i ks) (Val.rolls-Struct i r.0) (V.rolls-Named i ks)
          (two (nat_eq i i) (fields_fit (map (fits types) r.0) (map (put c) ks) (fields types i)) (same_nat i)
          (subst (λ o. fields_fit (map (fits types) r.0) (map (put c) ks) o ≡ true) (sym known) r.2)),
    )

-- ---- the places in the source

places_same : (setting : Setting) (locals : Locals) (i : ℕ) (fl : List TypeField) (fs : List FieldPart) (ms : List Field) (is : List ℕ) (ss : List Shape)
    → fields setting.types i ≡ Some fl → FieldsAre setting locals fs ms → Placed (Some fl) fs is ss → field_places setting.types i (names_of ms) ≡ Some is
places_same setting locals i fl [] [] [] [] known are placed = refl
places_same setting locals i fl (f ∷ fs) (m ∷ ms) (k ∷ is) (s ∷ ss) known are placed =
    let stands = field_stands fl f.name.text placed.0.0 placed.0.1 in
    let one : field_place setting.types i m.name ≡ Some k =
    ap (field_place setting.types i) are.0 ∙ ap (λ o. and_then o (position (λ g. bytes_eq g.name f.name.text))) known ∙ stands.0 ∙ ap Some placed.0.2 in
    ap (λ o. more o (together (map (field_place setting.types i) (names_of ms)))) one
    ∙ ap (option_map (λ ys. k ∷ ys)) (places_same setting locals i fl fs ms is ss known are.2 placed.1)
places_same setting locals i fl [] (m ∷ ms) is ss known are placed = absurd are
places_same setting locals i fl (f ∷ fs) [] is ss known are placed = absurd are
places_same setting locals i fl [] [] [] (s ∷ ss) known are placed = absurd placed
places_same setting locals i fl [] [] (k ∷ is) ss known are placed = absurd placed
places_same setting locals i fl (f ∷ fs) (m ∷ ms) [] ss known are placed = absurd placed
places_same setting locals i fl (f ∷ fs) (m ∷ ms) (k ∷ is) [] known are placed = absurd placed

zipped_values : (ms : List Field) (vs : List Value) → length vs ≡ length ms → Written.values_of (zipped ms vs) ≡ vs
zipped_values [] [] many = refl
zipped_values [] (v ∷ vs) many = absurd (not_zero (length vs) many)
  where
    not_zero : (n : ℕ) → suc n ≡ zero → ⊥
    not_zero n h = grind (arith, h)
zipped_values (m ∷ ms) [] many = absurd (zero_not (length ms) many)
  where
    zero_not : (n : ℕ) → zero ≡ suc n → ⊥
    zero_not n h = grind (arith, h)
zipped_values (m ∷ ms) (v ∷ vs) many = ap (λ us. v ∷ us) (zipped_values ms vs (one_less (length vs) (length ms) many))
  where
    one_less : (n k : ℕ) → suc n ≡ suc k → n ≡ k
    one_less n k h = grind (arith, h)

fields_count : (setting : Setting) (locals : Locals) (fs : List FieldPart) (ms : List Field) → FieldsAre setting locals fs ms
    → length (values_of fs) ≡ length ms
fields_count setting locals [] [] are = refl
fields_count setting locals (f ∷ fs) (m ∷ ms) are = ap suc (fields_count setting locals fs ms are.2)
fields_count setting locals [] (m ∷ ms) are = absurd are
fields_count setting locals (f ∷ fs) [] are = absurd are

-- ---- the literal

abbrev struct_source : Option Name → List Field → Source.Meaning
struct_source name ms w =
    fields_of ms w then λ found. needs (and_then (struct_with w.text.types (name_of name) (names_of ms))
    (struct_made w (names_of ms) (Written.values_of found)))

struct_runs : (setting : Setting) (locals : Locals) (place : Place) (name : Option Name) (i : ℕ) (ks : List Shape) (fl : List TypeField) (fs : List FieldPart)
    (ms : List Field) (named : Named) (cores : List Core)
    → struct_place setting name fs ≡ Some i → fields setting.types i ≡ Some fl → fields_named fs (Some fl) ≡ Some named
    → nat_eq (length fl) (length fs) ≡ true → NamesApart fs → FieldsAre setting locals fs ms
    → RunAll setting locals (map (put (at ks)) named.shapes) cores (field_values ms)
    → RunsAs setting locals (V.Named i ks) (over place (K.Struct i named.places) cores) (struct_source name ms)
struct_runs setting locals place name i ks fl fs ms named cores placed_at known there_are many apart are runs registers c wc ws d slots seen now good =
    let reach : Reach = reach_of setting registers c slots in
    let Q : Value → Type 0 = Fits setting.types c (V.Named i ks) in
    let placed = placed_are fs (Some fl) named there_are in
    let last_c : List Value → Run Value Value = λ xs. needs (struct_of i named.places xs) then λ v. made plainly 0 [] v in
    let last_m : Bindings → Run Value Value =
    λ found. needs (and_then (struct_with ws.text.types (name_of name) (names_of ms)) (struct_made ws (names_of ms) (Written.values_of found))) in
    let rest_m : Run Value (List Value) = in_turn (each (field_values ms) ws) in
    let q = then_agree reach (FitAll setting.types c (map (put (at ks)) named.shapes)) Q (in_turn (map (core_meaning wc) cores) now) (rest_m now) last_c
    (λ vs. last_m (zipped ms vs)) (runs registers c wc ws d slots seen now good)
    (λ vs later h good2.
    let v = made_fits setting.types c i ks fl fs named.places named.shapes vs known apart placed many h in
    let full : length vs ≡ length ms =
    fit_count setting.types c (map (put (at ks)) named.shapes) vs h ∙ mapped_count (put (at ks)) named.shapes
    ∙ placed_count (Some fl) fs named.places named.shapes placed ∙ fields_count setting locals fs ms are in
    let with_types : (types : Types) → Option Value = λ types.
    and_then (struct_with types (name_of name) (names_of ms)) (λ j. and_then (field_places types j (names_of ms)) (λ ps. struct_of j ps vs)) in
    let source : last_m (zipped ms vs) later ≡ R.Gives v.0 later =
    ap (λ us. needs (and_then (struct_with ws.text.types (name_of name) (names_of ms)) (struct_made ws (names_of ms) us)) later) (zipped_values ms vs full)
    ∙ ap (λ types. needs (with_types types) later) d.types
    ∙ ap (λ o. needs (and_then o (λ j. and_then (field_places setting.types j (names_of ms)) (λ ps. struct_of j ps vs))) later)
    (same_struct setting locals name fs ms i fl named d.structs are placed_at known there_are many)
    ∙ ap (λ o. needs (and_then o (λ ps. struct_of i ps vs)) later) (places_same setting locals i fl fs ms named.places named.shapes known are placed)
    ∙ ap (λ o. needs o later) v.1 in (
      ap (λ o. goes_on (needs o later) (λ x. made plainly 0 [] x)) v.1 ∙ sym source,
      subst (Keeps reach Q) (sym source) (v.2, good2),
    )) in
    let turned : struct_source name ms ws now ≡ goes_on (rest_m now) (λ vs. last_m (zipped ms vs)) =
    ap (λ e. goes_on e last_m) (fields_turn ms ws now) ∙ then_then (rest_m now) (λ vs. gives (zipped ms vs)) last_m in (
      ap (λ (x : Run Value Value). x now) (unrolled wc place 0 (K.Struct i named.places) cores) ∙ q.0 ∙ sym turned,
      subst (Keeps reach Q) (sym turned) q.1,
    )

-- the struct's fields, of which there are as many as are written
struct_counted : (setting : Setting) (locals : Locals) (want : Shape) (place : Place) (name : Option Name) (fs : List FieldPart) (ms : List Field) (i : ℕ)
    (fl : List TypeField) (named : Named) (b : Bool)
    → struct_place setting name fs ≡ Some i → fields setting.types i ≡ Some fl → fields_named fs (Some fl) ≡ Some named → nat_eq (length fl) (length fs) ≡ b
    → NamesApart fs → FieldsAre setting locals fs ms
    → (if b then struct_solved place want i named.places (solved (values_of fs) setting locals named.shapes (holes (variables_of_type setting i)))
    else refused (error.Arity place (length fl) (length fs))).faults ≡ []
    → Right setting locals want (if b then struct_solved place want i named.places (solved (values_of fs) setting locals named.shapes
    (holes (variables_of_type setting i))) else refused (error.Arity place (length fl) (length fs))) (struct_source name ms)
struct_counted setting locals want place name fs ms i fl named false placed_at known there_are many apart are e = not_none e
struct_counted setting locals want place name fs ms i fl named true placed_at known there_are many apart are e =
    let args : Solved = solved (values_of fs) setting locals named.shapes (holes (variables_of_type setting i)) in
    let placed = placed_are fs (Some fl) named there_are in
    let h = both_empty args.faults _ e in
    let r = solved_right (values_of fs) (field_values ms) setting locals named.shapes (holes (variables_of_type setting i))
    (fields_right setting locals fs ms are)
    (placed_count (Some fl) fs named.places named.shapes placed) h.0 in
    behind_right setting locals want args.faults _ (struct_source name ms)
    (settled_right setting locals place want (V.Named i args.known) (λ s. over place (K.Struct i named.places) args.cores) (struct_source name ms) h.1
    (λ t. struct_runs setting locals place name i args.known fl fs ms named args.cores placed_at known there_are many apart are r.1))

pub struct_right : (setting : Setting) (locals : Locals) (place : Place) (name : Option Name) (fs : List FieldPart) (ms : List Field) (i : ℕ)
    (fl : List TypeField)
    → struct_place setting name fs ≡ Some i → fields setting.types i ≡ Some fl → NamesApart fs → FieldsAre setting locals fs ms
    → IsRight setting locals (struct_found place name fs)
    (λ w. fields_of ms w then λ found. needs (and_then (struct_with w.text.types (name_of name) (names_of ms))
    (struct_made w (names_of ms) (Written.values_of found))))
struct_right setting locals place name fs ms i fl is known apart are want e =
    subst (λ o. Right setting locals want (struct_at place fs o setting locals want) (struct_source name ms)) (sym is)
    (by_named (fields_named fs (fields setting.types i)) refl (subst (λ o. (struct_at place fs o setting locals want).faults ≡ []) is e))
  where
    Goes : Named → ℕ → Type 0
    Goes named n =
        (counted place n (length fs) (struct_solved place want i named.places (solved (values_of fs) setting locals named.shapes
        (holes (variables_of_type setting i))))).faults ≡ []
        → Right setting locals want (counted place n (length fs) (struct_solved place want i named.places (solved (values_of fs) setting locals named.shapes
        (holes (variables_of_type setting i))))) (struct_source name ms)

    by_named : (o : Option Named) → fields_named fs (fields setting.types i) ≡ o → (struct_named place i fs o setting locals want).faults ≡ []
        → Right setting locals want (struct_named place i fs o setting locals want) (struct_source name ms)
    by_named None there_are e = not_none e
    by_named (Some named) there_are e =
        subst (Goes named) (sym (ap field_count known))
        (λ e. struct_counted setting locals want place name fs ms i fl named (nat_eq (length fl) (length fs)) is known
        (sym (ap (fields_named fs) known) ∙ there_are) refl apart are e) e
