-- Patterns of constructors: the payload, or the parts of one that is a tuple, are all taken out, and then matched.
use Rattle.std.proofs.Common.{◌≡◌, ℕ, zero, suc, nat_eq, nat_lt, pos, Bool, true, false, ◌&&◌, List, [], ◌∷◌, map, length, Option, Some, None, option_map}
use Rattle.std.proofs.Common.{slice_get, refl, sym, ap, ◌∙◌, subst}
use Rattle.std.proofs.lemmas.Bool.{and_parts}
use Rattle.std.proofs.lemmas.Bool.Decides.{Decides-eqb}
use Rattle.std.proofs.lemmas.List.{length-map}
use Rattle.sail_base.specs.declared.place.Place.{Place}
use Rattle.sail_types.specs.Belongs.{Reading as Closed, Readings as Closeds, reading, assigned, belongs, each_belongs, fields_belong, payload_belongs}
use Rattle.sail_types.specs.Named.{fields, members, payload as payload_type}
use Rattle.sail_types.specs.Numbers.{Assignment, Positive}
use Rattle.sail_types.specs.declared.numbers.Index.{Index}
use Rattle.sail_types.specs.declared.types.Typ.{Typ, Typ-F, out-Typ, roll-Typ}
use Rattle.sail_types.specs.declared.types.Typ.TheOpen as T
use Rattle.sail_types.specs.declared.types.Typ.TheViews.{roll-out-Typ}
use Rattle.sail_types.specs.declared.values.Value.{Value, Value-F, out-Value}
use Rattle.sail_types.specs.declared.values.Value.TheOpen as V
use Rattle.sail_core.specs.Run.{Local, Run, ◌then◌}
use Rattle.sail_core.specs.Making.{Making, World, payload}
use Rattle.sail_core.specs.Values.{parts_in, form_parts}
use Rattle.sail_core.specs.declared.patterns.Head.TheVariants as H
use Rattle.sail_core.specs.Patterns.{components, payload_parts, constructed, parts_or_wrong, opened, so_many, as_run, Matcher, parts_match as run_parts}
use Rattle.value_indices.specs.declared.indices.Indices.{Indices}
use Rattle.value_indices.specs.declared.indices.Indices.TheOpen as W
use Rattle.value_indices.specs.declared.indices.Indices.TheVariants as I
use Rattle.value_indices.specs.declared.indices.Reading.{Reading}
use Rattle.value_indices.specs.declared.indices.Reading.TheVariants as R
use Rattle.value_indices.specs.declared.notes.Fact.{Fact}
use Rattle.value_indices.specs.Steps.{Walk, bind, give, note}
use Rattle.checked_meaning.specs.Items.{Item, item, part_typ}
use Rattle.checked_meaning.specs.Checked.{Cases}
use Rattle.wide_types.specs.Widening.{parameters_of}
use Rattle.call_arguments.specs.Callees.{type_parameters}
use Rattle.pattern_leaves.specs.declared.names.Bound.{Bound}
use Rattle.pattern_leaves.specs.Settings.{Around}
use Rattle.pattern_leaves.specs.Payloads.{part_types, payload_types, payload_readings}
use Rattle.pattern_notes.specs.declared.matching.Matching.{Matching}
use Rattle.pattern_notes.specs.Patterns.{Look, named_readings, taken_out, all_taken, constructor_met, is_union, union_met}
use Rattle.value_laws.specs.Belonging.{Integers, standing, closeds, closed, types_or_own, form_holds}
use Rattle.value_laws.specs.Known.{Point, Agree, Later, Goes}
use Rattle.value_laws.proofs.Basics.{no, fronts}
use Rattle.value_laws.proofs.Steps.{same, agree_on, gives, goes_on, goes_then}
use Rattle.value_laws.proofs.Values.{closed_is, form_asked, inner, belongs_form}
use Rattle.value_laws.proofs.Alike.{asks}
use Rattle.value_laws.proofs.Arguments.{assigned_there}
use Rattle.fitting_laws.proofs.Within.{AllWithin, belongs_within}
use Rattle.pattern_laws.specs.Beside.{AllMet, Stands, Ends, OfSizes, Behind, Beside}
use Rattle.pattern_laws.specs.Typing.{AsMany, Typing, Bears, EachReads}
use Rattle.pattern_laws.specs.Standing.{each_stands, is_size, size_of, payload_stands, union_stands, constructor_stands}
use Rattle.pattern_laws.proofs.Conditions.{met_behind, met_front}
use Rattle.pattern_laws.proofs.Steps.{walks, falling, knowing, wrongs}
use Rattle.pattern_laws.proofs.Tables.{union_alone, not_below_none}
use Rattle.pattern_laws.proofs.Values.{named_had, named_types, named_numbers}
use Rattle.pattern_laws.proofs.Points.{Kept, EachIs, EachSuits, all_bear, ItemOf, of_on, takes}
use Rattle.pattern_laws.proofs.Parts.{reads, Grounds, grounds_on, Names, AllWell, AllStand, all_stand, parts_beside, seen_parts, as_many}
use Rattle.pattern_laws.proofs.Heads.{components_long, as_many_stand}

module _ (around : Around) (past : Positive) (own : List Closed) {fit : OfSizes} (y : Typing around.types past own fit) (q : Ends fit) (cases : Cases)
    (w : World Item) where
  abbrev Found : Behind (List Bound) (List (Local Item))
  Found = Names around past own y q cases w

  abbrev Good : {n : ℕ} → Point n → Type 0
  Good f = Grounds around past own y q cases w f

  abbrev Fine : List Look → List (Matcher Item) → List Bool → Type 0
  Fine looks ms ss = AllWell around past own y q cases w looks ms ss

  abbrev z : Making Item
  z = reads around past own y q cases w

  abbrev there : Integers → Assignment
  there g = standing past g

  abbrev Of : {n : ℕ} → Point n → Reading → Item → Type 0
  Of f r x = ItemOf around.types past own y f r x

  -- ---- several values that are taken out

  abbrev pub EachOf : {n : ℕ} → Point n → List Reading → List Item → Type 0
  EachOf f [] [] = Unit {0}
  EachOf f (r ∷ rs) (x ∷ xs) = Of f r x × EachOf f rs xs
  EachOf f rs xs = ⊥

  each_on : {n m : ℕ} {f : Point n} {g : Point m} (rs : List Reading) (xs : List Item) → Later f g → EachOf f rs xs → EachOf g rs xs
  each_on [] [] l h = tt
  each_on [] (x ∷ xs) l h = absurd h
  each_on (r ∷ rs) [] l h = absurd h
  each_on (r ∷ rs) (x ∷ xs) l h = (of_on around.types past own y l h.0, each_on rs xs l h.1)

  abbrev AllTaken : List Item → (n : ℕ) → Point n → List Fact → Walk (List Indices) → Type 0
  AllTaken xs n f facts walk =
      (ks : List (Kept around.types past own y)) × EachSuits around.types past own y ks xs
      × Goes past n f facts walk (λ g is. EachIs around.types past own y ks g is)

  takes_all : (place : Place) (looks : List Look) (rs : List Reading) (xs : List Item) {n : ℕ} {f : Point n} {facts : List Fact}
      → AllMet q past (all_taken place (named_readings looks rs) facts n).notes → Stands q past f facts → length rs ≡ length looks
      → EachOf f rs xs → AllTaken xs n f facts (all_taken place (named_readings looks rs))
  unfolding bind note
  takes_all place [] [] [] met stands e h = ([], tt, gives [] (λ g a. tt))
  takes_all place [] [] (x ∷ xs) met stands e h = absurd h
  takes_all place [] (r ∷ rs) xs met stands e h = absurd (cc)
  takes_all place (a ∷ looks) [] xs met stands e h = absurd (cc)
  takes_all place (a ∷ looks) (r ∷ rs) [] met stands e h = absurd h
  takes_all place (a ∷ looks) (r ∷ rs) (x ∷ xs) {n} {f} {facts} met stands e h =
      let out = taken_out place a.naming r in
      let rest = all_taken place (named_readings looks rs) in
      let here = met_front q past (out facts n).notes _ met in
      let behind = met_front q past (rest (out facts n).facts (out facts n).next).notes _ (met_behind q past (out facts n).notes _ met) in
      let one = takes around.types past own y {n = n} {f = f} {facts = facts} place a.naming r x (λ g c. here.0 g (stands.there g c) (stands.so g c)) h.0 in
      let first = one.2.goes in
      let now : Stands q past first.point (out facts n).facts =
      record {
        there = λ g c. first.true_there g c (stands.there g (agree_on first.later c));
        so = λ g c. subst (q.so g) (sym first.given) (stands.so g (agree_on first.later c));
      } in
      let more : AllTaken xs (out facts n).next first.point (out facts n).facts (all_taken place (named_readings looks rs)) =
      takes_all place looks rs xs behind now (suc_same e) (each_on rs xs first.later h.1) in (
        (one.0, x.typ) ∷ more.0,
        ((one.1, refl), more.1),
        goes_on (λ i. bind (all_taken place (named_readings looks rs)) (λ is. give (i ∷ is))) one.2
            (goes_then more.2 (λ m g fs is l held. gives ((out facts n).value ∷ is) (λ k c. (first.holds k (agree_on l c), held k c)))),
      )
    where
      suc_same : {i j : ℕ} → suc i ≡ suc j → i ≡ j
      suc_same k = cc

  met_beside : {n : ℕ} {f : Point n} {facts : List Fact} (place : Place) (how : Matching) (looks : List Look) (ms : List (Matcher Item))
      (ss : List Bool) → Fine looks ms ss → (rs : List Reading) (xs : List Item) → length rs ≡ length looks → EachOf f rs xs → Good f
      → AllStand around past own y q cases w ss → Beside q past n f facts (constructor_met place looks around how rs) (run_parts ms xs) Found
  unfolding bind
  met_beside {n} {f} {facts} place how looks ms ss fine rs xs e h s t =
      let told : AllMet q past (constructor_met place looks around how rs facts n).notes → Stands q past f facts
      → AllTaken xs n f facts (all_taken place (named_readings looks rs)) =
      λ met stands. takes_all place looks rs xs (met_front q past (all_taken place (named_readings looks rs) facts n).notes _ met) stands e h in
      knowing told (λ all. walks all.2 (λ m g fs is l held.
      parts_beside around past own y q cases w place how looks ms ss fine is xs (all_bear around.types past own y is all.0 xs all.1 held)
      (grounds_on around past own y q cases w l s) t))

  -- ---- a payload, of a type under what the variables of the union stand for

  -- the types of its Type variables, and those of the function's behind them
  own_behind : (cs ds : List Closed) → AllWithin around.types (closeds cs) (closeds (types_or_own cs ds))
  own_behind [] ds i w b = no b
  own_behind (c ∷ cs) [] i w b = b
  own_behind (c ∷ cs) (d ∷ ds) zero w b = b
  own_behind (c ∷ cs) (d ∷ ds) (suc i) w b = own_behind cs ds i w b

  wider : (v : Value) (t : Typ) (nu : Assignment) (cs : List Closed) → belongs around.types v (reading t nu (closeds cs)) ≡ true
      → belongs around.types v (reading t nu (closeds (types_or_own cs own))) ≡ true
  wider v t nu cs h = belongs_within around.types v t nu (closeds cs) (closeds (types_or_own cs own)) (own_behind cs own) h

  abbrev Steady : {n : ℕ} → Point n → Reading → Type 0
  Steady f r = (g : Integers) → Agree f g → closed around.types (there g) own r ≡ closed around.types (there f.integers) own r

  steady_of : {n : ℕ} {f : Point n} (u : ℕ) (is : List Index) (rs : List Reading) (x : Item) → Bears around.types past own y f (I.Named u is rs) x
      → (t : Typ) → Steady f (R.Of t is rs)
  steady_of {f = f} u is rs x b t g a =
      let here = f.integers in
      let wide = b.is_wide g a ∙ sym (b.is_wide here (same f)) in
      let numbers : assigned (there g) is ≡ assigned (there here) is =
      sym (assigned_there past g is) ∙ ap (assigned (standing past (λ i. pos 0))) (named_numbers around.types past own g here u is rs wide)
      ∙ assigned_there past here is in
      closed_is around.types (there g) own (R.Of t is rs) (W.Of t is rs) (R.rolls-Of t is rs)
      ∙ (λ j. reading t (numbers j) (closeds (types_or_own (named_types around.types past own g here u is rs wide j) own)))
      ∙ sym (closed_is around.types (there here) own (R.Of t is rs) (W.Of t is rs) (R.rolls-Of t is rs))

  -- what the Type variables of the union stand for
  abbrev stood : Integers → List Reading → Closeds
  stood g rs = closeds (types_or_own (map (closed around.types (there g) own) rs) own)

  -- a payload, under what the variables of the union stand for, and so with the function's Type variables behind them
  abbrev Inside : Integers → List Index → List Reading → Typ → Value → Type 0
  Inside g is rs t v = belongs around.types v (reading t (assigned (there g) is) (closeds (map (closed around.types (there g) own) rs))) ≡ true

  outside : (is : List Index) (rs : List Reading) (t : Typ) (v : Value) (g : Integers) → Inside g is rs t v
      → belongs around.types v (reading t (assigned (there g) is) (stood g rs)) ≡ true
  outside is rs t v g h = wider v t (assigned (there g) is) (map (closed around.types (there g) own) rs) h

  -- what a constructor is over
  abbrev union_item : ℕ → ℕ → Item → Value → Item
  union_item u c x v = item (part_typ around.types (payload u c) x.typ) v

  of_union : {n : ℕ} {f : Point n} (u c : ℕ) (is : List Index) (rs : List Reading) (t : Typ) (x : Item) (v : Value) → payload_type around.types u c ≡ Some t
      → AsMany around.types u rs → Bears around.types past own y f (I.Named u is rs) x → ((g : Integers) → Agree f g → Inside g is rs t v)
      → Of f (R.Of t is rs) (item (part_typ around.types (payload u c) x.typ) v)
  of_union {f = f} u c is rs t x v e several b inside = record {
    typ = closed around.types (there f.integers) own (R.Of t is rs);
    is_typ = steady_of u is rs x b t;
    belongs_to = ap (belongs around.types v) (closed_is around.types (there f.integers) own (R.Of t is rs) (W.Of t is rs) (R.rolls-Of t is rs))
        ∙ outside is rs t v f.integers (inside f.integers (same f));
    reads = λ g a. y.kept.of_union g u c is rs x.typ t e several (b.typed g a);
  }

  -- the parts of one that is a tuple
  parts_of : {n : ℕ} {f : Point n} (is : List Index) (rs : List Reading) (ts : List Typ) (x : Item) (k : ℕ) (vs : List Value)
      → ((t : Typ) → Steady f (R.Of t is rs))
      → each_belongs (asks around.types vs) (assigned (there f.integers) is) (stood f.integers rs) ts ≡ true
      → ((g : Integers) → Agree f g → EachReads around.types (y.reads g) x.typ k (payload_readings ts is rs))
      → EachOf f (payload_readings ts is rs) (components z x k vs)
  parts_of is rs [] x k [] steady h r = tt
  parts_of is rs [] x k (v ∷ vs) steady h r = no h
  parts_of is rs (t ∷ ts) x k [] steady h r = no h
  parts_of {f = f} is rs (t ∷ ts) x k (v ∷ vs) steady h r =
      let here = f.integers in
      let both = and_parts (belongs around.types v (reading t (assigned (there here) is) (stood here rs)))
      (each_belongs (asks around.types vs) (assigned (there here) is) (stood here rs) ts) h in (
        record {
          typ = closed around.types (there here) own (R.Of t is rs);
          is_typ = steady t;
          belongs_to = ap (belongs around.types v) (closed_is around.types (there here) own (R.Of t is rs) (W.Of t is rs) (R.rolls-Of t is rs)) ∙ both.0;
          reads = λ g a. (r g a).0;
        },
        parts_of is rs ts x (suc k) vs steady both.1 (λ g a. (r g a).1),
      )

  -- a value of a tuple is one
  tuple_value : (t : Typ) (ts : List Typ) (mu : Assignment) (rs : Closeds) (v : Value) → out-Typ t ≡ T.Tuple ts
      → belongs around.types v (reading t mu rs) ≡ true → (w : Value-F Value) → out-Value v ≡ w
      → (vs : List Value) × (w ≡ V.Tuple vs) × (each_belongs (asks around.types vs) mu rs ts ≡ true)
  tuple_value t ts mu rs v e h (V.Tuple vs) d = (
    vs,
    refl,
    ap (each_belongs (asks around.types vs) mu rs) (sym (fronts (inner around.types (V.Tuple vs) rs) ts))
        ∙ ap (λ w. form_asked around.types w (T.Tuple ts) mu rs) (sym d)
        ∙ sym (belongs_form around.types v (T.Tuple ts) t mu rs (ap roll-Typ (sym e) ∙ roll-out-Typ t)) ∙ h,
  )
  tuple_value t ts mu rs v e h w d =
      no (ap (λ w. form_asked around.types w (T.Tuple ts) mu rs) (sym d)
      ∙ sym (belongs_form around.types v (T.Tuple ts) t mu rs (ap roll-Typ (sym e) ∙ roll-out-Typ t)) ∙ h)

  -- ---- the constructor is the value's, with this payload

  module _ {n : ℕ} {f : Point n} (facts : List Fact) (place : Place) (how : Matching) (u c : ℕ) (is : List Index) (rs : List Reading) (x : Item)
      (b : Bears around.types past own y f (I.Named u is rs) x) (s : Good f) (t : Typ) (there_is : payload_type around.types u c ≡ Some t)
      (as_told : AsMany around.types u rs) (v : Value)
      (inside : (g : Integers) → Agree f g → Inside g is rs t v) where
    held : belongs around.types v (reading t (assigned (there f.integers) is) (stood f.integers rs)) ≡ true
    held = outside is rs t v f.integers (inside f.integers (same f))

    -- as many parts as patterns
    several : (looks : List Look) (ms : List (Matcher Item)) (ss : List Bool) → Fine looks ms ss → (ts : List Typ) → out-Typ t ≡ T.Tuple ts
        → length ts ≡ length ss → AllStand around past own y q cases w ss
        → Beside q past n f facts (constructor_met place looks around how (payload_readings ts is rs))
        (as_run (so_many (length ms) (parts_or_wrong (option_map (components z (union_item u c x v) 0) (parts_in v)))) then run_parts ms) Found
    several looks ms ss fine ts e long d =
        let of = of_union u c is rs t x v there_is as_told b inside in
        let tuple = tuple_value t ts (assigned (there f.integers) is) (stood f.integers rs) v e held (out-Value v) refl in
        let vs = tuple.0 in
        let parts = parts_of is rs ts (union_item u c x v) 0 vs (steady_of u is rs x b) tuple.2
        (λ g a. y.kept.of_tuple g t ts is rs (union_item u c x v).typ e (of.reads g a)) in
        let many : length vs ≡ length ts = belong_long vs ts tuple.2 in
        let readings : length (payload_readings ts is rs) ≡ length looks =
        length-map ts (λ t. R.Of t is rs) ∙ long ∙ as_many_stand around past own y q cases w looks ms ss fine
        ∙ as_many around past own y q cases w looks ms ss fine in
        subst (λ o. Beside q past n f facts (constructor_met place looks around how (payload_readings ts is rs))
        (as_run (so_many (length ms) (parts_or_wrong (option_map (components z (union_item u c x v) 0) (form_parts o)))) then run_parts ms) Found) (sym tuple.1)
        (seen_parts around past own y q cases w ms (components z (union_item u c x v) 0 vs)
        (components_long around past own y q cases w (union_item u c x v) 0 vs ∙ many ∙ long ∙ as_many_stand around past own y q cases w looks ms ss fine)
        (met_beside place how looks ms ss fine (payload_readings ts is rs) (components z (union_item u c x v) 0 vs) readings parts s d))
      where
        belong_long : (vs : List Value) (ts : List Typ)
            → each_belongs (asks around.types vs) (assigned (there f.integers) is) (stood f.integers rs) ts ≡ true → length vs ≡ length ts
        belong_long [] [] h = refl
        belong_long [] (t ∷ ts) h = no h
        belong_long (v ∷ vs) [] h = no h
        belong_long (v ∷ vs) (t ∷ ts) h =
            ap suc (belong_long vs ts (and_parts (belongs around.types v (reading t (assigned (there f.integers) is) (stood f.integers rs))) _ h).1)

    abbrev Payload : List Look → List (Matcher Item) → Type 0
    Payload looks ms =
        Beside q past n f facts (constructor_met place looks around how (payload_readings (payload_types (length looks) (Some t)) is rs))
        (as_run (so_many (length ms) (parts_or_wrong (payload_parts z (length ms) (union_item u c x v)))) then run_parts ms) Found

    parts_by : (looks : List Look) (ms : List (Matcher Item)) (ss : List Bool) → Fine looks ms ss → (form : Typ-F Typ) → out-Typ t ≡ form
        → is_size (length ss) (size_of form) ≡ true → AllStand around past own y q cases w ss
        → Beside q past n f facts (constructor_met place looks around how (payload_readings (part_types t form) is rs))
        (as_run (so_many (length ms) (parts_or_wrong (option_map (components z (union_item u c x v) 0) (parts_in v)))) then run_parts ms) Found
    parts_by looks ms ss fine (T.Tuple ts) e d a = several looks ms ss fine ts e ((Decides-eqb (length ts) (length ss)).0 d) a
    parts_by looks ms ss fine form e d a = no d

    payload_beside : (looks : List Look) (ms : List (Matcher Item)) (ss : List Bool) → Fine looks ms ss → payload_stands (length ss) t ≡ true
        → AllStand around past own y q cases w ss → Payload looks ms
    payload_beside [] [] [] fine d all = parts_by [] [] [] fine (out-Typ t) refl d all
    payload_beside (a ∷ []) (m ∷ []) (k ∷ []) fine d all =
        seen_parts around past own y q cases w (m ∷ []) ((union_item u c x v) ∷ []) refl
        (met_beside place how (a ∷ []) (m ∷ []) (k ∷ []) fine (R.Of t is rs ∷ []) ((union_item u c x v) ∷ []) refl
        (of_union u c is rs t x v there_is as_told b inside, tt) s all)
    payload_beside (a ∷ a2 ∷ looks) (m ∷ m2 ∷ ms) (k ∷ k2 ∷ ss) fine d all =
        parts_by (a ∷ a2 ∷ looks) (m ∷ m2 ∷ ms) (k ∷ k2 ∷ ss) fine (out-Typ t) refl d all
    payload_beside [] [] (k ∷ ss) fine d all = absurd fine
    payload_beside [] (m ∷ ms) ss fine d all = absurd fine
    payload_beside (a ∷ looks) [] ss fine d all = absurd fine
    payload_beside (a ∷ looks) (m ∷ ms) [] fine d all = absurd fine
    payload_beside (a ∷ []) (m ∷ []) (k ∷ k2 ∷ ss) fine d all = absurd fine.1
    payload_beside (a ∷ []) (m ∷ m2 ∷ ms) (k ∷ ss) fine d all = absurd fine.1
    payload_beside (a ∷ a2 ∷ looks) (m ∷ []) (k ∷ ss) fine d all = absurd fine.1
    payload_beside (a ∷ a2 ∷ looks) (m ∷ m2 ∷ ms) (k ∷ []) fine d all = absurd fine.1

  -- ---- whichever constructor it is

  constructs : {n : ℕ} {f : Point n} {facts : List Fact} {walk : Walk (List Bound)} (k : ℕ) (ms : List (Matcher Item)) (c : Bool) (o : Option (List Item))
      → (c ≡ true → Beside q past n f facts walk (as_run (so_many k (parts_or_wrong o)) then run_parts ms) Found)
      → Beside q past n f facts walk (as_run (so_many k (constructed c o)) then run_parts ms) Found
  constructs k ms true o h = h refl
  constructs k ms false o h = falling

  union_held : (u c : ℕ) (is : List Index) (rs : List Reading) (t : Typ) (g : Integers) → payload_type around.types u c ≡ Some t → (j k : ℕ) (v : Value)
      → form_holds around.types (there g) own (W.Named u is (map (closed around.types (there g) own) rs)) (V.Union j k v) ≡ true
      → (nat_eq j u && nat_eq k c) ≡ true → Inside g is rs t v
  union_held u c is rs t g e j k v h d =
      let both = and_parts (nat_eq j u) (nat_eq k c) d in
      let cs = map (closed around.types (there g) own) rs in
      let of = payload_belongs (belongs around.types v) (assigned (there g) is) (closeds cs) in
      let found : payload_type around.types j k ≡ Some t =
      (λ i. payload_type around.types ((Decides-eqb j u).0 both.0 i) ((Decides-eqb k c).0 both.1 i)) ∙ e in
      ap of (sym found) ∙ (and_parts (nat_eq j u) (of (payload_type around.types j k)) h).1

  abbrev Union : (n : ℕ) → Point n → List Fact → Place → Matching → ℕ → ℕ → List Index → List Reading → Item → List Look → List (Matcher Item)
      → Option Typ → Value-F Value → Type 0
  Union n f facts place how u c is rs x looks ms o v =
      Beside q past n f facts (constructor_met place looks around how (payload_readings (payload_types (length looks) o) is rs))
      (as_run (so_many (length ms) (opened z w.numbers (H.Constructor u c) (length ms) x v)) then run_parts ms) Found

  of_its_own : {n : ℕ} {f : Point n} {facts : List Fact} (place : Place) (how : Matching) (u c : ℕ) (is : List Index) (rs : List Reading) (x : Item)
      → Bears around.types past own y f (I.Named u is rs) x → Good f → (looks : List Look) (ms : List (Matcher Item)) (ss : List Bool)
      → Fine looks ms ss → (t : Typ) → payload_type around.types u c ≡ Some t → AsMany around.types u rs → payload_stands (length ss) t ≡ true
      → AllStand around past own y q cases w ss → (v : Value-F Value)
      → ((g : Integers) → Agree f g → form_holds around.types (there g) own (W.Named u is (map (closed around.types (there g) own) rs)) v ≡ true)
      → Union n f facts place how u c is rs x looks ms (Some t) v
  of_its_own {f = f} {facts = facts} place how u c is rs x b s looks ms ss fine t e many d all (V.Union j k v) h =
      constructs (length ms) ms (nat_eq j u && nat_eq k c) _ (λ same_one.
      payload_beside facts place how u c is rs x b s t e many v (λ g a. union_held u c is rs t g e j k v (h g a) same_one) looks ms ss fine d all)
  of_its_own {f = f} place how u c is rs x b s looks ms ss fine t e many d all (V.Struct j vs) h =
      let cs = map (closed around.types (there f.integers) own) rs in
      let of = fields_belong (asks around.types vs) (assigned (there f.integers) is) (closeds cs) in
      let both = and_parts (nat_eq j u) (of (fields around.types j)) (h f.integers (same f)) in
      no (sym (ap of (ap (fields around.types) ((Decides-eqb j u).0 both.0) ∙ (union_alone around.types u c t e).0)) ∙ both.1)
  of_its_own {f = f} place how u c is rs x b s looks ms ss fine t e many d all (V.Member j k) h =
      let both = and_parts (nat_eq j u) (nat_lt k (length (members around.types j))) (h f.integers (same f)) in
      not_below_none k (ap (λ (l : List (List ℕ)). nat_lt k (length l)) (sym (ap (members around.types) ((Decides-eqb j u).0 both.0)
      ∙ (union_alone around.types u c t e).1)) ∙ both.1)
  of_its_own {f = f} place how u c is rs x b s looks ms ss fine t e many d all v h = no (h f.integers (same f))

  of_union_of : {n : ℕ} {f : Point n} {facts : List Fact} (place : Place) (how : Matching) (u c : ℕ) (is : List Index) (rs : List Reading) (x : Item)
      → Bears around.types past own y f (I.Named u is rs) x → Good f → (looks : List Look) (ms : List (Matcher Item)) (ss : List Bool)
      → Fine looks ms ss → (o : Option Typ) → payload_type around.types u c ≡ o → AsMany around.types u rs → union_stands (length ss) o ≡ true
      → AllStand around past own y q cases w ss
      → Union n f facts place how u c is rs x looks ms o (out-Value x.val)
  of_union_of place how u c is rs x b s looks ms ss fine None e many d all = no d
  of_union_of {f = f} place how u c is rs x b s looks ms ss fine (Some t) e many d all =
      of_its_own place how u c is rs x b s looks ms ss fine t e many d all (out-Value x.val)
      (λ g a. named_had around.types past own g u is rs x.val (b.has_it g a))

  -- the value may be of another union
  of_own : {n : ℕ} {f : Point n} {facts : List Fact} {c : Run Item (List (Local Item))} (place : Place) (same_union : Bool) (walk : Walk (List Bound))
      → (same_union ≡ true → Beside q past n f facts walk c Found) → Beside q past n f facts (union_met place same_union walk) c Found
  of_own place true walk h = h refl
  of_own place false walk h = wrongs place

  pub union_beside : {n : ℕ} {f : Point n} {facts : List Fact} (place : Place) (how : Matching) (u c v : ℕ) (is : List Index) (rs : List Reading) (x : Item)
      → Bears around.types past own y f (I.Named v is rs) x → Good f → (looks : List Look) (ms : List (Matcher Item)) (ss : List Bool)
      → Fine looks ms ss → (constructor_stands around.types u c (length ss) && each_stands ss) ≡ true
      → Beside q past n f facts (union_met place (is_union around u v rs)
      (constructor_met place looks around how (payload_readings (payload_types (length looks) (payload_type around.types u c)) is rs)))
      (as_run (so_many (length ms) (opened z w.numbers (H.Constructor u c) (length ms) x (out-Value x.val))) then run_parts ms) Found
  union_beside {f = f} place how u c v is rs x b s looks ms ss fine d =
      of_own place (is_union around u v rs)
      (constructor_met place looks around how (payload_readings (payload_types (length looks) (payload_type around.types u c)) is rs)) (λ e.
      let told = and_parts (nat_eq u v) (nat_eq (length rs) (type_parameters (parameters_of (slice_get around.types.definitions u)))) e in
      let its_own : v ≡ u = sym ((Decides-eqb u v).0 told.0) in
      let many : AsMany around.types u rs =
      (Decides-eqb (length rs) (type_parameters (parameters_of (slice_get around.types.definitions u)))).0 told.1 in
      let both = and_parts (constructor_stands around.types u c (length ss)) (each_stands ss) d in
      of_union_of place how u c is rs x (subst (λ j. Bears around.types past own y f (I.Named j is rs) x) its_own b) s looks ms ss fine
      (payload_type around.types u c) refl many both.0 (all_stand around past own y q cases w ss both.1))
