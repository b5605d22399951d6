-- A note that is read without refusal and tested is met by cases that are worked out from the numbers of the instance and from those that are noted.
use Rattle.std.proofs.Common.{◌≡◌, ◌∙◌, ap, sym, refl, subst, ℕ, ◌/◌, nat_eq, ℤ, Bool, true, false, ◌&&◌, ◌||◌, ◌⊎◌, inl, inr, List, [], ◌∷◌, map}
use Rattle.std.proofs.Common.{length, slice_get, Option, Some, None, if◌then◌else◌}
use Rattle.std.specs.Prelude.{is_some, option_map}
use Rattle.std.specs.List.{list_all, list_any}
use Rattle.std.proofs.lemmas.Bool.{and_parts}
use Rattle.std.proofs.lemmas.Bool.Decides.{Decides-eqb}
use Rattle.sail_base.specs.declared.place.Place.{Place}
use Rattle.sail_types.specs.Places.{an_int, first, only}
use Rattle.sail_types.specs.declared.numbers.Index.{Index}
use Rattle.sail_types.specs.declared.table.Types.{Types}
use Rattle.sail_types.specs.declared.values.Value.{Value}
use Rattle.sail_core.specs.Numbers.{Instance as Awaits}
use Rattle.sail_core.specs.declared.tree.Callee.{Callee}
use Rattle.sail_core.specs.declared.tree.Callee.TheVariants as D
use Rattle.sail_core.specs.declared.tree.Giver.{Giver}
use Rattle.value_indices.specs.Steps.{Note, goal_note, size_note, made_note, call_note, way_note, given_note, name_note}
use Rattle.value_indices.specs.declared.indices.Indices.{Indices}
use Rattle.value_indices.specs.declared.indices.Reading.{Reading}
use Rattle.value_indices.specs.declared.notes.Fact.{Fact}
use Rattle.value_indices.specs.declared.notes.Made.{Made}
use Rattle.value_indices.specs.declared.notes.Made.TheVariants as Makes
use Rattle.value_laws.specs.Belonging.{Integers, has, standing, is_of}
use Rattle.value_laws.proofs.Basics.{no, two}
use Rattle.size_values.specs.declared.constants.Constant.{Constant}
use Rattle.size_values.specs.declared.constants.Constant.TheVariants as C
use Rattle.size_values.specs.Numbers.{index_under, known_of, number_in}
use Rattle.size_values.specs.Sized.{all_eq, integer_of, number_where, numbers_eq, reading_sized}
use Rattle.size_splits.specs.Bodies.{Body}
use Rattle.size_splits.specs.Sizing.{Sizing, flags_of}
use Rattle.size_splits.specs.Splits.{counted}
use Rattle.split_laws.specs.Counted.{IsCounted, IsIn}
use Rattle.split_laws.proofs.Basics.{either, or_cases}
use Rattle.monomorph.specs.declared.found.Found.{Found}
use Rattle.monomorph.specs.declared.found.Found.TheVariants as F
use Rattle.sized_nodes.specs.declared.trees.Instance.{Instance}
use Rattle.monomorph.specs.Reading.{Inside, given, instance_of, under}
use Rattle.checked_meaning.specs.Checked.{Cases, Noted}
use Rattle.sized_nodes.specs.declared.trees.SizedInstance.{SizedInstance}
use Rattle.sized_trees.specs.Cases.{place_in}
use Rattle.sized_trees.specs.Combinations.{is_given}
use Rattle.sized_trees.specs.Within.{is_number}
use Rattle.sized_meanings.specs.Noting.{noted_by}
use Rattle.sized_meanings.specs.Present.{gives_at}
use Rattle.sized_meanings.specs.Sized.{numbers_of}
use Rattle.soundness_steps.specs.Works.{Setting, Work}
use Rattle.soundness_steps.specs.Noted.{HasNumbers, IsSo, MadeAs, is_made, known, type_sized, variables_given, OpensAs}
use Rattle.soundness_steps.specs.Covers.{AllAgree, IsMet, SizesFit}
use Rattle.noting_laws.specs.Noting.{IsNamed}
use Rattle.noting_laws.proofs.Noted as Behind
use Rattle.note_laws.specs.Notes.{EachNote, OfOthers}
use Rattle.exact_sizes.specs.Among.{SameAmong}
use Rattle.told_sizes.specs.Among.{index_among, reading_among}
use Rattle.told_sizes.specs.Exact.{is_exact_index, only_if}
use Rattle.exact_sizes.specs.Laws.{More, Stands}
use Rattle.exact_sizes.proofs.Alike as Alike
use Rattle.exact_sizes.proofs.Among as Among
use Rattle.exact_sizes.proofs.Among.{sizes_hang}
use Rattle.exact_sizes.proofs.Equal.{numbers_same}
use Rattle.exact_sizes.proofs.Known.{some_there}
use Rattle.exact_sizes.proofs.Told.{told_hang}
use Rattle.covering_laws.specs.Closed.{IsAmong, NoteIsRead, NotesAreRead}
use Rattle.covering_laws.specs.Given.{bodies_given, call_given, call_passes, called_at, called_in, calls_at, cases_given, first_noted}
use Rattle.covering_laws.specs.Given.{function_given, is_certain, is_node, is_told, made_given, made_in, made_now, makes_at, note_given, noted_given}
use Rattle.covering_laws.specs.Given.{is_known, now, numbers_among, or_noted}
use Rattle.tabled_cores.specs.Notes.{tells, type_given}
use Rattle.covering_laws.specs.Laws.{ArePlaced, AreCovered}
use Rattle.node_counts.specs.Told.{NoteIn, all_noted, are_alike, are_apart, are_single, is_apart, note_in}
use Rattle.covering_laws.specs.Tested.{agrees_there, all_nodes, inside}
use Rattle.tabled_cores.specs.Notes.{numbers_pass}
use Rattle.covering_laws.proofs.Agreeing.{given_agree}
use Rattle.covering_laws.proofs.Bodies.{each_of, each_there, noted_there}
use Rattle.covering_laws.proofs.Found.{given_pass, indices_in_limit, note_is_read}
use Rattle.covering_laws.proofs.KindsGiven.{GivesNumbers, are_nums}
use Rattle.covering_laws.proofs.Notes as Notes
use Rattle.covering_laws.proofs.Notes.{given_noted, only_there, sized_as_many, work_of}
use Rattle.covering_laws.proofs.Places.{all_in, is_not, numbers_agree, place_found}
use Rattle.covering_laws.proofs.Telling.{told_fits}
use Rattle.size_laws.specs.Told.{reading_told}

-- ---- what is found first

pub only_false : {A : Type 0} (b : Bool) (x : A) → b ≡ false → only b x ≡ None
only_false true x h = no (sym h)
only_false false x h = refl

unless_node : {A : Type 0} (b : Bool) (o : Option A) → b ≡ false → (if b then o else None) ≡ None
unless_node true o h = no (sym h)
unless_node false o h = refl

where_node : {A : Type 0} (b : Bool) (o : Option A) → b ≡ true → (if b then o else None) ≡ o
where_node true o h = refl
where_node false o h = no h

module _ {A : Type 0} (g : NoteIn → Option A) (it : NoteIn) (a : A) (here : g it ≡ Some a)
    (passes : (y : NoteIn) → are_alike y.note it.note ≡ false → g y ≡ None) where
  pub first_found : (ys : List NoteIn) → are_apart ys ≡ true → IsIn it ys → first_noted g ys ≡ Some a
  first_found [] h i = absurd i
  first_found (y ∷ ys) h (inl e) = ap (λ (o : Option A). first o (first_noted g ys)) (ap g (sym e) ∙ here)
  first_found (y ∷ ys) h (inr i) =
      let p = and_parts (list_all (is_apart y) ys) (are_apart ys) h in
      let other = is_not (are_alike y.note it.note) (all_in (is_apart y) ys it p.0 i) in
      ap (λ (o : Option A). first o (first_noted g ys)) (passes y other) ∙ first_found ys p.1 i

-- a node of this number and so many operands
pub is_itself : (k n : ℕ) (is : List Indices) → n ≡ length is → is_node k n k is ≡ true
is_itself k n is e = two (nat_eq k k) (nat_eq (length is) n) ((Decides-eqb k k).1 refl) ((Decides-eqb (length is) n).1 (sym e))

pub is_another : (k n j : ℕ) (is others : List Indices) → n ≡ length is → (nat_eq k j && nat_eq (length others) (length is)) ≡ false
    → is_node k n j others ≡ false
is_another k n j is others e h = subst (λ (l : ℕ). (nat_eq k j && nat_eq (length others) l) ≡ false) (sym e) h

-- one of some numbers
any_in : (w : ℕ) (vs : List ℕ) → list_any (nat_eq w) vs ≡ true → IsIn w vs
any_in w [] h = no h
any_in w (v ∷ vs) h = either (or_cases (nat_eq w v) (list_any (nat_eq w) vs) h) (λ e. inl ((Decides-eqb w v).0 e)) (λ e. inr (any_in w vs e))

-- ---- bodies that are read together

module _ (set : Setting) (x : Work) (sizing : Sizing) (zs : List (Option ℤ)) (awaits : x.instance.numbers ≡ map (option_map an_int) zs)
    (list : List Instance) (instances : List SizedInstance)
    (placed : (i : ℕ) (y : Instance) → slice_get list i ≡ Some y → (s : SizedInstance) × (slice_get instances i ≡ Some s) × (s.instance ≡ y))
    (covers : (p : ℕ) (s : SizedInstance) (y : Work) → slice_get instances p ≡ Some s → s.instance.function ≡ y.function
    → y.instance ≡ record { place = p; numbers = numbers_of s.instance } → all_eq y.own s.instance.types ≡ true → set.covered.function y ≡ true)
    (found : List Found) (among : (y : Instance) → IsAmong (F.Function y) found → is_some (place_in list y) ≡ true)
    (ways : (d : ℕ) → IsAmong (F.Mapping (d / 2)) found → set.covered.direction d ≡ true) (unfit : set.covered.fitted ≡ false) where
  abbrev types : Types
  types = set.around.types

  abbrev inside_of : Body → Inside
  inside_of b = inside types sizing zs x.own b

  abbrev reached : ℕ → Bool
  reached = set.covered.direction

  -- where the present numbers are one combination that counts
  present : (b : Body) (facts : List Fact) (f : Integers) (noted : Noted) → IsSo set.past x noted f facts
      → IsCounted (known_of zs) (inside_of b).split facts [] f
  present b facts f noted so = Notes.counted_there set x sizing zs awaits list instances reached placed covers b facts f noted so

  present_stands : (b : Body) (facts : List Fact) (f : Integers) (noted : Noted) (so : IsSo set.past x noted f facts)
      → Stands (under (inside_of b) (present b facts f noted so).taken) f
  present_stands b facts f noted so =
      let at = present b facts f noted so in
      Notes.stands_there set x sizing zs awaits list instances reached placed covers b f at.taken
      (Notes.so_there set x sizing zs awaits list instances reached placed covers b f noted facts so).known at.are

  -- ---- sizes

  type_told : (b : Body) (facts : List Fact) (q : Reading) → list_all (tells (inside_of b) q) (counted (known_of zs) (inside_of b).split facts []) ≡ true
      → (f : Integers) (noted : Noted) → IsSo set.past x noted f facts → (v : Value) → is_of types (standing set.past f) x.types q v ≡ true
      → OpensAs types set.past x f q v (reading_told types x.own (known f) q v)
  type_told b facts q h f noted so =
      let at = present b facts f noted so in
      told_fits types set.past x f (under (inside_of b) at.taken) (present_stands b facts f noted so) q
      (all_in (tells (inside_of b) q) (counted (known_of zs) (inside_of b).split facts []) at.taken h at.is_there)

  size_met : (b : Body) (facts : List Fact) (place : Place) (made : Made) (named : Option ℕ)
      → NoteIsRead (inside_of b) found (size_note facts place made) named → type_given (inside_of b) facts made ≡ true
      → (f : Integers) (noted : Noted) → IsSo set.past x noted f facts → SizesFit set x f made
  size_met b facts place (Makes.ByIndices i) named read h f noted so =
      let at = present b facts f noted so in
      Notes.made_fits set x sizing zs awaits list instances reached placed covers b f at.taken (present_stands b facts f noted so) (Makes.ByIndices i)
      (indices_in_limit types (under (inside_of b) at.taken) i (read at.taken at.is_there))
  size_met b facts place (Makes.ByType q) named read h f noted so = λ exact. type_told b facts q h f noted so

  -- what is certain is right
  certain_same : (f : Integers) (noted : Noted) (facts : List Fact) → IsSo set.past x noted f facts → SameAmong (is_certain zs facts) (now zs noted) (known f)
  certain_same f noted facts so i h = by (known_of zs i) refl h
    where
      by : (o : Option ℤ) → known_of zs i ≡ o → (is_some o || is_given facts i) ≡ true → or_noted o (noted i) ≡ known f i
      by (Some z) e g = ap (λ (y : ℤ). C.Number y) (sym (numbers_agree f zs (subst (λ gs. HasNumbers 0 gs f) awaits so.numbers) i z e))
      by None e g = ap (or_noted None) (given_noted noted f facts so.given i g)

  -- so is what a value gives that has such indices
  told_same : (f : Integers) (noted : Noted) (facts : List Fact) → IsSo set.past x noted f facts → (i : Indices) (v : Value)
      → has types (standing set.past f) x.types i v ≡ true → SameAmong (is_told zs facts i) (now zs (noted_by i v noted)) (known f)
  told_same f noted facts so i v held w h = by (known_of zs w) refl h
    where
      itself : (j : Indices) → IsIn j (i ∷ []) → has types (standing set.past f) x.types j v ≡ true
      itself j (inl e) = subst (λ (m : Indices). has types (standing set.past f) x.types m v ≡ true) (sym e) held
      itself j (inr k) = absurd k

      behind : (noted w ≡ Some (f w)) ⊎ IsNamed w (i ∷ []) → noted_by i v noted w ≡ Some (f w)
      behind k = Behind.all_noted types set.past f x.types (i ∷ []) v noted w (λ j a n. itself j a) k

      told : (is_given facts w || list_any (nat_eq w) (variables_given i)) ≡ true → noted_by i v noted w ≡ Some (f w)
      told g =
          either (or_cases (is_given facts w) (list_any (nat_eq w) (variables_given i)) g) (λ e. behind (inl (given_noted noted f facts so.given w e)))
          (λ e. behind (inr (inl (any_in w (variables_given i) e))))

      by : (o : Option ℤ) → known_of zs w ≡ o → ((is_some o || is_given facts w) || list_any (nat_eq w) (variables_given i)) ≡ true
          → or_noted o (noted_by i v noted w) ≡ known f w
      by (Some z) e g = ap (λ (y : ℤ). C.Number y) (sym (numbers_agree f zs (subst (λ gs. HasNumbers 0 gs f) awaits so.numbers) w z e))
      by None e g = ap (or_noted None) (told g)

  -- ---- what a node makes

  made_right : (b : Body) (facts : List Fact) (made : Made) → made_given (inside_of b) facts made ≡ true → (f : Integers) (noted : Noted)
      → IsSo set.past x noted f facts → (v : Value) → is_made types set.past x f made v ≡ true
      → MadeAs types set.past x f made v (made_now types zs x.own noted made v)
  made_right b facts (Makes.ByIndices i) h f noted so v held =
      (sizes_hang types x.own (is_told zs facts i) (now zs (noted_by i v noted)) (known f) (told_same f noted facts so i v held)).0 i h
  made_right b facts (Makes.ByType q) h f noted so v held =
      let p = and_parts (reading_among types (is_certain zs facts) q) _ h in
      record {
        each = λ tells name fs n had. told_hang types x.own (is_certain zs facts) (now zs noted) (known f) (certain_same f noted facts so) q p.0 v
            ∙ (type_told b facts q p.1 f noted so v held).each tells name fs n had;
      }

  -- ---- what a call gives to size variables and to Type variables

  module _ (has : ℕ → Bool) (at of : ℕ → Constant) (f : Integers) (same : SameAmong has at (known f)) (stands : Stands of f) where
    more : More of (known f)
    more i z h = ap (λ (y : ℤ). Some y) (stands i z h)

    one_given : (b : Bool) (j : Index) → only_if b (index_among has j) ≡ true → only_if b (is_exact_index of j) ≡ true
        → number_where b (index_under at j) ≡ number_where b (index_under of j)
    one_given true j h e =
        ap (λ (c : Constant). Some (integer_of c)) (Among.index_same has at (known f) same j h ∙ sym (Alike.index_same of (known f) more j e))
    one_given false j h e = refl

    numbers_given : (bs : List Bool) (js : List Index) → numbers_among has bs js ≡ true → numbers_pass of bs js ≡ true
        → given bs (map (index_under at) js) ≡ given bs (map (index_under of) js)
    numbers_given [] [] h e = refl
    numbers_given [] (j ∷ js) h e = no e
    numbers_given (b ∷ bs) [] h e = no e
    numbers_given (b ∷ bs) (j ∷ js) h e =
        let p = and_parts (only_if b (index_among has j)) (numbers_among has bs js) h in
        let q = and_parts (only_if b (is_exact_index of j)) (numbers_pass of bs js) e in
        let one = one_given b j p.0 q.0 in
        let rest = numbers_given bs js p.1 q.1 in
        λ i. one i ∷ rest i

    types_given : (qs : List Reading) → list_all (reading_among types has) qs ≡ true
        → map (reading_sized types x.own at) qs ≡ map (type_sized types x.own f) qs
    types_given [] h = refl
    types_given (q ∷ qs) h =
        let p = and_parts (reading_among types has q) (list_all (reading_among types has) qs) h in
        let one = (sizes_hang types x.own has at (known f) same).1 q p.0 in
        let rest = types_given qs p.1 in
        λ i. one i ∷ rest i

  -- what is known is right
  known_same : (of : ℕ → Constant) (f : Integers) → Stands of f → SameAmong (λ v. is_number (of v)) of (known f)
  known_same of f stands i h = by (of i) refl h
    where
      by : (c : Constant) → of i ≡ c → is_number c ≡ true → of i ≡ known f i
      by (C.Number z) e k = e ∙ ap (λ (y : ℤ). C.Number y) (sym (stands i z (ap number_in e)))
      by (C.Open v) e k = no k
      by (C.Bound name) e k = no k

  module _ (ys : List NoteIn) (apart : are_apart ys ≡ true) (single : are_single ys ≡ true) where
    abbrev cases : Cases
    cases = cases_given types sizing zs x.own list ys

    made_met : (b : Body) (facts : List Fact) (k : ℕ) (operands : List Indices) (made : Made) → IsIn (note_in b (made_note facts k operands made)) ys
        → made_given (inside_of b) facts made ≡ true → IsMet set x reached cases (made_note facts k operands made)
    made_met b facts k operands made it h f noted so ss are v is =
        let many : length ss ≡ length operands = sized_as_many set x f operands ss are in
        let typ = made_now types zs x.own noted made v in
        record {
          typ = typ;
          is_there = first_found (made_in types sizing zs x.own list k (length ss) v noted) (note_in b (made_note facts k operands made)) typ
              (only_there (is_node k (length ss) k operands) typ (is_itself k (length ss) operands many))
              (λ y other. passed y.note v noted many other) ys apart it;
          is_right = λ exact. made_right b facts made h f noted so v is;
        }
      where
        passed : (n : Note) (v : Value) (noted : Noted) → length ss ≡ length operands → are_alike n (made_note facts k operands made) ≡ false
            → makes_at types sizing zs x.own list k (length ss) v noted n ≡ None
        passed (made_note more j others value) v noted many other =
            only_false (is_node k (length ss) j others) (made_now types zs x.own noted value v) (is_another k (length ss) j operands others many other)
        passed (goal_note more place goal) v noted many other = refl
        passed (size_note more place value) v noted many other = refl
        passed (call_note more place j others callee js qs) v noted many other = refl
        passed (way_note more d) v noted many other = refl
        passed (given_note more j i) v noted many other = refl
        passed (name_note w name) v noted many other = refl

    called_met : (b : Body) (facts : List Fact) (place : Place) (k : ℕ) (operands : List Indices) (g : ℕ) (js : List Index) (qs : List Reading)
        (named : Option ℕ) → IsIn (note_in b (call_note facts place k operands (D.Function g) js qs)) ys
        → NoteIsRead (inside_of b) found (call_note facts place k operands (D.Function g) js qs) named → are_nums (flags_of sizing g) js ≡ true
        → function_given (inside_of b) facts g js qs ≡ true → IsMet set x reached cases (call_note facts place k operands (D.Function g) js qs)
    called_met b facts place k operands g js qs named it read nums h f noted so ss are =
        let r = inside_of b in
        let has = is_certain zs facts in
        let at = now zs noted in
        let many : length ss ≡ length operands = sized_as_many set x f operands ss are in
        let certain = certain_same f noted facts so in
        let tests = and_parts (numbers_among has (flags_of sizing g) js && list_all (reading_among types has) qs)
        (list_all (call_passes r qs) (counted (known_of zs) r.split facts [])) h in
        let p = and_parts (numbers_among has (flags_of sizing g) js) (list_all (reading_among types has) qs) tests.0 in
        let here = present b facts f noted so in
        let of = under r here.taken in
        let stands = present_stands b facts f noted so in
        let called = read here.taken here.is_there in
        let exact : numbers_pass of (flags_of sizing g) js ≡ true = given_pass of (flags_of sizing g) js nums called.numbers in
        let alike : list_all (reading_among types (is_known r here.taken)) qs ≡ true =
        all_in (call_passes r qs) (counted (known_of zs) r.split facts []) here.taken tests.1 here.is_there in
        let wanted = instance_of r of g js qs in
        let asked = instance_of r at g js qs in
        let same_numbers : asked.numbers ≡ wanted.numbers = numbers_given has at of f certain stands (flags_of sizing g) js p.0 exact in
        let wide = types_given (is_known r here.taken) of of f (known_same of f stands) stands qs alike in
        let now_types : asked.types ≡ map (type_sized types x.own f) qs = types_given has at of f certain stands qs p.1 in
        let same_types : asked.types ≡ wanted.types = now_types ∙ sym wide in
        let same : asked ≡ wanted = λ i. record { function = g; numbers = same_numbers i; types = same_types i } in
        let led = some_there (place_in list wanted) (among wanted called.is_among) in
        let y = place_found led.0 wanted list led.1 in
        let s = placed led.0 y.0 y.1 in
        let equal = and_parts (nat_eq wanted.function (y.0).function) (numbers_eq wanted.numbers (y.0).numbers && all_eq wanted.types (y.0).types) y.2 in
        let parts = and_parts (numbers_eq wanted.numbers (y.0).numbers) (all_eq wanted.types (y.0).types) equal.1 in
        let numbers : asked.numbers ≡ (s.0).instance.numbers =
        same_numbers ∙ numbers_same wanted.numbers (y.0).numbers parts.0 ∙ ap (λ (z : Instance). z.numbers) (sym s.2) in
        let awaited : Awaits = record { place = led.0; numbers = numbers_of asked } in
        let listed : called_at types sizing zs x.own list b noted (D.Function g) js qs ≡ Some awaited =
        ap (option_map (λ (n : ℕ). record { place = n; numbers = numbers_of asked })) (ap (place_in list) same ∙ led.1) in
        let function : (s.0).instance.function ≡ g = ap (λ (z : Instance). z.function) s.2 ∙ sym ((Decides-eqb g (y.0).function).0 equal.0) in
        let owns : all_eq (map (type_sized types x.own f) qs) (s.0).instance.types ≡ true =
        ap (λ (z : Instance). all_eq (map (type_sized types x.own f) qs) z.types) s.2
        ∙ ap (λ l. all_eq l (y.0).types) (sym wide) ∙ parts.1 in
        let agree : AllAgree set.past f awaited.numbers js =
        subst (λ ns. AllAgree set.past f (map (option_map an_int) ns) js) (sym same_numbers)
        (Notes.numbers_given set x sizing zs awaits list instances reached placed covers of f stands (flags_of sizing g) js exact) in
        record {
          instance = awaited;
          awaited = awaited.numbers;
          awaits = agree;
          is_there = first_found (called_in types sizing zs x.own list k (length ss) noted) (note_in b (call_note facts place k operands (D.Function g) js qs))
              awaited (where_node (is_node k (length ss) k operands) _ (is_itself k (length ss) operands many) ∙ listed)
              (λ z other. passed z.body z.note noted many other) ys apart it;
          agree = agree;
          is_covered = λ ts. covers led.0 s.0 (work_of g awaited (map (type_sized types x.own f) qs) ts) s.1 function
              (λ i. record { place = led.0; numbers = map (option_map an_int) (numbers i) }) owns;
          own_fit = λ fitted. no (sym unfit ∙ fitted);
        }
      where
        passed : (c : Body) (n : Note) (noted : Noted) → length ss ≡ length operands
            → are_alike n (call_note facts place k operands (D.Function g) js qs) ≡ false
            → calls_at types sizing zs x.own list k (length ss) noted c n ≡ None
        passed c (call_note more spot j others callee is rs) noted many other =
            unless_node (is_node k (length ss) j others) (called_at types sizing zs x.own list c noted callee is rs)
            (is_another k (length ss) j operands others many other)
        passed c (goal_note more spot goal) noted many other = refl
        passed c (size_note more spot value) noted many other = refl
        passed c (made_note more j others value) noted many other = refl
        passed c (way_note more d) noted many other = refl
        passed c (given_note more j i) noted many other = refl
        passed c (name_note w name) noted many other = refl

    call_met : (b : Body) (facts : List Fact) (place : Place) (k : ℕ) (operands : List Indices) (callee : Callee) (js : List Index) (qs : List Reading)
        (named : Option ℕ) → IsIn (note_in b (call_note facts place k operands callee js qs)) ys
        → NoteIsRead (inside_of b) found (call_note facts place k operands callee js qs) named
        → GivesNumbers sizing (call_note facts place k operands callee js qs) → call_given (inside_of b) facts callee js qs ≡ true
        → IsMet set x reached cases (call_note facts place k operands callee js qs)
    call_met b facts place k operands (D.Function g) js qs named it read nums h = called_met b facts place k operands g js qs named it read nums h
    call_met b facts place k operands (D.Row row) js qs named it read nums h = tt
    call_met b facts place k operands (D.Constructor u c) js qs named it read nums h = tt
    call_met b facts place k operands (D.Converts d) js qs named it read nums h = λ f noted so.
        let here = present b facts f noted so in
        ways d (read here.taken here.is_there).is_among
    call_met b facts place k operands (D.Applies d) js qs named it read nums h = tt

    -- ---- numbers that a value gives

    all_agrees : (b : Body) (facts : List Fact) (k : Giver) (i : Indices) → IsIn (note_in b (given_note facts k i)) ys
        → list_all (agrees_there facts i) (gives_at (all_nodes types sizing zs x.own list ys) k) ≡ true
    all_agrees b facts k i it = given_agree facts k i types sizing zs x.own list b ys single it

    -- ---- a note

    pub note_met : (b : Body) (n : Note) (named : Option ℕ) → IsIn (note_in b n) ys → NoteIsRead (inside_of b) found n named → GivesNumbers sizing n
        → note_given (inside_of b) n ≡ true → OfOthers (IsMet set x reached cases) n
    note_met b (goal_note facts place goal) named it read nums h = tt
    note_met b (size_note facts place made) named it read nums h = size_met b facts place made named read h
    note_met b (made_note facts k operands made) named it read nums h = made_met b facts k operands made it h
    note_met b (call_note facts place k operands callee js qs) named it read nums h = call_met b facts place k operands callee js qs named it read nums h
    note_met b (way_note facts d) named it read nums h = λ f noted so.
        let here = present b facts f noted so in
        ways d (read here.taken here.is_there)
    note_met b (given_note facts k i) named it read nums h =
        Notes.given_met set x sizing zs awaits list instances reached placed covers true ys apart b facts k i it (all_agrees b facts k i it)
    note_met b (name_note v name) named it read nums h = tt

pub bodies_are_given : (set : Setting) (x : Work) (sizing : Sizing) (zs : List (Option ℤ)) → x.instance.numbers ≡ map (option_map an_int) zs
    → (list : List Instance) (instances : List SizedInstance) → ArePlaced list instances → AreCovered set instances
    → (found : List Found) → ((y : Instance) → IsAmong (F.Function y) found → is_some (place_in list y) ≡ true)
    → ((d : ℕ) → IsAmong (F.Mapping (d / 2)) found → set.covered.direction d ≡ true) → set.covered.fitted ≡ false → (bs : List Body)
    → ((b : Body) → IsIn b bs → NotesAreRead (inside set.around.types sizing zs x.own b) found b.notes)
    → ((b : Body) → IsIn b bs → EachNote (GivesNumbers sizing) b.notes) → are_apart (all_noted bs) ≡ true
    → are_single (all_noted bs) ≡ true → bodies_given set.around.types sizing zs x.own bs ≡ true → (b : Body) → IsIn b bs
    → EachNote (OfOthers (IsMet set x set.covered.direction (cases_given set.around.types sizing zs x.own list (all_noted bs)))) b.notes
bodies_are_given set x sizing zs awaits list instances placed covers found among ways unfit bs read gives apart single h b i =
    let ys = all_noted bs in
    each_there (OfOthers (IsMet set x set.covered.direction (cases_given set.around.types sizing zs x.own list ys))) b.notes (λ n k.
    let known = note_is_read (inside set.around.types sizing zs x.own b) found n b.notes k (read b i) in
    note_met set x sizing zs awaits list instances placed covers found among ways unfit ys apart single b n known.0 (noted_there bs b n i k) known.1
    (each_of (GivesNumbers sizing) b.notes (gives b i) n k)
    (all_in (noted_given set.around.types sizing zs x.own) ys (note_in b n) h (noted_there bs b n i k)))
