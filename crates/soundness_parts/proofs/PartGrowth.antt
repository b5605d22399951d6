-- Walks over parts of values: what was in force still is, and variables are counted on.
use Rattle.std.proofs.Common.{◌∙◌, if◌then◌else◌, ◌++◌, ℕ, zero, suc, Bool, true, false, List, [], ◌∷◌, take, drop, length, nat_eq, nat_lt, Option, Some, None, ap, arith, ◌||◌}
use Rattle.std.proofs.lemmas.List.{append_assoc}
use Rattle.sail_base.specs.declared.place.Place.{Place}
use Rattle.sail_types.specs.Sums.{variable}
use Rattle.sail_types.specs.Zero.{deepest}
use Rattle.sail_types.specs.declared.numbers.Con.TheVariants as C
use Rattle.sail_types.specs.declared.numbers.Num.{Num}
use Rattle.sail_core.specs.declared.targets.Suffix.{Suffix}
use Rattle.sail_core.specs.declared.targets.Way.{Way}
use Rattle.sail_core.specs.declared.targets.Way.TheVariants as Y
use Rattle.value_indices.specs.Opening.{between, fresh_integer, least_num, largest_num, number_or_fresh, opened}
use Rattle.value_indices.specs.Steps.{Walk, bind, fresh, give, size_note, wrong}
use Rattle.value_indices.specs.declared.indices.Indices.{Indices, out-Indices}
use Rattle.value_indices.specs.declared.indices.Indices.TheOpen as W
use Rattle.value_indices.specs.declared.indices.Indices.TheOpen.{Indices-F}
use Rattle.value_indices.specs.declared.indices.Indices.TheVariants as I
use Rattle.value_indices.specs.declared.indices.Naming.TheVariants as M
use Rattle.value_indices.specs.declared.indices.Reading.{Reading}
use Rattle.value_indices.specs.declared.indices.Reading.TheVariants as R
use Rattle.value_indices.specs.declared.notes.Fact.{Fact}
use Rattle.value_indices.specs.declared.notes.Made.TheVariants as Makes
use Rattle.value_fits.specs.Fitting.{fits, joined, owe_fit}
use Rattle.fitting_laws.proofs.Counted.{Counts, fits_count}
use Rattle.fitting_laws.proofs.Counting.{fresh_grows}
use Rattle.wide_types.specs.Widening.{widened}
use Rattle.pattern_leaves.specs.Settings.{Around, Scope}
use Rattle.call_arguments.specs.Holes.{has_hole, without_holes}
use Rattle.call_arguments.specs.declared.aims.Aim.{Aim}
use Rattle.call_arguments.specs.declared.aims.Aim.TheVariants as Aims
use Rattle.call_notes.specs.Ends.{integer_number, is_never, never_value, number_form, opened_at, sized_by, wrong_value}
use Rattle.call_notes.specs.Noted.{made_opened, node_ended, node_given, node_made}
use Rattle.expression_forms.specs.Ways.{ends, if_never_value, indexed, owe_part, part_fits, part_made, slice_width, suffix_read, taken_out, update_operands, with_width}
use Rattle.expression_forms.specs.declared.ways.Ends.{Ends}
use Rattle.expression_forms.specs.declared.ways.Reached.{Reached}
use Rattle.expression_steps.specs.Filling.{filled_or, items_filled, part_behind, part_holed, part_put, put_aim, put_ended}
use Rattle.expression_steps.specs.Parts.{Part, number_before, number_walk, numbers_behind, numbers_walk}
use Rattle.expression_steps.specs.Values.{Passed, Taken, indexes_of, left_after, no_way, numbers_updated, part_walk, passed, reached_by, read_taken}
use Rattle.expression_steps.specs.Values.{slice_reached, suffix_walk, suffixed, suffixes_walk, taken, then_on, update_walk, updated, value_on, way_taken, way_walk}
use Rattle.soundness_steps.specs.Steps.{Grows}
use Rattle.soundness_forms.proofs.Growth.{grows_assume, grows_bind, grows_ended, grows_fits, grows_give, grows_given, grows_made, grows_note, grows_opening, grows_owe, grows_owe_fit}
use Rattle.soundness_forms.proofs.Growth.{grows_wrong}

-- ---- behind a walk that gives what is known

abbrev pub Gives : {A : Type 0} → (A → Type 0) → Walk A → Type 0
Gives P w = (facts : List Fact) (n : ℕ) → P (w facts n).value

pub gives_back : {A : Type 0} (P : A → Type 0) (a : A) → P a → Gives P (give a)
unfolding give
gives_back P a h facts n = h

pub gives_bind : {A B : Type 0} (P : A → Type 0) (T : B → Type 0) (w : Walk A) (k : A → Walk B) → Gives P w → ((a : A) → P a → Gives T (k a)) → Gives T (bind w k)
unfolding bind
gives_bind P T w k h next facts n = next (w facts n).value (h facts n) (w facts n).facts (w facts n).next

pub any : {A : Type 0} (w : Walk A) → Gives (λ a. Unit {0}) w
any w facts n = tt

pub grows_bind_at : {A B : Type 0} (P : A → Type 0) (w : Walk A) (k : A → Walk B) → Gives P w → Grows w → ((a : A) → P a → Grows (k a)) → Grows (bind w k)
unfolding bind
grows_bind_at P w k p h next = record {
  onward = λ facts n.
      let a = h.onward facts n in
      let b = (next (w facts n).value (p facts n)).onward (w facts n).facts (w facts n).next in
      omega arith;
  more = λ facts n. h.more facts n ++ (next (w facts n).value (p facts n)).more (w facts n).facts (w facts n).next;
  extends = λ facts n.
      (next (w facts n).value (p facts n)).extends (w facts n).facts (w facts n).next
      ∙ ap (λ fs. fs ++ (next (w facts n).value (p facts n)).more (w facts n).facts (w facts n).next) (h.extends facts n)
      ∙ append_assoc facts (h.more facts n) ((next (w facts n).value (p facts n)).more (w facts n).facts (w facts n).next);
}

-- ---- numbers

number_or_fresh_grows : (o : Option Num) → Grows (number_or_fresh o)
unfolding number_or_fresh fresh_integer between
number_or_fresh_grows (Some t) = grows_give t
number_or_fresh_grows None =
    grows_bind fresh _ (record { onward = fresh_grows.onward; more = fresh_grows.more; extends = fresh_grows.extends }) (λ v.
    grows_bind (between least_num (variable v) largest_num) (λ x. give (variable v)) (grows_bind _ _ (grows_assume _) (λ x. grows_assume _)) (λ x.
    grows_give (variable v)))

width_grows : (high low : Num) → Grows (with_width high low)
width_grows high low = grows_bind (number_or_fresh (slice_width high low)) (λ w. give (Some (ends high low w))) (number_or_fresh_grows (slice_width high low))
    (λ w. grows_give (Some (ends high low w)))

pub none_grows : {A : Type 0} (place : Place) → Grows (bind (wrong place) (λ t. give {A = Option A} None))
none_grows place = grows_bind (wrong place) (λ t. give None) (grows_owe place (Some (C.Truth false) ∷ [])) (λ t. grows_give None)

form_grows : (place : Place) (form : Indices-F Indices Reading) → Grows (number_form place form)
form_grows place (W.Integer t) = grows_give (Some t)
form_grows place W.Never = grows_give None
form_grows place W.Unit = none_grows place
form_grows place W.Bit = none_grows place
form_grows place (W.Bits t) = none_grows place
form_grows place (W.Truth c) = none_grows place
form_grows place W.String = none_grows place
form_grows place (W.List r) = none_grows place
form_grows place (W.Vector t r) = none_grows place
form_grows place (W.Tuple is) = none_grows place
form_grows place (W.Named u is rs) = none_grows place
form_grows place (W.Variable j) = none_grows place

before_grows : (t : Num) (o : Option (List Num)) → Grows (number_before t o)
before_grows t None = grows_give None
before_grows t (Some ns) = grows_give (Some (t ∷ ns))

behind_grows : (rest : Walk (Option (List Num))) → Grows rest → (o : Option Num) → Grows (numbers_behind rest o)
behind_grows rest h None = grows_give None
behind_grows rest h (Some t) = grows_bind rest (number_before t) h (before_grows t)

module _ (around : Around) (scope : Scope) where
  abbrev pub AllGrow : List Part → Type 0
  AllGrow [] = Unit {0}
  AllGrow (p ∷ ps) = Grows (p.walk around scope Aims.Free) × AllGrow ps

  pub numbers_grow : (ps : List Part) → AllGrow ps → Grows (numbers_walk ps around scope)
  numbers_grow [] h = grows_give (Some [])
  numbers_grow (p ∷ ps) h =
      grows_bind (number_walk p around scope) (numbers_behind (numbers_walk ps around scope))
      (grows_bind (p.walk around scope Aims.Free) (integer_number p.place) h.0 (λ i. form_grows p.place (out-Indices i)))
      (behind_grows (numbers_walk ps around scope) (numbers_grow ps h.1))

  pub first_grow : (k : ℕ) (ps : List Part) → AllGrow ps → AllGrow (take k ps)
  first_grow zero ps h = tt
  first_grow (suc k) [] h = tt
  first_grow (suc k) (p ∷ ps) h = (h.0, first_grow k ps h.1)

  left_grow : (k : ℕ) (ps : List Part) → AllGrow ps → AllGrow (drop k ps)
  left_grow zero ps h = h
  left_grow (suc k) [] h = tt
  left_grow (suc k) (p ∷ ps) h = left_grow k ps h.1

-- ---- ways into a value

module _ (around : Around) (i : Indices) where
  ends_grow : (o : Option Ends) → Grows (slice_reached i o)
  ends_grow None = grows_give None
  ends_grow (Some e) = grows_give _

  pub reached_grows : (way : Way) (ns : List Num) → Grows (reached_by around i way ns)
  reached_grows (Y.Field u k) ns = grows_give _
  reached_grows Y.Item (n ∷ []) = grows_give _
  reached_grows Y.Item [] = grows_give None
  reached_grows Y.Item (n ∷ m ∷ ns) = grows_give None
  reached_grows Y.Slice (high ∷ low ∷ []) = grows_bind (with_width high low) (slice_reached i) (width_grows high low) ends_grow
  reached_grows Y.Slice [] = grows_give None
  reached_grows Y.Slice (n ∷ []) = grows_give None
  reached_grows Y.Slice (n ∷ m ∷ l ∷ ns) = grows_give None

pub if_never_grows : (place : Place) (b : Bool) → Grows (if b then never_value else wrong_value place)
if_never_grows place true = grows_give I.Never
if_never_grows place false = grows_wrong place

opened_grows : (place : Place) (k : ℕ) (is : List Indices) (r : Reading) → Grows (made_opened place k is r)
unfolding opened
opened_grows place k is r =
    grows_bind (node_made k is (Makes.ByType r)) (λ t. opened_at place r) (grows_made k is (Makes.ByType r)) (λ t.
    grows_bind (sized_by place r) (λ u. opened r) (grows_note (λ facts. size_note facts place (Makes.ByType r))) (λ u. grows_opening r false M.Unnamed))

taken_grows : (place : Place) (k : ℕ) (i : Indices) (o : Option Reached) → Grows (taken_out place k i o)
taken_grows place k i None = if_never_grows place (is_never i)
taken_grows place k i (Some x) =
    grows_bind (part_made place k (i ∷ indexed x) x) (node_given k)
    (grows_bind _ (λ t. made_opened place k (i ∷ indexed x) x.typ) (grows_owe place x.conditions) (λ t. opened_grows place k (i ∷ indexed x) x.typ))
    (grows_given k)

-- ---- suffixes

module _ (around : Around) (scope : Scope) where
  abbrev TakenGrow : Option Taken → Type 0
  TakenGrow None = Unit {0}
  TakenGrow (Some t) = AllGrow around scope t.left

  abbrev PassedGrow : Option Passed → Type 0
  PassedGrow None = Unit {0}
  PassedGrow (Some t) = AllGrow around scope t.left

  pub way_taken_grows : (i : Indices) (way : Way) (left : List Part) (o : Option (List Num)) → Grows (way_taken around i way left o)
  way_taken_grows i way left None = grows_give None
  way_taken_grows i way left (Some ns) = grows_bind (reached_by around i way ns) (λ x. give (taken x left)) (reached_grows around i way ns) (λ x.
      grows_give (taken x left))

  way_taken_gives : (i : Indices) (way : Way) (left : List Part) → AllGrow around scope left → (o : Option (List Num))
      → Gives TakenGrow (way_taken around i way left o)
  way_taken_gives i way left h None = gives_back TakenGrow None tt
  way_taken_gives i way left h (Some ns) =
      gives_bind (λ x. Unit {0}) TakenGrow (reached_by around i way ns) (λ x. give (taken x left)) (any (reached_by around i way ns)) (λ x u.
      gives_back TakenGrow (taken x left) h)

  module _ (place : Place) (i : Indices) (way : Way) (parts : List Part) (h : AllGrow around scope parts) where
    by_grows : (few : Bool) → Grows (if few then no_way place
        else bind (numbers_walk (take (indexes_of way) parts) around scope) (way_taken around i way (drop (indexes_of way) parts)))
    by_grows true = none_grows place
    by_grows false = grows_bind (numbers_walk (take (indexes_of way) parts) around scope) (way_taken around i way (drop (indexes_of way) parts))
        (numbers_grow around scope (take (indexes_of way) parts) (first_grow around scope (indexes_of way) parts h))
        (way_taken_grows i way (drop (indexes_of way) parts))

    by_gives : (few : Bool) → Gives TakenGrow (if few then no_way place
        else bind (numbers_walk (take (indexes_of way) parts) around scope) (way_taken around i way (drop (indexes_of way) parts)))
    by_gives true = gives_bind (λ t. Unit {0}) TakenGrow (wrong place) (λ t. give None) (any (wrong place)) (λ t u. gives_back TakenGrow None tt)
    by_gives false =
        gives_bind (λ o. Unit {0}) TakenGrow (numbers_walk (take (indexes_of way) parts) around scope) (way_taken around i way (drop (indexes_of way) parts))
        (any (numbers_walk (take (indexes_of way) parts) around scope)) (λ o u.
        way_taken_gives i way (drop (indexes_of way) parts) (left_grow around scope (indexes_of way) parts h) o)

    pub way_grows : Grows (way_walk place parts around scope i way)
    way_grows = by_grows (nat_lt (length parts) (indexes_of way))

    way_gives : Gives TakenGrow (way_walk place parts around scope i way)
    way_gives = by_gives (nat_lt (length parts) (indexes_of way))

  read_grows : (place : Place) (k : ℕ) (i : Indices) (o : Option Taken) → Grows (read_taken false place k i o)
  read_grows place k i None = grows_give None
  read_grows place k i (Some t) = grows_bind (suffix_read false place k i t.reached) (λ j. give (passed t.left j)) (taken_grows place k i t.reached) (λ j.
      grows_give (passed t.left j))

  read_gives : (place : Place) (k : ℕ) (i : Indices) (o : Option Taken) → TakenGrow o → Gives PassedGrow (read_taken false place k i o)
  read_gives place k i None h = gives_back PassedGrow None tt
  read_gives place k i (Some t) h =
      gives_bind (λ j. Unit {0}) PassedGrow (suffix_read false place k i t.reached) (λ j. give (passed t.left j)) (any (suffix_read false place k i t.reached))
      (λ j u. gives_back PassedGrow (passed t.left j) h)

  then_grows : (next : List Part → Indices → Walk (Option Passed)) → ((ps : List Part) (j : Indices) → AllGrow around scope ps → Grows (next ps j))
      → (o : Option Passed) → PassedGrow o → Grows (then_on next o)
  then_grows next h None u = grows_give None
  then_grows next h (Some t) u = h t.left t.value u

  suffixes_grow : (ss : List Suffix) (parts : List Part) (i : Indices) → AllGrow around scope parts → Grows (suffixes_walk false ss around scope parts i)
  suffixes_grow [] parts i h = grows_give (passed parts i)
  suffixes_grow (s ∷ ss) parts i h =
      grows_bind_at PassedGrow (suffix_walk false s parts around scope i) (then_on (suffixes_walk false ss around scope))
      (gives_bind TakenGrow PassedGrow (way_walk s.place parts around scope i s.way) (read_taken false s.place s.number i)
      (way_gives s.place i s.way parts h) (read_gives s.place s.number i))
      (grows_bind (way_walk s.place parts around scope i s.way) (read_taken false s.place s.number i) (way_grows s.place i s.way parts h)
      (read_grows s.place s.number i)) (then_grows (suffixes_walk false ss around scope) (λ ps j a. suffixes_grow ss ps j a))

  value_on_grows : (o : Option Passed) → Grows (value_on o)
  value_on_grows None = grows_give I.Never
  value_on_grows (Some t) = grows_give t.value

  pub part_grows : (place : Place) (ss : List Suffix) (p : Part) (ps : List Part) → AllGrow around scope (p ∷ ps)
      → Grows (part_walk place ss p ps around scope)
  part_grows place ss p ps h =
      grows_bind (p.walk around scope Aims.Free) (suffixed place ss ps around scope) h.0 (λ i. by i (nat_eq (left_after ss (length ps)) 0))
    where
      by : (i : Indices) (b : Bool) → Grows (if b then bind (suffixes_walk false ss around scope ps i) value_on else if_never_value place i)
      by i true = grows_bind (suffixes_walk false ss around scope ps i) value_on (suffixes_grow ss ps i h.1) value_on_grows
      by i false = if_never_grows place (is_never i)

-- ---- values with another part

module _ (around : Around) (place : Place) where
  filled_grows : (i : Indices) (n : Num) (j : Indices) (r : Reading) → Grows (items_filled around place i n j r)
  filled_grows i n j r =
      let whole = R.Widened (I.Vector n (without_holes r)) in
      grows_bind (owe_fit place (fits around.types j (without_holes r))) (λ t. bind (owe_fit place (fits around.types i whole)) (λ u. give (I.Vector n r)))
      (grows_fits place around.types j (without_holes r)) (λ t.
      grows_bind (owe_fit place (fits around.types i whole)) (λ u. give (I.Vector n r)) (grows_fits place around.types i whole) (λ u.
      grows_give (I.Vector n r)))

  like_grows : (i : Indices) (r : Reading) (j : Indices) → Grows (bind (owe_fit place (fits around.types j (without_holes r))) (λ t. give i))
  like_grows i r j = grows_bind (owe_fit place (fits around.types j (without_holes r))) (λ t. give i) (grows_fits place around.types j (without_holes r))
      (λ t. grows_give i)

  holed_grows : (i : Indices) (r : Reading) (j : Indices) (form : Indices-F Indices Reading) → Grows (part_holed around place i r j form)
  holed_grows i r j (W.Vector n s) = filled_grows i n j (filled_or r (widened j))
  holed_grows i r j W.Never = like_grows i r j
  holed_grows i r j W.Unit = like_grows i r j
  holed_grows i r j W.Bit = like_grows i r j
  holed_grows i r j (W.Bits t) = like_grows i r j
  holed_grows i r j (W.Integer t) = like_grows i r j
  holed_grows i r j (W.Truth c) = like_grows i r j
  holed_grows i r j W.String = like_grows i r j
  holed_grows i r j (W.List s) = like_grows i r j
  holed_grows i r j (W.Tuple is) = like_grows i r j
  holed_grows i r j (W.Named u is rs) = like_grows i r j
  holed_grows i r j (W.Variable v) = like_grows i r j

  part_behind_grows : (i : Indices) (r : Reading) (j : Indices) (b : Bool) → Grows (if b then part_holed around place i r j (out-Indices i) else give i)
  part_behind_grows i r j true = holed_grows i r j (out-Indices i)
  part_behind_grows i r j false = grows_give i

  owed_counts : (x : Reached) (nested : Bool) (j : Indices) → Counts (part_fits around x nested j)
  unfolding joined
  owed_counts x true j = λ n. omega arith
  owed_counts x false j = λ n. fits_count around.types deepest j x.typ n

  put_grows : (k : ℕ) (nested : Bool) (i : Indices) (x : Reached) (j : Indices) → Grows (put_ended around place k nested i x j)
  put_grows k nested i x j =
      grows_bind (part_put around place nested i x j) (node_ended k (update_operands i x j))
      (grows_bind (owe_part around place x (has_hole x.typ || nested) j) (λ t. part_behind around place i x.typ j)
      (grows_owe_fit place (part_fits around x (has_hole x.typ || nested) j) (owed_counts x (has_hole x.typ || nested) j))
      (λ t. part_behind_grows i x.typ j (has_hole x.typ)))
      (grows_ended k (update_operands i x j))

  module _ (scope : Scope) (k : ℕ) (c : Part) (h : (aim : Aim) → Grows (c.walk around scope aim)) where
    updated_grows : (i : Indices) (o : Option Reached) → Grows (updated place k c around scope i o)
    updated_grows i None = if_never_grows place (is_never i)
    updated_grows i (Some x) = grows_bind (c.walk around scope (put_aim x.typ)) (put_ended around place k c.is_nested i x) (h (put_aim x.typ))
        (put_grows k c.is_nested i x)

    numbers_updated_grows : (way : Way) (i : Indices) (o : Option (List Num)) → Grows (numbers_updated place k way c around scope i o)
    numbers_updated_grows way i None = grows_give I.Never
    numbers_updated_grows way i (Some ns) = grows_bind (reached_by around i way ns) (updated place k c around scope i) (reached_grows around i way ns)
        (updated_grows i)

    pub update_grows : (way : Way) (p : Part) (ps : List Part) → AllGrow around scope (p ∷ ps) → Grows (update_walk place k way p ps c around scope)
    update_grows way p ps all =
        grows_bind (p.walk around scope Aims.Free) (λ i. bind (numbers_walk ps around scope) (numbers_updated place k way c around scope i)) all.0 (λ i.
        grows_bind (numbers_walk ps around scope) (numbers_updated place k way c around scope i) (numbers_grow around scope ps all.1)
        (numbers_updated_grows way i))
