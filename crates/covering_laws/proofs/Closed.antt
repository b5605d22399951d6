-- What is found without refusal is read, and what is called there is found.
use Rattle.std.proofs.Common.{◌≡◌, ◌∙◌, ap, sym, refl, subst, ℕ, zero, suc, ◌+◌, ◌<◌, ◌≤◌, ◌/◌, nat_eq, nat_lt, ℤ, pos, int_le, Bool, true, false, ◌&&◌, ◌||◌}
use Rattle.std.proofs.Common.{◌⊎◌, inl, inr, List, [], ◌∷◌, ◌++◌, map, length, slice_get, Option, Some, None, if◌then◌else◌, arith}
use Rattle.std.specs.Prelude.{Ok, Err, drop, not, take}
use Rattle.std.specs.List.{list_any}
use Rattle.std.proofs.lemmas.Bool.Decides.{Decides-eqb}
use Rattle.sail_base.specs.declared.place.Place.{Place}
use Rattle.sail_types.specs.Limits.{largest}
use Rattle.sail_types.specs.Places.{first}
use Rattle.sail_types.specs.declared.numbers.Index.{Index}
use Rattle.model_state.specs.declared.state.Register.{Register}
use Rattle.sail_core.specs.declared.model.Opening.{Opening}
use Rattle.sail_core.specs.declared.model.RegisterText.{RegisterText}
use Rattle.sail_core.specs.declared.tree.Callee.{Callee}
use Rattle.sail_core.specs.declared.tree.Callee.TheVariants as D
use Rattle.value_indices.specs.Steps.{Note, goal_note, size_note, made_note, call_note, way_note, given_note, name_note}
use Rattle.value_indices.specs.declared.indices.Indices.{Indices}
use Rattle.value_indices.specs.declared.indices.Reading.{Reading}
use Rattle.value_indices.specs.declared.notes.Made.{Made}
use Rattle.value_laws.proofs.Basics.{no, two}
use Rattle.size_values.specs.declared.constants.Constant.{Constant}
use Rattle.size_values.specs.declared.constants.Constant.TheVariants as C
use Rattle.size_values.specs.declared.constants.Picked.{Picked}
use Rattle.size_values.specs.declared.sized.Sized.{Sized}
use Rattle.size_values.specs.declared.sizes.Size.{Size}
use Rattle.size_values.specs.Numbers.{index_under, known_of}
use Rattle.size_values.specs.Sized.{all_eq, numbers_eq}
use Rattle.size_values.specs.Sizes.{joined, reading_sizes, value_sizes}
use Rattle.size_splits.specs.Bodies.{Body}
use Rattle.size_splits.specs.Sizing.{first_named, given_indices, made_facts, made_indices}
use Rattle.size_splits.specs.Splits.{counted}
use Rattle.split_laws.specs.Counted.{IsIn}
use Rattle.monomorph.specs.declared.error.MonoError.{MonoError}
use Rattle.monomorph.specs.declared.error.MonoError.TheVariants.{InstanceLimit, WidthLimit}
use Rattle.monomorph.specs.declared.found.Found.{Found}
use Rattle.monomorph.specs.declared.found.Found.TheVariants as F
use Rattle.sized_nodes.specs.declared.trees.Instance.{Instance}
use Rattle.monomorph.specs.Found.{Answer, add, add_mapping, and_then, found_eq, instances_in, most_instances, outcome, over, unless, unless_full}
use Rattle.monomorph.specs.Instances.{entry, found_from, grow, grow_from, one_or_none, or_none, read_found, times_enough}
use Rattle.monomorph.specs.Lasts.{Model, count_before, last_from, read_bodies, read_lasts, read_register, register_refused}
use Rattle.monomorph.specs.Reading.{Inside, called, instance_of, numbers_refused, read_body, read_call, read_note, read_notes, read_sizes, read_way}
use Rattle.monomorph.specs.Reading.{reading_of, types_refused, under}
use Rattle.monomorph.specs.Refusals.{constant_refused, constants_refused, number_refused, size_refused, sizes_refused}
use Rattle.sized_trees.specs.Within.{all_within, is_within, number_within}
use Rattle.exact_sizes.proofs.Equal.{all_itself, numbers_itself}
use Rattle.exact_sizes.proofs.Known.{none}
use Rattle.covering_laws.specs.Closed.{BodiesAreRead, CallIsRead, CalleeIsAmong, IsAmong, IsRead, NoteIsRead, NotesAreRead, SizeIsRead}
use Rattle.covering_laws.specs.Closed.{all_given, is_given}
use Rattle.covering_laws.proofs.Found.{part_there}
use Rattle.covering_laws.proofs.Grown.{Extends, Keeps, as_found, call_keeps, further, found_keeps, grow_keeps, mapping_keeps, notes_keep}
use Rattle.covering_laws.proofs.Grown.{last_keeps, over_keeps, sizes_keep}

-- ---- what refuses nothing

number_fine : (place : Place) (names : List (List ℕ)) (c : Constant) → constant_refused place names c ≡ None → is_given c ≡ true
number_fine place names (C.Number z) h = by (int_le (pos largest) z) h
  where
    by : (b : Bool) → (if b then Some (WidthLimit place z) else None) ≡ None → not b ≡ true
    by true g = absurd (cc)
    by false g = refl
number_fine place names (C.Open v) h = absurd (cc)
number_fine place names (C.Bound name) h = absurd (cc)

first_none : {A : Type 0} (o p : Option A) → first o p ≡ None → (o ≡ None) × (p ≡ None)
first_none None p h = (refl, h)
first_none (Some x) p h = absurd (cc)

numbers_fine : (place : Place) (names : List (List ℕ)) (cs : List Constant) → constants_refused place names cs ≡ None → all_given cs ≡ true
numbers_fine place names [] h = refl
numbers_fine place names (c ∷ cs) h =
    let p = first_none (constant_refused place names c) (constants_refused place names cs) h in
    two (is_given c) (all_given cs) (number_fine place names c p.0) (numbers_fine place names cs p.1)

within_fine : (place : Place) (names : List (List ℕ)) (n : ℕ) (c : Constant) → number_refused place names n c ≡ None → number_within n c ≡ true
within_fine place names n (C.Number z) h = by (int_le (pos 0) z && int_le z (pos n)) h
  where
    by : (b : Bool) → (if b then None else Some (WidthLimit place z)) ≡ None → b ≡ true
    by true g = refl
    by false g = absurd (cc)
within_fine place names n (C.Open v) h = absurd (cc)
within_fine place names n (C.Bound name) h = absurd (cc)

sizes_fine : (place : Place) (names : List (List ℕ)) (ss : List Size) → sizes_refused place names ss ≡ None → all_within ss ≡ true
sizes_fine place names [] h = refl
sizes_fine place names (s ∷ ss) h =
    let p = first_none (size_refused place names s) (sizes_refused place names ss) h in
    two (is_within s) (all_within ss) (within_fine place names s.largest s.number p.0) (sizes_fine place names ss p.1)

unless_fine : (o : Option MonoError) (a : Answer) (all : List Found) → unless o a ≡ Ok all → (o ≡ None) × (a ≡ Ok all)
unless_fine None a all h = (refl, h)
unless_fine (Some why) a all h = absurd (cc)

-- what is found on the way
then_fine : (read next : List Found → Answer) (found all : List Found) → and_then (read found) next ≡ Ok all
    → (some : List Found) × (read found ≡ Ok some) × (next some ≡ Ok all)
then_fine read next found all h = by (read found) refl h
  where
    by : (a : Answer) → read found ≡ a → and_then a next ≡ Ok all → (some : List Found) × (read found ≡ Ok some) × (next some ≡ Ok all)
    by (Ok some) e g = (some, e, g)
    by (Err why) e g = absurd (cc)

-- ---- what is among them stays

pub any_front : (x : Found) (found more : List Found) → IsAmong x found → IsAmong x (found ++ more)
any_front x [] more h = no h
any_front x (y ∷ found) more h = by (found_eq x y) h (λ g. any_front x found more g)
  where
    by : (b : Bool) → (b || list_any (found_eq x) found) ≡ true → (IsAmong x found → IsAmong x (found ++ more))
        → (b || list_any (found_eq x) (found ++ more)) ≡ true
    by true g next = refl
    by false g next = next g

stays : (x : Found) (found all : List Found) → Extends found all → IsAmong x found → IsAmong x all
stays x found all e h = subst (λ (l : List Found). IsAmong x l) (sym e.1) (any_front x found e.0 h)

pub any_last : (x : Found) (found : List Found) → found_eq x x ≡ true → IsAmong x (found ++ x ∷ [])
any_last x [] h = ap (λ (b : Bool). b || false) h
any_last x (y ∷ found) h = by (found_eq x y) (any_last x found h)
  where
    by : (b : Bool) → IsAmong x (found ++ x ∷ []) → (b || list_any (found_eq x) (found ++ x ∷ [])) ≡ true
    by true g = refl
    by false g = g

function_itself : (y : Instance) → found_eq (F.Function y) (F.Function y) ≡ true
function_itself y =
    two (nat_eq y.function y.function) (numbers_eq y.numbers y.numbers && all_eq y.types y.types) ((Decides-eqb y.function y.function).1 refl)
    (two (numbers_eq y.numbers y.numbers) (all_eq y.types y.types) (numbers_itself y.numbers) (all_itself y.types))

room_adds : (place : Place) (x : Found) (found all : List Found) → found_eq x x ≡ true → unless_full place x found ≡ Ok all → IsAmong x all
room_adds place x found all e h = by (nat_lt (length (instances_in found)) most_instances) h
  where
    by : (b : Bool) → (if b then Ok (found ++ x ∷ []) else Err (InstanceLimit place (suc most_instances))) ≡ Ok all → IsAmong x all
    by true g = subst (λ (l : List Found). IsAmong x l) (as_found (found ++ x ∷ []) all g) (any_last x found e)
    by false g = absurd (cc)

adds : (place : Place) (y : Instance) (found all : List Found) → add place y found ≡ Ok all → IsAmong (F.Function y) all
adds place y found all h = by (list_any (found_eq (F.Function y)) found) refl h
  where
    by : (b : Bool) → list_any (found_eq (F.Function y)) found ≡ b → (if b then Ok found else unless_full place (F.Function y) found) ≡ Ok all
        → IsAmong (F.Function y) all
    by true e g = subst (λ (l : List Found). IsAmong (F.Function y) l) (as_found found all g) e
    by false e g = room_adds place (F.Function y) found all (function_itself y) g

mapping_among : (i : ℕ) (found : List Found) → IsAmong (F.Mapping i) (add_mapping i found)
mapping_among i found = by (list_any (found_eq (F.Mapping i)) found) refl
  where
    by : (b : Bool) → list_any (found_eq (F.Mapping i)) found ≡ b → IsAmong (F.Mapping i) (if b then found else found ++ F.Mapping i ∷ [])
    by true e = e
    by false e = any_last (F.Mapping i) found ((Decides-eqb i i).1 refl)

mapping_adds : (i : ℕ) (found all : List Found) → outcome None (add_mapping i found) ≡ Ok all → IsAmong (F.Mapping i) all
mapping_adds i found all h = subst (λ (l : List Found). IsAmong (F.Mapping i) l) (as_found (add_mapping i found) all h) (mapping_among i found)

-- ---- one after another

module _ {A : Type 0} (read : A → List Found → Answer) (keeps : (x : A) → Keeps (read x)) (P : A → List Found → Type 0)
    (lasts : (x : A) (found all : List Found) → Extends found all → P x found → P x all)
    (leaves : (x : A) (found all : List Found) → read x found ≡ Ok all → P x all) where
  over_keep : (xs : List A) → Keeps (over read xs)
  over_keep xs = over_keeps read keeps xs

  over_leaves : (xs : List A) (found all : List Found) → over read xs found ≡ Ok all → (x : A) → IsIn x xs → P x all
  over_leaves [] found all h x i = absurd i
  over_leaves (y ∷ xs) found all h x (inl e) =
      let t = then_fine (read y) (over read xs) found all h in
      subst (λ (z : A). P z all) (sym e) (lasts y t.0 all (over_keep xs t.0 all t.2) (leaves y found t.0 t.1))
  over_leaves (y ∷ xs) found all h x (inr i) =
      let t = then_fine (read y) (over read xs) found all h in
      over_leaves xs t.0 all t.2 x i

-- ---- a note

module _ (r : Inside) where
  callee_lasts : (of : ℕ → Constant) (callee : Callee) (js : List Index) (qs : List Reading) (found all : List Found) → Extends found all
      → CalleeIsAmong r of callee js qs found → CalleeIsAmong r of callee js qs all
  callee_lasts of (D.Function f) js qs found all e h = stays (F.Function (instance_of r of f js qs)) found all e h
  callee_lasts of (D.Converts d) js qs found all e h = stays (F.Mapping (d / 2)) found all e h
  callee_lasts of (D.Applies d) js qs found all e h = stays (F.Mapping (d / 2)) found all e h
  callee_lasts of (D.Row row) js qs found all e h = tt
  callee_lasts of (D.Constructor u c) js qs found all e h = tt

  callee_leaves : (place : Place) (of : ℕ → Constant) (callee : Callee) (js : List Index) (qs : List Reading) (found all : List Found)
      → called r place of callee js qs found ≡ Ok all → CalleeIsAmong r of callee js qs all
  callee_leaves place of (D.Function f) js qs found all h = adds place (instance_of r of f js qs) found all h
  callee_leaves place of (D.Converts d) js qs found all h = mapping_adds (d / 2) found all h
  callee_leaves place of (D.Applies d) js qs found all h = mapping_adds (d / 2) found all h
  callee_leaves place of (D.Row row) js qs found all h = tt
  callee_leaves place of (D.Constructor u c) js qs found all h = tt

  module _ (place : Place) (operands : List Indices) (callee : Callee) (js : List Index) (qs : List Reading) where
    abbrev IsReadHere : List Picked → List Found → Type 0
    IsReadHere ps found = CallIsRead r operands callee js qs ps found

    call_lasts : (ps : List Picked) (found all : List Found) → Extends found all → IsReadHere ps found → IsReadHere ps all
    call_lasts ps found all e h = record {
      numbers = h.numbers;
      types = h.types;
      is_among = callee_lasts (under r ps) callee js qs found all e h.is_among;
    }

    call_leaves : (ps : List Picked) (found all : List Found) → read_call r place operands callee js qs ps found ≡ Ok all → IsReadHere ps all
    call_leaves ps found all h =
        let numbers = unless_fine (numbers_refused r place operands callee js ps)
        (unless (types_refused r place qs ps) (called r place (under r ps) callee js qs found)) all h in
        let types = unless_fine (types_refused r place qs ps) (called r place (under r ps) callee js qs found) all numbers.1 in
        record {
          numbers = numbers_fine place r.names (map (index_under (under r ps)) (given_indices r.sizing callee operands js)) numbers.0;
          types = sizes_fine place r.names (joined (map (reading_sizes r.types (under r ps)) qs)) types.0;
          is_among = callee_leaves place (under r ps) callee js qs found all types.1;
        }

  sizes_leave : (place : Place) (made : Made) (named : Option ℕ) (ps : List Picked) (found all : List Found)
      → read_sizes r place (made_indices r.variables made named) ps found ≡ Ok all → SizeIsRead r made named ps
  sizes_leave place made named ps found all h =
      let sizes = value_sizes r.types (under r ps) (made_indices r.variables made named) in
      sizes_fine place r.names sizes (unless_fine (sizes_refused place r.names sizes) (Ok found) all h).0

  note_lasts : (n : Note) (named : Option ℕ) (found all : List Found) → Extends found all → NoteIsRead r found n named → NoteIsRead r all n named
  note_lasts (size_note facts place made) named found all e h = h
  note_lasts (call_note facts place k operands callee js qs) named found all e h =
      λ ps i. call_lasts place operands callee js qs ps found all e (h ps i)
  note_lasts (way_note facts d) named found all e h = λ ps i. stays (F.Mapping (d / 2)) found all e (h ps i)
  note_lasts (goal_note facts place goal) named found all e h = tt
  note_lasts (made_note facts k operands made) named found all e h = tt
  note_lasts (given_note facts k i) named found all e h = tt
  note_lasts (name_note v name) named found all e h = tt

  note_leaves : (n : Note) (named : Option ℕ) (found all : List Found) → read_note r n named found ≡ Ok all → NoteIsRead r all n named
  note_leaves (size_note facts place made) named found all h =
      over_leaves (read_sizes r place (made_indices r.variables made named)) (sizes_keep r place (made_indices r.variables made named))
      (λ ps l. SizeIsRead r made named ps) (λ ps l m e g. g) (sizes_leave place made named)
      (counted (known_of r.numbers) r.split facts (made_facts r.variables made named)) found all h
  note_leaves (call_note facts place k operands callee js qs) named found all h =
      over_leaves (read_call r place operands callee js qs) (call_keeps r place operands callee js qs) (λ ps l. CallIsRead r operands callee js qs ps l)
      (call_lasts place operands callee js qs) (call_leaves place operands callee js qs) (counted (known_of r.numbers) r.split facts []) found all h
  note_leaves (way_note facts d) named found all h =
      over_leaves (read_way d) (λ ps. mapping_keeps (d / 2)) (λ ps l. IsAmong (F.Mapping (d / 2)) l) (λ ps l m e g. stays (F.Mapping (d / 2)) l m e g)
      (λ ps l m g. mapping_adds (d / 2) l m g) (counted (known_of r.numbers) r.split facts []) found all h
  note_leaves (goal_note facts place goal) named found all h = tt
  note_leaves (made_note facts k operands made) named found all h = tt
  note_leaves (given_note facts k i) named found all h = tt
  note_leaves (name_note v name) named found all h = tt

  notes_last : (ns : List Note) (found all : List Found) → Extends found all → NotesAreRead r found ns → NotesAreRead r all ns
  notes_last [] found all e h = tt
  notes_last (n ∷ ns) found all e h = (note_lasts n (first_named ns) found all e h.0, notes_last ns found all e h.1)

  notes_leave : (ns : List Note) (found all : List Found) → read_notes r ns found ≡ Ok all → NotesAreRead r all ns
  notes_leave [] found all h = tt
  notes_leave (n ∷ ns) found all h =
      let t = then_fine (read_note r n (first_named ns)) (read_notes r ns) found all h in
      (note_lasts n (first_named ns) t.0 all (notes_keep r ns t.0 all t.2) (note_leaves n (first_named ns) found t.0 t.1), notes_leave ns t.0 all t.2)

-- ---- places in a list

slice_front : (found more : List Found) (i : ℕ) (x : Found) → slice_get found i ≡ Some x → slice_get (found ++ more) i ≡ Some x
slice_front [] more i x h = none h
slice_front (y ∷ found) more zero x h = h
slice_front (y ∷ found) more (suc i) x h = slice_front found more i x h

slice_back : (found more : List Found) (i : ℕ) (x : Found) → i < length found → slice_get (found ++ more) i ≡ Some x → slice_get found i ≡ Some x
slice_back [] more i x less h = absurd (omega (arith, less))
slice_back (y ∷ found) more zero x less h = h
slice_back (y ∷ found) more (suc i) x less h =
    let down : suc i < suc (length found) = less in
    slice_back found more i x (omega (arith, down)) h

slice_less : (found : List Found) (i : ℕ) (x : Found) → slice_get found i ≡ Some x → i < length found
slice_less [] i x h = none h
slice_less (y ∷ found) zero x h = omega arith
slice_less (y ∷ found) (suc i) x h =
    let down : i < length found = slice_less found i x h in
    omega (arith, down)

slice_none : (found : List Found) (i : ℕ) → slice_get found i ≡ None → length found ≤ i
slice_none [] i h = omega arith
slice_none (y ∷ found) zero h = absurd (cc)
slice_none (y ∷ found) (suc i) h =
    let down : length found ≤ i = slice_none found i h in
    omega (arith, down)

slice_in : (found : List Found) (x : Found) → IsIn x found → (i : ℕ) × (slice_get found i ≡ Some x)
slice_in [] x h = absurd h
slice_in (y ∷ found) x (inl e) = (0, ap (λ (z : Found). Some z) (sym e))
slice_in (y ∷ found) x (inr h) =
    let more = slice_in found x h in
    (suc more.0, more.1)

less_or_not : (i j : ℕ) → (i < j) ⊎ (j ≤ i)
less_or_not i zero = inr (omega arith)
less_or_not zero (suc j) = inl (omega arith)
less_or_not (suc i) (suc j) = next (less_or_not i j)
  where
    next : (i < j) ⊎ (j ≤ i) → (suc i < suc j) ⊎ (suc j ≤ suc i)
    next (inl e) = inl (omega (arith, e))
    next (inr e) = inr (omega (arith, e))

here_or_later : (i j : ℕ) → i ≤ j → (i ≡ j) ⊎ (suc i ≤ j)
here_or_later zero zero le = inl refl
here_or_later zero (suc j) le = inr (omega arith)
here_or_later (suc i) zero le = absurd (omega (arith, le))
here_or_later (suc i) (suc j) le =
    let down : suc i ≤ suc j = le in
    next (here_or_later i j (omega (arith, down)))
  where
    next : (i ≡ j) ⊎ (suc i ≤ j) → (suc i ≡ suc j) ⊎ (suc (suc i) ≤ suc j)
    next (inl e) = inl (ap suc e)
    next (inr e) = inr (omega (arith, e))

-- ---- a model

module _ (m : Model) where
  bodies_last : (zs : List (Option ℤ)) (own : List Sized) (bs : List Body) (found all : List Found) → Extends found all
      → BodiesAreRead m zs own bs found → BodiesAreRead m zs own bs all
  bodies_last zs own bs found all e h b i = notes_last (reading_of m.core.types m.sizing zs own b) b.notes found all e (h b i)

  bodies_leave : (zs : List (Option ℤ)) (own : List Sized) (bs : List Body) (found all : List Found) → read_bodies m zs own bs found ≡ Ok all
      → BodiesAreRead m zs own bs all
  bodies_leave zs own bs found all h =
      over_leaves (read_body m.core.types m.sizing zs own) (λ b. notes_keep (reading_of m.core.types m.sizing zs own b) b.notes)
      (λ b l. NotesAreRead (reading_of m.core.types m.sizing zs own b) l b.notes)
      (λ b l n e g. notes_last (reading_of m.core.types m.sizing zs own b) b.notes l n e g)
      (λ b l n g. notes_leave (reading_of m.core.types m.sizing zs own b) b.notes l n g) bs found all h

  read_lasts_on : (x : Found) (found all : List Found) → Extends found all → IsRead m found x → IsRead m all x
  read_lasts_on (F.Function y) found all e h =
      bodies_last y.numbers y.types (or_none (slice_get m.bodies.functions y.function)) found all e h
  read_lasts_on (F.Mapping i) found all e h = bodies_last [] [] (one_or_none (slice_get m.bodies.mappings i)) found all e h

  found_leaves : (x : Found) (found all : List Found) → read_found m x found ≡ Ok all → IsRead m all x
  found_leaves (F.Function y) found all h =
      bodies_leave y.numbers y.types (or_none (slice_get m.bodies.functions y.function)) found all h
  found_leaves (F.Mapping i) found all h = bodies_leave [] [] (one_or_none (slice_get m.bodies.mappings i)) found all h

  -- what is read from the i-th on, so many times
  abbrev Reads : ℕ → ℕ → Type 0
  Reads times i = (found all : List Found) → grow times m i found ≡ Ok all → (j : ℕ) (x : Found) → slice_get all j ≡ Some x → i ≤ j → j < i + times
      → IsRead m all x

  -- the i-th, or one behind it
  one_more : (times i : ℕ) (all : List Found) (j : ℕ) (x : Found) → slice_get all j ≡ Some x → j < i + suc times → (o : Found) → slice_get all i ≡ Some o
      → IsRead m all o → Reads times (suc i) → (some : List Found) → grow times m (suc i) some ≡ Ok all → (i ≡ j) ⊎ (suc i ≤ j) → IsRead m all x
  one_more times i all j x at less o here read more some g (inl e) =
      let same : o ≡ x = cc (sym here ∙ ap (slice_get all) e ∙ at) in
      subst (λ (z : Found). IsRead m all z) same read
  one_more times i all j x at less o here read more some g (inr later) = more some all g j x at later (omega (arith, less))

  grow_reads : (times i : ℕ) → Reads times i
  grow_reads zero i found all h j x at le less = absurd (omega (arith, le, less))
  grow_reads (suc times) i found all h j x at le less = by (slice_get found i) refl (grow_reads times (suc i)) h
    where
      by : (o : Option Found) → slice_get found i ≡ o → Reads times (suc i) → grow_from m found o (grow times m (suc i)) ≡ Ok all → IsRead m all x
      by None e more g =
          let same : found ≡ all = as_found found all g in
          let short : length found ≤ i = slice_none found i e in
          let long : j < length found = slice_less found j x (subst (λ (l : List Found). slice_get l j ≡ Some x) (sym same) at) in
          absurd (omega (arith, short, long, le))
      by (Some y) e more g =
          let t = then_fine (read_found m y) (grow times m (suc i)) found all g in
          let kept : Extends found t.0 = found_keeps m y found t.0 t.1 in
          let behind : Extends t.0 all = grow_keeps m times (suc i) t.0 all t.2 in
          let whole : Extends found all = further found t.0 all kept behind in
          let here : slice_get all i ≡ Some y =
          subst (λ (l : List Found). slice_get l i ≡ Some y) (sym whole.1) (slice_front found whole.0 i y e) in
          one_more times i all j x at less y here (read_lasts_on y t.0 all behind (found_leaves y found t.0 t.1)) more t.0 t.2 (here_or_later i j le)

  -- ---- what comes last

  register_leaves : (r : Register) (text : RegisterText) (bs : List Body) (found all : List Found) → read_register m r text bs found ≡ Ok all
      → BodiesAreRead m [] [] bs all
  register_leaves r text bs found all h =
      let t = then_fine (read_bodies m [] [] bs) (λ more. unless (register_refused m.core.types r text) (Ok more)) found all h in
      let same : t.0 ≡ all = as_found t.0 all (unless_fine (register_refused m.core.types r text) (Ok t.0) all t.2).1 in
      subst (λ (l : List Found). BodiesAreRead m [] [] bs l) same (bodies_leave [] [] bs found t.0 t.1)

  lasts_leave : (rs : List Register) (texts : List RegisterText) (os : List Opening) (bs : List Body) (found all : List Found)
      → last_from m rs texts os bs found ≡ Ok all → BodiesAreRead m [] [] bs all
  lasts_leave [] texts os bs found all h = bodies_leave [] [] bs found all h
  lasts_leave (r ∷ rs) [] os bs found all h = bodies_leave [] [] bs found all h
  lasts_leave (r ∷ rs) (text ∷ texts) os bs found all h =
      let n : ℕ = count_before text.place os in
      let t = then_fine (read_register m r text (take n bs)) (last_from m rs texts (drop n os) (drop n bs)) found all h in
      let kept : Extends t.0 all = last_keeps m rs texts (drop n os) (drop n bs) t.0 all t.2 in
      let front = bodies_last [] [] (take n bs) t.0 all kept (register_leaves r text (take n bs) found t.0 t.1) in
      let rest = lasts_leave rs texts (drop n os) (drop n bs) t.0 all t.2 in
      λ b i. by n front rest b (part_there b n bs i)
    where
      by : (n : ℕ) → BodiesAreRead m [] [] (take n bs) all → BodiesAreRead m [] [] (drop n bs) all → (b : Body) → IsIn b (take n bs) ⊎ IsIn b (drop n bs)
          → NotesAreRead (reading_of m.core.types m.sizing [] [] b) all b.notes
      by n front rest b (inl k) = front b k
      by n front rest b (inr k) = rest b k

  openings_read : (all : List Found) → found_from m (entry m.core.reset ∷ entry m.core.step ∷ []) ≡ Ok all → BodiesAreRead m [] [] m.bodies.openings all
  openings_read all h =
      let start : List Found = entry m.core.reset ∷ entry m.core.step ∷ [] in
      let once = then_fine (grow (times_enough m) m 0) (λ first. and_then (read_lasts m first) (grow (times_enough m) m (length first))) start all h in
      let lasts = then_fine (read_lasts m) (grow (times_enough m) m (length once.0)) once.0 all once.2 in
      bodies_last [] [] m.bodies.openings lasts.0 all (grow_keeps m (times_enough m) (length once.0) lasts.0 all lasts.2)
      (lasts_leave m.core.registers m.core.register_texts m.core.openings m.bodies.openings once.0 lasts.0 lasts.1)

  -- ---- all of it

  all_read : (all : List Found) → found_from m (entry m.core.reset ∷ entry m.core.step ∷ []) ≡ Ok all → length all ≤ times_enough m → (j : ℕ) (x : Found)
      → slice_get all j ≡ Some x → IsRead m all x
  all_read all h enough j x at =
      let start : List Found = entry m.core.reset ∷ entry m.core.step ∷ [] in
      let once = then_fine (grow (times_enough m) m 0) (λ first. and_then (read_lasts m first) (grow (times_enough m) m (length first))) start all h in
      let lasts = then_fine (read_lasts m) (grow (times_enough m) m (length once.0)) once.0 all once.2 in
      let front : Extends once.0 lasts.0 =
      last_keeps m m.core.registers m.core.register_texts m.core.openings m.bodies.openings once.0 lasts.0 lasts.1 in
      let behind : Extends lasts.0 all = grow_keeps m (times_enough m) (length once.0) lasts.0 all lasts.2 in
      let whole : Extends once.0 all = further once.0 lasts.0 all front behind in
      let long : j < length all = slice_less all j x at in
      by once.0 lasts.0 once.1 lasts.2 whole long (less_or_not j (length once.0))
    where
      by : (some more : List Found) → grow (times_enough m) m 0 (entry m.core.reset ∷ entry m.core.step ∷ []) ≡ Ok some
          → grow (times_enough m) m (length some) more ≡ Ok all → Extends some all → j < length all → (j < length some) ⊎ (length some ≤ j) → IsRead m all x
      by some more g k whole long (inl less) =
          let there : slice_get some j ≡ Some x = slice_back some whole.0 j x less (subst (λ (l : List Found). slice_get l j ≡ Some x) whole.1 at) in
          read_lasts_on x some all whole
          (grow_reads (times_enough m) 0 (entry m.core.reset ∷ entry m.core.step ∷ []) some g j x there (omega arith) (omega (arith, long, enough)))
      by some more g k whole long (inr past) =
          grow_reads (times_enough m) (length some) more all k j x at past (omega (arith, long, enough))

-- where no more is found than the definition reads
pub found_read : (m : Model) (all : List Found) → found_from m (entry m.core.reset ∷ entry m.core.step ∷ []) ≡ Ok all
    → BodiesAreRead m [] [] m.bodies.openings all × (length all ≤ times_enough m → (x : Found) → IsIn x all → IsRead m all x)
found_read m all h = (
  openings_read m all h,
  λ enough x i.
      let at = slice_in all x i in
      all_read m all h enough at.0 x at.1,
)
