-- Values go through the mappings of their parts.
use Rattle.std.specs.Prelude.{Bool, List, None, Option, Some, drop, false, length, nat_eq, nat_lt, pos, replicate}
use Rattle.std.specs.Prelude.{take, ℕ, [], ◌∷◌, ◌-◌}
use Rattle.sail_base.specs.declared.place.Place.{Place}
use Rattle.sail_types.specs.Sums.{constant}
use Rattle.sail_types.specs.declared.numbers.Num.{Num}
use Rattle.sail_types.specs.declared.shapes.Shape.{Shape}
use Rattle.sail_core.specs.declared.targets.Suffix.{Suffix}
use Rattle.sail_core.specs.declared.targets.Way.{Way}
use Rattle.sail_core.specs.declared.targets.Way.TheVariants as Y
use Rattle.value_indices.specs.Steps.{Walk}
use Rattle.value_indices.specs.declared.indices.Indices.{Indices, out-Indices}
use Rattle.value_indices.specs.declared.indices.Indices.TheOpen as W
use Rattle.value_indices.specs.declared.indices.Indices.TheOpen.{Indices-F, Reading-F}
use Rattle.value_indices.specs.declared.indices.Indices.TheVariants as I
use Rattle.value_indices.specs.declared.indices.Reading.{Reading, out-Reading}
use Rattle.value_indices.specs.declared.indices.Reading.TheVariants as R
use Rattle.value_fits.specs.Fitting.{fits, item_fits}
use Rattle.pattern_leaves.specs.Settings.{Around, Scope}
use Rattle.call_arguments.specs.Aims.{aimed}
use Rattle.call_arguments.specs.Holes.{has_hole, without_holes}
use Rattle.call_arguments.specs.declared.aims.Aim.{Aim}
use Rattle.call_arguments.specs.declared.aims.Aim.TheVariants as Aims
use Rattle.expression_forms.specs.Ways.{fields_of}
use Rattle.expression_forms.specs.declared.ways.Ends.{Ends}
use Rattle.expression_forms.specs.declared.ways.Reached.{Reached}
use Rattle.expression_steps.specs.Filling.{put_aim}
use Rattle.expression_steps.specs.Parts.{Part}
use Rattle.expression_steps.specs.Values.{tuple_indices, tuple_of, tuple_aims, tuple_walk, items_due, item_owed, item_like, items_like}
use Rattle.expression_steps.specs.Values.{filled_here, Row, first_like, first_free, items_free, items_wanted, items_of, items_walk}
use Rattle.expression_steps.specs.Values.{wanted_item, sized_vector, vector_of, vector_walk, sized_list, list_of, list_walk, cons_due}
use Rattle.expression_steps.specs.Values.{list_owing, list_like, cons_filled, cons_onto, cons_before, cons_found, cons_free, cons_of, cons_walk}
use Rattle.expression_steps.specs.Values.{struct_aims, struct_count, struct_made, struct_walk, with_aims, no_struct, with_behind}
use Rattle.expression_steps.specs.Values.{with_walk, indexes_of, slice_reached, slice_between, reached_by, way_taken, no_way, way_walk}
use Rattle.expression_steps.specs.Values.{read_taken, suffix_walk, then_on, suffixes_walk, value_on, left_after, suffixed, part_walk}
use Rattle.expression_steps.specs.Values.{part_forms, part_updated, updated, numbers_updated, update_walk, update_forms, Taken, Passed}
use Rattle.note_laws.specs.Ways.{Told}
use Rattle.note_laws.proofs.Goes.{Goes, IsTabled, Keeps, Every, PartGoes, TakenGoes, PassedGoes, keep_give, give_goes}
use Rattle.note_laws.proofs.Goes.{bind_to, bind_goes, if_goes, next_variable_goes, wrong_goes, owe_fit_goes, take_every, drop_every}
use Rattle.note_laws.proofs.ArgumentGoes.{named_made_goes}
use Rattle.note_laws.proofs.EndGoes.{never_value_goes, sized_goes, wrong_value_goes}
use Rattle.note_laws.proofs.FillingGoes.{put_ended_goes, with_ended_goes}
use Rattle.note_laws.proofs.NodeGoes.{node_ended_goes}
use Rattle.note_laws.proofs.PartGoes.{each_walk_goes, numbers_walk_goes}
use Rattle.note_laws.proofs.WayGoes.{if_never_value_goes, suffix_read_goes, with_width_goes}
use Rattle.note_laws.proofs.WideGoes.{filled_goes}

module _ (told : Told) where
  pub tuple_of_goes : (k : ℕ) (is : List Indices) → Goes told (tuple_of k is)
  tuple_of_goes k is = node_ended_goes told k is (tuple_indices is)

  pub tuple_walk_goes : (k : ℕ) (parts : List Part) → Every (PartGoes told) parts
      → (around : Around) (tabled : IsTabled told around) (scope : Scope) (aim : Aim)
      → Goes told (tuple_walk k parts around scope aim)
  tuple_walk_goes k parts parts_go around tabled scope aim =
      bind_goes told _ _ (each_walk_goes told parts parts_go around tabled scope (tuple_aims aim)) (tuple_of_goes k)

  pub filled_here_goes : (around : Around) (shape : Shape) (i : Indices) → Goes told (filled_here around shape i)
  filled_here_goes around shape i = bind_goes told _ _ (next_variable_goes told) (λ m. filled_goes told around.types m shape i)

  pub item_owed_goes : (around : Around) (place : Place) (r : Reading) (i : Indices) → Goes told (item_owed around place r i)
  item_owed_goes around place r i = owe_fit_goes told place (fits around.types i r)

  pub list_owing_goes : (around : Around) (place : Place) (i : Indices) (r : Reading) → Goes told (list_owing around place i r)
  list_owing_goes around place i r = bind_goes told _ _ (item_owed_goes around place (without_holes r) i) (λ t. give_goes told _)

  pub list_like_goes : (around : Around) (place : Place) (i : Indices) (r : Reading) (q : Reading) → Goes told (list_like around place i r q)
  list_like_goes around place i r q =
      bind_goes told _ _ (owe_fit_goes told place (item_fits (fits around.types) r (without_holes q))) (λ t. list_owing_goes around place i q)

  pub cons_filled_goes : (around : Around) (shape : Shape) (place : Place) (i : Indices) (r : Reading) → Goes told (cons_filled around shape place i r)
  cons_filled_goes around shape place i r = bind_goes told _ _ (filled_here_goes around shape i) (list_like_goes around place i r)

  pub cons_onto_goes : (around : Around) (shape : Shape) (place : Place) (i : Indices) (r : Reading) → Goes told (cons_onto around shape place i r)
  cons_onto_goes around shape place i r = if_goes told (has_hole r) _ _ (cons_filled_goes around shape place i r) (list_owing_goes around place i r)

  pub cons_before_goes : (around : Around) (shape : Shape) (place : Place) (i : Indices) (form : Indices-F Indices Reading)
      → Goes told (cons_before around shape place i form)
  cons_before_goes around shape place i (W.List r) = cons_onto_goes around shape place i r
  cons_before_goes around shape place i W.Never = never_value_goes told
  cons_before_goes around shape place i form = wrong_value_goes told place

  pub cons_found_goes : (around : Around) (shape : Shape) (place : Place) (k : ℕ) (i : Indices) (j : Indices)
      → Goes told (cons_found around shape place k i j)
  cons_found_goes around shape place k i j =
      bind_goes told _ _ (cons_before_goes around shape place i (out-Indices j)) (node_ended_goes told k (i ∷ j ∷ []))

  pub cons_free_goes : (k : ℕ) (shape : Shape) (a : Part) → PartGoes told a → (b : Part) → PartGoes told b
      → (around : Around) (tabled : IsTabled told around) (scope : Scope)
      → Goes told (cons_free k shape a b around scope)
  cons_free_goes k shape a a_go b b_go around tabled scope =
      bind_goes told _ _ (a_go.walk around tabled scope Aims.Free)
      (λ i. bind_goes told _ _ (b_go.walk around tabled scope Aims.Free) (cons_found_goes around shape a.place k i))

  pub cons_due_goes : (k : ℕ) (a : Part) → PartGoes told a → (b : Part) → PartGoes told b
      → (around : Around) (tabled : IsTabled told around) (scope : Scope) (r : Reading)
      → Goes told (cons_due k a b around scope r)
  cons_due_goes k a a_go b b_go around tabled scope r =
      bind_goes told _ _ (a_go.walk around tabled scope (aimed Aims.Due r))
      (λ i. bind_goes told _ _ (b_go.walk around tabled scope (Aims.Due (R.Widened (I.List r)))) (λ j. node_ended_goes told k (i ∷ j ∷ []) (I.List r)))

  pub cons_of_goes : (k : ℕ) (shape : Shape) (a : Part) → PartGoes told a → (b : Part) → PartGoes told b
      → (around : Around) (tabled : IsTabled told around) (scope : Scope) (form : Reading-F Indices Reading) (r : Reading)
      → Goes told (cons_of k shape a b around scope form r)
  cons_of_goes k shape a a_go b b_go around tabled scope W.Hole r = cons_free_goes k shape a a_go b b_go around tabled scope
  cons_of_goes k shape a a_go b b_go around tabled scope form r = cons_due_goes k a a_go b b_go around tabled scope r

  pub cons_walk_goes : (k : ℕ) (shape : Shape) (a : Part) → PartGoes told a → (b : Part) → PartGoes told b
      → (around : Around) (tabled : IsTabled told around) (scope : Scope) (aim : Aim)
      → Goes told (cons_walk k shape a b around scope aim)
  cons_walk_goes k shape a a_go b b_go around tabled scope aim =
      cons_of_goes k shape a a_go b b_go around tabled scope (out-Reading (wanted_item aim)) (wanted_item aim)

  pub struct_made_goes : (around : Around) (k : ℕ) (u : ℕ) (ks : List ℕ) (parts : List Part) → Every (PartGoes told) parts → (is : List Indices)
      → Goes told (struct_made around k u ks parts is)
  struct_made_goes around k u ks parts parts_go is =
      bind_goes told _ _ (named_made_goes told around u parts parts_go None (fields_of around u ks) is) (node_ended_goes told k is)

  pub struct_walk_goes : (k : ℕ) (u : ℕ) (ks : List ℕ) (parts : List Part) → Every (PartGoes told) parts
      → (around : Around) (tabled : IsTabled told around) (scope : Scope)
      → Goes told (struct_walk k u ks parts around scope)
  struct_walk_goes k u ks parts parts_go around tabled scope =
      bind_goes told _ _ (each_walk_goes told (take (struct_count around u ks) parts)
      (take_every _ (struct_count around u ks) parts parts_go) around tabled scope (struct_aims around u ks)) (struct_made_goes around k u ks parts parts_go)

  pub item_like_goes : (a : Part) → PartGoes told a → (around : Around) (tabled : IsTabled told around) (scope : Scope) (r : Reading)
      → Goes told (item_like a around scope r)
  item_like_goes a a_go around tabled scope r =
      bind_goes told _ _ (a_go.walk around tabled scope Aims.Free) (λ i. bind_goes told _ _ (item_owed_goes around a.place r i) (λ t. give_goes told _))

  pub items_like_goes : (items : List Part) → Every (PartGoes told) items → (around : Around) (tabled : IsTabled told around) (scope : Scope) (r : Reading)
      → Goes told (items_like items around scope r)
  items_like_goes [] parts_go around tabled scope r = give_goes told _
  items_like_goes (a ∷ items) parts_go around tabled scope r =
      bind_goes told _ _ (item_like_goes a parts_go.0 around tabled scope r)
      (λ i. bind_goes told _ _ (items_like_goes items parts_go.1 around tabled scope r) (λ is. give_goes told _))

  pub first_like_goes : (items : List Part) → Every (PartGoes told) items
      → (around : Around) (tabled : IsTabled told around) (scope : Scope) (place : Place) (i : Indices) (r : Reading)
      → Goes told (first_like items around scope place i r)
  first_like_goes items items_go around tabled scope place i r =
      bind_goes told _ _ (item_owed_goes around place (without_holes r) i)
      (λ t. bind_goes told _ _ (items_like_goes items items_go around tabled scope (without_holes r)) (λ is. give_goes told _))

  pub first_free_goes : (a : Part) → PartGoes told a → (items : List Part) → Every (PartGoes told) items
      → (around : Around) (tabled : IsTabled told around) (scope : Scope) (shape : Shape) → Goes told (first_free a items around scope shape)
  first_free_goes a a_go items items_go around tabled scope shape =
      bind_goes told _ _ (a_go.walk around tabled scope Aims.Free)
      (λ i. bind_goes told _ _ (filled_here_goes around shape i) (first_like_goes items items_go around tabled scope a.place i))

  pub items_free_goes : (items : List Part) → Every (PartGoes told) items → (around : Around) (tabled : IsTabled told around) (scope : Scope) (shape : Shape)
      → Goes told (items_free items around scope shape)
  items_free_goes [] parts_go around tabled scope shape = give_goes told _
  items_free_goes (a ∷ items) parts_go around tabled scope shape = first_free_goes a parts_go.0 items parts_go.1 around tabled scope shape

  pub items_due_goes : (items : List Part) → Every (PartGoes told) items → (around : Around) (tabled : IsTabled told around) (scope : Scope) (aim : Aim)
      → Goes told (items_due items around scope aim)
  items_due_goes items items_go around tabled scope aim = each_walk_goes told items items_go around tabled scope (replicate (length items) aim)

  pub items_wanted_goes : (items : List Part) → Every (PartGoes told) items → (around : Around) (tabled : IsTabled told around) (scope : Scope) (r : Reading)
      → Goes told (items_wanted items around scope r)
  items_wanted_goes items items_go around tabled scope r =
      bind_goes told _ _ (items_due_goes items items_go around tabled scope (aimed Aims.Due r)) (λ is. give_goes told _)

  pub items_of_goes : (items : List Part) → Every (PartGoes told) items
      → (around : Around) (tabled : IsTabled told around) (scope : Scope) (shape : Shape) (form : Reading-F Indices Reading) (r : Reading)
      → Goes told (items_of items around scope shape form r)
  items_of_goes items items_go around tabled scope shape W.Hole r = items_free_goes items items_go around tabled scope shape
  items_of_goes items items_go around tabled scope shape form r = items_wanted_goes items items_go around tabled scope r

  pub items_walk_goes : (items : List Part) → Every (PartGoes told) items
      → (around : Around) (tabled : IsTabled told around) (scope : Scope) (shape : Shape) (r : Reading)
      → Goes told (items_walk items around scope shape r)
  items_walk_goes items items_go around tabled scope shape r = items_of_goes items items_go around tabled scope shape (out-Reading r) r

  pub sized_vector_goes : (place : Place) (n : Num) (r : Reading) → Goes told (sized_vector place n r)
  sized_vector_goes place n r = bind_goes told _ _ (sized_goes told place (I.Vector n r)) (λ t. give_goes told _)

  pub vector_of_goes : (place : Place) (k : ℕ) (x : Row) → Goes told (vector_of place k x)
  vector_of_goes place k x = bind_goes told _ _ (sized_vector_goes place (constant (pos (length x.1))) x.0) (node_ended_goes told k x.1)

  pub vector_walk_goes : (place : Place) (k : ℕ) (shape : Shape) (items : List Part) → Every (PartGoes told) items
      → (around : Around) (tabled : IsTabled told around) (scope : Scope) (aim : Aim) → Goes told (vector_walk place k shape items around scope aim)
  vector_walk_goes place k shape items items_go around tabled scope aim =
      bind_goes told _ _ (items_walk_goes items items_go around tabled scope shape (wanted_item aim)) (vector_of_goes place k)

  pub sized_list_goes : (place : Place) (r : Reading) → Goes told (sized_list place r)
  sized_list_goes place r = bind_goes told _ _ (sized_goes told place (I.List r)) (λ t. give_goes told _)

  pub list_of_goes : (place : Place) (k : ℕ) (x : Row) → Goes told (list_of place k x)
  list_of_goes place k x = bind_goes told _ _ (sized_list_goes place x.0) (node_ended_goes told k x.1)

  pub list_walk_goes : (place : Place) (k : ℕ) (shape : Shape) (items : List Part) → Every (PartGoes told) items
      → (around : Around) (tabled : IsTabled told around) (scope : Scope) (aim : Aim) → Goes told (list_walk place k shape items around scope aim)
  list_walk_goes place k shape items items_go around tabled scope aim =
      bind_goes told _ _ (items_walk_goes items items_go around tabled scope shape (wanted_item aim)) (list_of_goes place k)

  pub no_struct_goes : (place : Place) (form : Indices-F Indices Reading) → Goes told (no_struct place form)
  no_struct_goes place W.Never = never_value_goes told
  no_struct_goes place form = wrong_value_goes told place

  pub with_behind_goes : (place : Place) (k : ℕ) (u : ℕ) (ks : List ℕ) (parts : List Part) → Every (PartGoes told) parts
      → (around : Around) (tabled : IsTabled told around) (scope : Scope) (i : Indices) (aims : Option (List Aim))
      → Goes told (with_behind place k u ks parts around scope i aims)
  with_behind_goes place k u ks parts parts_go around tabled scope i None = no_struct_goes place (out-Indices i)
  with_behind_goes place k u ks parts parts_go around tabled scope i (Some aims) =
      bind_goes told _ _ (each_walk_goes told (take (length aims) parts) (take_every _ (length aims) parts parts_go) around tabled scope aims)
      (with_ended_goes told around place k u ks i)

  pub with_walk_goes : (place : Place) (k : ℕ) (u : ℕ) (ks : List ℕ) (a : Part) → PartGoes told a → (parts : List Part) → Every (PartGoes told) parts
      → (around : Around) (tabled : IsTabled told around) (scope : Scope) → Goes told (with_walk place k u ks a parts around scope)
  with_walk_goes place k u ks a a_go parts parts_go around tabled scope =
      bind_goes told _ _ (a_go.walk around tabled scope Aims.Free)
      (λ i. with_behind_goes place k u ks parts parts_go around tabled scope i (with_aims around u ks (length parts) (out-Indices i)))

  pub no_way_goes : (place : Place) → Keeps told (TakenGoes told) (no_way place)
  no_way_goes place = bind_goes told _ _ (wrong_goes told place) (λ t. keep_give told _ _ tt)

  pub slice_reached_goes : (i : Indices) (e : Option Ends) → Goes told (slice_reached i e)
  slice_reached_goes i None = give_goes told _
  slice_reached_goes i (Some e) = give_goes told _

  pub slice_between_goes : (i : Indices) (high : Num) (low : Num) → Goes told (slice_between i high low)
  slice_between_goes i high low = bind_goes told _ _ (with_width_goes told high low) (slice_reached_goes i)

  pub reached_by_goes : (around : Around) (i : Indices) (way : Way) (ns : List Num) → Goes told (reached_by around i way ns)
  reached_by_goes around i (Y.Field u k) ns = give_goes told _
  reached_by_goes around i Y.Item (n ∷ []) = give_goes told _
  reached_by_goes around i Y.Slice (high ∷ low ∷ []) = slice_between_goes i high low
  reached_by_goes around i way ns = give_goes told _

  pub way_taken_goes : (around : Around) (i : Indices) (way : Way) (left : List Part) → Every (PartGoes told) left → (ns : Option (List Num))
      → Keeps told (TakenGoes told) (way_taken around i way left ns)
  way_taken_goes around i way left left_go None = keep_give told _ _ tt
  way_taken_goes around i way left left_go (Some ns) = bind_goes told _ _ (reached_by_goes around i way ns) (λ x. keep_give told _ _ left_go)

  pub way_walk_goes : (place : Place) (parts : List Part) → Every (PartGoes told) parts
      → (around : Around) (tabled : IsTabled told around) (scope : Scope) (i : Indices) (way : Way)
      → Keeps told (TakenGoes told) (way_walk place parts around scope i way)
  way_walk_goes place parts parts_go around tabled scope i way =
      if_goes told (nat_lt (length parts) (indexes_of way)) _ _ (no_way_goes place)
      (bind_goes told _ _ (numbers_walk_goes told (take (indexes_of way) parts) (take_every _ (indexes_of way) parts parts_go) around tabled scope)
      (way_taken_goes around i way (drop (indexes_of way) parts) (drop_every _ (indexes_of way) parts parts_go)))

  pub read_taken_goes : (is_target : Bool) (place : Place) (k : ℕ) (i : Indices) (w : Option Taken) → TakenGoes told w
      → Keeps told (PassedGoes told) (read_taken is_target place k i w)
  read_taken_goes is_target place k i None taken_go = keep_give told _ _ tt
  read_taken_goes is_target place k i (Some w) taken_go =
      bind_goes told _ _ (suffix_read_goes told is_target place k i w.reached) (λ j. keep_give told _ _ taken_go)

  pub suffix_walk_goes : (is_target : Bool) (s : Suffix) (parts : List Part) → Every (PartGoes told) parts
      → (around : Around) (tabled : IsTabled told around) (scope : Scope) (i : Indices)
      → Keeps told (PassedGoes told) (suffix_walk is_target s parts around scope i)
  suffix_walk_goes is_target s parts parts_go around tabled scope i =
      bind_to told _ _ (way_walk_goes s.place parts parts_go around tabled scope i s.way) (read_taken_goes is_target s.place s.number i)

  pub then_on_goes : {A : Type 0} (Q : Option A → Type 0) → Q None → (next : List Part → Indices → Walk (Option A))
      → ((left : List Part) → Every (PartGoes told) left → (i : Indices) → Keeps told Q (next left i))
      → (o : Option Passed) → PassedGoes told o → Keeps told Q (then_on next o)
  then_on_goes Q q next next_go None h = keep_give told Q None q
  then_on_goes Q q next next_go (Some w) h = next_go w.left h w.value

  pub suffixes_walk_goes : (is_target : Bool) (ss : List Suffix) (around : Around) (tabled : IsTabled told around) (scope : Scope) (parts : List Part)
      → Every (PartGoes told) parts
      → (i : Indices) → Keeps told (PassedGoes told) (suffixes_walk is_target ss around scope parts i)
  suffixes_walk_goes is_target [] around tabled scope parts parts_go i = keep_give told _ _ parts_go
  suffixes_walk_goes is_target (s ∷ ss) around tabled scope parts parts_go i =
      bind_to told _ _ (suffix_walk_goes is_target s parts parts_go around tabled scope i)
      (then_on_goes (PassedGoes told) tt _ (suffixes_walk_goes is_target ss around tabled scope))

  pub value_on_goes : (w : Option Passed) → PassedGoes told w → Goes told (value_on w)
  value_on_goes None passed_go = never_value_goes told
  value_on_goes (Some w) passed_go = give_goes told _

  pub suffixed_goes : (place : Place) (ss : List Suffix) (parts : List Part) → Every (PartGoes told) parts
      → (around : Around) (tabled : IsTabled told around) (scope : Scope) (i : Indices)
      → Goes told (suffixed place ss parts around scope i)
  suffixed_goes place ss parts parts_go around tabled scope i =
      if_goes told (nat_eq (left_after ss (length parts)) 0) _ _
      (bind_to told _ _ (suffixes_walk_goes false ss around tabled scope parts parts_go i) value_on_goes) (if_never_value_goes told place i)

  pub part_walk_goes : (place : Place) (ss : List Suffix) (a : Part) → PartGoes told a → (parts : List Part) → Every (PartGoes told) parts
      → (around : Around) (tabled : IsTabled told around) (scope : Scope) → Goes told (part_walk place ss a parts around scope)
  part_walk_goes place ss a a_go parts parts_go around tabled scope =
      bind_goes told _ _ (a_go.walk around tabled scope Aims.Free) (suffixed_goes place ss parts parts_go around tabled scope)

  pub part_forms_goes : (place : Place) (ss : List Suffix) (parts : List Part) → Every (PartGoes told) parts
      → (around : Around) (tabled : IsTabled told around) (scope : Scope)
      → Goes told (part_forms place ss parts around scope)
  part_forms_goes place ss [] parts_go around tabled scope = wrong_value_goes told place
  part_forms_goes place ss (a ∷ parts) parts_go around tabled scope = part_walk_goes place ss a parts_go.0 parts parts_go.1 around tabled scope

  pub part_updated_goes : (place : Place) (k : ℕ) (c : Part) → PartGoes told c
      → (around : Around) (tabled : IsTabled told around) (scope : Scope) (i : Indices) (x : Reached)
      → Goes told (part_updated place k c around scope i x)
  part_updated_goes place k c c_go around tabled scope i x =
      bind_goes told _ _ (c_go.walk around tabled scope (put_aim x.typ)) (put_ended_goes told around place k c.is_nested i x)

  pub updated_goes : (place : Place) (k : ℕ) (c : Part) → PartGoes told c
      → (around : Around) (tabled : IsTabled told around) (scope : Scope) (i : Indices) (x : Option Reached)
      → Goes told (updated place k c around scope i x)
  updated_goes place k c c_go around tabled scope i None = if_never_value_goes told place i
  updated_goes place k c c_go around tabled scope i (Some x) = part_updated_goes place k c c_go around tabled scope i x

  pub numbers_updated_goes : (place : Place) (k : ℕ) (way : Way) (c : Part) → PartGoes told c
      → (around : Around) (tabled : IsTabled told around) (scope : Scope) (i : Indices) (ns : Option (List Num))
      → Goes told (numbers_updated place k way c around scope i ns)
  numbers_updated_goes place k way c c_go around tabled scope i None = never_value_goes told
  numbers_updated_goes place k way c c_go around tabled scope i (Some ns) =
      bind_goes told _ _ (reached_by_goes around i way ns) (updated_goes place k c c_go around tabled scope i)

  pub update_walk_goes : (place : Place) (k : ℕ) (way : Way) (a : Part) → PartGoes told a → (indexes : List Part) → Every (PartGoes told) indexes
      → (c : Part) → PartGoes told c → (around : Around) (tabled : IsTabled told around) (scope : Scope)
      → Goes told (update_walk place k way a indexes c around scope)
  update_walk_goes place k way a a_go indexes indexes_go c c_go around tabled scope =
      bind_goes told _ _ (a_go.walk around tabled scope Aims.Free)
      (λ i. bind_goes told _ _ (numbers_walk_goes told indexes indexes_go around tabled scope) (numbers_updated_goes place k way c c_go around tabled scope i))

  pub update_forms_goes : (place : Place) (k : ℕ) (way : Way) (parts : List Part) → Every (PartGoes told) parts
      → (around : Around) (tabled : IsTabled told around) (scope : Scope)
      → Goes told (update_forms place k way parts around scope)
  update_forms_goes place k (Y.Field u f) (a ∷ c ∷ []) parts_go around tabled scope =
      update_walk_goes place k (Y.Field u f) a parts_go.0 [] tt c parts_go.1.0 around tabled scope
  update_forms_goes place k Y.Item (a ∷ b ∷ c ∷ []) parts_go around tabled scope =
      update_walk_goes place k Y.Item a parts_go.0 (b ∷ []) (parts_go.1.0, tt) c parts_go.1.1.0 around tabled scope
  update_forms_goes place k Y.Slice (a ∷ b ∷ c ∷ d ∷ []) parts_go around tabled scope =
      update_walk_goes place k Y.Slice a parts_go.0 (b ∷ c ∷ []) (parts_go.1.0, (parts_go.1.1.0, tt)) d parts_go.1.1.1.0 around tabled scope
  update_forms_goes place k way parts parts_go around tabled scope = wrong_value_goes told place
