-- Names, calls, values that are made of parts, and parts of values note no more than their parts and their own node.
use Rattle.std.proofs.Common.{◌≡◌, ℕ, suc, ◌+◌, ◌-◌, ◌≤◌, nat_eq, nat_lt, Bool, true, false, List, [], ◌∷◌, ◌++◌, length, take, drop}
use Rattle.std.proofs.Common.{Option, Some, None, if◌then◌else◌, pos, sym, subst, refl, arith}
use Rattle.sail_base.specs.declared.place.Place.{Place}
use Rattle.sail_types.specs.Sums.{constant}
use Rattle.sail_types.specs.declared.numbers.Index.{Index}
use Rattle.sail_types.specs.declared.numbers.Num.{Num}
use Rattle.sail_types.specs.declared.shapes.Shape.{Shape}
use Rattle.sail_types.specs.declared.shapes.Shape.TheVariants as V
use Rattle.sail_types.specs.declared.table.Parameter.{Parameter}
use Rattle.sail_types.specs.declared.table.Types.{Types}
use Rattle.sail_types.specs.declared.types.Typ.{Typ}
use Rattle.model_state.specs.declared.state.Register.{Register}
use Rattle.sail_core.specs.declared.targets.Suffix.{Suffix}
use Rattle.sail_core.specs.declared.targets.Way.{Way}
use Rattle.sail_core.specs.declared.targets.Way.TheVariants as Y
use Rattle.sail_core.specs.declared.tree.Callee.{Callee}
use Rattle.sail_core.specs.declared.tree.Callee.TheVariants as D
use Rattle.value_indices.specs.Opening.{number_or_fresh, opened_for}
use Rattle.value_indices.specs.Steps.{bind, give, next_variable, owe, wrong}
use Rattle.value_indices.specs.declared.indices.Indices.{Indices, out-Indices}
use Rattle.value_indices.specs.declared.indices.Indices.TheOpen as W
use Rattle.value_indices.specs.declared.indices.Indices.TheOpen.{Indices-F, Reading-F}
use Rattle.value_indices.specs.declared.indices.Indices.TheVariants as I
use Rattle.value_indices.specs.declared.indices.Naming.TheVariants as M
use Rattle.value_indices.specs.declared.indices.Reading.{Reading, out-Reading}
use Rattle.value_indices.specs.declared.indices.Reading.TheVariants as R
use Rattle.value_indices.specs.declared.notes.Made.TheVariants as Makes
use Rattle.value_fits.specs.Fitting.{owe_fit}
use Rattle.wide_types.specs.Widening.{filled}
use Rattle.pattern_leaves.specs.Settings.{Around, Scope}
use Rattle.pattern_leaves.specs.declared.names.Held.{Held}
use Rattle.pattern_leaves.specs.declared.names.Held.TheVariants as H
use Rattle.pattern_leaves.specs.declared.names.TopLevel.{TopLevel}
use Rattle.pattern_leaves.specs.declared.names.TopLevel.TheVariants as T
use Rattle.call_arguments.specs.Aims.{aimed}
use Rattle.call_arguments.specs.Callees.{index_if, indices_from, was_due}
use Rattle.call_arguments.specs.Holes.{has_hole, without_holes}
use Rattle.call_arguments.specs.declared.aims.Aim.{Aim}
use Rattle.call_arguments.specs.declared.aims.Aim.TheVariants as Aims
use Rattle.call_notes.specs.Calls.{one_owed, parts_owed}
use Rattle.call_notes.specs.Ends.{any_never, is_never, sized}
use Rattle.call_notes.specs.Noted.{node_ended, node_made}
use Rattle.expression_forms.specs.Names.{local_walk, made_read, named_opened, named_read, read_form, register_type, register_walk, top_level_walk}
use Rattle.expression_forms.specs.Names.{type_read, variable_walk}
use Rattle.expression_forms.specs.Ways.{if_never_value, indexed, part_made, read_into, suffix_read, taken_out, update_operands, with_width}
use Rattle.expression_forms.specs.declared.ways.Ends.{Ends}
use Rattle.expression_forms.specs.declared.ways.Reached.{Reached}
use Rattle.expression_steps.specs.Calls.{call_made, call_walk, named_made, nestings}
use Rattle.expression_steps.specs.Filling.{part_behind, part_holed, part_put, put_aim, put_ended, refilled, struct_holed, with_ended, with_filled}
use Rattle.expression_steps.specs.Filling.{with_made}
use Rattle.expression_steps.specs.Parts.{Part, each_walk, numbers_walk}
use Rattle.expression_steps.specs.Values.{Row, Taken, Passed, cons_before, cons_due, cons_found, cons_free, cons_of, cons_onto, cons_walk, filled_here}
use Rattle.expression_steps.specs.Values.{first_like, indexes_of, item_like, item_owed, items_due, items_free, items_like, items_of, items_walk}
use Rattle.expression_steps.specs.Values.{items_wanted, left_after, list_like, list_of, list_owing, list_walk, no_struct, no_way, numbers_updated, part_forms}
use Rattle.expression_steps.specs.Values.{part_walk, passed, reached_by, read_taken, sized_list, sized_vector, slice_reached}
use Rattle.expression_steps.specs.Values.{struct_count, struct_made, struct_walk, suffix_walk, suffixed, suffixes_walk, taken, then_on, tuple_of, tuple_walk}
use Rattle.expression_steps.specs.Values.{update_forms, update_walk, updated, value_on, vector_of, vector_walk, way_taken, way_walk, wanted_item}
use Rattle.expression_steps.specs.Values.{with_behind, with_walk}
use Rattle.node_counts.specs.Counts.{Counted, making, own, weigh}
use Rattle.node_counts.proofs.Budgets.{Leaves, leaves_beside, leaves_bind, leaves_give, leaves_more, leaves_rest, within_left}
use Rattle.node_counts.proofs.Openings as Opened
use Rattle.node_counts.proofs.Widening as Met
use Rattle.node_counts.proofs.Weights.{Light, lights}
use Rattle.node_counts.proofs.Nodes.{In, called_in, ended_in, few, fit_light, in_both, in_either, in_first, in_give, in_last, in_more, made_and_given, made_in}
use Rattle.node_counts.proofs.Nodes.{named_light, next_light, opened_in, opened_light, owes_light, part_light, sized_light, typed_light, wrong_in}
use Rattle.node_counts.proofs.Parts.{Costed, dropped_parts, each_in, first_in, numbers_in, parts_of, split_total, taken_parts, total, walk_in}

module _ (q : Counted) where
  -- ---- names

  named_opened_light : (place : Place) (name : List ℕ) (r : Reading) → In q 0 (named_opened place name r)
  named_opened_light place name r = in_first q _ (λ t. opened_for (M.Named name) r) (typed_light q place r) (λ t. named_light q (M.Named name) r)

  pub named_in : (place : Place) (k : ℕ) (name : List ℕ) (r : Reading) → In q (making q k) (named_read place k name r)
  named_in place k name r =
      in_last q (node_made k [] (Makes.ByType r)) (λ t. named_opened place name r) (made_in q k [] (Makes.ByType r)) (λ t. named_opened_light place name r)

  pub local_in : (place : Place) (k : ℕ) (o : Option Held) → In q (making q k) (local_walk place k o)
  local_in place k (Some (H.Value i)) = ended_in q k (i ∷ []) i
  local_in place k o = wrong_in q place

  pub variable_in : (place : Place) (k : ℕ) (name : List ℕ) (o : Option Held) → In q (making q k) (variable_walk place k name o)
  variable_in place k name (Some (H.Var r)) = named_in place k name r
  variable_in place k name o = wrong_in q place

  filled_light : (types : Types) (m : ℕ) (shape : Shape) (i : Indices) → In q 0 (filled types m shape i)
  filled_light types m shape i = Met.filled_value (Light q) (lights q) types m shape i

  read_light : (types : Types) (r : Reading) (form : Reading-F Indices Reading) → In q 0 (read_form types r form)
  read_light types r (W.Widened i) = filled_light types 0 V.Hole i
  read_light types r form = in_give q r

  pub top_in : (types : Types) (place : Place) (k : ℕ) (o : Option TopLevel) → In q (making q k) (top_level_walk types place k o)
  top_in types place k None = wrong_in q place
  top_in types place k (Some (T.Known i)) = ended_in q k [] i
  top_in types place k (Some (T.Read name r)) =
      in_first q (type_read types r) (made_read k name) (read_light types r (out-Reading r)) (λ s.
      in_last q (node_made k [] (Makes.ByType s)) (λ t. opened_for (M.Named name) s) (made_in q k [] (Makes.ByType s)) (λ t. named_light q (M.Named name) s))

  pub register_in : (place : Place) (k : ℕ) (o : Option Register) → In q (making q k) (register_walk place k o)
  register_in place k None = wrong_in q place
  register_in place k (Some r) = named_in place k r.name (register_type r)

  -- ---- values of named types

  index_light : (p : Parameter) (o : Option Index) → In q 0 (index_if p o)
  index_light p None = Met.parameter_kept (Light q) (lights q) p p.kind
  index_light p (Some i) = in_give q (i ∷ [])

  indices_light : (j : ℕ) (ps : List Parameter) (ts : List Typ) (is : List Indices) → In q 0 (indices_from j ps ts is)
  indices_light j [] ts is = in_give q []
  indices_light j (p ∷ ps) ts is =
      in_first q (index_if p _) (λ i. bind (indices_from (suc j) ps ts is) (λ more. give (i ++ more))) (index_light p _) (λ i.
      in_first q (indices_from (suc j) ps ts is) (λ more. give (i ++ more)) (indices_light (suc j) ps ts is) (λ more. in_give q (i ++ more)))

  parts_light : (around : Around) (places : List Place) (known : Option (List Reading)) (ts : List Typ) (is : List Indices) (js : List Index)
      (rs : List Reading) → In q 0 (parts_owed around places known ts is js rs)
  parts_light around (place ∷ places) known (t ∷ ts) (i ∷ is) js rs =
      in_first q (one_owed around place known t i js rs) (λ x. parts_owed around places known ts is js rs)
      (part_light q around (was_due known t) place i _) (λ x. parts_light around places known ts is js rs)
  parts_light around (place ∷ places) known (t ∷ ts) [] js rs = in_give q tt
  parts_light around (place ∷ places) known [] is js rs = in_give q tt
  parts_light around [] known ts is js rs = in_give q tt

  pub named_type_light : (around : Around) (u : ℕ) (args : List Part) (known : Option (List Reading)) (ts : List Typ) (is : List Indices)
      → In q 0 (named_made around u args known ts is)
  named_type_light around u args known ts is =
      in_either q (any_never is) _ _ (in_give q I.Never)
      (in_first q next_variable _ (next_light q) (λ m.
      in_first q (indices_from 0 _ ts is) _ (indices_light 0 _ ts is) (λ js.
      in_first q (parts_owed around _ known ts is js _) _ (parts_light around _ known ts is js _) (λ x. in_give q _))))

  -- ---- calls

  pub made_call_in : (around : Around) (place : Place) (k : ℕ) (callee : Callee) (args : List Part) (aim : Aim) (is : List Indices)
      → In q (making q k) (call_made around place k callee args aim is)
  made_call_in around place k (D.Constructor u c) args aim is =
      in_first q (named_made around u args _ _ is) (node_ended k is) (named_type_light around u args _ _ is) (ended_in q k is)
  made_call_in around place k (D.Function f) args aim is = called_in q around place k (D.Function f) (nestings args) is
  made_call_in around place k (D.Row row) args aim is = called_in q around place k (D.Row row) (nestings args) is
  made_call_in around place k (D.Converts d) args aim is = called_in q around place k (D.Converts d) (nestings args) is
  made_call_in around place k (D.Applies d) args aim is = called_in q around place k (D.Applies d) (nestings args) is

  pub call_in : (place : Place) (k : ℕ) (callee : Callee) (ys : List (Costed q)) (around : Around) (scope : Scope) (aim : Aim)
      → In q (making q k + total q ys) (call_walk place k callee (parts_of q ys) around scope aim)
  call_in place k callee ys around scope aim =
      in_more q (call_walk place k callee (parts_of q ys) around scope aim) (omega arith)
      (in_both q (each_walk (take _ (parts_of q ys)) around scope _) (call_made around place k callee (parts_of q ys) aim)
      (first_in q _ ys around scope _) (made_call_in around place k callee (parts_of q ys) aim))

  -- ---- tuples, vectors and lists

  pub tuple_in : (k : ℕ) (ys : List (Costed q)) (around : Around) (scope : Scope) (aim : Aim)
      → In q (making q k + total q ys) (tuple_walk k (parts_of q ys) around scope aim)
  tuple_in k ys around scope aim =
      in_more q (tuple_walk k (parts_of q ys) around scope aim) (omega arith)
      (in_both q (each_walk (parts_of q ys) around scope _) (tuple_of k) (each_in q ys around scope _) (λ is. ended_in q k is _))

  like_in : (y : Costed q) (around : Around) (scope : Scope) (r : Reading) → In q y.cost (item_like y.part around scope r)
  like_in y around scope r =
      in_last q (y.part.walk around scope Aims.Free) _ (walk_in q y around scope Aims.Free) (λ i.
      in_first q (item_owed around y.part.place r i) (λ t. give i) (fit_light q _ _) (λ t. in_give q i))

  all_like_in : (ys : List (Costed q)) (around : Around) (scope : Scope) (r : Reading) → In q (total q ys) (items_like (parts_of q ys) around scope r)
  all_like_in [] around scope r = in_give q []
  all_like_in (y ∷ ys) around scope r =
      in_both q (item_like y.part around scope r) _ (like_in y around scope r) (λ i.
      in_last q (items_like (parts_of q ys) around scope r) (λ is. give (i ∷ is)) (all_like_in ys around scope r) (λ is. in_give q (i ∷ is)))

  filled_here_light : (around : Around) (shape : Shape) (i : Indices) → In q 0 (filled_here around shape i)
  filled_here_light around shape i = in_first q next_variable _ (next_light q) (λ m. filled_light around.types m shape i)

  free_in : (ys : List (Costed q)) (around : Around) (scope : Scope) (shape : Shape) → In q (total q ys) (items_free (parts_of q ys) around scope shape)
  free_in [] around scope shape = in_give q _
  free_in (y ∷ ys) around scope shape =
      in_both q (y.part.walk around scope Aims.Free) _ (walk_in q y around scope Aims.Free) (λ i.
      in_first q (filled_here around shape i) (first_like (parts_of q ys) around scope y.part.place i) (filled_here_light around shape i) (λ r.
      in_first q (item_owed around y.part.place (without_holes r) i) _ (fit_light q _ _) (λ t.
      in_last q (items_like (parts_of q ys) around scope (without_holes r)) (λ is. give (r, i ∷ is)) (all_like_in ys around scope (without_holes r)) (λ is.
      in_give q (r, i ∷ is)))))

  wanted_in : (ys : List (Costed q)) (around : Around) (scope : Scope) (r : Reading) → In q (total q ys) (items_wanted (parts_of q ys) around scope r)
  wanted_in ys around scope r =
      in_last q (items_due (parts_of q ys) around scope (aimed Aims.Due r)) (λ is. give (r, is)) (each_in q ys around scope _) (λ is. in_give q (r, is))

  items_in : (ys : List (Costed q)) (around : Around) (scope : Scope) (shape : Shape) (form : Reading-F Indices Reading) (r : Reading)
      → In q (total q ys) (items_of (parts_of q ys) around scope shape form r)
  items_in ys around scope shape W.Hole r = free_in ys around scope shape
  items_in ys around scope shape (W.Of t is rs) r = wanted_in ys around scope r
  items_in ys around scope shape (W.Widened i) r = wanted_in ys around scope r
  items_in ys around scope shape (W.Parts rs) r = wanted_in ys around scope r

  vector_of_in : (place : Place) (k : ℕ) (x : Row) → In q (making q k) (vector_of place k x)
  vector_of_in place k x =
      in_first q (sized_vector place (constant (pos (length x.1))) x.0) (node_ended k x.1)
      (in_first q (sized place (I.Vector (constant (pos (length x.1))) x.0)) _ (sized_light q place _) (λ t. in_give q _)) (ended_in q k x.1)

  pub vector_in : (place : Place) (k : ℕ) (shape : Shape) (ys : List (Costed q)) (around : Around) (scope : Scope) (aim : Aim)
      → In q (making q k + total q ys) (vector_walk place k shape (parts_of q ys) around scope aim)
  vector_in place k shape ys around scope aim =
      in_more q (vector_walk place k shape (parts_of q ys) around scope aim) (omega arith)
      (in_both q (items_walk (parts_of q ys) around scope shape (wanted_item aim)) (vector_of place k)
      (items_in ys around scope shape (out-Reading (wanted_item aim)) (wanted_item aim)) (vector_of_in place k))

  list_of_in : (place : Place) (k : ℕ) (x : Row) → In q (making q k) (list_of place k x)
  list_of_in place k x =
      in_first q (sized_list place x.0) (node_ended k x.1) (in_first q (sized place (I.List x.0)) _ (sized_light q place _) (λ t. in_give q _))
      (ended_in q k x.1)

  pub list_in : (place : Place) (k : ℕ) (shape : Shape) (ys : List (Costed q)) (around : Around) (scope : Scope) (aim : Aim)
      → In q (making q k + total q ys) (list_walk place k shape (parts_of q ys) around scope aim)
  list_in place k shape ys around scope aim =
      in_more q (list_walk place k shape (parts_of q ys) around scope aim) (omega arith)
      (in_both q (items_walk (parts_of q ys) around scope shape (wanted_item aim)) (list_of place k)
      (items_in ys around scope shape (out-Reading (wanted_item aim)) (wanted_item aim)) (list_of_in place k))

  -- ---- `a :: b`

  owing_light : (around : Around) (place : Place) (i : Indices) (r : Reading) → In q 0 (list_owing around place i r)
  owing_light around place i r = in_first q (item_owed around place (without_holes r) i) (λ t. give (I.List r)) (fit_light q _ _) (λ t. in_give q _)

  onto_light : (around : Around) (shape : Shape) (place : Place) (i : Indices) (r : Reading) → In q 0 (cons_onto around shape place i r)
  onto_light around shape place i r =
      in_either q (has_hole r) _ _
      (in_first q (filled_here around shape i) (list_like around place i r) (filled_here_light around shape i) (λ s.
      in_first q (owe_fit place _) (λ t. list_owing around place i s) (fit_light q place _) (λ t. owing_light around place i s)))
      (owing_light around place i r)

  before_light : (around : Around) (shape : Shape) (place : Place) (i : Indices) (form : Indices-F Indices Reading)
      → In q 0 (cons_before around shape place i form)
  before_light around shape place i (W.List r) = onto_light around shape place i r
  before_light around shape place i W.Never = in_give q I.Never
  before_light around shape place i form = wrong_in q place

  cons_found_in : (around : Around) (shape : Shape) (place : Place) (k : ℕ) (i j : Indices) → In q (making q k) (cons_found around shape place k i j)
  cons_found_in around shape place k i j =
      in_first q (cons_before around shape place i (out-Indices j)) (node_ended k (i ∷ j ∷ [])) (before_light around shape place i (out-Indices j))
      (ended_in q k (i ∷ j ∷ []))

  cons_free_in : (k : ℕ) (shape : Shape) (a b : Costed q) (around : Around) (scope : Scope)
      → In q (a.cost + (b.cost + making q k)) (cons_free k shape a.part b.part around scope)
  cons_free_in k shape a b around scope =
      in_both q (a.part.walk around scope Aims.Free) _ (walk_in q a around scope Aims.Free) (λ i.
      in_both q (b.part.walk around scope Aims.Free) _ (walk_in q b around scope Aims.Free) (cons_found_in around shape a.part.place k i))

  cons_due_in : (k : ℕ) (a b : Costed q) (around : Around) (scope : Scope) (r : Reading)
      → In q (a.cost + (b.cost + making q k)) (cons_due k a.part b.part around scope r)
  cons_due_in k a b around scope r =
      in_both q (a.part.walk around scope (aimed Aims.Due r)) _ (walk_in q a around scope _) (λ i.
      in_both q (b.part.walk around scope (Aims.Due (R.Widened (I.List r)))) _ (walk_in q b around scope _) (λ j. ended_in q k (i ∷ j ∷ []) (I.List r)))

  cons_of_in : (k : ℕ) (shape : Shape) (a b : Costed q) (around : Around) (scope : Scope) (form : Reading-F Indices Reading) (r : Reading)
      → In q (a.cost + (b.cost + making q k)) (cons_of k shape a.part b.part around scope form r)
  cons_of_in k shape a b around scope W.Hole r = cons_free_in k shape a b around scope
  cons_of_in k shape a b around scope (W.Of t is rs) r = cons_due_in k a b around scope r
  cons_of_in k shape a b around scope (W.Widened i) r = cons_due_in k a b around scope r
  cons_of_in k shape a b around scope (W.Parts rs) r = cons_due_in k a b around scope r

  pub cons_in : (k : ℕ) (shape : Shape) (a b : Costed q) (around : Around) (scope : Scope) (aim : Aim)
      → In q (making q k + (a.cost + b.cost)) (cons_walk k shape a.part b.part around scope aim)
  cons_in k shape a b around scope aim =
      in_more q (cons_walk k shape a.part b.part around scope aim) (omega arith)
      (cons_of_in k shape a b around scope (out-Reading (wanted_item aim)) (wanted_item aim))

  -- ---- structs

  pub struct_in : (k u : ℕ) (ks : List ℕ) (ys : List (Costed q)) (around : Around) (scope : Scope)
      → In q (making q k + total q ys) (struct_walk k u ks (parts_of q ys) around scope)
  struct_in k u ks ys around scope =
      in_more q (struct_walk k u ks (parts_of q ys) around scope) (omega arith)
      (in_both q (each_walk (take (struct_count around u ks) (parts_of q ys)) around scope _) (struct_made around k u ks (parts_of q ys))
      (first_in q (struct_count around u ks) ys around scope _) (λ is.
      in_first q (named_made around u (parts_of q ys) None _ is) (node_ended k is) (named_type_light around u (parts_of q ys) None _ is) (ended_in q k is)))

  refilled_light : (around : Around) (place : Place) (ts : List Typ) (i : Indices) (v : ℕ) (js : List Index) (rs : List Reading) (is : List Indices)
      → In q 0 (refilled around place ts i v js rs is)
  refilled_light around place ts i v js rs is =
      in_first q (owe_fit place _) _ (fit_light q place _) (λ t. in_first q (owe_fit place _) _ (fit_light q place _) (λ u. in_give q _))

  with_filled_light : (around : Around) (place : Place) (ts : List Typ) (i : Indices) (is : List Indices) (form : Indices-F Indices Reading)
      → In q 0 (with_filled around place ts i is form)
  with_filled_light around place ts i is (W.Named v js rs) =
      in_first q next_variable _ (next_light q) (λ m. refilled_light around place ts i v js _ is)
  with_filled_light around place ts i is form = in_give q i

  ended_with_in : (around : Around) (place : Place) (k u : ℕ) (ks : List ℕ) (i : Indices) (is : List Indices)
      → In q (making q k) (with_ended around place k u ks i is)
  ended_with_in around place k u ks i is =
      in_first q (with_made around place u ks i is) (node_ended k (i ∷ is))
      (in_either q (struct_holed (out-Indices i)) _ _ (with_filled_light around place _ i is (out-Indices i)) (in_give q i)) (ended_in q k (i ∷ is))

  no_struct_light : (place : Place) (form : Indices-F Indices Reading) → In q 0 (no_struct place form)
  no_struct_light place W.Never = in_give q I.Never
  no_struct_light place form = wrong_in q place

  with_behind_in : (place : Place) (k u : ℕ) (ks : List ℕ) (ys : List (Costed q)) (around : Around) (scope : Scope) (i : Indices) (o : Option (List Aim))
      → In q (total q ys + making q k) (with_behind place k u ks (parts_of q ys) around scope i o)
  with_behind_in place k u ks ys around scope i None = few q (no_struct place (out-Indices i)) (no_struct_light place (out-Indices i))
  with_behind_in place k u ks ys around scope i (Some aims) =
      in_both q (each_walk (take (length aims) (parts_of q ys)) around scope aims) (with_ended around place k u ks i)
      (first_in q (length aims) ys around scope aims) (ended_with_in around place k u ks i)

  pub with_in : (place : Place) (k u : ℕ) (ks : List ℕ) (a : Costed q) (ys : List (Costed q)) (around : Around) (scope : Scope)
      → In q (making q k + (a.cost + total q ys)) (with_walk place k u ks a.part (parts_of q ys) around scope)
  with_in place k u ks a ys around scope =
      in_more q (with_walk place k u ks a.part (parts_of q ys) around scope) (omega arith)
      (in_both q (a.part.walk around scope Aims.Free) _ (walk_in q a around scope Aims.Free) (λ i. with_behind_in place k u ks ys around scope i _))

  -- ---- ways into a value

  ends_light : (i : Indices) (o : Option Ends) → In q 0 (slice_reached i o)
  ends_light i None = in_give q None
  ends_light i (Some e) = in_give q _

  pub reached_light : (around : Around) (i : Indices) (way : Way) (ns : List Num) → In q 0 (reached_by around i way ns)
  reached_light around i (Y.Field u k) ns = in_give q _
  reached_light around i Y.Item (n ∷ []) = in_give q _
  reached_light around i Y.Item [] = in_give q None
  reached_light around i Y.Item (n ∷ m ∷ ns) = in_give q None
  reached_light around i Y.Slice (high ∷ low ∷ []) =
      in_first q (with_width high low) (slice_reached i)
      (in_first q (number_or_fresh _) _ (Opened.number_kept (Light q) (lights q) _) (λ w. in_give q _)) (ends_light i)
  reached_light around i Y.Slice [] = in_give q None
  reached_light around i Y.Slice (n ∷ []) = in_give q None
  reached_light around i Y.Slice (n ∷ m ∷ l ∷ ns) = in_give q None

  pub if_never_light : (place : Place) (i : Indices) → In q 0 (if_never_value place i)
  if_never_light place i = in_either q (is_never i) _ _ (in_give q I.Never) (wrong_in q place)

  taken_out_in : (place : Place) (k : ℕ) (i : Indices) (o : Option Reached) → In q (own q k) (taken_out place k i o)
  taken_out_in place k i None = few q (if_never_value place i) (if_never_light place i)
  taken_out_in place k i (Some x) =
      made_and_given q k (part_made place k (i ∷ indexed x) x)
      (in_first q (owe place x.conditions) _ (owes_light q place x.conditions) (λ t. opened_in q place k (i ∷ indexed x) x.typ))

  pub into_light : (place : Place) (i : Indices) (o : Option Reached) → In q 0 (read_into place i o)
  into_light place i None = if_never_light place i
  into_light place i (Some x) = in_first q (owe place x.conditions) _ (owes_light q place x.conditions) (λ t. opened_light q place x.typ)

  -- a suffix of a target makes nothing
  abbrev pub suffix_own : Bool → ℕ → ℕ
  suffix_own is_target k = if is_target then 0 else own q k

  pub suffix_in : (is_target : Bool) (place : Place) (k : ℕ) (i : Indices) (o : Option Reached)
      → In q (suffix_own is_target k) (suffix_read is_target place k i o)
  suffix_in true place k i o = into_light place i o
  suffix_in false place k i o = taken_out_in place k i o

  -- ---- suffixes: what is left pays for the parts that are left

  abbrev pub TakenLeft : Option Taken → ℕ → Type 0
  TakenLeft None d = Unit {0}
  TakenLeft (Some t) d = (zs : List (Costed q)) × (parts_of q zs ≡ t.left) × (total q zs ≤ d)

  abbrev pub PassedLeft : Option Passed → ℕ → Type 0
  PassedLeft None d = Unit {0}
  PassedLeft (Some t) d = (zs : List (Costed q)) × (parts_of q zs ≡ t.left) × (total q zs ≤ d)

  way_taken_left : (around : Around) (i : Indices) (way : Way) (zs : List (Costed q)) (left : List Part) → parts_of q zs ≡ left → (d : ℕ) → total q zs ≤ d
      → (o : Option (List Num)) → Leaves (weigh q) d (way_taken around i way left o) TakenLeft
  way_taken_left around i way zs left e d l None = leaves_give (weigh q) TakenLeft d None tt
  way_taken_left around i way zs left e d l (Some ns) =
      leaves_bind (weigh q) (reached_by around i way ns) (λ x. give (taken x left)) (λ x c. d ≤ c) TakenLeft
      (leaves_rest (weigh q) (reached_by around i way ns) d d (λ x c. d ≤ c) (reached_light around i way ns) (omega arith) (λ x. omega arith)) (λ x c h.
      leaves_give (weigh q) TakenLeft c (taken x left) (zs, e, (let k : d ≤ c = h in omega (arith, l, k))))

  pub way_left : (place : Place) (ys : List (Costed q)) (around : Around) (scope : Scope) (i : Indices) (way : Way)
      → Leaves (weigh q) (total q ys) (way_walk place (parts_of q ys) around scope i way) TakenLeft
  way_left place ys around scope i way = by (nat_lt (length (parts_of q ys)) (indexes_of way))
    where
      front : In q (total q (take (indexes_of way) ys)) (numbers_walk (take (indexes_of way) (parts_of q ys)) around scope)
      front =
          subst (λ (ps : List Part). In q (total q (take (indexes_of way) ys)) (numbers_walk ps around scope)) (taken_parts q (indexes_of way) ys)
          (numbers_in q (take (indexes_of way) ys) around scope)

      by : (b : Bool) → Leaves (weigh q) (total q ys) (if b then no_way place
          else bind (numbers_walk (take (indexes_of way) (parts_of q ys)) around scope)
          (way_taken around i way (drop (indexes_of way) (parts_of q ys)))) TakenLeft
      by true =
          leaves_bind (weigh q) (wrong place) (λ t. give None) (λ t c. Unit {0}) TakenLeft
          (leaves_rest (weigh q) (wrong place) (total q ys) 0 (λ t c. Unit {0}) (owes_light q place _) (omega arith) (λ t. tt)) (λ t c h.
          leaves_give (weigh q) TakenLeft c None tt)
      by false =
          let e : total q (take (indexes_of way) ys) + total q (drop (indexes_of way) ys) ≡ total q ys = split_total q (indexes_of way) ys in
          leaves_bind (weigh q) (numbers_walk (take (indexes_of way) (parts_of q ys)) around scope)
          (way_taken around i way (drop (indexes_of way) (parts_of q ys))) (λ o c. total q (drop (indexes_of way) ys) ≤ c) TakenLeft
          (leaves_rest (weigh q) (numbers_walk (take (indexes_of way) (parts_of q ys)) around scope) (total q ys) (total q (drop (indexes_of way) ys))
          (λ o c. total q (drop (indexes_of way) ys) ≤ c) front (omega (arith, e)) (λ o. omega arith)) (λ o c h.
          way_taken_left around i way (drop (indexes_of way) ys) (drop (indexes_of way) (parts_of q ys)) (dropped_parts q (indexes_of way) ys) c h o)

  read_taken_left : (is_target : Bool) (place : Place) (k : ℕ) (i : Indices) (o : Option Taken) (d : ℕ) → TakenLeft o d
      → Leaves (weigh q) (suffix_own is_target k + d) (read_taken is_target place k i o) PassedLeft
  read_taken_left is_target place k i None d h = leaves_give (weigh q) PassedLeft _ None tt
  read_taken_left is_target place k i (Some t) d h =
      leaves_bind (weigh q) (suffix_read is_target place k i t.reached) (λ j. give (passed t.left j)) (λ j c. d ≤ c) PassedLeft
      (leaves_rest (weigh q) (suffix_read is_target place k i t.reached) (suffix_own is_target k + d) d (λ j c. d ≤ c)
      (suffix_in is_target place k i t.reached) (omega arith) (λ j. omega arith)) (λ j c l.
      leaves_give (weigh q) PassedLeft c (passed t.left j)
      (h.0, h.1, (let k1 : d ≤ c = l in let k2 : total q h.0 ≤ d = h.2 in omega (arith, k1, k2))))

  suffix_left : (is_target : Bool) (s : Suffix) (ys : List (Costed q)) (around : Around) (scope : Scope) (i : Indices)
      → Leaves (weigh q) (suffix_own is_target s.number + total q ys) (suffix_walk is_target s (parts_of q ys) around scope i) PassedLeft
  suffix_left is_target s ys around scope i =
      leaves_bind (weigh q) (way_walk s.place (parts_of q ys) around scope i s.way) (read_taken is_target s.place s.number i)
      (λ x e. (d : ℕ) × (e ≡ suffix_own is_target s.number + d) × TakenLeft x d) PassedLeft
      (leaves_beside (weigh q) (suffix_own is_target s.number) (way_walk s.place (parts_of q ys) around scope i s.way) TakenLeft
      (way_left s.place ys around scope i s.way)) (λ x e h.
      subst (λ (m : ℕ). Leaves (weigh q) m (read_taken is_target s.place s.number i x) PassedLeft) (sym h.1)
      (read_taken_left is_target s.place s.number i x h.0 h.2))

  abbrev pub suffixes_own : Bool → List Suffix → ℕ
  suffixes_own is_target [] = 0
  suffixes_own is_target (s ∷ ss) = suffix_own is_target s.number + suffixes_own is_target ss

  then_left : (is_target : Bool) (ss : List Suffix) (around : Around) (scope : Scope)
      → ((zs : List (Costed q)) (ps : List Part) → parts_of q zs ≡ ps → (j : Indices)
      → Leaves (weigh q) (suffixes_own is_target ss + total q zs) (suffixes_walk is_target ss around scope ps j) PassedLeft)
      → (x : Option Passed) (m d : ℕ) → m ≡ suffixes_own is_target ss + d → PassedLeft x d
      → Leaves (weigh q) m (then_on (suffixes_walk is_target ss around scope) x) PassedLeft
  then_left is_target ss around scope again None m d k h = leaves_give (weigh q) PassedLeft m None tt
  then_left is_target ss around scope again (Some t) m d k h =
      leaves_more (weigh q) (suffixes_walk is_target ss around scope t.left t.value) PassedLeft
      (let l : total q h.0 ≤ d = h.2 in omega (arith, k, l)) (again h.0 t.left h.1 t.value)

  pub suffixes_left : (is_target : Bool) (ss : List Suffix) (ys : List (Costed q)) (parts : List Part) → parts_of q ys ≡ parts → (around : Around)
      (scope : Scope) (i : Indices) → Leaves (weigh q) (suffixes_own is_target ss + total q ys) (suffixes_walk is_target ss around scope parts i) PassedLeft
  suffixes_left is_target [] ys parts e around scope i =
      leaves_give (weigh q) PassedLeft _ (passed parts i) (ys, e, omega arith)
  suffixes_left is_target (s ∷ ss) ys parts e around scope i =
      subst (λ (ps : List Part). Leaves (weigh q) (suffixes_own is_target (s ∷ ss) + total q ys)
      (suffixes_walk is_target (s ∷ ss) around scope ps i) PassedLeft)
      e
      (leaves_more (weigh q) {a = suffixes_own is_target ss + (suffix_own is_target s.number + total q ys)}
      (suffixes_walk is_target (s ∷ ss) around scope (parts_of q ys) i) PassedLeft (omega arith)
      (leaves_bind (weigh q) (suffix_walk is_target s (parts_of q ys) around scope i) (then_on (suffixes_walk is_target ss around scope))
      (λ x m. (d : ℕ) × (m ≡ suffixes_own is_target ss + d) × PassedLeft x d) PassedLeft
      (leaves_beside (weigh q) (suffixes_own is_target ss) (suffix_walk is_target s (parts_of q ys) around scope i) PassedLeft
      (suffix_left is_target s ys around scope i)) (λ x m h.
      then_left is_target ss around scope (λ zs ps c j. suffixes_left is_target ss zs ps c around scope j) x m h.0 h.1 h.2)))

  value_light : (o : Option Passed) → In q 0 (value_on o)
  value_light None = in_give q I.Never
  value_light (Some t) = in_give q t.value

  pub part_in : (place : Place) (ss : List Suffix) (ys : List (Costed q)) (around : Around) (scope : Scope)
      → In q (suffixes_own false ss + total q ys) (part_forms place ss (parts_of q ys) around scope)
  part_in place ss [] around scope = wrong_in q place
  part_in place ss (a ∷ ys) around scope =
      in_more q (part_walk place ss a.part (parts_of q ys) around scope) (omega arith)
      (in_both q (a.part.walk around scope Aims.Free) (suffixed place ss (parts_of q ys) around scope) (walk_in q a around scope Aims.Free) (λ i.
      in_either q (nat_eq (left_after ss (length (parts_of q ys))) 0) _ _
      (within_left (weigh q) (suffixes_walk false ss around scope (parts_of q ys) i) value_on PassedLeft
      (suffixes_left false ss ys (parts_of q ys) refl around scope i) (λ o d h. few q (value_on o) (value_light o)))
      (few q (if_never_value place i) (if_never_light place i))))

  -- ---- values with another part

  holed_light : (around : Around) (place : Place) (i : Indices) (r : Reading) (j : Indices) (form : Indices-F Indices Reading)
      → In q 0 (part_holed around place i r j form)
  holed_light around place i r j (W.Vector n s) =
      in_first q (owe_fit place _) _ (fit_light q place _) (λ t. in_first q (owe_fit place _) _ (fit_light q place _) (λ u. in_give q _))
  holed_light around place i r j form = in_first q (owe_fit place _) (λ t. give i) (fit_light q place _) (λ t. in_give q i)

  put_in : (around : Around) (place : Place) (k : ℕ) (nested : Bool) (i : Indices) (x : Reached) (j : Indices)
      → In q (making q k) (put_ended around place k nested i x j)
  put_in around place k nested i x j =
      in_first q (part_put around place nested i x j) (node_ended k (update_operands i x j))
      (in_first q (owe_fit place _) (λ t. part_behind around place i x.typ j) (fit_light q place _) (λ t.
      in_either q (has_hole x.typ) _ _ (holed_light around place i x.typ j (out-Indices i)) (in_give q i)))
      (ended_in q k (update_operands i x j))

  updated_in : (place : Place) (k : ℕ) (c : Costed q) (around : Around) (scope : Scope) (i : Indices) (o : Option Reached)
      → In q (c.cost + making q k) (updated place k c.part around scope i o)
  updated_in place k c around scope i None = few q (if_never_value place i) (if_never_light place i)
  updated_in place k c around scope i (Some x) =
      in_both q (c.part.walk around scope (put_aim x.typ)) (put_ended around place k c.part.is_nested i x) (walk_in q c around scope (put_aim x.typ))
      (put_in around place k c.part.is_nested i x)

  numbers_updated_in : (place : Place) (k : ℕ) (way : Way) (c : Costed q) (around : Around) (scope : Scope) (i : Indices) (o : Option (List Num))
      → In q (c.cost + making q k) (numbers_updated place k way c.part around scope i o)
  numbers_updated_in place k way c around scope i None = in_give q I.Never
  numbers_updated_in place k way c around scope i (Some ns) =
      in_first q (reached_by around i way ns) (updated place k c.part around scope i) (reached_light around i way ns) (updated_in place k c around scope i)

  update_in : (place : Place) (k : ℕ) (way : Way) (a : Costed q) (zs : List (Costed q)) (c : Costed q) (around : Around) (scope : Scope)
      → In q (a.cost + (total q zs + (c.cost + making q k))) (update_walk place k way a.part (parts_of q zs) c.part around scope)
  update_in place k way a zs c around scope =
      in_both q (a.part.walk around scope Aims.Free) _ (walk_in q a around scope Aims.Free) (λ i.
      in_both q (numbers_walk (parts_of q zs) around scope) (numbers_updated place k way c.part around scope i) (numbers_in q zs around scope)
      (numbers_updated_in place k way c around scope i))

  pub updates_in : (place : Place) (k : ℕ) (way : Way) (ys : List (Costed q)) (around : Around) (scope : Scope)
      → In q (making q k + total q ys) (update_forms place k way (parts_of q ys) around scope)
  updates_in place k (Y.Field u f) (a ∷ c ∷ []) around scope =
      in_more q (update_walk place k (Y.Field u f) a.part [] c.part around scope) (omega arith) (update_in place k (Y.Field u f) a [] c around scope)
  updates_in place k (Y.Field u f) [] around scope = wrong_in q place
  updates_in place k (Y.Field u f) (a ∷ []) around scope = wrong_in q place
  updates_in place k (Y.Field u f) (a ∷ b ∷ c ∷ ys) around scope = wrong_in q place
  updates_in place k Y.Item (a ∷ b ∷ c ∷ []) around scope =
      in_more q (update_walk place k Y.Item a.part (b.part ∷ []) c.part around scope) (omega arith) (update_in place k Y.Item a (b ∷ []) c around scope)
  updates_in place k Y.Item [] around scope = wrong_in q place
  updates_in place k Y.Item (a ∷ []) around scope = wrong_in q place
  updates_in place k Y.Item (a ∷ b ∷ []) around scope = wrong_in q place
  updates_in place k Y.Item (a ∷ b ∷ c ∷ d ∷ ys) around scope = wrong_in q place
  updates_in place k Y.Slice (a ∷ b ∷ c ∷ d ∷ []) around scope =
      in_more q (update_walk place k Y.Slice a.part (b.part ∷ c.part ∷ []) d.part around scope) (omega arith)
      (update_in place k Y.Slice a (b ∷ c ∷ []) d around scope)
  updates_in place k Y.Slice [] around scope = wrong_in q place
  updates_in place k Y.Slice (a ∷ []) around scope = wrong_in q place
  updates_in place k Y.Slice (a ∷ b ∷ []) around scope = wrong_in q place
  updates_in place k Y.Slice (a ∷ b ∷ c ∷ []) around scope = wrong_in q place
  updates_in place k Y.Slice (a ∷ b ∷ c ∷ d ∷ e ∷ ys) around scope = wrong_in q place
