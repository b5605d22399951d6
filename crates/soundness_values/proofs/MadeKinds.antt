-- Kinds of nodes that make a value of their parts.
use Rattle.std.proofs.Common.{◌≡◌, ℕ, Bool, true, false, List, [], ◌∷◌, length, replicate, take, refl, subst, sym}
use Rattle.std.proofs.Common.{if◌then◌else◌}
use Rattle.std.specs.List.{list_all}
use Rattle.std.proofs.lemmas.Bool.{and_parts}
use Rattle.sail_base.specs.declared.place.Place.{Place}
use Rattle.sail_types.specs.Sums.{constant}
use Rattle.std.specs.Prelude.{pos}
use Rattle.sail_types.specs.declared.rows.Row.{Row as Builtin}
use Rattle.sail_types.specs.declared.shapes.Shape.{Shape}
use Rattle.sail_types.specs.Zero.{deepest}
use Rattle.sail_core.specs.Making.{World}
use Rattle.sail_core.specs.Meaning.{kind_meaning}
use Rattle.sail_core.specs.Run.{Run}
use Rattle.sail_core.specs.declared.tree.Callee.TheVariants as D
use Rattle.sail_core.specs.declared.tree.Kind.TheVariants as K
use Rattle.value_indices.specs.declared.indices.Indices.{Indices, out-Indices}
use Rattle.value_indices.specs.declared.indices.Indices.TheOpen as W
use Rattle.value_indices.specs.declared.indices.Indices.TheOpen.{Indices-F, Reading-F}
use Rattle.value_indices.specs.declared.indices.Indices.TheVariants as I
use Rattle.value_indices.specs.declared.indices.Reading.{Reading, out-Reading}
use Rattle.value_indices.specs.declared.indices.Reading.TheVariants as R
use Rattle.value_indices.specs.declared.notes.Made.TheVariants as Makes
use Rattle.value_indices.specs.Steps.{bind, call_note, give, size_note}
use Rattle.value_fits.specs.Fitting.{fits, item_fits, owe_fit}
use Rattle.fitting_laws.proofs.Counted.{fits_count, item_counts}
use Rattle.pattern_leaves.specs.Settings.{Around, Scope}
use Rattle.call_arguments.specs.Aims.{aimed}
use Rattle.call_arguments.specs.Holes.{has_hole, without_holes}
use Rattle.call_arguments.specs.declared.aims.Aim.{Aim}
use Rattle.call_arguments.specs.declared.aims.Aim.TheVariants as Aims
use Rattle.call_notes.specs.Calls.{row_called}
use Rattle.call_notes.specs.Ends.{sized}
use Rattle.call_notes.specs.Noted.{node_ended}
use Rattle.call_notes.specs.Rows.{row_call}
use Rattle.expression_steps.specs.Calls.{call_walk}
use Rattle.expression_steps.specs.Parts.{Part, each_walk}
use Rattle.expression_steps.specs.Values as E
use Rattle.expression_steps.specs.Values.{cons_before, cons_due, cons_filled, cons_found, cons_free, cons_onto, cons_walk, filled_here, first_like}
use Rattle.expression_steps.specs.Values.{item_like, item_owed, items_due, items_free, items_like, items_of, items_walk, items_wanted, list_like, list_owing}
use Rattle.expression_steps.specs.Values.{list_walk, tuple_aims, tuple_indices, tuple_of, tuple_walk, vector_walk, wanted_item}
use Rattle.checked_meaning.specs.Items.{Item}
use Rattle.soundness_steps.specs.Works.{Kept, Scene}
use Rattle.soundness_steps.specs.Steps.{Grows}
use Rattle.soundness_forms.specs.EachKind.{KindFine, PartsFine, node}
use Rattle.soundness_forms.specs.Forms.{AllFine, FitsSuffice, at, z}
use Rattle.soundness_forms.specs.Standing.{Standing, is_value}
use Rattle.soundness_forms.proofs.Growth.{grows_bind, grows_ended, grows_fits, grows_give, grows_note, grows_owe_fit, grows_wrong}
use Rattle.soundness_forms.proofs.PlainKinds.{fine_at, fine_by, settled_grows, value_fine, wrong_fine}
use Rattle.soundness_values.specs.Widening.{WideningSuffices}
use Rattle.soundness_values.proofs.Cons.{cons_fine}
use Rattle.soundness_values.proofs.Filled.{filled_grows}
use Rattle.soundness_values.proofs.Lists.{list_fine, vector_fine}
use Rattle.soundness_values.proofs.RowCalls.{row_call_fine, taken_all}
use Rattle.soundness_values.proofs.RowGrowth.{row_call_grows}
use Rattle.soundness_values.proofs.Taken.{likeness}
use Rattle.soundness_values.proofs.Tuples.{tuple_fine}

-- ---- parts that are values

module _ (q : Scene) (w : World Item) where
  pub all_values : (ss : List Standing) (ps : List Part) (rs : List (Run Item Item)) → list_all is_value ss ≡ true → PartsFine q w ss ps rs → AllFine q w ps rs
  all_values [] [] [] r h = tt
  all_values (s ∷ ss) (p ∷ ps) (a ∷ rs) r h =
      let c = and_parts (is_value s) (list_all is_value ss) r in (value_fine q w s p a c.0 h.0, all_values ss ps rs c.1 h.1)
  all_values [] [] (a ∷ rs) r h = absurd h
  all_values [] (p ∷ ps) rs r h = absurd h
  all_values (s ∷ ss) [] rs r h = absurd h
  all_values (s ∷ ss) (p ∷ ps) [] r h = absurd h

  pub all_at : (names : List Kept) (falls : Bool) (ps : List Part) (rs : List (Run Item Item)) → AllFine q w ps rs → AllFine (at q w names falls) w ps rs
  all_at names falls [] [] h = tt
  all_at names falls (p ∷ ps) (a ∷ rs) h = (fine_at q w names falls h.0, all_at names falls ps rs h.1)
  all_at names falls [] (a ∷ rs) h = absurd h
  all_at names falls (p ∷ ps) [] h = absurd h

  pub each_grow : (ps : List Part) (rs : List (Run Item Item)) → AllFine q w ps rs → (around : Around) (scope : Scope) (aims : List Aim)
      → Grows (each_walk ps around scope aims)
  each_grow [] [] h around scope aims = grows_give []
  each_grow (p ∷ ps) (a ∷ rs) h around scope [] = grows_bind (p.walk around scope Aims.Free) _ (h.0.grows around scope Aims.Free) (λ i.
      grows_bind (each_walk ps around scope []) _ (each_grow ps rs h.1 around scope []) (λ is. grows_give (i ∷ is)))
  each_grow (p ∷ ps) (a ∷ rs) h around scope (aim ∷ aims) = grows_bind (p.walk around scope aim) _ (h.0.grows around scope aim) (λ i.
      grows_bind (each_walk ps around scope aims) _ (each_grow ps rs h.1 around scope aims) (λ is. grows_give (i ∷ is)))
  each_grow [] (a ∷ rs) h around scope aims = absurd h
  each_grow (p ∷ ps) [] h around scope aims = absurd h

  -- ---- items

  like_grows : (ps : List Part) (rs : List (Run Item Item)) → AllFine q w ps rs → (around : Around) (scope : Scope) (r : Reading)
      → Grows (items_like ps around scope r)
  like_grows [] [] h around scope r = grows_give []
  like_grows (p ∷ ps) (a ∷ rs) h around scope r = grows_bind (item_like p around scope r) _
      (grows_bind (p.walk around scope Aims.Free) _ (h.0.grows around scope Aims.Free) (λ i.
      grows_bind (item_owed around p.place r i) _ (grows_fits p.place around.types i r) (λ t. grows_give i))) (λ i.
      grows_bind (items_like ps around scope r) _ (like_grows ps rs h.1 around scope r) (λ is. grows_give (i ∷ is)))
  like_grows [] (a ∷ rs) h around scope r = absurd h
  like_grows (p ∷ ps) [] h around scope r = absurd h

  free_grows : (ps : List Part) (rs : List (Run Item Item)) → AllFine q w ps rs → (around : Around) (scope : Scope) (shape : Shape)
      → Grows (items_free ps around scope shape)
  free_grows [] [] h around scope shape = grows_give (R.Hole, [])
  free_grows (p ∷ ps) (a ∷ rs) h around scope shape = grows_bind (p.walk around scope Aims.Free) _ (h.0.grows around scope Aims.Free) (λ i.
      grows_bind (filled_here around shape i) (first_like ps around scope p.place i) (filled_grows around shape i) (λ r.
      grows_bind (item_owed around p.place (without_holes r) i) _ (grows_fits p.place around.types i (without_holes r)) (λ t.
      grows_bind (items_like ps around scope (without_holes r)) _ (like_grows ps rs h.1 around scope (without_holes r)) (λ is.
      grows_give (r, i ∷ is)))))
  free_grows [] (a ∷ rs) h around scope shape = absurd h
  free_grows (p ∷ ps) [] h around scope shape = absurd h

  wanted_grows : (ps : List Part) (rs : List (Run Item Item)) → AllFine q w ps rs → (around : Around) (scope : Scope) (r : Reading)
      → Grows (items_wanted ps around scope r)
  wanted_grows ps rs h around scope r = grows_bind (items_due ps around scope (aimed Aims.Due r)) _
      (each_grow ps rs h around scope (replicate (length ps) (aimed Aims.Due r))) (λ is. grows_give (r, is))

  items_grow : (ps : List Part) (rs : List (Run Item Item)) → AllFine q w ps rs → (around : Around) (scope : Scope) (shape : Shape) (r : Reading)
      → Grows (items_walk ps around scope shape r)
  items_grow ps rs h around scope shape r = by (out-Reading r)
    where
      by : (x : Reading-F Indices Reading) → Grows (items_of ps around scope shape x r)
      by W.Hole = free_grows ps rs h around scope shape
      by (W.Of t is qs) = wanted_grows ps rs h around scope r
      by (W.Widened i) = wanted_grows ps rs h around scope r
      by (W.Parts qs) = wanted_grows ps rs h around scope r

  sized_grows : (place : Place) (k : ℕ) (is : List Indices) (i : Indices)
      → Grows (bind (bind (sized place i) (λ t. give i)) (node_ended k is))
  sized_grows place k is i = grows_bind (bind (sized place i) (λ t. give i)) _
      (grows_bind (sized place i) _ (grows_note (λ facts. size_note facts place (Makes.ByIndices i))) (λ t. grows_give i)) (grows_ended k is)

  -- ---- `a :: b`

  owing_grows : (around : Around) (place : Place) (i : Indices) (r : Reading) → Grows (list_owing around place i r)
  owing_grows around place i r =
      grows_bind (item_owed around place (without_holes r) i) _ (grows_fits place around.types i (without_holes r)) (λ t. grows_give (I.List r))

  onto_grows : (around : Around) (shape : Shape) (place : Place) (i : Indices) (r : Reading) → Grows (cons_onto around shape place i r)
  onto_grows around shape place i r = by (has_hole r)
    where
      by : (b : Bool) → Grows (if b then cons_filled around shape place i r else list_owing around place i r)
      by false = owing_grows around place i r
      by true = grows_bind (filled_here around shape i) (list_like around place i r) (filled_grows around shape i) (λ s.
          let owed = item_fits (fits around.types) r (without_holes s) in
          grows_bind (owe_fit place owed) _
          (grows_owe_fit place owed (item_counts around.types (fits around.types) (fits_count around.types deepest) r (without_holes s))) (λ t.
          owing_grows around place i s))

  before_grows : (around : Around) (shape : Shape) (place : Place) (i : Indices) (form : Indices-F Indices Reading)
      → Grows (cons_before around shape place i form)
  before_grows around shape place i (W.List r) = onto_grows around shape place i r
  before_grows around shape place i W.Never = grows_give I.Never
  before_grows around shape place i form = grows_wrong place

  module _ (p s : Part) (a b : Run Item Item) (h : AllFine q w (p ∷ s ∷ []) (a ∷ b ∷ [])) (k : ℕ) (around : Around) (scope : Scope) where
    cons_free_grows : (shape : Shape) → Grows (cons_free k shape p s around scope)
    cons_free_grows shape = grows_bind (p.walk around scope Aims.Free) _ (h.0.grows around scope Aims.Free) (λ i.
        grows_bind (s.walk around scope Aims.Free) (cons_found around shape p.place k i) (h.1.0.grows around scope Aims.Free) (λ j.
        grows_bind (cons_before around shape p.place i (out-Indices j)) (node_ended k (i ∷ j ∷ [])) (before_grows around shape p.place i (out-Indices j))
        (grows_ended k (i ∷ j ∷ []))))

    cons_due_grows : (r : Reading) → Grows (cons_due k p s around scope r)
    cons_due_grows r = grows_bind (p.walk around scope (aimed Aims.Due r)) _ (h.0.grows around scope (aimed Aims.Due r)) (λ i.
        grows_bind (s.walk around scope (Aims.Due (R.Widened (I.List r)))) _ (h.1.0.grows around scope (Aims.Due (R.Widened (I.List r)))) (λ j.
        grows_ended k (i ∷ j ∷ []) (I.List r)))

    cons_grows : (shape : Shape) (aim : Aim) → Grows (cons_walk k shape p s around scope aim)
    cons_grows shape aim = by (out-Reading (wanted_item aim))
      where
        by : (x : Reading-F Indices Reading) → Grows (E.cons_of k shape p s around scope x (wanted_item aim))
        by W.Hole = cons_free_grows shape
        by (W.Of t is qs) = cons_due_grows (wanted_item aim)
        by (W.Widened i) = cons_due_grows (wanted_item aim)
        by (W.Parts qs) = cons_due_grows (wanted_item aim)

-- ---- the kinds

module _ (fit : FitsSuffice) (q : Scene) (w : World Item) where
  pub tuple_kind : KindFine q w K.Tuple
  tuple_kind place k ss ps rs h right =
      let fine = all_values q w ss ps rs right h in
      fine_by q w false false (node q w place k K.Tuple ps) (kind_meaning (z q w) w place k K.Tuple rs) (λ around scope. refl)
      (λ names falls g n f facts scope aim there st.
      tuple_fine fit (at q w names falls) w f facts scope place k aim there st ps rs (all_at q w names falls ps rs fine))
      (λ around scope aim. settled_grows around place k aim (tuple_walk k ps around scope aim)
      (grows_bind (each_walk ps around scope (tuple_aims aim)) (tuple_of k) (each_grow q w ps rs fine around scope (tuple_aims aim))
      (λ is. grows_ended k is (tuple_indices is))))

  pub row_kind : WideningSuffices → (row : Builtin) → KindFine q w (K.Call (D.Row row))
  row_kind wide row place k ss ps rs h right =
      let fine = all_values q w ss ps rs right h in
      fine_by q w false false (node q w place k (K.Call (D.Row row)) ps) (kind_meaning (z q w) w place k (K.Call (D.Row row)) rs) (λ around scope. refl)
      (λ names falls g n f facts scope aim there st.
      row_call_fine wide fit (at q w names falls) w f facts scope place k aim there st row ps rs (all_at q w names falls ps rs fine))
      (λ around scope aim. settled_grows around place k aim (call_walk place k (D.Row row) ps around scope aim)
      (grows_bind (each_walk (take (length ps) ps) around scope []) (λ is. row_called around.types place k row is)
      (subst (λ ys. Grows (each_walk ys around scope [])) (sym (taken_all ps)) (each_grow q w ps rs fine around scope [])) (λ is.
      grows_bind _ (λ t. bind (row_call around.types place row is) (node_ended k is)) (grows_note (λ facts. call_note facts place k is (D.Row row) [] []))
      (λ t.
      grows_bind (row_call around.types place row is) (node_ended k is) (row_call_grows around.types place row is) (grows_ended k is)))))

  pub list_kind : (shape : Shape) → KindFine q w (K.List shape)
  list_kind shape place k ss ps rs h right =
      let fine = all_values q w ss ps rs right h in
      fine_by q w false false (node q w place k (K.List shape) ps) (kind_meaning (z q w) w place k (K.List shape) rs) (λ around scope. refl)
      (λ names falls g n f facts scope aim there st.
      list_fine fit (at q w names falls) w scope f facts place k aim there st shape ps rs (all_at q w names falls ps rs fine))
      (λ around scope aim. settled_grows around place k aim (list_walk place k shape ps around scope aim)
      (grows_bind (items_walk ps around scope shape (wanted_item aim)) (E.list_of place k) (items_grow q w ps rs fine around scope shape (wanted_item aim))
      (λ x. sized_grows q w place k x.1 (I.List x.0))))

  pub vector_kind : (shape : Shape) → KindFine q w (K.Vector shape)
  vector_kind shape place k ss ps rs h right =
      let fine = all_values q w ss ps rs right h in
      fine_by q w false false (node q w place k (K.Vector shape) ps) (kind_meaning (z q w) w place k (K.Vector shape) rs) (λ around scope. refl)
      (λ names falls g n f facts scope aim there st.
      vector_fine fit (at q w names falls) w scope f facts place k aim there st shape ps rs (all_at q w names falls ps rs fine))
      (λ around scope aim. settled_grows around place k aim (vector_walk place k shape ps around scope aim)
      (grows_bind (items_walk ps around scope shape (wanted_item aim)) (E.vector_of place k)
      (items_grow q w ps rs fine around scope shape (wanted_item aim))
      (λ x. sized_grows q w place k x.1 (I.Vector (constant (pos (length x.1))) x.0))))

  pub cons_kind : (shape : Shape) → KindFine q w (K.Cons shape)
  cons_kind shape place k ss [] rs h right =
      wrong_fine q w false false true place k (node q w place k (K.Cons shape) [])
      (kind_meaning (z q w) w place k (K.Cons shape) rs) (λ around scope. refl) (λ around scope aim. refl)
  cons_kind shape place k ss (p ∷ []) rs h right =
      wrong_fine q w false false true place k (node q w place k (K.Cons shape) (p ∷ []))
      (kind_meaning (z q w) w place k (K.Cons shape) rs) (λ around scope. refl) (λ around scope aim. refl)
  cons_kind shape place k ss (p ∷ s ∷ u ∷ ps) rs h right =
      wrong_fine q w false false true place k (node q w place k (K.Cons shape) (p ∷ s ∷ u ∷ ps))
      (kind_meaning (z q w) w place k (K.Cons shape) rs) (λ around scope. refl) (λ around scope aim. refl)
  cons_kind shape place k (c ∷ d ∷ []) (p ∷ s ∷ []) (a ∷ b ∷ []) h right =
      let fine = all_values q w (c ∷ d ∷ []) (p ∷ s ∷ []) (a ∷ b ∷ []) right h in
      fine_by q w false false (node q w place k (K.Cons shape) (p ∷ s ∷ [])) (kind_meaning (z q w) w place k (K.Cons shape) (a ∷ b ∷ []))
      (λ around scope. refl)
      (λ names falls g n f facts scope aim there st.
      cons_fine fit likeness (at q w names falls) w scope k f facts there p s a b
      (all_at q w names falls (p ∷ s ∷ []) (a ∷ b ∷ []) fine) place aim st shape)
      (λ around scope aim. settled_grows around place k aim (cons_walk k shape p s around scope aim)
      (cons_grows q w p s a b fine k around scope shape aim))
  cons_kind shape place k [] (p ∷ s ∷ []) rs h right = absurd h
  cons_kind shape place k (c ∷ ss) (p ∷ s ∷ []) [] h right = absurd h
  cons_kind shape place k (c ∷ []) (p ∷ s ∷ []) (a ∷ rs) h right = absurd h.1
  cons_kind shape place k (c ∷ d ∷ ss) (p ∷ s ∷ []) (a ∷ []) h right = absurd h.1
  cons_kind shape place k (c ∷ d ∷ e ∷ ss) (p ∷ s ∷ []) (a ∷ b ∷ rs) h right = absurd h.1.1
  cons_kind shape place k (c ∷ d ∷ []) (p ∷ s ∷ []) (a ∷ b ∷ r ∷ rs) h right = absurd h.1.1
