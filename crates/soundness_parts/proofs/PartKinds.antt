-- Parts of values, and values with another part, as kinds of nodes.
use Rattle.std.proofs.Common.{ℕ, Bool, true, false, List, [], ◌∷◌, refl}
use Rattle.sail_base.specs.declared.place.Place.{Place}
use Rattle.sail_core.specs.Making.{World}
use Rattle.sail_core.specs.Meaning.{kind_meaning}
use Rattle.sail_core.specs.Run.{Run}
use Rattle.sail_core.specs.declared.targets.Suffix.{Suffix}
use Rattle.sail_core.specs.declared.targets.Way.TheVariants as Y
use Rattle.sail_core.specs.declared.tree.Kind.TheVariants as K
use Rattle.value_indices.specs.Steps.{Walk, bind, give}
use Rattle.value_indices.specs.declared.indices.Indices.{Indices}
use Rattle.pattern_leaves.specs.Settings.{Around, Scope}
use Rattle.call_arguments.specs.declared.aims.Aim.{Aim}
use Rattle.call_arguments.specs.declared.aims.Aim.TheVariants as Aims
use Rattle.call_notes.specs.Ends.{settled}
use Rattle.expression_steps.specs.Parts.{Part}
use Rattle.expression_steps.specs.Values.{part_walk, update_walk}
use Rattle.checked_meaning.specs.Items.{Item}
use Rattle.soundness_steps.specs.Steps.{Grows}
use Rattle.soundness_steps.specs.Works.{Kept, Scene}
use Rattle.soundness_forms.specs.EachKind.{KindFine, node}
use Rattle.soundness_forms.specs.Forms.{AllFine, Fine, FitsSuffice, at}
use Rattle.soundness_forms.proofs.Growth.{grows_bind, grows_give, grows_settled}
use Rattle.soundness_forms.proofs.PlainKinds.{fine_at, fine_by, settled_grows, wrong_fine}
use Rattle.soundness_values.specs.Named.{TypesNarrow}
use Rattle.soundness_parts.proofs.PartGrowth.{AllGrow, part_grows, update_grows}
use Rattle.soundness_parts.proofs.Suffixed.{all_values, part_node}
use Rattle.soundness_parts.proofs.Taken.{z}
use Rattle.soundness_parts.proofs.Updated.{with_item, with_slice}

part_settled_grows : (around : Around) (place : Place) (aim : Aim) (walk : Walk Indices) → Grows walk
    → Grows (bind (bind walk (settled around place aim)) (λ i. give i))
part_settled_grows around place aim walk h = grows_bind (bind walk (settled around place aim)) (λ i. give i)
    (grows_bind walk (settled around place aim) h (grows_settled around place aim)) (λ i. grows_give i)

module _ (q : Scene) (w : World Item) where
  all_at : (names : List Kept) (falls : Bool) (ps : List Part) (rs : List (Run Item Item)) → AllFine q w ps rs → AllFine (at q w names falls) w ps rs
  all_at names falls [] [] h = tt
  all_at names falls (p ∷ ps) (r ∷ rs) h = (fine_at q w names falls h.0, all_at names falls ps rs h.1)
  all_at names falls [] (r ∷ rs) h = absurd h
  all_at names falls (p ∷ ps) [] h = absurd h

  all_grow : (around : Around) (scope : Scope) (ps : List Part) (rs : List (Run Item Item)) → AllFine q w ps rs → AllGrow around scope ps
  all_grow around scope [] [] h = tt
  all_grow around scope (p ∷ ps) (r ∷ rs) h = (h.0.grows around scope Aims.Free, all_grow around scope ps rs h.1)
  all_grow around scope [] (r ∷ rs) h = absurd h
  all_grow around scope (p ∷ ps) [] h = absurd h

  -- a value and its suffixes
  part_fine : FitsSuffice → TypesNarrow q.set.around.types → (place : Place) (k : ℕ) (ss : List Suffix) (p : Part) (ps : List Part) (r : Run Item Item)
      (rs : List (Run Item Item)) → AllFine q w (p ∷ ps) (r ∷ rs)
      → Fine q w false false (node q w place k (K.Part ss) (p ∷ ps)) (kind_meaning (z q) w place k (K.Part ss) (r ∷ rs))
  part_fine fit narrow place k ss p ps r rs h =
      fine_by q w false false (node q w place k (K.Part ss) (p ∷ ps)) (kind_meaning (z q) w place k (K.Part ss) (r ∷ rs)) (λ around scope. refl)
      (λ names falls g n f facts scope aim there st.
      part_node fit (at q w names falls) w narrow place k ss p ps r rs (fine_at q w names falls h.0) (all_at names falls ps rs h.1) scope aim there st)
      (λ around scope aim. part_settled_grows around place aim (part_walk place ss p ps around scope)
      (part_grows around scope place ss p ps (all_grow around scope (p ∷ ps) (r ∷ rs) h)))

  part_by : FitsSuffice → TypesNarrow q.set.around.types → (place : Place) (k : ℕ) (ss : List Suffix) (ps : List Part) (rs : List (Run Item Item))
      → AllFine q w ps rs → Fine q w false false (node q w place k (K.Part ss) ps) (kind_meaning (z q) w place k (K.Part ss) rs)
  part_by fit narrow place k ss [] rs h = wrong_fine q w false false false place k (node q w place k (K.Part ss) []) _ (λ around scope. refl)
      (λ around scope aim. refl)
  part_by fit narrow place k ss (p ∷ ps) (r ∷ rs) h = part_fine fit narrow place k ss p ps r rs h
  part_by fit narrow place k ss (p ∷ ps) [] h = absurd h

  pub part_kind : FitsSuffice → TypesNarrow q.set.around.types → (suffixes : List Suffix) → KindFine q w (K.Part suffixes)
  part_kind fit narrow suffixes place k ss ps rs h right = part_by fit narrow place k suffixes ps rs (all_values q w ss ps rs h right)

  module _ (fit : FitsSuffice) (place : Place) (k : ℕ) where
    slice_by : (ps : List Part) (rs : List (Run Item Item)) → AllFine q w ps rs
        → Fine q w false false (node q w place k K.WithSlice ps) (kind_meaning (z q) w place k K.WithSlice rs)
    slice_by (a ∷ b ∷ c ∷ d ∷ []) (ra ∷ rb ∷ rc ∷ rd ∷ []) h =
        fine_by q w false false (node q w place k K.WithSlice (a ∷ b ∷ c ∷ d ∷ [])) _ (λ around scope. refl)
        (λ names falls g n f facts scope aim there st.
        with_slice fit (at q w names falls) w place k a b c d ra rb rc rd (fine_at q w names falls h.0) (fine_at q w names falls h.1.0)
        (fine_at q w names falls h.1.1.0) (fine_at q w names falls h.1.1.1.0) scope aim there st) (λ around scope aim.
        settled_grows around place k aim (update_walk place k Y.Slice a (b ∷ c ∷ []) d around scope)
        (update_grows around place scope k d (h.1.1.1.0.grows around scope) Y.Slice a (b ∷ c ∷ [])
        (h.0.grows around scope Aims.Free, (h.1.0.grows around scope Aims.Free, (h.1.1.0.grows around scope Aims.Free, tt)))))
    slice_by [] rs h = wrong_fine q w false false true place k (node q w place k K.WithSlice []) _ (λ around scope. refl) (λ around scope aim. refl)
    slice_by (a ∷ []) rs h = wrong_fine q w false false true place k (node q w place k K.WithSlice (a ∷ [])) _ (λ around scope. refl) (λ around scope aim. refl)
    slice_by (a ∷ b ∷ []) rs h =
        wrong_fine q w false false true place k (node q w place k K.WithSlice (a ∷ b ∷ [])) _ (λ around scope. refl) (λ around scope aim. refl)
    slice_by (a ∷ b ∷ c ∷ []) rs h =
        wrong_fine q w false false true place k (node q w place k K.WithSlice (a ∷ b ∷ c ∷ [])) _ (λ around scope. refl) (λ around scope aim. refl)
    slice_by (a ∷ b ∷ c ∷ d ∷ e ∷ ps) rs h =
        wrong_fine q w false false true place k (node q w place k K.WithSlice (a ∷ b ∷ c ∷ d ∷ e ∷ ps)) _ (λ around scope. refl) (λ around scope aim. refl)
    slice_by (a ∷ b ∷ c ∷ d ∷ []) [] h = absurd h
    slice_by (a ∷ b ∷ c ∷ d ∷ []) (ra ∷ []) h = absurd h.1
    slice_by (a ∷ b ∷ c ∷ d ∷ []) (ra ∷ rb ∷ []) h = absurd h.1.1
    slice_by (a ∷ b ∷ c ∷ d ∷ []) (ra ∷ rb ∷ rc ∷ []) h = absurd h.1.1.1
    slice_by (a ∷ b ∷ c ∷ d ∷ []) (ra ∷ rb ∷ rc ∷ rd ∷ re ∷ rs) h = absurd h.1.1.1.1

    item_by : (ps : List Part) (rs : List (Run Item Item)) → AllFine q w ps rs
        → Fine q w false false (node q w place k K.WithItem ps) (kind_meaning (z q) w place k K.WithItem rs)
    item_by (a ∷ b ∷ d ∷ []) (ra ∷ rb ∷ rd ∷ []) h =
        fine_by q w false false (node q w place k K.WithItem (a ∷ b ∷ d ∷ [])) _ (λ around scope. refl)
        (λ names falls g n f facts scope aim there st.
        with_item fit (at q w names falls) w place k a b d ra rb rd (fine_at q w names falls h.0) (fine_at q w names falls h.1.0)
        (fine_at q w names falls h.1.1.0) scope aim there st) (λ around scope aim.
        settled_grows around place k aim (update_walk place k Y.Item a (b ∷ []) d around scope)
        (update_grows around place scope k d (h.1.1.0.grows around scope) Y.Item a (b ∷ [])
        (h.0.grows around scope Aims.Free, (h.1.0.grows around scope Aims.Free, tt))))
    item_by [] rs h = wrong_fine q w false false true place k (node q w place k K.WithItem []) _ (λ around scope. refl) (λ around scope aim. refl)
    item_by (a ∷ []) rs h =
        wrong_fine q w false false true place k (node q w place k K.WithItem (a ∷ [])) _ (λ around scope. refl) (λ around scope aim. refl)
    item_by (a ∷ b ∷ []) rs h =
        wrong_fine q w false false true place k (node q w place k K.WithItem (a ∷ b ∷ [])) _ (λ around scope. refl) (λ around scope aim. refl)
    item_by (a ∷ b ∷ c ∷ d ∷ ps) rs h =
        wrong_fine q w false false true place k (node q w place k K.WithItem (a ∷ b ∷ c ∷ d ∷ ps)) _ (λ around scope. refl) (λ around scope aim. refl)
    item_by (a ∷ b ∷ d ∷ []) [] h = absurd h
    item_by (a ∷ b ∷ d ∷ []) (ra ∷ []) h = absurd h.1
    item_by (a ∷ b ∷ d ∷ []) (ra ∷ rb ∷ []) h = absurd h.1.1
    item_by (a ∷ b ∷ d ∷ []) (ra ∷ rb ∷ rd ∷ re ∷ rs) h = absurd h.1.1.1

  pub with_slice_kind : FitsSuffice → KindFine q w K.WithSlice
  with_slice_kind fit place k ss ps rs h right = slice_by fit place k ps rs (all_values q w ss ps rs h right)

  pub with_item_kind : FitsSuffice → KindFine q w K.WithItem
  with_item_kind fit place k ss ps rs h right = item_by fit place k ps rs (all_values q w ss ps rs h right)
