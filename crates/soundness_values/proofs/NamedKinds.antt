-- Structs and constructors as kinds of nodes; what was in force still is behind a value of a named type.
use Rattle.std.proofs.Common.{ℕ, zero, suc, Bool, true, false, List, [], ◌∷◌, ◌++◌, length, map, slice_get, take, Option, Some, None, refl, sym, ap, ◌∙◌}
use Rattle.std.proofs.Common.{if◌then◌else◌}
use Rattle.std.specs.List.{list_all}
use Rattle.std.proofs.lemmas.Bool.{and_parts}
use Rattle.sail_base.specs.declared.place.Place.{Place}
use Rattle.sail_types.specs.Named.{fields, payload}
use Rattle.sail_types.specs.declared.numbers.Index.{Index}
use Rattle.sail_types.specs.declared.table.Parameter.{Parameter}
use Rattle.sail_types.specs.declared.types.Typ.{Typ}
use Rattle.sail_core.specs.Making.{World}
use Rattle.sail_core.specs.Meaning.{kind_meaning}
use Rattle.sail_core.specs.Run.{Run}
use Rattle.sail_core.specs.declared.tree.Callee.TheVariants as D
use Rattle.sail_core.specs.declared.tree.Kind.TheVariants as K
use Rattle.value_indices.specs.declared.indices.Indices.{Indices}
use Rattle.value_indices.specs.declared.indices.Indices.TheVariants as I
use Rattle.value_indices.specs.declared.indices.Reading.{Reading}
use Rattle.value_indices.specs.declared.indices.Reading.TheVariants as Q
use Rattle.value_indices.specs.Steps.{bind, next_variable}
use Rattle.wide_types.specs.Widening.{parameters_of}
use Rattle.pattern_leaves.specs.Settings.{Around, Scope}
use Rattle.call_arguments.specs.Callees.{index_if, indices_from, number_parameters, type_parameters, types_from, types_or, was_due}
use Rattle.call_arguments.specs.Holes.{types_without_holes}
use Rattle.call_arguments.specs.declared.aims.Aim.{Aim}
use Rattle.call_notes.specs.Calls.{made_named, named_with, one_owed, parts_owed}
use Rattle.call_notes.specs.Ends.{any_never, never_value}
use Rattle.call_notes.specs.Noted.{node_ended}
use Rattle.value_fits.specs.Fitting.{among, placed}
use Rattle.expression_forms.specs.Ways.{fields_of}
use Rattle.expression_steps.specs.Calls.{call_walk, constructor_types, known_arguments, named_made, part_aims, places_of}
use Rattle.expression_steps.specs.Parts.{Part, each_walk}
use Rattle.expression_steps.specs.Values as E
use Rattle.checked_meaning.specs.Items.{Item}
use Rattle.soundness_steps.specs.Works.{Kept, Scene}
use Rattle.soundness_steps.specs.Steps.{Grows}
use Rattle.soundness_forms.specs.EachKind.{KindFine, node}
use Rattle.soundness_forms.specs.Forms.{AllFine, Fine, FitsSuffice, at, z}
use Rattle.soundness_forms.specs.Standing.{has_fields, has_payload, is_value}
use Rattle.soundness_forms.proofs.Growth.{grows_bind, grows_ended, grows_give}
use Rattle.soundness_forms.proofs.JoinGrowth.{grows_next}
use Rattle.soundness_forms.proofs.PlainKinds.{fine_by, part_grows, settled_grows}
use Rattle.soundness_values.specs.Named.{TypesNarrow}
use Rattle.soundness_values.proofs.ConstructorNodes.{constructor_fine}
use Rattle.soundness_values.proofs.Filled.{parameter_grows}
use Rattle.soundness_values.proofs.MadeKinds.{all_at, all_values, each_grow}
use Rattle.soundness_values.proofs.Stands.{ConstructorStands, StructStands, constructor_stands, parts_stand, struct_stands}
use Rattle.soundness_values.proofs.StructNodes.{struct_fine}

index_grows : (p : Parameter) (o : Option Index) → Grows (index_if p o)
index_grows p None = parameter_grows p p.kind
index_grows p (Some i) = grows_give (i ∷ [])

indices_grow : (j : ℕ) (ps : List Parameter) (ts : List Typ) (is : List Indices) → Grows (indices_from j ps ts is)
indices_grow j [] ts is = grows_give []
indices_grow j (p ∷ ps) ts is = grows_bind (index_if p (among (map placed ts) j is)) _ (index_grows p (among (map placed ts) j is)) (λ i.
    grows_bind (indices_from (suc j) ps ts is) _ (indices_grow (suc j) ps ts is) (λ more. grows_give (i ++ more)))

owed_grow : (around : Around) (places : List Place) (known : Option (List Reading)) (ts : List Typ) (is : List Indices) (js : List Index) (qs : List Reading)
    → Grows (parts_owed around places known ts is js qs)
owed_grow around [] known ts is js qs = grows_give tt
owed_grow around (place ∷ places) known [] is js qs = grows_give tt
owed_grow around (place ∷ places) known (t ∷ ts) [] js qs = grows_give tt
owed_grow around (place ∷ places) known (t ∷ ts) (i ∷ is) js qs =
    grows_bind (one_owed around place known t i js qs) _ (part_grows around (was_due known t) place i (Q.Of t js (types_without_holes qs))) (λ x.
    owed_grow around places known ts is js qs)

-- what stands for Type parameters
abbrev found_from : Option (List Reading) → List Parameter → List Typ → List Indices → ℕ → List Reading
found_from known ps ts is m = types_or known (types_from m 0 (type_parameters ps) ts is)

pub named_grows : (around : Around) (u : ℕ) (ps : List Parameter) (places : List Place) (known : Option (List Reading)) (ts : List Typ) (is : List Indices)
    → Grows (made_named around u ps places known ts is)
named_grows around u ps places known ts is = by (any_never is)
  where
    by : (b : Bool) → Grows (if b then never_value else bind next_variable (λ m. named_with around u ps places known ts is (found_from known ps ts is m)))
    by true = grows_give I.Never
    by false = grows_bind next_variable _ grows_next (λ m.
        grows_bind (indices_from 0 (number_parameters ps) ts is) _ (indices_grow 0 (number_parameters ps) ts is) (λ js.
        grows_bind (parts_owed around places known ts is js (found_from known ps ts is m)) _
        (owed_grow around places known ts is js (found_from known ps ts is m)) (λ x.
        grows_give (I.Named u js (found_from known ps ts is m)))))

pub all_taken : (q : Scene) (w : World Item) (n : ℕ) (ps : List Part) (rs : List (Run Item Item)) → AllFine q w ps rs → AllFine q w (take n ps) (take n rs)
all_taken q w zero ps rs h = tt
all_taken q w (suc n) [] [] h = tt
all_taken q w (suc n) (p ∷ ps) (r ∷ rs) h = (h.0, all_taken q w n ps rs h.1)
all_taken q w (suc n) [] (r ∷ rs) h = absurd h
all_taken q w (suc n) (p ∷ ps) [] h = absurd h

-- ---- the kinds

module _ (fit : FitsSuffice) (q : Scene) (w : World Item) (narrow : TypesNarrow q.set.around.types) where
  -- a struct whose fields are each given once
  struct_node : (place : Place) (k u : ℕ) (ks : List ℕ) (ps : List Part) (rs : List (Run Item Item)) → AllFine q w ps rs → StructStands q u ks ps
      → Fine q w false false (node q w place k (K.Struct u ks) ps) (kind_meaning (z q w) w place k (K.Struct u ks) rs)
  struct_node place k u ks ps rs fine stands =
      fine_by q w false false (node q w place k (K.Struct u ks) ps) (kind_meaning (z q w) w place k (K.Struct u ks) rs) (λ around scope. refl)
      (λ names falls g n f facts scope aim there st.
      struct_fine fit (at q w names falls) w scope place k u ks ps (stands_at names falls) f facts aim there st rs (all_at q w names falls ps rs fine))
      (λ around scope aim. settled_grows around place k aim (E.struct_walk k u ks ps around scope)
      (grows_bind (each_walk (take (E.struct_count around u ks) ps) around scope (E.struct_aims around u ks)) (E.struct_made around k u ks ps)
      (each_grow q w (take (E.struct_count around u ks) ps) (take (E.struct_count around u ks) rs) (all_taken q w (E.struct_count around u ks) ps rs fine)
      around scope (E.struct_aims around u ks)) (λ is.
      grows_bind (named_made around u ps None (fields_of around u ks) is) (node_ended k is)
      (named_grows around u (parameters_of (slice_get around.types.definitions u)) (places_of ps) None (fields_of around u ks) is) (grows_ended k is))))
    where
      stands_at : (names : List Kept) (falls : Bool) → StructStands (at q w names falls) u ks ps
      stands_at names falls = record {
        all_fields = stands.all_fields;
        is_struct = stands.is_struct;
        as_long = stands.as_long;
        each = stands.each;
        below = stands.below;
        parts = stands.parts;
        narrow = stands.narrow;
      }

  -- a constructor on an argument for each part of its payload
  constructor_node : (place : Place) (k u c : ℕ) (ps : List Part) (rs : List (Run Item Item)) → AllFine q w ps rs → ConstructorStands q u c ps
      → Fine q w false false (node q w place k (K.Call (D.Constructor u c)) ps) (kind_meaning (z q w) w place k (K.Call (D.Constructor u c)) rs)
  constructor_node place k u c ps rs fine stands =
      fine_by q w false false (node q w place k (K.Call (D.Constructor u c)) ps) (kind_meaning (z q w) w place k (K.Call (D.Constructor u c)) rs)
      (λ around scope. refl)
      (λ names falls g n f facts scope aim there st.
      constructor_fine fit (at q w names falls) w scope place k u c ps (stands_at names falls) aim f facts there st rs (all_at q w names falls ps rs fine))
      (λ around scope aim. settled_grows around place k aim (call_walk place k (D.Constructor u c) ps around scope aim)
      (call_grows around scope aim (constructor_types around u c (length ps))))
    where
      stands_at : (names : List Kept) (falls : Bool) → ConstructorStands (at q w names falls) u c ps
      stands_at names falls = record {
        of_payload = stands.of_payload;
        is_payload = stands.is_payload;
        none_alone = stands.none_alone;
        some = stands.some;
        parts = stands.parts;
        narrow = stands.narrow;
      }

      call_grows : (around : Around) (scope : Scope) (aim : Aim) (ts : List Typ)
          → Grows (bind (each_walk (take (length ts) ps) around scope (part_aims (known_arguments around u aim) ts)) (λ is.
          bind (named_made around u ps (known_arguments around u aim) ts is) (node_ended k is)))
      call_grows around scope aim ts =
          let known = known_arguments around u aim in
          grows_bind (each_walk (take (length ts) ps) around scope (part_aims known ts)) (λ is. bind (named_made around u ps known ts is) (node_ended k is))
          (each_grow q w (take (length ts) ps) (take (length ts) rs) (all_taken q w (length ts) ps rs fine) around scope (part_aims known ts)) (λ is.
          grows_bind (named_made around u ps known ts is) (node_ended k is)
          (named_grows around u (parameters_of (slice_get around.types.definitions u)) (places_of ps) known ts is) (grows_ended k is))

  pub struct_kind : (u : ℕ) (ks : List ℕ) → KindFine q w (K.Struct u ks)
  struct_kind u ks place k ss ps rs h right =
      let o = fields q.set.around.types u in
      let both = and_parts (has_fields ks (length ss) o) (list_all is_value ss) right in
      struct_node place k u ks ps rs (all_values q w ss ps rs both.1 h)
      (struct_stands q narrow u ks ps o refl (ap (λ n. has_fields ks n o) (sym (parts_stand q w ss ps rs h)) ∙ both.0))

  pub constructor_kind : (u c : ℕ) → KindFine q w (K.Call (D.Constructor u c))
  constructor_kind u c place k ss ps rs h right =
      let o = payload q.set.around.types u c in
      let both = and_parts (has_payload (length ss) o) (list_all is_value ss) right in
      constructor_node place k u c ps rs (all_values q w ss ps rs both.1 h)
      (constructor_stands q narrow u c ps o refl (ap (λ n. has_payload n o) (sym (parts_stand q w ss ps rs h)) ∙ both.0))
