-- Structs as nodes, where each field of the definition is given once.
use Rattle.std.proofs.Common.{◌≡◌, ℕ, zero, suc, ◌<◌, true, false, List, [], ◌∷◌, ◌++◌, length, map, slice_get, Option, Some, None, refl, sym, ◌∙◌, subst}
use Rattle.std.proofs.Common.{arith}
use Rattle.sail_base.specs.declared.place.Place.{Place}
use Rattle.sail_types.specs.Belongs.{Readings as Closeds, assigned, belongs, reading}
use Rattle.sail_types.specs.Named.{field_types}
use Rattle.sail_types.specs.Numbers.{Assignment}
use Rattle.sail_types.specs.declared.table.Field.{Field}
use Rattle.sail_types.specs.declared.table.Types.{Types}
use Rattle.sail_types.specs.declared.types.Typ.{Typ}
use Rattle.sail_types.specs.declared.values.Value.{Value}
use Rattle.sail_core.specs.Making.{World}
use Rattle.sail_core.specs.Meaning.{kind_meaning}
use Rattle.sail_core.specs.Run.{Run, in_turn, needs, ◌then◌}
use Rattle.sail_core.specs.Values.{struct_of}
use Rattle.sail_core.specs.declared.tree.Kind.TheVariants as K
use Rattle.value_indices.specs.declared.indices.Indices.{Indices}
use Rattle.value_indices.specs.declared.indices.Indices.TheVariants as I
use Rattle.value_indices.specs.declared.notes.Fact.{Fact}
use Rattle.wide_types.specs.Widening.{parameters_of}
use Rattle.pattern_leaves.specs.Settings.{Scope}
use Rattle.call_arguments.specs.Callees.{type_parameters, types_from}
use Rattle.call_arguments.specs.declared.aims.Aim.{Aim}
use Rattle.call_notes.specs.Noted.{node_ended}
use Rattle.expression_forms.specs.Ways.{field_typ, fields_at, fields_of}
use Rattle.expression_steps.specs.Calls.{part_aims, places_of}
use Rattle.expression_steps.specs.Expressions.{kind_walk}
use Rattle.expression_steps.specs.Parts.{Part, each_walk}
use Rattle.expression_steps.specs.Values as E
use Rattle.checked_meaning.specs.Checked.{checked}
use Rattle.checked_meaning.specs.Items.{Item, vals}
use Rattle.value_laws.specs.Belonging.{closed, closeds, standing}
use Rattle.value_laws.specs.Known.{Point}
use Rattle.soundness_steps.specs.Works.{Scene, here}
use Rattle.soundness_steps.specs.Steps.{Beside}
use Rattle.soundness_steps.specs.Values.{AimSteady, Comes, Is}
use Rattle.soundness_steps.proofs.Steps.{binds, walks_then}
use Rattle.soundness_forms.specs.Forms.{AllFine, FitsSuffice}
use Rattle.soundness_forms.specs.Worlds.{Surrounds}
use Rattle.soundness_forms.proofs.Nodes.{node_ends, typed_on}
use Rattle.soundness_forms.proofs.Parts.{EachIs, all_have, are_typed, each_fine}
use Rattle.soundness_values.proofs.Narrowed.{AllNarrow}
use Rattle.soundness_values.proofs.Dues.{parts_aimed, parts_due, taken_as, types_long}
use Rattle.soundness_values.proofs.Made.{parts_node}
use Rattle.soundness_values.proofs.NamedWalks.{named_has, named_walks}
use Rattle.soundness_values.proofs.Stands.{AllBelow, StructStands}
use Rattle.soundness_values.proofs.Structs.{AllGiven, struct_made}
use Rattle.soundness_values.proofs.Unions.{AllOfTypes}

-- ---- types of fields, by their places

record FieldThere (k : ℕ) (fs : List Field) : Type 0 where
  pub typ : Typ
  pub alone : field_typ k fs ≡ typ ∷ []
  pub is_it : slice_get (field_types fs) k ≡ Some typ

field_there : (fs : List Field) (k : ℕ) → k < length (field_types fs) → FieldThere k fs
field_there [] k l = absurd (omega (arith, l))
field_there (g ∷ fs) zero l = record { typ = g.typ; alone = refl; is_it = refl }
field_there (g ∷ fs) (suc k) l = let r = field_there fs k (omega (arith, l)) in record { typ = r.typ; alone = r.alone; is_it = r.is_it }

module _ (types : Types) (mu : Assignment) (rs : Closeds) (fs : List Field) (u : ℕ) where
  abbrev OfType : Option Typ → Value → Type 0
  OfType None v = ⊥
  OfType (Some t) v = belongs types v (reading t mu rs) ≡ true

  one_given : (k : ℕ) (ks : List ℕ) → k < length (field_types fs) → (r : FieldThere k fs)
      → ((vs : List Value) → AllOfTypes types mu rs (fields_at ks (Some fs)) vs → AllGiven types mu rs (field_types fs) u ks vs) → (vs : List Value)
      → AllOfTypes types mu rs (r.typ ∷ fields_at ks (Some fs)) vs → AllGiven types mu rs (field_types fs) u (k ∷ ks) vs
  one_given k ks l r rest [] h = absurd h
  one_given k ks l r rest (v ∷ vs) h = (l, (λ t e. subst (λ o. OfType o v) (sym r.is_it ∙ e) h.0), rest vs h.1)

  given_of : (ks : List ℕ) (vs : List Value) → AllBelow (length (field_types fs)) ks → AllOfTypes types mu rs (fields_at ks (Some fs)) vs
      → AllGiven types mu rs (field_types fs) u ks vs
  given_of [] [] l h = tt
  given_of [] (v ∷ vs) l h = absurd h
  given_of (k ∷ ks) vs l h =
      let r = field_there fs k l.0 in
      one_given k ks l.0 r (λ us e. given_of ks us l.1 e) vs (subst (λ us. AllOfTypes types mu rs (us ++ fields_at ks (Some fs)) vs) r.alone h)

-- ---- the node

module _ (fit : FitsSuffice) (q : Scene) (w : World Item) (scope : Scope) (place : Place) (k u : ℕ) (ks : List ℕ) (ps : List Part)
    (stands : StructStands q u ks ps) where
  abbrev ts : List Typ
  ts = fields_of (here q) u ks

  abbrev making : List Item → Run Item Item
  making xs = needs (struct_of u ks (vals xs)) then λ v. (checked q.set.around.types q.cases).make k xs v

  struct_ends : {n : ℕ} {f : Point n} {facts : List Fact} (is : List Indices) (xs : List Item) → EachIs q.set q.work f ps (part_aims None ts) is xs
      → Beside q n f facts (E.struct_made (here q) k u ks ps is) (making xs) (λ m g i x. Is q.set q.work g i x)
  struct_ends {n} {f} {facts} is xs e =
      let parameters = parameters_of (slice_get q.set.around.types.definitions u) in
      let have = all_have q.set q.work f ps (part_aims None ts) is xs e in
      let typed = are_typed q.set q.work f ps (part_aims None ts) is xs e in
      let due = parts_due q.set q.work f None ps ts is xs stands.parts e in
      walks_then (node_ended k is)
      (named_walks fit q f u parameters (places_of ps) None ts is (vals xs) due.1 have due.0
      (subst (λ count. AllNarrow count ts) (sym (types_long n 0 (type_parameters parameters) ts is)) stands.narrow)
      tt) (λ m g fs i l h.
      let made = struct_made q.set.around.types (standing q.set.past g.integers) q.work.types u h.numbers (types_from n 0 (type_parameters parameters) ts is)
      stands.all_fields ks (vals xs) stands.is_struct stands.as_long stands.each
      (given_of q.set.around.types (assigned (standing q.set.past g.integers) h.numbers)
      (closeds (map (closed q.set.around.types (standing q.set.past g.integers) q.work.types) (types_from n 0 (type_parameters parameters) ts is)))
      stands.all_fields u ks (vals xs) stands.below
      (subst (λ o. AllOfTypes q.set.around.types (assigned (standing q.set.past g.integers) h.numbers)
      (closeds (map (closed q.set.around.types (standing q.set.past g.integers) q.work.types) (types_from n 0 (type_parameters parameters) ts is)))
      (fields_at ks o) (vals xs)) stands.is_struct h.belong)) in
      subst (λ o. Beside q m g fs (node_ended k is i) (needs o then λ v. (checked q.set.around.types q.cases).make k xs v) (λ m2 d j y. Is q.set q.work d j y))
      (sym made.is)
      (subst (λ j. Beside q m g fs (node_ended k is j) ((checked q.set.around.types q.cases).make k xs made.value) (λ m2 d j2 y. Is q.set q.work d j2 y))
      (sym h.is_it)
      (node_ends k is (I.Named u h.numbers (types_from n 0 (type_parameters parameters) ts is)) xs made.value (typed_on q.set q.work is xs l typed)
      (named_has q.set q.work g u h.numbers (types_from n 0 (type_parameters parameters) ts is) made.value h.indices_stay h.types_stay made.has_it))))

  pub struct_fine : {n : ℕ} (f : Point n) (facts : List Fact) (aim : Aim) → Surrounds q w f scope → AimSteady q.set q.work f aim → (rs : List (Run Item Item))
      → AllFine q w ps rs
      → Beside q n f facts (kind_walk place k (K.Struct u ks) ps (here q) scope aim)
      (kind_meaning (checked q.set.around.types q.cases) w place k (K.Struct u ks) rs) (λ m g i x. Comes q.set q.work g false false false aim i x)
  struct_fine {n} f facts aim there st rs fine =
      parts_node fit place k aim (in_turn rs) (λ xs. needs (struct_of u ks (vals xs))) st
      (binds (E.struct_made (here q) k u ks ps) making
      (subst (λ ys. Beside q n f facts (each_walk ys (here q) scope (part_aims None ts)) (in_turn rs)
      (λ m g is xs. EachIs q.set q.work g ps (part_aims None ts) is xs)) (sym (taken_as ps ts stands.parts))
      (each_fine q w scope ps rs fine (part_aims None ts) there (parts_aimed q.set q.work f None tt ts)))
      (λ m g fs is xs l e. struct_ends is xs e))
