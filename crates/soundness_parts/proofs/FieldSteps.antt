-- A field that a suffix takes out of a value, beside its run: one of the value's own struct.
use Rattle.std.proofs.Common.{◌≡◌, ℕ, Bool, true, false, List, [], ◌∷◌, ◌++◌, if◌then◌else◌, length, slice_get, Option, Some, None, refl, sym, ap, ◌∙◌, subst}
use Rattle.std.specs.Prelude.{nat_eq}
use Rattle.std.proofs.lemmas.Bool.{and_parts}
use Rattle.std.proofs.lemmas.Bool.Decides.{Decides-eqb}
use Rattle.sail_base.specs.declared.place.Place.{Place}
use Rattle.sail_types.specs.Named.{fields}
use Rattle.sail_types.specs.declared.numbers.Index.{Index}
use Rattle.sail_types.specs.declared.table.Field.{Field}
use Rattle.sail_core.specs.Meaning.{taken}
use Rattle.sail_core.specs.Values.{field_way}
use Rattle.value_indices.specs.declared.indices.Indices.{Indices, out-Indices, roll-Indices}
use Rattle.value_indices.specs.declared.indices.Indices.TheOpen as W
use Rattle.value_indices.specs.declared.indices.Indices.TheOpen.{Indices-F}
use Rattle.value_indices.specs.declared.indices.Indices.TheVariants as I
use Rattle.value_indices.specs.declared.indices.Indices.TheViews.{roll-out-Indices}
use Rattle.value_indices.specs.declared.indices.Reading.{Reading}
use Rattle.value_indices.specs.declared.indices.Reading.TheVariants as R
use Rattle.value_indices.specs.declared.notes.Fact.{Fact}
use Rattle.expression_forms.specs.Ways.{field_reached, fields_at, fields_of, into_field, is_struct, one_typ, taken_out, types_in}
use Rattle.expression_forms.specs.declared.ways.Reached.{Reached}
use Rattle.checked_meaning.specs.Items.{Item}
use Rattle.value_laws.specs.Belonging.{standing}
use Rattle.value_laws.specs.Known.{Point}
use Rattle.way_laws.specs.Laws.{HasPart}
use Rattle.way_laws.proofs.Fields.{field_there}
use Rattle.soundness_steps.specs.Works.{Scene, here}
use Rattle.soundness_steps.specs.Steps.{Beside}
use Rattle.soundness_steps.specs.Values.{Has, Is}
use Rattle.soundness_forms.proofs.Basics.{has_there}
use Rattle.soundness_values.specs.Named.{TypesNarrow}
use Rattle.soundness_values.proofs.Narrowed.{narrowed}
use Rattle.soundness_values.specs.Narrow.{is_narrow}
use Rattle.soundness_parts.proofs.NamedTypes.{field_narrow, type_closes, type_steady}
use Rattle.soundness_parts.proofs.Suffixes.{unreached}
use Rattle.soundness_parts.proofs.Taken.{HasThere, taken_fine, z}

module _ (q : Scene) {n : ℕ} {f : Point n} (facts : List Fact) (narrow : TypesNarrow q.set.around.types) (place : Place) (k : ℕ) (i : Indices) (x : Item)
    (u c : ℕ) (h : Is q.set q.work f i x) where
  abbrev Ends : Option Reached → Type 0
  Ends o = Beside q n f facts (taken_out place k i o) (taken (z q) k (field_way u c) x []) (λ m g j y. Is q.set q.work g j y)

  none_there : Ends None
  none_there = unreached place k i x h (taken (z q) k (field_way u c) x [])

  module _ (is : List Index) (rs : List Reading) (rolls : I.Named u is rs ≡ i) (many : length rs ≡ types_in (here q) u) where
    named : Has q.set q.work f (I.Named u is rs) x.val
    named = subst (λ j. Has q.set q.work f j x.val) (sym rolls) h.has

    abbrev at_field : Field → Reached
    at_field g = record { conditions = []; numbers = []; typ = R.Of g.typ is rs }

    there : (fs : List Field) (g : Field) → fields q.set.around.types u ≡ Some fs → slice_get fs c ≡ Some g
        → HasThere q f i x.val (at_field g) (field_way u c)
    there fs g defined stands d a met =
        let fits : is_narrow (length rs) g.typ ≡ true =
        ap (λ m. is_narrow m g.typ) many ∙ field_narrow (types_in (here q) u) fs c g ((narrowed q.set.around.types narrow).of_fields u fs defined) stands in
        subst (λ j. HasPart q.set.around.types (standing q.set.past d) q.work.types j x.val (R.Of g.typ is rs) (field_way u c)) rolls
        (field_there q.set.around.types (standing q.set.past d) q.work.types u is rs fs defined c g x.val stands
        (type_closes q.set q.work is rs g.typ fits d) (has_there named d a))

    by_field : (fs : List Field) → fields q.set.around.types u ≡ Some fs → (o : Option Field) → slice_get fs c ≡ o
        → Ends (field_reached (one_typ o ++ []) is rs)
    by_field fs defined None stands = none_there
    by_field fs defined (Some g) stands =
        taken_fine place k i x (at_field g) (field_way u c) [] h tt (there fs g defined stands) (type_steady q.set q.work is rs f u x.val named g.typ)

    by_fields : (o : Option (List Field)) → fields q.set.around.types u ≡ o → Ends (field_reached (fields_at (c ∷ []) o) is rs)
    by_fields None defined = none_there
    by_fields (Some fs) defined = by_field fs defined (slice_get fs c) refl

  of_struct : (s : ℕ) (is : List Index) (rs : List Reading) → I.Named s is rs ≡ i → (b : Bool) → is_struct (here q) u s rs ≡ b
      → Ends (if b then field_reached (fields_of (here q) u (c ∷ [])) is rs else None)
  of_struct s is rs rolls false e = none_there
  of_struct s is rs rolls true e =
      let both = and_parts (nat_eq u s) (nat_eq (length rs) (types_in (here q) u)) e in
      let own : u ≡ s = (Decides-eqb u s).0 both.0 in
      by_fields is rs (ap (λ t. I.Named t is rs) own ∙ rolls) ((Decides-eqb (length rs) (types_in (here q) u)).0 both.1)
      (fields q.set.around.types u) refl

  by_form : (form : Indices-F Indices Reading) → roll-Indices form ≡ i → Ends (into_field (here q) u c form)
  by_form (W.Named s is rs) e = of_struct s is rs (sym (I.rolls-Named s is rs) ∙ e) (is_struct (here q) u s rs) refl
  by_form form e = none_there

  -- in a table whose types are narrow
  pub field_fine : Ends (into_field (here q) u c (out-Indices i))
  field_fine = by_form (out-Indices i) (roll-out-Indices i)
