-- A field that a suffix of a target names, of a value without a hole in its type.
use Rattle.std.proofs.Common.{◌≡◌, ◌∙◌, ℕ, Bool, true, false, List, [], ◌∷◌, ◌++◌, if◌then◌else◌, length, slice_get, Option, Some, None, refl, sym}
use Rattle.std.proofs.Common.{ap, subst}
use Rattle.std.specs.Prelude.{nat_eq}
use Rattle.std.proofs.lemmas.Bool.{and_parts}
use Rattle.std.proofs.lemmas.Bool.Decides.{Decides-eqb}
use Rattle.sail_types.specs.Named.{fields}
use Rattle.sail_types.specs.declared.numbers.Index.{Index}
use Rattle.sail_types.specs.declared.table.Field.{Field}
use Rattle.sail_types.specs.declared.values.Value.{Value}
use Rattle.sail_types.proofs.SumNumbers.{some_same}
use Rattle.sail_core.specs.Values.{field_way}
use Rattle.value_indices.specs.declared.indices.Indices.{Indices, out-Indices, roll-Indices}
use Rattle.value_indices.specs.declared.indices.Indices.TheOpen as W
use Rattle.value_indices.specs.declared.indices.Indices.TheOpen.{Indices-F}
use Rattle.value_indices.specs.declared.indices.Indices.TheVariants as I
use Rattle.value_indices.specs.declared.indices.Indices.TheViews.{roll-out-Indices}
use Rattle.value_indices.specs.declared.indices.Reading.{Reading}
use Rattle.value_indices.specs.declared.indices.Reading.TheVariants as R
use Rattle.call_arguments.specs.Holes.{value_has_hole}
use Rattle.expression_forms.specs.Ways.{field_reached, fields_at, fields_of, into_field, is_struct, one_typ, types_in}
use Rattle.expression_forms.specs.declared.ways.Reached.{Reached}
use Rattle.value_laws.specs.Belonging.{Integers, standing}
use Rattle.value_laws.specs.Known.{Agree, Point}
use Rattle.way_laws.specs.Laws.{AreTrue, HasPart}
use Rattle.way_laws.proofs.Fields.{field_there}
use Rattle.fitting_laws.proofs.Holes.{Full, of_full, value_hole_is}
use Rattle.soundness_steps.specs.Works.{Scene, here}
use Rattle.soundness_steps.specs.Values.{Has, IsWanted}
use Rattle.soundness_forms.proofs.Basics.{has_there}
use Rattle.soundness_values.specs.Named.{TypesNarrow}
use Rattle.soundness_values.specs.Narrow.{is_narrow}
use Rattle.soundness_values.proofs.Narrowed.{narrowed}
use Rattle.soundness_parts.proofs.NamedTypes.{field_narrow, type_closes, type_steady}

module _ (q : Scene) (narrow : TypesNarrow q.set.around.types) {n : ℕ} (f : Point n) (i : Indices) (v : Value) (u c : ℕ) where
  -- the part is there, wherever the value is so, and its type has no hole
  abbrev pub IsThere : Reached → Type 0
  IsThere x = ((g : Integers) → Agree f g → AreTrue (standing q.set.past g) x.conditions
      → HasPart q.set.around.types (standing q.set.past g) q.work.types i v x.typ (field_way u c)) × IsWanted q.set q.work f x.typ

  module _ (x : Reached) (h : Has q.set q.work f i v) (whole : value_has_hole i ≡ false) where
    none : None ≡ Some x → IsThere x
    none e = absurd (cc)

    module _ (is : List Index) (rs : List Reading) (rolls : I.Named u is rs ≡ i) (many : length rs ≡ types_in (here q) u) where
      named : Has q.set q.work f (I.Named u is rs) v
      named = subst (λ j. Has q.set q.work f j v) (sym rolls) h

      full : Full rs
      full = sym (value_hole_is i (W.Named u is rs) (I.rolls-Named u is rs ∙ rolls)) ∙ whole

      there : (fs : List Field) (g : Field) → fields q.set.around.types u ≡ Some fs → slice_get fs c ≡ Some g
          → IsThere (record { conditions = []; numbers = []; typ = R.Of g.typ is rs })
      there fs g defined stands =
          let fits : is_narrow (length rs) g.typ ≡ true =
          ap (λ m. is_narrow m g.typ) many ∙ field_narrow (types_in (here q) u) fs c g ((narrowed q.set.around.types narrow).of_fields u fs defined) stands in (
            λ d a met.
                subst (λ j. HasPart q.set.around.types (standing q.set.past d) q.work.types j v (R.Of g.typ is rs) (field_way u c)) rolls
                (field_there q.set.around.types (standing q.set.past d) q.work.types u is rs fs defined c g v stands
                (type_closes q.set q.work is rs g.typ fits d) (has_there named d a)),
            (type_steady q.set q.work is rs f u v named g.typ, of_full g.typ is rs full),
          )

      by_field : (fs : List Field) → fields q.set.around.types u ≡ Some fs → (o : Option Field) → slice_get fs c ≡ o
          → field_reached (one_typ o ++ []) is rs ≡ Some x → IsThere x
      by_field fs defined None stands e = none e
      by_field fs defined (Some g) stands e =
          subst IsThere (some_same (record { conditions = []; numbers = []; typ = R.Of g.typ is rs }) x e) (there fs g defined stands)

      by_fields : (o : Option (List Field)) → fields q.set.around.types u ≡ o → field_reached (fields_at (c ∷ []) o) is rs ≡ Some x → IsThere x
      by_fields None defined e = none e
      by_fields (Some fs) defined e = by_field fs defined (slice_get fs c) refl e

    of_struct : (s : ℕ) (is : List Index) (rs : List Reading) → I.Named s is rs ≡ i → (b : Bool) → is_struct (here q) u s rs ≡ b
        → (if b then field_reached (fields_of (here q) u (c ∷ [])) is rs else None) ≡ Some x → IsThere x
    of_struct s is rs rolls false e some = none some
    of_struct s is rs rolls true e some =
        let both = and_parts (nat_eq u s) (nat_eq (length rs) (types_in (here q) u)) e in
        let own : u ≡ s = (Decides-eqb u s).0 both.0 in
        by_fields is rs (ap (λ t. I.Named t is rs) own ∙ rolls) ((Decides-eqb (length rs) (types_in (here q) u)).0 both.1)
        (fields q.set.around.types u) refl some

    by_form : (form : Indices-F Indices Reading) → roll-Indices form ≡ i → into_field (here q) u c form ≡ Some x → IsThere x
    by_form (W.Named s is rs) e some = of_struct s is rs (sym (I.rolls-Named s is rs) ∙ e) (is_struct (here q) u s rs) refl some
    by_form form e some = none some

  -- in a table whose types are narrow
  pub field_is : (x : Reached) → Has q.set q.work f i v → value_has_hole i ≡ false → into_field (here q) u c (out-Indices i) ≡ Some x → IsThere x
  field_is x h whole e = by_form x h whole (out-Indices i) (roll-out-Indices i) e
