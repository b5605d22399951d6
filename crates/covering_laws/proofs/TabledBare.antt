-- What directions of mappings take comes in at its type.
use Rattle.std.proofs.Common.{◌≡◌, ◌∙◌, ap, sym, true, []}
use Rattle.std.proofs.lemmas.Bool.{and_parts}
use Rattle.sail_types.specs.Belongs.{belongs}
use Rattle.sail_types.specs.Numbers.{Positive}
use Rattle.sail_types.specs.declared.table.Types.{Types}
use Rattle.sail_types.specs.declared.types.Typ.{Typ}
use Rattle.sail_types.specs.declared.values.Value.{Value}
use Rattle.value_laws.specs.Belonging.{Integers, closed, standing}
use Rattle.size_values.specs.Numbers.{known_at, nothing_known}
use Rattle.size_values.specs.Sized.{reading_sized}
use Rattle.checked_meaning.specs.Fits.{has_sizes}
use Rattle.checked_meaning.specs.Items.{fixed_typ}
use Rattle.size_laws.proofs.Forms.{of_is}
use Rattle.size_laws.proofs.Opening.{opening_keeps_sizes}
use Rattle.soundness_steps.specs.Works.{nobody}
use Rattle.soundness_steps.specs.Noted.{OpensAs, known}
use Rattle.soundness_calls.specs.Directions.{bare_type}
use Rattle.told_sizes.specs.Passing.{reading_passes}
use Rattle.told_sizes.specs.Exact.{reading_settles}
use Rattle.exact_sizes.specs.Laws.{Stands}
use Rattle.exact_sizes.proofs.Had.{values_fit}
use Rattle.exact_sizes.proofs.Known.{none}
use Rattle.exact_sizes.proofs.Settling.{types_settle}
use Rattle.tabled_cores.specs.Cores.{bare_tabled}

module _ (types : Types) (past : Positive) (t : Typ) (tested : bare_tabled types t ≡ true) where
  abbrev sizes : (reading_passes types 0 (known_at nothing_known) (bare_type t) ≡ true)
      × (reading_settles types 0 (known_at nothing_known) (bare_type t) ≡ true)
  sizes = and_parts (reading_passes types 0 (known_at nothing_known) (bare_type t)) (reading_settles types 0 (known_at nothing_known) (bare_type t)) tested

  nothing_stands_for : (g : Integers) → Stands (known_at nothing_known) g
  nothing_stands_for g i z h = none h

  bare_is : (g : Integers) → fixed_typ types t ≡ reading_sized types [] (known g) (bare_type t)
  bare_is g = sym (of_is types [] (known g) t [] [])

  pub bare_fits : (g : Integers) (v : Value) → belongs types v (closed types (standing past g) [] (bare_type t)) ≡ true
      → has_sizes types v (fixed_typ types t) ≡ true
  bare_fits g v b =
      ap (has_sizes types v) (bare_is g)
      ∙ (values_fit types past g [] [] tt (known_at nothing_known) (nothing_stands_for g)).1 (bare_type t) v sizes.0 b

  pub bare_opens : (g : Integers) (v : Value) → OpensAs types past nobody g (bare_type t) v (fixed_typ types t)
  bare_opens g v = record {
    each = λ tells name facts n had. bare_is g
        ∙ sym (opening_keeps_sizes types [] (known g) (bare_type t)
        (types_settle types [] 0 g (known_at nothing_known) (nothing_stands_for g) (bare_type t) sizes.1) tells name facts n);
  }
