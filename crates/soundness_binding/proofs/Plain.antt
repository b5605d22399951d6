-- A type that names no variable has the same sizes wherever it is read.
use Rattle.std.proofs.Common.{◌≡◌, true, List, [], sym, ◌∙◌}
use Rattle.std.proofs.lemmas.Bool.{and_parts}
use Rattle.sail_types.specs.declared.table.Types.{Types}
use Rattle.sail_types.specs.declared.types.Typ.{Typ}
use Rattle.value_indices.specs.declared.indices.Reading.TheVariants as R
use Rattle.size_values.specs.Sized.{reading_sized}
use Rattle.size_values.specs.declared.sized.Sized.{Sized}
use Rattle.size_laws.specs.Known.{all_numbers}
use Rattle.size_laws.proofs.Forms.{of_is}
use Rattle.call_arguments.specs.Callees.{is_closed, is_numberless_under, is_typeless}
use Rattle.checked_meaning.specs.Items.{fixed_typ}
use Rattle.value_laws.specs.Belonging.{Integers}
use Rattle.hanging_sizes.proofs.Types.{typeless_same}

pub plain_read : (types : Types) (own : List Sized) (g : Integers) (t : Typ) → is_closed t ≡ true
    → fixed_typ types t ≡ reading_sized types own (all_numbers g) (R.Of t [] [])
plain_read types own g t h =
    let k = and_parts (is_numberless_under t 0) (is_typeless t) h in
    typeless_same types [] own t k.1 [] ∙ sym (of_is types own (all_numbers g) t [] [])
