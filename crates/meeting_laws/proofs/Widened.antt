-- A value of a type, and one that has indices, is of the widened type.
use Rattle.std.proofs.Common.{List, map, refl, sym, ap, ◌∙◌}
use Rattle.sail_types.specs.Belongs.{Reading as Closed, belongs}
use Rattle.sail_types.specs.Numbers.{Assignment, Positive}
use Rattle.sail_types.specs.declared.numbers.Index.{Index}
use Rattle.sail_types.specs.declared.table.Types.{Types}
use Rattle.sail_types.specs.declared.types.Typ.{Typ}
use Rattle.value_indices.specs.declared.indices.Indices.{Indices}
use Rattle.value_indices.specs.declared.indices.Indices.TheOpen as W
use Rattle.value_indices.specs.declared.indices.Reading.{Reading}
use Rattle.value_indices.specs.declared.indices.Reading.TheVariants as R
use Rattle.value_laws.specs.Belonging.{Integers, standing, closeds, types_or_own, meant, closed}
use Rattle.value_laws.proofs.Values.{closed_is}
use Rattle.value_laws.proofs.Arguments.{under_these}
use Rattle.wide_types.specs.Widening.{wide_reading, wide_typ, wide_value, widened_type}
use Rattle.meeting_laws.proofs.Wider.{Wider, EachWider, over_wider, own_wider, wide_typ_wider}
use Rattle.meeting_laws.proofs.Inside.{types_wider, values_wider}

module _ (types : Types) (past : Positive) (own : List Closed) (g : Integers) where
  abbrev mu : Assignment
  mu = standing past g

  abbrev closing_all : List Reading → List Closed
  closing_all rs = map (closed types mu own) rs

  of_widens : (t : Typ) (is : List Index) (rs qs : List Reading) → EachWider types (closing_all rs) (closing_all qs)
      → Wider types (closed types mu own (R.Of t is rs)) (closed types mu own (R.Of (wide_typ t) is qs))
  of_widens t is rs qs larger v k =
      let nu = under_these past g is in
      let cs = types_or_own (closing_all rs) own in
      let ds = types_or_own (closing_all qs) own in
      ap (belongs types v) (closed_is types mu own (R.Of (wide_typ t) is qs) (W.Of (wide_typ t) is qs) (R.rolls-Of (wide_typ t) is qs))
      ∙ over_wider types (wide_typ t) nu cs ds (own_wider types (closing_all rs) (closing_all qs) own larger) v
      (wide_typ_wider types t nu (closeds cs) v
      (sym (ap (belongs types v) (closed_is types mu own (R.Of t is rs) (W.Of t is rs) (R.rolls-Of t is rs))) ∙ k))

  pub type_widens : (r : Reading) → Wider types (closed types mu own r) (closed types mu own (widened_type r))
  type_widens r = types_wider types past own g wide_reading (λ j. refl) (λ ps. refl) refl (λ t is rs qs larger. of_widens t is rs qs larger) r

  pub value_widens : (i : Indices) → Wider types (meant types mu own i).wide (meant types mu own (wide_value i)).wide
  value_widens i = values_wider types past own g wide_reading (λ j. refl) (λ ps. refl) refl (λ t is rs qs larger. of_widens t is rs qs larger) i
