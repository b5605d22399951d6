-- What stands in the types of items and in Type arguments (Sail language manual, "Type variables").
use Rattle.std.specs.List.{list_all}
use Rattle.std.specs.Prelude.{Bool, false, true, ℕ, ◌&&◌}
use Rattle.sail_types.specs.declared.numbers.Index.{Index}
use Rattle.sail_types.specs.declared.numbers.Index.TheVariants as N
use Rattle.value_indices.specs.declared.indices.Indices.{Indices, fold-Indices}
use Rattle.value_indices.specs.declared.indices.Indices.TheOpen as W
use Rattle.value_indices.specs.declared.indices.Indices.TheOpen.{Indices-F, Reading-F}
use Rattle.value_indices.specs.declared.indices.Reading.{Reading, fold-Reading}
use Rattle.wide_types.specs.Widening.{is_below, is_con_below}

-- whether no type inside that of a value is a hole
abbrev pub value_form_whole : Indices-F Bool Bool → Bool
value_form_whole (W.List b) = b
value_form_whole (W.Vector n b) = b
value_form_whole (W.Tuple bs) = list_all (λ b. b) bs
value_form_whole (W.Named u is bs) = list_all (λ b. b) bs
value_form_whole i = true

abbrev pub type_form_whole : Reading-F Bool Bool → Bool
type_form_whole (W.Of t is bs) = list_all (λ b. b) bs
type_form_whole (W.Widened b) = b
type_form_whole (W.Parts bs) = list_all (λ b. b) bs
type_form_whole W.Hole = false

abbrev pub is_value_whole : Indices → Bool
is_value_whole = fold-Indices Bool Bool value_form_whole type_form_whole

abbrev pub is_type_whole : Reading → Bool
is_type_whole = fold-Reading Bool Bool value_form_whole type_form_whole

-- whether the numbers of a value whose types inside are spelled out say all of every item in it: where a type is left as it is, as `{'n, C. T}`,
-- they don't, nor where there is no value of it
abbrev pub value_form_told : Indices-F Bool Bool → Bool
value_form_told W.Never = false
value_form_told (W.List b) = b
value_form_told (W.Vector n b) = b
value_form_told (W.Tuple bs) = list_all (λ b. b) bs
value_form_told (W.Named u is bs) = list_all (λ b. b) bs
value_form_told i = true

abbrev pub type_form_told : Reading-F Bool Bool → Bool
type_form_told (W.Of t is bs) = false
type_form_told (W.Widened b) = b
type_form_told (W.Parts bs) = list_all (λ b. b) bs
type_form_told W.Hole = true

abbrev pub is_value_told : Indices → Bool
is_value_told = fold-Indices Bool Bool value_form_told type_form_told

abbrev pub is_type_told : Reading → Bool
is_type_told = fold-Reading Bool Bool value_form_told type_form_told

-- whether the widened type of a value names variables before one alone; it has any integer, and any truth
abbrev pub is_argument_below : ℕ → Index → Bool
is_argument_below before (N.Number t) = is_below before t
is_argument_below before (N.Truth c) = is_con_below before c

abbrev pub value_form_below : ℕ → Indices-F Bool Bool → Bool
value_form_below before (W.Bits t) = is_below before t
value_form_below before (W.List b) = b
value_form_below before (W.Vector n b) = is_below before n && b
value_form_below before (W.Tuple bs) = list_all (λ b. b) bs
value_form_below before (W.Named u is bs) = list_all (is_argument_below before) is && list_all (λ b. b) bs
value_form_below before i = true

abbrev pub type_form_below : ℕ → Reading-F Bool Bool → Bool
type_form_below before (W.Of t is bs) = list_all (is_argument_below before) is && list_all (λ b. b) bs
type_form_below before (W.Widened b) = b
type_form_below before (W.Parts bs) = list_all (λ b. b) bs
type_form_below before W.Hole = true

abbrev pub is_value_below : ℕ → Indices → Bool
is_value_below before = fold-Indices Bool Bool (value_form_below before) (type_form_below before)

abbrev pub is_type_below : ℕ → Reading → Bool
is_type_below before = fold-Reading Bool Bool (value_form_below before) (type_form_below before)
