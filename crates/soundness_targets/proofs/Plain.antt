-- What targets are: names, parts of names, calls, parts of calls, tuples, and what the walk refuses.
use Rattle.std.specs.List.{list_all}
use Rattle.std.specs.Prelude.{Bool, true, false, if◌then◌else◌, List, [], ◌∷◌}
use Rattle.sail_core.specs.declared.targets.Suffix.{Suffix}
use Rattle.sail_core.specs.declared.targets.Target.{Target, fold-Target}
use Rattle.sail_core.specs.declared.targets.TargetKind.{TargetKind}
use Rattle.sail_core.specs.declared.targets.TargetKind.TheVariants as T

-- a `var` or a register, a part of one, a call, a part of one, a tuple without parts, any tuple, or a target that the walk refuses
pub data Shape : Type 0 where
  a_name : Shape
  a_part : Shape
  a_call : Shape
  a_late : Shape
  a_tuple : Shape
  a_parted : Shape
  a_wrong : Shape

-- what a tuple of targets without parts in it may have as a part
abbrev pub is_member : Shape → Bool
is_member a_name = true
is_member a_call = true
is_member a_tuple = true
is_member a_part = false
is_member a_late = false
is_member a_parted = false
is_member a_wrong = false

-- and what any may have
abbrev pub is_item : Shape → Bool
is_item a_part = true
is_item a_late = true
is_item a_parted = true
is_item form = is_member form

abbrev pub is_wrong : Shape → Bool
is_wrong a_wrong = true
is_wrong form = false

-- of a call a part has a suffix; of a part and of a tuple there is none
abbrev pub late_form : List Suffix → Shape
late_form [] = a_wrong
late_form (s ∷ ss) = a_late

abbrev pub part_form : List Suffix → Shape → Shape
part_form ss a_name = a_part
part_form ss a_call = late_form ss
part_form ss form = a_wrong

abbrev pub tuple_form : List Shape → Shape
tuple_form shapes = if list_all is_member shapes then a_tuple else if list_all is_item shapes then a_parted else a_wrong

abbrev pub shape_form : TargetKind → List Shape → Shape
shape_form (T.Variable name) [] = a_name
shape_form (T.Register i) [] = a_name
shape_form (T.Part suffixes) (form ∷ []) = part_form suffixes form
shape_form (T.Call count reader writer) [] = a_call
shape_form T.Tuple shapes = tuple_form shapes
shape_form kind shapes = a_wrong

abbrev pub shape : Target → Shape
shape = fold-Target Shape (λ t. shape_form t.kind t.parts)
