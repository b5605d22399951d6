-- Types that nothing belongs to, as their numbers show: a negative width, or a range whose end is before its begin (Sail language
-- manual, "Numeric types" and "Vector types").
use Rattle.std.specs.Prelude.{pos, Bool, false, ◌&&◌, int_lt}
use Rattle.std.specs.List.{list_any}
use Rattle.sail_types.specs.Sums.{is_constant, constant_of}
use Rattle.sail_types.specs.declared.numbers.Num.{Num}
use Rattle.sail_types.specs.declared.types.Typ.{Typ, Typ-F, fold-Typ}
use Rattle.sail_types.specs.declared.types.Typ.TheOpen as T
use Rattle.type_arguments.specs.declared.normal.Normal.{Normal}
use Rattle.type_arguments.specs.declared.normal.Normal.TheVariants as N

-- a constant below 0
abbrev pub is_negative : Num → Bool
is_negative n = is_constant n && int_lt (constant_of n) (pos 0)

-- constant ends, the second below the first
abbrev pub is_empty_range : Num → Num → Bool
is_empty_range low high = is_constant low && (is_constant high && int_lt (constant_of high) (constant_of low))

abbrev pub form_is_void : Typ-F Bool → Bool
form_is_void (T.Bits n) = is_negative n
form_is_void (T.Range low high) = is_empty_range low high
form_is_void (T.List part) = part
form_is_void (T.Vector n part) = part
form_is_void (T.Tuple parts) = list_any (λ part. part) parts
form_is_void (T.Named i indices parts) = list_any (λ part. part) parts
form_is_void (T.Exists name c part) = part
form_is_void form = false

-- whether such a width or range stands anywhere in a type
abbrev pub is_void : Typ → Bool
is_void = fold-Typ Bool form_is_void

-- whether it stands in what a type's text stands for
abbrev pub is_void_normal : Normal → Bool
is_void_normal (N.Typ t) = is_void t
is_void_normal normal = false
