-- Which types the operands and the target of an operation have.
use Rattle.std.specs.Prelude.{ℕ, ◌+◌, ◌&&◌, ◌||◌, nat_eq, Bool, true, false, List, [], ◌∷◌, Option, Some, None, slice_get, length}
use Rattle.sail_types.specs.declared.rows.Row.{Row}
use Rattle.sail_types.specs.declared.rows.Row.TheVariants as B
use Rattle.jib.specs.declared.types.ValueType.{ValueType}
use Rattle.jib.specs.declared.types.ValueType.TheVariants as T
use Rattle.jib.specs.declared.types.Sort.{Sort}
use Rattle.jib.specs.declared.types.Sort.TheVariants as S
use Rattle.jib.specs.declared.code.Source.{Source}
use Rattle.jib.specs.declared.code.Operation.{Operation}
use Rattle.jib.specs.declared.code.Operation.TheVariants as O
use Rattle.jib.specs.declared.code.Function.{Function}
use Rattle.jib.specs.declared.code.Module.{Module}
use Rattle.jib.specs.Sorts.{is_comparable, takes, gives}
use Rattle.jib.specs.Typing.{same, typ_at, sort_at, is_sort, part_typ, payload_typ, is_item, source_typ, operand_typ}

-- what holds of each item and its place, counted from n
abbrev pub each : {A : Type 0} → (ℕ → A → Bool) → ℕ → List A → Bool
each p n [] = true
each p n (x ∷ xs) = p n x && each p (n + 1) xs

-- ---- builtins

abbrev pub has_sort : Module → Option ℕ → Option Sort → Bool
has_sort m o None = false
has_sort m o (Some s) = is_sort m o s

-- the source has the sort of its place
abbrev pub is_taken : Module → Function → List Sort → ℕ → Source → Bool
is_taken m f sorts k a = has_sort m (source_typ m f a) (slice_get sorts k)

-- as many sources as sorts, each of its sort
abbrev pub all_taken : Module → Function → List Sort → List Source → Bool
all_taken m f sorts rs = nat_eq (length rs) (length sorts) && each (is_taken m f sorts) 0 rs

abbrev pub some_comparable : Option Sort → Bool
some_comparable None = false
some_comparable (Some s) = is_comparable s

-- two operands of one sort, which can be compared
abbrev pub compared : Module → Option ℕ → Option ℕ → Bool
compared m a b = some_comparable (sort_at m a) && has_sort m b (sort_at m a)

abbrev pub builtin_typed : Module → Function → Row → List Source → Option ℕ → Bool
builtin_typed m f B.Eq rs t = nat_eq (length rs) 2 && compared m (operand_typ m f rs 0) (operand_typ m f rs 1) && is_sort m t S.Truth
builtin_typed m f B.Neq rs t = nat_eq (length rs) 2 && compared m (operand_typ m f rs 0) (operand_typ m f rs 1) && is_sort m t S.Truth
builtin_typed m f B.Length rs t =
    nat_eq (length rs) 1 && (is_sort m (operand_typ m f rs 0) S.Bits || is_sort m (operand_typ m f rs 0) S.Vector) && is_sort m t S.Integer
builtin_typed m f B.VectorInit rs t =
    nat_eq (length rs) 2 && is_sort m (operand_typ m f rs 0) S.Integer && is_sort m t S.Vector && is_item m (operand_typ m f rs 1) t
builtin_typed m f row rs t = all_taken m f (takes row) rs && is_sort m t (gives row)

-- ---- parts

-- the source has the type of its place
abbrev pub is_given : Module → Function → List ℕ → ℕ → Source → Bool
is_given m f ts k a = same (source_typ m f a) (slice_get ts k)

-- as many sources as types, each of its type
abbrev pub all_given : Module → Function → List ℕ → List Source → Bool
all_given m f ts rs = nat_eq (length rs) (length ts) && each (is_given m f ts) 0 rs

-- each source has this type
abbrev pub all_of : Module → Function → ℕ → List Source → Bool
all_of m f t rs = each (λ k a. same (source_typ m f a) (Some t)) 0 rs

-- the sources make a value of this type: a tuple's parts, a struct's fields, a vector's or a list's items
abbrev pub makes : Module → Function → List Source → ValueType → Bool
makes m f rs (T.Tuple ts) = all_given m f ts rs
makes m f rs (T.Struct i ts) = all_given m f ts rs
makes m f rs (T.Vector n t) = nat_eq (length rs) n && all_of m f t rs
makes m f rs (T.List t) = all_of m f t rs
makes m f rs t = false

abbrev pub some_makes : Module → Function → List Source → Option ValueType → Bool
some_makes m f rs None = false
some_makes m f rs (Some t) = makes m f rs t

-- both have the same sort
abbrev pub alike : Module → Option ℕ → Option ℕ → Bool
alike m a b = has_sort m a (sort_at m b)

-- two integers are its second and third operand
abbrev pub between : Module → Function → List Source → Bool
between m f rs = is_sort m (operand_typ m f rs 1) S.Integer && is_sort m (operand_typ m f rs 2) S.Integer

abbrev pub is_there : Option ℕ → Bool
is_there None = false
is_there (Some t) = true

-- each source is there
abbrev pub all_there : Module → Function → List Source → Bool
all_there m f rs = each (λ k a. is_there (source_typ m f a)) 0 rs

-- the operands have the types that the operation takes, and the target has the type t, which it gives
abbrev pub operation_typed : Module → Function → Operation → List Source → Option ℕ → Bool
operation_typed m f (O.Builtin row) rs t = builtin_typed m f row rs t
operation_typed m f O.Same rs t = nat_eq (length rs) 1 && alike m (operand_typ m f rs 0) t
operation_typed m f O.Build rs t = some_makes m f rs (typ_at m t)
operation_typed m f (O.Construct k) rs t = nat_eq (length rs) 1 && same (operand_typ m f rs 0) (payload_typ m t k)
operation_typed m f (O.Field k) rs t = nat_eq (length rs) 1 && same t (part_typ m (operand_typ m f rs 0) k)
operation_typed m f (O.WithField k) rs t = nat_eq (length rs) 2 && same (operand_typ m f rs 0) t && same (operand_typ m f rs 1) (part_typ m t k)
operation_typed m f O.Item rs t = nat_eq (length rs) 2 && is_item m t (operand_typ m f rs 0) && is_sort m (operand_typ m f rs 1) S.Integer
operation_typed m f O.WithItem rs t =
    nat_eq (length rs) 3 && same (operand_typ m f rs 0) t && is_sort m (operand_typ m f rs 1) S.Integer && is_item m (operand_typ m f rs 2) t
operation_typed m f O.Slice rs t = nat_eq (length rs) 3 && is_sort m (operand_typ m f rs 0) S.Bits && between m f rs && is_sort m t S.Bits
operation_typed m f O.WithSlice rs t =
    nat_eq (length rs) 4 && same (operand_typ m f rs 0) t && between m f rs && is_sort m (operand_typ m f rs 3) S.Bits && is_sort m t S.Bits
operation_typed m f O.Cons rs t =
    nat_eq (length rs) 2 && is_item m (operand_typ m f rs 0) t && same (operand_typ m f rs 1) t && is_sort m t S.List
operation_typed m f O.Rest rs t = nat_eq (length rs) 1 && same (operand_typ m f rs 0) t && is_sort m t S.List
operation_typed m f O.IsEmpty rs t = nat_eq (length rs) 1 && is_sort m (operand_typ m f rs 0) S.List && is_sort m t S.Truth
