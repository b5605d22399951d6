-- Whether a constant belongs to a type is whether its value does.
use Rattle.std.proofs.Common.{◌≡◌, ◌∙◌, ℕ, Bool, List, Option, Some, None, refl, ap}
use Rattle.std.specs.Prelude.{slice_get}
use Rattle.sail_types.specs.declared.values.Value.{Value, Value-F, roll-Value}
use Rattle.sail_types.specs.declared.values.Value.TheFolds.{fold-roll-Value, map-Value}
use Rattle.jib.specs.declared.types.ValueType.{ValueType}
use Rattle.jib.specs.declared.types.ValueType.TheVariants as T
use Rattle.jib.specs.declared.code.Literal.{Literal}
use Rattle.jib.specs.declared.code.Literal.TheVariants as L
use Rattle.jib.specs.Values.{Asked, has, is_of}
use Rattle.jib.specs.Typing.{literal_some}
use Rattle.jib.specs.laws.Ends.{ConstantsBelong}
use Rattle.sail_types.specs.declared.values.Value.TheOpen as W

-- a constant's value, opened
abbrev opened : Literal → Value-F Asked
opened L.Unit = W.Unit
opened (L.Integer z) = W.Integer z
opened (L.Truth b) = W.Truth b
opened (L.Bit b) = W.Bit b
opened (L.Bits bits) = W.Bits bits
opened (L.String text) = W.String text
opened (L.Member i k) = W.Member i k

by_typ : (l : Literal) (o : Option ValueType) → is_of (opened l) o ≡ literal_some o l
by_typ l None = refl
by_typ L.Unit (Some T.Unit) = refl
by_typ L.Unit (Some t) = refl
by_typ (L.Integer z) (Some T.Integer) = refl
by_typ (L.Integer z) (Some t) = refl
by_typ (L.Truth b) (Some T.Truth) = refl
by_typ (L.Truth b) (Some t) = refl
by_typ (L.Bit b) (Some T.Bit) = refl
by_typ (L.Bit b) (Some t) = refl
by_typ (L.Bits bits) (Some (T.Bits w)) = refl
by_typ (L.Bits bits) (Some t) = refl
by_typ (L.String text) (Some T.String) = refl
by_typ (L.String text) (Some t) = refl
by_typ (L.Member i k) (Some (T.Enum j n)) = refl
by_typ (L.Member i k) (Some t) = refl

abbrev told : List ValueType → Value-F Asked → ℕ → Bool
told ts v k = is_of v (slice_get ts k)

-- what a value of this form is asked
unrolled : (ts : List ValueType) (form : Value-F Value) (k : ℕ) → has ts (roll-Value form) k ≡ told ts (map-Value Value Asked (has ts) form) k
unrolled ts form k = ap (λ f. f k) (fold-roll-Value Asked (told ts) form)

pub constants_belong : ConstantsBelong
unfolding roll-Value denote.Hole.Carrier.roll
constants_belong ts L.Unit k = unrolled ts W.Unit k ∙ by_typ L.Unit (slice_get ts k)
constants_belong ts (L.Integer z) k = unrolled ts (W.Integer z) k ∙ by_typ (L.Integer z) (slice_get ts k)
constants_belong ts (L.Truth b) k = unrolled ts (W.Truth b) k ∙ by_typ (L.Truth b) (slice_get ts k)
constants_belong ts (L.Bit b) k = unrolled ts (W.Bit b) k ∙ by_typ (L.Bit b) (slice_get ts k)
constants_belong ts (L.Bits bits) k = unrolled ts (W.Bits bits) k ∙ by_typ (L.Bits bits) (slice_get ts k)
constants_belong ts (L.String text) k = unrolled ts (W.String text) k ∙ by_typ (L.String text) (slice_get ts k)
constants_belong ts (L.Member i j) k = unrolled ts (W.Member i j) k ∙ by_typ (L.Member i j) (slice_get ts k)
