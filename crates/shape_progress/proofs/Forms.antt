-- Values of a shape have its form, and values of a form have its shape.
use Rattle.std.proofs.Common.{◌≡◌, ℤ, List, ap, sym, ◌∙◌, refl, Bool, true, false, not, ◌||◌}
use Rattle.sail_types.specs.Shapes.{fits, form_fits, put, Asked}
use Rattle.sail_types.specs.declared.shapes.Shape.{Shape, Shape-F, out-Shape}
use Rattle.sail_types.specs.declared.shapes.Shape.TheOpen as S
use Rattle.sail_types.specs.declared.shapes.Shape.TheVariants as V
use Rattle.sail_types.specs.declared.shapes.Shape.TheViews.{out-roll-Shape}
use Rattle.sail_types.specs.declared.table.Types.{Types}
use Rattle.sail_types.specs.declared.values.Value.{Value, Value-F, out-Value}
use Rattle.sail_types.specs.declared.values.Value.TheFolds.{map-Value}
use Rattle.sail_types.specs.declared.values.Value.TheOpen as W
use Rattle.sail_types.specs.declared.values.Value.TheVariants as Val
use Rattle.shape_joins.proofs.Order.{no}
use Rattle.shape_meanings.specs.Whole.{Choice}
use Rattle.shape_meanings.specs.Keeping.{Fits}
use Rattle.shape_meanings.proofs.Groups.{AllFit}
use Rattle.shape_meanings.proofs.Matching.{form_given, leaf_out}
use Rattle.shape_meanings.proofs.Settling.{form_has}
use Rattle.shape_meanings.proofs.Values.{opened_at, out_put}
use Rattle.shape_meanings.proofs.Items.{form_list}

form_integer : (types : Types) (x : Value-F Value) → form_fits types (map-Value Value Asked (fits types) x) S.Int ≡ true → (z : ℤ) × (x ≡ W.Integer z)
form_integer types (W.Integer z) h = (z, refl)
form_integer types x h = no h

pub is_integer : (types : Types) (c : Choice) (v : Value) → Fits types c V.Int v → (z : ℤ) × (out-Value v ≡ W.Integer z)
is_integer types c v h = form_integer types (out-Value v) (form_given types c V.Int S.Int v (leaf_out c S.Int V.Int V.rolls-Int refl) h)

form_truth : (types : Types) (x : Value-F Value) → form_fits types (map-Value Value Asked (fits types) x) S.Bool ≡ true → (b : Bool) × (x ≡ W.Truth b)
form_truth types (W.Truth b) h = (b, refl)
form_truth types x h = no h

pub is_truth : (types : Types) (c : Choice) (v : Value) → Fits types c V.Bool v → (b : Bool) × (out-Value v ≡ W.Truth b)
is_truth types c v h = form_truth types (out-Value v) (form_given types c V.Bool S.Bool v (leaf_out c S.Bool V.Bool V.rolls-Bool refl) h)

form_bit : (types : Types) (x : Value-F Value) → form_fits types (map-Value Value Asked (fits types) x) S.Bit ≡ true → (b : Bool) × (x ≡ W.Bit b)
form_bit types (W.Bit b) h = (b, refl)
form_bit types x h = no h

pub is_bit : (types : Types) (c : Choice) (v : Value) → Fits types c V.Bit v → (b : Bool) × (out-Value v ≡ W.Bit b)
is_bit types c v h = form_bit types (out-Value v) (form_given types c V.Bit S.Bit v (leaf_out c S.Bit V.Bit V.rolls-Bit refl) h)

-- the form of a shape without parts, and with its variables' shapes in their place
pub put_out : (c : Choice) (s : Shape) (x : Shape-F Shape) → out-Shape s ≡ x → out-Shape (put c s) ≡ opened_at c x
put_out c s x is = out_put c s ∙ ap (opened_at c) is

form_bits : (types : Types) (x : Value-F Value) → form_fits types (map-Value Value Asked (fits types) x) S.Bits ≡ true → (bs : List Bool) × (x ≡ W.Bits bs)
form_bits types (W.Bits bs) h = (bs, refl)
form_bits types x h = no h

pub are_bits : (types : Types) (c : Choice) (s : Shape) (v : Value) → out-Shape s ≡ S.Bits → Fits types c s v → (bs : List Bool) × (out-Value v ≡ W.Bits bs)
are_bits types c s v is h = form_bits types (out-Value v) (form_given types c s S.Bits v (put_out c s S.Bits is) h)

form_vector : (types : Types) (x : Value-F Value) (s : Shape) → form_fits types (map-Value Value Asked (fits types) x) (S.Vector s) ≡ true
    → (vs : List Value) × (x ≡ W.Vector vs)
form_vector types (W.Vector vs) s h = (vs, refl)
form_vector types x s h = no h

pub is_vector : (types : Types) (c : Choice) (s t : Shape) (v : Value) → out-Shape s ≡ S.Vector t → Fits types c s v
    → (vs : List Value) × (out-Value v ≡ W.Vector vs)
is_vector types c s t v is h =
    form_vector types (out-Value v) (put c t) (form_given types c s (S.Vector (put c t)) v (put_out c s (S.Vector t) is) h)

pub is_list : (types : Types) (c : Choice) (t : Shape) (v : Value) → Fits types c (V.List t) v
    → (vs : List Value) × (out-Value v ≡ W.List vs) × AllFit types c t vs
is_list types c t v h =
    form_list types (out-Value v) (put c t) (form_given types c (V.List t) (S.List (put c t)) v
    (put_out c (V.List t) (S.List t) (ap out-Shape (sym (V.rolls-List t)) ∙ out-roll-Shape (S.List t))) h)

-- ---- values of these forms

pub unit_fits : (types : Types) (c : Choice) → Fits types c V.Unit Val.Unit
unit_fits types c = form_has types c W.Unit S.Unit Val.Unit V.Unit Val.rolls-Unit V.rolls-Unit refl

pub integer_fits : (types : Types) (c : Choice) (z : ℤ) → Fits types c V.Int (Val.Integer z)
integer_fits types c z = form_has types c (W.Integer z) S.Int (Val.Integer z) V.Int (Val.rolls-Integer z) V.rolls-Int refl

pub truth_fits : (types : Types) (c : Choice) (b : Bool) → Fits types c V.Bool (Val.Truth b)
truth_fits types c b = form_has types c (W.Truth b) S.Bool (Val.Truth b) V.Bool (Val.rolls-Truth b) V.rolls-Bool refl

-- ---- conditions

-- a condition that holds where what it speaks of is there
pub met_of : (a b : Bool) → a ≡ true → (not a || b) ≡ true → b ≡ true
met_of true b is h = h
met_of false b is h = no is
