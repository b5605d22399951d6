-- What is kept of each form of a value and a type, of what the code has in hand.
use Rattle.std.proofs.Common.{◌≡◌, ℕ, Bool, false, List, length, map, sym, ap, ◌∙◌}
use Rattle.std.proofs.lemmas.List.{length-map}
use Rattle.sail_types.specs.declared.numbers.Con.{Con}
use Rattle.sail_types.specs.declared.numbers.Index.{Index}
use Rattle.sail_types.specs.declared.numbers.Num.{Num}
use Rattle.sail_types.specs.declared.shapes.Shape.{Shape}
use Rattle.sail_types.specs.declared.table.Types.{Types}
use Rattle.sail_types.specs.declared.types.Typ.{Typ}
use Rattle.value_indices.specs.declared.indices.Indices.{Indices, roll-Indices}
use Rattle.value_indices.specs.declared.indices.Indices.TheFolds.{fold-roll-Indices, fold-roll-Reading, map-Indices, map-Reading}
use Rattle.value_indices.specs.declared.indices.Indices.TheOpen as W
use Rattle.value_indices.specs.declared.indices.Indices.TheOpen.{Indices-F, Reading-F}
use Rattle.value_indices.specs.declared.indices.Indices.TheVariants as I
use Rattle.value_indices.specs.declared.indices.Reading.{Reading, roll-Reading}
use Rattle.value_indices.specs.declared.indices.Reading.TheVariants as R
use Rattle.value_indices.specs.Steps.{bind, give}
use Rattle.wide_types.specs.Widening.{Keep, KeepIndices, each_kept, item_shape, kept_each, kept_indices, kept_integer, kept_num, kept_reading}
use Rattle.wide_types.specs.Widening.{kept_truth, kept_type, kept_value, opened_or_not, part_shapes, variable_shapes, wide_typ, widest_of}

kept_form : (types : Types) (m : ℕ) (x : Indices-F Indices Reading) (i : Indices) (opens : Bool) (s : Shape) → roll-Indices x ≡ i
    → kept_value types m i opens s ≡ kept_indices m (map-Indices Indices Reading KeepIndices (Keep Reading) (kept_value types m) (kept_type types m) x) opens s
unfolding kept_value kept_type
kept_form types m x i opens s rolled =
    ap (λ j. kept_value types m j opens s) (sym rolled)
    ∙ ap (λ (f : KeepIndices). f opens s) (fold-roll-Indices KeepIndices (Keep Reading) (kept_indices m) (kept_reading types m) x)

type_form : (types : Types) (m : ℕ) (x : Reading-F Indices Reading) (r : Reading) (s : Shape) → roll-Reading x ≡ r
    → kept_type types m r s ≡ kept_reading types m (map-Reading Indices Reading KeepIndices (Keep Reading) (kept_value types m) (kept_type types m) x) s
unfolding kept_value kept_type
type_form types m x r s rolled =
    ap (λ q. kept_type types m q s) (sym rolled)
    ∙ ap (λ (f : Keep Reading). f s) (fold-roll-Reading KeepIndices (Keep Reading) (kept_indices m) (kept_reading types m) x)

pub value_never : (types : Types) (m : ℕ) (indices : Indices) (opens : Bool) (s : Shape)
    → indices ≡ I.Never → kept_value types m indices opens s ≡ give I.Never
value_never types m indices opens s is =
    kept_form types m W.Never indices opens s (I.rolls-Never ∙ sym is)

pub value_unit : (types : Types) (m : ℕ) (indices : Indices) (opens : Bool) (s : Shape)
    → indices ≡ I.Unit → kept_value types m indices opens s ≡ give I.Unit
value_unit types m indices opens s is =
    kept_form types m W.Unit indices opens s (I.rolls-Unit ∙ sym is)

pub value_truth : (types : Types) (m : ℕ) (indices : Indices) (c : Con) (opens : Bool) (s : Shape)
    → indices ≡ I.Truth c → kept_value types m indices opens s ≡ kept_truth opens
value_truth types m indices c opens s is =
    kept_form types m (W.Truth c) indices opens s (I.rolls-Truth c ∙ sym is)

pub value_bit : (types : Types) (m : ℕ) (indices : Indices) (opens : Bool) (s : Shape)
    → indices ≡ I.Bit → kept_value types m indices opens s ≡ give I.Bit
value_bit types m indices opens s is =
    kept_form types m W.Bit indices opens s (I.rolls-Bit ∙ sym is)

pub value_bits : (types : Types) (m : ℕ) (indices : Indices) (t : Num) (opens : Bool) (s : Shape)
    → indices ≡ I.Bits t → kept_value types m indices opens s ≡ bind (kept_num m t) (λ u. give (I.Bits u))
value_bits types m indices t opens s is =
    kept_form types m (W.Bits t) indices opens s (I.rolls-Bits t ∙ sym is)

pub value_integer : (types : Types) (m : ℕ) (indices : Indices) (t : Num) (opens : Bool) (s : Shape)
    → indices ≡ I.Integer t → kept_value types m indices opens s ≡ kept_integer opens
value_integer types m indices t opens s is =
    kept_form types m (W.Integer t) indices opens s (I.rolls-Integer t ∙ sym is)

pub value_string : (types : Types) (m : ℕ) (indices : Indices) (opens : Bool) (s : Shape)
    → indices ≡ I.String → kept_value types m indices opens s ≡ give I.String
value_string types m indices opens s is =
    kept_form types m W.String indices opens s (I.rolls-String ∙ sym is)

pub value_list : (types : Types) (m : ℕ) (indices : Indices) (r r' : Reading) (opens : Bool) (s : Shape)
    → indices ≡ I.List r → r' ≡ r → kept_value types m indices opens s ≡ bind (kept_type types m r' (item_shape s)) (λ q. give (I.List q))
value_list types m indices r r' opens s is same =
    kept_form types m (W.List r) indices opens s (I.rolls-List r ∙ sym is)
    ∙ (λ i. bind (kept_type types m (sym same i) (item_shape s)) (λ q. give (I.List q)))

pub value_vector : (types : Types) (m : ℕ) (indices : Indices) (n : Num) (r r' : Reading) (opens : Bool) (s : Shape)
    → indices ≡ I.Vector n r → r' ≡ r
    → kept_value types m indices opens s ≡ bind (kept_num m n) (λ k. bind (kept_type types m r' (item_shape s)) (λ q. give (I.Vector k q)))
value_vector types m indices n r r' opens s is same =
    kept_form types m (W.Vector n r) indices opens s (I.rolls-Vector n r ∙ sym is)
    ∙ (λ i. bind (kept_num m n) (λ k. bind (kept_type types m (sym same i) (item_shape s)) (λ q. give (I.Vector k q))))

pub value_tuple : (types : Types) (m : ℕ) (indices : Indices) (parts parts' : List Indices) (ss : List Shape) (opens : Bool) (s : Shape)
    → indices ≡ I.Tuple parts → parts' ≡ parts → ss ≡ part_shapes s
    → kept_value types m indices opens s ≡ bind (each_kept (opened_or_not opens (map (kept_value types m) parts')) ss) (λ js. give (I.Tuple js))
value_tuple types m indices parts parts' ss opens s is same of_ss =
    kept_form types m (W.Tuple parts) indices opens s (I.rolls-Tuple parts ∙ sym is)
    ∙ (λ i. bind (each_kept (opened_or_not opens (map (kept_value types m) (sym same i))) (sym of_ss i)) (λ js. give (I.Tuple js)))

pub value_named : (types : Types) (m : ℕ) (indices : Indices) (u : ℕ) (numbers numbers' : List Index) (rs rs' : List Reading) (ss : List Shape)
    (opens : Bool) (s : Shape)
    → indices ≡ I.Named u numbers rs → numbers' ≡ numbers → rs' ≡ rs → ss ≡ part_shapes s → kept_value types m indices opens s
    ≡ bind (kept_each m numbers') (λ js. bind (each_kept (map (kept_type types m) rs') ss) (λ qs. give (I.Named u js qs)))
value_named types m indices u numbers numbers' rs rs' ss opens s is same_numbers same_rs of_ss =
    kept_form types m (W.Named u numbers rs) indices opens s (I.rolls-Named u numbers rs ∙ sym is)
    ∙ (λ i. bind (kept_each m (sym same_numbers i))
    (λ js. bind (each_kept (map (kept_type types m) (sym same_rs i)) (sym of_ss i)) (λ qs. give (I.Named u js qs))))

pub value_variable : (types : Types) (m : ℕ) (indices : Indices) (i : ℕ) (opens : Bool) (s : Shape)
    → indices ≡ I.Variable i → kept_value types m indices opens s ≡ give (I.Variable i)
value_variable types m indices i opens s is =
    kept_form types m (W.Variable i) indices opens s (I.rolls-Variable i ∙ sym is)

pub type_of : (types : Types) (m : ℕ) (reading : Reading) (t : Typ) (numbers numbers' : List Index) (rs rs' : List Reading) (ss : List Shape)
    (count : ℕ) (s : Shape)
    → reading ≡ R.Of t numbers rs → numbers' ≡ numbers → rs' ≡ rs → ss ≡ variable_shapes 0 count t s → count ≡ length rs → kept_type types m reading s
    ≡ bind (kept_each m numbers') (λ js. bind (each_kept (map (kept_type types m) rs') ss) (λ qs. give (R.Of (wide_typ t) js qs)))
type_of types m reading t numbers numbers' rs rs' ss count s is same_numbers same_rs of_ss so_many =
    let many : length (map (kept_type types m) rs) ≡ count = length-map rs (kept_type types m) ∙ sym so_many in
    let shapes : variable_shapes 0 (length (map (kept_type types m) rs)) t s ≡ ss = ap (λ n. variable_shapes 0 n t s) many ∙ sym of_ss in
    type_form types m (W.Of t numbers rs) reading s (R.rolls-Of t numbers rs ∙ sym is)
    ∙ (λ i. bind (kept_each m (sym same_numbers i))
    (λ js. bind (each_kept (map (kept_type types m) (sym same_rs i)) (shapes i)) (λ qs. give (R.Of (wide_typ t) js qs))))

pub type_widened : (types : Types) (m : ℕ) (reading : Reading) (inner inner' : Indices) (s : Shape)
    → reading ≡ R.Widened inner → inner' ≡ inner → kept_type types m reading s ≡ bind (kept_value types m inner' false s) (λ j. give (R.Widened j))
type_widened types m reading inner inner' s is same =
    type_form types m (W.Widened inner) reading s (R.rolls-Widened inner ∙ sym is)
    ∙ (λ i. bind (kept_value types m (sym same i) false s) (λ j. give (R.Widened j)))

pub type_parts : (types : Types) (m : ℕ) (reading : Reading) (rs rs' : List Reading) (ss : List Shape) (s : Shape)
    → reading ≡ R.Parts rs → rs' ≡ rs → ss ≡ part_shapes s
    → kept_type types m reading s ≡ bind (each_kept (map (kept_type types m) rs') ss) (λ qs. give (R.Parts qs))
type_parts types m reading rs rs' ss s is same of_ss =
    type_form types m (W.Parts rs) reading s (R.rolls-Parts rs ∙ sym is)
    ∙ (λ i. bind (each_kept (map (kept_type types m) (sym same i)) (sym of_ss i)) (λ qs. give (R.Parts qs)))

pub type_hole : (types : Types) (m : ℕ) (reading : Reading) (s : Shape)
    → reading ≡ R.Hole → kept_type types m reading s ≡ widest_of types s
type_hole types m reading s is =
    type_form types m W.Hole reading s (R.rolls-Hole ∙ sym is)
