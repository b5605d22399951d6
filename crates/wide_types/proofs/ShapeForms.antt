-- The widest type of each form of a shape, of what the code has in hand.
use Rattle.std.proofs.Common.{◌≡◌, ℕ, List, map, sym, ap, ◌∙◌, true}
use Rattle.std.specs.Prelude.{slice_get}
use Rattle.sail_types.specs.Sums.{variable, zero_num}
use Rattle.sail_types.specs.declared.numbers.Con.TheVariants as C
use Rattle.sail_types.specs.declared.shapes.Shape.{Shape, fold-roll-Shape}
use Rattle.sail_types.specs.declared.shapes.Shape.TheOpen as S
use Rattle.sail_types.specs.declared.shapes.Shape.TheVariants as V
use Rattle.sail_types.specs.declared.table.Parameter.{Parameter}
use Rattle.sail_types.specs.declared.table.Types.{Types}
use Rattle.value_indices.specs.declared.indices.Indices.TheVariants as I
use Rattle.value_indices.specs.declared.indices.Reading.{Reading}
use Rattle.value_indices.specs.declared.indices.Reading.TheVariants as R
use Rattle.value_indices.specs.Steps.{Walk, bind, give, fresh}
use Rattle.wide_types.specs.Widening.{fresh_indices, in_turn, parameters_of, widest_form, widest_of}

pub widest_unit : (types : Types) (shape : Shape)
    → shape ≡ V.Unit → widest_of types shape ≡ give (R.Widened I.Unit)
unfolding widest_of
widest_unit types shape is =
    ap (widest_of types) (is ∙ sym V.rolls-Unit) ∙ fold-roll-Shape (Walk Reading) (widest_form types) S.Unit

pub widest_bool : (types : Types) (shape : Shape)
    → shape ≡ V.Bool → widest_of types shape ≡ give (R.Widened (I.Truth (C.Truth true)))
unfolding widest_of
widest_bool types shape is =
    ap (widest_of types) (is ∙ sym V.rolls-Bool) ∙ fold-roll-Shape (Walk Reading) (widest_form types) S.Bool

pub widest_bit : (types : Types) (shape : Shape)
    → shape ≡ V.Bit → widest_of types shape ≡ give (R.Widened I.Bit)
unfolding widest_of
widest_bit types shape is =
    ap (widest_of types) (is ∙ sym V.rolls-Bit) ∙ fold-roll-Shape (Walk Reading) (widest_form types) S.Bit

pub widest_bits : (types : Types) (shape : Shape)
    → shape ≡ V.Bits → widest_of types shape ≡ bind fresh (λ v. give (R.Widened (I.Bits (variable v))))
unfolding widest_of
widest_bits types shape is =
    ap (widest_of types) (is ∙ sym V.rolls-Bits) ∙ fold-roll-Shape (Walk Reading) (widest_form types) S.Bits

pub widest_int : (types : Types) (shape : Shape)
    → shape ≡ V.Int → widest_of types shape ≡ give (R.Widened (I.Integer zero_num))
unfolding widest_of
widest_int types shape is =
    ap (widest_of types) (is ∙ sym V.rolls-Int) ∙ fold-roll-Shape (Walk Reading) (widest_form types) S.Int

pub widest_string : (types : Types) (shape : Shape)
    → shape ≡ V.String → widest_of types shape ≡ give (R.Widened I.String)
unfolding widest_of
widest_string types shape is =
    ap (widest_of types) (is ∙ sym V.rolls-String) ∙ fold-roll-Shape (Walk Reading) (widest_form types) S.String

pub widest_list : (types : Types) (shape : Shape) (s s' : Shape)
    → shape ≡ V.List s → s' ≡ s → widest_of types shape ≡ bind (widest_of types s') (λ r. give (R.Widened (I.List r)))
unfolding widest_of
widest_list types shape s s' is same =
    ap (widest_of types) (is ∙ sym (V.rolls-List s)) ∙ fold-roll-Shape (Walk Reading) (widest_form types) (S.List s)
    ∙ (λ i. bind (widest_of types (sym same i)) (λ r. give (R.Widened (I.List r))))

pub widest_vector : (types : Types) (shape : Shape) (s s' : Shape)
    → shape ≡ V.Vector s → s' ≡ s → widest_of types shape ≡ bind fresh (λ v. bind (widest_of types s') (λ r. give (R.Widened (I.Vector (variable v) r))))
unfolding widest_of
widest_vector types shape s s' is same =
    ap (widest_of types) (is ∙ sym (V.rolls-Vector s)) ∙ fold-roll-Shape (Walk Reading) (widest_form types) (S.Vector s)
    ∙ (λ i. bind fresh (λ v. bind (widest_of types (sym same i)) (λ r. give (R.Widened (I.Vector (variable v) r)))))

pub widest_tuple : (types : Types) (shape : Shape) (ss ss' : List Shape)
    → shape ≡ V.Tuple ss → ss' ≡ ss → widest_of types shape ≡ bind (in_turn (map (widest_of types) ss')) (λ rs. give (R.Parts rs))
unfolding widest_of
widest_tuple types shape ss ss' is same =
    ap (widest_of types) (is ∙ sym (V.rolls-Tuple ss)) ∙ fold-roll-Shape (Walk Reading) (widest_form types) (S.Tuple ss)
    ∙ (λ i. bind (in_turn (map (widest_of types) (sym same i))) (λ rs. give (R.Parts rs)))

pub widest_named : (types : Types) (shape : Shape) (u : ℕ) (ss ss' : List Shape) (ps : List Parameter)
    → shape ≡ V.Named u ss → ss' ≡ ss → ps ≡ parameters_of (slice_get types.definitions u)
    → widest_of types shape ≡ bind (fresh_indices ps) (λ is. bind (in_turn (map (widest_of types) ss')) (λ rs. give (R.Widened (I.Named u is rs))))
unfolding widest_of
widest_named types shape u ss ss' ps is same of_ps =
    ap (widest_of types) (is ∙ sym (V.rolls-Named u ss)) ∙ fold-roll-Shape (Walk Reading) (widest_form types) (S.Named u ss)
    ∙ (λ i. bind (fresh_indices (sym of_ps i)) (λ is. bind (in_turn (map (widest_of types) (sym same i))) (λ rs. give (R.Widened (I.Named u is rs)))))

pub widest_variable : (types : Types) (shape : Shape) (i : ℕ)
    → shape ≡ V.Variable i → widest_of types shape ≡ give (R.Widened (I.Variable i))
unfolding widest_of
widest_variable types shape i is =
    ap (widest_of types) (is ∙ sym (V.rolls-Variable i)) ∙ fold-roll-Shape (Walk Reading) (widest_form types) (S.Variable i)

pub widest_hole : (types : Types) (shape : Shape)
    → shape ≡ V.Hole → widest_of types shape ≡ give R.Hole
unfolding widest_of
widest_hole types shape is =
    ap (widest_of types) (is ∙ sym V.rolls-Hole) ∙ fold-roll-Shape (Walk Reading) (widest_form types) S.Hole

pub widest_never : (types : Types) (shape : Shape)
    → shape ≡ V.Never → widest_of types shape ≡ give R.Hole
unfolding widest_of
widest_never types shape is =
    ap (widest_of types) (is ∙ sym V.rolls-Never) ∙ fold-roll-Shape (Walk Reading) (widest_form types) S.Never
