-- Indices as they open, variant by variant.
use Rattle.std.proofs.Common.{◌≡◌, sym, ap, ◌∙◌, ℕ, List}
use Rattle.sail_types.specs.declared.numbers.Index.{Index}
use Rattle.sail_types.specs.declared.numbers.Num.{Num}
use Rattle.value_indices.specs.declared.indices.Indices.{Indices, out-Indices, roll-Indices}
use Rattle.value_indices.specs.declared.indices.Indices.TheOpen as W
use Rattle.value_indices.specs.declared.indices.Indices.TheOpen.{Indices-F}
use Rattle.value_indices.specs.declared.indices.Indices.TheVariants as I
use Rattle.value_indices.specs.declared.indices.Indices.TheViews.{out-roll-Indices}
use Rattle.value_indices.specs.declared.indices.Reading.{Reading}

out_of : (i : Indices) (f : Indices-F Indices Reading) → roll-Indices f ≡ i → out-Indices i ≡ f
out_of i f is = ap out-Indices (sym is) ∙ out-roll-Indices f

pub out_never : (i : Indices) → i ≡ I.Never → out-Indices i ≡ W.Never
out_never i is = out_of i W.Never (I.rolls-Never ∙ sym is)

pub out_bits : (i : Indices) (w : Num) → i ≡ I.Bits w → out-Indices i ≡ W.Bits w
out_bits i w is = out_of i (W.Bits w) (I.rolls-Bits w ∙ sym is)

pub out_list : (i : Indices) (r : Reading) → i ≡ I.List r → out-Indices i ≡ W.List r
out_list i r is = out_of i (W.List r) (I.rolls-List r ∙ sym is)

pub out_vector : (i : Indices) (n : Num) (r : Reading) → i ≡ I.Vector n r → out-Indices i ≡ W.Vector n r
out_vector i n r is = out_of i (W.Vector n r) (I.rolls-Vector n r ∙ sym is)

pub out_tuple : (i : Indices) (parts : List Indices) → i ≡ I.Tuple parts → out-Indices i ≡ W.Tuple parts
out_tuple i parts is = out_of i (W.Tuple parts) (I.rolls-Tuple parts ∙ sym is)

pub out_named : (i : Indices) (u : ℕ) (ns : List Index) (rs : List Reading) → i ≡ I.Named u ns rs → out-Indices i ≡ W.Named u ns rs
out_named i u ns rs is = out_of i (W.Named u ns rs) (I.rolls-Named u ns rs ∙ sym is)
