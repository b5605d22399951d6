-- A value of the widened type of some indices is opened to indices of the same type under constants.
use Rattle.std.proofs.Common.{◌≡◌, ℕ, false, List, [], ◌∷◌, map, refl, sym, ap, ◌∙◌, subst}
use Rattle.value_laws.proofs.Basics.{fronts}
use Rattle.sail_types.specs.Sums.{variable}
use Rattle.sail_types.specs.declared.numbers.Con.TheVariants as C
use Rattle.sail_types.specs.declared.table.Types.{Types}
use Rattle.value_indices.specs.declared.indices.Indices.{Indices, roll-Indices}
use Rattle.value_indices.specs.declared.indices.Indices.TheFolds.{para-roll-Indices, map-Indices, ind-Indices}
use Rattle.value_indices.specs.declared.indices.Indices.TheOpen as W
use Rattle.value_indices.specs.declared.indices.Indices.TheOpen.{Indices-F, Reading-F}
use Rattle.value_indices.specs.declared.indices.Indices.TheVariants as I
use Rattle.value_indices.specs.declared.indices.Naming.{Naming}
use Rattle.value_indices.specs.declared.indices.Naming.TheVariants as M
use Rattle.value_indices.specs.declared.indices.Reading.{Reading}
use Rattle.value_indices.specs.declared.notes.Fact.{Fact}
use Rattle.value_indices.specs.Steps.{Walk, assume, bind, give}
use Rattle.value_indices.specs.Opening.{any_integer, any_truth, between, bits_of, fresh_for, integer_between, namings_of, opening, parts_opened, vector_of}
use Rattle.value_indices.specs.Opening.{reading_opened, wide_opening, widened_opened, Opening}
use Rattle.size_values.specs.declared.constants.Constant.{Constant}
use Rattle.size_values.specs.declared.sized.Sized.{Sized}
use Rattle.size_values.specs.declared.sized.Sized.TheVariants as S
use Rattle.size_values.specs.Numbers.{index_under}
use Rattle.size_values.specs.Sized.{indices_sized, named_numbers, reading_sized, value_sized}
use Rattle.size_laws.proofs.Forms.{in_indices, value_is}

module _ (types : Types) (own : List Sized) (of : ℕ → Constant) where
  WideKeeps : Indices → Type 0
  WideKeeps i = (name : Naming) (facts : List Fact) (n : ℕ)
      → value_sized types own of (wide_opening i false name facts n).value ≡ value_sized types own of i

  abbrev Kept : Type 0
  Kept = (i : Indices) × WideKeeps i

  abbrev Inside : Type 0
  Inside = (r : Reading) × Unit {0}

  abbrev bare : List Kept → List Indices
  bare ys = map (λ (y : Kept). y.0) ys

  abbrev indices_of : Indices-F Kept Inside → Indices-F Indices Reading
  indices_of y = map-Indices Kept Inside Indices Reading (λ p. p.0) (λ p. p.0) y

  abbrev wide_form : Indices-F Indices Reading → Naming → Walk Indices
  wide_form x name =
      widened_opened (map-Indices Indices Reading (Indices × Opening) (Reading × Opening) (λ i. (i, wide_opening i)) (λ r. (r, opening r)) x) false name

  widens_form : (x : Indices-F Indices Reading) (name : Naming) → wide_opening (roll-Indices x) false name ≡ wide_form x name
  unfolding wide_opening opening
  widens_form x name = ap (λ o. o false name) (para-roll-Indices Opening Opening widened_opened reading_opened x)

  parts_keep : (ys : List Kept) (ns : List Naming) (facts : List Fact) (n : ℕ)
      → map (value_sized types own of)
      (parts_opened false (map (λ (p : Indices × Opening). p.1) (map (λ i. (i, wide_opening i)) (bare ys))) ns facts n).value
      ≡ map (value_sized types own of) (bare ys)
  unfolding WideKeeps bind give
  parts_keep [] ns facts n = refl
  parts_keep (y ∷ ys) [] facts n =
      let w = wide_opening y.0 false M.Unnamed facts n in
      λ j. y.1 M.Unnamed facts n j ∷ parts_keep ys [] w.facts w.next j
  parts_keep (y ∷ ys) (name ∷ ns) facts n =
      let w = wide_opening y.0 false name facts n in
      λ j. y.1 name facts n j ∷ parts_keep ys ns w.facts w.next j

  form_keeps : (y : Indices-F Kept Inside) (name : Naming) (facts : List Fact) (n : ℕ)
      → value_sized types own of (wide_form (indices_of y) name facts n).value ≡ indices_sized types own of (in_indices types own of (indices_of y))
  unfolding any_truth any_integer integer_between bits_of vector_of between bind assume give
  form_keeps W.Never name facts n = value_is types own of I.Never W.Never I.rolls-Never
  form_keeps W.Unit name facts n = value_is types own of I.Unit W.Unit I.rolls-Unit
  form_keeps (W.Truth c) name facts n =
      let d = C.Holds (fresh_for name facts n).value in
      value_is types own of (I.Truth d) (W.Truth d) (I.rolls-Truth d)
  form_keeps W.Bit name facts n = value_is types own of I.Bit W.Bit I.rolls-Bit
  form_keeps (W.Bits t) name facts n = value_is types own of (I.Bits t) (W.Bits t) (I.rolls-Bits t)
  form_keeps (W.Integer t) name facts n =
      let u = variable (fresh_for name facts n).value in
      value_is types own of (I.Integer u) (W.Integer u) (I.rolls-Integer u)
  form_keeps W.String name facts n = value_is types own of I.String W.String I.rolls-String
  form_keeps (W.List r) name facts n = value_is types own of (I.List r.0) (W.List r.0) (I.rolls-List r.0)
  form_keeps (W.Vector t r) name facts n = value_is types own of (I.Vector t r.0) (W.Vector t r.0) (I.rolls-Vector t r.0)
  form_keeps (W.Tuple ys) name facts n =
      let vs : List Indices =
      (parts_opened false (map (λ (p : Indices × Opening). p.1) (map (λ i. (i, wide_opening i)) (bare ys))) (namings_of name) facts n).value in
      value_is types own of (I.Tuple vs) (W.Tuple vs) (I.rolls-Tuple vs) ∙ ap S.Tuple (parts_keep ys (namings_of name) facts n)
  form_keeps (W.Named u is rs) name facts n =
      let qs : List Reading = map (λ (r : Inside). r.0) rs in
      let back : List Reading = map (λ (r : Reading × Opening). r.0) (map (λ r. (r, opening r)) qs) in
      value_is types own of (I.Named u is back) (W.Named u is back) (I.rolls-Named u is back)
      ∙ ap (λ (ps : List Reading). S.Named u (named_numbers types u (map (index_under of) is)) (map (reading_sized types own of) ps)) (fronts opening qs)
  form_keeps (W.Variable i) name facts n = value_is types own of (I.Variable i) (W.Variable i) (I.rolls-Variable i)

  rolled_keeps : (y : Indices-F Kept Inside) → WideKeeps (roll-Indices (indices_of y))
  unfolding WideKeeps
  rolled_keeps y name facts n =
      ap (λ (w : Walk Indices). value_sized types own of (w facts n).value) (widens_form (indices_of y) name)
      ∙ form_keeps y name facts n
      ∙ sym (value_is types own of (roll-Indices (indices_of y)) (indices_of y) refl)

  all_keep : (i : Indices) → WideKeeps i
  all_keep = ind-Indices WideKeeps (λ r. Unit {0}) (λ e y same_form. subst (λ d. WideKeeps (roll-Indices d)) same_form (rolled_keeps y))
      (λ e y same_form. tt)

  pub wide_keeps : (i : Indices) (name : Naming) (facts : List Fact) (n : ℕ)
      → value_sized types own of (wide_opening i false name facts n).value ≡ value_sized types own of i
  unfolding WideKeeps
  wide_keeps i name facts n = all_keep i name facts n
