-- A natural number is read from what has its type.
use Rattle.std.proofs.Common.{◌≡◌, ◌∙◌, ap, sym, refl, ℕ, ℤ, pos, negsuc, int_le, true, false, ◌&&◌, [], Some}
use Rattle.std.proofs.lemmas.Bool.{and_parts}
use Rattle.sail_types.specs.Belongs.{Readings as Closeds, belongs, reading}
use Rattle.sail_types.specs.Limits.{is_small}
use Rattle.sail_types.specs.Numbers.{Assignment, number}
use Rattle.sail_types.specs.Sums.{zero_num}
use Rattle.sail_types.specs.declared.types.Typ.{Typ}
use Rattle.sail_types.specs.declared.table.Types.{Types}
use Rattle.sail_types.specs.declared.types.Typ.TheOpen as T
use Rattle.sail_types.specs.declared.types.Typ.TheVariants as U
use Rattle.sail_types.specs.declared.values.Value.{Value, Value-F, out-Value}
use Rattle.sail_types.specs.declared.values.Value.TheOpen as V
use Rattle.sail_types.proofs.Substituted.{number_constant}
use Rattle.sail_core.specs.Run.{Now, goes_on, needs}
use Rattle.sail_core.specs.Values.{form_integer, natural_of}
use Rattle.value_indices.specs.declared.indices.Indices.TheOpen as W
use Rattle.value_indices.specs.declared.indices.Reading.TheVariants as R
use Rattle.value_indices.specs.Opening.{largest_num}
use Rattle.expression_steps.specs.Statements.{natural_type}
use Rattle.value_laws.specs.Belonging.{is_of, standing}
use Rattle.value_laws.proofs.Basics.{no}
use Rattle.value_laws.proofs.Steps.{same}
use Rattle.value_laws.proofs.Values.{belongs_form, closed_is, form_asked}
use Rattle.soundness_steps.specs.Works.{Scene}
use Rattle.sail_core.specs.Making.{natural}
use Rattle.sail_core.specs.Run as Runs
use Rattle.checked_meaning.specs.Items.{Item}
use Rattle.value_laws.specs.Known.{Point}
use Rattle.soundness_calls.specs.Premises.{Results, read_as}

-- ---- its value

none_below : (low : ℤ) → low ≡ pos 0 → (z : ℤ) → int_le low z ≡ true → (i : ℕ) × (z ≡ pos i)
none_below low e (pos i) h = (i, refl)
none_below low e (negsuc i) h = no (sym (ap (λ l. int_le l (negsuc i)) e) ∙ h)

abbrev natural_range : Typ
natural_range = U.Range zero_num largest_num

-- a value of another form
never : {A : Type 0} (types : Types) (mu : Assignment) (rs : Closeds) (v : Value) (w : Value-F Value) → out-Value v ≡ w
    → form_asked types w (T.Range zero_num largest_num) mu rs ≡ false → belongs types v (reading natural_range mu rs) ≡ true → A
never types mu rs v w e f h =
    no (sym f ∙ ap (λ u. form_asked types u (T.Range zero_num largest_num) mu rs) (sym e)
    ∙ sym (belongs_form types v (T.Range zero_num largest_num) natural_range mu rs (U.rolls-Range zero_num largest_num)) ∙ h)

natural_in : (types : Types) (mu : Assignment) (rs : Closeds) (v : Value) (w : Value-F Value) → out-Value v ≡ w
    → belongs types v (reading natural_range mu rs) ≡ true → (i : ℕ) × (form_integer w ≡ Some (pos i))
natural_in types mu rs v (V.Integer z) e h =
    let is : ((int_le (number mu zero_num) z && int_le z (number mu largest_num)) && is_small z) ≡ true =
    sym (ap (λ u. form_asked types u (T.Range zero_num largest_num) mu rs) e)
    ∙ sym (belongs_form types v (T.Range zero_num largest_num) natural_range mu rs (U.rolls-Range zero_num largest_num)) ∙ h in
    let both = and_parts (int_le (number mu zero_num) z && int_le z (number mu largest_num)) (is_small z) is in
    let low = and_parts (int_le (number mu zero_num) z) (int_le z (number mu largest_num)) both.0 in
    let k = none_below (number mu zero_num) (number_constant mu (pos 0)) z low.0 in
    (k.0, ap Some k.1)
natural_in types mu rs v V.Unit e h = never types mu rs v V.Unit e refl h
natural_in types mu rs v (V.Truth b) e h = never types mu rs v (V.Truth b) e refl h
natural_in types mu rs v (V.Bit b) e h = never types mu rs v (V.Bit b) e refl h
natural_in types mu rs v (V.Bits bits) e h = never types mu rs v (V.Bits bits) e refl h
natural_in types mu rs v (V.String text) e h = never types mu rs v (V.String text) e refl h
natural_in types mu rs v (V.List vs) e h = never types mu rs v (V.List vs) e refl h
natural_in types mu rs v (V.Vector vs) e h = never types mu rs v (V.Vector vs) e refl h
natural_in types mu rs v (V.Tuple vs) e h = never types mu rs v (V.Tuple vs) e refl h
natural_in types mu rs v (V.Member i k) e h = never types mu rs v (V.Member i k) e refl h
natural_in types mu rs v (V.Struct i vs) e h = never types mu rs v (V.Struct i vs) e refl h
natural_in types mu rs v (V.Union i k u) e h = never types mu rs v (V.Union i k u) e refl h

abbrev pub NaturalIsRead : Type 0
NaturalIsRead = (q : Scene) (n : ℕ) (p : Point n) (x : Item) → Results q p natural_type x
    → (i : ℕ) × ((now : Now Item) → natural (read_as q) x now ≡ Runs.Gives i now)

pub natural_read : NaturalIsRead
natural_read q n p x h =
    let types = q.set.around.types in
    let b : is_of types (standing q.set.past p.integers) q.work.types natural_type x.val ≡ true = h.belongs p.integers (same p) in
    let here = closed_is types (standing q.set.past p.integers) q.work.types natural_type (W.Of natural_range [] []) (R.rolls-Of natural_range [] []) in
    let v = natural_in types _ _ x.val (out-Value x.val) refl (ap (belongs types x.val) (sym here) ∙ b) in
    (v.0, λ now. λ j. goes_on (needs (v.1 j) now) (λ z. needs (natural_of z)))
