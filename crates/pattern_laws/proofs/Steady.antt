-- Where a value has indices at two places, and they widen to the same there, they mean the same.
use Rattle.std.proofs.Common.{◌≡◌, pos, Bool, true, false, List, [], ◌∷◌, map, refl, sym, ap, ◌∙◌, subst}
use Rattle.std.specs.Bool.{beq}
use Rattle.std.proofs.lemmas.Bool.{and_parts}
use Rattle.sail_types.specs.Belongs.{Reading as Closed, assigned}
use Rattle.sail_types.specs.Numbers.{Assignment, Positive, number, true_in}
use Rattle.sail_types.specs.declared.numbers.Con.{Con}
use Rattle.sail_types.specs.declared.numbers.Num.{Num}
use Rattle.sail_types.specs.declared.table.Types.{Types}
use Rattle.sail_types.specs.declared.values.Value.{Value, Value-F, out-Value}
use Rattle.sail_types.specs.declared.values.Value.TheOpen as V
use Rattle.value_indices.specs.declared.indices.Indices.{Indices, roll-Indices}
use Rattle.value_indices.specs.declared.indices.Indices.TheFolds.{map-Indices, ind-Indices}
use Rattle.value_indices.specs.declared.indices.Indices.TheOpen as W
use Rattle.value_indices.specs.declared.indices.Indices.TheOpen.{Indices-F}
use Rattle.value_indices.specs.declared.indices.Indices.TheVariants as I
use Rattle.value_indices.specs.declared.indices.Reading.{Reading}
use Rattle.value_laws.specs.Belonging.{Integers, standing, meant, closed, has, form_holds, each_holds}
use Rattle.value_laws.proofs.Basics.{no}
use Rattle.value_laws.proofs.Values.{meant_is}
use Rattle.value_laws.proofs.Arguments.{assigned_there}
use Rattle.value_laws.proofs.Meanings.{units_same, bit_same, strings_same, variable_same, bits_same, integers_same, truths_same, lists_same, vectors_same}
use Rattle.value_laws.proofs.Meanings.{tuples_same, named_same}
use Rattle.pattern_laws.proofs.Values.{never_had, truth_had, bits_had, integer_had, vector_had, tuple_had, wide_as, integer_as, long_as, SameWide, AllWide}
use Rattle.pattern_laws.proofs.Values.{list_wide, vector_wide, tuple_wide, named_types, named_numbers}

beq_same : (b c : Bool) → beq b c ≡ true → b ≡ c
beq_same true true h = refl
beq_same true false h = no h
beq_same false true h = no h
beq_same false false h = refl

module _ (types : Types) (past : Positive) (own : List Closed) (f g : Integers) where
  abbrev one : Assignment
  one = standing past f

  abbrev other : Assignment
  other = standing past g

  Such : Indices → Type 0
  Such i = (v : Value) → has types one own i v ≡ true → has types other own i v ≡ true → SameWide types past own f g i
      → meant types one own i ≡ meant types other own i

  -- numbers and truths that a value tells
  truths_told : (c : Con) (w : Value-F Value) → form_holds types one own (W.Truth c) w ≡ true → form_holds types other own (W.Truth c) w ≡ true
      → true_in one c ≡ true_in other c
  truths_told c (V.Truth b) h k = sym (beq_same b (true_in one c) h) ∙ beq_same b (true_in other c) k
  truths_told c w h k = no h

  bits_told : (t : Num) (w : Value-F Value) → form_holds types one own (W.Bits t) w ≡ true → form_holds types other own (W.Bits t) w ≡ true
      → number one t ≡ number other t
  bits_told t (V.Bits bits) h k = wide_as types past own f t bits h ∙ sym (wide_as types past own g t bits k)
  bits_told t w h k = no h

  integers_told : (t : Num) (w : Value-F Value) → form_holds types one own (W.Integer t) w ≡ true → form_holds types other own (W.Integer t) w ≡ true
      → number one t ≡ number other t
  integers_told t (V.Integer z) h k = integer_as types past own f t z h ∙ sym (integer_as types past own g t z k)
  integers_told t w h k = no h

  lengths_told : (t : Num) (c d : Closed) (w : Value-F Value) → form_holds types one own (W.Vector t c) w ≡ true
      → form_holds types other own (W.Vector t d) w ≡ true → number one t ≡ number other t
  lengths_told t c d (V.Vector vs) h k = long_as types past own f t c vs h ∙ sym (long_as types past own g t d vs k)
  lengths_told t c d w h k = no h

  abbrev Part : Type 0
  Part = (i : Indices) × Such i

  abbrev Item : Type 0
  Item = (r : Reading) × Unit {0}

  abbrev bare : List Part → List Indices
  bare ys = map (λ (y : Part). y.0) ys

  parts_same : (ys : List Part) (vs : List Value) → each_holds (map (meant types one own) (bare ys)) vs ≡ true
      → each_holds (map (meant types other own) (bare ys)) vs ≡ true → AllWide types past own f g (bare ys)
      → map (meant types one own) (bare ys) ≡ map (meant types other own) (bare ys)
  unfolding Such
  parts_same [] vs h k e = refl
  parts_same (y ∷ ys) [] h k e = no h
  parts_same (y ∷ ys) (v ∷ vs) h k e =
      let a = and_parts (has types one own y.0 v) (each_holds (map (meant types one own) (bare ys)) vs) h in
      let b = and_parts (has types other own y.0 v) (each_holds (map (meant types other own) (bare ys)) vs) k in
      λ j. y.1 v a.0 b.0 e.0 j ∷ parts_same ys vs a.1 b.1 e.1 j

  tuples_told : (ys : List Part) (w : Value-F Value) → form_holds types one own (W.Tuple (map (meant types one own) (bare ys))) w ≡ true
      → form_holds types other own (W.Tuple (map (meant types other own) (bare ys))) w ≡ true → AllWide types past own f g (bare ys)
      → map (meant types one own) (bare ys) ≡ map (meant types other own) (bare ys)
  tuples_told ys (V.Tuple vs) h k e = parts_same ys vs h k e
  tuples_told ys w h k e = no h

  such_form : (y : Indices-F Part Item) → Such (roll-Indices (map-Indices Part Item Indices Reading (λ p. p.0) (λ p. p.0) y))
  unfolding Such
  such_form W.Never = subst Such (sym I.rolls-Never) (λ v h k e. absurd (never_had types past own f v h))
  such_form W.Unit = subst Such (sym I.rolls-Unit) (λ v h k e.
      meant_is types one own I.Unit W.Unit I.rolls-Unit ∙ units_same types past own f g ∙ sym (meant_is types other own I.Unit W.Unit I.rolls-Unit))
  such_form (W.Truth c) = subst Such (sym (I.rolls-Truth c)) (λ v h k e.
      meant_is types one own (I.Truth c) (W.Truth c) (I.rolls-Truth c)
      ∙ truths_same types past own f g c c (truths_told c (out-Value v) (truth_had types past own f c v h) (truth_had types past own g c v k))
      ∙ sym (meant_is types other own (I.Truth c) (W.Truth c) (I.rolls-Truth c)))
  such_form W.Bit = subst Such (sym I.rolls-Bit) (λ v h k e.
      meant_is types one own I.Bit W.Bit I.rolls-Bit ∙ bit_same types past own f g ∙ sym (meant_is types other own I.Bit W.Bit I.rolls-Bit))
  such_form (W.Bits t) = subst Such (sym (I.rolls-Bits t)) (λ v h k e.
      meant_is types one own (I.Bits t) (W.Bits t) (I.rolls-Bits t)
      ∙ bits_same types past own f g t t (bits_told t (out-Value v) (bits_had types past own f t v h) (bits_had types past own g t v k))
      ∙ sym (meant_is types other own (I.Bits t) (W.Bits t) (I.rolls-Bits t)))
  such_form (W.Integer t) = subst Such (sym (I.rolls-Integer t)) (λ v h k e.
      meant_is types one own (I.Integer t) (W.Integer t) (I.rolls-Integer t)
      ∙ integers_same types past own f g t t (integers_told t (out-Value v) (integer_had types past own f t v h) (integer_had types past own g t v k))
      ∙ sym (meant_is types other own (I.Integer t) (W.Integer t) (I.rolls-Integer t)))
  such_form W.String = subst Such (sym I.rolls-String) (λ v h k e.
      meant_is types one own I.String W.String I.rolls-String ∙ strings_same types past own f g
      ∙ sym (meant_is types other own I.String W.String I.rolls-String))
  such_form (W.List r) = subst Such (sym (I.rolls-List r.0)) (λ v h k e.
      meant_is types one own (I.List r.0) (W.List r.0) (I.rolls-List r.0)
      ∙ lists_same types past own f g (closed types one own r.0) (closed types other own r.0) (list_wide types past own f g r.0 e)
      ∙ sym (meant_is types other own (I.List r.0) (W.List r.0) (I.rolls-List r.0)))
  such_form (W.Vector t r) = subst Such (sym (I.rolls-Vector t r.0)) (λ v h k e.
      meant_is types one own (I.Vector t r.0) (W.Vector t r.0) (I.rolls-Vector t r.0)
      ∙ vectors_same types past own f g t t (closed types one own r.0) (closed types other own r.0)
      (lengths_told t (closed types one own r.0) (closed types other own r.0) (out-Value v) (vector_had types past own f t r.0 v h)
      (vector_had types past own g t r.0 v k))
      (vector_wide types past own f g t r.0 e)
      ∙ sym (meant_is types other own (I.Vector t r.0) (W.Vector t r.0) (I.rolls-Vector t r.0)))
  such_form (W.Tuple ys) = subst Such (sym (I.rolls-Tuple (bare ys))) (λ v h k e.
      meant_is types one own (I.Tuple (bare ys)) (W.Tuple (bare ys)) (I.rolls-Tuple (bare ys))
      ∙ tuples_same types past own f g (map (meant types one own) (bare ys)) (map (meant types other own) (bare ys))
      (tuples_told ys (out-Value v) (tuple_had types past own f (bare ys) v h) (tuple_had types past own g (bare ys) v k)
      (tuple_wide types past own f g (bare ys) e))
      ∙ sym (meant_is types other own (I.Tuple (bare ys)) (W.Tuple (bare ys)) (I.rolls-Tuple (bare ys))))
  such_form (W.Named u is ys) =
      let rs : List Reading = map (λ (y : Item). y.0) ys in
      subst Such (sym (I.rolls-Named u is rs)) (λ v h k e.
      let args = named_numbers types past own f g u is rs e in
      meant_is types one own (I.Named u is rs) (W.Named u is rs) (I.rolls-Named u is rs)
      ∙ named_same types past own f g u is is (map (closed types one own) rs) (map (closed types other own) rs)
      (sym (assigned_there past f is) ∙ ap (assigned (standing past (λ i. pos 0))) args ∙ assigned_there past g is) args
      (named_types types past own f g u is rs e)
      ∙ sym (meant_is types other own (I.Named u is rs) (W.Named u is rs) (I.rolls-Named u is rs)))
  such_form (W.Variable i) = subst Such (sym (I.rolls-Variable i)) (λ v h k e.
      meant_is types one own (I.Variable i) (W.Variable i) (I.rolls-Variable i) ∙ variable_same types past own f g i
      ∙ sym (meant_is types other own (I.Variable i) (W.Variable i) (I.rolls-Variable i)))

  such : (i : Indices) → Such i
  such = ind-Indices Such (λ r. Unit {0}) (λ e y same_form. subst (λ d. Such (roll-Indices d)) same_form (such_form y)) (λ e y same_form. tt)

  pub meant_same : (i : Indices) (v : Value) → has types one own i v ≡ true → has types other own i v ≡ true → SameWide types past own f g i
      → meant types one own i ≡ meant types other own i
  unfolding Such
  meant_same i v h k e = such i v h k e
