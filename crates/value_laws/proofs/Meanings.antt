-- When indices mean the same where variables stand for other integers: their numbers, truths and types are the same there.
use Rattle.std.proofs.Common.{◌≡◌, ℕ, pos, nat_eq, ◌&&◌, List, [], ◌∷◌, map, length, refl, ap, slice_get, Option, Some, None}
use Rattle.std.specs.Bool.{beq}
use Rattle.std.specs.List.{list_all}
use Rattle.std.specs.Ordering.{int_eq}
use Rattle.sail_types.specs.Belongs.{Reading as Closed, assigned, fields_belong, payload_belongs, belongs}
use Rattle.sail_types.specs.Limits.{is_small, is_width, is_length}
use Rattle.sail_types.specs.Named.{fields, payload}
use Rattle.sail_types.specs.Numbers.{Assignment, Positive, number, true_in}
use Rattle.sail_types.specs.Sums.{constant}
use Rattle.sail_types.specs.declared.numbers.Con.{Con}
use Rattle.sail_types.specs.declared.numbers.Index.{Index}
use Rattle.sail_types.specs.declared.numbers.Num.{Num}
use Rattle.sail_types.specs.declared.table.Types.{Types}
use Rattle.sail_types.specs.declared.types.Typ.TheVariants as U
use Rattle.sail_types.specs.declared.values.Value.{Value, Value-F, out-Value}
use Rattle.sail_types.specs.declared.values.Value.TheOpen as V
use Rattle.value_indices.specs.declared.indices.Indices.TheOpen as W
use Rattle.value_indices.specs.declared.indices.Indices.TheOpen.{Indices-F}
use Rattle.value_laws.specs.Belonging.{Integers, standing, closeds, or_no_value, plain, index_there, Meant, wides, each_holds, form_holds, meant_form, tuple_of, type_variables}
use Rattle.value_laws.proofs.Alike.{asks}

module _ (types : Types) (past : Positive) (own : List Closed) (f g : Integers) where
  abbrev one : Assignment
  one = standing past f

  abbrev other : Assignment
  other = standing past g

  abbrev means : Assignment → Indices-F Meant Closed → Meant
  means mu x = meant_form types mu own x

  -- what has no number of its own
  units_hold : (w : Value-F Value) → form_holds types one own W.Unit w ≡ form_holds types other own W.Unit w
  units_hold V.Unit = refl
  units_hold w = refl

  pub units_same : means one W.Unit ≡ means other W.Unit
  units_same = λ j. record { holds = λ v. units_hold (out-Value v) j; wide = (means one W.Unit).wide }

  bit_holds : (w : Value-F Value) → form_holds types one own W.Bit w ≡ form_holds types other own W.Bit w
  bit_holds (V.Bit b) = refl
  bit_holds w = refl

  pub bit_same : means one W.Bit ≡ means other W.Bit
  bit_same = λ j. record { holds = λ v. bit_holds (out-Value v) j; wide = (means one W.Bit).wide }

  strings_hold : (w : Value-F Value) → form_holds types one own W.String w ≡ form_holds types other own W.String w
  strings_hold (V.String text) = refl
  strings_hold w = refl

  pub strings_same : means one W.String ≡ means other W.String
  strings_same = λ j. record { holds = λ v. strings_hold (out-Value v) j; wide = (means one W.String).wide }

  own_same : (o : Option Closed) → or_no_value one o ≡ or_no_value other o
  own_same None = refl
  own_same (Some r) = refl

  pub variable_same : (i : ℕ) → means one (W.Variable i) ≡ means other (W.Variable i)
  variable_same i = λ j. record { holds = λ v. belongs types v (own_same (slice_get own i) j); wide = own_same (slice_get own i) j }

  -- numbers, truths and types that are the same

  bits_hold : (t u : Num) → number one t ≡ number other u → (w : Value-F Value)
      → form_holds types one own (W.Bits t) w ≡ form_holds types other own (W.Bits u) w
  bits_hold t u e (V.Bits bits) = ap (λ z. int_eq (pos (length bits)) z && is_width (length bits)) e
  bits_hold t u e w = refl

  pub bits_same : (t u : Num) → number one t ≡ number other u → means one (W.Bits t) ≡ means other (W.Bits u)
  bits_same t u e = λ j. record { holds = λ v. bits_hold t u e (out-Value v) j; wide = plain one (U.Bits (constant (e j))) [] }

  integers_hold : (t u : Num) → number one t ≡ number other u → (w : Value-F Value)
      → form_holds types one own (W.Integer t) w ≡ form_holds types other own (W.Integer u) w
  integers_hold t u e (V.Integer z) = ap (λ k. int_eq z k && is_small z) e
  integers_hold t u e w = refl

  pub integers_same : (t u : Num) → number one t ≡ number other u → means one (W.Integer t) ≡ means other (W.Integer u)
  integers_same t u e = λ j. record { holds = λ v. integers_hold t u e (out-Value v) j; wide = (means one (W.Integer t)).wide }

  truths_hold : (c d : Con) → true_in one c ≡ true_in other d → (w : Value-F Value)
      → form_holds types one own (W.Truth c) w ≡ form_holds types other own (W.Truth d) w
  truths_hold c d e (V.Truth b) = ap (beq b) e
  truths_hold c d e w = refl

  pub truths_same : (c d : Con) → true_in one c ≡ true_in other d → means one (W.Truth c) ≡ means other (W.Truth d)
  truths_same c d e = λ j. record { holds = λ v. truths_hold c d e (out-Value v) j; wide = (means one (W.Truth c)).wide }

  lists_hold : (r q : Closed) → r ≡ q → (w : Value-F Value) → form_holds types one own (W.List r) w ≡ form_holds types other own (W.List q) w
  lists_hold r q e (V.List vs) = ap (λ c. list_all (λ v. belongs types v c) vs) e
  lists_hold r q e w = refl

  pub lists_same : (r q : Closed) → r ≡ q → means one (W.List r) ≡ means other (W.List q)
  lists_same r q e = λ j. record { holds = λ v. lists_hold r q e (out-Value v) j; wide = plain one (U.List (U.Variable 0)) (e j ∷ []) }

  vectors_hold : (t u : Num) (r q : Closed) → number one t ≡ number other u → r ≡ q → (w : Value-F Value)
      → form_holds types one own (W.Vector t r) w ≡ form_holds types other own (W.Vector u q) w
  vectors_hold t u r q e h (V.Vector vs) =
      λ j. (int_eq (pos (length vs)) (e j) && is_length (length vs)) && list_all (λ v. belongs types v (h j)) vs
  vectors_hold t u r q e h w = refl

  pub vectors_same : (t u : Num) (r q : Closed) → number one t ≡ number other u → r ≡ q → means one (W.Vector t r) ≡ means other (W.Vector u q)
  vectors_same t u r q e h = λ j. record {
    holds = λ v. vectors_hold t u r q e h (out-Value v) j;
    wide = plain one (U.Vector (constant (e j)) (U.Variable 0)) (h j ∷ []);
  }

  tuples_hold : (ms ns : List Meant) → ms ≡ ns → (w : Value-F Value) → form_holds types one own (W.Tuple ms) w ≡ form_holds types other own (W.Tuple ns) w
  tuples_hold ms ns e (V.Tuple vs) = ap (λ ks. each_holds ks vs) e
  tuples_hold ms ns e w = refl

  pub tuples_same : (ms ns : List Meant) → ms ≡ ns → means one (W.Tuple ms) ≡ means other (W.Tuple ns)
  tuples_same ms ns e = λ j. record { holds = λ v. tuples_hold ms ns e (out-Value v) j; wide = tuple_of one (wides (e j)) }

  -- a named type: its arguments are the same as they are there, and as what its parameters stand for
  named_hold : (u : ℕ) (is js : List Index) (rs qs : List Closed) → assigned one is ≡ assigned other js → rs ≡ qs → (w : Value-F Value)
      → form_holds types one own (W.Named u is rs) w ≡ form_holds types other own (W.Named u js qs) w
  named_hold u is js rs qs e h (V.Struct i vs) = λ j. nat_eq i u && fields_belong (asks types vs) (e j) (closeds (h j)) (fields types i)
  named_hold u is js rs qs e h (V.Union i k v) = λ j. nat_eq i u && payload_belongs (belongs types v) (e j) (closeds (h j)) (payload types i k)
  named_hold u is js rs qs e h w = refl

  pub named_same : (u : ℕ) (is js : List Index) (rs qs : List Closed) → assigned one is ≡ assigned other js
      → map (index_there one) is ≡ map (index_there other) js → rs ≡ qs → means one (W.Named u is rs) ≡ means other (W.Named u js qs)
  named_same u is js rs qs e k h = λ j. record {
    holds = λ v. named_hold u is js rs qs e h (out-Value v) j;
    wide = plain one (U.Named u (k j) (type_variables 0 (h j))) (h j);
  }
