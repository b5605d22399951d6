-- What a builtin without state gives has its shape.
use Rattle.std.proofs.Common.{◌≡◌, ℕ, zero, suc, List, [], ◌∷◌, map, length, replicate, ap, sym, ◌∙◌, refl, Bool, true, false, not, Option}
use Rattle.std.proofs.Common.{Some, None, option_map, nat_eq}
use Rattle.std.specs.Prelude.{ℤ, pos, negsuc}
use Rattle.std.specs.List.{list_all}
use Rattle.sail_types.specs.Limits.{is_small, is_width, is_length}
use Rattle.sail_types.specs.Sums.{and_then}
use Rattle.sail_types.specs.Shapes.{fits, form_fits, put, Asked}
use Rattle.sail_types.specs.declared.shapes.Shape.{Shape, out-Shape}
use Rattle.sail_types.specs.declared.shapes.Shape.TheOpen as S
use Rattle.sail_types.specs.declared.shapes.Shape.TheVariants as V
use Rattle.sail_types.specs.declared.shapes.Shape.TheViews.{out-roll-Shape}
use Rattle.sail_types.specs.declared.table.Types.{Types}
use Rattle.sail_types.specs.declared.values.Value.{Value, Value-F, out-Value}
use Rattle.sail_types.specs.declared.values.Value.TheFolds.{map-Value}
use Rattle.sail_types.specs.declared.values.Value.TheOpen as W
use Rattle.sail_types.specs.declared.values.Value.TheVariants as Val
use Rattle.builtins.specs.RowValues.{Bits, only, an_integer, a_word, where_, natural}
use Rattle.sail_core.specs.Values.{form_items, cons_of}
use Rattle.shape_joins.proofs.Order.{no, two}
use Rattle.shape_meanings.specs.Whole.{Choice}
use Rattle.shape_meanings.specs.Keeping.{Fits}
use Rattle.shape_meanings.proofs.Values.{opened_at, out_put}
use Rattle.shape_meanings.proofs.Matching.{form_given}
use Rattle.shape_meanings.proofs.Settling.{form_has}

-- what is given, where anything is, has this shape
abbrev pub GivesA : Types → Choice → Shape → Option Value → Type 0
GivesA types c s None = Unit {0}
GivesA types c s (Some v) = Fits types c s v

module _ (types : Types) (c : Choice) where
  -- ---- values of each form

  pub integer_fits : (z : ℤ) → Fits types c V.Int (Val.Integer z)
  integer_fits z = form_has types c (W.Integer z) S.Int (Val.Integer z) V.Int (Val.rolls-Integer z) V.rolls-Int refl

  pub word_fits : (b : Bits) → Fits types c V.Bits (Val.Bits b)
  word_fits b = form_has types c (W.Bits b) S.Bits (Val.Bits b) V.Bits (Val.rolls-Bits b) V.rolls-Bits refl

  pub truth_fits : (b : Bool) → Fits types c V.Bool (Val.Truth b)
  truth_fits b = form_has types c (W.Truth b) S.Bool (Val.Truth b) V.Bool (Val.rolls-Truth b) V.rolls-Bool refl

  pub text_fits : (text : List ℕ) → Fits types c V.String (Val.String text)
  text_fits text = form_has types c (W.String text) S.String (Val.String text) V.String (Val.rolls-String text) V.rolls-String refl

  pub unit_fits : Fits types c V.Unit Val.Unit
  unit_fits = form_has types c W.Unit S.Unit Val.Unit V.Unit Val.rolls-Unit V.rolls-Unit refl

  -- ---- within limits, under conditions

  only_given : (s : Shape) (b : Bool) (v : Value) → Fits types c s v → GivesA types c s (only b v)
  only_given s true v h = h
  only_given s false v h = tt

  pub integer_given : (z : ℤ) → GivesA types c V.Int (an_integer z)
  integer_given z = only_given V.Int (is_small z) (Val.Integer z) (integer_fits z)

  pub word_given : (b : Bits) → GivesA types c V.Bits (a_word b)
  word_given b = only_given V.Bits (is_width (length b)) (Val.Bits b) (word_fits b)

  where_given : (s : Shape) (b : Bool) (o : Option Value) → GivesA types c s o → GivesA types c s (where_ b o)
  where_given s true o h = h
  where_given s false o h = tt

  pub integer_where : (b : Bool) (z : ℤ) → GivesA types c V.Int (where_ b (an_integer z))
  integer_where b z = where_given V.Int b (an_integer z) (integer_given z)

  natural_given : (s : Shape) (i : ℤ) (f : ℕ → Option Value) → ((n : ℕ) → GivesA types c s (f n)) → GivesA types c s (natural i f)
  natural_given s (pos n) f h = h n
  natural_given s (negsuc n) f h = tt

  pub power_given : (o : Option ℤ) → GivesA types c V.Int (and_then o an_integer)
  power_given None = tt
  power_given (Some z) = integer_given z

  -- of words that are as wide
  pub alike_word : (b d x : Bits) → GivesA types c V.Bits (where_ (nat_eq (length b) (length d)) (a_word x))
  alike_word b d x = where_given V.Bits (nat_eq (length b) (length d)) (a_word x) (word_given x)

  pub alike_truth : (b d : Bits) (x : Bool) → GivesA types c V.Bool (where_ (nat_eq (length b) (length d)) (Some (Val.Truth x)))
  alike_truth b d x = where_given V.Bool (nat_eq (length b) (length d)) (Some (Val.Truth x)) (truth_fits x)

  -- so many bits, of a number that isn't negative
  pub word_for : (i : ℤ) (f : ℕ → Bits) → GivesA types c V.Bits (natural i (λ n. a_word (f n)))
  word_for i f = natural_given V.Bits i (λ n. a_word (f n)) (λ n. word_given (f n))

  pub word_where : (i : ℤ) (t : ℕ → Bool) (f : ℕ → Bits) → GivesA types c V.Bits (natural i (λ n. where_ (t n) (a_word (f n))))
  word_where i t f =
      natural_given V.Bits i (λ n. where_ (t n) (a_word (f n))) (λ n. where_given V.Bits (t n) (a_word (f n)) (word_given (f n)))

  -- ---- comparisons

  pub same_given : (o : Option Bool) → GivesA types c V.Bool (option_map Val.Truth o)
  same_given None = tt
  same_given (Some b) = truth_fits b

  pub other_given : (o : Option Bool) → GivesA types c V.Bool (option_map (λ b. Val.Truth (not b)) o)
  other_given None = tt
  other_given (Some b) = truth_fits (not b)

  -- ---- vectors and lists

  copies_fit : (s : Shape) (n : ℕ) (v : Value) → Fits types c s v → list_all (λ (f : Asked). f (put c s)) (map (fits types) (replicate n v)) ≡ true
  copies_fit s zero v h = refl
  copies_fit s (suc n) v h =
      two (fits types v (put c s)) (list_all (λ (f : Asked). f (put c s)) (map (fits types) (replicate n v))) h (copies_fit s n v h)

  pub vector_given : (s : Shape) (i : ℤ) (v : Value) → Fits types c s v
      → GivesA types c (V.Vector s) (natural i (λ n. where_ (is_length n) (Some (Val.Vector (replicate n v)))))
  vector_given s i v h =
      natural_given (V.Vector s) i (λ n. where_ (is_length n) (Some (Val.Vector (replicate n v))))
      (λ n. where_given (V.Vector s) (is_length n) (Some (Val.Vector (replicate n v)))
      (form_has types c (W.Vector (replicate n v)) (S.Vector s) (Val.Vector (replicate n v)) (V.Vector s) (Val.rolls-Vector (replicate n v))
      (V.rolls-Vector s) (copies_fit s n v h)))

  list_form : (s : Shape) (v : Value) (x : Value-F Value) → Fits types c s v
      → form_fits types (map-Value Value Asked (fits types) x) (S.List (put c s)) ≡ true
      → GivesA types c (V.List s) (option_map (λ vs. Val.List (v ∷ vs)) (form_items x))
  list_form s v (W.List vs) h k =
      form_has types c (W.List (v ∷ vs)) (S.List s) (Val.List (v ∷ vs)) (V.List s) (Val.rolls-List (v ∷ vs)) (V.rolls-List s)
      (two (fits types v (put c s)) (list_all (λ (f : Asked). f (put c s)) (map (fits types) vs)) h k)
  list_form s v x h k = no k

  list_is : (s : Shape) → out-Shape (put c (V.List s)) ≡ S.List (put c s)
  list_is s = out_put c (V.List s) ∙ ap (λ t. opened_at c (out-Shape t)) (sym (V.rolls-List s)) ∙ ap (opened_at c) (out-roll-Shape (S.List s))

  -- `a :: b`
  pub cons_given : (s : Shape) (v w : Value) → Fits types c s v → Fits types c (V.List s) w → GivesA types c (V.List s) (cons_of (v ∷ w ∷ []))
  cons_given s v w h k = list_form s v (out-Value w) h (form_given types c (V.List s) (S.List (put c s)) w (list_is s) k)
