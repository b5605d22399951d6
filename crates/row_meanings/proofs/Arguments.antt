-- Members by the shapes of their parameters: what is known of a builtin on such values is known of the member.
use Rattle.std.proofs.Common.{◌≡◌, ℕ, List, [], ◌∷◌, map, ap, sym, ◌∙◌, refl, subst, Bool, true, false, Option, Some, None, if◌then◌else◌}
use Rattle.std.proofs.lemmas.Bool.{and_parts}
use Rattle.std.specs.Prelude.{ℤ}
use Rattle.sail_types.specs.Rows.{member, comparison}
use Rattle.sail_types.specs.Shapes.{fits, each_fits, put, put_form}
use Rattle.sail_types.specs.declared.members.Member.{Member}
use Rattle.sail_types.specs.declared.rows.Row.{Row}
use Rattle.sail_types.specs.declared.rows.Row.TheVariants as B
use Rattle.sail_types.specs.declared.shapes.Shape.{Shape, Shape-F, roll-Shape}
use Rattle.sail_types.specs.declared.shapes.Shape.TheFolds.{map-Shape}
use Rattle.sail_types.specs.declared.shapes.Shape.TheOpen as S
use Rattle.sail_types.specs.declared.shapes.Shape.TheVariants as V
use Rattle.sail_types.specs.declared.table.Types.{Types}
use Rattle.sail_types.specs.declared.values.Value.{Value, out-Value, roll-Value}
use Rattle.sail_types.specs.declared.values.Value.TheViews.{roll-out-Value}
use Rattle.sail_types.specs.declared.values.Value.TheOpen as W
use Rattle.sail_types.specs.declared.values.Value.TheVariants as Val
use Rattle.builtins.specs.RowValues.{Bits, row, row_of, same}
use Rattle.row_types.specs.Calls.{has_state}
use Rattle.row_types.specs.laws.Shapes.{one_argument, two_arguments, integer_value, bits_value, string_value}
use Rattle.row_types.specs.laws.Rows.{of_integer, of_truth, of_word, of_vector, of_integers, of_words, of_word_integer, of_integer_word, of_texts}
use Rattle.model_state.specs.RunState.{RunState}
use Rattle.model_state.specs.StateRows.{call_of, state_row}
use Rattle.sail_core.specs.Run.{Now, needs, after_row}
use Rattle.shape_joins.proofs.Order.{no, two}
use Rattle.shape_meanings.specs.Whole.{Choice, below, below_form, all_below}
use Rattle.shape_meanings.specs.Keeping.{Fits, FitAll, RegistersFit, KeepsApart}
use Rattle.shape_meanings.proofs.Orders.{puts}
use Rattle.shape_meanings.proofs.Matching.{leaf_below}
use Rattle.row_meanings.specs.Rows.{KeepsShapes}
use Rattle.row_meanings.proofs.Given.{GivesA, same_given, other_given, vector_given}
use Rattle.row_meanings.proofs.State.{EndsAs, call_kept}

-- ---- shapes without variables

-- whatever variables stand for, it is itself
pub record Plain (s : Shape) : Type 0 where
  pub stays : (c : Choice) → put c s ≡ s
  pub closed : below 1 s ≡ true

plain : (x : Shape-F Shape) (s : Shape) → roll-Shape x ≡ s → ((c : Choice) → put_form c (map-Shape Shape Shape (put c) x) ≡ roll-Shape x)
    → below_form 1 (map-Shape Shape Bool (below 1) x) ≡ true → Plain s
plain x s e puts_same closed = record {
  stays = λ c. subst (λ t. put c t ≡ t) e (puts c x ∙ puts_same c);
  closed = leaf_below 1 x s e closed;
}

pub ints : Plain V.Int
ints = plain S.Int V.Int V.rolls-Int (λ c. refl) refl

pub words : Plain V.Bits
words = plain S.Bits V.Bits V.rolls-Bits (λ c. refl) refl

pub truths : Plain V.Bool
truths = plain S.Bool V.Bool V.rolls-Bool (λ c. refl) refl

pub texts : Plain V.String
texts = plain S.String V.String V.rolls-String (λ c. refl) refl

pub units : Plain V.Unit
units = plain S.Unit V.Unit V.rolls-Unit (λ c. refl) refl

-- ---- the variable of a member

pub variable_below : below 1 (V.Variable 0) ≡ true
variable_below = leaf_below 1 (S.Variable 0) (V.Variable 0) (V.rolls-Variable 0) refl

pub vector_below : below 1 (V.Vector (V.Variable 0)) ≡ true
vector_below = leaf_below 1 (S.Vector (V.Variable 0)) (V.Vector (V.Variable 0)) (V.rolls-Vector (V.Variable 0)) variable_below

pub list_below : below 1 (V.List (V.Variable 0)) ≡ true
list_below = leaf_below 1 (S.List (V.Variable 0)) (V.List (V.Variable 0)) (V.rolls-List (V.Variable 0)) variable_below

vector_put : (c : Choice) (s : Shape) → put c (V.Vector s) ≡ V.Vector (put c s)
vector_put c s = ap (put c) (sym (V.rolls-Vector s)) ∙ puts c (S.Vector s) ∙ V.rolls-Vector (put c s)

one_below : (s : Shape) → below 1 s ≡ true → all_below 1 (s ∷ []) ≡ true
one_below s h = two (below 1 s) true h refl

pub more_below : (s : Shape) (ss : List Shape) → below 1 s ≡ true → all_below 1 ss ≡ true → all_below 1 (s ∷ ss) ≡ true
more_below s ss h k = two (below 1 s) (all_below 1 ss) h k

-- ---- what is known of a member

-- its parameters and its result have no variable but one, which is its own, and calls of it keep shapes
pub record MemberIs (types : Types) (m : Member) : Type 0 where
  pub whole : all_below 1 m.params ≡ true
  pub answer : below 1 m.answer ≡ true
  pub keeps : KeepsShapes types m

pub given_kept : (types : Types) (registers : List Shape) (thrown : Shape) (c : Choice) (s : Shape) (now : Now Value) (o : Option Value)
    → GivesA types c s o → RegistersFit types registers now.state → KeepsApart types registers thrown (Fits types c s) now (needs o now)
given_kept types registers thrown c s now None h fit = tt
given_kept types registers thrown c s now (Some v) h fit = (h, record { locals = refl; state = fit })

module _ (types : Types) where
  -- how a builtin without state is called, and one on the state
  plain_keeps : (r : Row) (params : List Shape) (s : Shape) → has_state r ≡ false
      → ((c : Choice) (vs : List Value) → FitAll types c params vs → GivesA types c s (row r vs)) → KeepsShapes types (member r params s)
  plain_keeps r params s without gives registers thrown c hart vs now h fit =
      subst (λ b. KeepsApart types registers thrown (Fits types c s) now (if b then after_row (state_row r hart now.state vs) now else needs (row r vs) now))
      (sym without) (given_kept types registers thrown c s now (row r vs) (gives c vs h) fit)

  state_keeps : (r : Row) (params : List Shape) (s : Shape) → has_state r ≡ true
      → ((c : Choice) (hart : ℕ) (state : RunState) (vs : List Value) → FitAll types c params vs → EndsAs types c s state (call_of r hart vs))
      → KeepsShapes types (member r params s)
  state_keeps r params s on ends registers thrown c hart vs now h fit =
      subst (λ b. KeepsApart types registers thrown (Fits types c s) now (if b then after_row (state_row r hart now.state vs) now else needs (row r vs) now))
      (sym on) (call_kept types registers thrown c s now (call_of r hart vs) (ends c hart now.state vs h) fit)

  -- ---- values of shapes without variables

  one_fits : (c : Choice) (vs : List Value) (s : Shape) → Plain s → FitAll types c (s ∷ []) vs → each_fits (map (fits types) vs) (s ∷ []) ≡ true
  one_fits c vs s p h = subst (λ ss. each_fits (map (fits types) vs) ss ≡ true) (λ i. p.stays c i ∷ []) h

  two_fit : (c : Choice) (vs : List Value) (s t : Shape) → Plain s → Plain t → FitAll types c (s ∷ t ∷ []) vs
      → each_fits (map (fits types) vs) (s ∷ t ∷ []) ≡ true
  two_fit c vs s t p q h = subst (λ ss. each_fits (map (fits types) vs) ss ≡ true) (λ i. p.stays c i ∷ q.stays c i ∷ []) h

  three_fit : (c : Choice) (vs : List Value) (s t u : Shape) → Plain s → Plain t → Plain u → FitAll types c (s ∷ t ∷ u ∷ []) vs
      → each_fits (map (fits types) vs) (s ∷ t ∷ u ∷ []) ≡ true
  three_fit c vs s t u p q r h =
      subst (λ ss. each_fits (map (fits types) vs) ss ≡ true) (λ i. p.stays c i ∷ q.stays c i ∷ r.stays c i ∷ []) h

  -- ---- members without state, by their parameters

  one_is : (r : Row) (p s : Shape) → Plain p → Plain s → has_state r ≡ false
      → ((c : Choice) (vs : List Value) → each_fits (map (fits types) vs) (p ∷ []) ≡ true → GivesA types c s (row r vs))
      → MemberIs types (member r (p ∷ []) s)
  one_is r p s plain_p plain_s without gives = record {
    whole = one_below p plain_p.closed;
    answer = plain_s.closed;
    keeps = plain_keeps r (p ∷ []) s without (λ c vs h. gives c vs (one_fits c vs p plain_p h));
  }

  two_are : (r : Row) (p q s : Shape) → Plain p → Plain q → Plain s → has_state r ≡ false
      → ((c : Choice) (vs : List Value) → each_fits (map (fits types) vs) (p ∷ q ∷ []) ≡ true → GivesA types c s (row r vs))
      → MemberIs types (member r (p ∷ q ∷ []) s)
  two_are r p q s plain_p plain_q plain_s without gives = record {
    whole = more_below p (q ∷ []) plain_p.closed (one_below q plain_q.closed);
    answer = plain_s.closed;
    keeps = plain_keeps r (p ∷ q ∷ []) s without (λ c vs h. gives c vs (two_fit c vs p q plain_p plain_q h));
  }

  pub on_integer : (r : Row) (s : Shape) → Plain s → has_state r ≡ false → ((c : Choice) (i : ℤ) → GivesA types c s (row_of r (W.Integer i ∷ [])))
      → MemberIs types (member r (V.Int ∷ []) s)
  on_integer r s plain_s without gives =
      one_is r V.Int s ints plain_s without (λ c vs h. of_integer types vs (λ os. GivesA types c s (row_of r os)) h (gives c))

  pub on_truth : (r : Row) (s : Shape) → Plain s → has_state r ≡ false → ((c : Choice) (b : Bool) → GivesA types c s (row_of r (W.Truth b ∷ [])))
      → MemberIs types (member r (V.Bool ∷ []) s)
  on_truth r s plain_s without gives =
      one_is r V.Bool s truths plain_s without (λ c vs h. of_truth types vs (λ os. GivesA types c s (row_of r os)) h (gives c))

  pub on_word : (r : Row) (s : Shape) → Plain s → has_state r ≡ false → ((c : Choice) (b : Bits) → GivesA types c s (row_of r (W.Bits b ∷ [])))
      → MemberIs types (member r (V.Bits ∷ []) s)
  on_word r s plain_s without gives =
      one_is r V.Bits s words plain_s without (λ c vs h. of_word types vs (λ os. GivesA types c s (row_of r os)) h (gives c))

  pub on_integers : (r : Row) (s : Shape) → Plain s → has_state r ≡ false
      → ((c : Choice) (i j : ℤ) → GivesA types c s (row_of r (W.Integer i ∷ W.Integer j ∷ []))) → MemberIs types (member r (V.Int ∷ V.Int ∷ []) s)
  on_integers r s plain_s without gives =
      two_are r V.Int V.Int s ints ints plain_s without (λ c vs h. of_integers types vs (λ os. GivesA types c s (row_of r os)) h (gives c))

  pub on_words : (r : Row) (s : Shape) → Plain s → has_state r ≡ false
      → ((c : Choice) (b d : Bits) → GivesA types c s (row_of r (W.Bits b ∷ W.Bits d ∷ []))) → MemberIs types (member r (V.Bits ∷ V.Bits ∷ []) s)
  on_words r s plain_s without gives =
      two_are r V.Bits V.Bits s words words plain_s without (λ c vs h. of_words types vs (λ os. GivesA types c s (row_of r os)) h (gives c))

  pub on_word_integer : (r : Row) (s : Shape) → Plain s → has_state r ≡ false
      → ((c : Choice) (b : Bits) (i : ℤ) → GivesA types c s (row_of r (W.Bits b ∷ W.Integer i ∷ []))) → MemberIs types (member r (V.Bits ∷ V.Int ∷ []) s)
  on_word_integer r s plain_s without gives =
      two_are r V.Bits V.Int s words ints plain_s without (λ c vs h. of_word_integer types vs (λ os. GivesA types c s (row_of r os)) h (gives c))

  pub on_integer_word : (r : Row) (s : Shape) → Plain s → has_state r ≡ false
      → ((c : Choice) (i : ℤ) (b : Bits) → GivesA types c s (row_of r (W.Integer i ∷ W.Bits b ∷ []))) → MemberIs types (member r (V.Int ∷ V.Bits ∷ []) s)
  on_integer_word r s plain_s without gives =
      two_are r V.Int V.Bits s ints words plain_s without (λ c vs h. of_integer_word types vs (λ os. GivesA types c s (row_of r os)) h (gives c))

  pub on_texts : (r : Row) (s : Shape) → Plain s → has_state r ≡ false
      → ((c : Choice) (t u : List ℕ) → GivesA types c s (row_of r (W.String t ∷ W.String u ∷ [])))
      → MemberIs types (member r (V.String ∷ V.String ∷ []) s)
  on_texts r s plain_s without gives =
      two_are r V.String V.String s texts texts plain_s without (λ c vs h. of_texts types vs (λ os. GivesA types c s (row_of r os)) h (gives c))

  -- ---- comparisons, whatever is compared

  compared_is : (r : Row) (s : Shape) → below 1 s ≡ true → has_state r ≡ false
      → ((c : Choice) (vs : List Value) → GivesA types c V.Bool (row r vs)) → MemberIs types (comparison r s)
  compared_is r s closed without gives = record {
    whole = more_below s (s ∷ []) closed (one_below s closed);
    answer = truths.closed;
    keeps = plain_keeps r (s ∷ s ∷ []) V.Bool without (λ c vs h. gives c vs);
  }

  pub eq_is : (s : Shape) → below 1 s ≡ true → MemberIs types (comparison B.Eq s)
  eq_is s closed = compared_is B.Eq s closed refl (λ c vs. same_given types c (same (map out-Value vs)))

  pub neq_is : (s : Shape) → below 1 s ≡ true → MemberIs types (comparison B.Neq s)
  neq_is s closed = compared_is B.Neq s closed refl (λ c vs. other_given types c (same (map out-Value vs)))

  -- ---- vectors

  pub on_vector : (r : Row) (s : Shape) → Plain s → has_state r ≡ false
      → ((c : Choice) (items : List Value) → GivesA types c s (row_of r (W.Vector items ∷ [])))
      → MemberIs types (member r (V.Vector (V.Variable 0) ∷ []) s)
  on_vector r s plain_s without gives = record {
    whole = one_below (V.Vector (V.Variable 0)) vector_below;
    answer = plain_s.closed;
    keeps = plain_keeps r (V.Vector (V.Variable 0) ∷ []) s without (λ c vs h.
        of_vector types vs (put c (V.Variable 0)) (λ os. GivesA types c s (row_of r os))
        (subst (λ ss. each_fits (map (fits types) vs) ss ≡ true) (λ i. vector_put c (V.Variable 0) i ∷ []) h) (gives c));
  }

  -- so many times an item
  filled : (c : Choice) (vs : List Value) → FitAll types c (V.Int ∷ V.Variable 0 ∷ []) vs → GivesA types c (V.Vector (V.Variable 0)) (row B.VectorInit vs)
  filled c vs h =
      let g = two_arguments types vs V.Int (put c (V.Variable 0))
      (subst (λ s. each_fits (map (fits types) vs) (s ∷ put c (V.Variable 0) ∷ []) ≡ true) (ints.stays c) h) in
      let x = integer_value types g.0 g.3 in
      subst (λ us. GivesA types c (V.Vector (V.Variable 0)) (row B.VectorInit us)) (sym g.2)
      (subst (λ o. GivesA types c (V.Vector (V.Variable 0)) (row_of B.VectorInit (o ∷ out-Value g.1 ∷ []))) (sym x.1)
      (vector_given types c (V.Variable 0) x.0 (roll-Value (out-Value g.1))
      (subst (λ u. Fits types c (V.Variable 0) u) (sym (roll-out-Value g.1)) g.4)))

  pub vector_init_is : MemberIs types (member B.VectorInit (V.Int ∷ V.Variable 0 ∷ []) (V.Vector (V.Variable 0)))
  vector_init_is = record {
    whole = more_below V.Int (V.Variable 0 ∷ []) ints.closed (one_below (V.Variable 0) variable_below);
    answer = vector_below;
    keeps = plain_keeps B.VectorInit (V.Int ∷ V.Variable 0 ∷ []) (V.Vector (V.Variable 0)) refl filled;
  }

  -- ---- members on the state, by their parameters

  integer_is : (v : Value) → fits types v V.Int ≡ true → (z : ℤ) × (v ≡ Val.Integer z)
  integer_is v h =
      let p = integer_value types v h in
      (p.0, sym (roll-out-Value v) ∙ ap roll-Value p.1 ∙ Val.rolls-Integer p.0)

  word_is : (v : Value) → fits types v V.Bits ≡ true → (b : Bits) × (v ≡ Val.Bits b)
  word_is v h =
      let p = bits_value types v h in
      (p.0, sym (roll-out-Value v) ∙ ap roll-Value p.1 ∙ Val.rolls-Bits p.0)

  text_is : (v : Value) → fits types v V.String ≡ true → (t : List ℕ) × (v ≡ Val.String t)
  text_is v h =
      let p = string_value types v h in
      (p.0, sym (roll-out-Value v) ∙ ap roll-Value p.1 ∙ Val.rolls-String p.0)

  three_arguments : (vs : List Value) (r s t : Shape) → each_fits (map (fits types) vs) (r ∷ s ∷ t ∷ []) ≡ true
      → (u : Value) × (v : Value) × (w : Value) × (vs ≡ u ∷ v ∷ w ∷ []) × (fits types u r ≡ true) × (fits types v s ≡ true) × (fits types w t ≡ true)
  three_arguments [] r s t h = no h
  three_arguments (u ∷ vs) r s t h =
      let p = and_parts (fits types u r) (each_fits (map (fits types) vs) (s ∷ t ∷ [])) h in
      let q = two_arguments types vs s t p.1 in
      (u, q.0, q.1, ap (λ ws. u ∷ ws) q.2, p.0, q.3, q.4)

  pub at_place : (r : Row) (s : Shape) → Plain s → has_state r ≡ true
      → ((c : Choice) (hart : ℕ) (state : RunState) (z : ℤ) (a : Bits) → EndsAs types c s state (call_of r hart (Val.Integer z ∷ Val.Bits a ∷ [])))
      → MemberIs types (member r (V.Int ∷ V.Bits ∷ []) s)
  at_place r s plain_s on ends = record {
    whole = more_below V.Int (V.Bits ∷ []) ints.closed (one_below V.Bits words.closed);
    answer = plain_s.closed;
    keeps = state_keeps r (V.Int ∷ V.Bits ∷ []) s on (λ c hart state vs h.
        let g = two_arguments types vs V.Int V.Bits (two_fit c vs V.Int V.Bits ints words h) in
        let x = integer_is g.0 g.3 in
        let y = word_is g.1 g.4 in
        subst (λ us. EndsAs types c s state (call_of r hart us)) (sym (g.2 ∙ (λ i. x.1 i ∷ y.1 i ∷ []))) (ends c hart state x.0 y.0));
  }

  pub at_word : (r : Row) (s : Shape) → Plain s → has_state r ≡ true
      → ((c : Choice) (hart : ℕ) (state : RunState) (z : ℤ) (a b : Bits)
      → EndsAs types c s state (call_of r hart (Val.Integer z ∷ Val.Bits a ∷ Val.Bits b ∷ [])))
      → MemberIs types (member r (V.Int ∷ V.Bits ∷ V.Bits ∷ []) s)
  at_word r s plain_s on ends = record {
    whole = more_below V.Int (V.Bits ∷ V.Bits ∷ []) ints.closed (more_below V.Bits (V.Bits ∷ []) words.closed (one_below V.Bits words.closed));
    answer = plain_s.closed;
    keeps = state_keeps r (V.Int ∷ V.Bits ∷ V.Bits ∷ []) s on (λ c hart state vs h.
        let g = three_arguments vs V.Int V.Bits V.Bits (three_fit c vs V.Int V.Bits V.Bits ints words words h) in
        let x = integer_is g.0 g.4 in
        let y = word_is g.1 g.5 in
        let z = word_is g.2 g.6 in
        subst (λ us. EndsAs types c s state (call_of r hart us)) (sym (g.3 ∙ (λ i. x.1 i ∷ y.1 i ∷ z.1 i ∷ []))) (ends c hart state x.0 y.0 z.0));
  }

  pub of_text : (r : Row) (s : Shape) → Plain s → has_state r ≡ true
      → ((c : Choice) (hart : ℕ) (state : RunState) (text : List ℕ) → EndsAs types c s state (call_of r hart (Val.String text ∷ [])))
      → MemberIs types (member r (V.String ∷ []) s)
  of_text r s plain_s on ends = record {
    whole = one_below V.String texts.closed;
    answer = plain_s.closed;
    keeps = state_keeps r (V.String ∷ []) s on (λ c hart state vs h.
        let g = one_argument types vs V.String (one_fits c vs V.String texts h) in
        let x = text_is g.0 g.2 in
        subst (λ us. EndsAs types c s state (call_of r hart us)) (sym (g.1 ∙ (λ i. x.1 i ∷ []))) (ends c hart state x.0));
  }

  pub of_bits : (r : Row) (s : Shape) → Plain s → has_state r ≡ true
      → ((c : Choice) (hart : ℕ) (state : RunState) (b : Bits) → EndsAs types c s state (call_of r hart (Val.Bits b ∷ [])))
      → MemberIs types (member r (V.Bits ∷ []) s)
  of_bits r s plain_s on ends = record {
    whole = one_below V.Bits words.closed;
    answer = plain_s.closed;
    keeps = state_keeps r (V.Bits ∷ []) s on (λ c hart state vs h.
        let g = one_argument types vs V.Bits (one_fits c vs V.Bits words h) in
        let x = word_is g.0 g.2 in
        subst (λ us. EndsAs types c s state (call_of r hart us)) (sym (g.1 ∙ (λ i. x.1 i ∷ []))) (ends c hart state x.0));
  }
