-- A function's own variables: the first of its walk, which stand for the numbers of the call.
use Rattle.std.proofs.Common.{◌≡◌, ◌∙◌, ap, sym, refl, ℕ, zero, suc, ◌+◌, ◌<◌, ◌≤◌, nat_lt, arith, Bool, true, false, List, [], ◌∷◌, ◌++◌, length}
use Rattle.std.proofs.Common.{Option, Some, None, if◌then◌else◌}
use Rattle.std.proofs.lemmas.Bool.{and_parts, lt-ltb, ltb-true}
use Rattle.std.proofs.lemmas.Bool.Decides.{Decides-int_eq}
use Rattle.std.specs.Bool.{beq}
use Rattle.std.specs.Prelude.{ℤ, int_le, pos}
use Rattle.sail_base.specs.declared.kind.Kind.{Kind}
use Rattle.sail_base.specs.declared.kind.Kind.TheVariants as K
use Rattle.sail_types.specs.Belongs.{assigned, reading}
use Rattle.sail_types.specs.Numbers.{Positive, number, true_in}
use Rattle.sail_types.specs.Places.{Given, an_int, a_bool}
use Rattle.sail_types.specs.Readings.{truth_at, truth_or_false}
use Rattle.sail_types.specs.Sums.{number_at, number_or_zero, read, zero_num}
use Rattle.sail_types.specs.declared.numbers.Con.{Con, out-Con}
use Rattle.sail_types.specs.declared.table.Parameter.{Parameter}
use Rattle.sail_types.specs.declared.types.Typ.{Typ}
use Rattle.sail_types.specs.declared.types.Typ.TheVariants as T
use Rattle.sail_types.proofs.Substituted.{number_constant}
use Rattle.sail_core.specs.declared.model.Function.{Function}
use Rattle.sail_core.specs.Making.{World}
use Rattle.sail_core.specs.Numbers.{agrees, all_agree}
use Rattle.value_indices.specs.declared.indices.Indices.TheOpen as W
use Rattle.value_indices.specs.declared.indices.Indices.TheFolds.{fold-roll-Reading}
use Rattle.value_indices.specs.declared.indices.Indices.TheViews.{out-roll-Reading}
use Rattle.value_indices.specs.declared.indices.Reading.TheVariants as R
use Rattle.value_indices.specs.declared.notes.Fact.{Fact}
use Rattle.value_indices.specs.declared.notes.Fact.TheVariants as Y
use Rattle.value_indices.specs.Opening.{largest_num}
use Rattle.value_indices.specs.Steps.{Note, name_note, went, bind, give, assume, fresh_named}
use Rattle.call_arguments.specs.Aims.{aimed, is_hole, is_hole_form}
use Rattle.call_arguments.specs.Holes.{has_hole, type_holed, value_holed}
use Rattle.call_arguments.specs.Placing.{is_trivial_form}
use Rattle.call_arguments.specs.declared.aims.Aim.TheVariants as Aims
use Rattle.expression_steps.specs.Statements.{natural_type}
use Rattle.function_notes.specs.Functions.{constrained, own_indices, variable_index as walked_index}
use Rattle.value_laws.specs.Belonging.{Integers, standing, closed, closeds, over}
use Rattle.value_laws.specs.Known.{Point, Agree}
use Rattle.value_laws.proofs.Numbers.{beyond_past, holds_is, truth_is, variable_is}
use Rattle.value_laws.proofs.Values.{closed_is}
use Rattle.checked_meaning.specs.Items.{Item}
use Rattle.call_fits.specs.Calls.{given_of, givens_at, own_variables, variable_index}
use Rattle.soundness_steps.specs.Works.{Scene, Setting, Work}
use Rattle.soundness_steps.specs.Covers.{given_there}
use Rattle.soundness_steps.specs.Noted.{GivenIs, HasNumbers}
use Rattle.soundness_steps.specs.Calls.{inside}
use Rattle.soundness_steps.specs.Values.{IsSteady}
use Rattle.soundness_forms.specs.Worlds.{AreGiven}
use Rattle.soundness_calls.specs.Premises.{OwnSame, own_of, own_type}

-- ---- the walk over them

abbrev pub own_next : ℕ → List Parameter → ℕ
own_next n [] = n
own_next n (p ∷ ps) = own_next (suc n) ps

abbrev pub own_names : ℕ → List Parameter → List Note
own_names n [] = []
own_names n (p ∷ ps) = name_note n p.name ∷ own_names (suc n) ps

nothing_behind : (ns : List Note) → ns ++ [] ≡ ns
nothing_behind [] = refl
nothing_behind (x ∷ ns) = λ i. x ∷ nothing_behind ns i

same_index : (kind : Kind) (v : ℕ) → walked_index kind v ≡ variable_index kind v
same_index K.Bool v = refl
same_index K.Int v = refl
same_index K.Type v = refl

pub own_is : (ps : List Parameter) (facts : List Fact) (n : ℕ) → own_indices ps facts n ≡ went (own_variables n ps) facts (own_next n ps) (own_names n ps)
unfolding bind give fresh_named
own_is [] facts n = refl
own_is (p ∷ ps) facts n = λ j.
    went (same_index p.kind n j ∷ (own_is ps facts (suc n) j).value) (own_is ps facts (suc n) j).facts (own_is ps facts (suc n) j).next
    (name_note n p.name ∷ nothing_behind (own_is ps facts (suc n) j).notes j)

-- a constraint comes into force, where there is one
abbrev pub constraint_facts : Bool → Con → List Fact
constraint_facts true c = []
constraint_facts false c = Y.Holds c ∷ []

pub constrained_is : (c : Con) (n : ℕ) → constrained c [] n ≡ went tt (constraint_facts (is_trivial_form (out-Con c)) c) n []
unfolding give assume
constrained_is c n = by (is_trivial_form (out-Con c))
  where
    by : (b : Bool) → (if b then give tt else assume c) [] n ≡ went tt (constraint_facts b c) n []
    by true = refl
    by false = refl

next_is_length : (n : ℕ) (ps : List Parameter) → own_next n ps ≡ n + length ps
next_is_length n [] = omega arith
next_is_length n (p ∷ ps) = let h : own_next (suc n) ps ≡ suc n + length ps = next_is_length (suc n) ps in omega (arith, h)

pub own_count : (f : Function) → own_next 0 f.variables ≡ length f.variables
own_count f = let h : own_next 0 f.variables ≡ 0 + length f.variables = next_is_length 0 f.variables in omega (arith, h)

-- ---- the point behind them

abbrev pub own_point : (f : Function) → Integers → Point (own_next 0 f.variables)
own_point f h = record {
  fixed = λ i. nat_lt i (own_next 0 f.variables);
  integers = h;
  before = λ i e. ltb-true i (own_next 0 f.variables) e;
}

pub own_agree : (f : Function) (h g : Integers) → Agree (own_point f h) g → OwnSame f h g
own_agree f h g a i less =
    let count : own_next 0 f.variables ≡ length f.variables = own_count f in
    let under : i < own_next 0 f.variables = omega (arith, count, less) in
    a.same i (lt-ltb i (own_next 0 f.variables) under)

same_truth : (b c : Bool) → beq b c ≡ true → b ≡ c
same_truth true true e = refl
same_truth true false e = absurd (cc)
same_truth false true e = absurd (cc)
same_truth false false e = refl

-- ---- types of parameters and of the result hang on them alone

-- from these on
abbrev pub SameFrom : ℕ → ℕ → Integers → Integers → Type 0
SameFrom k count h g = (i : ℕ) → k ≤ i → i < k + count → h i ≡ g i

same_behind : (k count : ℕ) (h g : Integers) → SameFrom k (suc count) h g → SameFrom (suc k) count h g
same_behind k count h g a i le less = let more : suc k ≤ i = le in let under : i < suc k + count = less in a i (omega (arith, more)) (omega (arith, under))

module _ (past : Positive) (h g : Integers) where
  one_number : (kind : Kind) (k : ℕ) → h k ≡ g k
      → number (standing past g) (number_or_zero (Some (variable_index kind k))) ≡ number (standing past h) (number_or_zero (Some (variable_index kind k)))
  one_number K.Int k e = variable_is past g k ∙ sym e ∙ sym (variable_is past h k)
  one_number K.Bool k e = number_constant (standing past g) (pos 0) ∙ sym (number_constant (standing past h) (pos 0))
  one_number K.Type k e = variable_is past g k ∙ sym e ∙ sym (variable_is past h k)

  one_truth : (kind : Kind) (k : ℕ) → h k ≡ g k
      → true_in (standing past g) (truth_or_false (Some (variable_index kind k))) ≡ true_in (standing past h) (truth_or_false (Some (variable_index kind k)))
  one_truth K.Int k e = truth_is (standing past g) false ∙ sym (truth_is (standing past h) false)
  one_truth K.Bool k e = holds_is (standing past g) k ∙ ap (int_le (pos 1)) (sym e) ∙ sym (holds_is (standing past h) k)
  one_truth K.Type k e = truth_is (standing past g) false ∙ sym (truth_is (standing past h) false)

  numbers_same : (ps : List Parameter) (k : ℕ) → SameFrom k (length ps) h g → (i : ℕ)
      → number (standing past g) (number_at (own_variables k ps) i) ≡ number (standing past h) (number_at (own_variables k ps) i)
  numbers_same [] k a i = number_constant (standing past g) (pos 0) ∙ sym (number_constant (standing past h) (pos 0))
  numbers_same (p ∷ ps) k a zero = one_number p.kind k (a k (omega arith) (omega arith))
  numbers_same (p ∷ ps) k a (suc i) = numbers_same ps (suc k) (same_behind k (length ps) h g a) i

  truths_same : (ps : List Parameter) (k : ℕ) → SameFrom k (length ps) h g → (i : ℕ)
      → true_in (standing past g) (truth_at (own_variables k ps) i) ≡ true_in (standing past h) (truth_at (own_variables k ps) i)
  truths_same [] k a i = truth_is (standing past g) false ∙ sym (truth_is (standing past h) false)
  truths_same (p ∷ ps) k a zero = one_truth p.kind k (a k (omega arith) (omega arith))
  truths_same (p ∷ ps) k a (suc i) = truths_same ps (suc k) (same_behind k (length ps) h g a) i

  pub own_assigned : (ps : List Parameter) → SameFrom 0 (length ps) h g
      → assigned (standing past g) (own_variables 0 ps) ≡ assigned (standing past h) (own_variables 0 ps)
  own_assigned ps a = λ j. record {
    int = λ i. numbers_same ps 0 a i j;
    bool = λ i. truths_same ps 0 a i j;
    beyond = λ t. (beyond_past past g (read (own_variables 0 ps) t) ∙ sym (beyond_past past h (read (own_variables 0 ps) t))) j;
  }

pub same_from : (f : Function) (h g : Integers) → OwnSame f h g → SameFrom 0 (length f.variables) h g
same_from f h g a i le less = let under : i < 0 + length f.variables = less in a i (omega (arith, under))

pub own_closed : (set : Setting) (x : Work) (f : Function) (h g : Integers) (t : Typ) → OwnSame f h g
    → closed set.around.types (standing set.past g) x.types (own_type f t) ≡ closed set.around.types (standing set.past h) x.types (own_type f t)
own_closed set x f h g t a =
    closed_is set.around.types (standing set.past g) x.types (own_type f t) (W.Of t (own_of f) []) (R.rolls-Of t (own_of f) [])
    ∙ (λ j. reading t (own_assigned set.past h g f.variables (same_from f h g a) j) (closeds x.types))
    ∙ sym (closed_is set.around.types (standing set.past h) x.types (own_type f t) (W.Of t (own_of f) []) (R.rolls-Of t (own_of f) []))

-- a type of a parameter or of the result
pub own_over : (set : Setting) (x : Work) (f : Function) (h : Integers) (t : Typ)
    → closed set.around.types (standing set.past h) x.types (own_type f t) ≡ over (inside set f h) t x.types
own_over set x f h t = closed_is set.around.types (standing set.past h) x.types (own_type f t) (W.Of t (own_of f) []) (R.rolls-Of t (own_of f) [])

-- and it has no hole
pub own_hole : (f : Function) (t : Typ) → has_hole (own_type f t) ≡ false
own_hole f t = ap has_hole (sym (R.rolls-Of t (own_of f) [])) ∙ fold-roll-Reading Bool Bool value_holed type_holed (W.Of t (own_of f) [])

-- nothing is wanted of a hole alone
pub own_aim : (f : Function) (t : Typ) → aimed Aims.Due (own_type f t) ≡ Aims.Due (own_type f t)
own_aim f t =
    ap (λ b. if b then Aims.Free else Aims.Due (own_type f t))
    (ap is_hole (sym (R.rolls-Of t (own_of f) [])) ∙ ap is_hole_form (out-roll-Reading (W.Of t (own_of f) [])))

-- ---- the numbers of the call

agreed : (kind : Kind) (o : Option Given) (y z : ℤ) → y ≡ z → agrees o (given_of kind y) ≡ true → GivenIs o z
agreed kind None y z s e = tt
agreed K.Int (Some (an_int x)) y z s e = sym s ∙ sym ((Decides-int_eq x y).0 e)
agreed K.Type (Some (an_int x)) y z s e = sym s ∙ sym ((Decides-int_eq x y).0 e)
agreed K.Bool (Some (an_int x)) y z s e = absurd (cc)
agreed K.Int (Some (a_bool b)) y z s e = absurd (cc)
agreed K.Type (Some (a_bool b)) y z s e = absurd (cc)
agreed K.Bool (Some (a_bool b)) y z s e = ap (int_le (pos 1)) (sym s) ∙ sym (same_truth b (int_le (pos 1) y) e)

-- those that are awaited
pub all_agreed : (k : ℕ) (gs : List (Option Given)) (ps : List Parameter) (h g : Integers) → SameFrom k (length ps) h g
    → all_agree gs (givens_at h k ps) ≡ true → HasNumbers k gs g
all_agreed k [] ps h g a e = tt
all_agreed k (o ∷ gs) [] h g a e = absurd (cc)
all_agreed k (o ∷ gs) (p ∷ ps) h g a e =
    let both = and_parts (agrees o (given_of p.kind (h k))) (all_agree gs (givens_at h (suc k) ps)) e in (
      agreed p.kind o (h k) (g k) (a k (omega arith) (omega arith)) both.0,
      all_agreed (suc k) gs ps h g (same_behind k (length ps) h g a) both.1,
    )

one_given : (past : Positive) (kind : Kind) (k : ℕ) (y : ℤ) (g : Integers) → y ≡ g k → given_of kind y ≡ given_there past g (variable_index kind k)
one_given past K.Int k y g e = ap an_int (e ∙ sym (variable_is past g k))
one_given past K.Bool k y g e = ap a_bool (ap (int_le (pos 1)) e ∙ sym (holds_is (standing past g) k))
one_given past K.Type k y g e = ap an_int (e ∙ sym (variable_is past g k))

-- what the function's variables stand for
pub all_given : (q : Scene) (w : World Item) {n : ℕ} {p : Point n} (ps : List Parameter) (k : ℕ) (h : Integers)
    → ((g : Integers) → Agree p g → SameFrom k (length ps) h g) → AreGiven q w p (own_variables k ps) (givens_at h k ps)
all_given q w [] k h a = tt
all_given q w (p ∷ ps) k h a = (
  λ g b. one_given q.set.past p.kind k (h k) g (a g b k (omega arith) (omega arith)),
  all_given q w ps (suc k) h (λ g b. same_behind k (length ps) h g (a g b)),
)

-- ---- a natural number

pub natural_steady : (set : Setting) (x : Work) {n : ℕ} (p : Point n) → IsSteady set x p natural_type
natural_steady set x p g a =
    closed_is set.around.types (standing set.past g) x.types natural_type (W.Of (T.Range zero_num largest_num) [] [])
    (R.rolls-Of (T.Range zero_num largest_num) [] [])
    ∙ (λ j. reading (T.Range zero_num largest_num) (own_assigned set.past p.integers g [] none j) (closeds x.types))
    ∙ sym (closed_is set.around.types (standing set.past p.integers) x.types natural_type (W.Of (T.Range zero_num largest_num) [] [])
    (R.rolls-Of (T.Range zero_num largest_num) [] []))
  where
    none : SameFrom 0 0 p.integers g
    none i le less = let under : i < 0 + 0 = less in absurd (omega (arith, under))

pub natural_hole : has_hole natural_type ≡ false
natural_hole = ap has_hole (sym (R.rolls-Of (T.Range zero_num largest_num) [] []))
    ∙ fold-roll-Reading Bool Bool value_holed type_holed (W.Of (T.Range zero_num largest_num) [] [])
