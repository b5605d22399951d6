-- What the numbers and constraints of the table are under an assignment.
use Rattle.std.proofs.Common.{◌≡◌, ℕ, ◌<◌, ◌^◌, Bool, true, [], ◌∷◌, ap, sym, ◌∙◌, refl, arith}
use Rattle.std.specs.Prelude.{ℤ, pos, ◌+ℤ◌, ◌*ℤ◌, ◌≤ℤ◌, int_le, Some, None, unwrap_or, cond, nat_lt}
use Rattle.std.specs.List.{list_all}
use Rattle.std.proofs.lemmas.Int.{ints}
use Rattle.std.proofs.lemmas.Bool.{and_parts, and_from, lt-ltb}
use Rattle.std.proofs.lemmas.Bool.Decides.{Decides-int_eq}
use Rattle.sail_types.specs.Limits.{small_power}
use Rattle.sail_types.specs.Numbers.{Assignment, number, number_of_term, true_in, form_true, compares}
use Rattle.sail_types.specs.Sums.{term, constant, variable}
use Rattle.sail_types.specs.declared.numbers.Num.{Num}
use Rattle.sail_types.specs.declared.numbers.Atom.TheVariants as A
use Rattle.sail_types.specs.declared.numbers.Comparison.{Comparison}
use Rattle.sail_types.specs.declared.numbers.Comparison.TheVariants as Is
use Rattle.sail_types.specs.declared.numbers.Con.{Con, fold-roll-Con}
use Rattle.sail_types.specs.declared.numbers.Con.TheOpen as F
use Rattle.sail_types.specs.declared.numbers.Con.TheVariants as C
use Rattle.sail_types.proofs.SumNumbers.{number_num, number_term}
use Rattle.sail_types.proofs.Substituted.{number_atom, number_constant, atom_variable, atom_power}
use Rattle.row_types.specs.Formulas.{times, plus_times, times_power, at_most, equal, within, first, second, as_wide}

-- ---- numbers

pub number_variable : (nu : Assignment) (i : ℕ) → number nu (variable i) ≡ nu.int i
number_variable nu i = number_atom nu (A.Variable i) ∙ atom_variable nu i

variable_term : (nu : Assignment) (c : ℤ) (i : ℕ) → number_of_term nu (term c (A.Variable i)) ≡ c *ℤ nu.int i
variable_term nu c i = number_term nu c (A.Variable i) ∙ ap (λ z. c *ℤ z) (atom_variable nu i)

pub number_times : (nu : Assignment) (c : ℤ) (i : ℕ) (d : ℤ) → number nu (times c i d) ≡ c *ℤ nu.int i +ℤ d
number_times nu c i d =
    let w : number nu (times c i d) ≡ (number_of_term nu (term c (A.Variable i)) +ℤ pos 0) +ℤ d = number_num nu _ d in
    omega (arith, ints, w, variable_term nu c i)

pub number_plus_times : (nu : Assignment) (i : ℕ) (c : ℤ) (j : ℕ) (d : ℤ)
    → number nu (plus_times i c j d) ≡ (pos 1 *ℤ nu.int i +ℤ c *ℤ nu.int j) +ℤ d
number_plus_times nu i c j d =
    let w : number nu (plus_times i c j d)
    ≡ (number_of_term nu (term (pos 1) (A.Variable i)) +ℤ
    (number_of_term nu (term c (A.Variable j)) +ℤ pos 0)) +ℤ d = number_num nu _ d in
    omega (arith, ints, w, variable_term nu (pos 1) i, variable_term nu c j)

power_is : (b : Bool) (x : ℤ) (z : ℤ) → b ≡ true → unwrap_or (cond b (Some z) None) x ≡ z
power_is b x z h = ap (λ t. unwrap_or (cond t (Some z) None) x) h

pub number_times_power :
    (nu : Assignment) (c e d : ℤ) (k : ℕ) → pos 1 *ℤ nu.int 0 +ℤ e ≡ pos k → k < 127
    → number nu (times_power c e d) ≡ c *ℤ pos (2 ^ k) +ℤ d
number_times_power nu c e d k h small =
    let w : number nu (times_power c e d) ≡
    (number_of_term nu (term c (A.Power (times (pos 1) 0 e))) +ℤ pos 0) +ℤ d = number_num nu _ d in
    let p : number_of_term nu (term c (A.Power (times (pos 1) 0 e))) ≡ c *ℤ pos (2 ^ k) =
    number_term nu c (A.Power (times (pos 1) 0 e))
    ∙ ap (λ z. c *ℤ z) (atom_power nu (times (pos 1) 0 e)
    ∙ ap (λ z. unwrap_or (small_power z) (nu.beyond (times (pos 1) 0 e)).value) (number_times nu (pos 1) 0 e ∙ h)
    ∙ power_is (nat_lt k 127) (nu.beyond (times (pos 1) 0 e)).value (pos (2 ^ k)) (lt-ltb k 127 small)) in
    omega (arith, ints, w, p)

-- ---- constraints

pub true_compare : (nu : Assignment) (how : Comparison) (t u : Num)
    → true_in nu (C.Compare how t u) ≡ compares how (number nu t) (number nu u)
true_compare nu how t u = ap (true_in nu) (sym (C.rolls-Compare how t u))
    ∙ fold-roll-Con Bool (form_true nu) (F.Compare how t u)

pub le_from : (a b : ℤ) → int_le a b ≡ true → a ≤ℤ b
le_from a b h = grind (arith, ints)

pub le_to : (a b : ℤ) → a ≤ℤ b → int_le a b ≡ true
le_to a b h = grind (arith, ints)

pub at_most_from : (nu : Assignment) (t u : Num) → true_in nu (at_most t u) ≡ true → number nu t ≤ℤ number nu u
at_most_from nu t u h = le_from (number nu t) (number nu u) (sym (true_compare nu Is.LessEqual t u) ∙ h)

pub at_most_to : (nu : Assignment) (t u : Num) → number nu t ≤ℤ number nu u → true_in nu (at_most t u) ≡ true
at_most_to nu t u h = true_compare nu Is.LessEqual t u ∙ le_to (number nu t) (number nu u) h

pub equal_from : (nu : Assignment) (t u : Num) → true_in nu (equal t u) ≡ true → number nu t ≡ number nu u
equal_from nu t u h = (Decides-int_eq (number nu t) (number nu u)).0 (sym (true_compare nu Is.Equal t u) ∙ h)

pub within_from : (nu : Assignment) (low : ℤ) (t : Num) (high : ℤ) → list_all (true_in nu) (within low t high) ≡ true
    → (low ≤ℤ number nu t) × (number nu t ≤ℤ high)
within_from nu low t high h =
    let p = and_parts (true_in nu (at_most (constant low) t))
    (list_all (true_in nu) (at_most t (constant high) ∷ [])) h in
    let q = and_parts (true_in nu (at_most t (constant high))) (list_all (true_in nu) []) p.1 in
    let below = at_most_from nu (constant low) t p.0 in
    let above = at_most_from nu t (constant high) q.0 in
    (omega (arith, ints, number_constant nu low), omega (arith, ints, number_constant nu high))

-- ---- lists of them

pub one_from : (nu : Assignment) (c : Con) → list_all (true_in nu) (c ∷ []) ≡ true → true_in nu c ≡ true
one_from nu c h = (and_parts (true_in nu c) true h).0

pub two_from : (nu : Assignment) (c d : Con) → list_all (true_in nu) (c ∷ d ∷ []) ≡ true
    → (true_in nu c ≡ true) × (true_in nu d ≡ true)
two_from nu c d h =
    let p = and_parts (true_in nu c) (list_all (true_in nu) (d ∷ [])) h in
    (p.0, one_from nu d p.1)

-- a variable is at least a constant, or at most one
pub at_least_from : (nu : Assignment) (low : ℤ) (i : ℕ) → true_in nu (at_most (constant low) (variable i)) ≡ true
    → low ≤ℤ nu.int i
at_least_from nu low i h =
    let p = at_most_from nu (constant low) (variable i) h in
    omega (arith, ints, number_constant nu low, number_variable nu i)

pub up_to_from : (nu : Assignment) (i : ℕ) (high : ℤ) → true_in nu (at_most (variable i) (constant high)) ≡ true
    → nu.int i ≤ℤ high
up_to_from nu i high h =
    let p = at_most_from nu (variable i) (constant high) h in
    omega (arith, ints, number_constant nu high, number_variable nu i)

pub variables_from : (nu : Assignment) (i j : ℕ) → true_in nu (at_most (variable i) (variable j)) ≡ true
    → nu.int i ≤ℤ nu.int j
variables_from nu i j h =
    let p = at_most_from nu (variable i) (variable j) h in
    omega (arith, ints, number_variable nu i, number_variable nu j)

pub as_wide_from : (nu : Assignment) → list_all (true_in nu) as_wide ≡ true → nu.int 0 ≡ nu.int 1
as_wide_from nu h = sym (number_variable nu 0) ∙ equal_from nu first second (one_from nu (equal first second) h)
    ∙ number_variable nu 1

pub two_hold : (nu : Assignment) (c d : Con) → true_in nu c ≡ true → true_in nu d ≡ true
    → list_all (true_in nu) (c ∷ d ∷ []) ≡ true
two_hold nu c d h k = and_from (true_in nu c) (list_all (true_in nu) (d ∷ [])) h (and_from (true_in nu d) true k refl)

pub compare_variables : (nu : Assignment) (i j : ℕ) → nu.int i ≤ℤ nu.int j
    → true_in nu (at_most (variable i) (variable j)) ≡ true
compare_variables nu i j h =
    let p = number_variable nu i in
    let q = number_variable nu j in
    at_most_to nu (variable i) (variable j) (omega (arith, ints))
