-- The numbers of type variables in a run, and of what is written over them.
use Rattle.std.specs.Bool.{beq}
use Rattle.std.specs.Prelude.{ℕ, zero, suc, ℤ, pos, ◌+ℤ◌, ◌*ℤ◌, not, Bool, true, false, ◌&&◌, if◌then◌else◌}
use Rattle.std.specs.Prelude.{List, [], ◌∷◌, map, slice_get, Option, Some, None, option_map}
use Rattle.std.specs.Ordering.{int_eq}
use Rattle.std.specs.List.{list_all, list_any}
use Rattle.sail_types.specs.Limits.{is_small, small_power}
use Rattle.sail_types.specs.Numbers.{compares}
use Rattle.sail_types.specs.Places.{Given, an_int, a_bool, placed, among}
use Rattle.sail_types.specs.Readings.{more, together}
use Rattle.sail_types.specs.Sums.{and_then}
use Rattle.sail_types.specs.declared.numbers.Num.{Num}
use Rattle.sail_types.specs.declared.numbers.Atom.TheOpen as N
use Rattle.sail_types.specs.declared.numbers.Atom.TheOpen.{Atom-F, Num-F, Term-F}
use Rattle.sail_types.specs.declared.numbers.Atom.TheFolds.{fold-Num}
use Rattle.sail_types.specs.declared.numbers.Con.{Con, Con-F, fold-Con}
use Rattle.sail_types.specs.declared.numbers.Con.TheOpen as C
use Rattle.sail_types.specs.declared.types.Typ.{Typ}
use Rattle.sail_types.specs.declared.values.Value.{Value}

-- what the type variables of the function at work stand for, by their numbers
abbrev pub Givens : Type 0
Givens = List Given

-- ---- at a call

abbrev pub givens_from : ℕ → ℕ → List Typ → List Value → Option Givens
givens_from zero i ts vs = Some []
givens_from (suc n) i ts vs = more (among (map placed ts) i vs) (givens_from n (suc i) ts vs)

-- the numbers of so many variables, each from the first parameter, or part of a tuple parameter, that gives it
abbrev pub givens_of : ℕ → List Typ → List Value → Option Givens
givens_of n ts vs = givens_from n 0 ts vs

-- ---- `sizeof` and `constraint`

abbrev pub given_int : Option Given → Option ℤ
given_int (Some (an_int z)) = Some z
given_int given = None

abbrev pub given_bool : Option Given → Option Bool
given_bool (Some (a_bool b)) = Some b
given_bool given = None

-- within the limit of integers
abbrev pub small : ℤ → Option ℤ
small z = if is_small z then Some z else None

abbrev pub known_atom : Givens → Atom-F (Option ℤ) (Option ℤ) (Option ℤ) → Option ℤ
known_atom nu (N.Variable i) = given_int (slice_get nu i)
known_atom nu (N.Power t) = and_then t small_power

abbrev pub known_term : Term-F (Option ℤ) (Option ℤ) (Option ℤ) → Option ℤ
known_term term = and_then term.atom (λ z. small (term.coefficient *ℤ z))

-- terms are added one after the other, each sum within the limit
abbrev pub added : List (Option ℤ) → ℤ → Option ℤ
added [] sum = Some sum
added (t ∷ ts) sum = and_then t (λ z. and_then (small (sum +ℤ z)) (added ts))

abbrev pub known_sum : Num-F (Option ℤ) (Option ℤ) (Option ℤ) → Option ℤ
known_sum n = and_then (added n.terms (pos 0)) (λ z. small (z +ℤ n.constant))

-- the integer that a number is; none where an exponent isn't from 0 to 126, or a number on the way is past the limit
abbrev pub known : Givens → Num → Option ℤ
known nu = fold-Num (Option ℤ) (Option ℤ) (Option ℤ) (known_atom nu) known_sum known_term

abbrev pub known_form : Givens → Con-F (Option Bool) → Option Bool
known_form nu (C.Truth b) = Some b
known_form nu (C.Holds i) = given_bool (slice_get nu i)
known_form nu (C.Compare how t u) = and_then (known nu t) (λ x. option_map (compares how x) (known nu u))
known_form nu (C.OneOf t zs) = option_map (λ x. list_any (int_eq x) zs) (known nu t)
known_form nu (C.Not b) = option_map not b
known_form nu (C.All bs) = option_map (list_all (λ b. b)) (together bs)
known_form nu (C.Any bs) = option_map (list_any (λ b. b)) (together bs)

-- whether a constraint is true; none where a number in it isn't known
abbrev pub known_truth : Givens → Con → Option Bool
known_truth nu = fold-Con (Option Bool) (known_form nu)

-- ---- a function under the numbers of an instance

-- the instance that a call awaits: its place in the list of a reading, and its numbers
pub record Instance : Type 0 where
  pub place : ℕ
  pub numbers : List (Option Given)

-- none where the reading doesn't say which
abbrev pub Awaited : Type 0
Awaited = Option Instance

abbrev pub place_of : Awaited → ℕ
place_of None = 0
place_of (Some x) = x.place

abbrev pub same_given : Given → Given → Bool
same_given (an_int x) (an_int y) = int_eq x y
same_given (a_bool b) (a_bool c) = beq b c
same_given x y = false

abbrev pub agrees : Option Given → Given → Bool
agrees None y = true
agrees (Some x) y = same_given x y

abbrev pub all_agree : List (Option Given) → Givens → Bool
all_agree [] [] = true
all_agree (x ∷ xs) (y ∷ ys) = agrees x y && all_agree xs ys
all_agree xs ys = false

-- whether the numbers are those that were awaited
abbrev pub as_awaited : Awaited → Givens → Bool
as_awaited None nu = true
as_awaited (Some x) nu = all_agree x.numbers nu
