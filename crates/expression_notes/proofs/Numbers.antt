-- Numbers in a row.
use Rattle.std.proofs.Common.{◌≡◌, ◌∙◌, ◌<◌, ◌≤◌, ◌+◌, ap, sym, refl, ℕ, List, [], ◌∷◌, ◌++◌, length, drop, get_or, append_assoc, append-nil}
use Rattle.std.proofs.Common.{Option, Some, None}
use Rattle.sail_base.specs.declared.place.Place.{Place}
use Rattle.sail_core.specs.declared.tree.Core.{Core}
use Rattle.sail_types.specs.declared.numbers.Num.{Num}
use Rattle.value_indices.specs.Steps.{Walk, bind}
use Rattle.value_indices.specs.Walking.{Written, got, run}
use Rattle.value_indices.specs.declared.indices.Indices.{Indices}
use Rattle.value_indices.proofs.Walks.{got_bind, got_give, run_bind, run_give}
use Rattle.pattern_leaves.specs.Settings.{Around, Scope}
use Rattle.pattern_leaves.proofs.Rests.{rest_is, all_behind}
use Rattle.pattern_leaves.proofs.Walked.{then_got, then_run}
use Rattle.call_arguments.specs.declared.aims.Aim.TheVariants as Aims
use Rattle.call_notes.specs.Ends.{integer_number}
use Rattle.expression_steps.specs.Coded.{each_part}
use Rattle.expression_steps.specs.Expressions.{part}
use Rattle.expression_steps.specs.Parts.{Part, number_before, number_walk, numbers_behind, numbers_walk}
use Rattle.expression_notes.proofs.Alike.{Alike}

-- ---- the number of a part

module _ (a : Part) (around : Around) (scope : Scope) (w u v : Written) (value : Indices) (place : Place) (met : Option Num) (here : place ≡ a.place)
    (is : value ≡ got (a.walk around scope Aims.Free) w) (was : u ≡ run (a.walk around scope Aims.Free) w) where
  number_found : met ≡ got (integer_number place value) u → met ≡ got (number_walk a around scope) w
  number_found found =
      found
      ∙ ap (λ (p : Place). got (integer_number p value) u) here
      ∙ then_got (a.walk around scope Aims.Free) (integer_number a.place) w u value is was

  number_gone : v ≡ run (integer_number place value) u → v ≡ run (number_walk a around scope) w
  number_gone gone =
      gone
      ∙ ap (λ (p : Place). run (integer_number p value) u) here
      ∙ then_run (a.walk around scope Aims.Free) (integer_number a.place) w u value is was

  pub number_is : met ≡ got (integer_number place value) u → v ≡ run (integer_number place value) u
      → Alike met (got (number_walk a around scope) w) v (run (number_walk a around scope) w)
  number_is found gone = record { value = number_found found; walked = number_gone gone }

-- ---- those before, with what others are

abbrev pub more_numbers : List Num → Option (List Num) → Option (List Num)
more_numbers before None = None
more_numbers before (Some ns) = Some (before ++ ns)

abbrev pub with_number : Num → Option (List Num) → Option (List Num)
with_number n None = None
with_number n (Some ns) = Some (n ∷ ns)

one_more : (before : List Num) (n : Num) (o : Option (List Num)) → more_numbers (before ++ n ∷ []) o ≡ more_numbers before (with_number n o)
one_more before n None = refl
one_more before n (Some ns) = ap (λ (ms : List Num). Some ms) (append_assoc before (n ∷ []) ns)

before_got : (n : Num) (o : Option (List Num)) (w : Written) → got (number_before n o) w ≡ with_number n o
before_got n None w = got_give None w
before_got n (Some ns) w = got_give (Some (n ∷ ns)) w

before_run : (n : Num) (o : Option (List Num)) (w : Written) → run (number_before n o) w ≡ w
before_run n None w = run_give {A = Option (List Num)} None w
before_run n (Some ns) w = run_give (Some (n ∷ ns)) w

-- ---- a first number, and others

module _ (around : Around) (scope : Scope) where
  behind_got : (n : Num) (ps : List Part) (w : Written)
      → got (numbers_behind (numbers_walk ps around scope) (Some n)) w ≡ with_number n (got (numbers_walk ps around scope) w)
  behind_got n ps w =
      got_bind (numbers_walk ps around scope) (number_before n) w
      ∙ before_got n (got (numbers_walk ps around scope) w) (run (numbers_walk ps around scope) w)

  behind_run : (n : Num) (ps : List Part) (w : Written)
      → run (numbers_behind (numbers_walk ps around scope) (Some n)) w ≡ run (numbers_walk ps around scope) w
  behind_run n ps w =
      run_bind (numbers_walk ps around scope) (number_before n) w
      ∙ before_run n (got (numbers_walk ps around scope) w) (run (numbers_walk ps around scope) w)

  -- ---- one after the other

  abbrev left : List Core → ℕ → Walk (Option (List Num))
  left cs k = numbers_walk (each_part (drop k cs)) around scope

  opened : (cs : List Core) (k : ℕ) (c : Core) → k < length cs → c ≡ get_or cs k c
      → left cs k ≡ bind (number_walk (part c) around scope) (numbers_behind (left cs (k + 1)))
  opened cs k c within is = (λ j. numbers_walk (each_part (rest_is cs k c within is j)) around scope)

  module _ (cs : List Core) (k : ℕ) (c : Core) (w v : Written) (within : k < length cs) (is : c ≡ get_or cs k c)
      (was : v ≡ run (number_walk (part c) around scope) w) where
    number_more : (n : Num) (before now : List Num) → Some n ≡ got (number_walk (part c) around scope) w → now ≡ before ++ n ∷ []
        → more_numbers now (got (left cs (k + 1)) v) ≡ more_numbers before (got (left cs k) w)
    number_more n before now found grown =
        ap (λ (ns : List Num). more_numbers ns (got (left cs (k + 1)) v)) grown
        ∙ one_more before n (got (left cs (k + 1)) v)
        ∙ ap (more_numbers before) (sym (behind_got n (each_part (drop (k + 1) cs)) v)
        ∙ (λ j. got (numbers_behind (left cs (k + 1)) (found j)) (was j))
        ∙ sym (got_bind (number_walk (part c) around scope) (numbers_behind (left cs (k + 1))) w)
        ∙ sym (ap (λ (a : Walk (Option (List Num))). got a w) (opened cs k c within is)))

    number_walked : (n : Num) → Some n ≡ got (number_walk (part c) around scope) w → run (left cs (k + 1)) v ≡ run (left cs k) w
    number_walked n found =
        sym (behind_run n (each_part (drop (k + 1) cs)) v)
        ∙ (λ j. run (numbers_behind (left cs (k + 1)) (found j)) (was j))
        ∙ sym (run_bind (number_walk (part c) around scope) (numbers_behind (left cs (k + 1))) w)
        ∙ sym (ap (λ (a : Walk (Option (List Num))). run a w) (opened cs k c within is))

    pub number_onward : (n : Num) (before now : List Num) → Some n ≡ got (number_walk (part c) around scope) w → now ≡ before ++ n ∷ []
        → Alike (more_numbers now (got (left cs (k + 1)) v)) (more_numbers before (got (left cs k) w)) (run (left cs (k + 1)) v) (run (left cs k) w)
    number_onward n before now found grown =
        record { value = number_more n before now found grown; walked = number_walked n found }

    abbrev nothing : Option Num
    nothing = None

    number_missing : (before : List Num) → nothing ≡ got (number_walk (part c) around scope) w → None ≡ more_numbers before (got (left cs k) w)
    number_missing before found =
        ap (more_numbers before) (sym (got_give None v)
        ∙ (λ j. got (numbers_behind (left cs (k + 1)) (found j)) (was j))
        ∙ sym (got_bind (number_walk (part c) around scope) (numbers_behind (left cs (k + 1))) w)
        ∙ sym (ap (λ (a : Walk (Option (List Num))). got a w) (opened cs k c within is)))

    missing_walked : nothing ≡ got (number_walk (part c) around scope) w → v ≡ run (left cs k) w
    missing_walked found =
        sym (run_give {A = Option (List Num)} None v)
        ∙ (λ j. run (numbers_behind (left cs (k + 1)) (found j)) (was j))
        ∙ sym (run_bind (number_walk (part c) around scope) (numbers_behind (left cs (k + 1))) w)
        ∙ sym (ap (λ (a : Walk (Option (List Num))). run a w) (opened cs k c within is))

    pub number_stop : (before : List Num) → nothing ≡ got (number_walk (part c) around scope) w
        → Alike None (more_numbers before (got (left cs k) w)) v (run (left cs k) w)
    number_stop before found = record { value = number_missing before found; walked = missing_walked found }

  pub numbers_end : (cs : List Core) (k : ℕ) (before : List Num) (w : Written) → length cs ≤ k → Some before ≡ more_numbers before (got (left cs k) w)
  numbers_end cs k before w past =
      ap (λ (ns : List Num). Some ns) (sym (append-nil before))
      ∙ sym (ap (more_numbers before) (ap (λ (xs : List Core). got (numbers_walk (each_part xs) around scope) w) (all_behind cs k past)
      ∙ got_give (Some []) w))

  pub numbers_walked : (cs : List Core) (k : ℕ) (w : Written) → length cs ≤ k → w ≡ run (left cs k) w
  numbers_walked cs k w past =
      sym (ap (λ (xs : List Core). run (numbers_walk (each_part xs) around scope) w) (all_behind cs k past)
      ∙ run_give {A = Option (List Num)} (Some []) w)
