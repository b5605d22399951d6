-- What is in force, by what it tells of the combinations at a place, as the code keeps it.
use Rattle.std.specs.Prelude.{ℕ, pos, Bool, true, false, ◌&&◌, ◌||◌, List, map, Option, Some, None, if◌then◌else◌}
use Rattle.std.specs.List.{list_all, list_any}
use Rattle.sail_types.specs.declared.numbers.Con.{Con, Con-F, fold-Con}
use Rattle.sail_types.specs.declared.numbers.Con.TheOpen as E
use Rattle.sail_types.specs.declared.numbers.Con.TheVariants as Cons
use Rattle.sail_types.specs.declared.numbers.Num.{Num}
use Rattle.value_indices.specs.Walking.{Written}
use Rattle.value_indices.specs.declared.notes.Fact.{Fact}
use Rattle.value_indices.specs.declared.notes.Fact.TheVariants as Y
use Rattle.value_indices.specs.declared.notes.Step.{Step}
use Rattle.value_indices.specs.declared.notes.Step.TheVariants as S
use Rattle.size_values.specs.declared.constants.Constant.{Constant}
use Rattle.size_values.specs.declared.constants.Picked.{Picked}
use Rattle.size_values.specs.Numbers.{Known, first_free, known_at, with_picked}
use Rattle.size_splits.specs.Splits.{names_it, picked}

-- ---- a fact tells nothing, where it names no split variable, but one that isn't known: it has no truth under any combination

-- any number for each variable that is split
abbrev pub any_number : ℕ → Picked
any_number v = picked v (pos 0)

abbrev pub with_split : Known → List ℕ → ℕ → Constant
with_split k vs = known_at (with_picked k (map any_number vs))

abbrev pub is_none : Option ℕ → Bool
is_none None = true
is_none (Some v) = false

abbrev pub is_constant : (ℕ → Constant) → Num → Bool
is_constant of t = is_none (first_free of t)

abbrev pub form_constant : (ℕ → Constant) → Con-F Bool → Bool
form_constant of (E.Truth b) = true
form_constant of (E.Holds p) = false
form_constant of (E.Compare how t u) = is_constant of t && is_constant of u
form_constant of (E.OneOf t zs) = is_constant of t
form_constant of (E.Not b) = b
form_constant of (E.All bs) = list_all (λ b. b) bs
form_constant of (E.Any bs) = list_all (λ b. b) bs

-- whether each variable of a condition is constant
abbrev pub all_constant : (ℕ → Constant) → Con → Bool
all_constant of = fold-Con Bool (form_constant of)

abbrev pub names_one : List ℕ → Con → Bool
names_one vs c = list_any (λ v. names_it v c) vs

-- one that tells nothing counts as true
abbrev pub told_condition : Known → List ℕ → Con → Con
told_condition k vs c = if all_constant (with_split k vs) c || names_one vs c then c else Cons.Truth true

abbrev pub told : Known → List ℕ → Fact → Fact
told k vs (Y.Holds c) = Y.Holds (told_condition k vs c)
told k vs (Y.IsGiven v) = Y.IsGiven v

abbrev pub telling : Known → List ℕ → List Fact → List Fact
telling k vs = map (told k vs)

-- ---- what is written down, by what it tells

abbrev pub told_in : Known → List ℕ → Written → Written
told_in k vs w = record w { facts = map (told k vs) w.facts; remembered = map (map (told k vs)) w.remembered }

-- a step that brings something into force, by what that tells
abbrev pub told_step : Known → List ℕ → Step → Option Step
told_step k vs (S.Assumes fact) = Some (S.Assumes (told k vs fact))
told_step k vs (S.Claims c) = Some (S.Claims (told_condition k vs c))
told_step k vs step = None
