-- `sizeof` and `constraint` go through no mapping.
use Rattle.std.specs.Prelude.{List, Option, [], ◌++◌, ◌∷◌}
use Rattle.sail_base.specs.declared.place.Place.{Place}
use Rattle.sail_types.specs.Readings.{read_con}
use Rattle.sail_types.specs.Sums.{read}
use Rattle.sail_types.specs.declared.numbers.Con.{Con}
use Rattle.sail_types.specs.declared.numbers.Num.{Num}
use Rattle.sail_core.specs.declared.written.WrittenNumber.{WrittenNumber}
use Rattle.pattern_leaves.specs.Settings.{Around}
use Rattle.expression_forms.specs.Sizes.{sized_integer, size_walk, side_owed, sides_owed, constraint_walk, size_owed, through, truth_owed}
use Rattle.note_laws.specs.Ways.{Told}
use Rattle.note_laws.proofs.Goes.{Goes, give_goes, bind_goes, owe_goes}
use Rattle.note_laws.proofs.LeafGoes.{exponents_owed_goes}
use Rattle.note_laws.proofs.OpeningGoes.{number_or_fresh_goes, truth_or_fresh_goes}

module _ (told : Told) where
  pub sized_integer_goes : (t : Option Num) → Goes told (sized_integer t)
  sized_integer_goes t = bind_goes told _ _ (number_or_fresh_goes told t) (λ n. give_goes told _)

  pub size_walk_goes : (place : Place) (t : Num) (numbers : List WrittenNumber) (around : Around) → Goes told (size_walk place t numbers around)
  size_walk_goes place t numbers around =
      bind_goes told _ _ (exponents_owed_goes told around numbers)
      (λ x. bind_goes told _ _ (owe_goes told place (through around.numbers numbers t ++ size_owed around.numbers t))
      (λ y. sized_integer_goes (read around.numbers t)))

  pub sides_owed_goes : (around : Around) (ns : List WrittenNumber) → Goes told (sides_owed around ns)
  sides_owed_goes around [] = give_goes told _
  sides_owed_goes around (n ∷ ns) = bind_goes told _ _ (owe_goes told n.place (side_owed around n n.role)) (λ t. sides_owed_goes around ns)

  pub constraint_walk_goes : (place : Place) (c : Con) (numbers : List WrittenNumber) (around : Around) → Goes told (constraint_walk place c numbers around)
  constraint_walk_goes place c numbers around =
      bind_goes told _ _ (sides_owed_goes around numbers)
      (λ t. bind_goes told _ _ (owe_goes told place (truth_owed around.numbers numbers c))
      (λ x. bind_goes told _ _ (truth_or_fresh_goes told (read_con around.numbers c)) (λ d. give_goes told _)))
