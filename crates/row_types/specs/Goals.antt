-- The table of builtins read under the numbers that arguments have in types: what a call owes there.
use Rattle.std.specs.Prelude.{unwrap_or, false, List}
use Rattle.sail_types.specs.Before.{beyond_of}
use Rattle.sail_types.specs.Numbers.{Assignment, number, true_in}
use Rattle.sail_types.specs.Readings.{read_con, truth_at}
use Rattle.sail_types.specs.Sums.{number_at, substituted}
use Rattle.sail_types.specs.declared.numbers.Con.{Con}
use Rattle.sail_types.specs.declared.numbers.Con.TheVariants as C
use Rattle.sail_types.specs.declared.numbers.Index.{Index}

-- what a call owes, where the variables of its row stand for these; `false` where a number past the largest integer
-- stands on the way
abbrev pub owed : List Con → List Index → Con
owed conditions indices = unwrap_or (read_con indices (C.All conditions)) (C.Truth false)

-- the assignment to a row's variables under which it is read: each is what it stands for, and a power of two past the
-- largest integer the number of what it becomes
abbrev pub read_under : List Index → Assignment → Assignment
read_under indices nu = record {
  int = λ i. number nu (number_at indices i);
  bool = λ i. true_in nu (truth_at indices i);
  beyond = λ t. beyond_of nu (substituted (number_at indices) t);
}
