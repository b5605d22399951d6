-- Assignments seen from outside of a binder.
use Rattle.std.specs.Prelude.{ℕ, ◌+◌, nat_lt, if◌then◌else◌}
use Rattle.sail_types.specs.Before.{beyond_of}
use Rattle.sail_types.specs.Numbers.{Assignment}
use Rattle.type_arguments.specs.Moved.{moved_num}

-- a variable's number inside a binder at that depth
abbrev pub from_inside : ℕ → ℕ → ℕ
from_inside depth i = if nat_lt i depth then i else i + 1

-- what the variables outside a binder stand for, by what those inside it do
abbrev pub outside : ℕ → Assignment → Assignment
outside depth nu = record {
  int = λ i. nu.int (from_inside depth i);
  bool = λ i. nu.bool (from_inside depth i);
  beyond = λ t. beyond_of nu (moved_num depth t);
}
