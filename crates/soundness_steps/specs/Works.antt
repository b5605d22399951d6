-- What a definition is at work for, and what is known around a piece of it.
use Rattle.std.specs.Prelude.{◌≡◌, ℕ, Bool, true, List, [], Option}
use Rattle.sail_types.specs.Belongs.{Reading as Closed}
use Rattle.sail_types.specs.Numbers.{Positive}
use Rattle.sail_types.specs.declared.numbers.Index.{Index}
use Rattle.sail_core.specs.Numbers.{Instance}
use Rattle.size_values.specs.declared.sized.Sized.{Sized}
use Rattle.value_indices.specs.declared.indices.Reading.{Reading}
use Rattle.pattern_leaves.specs.Settings.{Around}
use Rattle.checked_meaning.specs.Checked.{Cases}
use Rattle.checked_meaning.specs.Items.{Item}

-- a function for the numbers of an instance, and its Type variables: as sized types, and as types to which values belong
pub record Work : Type 0 where
  pub function : ℕ
  pub instance : Instance
  pub own : List Sized
  pub types : List Closed

-- a body of no function has no variables of its own
abbrev pub nobody : Work
nobody = record { function = 0; instance = record { place = 0; numbers = [] }; own = []; types = [] }

-- the functions at work and the directions of mappings that instances cover; whether they cover the types that values carry, else any type will do; and
-- whether they take it that values of a function's own Type variables have the sizes of its instance
pub record Coverage : Type 0 where
  pub function : Work → Bool
  pub direction : ℕ → Bool
  pub exact : Bool
  pub fitted : Bool

-- what stays the same in all runs of a model by a hart: what the walk knows of the model, the integer that powers past the largest are taken for,
-- the hart, and what is covered
pub record Setting : Type 0 where
  pub around : Around
  pub past : Positive
  pub hart : ℕ
  pub covered : Coverage

-- where the types that values carry are those of their indices
abbrev pub IsExact : Setting → Type 0
IsExact set = set.covered.exact ≡ true

-- and where values of Type variables have sizes
abbrev pub IsFitted : Setting → Type 0
IsFitted set = set.covered.fitted ≡ true

-- a name in scope: one that a pattern binds keeps its item; a `var` keeps a type, the numbers of which are those of the moment at which it was
-- declared
pub data Kept : Type 0 where
  is_value : List ℕ → Item → Kept
  is_var : List ℕ → Closed → Kept

-- what is known around a piece: the function at work, what the walk has for its variables and for the type of its result, the cases of its nodes,
-- the directions of mappings that patterns may go through, the type of what it returns, whether a piece may say No, and the names in scope, the newest
-- first
pub record Scene : Type 0 where
  pub set : Setting
  pub work : Work
  pub numbers : List Index
  pub result : Option Reading
  pub cases : Cases
  pub reached : ℕ → Bool
  pub answer : Option Closed
  pub may_fall : Bool
  pub names : List Kept

-- the model, as the walk knows it there
abbrev pub here : Scene → Around
here q = record q.set.around { numbers = q.numbers; answer = q.result }
