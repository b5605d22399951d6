-- The checked meaning of the core: a second reading of its text, in which a value carries the type at which it was made, and a node is stuck
-- where its operands or its value aren't of its case (Sail language manual, "Type variables").
use Rattle.std.specs.Prelude.{ℕ, ℤ, true, List, Option, Some, None, option_map}
use Rattle.sail_types.specs.Sums.{and_then}
use Rattle.sail_types.specs.declared.table.Types.{Types}
use Rattle.sail_types.specs.declared.values.Value.{Value}
use Rattle.size_values.specs.declared.sized.Sized.{Sized}
use Rattle.sail_core.specs.declared.tree.Giver.{Giver}
use Rattle.sail_core.specs.Run as R
use Rattle.sail_core.specs.Run.{Run, gives, needs, leaving, ◌then◌}
use Rattle.sail_core.specs.Numbers.{Givens, Instance}
use Rattle.sail_core.specs.Making.{Making}
use Rattle.sail_core.specs.Program.{Sizing}
use Rattle.checked_meaning.specs.Items.{Item, item, vals, typs, items_of, fixed_typ, part_typ}

-- the numbers of opened variables that are noted
abbrev pub Noted : Type 0
Noted = ℕ → Option ℤ

-- the cases of the nodes of a definition, by the numbers of the nodes
pub record Cases : Type 0 where
  -- the type at which a node makes this value of operands of these types; none where they or the value aren't of its case
  pub makes : ℕ → List Sized → Value → Noted → Option Sized
  -- what is noted where this value gives numbers
  pub notes : Giver → Value → Noted → Option Noted
  -- the instance that a node calls on operands of these types
  pub calls : ℕ → List Sized → Noted → Option Instance

abbrev pub noting : Option Noted → Run Item (Unit {0})
noting None now = R.Stuck
noting (Some noted) now = R.Gives tt (record now { opened = noted })

abbrev pub checked : Types → Cases → Making Item
checked types cases = record {
  val = λ x. x.val;
  all = vals;
  is = λ t x. true;
  fixed = λ t v. item (fixed_typ types t) v;
  part = λ p whole v. item (part_typ types p whole.typ) v;
  make = λ k operands v now. (needs (cases.makes k (typs operands) v now.opened) then λ s. gives (item s v)) now;
  note = λ g v now. noting (cases.notes g v now.opened) now;
  calls = λ k operands now. (needs (cases.calls k (typs operands) now.opened) then λ x. gives (Some x)) now;
  inside = λ piece now. leaving (λ after. record after { opened = now.opened }) (piece now);
  back = λ before now. record now { opened = before.opened };
}

-- how each definition of a model is read
pub record Checks : Type 0 where
  pub types : Types
  -- the nodes of a function's instance at a place of the list, for these numbers
  pub function : ℕ → ℕ → Givens → Cases
  -- the types of its parameters, where it may be entered with these arguments
  pub enters : ℕ → ℕ → Givens → List Value → Option (List Sized)
  pub direction : ℕ → Cases
  -- the type of what a direction takes, where it takes this value
  pub takes : ℕ → Value → Option Sized
  pub opening : ℕ → Cases

abbrev pub checking : Checks → Sizing Item
checking c = record {
  function = λ i place nu. checked c.types (c.function i place nu);
  enters = λ i place nu vs. and_then (c.enters i place nu vs) (λ ss. items_of ss vs);
  direction = λ d. checked c.types (c.direction d);
  takes = λ d v. option_map (λ s. item s v) (c.takes d v);
  opening = λ i. checked c.types (c.opening i);
}
