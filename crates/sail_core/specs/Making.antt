-- What one text of the core's meaning leaves open: what stands for a value while a function is at work, and what is done where a node
-- makes one. The meaning of the core is the plain reading, in which a value stands for itself and nothing is done.
use Rattle.std.specs.Prelude.{ℕ, ℤ, Bool, true, List, None}
use Rattle.sail_base.specs.declared.place.Place.{Place}
use Rattle.sail_types.specs.declared.types.Typ.{Typ}
use Rattle.sail_types.specs.declared.types.Typ.TheVariants as T
use Rattle.sail_types.specs.declared.values.Value.{Value}
use Rattle.sail_types.specs.declared.values.Value.TheVariants as V
use Rattle.sail_core.specs.declared.tree.Giver.{Giver}
use Rattle.sail_core.specs.declared.tree.Giver.TheVariants as Gives
use Rattle.sail_core.specs.Run.{Now, Run, gives, stuck, needs, if_so, ◌then◌}
use Rattle.sail_core.specs.Values.{int_typ, integer_in, truth_in, natural_of}
use Rattle.sail_core.specs.Numbers.{Givens, Awaited}

-- how a part stands in its whole
pub data Part : Type 0 where
  -- a part of a tuple
  component : ℕ → Part
  -- the payload of a union's constructor
  payload : ℕ → ℕ → Part
  -- an item of a vector or a list
  one_item : Part
  -- a list without its first item
  without_first : Part

-- a reading of the core
pub record Making (X : Type 0) : Type 0 where
  -- the value, and those of several
  pub val : X → Value
  pub all : List X → List Value
  -- whether it is of this type, which has no variable; and a value as one of such a type
  pub is : Typ → X → Bool
  pub fixed : Typ → Value → X
  -- a part of something
  pub part : Part → X → Value → X
  -- what the node of this number makes of its operands: this value; and the numbers of opened variables that a value gives, as that of a node, or as
  -- those of an arm's names
  pub make : ℕ → List X → Value → Run X X
  pub note : Giver → Value → Run X (Unit {0})
  -- the instance of a function that the node of this number calls
  pub calls : ℕ → List X → Run X Awaited
  -- a piece behind which nothing is opened that it opened; and a moment at which only that is opened which was at an earlier one
  pub inside : Run X X → Run X X
  pub back : Now X → Now X → Now X

abbrev pub plainly : Making Value
plainly = record {
  val = λ v. v;
  all = λ vs. vs;
  is = λ t v. true;
  fixed = λ t v. v;
  part = λ p whole v. v;
  make = λ k operands v. gives v;
  note = λ k v. gives tt;
  calls = λ k operands. gives None;
  inside = λ piece. piece;
  back = λ before now. now;
}

-- what a node asks of the model around it
pub record World (X : Type 0) : Type 0 where
  -- the hart at work
  pub hart : ℕ
  -- what the type variables of the function at work stand for, and what it was called with
  pub numbers : Givens
  pub arguments : List X
  -- the values of the names that top-level lets bound
  pub lets : List Value
  -- a call of a function at a place, of this instance; and a direction of a mapping that a call enters, of which its tick is no
  -- part: it says No where no clause fits
  pub call : Place → ℕ → Awaited → List Value → Run X Value
  pub enter : ℕ → Value → Run X Value
  -- a direction of a mapping in a pattern
  pub way : ℕ → X → Run X X

-- the end of a node that makes a value
abbrev pub made : {X : Type 0} → Making X → ℕ → List X → Value → Run X X
made z k operands v = z.make k operands v then λ x. z.note (Gives.Node k) v then λ t. gives x

-- `()`
abbrev pub nothing : {X : Type 0} → Making X → X
nothing z = z.fixed T.Unit V.Unit

-- an integer, a truth, a number that isn't negative; stuck where it is none
abbrev pub integer : {X : Type 0} → Making X → X → Run X ℤ
integer z x = if_so (needs (integer_in (z.val x))) stuck (z.is int_typ x)

abbrev pub truth : {X : Type 0} → Making X → X → Run X Bool
truth z x = if_so (needs (truth_in (z.val x))) stuck (z.is T.Bool x)

abbrev pub natural : {X : Type 0} → Making X → X → Run X ℕ
natural z x = integer z x then λ i. needs (natural_of i)
