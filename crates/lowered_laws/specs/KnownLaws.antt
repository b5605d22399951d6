-- What a module that is made of a core knows: numbers of an instance, its reading, and the types at which arguments come in.
use Rattle.std.specs.Prelude.{◌≡◌, ℕ, ℤ, Bool, true, false, List, [], ◌∷◌, map, slice_get, Option, Some, option_map}
use Rattle.sail_types.specs.Places.{an_int}
use Rattle.sail_types.specs.Sums.{and_then}
use Rattle.sail_types.specs.declared.numbers.Con.{Con}
use Rattle.sail_types.specs.declared.numbers.Num.{Num}
use Rattle.sail_types.specs.declared.table.Types.{Types}
use Rattle.sail_types.specs.declared.values.Value.{Value}
use Rattle.sail_core.specs.Numbers.{Givens, all_agree, known, known_truth}
use Rattle.sail_core.specs.declared.model.CoreModel.{CoreModel}
use Rattle.size_values.specs.Numbers.{known_at, known_of, truth_of, value_of}
use Rattle.size_values.specs.declared.sized.Sized.{Sized}
use Rattle.checked_meaning.specs.Fits.{has_sizes}
use Rattle.checked_meaning.specs.Items.{Item, items_of, typs, vals}
use Rattle.sized_nodes.specs.declared.trees.SizedCore.{SizedCore}
use Rattle.sized_nodes.specs.declared.trees.SizedInstance.{SizedInstance}
use Rattle.sized_nodes.specs.declared.trees.Told.{Told}
use Rattle.sized_meanings.specs.Sized.{all_told, cases_by, checks_by, entering, joined_nodes, numbers_of}
use Rattle.lowered_pieces.specs.Nodes.{all_plain, told_as}

-- a number that is known under the numbers of an instance is that number under those of a call of it
abbrev pub SizesKnown : Type 0
SizesKnown = (zs : List (Option ℤ)) (nu : Givens) → all_agree (map (option_map an_int) zs) nu ≡ true → (t : Num) (z : ℤ)
    → value_of (known_at (known_of zs)) t ≡ Some z → known nu t ≡ Some z

-- and a constraint whose truth is known under them is as true there
abbrev pub TruthsKnown : Type 0
TruthsKnown = (zs : List (Option ℤ)) (nu : Givens) → all_agree (map (option_map an_int) zs) nu ≡ true → (c : Con) (b : Bool)
    → truth_of (known_at (known_of zs)) c ≡ Some b → known_truth nu c ≡ Some b

-- an instance is read at its place, where its numbers are awaited
pub record IsRead (given : Bool) (m : CoreModel) (c : SizedCore) (p : ℕ) (s : SizedInstance) (nu : Givens) : Type 0 where
  pub cases : (checks_by given m c).function s.instance.function p nu ≡ cases_by given m.types c.instances (joined_nodes s.bodies)
  pub enters : (vs : List Value) → (checks_by given m c).enters s.instance.function p nu vs ≡ and_then s.signature (entering given m.types vs)

abbrev pub InstancesRead : Type 0
InstancesRead = (given : Bool) (m : CoreModel) (c : SizedCore) (p : ℕ) (s : SizedInstance) (nu : Givens) → slice_get c.instances p ≡ Some s
    → all_agree (numbers_of s.instance) nu ≡ true → IsRead given m c p s nu

-- arguments that come in at types that pick no numbers
abbrev pub AllHave : Types → List Item → Type 0
AllHave types [] = Unit {0}
AllHave types (x ∷ xs) = (has_sizes types x.val x.typ ≡ true) × AllHave types xs

pub record AreTold (types : Types) (ts : List Told) (vs : List Value) (xs : List Item) : Type 0 where
  pub values : vals xs ≡ vs
  pub types_are : typs xs ≡ map told_as ts
  pub had : AllHave types xs

abbrev pub ArgumentsTold : Type 0
ArgumentsTold = (types : Types) (ts : List Told) → all_plain ts ≡ true → (vs : List Value) (xs : List Item)
    → and_then (all_told false types ts vs) (λ ss. items_of ss vs) ≡ Some xs → AreTold types ts vs xs
