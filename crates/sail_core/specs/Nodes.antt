-- Nodes, and the numbers of a definition's nodes.
use Rattle.std.specs.Prelude.{◌≢◌, ℕ, nat_eq, Bool, false, ◌&&◌, List, [], ◌∷◌, ◌++◌, map, Option, Some, None}
use Rattle.sail_base.specs.declared.place.Place.{Place}
use Rattle.sail_core.specs.declared.targets.Suffix.{Suffix}
use Rattle.sail_core.specs.declared.targets.Caller.{Caller}
use Rattle.sail_core.specs.declared.targets.TargetKind.{TargetKind}
use Rattle.sail_core.specs.declared.targets.TargetKind.TheVariants as T
use Rattle.sail_core.specs.declared.targets.Target.{Target, fold-Target}
use Rattle.sail_core.specs.declared.tree.Giver.{Giver}
use Rattle.sail_core.specs.declared.tree.Giver.TheVariants as Gives
use Rattle.sail_core.specs.declared.tree.Kind.{Kind}
use Rattle.sail_core.specs.declared.tree.Kind.TheVariants as K
use Rattle.sail_core.specs.declared.tree.Core.{Core, fold-Core, roll-Core}

abbrev pub node : Place → ℕ → Kind → List Core → Core
node place number kind parts = roll-Core (record { place = place; number = number; kind = kind; parts = parts })

-- ---- the numbers of nodes: each has one, and so have suffixes, targets and the calls that targets make

abbrev pub joined : {A : Type 0} → List (List A) → List A
joined [] = []
joined (xs ∷ more) = xs ++ joined more

abbrev pub caller_numbers : Option Caller → List ℕ
caller_numbers None = []
caller_numbers (Some caller) = caller.number ∷ []

abbrev pub suffix_numbers : List Suffix → List ℕ
suffix_numbers suffixes = map (λ s. s.number) suffixes

abbrev pub target_kind_numbers : TargetKind → List ℕ
target_kind_numbers (T.Call n reader writer) = caller_numbers reader ++ caller_numbers (Some writer)
target_kind_numbers (T.Part suffixes) = suffix_numbers suffixes
target_kind_numbers kind = []

abbrev pub target_numbers : Target → List ℕ
target_numbers = fold-Target (List ℕ) (λ t. t.number ∷ target_kind_numbers t.kind ++ joined t.parts)

abbrev pub kind_numbers : Kind → List ℕ
kind_numbers (K.Part suffixes) = suffix_numbers suffixes
kind_numbers (K.Assign targets) = joined (map target_numbers targets)
kind_numbers kind = []

-- a node's own, those in its kind, and then those of its parts
abbrev pub numbers : Core → List ℕ
numbers = fold-Core (List ℕ) (λ c. c.number ∷ kind_numbers c.kind ++ joined c.parts)

-- an item that differs from all of these
abbrev pub is_new : ℕ → List ℕ → Type 0
is_new n [] = Unit {0}
is_new n (m ∷ ms) = (n ≢ m) × is_new n ms

-- no number stands twice
abbrev pub AllDiffer : List ℕ → Type 0
AllDiffer [] = Unit {0}
AllDiffer (n ∷ ns) = is_new n ns × AllDiffer ns

-- ---- what gives numbers

abbrev pub giver_eq : Giver → Giver → Bool
giver_eq (Gives.Node k) (Gives.Node j) = nat_eq k j
giver_eq (Gives.Arm k n) (Gives.Arm j m) = nat_eq k j && nat_eq n m
giver_eq g h = false

-- the same tree with other numbers
abbrev pub renumbered : (ℕ → ℕ) → Core → Core
renumbered f = fold-Core Core (λ c. node c.place (f c.number) c.kind c.parts)
