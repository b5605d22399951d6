-- How many notes of what is made, or of what is called, are of the node of one number that takes so many operands; and how many of the numbers that its
-- value gives, or that the names of one of its arms give.
use Rattle.std.specs.Prelude.{ℕ, nat_eq, nat_lt, Bool, true, false, not, ◌&&◌, ◌+◌, List, [], ◌∷◌, length, Option, Some, None, is_none, is_some}
use Rattle.sail_core.specs.declared.tree.Giver.{Giver}
use Rattle.sail_core.specs.declared.tree.Giver.TheVariants as Gives
use Rattle.value_indices.specs.declared.indices.Indices.{Indices, out-Indices}
use Rattle.value_indices.specs.declared.indices.Indices.TheOpen as W
use Rattle.value_indices.specs.declared.indices.Indices.TheOpen.{Indices-F}
use Rattle.value_indices.specs.declared.indices.Reading.{Reading}
use Rattle.value_indices.specs.Steps.{Note, call_note, given_note, made_note}

abbrev pub bit : Bool → ℕ
bit true = 1
bit false = 0

-- which notes are counted: of calls, or of what is made, at this number, of so many operands; or of the numbers that are given there, by the value or by
-- this arm
pub record Counted : Type 0 where
  pub gives : Bool
  pub arm : Option ℕ
  pub calls : Bool
  pub number : ℕ
  pub operands : ℕ

abbrev pub is_of : Counted → ℕ → List Indices → Bool
is_of q k is = nat_eq k q.number && nat_eq (length is) q.operands

abbrev pub is_arm : Option ℕ → ℕ → Bool
is_arm None n = false
is_arm (Some m) n = nat_eq n m

abbrev pub is_giver : Counted → Giver → Bool
is_giver q (Gives.Node k) = is_none q.arm && nat_eq k q.number
is_giver q (Gives.Arm k n) = is_arm q.arm n && nat_eq k q.number

-- a value of a named type gives none, as one that is caught, and one that doesn't exist
abbrev pub form_may_give : Indices-F Indices Reading → Bool
form_may_give W.Never = false
form_may_give (W.Named u is rs) = false
form_may_give form = true

abbrev pub may_give : Indices → Bool
may_give i = form_may_give (out-Indices i)

-- what a note counts
abbrev pub weigh : Counted → Note → ℕ
weigh q (made_note facts k is m) = bit (not q.gives && (not q.calls && is_of q k is))
weigh q (call_note facts place k is callee js qs) = bit (not q.gives && (q.calls && is_of q k is))
weigh q (given_note facts g i) = bit (q.gives && (is_giver q g && may_give i))
weigh q x = 0

-- what notes weigh together
abbrev pub mass : (Note → ℕ) → List Note → ℕ
mass weight [] = 0
mass weight (x ∷ xs) = weight x + mass weight xs

-- whether a node is of the number, and how often it is among numbers
abbrev pub own : Counted → ℕ → ℕ
own q k = bit (nat_eq k q.number)

-- of what is made or called there, and of what is given
abbrev pub making : Counted → ℕ → ℕ
making q k = bit (not q.gives && nat_eq k q.number)

abbrev pub giving : Counted → ℕ → ℕ
giving q k = bit (q.gives && (is_none q.arm && nat_eq k q.number))

-- by an arm behind which so many stand, by one of so many last arms, and by any
abbrev pub arming : Counted → ℕ → ℕ → ℕ
arming q k n = bit (q.gives && (is_arm q.arm n && nat_eq k q.number))

abbrev pub is_below : Option ℕ → ℕ → Bool
is_below None n = false
is_below (Some m) n = nat_lt m n

abbrev pub last_arms : Counted → ℕ → ℕ → ℕ
last_arms q k n = bit (q.gives && (is_below q.arm n && nat_eq k q.number))

abbrev pub armed : Counted → ℕ → ℕ
armed q k = bit (q.gives && (is_some q.arm && nat_eq k q.number))

abbrev pub times : Counted → List ℕ → ℕ
times q [] = 0
times q (k ∷ ks) = own q k + times q ks
